-- What the walk tells of statements is told by where they start and by what they do.
use Rattle.std.proofs.Common.{◌≡◌, ℕ, suc, ◌+◌, List, [], ◌∷◌, ◌++◌, length, map, Some, None, arith, refl, sym, ap, ap₂, ◌∙◌, subst}
use Rattle.std.proofs.lemmas.List.{length-append}
use Rattle.c_tree.specs.declared.expr.Expr.{Expr}
use Rattle.c_tree.specs.declared.program.Function.{Function}
use Rattle.c_tree.specs.declared.program.Program.{Program}
use Rattle.c_tree.specs.declared.statement.Statement.{Statement, ind-Statement, roll-Statement, map-Statement, fold-roll-Statement}
use Rattle.c_tree.specs.declared.statement.Statement.TheOpen.{Statement-F, Arm-F}
use Rattle.c_tree.specs.declared.statement.Arm.{Arm, roll-Arm, map-Arm, fold-Arm, fold-roll-Arm}
use Rattle.c_tree.specs.Numbered.{Starts, start, all as all_starts, starts_step, arm_starts, starts, body_starts, function_starts}
use Rattle.c_tree.proofs.NumberedLemmas.{starts_of_arm}
use Rattle.c_language.specs.Code.{Tests}
use Rattle.dep_model.specs.Doings.{Doing, Does, joined, doing_step, doing_arm, doings, body_doings, functions_doings}
use Rattle.dep_model.proofs.DoingForms.{arm_doings}
use Rattle.graph_text.specs.declared.rows.Row.{Row}
use Rattle.graph_text.specs.RowWalk.{all, row_step, arm_rows, statement_rows, body_rows, function_rows}
use Rattle.graph_text.specs.Rows.{plain, rows_in}

module _ (p : Program) where
  -- rows that are told by starts and doings, of which there are as many
  record Tell (rs : List Row) (ss : Starts) (ds : List Doing) : Type 0 where
    rows_are : rs ≡ rows_in p ss ds
    even : length ss ≡ length ds

  nothing : Tell [] [] []
  nothing = record { rows_are = refl; even = refl }

  in_append : (a b : Starts) (c d : List Doing) → length a ≡ length c → rows_in p (a ++ b) (c ++ d) ≡ rows_in p a c ++ rows_in p b d
  in_append [] b [] d h = refl
  in_append [] b (x ∷ c) d h = absurd (omega (arith, h))
  in_append (s ∷ a) b [] d h = absurd (omega (arith, h))
  in_append (s ∷ a) b (x ∷ c) d h = ap (λ rs. rows_in p (s ∷ []) (x ∷ []) ++ rs) (in_append a b c d (omega (arith, h)))

  both : {q r : List Row} {a b : Starts} {c d : List Doing} → Tell q a c → Tell r b d → Tell (q ++ r) (a ++ b) (c ++ d)
  both {q} {r} {a} {b} {c} {d} h k = record {
    rows_are = ap₂ (λ (x y : List Row). x ++ y) h.rows_are k.rows_are ∙ sym (in_append a b c d h.even);
    even = length-append a b ∙ ap₂ (λ (x y : ℕ). x + y) h.even k.even ∙ sym (length-append c d);
  }

  -- a statement with a test before what it decides
  tested : {q : List Row} {a : Starts} {c : List Doing} (id l : ℕ) (e : Expr) → Tell q a c → Tell (plain l ∷ q) (start id l ∷ a) (Does id (Tests e) ∷ c)
  tested id l e h = record { rows_are = ap (λ rs. plain l ∷ rs) h.rows_are; even = ap suc h.even }

  -- ---- by layers

  abbrev Of : Statement → Type 0
  Of x = Tell (statement_rows p x) (starts x) (doings x)

  abbrev OfArm : Arm → Type 0
  OfArm a = Tell (fold-Arm (List Row) (List Row) (row_step p) arm_rows a) (starts_of_arm a) (arm_doings a)

  abbrev Parts : Type 0
  Parts = Statement-F ((x : Statement) × Of x) ((a : Arm) × OfArm a)

  abbrev ArmParts : Type 0
  ArmParts = Arm-F ((x : Statement) × Of x) ((a : Arm) × OfArm a)

  abbrev layer : Parts → Statement-F Statement Arm
  layer = map-Statement ((x : Statement) × Of x) ((a : Arm) × OfArm a) Statement Arm (λ x. x.0) (λ a. a.0)

  abbrev arm_layer : ArmParts → Arm-F Statement Arm
  arm_layer = map-Arm ((x : Statement) × Of x) ((a : Arm) × OfArm a) Statement Arm (λ x. x.0) (λ a. a.0)

  abbrev firsts : List ((x : Statement) × Of x) → List Statement
  firsts = map (λ (y : (x : Statement) × Of x). y.0)

  abbrev arm_firsts : List ((a : Arm) × OfArm a) → List Arm
  arm_firsts = map (λ (y : (a : Arm) × OfArm a). y.0)

  list_tells : (b : List ((x : Statement) × Of x)) → Tell (all (map (statement_rows p) (firsts b))) (all_starts (map starts (firsts b))) (joined (map doings (firsts b)))
  list_tells [] = nothing
  list_tells (x ∷ b) = both x.1 (list_tells b)

  arms_tell : (b : List ((a : Arm) × OfArm a)) → Tell (all (map (fold-Arm (List Row) (List Row) (row_step p) arm_rows) (arm_firsts b))) (all_starts (map starts_of_arm (arm_firsts b))) (joined (map arm_doings (arm_firsts b)))
  arms_tell [] = nothing
  arms_tell (a ∷ b) = both a.1 (arms_tell b)

  abbrev rows_of_layer : Statement-F Statement Arm → List Row
  rows_of_layer y = row_step p (map-Statement Statement Arm (List Row) (List Row) (statement_rows p) (fold-Arm (List Row) (List Row) (row_step p) arm_rows) y)

  abbrev starts_of_layer : Statement-F Statement Arm → Starts
  starts_of_layer y = starts_step (map-Statement Statement Arm Starts Starts starts starts_of_arm y)

  abbrev doings_of_layer : Statement-F Statement Arm → List Doing
  doings_of_layer y = doing_step (map-Statement Statement Arm (List Doing) (List Doing) doings arm_doings y)

  abbrev LayerTells : Statement-F Statement Arm → Type 0
  LayerTells y = Tell (rows_of_layer y) (starts_of_layer y) (doings_of_layer y)

  of_layer : (y : Parts) → LayerTells (layer y)
  of_layer (Statement-F.Declare None l v i) = nothing
  of_layer (Statement-F.Declare (Some id) l v i) = record { rows_are = refl; even = refl }
  of_layer (Statement-F.Assign id l a op b) = record { rows_are = refl; even = refl }
  of_layer (Statement-F.Bump id l a up before) = record { rows_are = refl; even = refl }
  of_layer (Statement-F.Invoke id l to f args) = record { rows_are = refl; even = refl }
  of_layer (Statement-F.Fetch id l to) = record { rows_are = refl; even = refl }
  of_layer (Statement-F.Write id l a) = record { rows_are = refl; even = refl }
  of_layer (Statement-F.Print id l format args) = record { rows_are = refl; even = refl }
  of_layer (Statement-F.Heap id l to cast n) = record { rows_are = refl; even = refl }
  of_layer (Statement-F.Release id l a) = record { rows_are = refl; even = refl }
  of_layer (Statement-F.If id l e a b) = tested id l e (both (list_tells a) (list_tells b))
  of_layer (Statement-F.While id l e b) = tested id l e (list_tells b)
  of_layer (Statement-F.Do id l e b) = tested id l e (list_tells b)
  of_layer (Statement-F.For id l None e None b) = tested id l e (list_tells b)
  of_layer (Statement-F.For id l (Some i) e None b) = tested id l e (both i.1 (list_tells b))
  of_layer (Statement-F.For id l None e (Some s) b) = tested id l e (both s.1 (list_tells b))
  of_layer (Statement-F.For id l (Some i) e (Some s) b) = tested id l e (both i.1 (both s.1 (list_tells b)))
  of_layer (Statement-F.Switch id l e arms) = tested id l e (arms_tell arms)
  of_layer (Statement-F.Block l b) = list_tells b
  of_layer (Statement-F.Return id l a) = record { rows_are = refl; even = refl }

  same : {q r : List Row} {a b : Starts} {c d : List Doing} → q ≡ r → a ≡ b → c ≡ d → Tell r b d → Tell q a c
  same {q} {r} {a} {b} {c} {d} is start_is does h = record {
    rows_are = is ∙ h.rows_are ∙ sym (ap₂ (rows_in p) start_is does);
    even = ap length start_is ∙ h.even ∙ sym (ap length does);
  }

  rolled : (y : Statement-F Statement Arm) → LayerTells y → Of (roll-Statement y)
  rolled y h =
      same (fold-roll-Statement (List Row) (List Row) (row_step p) arm_rows y) (fold-roll-Statement Starts Starts starts_step arm_starts y) (fold-roll-Statement (List Doing) (List Doing) doing_step doing_arm y) h

  rolled_arm : (y : ArmParts) → OfArm (roll-Arm (arm_layer y))
  rolled_arm y =
      same (fold-roll-Arm (List Row) (List Row) (row_step p) arm_rows (arm_layer y)) (fold-roll-Arm Starts Starts starts_step arm_starts (arm_layer y)) (fold-roll-Arm (List Doing) (List Doing) doing_step doing_arm (arm_layer y)) (list_tells y.body)

  of_statement : (x : Statement) → Of x
  of_statement =
      ind-Statement Of OfArm (λ x y is. subst (λ z. Of (roll-Statement z)) is (rolled (layer y) (of_layer y))) (λ x y is. subst (λ z. OfArm (roll-Arm z)) is (rolled_arm y))

  of_body : (xs : List Statement) → Tell (body_rows p xs) (body_starts xs) (body_doings xs)
  of_body [] = nothing
  of_body (x ∷ xs) = both (of_statement x) (of_body xs)

  of_functions : (fs : List Function) → Tell (function_rows p fs) (function_starts fs) (functions_doings fs)
  of_functions [] = nothing
  of_functions (f ∷ fs) = both (of_body f.body) (of_functions fs)

  -- what the walk over all functions tells
  pub walked_is_told : (fs : List Function) → function_rows p fs ≡ rows_in p (function_starts fs) (functions_doings fs)
  walked_is_told fs = (of_functions fs).rows_are

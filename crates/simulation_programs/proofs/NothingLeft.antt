-- Nothing is left of a statement of which nothing stays.
use Rattle.std.proofs.Common.{◌≡◌, ℕ, List, [], ◌∷◌, ◌++◌, map, Some, None, Bool, false, ◌||◌, refl, sym, ap, ◌∙◌, ap₂}
use Rattle.std.proofs.lemmas.Bool.{or_parts}
use Rattle.c_tree.specs.declared.program.Program.{Program}
use Rattle.c_tree.specs.declared.statement.Arm.{Arm}
use Rattle.c_tree.specs.declared.statement.Statement.{Statement, roll-Statement, map-Statement, fold-roll-Statement}
use Rattle.c_tree.specs.declared.statement.Statement.TheOpen.{Statement-F}
use Rattle.c_tree.specs.declared.statement.Target.{Target}
use Rattle.c_tree.specs.declared.statement.Target.TheVariants as target
use Rattle.c_tree.proofs.Trees.{StatementParts, statement_layer, of_every_statement}
use Rattle.projection.specs.Kept.{Kept}
use Rattle.projection.specs.Projection.{if_so, first_statement, projected_step, projected_arm_step}
use Rattle.projection.specs.Projection as Projection
use Rattle.projection_laws.specs.Staying as Staying
use Rattle.projection_laws.specs.Staying.{Rest, any_stays, rest_step, rest_arm, rest, arm_rest}
use Rattle.own_words.proofs.Forms.{left, all_left, step_left}
use Rattle.own_words.proofs.Words.{numbers}
use Rattle.c_scope_laws.proofs.TreeLevels.{unchosen}

-- the subjects of facts
abbrev pub subjects : {A : Type 0} {Q : A → Type 0} → List ((x : A) × Q x) → List A
subjects ys = map (λ y. y.0) ys

module _ (p : Program) (k : Kept ℕ) where
  abbrev keeps : ℕ → Bool
  keeps = k.statement

  abbrev vars : ℕ → Bool
  vars = k.variable

  abbrev pub rested : Statement → Rest
  rested = rest keeps vars

  abbrev pub arm_rested : Arm → Rest
  arm_rested = arm_rest keeps vars

  abbrev pub layer_rest : Statement-F Statement Arm → Rest
  layer_rest z = rest_step keeps vars (map-Statement Statement Arm Rest Rest rested arm_rested z)

  pub rest-roll : (z : Statement-F Statement Arm) → rested (roll-Statement z) ≡ layer_rest z
  rest-roll z = fold-roll-Statement Rest Rest (rest_step keeps vars) (rest_arm keeps vars) z

  pub left-roll : (z : Statement-F Statement Arm) → left p k (roll-Statement z) ≡ step_left p k z
  left-roll z = fold-roll-Statement (List Statement) Arm (projected_step k (numbers p k)) (projected_arm_step k (numbers p k)) z

  abbrev Leaves : Statement → Type 0
  Leaves x = (rested x).stays ≡ false → left p k x ≡ []

  abbrev LeavesArm : Arm → Type 0
  LeavesArm a = Unit {0}

  all_leave : (ys : List ((x : Statement) × Leaves x)) → any_stays (map rested (subjects ys)) ≡ false → all_left p k (subjects ys) ≡ []
  all_leave [] h = refl
  all_leave (y ∷ ys) h = let both = or_parts (rested y.0).stays (any_stays (map rested (subjects ys))) h in ap₂ (λ xs zs. xs ++ zs) (y.1 both.0) (all_leave ys both.1)

  leaves_either : (b c : Bool) (xs ys : List Statement) → (b || c) ≡ false → if_so b xs (if_so c ys []) ≡ []
  leaves_either b c xs ys h = let both = or_parts b c h in unchosen xs (if_so c ys []) both.0 ∙ unchosen ys [] both.1

  leaves_given : (b : Bool) (l : ℕ) (to : Target) (xs : List Statement) → (b || Staying.target_stays keeps vars to) ≡ false → if_so b xs (Projection.bare_target k (numbers p k) l to) ≡ []
  leaves_given b l target.None xs h = unchosen xs [] (or_parts b false h).0
  leaves_given b l (target.Place a) xs h = unchosen xs [] (or_parts b false h).0
  leaves_given b l (target.Declared x) xs h = leaves_either b (vars x) xs _ h

  leaves_layer : (y : StatementParts Leaves LeavesArm) → (layer_rest (statement_layer Leaves LeavesArm y)).stays ≡ false → step_left p k (statement_layer Leaves LeavesArm y) ≡ []
  leaves_layer (Statement-F.Declare None l x i) h = unchosen _ [] h
  leaves_layer (Statement-F.Declare (Some id) l x i) h = leaves_either (keeps id) (vars x) _ _ h
  leaves_layer (Statement-F.Assign id l a op b) h = unchosen _ [] h
  leaves_layer (Statement-F.Bump id l a up before) h = unchosen _ [] h
  leaves_layer (Statement-F.Invoke id l to f args) h = leaves_given (keeps id) l to _ h
  leaves_layer (Statement-F.Fetch id l to) h = leaves_given (keeps id) l to _ h
  leaves_layer (Statement-F.Write id l a) h = unchosen _ [] h
  leaves_layer (Statement-F.Print id l format args) h = unchosen _ [] h
  leaves_layer (Statement-F.Heap id l to cast n) h = leaves_given (keeps id) l to _ h
  leaves_layer (Statement-F.Release id l a) h = unchosen _ [] h
  leaves_layer (Statement-F.If id l e a b) h = unchosen _ [] h
  leaves_layer (Statement-F.While id l e b) h = unchosen _ [] h
  leaves_layer (Statement-F.Do id l e b) h = unchosen _ [] h
  leaves_layer (Statement-F.For id l None e step b) h = unchosen _ [] (or_parts (keeps id) false h).0
  leaves_layer (Statement-F.For id l (Some i) e step b) h =
      let both = or_parts (keeps id) (rested i.0).stays h in unchosen _ _ both.0 ∙ ap (λ xs. Projection.alone l (first_statement xs)) (i.1 both.1)
  leaves_layer (Statement-F.Switch id l e arms) h = unchosen _ [] h
  leaves_layer (Statement-F.Block l b) h = ap (Projection.block_of l) (all_leave b h)
  leaves_layer (Statement-F.Return id l a) h = unchosen _ [] h

  leaves_roll : (z : Statement-F Statement Arm) → ((layer_rest z).stays ≡ false → step_left p k z ≡ []) → Leaves (roll-Statement z)
  leaves_roll z h stay = left-roll z ∙ h (sym (ap (λ (r : Rest). r.stays) (rest-roll z)) ∙ stay)

  -- nothing is left of a statement of which nothing stays
  pub nothing_left : (x : Statement) → (rest keeps vars x).stays ≡ false → left p k x ≡ []
  nothing_left = of_every_statement Leaves LeavesArm (λ y. leaves_roll (statement_layer Leaves LeavesArm y) (leaves_layer y)) (λ y. tt)

  pub none_left : (xs : List Statement) → any_stays (map rested xs) ≡ false → all_left p k xs ≡ []
  none_left [] h = refl
  none_left (x ∷ xs) h =
      let both = or_parts (rested x).stays (any_stays (map rested xs)) h in ap₂ (λ ys zs. ys ++ zs) (nothing_left x both.0) (none_left xs both.1)

-- A statement of a text beside its tree, form by form: where it stands, its phrases, and the scope after it. What holds of all that a text has beside its tree is shown by a recursion on this.
use Rattle.std.proofs.Common.{◌≡◌, ℕ, Bool, false, List, [], ◌∷◌, ◌++◌, map, Option, Some, None, option_map, sym, ap, subst, ◌∙◌}
use Rattle.std.specs.Prelude.{bytes_eq, codes, option_and_then}
use Rattle.c_arith.specs.declared.int_type.IntType.{IntType}
use Rattle.c_arith.specs.declared.operators.BinaryOp.{BinaryOp}
use Rattle.c_tree.specs.declared.expr.Expr.{Expr}
use Rattle.c_tree.specs.declared.program.Init.{Init}
use Rattle.c_tree.specs.declared.types.CType.{CType}
use Rattle.c_tree.specs.declared.raw.expr.RawExpr.{RawExpr}
use Rattle.c_tree.specs.declared.raw.expr.RawVar.{RawVar}
use Rattle.c_tree.specs.declared.raw.program.RawInit.{RawInit}
use Rattle.c_tree.specs.declared.raw.program.RawProgram.{RawProgram}
use Rattle.c_tree.specs.declared.raw.statement.RawAmount.{RawAmount}
use Rattle.c_tree.specs.declared.raw.statement.RawArg.{RawArg}
use Rattle.c_tree.specs.declared.raw.statement.RawArm.{RawArm, fold_out-RawArm}
use Rattle.c_tree.specs.declared.raw.statement.RawLabel.{RawLabel}
use Rattle.c_tree.specs.declared.raw.statement.RawStatement.{RawStatement, roll-RawStatement}
use Rattle.c_tree.specs.declared.raw.statement.RawStatement.TheOpen.{RawStatement-F}
use Rattle.c_tree.specs.declared.raw.statement.RawStatement.TheVariants as text
use Rattle.c_tree.specs.declared.raw.statement.RawTarget.{RawTarget}
use Rattle.c_tree.specs.declared.raw.statement.RawTypeName.{RawTypeName}
use Rattle.c_tree.specs.declared.statement.Amount.{Amount}
use Rattle.c_tree.specs.declared.statement.Arm.{Arm}
use Rattle.c_tree.specs.declared.statement.Label.{Label}
use Rattle.c_tree.specs.declared.statement.Statement.{Statement}
use Rattle.c_tree.specs.declared.statement.Statement.TheVariants as s
use Rattle.c_tree.specs.declared.statement.Target.{Target}
use Rattle.c_tree.proofs.RawTrees.{StatementParts, statement_layer, of_every_statement}
use Rattle.c_language.specs.Words.{Bytes}
use Rattle.c_language.specs.CallRules.{format_in, later_args}
use Rattle.c_language.specs.ConstantEvaluation.{both}
use Rattle.c_language.specs.DeclaredTypes.{function_id}
use Rattle.c_language.specs.Phrases.{Stand, InFor, InBlock, InArm, Assigns, Bumps, Calls, Allocates, Tests, Switches, Returns, Phrases, phrase, declaration, target_phrases, joined_at, at_stand, ArmText, labels_of, phrases_of_arms, scoped_step, scoped_arm, scoped, scoped_of_arm, body_phrases, after_body}
use Rattle.c_language.specs.ProgramOf.{collected, optional, ctype_if, expr_of, init_of, declaration_id, target_tree, args_tree, only_tree, print_tree, invoke_tree, call_tree, amount_tree, label_tree, arm_tree, ArmTree, arm_tree_step, block_tree, at_type, switch_type, part_tree, treed_step, treed, treed_arm, body_of}
use Rattle.c_language.specs.Scopes.{Scope, Scoped, opened, closed, numbered, with_variable, with_target, begun, in_order, after_all, after_block, part_gives, after_part}
use Rattle.c_language.specs.TypeGrammar.{named_type}
use Rattle.c_language.specs.Uses.{is_library_function}
use Rattle.c_language.proofs.Lists.{same_bytes}
use Rattle.c_language.proofs.Options.{some_same, optional_there, map_there, then_there, both_there, more_there}
use Rattle.c_language.proofs.PhraseLists.{body_in_order, body_after}
use Rattle.c_language.proofs.ScopedForms.{scoped-Declare, scoped-Assign, scoped-Bump, scoped-Call, scoped-Heap, scoped-If, scoped-While, scoped-Do, scoped-Switch, scoped-Block, scoped-Return, scoped-For}
use Rattle.c_language.proofs.Tests.{by_test, none_of}
use Rattle.c_language.proofs.TreedForms.{treed-Declare, treed-Assign, treed-Bump, treed-Call, treed-Heap, treed-If, treed-While, treed-Do, treed-Switch, treed-Block, treed-Return, treed-For}
use Rattle.c_language.proofs.TreeScopes.{after_same, list_after, block_after_same, part_after}
use Rattle.dep_model.proofs.TextNumbers.{for_some}

-- a call of a text, with its scope behind its target and its number, beside its tree
pub data CallTreed (raw : RawProgram) (scope : Scope) (n l : ℕ) (to : Option Target) (f : Bytes) (args : List RawArg) : Statement → Type 0 where
  fetched : {t : Target} → f ≡ codes "getchar" → to ≡ Some t → CallTreed raw scope n l to f args (s.Fetch n l t)
  written : {x : Expr} → f ≡ codes "putchar" → only_tree raw scope args ≡ Some x → CallTreed raw scope n l to f args (s.Write n l x)
  printed : {format : Bytes} {xs : List Expr} → f ≡ codes "printf" → format_in args ≡ Some format → args_tree raw scope (later_args args) ≡ Some xs
      → CallTreed raw scope n l to f args (s.Print n l format xs)
  released : {x : Expr} → f ≡ codes "free" → only_tree raw scope args ≡ Some x → CallTreed raw scope n l to f args (s.Release n l x)
  invoked : {t : Target} {g : ℕ} {xs : List Expr} → is_library_function f ≡ false → to ≡ Some t → function_id raw f ≡ Some g → args_tree raw scope args ≡ Some xs
      → CallTreed raw scope n l to f args (s.Invoke n l t g xs)

mutual
  -- a statement at a place of a text, with its phrases, beside its tree, and the scope after it
  pub data Treed (raw : RawProgram) : Stand → Scope → RawStatement → Phrases → Statement → Scope → Type 0 where
    declared : {stand : Stand} {scope : Scope} {l : ℕ} {v : RawVar} {i : RawInit} {n : Init} → init_of raw (with_variable raw v i scope) i ≡ Some n
        → Treed raw stand scope (text.Declare l v i) (declaration raw l scope stand v i) (s.Declare (declaration_id i scope.statements) l scope.variables n) (begun i (with_variable raw v i scope))
    assigned : {stand : Stand} {scope : Scope} {l : ℕ} {left right : RawExpr} {op : Option BinaryOp} {x y : Expr} → expr_of raw scope left ≡ Some x → expr_of raw scope right ≡ Some y
        → Treed raw stand scope (text.Assign l left op right) (phrase l scope (Assigns left op right) ∷ []) (s.Assign scope.statements l x op y) (numbered scope)
    bumped : {stand : Stand} {scope : Scope} {l : ℕ} {left : RawExpr} {up before : Bool} {x : Expr} → expr_of raw scope left ≡ Some x
        → Treed raw stand scope (text.Bump l left up before) (phrase l scope (Bumps left) ∷ []) (s.Bump scope.statements l x up before) (numbered scope)
    called : {stand : Stand} {scope : Scope} {l : ℕ} {to : RawTarget} {f : Bytes} {args : List RawArg} {y : Statement}
        → CallTreed raw (with_target raw to scope) scope.statements l (target_tree raw scope to) f args y
        → Treed raw stand scope (text.Call l to f args) (target_phrases raw l scope stand to ++ (phrase l (with_target raw to scope) (Calls stand to f args) ∷ [])) y (numbered (with_target raw to scope))
    allocated : {stand : Stand} {scope : Scope} {l : ℕ} {to : RawTarget} {cast : Option RawTypeName} {n : RawAmount} {t : Target} {c : Option CType} {k : Amount}
        → target_tree raw scope to ≡ Some t → ctype_if raw (option_map named_type cast) ≡ Some c → amount_tree raw (with_target raw to scope) n ≡ Some k
        → Treed raw stand scope (text.Heap l to cast n) (target_phrases raw l scope stand to ++ (phrase l (with_target raw to scope) (Allocates to cast n) ∷ []))
        (s.Heap scope.statements l t c k) (numbered (with_target raw to scope))
    chosen : {stand : Stand} {scope after last : Scope} {l : ℕ} {test : RawExpr} {a b : List RawStatement} {ps qs : Phrases} {x : Expr} {xs ys : List Statement}
        → expr_of raw scope test ≡ Some x → AreTreed raw InBlock (opened (numbered scope)) a ps xs after
        → AreTreed raw InBlock (opened (closed (numbered scope) after)) b qs ys last
        → Treed raw stand scope (text.If l test a b) (phrase l scope (Tests test) ∷ (ps ++ qs)) (s.If scope.statements l x xs ys) (closed (closed (numbered scope) after) last)
    repeated : {stand : Stand} {scope after : Scope} {l : ℕ} {test : RawExpr} {b : List RawStatement} {ps : Phrases} {x : Expr} {xs : List Statement}
        → expr_of raw scope test ≡ Some x → AreTreed raw InBlock (opened (numbered scope)) b ps xs after
        → Treed raw stand scope (text.While l test b) (phrase l scope (Tests test) ∷ ps) (s.While scope.statements l x xs) (closed (numbered scope) after)
    done_first : {stand : Stand} {scope after : Scope} {l : ℕ} {test : RawExpr} {b : List RawStatement} {ps : Phrases} {x : Expr} {xs : List Statement}
        → expr_of raw scope test ≡ Some x → AreTreed raw InBlock (opened (numbered scope)) b ps xs after
        → Treed raw stand scope (text.Do l test b) (phrase l scope (Tests test) ∷ ps) (s.Do scope.statements l x xs) (closed (numbered scope) after)
    looped : {stand : Stand} {scope first second last : Scope} {l : ℕ} {i step : Option RawStatement} {test : RawExpr} {b : List RawStatement} {ps qs rs : Phrases}
        {x z : Option Statement} {y : Expr} {ys : List Statement}
        → PartTreed raw InFor (opened (numbered scope)) i ps x first → expr_of raw first test ≡ Some y → PartTreed raw InBlock first step qs z second
        → AreTreed raw InBlock (opened second) b rs ys last
        → Treed raw stand scope (text.For l i test step b) (ps ++ (phrase l first (Tests test) ∷ (qs ++ rs))) (s.For scope.statements l x y z ys) (closed scope (closed second last))
    switched : {stand : Stand} {scope after : Scope} {l : ℕ} {test : RawExpr} {arms : List RawArm} {labels : List RawLabel} {ps : Phrases} {x : Expr} {t : IntType} {ys : List Arm}
        → expr_of raw scope test ≡ Some x → switch_type raw scope test ≡ Some t → ArmsTreed raw t (opened (numbered scope)) arms labels ps ys after
        → Treed raw stand scope (text.Switch l test arms) (phrase l scope (Switches test labels) ∷ ps) (s.Switch scope.statements l x ys) (closed (numbered scope) after)
    enclosed : {stand : Stand} {scope after : Scope} {l : ℕ} {b : List RawStatement} {ps : Phrases} {xs : List Statement}
        → AreTreed raw InBlock (opened scope) b ps xs after → Treed raw stand scope (text.Block l b) ps (s.Block l xs) (closed scope after)
    returned : {stand : Stand} {scope : Scope} {l : ℕ} {a : Option RawExpr} {v : Option Expr} → optional (option_map (expr_of raw scope) a) ≡ Some v
        → Treed raw stand scope (text.Return l a) (phrase l scope (Returns a) ∷ []) (s.Return scope.statements l v) (numbered scope)

  -- statements one after another
  pub data AreTreed (raw : RawProgram) : Stand → Scope → List RawStatement → Phrases → List Statement → Scope → Type 0 where
    none : {stand : Stand} {scope : Scope} → AreTreed raw stand scope [] [] [] scope
    more : {stand : Stand} {scope middle after : Scope} {x : RawStatement} {xs : List RawStatement} {ps qs : Phrases} {y : Statement} {ys : List Statement}
        → Treed raw stand scope x ps y middle → AreTreed raw stand middle xs qs ys after → AreTreed raw stand scope (x ∷ xs) (ps ++ qs) (y ∷ ys) after

  -- a part of a for
  pub data PartTreed (raw : RawProgram) : Stand → Scope → Option RawStatement → Phrases → Option Statement → Scope → Type 0 where
    absent : {stand : Stand} {scope : Scope} → PartTreed raw stand scope None [] None scope
    present : {stand : Stand} {scope after : Scope} {x : RawStatement} {ps : Phrases} {y : Statement}
        → Treed raw stand scope x ps y after → PartTreed raw stand scope (Some x) ps (Some y) after

  -- the arms of a switch over the type, with all their labels
  pub data ArmsTreed (raw : RawProgram) : IntType → Scope → List RawArm → List RawLabel → Phrases → List Arm → Scope → Type 0 where
    no_arm : {t : IntType} {scope : Scope} → ArmsTreed raw t scope [] [] [] [] scope
    arm : {t : IntType} {scope middle after : Scope} {a : RawArm} {arms : List RawArm} {others : List RawLabel} {ps qs : Phrases} {labels : List Label} {xs : List Statement} {ys : List Arm}
        → collected (map (label_tree raw scope t) a.labels) ≡ Some labels → AreTreed raw InArm scope a.body ps xs middle → ArmsTreed raw t middle arms others qs ys after
        → ArmsTreed raw t scope (a ∷ arms) (a.labels ++ others) (ps ++ qs) (arm_tree labels xs ∷ ys) after

-- ---- a call

module _ (raw : RawProgram) (scope : Scope) (n l : ℕ) (to : Option Target) (f : Bytes) (args : List RawArg) (y : Statement) where
  print_treed : f ≡ codes "printf" → print_tree raw scope n l args ≡ Some y → CallTreed raw scope n l to f args y
  print_treed is e =
      let a = then_there (λ (w : Bytes). option_map (s.Print n l w) (args_tree raw scope (later_args args))) (format_in args) y e in
      let b = map_there (s.Print n l a.value) (args_tree raw scope (later_args args)) y a.same in
      subst (CallTreed raw scope n l to f args) b.same (printed is a.there b.there)

  invoke_treed : is_library_function f ≡ false → invoke_tree raw scope n l to f args ≡ Some y → CallTreed raw scope n l to f args y
  invoke_treed own e =
      let a = then_there (λ (t : Target). both (s.Invoke n l t) (function_id raw f) (args_tree raw scope args)) to y e in
      let b = both_there (s.Invoke n l a.value) (function_id raw f) (args_tree raw scope args) y a.same in
      subst (CallTreed raw scope n l to f args) b.same (invoked own a.there b.left_there b.right_there)

  call_treed : call_tree raw scope n l to f args ≡ Some y → CallTreed raw scope n l to f args y
  call_treed e =
      by_test (bytes_eq f (codes "getchar")) e
      (λ is h. let m = map_there (s.Fetch n l) to y h in subst (CallTreed raw scope n l to f args) m.same (fetched (same_bytes f _ is) m.there))
      (λ n1 e1. by_test (bytes_eq f (codes "putchar")) e1
      (λ is h. let m = map_there (s.Write n l) (only_tree raw scope args) y h in subst (CallTreed raw scope n l to f args) m.same (written (same_bytes f _ is) m.there))
      (λ n2 e2. by_test (bytes_eq f (codes "printf")) e2
      (λ is h. print_treed (same_bytes f _ is) h)
      (λ n3 e3. by_test (bytes_eq f (codes "free")) e3
      (λ is h. let m = map_there (s.Release n l) (only_tree raw scope args) y h in subst (CallTreed raw scope n l to f args) m.same (released (same_bytes f _ is) m.there))
      (λ n4 e4. invoke_treed (none_of _ _ _ _ n1 n2 n3 n4) e4))))

-- ---- from the tree of a text

module _ (raw : RawProgram) where
  abbrev Known : RawStatement → Type 0
  Known x = (stand : Stand) (scope : Scope) (y : Statement) → (treed raw x).gives scope ≡ Some y
      → Treed raw stand scope x ((scoped raw x).gives scope stand) y ((scoped raw x).after scope)

  abbrev AreKnown : List RawStatement → Type 0
  AreKnown xs = (stand : Stand) (scope : Scope) (ys : List Statement) → collected (in_order (map (treed raw) xs) scope) ≡ Some ys
      → AreTreed raw stand scope xs (joined_at stand (in_order (map (scoped raw) xs) scope)) ys (after_all (map (scoped raw) xs) scope)

  abbrev ArmKnown : RawArm → Type 0
  ArmKnown a = AreKnown a.body

  none_known : AreKnown []
  none_known stand scope ys e = subst (λ zs. AreTreed raw stand scope [] [] zs scope) (some_same e) none

  more_known : (x : RawStatement) (xs : List RawStatement) → Known x → AreKnown xs → AreKnown (x ∷ xs)
  more_known x xs first rest stand scope ys e =
      let m = more_there ((treed raw x).gives scope) (in_order (map (treed raw) xs) ((treed raw x).after scope)) ys e in
      let later : collected (in_order (map (treed raw) xs) ((scoped raw x).after scope)) ≡ Some m.rest =
      ap (λ z. collected (in_order (map (treed raw) xs) z)) (sym (after_same raw x scope)) ∙ m.rest_there in
      subst (λ zs. AreTreed raw stand scope (x ∷ xs) (joined_at stand (in_order (map (scoped raw) (x ∷ xs)) scope)) zs (after_all (map (scoped raw) (x ∷ xs)) scope)) m.same
      (more (first stand scope m.first m.first_there) (rest stand ((scoped raw x).after scope) m.rest later))

  abbrev bare : List ((x : RawStatement) × Known x) → List RawStatement
  bare = map (λ (k : (x : RawStatement) × Known x). k.0)

  abbrev bare_arms : List ((a : RawArm) × ArmKnown a) → List RawArm
  bare_arms = map (λ (k : (a : RawArm) × ArmKnown a). k.0)

  all_known : (ks : List ((x : RawStatement) × Known x)) → AreKnown (bare ks)
  all_known [] = none_known
  all_known (k ∷ ks) = more_known k.0 (bare ks) k.1 (all_known ks)

  -- ---- parts of a for

  abbrev Part : Type 0
  Part = Option ((x : RawStatement) × Known x)

  abbrev bare_part : Part → Option RawStatement
  bare_part None = None
  bare_part (Some k) = Some k.0

  part_known : (o : Part) (stand : Stand) (scope : Scope) (y : Option Statement) → part_tree (option_map (treed raw) (bare_part o)) scope ≡ Some y
      → PartTreed raw stand scope (bare_part o) (at_stand stand (part_gives (option_map (scoped raw) (bare_part o)) scope)) y (after_part (option_map (scoped raw) (bare_part o)) scope)
  part_known None stand scope y e = subst (λ z. PartTreed raw stand scope None [] z scope) (some_same e) absent
  part_known (Some k) stand scope y e =
      let m = optional_there ((treed raw k.0).gives scope) y e in
      subst (λ z. PartTreed raw stand scope (Some k.0) ((scoped raw k.0).gives scope stand) z ((scoped raw k.0).after scope)) m.1.1 (present (k.1 stand scope m.0 m.1.0))

  -- ---- arms

  to_arms : {t : IntType} {scope after : Scope} {arms : List RawArm} {labels : List RawLabel} {ps : Phrases} {ys zs : List Arm} → ys ≡ zs
      → ArmsTreed raw t scope arms labels ps ys after → ArmsTreed raw t scope arms labels ps zs after
  to_arms {t} {scope} {after} {arms} {labels} {ps} is h = subst (λ ws. ArmsTreed raw t scope arms labels ps ws after) is h

  abbrev ArmsKnown : List RawArm → Type 0
  ArmsKnown arms = (t : IntType) (scope : Scope) (ys : List Arm) → at_type t (in_order (map (treed_arm raw) arms) scope) ≡ Some ys
      → ArmsTreed raw t scope arms (labels_of (in_order (map (scoped_of_arm raw) arms) scope)) (phrases_of_arms (in_order (map (scoped_of_arm raw) arms) scope)) ys
      (after_all (map (scoped_of_arm raw) arms) scope)

  more_arms : (a : RawArm) (arms : List RawArm) → ArmKnown a → ArmsKnown arms → ArmsKnown (a ∷ arms)
  more_arms a arms known rest t scope ys e = subst Whole (sym (fold_out-RawArm (Scoped (Stand → Phrases)) (Scoped ArmText) (scoped_step raw) scoped_arm a)) from_parts
    where
      Whole : Scoped ArmText → Type 0
      Whole w = ArmsTreed raw t scope (a ∷ arms) ((w.gives scope).labels ++ labels_of (in_order (map (scoped_of_arm raw) arms) (w.after scope)))
          ((w.gives scope).phrases ++ phrases_of_arms (in_order (map (scoped_of_arm raw) arms) (w.after scope))) ys (after_all (map (scoped_of_arm raw) arms) (w.after scope))

      own : Scoped ArmTree
      own = arm_tree_step raw (record { labels = a.labels; body = map (treed raw) a.body })

      trees_from : Scoped ArmTree → List ArmTree
      trees_from w = w.gives scope ∷ in_order (map (treed_arm raw) arms) (w.after scope)

      from_parts : Whole (scoped_arm (record { labels = a.labels; body = map (scoped raw) a.body }))
      from_parts =
          let next = after_all (map (scoped raw) a.body) scope in
          let is : treed_arm raw a ≡ own = fold_out-RawArm (Scoped (Option Statement)) (Scoped ArmTree) (treed_step raw) (arm_tree_step raw) a in
          let all : at_type t (trees_from own) ≡ Some ys = ap (λ w. at_type t (trees_from w)) (sym is) ∙ e in
          let m = more_there (own.gives scope t) (map (λ (w : ArmTree). w t) (in_order (map (treed_arm raw) arms) (own.after scope))) ys all in
          let z = both_there arm_tree (collected (map (label_tree raw scope t) a.labels)) (collected (in_order (map (treed raw) a.body) scope)) m.first m.first_there in
          let later : at_type t (in_order (map (treed_arm raw) arms) next) ≡ Some m.rest = ap (λ w. at_type t (in_order (map (treed_arm raw) arms) w)) (sym (list_after raw a.body scope)) ∙ m.rest_there in
          to_arms (ap (λ w. w ∷ m.rest) z.same ∙ m.same) (arm z.left_there (known InArm scope z.right z.right_there) (rest t next m.rest later))

  arms_known : (ks : List ((a : RawArm) × ArmKnown a)) → ArmsKnown (bare_arms ks)
  arms_known [] t scope ys e = to_arms (some_same e) no_arm
  arms_known (k ∷ ks) t scope ys e = more_arms k.0 (bare_arms ks) k.1 (arms_known ks) t scope ys e

  -- ---- each form

  to_tree : {stand : Stand} {scope after : Scope} {x : RawStatement} {ps : Phrases} {y z : Statement} → y ≡ z → Treed raw stand scope x ps y after → Treed raw stand scope x ps z after
  to_tree {stand} {scope} {after} {x} {ps} is h = subst (λ w. Treed raw stand scope x ps w after) is h

  known_by : (x : RawStatement) (t : Scoped (Option Statement)) (w : Scoped (Stand → Phrases)) → treed raw x ≡ t → scoped raw x ≡ w
      → ((stand : Stand) (scope : Scope) (y : Statement) → t.gives scope ≡ Some y → Treed raw stand scope x (w.gives scope stand) y (w.after scope)) → Known x
  known_by x t w is reads h stand scope y e =
      subst (λ (z : Scoped (Stand → Phrases)). Treed raw stand scope x (z.gives scope stand) y (z.after scope)) (sym reads)
      (h stand scope y (sym (ap (λ (z : Scoped (Option Statement)). z.gives scope) is) ∙ e))

  if_known : (l : ℕ) (test : RawExpr) (a b : List RawStatement) → AreKnown a → AreKnown b → Known (text.If l test a b)
  if_known l test a b ha hb = known_by (text.If l test a b) _ _ (treed-If raw l test a b) (scoped-If raw l test a b) (λ stand scope y e.
      let n = scope.statements in
      let middle = after_block (map (scoped raw) a) (numbered scope) in
      let t = then_there (λ (z : Expr). both (s.If n l z) (block_tree (map (treed raw) a) (numbered scope)) (block_tree (map (treed raw) b) (after_block (map (treed raw) a) (numbered scope)))) (expr_of raw scope test) y e in
      let k = both_there (s.If n l t.value) (block_tree (map (treed raw) a) (numbered scope)) (block_tree (map (treed raw) b) (after_block (map (treed raw) a) (numbered scope))) y t.same in
      let other : block_tree (map (treed raw) b) middle ≡ Some k.right = ap (block_tree (map (treed raw) b)) (sym (block_after_same raw a (numbered scope))) ∙ k.right_there in
      to_tree k.same (chosen t.there (ha InBlock (opened (numbered scope)) k.left k.left_there) (hb InBlock (opened middle) k.right other)))

  while_known : (l : ℕ) (test : RawExpr) (b : List RawStatement) → AreKnown b → Known (text.While l test b)
  while_known l test b hb = known_by (text.While l test b) _ _ (treed-While raw l test b) (scoped-While raw l test b) (λ stand scope y e.
      let k = both_there (s.While scope.statements l) (expr_of raw scope test) (block_tree (map (treed raw) b) (numbered scope)) y e in
      to_tree k.same (repeated k.left_there (hb InBlock (opened (numbered scope)) k.right k.right_there)))

  do_known : (l : ℕ) (test : RawExpr) (b : List RawStatement) → AreKnown b → Known (text.Do l test b)
  do_known l test b hb = known_by (text.Do l test b) _ _ (treed-Do raw l test b) (scoped-Do raw l test b) (λ stand scope y e.
      let k = both_there (s.Do scope.statements l) (expr_of raw scope test) (block_tree (map (treed raw) b) (numbered scope)) y e in
      to_tree k.same (done_first k.left_there (hb InBlock (opened (numbered scope)) k.right k.right_there)))

  for_known : (l : ℕ) (i : Part) (test : RawExpr) (step : Part) (b : List RawStatement) → AreKnown b → Known (text.For l (bare_part i) test (bare_part step) b)
  for_known l i test step b hb = known_by (text.For l (bare_part i) test (bare_part step) b) _ _ (treed-For raw l (bare_part i) test (bare_part step) b) (scoped-For raw l (bare_part i) test (bare_part step) b) (λ stand scope y e.
      let start = opened (numbered scope) in
      let first = after_part (option_map (scoped raw) (bare_part i)) start in
      let second = after_part (option_map (scoped raw) (bare_part step)) first in
      let m = for_some scope.statements l _ _ _ _ y e in
      let same_first = part_after raw (bare_part i) start in
      let same_second = ap (after_part (option_map (treed raw) (bare_part step))) same_first ∙ part_after raw (bare_part step) first in
      let tests : expr_of raw first test ≡ Some m.1 = ap (λ z. expr_of raw z test) (sym same_first) ∙ m.5 in
      let steps : part_tree (option_map (treed raw) (bare_part step)) first ≡ Some m.2 = ap (part_tree (option_map (treed raw) (bare_part step))) (sym same_first) ∙ m.6 in
      let body : block_tree (map (treed raw) b) second ≡ Some m.3 = ap (block_tree (map (treed raw) b)) (sym same_second) ∙ m.7 in
      to_tree (sym m.8)
      (looped (part_known i InFor start m.0 m.4) tests (part_known step InBlock first m.2 steps) (hb InBlock (opened second) m.3 body)))

  switch_known : (l : ℕ) (test : RawExpr) (arms : List ((a : RawArm) × ArmKnown a)) → Known (text.Switch l test (bare_arms arms))
  switch_known l test arms = known_by (text.Switch l test (bare_arms arms)) _ _ (treed-Switch raw l test (bare_arms arms)) (scoped-Switch raw l test (bare_arms arms)) (λ stand scope y e.
      let n = scope.statements in
      let inside = in_order (map (treed_arm raw) (bare_arms arms)) (opened (numbered scope)) in
      let t = then_there (λ (z : Expr). option_and_then (λ (k : IntType). option_map (s.Switch n l z) (at_type k inside)) (switch_type raw scope test)) (expr_of raw scope test) y e in
      let u = then_there (λ (k : IntType). option_map (s.Switch n l t.value) (at_type k inside)) (switch_type raw scope test) y t.same in
      let k = map_there (s.Switch n l t.value) (at_type u.value inside) y u.same in
      to_tree k.same (switched t.there u.there (arms_known arms u.value (opened (numbered scope)) k.value k.there)))

  layer_known : (y : StatementParts Known ArmKnown) → Known (roll-RawStatement (statement_layer Known ArmKnown y))
  layer_known (RawStatement-F.Declare l v i) = subst Known (sym (text.rolls-Declare l v i)) (known_by (text.Declare l v i) _ _ (treed-Declare raw l v i) (scoped-Declare raw l v i) (λ stand scope y e.
      let m = map_there (s.Declare (declaration_id i scope.statements) l scope.variables) (init_of raw (with_variable raw v i scope) i) y e in
      to_tree m.same (declared m.there)))
  layer_known (RawStatement-F.Assign l left op right) = subst Known (sym (text.rolls-Assign l left op right)) (known_by (text.Assign l left op right) _ _ (treed-Assign raw l left op right) (scoped-Assign raw l left op right) (λ stand scope y e.
      let m = both_there (λ (a b : Expr). s.Assign scope.statements l a op b) (expr_of raw scope left) (expr_of raw scope right) y e in
      to_tree m.same (assigned m.left_there m.right_there)))
  layer_known (RawStatement-F.Bump l left up before) = subst Known (sym (text.rolls-Bump l left up before)) (known_by (text.Bump l left up before) _ _ (treed-Bump raw l left up before) (scoped-Bump raw l left up before) (λ stand scope y e.
      let m = map_there (λ (a : Expr). s.Bump scope.statements l a up before) (expr_of raw scope left) y e in
      to_tree m.same (bumped m.there)))
  layer_known (RawStatement-F.Call l to f args) = subst Known (sym (text.rolls-Call l to f args)) (known_by (text.Call l to f args) _ _ (treed-Call raw l to f args) (scoped-Call raw l to f args) (λ stand scope y e.
      called (call_treed raw (with_target raw to scope) scope.statements l (target_tree raw scope to) f args y e)))
  layer_known (RawStatement-F.Heap l to cast n) = subst Known (sym (text.rolls-Heap l to cast n)) (known_by (text.Heap l to cast n) _ _ (treed-Heap raw l to cast n) (scoped-Heap raw l to cast n) (λ stand scope y e.
      let k = scope.statements in
      let size = amount_tree raw (with_target raw to scope) n in
      let a = then_there (λ (t : Target). option_and_then (λ (c : Option CType). option_map (s.Heap k l t c) size) (ctype_if raw (option_map named_type cast))) (target_tree raw scope to) y e in
      let b = then_there (λ (c : Option CType). option_map (s.Heap k l a.value c) size) (ctype_if raw (option_map named_type cast)) y a.same in
      let m = map_there (s.Heap k l a.value b.value) size y b.same in
      to_tree m.same (allocated a.there b.there m.there)))
  layer_known (RawStatement-F.If l test a b) = subst Known (sym (text.rolls-If l test (bare a) (bare b))) (if_known l test (bare a) (bare b) (all_known a) (all_known b))
  layer_known (RawStatement-F.While l test b) = subst Known (sym (text.rolls-While l test (bare b))) (while_known l test (bare b) (all_known b))
  layer_known (RawStatement-F.Do l test b) = subst Known (sym (text.rolls-Do l test (bare b))) (do_known l test (bare b) (all_known b))
  layer_known (RawStatement-F.For l None test None b) = subst Known (sym (text.rolls-For l None test None (bare b))) (for_known l None test None (bare b) (all_known b))
  layer_known (RawStatement-F.For l None test (Some k) b) = subst Known (sym (text.rolls-For l None test (Some k.0) (bare b))) (for_known l None test (Some k) (bare b) (all_known b))
  layer_known (RawStatement-F.For l (Some i) test None b) = subst Known (sym (text.rolls-For l (Some i.0) test None (bare b))) (for_known l (Some i) test None (bare b) (all_known b))
  layer_known (RawStatement-F.For l (Some i) test (Some k) b) = subst Known (sym (text.rolls-For l (Some i.0) test (Some k.0) (bare b))) (for_known l (Some i) test (Some k) (bare b) (all_known b))
  layer_known (RawStatement-F.Switch l test arms) = subst Known (sym (text.rolls-Switch l test (bare_arms arms))) (switch_known l test arms)
  layer_known (RawStatement-F.Block l b) = subst Known (sym (text.rolls-Block l (bare b))) (known_by (text.Block l (bare b)) _ _ (treed-Block raw l (bare b)) (scoped-Block raw l (bare b)) (λ stand scope y e.
      let m = map_there (s.Block l) (block_tree (map (treed raw) (bare b)) scope) y e in
      to_tree m.same (enclosed (all_known b InBlock (opened scope) m.value m.there))))
  layer_known (RawStatement-F.Return l a) = subst Known (sym (text.rolls-Return l a)) (known_by (text.Return l a) _ _ (treed-Return raw l a) (scoped-Return raw l a) (λ stand scope y e.
      let m = map_there (s.Return scope.statements l) (optional (option_map (expr_of raw scope) a)) y e in
      to_tree m.same (returned m.there)))

  statement_known : (x : RawStatement) → Known x
  statement_known = of_every_statement Known ArmKnown layer_known (λ y. all_known y.body)

  list_known : (xs : List RawStatement) → AreKnown xs
  list_known [] = none_known
  list_known (x ∷ xs) = more_known x xs (statement_known x) (list_known xs)

  -- the body of a function, beside its tree
  pub body_treed : (b : List RawStatement) (scope : Scope) (ys : List Statement) → body_of raw b scope ≡ Some ys → AreTreed raw InBlock scope b (body_phrases raw b scope) ys (after_body raw b scope)
  body_treed b scope ys e =
      subst (λ (q : Phrases). AreTreed raw InBlock scope b q ys (after_body raw b scope)) (sym (body_in_order raw b scope))
      (subst (AreTreed raw InBlock scope b _ ys) (sym (body_after raw b scope)) (list_known b InBlock scope ys e))

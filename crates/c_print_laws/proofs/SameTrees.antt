-- The program of what the layout keeps of a text is that of the text but for lines: statements.
use Rattle.std.proofs.Common.{◌≡◌, ℕ, ◌&&◌, List, [], ◌∷◌, map, Bool, true, false, Option, Some, None, codes, refl, sym, ap, ap₂, ◌∙◌}
use Rattle.std.specs.Prelude.{option_map, option_and_then, if◌then◌else◌, bytes_eq, ℤ}
use Rattle.std.proofs.lemmas.Bool.{and_parts}
use Rattle.c_language.specs.Lists.{all_true}
use Rattle.c_arith.specs.declared.int_type.IntType.{IntType}
use Rattle.c_arith.specs.IntType.{convert, promote}
use Rattle.c_tree.specs.declared.types.CType.{CType}
use Rattle.c_tree.specs.declared.expr.Expr.{Expr}
use Rattle.c_tree.specs.declared.program.Init.TheVariants as begins
use Rattle.c_tree.specs.declared.statement.Target.{Target}
use Rattle.c_tree.specs.declared.statement.Target.TheVariants as to_place
use Rattle.c_tree.specs.declared.statement.Size.{Size}
use Rattle.c_tree.specs.declared.statement.Size.TheVariants as measure
use Rattle.c_tree.specs.declared.statement.Amount.{Amount}
use Rattle.c_tree.specs.declared.statement.Amount.TheVariants as quantity
use Rattle.c_tree.specs.declared.statement.Label.{Label}
use Rattle.c_tree.specs.declared.statement.Label.TheVariants as arm_label
use Rattle.c_tree.specs.declared.statement.Arm.{Arm}
use Rattle.c_tree.specs.declared.statement.Statement.{Statement}
use Rattle.c_tree.specs.declared.statement.Statement.TheVariants as s
use Rattle.c_tree.specs.Unlined.{unlined}
use Rattle.c_tree.proofs.UnlinedLemmas.{unlined-Declare, unlined-Assign, unlined-Bump, unlined-Invoke, unlined-Fetch, unlined-Write, unlined-Print, unlined-Heap, unlined-Release, unlined-If, unlined-While, unlined-Do, unlined-For, unlined-Switch, unlined-Block, unlined-Return, unlined_of_arm-roll, unlined_of_arm}
use Rattle.c_tree.specs.declared.raw.expr.RawExpr.{RawExpr}
use Rattle.c_tree.specs.declared.raw.expr.RawVar.{RawVar}
use Rattle.c_tree.specs.declared.raw.program.RawInit.{RawInit}
use Rattle.c_tree.specs.declared.raw.program.RawInit.TheVariants as init
use Rattle.c_tree.specs.declared.raw.program.RawProgram.{RawProgram}
use Rattle.c_tree.specs.declared.raw.statement.RawTarget.{RawTarget}
use Rattle.c_tree.specs.declared.raw.statement.RawTarget.TheVariants as target
use Rattle.c_tree.specs.declared.raw.statement.RawArg.{RawArg}
use Rattle.c_tree.specs.declared.raw.statement.RawArg.TheVariants as arg
use Rattle.c_tree.specs.declared.raw.statement.RawTypeName.{RawTypeName}
use Rattle.c_tree.specs.declared.raw.statement.RawSize.{RawSize}
use Rattle.c_tree.specs.declared.raw.statement.RawSize.TheVariants as size
use Rattle.c_tree.specs.declared.raw.statement.RawAmount.{RawAmount}
use Rattle.c_tree.specs.declared.raw.statement.RawAmount.TheVariants as amount
use Rattle.c_tree.specs.declared.raw.statement.RawLabel.{RawLabel}
use Rattle.c_tree.specs.declared.raw.statement.RawLabel.TheVariants as label
use Rattle.c_tree.specs.declared.raw.statement.RawStatement.{RawStatement, roll-RawStatement, map-RawStatement, fold-roll-RawStatement}
use Rattle.c_tree.specs.declared.raw.statement.RawStatement.TheOpen.{RawStatement-F}
use Rattle.c_tree.specs.declared.raw.statement.RawArm.{RawArm, roll-RawArm, map-RawArm, fold-roll-RawArm}
use Rattle.c_tree.proofs.RawTrees.{StatementParts, statement_layer, ArmParts, arm_layer, of_every_statement}
use Rattle.c_language.specs.Words.{Bytes}
use Rattle.c_language.specs.TypeGrammar.{named_type}
use Rattle.c_language.specs.ConstantEvaluation.{both, value_of_constant}
use Rattle.c_language.specs.DeclaredTypes.{item_count, function_id}
use Rattle.c_language.specs.Scopes.{Scope, Scoped, with_variable, with_target, opened, closed, numbered, in_order, after_all, after_block, after_part, scope_of_test, scope_of_body}
use Rattle.c_language.specs.ExprTypes.{integer_of}
use Rattle.c_language.specs.declared.expr_type.Operand.{Operand}
use Rattle.c_language.specs.CallRules.{only_arg, later_args, format_in}
use Rattle.c_language.specs.ProgramOf.{collected, optional, ctype_if, expr_of, exprs_of, init_of, declaration_id, target_tree, arg_tree, args_tree, only_tree, print_tree, invoke_tree, call_tree, size_tree, amount_tree, heap_tree, label_tree, arm_tree, ArmTree, arm_tree_step, block_tree, at_type, switch_type, part_tree, for_tree, treed_step, treed, treed_arm}
use Rattle.c_text_layout.specs.Settled.{settled_var, settled}
use Rattle.c_text_layout.proofs.RawStatementLemmas.{settled_arm}
use Rattle.c_text_layout.specs.Declarations.{declares_step, arm_declares, declarations_pass}
use Rattle.c_text_layout.proofs.DeclarationLemmas.{arm_passes}
use Rattle.c_print_laws.proofs.Scoping.{statement_scoped, arm_scoped}
use Rattle.c_language.proofs.Lists.{maps_same}
use Rattle.c_language.proofs.OptionMaps.{map_twice, map_both, map_then, then_pointwise, both_mapped, map_mapped, then_mapped, collected_map}
use Rattle.c_print_laws.proofs.Resembling.{Resembles, function_ids, ctypes_same, operands_same, exprs_same}
use Rattle.c_print_laws.proofs.Settling.{settled_var_agrees}
use Rattle.c_print_laws.proofs.PhraseAgreement.{Fine, kept_layer, settled_layer, settled_arm_layer, variable_same, target_same, statement_agrees, arm_agrees_kept}

-- ---- options

if_mapped : {A B : Type 0} (f : A → B) (b : Bool) (x y z w : Option A) → option_map f x ≡ option_map f z → option_map f y ≡ option_map f w → option_map f (if b then x else y) ≡ option_map f (if b then z else w)
if_mapped f true x y z w h k = h
if_mapped f false x y z w h k = k

-- a statement with line 0
abbrev bare_line : Option Statement → Option Statement
bare_line o = option_map unlined o

abbrev bare_lines : Option (List Statement) → Option (List Statement)
bare_lines o = option_map (map unlined) o

module _ (raw other : RawProgram) (like : Resembles raw other) where
  -- ---- parts that have no lines

  pub expr_lists_same : (scope : Scope) (es : List RawExpr) → exprs_of raw scope es ≡ exprs_of other scope es
  expr_lists_same scope es = ap collected (maps_same (expr_of raw scope) (expr_of other scope) (exprs_same raw other like scope) es)

  pub inits_same : (scope : Scope) (i : RawInit) → init_of raw scope i ≡ init_of other scope i
  inits_same scope init.None = refl
  inits_same scope (init.One a) = ap (option_map begins.One) (exprs_same raw other like scope a)
  inits_same scope (init.Items all) = ap (option_map begins.Items) (expr_lists_same scope all)

  targets_same : (scope : Scope) (to : RawTarget) → target_tree raw scope to ≡ target_tree other scope to
  targets_same scope target.None = refl
  targets_same scope (target.Place a) = ap (option_map to_place.Place) (exprs_same raw other like scope a)
  targets_same scope (target.Declared v) = refl

  arg_same : (scope : Scope) (a : RawArg) → arg_tree raw scope a ≡ arg_tree other scope a
  arg_same scope (arg.Value a) = exprs_same raw other like scope a
  arg_same scope (arg.Literal text) = refl

  args_same : (scope : Scope) (all : List RawArg) → args_tree raw scope all ≡ args_tree other scope all
  args_same scope all = ap collected (maps_same (arg_tree raw scope) (arg_tree other scope) (arg_same scope) all)

  only_same : (scope : Scope) (all : List RawArg) → only_tree raw scope all ≡ only_tree other scope all
  only_same scope all = then_pointwise (expr_of raw scope) (expr_of other scope) (exprs_same raw other like scope) (only_arg all)

  size_same : (scope : Scope) (m : RawSize) → size_tree raw scope m ≡ size_tree other scope m
  size_same scope (size.Type t) = ap (option_map measure.Type) (ctypes_same raw other like 0 (named_type t))
  size_same scope (size.Pointee name closed) = refl

  amount_same : (scope : Scope) (n : RawAmount) → amount_tree raw scope n ≡ amount_tree other scope n
  amount_same scope (amount.Size m) = ap (option_map quantity.Size) (size_same scope m)
  amount_same scope (amount.CountSize a m) =
      ap₂ (λ (x : Option Expr) (y : Option Size). option_and_then (λ (e : Expr). option_map (quantity.CountSize e) y) x) (exprs_same raw other like scope a) (size_same scope m)
  amount_same scope (amount.SizeCount m a) =
      ap₂ (λ (x : Option Size) (y : Option Expr). option_and_then (λ (e : Size). option_map (quantity.SizeCount e) y) x) (size_same scope m) (exprs_same raw other like scope a)
  amount_same scope (amount.Count a) = ap (option_map quantity.Count) (exprs_same raw other like scope a)

  cast_same : (c : Option RawTypeName) → ctype_if raw (option_map named_type c) ≡ ctype_if other (option_map named_type c)
  cast_same None = refl
  cast_same (Some t) = ap (λ (x : Option CType). optional (Some x)) (ctypes_same raw other like 0 (named_type t))

  label_same : (scope : Scope) (t : IntType) (a : RawLabel) → label_tree raw scope t a ≡ label_tree other scope t a
  label_same scope t (label.Case a) =
      ap (option_and_then (λ (x : Expr). option_map (λ (z : ℤ). arm_label.Case x (convert z t)) (value_of_constant a))) (exprs_same raw other like scope a)
  label_same scope t label.Default = refl

  switch_same : (scope : Scope) (a : RawExpr) → switch_type raw scope a ≡ switch_type other scope a
  switch_same scope a = ap (λ (x : Option Operand). option_map promote (option_and_then integer_of (option_map (λ (y : Operand). y.shape) x))) (operands_same raw other like scope a)

  value_same : (scope : Scope) (a : Option RawExpr) → optional (option_map (expr_of raw scope) a) ≡ optional (option_map (expr_of other scope) a)
  value_same scope None = refl
  value_same scope (Some a) = ap (λ (x : Option Expr). optional (Some x)) (exprs_same raw other like scope a)

  -- ---- calls and allocations

  heap_same : (scope : Scope) (n l m : ℕ) (t : Option Target) (cast : Option RawTypeName) (k : RawAmount) → bare_line (heap_tree raw scope n l t cast k) ≡ bare_line (heap_tree other scope n m t cast k)
  heap_same scope n l m t cast k = heap_lines raw l ∙ heap_zero ∙ sym (heap_lines other m)
    where
      heap_lines : (text : RawProgram) (l : ℕ) → bare_line (heap_tree text scope n l t cast k) ≡ heap_tree text scope n 0 t cast k
      heap_lines text l = map_then unlined _ _ (λ x. map_then unlined _ _ (λ c. map_twice unlined (s.Heap n l x c) (s.Heap n 0 x c) (λ y. unlined-Heap n l x c y) (amount_tree text scope k)) (ctype_if text (option_map named_type cast))) t

      heap_zero : heap_tree raw scope n 0 t cast k ≡ heap_tree other scope n 0 t cast k
      heap_zero = ap₂ (λ (c : Option (Option CType)) (y : Option Amount). option_and_then (λ (x : Target). option_and_then (λ (c : Option CType). option_map (s.Heap n 0 x c) y) c) t) (cast_same cast) (amount_same scope k)

  call_same : (scope : Scope) (n l m : ℕ) (t : Option Target) (f : Bytes) (args : List RawArg) → bare_line (call_tree raw scope n l t f args) ≡ bare_line (call_tree other scope n m t f args)
  call_same scope n l m t f args =
      if_mapped unlined (bytes_eq f (codes "getchar")) _ _ _ _ (fetch l ∙ sym (fetch m))
      (if_mapped unlined (bytes_eq f (codes "putchar")) _ _ _ _ (write raw l ∙ ap (option_map (s.Write n 0)) (only_same scope args) ∙ sym (write other m))
      (if_mapped unlined (bytes_eq f (codes "printf")) _ _ _ _ (prints raw l ∙ ap (λ (x : Option (List Expr)). option_and_then (λ (text : Bytes). option_map (s.Print n 0 text) x) (format_in args)) (args_same scope (later_args args)) ∙ sym (prints other m))
      (if_mapped unlined (bytes_eq f (codes "free")) _ _ _ _ (release raw l ∙ ap (option_map (s.Release n 0)) (only_same scope args) ∙ sym (release other m))
      (invoke raw l ∙ ap₂ (λ (x : Option ℕ) (y : Option (List Expr)). option_and_then (λ (t : Target). both (s.Invoke n 0 t) x y) t) (function_ids raw other like f) (args_same scope args) ∙ sym (invoke other m)))))
    where
      fetch : (l : ℕ) → bare_line (option_map (s.Fetch n l) t) ≡ option_map (s.Fetch n 0) t
      fetch l = map_twice unlined (s.Fetch n l) (s.Fetch n 0) (λ x. unlined-Fetch n l x) t

      write : (text : RawProgram) (l : ℕ) → bare_line (option_map (s.Write n l) (only_tree text scope args)) ≡ option_map (s.Write n 0) (only_tree text scope args)
      write text l = map_twice unlined (s.Write n l) (s.Write n 0) (λ x. unlined-Write n l x) (only_tree text scope args)

      release : (text : RawProgram) (l : ℕ) → bare_line (option_map (s.Release n l) (only_tree text scope args)) ≡ option_map (s.Release n 0) (only_tree text scope args)
      release text l = map_twice unlined (s.Release n l) (s.Release n 0) (λ x. unlined-Release n l x) (only_tree text scope args)

      prints : (text : RawProgram) (l : ℕ) → bare_line (print_tree text scope n l args) ≡ print_tree text scope n 0 args
      prints text l = map_then unlined _ _ (λ w. map_twice unlined (s.Print n l w) (s.Print n 0 w) (λ x. unlined-Print n l w x) (args_tree text scope (later_args args))) (format_in args)

      invoke : (text : RawProgram) (l : ℕ) → bare_line (invoke_tree text scope n l t f args) ≡ invoke_tree text scope n 0 t f args
      invoke text l = map_then unlined _ _ (λ x. map_both unlined (s.Invoke n l x) (s.Invoke n 0 x) (λ a b. unlined-Invoke n l x a b) (function_id text f) (args_tree text scope args)) t

  -- ---- forms, over what they hold

  if_line : (n l : ℕ) (a : Option Expr) (b c : Option (List Statement)) → bare_line (option_and_then (λ (x : Expr). both (s.If n l x) b c) a) ≡ option_and_then (λ (x : Expr). both (s.If n 0 x) (bare_lines b) (bare_lines c)) a
  if_line n l a b c =
      map_then unlined _ _ (λ x. map_both unlined (s.If n l x) (λ (y z : List Statement). s.If n 0 x (map unlined y) (map unlined z)) (λ y z. unlined-If n l x y z) b c ∙ both_mapped (s.If n 0 x) (map unlined) (map unlined) b c) a

  while_line : (n l : ℕ) (a : Option Expr) (b : Option (List Statement)) → bare_line (both (s.While n l) a b) ≡ both (s.While n 0) (option_map (λ (x : Expr). x) a) (bare_lines b)
  while_line n l a b = map_both unlined (s.While n l) (λ (x : Expr) (y : List Statement). s.While n 0 x (map unlined y)) (λ x y. unlined-While n l x y) a b ∙ both_mapped (s.While n 0) (λ (x : Expr). x) (map unlined) a b

  do_line : (n l : ℕ) (a : Option Expr) (b : Option (List Statement)) → bare_line (both (s.Do n l) a b) ≡ both (s.Do n 0) (option_map (λ (x : Expr). x) a) (bare_lines b)
  do_line n l a b = map_both unlined (s.Do n l) (λ (x : Expr) (y : List Statement). s.Do n 0 x (map unlined y)) (λ x y. unlined-Do n l x y) a b ∙ both_mapped (s.Do n 0) (λ (x : Expr). x) (map unlined) a b

  block_line : (l : ℕ) (b : Option (List Statement)) → bare_line (option_map (s.Block l) b) ≡ option_map (s.Block 0) (bare_lines b)
  block_line l b = map_twice unlined (s.Block l) (λ (y : List Statement). s.Block 0 (map unlined y)) (λ y. unlined-Block l y) b ∙ map_mapped (s.Block 0) (map unlined) b

  abbrev bare_part : Option (Option Statement) → Option (Option Statement)
  bare_part o = option_map (option_map unlined) o

  for_line : (n l : ℕ) (i : Option (Option Statement)) (a : Option Expr) (step : Option (Option Statement)) (b : Option (List Statement)) → bare_line (for_tree n l i a step b) ≡ for_tree n 0 (bare_part i) a (bare_part step) (bare_lines b)
  for_line n l i a step b =
      map_then unlined _ _ (λ x. map_then unlined _ _ (λ y. map_both unlined (s.For n l x y) (λ (z : Option Statement) (w : List Statement). s.For n 0 (option_map unlined x) y (option_map unlined z) (map unlined w)) (λ z w. unlined-For n l x y z w) step b
      ∙ both_mapped (s.For n 0 (option_map unlined x) y) (option_map unlined) (map unlined) step b) a) i
      ∙ then_mapped (λ (x : Option Statement). option_and_then (λ (y : Expr). both (s.For n 0 x y) (bare_part step) (bare_lines b)) a) (option_map unlined) i

  switch_line : (n l : ℕ) (a : Option Expr) (t : Option IntType) (arms : IntType → Option (List Arm))
      → bare_line (option_and_then (λ (x : Expr). option_and_then (λ (t : IntType). option_map (s.Switch n l x) (arms t)) t) a)
      ≡ option_and_then (λ (x : Expr). option_and_then (λ (t : IntType). option_map (s.Switch n 0 x) (option_map (map unlined_of_arm) (arms t))) t) a
  switch_line n l a t arms =
      map_then unlined _ _ (λ x. map_then unlined _ _ (λ i. map_twice unlined (s.Switch n l x) (λ (y : List Arm). s.Switch n 0 x (map unlined_of_arm y)) (λ y. unlined-Switch n l x y) (arms i) ∙ map_mapped (s.Switch n 0 x) (map unlined_of_arm) (arms i)) t) a

  part_lined : (o : Option Statement) → bare_part (optional (Some o)) ≡ optional (Some (bare_line o))
  part_lined None = refl
  part_lined (Some x) = refl

  module _ (test : RawVar → RawInit → Bool) (fine : Fine test) where
    abbrev pub TreeSame : RawStatement → Type 0
    TreeSame x = declarations_pass test x ≡ true → (scope : Scope) → bare_line ((treed raw x).gives scope) ≡ bare_line ((treed other (settled x)).gives scope)

    abbrev ArmTreeSame : RawArm → Type 0
    ArmTreeSame x = arm_passes test x ≡ true → (scope : Scope) (t : IntType) → option_map unlined_of_arm ((treed_arm raw x).gives scope t) ≡ option_map unlined_of_arm ((treed_arm other (settled_arm x)).gives scope t)

    pub after_same_tree : (x : RawStatement) → declarations_pass test x ≡ true → (scope : Scope) → (treed raw x).after scope ≡ (treed other (settled x)).after scope
    after_same_tree x h scope = (statement_scoped raw x).same scope ∙ (statement_agrees raw other like test fine x h).after scope ∙ sym ((statement_scoped other (settled x)).same scope)

    arm_after_same : (x : RawArm) → arm_passes test x ≡ true → (scope : Scope) → (treed_arm raw x).after scope ≡ (treed_arm other (settled_arm x)).after scope
    arm_after_same x h scope = (arm_scoped raw x).same scope ∙ (arm_agrees_kept raw other like test fine x h).after scope ∙ sym ((arm_scoped other (settled_arm x)).same scope)

    abbrev Statements : Type 0
    Statements = List ((x : RawStatement) × TreeSame x)

    abbrev bare : Statements → List RawStatement
    bare = map (λ (x : (y : RawStatement) × TreeSame y). x.0)

    abbrev Arms : Type 0
    Arms = List ((x : RawArm) × ArmTreeSame x)

    abbrev bare_arms : Arms → List RawArm
    bare_arms = map (λ (x : (y : RawArm) × ArmTreeSame y). x.0)

    abbrev first_list : Statements → List (Scoped (Option Statement))
    first_list xs = map (treed raw) (bare xs)

    abbrev second_list : Statements → List (Scoped (Option Statement))
    second_list xs = map (treed other) (map settled (bare xs))

    lists_after : (xs : Statements) → all_true (map (declarations_pass test) (bare xs)) ≡ true → (scope : Scope) → after_all (first_list xs) scope ≡ after_all (second_list xs) scope
    lists_after [] h scope = refl
    lists_after (x ∷ xs) h scope =
        let p = and_parts (declarations_pass test x.0) _ h in
        lists_after xs p.1 ((treed raw x.0).after scope) ∙ ap (after_all (second_list xs)) (after_same_tree x.0 p.0 scope)

    blocks_after : (xs : Statements) → all_true (map (declarations_pass test) (bare xs)) ≡ true → (scope : Scope) → after_block (first_list xs) scope ≡ after_block (second_list xs) scope
    blocks_after xs h scope = ap (closed scope) (lists_after xs h (opened scope))

    lists_same : (xs : Statements) → all_true (map (declarations_pass test) (bare xs)) ≡ true → (scope : Scope) → map (option_map unlined) (in_order (first_list xs) scope) ≡ map (option_map unlined) (in_order (second_list xs) scope)
    lists_same [] h scope = refl
    lists_same (x ∷ xs) h scope =
        let p = and_parts (declarations_pass test x.0) _ h in
        ap₂ (λ (a : Option Statement) (as_ : List (Option Statement)). a ∷ as_) (x.1 p.0 scope)
        (lists_same xs p.1 ((treed raw x.0).after scope) ∙ ap (λ (z : Scope). map (option_map unlined) (in_order (second_list xs) z)) (after_same_tree x.0 p.0 scope))

    collected_same : (xs : Statements) → all_true (map (declarations_pass test) (bare xs)) ≡ true → (scope : Scope) → bare_lines (collected (in_order (first_list xs) scope)) ≡ bare_lines (collected (in_order (second_list xs) scope))
    collected_same xs h scope =
        collected_map unlined (in_order (first_list xs) scope) ∙ ap collected (lists_same xs h scope) ∙ sym (collected_map unlined (in_order (second_list xs) scope))

    blocks_same : (xs : Statements) → all_true (map (declarations_pass test) (bare xs)) ≡ true → (scope next : Scope) → scope ≡ next → bare_lines (block_tree (first_list xs) scope) ≡ bare_lines (block_tree (second_list xs) next)
    blocks_same xs h scope next is = collected_same xs h (opened scope) ∙ ap (λ (z : Scope). bare_lines (block_tree (second_list xs) z)) is

    arms_same_at : (xs : Arms) → all_true (map (arm_passes test) (bare_arms xs)) ≡ true → (scope : Scope) (t : IntType)
        → map (option_map unlined_of_arm) (map (λ (a : ArmTree). a t) (in_order (map (treed_arm raw) (bare_arms xs)) scope))
        ≡ map (option_map unlined_of_arm) (map (λ (a : ArmTree). a t) (in_order (map (treed_arm other) (map settled_arm (bare_arms xs))) scope))
    arms_same_at [] h scope t = refl
    arms_same_at (x ∷ xs) h scope t =
        let p = and_parts (arm_passes test x.0) _ h in
        ap₂ (λ (a : Option Arm) (as_ : List (Option Arm)). a ∷ as_) (x.1 p.0 scope t)
        (arms_same_at xs p.1 ((treed_arm raw x.0).after scope) t
        ∙ ap (λ (z : Scope). map (option_map unlined_of_arm) (map (λ (a : ArmTree). a t) (in_order (map (treed_arm other) (map settled_arm (bare_arms xs))) z))) (arm_after_same x.0 p.0 scope))

    arms_same : (xs : Arms) → all_true (map (arm_passes test) (bare_arms xs)) ≡ true → (scope : Scope) (t : IntType)
        → option_map (map unlined_of_arm) (at_type t (in_order (map (treed_arm raw) (bare_arms xs)) scope)) ≡ option_map (map unlined_of_arm) (at_type t (in_order (map (treed_arm other) (map settled_arm (bare_arms xs))) scope))
    arms_same xs h scope t =
        collected_map unlined_of_arm (map (λ (a : ArmTree). a t) (in_order (map (treed_arm raw) (bare_arms xs)) scope)) ∙ ap collected (arms_same_at xs h scope t)
        ∙ sym (collected_map unlined_of_arm (map (λ (a : ArmTree). a t) (in_order (map (treed_arm other) (map settled_arm (bare_arms xs))) scope)))

    -- ---- parts of a for

    abbrev Part_of : Type 0
    Part_of = Option ((x : RawStatement) × TreeSame x)

    abbrev in_first : Part_of → Option (Scoped (Option Statement))
    in_first None = None
    in_first (Some x) = Some (treed raw x.0)

    abbrev in_second : Part_of → Option (Scoped (Option Statement))
    in_second None = None
    in_second (Some x) = Some (treed other (settled x.0))

    abbrev part_passes : Part_of → Bool
    part_passes None = true
    part_passes (Some x) = declarations_pass test x.0

    part_after : (x : Part_of) → part_passes x ≡ true → (scope : Scope) → after_part (in_first x) scope ≡ after_part (in_second x) scope
    part_after None h scope = refl
    part_after (Some x) h scope = after_same_tree x.0 h scope

    part_same : (x : Part_of) → part_passes x ≡ true → (scope next : Scope) → scope ≡ next → bare_part (part_tree (in_first x) scope) ≡ bare_part (part_tree (in_second x) next)
    part_same None h scope next is = refl
    part_same (Some x) h scope next is =
        part_lined ((treed raw x.0).gives scope) ∙ ap (λ (o : Option Statement). optional (Some o)) (x.1 h scope ∙ ap (λ (z : Scope). bare_line ((treed other (settled x.0)).gives z)) is)
        ∙ sym (part_lined ((treed other (settled x.0)).gives next))

    for_same : (l : ℕ) (i : Part_of) (a : RawExpr) (step : Part_of) (b : Statements) → (part_passes i && (part_passes step && all_true (map (declarations_pass test) (bare b)))) ≡ true → (scope : Scope)
        → bare_line (for_tree scope.statements l (part_tree (in_first i) (opened (numbered scope))) (expr_of raw (scope_of_test (in_first i) scope) a) (part_tree (in_first step) (scope_of_test (in_first i) scope)) (block_tree (first_list b) (scope_of_body (in_first i) (in_first step) scope)))
        ≡ bare_line (for_tree scope.statements 0 (part_tree (in_second i) (opened (numbered scope))) (expr_of other (scope_of_test (in_second i) scope) a) (part_tree (in_second step) (scope_of_test (in_second i) scope)) (block_tree (second_list b) (scope_of_body (in_second i) (in_second step) scope)))
    for_same l i a step b h scope =
        let p = and_parts (part_passes i) _ h in
        let q = and_parts (part_passes step) _ p.1 in
        let begin = opened (numbered scope) in
        let first : scope_of_test (in_first i) scope ≡ scope_of_test (in_second i) scope = part_after i p.0 begin in
        let second : scope_of_body (in_first i) (in_first step) scope ≡ scope_of_body (in_second i) (in_second step) scope
        = part_after step q.0 (scope_of_test (in_first i) scope) ∙ ap (after_part (in_second step)) first in
        for_line scope.statements l (part_tree (in_first i) begin) (expr_of raw (scope_of_test (in_first i) scope) a) (part_tree (in_first step) (scope_of_test (in_first i) scope)) (block_tree (first_list b) (scope_of_body (in_first i) (in_first step) scope))
        ∙ ap₂ (λ (x : Option (Option Statement)) (e : Option Expr). for_tree scope.statements 0 x e (bare_part (part_tree (in_first step) (scope_of_test (in_first i) scope))) (bare_lines (block_tree (first_list b) (scope_of_body (in_first i) (in_first step) scope))))
        (part_same i p.0 begin begin refl) (exprs_same raw other like (scope_of_test (in_first i) scope) a ∙ ap (λ (z : Scope). expr_of other z a) first)
        ∙ ap₂ (λ (y : Option (Option Statement)) (w : Option (List Statement)). for_tree scope.statements 0 (bare_part (part_tree (in_second i) begin)) (expr_of other (scope_of_test (in_second i) scope) a) y w)
        (part_same step q.0 (scope_of_test (in_first i) scope) (scope_of_test (in_second i) scope) first) (blocks_same b q.1 (scope_of_body (in_first i) (in_first step) scope) (scope_of_body (in_second i) (in_second step) scope) second)
        ∙ sym (for_line scope.statements 0 (part_tree (in_second i) begin) (expr_of other (scope_of_test (in_second i) scope) a) (part_tree (in_second step) (scope_of_test (in_second i) scope)) (block_tree (second_list b) (scope_of_body (in_second i) (in_second step) scope)))

    -- ---- each form

    abbrev shape : StatementParts TreeSame ArmTreeSame → RawStatement-F RawStatement RawArm
    shape = statement_layer TreeSame ArmTreeSame

    abbrev first_step : RawStatement-F RawStatement RawArm → Scoped (Option Statement)
    first_step y = treed_step raw (map-RawStatement RawStatement RawArm (Scoped (Option Statement)) (Scoped ArmTree) (treed raw) (treed_arm raw) y)

    abbrev second_step : RawStatement-F RawStatement RawArm → Scoped (Option Statement)
    second_step y = treed_step other (map-RawStatement RawStatement RawArm (Scoped (Option Statement)) (Scoped ArmTree) (treed other) (treed_arm other) (kept_layer y))

    layer_same : (y : StatementParts TreeSame ArmTreeSame) → declares_step test (map-RawStatement RawStatement RawArm Bool Bool (declarations_pass test) (arm_passes test) (shape y)) ≡ true
        → (scope : Scope) → bare_line ((first_step (shape y)).gives scope) ≡ bare_line ((second_step (shape y)).gives scope)
    layer_same (RawStatement-F.Declare l v i) h scope =
        let id = declaration_id i scope.statements in
        let k = settled_var_agrees raw other like i v (fine v i h) in
        map_twice unlined (s.Declare id l scope.variables) (s.Declare id 0 scope.variables) (λ x. unlined-Declare id l scope.variables x) (init_of raw (with_variable raw v i scope) i)
        ∙ ap (option_map (s.Declare id 0 scope.variables)) (inits_same (with_variable raw v i scope) i ∙ ap (λ (z : Scope). init_of other z i) (variable_same raw other like test fine scope v (settled_var (item_count i) v) i k))
        ∙ sym (map_twice unlined (s.Declare id 0 scope.variables) (s.Declare id 0 scope.variables) (λ x. unlined-Declare id 0 scope.variables x) (init_of other (with_variable other (settled_var (item_count i) v) i scope) i))
    layer_same (RawStatement-F.Assign l a op b) h scope =
        let n = scope.statements in
        map_both unlined (λ (x y : Expr). s.Assign n l x op y) (λ (x y : Expr). s.Assign n 0 x op y) (λ x y. unlined-Assign n l x op y) (expr_of raw scope a) (expr_of raw scope b)
        ∙ ap₂ (both (λ (x y : Expr). s.Assign n 0 x op y)) (exprs_same raw other like scope a) (exprs_same raw other like scope b)
        ∙ sym (map_both unlined (λ (x y : Expr). s.Assign n 0 x op y) (λ (x y : Expr). s.Assign n 0 x op y) (λ x y. unlined-Assign n 0 x op y) (expr_of other scope a) (expr_of other scope b))
    layer_same (RawStatement-F.Bump l a up before) h scope =
        let n = scope.statements in
        map_twice unlined (λ (x : Expr). s.Bump n l x up before) (λ (x : Expr). s.Bump n 0 x up before) (λ x. unlined-Bump n l x up before) (expr_of raw scope a)
        ∙ ap (option_map (λ (x : Expr). s.Bump n 0 x up before)) (exprs_same raw other like scope a)
        ∙ sym (map_twice unlined (λ (x : Expr). s.Bump n 0 x up before) (λ (x : Expr). s.Bump n 0 x up before) (λ x. unlined-Bump n 0 x up before) (expr_of other scope a))
    layer_same (RawStatement-F.Call l to f args) h scope =
        call_same (with_target raw to scope) scope.statements l 0 (target_tree raw scope to) f args
        ∙ ap₂ (λ (z : Scope) (t : Option Target). bare_line (call_tree other z scope.statements 0 t f args)) (target_same raw other like test fine to scope) (targets_same scope to)
    layer_same (RawStatement-F.Heap l to cast n) h scope =
        heap_same (with_target raw to scope) scope.statements l 0 (target_tree raw scope to) cast n
        ∙ ap₂ (λ (z : Scope) (t : Option Target). bare_line (heap_tree other z scope.statements 0 t cast n)) (target_same raw other like test fine to scope) (targets_same scope to)
    layer_same (RawStatement-F.If l a body next) h scope =
        let p = and_parts (all_true (map (declarations_pass test) (bare body))) (all_true (map (declarations_pass test) (bare next))) h in
        let n = scope.statements in
        if_line n l (expr_of raw scope a) (block_tree (first_list body) (numbered scope)) (block_tree (first_list next) (after_block (first_list body) (numbered scope)))
        ∙ ap (λ (e : Option Expr). option_and_then (λ (x : Expr). both (s.If n 0 x) (bare_lines (block_tree (first_list body) (numbered scope))) (bare_lines (block_tree (first_list next) (after_block (first_list body) (numbered scope))))) e) (exprs_same raw other like scope a)
        ∙ ap₂ (λ (b c : Option (List Statement)). option_and_then (λ (x : Expr). both (s.If n 0 x) b c) (expr_of other scope a)) (blocks_same body p.0 (numbered scope) (numbered scope) refl)
        (blocks_same next p.1 (after_block (first_list body) (numbered scope)) (after_block (second_list body) (numbered scope)) (blocks_after body p.0 (numbered scope)))
        ∙ sym (if_line n 0 (expr_of other scope a) (block_tree (second_list body) (numbered scope)) (block_tree (second_list next) (after_block (second_list body) (numbered scope))))
    layer_same (RawStatement-F.While l a b) h scope =
        while_line scope.statements l (expr_of raw scope a) (block_tree (first_list b) (numbered scope))
        ∙ ap₂ (λ (e : Option Expr) (c : Option (List Statement)). both (s.While scope.statements 0) (option_map (λ (x : Expr). x) e) c) (exprs_same raw other like scope a) (blocks_same b h (numbered scope) (numbered scope) refl)
        ∙ sym (while_line scope.statements 0 (expr_of other scope a) (block_tree (second_list b) (numbered scope)))
    layer_same (RawStatement-F.Do l a b) h scope =
        do_line scope.statements l (expr_of raw scope a) (block_tree (first_list b) (numbered scope))
        ∙ ap₂ (λ (e : Option Expr) (c : Option (List Statement)). both (s.Do scope.statements 0) (option_map (λ (x : Expr). x) e) c) (exprs_same raw other like scope a) (blocks_same b h (numbered scope) (numbered scope) refl)
        ∙ sym (do_line scope.statements 0 (expr_of other scope a) (block_tree (second_list b) (numbered scope)))
    layer_same (RawStatement-F.For l None a None b) h scope = for_same l None a None b h scope
    layer_same (RawStatement-F.For l None a (Some x) b) h scope = for_same l None a (Some x) b h scope
    layer_same (RawStatement-F.For l (Some i) a None b) h scope = for_same l (Some i) a None b h scope
    layer_same (RawStatement-F.For l (Some i) a (Some x) b) h scope = for_same l (Some i) a (Some x) b h scope
    layer_same (RawStatement-F.Switch l a arms) h scope =
        let n = scope.statements in
        let first = λ (t : IntType). at_type t (in_order (map (treed_arm raw) (bare_arms arms)) (opened (numbered scope))) in
        let second = λ (t : IntType). at_type t (in_order (map (treed_arm other) (map settled_arm (bare_arms arms))) (opened (numbered scope))) in
        switch_line n l (expr_of raw scope a) (switch_type raw scope a) first
        ∙ ap₂ (λ (e : Option Expr) (t : Option IntType). option_and_then (λ (x : Expr). option_and_then (λ (t : IntType). option_map (s.Switch n 0 x) (option_map (map unlined_of_arm) (first t))) t) e) (exprs_same raw other like scope a) (switch_same scope a)
        ∙ then_pointwise _ _ (λ x. then_pointwise _ _ (λ t. ap (option_map (s.Switch n 0 x)) (arms_same arms h (opened (numbered scope)) t)) (switch_type other scope a)) (expr_of other scope a)
        ∙ sym (switch_line n 0 (expr_of other scope a) (switch_type other scope a) second)
    layer_same (RawStatement-F.Block l b) h scope = block_line l (block_tree (first_list b) scope) ∙ ap (option_map (s.Block 0)) (blocks_same b h scope scope refl) ∙ sym (block_line 0 (block_tree (second_list b) scope))
    layer_same (RawStatement-F.Return l a) h scope =
        let n = scope.statements in
        map_twice unlined (s.Return n l) (s.Return n 0) (λ x. unlined-Return n l x) (optional (option_map (expr_of raw scope) a))
        ∙ ap (option_map (s.Return n 0)) (value_same scope a)
        ∙ sym (map_twice unlined (s.Return n 0) (s.Return n 0) (λ x. unlined-Return n 0 x) (optional (option_map (expr_of other scope) a)))

    statement_rolled : (y : StatementParts TreeSame ArmTreeSame) → TreeSame (roll-RawStatement (shape y))
    statement_rolled y h scope =
        ap (λ (t : Scoped (Option Statement)). bare_line (t.gives scope)) (fold-roll-RawStatement (Scoped (Option Statement)) (Scoped ArmTree) (treed_step raw) (arm_tree_step raw) (shape y))
        ∙ layer_same y (sym (fold-roll-RawStatement Bool Bool (declares_step test) arm_declares (shape y)) ∙ h) scope
        ∙ ap (λ (t : Scoped (Option Statement)). bare_line (t.gives scope)) (sym (ap (treed other) (settled_layer (shape y)) ∙ fold-roll-RawStatement (Scoped (Option Statement)) (Scoped ArmTree) (treed_step other) (arm_tree_step other) (kept_layer (shape y))))

    arm_lined : (labels : Option (List Label)) (b : Option (List Statement)) → option_map unlined_of_arm (both arm_tree labels b) ≡ both arm_tree (option_map (λ (x : List Label). x) labels) (bare_lines b)
    arm_lined labels b =
        map_both unlined_of_arm arm_tree (λ (x : List Label) (y : List Statement). arm_tree x (map unlined y)) (λ x y. unlined_of_arm-roll x y) labels b
        ∙ both_mapped arm_tree (λ (x : List Label). x) (map unlined) labels b

    arm_rolled : (y : ArmParts TreeSame ArmTreeSame) → ArmTreeSame (roll-RawArm (arm_layer TreeSame ArmTreeSame y))
    arm_rolled y h scope t =
        let l = arm_layer TreeSame ArmTreeSame y in
        let next = map-RawArm RawStatement RawArm RawStatement RawArm settled settled_arm l in
        let k = sym (fold-roll-RawArm Bool Bool (declares_step test) arm_declares l) ∙ h in
        ap (λ (a : Scoped ArmTree). option_map unlined_of_arm (a.gives scope t)) (fold-roll-RawArm (Scoped (Option Statement)) (Scoped ArmTree) (treed_step raw) (arm_tree_step raw) l)
        ∙ arm_lined (collected (map (label_tree raw scope t) y.labels)) (collected (in_order (first_list y.body) scope))
        ∙ ap₂ (λ (ls : Option (List Label)) (b : Option (List Statement)). both arm_tree (option_map (λ (x : List Label). x) ls) b) (ap collected (maps_same (label_tree raw scope t) (label_tree other scope t) (label_same scope t) y.labels)) (collected_same y.body k scope)
        ∙ sym (arm_lined (collected (map (label_tree other scope t) y.labels)) (collected (in_order (second_list y.body) scope)))
        ∙ ap (λ (a : Scoped ArmTree). option_map unlined_of_arm (a.gives scope t)) (sym (ap (treed_arm other) (settled_arm_layer l) ∙ fold-roll-RawArm (Scoped (Option Statement)) (Scoped ArmTree) (treed_step other) (arm_tree_step other) next))

    -- a statement of the program is that of what the layout keeps, but for lines
    pub statement_same : (x : RawStatement) → TreeSame x
    statement_same = of_every_statement TreeSame ArmTreeSame statement_rolled arm_rolled

    -- the same for bodies
    pub bodies_same : (body : List RawStatement) → all_true (map (declarations_pass test) body) ≡ true → (scope : Scope)
        → map (option_map unlined) (in_order (map (treed raw) body) scope) ≡ map (option_map unlined) (in_order (map (treed other) (map settled body)) scope)
    bodies_same [] h scope = refl
    bodies_same (x ∷ xs) h scope =
        let p = and_parts (declarations_pass test x) _ h in
        ap₂ (λ (a : Option Statement) (as_ : List (Option Statement)). a ∷ as_) (statement_same x p.0 scope)
        (bodies_same xs p.1 ((treed raw x).after scope) ∙ ap (λ (z : Scope). map (option_map unlined) (in_order (map (treed other) (map settled xs)) z)) (after_same_tree x p.0 scope))

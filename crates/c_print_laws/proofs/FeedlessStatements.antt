-- The statements of a program hold no line feed, where those of its text don't.
use Rattle.std.proofs.Common.{◌≡◌, ℕ, List, [], ◌∷◌, map, Bool, true, false, ◌&&◌, codes, Option, Some, None, refl, sym, ap, ◌∙◌}
use Rattle.std.specs.Prelude.{if◌then◌else◌, bytes_eq, option_map}
use Rattle.std.specs.List.{list_all}
use Rattle.std.specs.Option.{option_map_or}
use Rattle.std.proofs.lemmas.Bool.{and_from, and_parts}
use Rattle.c_language.specs.Lists.{all_true}
use Rattle.c_arith.specs.declared.int_type.IntType.{IntType}
use Rattle.c_tree.specs.declared.types.CType.{CType}
use Rattle.c_tree.specs.declared.expr.Expr.{Expr}
use Rattle.c_tree.specs.declared.program.Init.{Init}
use Rattle.c_tree.specs.declared.program.Init.TheVariants as begins
use Rattle.c_tree.specs.declared.statement.Target.{Target}
use Rattle.c_tree.specs.declared.statement.Target.TheVariants as to_place
use Rattle.c_tree.specs.declared.statement.Size.{Size}
use Rattle.c_tree.specs.declared.statement.Size.TheVariants as measure
use Rattle.c_tree.specs.declared.statement.Amount.{Amount}
use Rattle.c_tree.specs.declared.statement.Amount.TheVariants as quantity
use Rattle.c_tree.specs.declared.statement.Label.{Label}
use Rattle.c_tree.specs.declared.statement.Statement.{Statement, roll-Statement, map-Statement, fold-roll-Statement}
use Rattle.c_tree.specs.declared.statement.Statement.TheOpen.{Statement-F}
use Rattle.c_tree.specs.declared.statement.Statement.TheVariants as s
use Rattle.c_tree.specs.declared.statement.Arm.{Arm, fold-roll-Arm}
use Rattle.c_tree.specs.declared.raw.expr.RawExpr.{RawExpr}
use Rattle.c_tree.specs.declared.raw.program.RawInit.{RawInit}
use Rattle.c_tree.specs.declared.raw.program.RawInit.TheVariants as init
use Rattle.c_tree.specs.declared.raw.program.RawProgram.{RawProgram}
use Rattle.c_tree.specs.declared.raw.statement.RawTarget.{RawTarget}
use Rattle.c_tree.specs.declared.raw.statement.RawTarget.TheVariants as target
use Rattle.c_tree.specs.declared.raw.statement.RawArg.{RawArg}
use Rattle.c_tree.specs.declared.raw.statement.RawArg.TheVariants.{Value, Literal}
use Rattle.c_tree.specs.declared.raw.statement.RawTypeName.{RawTypeName}
use Rattle.c_tree.specs.declared.raw.statement.RawSize.{RawSize}
use Rattle.c_tree.specs.declared.raw.statement.RawSize.TheVariants as size
use Rattle.c_tree.specs.declared.raw.statement.RawAmount.{RawAmount}
use Rattle.c_tree.specs.declared.raw.statement.RawAmount.TheVariants as amount
use Rattle.c_tree.specs.declared.raw.statement.RawLabel.{RawLabel}
use Rattle.c_tree.specs.declared.raw.statement.RawLabel.TheVariants.{Case, Default}
use Rattle.c_tree.specs.declared.raw.statement.RawStatement.{RawStatement, map-RawStatement, fold-roll-RawStatement}
use Rattle.c_tree.specs.declared.raw.statement.RawStatement.TheOpen.{RawStatement-F}
use Rattle.c_tree.specs.declared.raw.statement.RawArm.{RawArm, map-RawArm, fold-roll-RawArm}
use Rattle.c_tree.proofs.RawTrees.{StatementParts, ArmParts, statement_layer, arm_layer, of_every_statement}
use Rattle.c_language.specs.Words.{Bytes}
use Rattle.c_language.specs.TypeGrammar.{named_type}
use Rattle.c_language.specs.ConstantEvaluation.{value_of_constant}
use Rattle.c_language.specs.DeclaredTypes.{function_id}
use Rattle.c_language.specs.Scopes.{Scope, with_variable, with_target, opened, numbered, meaning_in, Scoped, in_order, after_block, scope_of_test, scope_of_body}
use Rattle.c_language.specs.CallRules.{format_in, later_args, only_arg}
use Rattle.c_language.specs.ProgramOf.{collected, optional, ctype, ctype_if, variable_number, expr_of, exprs_of, init_of, declaration_id, target_tree, arg_tree, args_tree, only_tree, print_tree, invoke_tree, size_tree, amount_tree, heap_tree, label_tree, ArmTree, arm_tree, arm_tree_step, block_tree, at_type, switch_type, part_tree, for_tree, treed_step, treed, body_of, treed_arm}
use Rattle.c_print.specs.Feedless.{feedless, type_feedless, expr_feedless, init_feedless, target_feedless, size_feedless, amount_feedless, label_feedless, statement_step, arm_step, statement_feedless}
use Rattle.c_print.proofs.FeedLemmas.{arm_feedless}
use Rattle.c_print_laws.proofs.Options.{collected_are}
use Rattle.c_print_laws.proofs.RawFeedless.{raw_expr_feedless, raw_type_feedless, raw_var_feedless, raw_init_feedless, raw_target_feedless, raw_arg_feedless, raw_name_feedless, raw_size_feedless, raw_amount_feedless, raw_label_feedless, raw_statement_step, raw_arm_step, raw_statement_feedless, raw_arm_feedless, raw_body_feedless}
use Rattle.c_print_laws.proofs.FeedlessTypes.{all_given, given, type_given, pointed_feedless, optional_type_given, expr_given}
use Rattle.c_language.proofs.Options.{none_there, some_same, map_there, then_there, both_there}
use Rattle.c_language.proofs.Lists.{no_list, head_is, tail_is}

-- ---- parts of statements

module _ (raw : RawProgram) (scope : Scope) where
  exprs_given : (es : List RawExpr) (xs : List Expr) → list_all raw_expr_feedless es ≡ true → exprs_of raw scope es ≡ Some xs → list_all expr_feedless xs ≡ true
  exprs_given es xs h is = all_given (expr_of raw scope) raw_expr_feedless expr_feedless (λ a x k there. expr_given raw scope a k x there) es xs h (collected_are (map (expr_of raw scope) es) xs is)

  pub init_given : (i : RawInit) (x : Init) → raw_init_feedless i ≡ true → init_of raw scope i ≡ Some x → init_feedless x ≡ true
  init_given init.None x h is = ap init_feedless (sym (some_same is))
  init_given (init.One a) x h is = let g = map_there begins.One (expr_of raw scope a) x is in ap init_feedless (sym g.same) ∙ expr_given raw scope a h g.value g.there
  init_given (init.Items es) x h is = let g = map_there begins.Items (exprs_of raw scope es) x is in ap init_feedless (sym g.same) ∙ exprs_given es g.value h g.there

  target_given : (to : RawTarget) (x : Target) → raw_target_feedless to ≡ true → target_tree raw scope to ≡ Some x → target_feedless x ≡ true
  target_given target.None x h is = ap target_feedless (sym (some_same is))
  target_given (target.Place a) x h is = let g = map_there to_place.Place (expr_of raw scope a) x is in ap target_feedless (sym g.same) ∙ expr_given raw scope a h g.value g.there
  target_given (target.Declared v) x h is = ap target_feedless (sym (some_same is))

  arg_given : (a : RawArg) (x : Expr) → raw_arg_feedless a ≡ true → arg_tree raw scope a ≡ Some x → expr_feedless x ≡ true
  arg_given (Value a) x h is = expr_given raw scope a h x is
  arg_given (Literal text) x h is = none_there is

  args_given : (args : List RawArg) (xs : List Expr) → list_all raw_arg_feedless args ≡ true → args_tree raw scope args ≡ Some xs → list_all expr_feedless xs ≡ true
  args_given args xs h is = all_given (arg_tree raw scope) raw_arg_feedless expr_feedless arg_given args xs h (collected_are (map (arg_tree raw scope) args) xs is)

  only_feedless : (args : List RawArg) (a : RawExpr) → list_all raw_arg_feedless args ≡ true → only_arg args ≡ Some a → raw_expr_feedless a ≡ true
  only_feedless [] a h is = none_there is
  only_feedless (Value b ∷ []) a h is = ap raw_expr_feedless (sym (some_same is)) ∙ (and_parts (raw_expr_feedless b) true h).0
  only_feedless (Literal text ∷ []) a h is = none_there is
  only_feedless (Value b ∷ (c ∷ rest)) a h is = none_there is
  only_feedless (Literal text ∷ (c ∷ rest)) a h is = none_there is

  only_given : (args : List RawArg) (x : Expr) → list_all raw_arg_feedless args ≡ true → only_tree raw scope args ≡ Some x → expr_feedless x ≡ true
  only_given args x h is = let g = then_there (expr_of raw scope) (only_arg args) x is in expr_given raw scope g.value (only_feedless args g.value h g.there) x g.same

  later_feedless : (args : List RawArg) → list_all raw_arg_feedless args ≡ true → list_all raw_arg_feedless (later_args args) ≡ true
  later_feedless [] h = refl
  later_feedless (a ∷ rest) h = (and_parts (raw_arg_feedless a) (list_all raw_arg_feedless rest) h).1

  format_feedless : (args : List RawArg) (text : Bytes) → list_all raw_arg_feedless args ≡ true → format_in args ≡ Some text → feedless text ≡ true
  format_feedless [] text h is = none_there is
  format_feedless (Value a ∷ rest) text h is = none_there is
  format_feedless (Literal found ∷ rest) text h is = ap feedless (sym (some_same is)) ∙ (and_parts (feedless found) (list_all raw_arg_feedless rest) h).0

  name_given : (t : RawTypeName) (c : CType) → raw_name_feedless t ≡ true → ctype raw (named_type t) ≡ Some c → type_feedless c ≡ true
  name_given t c h is = type_given raw 0 (named_type t) (pointed_feedless t.stars t.base h) c is

  cast_feedless : (t : Option RawTypeName) → option_map_or raw_name_feedless t true ≡ true → option_map_or raw_type_feedless (option_map named_type t) true ≡ true
  cast_feedless None h = refl
  cast_feedless (Some t) h = pointed_feedless t.stars t.base h

  size_given : (z : RawSize) (x : Size) → raw_size_feedless z ≡ true → size_tree raw scope z ≡ Some x → size_feedless x ≡ true
  size_given (size.Type t) x h is = let g = map_there measure.Type (ctype raw (named_type t)) x is in ap size_feedless (sym g.same) ∙ name_given t g.value h g.there
  size_given (size.Pointee w closed) x h is = let g = map_there (λ (n : ℕ). measure.Pointee n closed) (variable_number (meaning_in scope w)) x is in ap size_feedless (sym g.same)

  amount_given : (n : RawAmount) (x : Amount) → raw_amount_feedless n ≡ true → amount_tree raw scope n ≡ Some x → amount_feedless x ≡ true
  amount_given (amount.Size z) x h is = let g = map_there quantity.Size (size_tree raw scope z) x is in ap amount_feedless (sym g.same) ∙ size_given z g.value h g.there
  amount_given (amount.CountSize a z) x h is =
      let p = and_parts (raw_expr_feedless a) (raw_size_feedless z) h in
      let f = then_there _ (expr_of raw scope a) x is in
      let g = map_there (quantity.CountSize f.value) (size_tree raw scope z) x f.same in
      ap amount_feedless (sym g.same) ∙ and_from _ _ (expr_given raw scope a p.0 f.value f.there) (size_given z g.value p.1 g.there)
  amount_given (amount.SizeCount z a) x h is =
      let p = and_parts (raw_size_feedless z) (raw_expr_feedless a) h in
      let f = then_there _ (size_tree raw scope z) x is in
      let g = map_there (quantity.SizeCount f.value) (expr_of raw scope a) x f.same in
      ap amount_feedless (sym g.same) ∙ and_from _ _ (size_given z f.value p.0 f.there) (expr_given raw scope a p.1 g.value g.there)
  amount_given (amount.Count a) x h is = let g = map_there quantity.Count (expr_of raw scope a) x is in ap amount_feedless (sym g.same) ∙ expr_given raw scope a h g.value g.there

  label_given : (type : IntType) (a : RawLabel) (x : Label) → raw_label_feedless a ≡ true → label_tree raw scope type a ≡ Some x → label_feedless x ≡ true
  label_given type (Case a) x h is =
      let f = then_there _ (expr_of raw scope a) x is in
      let g = map_there _ (value_of_constant a) x f.same in
      ap label_feedless (sym g.same) ∙ expr_given raw scope a h f.value f.there
  label_given type Default x h is = ap label_feedless (sym (some_same is))

-- ---- statements by their outermost form

abbrev list_feedless : List Statement → Bool
list_feedless ts = all_true (map statement_feedless ts)

statement_by : {a x : Statement} (y : Statement-F Statement Arm) → roll-Statement y ≡ a → a ≡ x → statement_step (map-Statement Statement Arm Bool Bool statement_feedless arm_feedless y) ≡ true → statement_feedless x ≡ true
statement_by y is same h = ap statement_feedless (sym (is ∙ same)) ∙ fold-roll-Statement Bool Bool statement_step arm_step y ∙ h

-- a part of a for
abbrev part_feedless : Option Statement → Bool
part_feedless None = true
part_feedless (Some x) = statement_feedless x

for_by : {x : Statement} (id l : ℕ) (i : Option Statement) (a : Expr) (k : Option Statement) (b : List Statement) → s.For id l i a k b ≡ x
    → part_feedless i ≡ true → expr_feedless a ≡ true → part_feedless k ≡ true → list_feedless b ≡ true → statement_feedless x ≡ true
for_by id l None a None b is x y z t = statement_by (Statement-F.For id l None a None b) (s.rolls-For id l None a None b) is (and_from _ _ x (and_from _ _ y (and_from _ _ z t)))
for_by id l None a (Some k) b is x y z t = statement_by (Statement-F.For id l None a (Some k) b) (s.rolls-For id l None a (Some k) b) is (and_from _ _ x (and_from _ _ y (and_from _ _ z t)))
for_by id l (Some i) a None b is x y z t = statement_by (Statement-F.For id l (Some i) a None b) (s.rolls-For id l (Some i) a None b) is (and_from _ _ x (and_from _ _ y (and_from _ _ z t)))
for_by id l (Some i) a (Some k) b is x y z t = statement_by (Statement-F.For id l (Some i) a (Some k) b) (s.rolls-For id l (Some i) a (Some k) b) is (and_from _ _ x (and_from _ _ y (and_from _ _ z t)))

return_by : {x : Statement} (id l : ℕ) (a : Option Expr) → s.Return id l a ≡ x → option_map_or expr_feedless a true ≡ true → statement_feedless x ≡ true
return_by id l a is h = statement_by (Statement-F.Return id l a) (s.rolls-Return id l a) is h

-- ---- calls

module _ (raw : RawProgram) (before scope : Scope) where
  invoke_given : (id l : ℕ) (to : RawTarget) (f : Bytes) (args : List RawArg) (t : Statement) → raw_target_feedless to ≡ true → list_all raw_arg_feedless args ≡ true
      → invoke_tree raw scope id l (target_tree raw before to) f args ≡ Some t → statement_feedless t ≡ true
  invoke_given id l to f args t h k is =
      let a = then_there _ (target_tree raw before to) t is in
      let b = both_there (s.Invoke id l a.value) (function_id raw f) (args_tree raw scope args) t a.same in
      statement_by (Statement-F.Invoke id l a.value b.left b.right) (s.rolls-Invoke id l a.value b.left b.right) b.same
      (and_from _ _ (target_given raw before to a.value h a.there) (args_given raw scope args b.right k b.right_there))

  print_given : (id l : ℕ) (args : List RawArg) (t : Statement) → list_all raw_arg_feedless args ≡ true → print_tree raw scope id l args ≡ Some t → statement_feedless t ≡ true
  print_given id l args t k is =
      let a = then_there (λ (text : Bytes). option_map (s.Print id l text) (args_tree raw scope (later_args args))) (format_in args) t is in
      let b = map_there (s.Print id l a.value) (args_tree raw scope (later_args args)) t a.same in
      statement_by (Statement-F.Print id l a.value b.value) (s.rolls-Print id l a.value b.value) b.same
      (and_from _ _ (format_feedless raw scope args a.value k a.there) (args_given raw scope (later_args args) b.value (later_feedless raw scope args k) b.there))

  call_given : (fetches writes prints frees : Bool) (id l : ℕ) (to : RawTarget) (f : Bytes) (args : List RawArg) (t : Statement) → raw_target_feedless to ≡ true → list_all raw_arg_feedless args ≡ true
      → (if fetches then option_map (s.Fetch id l) (target_tree raw before to)
      else (if writes then option_map (s.Write id l) (only_tree raw scope args)
      else (if prints then print_tree raw scope id l args
      else (if frees then option_map (s.Release id l) (only_tree raw scope args)
      else invoke_tree raw scope id l (target_tree raw before to) f args)))) ≡ Some t → statement_feedless t ≡ true
  call_given true writes prints frees id l to f args t h k is =
      let g = map_there (s.Fetch id l) (target_tree raw before to) t is in statement_by (Statement-F.Fetch id l g.value) (s.rolls-Fetch id l g.value) g.same (target_given raw before to g.value h g.there)
  call_given false true prints frees id l to f args t h k is =
      let g = map_there (s.Write id l) (only_tree raw scope args) t is in statement_by (Statement-F.Write id l g.value) (s.rolls-Write id l g.value) g.same (only_given raw scope args g.value k g.there)
  call_given false false true frees id l to f args t h k is = print_given id l args t k is
  call_given false false false true id l to f args t h k is =
      let g = map_there (s.Release id l) (only_tree raw scope args) t is in statement_by (Statement-F.Release id l g.value) (s.rolls-Release id l g.value) g.same (only_given raw scope args g.value k g.there)
  call_given false false false false id l to f args t h k is = invoke_given id l to f args t h k is

  heap_given : (id l : ℕ) (to : RawTarget) (cast : Option RawTypeName) (n : RawAmount) (t : Statement) → raw_target_feedless to ≡ true → (option_map_or raw_name_feedless cast true && raw_amount_feedless n) ≡ true
      → heap_tree raw scope id l (target_tree raw before to) cast n ≡ Some t → statement_feedless t ≡ true
  heap_given id l to cast n t h k is =
      let p = and_parts (option_map_or raw_name_feedless cast true) (raw_amount_feedless n) k in
      let a = then_there _ (target_tree raw before to) t is in
      let b = then_there (λ (c : Option CType). option_map (s.Heap id l a.value c) (amount_tree raw scope n)) (ctype_if raw (option_map named_type cast)) t a.same in
      let c = map_there (s.Heap id l a.value b.value) (amount_tree raw scope n) t b.same in
      statement_by (Statement-F.Heap id l a.value b.value c.value) (s.rolls-Heap id l a.value b.value c.value) c.same
      (and_from _ _ (target_given raw before to a.value h a.there)
      (and_from _ _ (optional_type_given raw (option_map named_type cast) b.value (cast_feedless raw scope cast p.0) b.there) (amount_given raw scope n c.value p.1 c.there)))

-- ---- statements

module _ (raw : RawProgram) where
  abbrev Gives : Scoped (Option Statement) → Type 0
  Gives b = (scope : Scope) (t : Statement) → b.gives scope ≡ Some t → statement_feedless t ≡ true

  abbrev ArmGives : Scoped ArmTree → Type 0
  ArmGives b = (scope : Scope) (type : IntType) (a : Arm) → b.gives scope type ≡ Some a → arm_feedless a ≡ true

  abbrev Q : RawStatement → Type 0
  Q x = raw_statement_feedless x ≡ true → Gives (treed raw x)

  abbrev R : RawArm → Type 0
  R x = raw_arm_feedless x ≡ true → ArmGives (treed_arm raw x)

  abbrev bodies : List ((x : RawStatement) × Q x) → List RawStatement
  bodies = map (λ (x : (y : RawStatement) × Q y). x.0)

  abbrev bodies_of_arms : List ((x : RawArm) × R x) → List RawArm
  bodies_of_arms = map (λ (x : (y : RawArm) × R y). x.0)

  all_give : (xs : List ((x : RawStatement) × Q x)) → raw_body_feedless (bodies xs) ≡ true → (scope : Scope) (ts : List Statement) → in_order (map (treed raw) (bodies xs)) scope ≡ map Some ts → list_feedless ts ≡ true
  all_give [] h scope [] is = refl
  all_give [] h scope (t ∷ ts) is = no_list (sym is)
  all_give (x ∷ xs) h scope [] is = no_list is
  all_give (x ∷ xs) h scope (t ∷ ts) is =
      let p = and_parts (raw_statement_feedless x.0) (raw_body_feedless (bodies xs)) h in
      and_from _ _ (x.1 p.0 scope t (head_is is)) (all_give xs p.1 ((treed raw x.0).after scope) ts (tail_is is))

  block_gives : (xs : List ((x : RawStatement) × Q x)) → raw_body_feedless (bodies xs) ≡ true → (scope : Scope) (ts : List Statement) → block_tree (map (treed raw) (bodies xs)) scope ≡ Some ts → list_feedless ts ≡ true
  block_gives xs h scope ts is = all_give xs h (opened scope) ts (collected_are (in_order (map (treed raw) (bodies xs)) (opened scope)) ts is)

  arms_give : (xs : List ((x : RawArm) × R x)) → all_true (map raw_arm_feedless (bodies_of_arms xs)) ≡ true → (scope : Scope) (type : IntType) (as_ : List Arm)
      → map (λ (a : ArmTree). a type) (in_order (map (treed_arm raw) (bodies_of_arms xs)) scope) ≡ map Some as_ → all_true (map arm_feedless as_) ≡ true
  arms_give [] h scope type [] is = refl
  arms_give [] h scope type (a ∷ as_) is = no_list (sym is)
  arms_give (x ∷ xs) h scope type [] is = no_list is
  arms_give (x ∷ xs) h scope type (a ∷ as_) is =
      let p = and_parts (raw_arm_feedless x.0) (all_true (map raw_arm_feedless (bodies_of_arms xs))) h in
      and_from _ _ (x.1 p.0 scope type a (head_is is)) (arms_give xs p.1 ((treed_arm raw x.0).after scope) type as_ (tail_is is))

  -- ---- the parts of a for

  abbrev PartGives : Option (Scoped (Option Statement)) → Type 0
  PartGives None = Unit {0}
  PartGives (Some b) = Gives b

  part_gives_feedless : (part : Option (Scoped (Option Statement))) → PartGives part → (scope : Scope) (t : Option Statement) → part_tree part scope ≡ Some t → part_feedless t ≡ true
  part_gives_feedless None h scope t is = ap part_feedless (sym (some_same is))
  part_gives_feedless (Some b) h scope t is =
      let g = given (b.gives scope) t (Some (b.gives scope)) refl is in
      ap part_feedless g.2 ∙ h scope g.0 g.1

  for_gives : (l : ℕ) (i k : Option (Scoped (Option Statement))) (a : RawExpr) (b : List ((x : RawStatement) × Q x)) → PartGives i → raw_expr_feedless a ≡ true → PartGives k → raw_body_feedless (bodies b) ≡ true
      → (scope : Scope) (t : Statement)
      → for_tree scope.statements l (part_tree i (opened (numbered scope))) (expr_of raw (scope_of_test i scope) a) (part_tree k (scope_of_test i scope)) (block_tree (map (treed raw) (bodies b)) (scope_of_body i k scope)) ≡ Some t
      → statement_feedless t ≡ true
  for_gives l i k a b hi ha hk hb scope t is =
      let x = then_there _ (part_tree i (opened (numbered scope))) t is in
      let y = then_there _ (expr_of raw (scope_of_test i scope) a) t x.same in
      let z = both_there (s.For scope.statements l x.value y.value) (part_tree k (scope_of_test i scope)) (block_tree (map (treed raw) (bodies b)) (scope_of_body i k scope)) t y.same in
      for_by scope.statements l x.value y.value z.left z.right z.same
      (part_gives_feedless i hi (opened (numbered scope)) x.value x.there)
      (expr_given raw (scope_of_test i scope) a ha y.value y.there)
      (part_gives_feedless k hk (scope_of_test i scope) z.left z.left_there)
      (block_gives b hb (scope_of_body i k scope) z.right z.right_there)

  return_gives : (scope : Scope) (a : Option RawExpr) → option_map_or raw_expr_feedless a true ≡ true → (x : Option Expr) → optional (option_map (expr_of raw scope) a) ≡ Some x → option_map_or expr_feedless x true ≡ true
  return_gives scope None h x is = ap (λ (o : Option Expr). option_map_or expr_feedless o true) (sym (some_same is))
  return_gives scope (Some a) h x is =
      let g = given (expr_of raw scope a) x (Some (expr_of raw scope a)) refl is in
      ap (λ (o : Option Expr). option_map_or expr_feedless o true) g.2 ∙ expr_given raw scope a h g.0 g.1

  -- ---- all forms

  abbrev layer : StatementParts Q R → RawStatement-F RawStatement RawArm
  layer = statement_layer Q R

  abbrev step_of : StatementParts Q R → Scoped (Option Statement)
  step_of y = treed_step raw (map-RawStatement RawStatement RawArm (Scoped (Option Statement)) (Scoped ArmTree) (treed raw) (treed_arm raw) (layer y))

  step_gives : (y : StatementParts Q R) → raw_statement_step (map-RawStatement RawStatement RawArm Bool Bool raw_statement_feedless raw_arm_feedless (layer y)) ≡ true → Gives (step_of y)
  step_gives (RawStatement-F.Declare l v i) h scope t is =
      let p = and_parts (raw_var_feedless v) (raw_init_feedless i) h in
      let id = declaration_id i scope.statements in
      let inside = with_variable raw v i scope in
      let g = map_there (s.Declare id l scope.variables) (init_of raw inside i) t is in
      statement_by (Statement-F.Declare id l scope.variables g.value) (s.rolls-Declare id l scope.variables g.value) g.same (init_given raw inside i g.value p.1 g.there)
  step_gives (RawStatement-F.Assign l a op b) h scope t is =
      let p = and_parts (raw_expr_feedless a) (raw_expr_feedless b) h in
      let g = both_there (λ (x y : Expr). s.Assign scope.statements l x op y) (expr_of raw scope a) (expr_of raw scope b) t is in
      statement_by (Statement-F.Assign scope.statements l g.left op g.right) (s.rolls-Assign scope.statements l g.left op g.right) g.same
      (and_from _ _ (expr_given raw scope a p.0 g.left g.left_there) (expr_given raw scope b p.1 g.right g.right_there))
  step_gives (RawStatement-F.Bump l a up before) h scope t is =
      let g = map_there (λ (x : Expr). s.Bump scope.statements l x up before) (expr_of raw scope a) t is in
      statement_by (Statement-F.Bump scope.statements l g.value up before) (s.rolls-Bump scope.statements l g.value up before) g.same (expr_given raw scope a h g.value g.there)
  step_gives (RawStatement-F.Call l to f args) h scope t is =
      let p = and_parts (raw_target_feedless to) (list_all raw_arg_feedless args) h in
      call_given raw scope (with_target raw to scope) (bytes_eq f (codes "getchar")) (bytes_eq f (codes "putchar")) (bytes_eq f (codes "printf")) (bytes_eq f (codes "free")) scope.statements l to f args t p.0 p.1 is
  step_gives (RawStatement-F.Heap l to cast n) h scope t is =
      let p = and_parts (raw_target_feedless to) (option_map_or raw_name_feedless cast true && raw_amount_feedless n) h in
      heap_given raw scope (with_target raw to scope) scope.statements l to cast n t p.0 p.1 is
  step_gives (RawStatement-F.If l e a b) h scope t is =
      let p = and_parts (raw_expr_feedless e) (raw_body_feedless (bodies a) && raw_body_feedless (bodies b)) h in
      let q = and_parts (raw_body_feedless (bodies a)) (raw_body_feedless (bodies b)) p.1 in
      let next = after_block (map (treed raw) (bodies a)) (numbered scope) in
      let x = then_there _ (expr_of raw scope e) t is in
      let y = both_there (s.If scope.statements l x.value) (block_tree (map (treed raw) (bodies a)) (numbered scope)) (block_tree (map (treed raw) (bodies b)) next) t x.same in
      statement_by (Statement-F.If scope.statements l x.value y.left y.right) (s.rolls-If scope.statements l x.value y.left y.right) y.same
      (and_from _ _ (expr_given raw scope e p.0 x.value x.there) (and_from _ _ (block_gives a q.0 (numbered scope) y.left y.left_there) (block_gives b q.1 next y.right y.right_there)))
  step_gives (RawStatement-F.While l e b) h scope t is =
      let p = and_parts (raw_expr_feedless e) (raw_body_feedless (bodies b)) h in
      let y = both_there (s.While scope.statements l) (expr_of raw scope e) (block_tree (map (treed raw) (bodies b)) (numbered scope)) t is in
      statement_by (Statement-F.While scope.statements l y.left y.right) (s.rolls-While scope.statements l y.left y.right) y.same
      (and_from _ _ (expr_given raw scope e p.0 y.left y.left_there) (block_gives b p.1 (numbered scope) y.right y.right_there))
  step_gives (RawStatement-F.Do l e b) h scope t is =
      let p = and_parts (raw_expr_feedless e) (raw_body_feedless (bodies b)) h in
      let y = both_there (s.Do scope.statements l) (expr_of raw scope e) (block_tree (map (treed raw) (bodies b)) (numbered scope)) t is in
      statement_by (Statement-F.Do scope.statements l y.left y.right) (s.rolls-Do scope.statements l y.left y.right) y.same
      (and_from _ _ (expr_given raw scope e p.0 y.left y.left_there) (block_gives b p.1 (numbered scope) y.right y.right_there))
  step_gives (RawStatement-F.For l None e None b) h scope t is =
      let q = and_parts (raw_expr_feedless e) (raw_body_feedless (bodies b)) h in
      for_gives l None None e b tt q.0 tt q.1 scope t is
  step_gives (RawStatement-F.For l None e (Some k) b) h scope t is =
      let q = and_parts (raw_expr_feedless e) (raw_statement_feedless k.0 && raw_body_feedless (bodies b)) h in
      let r = and_parts (raw_statement_feedless k.0) (raw_body_feedless (bodies b)) q.1 in
      for_gives l None (Some (treed raw k.0)) e b tt q.0 (k.1 r.0) r.1 scope t is
  step_gives (RawStatement-F.For l (Some i) e None b) h scope t is =
      let p = and_parts (raw_statement_feedless i.0) (raw_expr_feedless e && raw_body_feedless (bodies b)) h in
      let q = and_parts (raw_expr_feedless e) (raw_body_feedless (bodies b)) p.1 in
      for_gives l (Some (treed raw i.0)) None e b (i.1 p.0) q.0 tt q.1 scope t is
  step_gives (RawStatement-F.For l (Some i) e (Some k) b) h scope t is =
      let p = and_parts (raw_statement_feedless i.0) (raw_expr_feedless e && (raw_statement_feedless k.0 && raw_body_feedless (bodies b))) h in
      let q = and_parts (raw_expr_feedless e) (raw_statement_feedless k.0 && raw_body_feedless (bodies b)) p.1 in
      let r = and_parts (raw_statement_feedless k.0) (raw_body_feedless (bodies b)) q.1 in
      for_gives l (Some (treed raw i.0)) (Some (treed raw k.0)) e b (i.1 p.0) q.0 (k.1 r.0) r.1 scope t is
  step_gives (RawStatement-F.Switch l e arms) h scope t is =
      let p = and_parts (raw_expr_feedless e) (all_true (map raw_arm_feedless (bodies_of_arms arms))) h in
      let bs = map (treed_arm raw) (bodies_of_arms arms) in
      let inside = opened (numbered scope) in
      let x = then_there _ (expr_of raw scope e) t is in
      let y = then_there _ (switch_type raw scope e) t x.same in
      let z = map_there (s.Switch scope.statements l x.value) (at_type y.value (in_order bs inside)) t y.same in
      statement_by (Statement-F.Switch scope.statements l x.value z.value) (s.rolls-Switch scope.statements l x.value z.value) z.same
      (and_from _ _ (expr_given raw scope e p.0 x.value x.there) (arms_give arms p.1 inside y.value z.value (collected_are (map (λ (a : ArmTree). a y.value) (in_order bs inside)) z.value z.there)))
  step_gives (RawStatement-F.Block l b) h scope t is =
      let g = map_there (s.Block l) (block_tree (map (treed raw) (bodies b)) scope) t is in
      statement_by (Statement-F.Block l g.value) (s.rolls-Block l g.value) g.same (block_gives b h scope g.value g.there)
  step_gives (RawStatement-F.Return l a) h scope t is =
      let g = map_there (s.Return scope.statements l) (optional (option_map (expr_of raw scope) a)) t is in
      return_by scope.statements l g.value g.same (return_gives scope a h g.value g.there)

  arm_step_gives : (y : ArmParts Q R) → raw_arm_step (map-RawArm RawStatement RawArm Bool Bool raw_statement_feedless raw_arm_feedless (arm_layer Q R y)) ≡ true
      → ArmGives (arm_tree_step raw (map-RawArm RawStatement RawArm (Scoped (Option Statement)) (Scoped ArmTree) (treed raw) (treed_arm raw) (arm_layer Q R y)))
  arm_step_gives y h scope type a is =
      let bs = map (treed raw) (bodies y.body) in
      let p = and_parts (list_all raw_label_feedless y.labels) (raw_body_feedless (bodies y.body)) h in
      let g = both_there arm_tree (collected (map (label_tree raw scope type) y.labels)) (collected (in_order bs scope)) a is in
      ap arm_feedless (sym g.same)
      ∙ fold-roll-Arm Bool Bool statement_step arm_step (record { labels = g.left; body = g.right })
      ∙ and_from _ _
      (all_given (label_tree raw scope type) raw_label_feedless label_feedless (label_given raw scope type) y.labels g.left p.0 (collected_are (map (label_tree raw scope type) y.labels) g.left g.left_there))
      (all_give y.body p.1 scope g.right (collected_are (in_order bs scope) g.right g.right_there))

  pub statement_given : (x : RawStatement) → Q x
  statement_given = of_every_statement Q R
      (λ y h scope t is.
      step_gives y (sym (fold-roll-RawStatement Bool Bool raw_statement_step raw_arm_step (layer y)) ∙ h) scope t
      (ap (λ (b : Scoped (Option Statement)). b.gives scope) (sym (fold-roll-RawStatement (Scoped (Option Statement)) (Scoped ArmTree) (treed_step raw) (arm_tree_step raw) (layer y))) ∙ is))
      (λ y h scope type a is.
      arm_step_gives y (sym (fold-roll-RawArm Bool Bool raw_statement_step raw_arm_step (arm_layer Q R y)) ∙ h) scope type a
      (ap (λ (b : Scoped ArmTree). b.gives scope type) (sym (fold-roll-RawArm (Scoped (Option Statement)) (Scoped ArmTree) (treed_step raw) (arm_tree_step raw) (arm_layer Q R y))) ∙ is))

  in_order_given : (xs : List RawStatement) → raw_body_feedless xs ≡ true → (scope : Scope) (ts : List Statement) → in_order (map (treed raw) xs) scope ≡ map Some ts → list_all statement_feedless ts ≡ true
  in_order_given [] h scope [] is = refl
  in_order_given [] h scope (t ∷ ts) is = no_list (sym is)
  in_order_given (x ∷ xs) h scope [] is = no_list is
  in_order_given (x ∷ xs) h scope (t ∷ ts) is =
      let p = and_parts (raw_statement_feedless x) (raw_body_feedless xs) h in
      and_from _ _ (statement_given x p.0 scope t (head_is is)) (in_order_given xs p.1 ((treed raw x).after scope) ts (tail_is is))

  pub body_given : (xs : List RawStatement) (scope : Scope) (ts : List Statement) → raw_body_feedless xs ≡ true → body_of raw xs scope ≡ Some ts → list_all statement_feedless ts ≡ true
  body_given xs scope ts h is = in_order_given xs h scope ts (collected_are (in_order (map (treed raw) xs) scope) ts is)

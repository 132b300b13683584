-- Statements without parts have the same trees but for numbers, at places that agree on their names.
use Rattle.std.proofs.Common.{◌≡◌, ℕ, List, [], ◌∷◌, ◌++◌, map, Bool, true, false, Option, Some, None, codes, refl, sym, ap, ap₂, subst, ◌∙◌}
use Rattle.std.specs.Prelude.{option_map, option_and_then, if◌then◌else◌, bytes_eq, Contains, ℤ}
use Rattle.std.proofs.lemmas.List.Elements.{Contains-append_left, Contains-append_right}
use Rattle.c_arith.specs.declared.int_type.IntType.{IntType}
use Rattle.c_arith.specs.declared.operators.BinaryOp.{BinaryOp}
use Rattle.c_arith.specs.IntType.{convert, promote}
use Rattle.c_tree.specs.declared.types.CType.{CType}
use Rattle.c_tree.specs.declared.expr.Expr.{Expr}
use Rattle.c_tree.specs.declared.program.Init.TheVariants as begins
use Rattle.c_tree.specs.declared.statement.Target.{Target}
use Rattle.c_tree.specs.declared.statement.Target.TheVariants as to_place
use Rattle.c_tree.specs.declared.statement.Size.{Size}
use Rattle.c_tree.specs.declared.statement.Size.TheVariants as measure
use Rattle.c_tree.specs.declared.statement.Amount.{Amount}
use Rattle.c_tree.specs.declared.statement.Amount.TheVariants as quantity
use Rattle.c_tree.specs.declared.statement.Label.TheVariants as arm_label
use Rattle.c_tree.specs.declared.statement.Statement.{Statement}
use Rattle.c_tree.specs.declared.statement.Statement.TheVariants as s
use Rattle.c_tree.specs.declared.raw.expr.RawExpr.{RawExpr}
use Rattle.c_tree.specs.declared.raw.expr.RawVar.{RawVar}
use Rattle.c_tree.specs.declared.raw.program.RawInit.{RawInit}
use Rattle.c_tree.specs.declared.raw.program.RawInit.TheVariants as init
use Rattle.c_tree.specs.declared.raw.program.RawProgram.{RawProgram}
use Rattle.c_tree.specs.declared.raw.statement.RawTarget.{RawTarget}
use Rattle.c_tree.specs.declared.raw.statement.RawTarget.TheVariants as target
use Rattle.c_tree.specs.declared.raw.statement.RawArg.{RawArg}
use Rattle.c_tree.specs.declared.raw.statement.RawArg.TheVariants as arg
use Rattle.c_tree.specs.declared.raw.statement.RawTypeName.{RawTypeName}
use Rattle.c_tree.specs.declared.raw.statement.RawSize.{RawSize}
use Rattle.c_tree.specs.declared.raw.statement.RawSize.TheVariants as size
use Rattle.c_tree.specs.declared.raw.statement.RawAmount.{RawAmount}
use Rattle.c_tree.specs.declared.raw.statement.RawAmount.TheVariants as amount
use Rattle.c_tree.specs.declared.raw.statement.RawLabel.{RawLabel}
use Rattle.c_tree.specs.declared.raw.statement.RawLabel.TheVariants as label
use Rattle.c_tree.specs.declared.raw.statement.RawStatement.TheOpen.{RawStatement-F}
use Rattle.c_language.specs.Words.{Bytes}
use Rattle.c_language.specs.TypeGrammar.{named_type}
use Rattle.c_language.specs.ConstantEvaluation.{both, value_of_constant}
use Rattle.c_language.specs.DeclaredTypes.{function_id}
use Rattle.c_language.specs.Scopes.{Scope, Scoped, meaning_in, with_target, with_variable}
use Rattle.c_language.specs.ExprTypes.{integer_of}
use Rattle.c_language.specs.CallRules.{format_in, later_args}
use Rattle.c_language.specs.Phrases.{InBlock, Part, Begins, Assigns, Bumps, Calls, Allocates, Returns}
use Rattle.c_language.specs.Uses.{init_exprs, target_exprs, arg_exprs, counts, sizes, cases, if_given, expressions, holds}
use Rattle.c_language.specs.ProgramOf.{collected, optional, ctype, ctype_if, expr_of, exprs_of, init_of, declaration_id, target_tree, arg_tree, args_tree, only_tree, print_tree, invoke_tree, call_tree, size_tree, amount_tree, heap_tree, label_tree, switch_type, ArmTree, tree_step, variable_number}
use Rattle.c_language.specs.declared.expr_type.Operand.{Operand}
use Rattle.c_language.proofs.Options.{none_there, some_same}
use Rattle.c_language.proofs.Lists.{contains_first, contains_later}
use Rattle.c_language.proofs.OptionMaps.{map_turns, both_turns, then_turns, collected_map}
use Rattle.c_scope_laws.specs.Agreement.{Names, NamesFunction, in_expression, measured, SameOutside, Agree, TreesAgree, simple_part, simple_scope}
use Rattle.projection.specs.Renumbering.{Numbers, renamed, renamed_init, renamed_target, renamed_size, renamed_amount, renamed_label, renumbered}
use Rattle.c_scope_laws.proofs.Outside.{ctypes_same}
use Rattle.c_scope_laws.proofs.ExprAgreement.{Covers, operands_same, numbers_same, exprs_same}
use Rattle.c_scope_laws.proofs.RenumberingLemmas.{renumbered-Declare, renumbered-Assign, renumbered-Bump, renumbered-Invoke, renumbered-Fetch, renumbered-Write, renumbered-Print, renumbered-Heap, renumbered-Release, renumbered-Return}

if_turns : {A B : Type 0} (h : A → B) (b : Bool) (x y : Option B) (z w : Option A) → x ≡ option_map h z → y ≡ option_map h w → (if b then x else y) ≡ option_map h (if b then z else w)
if_turns h true x y z w p q = p
if_turns h false x y z w p q = q

-- these are all names of a list's expressions
abbrev pub CoversAll : (Bytes → Type 0) → List RawExpr → Type 0
CoversAll named all = (a : RawExpr) → Contains all a → Covers named a

-- and all that sizes measure
abbrev pub CoversSizes : (Bytes → Type 0) → List RawSize → Type 0
CoversSizes named all = (x : Bytes) (closed : Bool) → Contains all (size.Pointee x closed) → named x

-- the expressions of the arguments behind the first are covered
pub rest_args : {named : Bytes → Type 0} (a : RawArg) (rest : List RawArg) → CoversAll named (arg_exprs (a ∷ rest)) → CoversAll named (arg_exprs rest)
rest_args (arg.Value x) rest c b k = c b (contains_later x b (arg_exprs rest) k)
rest_args (arg.Literal text) rest c b k = c b k

pub later_covered : {named : Bytes → Type 0} (args : List RawArg) → CoversAll named (arg_exprs args) → CoversAll named (arg_exprs (later_args args))
later_covered [] c = c
later_covered (a ∷ rest) c = rest_args a rest c

module _ (f : ℕ → ℕ) (named : Bytes → Type 0) (raw other : RawProgram) (scope next : Scope) (like : SameOutside raw other) (agree : Agree f named scope next) where
  tree : (a : RawExpr) → Covers named a → expr_of other next a ≡ option_map (renamed f) (expr_of raw scope a)
  tree a c = exprs_same f named raw other scope next like agree a c

  first_tree : (a : RawExpr) (rest : List RawExpr) → CoversAll named (a ∷ rest) → expr_of other next a ≡ option_map (renamed f) (expr_of raw scope a)
  first_tree a rest c = tree a (c a (contains_first a rest))

  pub rest_covered : (a : RawExpr) (rest : List RawExpr) → CoversAll named (a ∷ rest) → CoversAll named rest
  rest_covered a rest c b k = c b (contains_later a b rest k)

  -- ---- lists of expressions

  each_tree : (all : List RawExpr) → CoversAll named all → map (expr_of other next) all ≡ map (option_map (renamed f)) (map (expr_of raw scope) all)
  each_tree [] c = refl
  each_tree (a ∷ rest) c = ap₂ (λ (x : Option Expr) (xs : List (Option Expr)). x ∷ xs) (first_tree a rest c) (each_tree rest (rest_covered a rest c))

  expr_lists : (all : List RawExpr) → CoversAll named all → exprs_of other next all ≡ option_map (map (renamed f)) (exprs_of raw scope all)
  expr_lists all c = ap collected (each_tree all c) ∙ sym (collected_map (renamed f) (map (expr_of raw scope) all))

  pub inits_same : (i : RawInit) → CoversAll named (init_exprs i) → init_of other next i ≡ option_map (renamed_init f) (init_of raw scope i)
  inits_same init.None c = refl
  inits_same (init.One a) c = ap (option_map begins.One) (first_tree a [] c) ∙ map_turns (renamed f) (renamed_init f) begins.One begins.One (λ x. refl) (expr_of raw scope a)
  inits_same (init.Items all) c =
      ap (option_map begins.Items) (expr_lists all c) ∙ map_turns (map (renamed f)) (renamed_init f) begins.Items begins.Items (λ x. refl) (exprs_of raw scope all)

  pub targets_same : (to : RawTarget) → CoversAll named (target_exprs to) → next.variables ≡ f scope.variables → target_tree other next to ≡ option_map (renamed_target f) (target_tree raw scope to)
  targets_same target.None c n = refl
  targets_same (target.Place a) c n = ap (option_map to_place.Place) (first_tree a [] c) ∙ map_turns (renamed f) (renamed_target f) to_place.Place to_place.Place (λ x. refl) (expr_of raw scope a)
  targets_same (target.Declared v) c n = ap (λ (x : ℕ). Some (to_place.Declared x)) n

  -- ---- arguments

  each_arg : (args : List RawArg) → CoversAll named (arg_exprs args) → map (arg_tree other next) args ≡ map (option_map (renamed f)) (map (arg_tree raw scope) args)
  each_arg [] c = refl
  each_arg (arg.Value a ∷ rest) c =
      ap₂ (λ (x : Option Expr) (xs : List (Option Expr)). x ∷ xs) (first_tree a (arg_exprs rest) c) (each_arg rest (rest_covered a (arg_exprs rest) c))
  each_arg (arg.Literal text ∷ rest) c = ap (λ (xs : List (Option Expr)). None ∷ xs) (each_arg rest c)

  pub args_same : (args : List RawArg) → CoversAll named (arg_exprs args) → args_tree other next args ≡ option_map (map (renamed f)) (args_tree raw scope args)
  args_same args c = ap collected (each_arg args c) ∙ sym (collected_map (renamed f) (map (arg_tree raw scope) args))

  only_same : (args : List RawArg) → CoversAll named (arg_exprs args) → only_tree other next args ≡ option_map (renamed f) (only_tree raw scope args)
  only_same [] c = refl
  only_same (arg.Value a ∷ []) c = first_tree a [] c
  only_same (arg.Literal text ∷ []) c = refl
  only_same (a ∷ (b ∷ rest)) c = refl

  -- ---- amounts

  size_same : (m : RawSize) → CoversSizes named (m ∷ []) → size_tree other next m ≡ option_map (renamed_size f) (size_tree raw scope m)
  size_same (size.Type t) c = ap (option_map measure.Type) (ctypes_same raw other like 0 (named_type t)) ∙ by_type (ctype raw (named_type t))
    where
      by_type : (o : Option CType) → option_map measure.Type o ≡ option_map (renamed_size f) (option_map measure.Type o)
      by_type None = refl
      by_type (Some x) = refl
  size_same (size.Pointee x closed) c =
      ap (option_map (λ (n : ℕ). measure.Pointee n closed)) (numbers_same f named raw other scope next like agree x (c x closed (contains_first _ [])))
      ∙ map_turns f (renamed_size f) (λ (n : ℕ). measure.Pointee n closed) (λ (n : ℕ). measure.Pointee n closed) (λ n. refl) (variable_number (meaning_in scope x))

  pub amounts_same : (n : RawAmount) → CoversAll named (counts n) → CoversSizes named (sizes n) → amount_tree other next n ≡ option_map (renamed_amount f) (amount_tree raw scope n)
  amounts_same (amount.Size m) c k = ap (option_map quantity.Size) (size_same m k) ∙ map_turns (renamed_size f) (renamed_amount f) quantity.Size quantity.Size (λ x. refl) (size_tree raw scope m)
  amounts_same (amount.CountSize a m) c k =
      ap₂ (λ (x : Option Expr) (y : Option Size). both quantity.CountSize x y) (first_tree a [] c) (size_same m k)
      ∙ both_turns (renamed f) (renamed_size f) (renamed_amount f) quantity.CountSize quantity.CountSize (λ x y. refl) (expr_of raw scope a) (size_tree raw scope m)
  amounts_same (amount.SizeCount m a) c k =
      ap₂ (λ (x : Option Size) (y : Option Expr). both quantity.SizeCount x y) (size_same m k) (first_tree a [] c)
      ∙ both_turns (renamed_size f) (renamed f) (renamed_amount f) quantity.SizeCount quantity.SizeCount (λ x y. refl) (size_tree raw scope m) (expr_of raw scope a)
  amounts_same (amount.Count a) c k = ap (option_map quantity.Count) (first_tree a [] c) ∙ map_turns (renamed f) (renamed_amount f) quantity.Count quantity.Count (λ x. refl) (expr_of raw scope a)

  -- ---- switches and values

  pub labels_same : (t : IntType) (a : RawLabel) → CoversAll named (cases (a ∷ [])) → label_tree other next t a ≡ option_map (renamed_label f) (label_tree raw scope t a)
  labels_same t (label.Case a) c =
      ap (option_and_then (λ (x : Expr). option_map (λ (z : ℤ). arm_label.Case x (convert z t)) (value_of_constant a))) (first_tree a [] c)
      ∙ then_turns (renamed f) (renamed_label f) _ _ (λ x. by_value x (value_of_constant a)) (expr_of raw scope a)
    where
      by_value : (x : Expr) (v : Option ℤ) → option_map (λ (z : ℤ). arm_label.Case (renamed f x) (convert z t)) v ≡ option_map (renamed_label f) (option_map (λ (z : ℤ). arm_label.Case x (convert z t)) v)
      by_value x None = refl
      by_value x (Some z) = refl
  labels_same t label.Default c = refl

  pub switch_types_same : (a : RawExpr) → Covers named a → switch_type other next a ≡ switch_type raw scope a
  switch_types_same a c =
      ap (λ (x : Option Operand). option_map promote (option_and_then integer_of (option_map (λ (y : Operand). y.shape) x))) (operands_same f named raw other scope next like agree a c)

  values_same : (a : Option RawExpr) → CoversAll named (if_given a) → optional (option_map (expr_of other next) a) ≡ option_map (option_map (renamed f)) (optional (option_map (expr_of raw scope) a))
  values_same None c = refl
  values_same (Some a) c = ap (λ (x : Option Expr). optional (Some x)) (first_tree a [] c) ∙ by_value (expr_of raw scope a)
    where
      by_value : (o : Option Expr) → optional (Some (option_map (renamed f) o)) ≡ option_map (option_map (renamed f)) (optional (Some o))
      by_value None = refl
      by_value (Some x) = refl

-- ---- statements

module _ (ns : Numbers) (named : Bytes → Type 0) (raw other : RawProgram) (scope next : Scope) (like : SameOutside raw other) (agree : Agree ns.variable named scope next) (n k : ℕ) (numbered : k ≡ ns.statement n) where
  abbrev moved : Option Statement → Option Statement
  moved o = option_map (renumbered ns) o

  abbrev heap_form : ℕ → ℕ → Option Target → Option (Option CType) → Option Amount → Option Statement
  heap_form l i to c m = option_and_then (λ (t : Target). option_and_then (λ (c : Option CType). option_map (s.Heap i l t c) m) c) to

  casts_same : (c : Option RawTypeName) → ctype_if other (option_map named_type c) ≡ ctype_if raw (option_map named_type c)
  casts_same None = refl
  casts_same (Some t) = ap (λ (x : Option CType). optional (Some x)) (ctypes_same raw other like 0 (named_type t))

  heaps_same : (l : ℕ) (to : Option Target) (cast : Option RawTypeName) (m : RawAmount) → CoversAll named (counts m) → CoversSizes named (sizes m)
      → heap_tree other next k l (option_map (renamed_target ns.variable) to) cast m ≡ moved (heap_tree raw scope n l to cast m)
  heaps_same l to cast m c d =
      ap₂ (λ (x : Option (Option CType)) (y : Option Amount). heap_form l k (option_map (renamed_target ns.variable) to) x y) (casts_same cast) (amounts_same ns.variable named raw other scope next like agree m c d)
      ∙ ap (λ (i : ℕ). heap_form l i (option_map (renamed_target ns.variable) to) (ctype_if raw (option_map named_type cast)) (option_map (renamed_amount ns.variable) (amount_tree raw scope m))) numbered
      ∙ by_parts to (ctype_if raw (option_map named_type cast)) (amount_tree raw scope m)
    where
      by_parts : (t : Option Target) (c : Option (Option CType)) (m : Option Amount) → heap_form l (ns.statement n) (option_map (renamed_target ns.variable) t) c (option_map (renamed_amount ns.variable) m) ≡ moved (heap_form l n t c m)
      by_parts None c m = refl
      by_parts (Some t) None m = refl
      by_parts (Some t) (Some c) None = refl
      by_parts (Some t) (Some c) (Some m) = ap Some (sym (renumbered-Heap ns n l t c m))

  calls_same : (l : ℕ) (to : Option Target) (f : Bytes) (args : List RawArg) → CoversAll named (arg_exprs args) → function_id other f ≡ option_map ns.function (function_id raw f)
      → call_tree other next k l (option_map (renamed_target ns.variable) to) f args ≡ moved (call_tree raw scope n l to f args)
  calls_same l to f args c defined =
      if_turns (renumbered ns) (bytes_eq f (codes "getchar")) _ _ _ _ fetch
      (if_turns (renumbered ns) (bytes_eq f (codes "putchar")) _ _ _ _ write
      (if_turns (renumbered ns) (bytes_eq f (codes "printf")) _ _ _ _ prints
      (if_turns (renumbered ns) (bytes_eq f (codes "free")) _ _ _ _ release invoke)))
    where
      only : only_tree other next args ≡ option_map (renamed ns.variable) (only_tree raw scope args)
      only = only_same ns.variable named raw other scope next like agree args c

      fetch : option_map (s.Fetch k l) (option_map (renamed_target ns.variable) to) ≡ moved (option_map (s.Fetch n l) to)
      fetch = map_turns (renamed_target ns.variable) (renumbered ns) (s.Fetch n l) (s.Fetch k l) (λ t. ap (λ (i : ℕ). s.Fetch i l (renamed_target ns.variable t)) numbered ∙ sym (renumbered-Fetch ns n l t)) to

      write : option_map (s.Write k l) (only_tree other next args) ≡ moved (option_map (s.Write n l) (only_tree raw scope args))
      write =
          ap (option_map (s.Write k l)) only
          ∙ map_turns (renamed ns.variable) (renumbered ns) (s.Write n l) (s.Write k l) (λ a. ap (λ (i : ℕ). s.Write i l (renamed ns.variable a)) numbered ∙ sym (renumbered-Write ns n l a)) (only_tree raw scope args)

      release : option_map (s.Release k l) (only_tree other next args) ≡ moved (option_map (s.Release n l) (only_tree raw scope args))
      release =
          ap (option_map (s.Release k l)) only
          ∙ map_turns (renamed ns.variable) (renumbered ns) (s.Release n l) (s.Release k l) (λ a. ap (λ (i : ℕ). s.Release i l (renamed ns.variable a)) numbered ∙ sym (renumbered-Release ns n l a)) (only_tree raw scope args)

      print_of : (text : Bytes) (as_ : List Expr) → s.Print k l text (map (renamed ns.variable) as_) ≡ renumbered ns (s.Print n l text as_)
      print_of text as_ = ap (λ (i : ℕ). s.Print i l text (map (renamed ns.variable) as_)) numbered ∙ sym (renumbered-Print ns n l text as_)

      print_by : (o : Option Bytes) (x : Option (List Expr)) → option_and_then (λ (text : Bytes). option_map (s.Print k l text) (option_map (map (renamed ns.variable)) x)) o ≡ moved (option_and_then (λ (text : Bytes). option_map (s.Print n l text) x) o)
      print_by None x = refl
      print_by (Some text) x = map_turns (map (renamed ns.variable)) (renumbered ns) (s.Print n l text) (s.Print k l text) (print_of text) x

      prints : print_tree other next k l args ≡ moved (print_tree raw scope n l args)
      prints =
          ap (λ (x : Option (List Expr)). option_and_then (λ (text : Bytes). option_map (s.Print k l text) x) (format_in args))
          (args_same ns.variable named raw other scope next like agree (later_args args) (later_covered args c))
          ∙ print_by (format_in args) (args_tree raw scope (later_args args))

      invoke_by : (t : Option Target) (i : Option ℕ) (x : Option (List Expr))
          → option_and_then (λ (t : Target). both (s.Invoke k l t) (option_map ns.function i) (option_map (map (renamed ns.variable)) x)) (option_map (renamed_target ns.variable) t) ≡ moved (option_and_then (λ (t : Target). both (s.Invoke n l t) i x) t)
      invoke_by None i x = refl
      invoke_by (Some t) i x =
          both_turns ns.function (map (renamed ns.variable)) (renumbered ns) (s.Invoke n l t) (s.Invoke k l (renamed_target ns.variable t))
          (λ g as_. ap (λ (j : ℕ). s.Invoke j l (renamed_target ns.variable t) (ns.function g) (map (renamed ns.variable) as_)) numbered ∙ sym (renumbered-Invoke ns n l t g as_)) i x

      invoke : invoke_tree other next k l (option_map (renamed_target ns.variable) to) f args ≡ moved (invoke_tree raw scope n l to f args)
      invoke =
          ap₂ (λ (i : Option ℕ) (x : Option (List Expr)). option_and_then (λ (t : Target). both (s.Invoke k l t) i x) (option_map (renamed_target ns.variable) to)) defined (args_same ns.variable named raw other scope next like agree args c)
          ∙ invoke_by to (function_id raw f) (args_tree raw scope args)

-- the names of a phrase's expressions are names of the phrase
pub part_covers : {named : Bytes → Type 0} (part : Part) → ((x : Bytes) → Names part x → named x) → CoversAll named (expressions part)
part_covers part h a c x n = h x (in_expression (holds c n))

pub left_covered : {named : Bytes → Type 0} (xs ys : List RawExpr) → CoversAll named (xs ++ ys) → CoversAll named xs
left_covered xs ys h a c = h a (Contains-append_left xs ys a c)

pub right_covered : {named : Bytes → Type 0} (xs ys : List RawExpr) → CoversAll named (xs ++ ys) → CoversAll named ys
right_covered xs ys h a c = h a (Contains-append_right xs ys a c)

-- the scope of a target that stands at a place is that place's
target_place : {f : ℕ → ℕ} {named : Bytes → Type 0} (raw other : RawProgram) (scope next : Scope) (to : RawTarget)
    → SameOutside raw other → Agree f named (with_target raw to scope) (with_target other to next) → CoversAll named (target_exprs to)
    → next.variables ≡ f scope.variables → target_tree other next to ≡ option_map (renamed_target f) (target_tree raw scope to)
target_place {f} {named} raw other scope next target.None like agree c n = refl
target_place {f} {named} raw other scope next (target.Place a) like agree c n = targets_same f named raw other scope next like agree (target.Place a) c n
target_place {f} {named} raw other scope next (target.Declared v) like agree c n = ap (λ (x : ℕ). Some (to_place.Declared x)) n

module _ (ns : Numbers) (named functions : Bytes → Type 0) (raw other : RawProgram) (scope next : Scope) (fit : TreesAgree ns functions raw other scope next) where
  abbrev Fits : RawStatement-F (Scoped (Option Statement)) (Scoped ArmTree) → Type 0
  Fits x = tree_step other x next ≡ option_map (renumbered ns) (tree_step raw x scope)

  declare_fits : (l : ℕ) (v : RawVar) (i : RawInit) → Agree ns.variable named (with_variable raw v i scope) (with_variable other v i next) → CoversAll named (init_exprs i) → Fits (RawStatement-F.Declare l v i)
  declare_fits l v i agree c =
      ap₂ (λ (m : ℕ) (y : ℕ). option_map (s.Declare (declaration_id i m) l y) (init_of other (with_variable other v i next) i)) fit.statements fit.variables
      ∙ ap (λ (id : Option ℕ). option_map (s.Declare id l (ns.variable scope.variables)) (init_of other (with_variable other v i next) i)) (by_init i)
      ∙ ap (option_map (s.Declare (option_map ns.statement (declaration_id i scope.statements)) l (ns.variable scope.variables))) (inits_same ns.variable named raw other (with_variable raw v i scope) (with_variable other v i next) fit.outside agree i c)
      ∙ map_turns (renamed_init ns.variable) (renumbered ns) (s.Declare (declaration_id i scope.statements) l scope.variables) (s.Declare (option_map ns.statement (declaration_id i scope.statements)) l (ns.variable scope.variables))
      (λ x. sym (renumbered-Declare ns (declaration_id i scope.statements) l scope.variables x)) (init_of raw (with_variable raw v i scope) i)
    where
      by_init : (i : RawInit) → declaration_id i (ns.statement scope.statements) ≡ option_map ns.statement (declaration_id i scope.statements)
      by_init init.None = refl
      by_init (init.One a) = refl
      by_init (init.Items all) = refl

  assign_fits : (l : ℕ) (left : RawExpr) (op : Option BinaryOp) (right : RawExpr) → Agree ns.variable named scope next → CoversAll named (left ∷ (right ∷ [])) → Fits (RawStatement-F.Assign l left op right)
  assign_fits l left op right agree c =
      ap₂ (λ (a b : Option Expr). both (λ (x y : Expr). s.Assign next.statements l x op y) a b)
      (exprs_same ns.variable named raw other scope next fit.outside agree left (c left (contains_first left (right ∷ []))))
      (exprs_same ns.variable named raw other scope next fit.outside agree right (c right (contains_later left right (right ∷ []) (contains_first right []))))
      ∙ both_turns (renamed ns.variable) (renamed ns.variable) (renumbered ns) (λ (x y : Expr). s.Assign scope.statements l x op y) (λ (x y : Expr). s.Assign next.statements l x op y)
      (λ x y. ap (λ (n : ℕ). s.Assign n l (renamed ns.variable x) op (renamed ns.variable y)) fit.statements ∙ sym (renumbered-Assign ns scope.statements l x op y)) (expr_of raw scope left) (expr_of raw scope right)

  bump_fits : (l : ℕ) (left : RawExpr) (up before : Bool) → Agree ns.variable named scope next → CoversAll named (left ∷ []) → Fits (RawStatement-F.Bump l left up before)
  bump_fits l left up before agree c =
      ap (option_map (λ (a : Expr). s.Bump next.statements l a up before)) (exprs_same ns.variable named raw other scope next fit.outside agree left (c left (contains_first left [])))
      ∙ map_turns (renamed ns.variable) (renumbered ns) (λ (a : Expr). s.Bump scope.statements l a up before) (λ (a : Expr). s.Bump next.statements l a up before)
      (λ a. ap (λ (n : ℕ). s.Bump n l (renamed ns.variable a) up before) fit.statements ∙ sym (renumbered-Bump ns scope.statements l a up before)) (expr_of raw scope left)

  return_fits : (l : ℕ) (value : Option RawExpr) → Agree ns.variable named scope next → CoversAll named (if_given value) → Fits (RawStatement-F.Return l value)
  return_fits l value agree c =
      ap (option_map (s.Return next.statements l)) (values_same ns.variable named raw other scope next fit.outside agree value c)
      ∙ map_turns (option_map (renamed ns.variable)) (renumbered ns) (s.Return scope.statements l) (s.Return next.statements l)
      (λ a. ap (λ (n : ℕ). s.Return n l (option_map (renamed ns.variable) a)) fit.statements ∙ sym (renumbered-Return ns scope.statements l a)) (optional (option_map (expr_of raw scope) value))

  call_fits : (l : ℕ) (to : RawTarget) (f : Bytes) (args : List RawArg) → Agree ns.variable named (with_target raw to scope) (with_target other to next) → CoversAll named (target_exprs to ++ arg_exprs args) → functions f
      → Fits (RawStatement-F.Call l to f args)
  call_fits l to f args agree c is_named =
      ap (λ (t : Option Target). call_tree other (with_target other to next) next.statements l t f args) (target_place raw other scope next to fit.outside agree (left_covered (target_exprs to) (arg_exprs args) c) fit.variables)
      ∙ calls_same ns named raw other (with_target raw to scope) (with_target other to next) fit.outside agree scope.statements next.statements fit.statements l (target_tree raw scope to) f args
      (right_covered (target_exprs to) (arg_exprs args) c) (fit.heads f is_named)

  heap_fits : (l : ℕ) (to : RawTarget) (cast : Option RawTypeName) (n : RawAmount) → Agree ns.variable named (with_target raw to scope) (with_target other to next) → CoversAll named (target_exprs to ++ counts n) → CoversSizes named (sizes n)
      → Fits (RawStatement-F.Heap l to cast n)
  heap_fits l to cast n agree c k =
      ap (λ (t : Option Target). heap_tree other (with_target other to next) next.statements l t cast n) (target_place raw other scope next to fit.outside agree (left_covered (target_exprs to) (counts n) c) fit.variables)
      ∙ heaps_same ns named raw other (with_target raw to scope) (with_target other to next) fit.outside agree scope.statements next.statements fit.statements l (target_tree raw scope to) cast n
      (right_covered (target_exprs to) (counts n) c) k

pub simple_fits : (ns : Numbers) (raw other : RawProgram) (scope next : Scope) (x : RawStatement-F (Scoped (Option Statement)) (Scoped ArmTree)) (part : Part)
    → simple_part x ≡ Some part → TreesAgree ns (NamesFunction part) raw other scope next → Agree ns.variable (Names part) (simple_scope raw x scope) (simple_scope other x next)
    → tree_step other x next ≡ option_map (renumbered ns) (tree_step raw x scope)
simple_fits ns raw other scope next (RawStatement-F.Declare l v i) part h fit agree =
    declare_fits ns (Names part) (NamesFunction part) raw other scope next fit l v i agree (part_covers (Begins InBlock v i) (λ x n. subst (λ (p : Part). Names p x) (some_same h) n))
simple_fits ns raw other scope next (RawStatement-F.Assign l left op right) part h fit agree =
    assign_fits ns (Names part) (NamesFunction part) raw other scope next fit l left op right agree (part_covers (Assigns left op right) (λ x n. subst (λ (p : Part). Names p x) (some_same h) n))
simple_fits ns raw other scope next (RawStatement-F.Bump l left up before) part h fit agree =
    bump_fits ns (Names part) (NamesFunction part) raw other scope next fit l left up before agree (part_covers (Bumps left) (λ x n. subst (λ (p : Part). Names p x) (some_same h) n))
simple_fits ns raw other scope next (RawStatement-F.Call l to f args) part h fit agree =
    call_fits ns (Names part) (NamesFunction part) raw other scope next fit l to f args agree (part_covers (Calls InBlock to f args) (λ x n. subst (λ (p : Part). Names p x) (some_same h) n))
    (subst (λ (p : Part). NamesFunction p f) (some_same h) NamesFunction.called)
simple_fits ns raw other scope next (RawStatement-F.Heap l to cast n) part h fit agree =
    heap_fits ns (Names part) (NamesFunction part) raw other scope next fit l to cast n agree (part_covers (Allocates to cast n) (λ x k. subst (λ (p : Part). Names p x) (some_same h) k))
    (λ x closed c. subst (λ (p : Part). Names p x) (some_same h) (measured c))
simple_fits ns raw other scope next (RawStatement-F.Return l value) part h fit agree =
    return_fits ns (Names part) (NamesFunction part) raw other scope next fit l value agree (part_covers (Returns value) (λ x n. subst (λ (p : Part). Names p x) (some_same h) n))
simple_fits ns raw other scope next (RawStatement-F.If l a b c) part h fit agree = none_there h
simple_fits ns raw other scope next (RawStatement-F.While l a b) part h fit agree = none_there h
simple_fits ns raw other scope next (RawStatement-F.Do l a b) part h fit agree = none_there h
simple_fits ns raw other scope next (RawStatement-F.For l i a step b) part h fit agree = none_there h
simple_fits ns raw other scope next (RawStatement-F.Switch l a arms) part h fit agree = none_there h
simple_fits ns raw other scope next (RawStatement-F.Block l b) part h fit agree = none_there h

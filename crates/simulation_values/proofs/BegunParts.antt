-- Where no number that a part of a text gives to a variable is one of some, its tree begins none of these.
use Rattle.std.proofs.Common.{◌≡◌, ℕ, ◌≤◌, ◌<◌, ℤ, List, [], ◌∷◌, map, Bool, true, false, Option, Some, None, option_map, option_and_then, refl, sym, ap, ◌∙◌, subst, arith, le_refl}
use Rattle.std.specs.Prelude.{if◌then◌else◌, bytes_eq, codes}
use Rattle.c_arith.specs.declared.int_type.IntType.{IntType}
use Rattle.c_arith.specs.declared.operators.BinaryOp.{BinaryOp}
use Rattle.c_tree.specs.declared.types.CType.{CType}
use Rattle.c_tree.specs.declared.expr.Expr.{Expr}
use Rattle.c_tree.specs.declared.program.Init.{Init}
use Rattle.c_tree.specs.declared.raw.expr.RawExpr.{RawExpr}
use Rattle.c_tree.specs.declared.raw.expr.RawVar.{RawVar}
use Rattle.c_tree.specs.declared.raw.program.RawInit.{RawInit}
use Rattle.c_tree.specs.declared.raw.program.RawInit.TheVariants as init
use Rattle.c_tree.specs.declared.raw.program.RawProgram.{RawProgram}
use Rattle.c_tree.specs.declared.raw.statement.RawAmount.{RawAmount}
use Rattle.c_tree.specs.declared.raw.statement.RawArg.{RawArg}
use Rattle.c_tree.specs.declared.raw.statement.RawArm.{RawArm, roll-RawArm, map-RawArm, fold-roll-RawArm}
use Rattle.c_tree.specs.declared.raw.statement.RawStatement.{RawStatement, ind-RawStatement, roll-RawStatement, map-RawStatement, fold-roll-RawStatement}
use Rattle.c_tree.specs.declared.raw.statement.RawStatement.TheOpen.{RawStatement-F, RawArm-F}
use Rattle.c_tree.specs.declared.raw.statement.RawTarget.{RawTarget}
use Rattle.c_tree.specs.declared.raw.statement.RawTarget.TheVariants as raw_target
use Rattle.c_tree.specs.declared.statement.Amount.{Amount}
use Rattle.c_tree.specs.declared.statement.Arm.{Arm, fold-Arm, fold-roll-Arm}
use Rattle.c_tree.specs.declared.statement.Statement.{Statement, fold-roll-Statement}
use Rattle.c_tree.specs.declared.statement.Statement.TheOpen.{Statement-F}
use Rattle.c_tree.specs.declared.statement.Statement.TheVariants as s
use Rattle.c_tree.specs.declared.statement.Target.{Target}
use Rattle.c_tree.specs.declared.statement.Target.TheVariants as target
use Rattle.c_language.specs.Code.{Sets, Bumps, Fetches, Writes, Prints, Allocates, Frees, Returns, Code, End, Opens, Plain, Fork, Loop, Leaves, Call, ◌⨟◌, is_true, either, leave, StatementPart, doing, declaring, declared_in, in_turn, list_of, block, ArmPart, has_case, has_default, default_arm, case_arm, taken_arm, begun_code, optional, given_to, part_step, arm_step, part, code}
use Rattle.c_language.specs.CallRules.{format_in, later_args}
use Rattle.c_language.specs.ConstantEvaluation.{both}
use Rattle.c_language.specs.DeclaredTypes.{function_id}
use Rattle.c_language.specs.Words.{Bytes}
use Rattle.c_language.specs.TypeGrammar.{named_type}
use Rattle.c_language.specs.ProgramOf.{collected, optional as optional_tree, ctype_if, expr_of, init_of, declaration_id, target_tree, only_tree, args_tree, amount_tree, call_tree, heap_tree, label_tree, arm_tree, ArmTree, arm_tree_step, block_tree, at_type, switch_type, for_tree, treed_step, treed, treed_arm}
use Rattle.c_language.specs.Scopes.{Scope, Scoped, opened, numbered, with_variable, with_target, begun, in_order, after_all, after_block}
use Rattle.c_language.proofs.Options.{some_same, optional_there, map_there, then_there, both_there, more_there}
use Rattle.dep_model.proofs.Options.{Always, always_map, always_then, always_both, always_if, always_is}
use Rattle.dep_model.proofs.TextNumbers.{for_some}
use Rattle.kept_texts.proofs.NamesReach.{body_grows}
use Rattle.kept_texts.proofs.Spans.{Any}
use Rattle.simulation_steps.specs.OwnGlobals.{BeginsNone}

-- ---- the code of each form

abbrev arm_part : Arm → ArmPart
arm_part = fold-Arm StatementPart ArmPart part_step arm_step

abbrev opt_part : Option Statement → Option StatementPart
opt_part None = None
opt_part (Some x) = Some (part x)

part-If : (id l : ℕ) (e : Expr) (a b : List Statement) → part (s.If id l e a b) ≡ doing (Fork id e (λ v. either (is_true v) (block (map part a)) (block (map part b))))
part-If id l e a b = ap part (sym (s.rolls-If id l e a b)) ∙ fold-roll-Statement StatementPart ArmPart part_step arm_step (Statement-F.If id l e a b)

part-While : (id l : ℕ) (e : Expr) (b : List Statement) → part (s.While id l e b) ≡ doing (Loop id e (block (map part b)))
part-While id l e b = ap part (sym (s.rolls-While id l e b)) ∙ fold-roll-Statement StatementPart ArmPart part_step arm_step (Statement-F.While id l e b)

part-Do : (id l : ℕ) (e : Expr) (b : List Statement) → part (s.Do id l e b) ≡ doing (λ r. block (map part b) ⨟ Loop id e (block (map part b)) r)
part-Do id l e b = ap part (sym (s.rolls-Do id l e b)) ∙ fold-roll-Statement StatementPart ArmPart part_step arm_step (Statement-F.Do id l e b)

abbrev for_part : ℕ → Option StatementPart → Expr → Option StatementPart → List StatementPart → StatementPart
for_part id i e k b =
    doing (λ r. list_of (optional i) ⨟ Loop id e (block b ⨟ list_of (optional k)) (leave (declared_in (optional i)) r))

part-For : (id l : ℕ) (i : Option Statement) (e : Expr) (k : Option Statement) (b : List Statement) → part (s.For id l i e k b) ≡ for_part id (opt_part i) e (opt_part k) (map part b)
part-For id l None e None b = ap part (sym (s.rolls-For id l None e None b)) ∙ fold-roll-Statement StatementPart ArmPart part_step arm_step (Statement-F.For id l None e None b)
part-For id l None e (Some k) b = ap part (sym (s.rolls-For id l None e (Some k) b)) ∙ fold-roll-Statement StatementPart ArmPart part_step arm_step (Statement-F.For id l None e (Some k) b)
part-For id l (Some i) e None b = ap part (sym (s.rolls-For id l (Some i) e None b)) ∙ fold-roll-Statement StatementPart ArmPart part_step arm_step (Statement-F.For id l (Some i) e None b)
part-For id l (Some i) e (Some k) b = ap part (sym (s.rolls-For id l (Some i) e (Some k) b)) ∙ fold-roll-Statement StatementPart ArmPart part_step arm_step (Statement-F.For id l (Some i) e (Some k) b)

part-Switch : (id l : ℕ) (e : Expr) (as_ : List Arm) → part (s.Switch id l e as_) ≡ doing (Fork id e (taken_arm (map arm_part as_)))
part-Switch id l e as_ = ap part (sym (s.rolls-Switch id l e as_)) ∙ fold-roll-Statement StatementPart ArmPart part_step arm_step (Statement-F.Switch id l e as_)

part-Block : (l : ℕ) (b : List Statement) → part (s.Block l b) ≡ doing (λ r. block (map part b) ⨟ r)
part-Block l b = ap part (sym (s.rolls-Block l b)) ∙ fold-roll-Statement StatementPart ArmPart part_step arm_step (Statement-F.Block l b)

part-Declare : (id : Option ℕ) (l x : ℕ) (i : Init) → part (s.Declare id l x i) ≡ declaring x (λ r. Opens x (begun_code id x i r))
part-Declare id l x i = ap part (sym (s.rolls-Declare id l x i)) ∙ fold-roll-Statement StatementPart ArmPart part_step arm_step (Statement-F.Declare id l x i)

part-Assign : (id l : ℕ) (a : Expr) (op : Option BinaryOp) (b : Expr) → part (s.Assign id l a op b) ≡ doing (Plain id (Sets a op b))
part-Assign id l a op b = ap part (sym (s.rolls-Assign id l a op b)) ∙ fold-roll-Statement StatementPart ArmPart part_step arm_step (Statement-F.Assign id l a op b)

part-Bump : (id l : ℕ) (a : Expr) (up before : Bool) → part (s.Bump id l a up before) ≡ doing (Plain id (Bumps a up))
part-Bump id l a up before = ap part (sym (s.rolls-Bump id l a up before)) ∙ fold-roll-Statement StatementPart ArmPart part_step arm_step (Statement-F.Bump id l a up before)

part-Invoke : (id l : ℕ) (to : Target) (f : ℕ) (args : List Expr) → part (s.Invoke id l to f args) ≡ given_to to (Call id to f args)
part-Invoke id l to f args = ap part (sym (s.rolls-Invoke id l to f args)) ∙ fold-roll-Statement StatementPart ArmPart part_step arm_step (Statement-F.Invoke id l to f args)

part-Fetch : (id l : ℕ) (to : Target) → part (s.Fetch id l to) ≡ given_to to (Plain id (Fetches to))
part-Fetch id l to = ap part (sym (s.rolls-Fetch id l to)) ∙ fold-roll-Statement StatementPart ArmPart part_step arm_step (Statement-F.Fetch id l to)

part-Write : (id l : ℕ) (e : Expr) → part (s.Write id l e) ≡ doing (Plain id (Writes e))
part-Write id l e = ap part (sym (s.rolls-Write id l e)) ∙ fold-roll-Statement StatementPart ArmPart part_step arm_step (Statement-F.Write id l e)

part-Print : (id l : ℕ) (format : Bytes) (args : List Expr) → part (s.Print id l format args) ≡ doing (Plain id (Prints format args))
part-Print id l format args = ap part (sym (s.rolls-Print id l format args)) ∙ fold-roll-Statement StatementPart ArmPart part_step arm_step (Statement-F.Print id l format args)

part-Heap : (id l : ℕ) (to : Target) (c : Option CType) (n : Amount) → part (s.Heap id l to c n) ≡ given_to to (Plain id (Allocates to n))
part-Heap id l to c n = ap part (sym (s.rolls-Heap id l to c n)) ∙ fold-roll-Statement StatementPart ArmPart part_step arm_step (Statement-F.Heap id l to c n)

part-Release : (id l : ℕ) (e : Expr) → part (s.Release id l e) ≡ doing (Plain id (Frees e))
part-Release id l e = ap part (sym (s.rolls-Release id l e)) ∙ fold-roll-Statement StatementPart ArmPart part_step arm_step (Statement-F.Release id l e)

part-Return : (id l : ℕ) (e : Option Expr) → part (s.Return id l e) ≡ doing (Plain id (Returns e))
part-Return id l e = ap part (sym (s.rolls-Return id l e)) ∙ fold-roll-Statement StatementPart ArmPart part_step arm_step (Statement-F.Return id l e)

-- ---- values that are there

map_from : {A B : Type 0} (P : A → Type 0) (Q : B → Type 0) (f : A → B) (o : Option A) → Always P o → ((x : A) → P x → Q (f x)) → Always Q (option_map f o)
map_from P Q f None h k = tt
map_from P Q f (Some x) h k = k x h

then_from : {A B : Type 0} (P : A → Type 0) (Q : B → Type 0) (f : A → Option B) (o : Option A) → Always P o → ((x : A) → P x → Always Q (f x)) → Always Q (option_and_then f o)
then_from P Q f None h k = tt
then_from P Q f (Some x) h k = k x h

-- ---- lists that begin none of some variables

begins_seq : (these : ℕ → Bool) (c r : Code) → BeginsNone these c → BeginsNone these r → BeginsNone these (c ⨟ r)
begins_seq these End r h k = k
begins_seq these (Opens x c) r h k = (h.0, begins_seq these c r h.1 k)
begins_seq these (Plain i a c) r h k = begins_seq these c r h k
begins_seq these (Fork i e c d) r h k = (h.0, begins_seq these d r h.1 k)
begins_seq these (Loop i e b d) r h k = (h.0, begins_seq these d r h.1 k)
begins_seq these (Leaves xs c) r h k = begins_seq these c r h k
begins_seq these (Call i to g args c) r h k = begins_seq these c r h k

begins_either : (these : ℕ → Bool) (t : Bool) (c d : Code) → BeginsNone these c → BeginsNone these d → BeginsNone these (either t c d)
begins_either these true c d h k = h
begins_either these false c d h k = k

module _ (these : ℕ → Bool) where
  -- none of the numbers from m on to below n is one of these
  abbrev pub NoneIn : ℕ → ℕ → Type 0
  NoneIn m n = (k : ℕ) → m ≤ k → k < n → these k ≡ false

  narrower : (m n i j : ℕ) → NoneIn m n → m ≤ i → j ≤ n → NoneIn i j
  narrower m n i j h a b k low high = h k (omega (arith, low, a)) (omega (arith, high, b))

  abbrev Before : StatementPart → Type 0
  Before q = (r : Code) → BeginsNone these r → BeginsNone these (q.before r)

  abbrev IsBefore : Statement → Type 0
  IsBefore x = Before (part x)

  abbrev AllBefore : List Statement → Type 0
  AllBefore [] = Unit {0}
  AllBefore (x ∷ xs) = IsBefore x × AllBefore xs

  abbrev OptBefore : Option Statement → Type 0
  OptBefore None = Unit {0}
  OptBefore (Some x) = IsBefore x

  abbrev AllArms : List Arm → Type 0
  AllArms [] = Unit {0}
  AllArms (a ∷ as_) = AllBefore a.body × AllArms as_

  as_part : (x : Statement) (q : StatementPart) → part x ≡ q → Before q → IsBefore x
  as_part x q e h = subst Before (sym e) h

  -- ---- lists

  turns : (xs : List Statement) → AllBefore xs → (r : Code) → BeginsNone these r → BeginsNone these (in_turn (map part xs) r)
  turns [] h r k = k
  turns (x ∷ xs) h r k = h.0 (in_turn (map part xs) r) (turns xs h.1 r k)

  begins_leave : (xs : List ℕ) (r : Code) → BeginsNone these r → BeginsNone these (leave xs r)
  begins_leave [] r h = h
  begins_leave (x ∷ xs) r h = h

  begins_block : (xs : List Statement) → AllBefore xs → BeginsNone these (block (map part xs))
  begins_block xs h = turns xs h (leave (declared_in (map part xs)) End) (begins_leave (declared_in (map part xs)) End tt)

  begins_optional : (o : Option Statement) → OptBefore o → BeginsNone these (list_of (optional (opt_part o)))
  begins_optional None h = tt
  begins_optional (Some x) h = h End tt

  pub begins_code : (xs : List Statement) → AllBefore xs → BeginsNone these (code xs)
  begins_code [] h = tt
  begins_code (x ∷ xs) h = h.0 (code xs) (begins_code xs h.1)

  begins_if : (b : Bool) (c d : Code) → BeginsNone these c → BeginsNone these d → BeginsNone these (if b then c else d)
  begins_if true c d h k = h
  begins_if false c d h k = k

  -- ---- arms

  arm_does : (a : Arm) → AllBefore a.body → BeginsNone these (arm_part a).does
  arm_does a h =
      subst (λ (q : ArmPart). BeginsNone these q.does) (sym (fold-roll-Arm StatementPart ArmPart part_step arm_step (record { labels = a.labels; body = a.body }))) (begins_block a.body h)

  begins_default : (as_ : List Arm) → AllArms as_ → BeginsNone these (default_arm (map arm_part as_))
  begins_default [] h = tt
  begins_default (a ∷ as_) h = begins_if (has_default (arm_part a).labels) (arm_part a).does (default_arm (map arm_part as_)) (arm_does a h.0) (begins_default as_ h.1)

  begins_case : (as_ : List Arm) (v : ℤ) (other : Code) → AllArms as_ → BeginsNone these other → BeginsNone these (case_arm (map arm_part as_) v other)
  begins_case [] v other h k = k
  begins_case (a ∷ as_) v other h k = begins_if (has_case v (arm_part a).labels) (arm_part a).does (case_arm (map arm_part as_) v other) (arm_does a h.0) (begins_case as_ v other h.1 k)

  -- ---- statements

  if_before : (id l : ℕ) (e : Expr) (a b : List Statement) → AllBefore a → AllBefore b → IsBefore (s.If id l e a b)
  if_before id l e a b h k =
      as_part (s.If id l e a b) _ (part-If id l e a b) (λ r n. ((λ v. begins_either these (is_true v) (block (map part a)) (block (map part b)) (begins_block a h) (begins_block b k)), n))

  while_before : (id l : ℕ) (e : Expr) (b : List Statement) → AllBefore b → IsBefore (s.While id l e b)
  while_before id l e b h = as_part (s.While id l e b) _ (part-While id l e b) (λ r n. (begins_block b h, n))

  do_before : (id l : ℕ) (e : Expr) (b : List Statement) → AllBefore b → IsBefore (s.Do id l e b)
  do_before id l e b h =
      as_part (s.Do id l e b) _ (part-Do id l e b) (λ r n. begins_seq these (block (map part b)) (Loop id e (block (map part b)) r) (begins_block b h) (begins_block b h, n))

  for_before : (id l : ℕ) (i : Option Statement) (e : Expr) (k : Option Statement) (b : List Statement) → OptBefore i → OptBefore k → AllBefore b → IsBefore (s.For id l i e k b)
  for_before id l i e k b h j n =
      as_part (s.For id l i e k b) (for_part id (opt_part i) e (opt_part k) (map part b)) (part-For id l i e k b) (λ r m. begins_seq these (list_of (optional (opt_part i))) _ (begins_optional i h) (begins_seq these (block (map part b)) (list_of (optional (opt_part k))) (begins_block b n) (begins_optional k j), begins_leave (declared_in (optional (opt_part i))) r m))

  switch_before : (id l : ℕ) (e : Expr) (as_ : List Arm) → AllArms as_ → IsBefore (s.Switch id l e as_)
  switch_before id l e as_ h =
      as_part (s.Switch id l e as_) _ (part-Switch id l e as_) (λ r n. ((λ v. begins_case as_ v (default_arm (map arm_part as_)) h (begins_default as_ h)), n))

  block_before : (l : ℕ) (b : List Statement) → AllBefore b → IsBefore (s.Block l b)
  block_before l b h = as_part (s.Block l b) _ (part-Block l b) (λ r n. begins_seq these (block (map part b)) r (begins_block b h) n)

  begun_none : (id : Option ℕ) (x : ℕ) (i : Init) (r : Code) → BeginsNone these r → BeginsNone these (begun_code id x i r)
  begun_none None x i r h = h
  begun_none (Some id) x i r h = h

  declare_before : (id : Option ℕ) (l x : ℕ) (i : Init) → these x ≡ false → IsBefore (s.Declare id l x i)
  declare_before id l x i h = as_part (s.Declare id l x i) _ (part-Declare id l x i) (λ r n. (h, begun_none id x i r n))

  abbrev TargetNot : Target → Type 0
  TargetNot target.None = Unit {0}
  TargetNot (target.Place e) = Unit {0}
  TargetNot (target.Declared x) = these x ≡ false

  given_before : (to : Target) (before : Code → Code) → ((r : Code) → BeginsNone these r → BeginsNone these (before r)) → TargetNot to → Before (given_to to before)
  given_before target.None before h t r n = h r n
  given_before (target.Place e) before h t r n = h r n
  given_before (target.Declared x) before h t r n = (t, h r n)

  module _ (raw : RawProgram) where
    target_not : (to : RawTarget) (scope : Scope) → NoneIn scope.variables (with_target raw to scope).variables → Always TargetNot (target_tree raw scope to)
    target_not raw_target.None scope h = tt
    target_not (raw_target.Place a) scope h = always_map TargetNot target.Place (expr_of raw scope a) (λ e. tt)
    target_not (raw_target.Declared v) scope h = h scope.variables (le_refl scope.variables) (omega arith)

    call_before : (scope inner : Scope) (to : Option Target) (id l : ℕ) (f : Bytes) (args : List RawArg) → Always TargetNot to → Always IsBefore (call_tree raw inner id l to f args)
    call_before scope inner to id l f args h =
        always_if IsBefore (bytes_eq f (codes "getchar")) _ _ (map_from TargetNot IsBefore (s.Fetch id l) to h (λ t k. as_part (s.Fetch id l t) _ (part-Fetch id l t) (given_before t (Plain id (Fetches t)) (λ r n. n) k)))
        (always_if IsBefore (bytes_eq f (codes "putchar")) _ _ (always_map IsBefore (s.Write id l) (only_tree raw inner args) (λ e. as_part (s.Write id l e) _ (part-Write id l e) (λ r n. n)))
        (always_if IsBefore (bytes_eq f (codes "printf")) _ _ (always_then IsBefore (λ (text : Bytes). option_map (s.Print id l text) (args_tree raw inner (later_args args))) (format_in args) (λ text. always_map IsBefore (s.Print id l text) (args_tree raw inner (later_args args)) (λ es. as_part (s.Print id l text es) _ (part-Print id l text es) (λ r n. n))))
        (always_if IsBefore (bytes_eq f (codes "free")) _ _ (always_map IsBefore (s.Release id l) (only_tree raw inner args) (λ e. as_part (s.Release id l e) _ (part-Release id l e) (λ r n. n)))
        (then_from TargetNot IsBefore (λ (t : Target). both (s.Invoke id l t) (function_id raw f) (args_tree raw inner args)) to h (λ t k. always_both IsBefore (s.Invoke id l t) (function_id raw f) (args_tree raw inner args) (λ g es. as_part (s.Invoke id l t g es) _ (part-Invoke id l t g es) (given_before t (Call id t g es) (λ r n. n) k)))))))

    heap_before : (inner : Scope) (to : Option Target) (id l : ℕ) (c : Option (Option CType)) (n : RawAmount) → Always TargetNot to → Always IsBefore (option_and_then (λ (t : Target). option_and_then (λ (k : Option CType). option_map (s.Heap id l t k) (amount_tree raw inner n)) c) to)
    heap_before inner to id l c n h =
        then_from TargetNot IsBefore (λ (t : Target). option_and_then (λ (k : Option CType). option_map (s.Heap id l t k) (amount_tree raw inner n)) c) to h (λ t u. always_then IsBefore (λ (k : Option CType). option_map (s.Heap id l t k) (amount_tree raw inner n)) c (λ k. always_map IsBefore (s.Heap id l t k) (amount_tree raw inner n) (λ z. as_part (s.Heap id l t k z) _ (part-Heap id l t k z) (given_before t (Plain id (Allocates t z)) (λ r m. m) u))))

    -- ---- parts of a text

    abbrev Case : Scoped (Option Statement) → Type 0
    Case t = (scope : Scope) (x : Statement) → t.gives scope ≡ Some x → NoneIn scope.variables (t.after scope).variables → IsBefore x

    pub record ArmCase (t : Scoped ArmTree) : Type 0 where
      pub more : (scope : Scope) → scope.variables ≤ (t.after scope).variables
      pub own : (scope : Scope) (k : IntType) (a : Arm) → t.gives scope k ≡ Some a → NoneIn scope.variables (t.after scope).variables → AllBefore a.body

    abbrev Known : Type 0
    Known = (one : RawStatement) × Case (treed raw one)

    abbrev KnownArm : Type 0
    KnownArm = (a : RawArm) × ArmCase (treed_arm raw a)

    abbrev layer_of : RawStatement-F Known KnownArm → RawStatement-F RawStatement RawArm
    layer_of = map-RawStatement Known KnownArm RawStatement RawArm (λ p. p.0) (λ p. p.0)

    abbrev arm_layer_of : RawArm-F Known KnownArm → RawArm-F RawStatement RawArm
    arm_layer_of = map-RawArm Known KnownArm RawStatement RawArm (λ p. p.0) (λ p. p.0)

    abbrev as_tree : RawStatement-F RawStatement RawArm → Scoped (Option Statement)
    as_tree y = treed_step raw (map-RawStatement RawStatement RawArm (Scoped (Option Statement)) (Scoped ArmTree) (treed raw) (treed_arm raw) y)

    abbrev as_arm : RawArm-F RawStatement RawArm → Scoped ArmTree
    as_arm y = arm_tree_step raw (map-RawArm RawStatement RawArm (Scoped (Option Statement)) (Scoped ArmTree) (treed raw) (treed_arm raw) y)

    abbrev ones : List Known → List RawStatement
    ones ks = map (λ (p : Known). p.0) ks

    abbrev trees : List Known → List (Scoped (Option Statement))
    trees ks = map (treed raw) (ones ks)

    abbrev arm_trees : List KnownArm → List (Scoped ArmTree)
    arm_trees ks = map (treed_arm raw) (map (λ (p : KnownArm). p.0) ks)

    one_more : (k : Known) (scope : Scope) → scope.variables ≤ ((treed raw k.0).after scope).variables
    one_more k scope = (body_grows raw Any (k.0 ∷ [])).more scope

    list_more : (ks : List Known) (scope : Scope) → scope.variables ≤ (after_all (trees ks) scope).variables
    list_more ks scope = (body_grows raw Any (ones ks)).more scope

    arms_more : (ks : List KnownArm) (scope : Scope) → scope.variables ≤ (after_all (arm_trees ks) scope).variables
    arms_more [] scope = le_refl scope.variables
    arms_more (k ∷ ks) scope =
        let one = k.1.more scope in
        let rest = arms_more ks ((treed_arm raw k.0).after scope) in
        omega (arith, one, rest)

    list_own : (ks : List Known) (scope : Scope) (xs : List Statement) → collected (in_order (trees ks) scope) ≡ Some xs → NoneIn scope.variables (after_all (trees ks) scope).variables → AllBefore xs
    list_own [] scope xs e h = subst AllBefore (some_same e) tt
    list_own (k ∷ ks) scope xs e h =
        let next = (treed raw k.0).after scope in
        let z = more_there ((treed raw k.0).gives scope) (in_order (trees ks) next) xs e in
        let one = one_more k scope in
        let rest = list_more ks next in
        let last = (after_all (trees ks) next).variables in
        subst AllBefore z.same (k.1 scope z.first z.first_there (narrower scope.variables last scope.variables next.variables h (le_refl scope.variables) rest), list_own ks next z.rest z.rest_there (narrower scope.variables last next.variables last h one (le_refl last)))

    arms_own : (ks : List KnownArm) (scope : Scope) (i : IntType) (as_ : List Arm) → at_type i (in_order (arm_trees ks) scope) ≡ Some as_ → NoneIn scope.variables (after_all (arm_trees ks) scope).variables → AllArms as_
    arms_own [] scope i as_ e h = subst AllArms (some_same e) tt
    arms_own (k ∷ ks) scope i as_ e h =
        let next = (treed_arm raw k.0).after scope in
        let z = more_there ((treed_arm raw k.0).gives scope i) (map (λ (a : ArmTree). a i) (in_order (arm_trees ks) next)) as_ e in
        let one = k.1.more scope in
        let rest = arms_more ks next in
        let last = (after_all (arm_trees ks) next).variables in
        subst AllArms z.same (k.1.own scope i z.first z.first_there (narrower scope.variables last scope.variables next.variables h (le_refl scope.variables) rest), arms_own ks next i z.rest z.rest_there (narrower scope.variables last next.variables last h one (le_refl last)))

    -- ---- a for

    abbrev part_after : Option Known → Scope → Scope
    part_after None scope = scope
    part_after (Some k) scope = (treed raw k.0).after scope

    abbrev part_given : Option Known → Scope → Option (Option Statement)
    part_given None scope = Some None
    part_given (Some k) scope = optional_tree (Some ((treed raw k.0).gives scope))

    part_more : (o : Option Known) (scope : Scope) → scope.variables ≤ (part_after o scope).variables
    part_more None scope = le_refl scope.variables
    part_more (Some k) scope = one_more k scope

    part_own : (o : Option Known) (scope : Scope) (x : Option Statement) → part_given o scope ≡ Some x → NoneIn scope.variables (part_after o scope).variables → OptBefore x
    part_own None scope x e h = subst OptBefore (some_same e) tt
    part_own (Some k) scope x e h =
        let p = optional_there ((treed raw k.0).gives scope) x e in
        subst OptBefore p.1.1 (k.1 scope p.0 p.1.0 h)

    abbrev parts_after : Option Known → Option Known → Scope → Scope
    parts_after i k scope = part_after k (part_after i (opened (numbered scope)))

    for_own : (i k : Option Known) (l : ℕ) (test : RawExpr) (b : List Known) (scope : Scope) (x : Statement)
        → for_tree scope.statements l (part_given i (opened (numbered scope))) (expr_of raw (part_after i (opened (numbered scope))) test) (part_given k (part_after i (opened (numbered scope)))) (block_tree (trees b) (parts_after i k scope)) ≡ Some x
        → NoneIn scope.variables (after_block (trees b) (parts_after i k scope)).variables → IsBefore x
    for_own i k l test b scope x e h =
        let first = opened (numbered scope) in
        let second = part_after i first in
        let third = parts_after i k scope in
        let last = (after_block (trees b) third).variables in
        let g1 : first.variables ≤ second.variables = part_more i first in
        let g2 : second.variables ≤ third.variables = part_more k second in
        let g3 : third.variables ≤ last = list_more b (opened third) in
        let f = for_some scope.statements l _ _ _ _ x e in
        subst IsBefore (sym f.8) (for_before scope.statements l f.0 f.1 f.2 f.3 (part_own i first f.0 f.4 (narrower scope.variables last first.variables second.variables h (le_refl scope.variables) (omega (arith, g2, g3)))) (part_own k second f.2 f.6 (narrower scope.variables last second.variables third.variables h g1 g3)) (list_own b (opened third) f.3 f.7 (narrower scope.variables last third.variables last h (omega (arith, g1, g2)) (le_refl last))))

    -- ---- forms

    begun_more : (v : RawVar) (i : RawInit) (scope : Scope) → scope.variables < (begun i (with_variable raw v i scope)).variables
    begun_more v init.None scope = omega arith
    begun_more v (init.One a) scope = omega arith
    begun_more v (init.Items es) scope = omega arith

    if_own : (l : ℕ) (test : RawExpr) (a b : List Known) → Case (as_tree (layer_of (RawStatement-F.If l test a b)))
    if_own l test a b scope x e h =
        let next = after_block (trees a) (numbered scope) in
        let last = (after_block (trees b) next).variables in
        let g1 : scope.variables ≤ next.variables = list_more a (opened (numbered scope)) in
        let g2 : next.variables ≤ last = list_more b (opened next) in
        let t = then_there (λ (z : Expr). both (s.If scope.statements l z) (block_tree (trees a) (numbered scope)) (block_tree (trees b) next)) (expr_of raw scope test) x e in
        let k = both_there (s.If scope.statements l t.value) (block_tree (trees a) (numbered scope)) (block_tree (trees b) next) x t.same in
        subst IsBefore k.same (if_before scope.statements l t.value k.left k.right (list_own a (opened (numbered scope)) k.left k.left_there (narrower scope.variables last scope.variables next.variables h (le_refl scope.variables) g2)) (list_own b (opened next) k.right k.right_there (narrower scope.variables last next.variables last h g1 (le_refl last))))

    switch_own : (l : ℕ) (test : RawExpr) (arms : List KnownArm) → Case (as_tree (layer_of (RawStatement-F.Switch l test arms)))
    switch_own l test arms scope x e h =
        let t = then_there (λ (z : Expr). option_and_then (λ (k : IntType). option_map (s.Switch scope.statements l z) (at_type k (in_order (arm_trees arms) (opened (numbered scope))))) (switch_type raw scope test)) (expr_of raw scope test) x e in
        let u = then_there (λ (k : IntType). option_map (s.Switch scope.statements l t.value) (at_type k (in_order (arm_trees arms) (opened (numbered scope))))) (switch_type raw scope test) x t.same in
        let k = map_there (s.Switch scope.statements l t.value) (at_type u.value (in_order (arm_trees arms) (opened (numbered scope)))) x u.same in
        subst IsBefore k.same (switch_before scope.statements l t.value k.value (arms_own arms (opened (numbered scope)) u.value k.value k.there h))

    layer_own : (y : RawStatement-F Known KnownArm) → Case (as_tree (layer_of y))
    layer_own (RawStatement-F.Declare l v i) = λ scope x e h.
        let k = map_there (s.Declare (declaration_id i scope.statements) l scope.variables) (init_of raw (with_variable raw v i scope) i) x e in
        subst IsBefore k.same (declare_before (declaration_id i scope.statements) l scope.variables k.value (h scope.variables (le_refl scope.variables) (begun_more v i scope)))
    layer_own (RawStatement-F.Assign l left op right) = λ scope x e h.
        let k = both_there (λ (a b : Expr). s.Assign scope.statements l a op b) (expr_of raw scope left) (expr_of raw scope right) x e in
        subst IsBefore k.same (as_part (s.Assign scope.statements l k.left op k.right) _ (part-Assign scope.statements l k.left op k.right) (λ r n. n))
    layer_own (RawStatement-F.Bump l left up before) = λ scope x e h.
        let k = map_there (λ (a : Expr). s.Bump scope.statements l a up before) (expr_of raw scope left) x e in
        subst IsBefore k.same (as_part (s.Bump scope.statements l k.value up before) _ (part-Bump scope.statements l k.value up before) (λ r n. n))
    layer_own (RawStatement-F.Call l to f args) = λ scope x e h.
        always_is IsBefore (call_tree raw (with_target raw to scope) scope.statements l (target_tree raw scope to) f args) x (call_before scope (with_target raw to scope) (target_tree raw scope to) scope.statements l f args (target_not to scope h)) e
    layer_own (RawStatement-F.Heap l to cast n) = λ scope x e h.
        always_is IsBefore (heap_tree raw (with_target raw to scope) scope.statements l (target_tree raw scope to) cast n) x (heap_before (with_target raw to scope) (target_tree raw scope to) scope.statements l (ctype_if raw (option_map named_type cast)) n (target_not to scope h)) e
    layer_own (RawStatement-F.If l test a b) = if_own l test a b
    layer_own (RawStatement-F.While l test b) = λ scope x e h.
        let k = both_there (s.While scope.statements l) (expr_of raw scope test) (block_tree (trees b) (numbered scope)) x e in
        subst IsBefore k.same (while_before scope.statements l k.left k.right (list_own b (opened (numbered scope)) k.right k.right_there h))
    layer_own (RawStatement-F.Do l test b) = λ scope x e h.
        let k = both_there (s.Do scope.statements l) (expr_of raw scope test) (block_tree (trees b) (numbered scope)) x e in
        subst IsBefore k.same (do_before scope.statements l k.left k.right (list_own b (opened (numbered scope)) k.right k.right_there h))
    layer_own (RawStatement-F.For l None test None b) = λ scope x e h. for_own None None l test b scope x e h
    layer_own (RawStatement-F.For l None test (Some k) b) = λ scope x e h. for_own None (Some k) l test b scope x e h
    layer_own (RawStatement-F.For l (Some i) test None b) = λ scope x e h. for_own (Some i) None l test b scope x e h
    layer_own (RawStatement-F.For l (Some i) test (Some k) b) = λ scope x e h. for_own (Some i) (Some k) l test b scope x e h
    layer_own (RawStatement-F.Switch l test arms) = switch_own l test arms
    layer_own (RawStatement-F.Block l b) = λ scope x e h.
        let k = map_there (s.Block l) (block_tree (trees b) scope) x e in
        subst IsBefore k.same (block_before l k.value (list_own b (opened scope) k.value k.there h))
    layer_own (RawStatement-F.Return l a) = λ scope x e h.
        let k = map_there (s.Return scope.statements l) (optional_tree (option_map (expr_of raw scope) a)) x e in
        subst IsBefore k.same (as_part (s.Return scope.statements l k.value) _ (part-Return scope.statements l k.value) (λ r n. n))

    arm_own : (y : RawArm-F Known KnownArm) → ArmCase (as_arm (arm_layer_of y))
    arm_own y = record {
      more = λ scope. list_more y.body scope;
      own = λ scope k a e h.
          let z = both_there arm_tree (collected (map (label_tree raw scope k) y.labels)) (collected (in_order (trees y.body) scope)) a e in
          subst (λ (w : Arm). AllBefore w.body) z.same (list_own y.body scope z.right z.right_there h);
    }

    statement_own : (one : RawStatement) → Case (treed raw one)
    statement_own =
        ind-RawStatement (λ one. Case (treed raw one)) (λ a. ArmCase (treed_arm raw a))
        (λ z y is. subst (λ w. Case (treed raw (roll-RawStatement w))) is (subst Case (sym (fold-roll-RawStatement (Scoped (Option Statement)) (Scoped ArmTree) (treed_step raw) (arm_tree_step raw) (layer_of y))) (layer_own y)))
        (λ z y is. subst (λ w. ArmCase (treed_arm raw (roll-RawArm w))) is (subst ArmCase (sym (fold-roll-RawArm (Scoped (Option Statement)) (Scoped ArmTree) (treed_step raw) (arm_tree_step raw) (arm_layer_of y))) (arm_own y)))

    abbrev all_known : List RawStatement → List Known
    all_known b = map (λ (x : RawStatement). let k : Known = (x, statement_own x) in k) b

    same_list : (b : List RawStatement) → ones (all_known b) ≡ b
    same_list [] = refl
    same_list (x ∷ b) = ap (λ ys. x ∷ ys) (same_list b)

    pub body_own : (b : List RawStatement) (scope : Scope) (xs : List Statement) → collected (in_order (map (treed raw) b) scope) ≡ Some xs → NoneIn scope.variables (after_all (map (treed raw) b) scope).variables → BeginsNone these (code xs)
    body_own b scope xs e h =
        begins_code xs (list_own (all_known b) scope xs (ap (λ c. collected (in_order (map (treed raw) c) scope)) (same_list b) ∙ e) (subst (λ c. NoneIn scope.variables (after_all (map (treed raw) c) scope).variables) (sym (same_list b)) h))

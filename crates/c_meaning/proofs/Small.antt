-- Small programs whose meaning can be computed: trees that are written out, and what they come to.
use Rattle.std.proofs.Common.{◌≡◌, ℕ, zero, suc, ℤ, pos, negsuc, List, [], ◌∷◌, map, Option, Some, None, Bool, true, false, refl, sym, ap, ◌∙◌, ap₂}
use Rattle.std.specs.Prelude.{option_map, option_and_then, slice_get, if◌then◌else◌}
use mathlib.Core.Path.{fun_ext}
use Rattle.std.specs.Option.{option_map_or}
use Rattle.c_arith.specs.declared.int_type.IntType.{IntType}
use Rattle.c_arith.specs.declared.int_type.IntType.TheVariants.{Int, UChar}
use Rattle.c_arith.specs.IntType.{convert}
use Rattle.c_arith.specs.declared.operators.UnaryOp.{UnaryOp}
use Rattle.c_arith.specs.declared.operators.BinaryOp.{BinaryOp}
use Rattle.c_tree.specs.declared.expr.MemberId.{MemberId}
use Rattle.c_tree.specs.declared.expr.Expr.{Expr, fold-roll-Expr}
use Rattle.c_tree.specs.declared.expr.Expr.TheOpen.{Expr-F}
use Rattle.c_tree.specs.declared.expr.Expr.TheVariants as e
use Rattle.c_tree.specs.declared.program.Init.{Init}
use Rattle.c_tree.specs.declared.program.Init.TheVariants as init
use Rattle.c_tree.specs.declared.statement.Amount.{Amount}
use Rattle.c_tree.specs.declared.statement.Amount.TheVariants as amount
use Rattle.c_tree.specs.declared.statement.Label.{Label}
use Rattle.c_tree.specs.declared.statement.Size.TheVariants as size
use Rattle.c_tree.specs.declared.statement.Target.{Target}
use Rattle.c_tree.specs.declared.statement.Target.TheVariants as target
use Rattle.c_language.specs.declared.expr_type.ExprType.{ExprType}
use Rattle.c_language.specs.Words.{Bytes}
use Rattle.c_language.specs.DeclaredTypes.{integer}
use Rattle.c_language.specs.TreeTypes.{Typing}
use Rattle.c_language.specs.Code.{Act, Begins, Sets, Bumps, Fetches, Writes, Prints, Allocates, Frees, Returns, Tests, Code, End, Opens, Plain, Fork, Loop, Leaves, Call, is_true, either, ArmPart, has_case, has_default, case_arm, default_arm, taken_arm}
use Rattle.c_meaning.specs.declared.value.Value.{Value}
use Rattle.c_meaning.specs.declared.value.Value.TheVariants.{Number}
use Rattle.c_meaning.specs.declared.event.Event.{Event}
use Rattle.c_meaning.specs.declared.event.Shown.{Shown}
use Rattle.c_meaning.specs.declared.event.Shown.TheVariants as shown
use Rattle.c_meaning.specs.Cells.{Structs}
use Rattle.c_meaning.specs.Values.{Types, State, Meant, variable_place, variable_opened, all_closed, tested, number_in, binary_value, meant_step, meant, eval_all, beside}
use Rattle.c_meaning.specs.Acts.{Made, shows, writable, assigned, begun_by, listed, begun_with, given, next_byte, taking, bump, put_out, printed_all, asked_count, target_type, next_block, allocated_by, freed_at, as_result, returning, made, after, picked}
use Rattle.c_meaning.specs.Activations.{Routine, Global, Executable, code_at, outside, types_in, blank, global_opened, initialised, all_begun, opening, passed, fresh, called, resumed, received}
use Rattle.c_meaning.specs.Meaning.{Trace, Answer, Ended, Undefined, More, Outcome, Done, Over, Go, then_do, after_made, take_act, after_called, take_call, receive, come_back, exec, deep, answer, nothing, code_meaning, main_meaning}

-- ---- expressions

pub data Small : Type 0 where
  K : IntType → ℕ → Small
  Name : ℕ → Small
  EndOfFile : Small
  Un : UnaryOp → Small → Small
  Bin : BinaryOp → Small → Small → Small
  Both : Small → Small → Small
  Either : Small → Small → Small
  Pick : Small → Small → Small → Small
  As : IntType → Small → Small
  Par : Small → Small
  NullName : Small
  Star : Small → Small
  Amp : Small → Small
  Item : Small → Small → Small
  Dot : Small → MemberId → Small
  Arrow : Small → MemberId → Small

abbrev pub tree : Small → Expr
tree (K t n) = e.Constant [] t n
tree (Name x) = e.Variable x
tree EndOfFile = e.Eof
tree (Un op a) = e.Unary op (tree a)
tree (Bin op a b) = e.Binary op (tree a) (tree b)
tree (Both a b) = e.AndAlso (tree a) (tree b)
tree (Either a b) = e.OrElse (tree a) (tree b)
tree (Pick c a b) = e.Choose (tree c) (tree a) (tree b)
tree (As t a) = e.Cast t (tree a)
tree (Par a) = e.Paren (tree a)
tree NullName = e.Null
tree (Star a) = e.Deref (tree a)
tree (Amp a) = e.AddressOf (tree a)
tree (Item a i) = e.Index (tree a) (tree i)
tree (Dot a m) = e.Member (tree a) m
tree (Arrow a m) = e.Arrow (tree a) m

module _ (types : Types) where
  abbrev step : Expr-F Meant → Meant
  step = meant_step types

  abbrev chosen : Meant → Meant → Meant → Meant
  chosen c a b = step (Expr-F.Choose c a b)

  abbrev pub means : Small → Meant
  means (K t n) = step (Expr-F.Constant [] t n)
  means (Name x) = step (Expr-F.Variable x)
  means EndOfFile = step Expr-F.Eof
  means (Un op a) = step (Expr-F.Unary op (means a))
  means (Bin op a b) = step (Expr-F.Binary op (means a) (means b))
  means (Both a b) = step (Expr-F.AndAlso (means a) (means b))
  means (Either a b) = step (Expr-F.OrElse (means a) (means b))
  means (Pick c a b) = chosen (means c) (means a) (means b)
  means (As t a) = step (Expr-F.Cast t (means a))
  means (Par a) = step (Expr-F.Paren (means a))
  means NullName = step Expr-F.Null
  means (Star a) = step (Expr-F.Deref (means a))
  means (Amp a) = step (Expr-F.AddressOf (means a))
  means (Item a i) = step (Expr-F.Index (means a) (means i))
  means (Dot a m) = step (Expr-F.Member (means a) m)
  means (Arrow a m) = step (Expr-F.Arrow (means a) m)

  abbrev of_tree : Expr → Meant
  of_tree = meant types

  means_tree : (a : Small) → of_tree (tree a) ≡ means a
  means_tree (K t n) = ap of_tree (sym (e.rolls-Constant [] t n)) ∙ fold-roll-Expr Meant step (Expr-F.Constant [] t n)
  means_tree (Name x) = ap of_tree (sym (e.rolls-Variable x)) ∙ fold-roll-Expr Meant step (Expr-F.Variable x)
  means_tree EndOfFile = ap of_tree (sym e.rolls-Eof) ∙ fold-roll-Expr Meant step Expr-F.Eof
  means_tree (Un op a) =
      ap of_tree (sym (e.rolls-Unary op (tree a))) ∙ (fold-roll-Expr Meant step (Expr-F.Unary op (tree a)) ∙ ap (λ m. step (Expr-F.Unary op m)) (means_tree a))
  means_tree (Bin op a b) =
      ap of_tree (sym (e.rolls-Binary op (tree a) (tree b))) ∙ (fold-roll-Expr Meant step (Expr-F.Binary op (tree a) (tree b)) ∙ ap₂ (λ m k. step (Expr-F.Binary op m k)) (means_tree a) (means_tree b))
  means_tree (Both a b) =
      ap of_tree (sym (e.rolls-AndAlso (tree a) (tree b))) ∙ (fold-roll-Expr Meant step (Expr-F.AndAlso (tree a) (tree b)) ∙ ap₂ (λ m k. step (Expr-F.AndAlso m k)) (means_tree a) (means_tree b))
  means_tree (Either a b) =
      ap of_tree (sym (e.rolls-OrElse (tree a) (tree b))) ∙ (fold-roll-Expr Meant step (Expr-F.OrElse (tree a) (tree b)) ∙ ap₂ (λ m k. step (Expr-F.OrElse m k)) (means_tree a) (means_tree b))
  means_tree (Pick c a b) =
      ap of_tree (sym (e.rolls-Choose (tree c) (tree a) (tree b))) ∙ (fold-roll-Expr Meant step (Expr-F.Choose (tree c) (tree a) (tree b)) ∙ (ap (λ m. chosen m (of_tree (tree a)) (of_tree (tree b))) (means_tree c) ∙ ap₂ (chosen (means c)) (means_tree a) (means_tree b)))
  means_tree (As t a) =
      ap of_tree (sym (e.rolls-Cast t (tree a))) ∙ (fold-roll-Expr Meant step (Expr-F.Cast t (tree a)) ∙ ap (λ m. step (Expr-F.Cast t m)) (means_tree a))
  means_tree (Par a) =
      ap of_tree (sym (e.rolls-Paren (tree a))) ∙ (fold-roll-Expr Meant step (Expr-F.Paren (tree a)) ∙ means_tree a)
  means_tree NullName = ap of_tree (sym e.rolls-Null) ∙ fold-roll-Expr Meant step Expr-F.Null
  means_tree (Star a) =
      ap of_tree (sym (e.rolls-Deref (tree a))) ∙ (fold-roll-Expr Meant step (Expr-F.Deref (tree a)) ∙ ap (λ m. step (Expr-F.Deref m)) (means_tree a))
  means_tree (Amp a) =
      ap of_tree (sym (e.rolls-AddressOf (tree a))) ∙ (fold-roll-Expr Meant step (Expr-F.AddressOf (tree a)) ∙ ap (λ m. step (Expr-F.AddressOf m)) (means_tree a))
  means_tree (Item a i) =
      ap of_tree (sym (e.rolls-Index (tree a) (tree i))) ∙ (fold-roll-Expr Meant step (Expr-F.Index (tree a) (tree i)) ∙ ap₂ (λ m k. step (Expr-F.Index m k)) (means_tree a) (means_tree i))
  means_tree (Dot a m) =
      ap of_tree (sym (e.rolls-Member (tree a) m)) ∙ (fold-roll-Expr Meant step (Expr-F.Member (tree a) m) ∙ ap (λ k. step (Expr-F.Member k m)) (means_tree a))
  means_tree (Arrow a m) =
      ap of_tree (sym (e.rolls-Arrow (tree a) m)) ∙ (fold-roll-Expr Meant step (Expr-F.Arrow (tree a) m) ∙ ap (λ k. step (Expr-F.Arrow k m)) (means_tree a))

-- ---- acts

-- where the result of a call goes
pub data Into : Type 0 where
  Nowhere : Into
  In : Small → Into
  New : ℕ → Into

-- what malloc is asked for: the size of what a variable points to, a count times such a size or a size times a count, or bytes
pub data Ask : Type 0 where
  One : ℕ → Ask
  Many : Small → ℕ → Ask
  Times : ℕ → Small → Ask
  Chars : Small → Ask

abbrev pub to_tree : Into → Target
to_tree Nowhere = target.None
to_tree (In a) = target.Place (tree a)
to_tree (New x) = target.Declared x

abbrev pub ask_tree : Ask → Amount
ask_tree (One x) = amount.Size (size.Pointee x false)
ask_tree (Many a x) = amount.CountSize (tree a) (size.Pointee x false)
ask_tree (Times x a) = amount.SizeCount (size.Pointee x false) (tree a)
ask_tree (Chars a) = amount.Count (tree a)

pub data Deed : Type 0 where
  Start : ℕ → Small → Deed
  StartAll : ℕ → List Small → Deed
  Set : Small → Small → Deed
  SetBy : BinaryOp → Small → Small → Deed
  Bump : Small → Bool → Deed
  Get : Into → Deed
  Put : Small → Deed
  Show : Bytes → List Small → Deed
  Heap : Into → Ask → Deed
  Free : Small → Deed
  Give : Small → Deed
  GiveNothing : Deed
  Test : Small → Deed

abbrev pub act : Deed → Act
act (Start x a) = Begins x (init.One (tree a))
act (StartAll x as_) = Begins x (init.Items (map tree as_))
act (Set l a) = Sets (tree l) None (tree a)
act (SetBy op l a) = Sets (tree l) (Some op) (tree a)
act (Bump l up) = Bumps (tree l) up
act (Get to) = Fetches (to_tree to)
act (Put a) = Writes (tree a)
act (Show format args) = Prints format (map tree args)
act (Heap to n) = Allocates (to_tree to) (ask_tree n)
act (Free a) = Frees (tree a)
act (Give a) = Returns (Some (tree a))
act GiveNothing = Returns None
act (Test a) = Tests (tree a)

abbrev into : State → Meant → Option Value → Option Made
into s l v = assigned l.type (writable s (l.place s)) v

abbrev combined : State → BinaryOp → Meant → Meant → Option Value
combined s op l a = binary_value op l.type a.type s.memory (l.value s) (a.value s)

abbrev one_more : State → Bool → Meant → Option Value
one_more s up l = binary_value (bump up) l.type (integer Int) s.memory (l.value s) (Some (Number (pos 1)))

abbrev put_it : State → Meant → Option Made
put_it s a = option_map (λ (v : Value). put_out (convert (tested v) UChar)) (a.value s)

abbrev test_it : State → Meant → Option Made
test_it s a = option_map (λ (v : Value). shows (Number (tested v) ∷ []) []) (a.value s)

abbrev free_it : State → Meant → Option Made
free_it s a = option_and_then (freed_at s.memory) (a.value s)

abbrev count_it : State → Meant → Option ℤ
count_it s a = option_and_then number_in (a.value s)

module _ (types : Types) where
  abbrev give_it : State → Meant → Option Made
  give_it s a = option_map returning (option_and_then (as_result types.result) (a.value s))

  abbrev values_of : List Small → State → Option (List Value)
  values_of [] s = Some []
  values_of (a ∷ as_) s = beside ((means types a).value s) (values_of as_ s)

  abbrev handed : Into → Value → State → Option Made
  handed Nowhere v s = Some (shows (v ∷ []) [])
  handed (In a) v s = into s (means types a) (Some v)
  handed (New x) v s = begun_by types x (Some v) s

  abbrev ask : Ask → State → Option ℤ
  ask (One x) s = Some (pos 1)
  ask (Many a x) s = count_it s (means types a)
  ask (Times x a) s = count_it s (means types a)
  ask (Chars a) s = count_it s (means types a)

  abbrev type_for : Into → Option ExprType
  type_for Nowhere = None
  type_for (In a) = Some (means types a).type
  type_for (New x) = Some (types.typing.variable x)

  abbrev pub does : Deed → State → Option Made
  does (Start x a) s = begun_by types x ((means types a).value s) s
  does (StartAll x as_) s = listed (types.typing.variable x) s (variable_place x s) (values_of as_ s)
  does (Set l a) s = into s (means types l) ((means types a).value s)
  does (SetBy op l a) s = into s (means types l) (combined s op (means types l) (means types a))
  does (Bump l up) s = into s (means types l) (one_more s up (means types l))
  does (Get to) s = option_map taking (handed to (Number (next_byte s.unread)) s)
  does (Put a) s = put_it s (means types a)
  does (Show format args) s = option_map (printed_all format) (values_of args s)
  does (Heap to n) s = allocated_by (type_for to) (ask n s) (handed to (next_block s) s)
  does (Free a) s = free_it s (means types a)
  does (Give a) s = give_it s (means types a)
  does GiveNothing s = Some (shows [] [])
  does (Test a) s = test_it s (means types a)

  all_mean : (as_ : List Small) (s : State) → eval_all types (map tree as_) s ≡ values_of as_ s
  all_mean [] s = refl
  all_mean (a ∷ as_) s = ap₂ beside (ap (λ (m : Meant). m.value s) (means_tree types a)) (all_mean as_ s)

  handed_same : (to : Into) (v : Value) (s : State) → given types (to_tree to) v s ≡ handed to v s
  handed_same Nowhere v s = refl
  handed_same (In a) v s = ap (λ (m : Meant). into s m (Some v)) (means_tree types a)
  handed_same (New x) v s = refl

  asked_same : (n : Ask) (s : State) → asked_count types (ask_tree n) s ≡ ask n s
  asked_same (One x) s = refl
  asked_same (Many a x) s = ap (count_it s) (means_tree types a)
  asked_same (Times x a) s = ap (count_it s) (means_tree types a)
  asked_same (Chars a) s = ap (count_it s) (means_tree types a)

  type_same : (to : Into) → target_type types (to_tree to) ≡ type_for to
  type_same Nowhere = refl
  type_same (In a) = ap (λ (m : Meant). Some m.type) (means_tree types a)
  type_same (New x) = refl

  does_act : (d : Deed) (s : State) → made types (act d) s ≡ does d s
  does_act (Start x a) s = ap (λ (m : Meant). begun_by types x (m.value s) s) (means_tree types a)
  does_act (StartAll x as_) s = ap (listed (types.typing.variable x) s (variable_place x s)) (all_mean as_ s)
  does_act (Set l a) s = ap₂ (λ (m k : Meant). into s m (k.value s)) (means_tree types l) (means_tree types a)
  does_act (SetBy op l a) s = ap₂ (λ (m k : Meant). into s m (combined s op m k)) (means_tree types l) (means_tree types a)
  does_act (Bump l up) s = ap (λ (m : Meant). into s m (one_more s up m)) (means_tree types l)
  does_act (Get to) s = ap (option_map taking) (handed_same to (Number (next_byte s.unread)) s)
  does_act (Put a) s = ap (put_it s) (means_tree types a)
  does_act (Show format args) s = ap (option_map (printed_all format)) (all_mean args s)
  does_act (Heap to n) s =
      ap₂ (λ t k. allocated_by t k (given types (to_tree to) (next_block s) s)) (type_same to) (asked_same n s) ∙ ap (allocated_by (type_for to) (ask n s)) (handed_same to (next_block s) s)
  does_act (Free a) s = ap (free_it s) (means_tree types a)
  does_act (Give a) s = ap (give_it s) (means_tree types a)
  does_act GiveNothing s = refl
  does_act (Test a) s = ap (test_it s) (means_tree types a)

-- ---- lists

pub data SmallCode : Type 0 where
  Stop : SmallCode
  Open : ℕ → SmallCode → SmallCode
  Do : ℕ → Deed → SmallCode → SmallCode
  Choice : ℕ → Small → (ℤ → SmallCode) → SmallCode → SmallCode
  Turns : ℕ → Small → SmallCode → SmallCode → SmallCode
  Close : List ℕ → SmallCode → SmallCode
  Invoke : ℕ → Into → ℕ → List Small → SmallCode → SmallCode

abbrev pub list : SmallCode → Code
list Stop = End
list (Open x r) = Opens x (list r)
list (Do i d r) = Plain i (act d) (list r)
list (Choice i a c r) = Fork i (tree a) (λ v. list (c v)) (list r)
list (Turns i a b r) = Loop i (tree a) (list b) (list r)
list (Close xs r) = Leaves xs (list r)
list (Invoke i to g args r) = Call i (to_tree to) g (map tree args) (list r)

-- ---- the arms of a switch

pub record SmallArm : Type 0 where
  pub labels : List Label
  pub does : SmallCode

abbrev arm : SmallArm → ArmPart
arm a = record { labels = a.labels; does = list a.does }

abbrev otherwise : List SmallArm → SmallCode
otherwise [] = Stop
otherwise (a ∷ as_) = if has_default a.labels then a.does else otherwise as_

abbrev in_case : List SmallArm → ℤ → SmallCode → SmallCode
in_case [] v other = other
in_case (a ∷ as_) v other = if has_case v a.labels then a.does else in_case as_ v other

-- what is done at a value
abbrev pub arm_at : List SmallArm → ℤ → SmallCode
arm_at as_ v = in_case as_ v (otherwise as_)

either_list : (b : Bool) (c k : SmallCode) → list (if b then c else k) ≡ (if b then list c else list k)
either_list true c k = refl
either_list false c k = refl

otherwise_same : (as_ : List SmallArm) → list (otherwise as_) ≡ default_arm (map arm as_)
otherwise_same [] = refl
otherwise_same (a ∷ as_) =
    either_list (has_default a.labels) a.does (otherwise as_) ∙ ap (λ k. if has_default a.labels then list a.does else k) (otherwise_same as_)

in_case_same : (as_ : List SmallArm) (v : ℤ) (other : SmallCode) → list (in_case as_ v other) ≡ case_arm (map arm as_) v (list other)
in_case_same [] v other = refl
in_case_same (a ∷ as_) v other =
    either_list (has_case v a.labels) a.does (in_case as_ v other) ∙ ap (λ k. if has_case v a.labels then list a.does else k) (in_case_same as_ v other)

arm_same : (as_ : List SmallArm) (v : ℤ) → list (arm_at as_ v) ≡ taken_arm (map arm as_) v
arm_same as_ v = in_case_same as_ v (otherwise as_) ∙ ap (case_arm (map arm as_) v) (otherwise_same as_)

-- a choice by arms is the list of a switch
switch_same : (i : ℕ) (a : Small) (as_ : List SmallArm) (r : SmallCode) → list (Choice i a (arm_at as_) r) ≡ Fork i (tree a) (taken_arm (map arm as_)) (list r)
switch_same i a as_ r = ap (λ c. Fork i (tree a) c (list r)) (fun_ext (arm_same as_))

-- ---- programs

-- a function: its parameters, the variables of its outermost block, the type of its result, and what it does
pub record SmallRoutine : Type 0 where
  pub params : List ℕ
  pub locals : List ℕ
  pub result : Option ExprType
  pub code : SmallCode

-- what a global begins with
pub data SmallInit : Type 0 where
  Zero : SmallInit
  Alone : Small → SmallInit
  Listed : List Small → SmallInit

pub record SmallGlobal : Type 0 where
  pub variable : ℕ
  pub init : SmallInit

pub record SmallProgram : Type 0 where
  pub typing : Typing
  pub structs : Structs
  pub globals : List SmallGlobal
  pub functions : List SmallRoutine
  pub main : ℕ

abbrev init_tree : SmallInit → Init
init_tree Zero = init.None
init_tree (Alone a) = init.One (tree a)
init_tree (Listed as_) = init.Items (map tree as_)

abbrev routine : SmallRoutine → Routine
routine r = record { params = r.params; locals = r.locals; result = r.result; code = list r.code }

abbrev global : SmallGlobal → Global
global g = record { variable = g.variable; init = init_tree g.init }

abbrev pub built : SmallProgram → Executable
built p = record {
  typing = p.typing;
  structs = p.structs;
  globals = map global p.globals;
  functions = map routine p.functions;
  main = p.main;
}

abbrev small_code : List SmallRoutine → ℕ → SmallCode
small_code fs g = option_map_or (λ (r : SmallRoutine). r.code) (slice_get fs g) Stop

code_small : (fs : List SmallRoutine) (g : ℕ) → option_map_or (λ (r : Routine). r.code) (slice_get (map routine fs) g) End ≡ list (small_code fs g)
code_small [] g = refl
code_small (r ∷ fs) zero = refl
code_small (r ∷ fs) (suc g) = code_small fs g

module _ (p : SmallProgram) where
  abbrev types : ℕ → Types
  types f = types_in (built p) f

  -- ---- before main

  abbrev begun : ℕ → SmallInit → State → Option Made
  begun x Zero s = None
  begun x (Alone a) s = begun_by (outside (built p)) x ((means (outside (built p)) a).value s) s
  begun x (Listed as_) s = listed (p.typing.variable x) s (variable_place x s) (values_of (outside (built p)) as_ s)

  begun_same : (x : ℕ) (i : SmallInit) (s : State) → begun_with (outside (built p)) x (init_tree i) s ≡ begun x i s
  begun_same x Zero s = refl
  begun_same x (Alone a) s = ap (λ (m : Meant). begun_by (outside (built p)) x (m.value s) s) (means_tree (outside (built p)) a)
  begun_same x (Listed as_) s = ap (listed (p.typing.variable x) s (variable_place x s)) (all_mean (outside (built p)) as_ s)

  abbrev globals_begun : List SmallGlobal → State → State
  globals_begun [] s = s
  globals_begun (g ∷ gs) s =
      let opened = global_opened (built p) g.variable s in globals_begun gs (initialised (begun g.variable g.init opened) opened)

  globals_same : (gs : List SmallGlobal) (s : State) → all_begun (built p) (map global gs) s ≡ globals_begun gs s
  globals_same [] s = refl
  globals_same (g ∷ gs) s =
      let opened = global_opened (built p) g.variable s in
      globals_same gs (initialised (begun_with (outside (built p)) g.variable (init_tree g.init) opened) opened) ∙ ap (λ o. globals_begun gs (initialised o opened)) (begun_same g.variable g.init opened)

  abbrev start : List ℕ → State
  start input = record (globals_begun p.globals (blank (built p))) { unread = input }

  start_same : (input : List ℕ) → opening (built p) input ≡ start input
  start_same input = ap (λ (s : State). record s { unread = input }) (globals_same p.globals (blank (built p)))

  -- ---- calls

  abbrev renewed : State → State
  renewed s = record s { frame = (start []).frame; returned = None }

  renewed_same : (s : State) → fresh (built p) s ≡ renewed s
  renewed_same s = ap (λ (o : State). record s { frame = o.frame; returned = None }) (start_same [])

  abbrev entered : (f g : ℕ) → List Small → State → Option State
  entered f g args s =
      option_and_then (λ (r : Routine). option_and_then (λ (vs : List Value). passed (built p) r.params vs (renewed s)) (values_of (types f) args s)) (slice_get (built p).functions g)

  entered_same : (f g : ℕ) (args : List Small) (s : State) → called (built p) f g (map tree args) s ≡ entered f g args s
  entered_same f g args s =
      ap₂ (λ o c. option_and_then (λ (r : Routine). option_and_then (λ (vs : List Value). passed (built p) r.params vs c) o) (slice_get (built p).functions g)) (all_mean (types f) args s) (renewed_same s)

  abbrev got : ℕ → Into → Option Value → State → Option Made
  got f to o s = option_and_then (λ (v : Value). handed (types f) to v s) o

  got_same : (f : ℕ) (to : Into) (o : Option Value) (s : State) → received (types f) (to_tree to) o s ≡ got f to o s
  got_same f to None s = refl
  got_same f to (Some v) s = handed_same (types f) to v s

  abbrev take_back : ℕ → ℕ → Into → Option Value → Go → Go
  take_back f i Nowhere v go n s t = go n s t
  take_back f i (In a) v go n s t = after_made i (got f (In a) v s) (λ x. go) n s t
  take_back f i (New x) v go n s t = after_made i (got f (New x) v s) (λ x. go) n s t

  abbrev back_to : (f g i : ℕ) → Into → State → Go → Go
  back_to f g i to s go n c t = take_back f i to c.returned go n (resumed (built p) g s.frame s.returned c) t

  -- ---- runs

  abbrev take : ℕ → ℕ → Deed → (Made → Go) → Go
  take f i d go zero s t = Over (More t)
  take f i d go (suc n) s t = after_made i (does (types f) d s) go n s t

  abbrev run : (ℕ → SmallCode → Go) → ℕ → SmallCode → Go
  run again f Stop n s t = Done n s t
  run again f (Open x r) n s t = run again f r n (variable_opened (types f) x s) t
  run again f (Do i d r) n s t = take f i d (λ x. run again f r) n s t
  run again f (Choice i a c r) n s t =
      take f i (Test a) (λ x n s t. then_do (run again f (c (picked x)) n s t) (run again f r)) n s t
  run again f (Turns i a b r) n s t =
      take f i (Test a) (λ x n s t. either (is_true (picked x)) (then_do (run again f b n s t) (again f (Turns i a b r))) (run again f r n s t)) n s t
  run again f (Close xs r) n s t = run again f r n (all_closed xs s) t
  run again f (Invoke i to g args r) n s t =
      take_call i (to_tree to) (entered f g args s) (λ n c t. then_do (again g (small_code p.functions g) n c t) (back_to f g i to s (run again f r))) n s t

  abbrev deep_run : ℕ → ℕ → SmallCode → Go
  deep_run zero f c n s t = Over (More t)
  deep_run (suc d) f c n s t = run (deep_run d) f c n s t

  -- ---- the same

  made_same : (i : ℕ) (o : Option Made) (go og : Made → Go) → ((x : Made) (n : ℕ) (s : State) (t : Trace) → go x n s t ≡ og x n s t) → (n : ℕ) (s : State) (t : Trace) → after_made i o go n s t ≡ after_made i o og n s t
  made_same i None go og h n s t = refl
  made_same i (Some x) go og h n s t = h x n (after i x s) _

  take_same : (f i : ℕ) (d : Deed) (go og : Made → Go) → ((x : Made) (n : ℕ) (s : State) (t : Trace) → go x n s t ≡ og x n s t) → (n : ℕ) (s : State) (t : Trace) → take_act (types f) i (act d) go n s t ≡ take f i d og n s t
  take_same f i d go og h zero s t = refl
  take_same f i d go og h (suc n) s t =
      ap (λ o. after_made i o go n s t) (does_act (types f) d s) ∙ made_same i (does (types f) d s) go og h n s t

  then_same : (o q : Outcome) (go og : Go) → o ≡ q → ((n : ℕ) (s : State) (t : Trace) → go n s t ≡ og n s t) → then_do o go ≡ then_do q og
  then_same o q go og e h = ap (λ r. then_do r go) e ∙ at_outcome q
    where
      at_outcome : (r : Outcome) → then_do r go ≡ then_do r og
      at_outcome (Done n s t) = h n s t
      at_outcome (Over a) = refl

  after_same : (i : ℕ) (to : Target) (o : Option State) (go og : Go) → ((n : ℕ) (s : State) (t : Trace) → go n s t ≡ og n s t) → (n : ℕ) (s : State) (t : Trace) → after_called i to o go n s t ≡ after_called i to o og n s t
  after_same i to None go og h n s t = refl
  after_same i to (Some c) go og h n s t = h n c _

  call_same : (i : ℕ) (to : Target) (o q : Option State) (go og : Go) → o ≡ q → ((n : ℕ) (s : State) (t : Trace) → go n s t ≡ og n s t) → (n : ℕ) (s : State) (t : Trace) → take_call i to o go n s t ≡ take_call i to q og n s t
  call_same i to o q go og e h zero s t = refl
  call_same i to o q go og e h (suc n) s t = ap (λ r. after_called i to r go n s t) e ∙ after_same i to q go og h n s t

  back_same : (f i : ℕ) (to : Into) (v : Option Value) (go og : Go) → ((n : ℕ) (s : State) (t : Trace) → go n s t ≡ og n s t) → (n : ℕ) (s : State) (t : Trace) → receive (types f) i (to_tree to) v go n s t ≡ take_back f i to v og n s t
  back_same f i Nowhere v go og h n s t = h n s t
  back_same f i (In a) v go og h n s t =
      ap (λ o. after_made i o (λ x. go) n s t) (got_same f (In a) v s) ∙ made_same i (got f (In a) v s) (λ x. go) (λ x. og) (λ x. h) n s t
  back_same f i (New y) v go og h n s t =
      ap (λ o. after_made i o (λ x. go) n s t) (got_same f (New y) v s) ∙ made_same i (got f (New y) v s) (λ x. go) (λ x. og) (λ x. h) n s t

  run_same : (again : ℕ → Code → Go) (once : ℕ → SmallCode → Go) → ((f : ℕ) (c : SmallCode) (n : ℕ) (s : State) (t : Trace) → again f (list c) n s t ≡ once f c n s t) → (f : ℕ) (c : SmallCode) (n : ℕ) (s : State) (t : Trace) → exec (built p) again f (list c) n s t ≡ run once f c n s t
  run_same again once h f Stop n s t = refl
  run_same again once h f (Open x r) n s t = run_same again once h f r n (variable_opened (types f) x s) t
  run_same again once h f (Do i d r) n s t =
      take_same f i d (λ x. exec (built p) again f (list r)) (λ x. run once f r) (λ x n s t. run_same again once h f r n s t) n s t
  run_same again once h f (Choice i a c r) n s t =
      take_same f i (Test a) (λ x n s t. then_do (exec (built p) again f (list (c (picked x))) n s t) (exec (built p) again f (list r))) (λ x n s t. then_do (run once f (c (picked x)) n s t) (run once f r)) (λ x n s t. then_same _ _ _ _ (run_same again once h f (c (picked x)) n s t) (λ n s t. run_same again once h f r n s t)) n s t
  run_same again once h f (Turns i a b r) n s t =
      take_same f i (Test a) (λ x n s t. either (is_true (picked x)) (then_do (exec (built p) again f (list b) n s t) (again f (list (Turns i a b r)))) (exec (built p) again f (list r) n s t)) (λ x n s t. either (is_true (picked x)) (then_do (run once f b n s t) (once f (Turns i a b r))) (run once f r n s t)) (λ x n s t. ap₂ (either (is_true (picked x))) (then_same _ _ _ _ (run_same again once h f b n s t) (h f (Turns i a b r))) (run_same again once h f r n s t)) n s t
  run_same again once h f (Close xs r) n s t = run_same again once h f r n (all_closed xs s) t
  run_same again once h f (Invoke i to g args r) n s t =
      call_same i (to_tree to) (called (built p) f g (map tree args) s) (entered f g args s) (λ n c t. then_do (again g (code_at (built p) g) n c t) (come_back (built p) f g i (to_tree to) s (exec (built p) again f (list r)))) (λ n c t. then_do (once g (small_code p.functions g) n c t) (back_to f g i to s (run once f r))) (entered_same f g args s) (λ n c t. then_same _ _ _ _ (ap (λ k. again g k n c t) (code_small p.functions g) ∙ h g (small_code p.functions g) n c t) (λ n c t. back_same f i to c.returned (exec (built p) again f (list r)) (run once f r) (λ n s t. run_same again once h f r n s t) n (resumed (built p) g s.frame s.returned c) t)) n s t

  deep_same : (d f : ℕ) (c : SmallCode) (n : ℕ) (s : State) (t : Trace) → deep (built p) d f (list c) n s t ≡ deep_run d f c n s t
  deep_same zero f c n s t = refl
  deep_same (suc d) f c n s t = run_same (deep (built p) d) (deep_run d) (deep_same d) f c n s t

-- ---- what is told of a run

pub data Tale : Type 0 where
  -- it ends, with the statements and values of its events, and its output
  Ends : List (ℕ × List ℤ) → Bytes → Tale
  Fails : (statement : ℕ) → Tale
  NeedsMore : Tale

-- a pointer that isn't null is told by its index, and a null pointer as -1
abbrev number : Shown → ℤ
number (shown.Number z) = z
number shown.Null = negsuc 0
number (shown.Index i) = pos i

abbrev pairs : List Event → List (ℕ × List ℤ)
pairs [] = []
pairs (x ∷ xs) = (x.statement, map number x.values) ∷ pairs xs

abbrev pub tale : Answer → Tale
tale (Ended t) = Ends (pairs t.events) t.output
tale (Undefined i t) = Fails i
tale (More t) = NeedsMore

abbrev pub computed : SmallProgram → ℕ → List ℕ → Tale
computed p n input = tale (answer (deep_run p (suc n) p.main (small_code p.functions p.main) n (start p input) nothing))

-- a program comes to this within n acts on an input
pub record Tells (p : SmallProgram) (n : ℕ) (input : List ℕ) (told : Tale) : Type 0 where
  pub is : tale (main_meaning (built p) n input) ≡ told

pub tells : {p : SmallProgram} {n : ℕ} {input : List ℕ} {told : Tale} → computed p n input ≡ told → Tells p n input told
tells {p} {n} {input} {told} h =
    let main = small_code p.functions p.main in
    let first : code_meaning (built p) p.main n (code_at (built p) p.main) input ≡ code_meaning (built p) p.main n (list main) input = ap (λ c. code_meaning (built p) p.main n c input) (code_small p.functions p.main) in
    record { is = ap tale (first ∙ (ap (λ s. answer (deep (built p) (suc n) p.main (list main) n s nothing)) (start_same p input) ∙ ap answer (deep_same p (suc n) p.main main n (start p input) nothing))) ∙ h }

-- a program of main alone, with these types
abbrev pub alone : Types → SmallCode → SmallProgram
alone types c = record {
  typing = types.typing;
  structs = [];
  globals = [];
  functions = (record { params = []; locals = []; result = types.result; code = c }) ∷ [];
  main = 0;
}

-- a list of these types comes to this within n acts
abbrev pub ComesTo : Types → ℕ → SmallCode → Tale → Type 0
ComesTo types n c told = Tells (alone types c) n [] told

pub comes : {types : Types} {n : ℕ} {c : SmallCode} {told : Tale} → computed (alone types c) n [] ≡ told → ComesTo types n c told
comes {types} {n} {c} {told} h = tells {p = alone types c} {n = n} {input = []} {told = told} h

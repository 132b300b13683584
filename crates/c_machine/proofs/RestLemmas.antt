-- What is left to do, by its last piece; and what each form of statement does before what comes after it.
use Rattle.std.proofs.Common.{◌≡◌, ℕ, ℤ, ◌+◌, ◌<◌, List, [], ◌∷◌, ◌++◌, map, length, drop, get_or, Option, Some, None, Bool, true, false, refl, sym, ap, ◌∙◌, subst}
use Rattle.std.specs.Prelude.{if◌then◌else◌, ◌||◌}
use Rattle.std.specs.Option.{option_to_list}
use Rattle.c_language.proofs.Turns.{drop_turn}
use Rattle.c_arith.specs.declared.operators.BinaryOp.{BinaryOp}
use Rattle.c_tree.specs.declared.types.CType.{CType}
use Rattle.c_tree.specs.declared.expr.Expr.{Expr}
use Rattle.c_tree.specs.declared.program.Init.{Init}
use Rattle.c_tree.specs.declared.statement.Amount.{Amount}
use Rattle.c_tree.specs.declared.statement.Arm.{Arm, fold_out-Arm}
use Rattle.c_tree.specs.declared.statement.Label.{Label}
use Rattle.c_tree.specs.declared.statement.Target.{Target}
use Rattle.c_tree.specs.declared.statement.Target.TheVariants as target
use Rattle.c_tree.specs.declared.statement.Statement.{Statement, out-Statement}
use Rattle.c_tree.specs.declared.statement.Statement.TheOpen.{Statement-F}
use Rattle.c_tree.specs.declared.statement.Statement.TheVariants as s
use Rattle.c_tree.specs.declared.statement.Statement.TheViews.{roll-out-Statement}
use Rattle.c_tree.proofs.LayerLemmas.{out-Declare, out-Assign, out-Bump, out-Invoke, out-Fetch, out-Write, out-Print, out-Heap, out-Release, out-If, out-While, out-Do, out-For, out-Switch, out-Block, out-Return}
use Rattle.c_language.specs.Code.{Sets, Bumps, Fetches, Writes, Prints, Allocates, Frees, Returns, Code, End, Opens, Plain, Fork, Loop, Leaves, Call, ◌⨟◌, is_true, either, leave, StatementPart, declared_in, in_turn, list_of, block, ArmPart, is_case, has_case, is_default, has_default, case_arm, default_arm, taken_arm, begun_code, given_to, part, part_step, arm_step}
use Rattle.c_meaning.proofs.Codes.{layer_part, part-roll}
use Rattle.c_machine.specs.declared.rests.Rest.{Rest}
use Rattle.c_machine.specs.Rests.{list_before, ends_before, block_before, block_in, arm_part, turn_of, opened_for, declared_for, rest_code, left_before, left_code}

-- ---- pieces

left_before-push : (rs : List Rest) (r : Rest) (k : Code) → left_before (rs ++ r ∷ []) k ≡ rest_code r (left_before rs k)
left_before-push [] r k = refl
left_before-push (q ∷ rs) r k = left_before-push rs r (rest_code q k)

pub left-push : (rs : List Rest) (r : Rest) → left_code (rs ++ r ∷ []) ≡ rest_code r (left_code rs)
left-push rs r = left_before-push rs r End

-- ---- one list after another

then_then : (a b c : Code) → (a ⨟ b) ⨟ c ≡ a ⨟ (b ⨟ c)
then_then End b c = refl
then_then (Opens x r) b c = ap (Opens x) (then_then r b c)
then_then (Plain i a r) b c = ap (Plain i a) (then_then r b c)
then_then (Fork i e d r) b c = ap (Fork i e d) (then_then r b c)
then_then (Loop i e d r) b c = ap (Loop i e d) (then_then r b c)
then_then (Leaves xs r) b c = ap (Leaves xs) (then_then r b c)
then_then (Call i to f args r) b c = ap (Call i to f args) (then_then r b c)

leave_then : (xs : List ℕ) (r k : Code) → leave xs r ⨟ k ≡ leave xs (r ⨟ k)
leave_then [] r k = refl
leave_then (x ∷ xs) r k = refl

-- ---- what comes after a statement stays after it

linear_given : (to : Target) (f : Code → Code) → ((a k : Code) → f (a ⨟ k) ≡ f a ⨟ k) → (a k : Code) → (given_to to f).before (a ⨟ k) ≡ (given_to to f).before a ⨟ k
linear_given target.None f h a k = h a k
linear_given (target.Place e) f h a k = h a k
linear_given (target.Declared x) f h a k = ap (Opens x) (h a k)

linear_for : (ss : List StatementPart) (id : ℕ) (e : Expr) (body a k : Code) → list_of ss ⨟ Loop id e body (leave (declared_in ss) (a ⨟ k)) ≡ (list_of ss ⨟ Loop id e body (leave (declared_in ss) a)) ⨟ k
linear_for ss id e body a k =
    ap (λ c. list_of ss ⨟ Loop id e body c) (sym (leave_then (declared_in ss) a k)) ∙ sym (then_then (list_of ss) (Loop id e body (leave (declared_in ss) a)) k)

linear_layer : (z : Statement-F Statement Arm) (a k : Code) → (layer_part z).before (a ⨟ k) ≡ (layer_part z).before a ⨟ k
linear_layer (Statement-F.Declare None l x i) a k = refl
linear_layer (Statement-F.Declare (Some id) l x i) a k = refl
linear_layer (Statement-F.Assign id l left op right) a k = refl
linear_layer (Statement-F.Bump id l e up before) a k = refl
linear_layer (Statement-F.Invoke id l to f args) a k = linear_given to _ (λ b c. refl) a k
linear_layer (Statement-F.Fetch id l to) a k = linear_given to _ (λ b c. refl) a k
linear_layer (Statement-F.Write id l e) a k = refl
linear_layer (Statement-F.Print id l format args) a k = refl
linear_layer (Statement-F.Heap id l to cast n) a k = linear_given to _ (λ b c. refl) a k
linear_layer (Statement-F.Release id l e) a k = refl
linear_layer (Statement-F.If id l e b c) a k = refl
linear_layer (Statement-F.While id l e b) a k = refl
linear_layer (Statement-F.Do id l e b) a k = sym (then_then (block (map part b)) _ k)
linear_layer (Statement-F.For id l None e None b) a k = refl
linear_layer (Statement-F.For id l None e (Some y) b) a k = refl
linear_layer (Statement-F.For id l (Some x) e None b) a k = linear_for (part x ∷ []) id e (block (map part b) ⨟ End) a k
linear_layer (Statement-F.For id l (Some x) e (Some y) b) a k = linear_for (part x ∷ []) id e (block (map part b) ⨟ list_of (part y ∷ [])) a k
linear_layer (Statement-F.Switch id l e arms) a k = refl
linear_layer (Statement-F.Block l b) a k = sym (then_then (block (map part b)) a k)
linear_layer (Statement-F.Return id l e) a k = refl

-- a statement is a layer
part_layer : (x : Statement) → part x ≡ layer_part (out-Statement x)
part_layer x = ap part (sym (roll-out-Statement x)) ∙ part-roll (out-Statement x)

before_then : (x : Statement) (a k : Code) → (part x).before (a ⨟ k) ≡ (part x).before a ⨟ k
before_then x a k = subst (λ (q : StatementPart). q.before (a ⨟ k) ≡ q.before a ⨟ k) (sym (part_layer x)) (linear_layer (out-Statement x) a k)

pub list_then : (ss : List Statement) (a k : Code) → in_turn (map part ss) a ⨟ k ≡ list_before ss (a ⨟ k)
list_then [] a k = refl
list_then (x ∷ ss) a k = sym (before_then x (in_turn (map part ss) a) k) ∙ ap (part x).before (list_then ss a k)

pub block_then : (ss : List Statement) (k : Code) → block_in ss ⨟ k ≡ block_before ss k
block_then ss k = list_then ss (leave (declared_in (map part ss)) End) k ∙ ap (list_before ss) (leave_then (declared_in (map part ss)) End k)

-- a turn of a for, before what comes after it
pub turn_then : (b ss : List Statement) (k : Code) → (block_in b ⨟ list_of (map part ss)) ⨟ k ≡ block_before b (list_before ss k)
turn_then b ss k =
    then_then (block_in b) (list_of (map part ss)) k ∙ ap (λ c. block_in b ⨟ c) (list_then ss End k) ∙ block_then b (list_before ss k)

-- ---- forms

-- what a statement does before what comes after it
abbrev begins : Statement-F Statement Arm → Code → Code
begins (Statement-F.Declare id l x init) k = Opens x (begun_code id x init k)
begins (Statement-F.Assign id l left op right) k = Plain id (Sets left op right) k
begins (Statement-F.Bump id l a up before) k = Plain id (Bumps a up) k
begins (Statement-F.Invoke id l to f args) k = opened_for to (Call id to f args k)
begins (Statement-F.Fetch id l to) k = opened_for to (Plain id (Fetches to) k)
begins (Statement-F.Write id l e) k = Plain id (Writes e) k
begins (Statement-F.Print id l format args) k = Plain id (Prints format args) k
begins (Statement-F.Heap id l to cast n) k = opened_for to (Plain id (Allocates to n) k)
begins (Statement-F.Release id l e) k = Plain id (Frees e) k
begins (Statement-F.If id l e a b) k = Fork id e (λ v. either (is_true v) (block_in a) (block_in b)) k
begins (Statement-F.While id l e b) k = Loop id e (block_in b) k
begins (Statement-F.Do id l e b) k = block_before b (Loop id e (block_in b) k)
begins (Statement-F.For id l i e step b) k = list_before (option_to_list i) (Loop id e (turn_of b step) (ends_before (option_to_list i) k))
begins (Statement-F.Switch id l e arms) k = Fork id e (taken_arm (map arm_part arms)) k
begins (Statement-F.Block l b) k = block_before b k
begins (Statement-F.Return id l e) k = Plain id (Returns e) k

given_begins : (to : Target) (f : Code → Code) (k : Code) → (given_to to f).before k ≡ opened_for to (f k)
given_begins target.None f k = refl
given_begins (target.Place e) f k = refl
given_begins (target.Declared x) f k = refl

for_begins : (x : Statement) (c k : Code) → list_of (part x ∷ []) ⨟ c ≡ list_before (x ∷ []) c
for_begins x c k = list_then (x ∷ []) End c

layer_begins : (z : Statement-F Statement Arm) (k : Code) → (layer_part z).before k ≡ begins z k
layer_begins (Statement-F.Declare id l x init) k = refl
layer_begins (Statement-F.Assign id l left op right) k = refl
layer_begins (Statement-F.Bump id l a up before) k = refl
layer_begins (Statement-F.Invoke id l to f args) k = given_begins to _ k
layer_begins (Statement-F.Fetch id l to) k = given_begins to _ k
layer_begins (Statement-F.Write id l e) k = refl
layer_begins (Statement-F.Print id l format args) k = refl
layer_begins (Statement-F.Heap id l to cast n) k = given_begins to _ k
layer_begins (Statement-F.Release id l e) k = refl
layer_begins (Statement-F.If id l e a b) k = refl
layer_begins (Statement-F.While id l e b) k = refl
layer_begins (Statement-F.Do id l e b) k = block_then b (Loop id e (block_in b) k)
layer_begins (Statement-F.For id l None e None b) k = refl
layer_begins (Statement-F.For id l None e (Some y) b) k = refl
layer_begins (Statement-F.For id l (Some x) e None b) k = for_begins x _ k
layer_begins (Statement-F.For id l (Some x) e (Some y) b) k = for_begins x _ k
layer_begins (Statement-F.Switch id l e arms) k = refl
layer_begins (Statement-F.Block l b) k = block_then b k
layer_begins (Statement-F.Return id l e) k = refl

form : (x : Statement) (z : Statement-F Statement Arm) (k : Code) → out-Statement x ≡ z → (part x).before k ≡ begins z k
form x z k is = ap (λ (q : StatementPart). q.before k) (part_layer x ∙ ap layer_part is) ∙ layer_begins z k

pub code-Declare : (id : Option ℕ) (l x : ℕ) (init : Init) (k : Code) → (part (s.Declare id l x init)).before k ≡ Opens x (begun_code id x init k)
code-Declare id l x init k = form (s.Declare id l x init) (Statement-F.Declare id l x init) k (out-Declare id l x init)

pub code-Assign : (id l : ℕ) (left : Expr) (op : Option BinaryOp) (right : Expr) (k : Code) → (part (s.Assign id l left op right)).before k ≡ Plain id (Sets left op right) k
code-Assign id l left op right k = form (s.Assign id l left op right) (Statement-F.Assign id l left op right) k (out-Assign id l left op right)

pub code-Bump : (id l : ℕ) (a : Expr) (up before : Bool) (k : Code) → (part (s.Bump id l a up before)).before k ≡ Plain id (Bumps a up) k
code-Bump id l a up before k = form (s.Bump id l a up before) (Statement-F.Bump id l a up before) k (out-Bump id l a up before)

pub code-Invoke : (id l : ℕ) (to : Target) (f : ℕ) (args : List Expr) (k : Code) → (part (s.Invoke id l to f args)).before k ≡ opened_for to (Call id to f args k)
code-Invoke id l to f args k = form (s.Invoke id l to f args) (Statement-F.Invoke id l to f args) k (out-Invoke id l to f args)

pub code-Fetch : (id l : ℕ) (to : Target) (k : Code) → (part (s.Fetch id l to)).before k ≡ opened_for to (Plain id (Fetches to) k)
code-Fetch id l to k = form (s.Fetch id l to) (Statement-F.Fetch id l to) k (out-Fetch id l to)

pub code-Write : (id l : ℕ) (e : Expr) (k : Code) → (part (s.Write id l e)).before k ≡ Plain id (Writes e) k
code-Write id l e k = form (s.Write id l e) (Statement-F.Write id l e) k (out-Write id l e)

pub code-Print : (id l : ℕ) (format : List ℕ) (args : List Expr) (k : Code) → (part (s.Print id l format args)).before k ≡ Plain id (Prints format args) k
code-Print id l format args k = form (s.Print id l format args) (Statement-F.Print id l format args) k (out-Print id l format args)

pub code-Heap : (id l : ℕ) (to : Target) (cast : Option CType) (n : Amount) (k : Code) → (part (s.Heap id l to cast n)).before k ≡ opened_for to (Plain id (Allocates to n) k)
code-Heap id l to cast n k = form (s.Heap id l to cast n) (Statement-F.Heap id l to cast n) k (out-Heap id l to cast n)

pub code-Release : (id l : ℕ) (e : Expr) (k : Code) → (part (s.Release id l e)).before k ≡ Plain id (Frees e) k
code-Release id l e k = form (s.Release id l e) (Statement-F.Release id l e) k (out-Release id l e)

pub code-If : (id l : ℕ) (e : Expr) (a b : List Statement) (k : Code) → (part (s.If id l e a b)).before k ≡ Fork id e (λ v. either (is_true v) (block_in a) (block_in b)) k
code-If id l e a b k = form (s.If id l e a b) (Statement-F.If id l e a b) k (out-If id l e a b)

pub code-While : (id l : ℕ) (e : Expr) (b : List Statement) (k : Code) → (part (s.While id l e b)).before k ≡ Loop id e (block_in b) k
code-While id l e b k = form (s.While id l e b) (Statement-F.While id l e b) k (out-While id l e b)

pub code-Do : (id l : ℕ) (e : Expr) (b : List Statement) (k : Code) → (part (s.Do id l e b)).before k ≡ block_before b (Loop id e (block_in b) k)
code-Do id l e b k = form (s.Do id l e b) (Statement-F.Do id l e b) k (out-Do id l e b)

pub code-For : (id l : ℕ) (i : Option Statement) (e : Expr) (step : Option Statement) (b : List Statement) (k : Code) → (part (s.For id l i e step b)).before k ≡ list_before (option_to_list i) (Loop id e (turn_of b step) (ends_before (option_to_list i) k))
code-For id l i e step b k = form (s.For id l i e step b) (Statement-F.For id l i e step b) k (out-For id l i e step b)

pub code-Switch : (id l : ℕ) (e : Expr) (arms : List Arm) (k : Code) → (part (s.Switch id l e arms)).before k ≡ Fork id e (taken_arm (map arm_part arms)) k
code-Switch id l e arms k = form (s.Switch id l e arms) (Statement-F.Switch id l e arms) k (out-Switch id l e arms)

pub code-Block : (l : ℕ) (b : List Statement) (k : Code) → (part (s.Block l b)).before k ≡ block_before b k
code-Block l b k = form (s.Block l b) (Statement-F.Block l b) k (out-Block l b)

pub code-Return : (id l : ℕ) (e : Option Expr) (k : Code) → (part (s.Return id l e)).before k ≡ Plain id (Returns e) k
code-Return id l e k = form (s.Return id l e) (Statement-F.Return id l e) k (out-Return id l e)

-- ---- what a statement declares

declares_in : (x : Statement) (z : Statement-F Statement Arm) → out-Statement x ≡ z → (part x).declares ≡ (layer_part z).declares
declares_in x z is = ap (λ (q : StatementPart). q.declares) (part_layer x ∙ ap layer_part is)

given_declares : (to : Target) (f : Code → Code) → (given_to to f).declares ≡ declared_for to
given_declares target.None f = refl
given_declares (target.Place e) f = refl
given_declares (target.Declared x) f = refl

pub declares-Declare : (id : Option ℕ) (l x : ℕ) (init : Init) → (part (s.Declare id l x init)).declares ≡ x ∷ []
declares-Declare id l x init = declares_in (s.Declare id l x init) (Statement-F.Declare id l x init) (out-Declare id l x init)

pub declares-Assign : (id l : ℕ) (left : Expr) (op : Option BinaryOp) (right : Expr) → (part (s.Assign id l left op right)).declares ≡ []
declares-Assign id l left op right = declares_in (s.Assign id l left op right) (Statement-F.Assign id l left op right) (out-Assign id l left op right)

pub declares-Bump : (id l : ℕ) (a : Expr) (up before : Bool) → (part (s.Bump id l a up before)).declares ≡ []
declares-Bump id l a up before = declares_in (s.Bump id l a up before) (Statement-F.Bump id l a up before) (out-Bump id l a up before)

pub declares-Invoke : (id l : ℕ) (to : Target) (f : ℕ) (args : List Expr) → (part (s.Invoke id l to f args)).declares ≡ declared_for to
declares-Invoke id l to f args = declares_in (s.Invoke id l to f args) (Statement-F.Invoke id l to f args) (out-Invoke id l to f args) ∙ given_declares to _

pub declares-Fetch : (id l : ℕ) (to : Target) → (part (s.Fetch id l to)).declares ≡ declared_for to
declares-Fetch id l to = declares_in (s.Fetch id l to) (Statement-F.Fetch id l to) (out-Fetch id l to) ∙ given_declares to _

pub declares-Write : (id l : ℕ) (e : Expr) → (part (s.Write id l e)).declares ≡ []
declares-Write id l e = declares_in (s.Write id l e) (Statement-F.Write id l e) (out-Write id l e)

pub declares-Print : (id l : ℕ) (format : List ℕ) (args : List Expr) → (part (s.Print id l format args)).declares ≡ []
declares-Print id l format args = declares_in (s.Print id l format args) (Statement-F.Print id l format args) (out-Print id l format args)

pub declares-Heap : (id l : ℕ) (to : Target) (cast : Option CType) (n : Amount) → (part (s.Heap id l to cast n)).declares ≡ declared_for to
declares-Heap id l to cast n = declares_in (s.Heap id l to cast n) (Statement-F.Heap id l to cast n) (out-Heap id l to cast n) ∙ given_declares to _

pub declares-Release : (id l : ℕ) (e : Expr) → (part (s.Release id l e)).declares ≡ []
declares-Release id l e = declares_in (s.Release id l e) (Statement-F.Release id l e) (out-Release id l e)

pub declares-If : (id l : ℕ) (e : Expr) (a b : List Statement) → (part (s.If id l e a b)).declares ≡ []
declares-If id l e a b = declares_in (s.If id l e a b) (Statement-F.If id l e a b) (out-If id l e a b)

pub declares-While : (id l : ℕ) (e : Expr) (b : List Statement) → (part (s.While id l e b)).declares ≡ []
declares-While id l e b = declares_in (s.While id l e b) (Statement-F.While id l e b) (out-While id l e b)

pub declares-Do : (id l : ℕ) (e : Expr) (b : List Statement) → (part (s.Do id l e b)).declares ≡ []
declares-Do id l e b = declares_in (s.Do id l e b) (Statement-F.Do id l e b) (out-Do id l e b)

pub declares-For : (id l : ℕ) (i : Option Statement) (e : Expr) (step : Option Statement) (b : List Statement) → (part (s.For id l i e step b)).declares ≡ []
declares-For id l i e step b = declares_in (s.For id l i e step b) (Statement-F.For id l i e step b) (out-For id l i e step b)

pub declares-Switch : (id l : ℕ) (e : Expr) (arms : List Arm) → (part (s.Switch id l e arms)).declares ≡ []
declares-Switch id l e arms = declares_in (s.Switch id l e arms) (Statement-F.Switch id l e arms) (out-Switch id l e arms)

pub declares-Block : (l : ℕ) (b : List Statement) → (part (s.Block l b)).declares ≡ []
declares-Block l b = declares_in (s.Block l b) (Statement-F.Block l b) (out-Block l b)

pub declares-Return : (id l : ℕ) (e : Option Expr) → (part (s.Return id l e)).declares ≡ []
declares-Return id l e = declares_in (s.Return id l e) (Statement-F.Return id l e) (out-Return id l e)

-- ---- arms of a switch

module _ (ls : List Label) (i : ℕ) (l : Label) (within : i < length ls) (is : l ≡ get_or ls i l) where
  labels_are : drop i ls ≡ l ∷ drop (i + 1) ls
  labels_are = drop_turn ls i l within is

  pub case_label : (v : ℤ) → is_case v l ≡ true → has_case v (drop i ls) ≡ true
  case_label v is_one = ap (has_case v) labels_are ∙ ap (λ (b : Bool). b || has_case v (drop (i + 1) ls)) is_one

  pub other_label : (v : ℤ) → is_case v l ≡ false → has_case v (drop i ls) ≡ has_case v (drop (i + 1) ls)
  other_label v is_none = ap (has_case v) labels_are ∙ ap (λ (b : Bool). b || has_case v (drop (i + 1) ls)) is_none

  pub default_label : is_default l ≡ true → has_default (drop i ls) ≡ true
  default_label is_one = ap has_default labels_are ∙ ap (λ (b : Bool). b || has_default (drop (i + 1) ls)) is_one

  pub case_of_it : is_default l ≡ false → has_default (drop i ls) ≡ has_default (drop (i + 1) ls)
  case_of_it is_none = ap has_default labels_are ∙ ap (λ (b : Bool). b || has_default (drop (i + 1) ls)) is_none

arm_is : (a : Arm) → arm_part a ≡ record { labels = a.labels; does = block_in a.body }
arm_is a = fold_out-Arm StatementPart ArmPart part_step arm_step a

module _ (arms : List Arm) (i : ℕ) (a : Arm) (within : i < length arms) (is : a ≡ get_or arms i a) where
  arms_are : map arm_part (drop i arms) ≡ record { labels = a.labels; does = block_in a.body } ∷ map arm_part (drop (i + 1) arms)
  arms_are = ap (map arm_part) (drop_turn arms i a within is) ∙ ap (λ (q : ArmPart). q ∷ map arm_part (drop (i + 1) arms)) (arm_is a)

  case_at : (v : ℤ) (other : Code) → case_arm (map arm_part (drop i arms)) v other ≡ (if has_case v a.labels then block_in a.body else case_arm (map arm_part (drop (i + 1) arms)) v other)
  case_at v other = ap (λ (qs : List ArmPart). case_arm qs v other) arms_are

  default_at : default_arm (map arm_part (drop i arms)) ≡ (if has_default a.labels then block_in a.body else default_arm (map arm_part (drop (i + 1) arms)))
  default_at = ap default_arm arms_are

  pub case_here : (v : ℤ) (other : Code) → has_case v a.labels ≡ true → case_arm (map arm_part (drop i arms)) v other ≡ block_in a.body
  case_here v other has = case_at v other ∙ ap (λ (b : Bool). if b then block_in a.body else case_arm (map arm_part (drop (i + 1) arms)) v other) has

  pub case_behind : (v : ℤ) (other : Code) → has_case v a.labels ≡ false → case_arm (map arm_part (drop i arms)) v other ≡ case_arm (map arm_part (drop (i + 1) arms)) v other
  case_behind v other has = case_at v other ∙ ap (λ (b : Bool). if b then block_in a.body else case_arm (map arm_part (drop (i + 1) arms)) v other) has

  pub default_here : has_default a.labels ≡ true → default_arm (map arm_part (drop i arms)) ≡ block_in a.body
  default_here has = default_at ∙ ap (λ (b : Bool). if b then block_in a.body else default_arm (map arm_part (drop (i + 1) arms))) has

  pub default_behind : has_default a.labels ≡ false → default_arm (map arm_part (drop i arms)) ≡ default_arm (map arm_part (drop (i + 1) arms))
  default_behind has = default_at ∙ ap (λ (b : Bool). if b then block_in a.body else default_arm (map arm_part (drop (i + 1) arms))) has

-- Statement lists as what is done one after another. What remains to be done is a list of the same kind.
use Rattle.std.specs.Prelude.{ℕ, zero, suc, ℤ, pos, negsuc, List, [], ◌∷◌, ◌++◌, Bool, true, false, ◌||◌, if◌then◌else◌, Option, Some, None}
use Rattle.std.specs.Ordering.{int_eq}
use Rattle.c_arith.specs.declared.operators.BinaryOp.{BinaryOp}
use Rattle.c_tree.specs.declared.expr.Expr.{Expr}
use Rattle.c_tree.specs.declared.program.Init.{Init}
use Rattle.c_tree.specs.declared.statement.Amount.{Amount}
use Rattle.c_tree.specs.declared.statement.Label.{Label}
use Rattle.c_tree.specs.declared.statement.Label.TheVariants as label
use Rattle.c_tree.specs.declared.statement.Target.{Target}
use Rattle.c_tree.specs.declared.statement.Target.TheVariants as target
use Rattle.c_tree.specs.declared.statement.Statement.{Statement, fold-Statement}
use Rattle.c_tree.specs.declared.statement.Statement.TheOpen.{Statement-F, Arm-F}
use Rattle.c_language.specs.Words.{Bytes}

-- what one act does: the words of a statement, as data
pub data Act : Type 0 where
  -- a declaration with an initialiser
  Begins : (x : ℕ) → Init → Act
  -- an assignment, `=` or compound
  Sets : (left : Expr) → (op : Option BinaryOp) → (right : Expr) → Act
  -- `++` or else `--`
  Bumps : (left : Expr) → (up : Bool) → Act
  -- a call of getchar, putchar, printf, malloc or free
  Fetches : (to : Target) → Act
  Writes : (value : Expr) → Act
  Prints : (format : Bytes) → (args : List Expr) → Act
  Allocates : (to : Target) → Amount → Act
  Frees : (value : Expr) → Act
  -- a return from a function, in main too
  Returns : (value : Option Expr) → Act
  -- the test of an if, a switch or a loop
  Tests : (test : Expr) → Act

-- each constructor is a step with what comes after it
pub data Code : Type 0 where
  End : Code
  -- a declared variable begins, with nothing written in it
  Opens : (x : ℕ) → Code → Code
  -- the act of a numbered statement
  Plain : (id : ℕ) → Act → Code → Code
  -- a test with a list for each of its values: an if or a switch
  Fork : (id : ℕ) → (test : Expr) → (ℤ → Code) → Code → Code
  -- a test before each turn of a body
  Loop : (id : ℕ) → (test : Expr) → (body : Code) → Code → Code
  -- a block ends, and the variables that it declared are gone
  Leaves : (xs : List ℕ) → Code → Code
  -- a call of a function of the program
  Call : (id : ℕ) → (to : Target) → (function : ℕ) → (args : List Expr) → Code → Code

-- one list after another
infixr 60 ◌⨟◌
abbrev pub ◌⨟◌ : Code → Code → Code
End ⨟ k = k
Opens x r ⨟ k = Opens x (r ⨟ k)
Plain i a r ⨟ k = Plain i a (r ⨟ k)
Fork i e c r ⨟ k = Fork i e c (r ⨟ k)
Loop i e b r ⨟ k = Loop i e b (r ⨟ k)
Leaves xs r ⨟ k = Leaves xs (r ⨟ k)
Call i to f args r ⨟ k = Call i to f args (r ⨟ k)

-- a number as a test: whether it isn't 0 (ISO C99 6.8.4.1, 6.8.5)
abbrev pub is_true : ℤ → Bool
is_true (pos zero) = false
is_true (pos (suc n)) = true
is_true (negsuc n) = true

abbrev pub either : {A : Type 0} → Bool → A → A → A
either true a b = a
either false a b = b

-- the end of a block that declared these variables
abbrev pub leave : List ℕ → Code → Code
leave [] r = r
leave (x ∷ xs) r = Leaves (x ∷ xs) r

-- a statement in a list: the variable that it declares there, and what it does before what comes after it
pub record StatementPart : Type 0 where
  pub declares : List ℕ
  pub before : Code → Code

abbrev pub doing : (Code → Code) → StatementPart
doing before = record { declares = []; before = before }

abbrev pub declared_in : List StatementPart → List ℕ
declared_in [] = []
declared_in (s ∷ ss) = s.declares ++ declared_in ss

abbrev pub in_turn : List StatementPart → Code → Code
in_turn [] r = r
in_turn (s ∷ ss) r = s.before (in_turn ss r)

-- the statements of a list alone
abbrev pub list_of : List StatementPart → Code
list_of ss = in_turn ss End

-- a block: its statements, and the end of what they declared (6.2.4)
abbrev pub block : List StatementPart → Code
block ss = in_turn ss (leave (declared_in ss) End)

-- an arm of a switch
pub record ArmPart : Type 0 where
  pub labels : List Label
  pub does : Code

abbrev pub is_case : ℤ → Label → Bool
is_case v (label.Case e n) = int_eq n v
is_case v label.Default = false

abbrev pub has_case : ℤ → List Label → Bool
has_case v [] = false
has_case v (l ∷ ls) = is_case v l || has_case v ls

abbrev pub is_default : Label → Bool
is_default (label.Case e n) = false
is_default label.Default = true

abbrev pub has_default : List Label → Bool
has_default [] = false
has_default (l ∷ ls) = is_default l || has_default ls

-- the arm with the default, or nothing where there is none
abbrev pub default_arm : List ArmPart → Code
default_arm [] = End
default_arm (a ∷ as_) = if has_default a.labels then a.does else default_arm as_

-- the first arm with a case of the value, or else `other`
abbrev pub case_arm : List ArmPart → ℤ → Code → Code
case_arm [] v other = other
case_arm (a ∷ as_) v other = if has_case v a.labels then a.does else case_arm as_ v other

-- the arm that a switch takes at a value: a label has its value in the promoted type of the test (6.8.4.2)
abbrev pub taken_arm : List ArmPart → ℤ → Code
taken_arm as_ v = case_arm as_ v (default_arm as_)

abbrev pub begun_code : Option ℕ → ℕ → Init → Code → Code
begun_code None x init r = r
begun_code (Some id) x init r = Plain id (Begins x init) r

abbrev pub optional : Option StatementPart → List StatementPart
optional None = []
optional (Some s) = s ∷ []

-- a declaration of one variable
abbrev pub declaring : ℕ → (Code → Code) → StatementPart
declaring x before = record { declares = x ∷ []; before = before }

-- a call whose result goes to a place, or to a variable that is declared for it
abbrev pub given_to : Target → (Code → Code) → StatementPart
given_to target.None before = doing before
given_to (target.Place e) before = doing before
given_to (target.Declared x) before = declaring x (λ r. Opens x (before r))

-- a do is its body and then a loop; a for is its init and then a loop whose turns end with the step (6.8.5.2, 6.8.5.3)
abbrev pub part_step : Statement-F StatementPart ArmPart → StatementPart
part_step (Statement-F.Declare id l x init) = declaring x (λ r. Opens x (begun_code id x init r))
part_step (Statement-F.Assign id l left op right) = doing (Plain id (Sets left op right))
part_step (Statement-F.Bump id l a up before) = doing (Plain id (Bumps a up))
part_step (Statement-F.Invoke id l to f args) = given_to to (Call id to f args)
part_step (Statement-F.Fetch id l to) = given_to to (Plain id (Fetches to))
part_step (Statement-F.Write id l e) = doing (Plain id (Writes e))
part_step (Statement-F.Print id l format args) = doing (Plain id (Prints format args))
part_step (Statement-F.Heap id l to cast n) = given_to to (Plain id (Allocates to n))
part_step (Statement-F.Release id l e) = doing (Plain id (Frees e))
part_step (Statement-F.If id l e a b) = doing (Fork id e (λ v. either (is_true v) (block a) (block b)))
part_step (Statement-F.While id l e b) = doing (Loop id e (block b))
part_step (Statement-F.Do id l e b) = doing (λ r. block b ⨟ Loop id e (block b) r)
part_step (Statement-F.For id l i e s b) =
    doing (λ r. list_of (optional i) ⨟ Loop id e (block b ⨟ list_of (optional s)) (leave (declared_in (optional i)) r))
part_step (Statement-F.Switch id l e arms) = doing (Fork id e (taken_arm arms))
part_step (Statement-F.Block l b) = doing (λ r. block b ⨟ r)
part_step (Statement-F.Return id l e) = doing (Plain id (Returns e))

abbrev pub arm_step : Arm-F StatementPart ArmPart → ArmPart
arm_step a = record { labels = a.labels; does = block a.body }

abbrev pub part : Statement → StatementPart
part = fold-Statement StatementPart ArmPart part_step arm_step

-- a statement, and what comes after it
abbrev pub code_of : Statement → Code → Code
code_of s = (part s).before

-- a statement list
abbrev pub code : List Statement → Code
code [] = End
code (s ∷ ss) = code_of s (code ss)

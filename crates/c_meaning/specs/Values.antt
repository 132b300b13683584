-- What an expression gives (ISO C99 6.5).
use Rattle.std.specs.Prelude.{ℕ, ◌==◌, ℤ, pos, negsuc, List, [], ◌∷◌, ◌++◌, length, Bool, true, false, if◌then◌else◌, Option, Some, None, option_map, option_and_then}
use Rattle.c_arith.specs.declared.int_type.IntType.{IntType}
use Rattle.c_arith.specs.declared.operators.UnaryOp.{UnaryOp}
use Rattle.c_arith.specs.declared.operators.UnaryOp.TheVariants.{Not}
use Rattle.c_arith.specs.declared.operators.BinaryOp.{BinaryOp}
use Rattle.c_arith.specs.declared.operators.BinaryOp.TheVariants.{Add}
use Rattle.c_arith.specs.IntType.{promote, convert}
use Rattle.c_arith.specs.Operators.{binary}
use Rattle.c_tree.specs.declared.expr.MemberId.{MemberId}
use Rattle.c_tree.specs.declared.expr.Expr.{Expr, fold-Expr, map-Expr}
use Rattle.c_tree.specs.declared.expr.Expr.TheOpen.{Expr-F}
use Rattle.c_language.specs.declared.expr_type.ExprType.{ExprType}
use Rattle.c_language.specs.declared.expr_type.Base.TheVariants as base
use Rattle.c_language.specs.DeclaredTypes.{of_base}
use Rattle.c_language.specs.ExprTypes.{integer_of, is_array, is_pointer, value_type}
use Rattle.c_language.specs.ConstantEvaluation.{operand_type, right_value, promoted_unary, is_zero, and_value, or_value}
use Rattle.c_language.specs.TreeTypes.{Typing, int_type, typed_step}
use Rattle.c_meaning.specs.declared.value.Hop.TheVariants as hop
use Rattle.c_meaning.specs.declared.value.Place.{Place}
use Rattle.c_meaning.specs.declared.value.Value.{Value}
use Rattle.c_meaning.specs.declared.value.Value.TheVariants.{Number, Null, To}
use Rattle.c_meaning.specs.declared.event.Shown.{Shown}
use Rattle.c_meaning.specs.declared.event.Shown.TheVariants as shown
use Rattle.c_meaning.specs.Memory.{Memory, read, enter, leave}
use Rattle.c_meaning.specs.Pointers.{inside, start, if_typed, designated, at_pointers, at_pointer_left, at_pointer_right}

-- the types of a program's variables and members, and of the result of the function that runs
pub record Types : Type 0 where
  pub typing : Typing
  pub result : Option ExprType

-- what made a block: a variable that began, or the statement of a call of malloc
pub data Origin : Type 0 where
  OfVariable : (x : ℕ) → Origin
  OfStatement : (id : ℕ) → Origin

-- the blocks of the variables that the running function can name, and what it has returned; the memory with what made each of its
-- blocks; and what is left of the input
pub record State : Type 0 where
  pub frame : ℕ → Option ℕ
  pub returned : Option Value
  pub memory : Memory
  pub origins : List Origin
  pub unread : List ℕ

-- the whole of a block
abbrev pub whole : ℕ → Place
whole b = record { block = b; path = [] }

-- the place of a variable
abbrev pub variable_place : ℕ → State → Option Place
variable_place x s = option_map whole (s.frame x)

abbrev pub bound : (ℕ → Option ℕ) → ℕ → Option ℕ → ℕ → Option ℕ
bound frame x b y = if x == y then b else frame y

-- the state once a variable has begun, in a block of its own
abbrev pub variable_opened : Types → ℕ → State → State
variable_opened types x s = record s {
  frame = bound s.frame x (Some (length s.memory.blocks));
  memory = enter (types.typing.variable x) s.memory;
  origins = s.origins ++ OfVariable x ∷ [];
}

abbrev pub leave_block : Option ℕ → Memory → Memory
leave_block None m = m
leave_block (Some b) m = leave b m

-- the state once a variable is gone
abbrev pub variable_closed : ℕ → State → State
variable_closed x s = record s { frame = bound s.frame x None; memory = leave_block (s.frame x) s.memory }

abbrev pub all_closed : List ℕ → State → State
all_closed [] s = s
all_closed (x ∷ xs) s = all_closed xs (variable_closed x s)

-- an expression in a program: its type, the place that it designates, the value that it gives, and the pointer that `&` gives of it;
-- None where that is undefined
pub record Meant : Type 0 where
  pub type : ExprType
  pub place : State → Option Place
  pub value : State → Option Value
  pub address : State → Option Value

-- ---- values and their types

-- a value as a test sees it: a number, or whether a pointer isn't null
abbrev pub tested : Value → ℤ
tested (Number z) = z
tested Null = pos 0
tested (To p) = pos 1

abbrev pub number_as : Option IntType → ℤ → Value
number_as None z = Null
number_as (Some t) z = Number (convert z t)

abbrev pub pointer_as : Bool → Value → Option Value
pointer_as true v = Some v
pointer_as false v = None

-- a value converted to a type (6.3.1.3, 6.3.2.3): an integer wraps, 0 becomes a null pointer, and no pointer becomes an integer
abbrev pub as_type : ExprType → Value → Option Value
as_type t (Number z) = Some (number_as (integer_of t) z)
as_type t Null = pointer_as (is_pointer t) Null
as_type t (To p) = pointer_as (is_pointer t) (To p)

-- ---- operators

abbrev pub number_in : Value → Option ℤ
number_in (Number z) = Some z
number_in Null = None
number_in (To p) = None

-- `!` takes a pointer as a test does, and every other unary operator a number (6.5.3.3)
abbrev pub operand_in : UnaryOp → Value → Option ℤ
operand_in Not v = Some (tested v)
operand_in op v = number_in v

-- a unary operator at an operand, which is promoted first
abbrev pub unary_value : UnaryOp → ExprType → Option Value → Option Value
unary_value op t o =
    option_map Number (option_and_then (promoted_unary op (promote (int_type t))) (option_and_then (operand_in op) o))

abbrev pub at_number : (ℤ → Option ℤ) → Value → Option Value
at_number f v = option_map Number (option_and_then f (number_in v))

abbrev pub at_numbers : (ℤ → ℤ → Option ℤ) → Value → Value → Option Value
at_numbers f (Number x) v = at_number (f x) v
at_numbers f Null v = None
at_numbers f (To p) v = None

-- both operands, from left to right
abbrev pub both_values : (Value → Value → Option Value) → Option Value → Option Value → Option Value
both_values f None o = None
both_values f (Some x) None = None
both_values f (Some x) (Some y) = f x y

-- an operator at numbers, the operands converted to the type
abbrev pub converted_binary : BinaryOp → IntType → ℤ → ℤ → Option ℤ
converted_binary op t x y = binary op t (convert x t) (right_value op t y)

-- an operator by whether its operands are pointers
abbrev pub at_operands : Bool → Bool → BinaryOp → IntType → Memory → Value → Value → Option Value
at_operands true true op t m = at_pointers op m
at_operands true false op t m = at_pointer_left op m
at_operands false true op t m = at_pointer_right op m
at_operands false false op t m = at_numbers (converted_binary op t)

-- an operator at operands of two types: integers are converted first (6.3.1.8), and an array is a pointer to its first element
abbrev pub binary_value : BinaryOp → ExprType → ExprType → Memory → Option Value → Option Value → Option Value
binary_value op s t m =
    both_values (at_operands (is_pointer (value_type s)) (is_pointer (value_type t)) op (operand_type op (int_type s) (int_type t)) m)

-- the right operand of `&&` and of `||` is evaluated where the left one doesn't decide (6.5.13, 6.5.14)
abbrev pub and_both : Option Value → Option Value → Option Value
and_both a b = option_map Number (option_and_then (λ (v : Value). and_value (tested v) (option_map tested b)) a)

abbrev pub or_both : Option Value → Option Value → Option Value
or_both a b = option_map Number (option_and_then (λ (v : Value). or_value (tested v) (option_map tested b)) a)

-- one of two operands is evaluated, and converted to the type of the whole (6.5.15)
abbrev pub chosen_value : ExprType → Option Value → Option Value → Option Value → Option Value
chosen_value t c a b = option_and_then (as_type t) (option_and_then (λ (v : Value). if is_zero (tested v) then b else a) c)

-- ---- expressions

-- what gives a value of a type and designates nothing
abbrev pub gives : ExprType → (State → Option Value) → Meant
gives t value = record { type = t; place = λ s. None; value = value; address = λ s. None }

-- the value of an object: an array is a pointer to its first element (6.3.2.1, paragraph 3), and what is no array is read
abbrev pub object_value : ExprType → Memory → Place → Option Value
object_value t m p = if is_array t then Some (start p) else read m p

-- what designates an object of a type, with its address
abbrev pub an_object : ExprType → (State → Option Place) → (State → Option Value) → Meant
an_object t place address = record {
  type = t;
  place = place;
  value = λ s. option_and_then (object_value t s.memory) (place s);
  address = address;
}

-- what designates the object to which this points
abbrev pub an_item : ExprType → (State → Option Value) → Meant
an_item t pointer = an_object t (λ s. option_and_then (designated s.memory t) (pointer s)) pointer

-- what designates an object that is no element
abbrev pub a_part : ExprType → (State → Option Place) → Meant
a_part t place = an_object t place (λ s. option_map start (place s))

-- `a[i]` points where `a + i` does (6.5.2.1)
abbrev pub indexed : Meant → Meant → State → Option Value
indexed a i s = binary_value Add a.type i.type s.memory (a.value s) (i.value s)

-- the struct type to which a member belongs
abbrev pub owner_of : MemberId → ExprType
owner_of m = of_base (base.Struct m.owner)

-- a member of a struct, which is one of its type (6.5.2.3)
abbrev pub member_of : MemberId → State → Option Place → Option Place
member_of m s o = option_map (inside (hop.Member m.index)) (option_and_then (if_typed s.memory (owner_of m)) o)

abbrev pub pointed_member : MemberId → State → Option Value → Option Place
pointed_member m s o = option_map (inside (hop.Member m.index)) (option_and_then (designated s.memory (owner_of m)) o)

-- an expression of a type, by the meanings of its parts
abbrev pub meant_as : ExprType → Expr-F Meant → Meant
meant_as t (Expr-F.Constant text k v) = gives t (λ s. Some (Number (pos v)))
meant_as t Expr-F.Null = gives t (λ s. Some Null)
meant_as t Expr-F.Eof = gives t (λ s. Some (Number (negsuc 0)))
meant_as t (Expr-F.Variable x) = a_part t (variable_place x)
meant_as t (Expr-F.Unary op a) = gives t (λ s. unary_value op a.type (a.value s))
meant_as t (Expr-F.Deref a) = an_item t a.value
meant_as t (Expr-F.AddressOf a) = gives t a.address
meant_as t (Expr-F.Binary op a b) = gives t (λ s. binary_value op a.type b.type s.memory (a.value s) (b.value s))
meant_as t (Expr-F.AndAlso a b) = gives t (λ s. and_both (a.value s) (b.value s))
meant_as t (Expr-F.OrElse a b) = gives t (λ s. or_both (a.value s) (b.value s))
meant_as t (Expr-F.Choose c a b) = gives t (λ s. chosen_value t (c.value s) (a.value s) (b.value s))
meant_as t (Expr-F.Cast k a) = gives t (λ s. option_and_then (as_type t) (a.value s))
meant_as t (Expr-F.Index a i) = an_item t (indexed a i)
meant_as t (Expr-F.Member a m) = a_part t (λ s. member_of m s (a.place s))
meant_as t (Expr-F.Arrow a m) = a_part t (λ s. pointed_member m s (a.value s))
meant_as t (Expr-F.Paren a) = a

-- an expression by its parts; its type is that of the tree (`TreeTypes`)
abbrev pub meant_step : Types → Expr-F Meant → Meant
meant_step types z = meant_as (typed_step types.typing (map-Expr Meant ExprType (λ (m : Meant). m.type) z)) z

abbrev pub meant : Types → Expr → Meant
meant types = fold-Expr Meant (meant_step types)

abbrev pub type_of : Types → Expr → ExprType
type_of types e = (meant types e).type

abbrev pub place : Types → Expr → State → Option Place
place types e = (meant types e).place

abbrev pub eval : Types → Expr → State → Option Value
eval types e = (meant types e).value

abbrev pub beside : Option Value → Option (List Value) → Option (List Value)
beside None vs = None
beside (Some v) None = None
beside (Some v) (Some vs) = Some (v ∷ vs)

-- what several expressions give, from left to right
abbrev pub eval_all : Types → List Expr → State → Option (List Value)
eval_all types [] s = Some []
eval_all types (e ∷ es) s = beside (eval types e s) (eval_all types es s)

-- a value as an event shows it
abbrev pub shown_of : Value → Shown
shown_of (Number z) = shown.Number z
shown_of Null = shown.Null
shown_of (To p) = shown.Index p.index

-- What an expression designates, wherever pointers point: its type, the variable in which its object lies, and the variables
-- whose addresses it takes.
use Rattle.std.specs.Prelude.{ℕ, ◌==◌, Bool, true, false, ◌&&◌, ◌||◌, if◌then◌else◌, Option, Some, None}
use Rattle.c_tree.specs.declared.expr.Expr.{Expr, fold-Expr, map-Expr}
use Rattle.c_tree.specs.declared.expr.Expr.TheOpen.{Expr-F}
use Rattle.c_tree.specs.declared.program.Program.{Program}
use Rattle.c_language.specs.declared.expr_type.ExprType.{ExprType}
use Rattle.c_language.specs.ExprTypes.{is_array}
use Rattle.c_language.specs.TreeTypes.{tree_type_step}

-- an expression: its type; whether it designates an object; the variable in which that lies; the variable of a name with
-- `.` selections alone behind it; and the variables whose addresses are taken to find the object, or else the value
pub record Designated : Type 0 where
  pub type : ExprType
  pub is_place : Bool
  pub root : Option ℕ
  pub name : Option ℕ
  pub takes : ℕ → Bool

abbrev pub is_root : Option ℕ → ℕ → Bool
is_root None x = false
is_root (Some y) x = y == x

abbrev pub takes_none : ℕ → Bool
takes_none x = false

-- an array, which isn't found through a pointer to its elements
abbrev pub is_array_place : Designated → Bool
is_array_place d = d.is_place && is_array d.type

-- the variables whose addresses are taken for the value: an array turns into a pointer (ISO C99 6.3.2.1, paragraph 3)
abbrev pub value_takes : Designated → ℕ → Bool
value_takes d x = d.takes x || (is_array_place d && is_root d.root x)

abbrev pub takes_either : Designated → Designated → ℕ → Bool
takes_either a b x = value_takes a x || value_takes b x

abbrev pub a_value : ExprType → (ℕ → Bool) → Designated
a_value t takes = record { type = t; is_place = false; root = None; name = None; takes = takes }

abbrev pub a_place : ExprType → Option ℕ → Option ℕ → (ℕ → Bool) → Designated
a_place t root name takes = record { type = t; is_place = true; root = root; name = name; takes = takes }

-- an element of an array lies where the array does
abbrev pub an_element : ExprType → Designated → Designated → Designated
an_element t a i =
    if is_array_place a then a_place t a.root None (λ x. a.takes x || value_takes i x) else a_place t None None (takes_either a i)

abbrev pub designated_as : ExprType → Expr-F Designated → Designated
designated_as t (Expr-F.Constant text k v) = a_value t takes_none
designated_as t Expr-F.Null = a_value t takes_none
designated_as t Expr-F.Eof = a_value t takes_none
designated_as t (Expr-F.Variable x) = a_place t (Some x) (Some x) takes_none
designated_as t (Expr-F.Unary op a) = a_value t (value_takes a)
designated_as t (Expr-F.Deref a) = a_place t None None (value_takes a)
designated_as t (Expr-F.AddressOf a) = a_value t (λ x. a.takes x || is_root a.root x)
designated_as t (Expr-F.Binary op a b) = a_value t (takes_either a b)
designated_as t (Expr-F.AndAlso a b) = a_value t (takes_either a b)
designated_as t (Expr-F.OrElse a b) = a_value t (takes_either a b)
designated_as t (Expr-F.Choose c a b) = a_value t (λ x. value_takes c x || takes_either a b x)
designated_as t (Expr-F.Cast k a) = a_value t (value_takes a)
designated_as t (Expr-F.Index a i) = an_element t a i
designated_as t (Expr-F.Member a m) = record a { type = t }
designated_as t (Expr-F.Arrow a m) = a_place t None None (value_takes a)
designated_as t (Expr-F.Paren a) = record a { name = None }

abbrev pub designated_step : Program → Expr-F Designated → Designated
designated_step p z = designated_as (tree_type_step p (map-Expr Designated ExprType (λ (d : Designated). d.type) z)) z

abbrev pub designated : Program → Expr → Designated
designated p = fold-Expr Designated (designated_step p)

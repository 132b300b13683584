-- Which tokens an expression has (ISO C99 6.5). The relation holds between the tokens from a place on, a tree, and the tokens behind that tree.
use Rattle.std.specs.Prelude.{◌≡◌, ℕ, ◌+◌, ◌≤◌, Bool, true, false, ◌&&◌, not, ◌∷◌, codes}
use Rattle.std.specs.Str.{bytes_eq}
use Rattle.c_arith.specs.declared.int_type.IntType.{IntType}
use Rattle.c_arith.specs.declared.operators.BinaryOp.{BinaryOp}
use Rattle.c_arith.specs.declared.operators.BinaryOp.TheVariants.{Mul, Div, Rem, Add, Sub, Shl, Shr, Less, Greater, AtMost, AtLeast, Equal, Unequal, And, Xor, Or}
use Rattle.c_tree.specs.declared.raw.expr.RawExpr.{RawExpr, fold-RawExpr}
use Rattle.c_tree.specs.declared.raw.expr.RawExpr.TheOpen.{RawExpr-F}
use Rattle.c_tree.specs.declared.raw.expr.RawExpr.TheVariants as e
use Rattle.c_language.specs.Words.{Bytes, unary_sign, binary_sign}
use Rattle.c_language.specs.TokenForms.{Tokens, name, number, character, mark}
use Rattle.c_language.specs.Sees.{is_keyword}
use Rattle.c_language.specs.IntWords.{IsIntType}
use Rattle.c_language.specs.declared.operators.Infix.{Infix}
use Rattle.c_language.specs.declared.operators.Infix.TheVariants.{Strict, AndAlso, OrElse}
use Rattle.c_language.specs.declared.operators.Prefix.{Prefix}
use Rattle.c_language.specs.declared.operators.Prefix.TheVariants.{Sign, Deref, AddressOf}
use Rattle.c_language.specs.declared.operators.Selector.{Selector}
use Rattle.c_language.specs.declared.operators.Selector.TheVariants.{Dot, Arrow}

-- ---- how tightly the forms bind (6.5.2 to 6.5.15)

abbrev pub binary_level : BinaryOp → ℕ
binary_level Or = 4
binary_level Xor = 5
binary_level And = 6
binary_level Equal = 7
binary_level Unequal = 7
binary_level Less = 8
binary_level Greater = 8
binary_level AtMost = 8
binary_level AtLeast = 8
binary_level Shl = 9
binary_level Shr = 9
binary_level Add = 10
binary_level Sub = 10
binary_level Mul = 11
binary_level Div = 11
binary_level Rem = 11

abbrev pub conditional_level : ℕ
conditional_level = 1

abbrev pub level : Infix → ℕ
level OrElse = 2
level AndAlso = 3
level (Strict op) = binary_level op

abbrev pub multiplicative_level : ℕ
multiplicative_level = 11

abbrev pub cast_level : ℕ
cast_level = 12

abbrev pub unary_level : ℕ
unary_level = 13

abbrev pub postfix_level : ℕ
postfix_level = 14

abbrev pub primary_level : ℕ
primary_level = 15

-- ---- operators, as they are written and as trees

abbrev pub sign : Infix → Bytes
sign (Strict op) = binary_sign op
sign AndAlso = codes "&&"
sign OrElse = codes "||"

abbrev pub joint : Infix → RawExpr → RawExpr → RawExpr
joint (Strict op) a b = e.Binary op a b
joint AndAlso a b = e.AndAlso a b
joint OrElse a b = e.OrElse a b

abbrev pub prefix_sign : Prefix → Bytes
prefix_sign (Sign op) = unary_sign op
prefix_sign Deref = codes "*"
prefix_sign AddressOf = codes "&"

abbrev pub applied : Prefix → RawExpr → RawExpr
applied (Sign op) a = e.Unary op a
applied Deref a = e.Deref a
applied AddressOf a = e.AddressOf a

abbrev pub selector_sign : Selector → Bytes
selector_sign Dot = codes "."
selector_sign Arrow = codes "->"

abbrev pub selected : Selector → RawExpr → Bytes → RawExpr
selected Dot a m = e.Member a m
selected Arrow a m = e.Arrow a m

-- a name that an expression may hold: no keyword, and neither NULL nor EOF
unfoldable pub is_plain_name : Bytes → Bool
is_plain_name w = not (is_keyword w) && (not (bytes_eq w (codes "NULL")) && not (bytes_eq w (codes "EOF")))

-- ---- expressions

-- IsExpr n ts a rest: ts are the tokens of a and then rest, and a binds at least as tightly as n.
pub data IsExpr : ℕ → Tokens → RawExpr → Tokens → Type 0 where
  -- a constant of an integer type (6.4.4.1)
  number_constant : {n l : ℕ} {text : Bytes} {rest : Tokens} → IsExpr n (number text l ∷ rest) (e.Constant text) rest
  -- a character constant (6.4.4.4)
  character_constant : {n l : ℕ} {text : Bytes} {rest : Tokens} → IsExpr n (character text l ∷ rest) (e.Constant text) rest
  -- the two names of the library's macros (7.17, 7.19.1)
  null : {n l : ℕ} {rest : Tokens} → IsExpr n (name (codes "NULL") l ∷ rest) e.Null rest
  eof : {n l : ℕ} {rest : Tokens} → IsExpr n (name (codes "EOF") l ∷ rest) e.Eof rest
  -- a name of the program (6.5.1)
  variable : {n l : ℕ} {text : Bytes} {rest : Tokens} → is_plain_name text ≡ true → IsExpr n (name text l ∷ rest) (e.Variable text) rest
  -- any expression in parentheses (6.5.1)
  paren : {n l m : ℕ} {ts rest : Tokens} {a : RawExpr}
      → IsExpr conditional_level ts a (mark (codes ")") m ∷ rest) → IsExpr n (mark (codes "(") l ∷ ts) (e.Paren a) rest
  -- an element: any expression in brackets behind one that binds as tightly as this form (6.5.2.1)
  index : {n l m : ℕ} {ts mid rest : Tokens} {a i : RawExpr} → n ≤ postfix_level
      → IsExpr postfix_level ts a (mark (codes "[") l ∷ mid) → IsExpr conditional_level mid i (mark (codes "]") m ∷ rest)
      → IsExpr n ts (e.Index a i) rest
  -- a member, of a struct or of what a pointer points to (6.5.2.3)
  member : {n l m : ℕ} {ts rest : Tokens} {a : RawExpr} {text : Bytes} (by : Selector) → n ≤ postfix_level
      → IsExpr postfix_level ts a (mark (selector_sign by) l ∷ name text m ∷ rest) → is_plain_name text ≡ true
      → IsExpr n ts (selected by a text) rest
  -- an operator before an operand, which may be a cast (6.5.3)
  unary : {n l : ℕ} {ts rest : Tokens} {a : RawExpr} (op : Prefix) → n ≤ unary_level
      → IsExpr cast_level ts a rest → IsExpr n (mark (prefix_sign op) l ∷ ts) (applied op a) rest
  -- a conversion to an integer type; its operand may be another cast (6.5.4)
  cast : {n l m : ℕ} {ts mid rest : Tokens} {t : IntType} {a : RawExpr} → n ≤ cast_level
      → IsIntType ts t (mark (codes ")") m ∷ mid) → IsExpr cast_level mid a rest
      → IsExpr n (mark (codes "(") l ∷ ts) (e.Cast t a) rest
  -- an operator between two operands. It groups to the left: its right operand binds more tightly (6.5.5 to 6.5.14)
  binary : {n l : ℕ} {ts mid rest : Tokens} {a b : RawExpr} (op : Infix) → n ≤ level op
      → IsExpr (level op) ts a (mark (sign op) l ∷ mid) → IsExpr (level op + 1) mid b rest
      → IsExpr n ts (joint op a b) rest
  -- a choice. It groups to the right: its last operand may be another one (6.5.15)
  choose : {n l m : ℕ} {ts mid next rest : Tokens} {c a b : RawExpr} → n ≤ conditional_level
      → IsExpr (conditional_level + 1) ts c (mark (codes "?") l ∷ mid) → IsExpr conditional_level mid a (mark (codes ":") m ∷ next) → IsExpr conditional_level next b rest
      → IsExpr n ts (e.Choose c a b) rest

-- ---- what a tree says of its tokens

abbrev pub place_step : RawExpr-F Bool → Bool
place_step (RawExpr-F.Constant text) = false
place_step RawExpr-F.Null = false
place_step RawExpr-F.Eof = false
place_step (RawExpr-F.Variable text) = true
place_step (RawExpr-F.Unary op a) = false
place_step (RawExpr-F.Deref a) = true
place_step (RawExpr-F.AddressOf a) = false
place_step (RawExpr-F.Binary op a b) = false
place_step (RawExpr-F.AndAlso a b) = false
place_step (RawExpr-F.OrElse a b) = false
place_step (RawExpr-F.Choose c a b) = false
place_step (RawExpr-F.Cast t a) = false
place_step (RawExpr-F.Index a i) = true
place_step (RawExpr-F.Member a m) = true
place_step (RawExpr-F.Arrow a m) = true
place_step (RawExpr-F.Paren a) = a

-- within parentheses it is a name, `*e`, an element or a member
abbrev pub is_place : RawExpr → Bool
is_place = fold-RawExpr Bool place_step

abbrev pub tightness_step : RawExpr-F ℕ → ℕ
tightness_step (RawExpr-F.Constant text) = primary_level
tightness_step RawExpr-F.Null = primary_level
tightness_step RawExpr-F.Eof = primary_level
tightness_step (RawExpr-F.Variable text) = primary_level
tightness_step (RawExpr-F.Unary op a) = unary_level
tightness_step (RawExpr-F.Deref a) = unary_level
tightness_step (RawExpr-F.AddressOf a) = unary_level
tightness_step (RawExpr-F.Binary op a b) = binary_level op
tightness_step (RawExpr-F.AndAlso a b) = level AndAlso
tightness_step (RawExpr-F.OrElse a b) = level OrElse
tightness_step (RawExpr-F.Choose c a b) = conditional_level
tightness_step (RawExpr-F.Cast t a) = cast_level
tightness_step (RawExpr-F.Index a i) = postfix_level
tightness_step (RawExpr-F.Member a m) = postfix_level
tightness_step (RawExpr-F.Arrow a m) = postfix_level
tightness_step (RawExpr-F.Paren a) = primary_level

-- how tightly the outermost form of a tree binds
abbrev pub tightness : RawExpr → ℕ
tightness = fold-RawExpr ℕ tightness_step

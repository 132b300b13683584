-- The signs of operators are marks.
use Rattle.std.proofs.Common.{◌≡◌, Bool, true, false, Option, Some, None, refl}
use Rattle.c_arith.specs.declared.operators.UnaryOp.{UnaryOp}
use Rattle.c_arith.specs.declared.operators.UnaryOp.TheVariants.{Plus, Minus, Flip, Not}
use Rattle.c_arith.specs.declared.operators.BinaryOp.{BinaryOp}
use Rattle.c_arith.specs.declared.operators.BinaryOp.TheVariants.{Mul, Div, Rem, Add, Sub, Shl, Shr, Less, Greater, AtMost, AtLeast, Equal, Unequal, And, Xor, Or}
use Rattle.c_language.specs.Words.{unary_sign, binary_sign, assign_sign, bump_sign}
use Rattle.c_language.specs.Tokens.{is_mark, is_header}
use Rattle.c_language.specs.StatementGrammar.{assigns_by}
use Rattle.c_language.specs.ItemGrammar.{header}
use Rattle.c_language.proofs.Tests.{false_true}

pub unary_mark : (op : UnaryOp) → is_mark (unary_sign op) ≡ true
unary_mark Plus = refl
unary_mark Minus = refl
unary_mark Flip = refl
unary_mark Not = refl

pub binary_mark : (op : BinaryOp) → is_mark (binary_sign op) ≡ true
binary_mark Mul = refl
binary_mark Div = refl
binary_mark Rem = refl
binary_mark Add = refl
binary_mark Sub = refl
binary_mark Shl = refl
binary_mark Shr = refl
binary_mark Less = refl
binary_mark Greater = refl
binary_mark AtMost = refl
binary_mark AtLeast = refl
binary_mark Equal = refl
binary_mark Unequal = refl
binary_mark And = refl
binary_mark Xor = refl
binary_mark Or = refl

pub assign_mark : (op : Option BinaryOp) → assigns_by op ≡ true → is_mark (assign_sign op) ≡ true
assign_mark None h = refl
assign_mark (Some Mul) h = refl
assign_mark (Some Div) h = refl
assign_mark (Some Rem) h = refl
assign_mark (Some Add) h = refl
assign_mark (Some Sub) h = refl
assign_mark (Some Shl) h = refl
assign_mark (Some Shr) h = refl
assign_mark (Some Less) h = false_true h
assign_mark (Some Greater) h = false_true h
assign_mark (Some AtMost) h = false_true h
assign_mark (Some AtLeast) h = false_true h
assign_mark (Some Equal) h = false_true h
assign_mark (Some Unequal) h = false_true h
assign_mark (Some And) h = refl
assign_mark (Some Xor) h = refl
assign_mark (Some Or) h = refl

pub bump_mark : (up : Bool) → is_mark (bump_sign up) ≡ true
bump_mark true = refl
bump_mark false = refl

-- the headers of includes
pub header_is : (is_stdlib : Bool) → is_header (header is_stdlib) ≡ true
header_is true = refl
header_is false = refl

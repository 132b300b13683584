-- The words of expressions, types and operators, as they are written.
use Rattle.std.specs.Prelude.{ℕ, ◌==◌, List, [], ◌∷◌, ◌++◌, Bool, true, false, if◌then◌else◌, Option, Some, None, codes, slice_get}
use Rattle.std.specs.Option.{option_map_or}
use Rattle.c_arith.specs.declared.int_type.IntType.{IntType}
use Rattle.c_arith.specs.declared.int_type.IntType.TheVariants.{Char, UChar, Short, UShort, Int, UInt, Long, ULong}
use Rattle.c_arith.specs.declared.operators.UnaryOp.{UnaryOp}
use Rattle.c_arith.specs.declared.operators.UnaryOp.TheVariants.{Plus, Minus, Flip, Not}
use Rattle.c_arith.specs.declared.operators.BinaryOp.{BinaryOp}
use Rattle.c_arith.specs.declared.operators.BinaryOp.TheVariants.{Mul, Div, Rem, Add, Sub, Shl, Shr, Less, Greater, AtMost, AtLeast, Equal, Unequal, And, Xor, Or}
use Rattle.c_tree.specs.declared.types.CType.{CType, fold-CType}
use Rattle.c_tree.specs.declared.types.CType.TheOpen.{CType-F}
use Rattle.c_tree.specs.declared.expr.Expr.{Expr, fold-Expr}
use Rattle.c_tree.specs.declared.expr.Expr.TheOpen.{Expr-F}
use Rattle.c_tree.specs.declared.expr.MemberId.{MemberId}
use Rattle.c_tree.specs.declared.program.Program.{Program}
use Rattle.c_tree.specs.declared.program.Var.{Var}
use Rattle.c_tree.specs.declared.program.StructDef.{StructDef}
use Rattle.c_tree.specs.declared.program.Function.{Function}
use Rattle.c_tree.specs.declared.program.Member.{Member}

abbrev pub Bytes : Type 0
Bytes = List ℕ

-- the texts, with this one between each two
abbrev pub joined : Bytes → List Bytes → Bytes
joined between [] = []
joined between (x ∷ []) = x
joined between (x ∷ (y ∷ ys)) = x ++ (between ++ joined between (y ∷ ys))

-- the canonical words of an integer type (ISO C99 6.7.2)
abbrev pub int_words : IntType → Bytes
int_words Char = codes "char"
int_words UChar = codes "unsigned char"
int_words Short = codes "short"
int_words UShort = codes "unsigned short"
int_words Int = codes "int"
int_words UInt = codes "unsigned int"
int_words Long = codes "long"
int_words ULong = codes "unsigned long"

abbrev pub unary_sign : UnaryOp → Bytes
unary_sign Plus = codes "+"
unary_sign Minus = codes "-"
unary_sign Flip = codes "~"
unary_sign Not = codes "!"

abbrev pub binary_sign : BinaryOp → Bytes
binary_sign Mul = codes "*"
binary_sign Div = codes "/"
binary_sign Rem = codes "%"
binary_sign Add = codes "+"
binary_sign Sub = codes "-"
binary_sign Shl = codes "<<"
binary_sign Shr = codes ">>"
binary_sign Less = codes "<"
binary_sign Greater = codes ">"
binary_sign AtMost = codes "<="
binary_sign AtLeast = codes ">="
binary_sign Equal = codes "=="
binary_sign Unequal = codes "!="
binary_sign And = codes "&"
binary_sign Xor = codes "^"
binary_sign Or = codes "|"

-- the operator of an assignment: `=`, or a compound one
abbrev pub assign_sign : Option BinaryOp → Bytes
assign_sign None = codes "="
assign_sign (Some op) = binary_sign op ++ codes "="

-- `++`, or else `--`
abbrev pub bump_sign : Bool → Bytes
bump_sign true = codes "++"
bump_sign false = codes "--"

abbrev pub name_of_var : Program → ℕ → Bytes
name_of_var p x = option_map_or (λ (v : Var). v.name) (slice_get p.vars x) []

abbrev pub name_of_function : Program → ℕ → Bytes
name_of_function p f = option_map_or (λ (g : Function). g.name) (slice_get p.functions f) []

abbrev pub name_of_struct : Program → ℕ → Bytes
name_of_struct p s = option_map_or (λ (d : StructDef). d.name) (slice_get p.structs s) []

abbrev pub name_of_member : Program → MemberId → Bytes
name_of_member p m = option_map_or (λ (d : StructDef). option_map_or (λ (x : Member). x.name) (slice_get d.members m.index) []) (slice_get p.structs m.owner) []

-- the words of a type before its declarators
abbrev pub base_step : Program → CType-F Bytes → Bytes
base_step p (CType-F.Integer t) = int_words t
base_step p (CType-F.PointerTo a) = a
base_step p (CType-F.Array a n w) = a
base_step p (CType-F.Struct s) = codes "struct " ++ name_of_struct p s

abbrev pub base_words : Program → CType → Bytes
base_words p = fold-CType Bytes (base_step p)

-- the stars of a declarator
abbrev pub stars_step : CType-F Bytes → Bytes
stars_step (CType-F.Integer t) = []
stars_step (CType-F.PointerTo a) = 42 ∷ a
stars_step (CType-F.Array a n w) = a
stars_step (CType-F.Struct s) = []

abbrev pub stars : CType → Bytes
stars = fold-CType Bytes stars_step

-- the lengths of a declarator, outermost first
abbrev pub lengths_step : CType-F Bytes → Bytes
lengths_step (CType-F.Integer t) = []
lengths_step (CType-F.PointerTo a) = []
lengths_step (CType-F.Array a n w) = codes "[" ++ (w ++ (codes "]" ++ a))
lengths_step (CType-F.Struct s) = []

abbrev pub lengths : CType → Bytes
lengths = fold-CType Bytes lengths_step

-- a name with its type, as it is declared: `int *a[3]`
abbrev pub declared : Program → CType → Bytes → Bytes
declared p t name = base_words p t ++ (codes " " ++ (stars t ++ (name ++ lengths t)))

abbrev pub spaced_stars : Bytes → Bytes
spaced_stars [] = []
spaced_stars (s ∷ ss) = 32 ∷ (s ∷ ss)

-- a type without a name: `int *`
abbrev pub type_words : Program → CType → Bytes
type_words p t = base_words p t ++ spaced_stars (stars t)

abbrev pub begins_with : ℕ → Bytes → Bool
begins_with c [] = false
begins_with c (b ∷ bs) = b == c

-- a sign and its operand, apart where they would join into `++` or `--`
abbrev pub signed : UnaryOp → Bytes → Bytes
signed Plus a = if begins_with 43 a then codes "+ " ++ a else codes "+" ++ a
signed Minus a = if begins_with 45 a then codes "- " ++ a else codes "-" ++ a
signed Flip a = codes "~" ++ a
signed Not a = codes "!" ++ a

abbrev pub expr_step : Program → Expr-F Bytes → Bytes
expr_step p (Expr-F.Constant text t v) = text
expr_step p Expr-F.Null = codes "NULL"
expr_step p Expr-F.Eof = codes "EOF"
expr_step p (Expr-F.Variable x) = name_of_var p x
expr_step p (Expr-F.Unary op a) = signed op a
expr_step p (Expr-F.Deref a) = codes "*" ++ a
expr_step p (Expr-F.AddressOf a) = codes "&" ++ a
expr_step p (Expr-F.Binary op a b) = a ++ (codes " " ++ (binary_sign op ++ (codes " " ++ b)))
expr_step p (Expr-F.AndAlso a b) = a ++ (codes " && " ++ b)
expr_step p (Expr-F.OrElse a b) = a ++ (codes " || " ++ b)
expr_step p (Expr-F.Choose c a b) = c ++ (codes " ? " ++ (a ++ (codes " : " ++ b)))
expr_step p (Expr-F.Cast t a) = codes "(" ++ (int_words t ++ (codes ")" ++ a))
expr_step p (Expr-F.Index a i) = a ++ (codes "[" ++ (i ++ codes "]"))
expr_step p (Expr-F.Member a m) = a ++ (codes "." ++ name_of_member p m)
expr_step p (Expr-F.Arrow a m) = a ++ (codes "->" ++ name_of_member p m)
expr_step p (Expr-F.Paren a) = codes "(" ++ (a ++ codes ")")

-- an expression, as it is written
abbrev pub expr_words : Program → Expr → Bytes
expr_words p = fold-Expr Bytes (expr_step p)

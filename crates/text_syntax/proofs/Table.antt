-- Trees that are syntax, each with the text that it is the tree of, and trees made by hand that aren't.
use Rattle.std.proofs.Common.{◌≡◌, ℕ, List, [], ◌∷◌, Bool, true, false, ◌&&◌, Some, None, codes, refl}
use Rattle.c_arith.specs.declared.int_type.IntType.TheVariants.{Char, Int}
use Rattle.c_arith.specs.declared.operators.UnaryOp.TheVariants.{Minus}
use Rattle.c_arith.specs.declared.operators.BinaryOp.TheVariants.{Mul, Add, Sub}
use Rattle.c_tree.specs.declared.raw.expr.RawExpr.{RawExpr}
use Rattle.c_tree.specs.declared.raw.expr.RawExpr.TheVariants as e
use Rattle.c_tree.specs.declared.raw.expr.RawLength.TheVariants.{Written, Listed}
use Rattle.c_tree.specs.declared.raw.expr.RawType.{RawType}
use Rattle.c_tree.specs.declared.raw.expr.RawType.TheVariants as type
use Rattle.c_tree.specs.declared.raw.expr.RawVar.{RawVar}
use Rattle.c_tree.specs.declared.raw.program.RawInit.TheVariants as begins
use Rattle.c_tree.specs.declared.raw.program.RawItem.TheVariants as item
use Rattle.c_tree.specs.declared.raw.program.RawProgram.{RawProgram}
use Rattle.c_tree.specs.declared.raw.statement.RawAmount.TheVariants as amount
use Rattle.c_tree.specs.declared.raw.statement.RawArg.TheVariants.{Value, Literal}
use Rattle.c_tree.specs.declared.raw.statement.RawLabel.TheVariants.{Case, Default}
use Rattle.c_tree.specs.declared.raw.statement.RawSize.TheVariants as size
use Rattle.c_tree.specs.declared.raw.statement.RawStatement.{RawStatement}
use Rattle.c_tree.specs.declared.raw.statement.RawStatement.TheVariants as s
use Rattle.c_tree.specs.declared.raw.statement.RawTarget.TheVariants as target
use Rattle.c_language.specs.Words.{Bytes}
use Rattle.c_language.specs.Constants.{constant_type, constant_value}
use Rattle.c_language.specs.ExprGrammar.{is_plain_name}
use Rattle.c_language.specs.Sees.{is_keyword}
use Rattle.c_language.specs.StatementGrammar.{arm, is_callee}
use Rattle.c_language.specs.Syntax.{binds, is_body, is_syntax}
use Rattle.text_syntax.proofs.Equations.{binds-Constant, binds-Variable, binds-Unary, binds-Deref, binds-AddressOf, binds-Binary, binds-Choose, binds-Cast, binds-Index, binds-Arrow, binds-Paren, reaches-Integer, reaches-Struct, reaches-PointerTo, reaches-Array, stands-Declare, stands-Assign, stands-Bump, stands-Call, stands-Heap, stands-If, stands-For, stands-Switch, stands-Block, stands-Return, is_arm-arm, place-Variable, place-Deref, place-Index, place-Arrow, place-Paren, struct-Integer, struct-Struct, struct-PointerTo, pointer-PointerTo}

-- ---- what the rows are made of

abbrev x : RawExpr
x = e.Variable (codes "x")

abbrev p : RawExpr
p = e.Variable (codes "p")

abbrev number : Bytes → RawExpr
number = e.Constant

abbrev int : RawType
int = type.Integer Int

abbrev var : Bytes → RawType → RawVar
var w t = record { name = w; shape = t }

-- `int main(void) {`, statements, `}`
abbrev pub main_of : List RawStatement → RawProgram
main_of body = record { items = item.Define 1 (record { name = codes "main"; result = Some int; params = []; is_static = false }) body ∷ [] }

name_x : (n : ℕ) → binds x n ≡ true
unfolding is_plain_name is_keyword
name_x n = binds-Variable (codes "x") n

name_p : (n : ℕ) → binds p n ≡ true
unfolding is_plain_name is_keyword
name_p n = binds-Variable (codes "p") n

one : (n : ℕ) → binds (number (codes "1")) n ≡ true
unfolding constant_type constant_value
one n = binds-Constant (codes "1") n

and_true : (b : Bool) → (b && true) ≡ b
and_true true = refl
and_true false = refl

-- main is syntax where its body is: the rows below are bodies of main, or items
pub main_is : (body : List RawStatement) → is_syntax (main_of body) ≡ is_body body
unfolding is_keyword
main_is body = rw (reaches-Integer, struct-Integer) (and_true (is_body body))

-- ---- trees of texts: bodies of main, and items

-- `return;`
returns : is_body (s.Return 1 None ∷ []) ≡ true
returns = rw stands-Return refl

-- `++*p;`
bump_before : is_body (s.Bump 1 (e.Deref p) true true ∷ []) ≡ true
bump_before = rw (stands-Bump, place-Deref, binds-Deref, name_p) refl

-- `(*p)++;`
bump_of_parens : is_body (s.Bump 1 (e.Paren (e.Deref p)) true false ∷ []) ≡ true
bump_of_parens = rw (stands-Bump, place-Paren, place-Deref, binds-Paren, binds-Deref, name_p) refl

-- `p->x--;`
bump_of_member : is_body (s.Bump 1 (e.Arrow p (codes "x")) false false ∷ []) ≡ true
unfolding is_plain_name is_keyword
bump_of_member = rw (stands-Bump, place-Arrow, binds-Arrow, name_p) refl

-- `p[1]++;`
bump_of_element : is_body (s.Bump 1 (e.Index p (number (codes "1"))) true false ∷ []) ≡ true
bump_of_element = rw (stands-Bump, place-Index, binds-Index, name_p, one) refl

-- `*&x = - -x;`
signs : is_body (s.Assign 1 (e.Deref (e.AddressOf x)) None (e.Unary Minus (e.Unary Minus x)) ∷ []) ≡ true
signs = rw (stands-Assign, place-Deref, binds-Deref, binds-AddressOf, name_x, binds-Unary, binds-Unary, name_x) refl

-- `x = x ? 1 : x ? 1 : x;`
choice_in_choice : is_body (s.Assign 1 x None (e.Choose x (number (codes "1")) (e.Choose x (number (codes "1")) x)) ∷ []) ≡ true
choice_in_choice = rw (stands-Assign, place-Variable, name_x, binds-Choose, name_x, one, binds-Choose, name_x, one, name_x) refl

-- `x -= (char)-x;`
cast : is_body (s.Assign 1 x (Some Sub) (e.Cast Char (e.Unary Minus x)) ∷ []) ≡ true
cast = rw (stands-Assign, place-Variable, name_x, binds-Cast, binds-Unary, name_x) refl

-- `x = 0x1fUL - 010 - '\\n';`
spellings : is_body (s.Assign 1 x None (e.Binary Sub (e.Binary Sub (number (codes "0x1fUL")) (number (codes "010"))) (number (codes "'\\n'"))) ∷ []) ≡ true
unfolding constant_type constant_value
spellings = rw (stands-Assign, place-Variable, name_x, binds-Binary, binds-Binary, binds-Constant, binds-Constant, binds-Constant) refl

-- `x = (x + 1) * x;`
product_of_parens : is_body (s.Assign 1 x None (e.Binary Mul (e.Paren (e.Binary Add x (number (codes "1")))) x) ∷ []) ≡ true
product_of_parens = rw (stands-Assign, place-Variable, name_x, binds-Binary, binds-Paren, binds-Binary, name_x, one, name_x) refl

-- `for (; x;);`
bare_for : is_body (s.For 1 None x None [] ∷ []) ≡ true
bare_for = rw (stands-For, name_x) refl

-- `for (int x = 1; x; x++) { }`
full_for : is_body (s.For 1 (Some (s.Declare 1 (var (codes "x") int) (begins.One (number (codes "1"))))) x (Some (s.Bump 1 x true false)) [] ∷ []) ≡ true
unfolding is_keyword
full_for = rw (stands-For, stands-Declare, reaches-Integer, one, name_x, stands-Bump, place-Variable, name_x) refl

-- `switch (x) { }`
bare_switch : is_body (s.Switch 1 x [] ∷ []) ≡ true
bare_switch = rw (stands-Switch, name_x) refl

-- `switch (x) { case 1: default: break; }`
labels_alone : is_body (s.Switch 1 x (arm (Case (number (codes "1")) ∷ Default ∷ []) [] ∷ []) ∷ []) ≡ true
labels_alone = rw (stands-Switch, name_x, is_arm-arm, one) refl

-- `if (x); else { { } }`
bare_if : is_body (s.If 1 x [] (s.Block 1 [] ∷ []) ∷ []) ≡ true
bare_if = rw (stands-If, name_x, stands-Block) refl

-- `printf("%d\\n", x);`
format : is_body (s.Call 1 target.None (codes "printf") (Literal (codes "\"%d\\n\"") ∷ Value x ∷ []) ∷ []) ≡ true
unfolding is_keyword is_callee
format = rw (stands-Call, name_x) refl

-- `int *p = (int *)malloc(x * sizeof *p);`
allocation : is_body (s.Heap 1 (target.Declared (var (codes "p") (type.PointerTo int))) (Some (record { base = int; stars = 1 })) (amount.CountSize x (size.Pointee (codes "p") false)) ∷ []) ≡ true
unfolding is_keyword
allocation = rw (stands-Heap, reaches-PointerTo, reaches-Integer, reaches-Integer, name_x) refl

-- `int *a[][1] = {x, x,};`
list : is_body (s.Declare 1 (var (codes "a") (type.Array (type.Array (type.PointerTo int) (Written (number (codes "1")))) Listed)) (begins.Items (x ∷ x ∷ [])) ∷ []) ≡ true
unfolding is_keyword
list = rw (stands-Declare, reaches-Array, reaches-Array, reaches-PointerTo, reaches-Integer, one, name_x) refl

-- `void g(struct s *, int a[1]);`
prototype : is_syntax (record {
  items = item.Prototype 1 (record {
    name = codes "g";
    result = None;
    is_static = false;
    params = record { line = 1; name = None; shape = type.PointerTo (type.Struct (codes "s")); length = None } ∷ record { line = 1; name = Some (codes "a"); shape = type.PointerTo int; length = Some (number (codes "1")) } ∷ [];
  }) ∷ [];
}) ≡ true
unfolding is_keyword
prototype = rw (reaches-PointerTo, reaches-Struct, struct-PointerTo, reaches-PointerTo, reaches-Integer, struct-PointerTo, pointer-PointerTo, one) refl

-- `struct s { int x, *p; };`
structure : is_syntax (record { items = item.Struct 1 (codes "s") (record { line = 1; name = codes "x"; shape = int } ∷ record { line = 1; name = codes "p"; shape = type.PointerTo int } ∷ []) ∷ [] }) ≡ true
unfolding is_keyword
structure = rw (reaches-Integer, reaches-PointerTo, reaches-Integer) refl

-- ---- trees of no text

-- a sum as an operand of a product, without parentheses
loose_operand : is_body (s.Assign 1 x None (e.Binary Mul (e.Binary Add x (number (codes "1"))) x) ∷ []) ≡ false
loose_operand = rw (stands-Assign, place-Variable, name_x, binds-Binary, binds-Binary) refl

-- a return in the middle
early_return : is_body (s.Return 1 None ∷ s.Block 1 [] ∷ []) ≡ false
early_return = rw stands-Return refl

-- a return at the end of a block
inner_return : is_body (s.Block 1 (s.Return 1 None ∷ []) ∷ []) ≡ false
inner_return = rw (stands-Block, stands-Return) refl

-- an arm without a label
unlabelled : is_body (s.Switch 1 x (arm [] [] ∷ []) ∷ []) ≡ false
unlabelled = rw (stands-Switch, name_x, is_arm-arm) refl

-- a list for a length that no list follows
lost_length : is_body (s.Declare 1 (var (codes "a") (type.Array int Listed)) begins.None ∷ []) ≡ false
unfolding is_keyword
lost_length = rw (stands-Declare, reaches-Array) refl

-- a keyword as a name
keyword : is_body (s.Declare 1 (var (codes "while") int) begins.None ∷ []) ≡ false
unfolding is_keyword
keyword = rw stands-Declare refl

-- `*p` with its `++` behind it
starred_bump : is_body (s.Bump 1 (e.Deref p) true false ∷ []) ≡ false
starred_bump = rw (stands-Bump, place-Deref, binds-Deref) refl

-- a declaration as the step of a for
declared_step : is_body (s.For 1 None x (Some (s.Declare 1 (var (codes "x") int) begins.None)) [] ∷ []) ≡ false
declared_step = rw (stands-For, name_x, stands-Declare) refl

-- a pointer to an array
pointed_array : is_body (s.Declare 1 (var (codes "a") (type.PointerTo (type.Array int (Written (number (codes "1")))))) begins.None ∷ []) ≡ false
unfolding is_keyword
pointed_array = rw (stands-Declare, reaches-PointerTo, reaches-Array) refl

-- a string as an argument of another function than printf
other_string : is_body (s.Call 1 target.None (codes "f") (Literal (codes "\"a\"") ∷ []) ∷ []) ≡ false
unfolding is_keyword is_callee
other_string = rw stands-Call refl

-- malloc's result, stored nowhere
dropped_allocation : is_body (s.Heap 1 target.None None (amount.Count x) ∷ []) ≡ false
dropped_allocation = rw stands-Heap refl

-- a struct that is passed whole
passed_struct : is_syntax (record {
  items = item.Prototype 1 (record {
    name = codes "g";
    result = None;
    is_static = false;
    params = record { line = 1; name = None; shape = type.Struct (codes "s"); length = None } ∷ [];
  }) ∷ [];
}) ≡ false
unfolding is_keyword
passed_struct = rw (reaches-Struct, struct-Struct) refl

-- a spelling that is no constant
bad_spelling : is_body (s.Return 1 (Some (number (codes "09"))) ∷ []) ≡ false
unfolding constant_type constant_value
bad_spelling = rw (stands-Return, binds-Constant) refl

-- Reading calls, allocations, simple statements and declarations from left to right, as the parser does it. A number `d` bounds how deep what is read may nest.
use Rattle.std.specs.Prelude.{ℕ, zero, suc, ◌-◌, ◌==◌, max, Bool, true, false, ◌&&◌, ◌||◌, List, [], ◌∷◌, ◌++◌, length, drop, codes, slice_get, Option, Some, None, Ok, Err, if◌then◌else◌, nat_le, nat_lt}
use Rattle.std.specs.Str.{bytes_eq}
use Rattle.c_arith.specs.declared.operators.BinaryOp.{BinaryOp}
use Rattle.c_arith.specs.declared.operators.BinaryOp.TheVariants.{Mul, Div, Rem, Add, Sub, Shl, Shr, And, Xor, Or}
use Rattle.c_tree.specs.declared.raw.expr.RawExpr.{RawExpr}
use Rattle.c_tree.specs.declared.raw.expr.RawType.{RawType}
use Rattle.c_tree.specs.declared.raw.expr.RawVar.{RawVar}
use Rattle.c_tree.specs.declared.raw.program.RawInit.TheVariants as init
use Rattle.c_tree.specs.declared.raw.statement.RawTarget.{RawTarget}
use Rattle.c_tree.specs.declared.raw.statement.RawTarget.TheVariants as target
use Rattle.c_tree.specs.declared.raw.statement.RawArg.{RawArg}
use Rattle.c_tree.specs.declared.raw.statement.RawArg.TheVariants.{Value, Literal}
use Rattle.c_tree.specs.declared.raw.statement.RawTypeName.{RawTypeName}
use Rattle.c_tree.specs.declared.raw.statement.RawSize.{RawSize}
use Rattle.c_tree.specs.declared.raw.statement.RawSize.TheVariants as size
use Rattle.c_tree.specs.declared.raw.statement.RawAmount.{RawAmount}
use Rattle.c_tree.specs.declared.raw.statement.RawAmount.TheVariants as amount
use Rattle.c_tree.specs.declared.raw.statement.RawStatement.{RawStatement}
use Rattle.c_tree.specs.declared.raw.statement.RawStatement.TheVariants as s
use Rattle.c_language.specs.Words.{Bytes}
use Rattle.c_language.specs.TokenForms.{Tokens, line_of}
use Rattle.c_language.specs.Sees.{sees, sees_second, sees_name}
use Rattle.c_language.specs.ExprGrammar.{is_place, tightness, conditional_level, multiplicative_level, cast_level, postfix_level}
use Rattle.c_language.specs.TypeGrammar.{has_star, is_listed}
use Rattle.c_language.specs.StatementGrammar.{is_callee}
use Rattle.c_language.specs.Nesting.{nesting}
use Rattle.c_language.specs.declared.token.TokenKind.TheVariants.{Name, Str, Mark}
use Rattle.c_parse_expr.specs.Outcome.{Outcome, Parser, and_then, by_option, text_by, refused, Deep, expect, read_name}
use Rattle.c_parse_expr.specs.ExprReading.{nested, expression, multiplies_size}
use Rattle.c_parse_expr.specs.TypeReading.{base, type_name, declarator}

-- ---- steps

-- the next token is this word
unfoldable pub word : Bytes → Parser (Unit {0})
word text ts = if sees Name text ts then Ok (tt, drop 1 ts) else refused ts

-- the spelling of the string at the front
unfoldable pub string_at : Tokens → Option Bytes
string_at ts = text_by Str Some (slice_get ts 0)

-- one or more, with a comma between each two, up to a closing mark and with it
module _ {A : Type 0} (close : Bytes) (read : Parser A) where
  unfoldable pub separated : ℕ → List A → Parser (List A)
  separated zero found ts = refused ts
  separated (suc turns) found ts =
      and_then (read ts) (λ a ts. if sees Mark close ts then Ok (found ++ a ∷ [], drop 1 ts) else and_then (expect (codes ",") ts) (λ _ ts. separated turns (found ++ a ∷ []) ts))

-- ---- calls

unfoldable pub arg : ℕ → Parser RawArg
arg d ts = by_option (string_at ts) (and_then (nested d conditional_level ts) (λ a ts. Ok (Value a, ts))) (λ text. Ok (Literal text, drop 1 ts))

-- the arguments behind the parenthesis of a call, with the closing one
unfoldable pub args : ℕ → Parser (List RawArg)
args d ts = if sees Mark (codes ")") ts then Ok ([], drop 1 ts) else separated (codes ")") (arg d) (length ts) [] ts

-- a name and a parenthesis
unfoldable pub sees_call : Tokens → Bool
sees_call ts = sees_name ts && sees_second Mark (codes "(") ts

-- the arguments of a call of this function, behind its parenthesis
unfoldable pub called : ℕ → Bytes → Parser (List RawArg)
called d w ts = if is_callee w then (if d == 0 then Err Deep else args d ts) else refused ts

-- the function that is called, and its arguments
unfoldable pub call_parts : ℕ → Parser (Bytes × List RawArg)
call_parts d ts = and_then (read_name ts) (λ w ts. and_then (expect (codes "(") ts) (λ _ ts. and_then (called d w ts) (λ all ts. Ok ((w, all), ts))))

-- a call whose result is stored there
unfoldable pub call : ℕ → ℕ → RawTarget → Parser RawStatement
call d line t ts = and_then (call_parts d ts) (λ p ts. Ok (s.Call line t p.0 p.1, ts))

-- ---- allocations

unfoldable pub pointee : Bool → Parser RawSize
pointee in_parens ts = and_then (read_name ts) (λ w ts. Ok (size.Pointee w in_parens, ts))

-- what a size in parentheses is of
unfoldable pub size_inside : Parser RawSize
size_inside ts = if sees Mark (codes "*") ts then pointee true (drop 1 ts) else and_then (type_name ts) (λ t ts. Ok (size.Type t, ts))

-- a size behind its parenthesis
unfoldable pub size_in_parens : Parser RawSize
size_in_parens ts = and_then (size_inside ts) (λ z ts. and_then (expect (codes ")") ts) (λ _ ts. Ok (z, ts)))

-- a size behind its word
unfoldable pub size_of : Parser RawSize
size_of ts = if sees Mark (codes "*") ts then pointee false (drop 1 ts) else and_then (expect (codes "(") ts) (λ _ ts. size_in_parens ts)

-- an amount that begins with this size
unfoldable pub sized : ℕ → RawSize → Parser RawAmount
sized d z ts =
    if sees Mark (codes "*") ts then
    (if nat_lt 1 d then and_then (nested d cast_level (drop 1 ts)) (λ a ts. Ok (amount.SizeCount z a, ts)) else Err Deep)
    else (if nat_lt 0 d then Ok (amount.Size z, ts) else Err Deep)

-- an amount that begins with this expression
unfoldable pub counted : ℕ → RawExpr → Parser RawAmount
counted d a ts =
    if multiplies_size ts then
    (if nat_le multiplicative_level (tightness a) then and_then (size_of (drop 2 ts)) (λ z ts. if nat_lt (max (nesting a) 1) d then Ok (amount.CountSize a z, ts) else Err Deep)
    else refused ts)
    else Ok (amount.Count a, ts)

unfoldable pub amount_of : ℕ → Parser RawAmount
amount_of d ts =
    if sees Name (codes "sizeof") ts then and_then (size_of (drop 1 ts)) (λ z ts. sized d z ts)
    else and_then (expression d conditional_level ts) (λ a ts. counted d a ts)

-- the amount behind the parenthesis of a call of malloc, with the closing one
abbrev pub amount_behind : ℕ → Parser RawAmount
amount_behind d ts = if d == 0 then Err Deep else and_then (amount_of (d - 1) ts) (λ n ts. and_then (expect (codes ")") ts) (λ _ ts. Ok (n, ts)))

-- a call of malloc
unfoldable pub malloc_of : ℕ → Parser RawAmount
malloc_of d ts = and_then (word (codes "malloc") ts) (λ _ ts. and_then (expect (codes "(") ts) (λ _ ts. amount_behind d ts))

-- the amount of a call of malloc that is cast to this type
unfoldable pub cast_amount : ℕ → RawTypeName → Parser RawAmount
cast_amount d a ts = if has_star a then (if d == 0 then Err Deep else malloc_of (d - 1) ts) else refused ts

-- the type that the result of malloc is cast to, if it is, and the amount
unfoldable pub heap_parts : ℕ → Parser (Option RawTypeName × RawAmount)
heap_parts d ts =
    if sees Mark (codes "(") ts then
    and_then (type_name (drop 1 ts)) (λ a ts. and_then (expect (codes ")") ts) (λ _ ts. and_then (cast_amount d a ts) (λ n ts. Ok ((Some a, n), ts))))
    else and_then (malloc_of d ts) (λ n ts. Ok ((None, n), ts))

-- an allocation whose result is stored there
unfoldable pub heap : ℕ → ℕ → RawTarget → Parser RawStatement
heap d line t ts = and_then (heap_parts d ts) (λ p ts. Ok (s.Heap line t p.0 p.1, ts))

-- ---- what is stored

abbrev pub ends_in_star : Outcome RawType → Bool
ends_in_star (Ok p) = sees Mark (codes "*") p.1
ends_in_star (Err x) = false

-- a cast to a pointer, in front of a call of malloc
unfoldable pub sees_cast : Tokens → Bool
sees_cast ts = sees Mark (codes "(") ts && ends_in_star (base (drop 1 ts))

-- what is stored is the result of a call or an allocation
unfoldable pub sees_effect : Tokens → Bool
sees_effect ts = sees_call ts || sees_cast ts

-- a call or an allocation
unfoldable pub effect : ℕ → ℕ → RawTarget → Parser RawStatement
effect d line t ts = if sees Name (codes "malloc") ts || sees Mark (codes "(") ts then heap d line t ts else call d line t ts

-- ---- simple statements

-- `++` or `--` before its place
unfoldable pub bumped : ℕ → ℕ → Bool → Parser RawStatement
bumped d line up ts = and_then (nested d conditional_level ts) (λ a ts. if is_place a then Ok (s.Bump line a up true, ts) else refused ts)

-- `++` or `--` behind its place
unfoldable pub bump : ℕ → ℕ → RawExpr → Bool → Parser RawStatement
bump d line a up ts =
    if nat_le postfix_level (tightness a) then (if nat_lt (nesting a) d then Ok (s.Bump line a up false, ts) else Err Deep) else refused ts

unfoldable pub compound_by : Bytes → Option BinaryOp
compound_by w =
    if bytes_eq w (codes "+=") then Some Add
    else if bytes_eq w (codes "-=") then Some Sub
    else if bytes_eq w (codes "*=") then Some Mul
    else if bytes_eq w (codes "/=") then Some Div
    else if bytes_eq w (codes "%=") then Some Rem
    else if bytes_eq w (codes "<<=") then Some Shl
    else if bytes_eq w (codes ">>=") then Some Shr
    else if bytes_eq w (codes "&=") then Some And
    else if bytes_eq w (codes "^=") then Some Xor
    else if bytes_eq w (codes "|=") then Some Or
    else None

-- the compound assignment at the front
unfoldable pub compound_at : Tokens → Option BinaryOp
compound_at ts = text_by Mark compound_by (slice_get ts 0)

-- what is stored behind `=`
unfoldable pub stored : ℕ → ℕ → RawExpr → Parser RawStatement
stored d line a ts =
    if sees_effect ts then effect d line (target.Place a) ts
    else and_then (expression d conditional_level ts) (λ b ts. Ok (s.Assign line a None b, ts))

-- `=` behind a place
unfoldable pub assigned : ℕ → ℕ → RawExpr → Parser RawStatement
assigned d line a ts = if nat_lt (nesting a) d then stored (d - 1) line a ts else Err Deep

-- a compound assignment behind a place
unfoldable pub changed : ℕ → ℕ → RawExpr → BinaryOp → Parser RawStatement
changed d line a op ts = if nat_lt (nesting a) d then and_then (nested d conditional_level ts) (λ b ts. Ok (s.Assign line a (Some op) b, ts)) else Err Deep

-- what is done with a place in front
unfoldable pub acted : ℕ → ℕ → RawExpr → Parser RawStatement
acted d line a ts =
    if sees Mark (codes "++") ts then bump d line a true (drop 1 ts)
    else if sees Mark (codes "--") ts then bump d line a false (drop 1 ts)
    else if sees Mark (codes "=") ts then assigned d line a (drop 1 ts)
    else by_option (compound_at ts) (refused ts) (λ op. changed d line a op (drop 1 ts))

-- a simple statement that begins with a place
unfoldable pub placed : ℕ → ℕ → Parser RawStatement
placed d line ts = and_then (expression d conditional_level ts) (λ a mid. if is_place a then acted d line a mid else refused mid)

unfoldable pub simple : ℕ → Parser RawStatement
simple d ts =
    if sees Mark (codes "++") ts then bumped d (line_of ts) true (drop 1 ts)
    else if sees Mark (codes "--") ts then bumped d (line_of ts) false (drop 1 ts)
    else if sees_call ts then call d (line_of ts) target.None ts
    else placed d (line_of ts) ts

-- ---- declarations

-- the items of a list behind its brace, with the closing one
unfoldable pub list_from : ℕ → ℕ → List RawExpr → Parser (List RawExpr)
list_from d zero found ts = refused ts
list_from d (suc turns) found ts =
    and_then (expression d conditional_level ts) (λ a ts.
    if sees Mark (codes "}") ts then Ok (found ++ a ∷ [], drop 1 ts)
    else and_then (expect (codes ",") ts) (λ _ ts.
    if sees Mark (codes "}") ts then Ok (found ++ a ∷ [], drop 1 ts) else list_from d turns (found ++ a ∷ []) ts))

abbrev pub list : ℕ → Parser (List RawExpr)
list d ts = list_from d (length ts) [] ts

-- what a variable is declared with, behind `=`
unfoldable pub initialised : ℕ → ℕ → RawVar → Parser RawStatement
initialised d line v ts =
    if sees Mark (codes "{") ts then and_then (list d (drop 1 ts)) (λ all ts. Ok (s.Declare line v (init.Items all), ts))
    else if is_listed v.shape then refused ts
    else if sees_effect ts then effect d line (target.Declared v) ts
    else and_then (expression d conditional_level ts) (λ a ts. Ok (s.Declare line v (init.One a), ts))

-- a declarator with its initialiser
unfoldable pub declared : ℕ → ℕ → RawType → Parser RawStatement
declared d line b ts =
    and_then (declarator d b ts) (λ v ts.
    if sees Mark (codes "=") ts then initialised d line v (drop 1 ts)
    else if is_listed v.shape then refused ts
    else Ok (s.Declare line v init.None, ts))

-- a declaration with its semicolon
unfoldable pub declaration : ℕ → Parser (List RawStatement)
declaration d ts = and_then (base ts) (λ b mid. separated (codes ";") (declared d (line_of ts) b) (length mid) [] mid)

-- ---- parts that are nested one deeper

unfoldable pub nested_simple : ℕ → Parser RawStatement
nested_simple zero ts = Err Deep
nested_simple (suc d) ts = simple d ts

unfoldable pub nested_declared : ℕ → ℕ → RawType → Parser RawStatement
nested_declared zero line b ts = Err Deep
nested_declared (suc d) line b ts = declared d line b ts

unfoldable pub nested_declaration : ℕ → Parser (List RawStatement)
nested_declaration zero ts = Err Deep
nested_declaration (suc d) ts = declaration d ts

-- Reading types, declarators and parameters from left to right, as the parser does it.
use Rattle.std.specs.Prelude.{ℕ, zero, suc, Bool, ◌&&◌, ◌||◌, List, [], ◌∷◌, ◌++◌, length, drop, codes, Option, Some, None, Ok, Err, if◌then◌else◌, nat_le, nat_lt}
use Rattle.c_tree.specs.declared.raw.expr.RawExpr.{RawExpr}
use Rattle.c_tree.specs.declared.raw.expr.RawLength.TheVariants.{Written, Listed}
use Rattle.c_tree.specs.declared.raw.expr.RawType.{RawType}
use Rattle.c_tree.specs.declared.raw.expr.RawType.TheVariants as type
use Rattle.c_tree.specs.declared.raw.expr.RawVar.{RawVar}
use Rattle.c_tree.specs.declared.raw.program.RawParam.{RawParam}
use Rattle.c_tree.specs.declared.raw.statement.RawTypeName.{RawTypeName}
use Rattle.c_language.specs.Words.{Bytes}
use Rattle.c_language.specs.TokenForms.{Tokens, line_of}
use Rattle.c_language.specs.Sees.{sees, sees_second, sees_name}
use Rattle.c_language.specs.IntWords.{sees_int_word}
use Rattle.c_language.specs.ExprGrammar.{conditional_level}
use Rattle.c_language.specs.Nesting.{type_nesting}
use Rattle.c_language.specs.declared.token.TokenKind.TheVariants.{Name, Mark}
use Rattle.c_parse_expr.specs.declared.shape.BaseForm.{BaseForm}
use Rattle.c_parse_expr.specs.declared.shape.BaseForm.TheVariants as form
use Rattle.c_parse_expr.specs.Outcome.{Parser, and_then, refused, Deep, expect, read_name}
use Rattle.c_parse_expr.specs.IntReading.{int_type_name}
use Rattle.c_parse_expr.specs.ExprReading.{nested}

abbrev pub base_type : BaseForm → RawType
base_type (form.Integer t) = type.Integer t
base_type (form.Struct tag) = type.Struct tag

-- a type begins here
unfoldable pub begins_type : Tokens → Bool
begins_type ts = sees Name (codes "struct") ts || sees_int_word ts

-- the type before declarators
unfoldable pub base : Parser RawType
base ts =
    if sees Name (codes "struct") ts then and_then (read_name (drop 1 ts)) (λ tag ts. Ok (type.Struct tag, ts))
    else and_then (int_type_name ts) (λ t ts. Ok (type.Integer t, ts))

-- all the stars at the front, of which there are at most so many
unfoldable pub stars : ℕ → RawType → Parser RawType
stars zero a ts = if sees Mark (codes "*") ts then Err Deep else Ok (a, ts)
stars (suc limit) a ts = if sees Mark (codes "*") ts then stars limit (type.PointerTo a) (drop 1 ts) else Ok (a, ts)

-- how many stars stand at the front
unfoldable pub star_count : Tokens → ℕ
star_count [] = 0
star_count (t ∷ ts) = if sees Mark (codes "*") (t ∷ ts) then suc (star_count ts) else 0

-- a type name, whose stars are counted
unfoldable pub type_name : Parser RawTypeName
type_name ts = and_then (base ts) (λ a ts. Ok (record { base = a; stars = star_count ts }, drop (star_count ts) ts))

-- a type that nests at most so deep
abbrev pub fitting : ℕ → RawType → Parser RawType
fitting depth a ts = if nat_le (type_nesting a) depth then Ok (a, ts) else Err Deep

-- one length, and what follows it
abbrev pub with_length : ℕ → (Parser RawType) → Parser RawType
with_length depth inner ts =
    and_then (nested depth conditional_level ts) (λ n ts. and_then (expect (codes "]") ts) (λ _ ts. and_then (inner ts) (λ a ts. Ok (type.Array a (Written n), ts))))

-- all the lengths at the front, which make arrays of the element; the arrays nest at most so deep
unfoldable pub lengths : ℕ → RawType → Parser RawType
lengths zero a ts = if sees Mark (codes "[") ts then Err Deep else fitting zero a ts
lengths (suc depth) a ts = if sees Mark (codes "[") ts then with_length (suc depth) (lengths depth a) (drop 1 ts) else fitting (suc depth) a ts

-- the first length is empty
unfoldable pub sees_empty_length : Tokens → Bool
sees_empty_length ts = sees Mark (codes "[") ts && sees_second Mark (codes "]") ts

unfoldable pub empty_length : ℕ → RawType → Parser RawType
empty_length zero a ts = Err Deep
empty_length (suc depth) a ts = and_then (lengths depth a ts) (λ b ts. Ok (type.Array b Listed, ts))

unfoldable pub outer_lengths : ℕ → RawType → Parser RawType
outer_lengths depth a ts = if sees_empty_length ts then empty_length depth a (drop 1 (drop 1 ts)) else lengths depth a ts

-- a declarator behind its base type; it nests at most so deep
unfoldable pub declarator : ℕ → RawType → Parser RawVar
declarator depth base ts =
    and_then (stars depth base ts) (λ a ts. and_then (read_name ts) (λ text ts. and_then (outer_lengths depth a ts) (λ b ts. Ok (record { name = text; shape = b }, ts))))

unfoldable pub param_name : Parser (Option Bytes)
param_name ts = if sees_name ts then and_then (read_name ts) (λ text ts. Ok (Some text, ts)) else Ok (None, ts)

-- the length of a parameter behind its bracket, and the closing bracket
unfoldable pub param_length : ℕ → Parser (Option RawExpr)
param_length depth ts =
    if sees Mark (codes "]") ts then Ok (None, drop 1 ts)
    else and_then (nested depth conditional_level ts) (λ n ts. and_then (expect (codes "]") ts) (λ _ ts. Ok (Some n, ts)))

-- what a parameter of this line, type and name ends with
unfoldable pub param_end : ℕ → ℕ → RawType → Option Bytes → Parser RawParam
param_end depth line a called ts =
    if sees Mark (codes "[") ts then
    (if nat_lt (type_nesting a) depth then and_then (param_length depth (drop 1 ts)) (λ n ts. Ok (record { line = line; name = called; shape = type.PointerTo a; length = n }, ts))
    else Err Deep)
    else Ok (record { line = line; name = called; shape = a; length = None }, ts)

-- a parameter that nests at most so deep
unfoldable pub param : ℕ → Parser RawParam
param depth ts =
    and_then (base ts) (λ b mid. and_then (stars depth b mid) (λ a mid. and_then (param_name mid) (λ called mid. param_end depth (line_of ts) a called mid)))

-- parameters behind commas, up to the closing parenthesis and with it; each turn reads one
unfoldable pub params_from : ℕ → ℕ → List RawParam → Parser (List RawParam)
params_from depth zero found ts = refused ts
params_from depth (suc turns) found ts =
    if sees Mark (codes ")") ts then Ok (found, drop 1 ts)
    else and_then (expect (codes ",") ts) (λ _ ts. and_then (param depth ts) (λ p ts. params_from depth turns (found ++ p ∷ []) ts))

-- what stands behind the opening parenthesis of a function's parameters, with the closing one
unfoldable pub params : ℕ → Parser (List RawParam)
params depth ts =
    if sees Mark (codes ")") ts then Ok ([], drop 1 ts)
    else if sees Name (codes "void") ts then and_then (expect (codes ")") (drop 1 ts)) (λ _ ts. Ok ([], ts))
    else and_then (param depth ts) (λ p ts. params_from depth (length ts) (p ∷ []) ts)

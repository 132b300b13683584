-- Reading items and whole texts from left to right, as the parser does it. A number `d` bounds how deep what is read may nest.
use Rattle.std.specs.Prelude.{ℕ, zero, suc, ◌+◌, Bool, true, false, ◌&&◌, ◌||◌, List, [], ◌∷◌, ◌++◌, length, drop, codes, slice_get, Option, Some, None, is_none, Ok, if◌then◌else◌}
use Rattle.c_tree.specs.declared.raw.expr.RawType.{RawType, fold-RawType}
use Rattle.c_tree.specs.declared.raw.expr.RawType.TheOpen.{RawType-F}
use Rattle.c_tree.specs.declared.raw.expr.RawVar.{RawVar}
use Rattle.c_tree.specs.declared.raw.program.RawInit.TheVariants as init
use Rattle.c_tree.specs.declared.raw.program.RawMember.{RawMember}
use Rattle.c_tree.specs.declared.raw.program.RawHead.{RawHead}
use Rattle.c_tree.specs.declared.raw.program.RawItem.{RawItem}
use Rattle.c_tree.specs.declared.raw.program.RawItem.TheVariants as item
use Rattle.c_tree.specs.declared.raw.program.RawProgram.{RawProgram}
use Rattle.c_language.specs.Words.{Bytes}
use Rattle.c_language.specs.TokenForms.{Tokens, line_of}
use Rattle.c_language.specs.Sees.{sees}
use Rattle.c_language.specs.ExprGrammar.{conditional_level}
use Rattle.c_language.specs.TypeGrammar.{is_listed}
use Rattle.c_language.specs.ItemGrammar.{are_named, header}
use Rattle.c_language.specs.declared.token.TokenKind.TheVariants.{Name, Mark, Include}
use Rattle.c_parse_expr.specs.Outcome.{Parser, and_then, refused, expect, read_name}
use Rattle.c_parse_expr.specs.ExprReading.{expression}
use Rattle.c_parse_expr.specs.TypeReading.{base, declarator, params}
use Rattle.c_parse_simple.specs.SimpleReading.{separated, list}
use Rattle.c_parse_statements.specs.StatementReading.{braced, nested_statement}

-- ---- members

unfoldable pub member_of : ℕ → ℕ → RawType → Parser RawMember
member_of d line b ts =
    and_then (declarator d b ts) (λ v ts. if is_listed v.shape then refused ts else Ok (record { line = line; name = v.name; shape = v.shape }, ts))

-- one declaration of members, with its semicolon
unfoldable pub member : ℕ → Parser (List RawMember)
member d ts = and_then (base ts) (λ b mid. separated (codes ";") (member_of d (line_of ts) b) (length mid) [] mid)

-- declarations of members up to the closing brace and with it; each turn reads one
unfoldable pub members_from : ℕ → ℕ → List RawMember → Parser (List RawMember)
members_from d zero found ts = refused ts
members_from d (suc turns) found ts =
    and_then (member d ts) (λ some ts. if sees Mark (codes "}") ts then Ok (found ++ some, drop 1 ts) else members_from d turns (found ++ some) ts)

-- a struct definition behind its brace
unfoldable pub structure : ℕ → ℕ → Bytes → Parser (List RawItem)
structure d line w ts = and_then (members_from d (length ts) [] ts) (λ all ts. and_then (expect (codes ";") ts) (λ _ ts. Ok (item.Struct line w all ∷ [], ts)))

-- `struct` and a tag
unfoldable pub tagged : ℕ → ℕ → Parser (List RawItem)
tagged d line ts =
    and_then (read_name ts) (λ w ts.
    if sees Mark (codes ";") ts then Ok (item.Tag line w ∷ [], drop 1 ts)
    else and_then (expect (codes "{") ts) (λ _ ts. structure d line w ts))

-- the item begins with a tag alone, or with a struct definition
unfoldable pub sees_tag : Tokens → Bool
sees_tag ts = sees Name (codes "struct") ts && (sees Mark (codes ";") (drop 1 (drop 1 ts)) || sees Mark (codes "{") (drop 1 (drop 1 ts)))

-- ---- globals

-- what a global begins with, behind `=`
unfoldable pub global_init : ℕ → ℕ → Bool → RawVar → Parser RawItem
global_init d line is_static v ts =
    if sees Mark (codes "{") ts then and_then (list d (drop 1 ts)) (λ all ts. Ok (item.Global line v (init.Items all) is_static, ts))
    else if is_listed v.shape then refused ts
    else and_then (expression d conditional_level ts) (λ a ts. Ok (item.Global line v (init.One a) is_static, ts))

-- a global behind its declarator
unfoldable pub global_of : ℕ → ℕ → Bool → RawVar → Parser RawItem
global_of d line is_static v ts =
    if sees Mark (codes "=") ts then global_init d line is_static v (drop 1 ts)
    else if is_listed v.shape then refused ts
    else Ok (item.Global line v init.None is_static, ts)

unfoldable pub global : ℕ → ℕ → Bool → RawType → Parser RawItem
global d line is_static b ts = and_then (declarator d b ts) (λ v ts. global_of d line is_static v ts)

-- globals of which the first declarator was read
unfoldable pub globals : ℕ → ℕ → Bool → RawType → RawVar → Parser (List RawItem)
globals d line is_static b v ts =
    and_then (global_of d line is_static v ts) (λ g ts.
    if sees Mark (codes ";") ts then Ok (g ∷ [], drop 1 ts)
    else and_then (expect (codes ",") ts) (λ _ ts. separated (codes ";") (global d line is_static b) (length ts) (g ∷ []) ts))

-- ---- functions

-- a definition of a function behind its brace
unfoldable pub definition : ℕ → ℕ → RawHead → Parser (List RawItem)
definition d line h ts =
    if are_named h.params then and_then (braced (nested_statement (d + 1)) (d + 1) ts) (λ all ts. Ok (item.Define line h all ∷ [], ts)) else refused ts

-- a function behind its head
unfoldable pub headed : ℕ → ℕ → RawHead → Parser (List RawItem)
headed d line h ts =
    if sees Mark (codes ";") ts then Ok (item.Prototype line h ∷ [], drop 1 ts)
    else and_then (expect (codes "{") ts) (λ _ ts. definition d line h ts)

-- a function behind the parenthesis of its parameters
unfoldable pub function : ℕ → ℕ → Bool → Option RawType → Bytes → Parser (List RawItem)
function d line is_static t w ts = and_then (params d ts) (λ ps ts. headed d line (record { name = w; result = t; params = ps; is_static = is_static }) ts)

abbrev pub array_step : RawType-F Bool → Bool
array_step (RawType-F.Integer t) = false
array_step (RawType-F.PointerTo a) = false
array_step (RawType-F.Array a n) = true
array_step (RawType-F.Struct tag) = false

abbrev pub is_array : RawType → Bool
is_array = fold-RawType Bool array_step

-- what the first declarator of an item declares
unfoldable pub declares : ℕ → ℕ → Bool → RawType → RawVar → Parser (List RawItem)
declares d line is_static b v ts =
    if sees Mark (codes "(") ts then (if is_array v.shape then refused ts else function d line is_static (Some v.shape) v.name (drop 1 ts))
    else globals d line is_static b v ts

-- a function without a result
unfoldable pub void_function : ℕ → ℕ → Bool → Parser (List RawItem)
void_function d line is_static ts = and_then (read_name ts) (λ w ts. and_then (expect (codes "(") ts) (λ _ ts. function d line is_static None w ts))

-- globals or a function, behind `static` or without it
unfoldable pub declared_or_defined : ℕ → ℕ → Bool → Parser (List RawItem)
declared_or_defined d line is_static ts =
    if sees Name (codes "void") ts then void_function d line is_static (drop 1 ts)
    else and_then (base ts) (λ b ts. and_then (declarator d b ts) (λ v ts. declares d line is_static b v ts))

-- ---- items

unfoldable pub item_of : ℕ → Parser (List RawItem)
item_of d ts =
    if sees Include (header false) ts then Ok (item.Include false ∷ [], drop 1 ts)
    else if sees Include (header true) ts then Ok (item.Include true ∷ [], drop 1 ts)
    else if sees_tag ts then tagged d (line_of ts) (drop 1 ts)
    else if sees Name (codes "static") ts then declared_or_defined d (line_of ts) true (drop 1 ts)
    else declared_or_defined d (line_of ts) false ts

-- no tokens are left
unfoldable pub none_left : Tokens → Bool
none_left ts = is_none (slice_get ts 0)

-- each turn reads an item, which takes at least one token
unfoldable pub items_from : ℕ → ℕ → List RawItem → Parser (List RawItem)
items_from d zero found ts = Ok (found, ts)
items_from d (suc turns) found ts = if none_left ts then Ok (found, ts) else and_then (item_of d ts) (λ some ts. items_from d turns (found ++ some) ts)

abbrev pub items : ℕ → Parser (List RawItem)
items d ts = items_from d (length ts) [] ts

-- a whole text that nests at most as deep as the limit
unfoldable pub program : ℕ → Parser RawProgram
program limit ts = and_then (items limit ts) (λ all ts. if none_left ts then Ok (record { items = all }, ts) else refused ts)

-- How deep expressions, types and parameters nest: for each place the nodes above or at it are counted, and the nesting is the largest count.
use Rattle.std.specs.Prelude.{ℕ, ◌+◌, max, Bool, false, not, ◌||◌, List, [], ◌∷◌, map, codes, Option, Some, None, if◌then◌else◌}
use Rattle.std.specs.Str.{bytes_eq}
use Rattle.c_tree.specs.declared.raw.expr.RawExpr.{RawExpr, fold-RawExpr}
use Rattle.c_tree.specs.declared.raw.expr.RawExpr.TheOpen.{RawExpr-F}
use Rattle.c_tree.specs.declared.raw.expr.RawLength.{RawLength}
use Rattle.c_tree.specs.declared.raw.expr.RawLength.TheVariants.{Written, Listed}
use Rattle.c_tree.specs.declared.raw.expr.RawType.{RawType, fold-RawType}
use Rattle.c_tree.specs.declared.raw.expr.RawType.TheOpen.{RawType-F}
use Rattle.c_tree.specs.declared.raw.program.RawParam.{RawParam}
use Rattle.c_language.specs.Words.{Bytes}
use Rattle.c_language.specs.TokenForms.{Tokens}
use Rattle.c_language.specs.declared.token.Token.{Token}
use Rattle.c_language.specs.declared.token.TokenKind.{TokenKind}
use Rattle.c_language.specs.declared.token.TokenKind.TheVariants.{Name, Number, Character, Str, Mark, Include, Directive}
use Rattle.c_language.specs.Lists.{greatest}

-- ---- trees

-- each operator, index, member selection, cast and pair of parentheses is a node that counts
abbrev pub nesting_step : RawExpr-F ℕ → ℕ
nesting_step (RawExpr-F.Constant text) = 0
nesting_step RawExpr-F.Null = 0
nesting_step RawExpr-F.Eof = 0
nesting_step (RawExpr-F.Variable text) = 0
nesting_step (RawExpr-F.Unary op a) = 1 + a
nesting_step (RawExpr-F.Deref a) = 1 + a
nesting_step (RawExpr-F.AddressOf a) = 1 + a
nesting_step (RawExpr-F.Binary op a b) = 1 + max a b
nesting_step (RawExpr-F.AndAlso a b) = 1 + max a b
nesting_step (RawExpr-F.OrElse a b) = 1 + max a b
nesting_step (RawExpr-F.Choose c a b) = 1 + max c (max a b)
nesting_step (RawExpr-F.Cast t a) = 1 + a
nesting_step (RawExpr-F.Index a i) = 1 + max a i
nesting_step (RawExpr-F.Member a m) = 1 + a
nesting_step (RawExpr-F.Arrow a m) = 1 + a
nesting_step (RawExpr-F.Paren a) = 1 + a

abbrev pub nesting : RawExpr → ℕ
nesting = fold-RawExpr ℕ nesting_step

abbrev pub length_nesting : RawLength → ℕ
length_nesting (Written n) = nesting n
length_nesting Listed = 0

-- each star and each length is a node: the lengths stand above the stars, an outer length above an inner one, and a length's expression under it
abbrev pub type_nesting_step : RawType-F ℕ → ℕ
type_nesting_step (RawType-F.Integer t) = 0
type_nesting_step (RawType-F.PointerTo a) = 1 + a
type_nesting_step (RawType-F.Array a n) = 1 + max (length_nesting n) a
type_nesting_step (RawType-F.Struct tag) = 0

-- the nesting of the declarator that gives the type
abbrev pub type_nesting : RawType → ℕ
type_nesting = fold-RawType ℕ type_nesting_step

abbrev pub length_above : Option RawExpr → ℕ
length_above None = 0
length_above (Some n) = 1 + nesting n

-- a parameter that is written as an array is a pointer, whose star is the length
abbrev pub param_nesting : RawParam → ℕ
param_nesting p = max (length_above p.length) (type_nesting p.shape)

abbrev pub params_nesting : List RawParam → ℕ
params_nesting ps = greatest (map param_nesting ps)

-- ---- tokens

-- the marks that no node of a tree needs for itself
abbrev pub closes_or_parts : Bytes → Bool
closes_or_parts w =
    bytes_eq w (codes ")") || (bytes_eq w (codes "]") || (bytes_eq w (codes "}") || (bytes_eq w (codes ";") || (bytes_eq w (codes ",") || (bytes_eq w (codes ":") || bytes_eq w (codes "..."))))))

abbrev pub begins_compound : Bytes → Bool
begins_compound w = bytes_eq w (codes "if") || (bytes_eq w (codes "while") || (bytes_eq w (codes "do") || (bytes_eq w (codes "for") || bytes_eq w (codes "switch"))))

abbrev pub nests_by : TokenKind → Bytes → Bool
nests_by Mark text = not (closes_or_parts text)
nests_by Name text = begins_compound text
nests_by Number text = false
nests_by Character text = false
nests_by Str text = false
nests_by Include text = false
nests_by Directive text = false

-- a nesting token: a mark other than `) ] } ; , : ...`, or one of the words if, while, do, for and switch
abbrev pub is_nesting_token : Token → Bool
is_nesting_token t = nests_by t.kind t.text

-- how many nesting tokens there are
abbrev pub nesting_tokens : Tokens → ℕ
nesting_tokens [] = 0
nesting_tokens (t ∷ ts) = (if is_nesting_token t then 1 else 0) + nesting_tokens ts

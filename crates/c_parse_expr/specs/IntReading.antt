-- Reading the words of an integer type.
use Rattle.std.specs.Prelude.{Bool, true, false, [], ◌∷◌, codes, slice_get, Option, Some, None, Ok, if◌then◌else◌}
use Rattle.std.specs.Str.{bytes_eq}
use Rattle.c_arith.specs.declared.int_type.IntType.{IntType}
use Rattle.c_arith.specs.declared.int_type.IntType.TheVariants as int
use Rattle.c_language.specs.Words.{Bytes}
use Rattle.c_language.specs.TokenForms.{Tokens}
use Rattle.c_language.specs.declared.token.TokenKind.TheVariants.{Name}
use Rattle.c_parse_expr.specs.declared.int_words.IntWord.{IntWord}
use Rattle.c_parse_expr.specs.declared.int_words.IntWord.TheVariants.{Char, Short, Int, Long, Signed, Unsigned}
use Rattle.c_parse_expr.specs.declared.int_words.Width.{Width}
use Rattle.c_parse_expr.specs.declared.int_words.Width.TheVariants as width
use Rattle.c_parse_expr.specs.declared.int_words.Signedness.{Signedness}
use Rattle.c_parse_expr.specs.declared.int_words.Signedness.TheVariants as signedness
use Rattle.c_parse_expr.specs.declared.int_words.IntWords.{IntWords}
use Rattle.c_parse_expr.specs.Outcome.{Parser, and_then, by_option, text_by, refused}

unfoldable pub word_by : Bytes → Option IntWord
word_by w =
    if bytes_eq w (codes "char") then Some Char
    else if bytes_eq w (codes "short") then Some Short
    else if bytes_eq w (codes "int") then Some Int
    else if bytes_eq w (codes "long") then Some Long
    else if bytes_eq w (codes "signed") then Some Signed
    else if bytes_eq w (codes "unsigned") then Some Unsigned
    else None

-- the word of an integer type at the front
unfoldable pub next_word : Tokens → Option IntWord
next_word ts = text_by Name word_by (slice_get ts 0)

-- nothing was read yet
abbrev pub no_words : IntWords
no_words = record { width = None; signedness = None; has_int = false }

abbrev pub with_width : Width → Option Width → IntWords → Option IntWords
with_width new None x = Some (record x { width = Some new })
with_width new (Some old) x = None

abbrev pub with_signedness : Signedness → Option Signedness → IntWords → Option IntWords
with_signedness new None x = Some (record x { signedness = Some new })
with_signedness new (Some old) x = None

-- one more word, where it may stand beside those that were read
unfoldable pub with_word : IntWords → IntWord → Option IntWords
with_word x Char = with_width width.Char x.width x
with_word x Short = with_width width.Short x.width x
with_word x Long = with_width width.Long x.width x
with_word x Int = if x.has_int then None else Some (record x { has_int = true })
with_word x Signed = with_signedness signedness.Signed x.signedness x
with_word x Unsigned = with_signedness signedness.Unsigned x.signedness x

abbrev pub by_signedness : Option Signedness → IntType → IntType → Option IntType
by_signedness None signed unsigned = Some signed
by_signedness (Some signedness.Signed) signed unsigned = Some signed
by_signedness (Some signedness.Unsigned) signed unsigned = Some unsigned

abbrev pub plain_type : Option Signedness → Bool → Option IntType
plain_type None false = None
plain_type None true = Some int.Int
plain_type (Some signedness.Signed) i = Some int.Int
plain_type (Some signedness.Unsigned) i = Some int.UInt

abbrev pub type_by : Option Width → Option Signedness → Bool → Option IntType
type_by None s i = plain_type s i
type_by (Some width.Char) s true = None
type_by (Some width.Char) s false = by_signedness s int.Char int.UChar
type_by (Some width.Short) s i = by_signedness s int.Short int.UShort
type_by (Some width.Long) s i = by_signedness s int.Long int.ULong

-- the type that the words name
unfoldable pub type_of_words : IntWords → Option IntType
type_of_words x = type_by x.width x.signedness x.has_int

-- all the words at the front
unfoldable pub words_from : IntWords → Parser IntWords
words_from x [] = Ok (x, [])
words_from x (t ∷ ts) = by_option (next_word (t ∷ ts)) (Ok (x, t ∷ ts)) (λ w. by_option (with_word x w) (refused (t ∷ ts)) (λ y. words_from y ts))

abbrev pub type_or_fault : Option IntType → Parser IntType
type_or_fault None ts = refused ts
type_or_fault (Some t) ts = Ok (t, ts)

unfoldable pub int_type_name : Parser IntType
int_type_name ts = and_then (words_from no_words ts) (λ x ts. type_or_fault (type_of_words x) ts)

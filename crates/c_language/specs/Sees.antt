-- What the next tokens are.
use Rattle.std.specs.Prelude.{Bool, true, false, ◌&&◌, not, slice_get, Option, Some, None}
use Rattle.std.specs.Str.{bytes_eq}
use Rattle.std.specs.List.{list_any}
use Rattle.c_language.specs.Words.{Bytes}
use Rattle.c_language.specs.Keywords.{keywords}
use Rattle.c_language.specs.TokenForms.{Tokens}
use Rattle.c_language.specs.declared.token.Token.{Token}
use Rattle.c_language.specs.declared.token.TokenKind.{TokenKind}
use Rattle.c_language.specs.declared.token.TokenKind.TheVariants.{Name, Number, Character, Str, Mark, Include, Directive}

abbrev pub same_kind : TokenKind → TokenKind → Bool
same_kind Name Name = true
same_kind Number Number = true
same_kind Character Character = true
same_kind Str Str = true
same_kind Mark Mark = true
same_kind Include Include = true
same_kind Directive Directive = true
same_kind _ _ = false

abbrev pub is_kind : TokenKind → Token → Bool
is_kind kind t = same_kind kind t.kind

abbrev pub is_token : TokenKind → Bytes → Token → Bool
is_token kind text t = is_kind kind t && bytes_eq t.text text

abbrev pub is_some_token : TokenKind → Bytes → Option Token → Bool
is_some_token kind text None = false
is_some_token kind text (Some t) = is_token kind text t

-- the next token is of this kind and has this text
unfoldable pub sees : TokenKind → Bytes → Tokens → Bool
sees kind text ts = is_some_token kind text (slice_get ts 0)

-- the token after the next one is of this kind and has this text
unfoldable pub sees_second : TokenKind → Bytes → Tokens → Bool
sees_second kind text ts = is_some_token kind text (slice_get ts 1)

-- a keyword (ISO C99 6.4.1)
unfoldable pub is_keyword : Bytes → Bool
is_keyword w = list_any (bytes_eq w) keywords

abbrev pub is_some_name : Option Token → Bool
is_some_name None = false
is_some_name (Some t) = is_kind Name t && not (is_keyword t.text)

-- the next token is a name that is no keyword
unfoldable pub sees_name : Tokens → Bool
sees_name ts = is_some_name (slice_get ts 0)

-- The tokens of a text (ISO C99 6.4, 5.1.1.2). A text has no trigraphs and no joined lines but in comments and directives.
use Rattle.std.specs.Prelude.{◌≡◌, ◌≢◌, ℕ, ◌+◌, ◌≤◌, ◌==◌, nat_le, nat_eq, List, [], ◌∷◌, ◌++◌, length, Bool, true, false, ◌&&◌, ◌||◌, if◌then◌else◌, not, codes, bytes_eq, count_by}
use Rattle.std.specs.List.{list_any, ends_with}
use Rattle.c_language.specs.Words.{Bytes}
use Rattle.c_language.specs.Characters.{is_digit, is_letter, is_word_byte}
use Rattle.c_language.specs.TokenForms.{Tokens, of_kind}
use Rattle.c_language.specs.Constants.{IsConstant, is_escape, is_one_of}
use Rattle.c_language.specs.declared.token.TokenKind.{TokenKind}
use Rattle.c_language.specs.declared.token.TokenKind.TheVariants.{Name, Number, Character, Str, Mark, Include, Directive}
use Rattle.c_language.specs.declared.token.Before.{Before}
use Rattle.c_language.specs.declared.token.Before.TheVariants.{Blank, Comment, Token}

-- ---- bytes and lines

-- white space: the bytes 9 to 13 and 32
abbrev pub is_blank : ℕ → Bool
is_blank b = (nat_le 9 b && nat_le b 13) || (b == 32)

-- the bytes that stand for themselves in characters and strings: those from 32 to 126, without the quote and the backslash
abbrev pub is_plain : ℕ → ℕ → Bool
is_plain quote b = (nat_le 32 b && nat_le b 126) && not ((b == quote) || (b == 92))

abbrev pub is_feed : ℕ → Bool
is_feed b = b == 10

-- whether a line feed stands in the bytes
abbrev pub has_feed : Bytes → Bool
has_feed = list_any is_feed

-- how many line feeds stand in them
abbrev pub line_feeds : Bytes → ℕ
line_feeds = count_by is_feed

-- the rest begins at the end of a line
abbrev pub AtLineEnd : Bytes → Type 0
AtLineEnd [] = Unit {0}
AtLineEnd (b ∷ bs) = b ≡ 10

-- ---- white space and comments

-- a joined line end: a line feed with a backslash, or with the trigraph for one, directly before it
pub data IsJoin : Bytes → Type 0 where
  backslash : IsJoin (codes "\\\n")
  trigraph : IsJoin (codes "??/\n")

-- joined line ends, one directly after the other
pub data AreJoins : Bytes → Type 0 where
  one : {join : Bytes} → IsJoin join → AreJoins join
  more : {join joins : Bytes} → IsJoin join → AreJoins joins → AreJoins (join ++ joins)

-- nowhere in the bytes do joined line ends alone stand between a `*` and a `/`
abbrev pub LacksSplitEnd : Bytes → Type 0
LacksSplitEnd bytes = (front joins back : Bytes) → AreJoins joins → bytes ≢ front ++ (codes "*" ++ (joins ++ (codes "/" ++ back)))

-- no `*/` stands in the bytes
abbrev pub LacksEnd : Bytes → Type 0
LacksEnd bytes = (front back : Bytes) → bytes ≢ front ++ (codes "*/" ++ back)

-- whether a line feed behind the bytes would be joined to them
abbrev pub joins_next : Bytes → Bool
joins_next bytes = ends_with nat_eq bytes (codes "\\") || ends_with nat_eq bytes (codes "??/")

-- a `//` comment with these bytes goes to the end of the text, or to a line feed that isn't joined to it
abbrev pub EndsAlone : Bytes → Bytes → Type 0
EndsAlone inside [] = Unit {0}
EndsAlone inside (b ∷ bs) = (b ≡ 10) × (joins_next inside ≡ false)

-- what stands before a place in its line, once a `/*` comment with these bytes ends there
abbrev pub behind_comment : Bytes → Before → Before
behind_comment inside before = if has_feed inside then Comment else before

-- white space or a comment, and what stands before the rest in its line
pub data IsSpace (before : Before) (rest : Bytes) : Bytes → Before → Type 0 where
  feed : IsSpace before rest (codes "\n") Blank
  blank : {b : ℕ} → is_blank b ≡ true → b ≢ 10 → IsSpace before rest (b ∷ []) before
  line_comment : {inside : Bytes} → has_feed inside ≡ false → EndsAlone inside rest → IsSpace before rest (codes "//" ++ inside) before
  comment : {inside : Bytes} → LacksEnd inside → LacksSplitEnd (codes "*" ++ inside) → IsSpace before rest (codes "/*" ++ (inside ++ codes "*/")) (behind_comment inside before)

-- ---- names, numbers and marks

-- the bytes that go on behind a byte, as many as can be before the rest
pub data IsRun (goes_on : ℕ → ℕ → Bool) : ℕ → Bytes → Bytes → Type 0 where
  ends_text : {b : ℕ} → IsRun goes_on b [] []
  ends : {b c : ℕ} {rest : Bytes} → goes_on b c ≡ false → IsRun goes_on b [] (c ∷ rest)
  more : {b c : ℕ} {run rest : Bytes} → goes_on b c ≡ true → IsRun goes_on c run rest → IsRun goes_on b (c ∷ run) rest

-- bytes that go on behind a byte, whatever follows
pub data AreRun (goes_on : ℕ → ℕ → Bool) : ℕ → Bytes → Type 0 where
  none : {b : ℕ} → AreRun goes_on b []
  more : {b c : ℕ} {run : Bytes} → goes_on b c ≡ true → AreRun goes_on c run → AreRun goes_on b (c ∷ run)

-- a name goes on with letters, digits and `_` (6.4.2)
abbrev pub name_goes_on : ℕ → ℕ → Bool
name_goes_on b c = is_word_byte c

-- a number goes on with these and `.`, and with a sign directly behind `e`, `E`, `p` or `P` (6.4.8)
abbrev pub number_goes_on : ℕ → ℕ → Bool
number_goes_on b c = (is_word_byte c || (c == 46)) || (is_one_of (codes "+-") c && is_one_of (codes "eEpP") b)

-- the punctuators (6.4.6), without `#`
abbrev pub marks : List Bytes
marks =
    codes "(" ∷ codes ")" ∷ codes "[" ∷ codes "]" ∷ codes "{" ∷ codes "}" ∷ codes ";" ∷ codes "," ∷ codes ":" ∷ codes "?" ∷ codes "." ∷ codes "->" ∷ codes "+" ∷ codes "-" ∷ codes "*" ∷ codes "/" ∷ codes "%"
    ∷ codes "&" ∷ codes "|" ∷ codes "^" ∷ codes "~" ∷ codes "!" ∷ codes "<" ∷ codes ">" ∷ codes "<=" ∷ codes ">=" ∷ codes "==" ∷ codes "!=" ∷ codes "<<" ∷ codes ">>" ∷ codes "&&" ∷ codes "||"
    ∷ codes "=" ∷ codes "+=" ∷ codes "-=" ∷ codes "*=" ∷ codes "/=" ∷ codes "%=" ∷ codes "&=" ∷ codes "|=" ∷ codes "^=" ∷ codes "<<=" ∷ codes ">>=" ∷ codes "++" ∷ codes "--" ∷ codes "..." ∷ []

abbrev pub is_mark : Bytes → Bool
is_mark text = list_any (bytes_eq text) marks

-- no mark that the bytes begin with is longer than n
abbrev pub IsLongest : ℕ → Bytes → Type 0
IsLongest n bytes = (text rest : Bytes) → is_mark text ≡ true → bytes ≡ text ++ rest → length text ≤ n

-- no comment begins here
abbrev pub LacksComment : Bytes → Type 0
LacksComment bytes = (rest : Bytes) → (bytes ≢ codes "/*" ++ rest) × (bytes ≢ codes "//" ++ rest)

-- ---- characters and strings

-- a character constant (6.4.4.4) of one character or escape
pub data IsCharacter : Bytes → Type 0 where
  plain : {b : ℕ} → is_plain 39 b ≡ true → IsCharacter (codes "'" ++ (b ∷ codes "'"))
  escape : {b : ℕ} → is_escape b ≡ true → IsCharacter (codes "'\\" ++ (b ∷ codes "'"))

abbrev pub LacksDigit : Bytes → Type 0
LacksDigit [] = Unit {0}
LacksDigit (b ∷ bs) = is_digit b ≡ false

-- a string literal (6.4.5) behind its first quote; no digit follows `\0`
pub data IsLiteral : Bytes → Type 0 where
  close : IsLiteral (codes "\"")
  plain : {b : ℕ} {more : Bytes} → is_plain 34 b ≡ true → IsLiteral more → IsLiteral (b ∷ more)
  escape : {b : ℕ} {more : Bytes} → is_escape b ≡ true → (b ≡ 48 → LacksDigit more) → IsLiteral more → IsLiteral (codes "\\" ++ (b ∷ more))

-- no trigraph (5.2.1.1) stands in the bytes
abbrev pub LacksTrigraph : Bytes → Type 0
LacksTrigraph bytes = (front back : Bytes) (b : ℕ) → is_one_of (codes "=(/)'<!>-") b ≡ true → bytes ≢ front ++ (codes "??" ++ (b ∷ back))

-- ---- includes and directives

-- white space of one line: blanks but no line feed, and comments that lie whole in the line
pub data IsGap : Bytes → Type 0 where
  none : IsGap []
  blank : {b : ℕ} {more : Bytes} → is_blank b ≡ true → b ≢ 10 → IsGap more → IsGap (b ∷ more)
  comment : {inside more : Bytes} → has_feed inside ≡ false → LacksEnd inside → IsGap more → IsGap (codes "/*" ++ (inside ++ (codes "*/" ++ more)))

-- the headers of the library that may be included
abbrev pub headers : List Bytes
headers = codes "<stdio.h>" ∷ codes "<stdlib.h>" ∷ []

abbrev pub is_header : Bytes → Bool
is_header text = list_any (bytes_eq text) headers

-- the header that an include names, and the include from its `#` to the header
pub data IsInclude : Bytes → Bytes → Type 0 where
  include : {gap next header : Bytes} → IsGap gap → IsGap next → is_header header ≡ true → IsInclude header (codes "#" ++ (gap ++ (codes "include" ++ (next ++ header))))

-- what may follow an include behind white space: the end of its line, or a `//` comment
pub data IsLineTail : Bytes → Type 0 where
  ends : {rest : Bytes} → AtLineEnd rest → IsLineTail rest
  comment : {rest : Bytes} → IsLineTail (codes "//" ++ rest)

-- nothing but white space and comments follows in the line, and all of them lie in it
abbrev pub EndsInclude : Bytes → Type 0
EndsInclude rest = (gap tail : Bytes) × IsGap gap × IsLineTail tail × (rest ≡ gap ++ tail)

-- the line isn't an include
abbrev pub LacksInclude : Bytes → Type 0
LacksInclude bytes = (header own rest : Bytes) → IsInclude header own → EndsInclude rest → bytes ≢ own ++ rest

-- ---- the tokens of a text

-- the text of a token, before the rest
pub data IsTokenText : TokenKind → Bytes → Bytes → Type 0 where
  name : {b : ℕ} {run rest : Bytes} → is_letter b ≡ true → IsRun name_goes_on b run rest → IsTokenText Name (b ∷ run) rest
  number : {b : ℕ} {run rest : Bytes} → is_digit b ≡ true → IsRun number_goes_on b run rest → IsConstant (b ∷ run) → IsTokenText Number (b ∷ run) rest
  character : {text rest : Bytes} → IsCharacter text → IsTokenText Character text rest
  string : {more rest : Bytes} → IsLiteral more → LacksTrigraph more → IsTokenText Str (codes "\"" ++ more) rest
  mark : {text rest : Bytes} → LacksComment (text ++ rest) → is_mark text ≡ true → IsLongest (length text) (text ++ rest) → IsTokenText Mark text rest

-- a token: what stands before it in its line, its kind, its own bytes, its text, and the rest
pub data IsToken : Before → TokenKind → Bytes → Bytes → Bytes → Type 0 where
  plain : {before : Before} {kind : TokenKind} {text rest : Bytes} → IsTokenText kind text rest → IsToken before kind text text rest
  -- an include: the first token of its line, into which and out of which no comment runs
  include : {own header rest : Bytes} → IsInclude header own → EndsInclude rest → IsToken Blank Include own header rest
  -- any other line whose first token is `#`, to its end
  directive : {inside rest : Bytes} → has_feed inside ≡ false → AtLineEnd rest → LacksInclude (codes "#" ++ (inside ++ rest)) → IsToken Blank Directive (codes "#" ++ inside) (codes "#") rest
  -- a line into which a comment runs is no include
  directive_behind : {inside rest : Bytes} → has_feed inside ≡ false → AtLineEnd rest → IsToken Comment Directive (codes "#" ++ inside) (codes "#") rest

-- the tokens of the bytes: what stands before the first byte in its line, and the number of that line
pub data IsTokens : Before → ℕ → Bytes → Tokens → Type 0 where
  done : {before : Before} {line : ℕ} → IsTokens before line [] []
  space : {before after : Before} {line : ℕ} {some rest : Bytes} {ts : Tokens} → IsSpace before rest some after → IsTokens after (line + line_feeds some) rest ts → IsTokens before line (some ++ rest) ts
  token : {before : Before} {line : ℕ} {kind : TokenKind} {own text rest : Bytes} {ts : Tokens} → IsToken before kind own text rest → IsTokens Token line rest ts
      → IsTokens before line (own ++ rest) (of_kind kind text line ∷ ts)

-- the tokens of a text, whose first line is line 1
abbrev pub AreTokensOf : Bytes → Tokens → Type 0
AreTokensOf text ts = IsTokens Blank 1 text ts

-- Reading the bytes from left to right.
use Rattle.std.specs.Prelude.{◌≡◌, ℕ, zero, suc, ◌+◌, ◌-◌, ◌==◌, nat_eq, nat_lt, [], ◌∷◌, ◌++◌, length, take, drop, Bool, true, false, ◌&&◌, ◌||◌, not, if◌then◌else◌, Option, Some, None, Result, Ok, Err, is_some, slice_get, slice_index, codes}
use Rattle.std.specs.List.{starts_with, prefix_len}
use Rattle.std.specs.declared.vec.Vec.{Vec}
use Rattle.std.specs.declared.alloc.Global.{Global}
use Rattle.c_language.specs.Words.{Bytes}
use Rattle.c_language.specs.Characters.{is_digit, is_letter}
use Rattle.c_language.specs.TokenForms.{Tokens, of_kind}
use Rattle.c_language.specs.Constants.{is_one_of, is_escape, constant_type}
use Rattle.c_language.specs.Tokens.{is_blank, is_plain, is_feed, line_feeds, joins_next, behind_comment, name_goes_on, number_goes_on}
use Rattle.c_language.specs.declared.token.TokenKind.{TokenKind}
use Rattle.c_language.specs.declared.token.TokenKind.TheVariants.{Name, Number, Character, Str, Mark, Include, Directive}
use Rattle.c_language.specs.declared.token.Before.{Before}
use Rattle.c_language.specs.declared.token.Before.TheVariants.{Blank, Comment, Token}
use Rattle.c_lex.specs.declared.fault.LexFault.{LexFault}
use Rattle.c_lex.specs.declared.fault.LexFault.TheVariants.{BadByte, BadNumber, OpenComment, NoMemory}
use Rattle.c_lex.specs.declared.piece.Piece.{Piece}
use Rattle.c_lex.specs.declared.piece.Piece.TheVariants as piece
use Rattle.c_lex.specs.declared.literal.Stage.{Stage}
use Rattle.c_lex.specs.declared.literal.Stage.TheVariants as stage
use Rattle.c_language.specs.declared.token.Token as token

-- ---- places

abbrev pub first : Bytes → ℕ
first bytes = slice_index bytes 0

abbrev pub begins : Bytes → Bytes → Bool
begins word bytes = starts_with nat_eq bytes word

abbrev pub raised : Option ℕ → Option ℕ
raised None = None
raised (Some n) = Some (n + 1)

-- the first place where the bytes from there on pass the test
unfoldable pub first_place : (Bytes → Bool) → Bytes → Option ℕ
first_place test [] = None
first_place test (b ∷ bs) = if test (b ∷ bs) then Some 0 else raised (first_place test bs)

-- how many bytes go on behind a byte
unfoldable pub run_len : (ℕ → ℕ → Bool) → ℕ → Bytes → ℕ
run_len goes_on b [] = 0
run_len goes_on b (c ∷ cs) = if goes_on b c then run_len goes_on c cs + 1 else 0

-- how many bytes stand before the end of the line
abbrev pub line_len : Bytes → ℕ
line_len bytes = prefix_len (λ b. not (is_feed b)) bytes

-- what is left once so many steps were passed, each as long as this function says
unfoldable pub passed : (Bytes → ℕ) → ℕ → Bytes → Bytes
passed step zero bytes = bytes
passed step (suc n) bytes = passed step n (drop (step bytes) bytes)

abbrev pub all_passed : (Bytes → ℕ) → Bytes → Bytes
all_passed step bytes = passed step (length bytes) bytes

-- ---- comments

-- the length of a joined line end at the front, or 0
abbrev pub join_len : Bytes → ℕ
join_len bytes = if begins (codes "\\\n") bytes then 2 else (if begins (codes "??/\n") bytes then 4 else 0)

abbrev pub behind_joins : Bytes → Bytes
behind_joins = all_passed join_len

-- whether joined line ends and a `/` stand at the front
abbrev pub is_split_behind : Bytes → Bool
is_split_behind bytes = nat_lt 0 (join_len bytes) && (first (behind_joins bytes) == 47)

-- whether a `*` stands before these
abbrev pub is_split : Bytes → Bool
is_split bytes = (first bytes == 42) && is_split_behind (drop 1 bytes)

abbrev pub is_end : Bytes → Bool
is_end = begins (codes "*/")

abbrev pub is_end_or_feed : Bytes → Bool
is_end_or_feed bytes = is_end bytes || is_feed (first bytes)

-- a closed comment with so many bytes inside, by the place of a split end among these and the `*` before them
abbrev pub closed_piece : ℕ → Option ℕ → Piece
closed_piece n None = piece.Space (n + 4)
closed_piece n (Some k) = piece.SplitEnd (k + 1)

abbrev pub comment_piece : Bytes → Option ℕ → Piece
comment_piece bytes None = piece.Open
comment_piece bytes (Some n) = closed_piece n (first_place is_split (take (n + 1) (drop 1 bytes)))

-- a `//` comment with so many bytes behind it in its line
abbrev pub line_comment_piece : Bytes → ℕ → Piece
line_comment_piece bytes n = if nat_lt (n + 2) (length bytes) && joins_next (take n (drop 2 bytes)) then piece.BadByte else piece.Space (n + 2)

-- ---- includes and directives

-- the length of a comment that lies whole in its line, by the first place of its end or of the line's
abbrev pub short_comment_len : Bytes → Option ℕ → ℕ
short_comment_len bytes None = 0
short_comment_len bytes (Some n) = if is_end (drop n (drop 2 bytes)) then n + 4 else 0

abbrev pub short_comment : Bytes → ℕ
short_comment bytes = short_comment_len bytes (first_place is_end_or_feed (drop 2 bytes))

-- the length of a blank or a comment within a line at the front, or 0
abbrev pub gap_len : Bytes → ℕ
gap_len bytes =
    if is_blank (first bytes) then (if is_feed (first bytes) then 0 else 1)
    else (if begins (codes "/*") bytes then short_comment bytes else 0)

abbrev pub behind_gap : Bytes → Bytes
behind_gap = all_passed gap_len

-- the length of a header's name at the front, or 0
abbrev pub header_len : Bytes → ℕ
header_len bytes = if begins (codes "<stdio.h>") bytes then 9 else (if begins (codes "<stdlib.h>") bytes then 10 else 0)

-- whether a line ends where this byte or none stands
abbrev pub ends_line : Option ℕ → Bool
ends_line None = true
ends_line (Some b) = is_feed b

-- whether the line ends here, or a `//` comment begins
abbrev pub is_line_tail : Bytes → Bool
is_line_tail bytes = ends_line (slice_get bytes 0) || begins (codes "//") bytes

-- whether a header's name stands here, with nothing but white space and comments behind it in its line
abbrev pub is_header_last : Bytes → Bool
is_header_last bytes = nat_lt 0 (header_len bytes) && is_line_tail (behind_gap (drop (header_len bytes) bytes))

-- from the header on, where the bytes are those of an include
abbrev pub include_from : Bytes → Option Bytes
include_from bytes = if is_header_last (behind_gap bytes) then Some (behind_gap bytes) else None

abbrev pub header_from : Bytes → Option Bytes
header_from bytes = if begins (codes "include") bytes then include_from (drop 7 bytes) else None

abbrev pub directive_piece : Bytes → Piece
directive_piece bytes = piece.Token Directive (line_len bytes) 0 1

-- the line of a `#`, by what stands from its header on
abbrev pub hash_piece : Bytes → Option Bytes → Piece
hash_piece bytes None = directive_piece bytes
hash_piece bytes (Some header) = piece.Token Include (length bytes - length header + header_len header) (length bytes - length header) (header_len header)

abbrev pub line_piece : Before → Bytes → Piece
line_piece Blank bytes = hash_piece bytes (header_from (behind_gap (drop 1 bytes)))
line_piece Comment bytes = directive_piece bytes
line_piece Token bytes = piece.BadByte

-- ---- the other tokens

abbrev pub whole : TokenKind → ℕ → Piece
whole kind n = piece.Token kind n 0 n

abbrev pub sized : TokenKind → ℕ → Piece
sized kind n = if nat_lt 0 n then whole kind n else piece.BadByte

abbrev pub number_piece : Bytes → ℕ → Piece
number_piece bytes n = if is_some (constant_type (take n bytes)) then whole Number n else piece.BadNumber

-- the length of a character constant at the front, or 0
abbrev pub character_len : Bytes → ℕ
character_len bytes =
    if is_plain 39 (slice_index bytes 1) && (slice_index bytes 2 == 39) then 3
    else (if (slice_index bytes 1 == 92) && (is_escape (slice_index bytes 2) && (slice_index bytes 3 == 39)) then 4 else 0)

-- the stage behind a byte that stands for itself or begins something
abbrev pub inside_stage : ℕ → Stage
inside_stage b = if b == 34 then stage.Closed else (if b == 92 then stage.Escape else (if is_plain 34 b then stage.Inside else stage.Bad))

-- the stage behind a byte that stands behind a backslash
abbrev pub escaped_stage : ℕ → Stage
escaped_stage b = if is_escape b then (if b == 48 then stage.Null else stage.Inside) else stage.Bad

abbrev pub stage_after : Stage → ℕ → Stage
stage_after stage.Inside b = inside_stage b
stage_after stage.Escape b = escaped_stage b
stage_after stage.Null b = if is_digit b then stage.Bad else inside_stage b
stage_after stage.Closed b = stage.Bad
stage_after stage.Bad b = stage.Bad

abbrev pub literal_from : Stage → Option ℕ → Option ℕ
literal_from stage.Inside found = raised found
literal_from stage.Escape found = raised found
literal_from stage.Null found = raised found
literal_from stage.Closed found = Some 1
literal_from stage.Bad found = None

-- how many bytes there are to the end of a string literal
unfoldable pub literal_len : Stage → Bytes → Option ℕ
literal_len s [] = None
literal_len s (b ∷ bs) = literal_from (stage_after s b) (literal_len (stage_after s b) bs)

abbrev pub is_trigraph : Bytes → Bool
is_trigraph bytes = ((first bytes == 63) && (slice_index bytes 1 == 63)) && is_one_of (codes "=(/)'<!>-") (slice_index bytes 2)

abbrev pub string_piece : Bytes → Option ℕ → Piece
string_piece bytes None = piece.BadByte
string_piece bytes (Some n) = if is_some (first_place is_trigraph (take n (drop 1 bytes))) then piece.BadByte else whole Str (n + 1)

-- the marks, by how many bytes they have
abbrev pub is_single : ℕ → Bool
is_single = is_one_of (codes "()[]{};,:?.+-*/%&|^~!<>=")

abbrev pub is_pair : ℕ → ℕ → Bool
is_pair a b = ((b == 61) && is_one_of (codes "<>=!+-*/%&|^") a) || (((a == b) && is_one_of (codes "<>&|+-") a) || ((a == 45) && (b == 62)))

abbrev pub is_triple : ℕ → ℕ → ℕ → Bool
is_triple a b c = ((a == b) && ((c == 61) && is_one_of (codes "<>") a)) || ((a == 46) && ((b == 46) && (c == 46)))

-- the length of the longest mark at the front, or 0
abbrev pub mark_len : Bytes → ℕ
mark_len bytes =
    if is_triple (slice_index bytes 0) (slice_index bytes 1) (slice_index bytes 2) then 3
    else (if is_pair (slice_index bytes 0) (slice_index bytes 1) then 2
    else (if is_single (slice_index bytes 0) then 1 else 0))

-- ---- what stands at the front

abbrev pub lacks_token : Before → Bool
lacks_token Blank = true
lacks_token Comment = true
lacks_token Token = false

unfoldable pub piece_of : Before → Bytes → Piece
piece_of before bytes =
    if begins (codes "/*") bytes then comment_piece bytes (first_place is_end (drop 2 bytes))
    else (if begins (codes "//") bytes then line_comment_piece bytes (line_len (drop 2 bytes))
    else (if is_blank (first bytes) then piece.Space 1
    else (if is_letter (first bytes) then whole Name (run_len name_goes_on 0 bytes)
    else (if is_digit (first bytes) then number_piece bytes (run_len number_goes_on 0 bytes)
    else (if first bytes == 39 then sized Character (character_len bytes)
    else (if first bytes == 34 then string_piece bytes (literal_len stage.Inside (drop 1 bytes))
    else (if (first bytes == 35) && lacks_token before then line_piece before bytes
    else sized Mark (mark_len bytes))))))))

-- ---- the scan

-- what stands before a place in its line, behind some white space or a comment
abbrev pub after_space : Bytes → Before → Before
after_space some before = if is_feed (first some) then Blank else behind_comment some before

abbrev pub Scan : Type 0
Scan = Before → ℕ → Tokens → Bytes → Result Tokens LexFault

-- One turn: what stands at the front is passed on.
abbrev pub turn : Piece → Before → ℕ → Tokens → Bytes → Scan → Result Tokens LexFault
turn (piece.Space n) before line found bytes next = next (after_space (take n bytes) before) (line + line_feeds (take n bytes)) found (drop n bytes)
turn (piece.Token kind n from len) before line found bytes next = next Token line (found ++ of_kind kind (take len (drop from bytes)) line ∷ []) (drop n bytes)
turn (piece.SplitEnd n) before line found bytes next = Err (BadByte (line + line_feeds (take n bytes)))
turn piece.Open before line found bytes next = Err (OpenComment line)
turn piece.BadNumber before line found bytes next = Err (BadNumber line)
turn piece.BadByte before line found bytes next = Err (BadByte line)

unfoldable pub scan : ℕ → Before → ℕ → Tokens → Bytes → Result Tokens LexFault
scan zero before line found bytes = Ok found
scan (suc turns) before line found [] = Ok found
scan (suc turns) before line found (b ∷ bs) = turn (piece_of before (b ∷ bs)) before line found (b ∷ bs) (scan turns)

-- ---- what is answered

-- What a function answers, unless memory runs out.
abbrev pub Scans : Result Tokens LexFault → Result (Vec token.Token Global) LexFault → Type 0
Scans outcome (Ok v) = outcome ≡ Ok v.items
Scans outcome (Err NoMemory) = Unit {0}
Scans outcome (Err (BadByte line)) = outcome ≡ Err (BadByte line)
Scans outcome (Err (BadNumber line)) = outcome ≡ Err (BadNumber line)
Scans outcome (Err (OpenComment line)) = outcome ≡ Err (OpenComment line)

-- What stands at the front of some bytes is found.
use Rattle.std.proofs.Common.{◌≡◌, ◌≢◌, ℕ, ◌+◌, ◌-◌, ◌<◌, [], ◌∷◌, ◌++◌, length, length-append, take, drop, append_assoc, refl, sym, ap, ◌∙◌, subst, cond, arith, true, false, Bool, Some, eqb, codes}
use Rattle.std.proofs.lemmas.Bool.{and_parts, eqb-true, and_right, not-true, false_from_ne_true, ne_eqb}
use Rattle.std.proofs.lemmas.Bool.Decides.{nat_tests}
use Rattle.std.proofs.Math.Seq.{take-append_seam}
use Rattle.std.specs.Prelude.{◌==◌, ◌||◌, ◌&&◌, not, nat_lt, bytes_eq}
use Rattle.std.proofs.lemmas.Slice.Eq.{bytes_eq-Decides}
use Rattle.c_language.specs.Words.{Bytes}
use Rattle.c_language.specs.Characters.{is_digit, is_letter, is_word_byte}
use Rattle.c_language.specs.Constants.{IsConstant}
use Rattle.c_language.specs.Tokens.{is_blank, is_feed, has_feed, joins_next, EndsAlone, AtLineEnd, name_goes_on, number_goes_on, IsSpace, IsRun, LacksEnd, LacksSplitEnd, IsCharacter, IsLiteral, LacksTrigraph, LacksComment, marks, is_mark, IsLongest, IsTokenText, IsToken}
use Rattle.c_language.specs.declared.token.TokenKind.{TokenKind}
use Rattle.c_language.specs.declared.token.TokenKind.TheVariants.{Name, Number, Character, Str, Mark, Include, Directive}
use Rattle.c_language.specs.declared.token.Before.{Before}
use Rattle.c_language.specs.declared.token.Before.TheVariants.{Blank, Comment}
use Rattle.c_lex.specs.declared.literal.Stage.TheVariants as stage
use Rattle.c_lex.specs.declared.piece.Piece.TheVariants as piece
use Rattle.c_lex.specs.Scanning.{first, begins, first_place, run_len, is_split, is_end, comment_piece, closed_piece, number_piece, whole, sized, is_trigraph, string_piece, mark_len, header_len, header_from, behind_gap, hash_piece, directive_piece, piece_of, after_space}
use Rattle.c_lex.proofs.Places.{begins_append, drop_at, take_at, place_is, place_lacks}
use Rattle.c_lex.proofs.CommentLemmas.{inside_lacks, splits_lack, line_is}
use Rattle.c_lex.proofs.WordLemmas.{run_is, run_starts, mark_len_is, mark_some, character_is, literal_is, trigraphs_lack}
use Rattle.c_lex.proofs.LineLemmas.{include_lens, include_none}
use Rattle.c_language.proofs.Lists.{any_passes}

-- ---- the first byte

-- a byte of a class isn't one outside of it
apart : (class : ℕ → Bool) (b c : ℕ) → class b ≡ true → class c ≡ false → eqb c b ≡ false
apart class b c h k = false_from_ne_true _ (λ t. let e : class c ≡ true = ap class (eqb-true c b t) ∙ h in absurd cc)

no_comment : (b : ℕ) (rest : Bytes) → eqb 47 b ≡ false → begins (codes "/*") (b ∷ rest) ≡ false
no_comment b rest h = rw h refl

no_line_comment : (b : ℕ) (rest : Bytes) → eqb 47 b ≡ false → begins (codes "//") (b ∷ rest) ≡ false
no_line_comment b rest h = rw h refl

pub letter_no_blank : (b : ℕ) → is_letter b ≡ true → is_blank b ≡ false
letter_no_blank b h = grind (arith, nat_tests)

pub digit_no_blank : (b : ℕ) → is_digit b ≡ true → is_blank b ≡ false
digit_no_blank b h = grind (arith, nat_tests)

pub digit_no_letter : (b : ℕ) → is_digit b ≡ true → is_letter b ≡ false
digit_no_letter b h = grind (arith, nat_tests)

-- ---- white space and comments

ends_alone : (inside rest : Bytes) → EndsAlone inside rest → AtLineEnd rest
ends_alone inside [] h = tt
ends_alone inside (b ∷ bs) h = h.0

pub none_left : (inside : Bytes) → nat_lt (length inside + 2) (length (codes "//" ++ (inside ++ []))) ≡ false
none_left inside = let e : length (codes "//" ++ (inside ++ [])) ≡ length inside + 2 = omega (arith, length-append inside []) in rw e (grind (arith, nat_tests))

alone : (inside rest : Bytes) → EndsAlone inside rest → (nat_lt (length inside + 2) (length (codes "//" ++ (inside ++ rest))) && joins_next inside) ≡ false
alone inside [] h = let f : nat_lt (length inside + 2) (length (codes "//" ++ (inside ++ []))) ≡ false = none_left inside in rw f refl
alone inside (b ∷ bs) h = and_right _ _ h.1

line_comment_is : (before : Before) (inside rest : Bytes) → has_feed inside ≡ false → EndsAlone inside rest → piece_of before (codes "//" ++ (inside ++ rest)) ≡ piece.Space (length (codes "//" ++ inside))
unfolding piece_of
line_comment_is before inside rest h e =
    rw (line_is inside rest h (ends_alone inside rest e), take-append_seam inside rest, alone inside rest e) (ap piece.Space (omega arith))

comment_is : (before : Before) (inside rest : Bytes) → LacksEnd inside → LacksSplitEnd (codes "*" ++ inside) → piece_of before (codes "/*" ++ (inside ++ (codes "*/" ++ rest))) ≡ piece.Space (length inside + 4)
unfolding piece_of
comment_is before inside rest l s =
    ap (comment_piece (codes "/*" ++ (inside ++ (codes "*/" ++ rest)))) (place_is is_end inside 42 (47 ∷ rest) (inside_lacks inside rest l) refl)
    ∙ ap (closed_piece (length inside))
    (ap (first_place is_split) (take_at (length inside + 1) (codes "*" ++ (inside ++ (codes "*/" ++ rest))) (codes "*" ++ inside) (codes "*/" ++ rest) refl (omega arith)) ∙ place_lacks is_split (codes "*" ++ inside) (splits_lack (codes "*" ++ inside) s))

blank_is : (before : Before) (b : ℕ) (rest : Bytes) → is_blank b ≡ true → piece_of before (b ∷ rest) ≡ piece.Space 1
unfolding piece_of
blank_is before b rest h = let f = apart is_blank b 47 h refl in rw (no_comment b rest f, no_line_comment b rest f, h) refl

feed_is : (before : Before) (rest : Bytes) → piece_of before (codes "\n" ++ rest) ≡ piece.Space 1
unfolding piece_of
feed_is before rest = refl

pub comment_whole : (inside rest : Bytes) → (codes "/*" ++ (inside ++ codes "*/")) ++ rest ≡ codes "/*" ++ (inside ++ (codes "*/" ++ rest))
comment_whole inside rest = ap (λ (x : Bytes). 47 ∷ 42 ∷ x) (append_assoc inside (codes "*/") rest)

pub comment_len : (inside : Bytes) → length inside + 4 ≡ length (codes "/*" ++ (inside ++ codes "*/"))
comment_len inside = omega (arith, length-append inside (codes "*/"))

pub piece_space : {before after : Before} {some rest : Bytes} → IsSpace before rest some after → piece_of before (some ++ rest) ≡ piece.Space (length some)
piece_space {before} {rest = rest} IsSpace.feed = feed_is before rest
piece_space {before} {rest = rest} (IsSpace.blank {b} h n) = blank_is before b rest h
piece_space {before} {rest = rest} (IsSpace.line_comment {inside} h e) = line_comment_is before inside rest h e
piece_space {before} {rest = rest} (IsSpace.comment {inside} l s) = ap (piece_of before) (comment_whole inside rest) ∙ comment_is before inside rest l s ∙ ap piece.Space (comment_len inside)

feed_end : (inside : Bytes) → has_feed (inside ++ codes "*/") ≡ has_feed inside
feed_end [] = refl
feed_end (b ∷ bs) = ap (λ (x : Bool). is_feed b || x) (feed_end bs)

pub space_leads : {before after : Before} {some rest : Bytes} → IsSpace before rest some after → after_space some before ≡ after
space_leads IsSpace.feed = refl
space_leads (IsSpace.blank {b} h n) = rw (ne_eqb b 10 n) refl
space_leads (IsSpace.line_comment {inside} h e) = rw h refl
space_leads {before} (IsSpace.comment {inside} l s) = ap (λ (x : Bool). cond x Comment before) (feed_end inside)

pub space_some : {before after : Before} {some rest : Bytes} → IsSpace before rest some after → 0 < length some
space_some IsSpace.feed = omega arith
space_some (IsSpace.blank h n) = omega arith
space_some (IsSpace.line_comment h e) = omega arith
space_some (IsSpace.comment l s) = omega arith

-- ---- tokens

run_whole : (goes_on : ℕ → ℕ → Bool) (b : ℕ) (run rest : Bytes) → goes_on 0 b ≡ true → IsRun goes_on b run rest → run_len goes_on 0 (b ∷ (run ++ rest)) ≡ length (b ∷ run)
run_whole goes_on b run rest h r = run_starts goes_on 0 b (run ++ rest) h ∙ rw (run_is r) (omega arith)

pub letter_word : (b : ℕ) → is_letter b ≡ true → is_word_byte b ≡ true
letter_word b h = rw h refl

pub digit_goes_on : (b : ℕ) → is_digit b ≡ true → number_goes_on 0 b ≡ true
digit_goes_on b h = rw (digit_no_letter b h, h) refl

name_is : (before : Before) (b : ℕ) (run rest : Bytes) → is_letter b ≡ true → IsRun name_goes_on b run rest → piece_of before (b ∷ (run ++ rest)) ≡ whole Name (length (b ∷ run))
unfolding piece_of
name_is before b run rest h r =
    let f = apart is_letter b 47 h refl in
    rw (no_comment b (run ++ rest) f, no_line_comment b (run ++ rest) f, letter_no_blank b h, h) (ap (whole Name) (run_whole name_goes_on b run rest (letter_word b h) r))

number_is : (before : Before) (b : ℕ) (run rest : Bytes) → is_digit b ≡ true → IsRun number_goes_on b run rest → IsConstant (b ∷ run) → piece_of before (b ∷ (run ++ rest)) ≡ whole Number (length (b ∷ run))
unfolding piece_of
number_is before b run rest h r k =
    let f = apart is_digit b 47 h refl in
    let e : number_piece (b ∷ (run ++ rest)) (length (b ∷ run)) ≡ whole Number (length (b ∷ run)) = rw (take-append_seam run rest, k.1) refl in
    rw (no_comment b (run ++ rest) f, no_line_comment b (run ++ rest) f, digit_no_blank b h, digit_no_letter b h, h, run_whole number_goes_on b run rest (digit_goes_on b h) r) e

character_whole : (before : Before) {text : Bytes} → IsCharacter text → (rest : Bytes) → piece_of before (text ++ rest) ≡ whole Character (length text)
unfolding piece_of
character_whole before (IsCharacter.plain {b} h) rest = ap (sized Character) (character_is (IsCharacter.plain {b = b} h) rest)
character_whole before (IsCharacter.escape {b} h) rest = ap (sized Character) (character_is (IsCharacter.escape {b = b} h) rest)

string_whole : (before : Before) (more rest : Bytes) → IsLiteral more → LacksTrigraph more → piece_of before (codes "\"" ++ (more ++ rest)) ≡ whole Str (length (codes "\"" ++ more))
unfolding piece_of
string_whole before more rest l t =
    ap (string_piece (codes "\"" ++ (more ++ rest))) (literal_is l stage.Inside tt rest)
    ∙ rw (take-append_seam more rest, place_lacks is_trigraph more (trigraphs_lack more t)) (ap (whole Str) (omega arith))

-- a byte that begins a mark begins nothing else but comments
abbrev begins_marks : ℕ → Bool
begins_marks b = not (is_blank b) && (not (is_letter b) && (not (is_digit b) && (not (b == 39) && (not (b == 34) && not (b == 35)))))

pub record BeginsMark (b : ℕ) : Type 0 where
  pub no_blank : is_blank b ≡ false
  pub no_letter : is_letter b ≡ false
  pub no_digit : is_digit b ≡ false
  pub no_quote : (b == 39) ≡ false
  pub no_double : (b == 34) ≡ false
  pub no_hash : (b == 35) ≡ false

mark_begins : (text : Bytes) → is_mark text ≡ true → BeginsMark (first text)
mark_begins text h =
    let x = any_passes (bytes_eq text) (λ m. begins_marks (first m)) marks h refl in
    let e : text ≡ x.0 = (bytes_eq-Decides text x.0).0 x.1 in
    let k : begins_marks (first text) ≡ true = ap (λ m. begins_marks (first m)) e ∙ x.2 in
    let p = and_parts (not (is_blank (first text))) _ k in
    let q = and_parts (not (is_letter (first text))) _ p.1 in
    let r = and_parts (not (is_digit (first text))) _ q.1 in
    let s = and_parts (not (first text == 39)) _ r.1 in
    let u = and_parts (not (first text == 34)) (not (first text == 35)) s.1 in
    record { no_blank = not-true _ p.0; no_letter = not-true _ q.0; no_digit = not-true _ r.0; no_quote = not-true _ s.0; no_double = not-true _ u.0; no_hash = not-true _ u.1 }

first_front : (text rest : Bytes) → 0 < length text → first (text ++ rest) ≡ first text
first_front [] rest h = absurd (omega arith)
first_front (b ∷ bs) rest h = refl

lacks_begins : (word bytes : Bytes) → ((rest : Bytes) → bytes ≢ word ++ rest) → begins word bytes ≡ false
lacks_begins word bytes h = false_from_ne_true _ (λ t. h (drop (length word) bytes) (begins_append word bytes t))

some_length : (text : Bytes) → is_mark text ≡ true → nat_lt 0 (length text) ≡ true
some_length text h = let some = mark_some text h in grind (arith, nat_tests)

mark_whole : (before : Before) (text rest : Bytes) → LacksComment (text ++ rest) → is_mark text ≡ true → IsLongest (length text) (text ++ rest) → piece_of before (text ++ rest) ≡ whole Mark (length text)
unfolding piece_of
mark_whole before text rest l h longest =
    let b = subst BeginsMark (sym (first_front text rest (mark_some text h))) (mark_begins text h) in
    let n : nat_lt 0 (length text) ≡ true = some_length text h in
    let e : sized Mark (mark_len (text ++ rest)) ≡ whole Mark (length text) = rw (mark_len_is text rest h longest, n) refl in
    rw (lacks_begins (codes "/*") (text ++ rest) (λ r. (l r).0), lacks_begins (codes "//") (text ++ rest) (λ r. (l r).1), b.no_blank, b.no_letter, b.no_digit, b.no_quote, b.no_double, b.no_hash) e

pub piece_text : {kind : TokenKind} {text rest : Bytes} (before : Before) → IsTokenText kind text rest → piece_of before (text ++ rest) ≡ whole kind (length text)
piece_text {rest = rest} before (IsTokenText.name {b} {run} h r) = name_is before b run rest h r
piece_text {rest = rest} before (IsTokenText.number {b} {run} h r k) = number_is before b run rest h r k
piece_text {rest = rest} before (IsTokenText.character c) = character_whole before c rest
piece_text {rest = rest} before (IsTokenText.string {more} l t) = string_whole before more rest l t
piece_text {rest = rest} before (IsTokenText.mark {text} l h longest) = mark_whole before text rest l h longest

-- how long a token is, and where its text stands in it
pub record TokenLens (before : Before) (kind : TokenKind) (own text rest : Bytes) : Type 0 where
  pub from : ℕ
  pub len : ℕ
  pub piece_is : piece_of before (own ++ rest) ≡ piece.Token kind (length own) from len
  pub text_is : take len (drop from (own ++ rest)) ≡ text
  pub some : 0 < length own

text_some : {kind : TokenKind} {text rest : Bytes} → IsTokenText kind text rest → 0 < length text
text_some (IsTokenText.name h r) = omega arith
text_some (IsTokenText.number h r k) = omega arith
text_some (IsTokenText.character (IsCharacter.plain h)) = omega arith
text_some (IsTokenText.character (IsCharacter.escape h)) = omega arith
text_some (IsTokenText.string l t) = omega arith
text_some (IsTokenText.mark {text} l h longest) = mark_some text h

hash_blank : (bytes : Bytes) → piece_of Blank (codes "#" ++ bytes) ≡ hash_piece (codes "#" ++ bytes) (header_from (behind_gap bytes))
unfolding piece_of
hash_blank bytes = refl

hash_comment : (bytes : Bytes) → piece_of Comment (codes "#" ++ bytes) ≡ directive_piece (codes "#" ++ bytes)
unfolding piece_of
hash_comment bytes = refl

hash_at : (bytes : Bytes) → first bytes ≡ 35 → bytes ≡ codes "#" ++ drop 1 bytes
hash_at [] h = let f : 0 ≡ 35 = h in absurd (omega arith)
hash_at (b ∷ bs) h = ap (λ (x : ℕ). x ∷ bs) h

line_whole : (inside rest : Bytes) → has_feed inside ≡ false → AtLineEnd rest → directive_piece (codes "#" ++ (inside ++ rest)) ≡ piece.Token Directive (length (codes "#" ++ inside)) 0 1
line_whole inside rest h e = ap (λ (n : ℕ). piece.Token Directive n 0 1) (line_is (codes "#" ++ inside) rest h e)

include_lengths : (header own rest from : Bytes) → own ≡ from ++ header → header_len (header ++ rest) ≡ length header → hash_piece (own ++ rest) (Some (header ++ rest)) ≡ piece.Token Include (length own) (length from) (length header)
include_lengths header own rest from e h =
    let a : length (own ++ rest) - length (header ++ rest) ≡ length from = omega (arith, length-append own rest, length-append header rest, ap length e, length-append from header) in
    let b : length from + length header ≡ length own = omega (arith, ap length e, length-append from header) in
    rw (a, h, b) refl

header_text : (header own rest from : Bytes) → own ≡ from ++ header → take (length header) (drop (length from) (own ++ rest)) ≡ header
header_text header own rest from e =
    ap (take (length header)) (drop_at (length from) (own ++ rest) from (header ++ rest) (ap (λ (y : Bytes). y ++ rest) e ∙ append_assoc from header rest) refl) ∙ take-append_seam header rest

pub piece_token : {before : Before} {kind : TokenKind} {own text rest : Bytes} → IsToken before kind own text rest → TokenLens before kind own text rest
piece_token {before} {rest = rest} (IsToken.plain {text = text} t) = record { from = 0; len = length text; piece_is = piece_text before t; text_is = take-append_seam text rest; some = text_some t }
piece_token {rest = rest} (IsToken.include {own} {header} i e) =
    let x = include_lens i rest e in
    let at : own ++ rest ≡ codes "#" ++ drop 1 (own ++ rest) = hash_at (own ++ rest) x.hash in
    record {
      from = length x.from;
      len = length header;
      piece_is = ap (piece_of Blank) at ∙ hash_blank (drop 1 (own ++ rest)) ∙ ap (λ (y : Bytes). hash_piece y (header_from (behind_gap (drop 1 (own ++ rest))))) (sym at) ∙ ap (hash_piece (own ++ rest)) x.at ∙ include_lengths header own rest x.from x.own_is x.len;
      text_is = header_text header own rest x.from x.own_is;
      some = x.some;
    }
piece_token {rest = rest} (IsToken.directive {inside} h e l) = record {
  from = 0;
  len = 1;
  piece_is = hash_blank (inside ++ rest) ∙ ap (hash_piece (codes "#" ++ (inside ++ rest))) (include_none (inside ++ rest) l) ∙ line_whole inside rest h e;
  text_is = refl;
  some = omega arith;
}
piece_token {rest = rest} (IsToken.directive_behind {inside} h e) = record { from = 0; len = 1; piece_is = hash_comment (inside ++ rest) ∙ line_whole inside rest h e; text_is = refl; some = omega arith }

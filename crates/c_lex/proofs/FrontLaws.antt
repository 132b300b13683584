-- What a piece says of the bytes that it was found in.
use Rattle.std.proofs.Common.{◌≡◌, ◌≢◌, ℕ, ◌+◌, ◌-◌, ◌≤◌, ◌<◌, [], ◌∷◌, ◌++◌, length, length-append, take, drop, append_assoc, refl, sym, ap, ◌∙◌, subst, arith, true, false, Option, Some, None, eqb, codes}
use Rattle.std.proofs.lemmas.Bool.{and_parts, eqb-true, both_ways}
use Rattle.std.proofs.lemmas.Bool.Decides.{nat_tests}
use Rattle.std.proofs.Math.Seq.{take-append_seam}
use Rattle.std.specs.Prelude.{◌==◌, ◌&&◌, nat_lt, is_some}
use Rattle.std.proofs.lemmas.Slice.Eq.{bytes_eq-Decides}
use Rattle.c_arith.specs.declared.int_type.IntType.{IntType}
use Rattle.c_language.specs.Words.{Bytes}
use Rattle.c_language.specs.Characters.{is_digit, is_letter}
use Rattle.c_language.specs.Constants.{constant_type}
use Rattle.c_language.specs.Tokens.{is_blank, has_feed, line_feeds, joins_next, AtLineEnd, name_goes_on, number_goes_on, IsSpace, IsRun, LacksEnd, LacksInclude, IsCharacter, IsLiteral, LacksComment, IsLongest, IsTokenText, IsToken}
use Rattle.c_language.specs.declared.token.TokenKind.{TokenKind}
use Rattle.c_language.specs.declared.token.TokenKind.TheVariants.{Name, Number, Character, Str, Mark, Directive}
use Rattle.c_language.specs.declared.token.Before.{Before}
use Rattle.c_language.specs.declared.token.Before.TheVariants.{Blank, Comment, Token}
use Rattle.c_language.proofs.Tests.{by_answer, by_test}
use Rattle.c_lex.specs.Faults.{IsStray, IsBadByte, IsFault}
use Rattle.c_lex.specs.declared.fault.LexFault.TheVariants as fault
use Rattle.c_lex.specs.declared.literal.Stage.TheVariants as stage
use Rattle.c_lex.specs.declared.piece.Piece.{Piece}
use Rattle.c_lex.specs.declared.piece.Piece.TheVariants as piece
use Rattle.c_lex.specs.Scanning.{first, begins, first_place, run_len, line_len, is_split, is_end, comment_piece, closed_piece, line_comment_piece, number_piece, whole, sized, character_len, literal_len, is_trigraph, string_piece, mark_len, header_len, header_from, behind_gap, hash_piece, directive_piece, line_piece, lacks_token, piece_of}
use Rattle.c_lex.proofs.Places.{begins_append, drop_at, take_at, PlaceIs, place_found, place_none, by_place}
use Rattle.c_lex.proofs.CommentLemmas.{lacks_end, lacks_end_at, lacks_split, split_found, joins_feeds, line_found, first_is}
use Rattle.c_lex.proofs.WordLemmas.{run_starts, run_found, mark_found, mark_longest, character_is, character_found, literal_is, literal_found, trigraph_byte, lacks_trigraph}
use Rattle.c_lex.proofs.LineLemmas.{include_found, include_lacks}
use Rattle.c_lex.proofs.PieceLaws.{none_left, comment_whole, comment_len, letter_word, digit_goes_on}
use Rattle.c_language.proofs.Lists.{feeds-append}

-- white space or a comment of so many bytes at the front
pub record SpaceFront (before : Before) (bytes : Bytes) (n : ℕ) : Type 0 where
  pub some : Bytes
  pub rest : Bytes
  pub after : Before
  pub at : bytes ≡ some ++ rest
  pub len : length some ≡ n
  pub is : IsSpace before rest some after

-- a token at the front
pub record TokenFront (before : Before) (bytes : Bytes) (kind : TokenKind) (n from len : ℕ) : Type 0 where
  pub own : Bytes
  pub text : Bytes
  pub rest : Bytes
  pub at : bytes ≡ own ++ rest
  pub own_len : length own ≡ n
  pub text_is : take len (drop from bytes) ≡ text
  pub fits : from + len ≤ n
  pub is : IsToken before kind own text rest

-- a comment at the front that is split behind so many bytes
pub record SplitFront (before : Before) (bytes : Bytes) (n : ℕ) : Type 0 where
  pub fits : n < length bytes
  pub is : (line : ℕ) → IsFault before line bytes (fault.BadByte (line + line_feeds (take n bytes)))

abbrev pub Front : Before → Bytes → Piece → Type 0
Front before bytes (piece.Space n) = SpaceFront before bytes n
Front before bytes (piece.Token kind n from len) = TokenFront before bytes kind n from len
Front before bytes (piece.SplitEnd n) = SplitFront before bytes n
Front before bytes piece.Open = (line : ℕ) → IsFault before line bytes (fault.OpenComment line)
Front before bytes piece.BadNumber = (line : ℕ) → IsFault before line bytes (fault.BadNumber line)
Front before bytes piece.BadByte = (line : ℕ) → IsFault before line bytes (fault.BadByte line)

bad : {before : Before} {bytes : Bytes} → IsBadByte before bytes → (line : ℕ) → IsFault before line bytes (fault.BadByte line)
bad h line = IsFault.bad_byte h

no_length : (o : Option ℕ) {n : ℕ} → o ≡ None → o ≡ Some n → ⊥
no_length o h e = let f : None ≡ Some _ = sym h ∙ e in absurd cc

begins_own : (word rest : Bytes) → begins word (word ++ rest) ≡ true
begins_own word rest = rw (take-append_seam word rest) ((bytes_eq-Decides word word).1 refl)

blank_front : (before : Before) (b : ℕ) (bs : Bytes) → is_blank b ≡ true → Front before (b ∷ bs) (piece.Space 1)
blank_front before b bs h = by_answer (b == 10)
    (λ t. subst (λ (x : ℕ). Front before (x ∷ bs) (piece.Space 1)) (sym (eqb-true b 10 t)) (record { some = codes "\n"; rest = bs; after = Blank; at = refl; len = refl; is = IsSpace.feed }))
    (λ f. record { some = b ∷ []; rest = bs; after = before; at = refl; len = refl; is = IsSpace.blank h (λ e. both_ways (b == 10) f (ap (λ (x : ℕ). x == 10) e)) })

header_cut : (bytes from header rest : Bytes) (n len : ℕ) → bytes ≡ from ++ (header ++ rest) → n ≡ length from → len ≡ length header → take len (drop n bytes) ≡ header
header_cut bytes from header rest n len at e f = ap (take len) (drop_at n bytes from (header ++ rest) at (sym e)) ∙ take_at len (header ++ rest) header rest refl (sym f)

-- ---- comments

split_front : (before : Before) (inside rest : Bytes) (k : ℕ) → LacksEnd inside → PlaceIs is_split (codes "*" ++ inside) k → Front before (codes "/*" ++ (inside ++ (codes "*/" ++ rest))) (piece.SplitEnd (k + 1))
split_front before inside rest k l x =
    let z = split_found (x.head ∷ x.tail) x.here in
    let bytes : Bytes = codes "/*" ++ (inside ++ (codes "*/" ++ rest)) in
    let cut : codes "*" ++ (inside ++ (codes "*/" ++ rest)) ≡ x.inside ++ ((x.head ∷ x.tail) ++ (codes "*/" ++ rest)) = ap (λ (y : Bytes). y ++ (codes "*/" ++ rest)) x.at ∙ append_assoc x.inside (x.head ∷ x.tail) (codes "*/" ++ rest) in
    let front : take (k + 1) bytes ≡ codes "/" ++ x.inside = take_at (k + 1) bytes (codes "/" ++ x.inside) ((x.head ∷ x.tail) ++ (codes "*/" ++ rest)) (ap (λ (y : Bytes). 47 ∷ y) cut) (omega (arith, x.len)) in
    record {
      fits = omega (arith, x.len, ap length x.at, length-append x.inside (x.head ∷ x.tail), length-append inside (codes "*/" ++ rest));
      is = λ line.
          let feeds : line + line_feeds x.inside + 0 ≡ line + line_feeds (take (k + 1) bytes) = omega (arith, ap line_feeds front, feeds-append (codes "/") x.inside) in
          subst (λ n. IsFault before line bytes (fault.BadByte n)) feeds
          (IsFault.split inside rest x.inside z.joins z.back 0 l (x.at ∙ ap (λ (y : Bytes). x.inside ++ y) z.at) z.are (joins_feeds z.are));
    }

closed_front : (before : Before) (inside rest : Bytes) (n : ℕ) (o : Option ℕ) → length inside ≡ n → LacksEnd inside → first_place is_split (codes "*" ++ inside) ≡ o
    → Front before (codes "/*" ++ (inside ++ (codes "*/" ++ rest))) (closed_piece n o)
closed_front before inside rest n None e l h = record {
  some = codes "/*" ++ (inside ++ codes "*/");
  rest = rest;
  after = _;
  at = sym (comment_whole inside rest);
  len = omega (arith, comment_len inside, e);
  is = IsSpace.comment l (lacks_split (codes "*" ++ inside) (place_none is_split (codes "*" ++ inside) h));
}
closed_front before inside rest n (Some k) e l h = split_front before inside rest k l (place_found is_split (codes "*" ++ inside) k h)

found_front : (before : Before) (more : Bytes) (n : ℕ) → PlaceIs is_end more n → Front before (codes "/*" ++ more) (closed_piece n (first_place is_split (take (n + 1) (codes "*" ++ more))))
found_front before more n x =
    let r : x.head ∷ x.tail ≡ codes "*/" ++ drop 2 (x.head ∷ x.tail) = begins_append (codes "*/") (x.head ∷ x.tail) x.here in
    let at : more ≡ x.inside ++ (codes "*/" ++ drop 2 (x.head ∷ x.tail)) = x.at ∙ ap (λ (y : Bytes). x.inside ++ y) r in
    let cut : take (n + 1) (codes "*" ++ more) ≡ codes "*" ++ x.inside = take_at (n + 1) (codes "*" ++ more) (codes "*" ++ x.inside) (x.head ∷ x.tail) (ap (λ (y : Bytes). 42 ∷ y) x.at) (omega (arith, x.len)) in
    subst (λ (y : Bytes). Front before (codes "/*" ++ y) (closed_piece n (first_place is_split (take (n + 1) (codes "*" ++ more))))) (sym at)
    (closed_front before x.inside (drop 2 (x.head ∷ x.tail)) n (first_place is_split (take (n + 1) (codes "*" ++ more))) x.len (lacks_end x.inside (x.head ∷ x.tail) x.none) (ap (first_place is_split) (sym cut)))

comment_front : (before : Before) (more : Bytes) (o : Option ℕ) → first_place is_end more ≡ o → Front before (codes "/*" ++ more) (comment_piece (codes "/*" ++ more) o)
comment_front before more None h = λ line. IsFault.open_comment (lacks_end_at more (place_none is_end more h))
comment_front before more (Some n) h = found_front before more n (place_found is_end more n h)

feed_within : (inside : Bytes) (b : ℕ) (bs : Bytes) → nat_lt (length inside + 2) (length (codes "//" ++ (inside ++ (b ∷ bs)))) ≡ true
feed_within inside b bs = let low : length inside + 2 < length (codes "//" ++ (inside ++ (b ∷ bs))) = omega (arith, length-append inside (b ∷ bs)) in grind (arith, nat_tests)

line_front : (before : Before) (inside rest : Bytes) → has_feed inside ≡ false → AtLineEnd rest → Front before (codes "//" ++ (inside ++ rest)) (line_comment_piece (codes "//" ++ (inside ++ rest)) (length inside))
line_front before inside [] h e =
    let f : line_comment_piece (codes "//" ++ (inside ++ [])) (length inside) ≡ piece.Space (length inside + 2) = rw (none_left inside) refl in
    subst (Front before (codes "//" ++ (inside ++ []))) (sym f) (record { some = codes "//" ++ inside; rest = []; after = before; at = refl; len = omega arith; is = IsSpace.line_comment h tt })
line_front before inside (b ∷ bs) h e = by_answer (joins_next inside)
    (λ t.
    let f : line_comment_piece (codes "//" ++ (inside ++ (b ∷ bs))) (length inside) ≡ piece.BadByte = rw (feed_within inside b bs, take-append_seam inside (b ∷ bs), t) refl in
    let g : codes "//" ++ (inside ++ (codes "\n" ++ bs)) ≡ codes "//" ++ (inside ++ (b ∷ bs)) = ap (λ (x : ℕ). codes "//" ++ (inside ++ (x ∷ bs))) (sym e) in
    subst (Front before (codes "//" ++ (inside ++ (b ∷ bs)))) (sym f) (bad (subst (IsBadByte before) g (IsBadByte.joined inside bs h t))))
    (λ k.
    let f : line_comment_piece (codes "//" ++ (inside ++ (b ∷ bs))) (length inside) ≡ piece.Space (length inside + 2) = rw (feed_within inside b bs, take-append_seam inside (b ∷ bs), k) refl in
    subst (Front before (codes "//" ++ (inside ++ (b ∷ bs)))) (sym f) (record { some = codes "//" ++ inside; rest = b ∷ bs; after = before; at = refl; len = omega arith; is = IsSpace.line_comment h (e, k) }))

line_comment_front : (before : Before) (more : Bytes) → Front before (codes "//" ++ more) (line_comment_piece (codes "//" ++ more) (line_len more))
line_comment_front before more =
    let x = line_found more in
    subst (λ n. Front before (codes "//" ++ more) (line_comment_piece (codes "//" ++ more) n)) (sym x.len)
    (subst (λ (y : Bytes). Front before (codes "//" ++ y) (line_comment_piece (codes "//" ++ y) (length x.inside))) (sym x.at) (line_front before x.inside x.rest x.none x.ends))

-- ---- tokens

whole_front : {kind : TokenKind} (before : Before) (bytes text rest : Bytes) (n : ℕ) → bytes ≡ text ++ rest → length text ≡ n → IsTokenText kind text rest → Front before bytes (whole kind n)
whole_front before bytes text rest n at len is = record { own = text; text = text; rest = rest; at = at; own_len = len; text_is = take_at n bytes text rest at len; fits = omega arith; is = IsToken.plain is }

name_front : (before : Before) (b : ℕ) (bs : Bytes) → is_letter b ≡ true → Front before (b ∷ bs) (whole Name (run_len name_goes_on 0 (b ∷ bs)))
name_front before b bs h =
    let x = run_found name_goes_on b bs in
    whole_front before (b ∷ bs) (b ∷ x.run) x.rest (run_len name_goes_on 0 (b ∷ bs)) (ap (λ (y : Bytes). b ∷ y) x.at) (omega (arith, run_starts name_goes_on 0 b bs (letter_word b h), x.len)) (IsTokenText.name h x.is)

some_type : (o : Option IntType) → is_some o ≡ true → (t : IntType) × (o ≡ Some t)
some_type None h = absurd cc
some_type (Some t) h = (t, refl)

no_type : (o : Option IntType) (t : IntType) → is_some o ≡ false → o ≡ Some t → ⊥
no_type None t h e = absurd cc
no_type (Some u) t h e = absurd cc

number_cases : (before : Before) (b : ℕ) (bs : Bytes) (n : ℕ) (run rest : Bytes) → is_digit b ≡ true → b ∷ bs ≡ (b ∷ run) ++ rest → length (b ∷ run) ≡ n → IsRun number_goes_on b run rest → Front before (b ∷ bs) (number_piece (b ∷ bs) n)
number_cases before b bs n run rest h at len r =
    let cut : take n (b ∷ bs) ≡ b ∷ run = take_at n (b ∷ bs) (b ∷ run) rest at len in
    by_answer (is_some (constant_type (b ∷ run)))
    (λ t.
    let f : number_piece (b ∷ bs) n ≡ whole Number n = rw (cut, t) refl in
    subst (Front before (b ∷ bs)) (sym f) (whole_front before (b ∷ bs) (b ∷ run) rest n at len (IsTokenText.number h r (some_type (constant_type (b ∷ run)) t))))
    (λ k.
    let f : number_piece (b ∷ bs) n ≡ piece.BadNumber = rw (cut, k) refl in
    subst (Front before (b ∷ bs)) (sym f) (λ line. subst (λ (y : Bytes). IsFault before line y (fault.BadNumber line)) (sym at) (IsFault.bad_number b run rest h r (λ c. no_type (constant_type (b ∷ run)) c.0 k c.1))))

number_front : (before : Before) (b : ℕ) (bs : Bytes) → is_digit b ≡ true → Front before (b ∷ bs) (number_piece (b ∷ bs) (run_len number_goes_on 0 (b ∷ bs)))
number_front before b bs h =
    let x = run_found number_goes_on b bs in
    number_cases before b bs (run_len number_goes_on 0 (b ∷ bs)) x.run x.rest h (ap (λ (y : Bytes). b ∷ y) x.at) (omega (arith, run_starts number_goes_on 0 b bs (digit_goes_on b h), x.len)) x.is

some_byte : (n : ℕ) → nat_lt 0 n ≡ true → 0 < n
some_byte n h = grind (arith, nat_tests)

no_byte : (n : ℕ) → nat_lt 0 n ≡ false → n ≡ 0
no_byte n h = grind (arith, nat_tests)

character_some : {text : Bytes} → IsCharacter text → 0 < length text
character_some (IsCharacter.plain h) = omega arith
character_some (IsCharacter.escape h) = omega arith

character_lacks : (bytes : Bytes) → character_len bytes ≡ 0 → (text more : Bytes) → IsCharacter text → bytes ≢ text ++ more
character_lacks bytes h text more c e = omega (arith, ap character_len e, character_is c more, character_some c)

character_front : (before : Before) (bytes : Bytes) → (first bytes == 39) ≡ true → Front before bytes (sized Character (character_len bytes))
character_front before bytes h = by_answer (nat_lt 0 (character_len bytes))
    (λ t.
    let x = character_found bytes h (some_byte (character_len bytes) t) in
    let f : sized Character (character_len bytes) ≡ whole Character (character_len bytes) = rw t refl in
    subst (Front before bytes) (sym f) (whole_front before bytes x.text x.rest (character_len bytes) x.at x.len (IsTokenText.character x.is)))
    (λ k.
    let f : sized Character (character_len bytes) ≡ piece.BadByte = rw k refl in
    let at : bytes ≡ codes "'" ++ drop 1 bytes = first_is 39 bytes refl h in
    let none = character_lacks bytes (no_byte (character_len bytes) k) in
    subst (Front before bytes) (sym f) (bad (subst (IsBadByte before) (sym at) (IsBadByte.character (λ text more c e. none text more c (at ∙ e))))))

literal_front : (before : Before) (more text rest : Bytes) (n : ℕ) → more ≡ text ++ rest → length text ≡ n → IsLiteral text → Front before (codes "\"" ++ more) (string_piece (codes "\"" ++ more) (Some n))
literal_front before more text rest n at len is =
    let cut : take n more ≡ text = take_at n more text rest at len in
    by_place (first_place is_trigraph text)
    (λ e.
    let f : string_piece (codes "\"" ++ more) (Some n) ≡ whole Str (n + 1) = rw (cut, e) refl in
    subst (Front before (codes "\"" ++ more)) (sym f) (whole_front before (codes "\"" ++ more) (codes "\"" ++ text) rest (n + 1) (ap (λ (y : Bytes). 34 ∷ y) at) (omega (arith, len)) (IsTokenText.string is (lacks_trigraph text (place_none is_trigraph text e)))))
    (λ k e.
    let f : string_piece (codes "\"" ++ more) (Some n) ≡ piece.BadByte = rw (cut, e) refl in
    let y = place_found is_trigraph text k e in
    let z = trigraph_byte (y.head ∷ y.tail) y.here in
    subst (Front before (codes "\"" ++ more)) (sym f)
    (bad (subst (λ (w : Bytes). IsBadByte before (codes "\"" ++ w)) (sym at) (IsBadByte.trigraph z.0 text rest y.inside z.1 is (y.at ∙ ap (λ (w : Bytes). y.inside ++ w) z.2) z.3))))

string_front : (before : Before) (more : Bytes) (o : Option ℕ) → literal_len stage.Inside more ≡ o → Front before (codes "\"" ++ more) (string_piece (codes "\"" ++ more) o)
string_front before more None h = bad (IsBadByte.string (λ text rest l e. let f = literal_is l stage.Inside tt rest in absurd (no_length (literal_len stage.Inside more) h (ap (literal_len stage.Inside) e ∙ f))))
string_front before more (Some n) h = let x = literal_found stage.Inside more n h in literal_front before more x.text x.rest n x.at x.len x.is

-- ---- lines

directive_front : (before : Before) (more : Bytes) → ((inside rest : Bytes) → more ≡ inside ++ rest → has_feed inside ≡ false → AtLineEnd rest → IsToken before Directive (codes "#" ++ inside) (codes "#") rest) → Front before (codes "#" ++ more) (directive_piece (codes "#" ++ more))
directive_front before more is =
    let x = line_found more in
    record { own = codes "#" ++ x.inside; text = codes "#"; rest = x.rest; at = ap (λ (y : Bytes). 35 ∷ y) x.at; own_len = omega (arith, x.len); text_is = refl; fits = omega (arith, x.len); is = is x.inside x.rest x.at x.none x.ends }

include_front : (more named : Bytes) → header_from (behind_gap more) ≡ Some named → Front Blank (codes "#" ++ more) (hash_piece (codes "#" ++ more) (Some named))
include_front more called h =
    let x = include_found more called h in
    let lens : length (codes "#" ++ more) ≡ length x.from + length x.header + length x.rest = omega (arith, ap length x.at, length-append x.own x.rest, ap length x.own_is, length-append x.from x.header) in
    let n : length (codes "#" ++ more) - length called ≡ length x.from = omega (arith, lens, ap length x.named_is, length-append x.header x.rest) in
    record {
      own = x.own;
      text = x.header;
      rest = x.rest;
      at = x.at;
      own_len = omega (arith, n, x.len, ap length x.own_is, length-append x.from x.header);
      text_is = header_cut (codes "#" ++ more) x.from x.header x.rest (length (codes "#" ++ more) - length called) (header_len called) (x.at ∙ ap (λ (y : Bytes). y ++ x.rest) x.own_is ∙ append_assoc x.from x.header x.rest) n x.len;
      fits = omega arith;
      is = IsToken.include x.is x.ends;
    }

hash_front : (more : Bytes) (o : Option Bytes) → header_from (behind_gap more) ≡ o → Front Blank (codes "#" ++ more) (hash_piece (codes "#" ++ more) o)
hash_front more None h = directive_front Blank more (λ inside rest at none ends. IsToken.directive none ends (subst (λ (y : Bytes). LacksInclude (codes "#" ++ y)) at (include_lacks more h)))
hash_front more (Some called) h = include_front more called h

open_line : (before : Before) (more : Bytes) → lacks_token before ≡ true → Front before (codes "#" ++ more) (line_piece before (codes "#" ++ more))
open_line Blank more h = hash_front more (header_from (behind_gap more)) refl
open_line Comment more h = directive_front Comment more (λ inside rest at none ends. IsToken.directive_behind none ends)
open_line Token more h = absurd cc

-- ---- marks

never_begins : (word bytes : Bytes) → begins word bytes ≡ false → (rest : Bytes) → bytes ≢ word ++ rest
never_begins word bytes h rest e = let f = begins_own word rest in absurd (both_ways (begins word bytes) h (ap (begins word) e ∙ f))

longest_at : (bytes : Bytes) (n : ℕ) → mark_len bytes ≡ n → IsLongest n bytes
longest_at bytes n e = subst (λ (k : ℕ). IsLongest k bytes) e (mark_longest bytes)

mark_front : (before : Before) (b : ℕ) (bs : Bytes) → begins (codes "/*") (b ∷ bs) ≡ false → begins (codes "//") (b ∷ bs) ≡ false → IsStray before b → Front before (b ∷ bs) (sized Mark (mark_len (b ∷ bs)))
mark_front before b bs c d s = by_answer (nat_lt 0 (mark_len (b ∷ bs)))
    (λ t.
    let x = mark_found (b ∷ bs) (some_byte (mark_len (b ∷ bs)) t) in
    let f : sized Mark (mark_len (b ∷ bs)) ≡ whole Mark (mark_len (b ∷ bs)) = rw t refl in
    let lacks : LacksComment (b ∷ bs) = λ rest. (never_begins (codes "/*") (b ∷ bs) c rest, never_begins (codes "//") (b ∷ bs) d rest) in
    subst (Front before (b ∷ bs)) (sym f)
    (whole_front before (b ∷ bs) x.text x.rest (mark_len (b ∷ bs)) x.at x.len (IsTokenText.mark (subst LacksComment x.at lacks) x.is (subst (IsLongest (length x.text)) x.at (longest_at (b ∷ bs) (length x.text) (sym x.len))))))
    (λ k.
    let f : sized Mark (mark_len (b ∷ bs)) ≡ piece.BadByte = rw k refl in
    subst (Front before (b ∷ bs)) (sym f) (bad (IsBadByte.stray s (longest_at (b ∷ bs) 0 (no_byte (mark_len (b ∷ bs)) k)))))

-- ---- all of them

with_front : (before : Before) (bytes : Bytes) (p q : Piece) → p ≡ q → Front before bytes p → Front before bytes q
with_front before bytes p q e f = subst (Front before bytes) e f

no_line : (before : Before) (b : ℕ) → ((b == 35) && lacks_token before) ≡ false → b ≡ 35 → before ≡ Token
no_line Blank b h e = let f : ((35 == 35) && true) ≡ false = subst (λ (x : ℕ). ((x == 35) && true) ≡ false) e h in absurd cc
no_line Comment b h e = let f : ((35 == 35) && true) ≡ false = subst (λ (x : ℕ). ((x == 35) && true) ≡ false) e h in absurd cc
no_line Token b h e = refl

isnt : (b c : ℕ) → (b == c) ≡ false → eqb c c ≡ true → b ≢ c
isnt b c h r e = let f : (c == c) ≡ false = subst (λ (x : ℕ). (x == c) ≡ false) e h in absurd cc

pub front_at : (before : Before) (b : ℕ) (bs : Bytes) (p : Piece) → piece_of before (b ∷ bs) ≡ p → Front before (b ∷ bs) p
unfolding piece_of
front_at before b bs p h = by_test (begins (codes "/*") (b ∷ bs)) h
    (λ t same. let at = begins_append (codes "/*") (b ∷ bs) t in
    with_front before (b ∷ bs) _ p same (subst (λ (y : Bytes). Front before y (comment_piece y (first_place is_end (drop 2 y)))) (sym at) (comment_front before (drop 2 (b ∷ bs)) (first_place is_end (drop 2 (b ∷ bs))) refl)))
    (λ no_comment h. by_test (begins (codes "//") (b ∷ bs)) h
    (λ t same. let at = begins_append (codes "//") (b ∷ bs) t in
    with_front before (b ∷ bs) _ p same (subst (λ (y : Bytes). Front before y (line_comment_piece y (line_len (drop 2 y)))) (sym at) (line_comment_front before (drop 2 (b ∷ bs)))))
    (λ no_line_comment h. by_test (is_blank b) h
    (λ t same. with_front before (b ∷ bs) _ p same (blank_front before b bs t))
    (λ no_blank h. by_test (is_letter b) h
    (λ t same. with_front before (b ∷ bs) _ p same (name_front before b bs t))
    (λ no_letter h. by_test (is_digit b) h
    (λ t same. with_front before (b ∷ bs) _ p same (number_front before b bs t))
    (λ no_digit h. by_test (b == 39) h
    (λ t same. with_front before (b ∷ bs) _ p same (character_front before (b ∷ bs) t))
    (λ no_quote h. by_test (b == 34) h
    (λ t same. with_front before (b ∷ bs) _ p same
    (subst (λ (x : ℕ). Front before (x ∷ bs) (string_piece (x ∷ bs) (literal_len stage.Inside bs))) (sym (eqb-true b 34 t)) (string_front before bs (literal_len stage.Inside bs) refl)))
    (λ no_double h. by_test ((b == 35) && lacks_token before) h
    (λ t same. let q = and_parts (b == 35) _ t in
    with_front before (b ∷ bs) _ p same (subst (λ (x : ℕ). Front before (x ∷ bs) (line_piece before (x ∷ bs))) (sym (eqb-true b 35 q.0)) (open_line before bs q.1)))
    (λ no_hash same. with_front before (b ∷ bs) _ p same
    (mark_front before b bs no_comment no_line_comment (record { no_blank = no_blank; no_word = rw (no_letter, no_digit) refl; no_quote = isnt b 39 no_quote refl; no_double_quote = isnt b 34 no_double refl; no_line = no_line before b no_hash }))))))))))

-- ---- bounds

-- a piece lies within the bytes
abbrev pub IsWithin : Bytes → Piece → Type 0
IsWithin bytes (piece.Space n) = n ≤ length bytes
IsWithin bytes (piece.Token kind n from len) = (n ≤ length bytes) × (from + len ≤ n)
IsWithin bytes (piece.SplitEnd n) = n < length bytes
IsWithin bytes piece.Open = Unit {0}
IsWithin bytes piece.BadNumber = Unit {0}
IsWithin bytes piece.BadByte = Unit {0}

front_within : (before : Before) (bytes : Bytes) (p : Piece) → Front before bytes p → IsWithin bytes p
front_within before bytes (piece.Space n) f = omega (arith, ap length f.at, length-append f.some f.rest, f.len)
front_within before bytes (piece.Token kind n from len) f = (omega (arith, ap length f.at, length-append f.own f.rest, f.own_len), f.fits)
front_within before bytes (piece.SplitEnd n) f = f.fits
front_within before bytes piece.Open f = tt
front_within before bytes piece.BadNumber f = tt
front_within before bytes piece.BadByte f = tt

pub piece_within : (before : Before) (bytes : Bytes) (p : Piece) → 0 < length bytes → p ≡ piece_of before bytes → IsWithin bytes p
piece_within before [] p some h = absurd (omega arith)
piece_within before (b ∷ bs) p some h = front_within before (b ∷ bs) p (front_at before b bs p (sym h))

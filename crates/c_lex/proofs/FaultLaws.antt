-- A text with a fault has no tokens.
use Rattle.std.proofs.Common.{◌≡◌, ◌≢◌, ℕ, zero, suc, ◌+◌, ◌≤◌, ◌<◌, [], ◌∷◌, ◌++◌, length, length-append, take, drop, refl, sym, ap, ◌∙◌, subst, arith, true, false, Option, Some, None, Result, Err, codes, eqb}
use Rattle.std.proofs.lemmas.Bool.{eqb-true, false_from_ne_true, ne_eqb}
use Rattle.std.proofs.lemmas.Bool.Decides.{nat_tests}
use Rattle.std.proofs.Math.Seq.{take-append_seam}
use Rattle.std.specs.Prelude.{◌==◌, ◌&&◌, nat_lt, is_some}
use Rattle.c_arith.specs.declared.int_type.IntType.{IntType}
use Rattle.c_language.specs.Words.{Bytes}
use Rattle.c_language.specs.Characters.{is_digit, is_letter, is_word_byte}
use Rattle.c_language.specs.Constants.{is_one_of, IsConstant, constant_type}
use Rattle.c_language.specs.TokenForms.{Tokens, of_kind}
use Rattle.c_language.specs.Tokens.{has_feed, line_feeds, joins_next, number_goes_on, AreJoins, LacksEnd, IsRun, IsCharacter, IsLiteral, IsLongest, IsTokens}
use Rattle.c_language.specs.declared.token.Before.{Before}
use Rattle.c_language.specs.declared.token.Before.TheVariants.{Token}
use Rattle.c_language.proofs.Tests.{by_answer}
use Rattle.c_lex.specs.Faults.{IsStray, IsBadByte, IsFault}
use Rattle.c_lex.specs.declared.fault.LexFault.{LexFault}
use Rattle.c_lex.specs.declared.fault.LexFault.TheVariants as fault
use Rattle.c_lex.specs.declared.literal.Stage.TheVariants as stage
use Rattle.c_lex.specs.declared.piece.Piece.{Piece}
use Rattle.c_lex.specs.declared.piece.Piece.TheVariants as piece
use Rattle.c_lex.specs.Scanning.{begins, first_place, run_len, is_split, is_end, comment_piece, closed_piece, line_comment_piece, number_piece, sized, character_len, literal_len, is_trigraph, string_piece, mark_len, lacks_token, piece_of, turn, scan}
use Rattle.c_lex.proofs.Places.{begins_append, take_at, NoneAt, place_is, place_lacks, place_none, by_place}
use Rattle.c_lex.proofs.CommentLemmas.{inside_lacks, lacks_split, line_is}
use Rattle.c_lex.proofs.WordLemmas.{run_is, run_starts, mark_found, character_found, literal_is, literal_found, lacks_trigraph}
use Rattle.c_lex.proofs.PieceLaws.{digit_no_blank, digit_no_letter, digit_goes_on, space_some, piece_token}
use Rattle.c_lex.proofs.ScanLaws.{scan_space, scan_token, scan_finds, scan_turn}

-- a piece at which the scan stops
abbrev Stops : Piece → Type 0
Stops (piece.Space n) = ⊥
Stops (piece.Token kind n from len) = ⊥
Stops (piece.SplitEnd n) = Unit {0}
Stops piece.Open = Unit {0}
Stops piece.BadNumber = Unit {0}
Stops piece.BadByte = Unit {0}

stops_at : (p q : Piece) → q ≡ p → Stops p → Stops q
stops_at p q e h = subst Stops (sym e) h

-- ---- comments

no_end_at : (inside : Bytes) → LacksEnd inside → NoneAt is_end inside
no_end_at [] h = tt
no_end_at (b ∷ bs) h =
    (false_from_ne_true _ (λ t. h [] (drop 2 (b ∷ bs)) (begins_append (codes "*/") (b ∷ bs) t)), no_end_at bs (λ front back e. h (b ∷ front) back (ap (λ (y : Bytes). b ∷ y) e)))

open_stops : (before : Before) (inside : Bytes) → LacksEnd inside → piece_of before (codes "/*" ++ inside) ≡ piece.Open
unfolding piece_of
open_stops before inside l = ap (comment_piece (codes "/*" ++ inside)) (place_lacks is_end inside (no_end_at inside l))

split_stops : (before : Before) (inside rest front joins back : Bytes) → LacksEnd inside → codes "*" ++ inside ≡ front ++ (codes "*" ++ (joins ++ (codes "/" ++ back))) → AreJoins joins
    → Stops (piece_of before (codes "/*" ++ (inside ++ (codes "*/" ++ rest))))
unfolding piece_of
split_stops before inside rest front joins back l e j =
    let bytes : Bytes = codes "/*" ++ (inside ++ (codes "*/" ++ rest)) in
    let f : comment_piece bytes (first_place is_end (inside ++ (codes "*/" ++ rest))) ≡ comment_piece bytes (Some (length inside)) = ap (comment_piece bytes) (place_is is_end inside 42 (47 ∷ rest) (inside_lacks inside rest l) refl) in
    let cut : take (length inside + 1) (codes "*" ++ (inside ++ (codes "*/" ++ rest))) ≡ codes "*" ++ inside = take_at (length inside + 1) (codes "*" ++ (inside ++ (codes "*/" ++ rest))) (codes "*" ++ inside) (codes "*/" ++ rest) refl (omega arith) in
    by_place (first_place is_split (codes "*" ++ inside))
    (λ n. absurd (lacks_split (codes "*" ++ inside) (place_none is_split (codes "*" ++ inside) n) front joins back j e))
    (λ k s. stops_at (piece.SplitEnd (k + 1)) _ (f ∙ ap (closed_piece (length inside)) (ap (first_place is_split) cut ∙ s)) tt)

joined_stops : (before : Before) (inside rest : Bytes) → has_feed inside ≡ false → joins_next inside ≡ true → piece_of before (codes "//" ++ (inside ++ (codes "\n" ++ rest))) ≡ piece.BadByte
unfolding piece_of
joined_stops before inside rest h j =
    let low : length inside + 2 < length (codes "//" ++ (inside ++ (codes "\n" ++ rest))) = omega (arith, length-append inside (codes "\n" ++ rest)) in
    let t : nat_lt (length inside + 2) (length (codes "//" ++ (inside ++ (codes "\n" ++ rest)))) ≡ true = grind (arith, nat_tests) in
    let e : line_comment_piece (codes "//" ++ (inside ++ (codes "\n" ++ rest))) (length inside) ≡ piece.BadByte = rw (t, take-append_seam inside (codes "\n" ++ rest), j) refl in
    ap (line_comment_piece (codes "//" ++ (inside ++ (codes "\n" ++ rest)))) (line_is inside (codes "\n" ++ rest) h refl) ∙ e

-- ---- bytes

no_slash : (b : ℕ) (rest : Bytes) → IsLongest 0 (b ∷ rest) → eqb 47 b ≡ false
no_slash b rest h = false_from_ne_true _ (λ t. let low : 1 ≤ 0 = h (codes "/") rest refl (ap (λ (x : ℕ). x ∷ rest) (sym (eqb-true 47 b t))) in omega arith)

no_mark : (bytes : Bytes) → IsLongest 0 bytes → nat_lt 0 (mark_len bytes) ≡ false
no_mark bytes h = false_from_ne_true _ (λ t. let some : 0 < mark_len bytes = grind (arith, nat_tests) in let x = mark_found bytes some in omega (arith, h x.text x.rest x.is x.at, x.len))

word_parts : (b : ℕ) → is_word_byte b ≡ false → (is_letter b ≡ false) × (is_digit b ≡ false)
word_parts b h = by_answer (is_letter b) (λ t. let f : is_word_byte b ≡ true = rw t refl in absurd cc) (λ f. by_answer (is_digit b) (λ t. let g : is_word_byte b ≡ true = rw (f, t) refl in absurd cc) (λ g. (f, g)))

no_hash : (before : Before) (b : ℕ) → (b ≡ 35 → before ≡ Token) → ((b == 35) && lacks_token before) ≡ false
no_hash before b h = by_answer (b == 35)
    (λ t. let e : before ≡ Token = h (eqb-true b 35 t) in rw (t, e) refl)
    (λ f. rw f refl)

stray_stops : (before : Before) (b : ℕ) (rest : Bytes) → IsStray before b → IsLongest 0 (b ∷ rest) → piece_of before (b ∷ rest) ≡ piece.BadByte
unfolding piece_of
stray_stops before b rest s h =
    let f = no_slash b rest h in
    let c : begins (codes "/*") (b ∷ rest) ≡ false = rw f refl in
    let d : begins (codes "//") (b ∷ rest) ≡ false = rw f refl in
    let w = word_parts b s.no_word in
    let e : sized _ (mark_len (b ∷ rest)) ≡ piece.BadByte = rw (no_mark (b ∷ rest) h) refl in
    rw (c, d, s.no_blank, w.0, w.1, ne_eqb b 39 s.no_quote, ne_eqb b 34 s.no_double_quote, no_hash before b s.no_line) e

character_stops : (before : Before) (rest : Bytes) → ((text more : Bytes) → IsCharacter text → codes "'" ++ rest ≢ text ++ more) → piece_of before (codes "'" ++ rest) ≡ piece.BadByte
unfolding piece_of
character_stops before rest h =
    let f : nat_lt 0 (character_len (codes "'" ++ rest)) ≡ false = false_from_ne_true _ (λ t.
    let some : 0 < character_len (codes "'" ++ rest) = grind (arith, nat_tests) in
    let x = character_found (codes "'" ++ rest) refl some in h x.text x.rest x.is x.at) in
    let e : sized _ (character_len (codes "'" ++ rest)) ≡ piece.BadByte = rw f refl in
    e

string_stops : (before : Before) (rest : Bytes) → ((text more : Bytes) → IsLiteral text → rest ≢ text ++ more) → Stops (piece_of before (codes "\"" ++ rest))
unfolding piece_of
string_stops before rest h = by_place (literal_len stage.Inside rest)
    (λ n. stops_at piece.BadByte _ (ap (string_piece (codes "\"" ++ rest)) n) tt)
    (λ n e. let x = literal_found stage.Inside rest n e in absurd (h x.text x.rest x.is x.at))

trigraph_stops : (before : Before) (b : ℕ) (text rest front back : Bytes) → IsLiteral text → text ≡ front ++ (codes "??" ++ (b ∷ back)) → is_one_of (codes "=(/)'<!>-") b ≡ true → Stops (piece_of before (codes "\"" ++ (text ++ rest)))
unfolding piece_of
trigraph_stops before b text rest front back l e t = by_place (first_place is_trigraph text)
    (λ n. absurd (lacks_trigraph text (place_none is_trigraph text n) front back b t e))
    (λ k s.
    let f : string_piece (codes "\"" ++ (text ++ rest)) (Some (length text)) ≡ piece.BadByte = rw (take-append_seam text rest, s) refl in
    stops_at piece.BadByte _ (ap (string_piece (codes "\"" ++ (text ++ rest))) (literal_is l stage.Inside tt rest) ∙ f) tt)

bad_stops : {before : Before} {bytes : Bytes} → IsBadByte before bytes → Stops (piece_of before bytes)
bad_stops {before} (IsBadByte.stray {b} {rest} s h) = stops_at piece.BadByte _ (stray_stops before b rest s h) tt
bad_stops {before} (IsBadByte.character {rest} h) = stops_at piece.BadByte _ (character_stops before rest h) tt
bad_stops {before} (IsBadByte.string {rest} h) = string_stops before rest h
bad_stops {before} (IsBadByte.trigraph b text rest front back l e t) = trigraph_stops before b text rest front back l e t
bad_stops {before} (IsBadByte.joined inside rest h j) = stops_at piece.BadByte _ (joined_stops before inside rest h j) tt

bad_some : {before : Before} {bytes : Bytes} → IsBadByte before bytes → 0 < length bytes
bad_some (IsBadByte.stray s h) = omega arith
bad_some (IsBadByte.character h) = omega arith
bad_some (IsBadByte.string h) = omega arith
bad_some (IsBadByte.trigraph b text rest front back l e t) = omega arith
bad_some (IsBadByte.joined inside rest h j) = omega arith

no_constant : (o : Option IntType) → ((t : IntType) → o ≢ Some t) → is_some o ≡ false
no_constant None h = refl
no_constant (Some t) h = absurd (h t refl)

number_stops : (before : Before) (b : ℕ) (run rest : Bytes) → is_digit b ≡ true → IsRun number_goes_on b run rest → ¬ IsConstant (b ∷ run) → piece_of before (b ∷ (run ++ rest)) ≡ piece.BadNumber
unfolding piece_of
number_stops before b run rest h r n =
    let f : eqb 47 b ≡ false = false_from_ne_true _ (λ t. let e : is_digit 47 ≡ true = ap is_digit (eqb-true 47 b t) ∙ h in cc) in
    let c : begins (codes "/*") (b ∷ (run ++ rest)) ≡ false = rw f refl in
    let d : begins (codes "//") (b ∷ (run ++ rest)) ≡ false = rw f refl in
    let len : run_len number_goes_on 0 (b ∷ (run ++ rest)) ≡ length (b ∷ run) = run_starts number_goes_on 0 b (run ++ rest) (digit_goes_on b h) ∙ rw (run_is r) (omega arith) in
    let none : is_some (constant_type (b ∷ run)) ≡ false = no_constant (constant_type (b ∷ run)) (λ t e. n (t, e)) in
    let e : number_piece (b ∷ (run ++ rest)) (length (b ∷ run)) ≡ piece.BadNumber = rw (take-append_seam run rest, none) refl in
    rw (c, d, digit_no_blank b h, digit_no_letter b h, h, len) e

-- ---- the scan of what has a fault

abbrev Fails : Result Tokens LexFault → Type 0
Fails r = (x : LexFault) × (r ≡ Err x)

turn_fails : (p : Piece) (before : Before) (line : ℕ) (found : Tokens) (bytes : Bytes) (n : ℕ) → Stops p → Fails (turn p before line found bytes (scan n))
turn_fails (piece.Space k) before line found bytes n h = absurd h
turn_fails (piece.Token kind k from len) before line found bytes n h = absurd h
turn_fails (piece.SplitEnd k) before line found bytes n h = (fault.BadByte (line + line_feeds (take k bytes)), refl)
turn_fails piece.Open before line found bytes n h = (fault.OpenComment line, refl)
turn_fails piece.BadNumber before line found bytes n h = (fault.BadNumber line, refl)
turn_fails piece.BadByte before line found bytes n h = (fault.BadByte line, refl)

stop_fails : (before : Before) (line : ℕ) (found : Tokens) (bytes : Bytes) (n : ℕ) → 0 < length bytes → length bytes ≤ n → Stops (piece_of before bytes) → Fails (scan n before line found bytes)
stop_fails before line found bytes zero some enough h = absurd (omega arith)
stop_fails before line found bytes (suc n) some enough h =
    let x = turn_fails (piece_of before bytes) before line found bytes n h in
    (x.0, scan_turn n before line found bytes (piece_of before bytes) some refl ∙ x.1)

pub scan_fails : {before : Before} {line : ℕ} {bytes : Bytes} {x : LexFault} → IsFault before line bytes x → (n : ℕ) (found : Tokens) → length bytes ≤ n → Fails (scan n before line found bytes)
scan_fails (IsFault.bad_byte {before} {line} {bytes} h) n found enough = stop_fails before line found bytes n (bad_some h) enough (bad_stops h)
scan_fails (IsFault.split {before} {line} inside rest front joins back k l e j low) n found enough =
    stop_fails before line found (codes "/*" ++ (inside ++ (codes "*/" ++ rest))) n (omega arith) enough (split_stops before inside rest front joins back l e j)
scan_fails (IsFault.bad_number {before} {line} b run rest h r c) n found enough = stop_fails before line found (b ∷ (run ++ rest)) n (omega arith) enough (stops_at piece.BadNumber _ (number_stops before b run rest h r c) tt)
scan_fails (IsFault.open_comment {before} {line} {inside} l) n found enough = stop_fails before line found (codes "/*" ++ inside) n (omega arith) enough (stops_at piece.Open _ (open_stops before inside l) tt)
scan_fails (IsFault.space some rest s h) zero found enough = absurd (omega (arith, length-append some rest, space_some s))
scan_fails (IsFault.space {line = line} some rest s h) (suc n) found enough =
    let y = scan_fails h n found (omega (arith, length-append some rest, space_some s)) in (y.0, scan_space n line found s ∙ y.1)
scan_fails (IsFault.token own rest t h) zero found enough = absurd (omega (arith, length-append own rest, (piece_token t).some))
scan_fails (IsFault.token {line = line} {kind} {text} own rest t h) (suc n) found enough =
    let y = scan_fails h n (found ++ of_kind kind text line ∷ []) (omega (arith, length-append own rest, (piece_token t).some)) in (y.0, scan_token n line found t ∙ y.1)

-- a text has no tokens where it has a fault
pub fault_lacks : {before : Before} {line : ℕ} {bytes : Bytes} {x : LexFault} {ts : Tokens} → IsFault before line bytes x → IsTokens before line bytes ts → ⊥
fault_lacks {bytes = bytes} h k = let y = scan_fails h (length bytes) [] (omega arith) in let f = scan_finds k (length bytes) [] (omega arith) in let g = y.1 in absurd cc

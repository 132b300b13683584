-- What the definition of tokens gives, in plain words: one list a text, own bytes in order, lines, and the longest of each kind.
use Rattle.std.proofs.Common.{◌≡◌, ℕ, ◌+◌, ◌≤◌, [], ◌∷◌, ◌++◌, length, append_assoc, append-nil, refl, sym, ap, ◌∙◌, subst, arith, true, false, Bool, Some, Result, Ok, Err, codes, inl, inr}
use Rattle.std.proofs.lemmas.Bool.{eqb-true, not-true, false_from_ne_true, ne_eqb}
use Rattle.std.proofs.lemmas.Slice.Eq.{bytes_eq-Decides}
use Rattle.std.specs.Prelude.{◌⊎◌, not, bytes_eq}
use Rattle.c_language.specs.Words.{Bytes}
use Rattle.c_language.specs.Characters.{is_digit, is_letter}
use Rattle.c_language.specs.Constants.{is_escape}
use Rattle.c_language.specs.TokenForms.{Tokens, of_kind}
use Rattle.c_language.specs.Tokens.{is_plain, is_feed, has_feed, line_feeds, marks, is_mark, headers, is_header, IsGap, IsInclude, IsSpace, IsRun, IsCharacter, IsLiteral, IsTokenText, IsToken, IsTokens, AreTokensOf, AreRun}
use Rattle.c_language.specs.declared.token.TokenKind.{TokenKind}
use Rattle.c_language.specs.declared.token.Before.{Before}
use Rattle.c_language.specs.declared.token.Before.TheVariants.{Blank, Token}
use Rattle.c_lex.specs.declared.fault.LexFault.{LexFault}
use Rattle.c_lex.specs.declared.literal.Stage.TheVariants as stage
use Rattle.c_lex.specs.Faults.{IsFault}
use Rattle.c_lex.specs.Laws.{AreSpaces, AreSpread, HasForm}
use Rattle.c_lex.specs.Scanning.{character_len, literal_len, scan}
use Rattle.c_lex.proofs.CommentLemmas.{feed_parts, no_feed}
use Rattle.c_lex.proofs.WordLemmas.{character_is, literal_is}
use Rattle.c_lex.proofs.ScanLaws.{one_list, Scanned, scan_sound}
use Rattle.c_language.proofs.Lists.{any_passes, feeds-append, head_is, tail_is}

-- ---- a text has one list of tokens, or a fault

pub tokens_unique : (text : Bytes) (ts us : Tokens) → AreTokensOf text ts → AreTokensOf text us → ts ≡ us
tokens_unique text ts us h k = one_list h k

abbrev pub HasAnswer : Bytes → Type 0
HasAnswer text = ((ts : Tokens) × AreTokensOf text ts) ⊎ ((x : LexFault) × IsFault Blank 1 text x)

answer_of : (text : Bytes) (r : Result Tokens LexFault) → Scanned Blank 1 [] text r → HasAnswer text
answer_of text (Ok all) h = inl (h.0, h.2)
answer_of text (Err x) h = inr (x, h)

pub tokens_or_fault : (text : Bytes) → HasAnswer text
tokens_or_fault text = answer_of text (scan (length text) Blank 1 [] text) (scan_sound (length text) Blank 1 [] text (omega arith))

-- ---- a token holds no line feed

feed_append : (a b : Bytes) → has_feed a ≡ false → has_feed b ≡ false → has_feed (a ++ b) ≡ false
feed_append [] b h k = k
feed_append (x ∷ xs) b h k = let p = feed_parts x xs h in no_feed x (xs ++ b) p.0 (feed_append xs b p.1 k)

feeds_none : (bytes : Bytes) → has_feed bytes ≡ false → line_feeds bytes ≡ 0
feeds_none [] h = refl
feeds_none (b ∷ bs) h =
    let p = feed_parts b bs h in
    let e : line_feeds (b ∷ []) ≡ 0 = rw p.0 refl in
    omega (arith, feeds-append (b ∷ []) bs, e, feeds_none bs p.1)

-- a byte of a class without line feeds is none
not_feed : (class : ℕ → Bool) (b : ℕ) → class b ≡ true → class 10 ≡ false → is_feed b ≡ false
not_feed class b h k = false_from_ne_true _ (λ t. let e : class 10 ≡ true = ap class (sym (eqb-true b 10 t)) ∙ h in absurd cc)

run_feeds : {g : ℕ → ℕ → Bool} {b : ℕ} {run rest : Bytes} → ((a : ℕ) → g a 10 ≡ false) → IsRun g b run rest → has_feed run ≡ false
run_feeds n IsRun.ends_text = refl
run_feeds n (IsRun.ends h) = refl
run_feeds {g} n (IsRun.more {b} {c} {run} h r) = no_feed c run (not_feed (g b) c h (n b)) (run_feeds n r)

literal_feeds : {text : Bytes} → IsLiteral text → has_feed text ≡ false
literal_feeds IsLiteral.close = refl
literal_feeds (IsLiteral.plain {b} {more} h l) = no_feed b more (not_feed (is_plain 34) b h refl) (literal_feeds l)
literal_feeds (IsLiteral.escape {b} {more} h k l) = no_feed b more (not_feed is_escape b h refl) (literal_feeds l)

character_feeds : {text : Bytes} → IsCharacter text → has_feed text ≡ false
character_feeds (IsCharacter.plain {b} h) = no_feed b (codes "'") (not_feed (is_plain 39) b h refl) refl
character_feeds (IsCharacter.escape {b} h) = no_feed b (codes "'") (not_feed is_escape b h refl) refl

mark_feeds : (text : Bytes) → is_mark text ≡ true → has_feed text ≡ false
mark_feeds text h =
    let x = any_passes (bytes_eq text) (λ m. not (has_feed m)) marks h refl in
    ap has_feed ((bytes_eq-Decides text x.0).0 x.1) ∙ not-true (has_feed x.0) x.2

header_feeds : (text : Bytes) → is_header text ≡ true → has_feed text ≡ false
header_feeds text h =
    let x = any_passes (bytes_eq text) (λ m. not (has_feed m)) headers h refl in
    ap has_feed ((bytes_eq-Decides text x.0).0 x.1) ∙ not-true (has_feed x.0) x.2

gap_feeds : {gap : Bytes} → IsGap gap → has_feed gap ≡ false
gap_feeds IsGap.none = refl
gap_feeds (IsGap.blank {b} {more} h n g) = no_feed b more (ne_eqb b 10 n) (gap_feeds g)
gap_feeds (IsGap.comment {inside} {more} h l g) = feed_append inside (codes "*/" ++ more) h (gap_feeds g)

text_feeds : {kind : TokenKind} {text rest : Bytes} → IsTokenText kind text rest → has_feed text ≡ false
text_feeds (IsTokenText.name {b} {run} h r) = no_feed b run (not_feed is_letter b h refl) (run_feeds (λ a. refl) r)
text_feeds (IsTokenText.number {b} {run} h r k) = no_feed b run (not_feed is_digit b h refl) (run_feeds (λ a. refl) r)
text_feeds (IsTokenText.character c) = character_feeds c
text_feeds (IsTokenText.string l t) = literal_feeds l
text_feeds (IsTokenText.mark {text} l h longest) = mark_feeds text h

own_feeds : {before : Before} {kind : TokenKind} {own text rest : Bytes} → IsToken before kind own text rest → has_feed own ≡ false
own_feeds (IsToken.plain t) = text_feeds t
own_feeds (IsToken.include (IsInclude.include {gap} {next} {header} g k h) e) =
    feed_append gap (codes "include" ++ (next ++ header)) (gap_feeds g) (feed_append (codes "include") (next ++ header) refl (feed_append next header (gap_feeds k) (header_feeds header h)))
own_feeds (IsToken.directive h e l) = h
own_feeds (IsToken.directive_behind h e) = h

-- ---- the tokens are spread over the text

spaces_join : {before at after : Before} {gap bytes : Bytes} (some rest : Bytes) → AreSpaces before gap bytes at → bytes ≡ some ++ rest → IsSpace at rest some after → AreSpaces before (gap ++ some) rest after
spaces_join {before} {after = after} some rest AreSpaces.none e s = subst (λ (y : Bytes). AreSpaces before y rest after) (append-nil some) (AreSpaces.more s AreSpaces.none)
spaces_join {before} {after = after} some rest (AreSpaces.more {between = between} {some = first} {gap} t h) e s =
    subst (λ (y : Bytes). AreSpaces before y rest after) (sym (append_assoc first gap some))
    (AreSpaces.more (subst (λ (y : Bytes). IsSpace before y first between) (ap (λ (y : Bytes). gap ++ y) e ∙ sym (append_assoc gap some rest)) t) (spaces_join some rest h e s))

pub spread_behind : {at : Before} {line : ℕ} {bytes : Bytes} {ts : Tokens} (front gap : Bytes) → IsTokens at line bytes ts → (before : Before) → AreSpaces before gap bytes at → line ≡ 1 + line_feeds (front ++ gap) → AreSpread front (gap ++ bytes) ts
spread_behind front gap IsTokens.done before s e = subst (λ (y : Bytes). AreSpread front y []) (sym (append-nil gap)) (AreSpread.end s)
spread_behind front gap (IsTokens.space {line = line} {some} {rest} {ts} t h) before s e =
    let fed : line + line_feeds some ≡ 1 + line_feeds (front ++ (gap ++ some)) = omega (arith, e, ap line_feeds (sym (append_assoc front gap some)), feeds-append (front ++ gap) some) in
    subst (λ (y : Bytes). AreSpread front y ts) (append_assoc gap some rest) (spread_behind front (gap ++ some) h before (spaces_join some rest s refl t) fed)
spread_behind front gap (IsTokens.token {line = line} {kind} {own} {text} {rest} {ts} t h) before s e =
    let fed : line ≡ 1 + line_feeds ((front ++ (gap ++ own)) ++ []) =
    omega (arith, e, feeds_none own (own_feeds t), ap line_feeds (append-nil (front ++ (gap ++ own)) ∙ sym (append_assoc front gap own)), feeds-append (front ++ gap) own) in
    subst (λ (n : ℕ). AreSpread front (gap ++ (own ++ rest)) (of_kind kind text n ∷ ts)) (sym e) (AreSpread.next s t (spread_behind (front ++ (gap ++ own)) [] h Token AreSpaces.none fed))

pub spread : (text : Bytes) (ts : Tokens) → AreTokensOf text ts → AreSpread [] text ts
spread text ts h = spread_behind [] [] h Blank AreSpaces.none refl

-- ---- the longest of each kind

run_longest : {g : ℕ → ℕ → Bool} {b d : ℕ} {run rest other : Bytes} (back : Bytes) → IsRun g b run rest → AreRun g d other → b ≡ d → run ++ rest ≡ other ++ back → length other ≤ length run
run_longest back r AreRun.none same e = omega arith
run_longest back IsRun.ends_text (AreRun.more h k) same e = absurd cc
run_longest {g} back (IsRun.ends {b} {c} {rest} h) (AreRun.more {b = d} {c = x} {run} k l) same e =
    let f : g b c ≡ true = ap (λ (y : ℕ). g y c) same ∙ ap (g d) (head_is e) ∙ k in absurd cc
run_longest back (IsRun.more {b} {c} {run} {rest} h r) (AreRun.more {b = d} {c = x} {run = other} k l) same e =
    let low = run_longest back r l (head_is e) (tail_is e) in omega arith

pub longest : {kind : TokenKind} {text rest other : Bytes} (back : Bytes) → IsTokenText kind text rest → HasForm kind other → text ++ rest ≡ other ++ back → length other ≤ length text
longest back (IsTokenText.name {b} {run} {rest} h r) (HasForm.name {b = d} {run = other} k l) e =
    let low = run_longest back r l (head_is e) (tail_is e) in omega arith
longest back (IsTokenText.number {b} {run} {rest} h r t) (HasForm.number {b = d} {run = other} k l) e =
    let low = run_longest back r l (head_is e) (tail_is e) in omega arith
longest back (IsTokenText.character {text} {rest} c) (HasForm.character {text = other} d) e = omega (arith, character_is c rest, character_is d back, ap character_len e)
longest back (IsTokenText.string {more} {rest} l t) (HasForm.string {more = other} k) e =
    let a : literal_len stage.Inside (more ++ rest) ≡ Some (length more) = literal_is l stage.Inside tt rest in
    let b : literal_len stage.Inside (other ++ back) ≡ Some (length other) = literal_is k stage.Inside tt back in
    let f : literal_len stage.Inside (more ++ rest) ≡ literal_len stage.Inside (other ++ back) = ap (literal_len stage.Inside) (tail_is e) in
    let same : length more ≡ length other = cc in
    omega (arith, same)
longest back (IsTokenText.mark {text} {rest} l h most) (HasForm.mark {text = other} k) e = most other back k e

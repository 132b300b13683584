-- Includes and directives.
use Rattle.std.proofs.Common.{◌≡◌, ◌≢◌, ℕ, zero, suc, ◌+◌, ◌≤◌, ◌<◌, [], ◌∷◌, ◌++◌, length, length-append, drop, append_assoc, refl, sym, ap, ◌∙◌, subst, arith, true, false, Option, Some, None, inl, inr, codes}
use Rattle.std.proofs.lemmas.Bool.{and_parts, eqb-true, ne_eqb}
use Rattle.std.proofs.lemmas.Bool.Decides.{nat_tests}
use Rattle.std.proofs.Math.Seq.{drop-append_seam}
use Rattle.std.specs.Prelude.{◌⊎◌, nat_lt, bytes_eq}
use Rattle.std.proofs.lemmas.Slice.Eq.{bytes_eq-Decides}
use Rattle.c_language.specs.Words.{Bytes}
use Rattle.c_language.specs.Tokens.{is_blank, is_feed, has_feed, AtLineEnd, LacksEnd, IsGap, is_header, IsInclude, IsLineTail, EndsInclude, LacksInclude}
use Rattle.c_language.proofs.Tests.{by_answer, by_test}
use Rattle.c_lex.specs.Scanning.{first, begins, first_place, passed, is_end, is_end_or_feed, short_comment_len, gap_len, behind_gap, header_len, is_line_tail, is_header_last, header_from}
use Rattle.c_lex.proofs.Places.{begins_append, drop_at, place_is, place_found, passed_stop, passed_step, by_place}
use Rattle.c_lex.proofs.CommentLemmas.{inside_lacks, lacks_end, short_lacks, short_parts}

-- ---- gaps

blank_gap : (b : ℕ) (rest : Bytes) → is_blank b ≡ true → b ≢ 10 → gap_len (b ∷ rest) ≡ 1
blank_gap b rest h n = rw (h, ne_eqb b 10 n) refl

comment_joins : (inside more rest : Bytes) → (codes "/*" ++ (inside ++ (codes "*/" ++ more))) ++ rest ≡ codes "/*" ++ (inside ++ (codes "*/" ++ (more ++ rest)))
comment_joins inside more rest = ap (λ (x : Bytes). 47 ∷ 42 ∷ x) (append_assoc inside (codes "*/" ++ more) rest)

comment_gap : (inside rest : Bytes) → has_feed inside ≡ false → LacksEnd inside → gap_len (codes "/*" ++ (inside ++ (codes "*/" ++ rest))) ≡ length inside + 4
comment_gap inside rest h l =
    let e = place_is is_end_or_feed inside 42 (47 ∷ rest) (short_lacks inside (codes "*/" ++ rest) (inside_lacks inside rest l) h) refl in
    ap (short_comment_len (codes "/*" ++ (inside ++ (codes "*/" ++ rest)))) e ∙ rw (drop-append_seam inside (codes "*/" ++ rest)) refl

drop_comment : (inside rest : Bytes) → drop (length inside + 4) (codes "/*" ++ (inside ++ (codes "*/" ++ rest))) ≡ rest
drop_comment inside rest =
    let e : length inside + 4 ≡ length (codes "/*" ++ (inside ++ codes "*/")) = omega (arith, length-append inside (codes "*/")) in
    let f : codes "/*" ++ (inside ++ (codes "*/" ++ rest)) ≡ (codes "/*" ++ (inside ++ codes "*/")) ++ rest = ap (λ (x : Bytes). 47 ∷ 42 ∷ x) (sym (append_assoc inside (codes "*/") rest)) in
    rw (e, f) (drop-append_seam (codes "/*" ++ (inside ++ codes "*/")) rest)

pub gap_passed : {gap : Bytes} → IsGap gap → (n : ℕ) (rest : Bytes) → length gap ≤ n → gap_len rest ≡ 0 → passed gap_len n (gap ++ rest) ≡ rest
gap_passed IsGap.none n rest enough stop = passed_stop gap_len n rest stop
gap_passed (IsGap.blank h k g) zero rest enough stop = absurd (omega arith)
gap_passed (IsGap.blank {b} {more} h k g) (suc n) rest enough stop =
    passed_step gap_len n (b ∷ (more ++ rest)) ∙ rw (blank_gap b (more ++ rest) h k) (gap_passed g n rest (omega arith) stop)
gap_passed (IsGap.comment h l g) zero rest enough stop = absurd (omega arith)
gap_passed (IsGap.comment {inside} {more} h l g) (suc n) rest enough stop =
    ap (passed gap_len (suc n)) (comment_joins inside more rest)
    ∙ passed_step gap_len n (codes "/*" ++ (inside ++ (codes "*/" ++ (more ++ rest))))
    ∙ rw (comment_gap inside (more ++ rest) h l, drop_comment inside (more ++ rest)) (gap_passed g n rest (omega (arith, length-append inside (codes "*/" ++ more))) stop)

pub gap_behind : {gap : Bytes} → IsGap gap → (rest : Bytes) → gap_len rest ≡ 0 → behind_gap (gap ++ rest) ≡ rest
gap_behind {gap} g rest stop = gap_passed g (length (gap ++ rest)) rest (omega (arith, length-append gap rest)) stop

-- a gap at the front that is as long as gap_len says
pub record GapAt (bytes : Bytes) : Type 0 where
  pub gap : Bytes
  pub at : bytes ≡ gap ++ drop (gap_len bytes) bytes
  pub len : length gap ≡ gap_len bytes
  pub joins : (more : Bytes) → IsGap more → IsGap (gap ++ more)

no_gap : (bytes : Bytes) → gap_len bytes ≡ 0 → GapAt bytes
no_gap bytes h = record { gap = []; at = rw h refl; len = sym h; joins = λ more g. g }

whole_comment : (inside rest : Bytes) → has_feed inside ≡ false → LacksEnd inside → GapAt (codes "/*" ++ (inside ++ (codes "*/" ++ rest)))
whole_comment inside rest h l = record {
  gap = codes "/*" ++ (inside ++ codes "*/");
  at = rw (comment_gap inside rest h l, drop_comment inside rest) (ap (λ (x : Bytes). 47 ∷ 42 ∷ x) (sym (append_assoc inside (codes "*/") rest)));
  len = omega (arith, comment_gap inside rest h l, length-append inside (codes "*/"));
  joins = λ more g. subst IsGap (ap (λ (x : Bytes). 47 ∷ 42 ∷ x) (sym (append_assoc inside (codes "*/") more))) (IsGap.comment h l g);
}

by_place_of : {G : Type 0} (o : Option Bytes) → (o ≡ None → G) → ((bytes : Bytes) → o ≡ Some bytes → G) → G
by_place_of None none some = none refl
by_place_of (Some bytes) none some = some bytes refl

comment_from : (more : Bytes) → GapAt (codes "/*" ++ more)
comment_from more = by_place (first_place is_end_or_feed more)
    (λ e. no_gap (codes "/*" ++ more) (rw e refl))
    (λ n e. by_answer (is_end (drop n more))
    (λ t.
    let x = place_found is_end_or_feed more n e in
    let d : drop n more ≡ x.head ∷ x.tail = drop_at n more x.inside (x.head ∷ x.tail) x.at x.len in
    let i : is_end (x.head ∷ x.tail) ≡ true = ap is_end (sym d) ∙ t in
    let p = short_parts x.inside (x.head ∷ x.tail) x.none in
    let r : x.head ∷ x.tail ≡ codes "*/" ++ drop 2 (x.head ∷ x.tail) = begins_append (codes "*/") (x.head ∷ x.tail) i in
    subst (λ (y : Bytes). GapAt (codes "/*" ++ y)) (sym (x.at ∙ ap (λ (y : Bytes). x.inside ++ y) r)) (whole_comment x.inside (drop 2 (x.head ∷ x.tail)) p.1 (lacks_end x.inside (x.head ∷ x.tail) p.0)))
    (λ f. no_gap (codes "/*" ++ more) (rw (e, f) refl)))

comment_at : (bytes : Bytes) → begins (codes "/*") bytes ≡ true → GapAt bytes
comment_at bytes h = subst GapAt (sym (begins_append (codes "/*") bytes h)) (comment_from (drop 2 bytes))

not_feed : (b : ℕ) → is_feed b ≡ false → b ≢ 10
not_feed b f e = let g : is_feed 10 ≡ false = subst (λ (x : ℕ). is_feed x ≡ false) e f in absurd cc

blank_at : (bytes : Bytes) → is_blank (first bytes) ≡ true → is_feed (first bytes) ≡ false → GapAt bytes
blank_at [] h f = absurd cc
blank_at (b ∷ bs) h f = record { gap = b ∷ []; at = rw (blank_gap b bs h (not_feed b f)) refl; len = sym (blank_gap b bs h (not_feed b f)); joins = λ more g. IsGap.blank h (not_feed b f) g }

gap_at : (bytes : Bytes) → GapAt bytes
gap_at bytes = by_answer (is_blank (first bytes))
    (λ t. by_answer (is_feed (first bytes)) (λ f. no_gap bytes (rw (t, f) refl)) (λ f. blank_at bytes t f))
    (λ n. by_answer (begins (codes "/*") bytes) (λ t. comment_at bytes t) (λ f. no_gap bytes (rw (n, f) refl)))

pub gap_within : (bytes : Bytes) → gap_len bytes ≤ length bytes
gap_within bytes = let x = gap_at bytes in omega (arith, ap length x.at, length-append x.gap (drop (gap_len bytes) bytes), x.len)

-- what is passed is a gap
pub gap_found : (n : ℕ) (bytes : Bytes) → (gap : Bytes) × IsGap gap × (bytes ≡ gap ++ passed gap_len n bytes)
unfolding passed
gap_found zero bytes = ([], IsGap.none, refl)
gap_found (suc n) bytes =
    let x = gap_at bytes in
    let y = gap_found n (drop (gap_len bytes) bytes) in
    (x.gap ++ y.0, x.joins y.0 y.1, x.at ∙ ap (λ (z : Bytes). x.gap ++ z) y.2 ∙ sym (append_assoc x.gap y.0 _))

-- ---- includes

-- a header's name begins no gap, and has its length at the front
pub record HeaderIs (header : Bytes) : Type 0 where
  pub len : (rest : Bytes) → header_len (header ++ rest) ≡ length header
  pub stop : (rest : Bytes) → gap_len (header ++ rest) ≡ 0
  pub some : 0 < length header

header_cases : (header : Bytes) → is_header header ≡ true → (header ≡ codes "<stdio.h>") ⊎ (header ≡ codes "<stdlib.h>")
header_cases header h = by_answer (bytes_eq header (codes "<stdio.h>"))
    (λ t. inl ((bytes_eq-Decides header (codes "<stdio.h>")).0 t))
    (λ f. by_answer (bytes_eq header (codes "<stdlib.h>"))
    (λ t. inr ((bytes_eq-Decides header (codes "<stdlib.h>")).0 t))
    (λ g. let no : is_header header ≡ false = rw (f, g) refl in absurd cc))

pub header_is : (header : Bytes) → is_header header ≡ true → HeaderIs header
header_is header h = elim (header_cases header h) [
  | inl e ↦ subst HeaderIs (sym e) (record { len = λ rest. refl; stop = λ rest. refl; some = omega arith })
  | inr e ↦ subst HeaderIs (sym e) (record { len = λ rest. refl; stop = λ rest. refl; some = omega arith })
]

pub header_found : (bytes : Bytes) → 0 < header_len bytes → (header : Bytes) × (is_header header ≡ true) × (bytes ≡ header ++ drop (header_len bytes) bytes)
header_found bytes some = by_answer (begins (codes "<stdio.h>") bytes)
    (λ t. (codes "<stdio.h>", refl, rw t (begins_append (codes "<stdio.h>") bytes t)))
    (λ f. by_answer (begins (codes "<stdlib.h>") bytes)
    (λ t. (codes "<stdlib.h>", refl, rw (f, t) (begins_append (codes "<stdlib.h>") bytes t)))
    (λ g. let none : header_len bytes ≡ 0 = rw (f, g) refl in absurd (omega arith)))

ended : (rest : Bytes) → AtLineEnd rest → (is_line_tail rest ≡ true) × (gap_len rest ≡ 0)
ended [] h = (refl, refl)
ended (b ∷ bs) h = (rw h refl, rw h refl)

line_tail : {tail : Bytes} → IsLineTail tail → (is_line_tail tail ≡ true) × (gap_len tail ≡ 0)
line_tail (IsLineTail.ends {rest} h) = ended rest h
line_tail IsLineTail.comment = (refl, refl)

line_tail_found : (bytes : Bytes) → is_line_tail bytes ≡ true → IsLineTail bytes
line_tail_found [] h = IsLineTail.ends tt
line_tail_found (b ∷ bs) h = by_answer (is_feed b)
    (λ t. IsLineTail.ends (eqb-true b 10 t))
    (λ f. by_answer (begins (codes "//") (b ∷ bs))
    (λ t. subst IsLineTail (sym (begins_append (codes "//") (b ∷ bs) t)) IsLineTail.comment)
    (λ g. let no : is_line_tail (b ∷ bs) ≡ false = rw (f, g) refl in absurd cc))

-- where what follows a `#` is an include, its header is found
module _ (gap next header rest : Bytes) (g : IsGap gap) (k : IsGap next) (h : is_header header ≡ true) (e : EndsInclude rest) where
  named : behind_gap (gap ++ (codes "include" ++ (next ++ (header ++ rest)))) ≡ codes "include" ++ (next ++ (header ++ rest))
  named = gap_behind g (codes "include" ++ (next ++ (header ++ rest))) refl

  at_header : behind_gap (next ++ (header ++ rest)) ≡ header ++ rest
  at_header = gap_behind k (header ++ rest) ((header_is header h).stop rest)

  at_tail : behind_gap rest ≡ e.1
  at_tail = ap behind_gap e.4 ∙ gap_behind e.2 e.1 (line_tail e.3).1

  ends_so : is_line_tail (behind_gap (drop (header_len (header ++ rest)) (header ++ rest))) ≡ true
  ends_so = ap (λ (y : Bytes). is_line_tail (behind_gap y)) (drop_at (header_len (header ++ rest)) (header ++ rest) header rest refl (sym ((header_is header h).len rest))) ∙ ap is_line_tail at_tail ∙ (line_tail e.3).0

  has_header : nat_lt 0 (header_len (header ++ rest)) ≡ true
  has_header = let x = header_is header h in let l : 0 < header_len (header ++ rest) = omega (arith, x.len rest, x.some) in grind (arith, nat_tests)

  pub include_is : header_from (behind_gap (gap ++ (codes "include" ++ (next ++ (header ++ rest))))) ≡ Some (header ++ rest)
  include_is = ap header_from named ∙ rw (at_header, has_header, ends_so) refl

-- the include that is found by its header
pub record IncludeAt (bytes : Bytes) (named : Bytes) : Type 0 where
  pub header : Bytes
  pub own : Bytes
  pub rest : Bytes
  pub at : codes "#" ++ bytes ≡ own ++ rest
  pub is : IsInclude header own
  pub ends : EndsInclude rest
  pub from : Bytes
  pub own_is : own ≡ from ++ header
  pub named_is : named ≡ header ++ rest
  pub len : header_len named ≡ length header

record NamedIs (named : Bytes) : Type 0 where
  header : Bytes
  rest : Bytes
  is : is_header header ≡ true
  at : named ≡ header ++ rest
  ends : EndsInclude rest

some_header : (named : Bytes) → nat_lt 0 (header_len named) ≡ true → 0 < header_len named
some_header named h = grind (arith, nat_tests)

named_found : (named : Bytes) → is_header_last named ≡ true → NamedIs named
named_found named h =
    let p : (nat_lt 0 (header_len named) ≡ true) × (is_line_tail (behind_gap (drop (header_len named) named)) ≡ true) = and_parts _ _ h in
    let w = header_found named (some_header named p.0) in
    let g = gap_found (length (drop (header_len named) named)) (drop (header_len named) named) in
    record {
      header = w.0;
      rest = drop (header_len named) named;
      is = w.1;
      at = w.2;
      ends = (g.0, behind_gap (drop (header_len named) named), g.1, line_tail_found (behind_gap (drop (header_len named) named)) p.1, g.2);
    }

four_join : (gap word next header rest : Bytes) → (gap ++ (word ++ (next ++ header))) ++ rest ≡ gap ++ (word ++ (next ++ (header ++ rest)))
four_join gap word next header rest = append_assoc gap (word ++ (next ++ header)) rest ∙ ap (λ (y : Bytes). gap ++ y) (append_assoc word (next ++ header) rest ∙ ap (λ (y : Bytes). word ++ y) (append_assoc next header rest))

three_join : (gap word next header : Bytes) → gap ++ (word ++ (next ++ header)) ≡ (gap ++ (word ++ next)) ++ header
three_join gap word next header = sym (append_assoc gap (word ++ next) header ∙ ap (λ (y : Bytes). gap ++ y) (append_assoc word next header))

assembled : (gap next bytes a b named : Bytes) → IsGap gap → IsGap next → bytes ≡ gap ++ a → a ≡ codes "include" ++ b → b ≡ next ++ named → NamedIs named → IncludeAt bytes named
assembled gap next bytes a b called g k e f i x = record {
  header = x.header;
  own = codes "#" ++ (gap ++ (codes "include" ++ (next ++ x.header)));
  rest = x.rest;
  at = ap (λ (y : Bytes). 35 ∷ y)
      (e ∙ ap (λ (y : Bytes). gap ++ y) (f ∙ ap (λ (y : Bytes). codes "include" ++ y) (i ∙ ap (λ (y : Bytes). next ++ y) x.at)) ∙ sym (four_join gap (codes "include") next x.header x.rest));
  is = IsInclude.include g k x.is;
  ends = x.ends;
  from = codes "#" ++ (gap ++ (codes "include" ++ next));
  own_is = ap (λ (y : Bytes). 35 ∷ y) (three_join gap (codes "include") next x.header);
  named_is = x.at;
  len = ap header_len x.at ∙ (header_is x.header x.is).len x.rest;
}

pub include_found : (bytes named : Bytes) → header_from (behind_gap bytes) ≡ Some named → IncludeAt bytes named
include_found bytes named h = by_test (begins (codes "include") (behind_gap bytes)) h
    (λ t e. by_test (is_header_last (behind_gap (drop 7 (behind_gap bytes)))) e
    (λ u same.
    let same_ : behind_gap (drop 7 (behind_gap bytes)) ≡ named = cc in
    let x = gap_found (length bytes) bytes in
    let y = gap_found (length (drop 7 (behind_gap bytes))) (drop 7 (behind_gap bytes)) in
    subst (IncludeAt bytes) same_
    (assembled x.0 y.0 bytes (behind_gap bytes) (drop 7 (behind_gap bytes)) (behind_gap (drop 7 (behind_gap bytes))) x.1 y.1 x.2 (begins_append (codes "include") (behind_gap bytes) t) y.2 (named_found (behind_gap (drop 7 (behind_gap bytes))) u)))
    (λ _ same. absurd cc))
    (λ _ same. absurd cc)

include_of : {header own : Bytes} → IsInclude header own → (rest : Bytes) → EndsInclude rest → (bytes : Bytes) → codes "#" ++ bytes ≡ own ++ rest → header_from (behind_gap bytes) ≡ Some (header ++ rest)
include_of (IsInclude.include {gap} {next} {header} g k h) rest e bytes at =
    let f : bytes ≡ gap ++ (codes "include" ++ (next ++ (header ++ rest))) = ap (λ (y : Bytes). drop 1 y) at ∙ four_join gap (codes "include") next header rest in
    ap (λ (y : Bytes). header_from (behind_gap y)) f ∙ include_is gap next header rest g k h e

-- where no header is found, it is no include
pub include_lacks : (bytes : Bytes) → header_from (behind_gap bytes) ≡ None → LacksInclude (codes "#" ++ bytes)
include_lacks bytes h header own rest is ends at = let f = include_of is rest ends bytes at in absurd cc

pub include_none : (bytes : Bytes) → LacksInclude (codes "#" ++ bytes) → header_from (behind_gap bytes) ≡ None
include_none bytes h = by_place_of (header_from (behind_gap bytes)) (λ e. e) (λ named e. let x = include_found bytes named e in absurd (h x.header x.own x.rest x.is x.ends x.at))

-- the lengths of an include, by what stands from its header on
pub record IncludeLens (header own rest : Bytes) : Type 0 where
  pub at : header_from (behind_gap (drop 1 (own ++ rest))) ≡ Some (header ++ rest)
  pub len : header_len (header ++ rest) ≡ length header
  pub from : Bytes
  pub own_is : own ≡ from ++ header
  pub hash : first (own ++ rest) ≡ 35
  pub some : 0 < length own

pub include_lens : {header own : Bytes} → IsInclude header own → (rest : Bytes) → EndsInclude rest → IncludeLens header own rest
include_lens (IsInclude.include {gap} {next} {header} g k h) rest e = record {
  at = include_of (IsInclude.include g k h) rest e ((gap ++ (codes "include" ++ (next ++ header))) ++ rest) refl;
  len = (header_is header h).len rest;
  from = codes "#" ++ (gap ++ (codes "include" ++ next));
  own_is = ap (λ (y : Bytes). 35 ∷ y) (three_join gap (codes "include") next header);
  hash = refl;
  some = omega arith;
}

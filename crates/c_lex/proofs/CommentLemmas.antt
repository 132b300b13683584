-- Comments: where they end, and the splits in them.
use Rattle.std.proofs.Common.{◌≡◌, ℕ, zero, suc, ◌≤◌, ◌<◌, [], ◌∷◌, ◌++◌, length, length-append, drop, append_assoc, append-nil, refl, sym, ap, ◌∙◌, subst, arith, true, false, eqb, inl, inr, codes}
use Rattle.std.proofs.lemmas.Bool.{and_parts, cases_Bool, eqb-true, or_parts, false_from_ne_true}
use Rattle.std.proofs.lemmas.Bool.Decides.{nat_tests}
use Rattle.std.proofs.Math.Numerals.{one-add}
use Rattle.std.proofs.Math.Seq.{drop-append_seam}
use Rattle.std.specs.Prelude.{◌==◌, nat_lt}
use Rattle.c_language.specs.Words.{Bytes}
use Rattle.c_language.specs.Tokens.{is_feed, has_feed, line_feeds, AtLineEnd, IsJoin, AreJoins, LacksSplitEnd, LacksEnd}
use Rattle.c_language.proofs.Tests.{by_answer}
use Rattle.c_lex.specs.Scanning.{first, passed, begins, line_len, join_len, behind_joins, is_split, is_end, is_end_or_feed}
use Rattle.c_lex.proofs.Places.{begins_append, NoneIn, NoneAt, passed_stop, passed_step}
use Rattle.c_language.proofs.Lists.{feeds-append}

-- ---- the end of a comment

lacks_more : (b : ℕ) (bs : Bytes) → LacksEnd (b ∷ bs) → LacksEnd bs
lacks_more b bs h = λ front back e. h (b ∷ front) back (ap (λ (x : Bytes). b ∷ x) e)

last_no_end : (b : ℕ) (rest : Bytes) → is_end (b ∷ 42 ∷ rest) ≡ false
last_no_end b rest = elim (cases_Bool (eqb 42 b)) [ inl t ↦ rw t refl | inr f ↦ rw f refl ]

no_end : (b d : ℕ) (ds rest : Bytes) → LacksEnd (b ∷ d ∷ ds) → is_end (b ∷ d ∷ rest) ≡ false
no_end b d ds rest h = false_from_ne_true _ (λ t.
    let p = and_parts _ _ t in
    let x : 42 ≡ b = eqb-true 42 b p.0 in
    let y : 47 ≡ d = eqb-true 47 d (and_parts _ _ p.1).0 in
    h [] ds (ap (λ (c : ℕ). c ∷ d ∷ ds) (sym x) ∙ ap (λ (c : ℕ). 42 ∷ c ∷ ds) (sym y)))

-- no end stands in the inside of a comment
pub inside_lacks : (inside rest : Bytes) → LacksEnd inside → NoneIn is_end inside (codes "*/" ++ rest)
inside_lacks [] rest h = tt
inside_lacks (b ∷ []) rest h = (last_no_end b (47 ∷ rest), tt)
inside_lacks (b ∷ d ∷ ds) rest h = (no_end b d ds (ds ++ (codes "*/" ++ rest)) h, inside_lacks (d ∷ ds) rest (lacks_more b (d ∷ ds) h))

pub lacks_end : (inside rest : Bytes) → NoneIn is_end inside rest → LacksEnd inside
lacks_end [] rest h [] back e = absurd cc
lacks_end [] rest h (f ∷ front) back e = absurd cc
lacks_end (b ∷ bs) rest h [] back e = let f : is_end (codes "*/" ++ (back ++ rest)) ≡ false = subst (λ (y : Bytes). is_end (y ++ rest) ≡ false) e h.0 in cc
lacks_end (b ∷ bs) rest h (f ∷ front) back e = lacks_end bs rest h.1 front back (ap (λ (x : Bytes). drop 1 x) e)

pub lacks_end_at : (inside : Bytes) → NoneAt is_end inside → LacksEnd inside
lacks_end_at [] h [] back e = absurd cc
lacks_end_at [] h (f ∷ front) back e = absurd cc
lacks_end_at (b ∷ bs) h [] back e = let f : is_end (codes "*/" ++ back) ≡ false = subst (λ (y : Bytes). is_end y ≡ false) e h.0 in cc
lacks_end_at (b ∷ bs) h (f ∷ front) back e = lacks_end_at bs h.1 front back (ap (λ (x : Bytes). drop 1 x) e)

-- ---- the end of a comment in its line

pub feed_parts : (b : ℕ) (bs : Bytes) → has_feed (b ∷ bs) ≡ false → (is_feed b ≡ false) × (has_feed bs ≡ false)
feed_parts b bs h = by_answer (is_feed b)
    (λ t. let f : has_feed (b ∷ bs) ≡ true = rw t refl in cc)
    (λ f. let g : has_feed (b ∷ bs) ≡ has_feed bs = rw f refl in (f, sym g ∙ h))

pub no_feed : (b : ℕ) (bs : Bytes) → is_feed b ≡ false → has_feed bs ≡ false → has_feed (b ∷ bs) ≡ false
no_feed b bs f h = rw (f, h) refl

pub short_lacks : (inside rest : Bytes) → NoneIn is_end inside rest → has_feed inside ≡ false → NoneIn is_end_or_feed inside rest
short_lacks [] rest h f = tt
short_lacks (b ∷ bs) rest h f = let p = feed_parts b bs f in (rw (h.0, p.0) refl, short_lacks bs rest h.1 p.1)

pub short_parts : (inside rest : Bytes) → NoneIn is_end_or_feed inside rest → NoneIn is_end inside rest × (has_feed inside ≡ false)
short_parts [] rest h = (tt, refl)
short_parts (b ∷ bs) rest h =
    let p = or_parts _ _ h.0 in
    let q = short_parts bs rest h.1 in
    ((p.0, q.0), no_feed b bs p.1 q.1)

-- ---- joined line ends

join_is : {join : Bytes} → IsJoin join → (rest : Bytes) → join_len (join ++ rest) ≡ length join
join_is IsJoin.backslash rest = refl
join_is IsJoin.trigraph rest = refl

join_some : {join : Bytes} → IsJoin join → 0 < length join
join_some IsJoin.backslash = omega arith
join_some IsJoin.trigraph = omega arith

join_feeds : {join : Bytes} → IsJoin join → (rest : Bytes) → line_feeds (join ++ rest) ≡ suc (line_feeds rest)
join_feeds IsJoin.backslash rest = feeds-append (codes "\\\n") rest ∙ one-add (line_feeds rest)
join_feeds IsJoin.trigraph rest = feeds-append (codes "??/\n") rest ∙ one-add (line_feeds rest)

pub joins_feeds : {joins : Bytes} → AreJoins joins → 0 < line_feeds joins
joins_feeds (AreJoins.one {join} h) = let e = join_feeds h [] in let f : line_feeds join ≡ line_feeds (join ++ []) = ap line_feeds (sym (append-nil join)) in omega (arith, e, f)
joins_feeds (AreJoins.more {join} {joins} h hs) = omega (arith, join_feeds h joins)

join_front : {join : Bytes} → IsJoin join → (n : ℕ) (rest : Bytes) → passed join_len (suc n) (join ++ rest) ≡ passed join_len n rest
join_front {join} h n rest = passed_step join_len n (join ++ rest) ∙ ap (passed join_len n) (rw (join_is h rest) (drop-append_seam join rest))

pub joins_passed : {joins : Bytes} → AreJoins joins → (n : ℕ) (rest : Bytes) → length joins ≤ n → join_len rest ≡ 0 → passed join_len n (joins ++ rest) ≡ rest
joins_passed (AreJoins.one h) zero rest enough stop = absurd (omega (arith, join_some h))
joins_passed (AreJoins.one h) (suc n) rest enough stop = join_front h n rest ∙ passed_stop join_len n rest stop
joins_passed (AreJoins.more {join} {joins} h hs) zero rest enough stop = absurd (omega (arith, join_some h, length-append join joins))
joins_passed (AreJoins.more {join} {joins} h hs) (suc n) rest enough stop =
    ap (passed join_len (suc n)) (append_assoc join joins rest) ∙ join_front h n (joins ++ rest) ∙ joins_passed hs n rest (omega (arith, join_some h, length-append join joins)) stop

pub joins_begin : {joins : Bytes} → AreJoins joins → (rest : Bytes) → 0 < join_len (joins ++ rest)
joins_begin (AreJoins.one h) rest = let e = join_is h rest in omega (arith, e, join_some h)
joins_begin (AreJoins.more {join} {joins} h hs) rest = let e = join_is h (joins ++ rest) in let f = ap join_len (append_assoc join joins rest) in omega (arith, e, f, join_some h)

-- a joined line end at the front
pub record JoinAt (bytes : Bytes) : Type 0 where
  pub join : Bytes
  pub is : IsJoin join
  pub at : bytes ≡ join ++ drop (join_len bytes) bytes

join_found : (bytes : Bytes) → 0 < join_len bytes → JoinAt bytes
join_found bytes some = by_answer (begins (codes "\\\n") bytes)
    (λ t. record { join = codes "\\\n"; is = IsJoin.backslash; at = rw t (begins_append (codes "\\\n") bytes t) })
    (λ f. by_answer (begins (codes "??/\n") bytes)
    (λ t. record { join = codes "??/\n"; is = IsJoin.trigraph; at = rw (f, t) (begins_append (codes "??/\n") bytes t) })
    (λ g. let none : join_len bytes ≡ 0 = rw (f, g) refl in absurd (omega arith)))

-- what is passed are joined line ends, or nothing
pub record JoinsAt (n : ℕ) (bytes : Bytes) : Type 0 where
  pub joins : Bytes
  pub at : bytes ≡ joins ++ passed join_len n bytes
  pub are : (0 < length joins → AreJoins joins)

with_join : {join : Bytes} (joins : Bytes) → IsJoin join → (0 < length joins → AreJoins joins) → AreJoins (join ++ joins)
with_join {join} [] h hs = subst AreJoins (sym (append-nil join)) (AreJoins.one h)
with_join (b ∷ bs) h hs = AreJoins.more h (hs (omega arith))

joins_found : (n : ℕ) (bytes : Bytes) → JoinsAt n bytes
unfolding passed
joins_found zero bytes = record { joins = []; at = refl; are = λ some. absurd (omega arith) }
joins_found (suc n) bytes = by_answer (nat_lt 0 (join_len bytes))
    (λ t.
    let x = join_found bytes (grind (arith, nat_tests)) in
    let y = joins_found n (drop (join_len bytes) bytes) in
    record { joins = x.join ++ y.joins; at = x.at ∙ ap (λ (z : Bytes). x.join ++ z) y.at ∙ sym (append_assoc x.join y.joins _); are = λ _. with_join y.joins x.is y.are })
    (λ f. let none : join_len bytes ≡ 0 = grind (arith, nat_tests) in record { joins = []; at = sym (rw none (passed_stop join_len n bytes none)); are = λ some. absurd (omega arith) })

-- ---- splits

pub record SplitAt (bytes : Bytes) : Type 0 where
  pub joins : Bytes
  pub back : Bytes
  pub are : AreJoins joins
  pub at : bytes ≡ codes "*" ++ (joins ++ (codes "/" ++ back))

pub first_is : (c : ℕ) (bytes : Bytes) → eqb 0 c ≡ false → (first bytes == c) ≡ true → bytes ≡ c ∷ drop 1 bytes
first_is c [] some h = absurd cc
first_is c (b ∷ bs) some h = ap (λ (x : ℕ). x ∷ bs) (eqb-true b c h)

joins_not_none : (bytes joins back : Bytes) → nat_lt 0 (join_len bytes) ≡ true → bytes ≡ joins ++ (47 ∷ back) → 0 < length joins
joins_not_none bytes [] back h e = let f : nat_lt 0 (join_len (47 ∷ back)) ≡ true = subst (λ (y : Bytes). nat_lt 0 (join_len y) ≡ true) e h in absurd cc
joins_not_none bytes (j ∷ js) back h e = omega arith

pub split_found : (bytes : Bytes) → is_split bytes ≡ true → SplitAt bytes
split_found bytes h =
    let p = and_parts _ _ h in
    let q = and_parts _ _ p.1 in
    let x = joins_found (length (drop 1 bytes)) (drop 1 bytes) in
    let slash : behind_joins (drop 1 bytes) ≡ 47 ∷ drop 1 (behind_joins (drop 1 bytes)) = first_is 47 (behind_joins (drop 1 bytes)) refl q.1 in
    record {
      joins = x.joins;
      back = drop 1 (behind_joins (drop 1 bytes));
      are = x.are (joins_not_none (drop 1 bytes) x.joins (drop 1 (behind_joins (drop 1 bytes))) q.0 (x.at ∙ ap (λ (z : Bytes). x.joins ++ z) slash));
      at = first_is 42 bytes refl p.0 ∙ ap (λ (z : Bytes). 42 ∷ z) (x.at ∙ ap (λ (z : Bytes). x.joins ++ z) slash);
    }

joins_in : {joins : Bytes} (back : Bytes) → AreJoins joins → behind_joins (joins ++ (codes "/" ++ back)) ≡ codes "/" ++ back
joins_in {joins} back h = joins_passed h (length (joins ++ (codes "/" ++ back))) (codes "/" ++ back) (omega (arith, length-append joins (codes "/" ++ back))) refl

pub split_is : {joins : Bytes} (back : Bytes) → AreJoins joins → is_split (codes "*" ++ (joins ++ (codes "/" ++ back))) ≡ true
split_is {joins} back h =
    let some : 0 < join_len (joins ++ (codes "/" ++ back)) = joins_begin h (codes "/" ++ back) in
    let t : nat_lt 0 (join_len (joins ++ (codes "/" ++ back))) ≡ true = grind (arith, nat_tests) in
    rw (t, joins_in back h) refl

pub splits_lack : (bytes : Bytes) → LacksSplitEnd bytes → NoneAt is_split bytes
splits_lack [] h = tt
splits_lack (b ∷ bs) h = (false_from_ne_true _ (λ t. let x = split_found (b ∷ bs) t in h [] x.joins x.back x.are x.at), splits_lack bs (λ front joins back are e. h (b ∷ front) joins back are (ap (λ (y : Bytes). b ∷ y) e)))

pub lacks_split : (bytes : Bytes) → NoneAt is_split bytes → LacksSplitEnd bytes
lacks_split [] h [] joins back are e = absurd cc
lacks_split [] h (f ∷ front) joins back are e = absurd cc
lacks_split (b ∷ bs) h [] joins back are e = let f : is_split (codes "*" ++ (joins ++ (codes "/" ++ back))) ≡ false = subst (λ (y : Bytes). is_split y ≡ false) e h.0 in let t = split_is back are in absurd cc
lacks_split (b ∷ bs) h (f ∷ front) joins back are e = lacks_split bs h.1 front joins back are (ap (λ (y : Bytes). drop 1 y) e)

-- ---- lines

pub line_is : (inside rest : Bytes) → has_feed inside ≡ false → AtLineEnd rest → line_len (inside ++ rest) ≡ length inside
line_is [] [] h e = refl
line_is [] (b ∷ bs) h e = rw e refl
line_is (b ∷ bs) rest h e = let p = feed_parts b bs h in rw (p.0, line_is bs rest p.1 e) (omega arith)

-- the bytes of the line, and what follows them
pub record LineIs (bytes : Bytes) : Type 0 where
  pub inside : Bytes
  pub rest : Bytes
  pub at : bytes ≡ inside ++ rest
  pub len : line_len bytes ≡ length inside
  pub none : has_feed inside ≡ false
  pub ends : AtLineEnd rest

pub line_found : (bytes : Bytes) → LineIs bytes
line_found [] = record { inside = []; rest = []; at = refl; len = refl; none = refl; ends = tt }
line_found (b ∷ bs) = by_answer (is_feed b)
    (λ t. record { inside = []; rest = b ∷ bs; at = refl; len = rw t refl; none = refl; ends = eqb-true b 10 t })
    (λ f. let x = line_found bs in record { inside = b ∷ x.inside; rest = x.rest; at = ap (λ (y : Bytes). b ∷ y) x.at; len = rw f (omega (arith, x.len)); none = no_feed b x.inside f x.none; ends = x.ends })

-- Places in the bytes, and what is passed step by step.
use Rattle.std.proofs.Common.{◌≡◌, ℕ, zero, suc, ◌+◌, [], ◌∷◌, ◌++◌, length, take, drop, refl, sym, ap, ◌∙◌, subst, arith, true, false, Bool, Option, Some, None}
use Rattle.std.proofs.lemmas.Bool.{and_parts, eqb-true}
use Rattle.std.proofs.Math.Seq.{take-append_seam, drop-append_seam}
use Rattle.c_language.proofs.Tests.{by_test}
use Rattle.c_language.specs.Words.{Bytes}
use Rattle.c_lex.specs.Scanning.{raised, first_place, passed, begins}

-- a case for each answer of a search
pub by_place : {G : Type 0} (o : Option ℕ) → (o ≡ None → G) → ((n : ℕ) → o ≡ Some n → G) → G
by_place None none some = none refl
by_place (Some n) none some = some n refl

pub by_raised : {G : Type 0} (o : Option ℕ) (n : ℕ) → raised o ≡ Some n → ((k : ℕ) → o ≡ Some k → n ≡ k + 1 → G) → G
by_raised None n h go = absurd cc
by_raised (Some k) n h go = go k refl cc

pub by_none : {G : Type 0} (o : Option ℕ) → raised o ≡ None → (o ≡ None → G) → G
by_none None h go = go refl
by_none (Some k) h go = absurd cc

pub begins_append : (word bytes : Bytes) → begins word bytes ≡ true → bytes ≡ word ++ drop (length word) bytes
begins_append [] bytes h = refl
begins_append (a ∷ word) [] h = absurd cc
begins_append (a ∷ word) (b ∷ bytes) h =
    let p = and_parts _ _ h in
    let x : a ≡ b = eqb-true a b p.0 in
    ap (λ (c : ℕ). c ∷ bytes) (sym x) ∙ ap (λ (y : Bytes). a ∷ y) (begins_append word bytes p.1)

-- nowhere in the bytes, before the rest, does the test pass
abbrev pub NoneIn : (Bytes → Bool) → Bytes → Bytes → Type 0
NoneIn test [] rest = Unit {0}
NoneIn test (b ∷ bs) rest = (test (b ∷ (bs ++ rest)) ≡ false) × NoneIn test bs rest

-- nowhere in the bytes does it pass
abbrev pub NoneAt : (Bytes → Bool) → Bytes → Type 0
NoneAt test [] = Unit {0}
NoneAt test (b ∷ bs) = (test (b ∷ bs) ≡ false) × NoneAt test bs

pub place_is : (test : Bytes → Bool) (bs : Bytes) (c : ℕ) (cs : Bytes) → NoneIn test bs (c ∷ cs) → test (c ∷ cs) ≡ true → first_place test (bs ++ (c ∷ cs)) ≡ Some (length bs)
unfolding first_place
place_is test [] c cs h t = rw t refl
place_is test (b ∷ bs) c cs h t = rw (h.0, place_is test bs c cs h.1 t) (ap Some (omega arith))

pub place_lacks : (test : Bytes → Bool) (bs : Bytes) → NoneAt test bs → first_place test bs ≡ None
unfolding first_place
place_lacks test [] h = refl
place_lacks test (b ∷ bs) h = rw (h.0, place_lacks test bs h.1) refl

pub record PlaceIs (test : Bytes → Bool) (bs : Bytes) (n : ℕ) : Type 0 where
  pub inside : Bytes
  pub head : ℕ
  pub tail : Bytes
  pub at : bs ≡ inside ++ (head ∷ tail)
  pub len : length inside ≡ n
  pub here : test (head ∷ tail) ≡ true
  pub none : NoneIn test inside (head ∷ tail)

pub place_found : (test : Bytes → Bool) (bs : Bytes) (n : ℕ) → first_place test bs ≡ Some n → PlaceIs test bs n
unfolding first_place
place_found test [] n h = absurd cc
place_found test (b ∷ bs) n h = by_test (test (b ∷ bs)) h
    (λ is same. record { inside = []; head = b; tail = bs; at = refl; len = cc; here = is; none = tt })
    (λ isnt h. by_raised (first_place test bs) n h (λ k at is.
    let x = place_found test bs k at in
    record {
      inside = b ∷ x.inside;
      head = x.head;
      tail = x.tail;
      at = ap (λ (y : Bytes). b ∷ y) x.at;
      len = omega (arith, x.len, is);
      here = x.here;
      none = (subst (λ (y : Bytes). test (b ∷ y) ≡ false) x.at isnt, x.none);
    }))

pub place_none : (test : Bytes → Bool) (bs : Bytes) → first_place test bs ≡ None → NoneAt test bs
unfolding first_place
place_none test [] h = tt
place_none test (b ∷ bs) h = by_test (test (b ∷ bs)) h (λ is same. absurd cc) (λ isnt h. by_none (first_place test bs) h (λ at. (isnt, place_none test bs at)))

pub passed_stop : (step : Bytes → ℕ) (n : ℕ) (bytes : Bytes) → step bytes ≡ 0 → passed step n bytes ≡ bytes
unfolding passed
passed_stop step zero bytes h = refl
passed_stop step (suc n) bytes h = rw h (passed_stop step n bytes h)

pub passed_step : (step : Bytes → ℕ) (n : ℕ) (bytes : Bytes) → passed step (suc n) bytes ≡ passed step n (drop (step bytes) bytes)
unfolding passed
passed_step step n bytes = refl

pub drop_at : (n : ℕ) (bytes front back : Bytes) → bytes ≡ front ++ back → length front ≡ n → drop n bytes ≡ back
drop_at n bytes front back at len = ap (drop n) at ∙ subst (λ (k : ℕ). drop k (front ++ back) ≡ back) len (drop-append_seam front back)

pub take_at : (n : ℕ) (bytes front back : Bytes) → bytes ≡ front ++ back → length front ≡ n → take n bytes ≡ front
take_at n bytes front back at len = ap (take n) at ∙ subst (λ (k : ℕ). take k (front ++ back) ≡ front) len (take-append_seam front back)

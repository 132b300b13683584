-- Lists whose members are pairwise in a relation.
use Rattle.std.proofs.Common.{◌≡◌, ℕ, zero, suc, ◌+◌, List, [], ◌∷◌, ◌++◌, length, take, map, Bool, true, false, not, Option, Some, None, refl, ap, ap₂, subst, arith, slice_get}
use Rattle.std.specs.Prelude.{Contains, nat_lt, if◌then◌else◌}
use Rattle.std.specs.List.{AllZip, find, position, position_or_len}

module _ {A B : Type 0} (R : A → B → Type 0) where
  pub pairwise_length : (as_ : List A) (bs : List B) → AllZip R as_ bs → length as_ ≡ length bs
  pairwise_length [] [] h = refl
  pairwise_length [] (b ∷ bs) h = absurd h
  pairwise_length (a ∷ as_) [] h = absurd h
  pairwise_length (a ∷ as_) (b ∷ bs) h = ap suc (pairwise_length as_ bs h.1)

  pub pairwise_append : (as_ : List A) (bs : List B) (cs : List A) (ds : List B) → AllZip R as_ bs → AllZip R cs ds → AllZip R (as_ ++ cs) (bs ++ ds)
  pairwise_append [] [] cs ds h k = k
  pairwise_append [] (b ∷ bs) cs ds h k = absurd h
  pairwise_append (a ∷ as_) [] cs ds h k = absurd h
  pairwise_append (a ∷ as_) (b ∷ bs) cs ds h k = (h.0, pairwise_append as_ bs cs ds h.1 k)

  -- what both lists give is the same where related members give the same
  pub pairwise_map : {C : Type 0} (f : A → C) (g : B → C) → ((a : A) (b : B) → R a b → f a ≡ g b) → (as_ : List A) (bs : List B) → AllZip R as_ bs → map f as_ ≡ map g bs
  pairwise_map f g same [] [] h = refl
  pairwise_map f g same [] (b ∷ bs) h = absurd h
  pairwise_map f g same (a ∷ as_) [] h = absurd h
  pairwise_map f g same (a ∷ as_) (b ∷ bs) h = ap₂ (λ (c : _) (cs : List _). c ∷ cs) (same a b h.0) (pairwise_map f g same as_ bs h.1)

  -- what stands in the second list has its pair at the same place
  pub record Paired (some : List A) (b : B) : Type 0 where
    pub left : A
    pub stands : Contains some left
    pub related : R left b

  later : (a : A) (as_ : List A) (b : B) → Paired as_ b → Paired (a ∷ as_) b
  later a as_ b h = record { left = h.left; stands = (suc h.stands.0, omega (arith, h.stands.1), h.stands.2); related = h.related }

  pub pair_of : (as_ : List A) (bs : List B) (b : B) → AllZip R as_ bs → Contains bs b → Paired as_ b
  pair_of [] [] b h (k, within, is) = absurd (omega (arith, within))
  pair_of [] (c ∷ bs) b h k = absurd h
  pair_of (a ∷ as_) [] b h c = absurd h
  pair_of (a ∷ as_) (c ∷ bs) b h (zero, within, is) = record { left = a; stands = (0, omega arith, refl); related = subst (R a) is h.0 }
  pair_of (a ∷ as_) (c ∷ bs) b h (suc k, within, is) = later a as_ b (pair_of as_ bs b h.1 (k, omega (arith, within), is))

  pub pairwise_take : (n : ℕ) (as_ : List A) (bs : List B) → AllZip R as_ bs → AllZip R (take n as_) (take n bs)
  pairwise_take zero [] [] h = tt
  pairwise_take zero [] (b ∷ bs) h = tt
  pairwise_take zero (a ∷ as_) [] h = tt
  pairwise_take zero (a ∷ as_) (b ∷ bs) h = tt
  pairwise_take (suc n) [] [] h = tt
  pairwise_take (suc n) [] (b ∷ bs) h = absurd h
  pairwise_take (suc n) (a ∷ as_) [] h = absurd h
  pairwise_take (suc n) (a ∷ as_) (b ∷ bs) h = (h.0, pairwise_take n as_ bs h.1)

  -- both are there and related, or none is
  abbrev pub BothThere : Option A → Option B → Type 0
  BothThere None None = Unit {0}
  BothThere None (Some b) = ⊥
  BothThere (Some a) None = ⊥
  BothThere (Some a) (Some b) = R a b

  pub place_there : (as_ : List A) (bs : List B) (k : ℕ) → AllZip R as_ bs → BothThere (slice_get as_ k) (slice_get bs k)
  place_there [] [] k h = tt
  place_there [] (b ∷ bs) k h = absurd h
  place_there (a ∷ as_) [] k h = absurd h
  place_there (a ∷ as_) (b ∷ bs) zero h = h.0
  place_there (a ∷ as_) (b ∷ bs) (suc k) h = place_there as_ bs k h.1

  module _ (test : A → Bool) (other : B → Bool) (same : (a : A) (b : B) → R a b → test a ≡ other b) where
    pub found_there : (as_ : List A) (bs : List B) → AllZip R as_ bs → BothThere (find test as_) (find other bs)
    found_there [] [] h = tt
    found_there [] (b ∷ bs) h = absurd h
    found_there (a ∷ as_) [] h = absurd h
    found_there (a ∷ as_) (b ∷ bs) h = by_test (test a) (other b) (same a b h.0) (found_there as_ bs h.1)
      where
        by_test : (s t : Bool) → s ≡ t → BothThere (find test as_) (find other bs) → BothThere (if s then Some a else find test as_) (if t then Some b else find other bs)
        by_test true true is rest = h.0
        by_test true false is rest = absurd (subst Is is tt)
          where
            Is : Bool → Type 0
            Is true = Unit {0}
            Is false = ⊥
        by_test false true is rest = absurd (subst Isnt is tt)
          where
            Isnt : Bool → Type 0
            Isnt true = ⊥
            Isnt false = Unit {0}
        by_test false false is rest = rest

    places_same : (as_ : List A) (bs : List B) → AllZip R as_ bs → position_or_len test as_ ≡ position_or_len other bs
    places_same [] [] h = refl
    places_same [] (b ∷ bs) h = absurd h
    places_same (a ∷ as_) [] h = absurd h
    places_same (a ∷ as_) (b ∷ bs) h = ap₂ (λ (t : Bool) (n : ℕ). if not t then 1 + n else 0) (same a b h.0) (places_same as_ bs h.1)

    pub position_same : (as_ : List A) (bs : List B) → AllZip R as_ bs → position test as_ ≡ position other bs
    position_same as_ bs h = ap₂ (λ (n m : ℕ). if nat_lt n m then Some n else None) (places_same as_ bs h) (pairwise_length as_ bs h)

-- the relation the other way round
pub pairwise_back : {A B : Type 0} (R : A → B → Type 0) (Q : B → A → Type 0) → ((a : A) (b : B) → R a b → Q b a) → (as_ : List A) (bs : List B) → AllZip R as_ bs → AllZip Q bs as_
pairwise_back R Q turn [] [] h = tt
pairwise_back R Q turn [] (b ∷ bs) h = absurd h
pairwise_back R Q turn (a ∷ as_) [] h = absurd h
pairwise_back R Q turn (a ∷ as_) (b ∷ bs) h = (turn a b h.0, pairwise_back R Q turn as_ bs h.1)

-- a list and what a function makes of it
pub pairwise_of : {A B : Type 0} (R : A → B → Type 0) (f : A → B) → ((a : A) → R a (f a)) → (as_ : List A) → AllZip R as_ (map f as_)
pairwise_of R f each [] = tt
pairwise_of R f each (a ∷ as_) = (each a, pairwise_of R f each as_)

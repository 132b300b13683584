-- One more location of those whose parts or targets are added.
use Rattle.std.proofs.Common.{◌≡◌, ◌≢◌, ℕ, zero, suc, ◌+◌, ◌<◌, List, [], ◌∷◌, length, map, replicate, slice_get, slice_set, Bool, true, false, ◌||◌, ◌&&◌, Some, refl, sym, ap, ap₂, ◌∙◌, subst, arith}
use Rattle.std.proofs.lemmas.List.{length-map}
use Rattle.std.proofs.lemmas.Option.{same_Some}
use Rattle.bit_rows.specs.Sets.{has, union}
use Rattle.bit_rows.specs.Tables.{Table, the_set, with_set, IsSized}
use Rattle.bit_rows.proofs.SetLemmas.{same_set}
use Rattle.bit_rows.proofs.TableLemmas.{the_set-with_set, other-with_set}
use Rattle.c_tree.specs.declared.program.Program.{Program}
use Rattle.dep_model.specs.declared.location.Location.{Location}
use Rattle.dep_model.specs.declared.points_to.PointsTo.{PointsTo}
use Rattle.dep_model.specs.Denoted.{Places}
use Rattle.dep_model.specs.LocationRows.{points_of, HasPointsRows}
use Rattle.dep_model.specs.Locations.{TypedLocation, locations}
use Rattle.dep_model.specs.LocationLists.{AreListedOnce}
use Rattle.effect_rows.specs.Gains.{row_of}
use Rattle.effect_rows.proofs.GainLemmas.{union_none}
use Rattle.effect_rows.proofs.LedRows.{first_led, led_begins, led_more}
use Rattle.effect_rows.proofs.PointRows.{row_at_place, points_at_place}

abbrev alone : TypedLocation → Location
alone o = o.location

pub listed_at : (xs : List TypedLocation) (k : ℕ) → k < length xs → (o : TypedLocation) × (slice_get xs k ≡ Some o)
listed_at [] k lt = absurd (omega (arith, lt))
listed_at (x ∷ xs) zero lt = (x, refl)
listed_at (x ∷ xs) (suc k) lt = listed_at xs k (omega (arith, lt))

pub alone_at : (xs : List TypedLocation) (k : ℕ) (o : TypedLocation) → slice_get xs k ≡ Some o → slice_get (map alone xs) k ≡ Some o.location
alone_at [] k o at = cc
alone_at (x ∷ xs) zero o at = ap (λ (q : TypedLocation). Some q.location) (same_Some _ _ at)
alone_at (x ∷ xs) (suc k) o at = alone_at xs k o at

has_mapped : (f : TypedLocation → Bool) (xs : List TypedLocation) (k : ℕ) (o : TypedLocation) → slice_get xs k ≡ Some o → has (map f xs) k ≡ f o
has_mapped f [] k o at = cc
has_mapped f (x ∷ xs) zero o at = ap f (same_Some _ _ at)
has_mapped f (x ∷ xs) (suc k) o at = has_mapped f xs k o at

module _ (p : Program) where
  pub has_row_of : (a : Places) (k : ℕ) (o : TypedLocation) → slice_get (locations p) k ≡ Some o → has (row_of p a) k ≡ a o.location
  has_row_of a k o at = has_mapped (λ q. a q.location) (locations p) k o at

  -- the row at the place of a location has where that may point
  pub points_row : AreListedOnce p → (t : PointsTo) → HasPointsRows p t → (k : ℕ) (o : TypedLocation) → slice_get (locations p) k ≡ Some o → k < length (locations p) → the_set t.rows k ≡ row_of p (points_of p t o.location)
  points_row listed t rows k o at lt =
      let at_k = alone_at (locations p) k o at in
      same_set (the_set t.rows k) (row_of p (points_of p t o.location))
      (rows.sized.full k lt ∙ sym (length-map (locations p) (λ (q : TypedLocation). points_of p t o.location q.location)))
      (λ i below.
      let inside : i < length (locations p) = subst (λ n. i < n) (rows.sized.full k lt) below in
      let found = listed_at (locations p) i inside in
      let m = found.0 in
      sym (has_row_of (points_of p t o.location) i m found.1
      ∙ ap (λ (f : Places). f m.location) (points_at_place p listed t k o.location at_k)
      ∙ row_at_place p listed (the_set t.rows k) i m.location (alone_at (locations p) i m found.1)))

  module _ (to : Location → Places) (a : Places) where
    pub led_in : (s u : List Bool) (k : ℕ) (o : TypedLocation) → slice_get (locations p) k ≡ Some o → s ≡ row_of p (first_led p to a k) → a o.location ≡ true → u ≡ union s (row_of p (to o.location)) → u ≡ row_of p (first_led p to a (k + 1))
    led_in s u k o at led is joined =
        joined
        ∙ ap (λ (r : List Bool). union r (row_of p (to o.location))) led
        ∙ ap (λ (b : Bool). union (row_of p (first_led p to a k)) (row_of p (λ l. b && to o.location l))) (sym is)
        ∙ sym (led_more p to a k o at)

    pub led_out : (s : List Bool) (k : ℕ) (o : TypedLocation) → slice_get (locations p) k ≡ Some o → s ≡ row_of p (first_led p to a k) → a o.location ≡ false → s ≡ row_of p (first_led p to a (k + 1))
    led_out s k o at led is =
        led
        ∙ sym (union_none (row_of p (first_led p to a k)) (locations p))
        ∙ ap (λ (b : Bool). union (row_of p (first_led p to a k)) (row_of p (λ l. b && to o.location l))) (sym is)
        ∙ sym (led_more p to a k o at)

  -- ---- two scratch rows

  pub kept_at : (s u : Table) (from to : ℕ) (row : List Bool) → from ≢ to → u ≡ with_set s to row → the_set u from ≡ the_set s from
  kept_at s u from to row apart is = ap (λ (t : Table). the_set t from) is ∙ other-with_set s to from row apart

  pub made_at : (s u : Table) (to : ℕ) (row : List Bool) → IsSized 2 (length (locations p)) s → to < 2 → u ≡ with_set s to row → the_set u to ≡ row
  made_at s u to row sized lt is = ap (λ (t : Table). the_set t to) is ∙ the_set-with_set s to row (subst (λ n. to < n) (sym sized.rows_are) lt)

  pub begun : (q : Location → Places) (a : Places) (s u : Table) (to : ℕ) → IsSized 2 (length (locations p)) s → to < 2 → u ≡ with_set s to (replicate s.bits false) → the_set u to ≡ row_of p (first_led p q a 0)
  begun q a s u to sized lt is = made_at s u to (replicate s.bits false) sized lt is ∙ ap (λ n. replicate n false) sized.bits_are ∙ led_begins p q a

  pub resized : (s v u : Table) → IsSized 2 (length (locations p)) s → IsSized (length s.sets) s.bits v → u ≡ v → IsSized 2 (length (locations p)) u
  resized s v u sized again is =
      subst (IsSized 2 (length (locations p))) (sym is) (subst (λ n. IsSized n (length (locations p)) v) sized.rows_are (subst (λ n. IsSized (length s.sets) n v) sized.bits_are again))

-- ---- one more member

or_true : (x : Bool) → (x || true) ≡ true
or_true true = refl
or_true false = refl

or_false : (x : Bool) → (x || false) ≡ x
or_false true = refl
or_false false = refl

pub union_empty : (xs : List Bool) (n : ℕ) → union xs (replicate n false) ≡ xs
union_empty [] n = refl
union_empty (x ∷ xs) zero = refl
union_empty (x ∷ xs) (suc n) = ap₂ (λ (b : Bool) (bs : List Bool). b ∷ bs) (or_false x) (union_empty xs n)

pub union_one : (xs : List Bool) (j : ℕ) → union xs (slice_set (replicate (length xs) false) j true) ≡ slice_set xs j true
union_one [] j = refl
union_one (x ∷ xs) zero = ap₂ (λ (b : Bool) (bs : List Bool). b ∷ bs) (or_true x) (union_empty xs (length xs))
union_one (x ∷ xs) (suc j) = ap₂ (λ (b : Bool) (bs : List Bool). b ∷ bs) (or_false x) (union_one xs j)

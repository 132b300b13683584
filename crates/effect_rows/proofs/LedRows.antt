-- The row of the locations to which some lead, location by location.
use Rattle.std.proofs.Common.{◌≡◌, ℕ, zero, suc, ◌+◌, Bool, true, false, ◌||◌, ◌&&◌, List, [], ◌∷◌, ◌++◌, length, map, take, replicate, slice_get, Some, refl, sym, ap, ap₂, ◌∙◌, subst, append_assoc, arith}
use Rattle.std.specs.List.{list_any}
use Rattle.std.proofs.lemmas.Bool.{or_left}
use Rattle.std.proofs.lemmas.Option.{same_Some}
use Rattle.bit_rows.specs.Sets.{union}
use Rattle.c_tree.specs.declared.program.Program.{Program}
use Rattle.dep_model.specs.declared.location.Location.{Location}
use Rattle.dep_model.specs.Denoted.{Places, is_location}
use Rattle.dep_model.specs.Locations.{TypedLocation, locations, same_location}
use Rattle.effect_rows.specs.Gains.{row_of}
use Rattle.effect_rows.proofs.PlaceRows.{location_itself}

or_in_turn : (x y z : Bool) → (x || (y || z)) ≡ ((x || y) || z)
or_in_turn true y z = refl
or_in_turn false y z = refl

or_false : (x : Bool) → (x || false) ≡ x
or_false true = refl
or_false false = refl

none_led : (xs : List TypedLocation) → map (λ o. false) xs ≡ replicate (length xs) false
none_led [] = refl
none_led (x ∷ xs) = ap (λ (bs : List Bool). false ∷ bs) (none_led xs)

any_more : (f : TypedLocation → Bool) (xs : List TypedLocation) (k : ℕ) (o : TypedLocation) → slice_get xs k ≡ Some o → list_any f (take (suc k) xs) ≡ (list_any f (take k xs) || f o)
any_more f [] k o at = cc
any_more f (x ∷ xs) zero o at = or_false (f x) ∙ ap f (same_Some _ _ at)
any_more f (x ∷ xs) (suc k) o at = ap (λ b. f x || b) (any_more f xs k o at) ∙ or_in_turn (f x) (list_any f (take k xs)) (f o)

take_whole : (xs : List TypedLocation) → take (length xs) xs ≡ xs
take_whole [] = refl
take_whole (x ∷ xs) = ap (λ (ys : List TypedLocation). x ∷ ys) (take_whole xs)

union_mapped : (f g : TypedLocation → Bool) (xs : List TypedLocation) → union (map f xs) (map g xs) ≡ map (λ o. f o || g o) xs
union_mapped f g [] = refl
union_mapped f g (x ∷ xs) = ap (λ (bs : List Bool). (f x || g x) ∷ bs) (union_mapped f g xs)

map_same : (f g : TypedLocation → Bool) (xs : List TypedLocation) → ((o : TypedLocation) → f o ≡ g o) → map f xs ≡ map g xs
map_same f g [] e = refl
map_same f g (x ∷ xs) e = ap₂ (λ (b : Bool) (bs : List Bool). b ∷ bs) (e x) (map_same f g xs e)

among : (ys xs : List TypedLocation) (o : TypedLocation) → list_any (λ (q : TypedLocation). same_location q.location o.location) (ys ++ o ∷ xs) ≡ true
among [] xs o = or_left _ _ (location_itself o.location)
among (y ∷ ys) xs o = ap (λ b. same_location y.location o.location || b) (among ys xs o) ∙ or_true (same_location y.location o.location)
  where
    or_true : (x : Bool) → (x || true) ≡ true
    or_true true = refl
    or_true false = refl

listed : (f : TypedLocation → Bool) (ys xs all : List TypedLocation) → all ≡ ys ++ xs → map f xs ≡ map (λ o. list_any (λ (q : TypedLocation). same_location q.location o.location) all && f o) xs
listed f ys [] all e = refl
listed f ys (o ∷ xs) all e =
    ap₂ (λ (b : Bool) (bs : List Bool). b ∷ bs)
    (sym (ap (λ b. b && f o) (subst (λ zs. list_any (λ (q : TypedLocation). same_location q.location o.location) zs ≡ true) (sym e) (among ys xs o))))
    (listed f (ys ++ o ∷ []) xs all (e ∙ sym (append_assoc ys (o ∷ []) xs)))

module _ (p : Program) (to : Location → Places) (a : Places) where
  -- where the first k locations lead, those of `a` alone
  abbrev pub first_led : ℕ → Places
  first_led k l = list_any (λ (o : TypedLocation). a o.location && to o.location l) (take k (locations p))

  pub led_begins : replicate (length (locations p)) false ≡ row_of p (first_led 0)
  led_begins = sym (none_led (locations p))

  pub led_more : (k : ℕ) (o : TypedLocation) → slice_get (locations p) k ≡ Some o → row_of p (first_led (k + 1)) ≡ union (row_of p (first_led k)) (row_of p (λ l. a o.location && to o.location l))
  led_more k o at =
      let next : k + 1 ≡ suc k = omega arith in
      ap (λ n. row_of p (first_led n)) next
      ∙ map_same (λ m. first_led (suc k) m.location) (λ m. first_led k m.location || (a o.location && to o.location m.location)) (locations p) (λ m. any_more (λ (q : TypedLocation). a q.location && to q.location m.location) (locations p) k o at)
      ∙ sym (union_mapped (λ m. first_led k m.location) (λ m. a o.location && to o.location m.location) (locations p))

  -- where all of them lead
  pub led_ends : row_of p (first_led (length (locations p))) ≡ row_of p (λ l. is_location p l && list_any (λ (o : TypedLocation). a o.location && to o.location l) (locations p))
  led_ends =
      map_same _ _ (locations p) (λ m. ap (list_any (λ (q : TypedLocation). a q.location && to q.location m.location)) (take_whole (locations p)))
      ∙ listed (λ m. list_any (λ (q : TypedLocation). a q.location && to q.location m.location) (locations p)) [] (locations p) (locations p) refl

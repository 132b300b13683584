-- Locations of what a state holds: a pointer has that of the object that it designates, and a cell that is read counts for the activation.
use Rattle.std.proofs.Common.{◌≡◌, ℕ, List, [], ◌∷◌, Option, Some, true, ◌⊎◌, inl, inr, refl, sym, ap, ◌∙◌, subst}
use Rattle.std.specs.Prelude.{option_map, option_and_then}
use Rattle.c_language.proofs.Options.{some_same, then_there}
use Rattle.c_tree.specs.declared.program.Program.{Program}
use Rattle.c_language.specs.declared.expr_type.ExprType.{ExprType}
use Rattle.c_meaning.specs.declared.value.Hop.{Hop}
use Rattle.c_meaning.specs.declared.value.Place.{Place}
use Rattle.c_meaning.specs.declared.value.Pointer.{Pointer}
use Rattle.c_meaning.specs.Pointers.{type_at, whole_of, item_at, pointed}
use Rattle.c_meaning.specs.Values.{Origin, OfVariable, OfStatement, State}
use Rattle.dep_model.specs.declared.location.Location.{Location}
use Rattle.dep_model.specs.declared.location.Root.TheVariants.{Variable}
use Rattle.dep_model.specs.Denoted.{Places, TargetsOf}
use Rattle.dep_model.specs.ModRef.{is_outside}
use Rattle.run_facts.specs.CellLocations.{location_in, location_of}
use Rattle.run_facts.specs.DenotedCells.{IsReadOf}
use Rattle.run_facts.specs.PointerLocations.{item_of, pointer_location}
use Rattle.run_facts.specs.TypedStates.{is_seen, IsTypedState}
use Rattle.run_facts.proofs.PointedObjects.{pointed_item}

-- the place that a pointer designates has the pointer's location
pub pointed_location : (s : State) (q : Pointer) (r : Place) → pointed s.memory q ≡ Some r → location_of s.origins r ≡ pointer_location s q
pointed_location s q r e =
    let k = then_there (item_at q) (type_at s.memory (whole_of q)) r e in
    let item = pointed_item s.memory q k.value r k.there e in
    ap (location_of s.origins) item.place_is ∙ sym (ap (option_and_then (λ (t : ExprType). location_of s.origins (item_of q t))) k.there)

abbrev located : List Hop → Option Origin → Option Location
located path o = option_map (λ (k : Origin). location_in k path) o

module _ (p : Program) where
  -- a block is seen outside where its locations are
  pub seen_outside : (o : Origin) (path : List Hop) → is_outside p (location_in o path) ≡ is_seen p o
  seen_outside (OfVariable x) path = refl
  seen_outside (OfStatement i) [] = refl
  seen_outside (OfStatement i) (h ∷ path) = refl

  module _ (points : TargetsOf) (s : State) (typed : IsTypedState p points s) where
    -- a cell that is read has a location, and that is seen outside, or its block is the one that the activation names by the location's variable
    pub record IsCounted (reads : Places) (q : Place) : Type 0 where
      pub location : Location
      pub location_is : location_of s.origins q ≡ Some location
      pub among : reads location ≡ true
      pub counts : (is_outside p location ≡ true) ⊎ ((x : ℕ) × ((location.root ≡ Variable x) × (s.frame x ≡ Some q.block)))

    pub read_counted : (reads : Places) (q : Place) → IsReadOf p s reads q → IsCounted reads q
    read_counted reads q r =
        record {
          location = location_in r.origin q.path;
          location_is = ap (located q.path) r.origin_is;
          among = r.among;
          counts = elim r.counts [
            | inl seen ↦ inl (seen_outside r.origin q.path ∙ seen)
            | inr k ↦ let same : OfVariable k.0 ≡ r.origin = some_same (sym (typed.named k.0 q.block k.1) ∙ r.origin_is) in inr (k.0, (subst (λ (o : Origin). (location_in o q.path).root ≡ Variable k.0) same refl, k.1))
          ];
        }

-- Locations that are told to be one are one.
use Rattle.std.proofs.Common.{◌≡◌, List, [], ◌∷◌, true, refl, ap, ap₂, eqb-true, eq-eqb}
use Rattle.std.proofs.lemmas.Bool.{false≢true, and_parts, and_from}
use Rattle.c_language.specs.Lists.{same_all}
use Rattle.dep_model.specs.declared.location.Location.{Location}
use Rattle.dep_model.specs.declared.location.Part.{Part}
use Rattle.dep_model.specs.declared.location.Part.TheVariants as part
use Rattle.dep_model.specs.declared.location.Root.{Root}
use Rattle.dep_model.specs.declared.location.Root.TheVariants.{Input, Variable, Site, Result}
use Rattle.dep_model.specs.Locations.{same_root, same_part, same_location}

root_is : (r s : Root) → same_root r s ≡ true → r ≡ s
root_is Input Input h = refl
root_is Input (Variable y) h = absurd (false≢true h)
root_is Input (Site j) h = absurd (false≢true h)
root_is Input (Result g) h = absurd (false≢true h)
root_is (Variable x) Input h = absurd (false≢true h)
root_is (Variable x) (Variable y) h = ap Variable (eqb-true x y h)
root_is (Variable x) (Site j) h = absurd (false≢true h)
root_is (Variable x) (Result g) h = absurd (false≢true h)
root_is (Site i) Input h = absurd (false≢true h)
root_is (Site i) (Variable y) h = absurd (false≢true h)
root_is (Site i) (Site j) h = ap Site (eqb-true i j h)
root_is (Site i) (Result g) h = absurd (false≢true h)
root_is (Result f) Input h = absurd (false≢true h)
root_is (Result f) (Variable y) h = absurd (false≢true h)
root_is (Result f) (Site j) h = absurd (false≢true h)
root_is (Result f) (Result g) h = ap Result (eqb-true f g h)

same_itself : (r : Root) → same_root r r ≡ true
same_itself Input = refl
same_itself (Variable x) = eq-eqb x x refl
same_itself (Site i) = eq-eqb i i refl
same_itself (Result f) = eq-eqb f f refl

part_is : (g h : Part) → same_part g h ≡ true → g ≡ h
part_is (part.Member i) (part.Member j) h = ap part.Member (eqb-true i j h)
part_is (part.Member i) part.Element h = absurd (false≢true h)
part_is part.Element (part.Member j) h = absurd (false≢true h)
part_is part.Element part.Element h = refl

part_itself : (g : Part) → same_part g g ≡ true
part_itself (part.Member i) = eq-eqb i i refl
part_itself part.Element = refl

path_is : (gs hs : List Part) → same_all same_part gs hs ≡ true → gs ≡ hs
path_is [] [] h = refl
path_is [] (x ∷ hs) h = absurd (false≢true h)
path_is (g ∷ gs) [] h = absurd (false≢true h)
path_is (g ∷ gs) (x ∷ hs) h =
    let both = and_parts (same_part g x) (same_all same_part gs hs) h in ap₂ (λ (y : Part) (ys : List Part). y ∷ ys) (part_is g x both.0) (path_is gs hs both.1)

path_itself : (gs : List Part) → same_all same_part gs gs ≡ true
path_itself [] = refl
path_itself (g ∷ gs) = and_from _ _ (part_itself g) (path_itself gs)

pub location_is : (l m : Location) → same_location l m ≡ true → l ≡ m
location_is l m h =
    let both = and_parts (same_root l.root m.root) (same_all same_part l.path m.path) h in
    ap₂ {C = Location} (λ (r : Root) (hs : List Part). record { root = r; path = hs }) (root_is l.root m.root both.0) (path_is l.path m.path both.1)

pub location_itself : (l : Location) → same_location l l ≡ true
location_itself l = and_from _ _ (same_itself l.root) (path_itself l.path)

-- The row of one location, and of some more.
use Rattle.std.proofs.Common.{◌≡◌, ℕ, zero, suc, ◌<◌, List, [], ◌∷◌, length, map, replicate, slice_get, slice_set, Bool, true, false, Option, Some, None, inl, inr, refl, sym, ap, ap₂, ◌∙◌, subst, arith, eqb-true, eq-eqb}
use Rattle.std.specs.Prelude.{Contains}
use Rattle.std.proofs.lemmas.Bool.{false≢true, and_parts, and_from, cases_Bool}
use Rattle.std.proofs.lemmas.List.{length-map}
use Rattle.std.proofs.lemmas.Option.{same_Some}
use Rattle.c_language.specs.Lists.{same_all}
use Rattle.c_tree.specs.declared.program.Program.{Program}
use Rattle.dep_model.specs.declared.location.Location.{Location}
use Rattle.dep_model.specs.declared.location.Part.{Part}
use Rattle.dep_model.specs.declared.location.Part.TheVariants as part
use Rattle.dep_model.specs.declared.location.Root.{Root}
use Rattle.dep_model.specs.declared.location.Root.TheVariants.{Input, Variable, Site, Result}
use Rattle.dep_model.specs.Locations.{TypedLocation, locations, same_root, same_part, same_location}
use Rattle.dep_model.specs.LocationLists.{location_list, AreListedOnce}
use Rattle.rule_closure.proofs.ListLemmas.{contains_head, contains_cons}
use Rattle.bit_rows.specs.Tables.{Table, the_set, with_set, IsSized}
use Rattle.bit_rows.proofs.TableLemmas.{the_set-with_set}
use Rattle.dep_model.specs.Denoted.{Places}
use Rattle.effect_rows.specs.Gains.{row_of}
use Rattle.effect_rows.specs.Tables.{IsPlaceOf}

-- ---- locations that are one

pub root_is : (r s : Root) → same_root r s ≡ true → r ≡ s
root_is Input Input h = refl
root_is Input (Variable y) h = absurd (false≢true h)
root_is Input (Site j) h = absurd (false≢true h)
root_is Input (Result g) h = absurd (false≢true h)
root_is (Variable x) Input h = absurd (false≢true h)
root_is (Variable x) (Variable y) h = ap Variable (eqb-true x y h)
root_is (Variable x) (Site j) h = absurd (false≢true h)
root_is (Variable x) (Result g) h = absurd (false≢true h)
root_is (Site i) Input h = absurd (false≢true h)
root_is (Site i) (Variable y) h = absurd (false≢true h)
root_is (Site i) (Site j) h = ap Site (eqb-true i j h)
root_is (Site i) (Result g) h = absurd (false≢true h)
root_is (Result f) Input h = absurd (false≢true h)
root_is (Result f) (Variable y) h = absurd (false≢true h)
root_is (Result f) (Site j) h = absurd (false≢true h)
root_is (Result f) (Result g) h = ap Result (eqb-true f g h)

pub same_itself : (r : Root) → same_root r r ≡ true
same_itself Input = refl
same_itself (Variable x) = eq-eqb x x refl
same_itself (Site i) = eq-eqb i i refl
same_itself (Result f) = eq-eqb f f refl

pub part_is : (g h : Part) → same_part g h ≡ true → g ≡ h
part_is (part.Member i) (part.Member j) h = ap part.Member (eqb-true i j h)
part_is (part.Member i) part.Element h = absurd (false≢true h)
part_is part.Element (part.Member j) h = absurd (false≢true h)
part_is part.Element part.Element h = refl

pub part_itself : (g : Part) → same_part g g ≡ true
part_itself (part.Member i) = eq-eqb i i refl
part_itself part.Element = refl

path_is : (gs hs : List Part) → same_all same_part gs hs ≡ true → gs ≡ hs
path_is [] [] h = refl
path_is [] (x ∷ hs) h = absurd (false≢true h)
path_is (g ∷ gs) [] h = absurd (false≢true h)
path_is (g ∷ gs) (x ∷ hs) h =
    let both = and_parts (same_part g x) (same_all same_part gs hs) h in ap₂ (λ (y : Part) (ys : List Part). y ∷ ys) (part_is g x both.0) (path_is gs hs both.1)

path_itself : (gs : List Part) → same_all same_part gs gs ≡ true
path_itself [] = refl
path_itself (g ∷ gs) = and_from _ _ (part_itself g) (path_itself gs)

pub location_is : (l m : Location) → same_location l m ≡ true → l ≡ m
location_is l m h =
    let both = and_parts (same_root l.root m.root) (same_all same_part l.path m.path) h in
    ap₂ {C = Location} (λ (r : Root) (hs : List Part). record { root = r; path = hs }) (root_is l.root m.root both.0) (path_is l.path m.path both.1)

pub location_itself : (l : Location) → same_location l l ≡ true
location_itself l = and_from _ _ (same_itself l.root) (path_itself l.path)

-- ---- the row of one location

abbrev alone : TypedLocation → Location
alone o = o.location

none_of : (xs : List TypedLocation) (l : Location) → ((j : ℕ) → slice_get (map alone xs) j ≡ Some l → ⊥) → map (λ o. same_location l o.location) xs ≡ replicate (length xs) false
none_of [] l none = refl
none_of (o ∷ xs) l none = elim (cases_Bool (same_location l o.location)) [
  | inl same ↦ absurd (none 0 (ap Some (sym (location_is l o.location same))))
  | inr other ↦ ap₂ (λ (b : Bool) (bs : List Bool). b ∷ bs) other (none_of xs l (λ j at. none (suc j) at))
]

one_of : (xs : List TypedLocation) (l : Location) (k : ℕ) → slice_get (map alone xs) k ≡ Some l → ((j : ℕ) → slice_get (map alone xs) j ≡ Some l → j ≡ k) → map (λ o. same_location l o.location) xs ≡ slice_set (replicate (length xs) false) k true
one_of [] l k at only = cc
one_of (o ∷ xs) l zero at only =
    let here : o.location ≡ l = same_Some _ _ at in
    ap₂ (λ (b : Bool) (bs : List Bool). b ∷ bs) (subst (λ m. same_location l m ≡ true) (sym here) (location_itself l)) (none_of xs l (λ j h. let e : suc j ≡ 0 = only (suc j) h in absurd (omega (arith, e))))
one_of (o ∷ xs) l (suc k) at only = elim (cases_Bool (same_location l o.location)) [
  | inl same ↦ let e : 0 ≡ suc k = only 0 (ap Some (sym (location_is l o.location same))) in absurd (omega (arith, e))
  | inr other ↦ ap₂ (λ (b : Bool) (bs : List Bool). b ∷ bs) other (one_of xs l k at (λ j h. let e : suc j ≡ suc k = only (suc j) h in omega (arith, e)))
]

module _ (p : Program) where
  -- the row of a location that is listed
  pub row_of_listed : AreListedOnce p → (l : Location) (k : ℕ) → slice_get (location_list p) k ≡ Some l → row_of p (same_location l) ≡ slice_set (replicate (length (locations p)) false) k true
  row_of_listed listed l k at = one_of (locations p) l k at (λ j h. listed.once j k l h at)

  -- that of one that isn't
  pub row_of_unlisted : (l : Location) → ((j : ℕ) → slice_get (location_list p) j ≡ Some l → ⊥) → row_of p (same_location l) ≡ replicate (length (locations p)) false
  row_of_unlisted l none = none_of (locations p) l none

-- ---- places that tables tell

pub in_list : (ls : List Location) (k : ℕ) (l : Location) → slice_get ls k ≡ Some l → k < length ls
in_list [] k l at = cc
in_list (m ∷ ls) zero l at = omega arith
in_list (m ∷ ls) (suc k) l at = let lt = in_list ls k l at in omega (arith, lt)

pub contains_at : (ls : List Location) (k : ℕ) (l : Location) → slice_get ls k ≡ Some l → Contains ls l
contains_at [] k l at = cc
contains_at (m ∷ ls) zero l at = subst (Contains (m ∷ ls)) (same_Some _ _ at) (contains_head m ls)
contains_at (m ∷ ls) (suc k) l at = contains_cons m ls l (contains_at ls k l at)

module _ (p : Program) where
  -- a place in the list is one in the list with types
  pub place_within : (l : Location) (k : ℕ) → slice_get (location_list p) k ≡ Some l → k < length (locations p)
  place_within l k at = subst (λ n. k < n) (length-map (locations p) alone) (in_list (location_list p) k l at)

  -- the row of a location by its place
  pub row_by_place : AreListedOnce p → (l : Location) (place : Option ℕ) → IsPlaceOf (location_list p) l place → (k : ℕ) → place ≡ Some k → row_of p (same_location l) ≡ slice_set (replicate (length (locations p)) false) k true
  row_by_place once l place is k here = row_of_listed p once l k (is.found k here)

  pub row_without_place : (l : Location) (place : Option ℕ) → IsPlaceOf (location_list p) l place → place ≡ None → row_of p (same_location l) ≡ replicate (length (locations p)) false
  row_without_place l place is none = row_of_unlisted p l (λ j at. is.missing none (contains_at (location_list p) j l at))

  cleared_row : (s t : Table) → IsSized 2 (length (locations p)) s → t ≡ with_set s 0 (replicate s.bits false) → the_set t 0 ≡ replicate (length (locations p)) false
  cleared_row s t sized is =
      ap (λ (u : Table). the_set u 0) is ∙ the_set-with_set s 0 (replicate s.bits false) (let two = sized.rows_are in omega (arith, two)) ∙ ap (λ n. replicate n false) sized.bits_are

  -- a scratch row that was cleared and then has one location
  pub seeded : (s t u : Table) (a : Places) (k : ℕ) → IsSized 2 (length (locations p)) s → t ≡ with_set s 0 (replicate s.bits false) → IsSized (length s.sets) s.bits t → u ≡ with_set t 0 (slice_set (the_set t 0) k true) → row_of p a ≡ slice_set (replicate (length (locations p)) false) k true → the_set u 0 ≡ row_of p a
  seeded s t u a k sized cleared again set is =
      ap (λ (v : Table). the_set v 0) set
      ∙ the_set-with_set t 0 (slice_set (the_set t 0) k true) (let two = sized.rows_are in let same = again.rows_are in omega (arith, two, same))
      ∙ ap (λ row. slice_set row k true) (cleared_row s t sized cleared)
      ∙ sym is

  pub unseeded : (s t : Table) (a : Places) → IsSized 2 (length (locations p)) s → t ≡ with_set s 0 (replicate s.bits false) → row_of p a ≡ replicate (length (locations p)) false → the_set t 0 ≡ row_of p a
  unseeded s t a sized cleared is = cleared_row s t sized cleared ∙ sym is

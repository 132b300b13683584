-- A well-formed program has a points-to relation: pairs of its locations are added as pointings give them, until none gives another.
use Rattle.std.proofs.Common.{◌≡◌, ℕ, zero, suc, ◌<◌, ◌⊎◌, inl, inr, List, [], ◌∷◌, map, Bool, true, false, ◌&&◌, length, ap, ◌∙◌, subst, arith}
use Rattle.std.specs.Prelude.{slice_get}
use Rattle.std.specs.List.{list_any}
use Rattle.std.specs.Option.{option_map_or}
use Rattle.std.proofs.lemmas.Bool.{cases_Bool, and_from, and_parts, or_left, or_right}
use Rattle.c_tree.specs.declared.program.Function.{Function}
use Rattle.c_tree.specs.declared.program.Item.{Item}
use Rattle.c_tree.specs.declared.program.Program.{Program}
use Rattle.dep_model.specs.declared.location.Location.{Location}
use Rattle.dep_model.specs.Denoted.{TargetsOf, is_location}
use Rattle.dep_model.specs.Doings.{Doing, body_doings, doings_of}
use Rattle.dep_model.specs.ListedLocations.{IsListed}
use Rattle.dep_model.specs.Locations.{TypedLocation, locations, same_location}
use Rattle.dep_model.specs.MayPoint.{Pointing, doing_pointings, item_pointings, IsPointing, of_statement, of_global, MayPoint}
use Rattle.dep_model.proofs.Membership.{IsIn, in_of_contains, contains_of_in}
use Rattle.effect_rows.proofs.PlaceRows.{location_is, location_itself}
use Rattle.numbered_texts.proofs.Listed.{location_listed}
use Rattle.points_laws.specs.Known.{HasKnownSides}
use Rattle.points_laws.specs.Relations.{HasPairs, IsClosedOn}
use Rattle.points_laws.proofs.KnownSides.{sides_known}
use Rattle.points_laws.proofs.Leastness.{uses_derived, all_derived}
use Rattle.points_laws.proofs.ListedPairs.{pairs_listed}
use Rattle.listed_graphs.specs.Laws.{ProgramsHavePointsTo}
use Rattle.listed_graphs.proofs.Growth.{search, IsNew, Grown, grow}
use Rattle.listed_graphs.proofs.Listings.{Two, two, all_pairs, pair_in, numbers_below, below_is}

abbrev Pair : Type 0
Pair = Two Location Location

abbrev same : Pair → Pair → Bool
same a b = same_location a.first b.first && same_location a.second b.second

alike : (a b : Pair) → same a b ≡ true → a ≡ b
alike a b h =
    let both = and_parts (same_location a.first b.first) (same_location a.second b.second) h in
    ap (λ l. two l a.second) (location_is a.first b.first both.0) ∙ ap (two b.first) (location_is a.second b.second both.1)

itself : (a : Pair) → same a a ≡ true
itself a = and_from (same_location a.first a.first) (same_location a.second a.second) (location_itself a.first) (location_itself a.second)

module _ (p : Program) where
  abbrev all : List Location
  all = map (λ (o : TypedLocation). o.location) (locations p)

  abbrev points_of : (Pair → Bool) → TargetsOf
  points_of test l m = test (two l m)

  abbrev Derived : Pair → Type 0
  Derived x = MayPoint p x.first x.second

  abbrev Closed : (Pair → Bool) → Type 0
  Closed test = IsClosedOn p (is_location p) (points_of test)

  -- a function with a statement is one of the program
  pub stated : (f : ℕ) (d : Doing) → IsIn (doings_of p f) d → f < length p.functions
  stated f d h = within p.functions f h
    where
      within : (fs : List Function) (g : ℕ) → IsIn (option_map_or (λ (x : Function). body_doings x.body) (slice_get fs g) []) d → g < length fs
      within [] g h = absurd h
      within (x ∷ fs) zero h = omega arith
      within (x ∷ fs) (suc g) h = let lt = within fs g h in omega (arith, lt)

  module _ (test : Pair → Bool) (sound : (x : Pair) → test x ≡ true → Derived x) where
    abbrev points : TargetsOf
    points = points_of test

    abbrev New : Type 0
    New = IsNew same alike itself Derived (all_pairs all all) test

    abbrev HasAll : Pointing → Type 0
    HasAll a = (l : Location) → IsIn all l → (m : Location) → IsIn all m → a.into l ≡ true → a.from m ≡ true → points l m ≡ true

    found : {X : Type 0} → (X × New) → New
    found w = w.1

    -- a pair that a pointing gives
    one_pair : (a : Pointing) → IsPointing p points a → (l : Location) → IsIn all l → (m : Location) → IsIn all m → New ⊎ (a.into l ≡ true → a.from m ≡ true → points l m ≡ true)
    one_pair a is l at_l m at_m = elim (cases_Bool (points l m)) [
      | inl there ↦ inr (λ i f. there)
      | inr none ↦ elim (cases_Bool (a.into l)) [
        | inr out ↦ inr (λ i f. absurd (no_more (a.into l) out i))
        | inl into ↦ elim (cases_Bool (a.from m)) [
          | inr out ↦ inr (λ i f. absurd (no_more (a.from m) out f))
          | inl from ↦ inl (record {
            item = two l m;
            member = pair_in all all l m at_l at_m;
            none = none;
            has = uses_derived p points a l m (λ k n t. sound (two k n) t) is into from;
          })
        ]
      ]
    ]
      where
        no_more : (b : Bool) → b ≡ false → b ≡ true → ⊥
        no_more b x y = cc

    one_pointing : (a : Pointing) → IsPointing p points a → New ⊎ HasAll a
    one_pointing a is = elim (search (λ l. IsIn all l → (m : Location) → IsIn all m → a.into l ≡ true → a.from m ≡ true → points l m ≡ true) (λ l. New) all (λ l at_l.
        elim (search (λ m. IsIn all m → a.into l ≡ true → a.from m ≡ true → points l m ≡ true) (λ m. New) all (λ m at_m.
        elim (one_pair a is l at_l m at_m) [ inl new ↦ inl new | inr here ↦ inr (λ c. here) ])) [
          | inl w ↦ inl w.1
          | inr each ↦ inr (λ c m at_m. each m at_m at_m)
        ])) [
          | inl w ↦ inl w.1
          | inr each ↦ inr (λ l at_l. each l at_l at_l)
        ]

    of_items : New ⊎ ((i : Item) → IsIn p.items i → (a : Pointing) → IsIn (item_pointings p points i) a → HasAll a)
    of_items = elim (search (λ i. (a : Pointing) → IsIn (item_pointings p points i) a → HasAll a) (λ i. New) p.items (λ i at.
        elim (search HasAll (λ a. New) (item_pointings p points i) (λ a c.
        one_pointing a (of_global i (contains_of_in p.items i at) (contains_of_in (item_pointings p points i) a c)))) [
          | inl w ↦ inl w.1
          | inr each ↦ inr each
        ])) [
          | inl w ↦ inl w.1
          | inr each ↦ inr each
        ]

    of_doing : (f : ℕ) (d : Doing) → IsIn (doings_of p f) d → New ⊎ ((a : Pointing) → IsIn (doing_pointings p points f d) a → HasAll a)
    of_doing f d at = elim (search HasAll (λ a. New) (doing_pointings p points f d) (λ a c.
        one_pointing a (of_statement f (record { doing = d; member = contains_of_in (doings_of p f) d at; given = contains_of_in (doing_pointings p points f d) a c })))) [
          | inl w ↦ inl w.1
          | inr each ↦ inr each
        ]

    of_functions : New ⊎ ((f : ℕ) → IsIn (numbers_below (length p.functions)) f → (d : Doing) → IsIn (doings_of p f) d → (a : Pointing) → IsIn (doing_pointings p points f d) a → HasAll a)
    of_functions = elim (search (λ f. (d : Doing) → IsIn (doings_of p f) d → (a : Pointing) → IsIn (doing_pointings p points f d) a → HasAll a) (λ f. New) (numbers_below (length p.functions)) (λ f low.
        elim (search (λ d. (a : Pointing) → IsIn (doing_pointings p points f d) a → HasAll a) (λ d. New) (doings_of p f) (of_doing f)) [
          | inl w ↦ inl w.1
          | inr each ↦ inr each
        ])) [
          | inl w ↦ inl w.1
          | inr each ↦ inr each
        ]

    listed_pairs : (a : Pointing) → HasAll a → HasPairs (is_location p) points a
    listed_pairs a each l m known_l known_m into from =
        each l (in_of_contains all l (location_listed p l known_l)) m (in_of_contains all m (location_listed p m known_m)) into from

    step : New ⊎ Closed test
    step = elim of_items [
      | inl new ↦ inl new
      | inr items ↦ elim of_functions [
        | inl new ↦ inl new
        | inr functions ↦ inr (λ a is. listed_pairs a (of_each items functions a is))
      ]
    ]
      where
        of_each : ((i : Item) → IsIn p.items i → (a : Pointing) → IsIn (item_pointings p points i) a → HasAll a)
            → ((f : ℕ) → IsIn (numbers_below (length p.functions)) f → (d : Doing) → IsIn (doings_of p f) d → (a : Pointing) → IsIn (doing_pointings p points f d) a → HasAll a)
            → (a : Pointing) → IsPointing p points a → HasAll a
        of_each items functions a (of_statement f w) =
            let at = in_of_contains (doings_of p f) w.doing w.member in
            functions f (below_is (length p.functions) f (stated f w.doing at)) w.doing at a (in_of_contains (doing_pointings p points f w.doing) a w.given)
        of_each items functions a (of_global i c given) = items i (in_of_contains p.items i c) a (in_of_contains (item_pointings p points i) a given)

  closed_pairs : Grown same alike itself Derived Closed
  closed_pairs = grow same alike itself Derived (all_pairs all all) Closed step

  known_pairs : HasKnownSides p → (l m : Location) → MayPoint p l m → (is_location p l ≡ true) × (is_location p m ≡ true)
  known_pairs known l m h = let both = pairs_listed p known l m h in (listed_known l both.0, listed_known m both.1)
    where
      listed_known : (k : Location) → IsListed p k → is_location p k ≡ true
      listed_known k c = some_location k (locations p) (in_of_contains all k c)
        where
          some_location : (k : Location) (os : List TypedLocation) → IsIn (map (λ (o : TypedLocation). o.location) os) k → list_any (λ (o : TypedLocation). same_location o.location k) os ≡ true
          some_location k [] h = absurd h
          some_location k (o ∷ os) (inl same) = or_left (same_location o.location k) (list_any (λ (q : TypedLocation). same_location q.location k) os) (subst (λ n. same_location o.location n ≡ true) same (location_itself o.location))
          some_location k (o ∷ os) (inr later) = or_right (same_location o.location k) (list_any (λ (q : TypedLocation). same_location q.location k) os) (some_location k os later)

pub has_points_to : ProgramsHavePointsTo
has_points_to p well =
    let c = closed_pairs p in
    let known = known_pairs p (sides_known p well) in
    (points_of p c.test, all_derived p (is_location p) (points_of p c.test) known (λ k n t. c.sound (two k n) t) c.closed)

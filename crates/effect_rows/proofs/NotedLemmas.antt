-- One location more of the list is noted in the tables.
use Rattle.std.proofs.Common.{◌≡◌, ℕ, zero, suc, ◌+◌, ◌<◌, ◌==◌, List, [], ◌∷◌, ◌++◌, length, slice_get, slice_index_or, Bool, true, false, ◌&&◌, if◌then◌else◌, Option, Some, None, inl, inr, refl, sym, ap, ap₂, ◌∙◌, subst, arith, eqb-true, eq-eqb, length-append}
use Rattle.std.specs.Global.{Vec}
use Rattle.std.specs.Prelude.{Contains}
use Rattle.std.proofs.lemmas.Bool.{false≢true, and_parts, and_from, cases_lt}
use Rattle.std.proofs.lemmas.Option.{same_Some}
use Rattle.c_language.proofs.Options.{none_there}
use Rattle.c_tree.specs.declared.program.Program.{Program}
use Rattle.dep_model.specs.declared.location.Location.{Location}
use Rattle.dep_model.specs.declared.location.Part.{Part}
use Rattle.dep_model.specs.declared.location.Part.TheVariants as part
use Rattle.dep_model.specs.declared.location.Root.{Root}
use Rattle.dep_model.specs.declared.location.Root.TheVariants.{Variable, Result}
use Rattle.dep_model.specs.Denoted.{variable, inside}
use Rattle.dep_model.specs.DoingEffects.{result_of}
use Rattle.dep_model.specs.LocationLists.{location_list, AreListedOnce}
use Rattle.dep_model.specs.Locations.{same_root, same_part, locations}
use Rattle.dep_model.proofs.Membership.{IsIn, in_of_contains}
use Rattle.effect_rows.specs.declared.tables.Tables.{Tables}
use Rattle.effect_rows.specs.Noted.{IsListOnce, IsPlaceBelow, part_place, AreNoted, AreEmptyRows, IsWholeNoted, IsPartNoted}
use Rattle.effect_rows.specs.Pointed.{AreTables}
use Rattle.effect_rows.specs.Tables.{IsPlaceOf, places_at}
use Rattle.effect_rows.specs.Taken.{AreTaken}
use Rattle.effect_rows.proofs.PlaceRows.{root_is, same_itself, part_is, part_itself, contains_at}

-- ---- paths by their last steps

abbrev last_of : List Part → Option Part
last_of [] = None
last_of (h ∷ []) = Some h
last_of (h ∷ (g ∷ gs)) = last_of (g ∷ gs)

abbrev outer_of : List Part → List Part
outer_of [] = []
outer_of (h ∷ []) = []
outer_of (h ∷ (g ∷ gs)) = h ∷ outer_of (g ∷ gs)

last_step : (hs : List Part) (h : Part) → last_of (hs ++ h ∷ []) ≡ Some h
last_step [] h = refl
last_step (g ∷ []) h = refl
last_step (g ∷ (k ∷ hs)) h = last_step (k ∷ hs) h

outer_steps : (hs : List Part) (h : Part) → outer_of (hs ++ h ∷ []) ≡ hs
outer_steps [] h = refl
outer_steps (g ∷ []) h = refl
outer_steps (g ∷ (k ∷ hs)) h = ap (λ (gs : List Part). g ∷ gs) (outer_steps (k ∷ hs) h)

not_empty : (hs : List Part) (h : Part) → [] ≡ hs ++ h ∷ [] → ⊥
not_empty hs h e = none_there (ap last_of e ∙ last_step hs h)

same_last : (gs hs : List Part) (g h : Part) → gs ++ g ∷ [] ≡ hs ++ h ∷ [] → g ≡ h
same_last gs hs g h e = same_Some _ _ (sym (last_step gs g) ∙ ap last_of e ∙ last_step hs h)

same_outer : (gs hs : List Part) (g h : Part) → gs ++ g ∷ [] ≡ hs ++ h ∷ [] → gs ≡ hs
same_outer gs hs g h e = sym (outer_steps gs g) ∙ ap outer_of e ∙ outer_steps hs h

pub no_steps : (hs : List Part) → length hs ≡ 0 → hs ≡ []
no_steps [] e = refl
no_steps (h ∷ hs) e = absurd (omega (arith, e))

-- ---- lists without a place

pub empty_more : (n : ℕ) (rows new : List (Vec (Option ℕ))) (r : Vec (Option ℕ)) → AreEmptyRows n rows → r.items ≡ [] → new ≡ rows ++ r ∷ [] → AreEmptyRows (n + 1) new
empty_more n rows new r old none e = record {
  many = ap (λ (rs : List (Vec (Option ℕ))). length rs) e ∙ (let l = length-append rows (r ∷ []) in let m = old.many in omega (arith, l, m));
  empty = λ k. ap (λ rs. places_at rs k) e ∙ at_end rows k old.empty;
}
  where
    at_end : (rs : List (Vec (Option ℕ))) (k : ℕ) → ((j : ℕ) → places_at rs j ≡ []) → places_at (rs ++ r ∷ []) k ≡ []
    at_end [] zero h = none
    at_end [] (suc k) h = refl
    at_end (x ∷ rs) zero h = h 0
    at_end (x ∷ rs) (suc k) h = at_end rs k (λ j. h (suc j))

-- ---- a place in the list, one location later

module _ (list : List Location) (n : ℕ) (m : Location) (at : slice_get list n ≡ Some m) where
  here : (l : Location) → m ≡ l → IsPlaceBelow list (n + 1) l (Some n)
  here l e = record {
    found = λ i is. subst (λ k. slice_get list k ≡ Some l) (same_Some _ _ is) (at ∙ ap Some e);
    missing = λ none i low is. none_there (sym none);
  }

  elsewhere : (l : Location) (place : Option ℕ) → (m ≡ l → ⊥) → IsPlaceBelow list n l place → IsPlaceBelow list (n + 1) l place
  elsewhere l place other p = record {
    found = p.found;
    missing = λ none i low is. elim (cases_lt i n) [
      | inl under ↦ p.missing none i under is
      | inr over ↦ let same : i ≡ n = omega (arith, low, over) in other (same_Some _ _ (sym at ∙ ap (slice_get list) (sym same) ∙ is))
    ];
  }

  by_test : (l : Location) (b : Bool) (old new : Option ℕ) → (b ≡ true → m ≡ l) → (m ≡ l → b ≡ true) → new ≡ (if b then Some n else old) → IsPlaceBelow list n l old → IsPlaceBelow list (n + 1) l new
  by_test l true old new is when e p = subst (IsPlaceBelow list (n + 1) l) (sym e) (here l (is refl))
  by_test l false old new is when e p = subst (IsPlaceBelow list (n + 1) l) (sym e) (elsewhere l old (λ q. false≢true (when q)) p)

-- ---- the tables, one location later

module _ (list : List Location) (n : ℕ) (m : Location) (at : slice_get list n ≡ Some m) (old new : Tables) (noted : AreNoted list n old) where
  -- a whole object
  pub whole_noted : m.path ≡ [] → IsWholeNoted m.root n old new → AreNoted list (n + 1) new
  whole_noted short w = record {
    count_is = w.count_stays ∙ noted.count_is;
    rows = ap (λ ms. length ms.items) w.members_stay ∙ noted.rows;
    variables_are = λ x. by_test list n m at (variable x) (same_root m.root (Variable x)) _ _ (whole_is (Variable x)) (root_same (Variable x)) (w.variables x) (noted.variables_are x);
    results_are = λ f. by_test list n m at (result_of f) (same_root m.root (Result f)) _ _ (whole_is (Result f)) (root_same (Result f)) (w.results f) (noted.results_are f);
    parts_are = λ k h l there. elsewhere list n m at (inside l h) (part_place new k h) (λ e. not_empty l.path h (sym short ∙ ap (λ (o : Location). o.path) e))
        (subst (IsPlaceBelow list n (inside l h)) (parts_stay k h) (noted.parts_are k h l there));
  }
    where
      whole_is : (r : Root) → same_root m.root r ≡ true → m ≡ record { root = r; path = [] }
      whole_is r e = ap₂ {C = Location} (λ (s : Root) (hs : List Part). record { root = s; path = hs }) (root_is m.root r e) short

      root_same : (r : Root) → ◌≡◌ {A = Location} m (record { root = r; path = [] }) → same_root m.root r ≡ true
      root_same r e = subst (λ s. same_root m.root s ≡ true) (ap (λ (o : Location). o.root) e) (same_itself m.root)

      parts_stay : (k : ℕ) (h : Part) → part_place old k h ≡ part_place new k h
      parts_stay k (part.Member i) = ap (λ ms. slice_index_or (places_at ms.items k) i None) (sym w.members_stay)
      parts_stay k part.Element = ap (λ es. slice_index_or es.items k None) (sym w.elements_stay)

  -- what is a part isn't a whole object
  part_apart : (outer : List Part) (last : Part) → m.path ≡ outer ++ last ∷ [] → (r : Root) → ◌≡◌ {A = Location} m (record { root = r; path = [] }) → ⊥
  part_apart outer last is r e = not_empty outer last (sym (ap (λ (o : Location). o.path) e) ∙ is)

  -- where a part is inside a location, that is the location outside of it
  holder_is : (outer : List Part) (last : Part) → m.path ≡ outer ++ last ∷ [] → (l : Location) (h : Part) → m ≡ inside l h → (◌≡◌ {A = Location} l (record { root = m.root; path = outer })) × (last ≡ h)
  holder_is outer last is l h e =
      let paths = sym (ap (λ (o : Location). o.path) e) ∙ is in (
        ap₂ {C = Location} (λ (s : Root) (hs : List Part). record { root = s; path = hs }) (sym (ap (λ (o : Location). o.root) e)) (same_outer l.path outer h last paths),
        sym (same_last l.path outer h last paths),
      )

  -- a part of a location that isn't listed
  pub alone_noted : (outer : List Part) (last : Part) (holder : Location) → m.path ≡ outer ++ last ∷ [] → holder ≡ record { root = m.root; path = outer } → (Contains list holder → ⊥) → new ≡ old → AreNoted list (n + 1) new
  alone_noted outer last holder is made missing stays = subst (AreNoted list (n + 1)) (sym stays) (record {
    count_is = noted.count_is;
    rows = noted.rows;
    variables_are = λ x. elsewhere list n m at (variable x) _ (part_apart outer last is (Variable x)) (noted.variables_are x);
    results_are = λ f. elsewhere list n m at (result_of f) _ (part_apart outer last is (Result f)) (noted.results_are f);
    parts_are = λ k h l there. elsewhere list n m at (inside l h) _
        (λ e. missing (subst (Contains list) ((holder_is outer last is l h e).0 ∙ sym made) (contains_at list k l there))) (noted.parts_are k h l there);
  })

  -- a part of the location at place k
  pub part_noted : IsListOnce list → (outer : List Part) (last : Part) (holder : Location) (k : ℕ) → m.path ≡ outer ++ last ∷ [] → holder ≡ record { root = m.root; path = outer } → slice_get list k ≡ Some holder → IsPartNoted k last n old new → AreNoted list (n + 1) new
  part_noted once outer last holder k is made there w = record {
    count_is = w.count_stays ∙ noted.count_is;
    rows = w.rows_stay ∙ noted.rows;
    variables_are = λ x. subst (λ (v : Option ℕ). IsPlaceBelow list (n + 1) (variable x) v) (ap (λ vs. slice_index_or vs.items x None) (sym w.variables_stay))
        (elsewhere list n m at (variable x) _ (part_apart outer last is (Variable x)) (noted.variables_are x));
    results_are = λ f. subst (λ (v : Option ℕ). IsPlaceBelow list (n + 1) (result_of f) v) (ap (λ vs. slice_index_or vs.items f None) (sym w.results_stay))
        (elsewhere list n m at (result_of f) _ (part_apart outer last is (Result f)) (noted.results_are f));
    parts_are = λ j h l here. by_test list n m at (inside l h) ((k == j) && same_part last h) _ _ (is_there j h l here) (test_there j h l here) (w.parts j h) (noted.parts_are j h l here);
  }
    where
      is_there : (j : ℕ) (h : Part) (l : Location) → slice_get list j ≡ Some l → ((k == j) && same_part last h) ≡ true → m ≡ inside l h
      is_there j h l here e =
          let both = and_parts (k == j) (same_part last h) e in
          let same : holder ≡ l = same_Some _ _ (sym there ∙ ap (slice_get list) (eqb-true k j both.0) ∙ here) in
          ap₂ {C = Location} (λ (s : Root) (hs : List Part). record { root = s; path = hs }) (ap (λ (o : Location). o.root) (sym made ∙ same))
          (is ∙ ap₂ (λ (hs : List Part) (g : Part). hs ++ g ∷ []) (ap (λ (o : Location). o.path) (sym made ∙ same)) (part_is last h both.1))

      test_there : (j : ℕ) (h : Part) (l : Location) → slice_get list j ≡ Some l → m ≡ inside l h → ((k == j) && same_part last h) ≡ true
      test_there j h l here e =
          let w = holder_is outer last is l h e in
          and_from (k == j) (same_part last h) (eq-eqb k j (once k j holder there (here ∙ ap Some (w.0 ∙ sym made)))) (subst (λ g. same_part last g ≡ true) w.1 (part_itself last))

-- ---- all are noted

found_at : (list : List Location) (l : Location) → IsIn list l → (i : ℕ) × (i < length list) × (slice_get list i ≡ Some l)
found_at [] l h = absurd h
found_at (m ∷ list) l (inl e) = (zero, omega arith, ap Some e)
found_at (m ∷ list) l (inr h) = let w = found_at list l h in (suc w.0, omega (arith, w.1), w.2)

place_of_all : (list : List Location) (n : ℕ) (l : Location) (place : Option ℕ) → length list ≡ n → IsPlaceBelow list n l place → IsPlaceOf list l place
place_of_all list n l place all p = record {
  found = p.found;
  missing = λ none c. let w = found_at list l (in_of_contains list l c) in p.missing none w.0 (omega (arith, all, w.1)) w.2;
}

pub all_noted : (p : Program) (list : List Location) (n : ℕ) (t u : Tables) → AreListedOnce p → list ≡ location_list p → length (location_list p) ≡ length (locations p) → n ≡ length list → AreNoted list n t
    → u.count ≡ t.count → u.variables ≡ t.variables → u.results ≡ t.results → u.elements ≡ t.elements → u.members ≡ t.members → AreTaken p u.taken.items → AreTables p u
all_noted p list n t u once same long all noted count variables results elements members taken = record {
  once = once;
  count_is = count ∙ noted.count_is ∙ ap (λ (ls : List Location). length ls) same ∙ long;
  variables_are = λ x. whole (variable x) _ _ (ap (λ vs. slice_index_or vs.items x None) (sym variables)) (noted.variables_are x);
  results_are = λ f. whole (result_of f) _ _ (ap (λ vs. slice_index_or vs.items f None) (sym results)) (noted.results_are f);
  elements_are = λ k l there. whole (inside l part.Element) _ _ (ap (λ vs. slice_index_or vs.items k None) (sym elements)) (noted.parts_are k part.Element l (ap (λ ls. slice_get ls k) same ∙ there));
  members_are = λ k m l there. whole (inside l (part.Member m)) _ _ (ap (λ vs. slice_index_or (places_at vs.items k) m None) (sym members)) (noted.parts_are k (part.Member m) l (ap (λ ls. slice_get ls k) same ∙ there));
  taken_are = taken;
}
  where
    whole : (l : Location) (old new : Option ℕ) → old ≡ new → IsPlaceBelow list n l old → IsPlaceOf (location_list p) l new
    whole l old new e b = subst (λ ls. IsPlaceOf ls l new) same (place_of_all list n l new (sym all) (subst (IsPlaceBelow list n l) e b))

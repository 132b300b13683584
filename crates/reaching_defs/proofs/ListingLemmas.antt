-- What a set lists, as numbers are added, and as it is emptied and sorted.
use Rattle.std.proofs.Common.{◌≡◌, ◌≢◌, ℕ, ◌+◌, ◌<◌, ◌≤◌, ◌⊎◌, ◌↔◌, inl, inr, Bool, true, false, List, [], ◌∷◌, ◌++◌, length, get_or, set, replicate, Contains, refl, sym, ap, ◌∙◌, subst, arith}
use Rattle.std.specs.Prelude.{AllPairs, IsTrue, eqb}
use Rattle.std.specs.List.Sorted.{IsPermutation, IsSorted}
use Rattle.std.specs.Ordering.{nat_cmp}
use Rattle.std.proofs.lemmas.Bool.{cases_eq, cases_lt, false≢true}
use Rattle.std.proofs.lemmas.List.{get_or_default, get_or-set_same, get_or-set_other, get_or_append_left, length-append, length-set, length-replicate}
use Rattle.std.proofs.lemmas.List.Sums.{count_by-le-length}
use Rattle.std.proofs.lemmas.Bool.Decides.{Decides-eqb, nat_tests}
use Rattle.std.proofs.lemmas.List.Elements.{Contains-get_or, Contains-push, Contains-push_cases, Contains-append_left}
use Rattle.std.proofs.lemmas.List.Quantifiers.{all_pairs_push}
use Rattle.std.proofs.lemmas.List.Sorted.{Contains-permutation, IsPermutation-sym, IsNonDecreasingBy-from_sort}
use Rattle.std.proofs.lemmas.Map.Keys.{IsDistinct-IsPermutation}
use Rattle.std.proofs.lemmas.Map.Made.{AllPairs-from_IsDistinct, IsDistinct-from_AllPairs}
use Rattle.bit_rows.specs.Sets.{has}
use Rattle.bit_rows.proofs.SetLemmas.{has-empty}
use Rattle.rule_closure.proofs.ListLemmas.{contains_none}
use Rattle.rule_closure.proofs.SetLemmas.{has_in_range, has_set, has_set_cases, has_set_same, count-set, count_room, same_members}
use Rattle.reaching_defs.specs.Listings.{AreMarked, GoesOn, IsAmongFirst}

-- ---- lists that go on
pub goes_on_same : (xs : List ℕ) → GoesOn xs xs
goes_on_same xs = record { more = omega arith; front = λ i low. refl }

pub goes_on_twice : (xs ys zs : List ℕ) → GoesOn xs ys → GoesOn ys zs → GoesOn xs zs
goes_on_twice xs ys zs a b = record { more = omega (arith, a.more, b.more); front = λ i low. b.front i (omega (arith, low, a.more)) ∙ a.front i low }

-- the element at a place is an element
pub at_place : (xs : List ℕ) (i : ℕ) → i < length xs → Contains xs (get_or xs i 0)
at_place xs i low = (i, low, get_or_default xs i (get_or xs i 0) 0 low)

pub still_there : (xs ys : List ℕ) → GoesOn xs ys → (w : ℕ) → Contains xs w → Contains ys w
still_there xs ys on w m =
    let low : m.0 < length ys = omega (arith, on.more, m.1) in
    (m.0, low, get_or_default ys m.0 w 0 low ∙ on.front m.0 m.1 ∙ get_or_default xs m.0 0 w m.1 ∙ m.2)

-- ---- the first elements of a list
pub first_more : (xs : List ℕ) (at u w : ℕ) → at < length xs → get_or xs at u ≡ u → IsAmongFirst xs (at + 1) w → IsAmongFirst xs at w ⊎ (u ≡ w)
first_more xs at u w low here f = elim (cases_eq f.0 at) [
  | inl q ↦ inr (sym here ∙ get_or_default xs at u w low ∙ ap (λ k. get_or xs k w) (sym q) ∙ f.2)
  | inr q ↦ inl (f.0, omega (arith, f.1, q), f.2)
]

pub first_kept : (xs : List ℕ) (at w : ℕ) → IsAmongFirst xs at w → IsAmongFirst xs (at + 1) w
first_kept xs at w f = (f.0, omega (arith, f.1), f.2)

-- ---- marks and their list
module _ (marks : List Bool) (members : List ℕ) (room : ℕ) (m : AreMarked marks members room) where
  pub below_bound : (w : ℕ) → Contains members w → w < length marks
  below_bound w h = has_in_range marks w ((m.exact w).1 h)

  pub few_members : length members ≤ length marks
  few_members = omega (arith, m.few, count_by-le-length (λ (b : Bool). b) marks)

  -- ---- a number that isn't there is added behind the others
  module _ (w : ℕ) (low : w < length marks) (none : has marks w ≡ false) where
    pub room_for : length members < room
    room_for = omega (arith, m.few, m.wide, count_room marks w low none)

    pub added_marked : AreMarked (set marks w true) (members ++ w ∷ []) room
    added_marked = record {
      exact = λ u. (
        λ h. elim (has_set_cases marks w u h) [
          | inl old ↦ Contains-append_left members (w ∷ []) u ((m.exact u).0 old)
          | inr q ↦ subst (Contains (members ++ w ∷ [])) (sym q) (Contains-push members w)
        ],
        λ h. elim (Contains-push_cases members w u h) [
          | inl old ↦ has_set marks w u ((m.exact u).1 old)
          | inr q ↦ subst (λ y. IsTrue (has (set marks w true) y)) q (has_set_same marks w low)
        ],
      );
      few = omega (arith, m.few, count-set marks w low none, length-append members (w ∷ []));
      distinct = all_pairs_push (λ a b. a ≢ b) members w m.distinct (λ k d below e. absurd (false≢true (sym none ∙ ap (has marks) (sym e) ∙ (m.exact (get_or members k d)).1 (Contains-get_or members k d below))));
      wide = omega (arith, m.wide, length-set marks w true);
    }

  -- ---- the members in another order
  module _ (moved : List ℕ) (p : IsPermutation members moved) where
    pub same_moved : (u : ℕ) → Contains moved u ↔ Contains members u
    same_moved u = (Contains-permutation moved members u (IsPermutation-sym members moved p), Contains-permutation members moved u p)

    distinct_moved : AllPairs (λ a b. a ≢ b) moved
    distinct_moved =
        AllPairs-from_IsDistinct Decides-eqb moved (IsDistinct-IsPermutation eqb (λ x y. grind (arith, nat_tests)) members moved p (IsDistinct-from_AllPairs Decides-eqb members m.distinct))

    pub moved_marked : length moved ≡ length members → AreMarked marks moved room
    moved_marked long = record {
      exact = λ u. ((λ h. (same_moved u).1 ((m.exact u).0 h)), λ h. (m.exact u).1 ((same_moved u).0 h));
      few = omega (arith, m.few, long);
      distinct = distinct_moved;
      wide = m.wide;
    }

    pub moved_ascend : IsSorted nat_cmp moved → AllPairs (λ a b. a < b) moved
    moved_ascend sorted i j d before low =
        let up = IsNonDecreasingBy-from_sort (λ (k : ℕ). k) moved sorted i j d (omega (arith, before)) low in
        let apart = distinct_moved i j d before low in
        omega (arith, up, apart)

-- what an addition leaves, whether the number was there or not
pub added_there : (marks : List Bool) (members : List ℕ) (room w : ℕ) → AreMarked marks members room → has marks w ≡ true → (u : ℕ) → Contains members u ↔ (Contains members u ⊎ (u ≡ w))
added_there marks members room w m here u = (λ h. inl h, λ g. elim g [ inl h ↦ h | inr q ↦ subst (Contains members) (sym q) ((m.exact w).0 here) ])

pub added_new : (members : List ℕ) (w u : ℕ) → Contains (members ++ w ∷ []) u ↔ (Contains members u ⊎ (u ≡ w))
added_new members w u = (
  λ h. elim (Contains-push_cases members w u h) [ inl old ↦ inl old | inr q ↦ inr (sym q) ],
  λ g. elim g [ inl old ↦ Contains-append_left members (w ∷ []) u old | inr q ↦ subst (Contains (members ++ w ∷ [])) (sym q) (Contains-push members w) ],
)

pub goes_on_push : (xs : List ℕ) (w : ℕ) → GoesOn xs (xs ++ w ∷ [])
goes_on_push xs w = record { more = omega (arith, length-append xs (w ∷ [])); front = λ i low. get_or_append_left xs (w ∷ []) 0 i low }

-- ---- no marks
pub none_marked : (n room : ℕ) → n ≤ room → AreMarked (replicate n false) [] room
none_marked n room fits = record {
  exact = λ w. (λ h. absurd (false≢true (sym (has-empty n w) ∙ h)), λ h. absurd (contains_none w h));
  few = omega arith;
  distinct = λ i j d before low. absurd (omega (arith, low));
  wide = omega (arith, length-replicate n false, fits);
}

-- all that is marked stands at a place of the list from `at` on
pub record AreLeft (n : ℕ) (members : List ℕ) (at : ℕ) (marks : List Bool) : Type 0 where
  pub size : length marks ≡ n
  pub left : (w : ℕ) → IsTrue (has marks w) → (i : ℕ) × (at ≤ i) × (i < length members) × (get_or members i w ≡ w)

pub left_begin : (members : List ℕ) (marks : List Bool) → ((w : ℕ) → IsTrue (has marks w) ↔ Contains members w) → AreLeft (length marks) members 0 marks
left_begin members marks all = record { size = refl; left = λ w h. let m = (all w).0 h in (m.0, omega arith, m.1, m.2) }

pub left_less : (n : ℕ) (members : List ℕ) (at u : ℕ) (marks : List Bool) → AreLeft n members at marks → at < length members → get_or members at u ≡ u → AreLeft n members (at + 1) (set marks u false)
left_less n members at u marks l low here = record {
  size = length-set marks u false ∙ l.size;
  left = λ w h. elim (cases_eq w u) [
    | inl q ↦ absurd (unmarked w h q)
    | inr q ↦
        let old = l.left w (sym (get_or-set_other marks u w false false q) ∙ h) in
        elim (cases_eq old.0 at) [
          | inl e ↦ absurd (q (sym old.3 ∙ ap (λ k. get_or members k w) e ∙ get_or_default members at w u low ∙ here))
          | inr e ↦ (old.0, omega (arith, old.1, e), old.2, old.3)
        ]
  ];
}
  where
    unmarked : (w : ℕ) → IsTrue (has (set marks u false) w) → w ≡ u → ⊥
    unmarked w h q = elim (cases_lt u (length marks)) [
      | inl inside ↦ false≢true (sym (ap (has (set marks u false)) q ∙ get_or-set_same marks u false false inside) ∙ h)
      | inr outside ↦ let short : w < length (set marks u false) = has_in_range (set marks u false) w h in absurd (omega (arith, short, outside, q, length-set marks u false))
    ]

pub left_none : (n : ℕ) (members : List ℕ) (at : ℕ) (marks : List Bool) → AreLeft n members at marks → length members ≤ at → marks ≡ replicate n false
left_none n members at marks l end =
    same_members marks (replicate n false) (l.size ∙ sym (length-replicate n false)) (λ w. (
      (λ h. absurd (let p = l.left w h in omega (arith, p.1, p.2, end))),
      λ h. absurd (false≢true (sym (has-empty n w) ∙ h)),
    ))

-- Two ascending lists of edges become one, edge by edge.
use Rattle.std.proofs.Common.{◌≡◌, ℕ, zero, suc, ◌+◌, ◌-◌, ◌<◌, ◌≤◌, ◌⊎◌, ◌↔◌, inl, inr, List, [], ◌∷◌, ◌++◌, length, get_or, drop, take, Contains, refl, sym, ap, ◌∙◌, subst, arith}
use Rattle.std.proofs.lemmas.List.{append-nil, drop_all, drop_more, take_all, length-drop}
use Rattle.std.proofs.lemmas.List.Elements.{Contains-get_or, Contains-push, Contains-push_cases, Contains-append_left, Contains-append_right, Contains-append_cases}
use Rattle.std.proofs.lemmas.List.Kept.{AllPairs-cons}
use Rattle.std.proofs.lemmas.List.Quantifiers.{all_pairs_push}
use Rattle.rule_closure.proofs.ListLemmas.{contains_none, contains_cases}
use Rattle.dep_model.specs.declared.edge.Edge.{Edge}
use Rattle.dep_model.specs.EdgeOrder.{IsBefore, AreAscendingEdges}
use Rattle.pdg.proofs.EdgeLess.{before_before}

-- ---- ascending lists

pub none_ascend : AreAscendingEdges []
none_ascend i j d before low = absurd (omega (arith, low))

tail_ascends : (x : Edge) (xs : List Edge) → AreAscendingEdges (x ∷ xs) → AreAscendingEdges xs
tail_ascends x xs up i j d lt low = up (suc i) (suc j) d (omega (arith, lt)) (omega (arith, low))

-- an edge is before each edge of a list
abbrev pub LeadsAll : Edge → List Edge → Type 0
LeadsAll x ys = (y : Edge) → Contains ys y → IsBefore x y

-- each edge of a list is before each of another
abbrev pub AllLead : List Edge → List Edge → Type 0
AllLead xs ys = (x : Edge) → Contains xs x → LeadsAll x ys

head_leads : (x : Edge) (xs : List Edge) → AreAscendingEdges (x ∷ xs) → LeadsAll x xs
head_leads x xs up y (k, low, is) = subst (IsBefore x) is (up zero (suc k) y (omega arith) (omega (arith, low)))

leads_head : (x y : Edge) (ys : List Edge) → AreAscendingEdges (y ∷ ys) → IsBefore x y → LeadsAll x (y ∷ ys)
leads_head x y ys up lt z m = elim (contains_cases y ys z m) [
  | inl q ↦ subst (IsBefore x) q lt
  | inr n ↦ before_before x y z lt (head_leads y ys up z n)
]

here : (x : Edge) (xs : List Edge) → Contains (x ∷ xs) x
here x xs = (zero, omega arith, refl)

there : (x : Edge) (xs : List Edge) (e : Edge) → Contains xs e → Contains (x ∷ xs) e
there x xs e (k, low, is) = (suc k, omega (arith, low), is)

joined_ascend : (xs ys : List Edge) → AreAscendingEdges xs → AreAscendingEdges ys → AllLead xs ys → AreAscendingEdges (xs ++ ys)
joined_ascend [] ys up up' lead = up'
joined_ascend (x ∷ xs) ys up up' lead =
    let all : LeadsAll x (xs ++ ys) = λ z m. elim (Contains-append_cases xs ys z m) [ inl a ↦ head_leads x xs up z a | inr b ↦ lead x (here x xs) z b ] in
    let tail = joined_ascend xs ys (tail_ascends x xs up) up' (λ e m. lead e (there x xs e m)) in
    AllPairs-cons IsBefore x (xs ++ ys) (λ k d low. all (get_or (xs ++ ys) k d) (Contains-get_or (xs ++ ys) k d low)) tail

-- ---- a merge that has come to some place

-- the edges of two lists: those that are done, and what is left of the two
pub record IsMerge (left right done xs ys : List Edge) : Type 0 where
  pub done_up : AreAscendingEdges done
  pub left_up : AreAscendingEdges xs
  pub right_up : AreAscendingEdges ys
  pub left_after : AllLead done xs
  pub right_after : AllLead done ys
  pub same : (e : Edge) → (Contains done e ⊎ (Contains xs e ⊎ Contains ys e)) ↔ (Contains left e ⊎ Contains right e)

module _ (left right : List Edge) where
  pub merge_begins : AreAscendingEdges left → AreAscendingEdges right → IsMerge left right [] left right
  merge_begins up up' = record {
    done_up = none_ascend;
    left_up = up;
    right_up = up';
    left_after = λ x m. absurd (contains_none x m);
    right_after = λ x m. absurd (contains_none x m);
    same = λ e. (λ h. elim h [ inl m ↦ absurd (contains_none e m) | inr k ↦ k ], λ k. inr k);
  }

  -- an edge is done that leads all that is left
  step : (done xs ys xs' ys' : List Edge) (x : Edge) → IsMerge left right done xs ys → AreAscendingEdges xs' → AreAscendingEdges ys'
      → LeadsAll x xs' → LeadsAll x ys' → ((e : Edge) → (Contains xs e ⊎ Contains ys e) ↔ ((x ≡ e) ⊎ (Contains xs' e ⊎ Contains ys' e)))
      → IsMerge left right (done ++ x ∷ []) xs' ys'
  step done xs ys xs' ys' x m up up' lead lead' split =
      let was : (e z : Edge) → Contains done e → (Contains xs z ⊎ Contains ys z)
      → IsBefore e z = λ e z a k. elim k [ inl h ↦ m.left_after e a z h | inr h ↦ m.right_after e a z h ] in
      record {
        done_up = all_pairs_push IsBefore done x m.done_up (λ k d low. was (get_or done k d) x (Contains-get_or done k d low) ((split x).1 (inl refl)));
        left_up = up;
        right_up = up';
        left_after = λ e a z b. elim (Contains-push_cases done x e a) [
          | inl old ↦ was e z old ((split z).1 (inr (inl b)))
          | inr q ↦ subst (λ w. IsBefore w z) q (lead z b)
        ];
        right_after = λ e a z b. elim (Contains-push_cases done x e a) [
          | inl old ↦ was e z old ((split z).1 (inr (inr b)))
          | inr q ↦ subst (λ w. IsBefore w z) q (lead' z b)
        ];
        same = λ e. (
          λ h. (m.same e).0 (elim h [
            | inl a ↦ elim (Contains-push_cases done x e a) [ inl old ↦ inl old | inr q ↦ inr ((split e).1 (inl q)) ]
            | inr k ↦ inr ((split e).1 (inr k))
          ]),
          λ g. elim ((m.same e).1 g) [
            | inl old ↦ inl (Contains-append_left done (x ∷ []) e old)
            | inr k ↦ elim ((split e).0 k) [ inl q ↦ inl (subst (Contains (done ++ x ∷ [])) q (Contains-push done x)) | inr k' ↦ inr k' ]
          ],
        );
      }

  pub left_taken : (done xs ys : List Edge) (x y : Edge) → IsMerge left right done (x ∷ xs) (y ∷ ys) → IsBefore x y
      → IsMerge left right (done ++ x ∷ []) xs (y ∷ ys)
  left_taken done xs ys x y m lt =
      step done (x ∷ xs) (y ∷ ys) xs (y ∷ ys) x m (tail_ascends x xs m.left_up) m.right_up (head_leads x xs m.left_up) (leads_head x y ys m.right_up lt) (λ e. (
        λ h. elim h [
          | inl a ↦ elim (contains_cases x xs e a) [ inl q ↦ inl q | inr b ↦ inr (inl b) ]
          | inr b ↦ inr (inr b)
        ],
        λ k. elim k [
          | inl q ↦ inl (subst (Contains (x ∷ xs)) q (here x xs))
          | inr h ↦ elim h [ inl a ↦ inl (there x xs e a) | inr b ↦ inr b ]
        ],
      ))

  pub right_taken : (done xs ys : List Edge) (x y : Edge) → IsMerge left right done (x ∷ xs) (y ∷ ys) → IsBefore y x
      → IsMerge left right (done ++ y ∷ []) (x ∷ xs) ys
  right_taken done xs ys x y m lt =
      step done (x ∷ xs) (y ∷ ys) (x ∷ xs) ys y m m.left_up (tail_ascends y ys m.right_up) (leads_head y x xs m.left_up lt) (head_leads y ys m.right_up) (λ e. (
        λ h. elim h [
          | inl a ↦ inr (inl a)
          | inr b ↦ elim (contains_cases y ys e b) [ inl q ↦ inl q | inr c ↦ inr (inr c) ]
        ],
        λ k. elim k [
          | inl q ↦ inr (subst (Contains (y ∷ ys)) q (here y ys))
          | inr h ↦ elim h [ inl a ↦ inl a | inr b ↦ inr (there y ys e b) ]
        ],
      ))

  -- an edge of both lists is done once
  pub both_taken : (done xs ys : List Edge) (x y : Edge) → IsMerge left right done (x ∷ xs) (y ∷ ys) → x ≡ y
      → IsMerge left right (done ++ x ∷ []) xs ys
  both_taken done xs ys x y m is =
      let lead : LeadsAll x ys = subst (λ z. LeadsAll z ys) (sym is) (head_leads y ys m.right_up) in
      step done (x ∷ xs) (y ∷ ys) xs ys x m (tail_ascends x xs m.left_up) (tail_ascends y ys m.right_up) (head_leads x xs m.left_up) lead (λ e. (
        λ h. elim h [
          | inl a ↦ elim (contains_cases x xs e a) [ inl q ↦ inl q | inr b ↦ inr (inl b) ]
          | inr b ↦ elim (contains_cases y ys e b) [ inl q ↦ inl (is ∙ q) | inr c ↦ inr (inr c) ]
        ],
        λ k. elim k [
          | inl q ↦ inl (subst (Contains (x ∷ xs)) q (here x xs))
          | inr h ↦ elim h [ inl a ↦ inl (there x xs e a) | inr b ↦ inr (there y ys e b) ]
        ],
      ))

  -- one of the lists is done
  abbrev pub IsLast : List Edge → List Edge → Type 0
  IsLast xs ys = (xs ≡ []) ⊎ (ys ≡ [])

  pub merge_ascends : (done xs ys : List Edge) → IsMerge left right done xs ys → IsLast xs ys → AreAscendingEdges ((done ++ xs) ++ ys)
  merge_ascends done xs ys m (inl none) =
      let there_up : AreAscendingEdges (done ++ ys) = joined_ascend done ys m.done_up m.right_up m.right_after in
      subst (λ zs. AreAscendingEdges (zs ++ ys)) (sym (ap (λ zs. done ++ zs) none ∙ append-nil done)) there_up
  merge_ascends done xs ys m (inr none) =
      let there_up : AreAscendingEdges (done ++ xs) = joined_ascend done xs m.done_up m.left_up m.left_after in
      subst AreAscendingEdges (sym (ap (λ zs. (done ++ xs) ++ zs) none ∙ append-nil (done ++ xs))) there_up

  pub merge_is_exact : (done xs ys : List Edge) → IsMerge left right done xs ys → (e : Edge)
      → Contains ((done ++ xs) ++ ys) e ↔ (Contains left e ⊎ Contains right e)
  merge_is_exact done xs ys m e = (
    λ h. (m.same e).0 (elim (Contains-append_cases (done ++ xs) ys e h) [
      | inl a ↦ elim (Contains-append_cases done xs e a) [ inl old ↦ inl old | inr b ↦ inr (inl b) ]
      | inr c ↦ inr (inr c)
    ]),
    λ g. elim ((m.same e).1 g) [
      | inl old ↦ Contains-append_left (done ++ xs) ys e (Contains-append_left done xs e old)
      | inr k ↦ elim k [
        | inl a ↦ Contains-append_left (done ++ xs) ys e (Contains-append_right done xs e a)
        | inr b ↦ Contains-append_right (done ++ xs) ys e b
      ]
    ],
  )

  -- ---- the same by places
  module _ (i j : ℕ) (d : Edge) (low : i < length left) (low' : j < length right) (done : List Edge) (m : IsMerge left right done (drop i left) (drop j right)) where
    abbrev x : Edge
    x = get_or left i d

    abbrev y : Edge
    y = get_or right j d

    both_at : IsMerge left right done (x ∷ drop (i + 1) left) (y ∷ drop (j + 1) right)
    both_at =
        let right_at = subst (IsMerge left right done (drop i left)) (drop_more right j d low') m in
        subst (λ xs. IsMerge left right done xs (y ∷ drop (j + 1) right)) (drop_more left i d low) right_at

    pub left_pushed : IsBefore x y → IsMerge left right (done ++ x ∷ []) (drop (i + 1) left) (drop j right)
    left_pushed lt =
        let taken = left_taken done (drop (i + 1) left) (drop (j + 1) right) x y both_at lt in
        subst (IsMerge left right (done ++ x ∷ []) (drop (i + 1) left)) (sym (drop_more right j d low')) taken

    pub right_pushed : IsBefore y x → IsMerge left right (done ++ y ∷ []) (drop i left) (drop (j + 1) right)
    right_pushed lt =
        let taken = right_taken done (drop (i + 1) left) (drop (j + 1) right) x y both_at lt in
        subst (λ xs. IsMerge left right (done ++ y ∷ []) xs (drop (j + 1) right)) (sym (drop_more left i d low)) taken

    pub both_pushed : x ≡ y → IsMerge left right (done ++ x ∷ []) (drop (i + 1) left) (drop (j + 1) right)
    both_pushed is = both_taken done (drop (i + 1) left) (drop (j + 1) right) x y both_at is

  -- all that is left of a list
  abbrev pub rest : List Edge → ℕ → List Edge
  rest xs i = take (length xs - i) (drop i xs)

  rest_is : (xs : List Edge) (i : ℕ) → rest xs i ≡ drop i xs
  rest_is xs i = take_all (length xs - i) (drop i xs) (omega (arith, length-drop i xs))

  one_ends : (i j : ℕ) → (length left ≤ i) ⊎ (length right ≤ j) → IsLast (drop i left) (drop j right)
  one_ends i j (inl end) = inl (drop_all i left end)
  one_ends i j (inr end) = inr (drop_all j right end)

  module _ (i j : ℕ) (done all : List Edge) (m : IsMerge left right done (drop i left) (drop j right)) (is : all ≡ (done ++ rest left i) ++ rest right j) where
    all_is : all ≡ (done ++ drop i left) ++ drop j right
    all_is = is ∙ ap (λ xs. (done ++ xs) ++ rest right j) (rest_is left i) ∙ ap (λ ys. (done ++ drop i left) ++ ys) (rest_is right j)

    pub all_ascend : (length left ≤ i) ⊎ (length right ≤ j) → AreAscendingEdges all
    all_ascend end = subst AreAscendingEdges (sym all_is) (merge_ascends done (drop i left) (drop j right) m (one_ends i j end))

    pub all_exact : (e : Edge) → Contains all e ↔ (Contains left e ⊎ Contains right e)
    all_exact e = subst (λ xs. Contains xs e ↔ (Contains left e ⊎ Contains right e)) (sym all_is) (merge_is_exact done (drop i left) (drop j right) m e)

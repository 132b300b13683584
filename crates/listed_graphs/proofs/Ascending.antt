-- The items of a list in ascending order, each once.
use Rattle.std.proofs.Common.{◌≡◌, ◌↔◌, ◌⊎◌, inl, inr, List, [], ◌∷◌, get_or, sym, ◌∙◌, subst, arith}
use Rattle.std.specs.Prelude.{All, AllPairs}
use Rattle.std.proofs.lemmas.List.Elements.{Contains-get_or}
use Rattle.std.proofs.lemmas.List.Kept.{AllPairs-cons}
use Rattle.dep_model.proofs.Membership.{IsIn, in_of_contains}

module _ {A : Type 0} (R : A → A → Type 0) (trans : (x y z : A) → R x y → R y z → R x z) (order : (x y : A) → R x y ⊎ ((x ≡ y) ⊎ R y x)) where
  abbrev Ascends : List A → Type 0
  Ascends [] = Unit {0}
  Ascends (x ∷ xs) = ((y : A) → IsIn xs y → R x y) × Ascends xs

  -- an ascending list with one item more than another
  record Inserted (x : A) (ys : List A) : Type 0 where
    items : List A
    ascends : Ascends items
    exact : (z : A) → IsIn items z ↔ ((x ≡ z) ⊎ IsIn ys z)

  insert : (x : A) (ys : List A) → Ascends ys → Inserted x ys
  insert x [] h = record { items = x ∷ []; ascends = (λ y k. absurd k, tt); exact = λ z. (λ k. k, λ k. k) }
  insert x (y ∷ ys) h = elim (order x y) [
    | inl less ↦ record {
      items = x ∷ (y ∷ ys);
      ascends = (λ z k. elim k [ inl same ↦ subst (R x) same less | inr later ↦ trans x y z less (h.0 z later) ], h);
      exact = λ z. (λ k. k, λ k. k);
    }
    | inr (inl same) ↦ record {
      items = y ∷ ys;
      ascends = h;
      exact = λ z. (λ k. inr k, λ k. elim k [ inl is ↦ inl (sym same ∙ is) | inr there ↦ there ]);
    }
    | inr (inr more) ↦
        let r = insert x ys h.1 in
        record {
          items = y ∷ r.items;
          ascends = (λ z k. elim ((r.exact z).0 k) [ inl is ↦ subst (R y) is more | inr there ↦ h.0 z there ], r.ascends);
          exact = λ z. (
            λ k. elim k [ inl is ↦ inr (inl is) | inr later ↦ elim ((r.exact z).0 later) [ inl new ↦ inl new | inr old ↦ inr (inr old) ] ],
            λ k. elim k [ inl new ↦ inr ((r.exact z).1 (inl new)) | inr old ↦ elim old [ inl is ↦ inl is | inr later ↦ inr ((r.exact z).1 (inr later)) ] ],
          );
        }
  ]

  -- an ascending list with the same items
  pub record Sorted (xs : List A) : Type 0 where
    pub items : List A
    pub ascends : Ascends items
    pub exact : (z : A) → IsIn items z ↔ IsIn xs z

  pub sorted : (xs : List A) → Sorted xs
  sorted [] = record { items = []; ascends = tt; exact = λ z. (λ k. k, λ k. k) }
  sorted (x ∷ xs) =
      let s = sorted xs in
      let r = insert x s.items s.ascends in
      record {
        items = r.items;
        ascends = r.ascends;
        exact = λ z. (
          λ k. elim ((r.exact z).0 k) [ inl is ↦ inl is | inr there ↦ inr ((s.exact z).0 there) ],
          λ k. elim k [ inl is ↦ (r.exact z).1 (inl is) | inr there ↦ (r.exact z).1 (inr ((s.exact z).1 there)) ],
        );
      }

  each_above : (x : A) (xs : List A) → ((y : A) → IsIn xs y → R x y) → All (R x) xs
  each_above x xs h = λ i d lt. h (get_or xs i d) (in_of_contains xs (get_or xs i d) (Contains-get_or xs i d lt))

  pub all_pairs_of : (xs : List A) → Ascends xs → AllPairs R xs
  all_pairs_of [] h = λ i j d lt low. absurd (omega (arith, low))
  all_pairs_of (x ∷ xs) h = AllPairs-cons R x xs (each_above x xs h.0) (all_pairs_of xs h.1)

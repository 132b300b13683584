-- Lists of exactly the things that have a property, put together from smaller ones.
use Rattle.std.proofs.Common.{◌≡◌, ◌↔◌, ℕ, zero, suc, ◌<◌, ◌⊎◌, inl, inr, List, [], ◌∷◌, ◌++◌, map, length, Some, refl, sym, ◌∙◌, subst, arith}
use Rattle.std.specs.Prelude.{slice_get}
use Rattle.std.proofs.lemmas.Bool.{cases_eq}
use Rattle.std.proofs.lemmas.Option.{same_Some}
use Rattle.dep_model.proofs.Membership.{IsIn, in_first, in_second, in_either, in_map}

-- a list of exactly the things with a property
pub record Listing {A : Type 0} (P : A → Type 0) : Type 0 where
  pub items : List A
  pub exact : (x : A) → IsIn items x ↔ P x

-- ---- numbers below a bound

abbrev pub numbers_below : ℕ → List ℕ
numbers_below zero = []
numbers_below (suc n) = n ∷ numbers_below n

pub is_below : (n k : ℕ) → IsIn (numbers_below n) k → k < n
is_below zero k h = absurd h
is_below (suc n) k (inl same) = omega (arith, same)
is_below (suc n) k (inr later) = let lt = is_below n k later in omega (arith, lt)

pub below_is : (n k : ℕ) → k < n → IsIn (numbers_below n) k
below_is zero k lt = absurd (omega (arith, lt))
below_is (suc n) k lt = elim (cases_eq n k) [
  | inl same ↦ inl same
  | inr other ↦ inr (below_is n k (omega (arith, lt, other)))
]

-- ---- pairs

pub record Two (A B : Type 0) : Type 0 where
  pub first : A
  pub second : B

abbrev pub two : {A B : Type 0} → A → B → Two A B
two a b = record { first = a; second = b }

-- each of some things with each of others
abbrev pub all_pairs : {A B : Type 0} → List A → List B → List (Two A B)
all_pairs [] ys = []
all_pairs (x ∷ xs) ys = map (two x) ys ++ all_pairs xs ys

pub pair_in : {A B : Type 0} (xs : List A) (ys : List B) (x : A) (y : B) → IsIn xs x → IsIn ys y → IsIn (all_pairs xs ys) (two x y)
pair_in [] ys x y h k = absurd h
pair_in (z ∷ xs) ys x y (inl same) k = in_first (map (two z) ys) (all_pairs xs ys) (two x y) (subst (λ w. IsIn (map (two z) ys) (two w y)) same (in_map (two z) ys y k))
pair_in (z ∷ xs) ys x y (inr h) k = in_second (map (two z) ys) (all_pairs xs ys) (two x y) (pair_in xs ys x y h k)

-- ---- listings

pub nothing : {A : Type 0} (P : A → Type 0) → ((x : A) → P x → ⊥) → Listing P
nothing P none = record { items = []; exact = λ x. (λ h. absurd h, λ h. none x h) }

pub only : {A : Type 0} (y : A) → Listing (λ x. x ≡ y)
only y = record { items = y ∷ []; exact = λ x. (λ h. elim h [ inl same ↦ sym same | inr none ↦ absurd none ], λ h. inl (sym h)) }

-- of another property that is the same
pub as_same : {A : Type 0} (P Q : A → Type 0) → ((x : A) → P x ↔ Q x) → Listing P → Listing Q
as_same P Q same l = record {
  items = l.items;
  exact = λ x. (λ h. (same x).0 ((l.exact x).0 h), λ h. (l.exact x).1 ((same x).1 h));
}

pub either : {A : Type 0} (P Q : A → Type 0) → Listing P → Listing Q → Listing (λ x. P x ⊎ Q x)
either P Q l m = record {
  items = l.items ++ m.items;
  exact = λ x. (
    λ h. elim (in_either l.items m.items x h) [ inl a ↦ inl ((l.exact x).0 a) | inr b ↦ inr ((m.exact x).0 b) ],
    λ h. elim h [ inl a ↦ in_first l.items m.items x ((l.exact x).1 a) | inr b ↦ in_second l.items m.items x ((m.exact x).1 b) ],
  );
}

-- what has the property for one of some things
pub among : {A B : Type 0} (P : B → A → Type 0) (ys : List B) → ((y : B) → Listing (P y)) → Listing (λ x. (y : B) × IsIn ys y × P y x)
among P [] each = nothing _ (λ x h. h.1)
among P (y ∷ ys) each =
    let l = each y in
    let m = among P ys each in
    record {
      items = l.items ++ m.items;
      exact = λ x. (
        λ h. elim (in_either l.items m.items x h) [
          | inl a ↦ (y, inl refl, (l.exact x).0 a)
          | inr b ↦ let w = (m.exact x).0 b in (w.0, inr w.1, w.2)
        ],
        λ h. elim h.1 [
          | inl same ↦ in_first l.items m.items x ((l.exact x).1 (subst (λ z. P z x) (sym same) h.2))
          | inr later ↦ in_second l.items m.items x ((m.exact x).1 (h.0, later, h.2))
        ],
      );
    }

-- what has it for a number below a bound
pub below : {A : Type 0} (P : ℕ → A → Type 0) (n : ℕ) → ((k : ℕ) → k < n → Listing (P k)) → Listing (λ x. (k : ℕ) × (k < n) × P k x)
below P zero each = nothing _ (λ x h. absurd (let lt = h.1 in omega (arith, lt)))
below P (suc n) each =
    let l = each n (omega arith) in
    let m = below P n (λ k lt. each k (omega (arith, lt))) in
    record {
      items = l.items ++ m.items;
      exact = λ x. (
        λ h. elim (in_either l.items m.items x h) [
          | inl a ↦ (n, omega arith, (l.exact x).0 a)
          | inr b ↦ let w = (m.exact x).0 b in (w.0, (let lt = w.1 in omega (arith, lt)), w.2)
        ],
        λ h. elim (cases_eq h.0 n) [
          | inl same ↦ in_first l.items m.items x ((l.exact x).1 (subst (λ z. P z x) same h.2))
          | inr other ↦ in_second l.items m.items x ((m.exact x).1 (h.0, (let lt = h.1 in omega (arith, lt, other)), h.2))
        ],
      );
    }

-- what has it, where a condition holds
pub where_so : {A : Type 0} (C : Type 0) (P : A → Type 0) → C ⊎ (C → ⊥) → (C → Listing P) → Listing (λ x. C × P x)
where_so C P (inl holds) l =
    let m = l holds in
    record { items = m.items; exact = λ x. (λ h. (holds, (m.exact x).0 h), λ h. (m.exact x).1 h.1) }
where_so C P (inr fails) l = nothing _ (λ x h. fails h.0)

-- ---- items by their places

pub item_at : {A : Type 0} (xs : List A) (k : ℕ) → k < length xs → (x : A) × (slice_get xs k ≡ Some x)
item_at [] k lt = absurd (omega (arith, lt))
item_at (x ∷ xs) zero lt = (x, refl)
item_at (x ∷ xs) (suc k) lt = item_at xs k (omega (arith, lt))

-- what has the property for the item at a place
abbrev pub At : {A B : Type 0} → (B → A → Type 0) → List B → ℕ → A → Type 0
At {A} {B} P ys k x = (y : B) × (slice_get ys k ≡ Some y) × P y x

pub at_place : {A B : Type 0} (P : B → A → Type 0) (ys : List B) (k : ℕ) → k < length ys → ((y : B) → Listing (P y)) → Listing (At P ys k)
at_place P ys k lt each =
    let w = item_at ys k lt in
    as_same (P w.0) (At P ys k) (λ x. (
      λ h. (w.0, w.1, h),
      λ h. subst (λ y. P y x) (same_Some _ _ (sym h.1 ∙ w.1)) h.2,
    )) (each w.0)

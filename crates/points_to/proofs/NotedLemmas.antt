-- The rows of the first locations of a row are noted as read.
use Rattle.std.proofs.Common.{◌≡◌, ◌≢◌, ℕ, ◌+◌, ◌<◌, ◌≤◌, List, length, slice_set, Bool, true, false, inl, inr, sym, ap, ◌∙◌, subst, arith}
use Rattle.std.proofs.lemmas.Bool.{cases_eq, cases_lt, false≢true}
use Rattle.std.proofs.lemmas.List.{get_or-set_same, get_or-set_other, length-set}
use Rattle.bit_rows.specs.Sets.{has}
use Rattle.bit_rows.specs.Tables.{Table, Holds, the_set, with_set, IsSized}
use Rattle.bit_rows.proofs.TableLemmas.{the_set-with_set, other-with_set, sized_with_set}

pub record IsNotedBelow (n k rows bits : ℕ) (read : List Bool) (old new : Table) : Type 0 where
  pub sized : IsSized rows bits new
  pub kept : (l j : ℕ) → Holds old l j → Holds new l j
  pub noted : (l : ℕ) → l < n → has read l ≡ true → Holds new l k

pub noted_none : (k rows bits : ℕ) (read : List Bool) (old : Table) → IsSized rows bits old → IsNotedBelow 0 k rows bits read old old
noted_none k rows bits read old sized = record { sized = sized; kept = λ l j h. h; noted = λ l low. absurd (omega (arith, low)) }

pub noted_skip : (n m k rows bits : ℕ) (read : List Bool) (old new : Table) → ((l : ℕ) → n ≤ l → l < m → has read l ≡ false) → IsNotedBelow n k rows bits read old new → IsNotedBelow m k rows bits read old new
noted_skip n m k rows bits read old new blank before = record {
  sized = before.sized;
  kept = before.kept;
  noted = λ l low h. elim (cases_lt l n) [
    | inl less ↦ before.noted l less h
    | inr over ↦ absurd (false≢true (sym (blank l over low) ∙ h))
  ];
}

pub noted_step : (n k rows bits : ℕ) (read : List Bool) (old mid new : Table) → IsSized rows bits new → ((l j : ℕ) → Holds mid l j → Holds new l j) → (has read n ≡ true → Holds new n k) → IsNotedBelow n k rows bits read old mid → IsNotedBelow (n + 1) k rows bits read old new
noted_step n k rows bits read old mid new sized kept here before = record {
  sized = sized;
  kept = λ l j h. kept l j (before.kept l j h);
  noted = λ l less h. elim (cases_eq l n) [
    | inl same ↦ subst (λ i. Holds new i k) (sym same) (here (subst (λ i. has read i ≡ true) same h))
    | inr other ↦ kept l k (before.noted l (omega (arith, less, other)) h)
  ];
}

-- ---- one bit more

module _ (n k rows bits : ℕ) (old new : Table) (low : n < rows) (in_row : k < bits) (size : IsSized rows bits old) (is : new ≡ with_set old n (slice_set (the_set old n) k true)) where
  long : length (the_set old n) ≡ bits
  long = size.full n low

  place : n < length old.sets
  place = let r = size.rows_are in omega (arith, r, low)

  row_is : the_set new n ≡ slice_set (the_set old n) k true
  row_is = ap (λ (t : Table). the_set t n) is ∙ the_set-with_set old n (slice_set (the_set old n) k true) place

  pub set_sized : IsSized rows bits new
  set_sized = subst (IsSized rows bits) (sym is) (sized_with_set rows bits old n (slice_set (the_set old n) k true) size (length-set (the_set old n) k true ∙ long))

  pub set_here : Holds new n k
  set_here = ap (λ (s : List Bool). has s k) row_is ∙ get_or-set_same (the_set old n) k true false (omega (arith, long, in_row))

  pub set_kept : (l j : ℕ) → Holds old l j → Holds new l j
  set_kept l j h = elim (cases_eq l n) [
    | inl same ↦ elim (cases_eq j k) [
      | inl one ↦ subst (λ i. Holds new i j) (sym same) (subst (Holds new n) (sym one) set_here)
      | inr other ↦ subst (λ i. Holds new i j) (sym same) (ap (λ (s : List Bool). has s j) row_is ∙ get_or-set_other (the_set old n) k j true false other ∙ subst (λ i. Holds old i j) same h)
    ]
    | inr apart ↦ ap (λ (s : List Bool). has s j) (ap (λ (t : Table). the_set t l) is ∙ other-with_set old n l (slice_set (the_set old n) k true) apart) ∙ h
  ]

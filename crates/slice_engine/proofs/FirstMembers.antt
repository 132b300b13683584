-- The numbers of a set below a bound, as a list.
use Rattle.std.proofs.Common.{◌≡◌, ℕ, zero, suc, ◌+◌, ◌<◌, ◌≤◌, List, [], ◌∷◌, ◌++◌, length, Bool, true, false, IsTrue, inl, inr, sym, subst, arith}
use Rattle.std.specs.Prelude.{All, AllPairs, Contains}
use Rattle.std.proofs.lemmas.Bool.{cases_lt}
use Rattle.std.proofs.lemmas.List.Elements.{All-contains, Contains-get_or, Contains-append_left, Contains-append_right, Contains-append_cases}
use Rattle.std.proofs.lemmas.List.Kept.{AllPairs-cons}
use Rattle.bit_rows.specs.Sets.{has}
use Rattle.rule_closure.proofs.ListLemmas.{contains_none, contains_head, contains_cons}
use Rattle.rule_closure.proofs.SetLemmas.{has_in_range}
use Rattle.dep_model.proofs.SwitchLaws.{true_not_false}
use Rattle.two_pass.specs.Ready.{HasMembers}

-- the list has the numbers below n that are in the set, and no others, ascending
pub record AreFirstMembers (n : ℕ) (set : List Bool) (found : List ℕ) : Type 0 where
  pub below : (u : ℕ) → Contains found u → (u < n) × IsTrue (has set u)
  pub found_all : (u : ℕ) → u < n → IsTrue (has set u) → Contains found u
  pub ascending : AllPairs (λ u v. u < v) found

pub none_first : (set : List Bool) → AreFirstMembers 0 set []
none_first set = record {
  below = λ u c. absurd (contains_none u c);
  found_all = λ u lt h. absurd (omega (arith, lt));
  ascending = λ i j d lt within. absurd (omega (arith, within));
}

alone : (v u : ℕ) → Contains (v ∷ []) u → u ≡ v
alone v u (zero, lt, is) = sym is
alone v u (suc i, lt, is) = absurd (omega (arith, lt))

-- a number behind an ascending list of smaller ones
ascends_to : (xs : List ℕ) (n : ℕ) → AllPairs (λ u v. u < v) xs → ((u : ℕ) → Contains xs u → u < n) → AllPairs (λ u v. u < v) (xs ++ n ∷ [])
ascends_to [] n ascends low = λ i j d lt within. absurd (omega (arith, lt, within))
ascends_to (x ∷ xs) n ascends low =
    let rest = ascends_to xs n (λ i j d lt within. ascends (suc i) (suc j) d (omega (arith, lt)) (omega (arith, within))) (λ u c. low u (contains_cons x xs u c)) in
    let first : All (λ u. x < u) (xs ++ n ∷ []) = λ k d within. elim (Contains-append_cases xs (n ∷ []) _ (Contains-get_or (xs ++ n ∷ []) k d within)) [
      | inl before ↦ All-contains (λ y. x < y) xs _ (λ i e lt. ascends zero (suc i) e (omega arith) (omega (arith, lt))) before
      | inr last ↦ subst (λ u. x < u) (sym (alone n _ last)) (low x (contains_head x xs))
    ] in
    AllPairs-cons (λ u v. u < v) x (xs ++ n ∷ []) first rest

pub one_more_member : (n : ℕ) (set : List Bool) (found more : List ℕ) → AreFirstMembers n set found → has set n ≡ true → more ≡ found ++ n ∷ [] → AreFirstMembers (n + 1) set more
one_more_member n set found more first here is = record {
  below = λ u c. elim (Contains-append_cases found (n ∷ []) u (subst (λ xs. Contains xs u) is c)) [
    | inl before ↦ let b = (first.below u before).0 in (omega (arith, b), (first.below u before).1)
    | inr last ↦ let same = alone n u last in (omega (arith, same), subst (λ k. IsTrue (has set k)) (sym same) here)
  ];
  found_all = λ u lt h. subst (λ xs. Contains xs u) (sym is) (elim (cases_lt u n) [
    | inl before ↦ Contains-append_left found (n ∷ []) u (first.found_all u before h)
    | inr behind ↦ let same : n ≡ u = omega (arith, lt, behind) in subst (λ k. Contains (found ++ n ∷ []) k) same (Contains-append_right found (n ∷ []) n (contains_head n []))
  ]);
  ascending = subst (AllPairs (λ u v. u < v)) (sym is) (ascends_to found n first.ascending (λ u c. (first.below u c).0));
}

pub no_more_member : (n : ℕ) (set : List Bool) (found : List ℕ) → AreFirstMembers n set found → has set n ≡ false → AreFirstMembers (n + 1) set found
no_more_member n set found first none = record {
  below = λ u c. let b = (first.below u c).0 in (omega (arith, b), (first.below u c).1);
  found_all = λ u lt h. elim (cases_lt u n) [
    | inl before ↦ first.found_all u before h
    | inr behind ↦ let same : u ≡ n = omega (arith, lt, behind) in true_not_false (subst (λ k. IsTrue (has set k)) same h) none
  ];
  ascending = first.ascending;
}

pub all_members : (n : ℕ) (set : List Bool) (found : List ℕ) → AreFirstMembers n set found → length set ≤ n → HasMembers found set
all_members n set found first all v =
    (λ h. let low = has_in_range set v h in first.found_all v (omega (arith, low, all)) h, λ c. (first.below v c).1)

-- and each is below the size of the set
pub members_inside : (set : List Bool) (found : List ℕ) (size : ℕ) → HasMembers found set → length set ≡ size → (v : ℕ) → Contains found v → v < size
members_inside set found size members long v c =
    let low = has_in_range set v ((members v).1 c) in omega (arith, low, long)

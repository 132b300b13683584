-- The names of what stays: each variable and each function stands at its rank.
use Rattle.std.proofs.Common.{◌≡◌, ℕ, zero, suc, ◌+◌, ◌≤◌, List, [], ◌∷◌, slice_get, Bool, true, false, if◌then◌else◌, inl, inr, refl, sym, ap, ap₂, ◌∙◌, subst, arith, Option, Some}
use Rattle.std.specs.Prelude.{option_map}
use Rattle.std.proofs.lemmas.Bool.{cases_lt}
use Rattle.std.specs.Option.{option_map_or}
use Rattle.c_tree.specs.declared.program.Function.{Function}
use Rattle.c_tree.specs.declared.program.Var.{Var}
use Rattle.kept_numbers.specs.Ranks.{rank}
use Rattle.projection.specs.Kept.{Kept}
use Rattle.projection.specs.Projection.{projected_var, projected_vars, projected_function, projected_functions}
use Rattle.c_language.specs.Words.{Bytes}
use Rattle.c_language.proofs.Options.{none_there, some_same}
use Rattle.c_language.proofs.Tests.{by_answer}
use Rattle.c_scope_laws.proofs.TreeLevels.{chosen, unchosen}
use Rattle.own_words.proofs.Lists.{Among}
use Rattle.own_words.proofs.Lists.Among.{first, next}

module _ (keeps : ℕ → Bool) where
  rank_step : (b : Bool) (m : ℕ) → m ≤ (if b then suc m else m)
  rank_step true m = omega arith
  rank_step false m = omega arith

  same_rank : (m n : ℕ) → m ≡ n → rank keeps m ≤ rank keeps n
  same_rank m n e = let h = ap (rank keeps) e in omega arith

  pub rank_grows : (m n : ℕ) → m ≤ n → rank keeps m ≤ rank keeps n
  rank_grows m zero le = same_rank m 0 (omega arith)
  rank_grows m (suc n) le =
      elim (cases_lt m (suc n)) [
        | inl lt ↦ let h = rank_grows m n (omega arith) in let s = rank_step (keeps n) (rank keeps n) in omega arith
        | inr ge ↦ same_rank m (suc n) (omega arith)
      ]

module _ {F : Type 0} (k : Kept F) (g : ℕ → ℕ) where
  get_from : (n : ℕ) (vs : List Var) (i j : ℕ) → k.variable (n + i) ≡ true → rank k.variable n + j ≡ rank k.variable (n + i) → slice_get (projected_vars k g n vs) j ≡ option_map (projected_var k g) (slice_get vs i)
  get_from n [] i j passes is = refl
  get_from n (v ∷ vs) zero j passes is =
      let e : n + 0 ≡ n = omega arith in
      let here : k.variable n ≡ true = sym (ap k.variable e) ∙ passes in
      let first : j ≡ 0 = omega (arith, is, ap (rank k.variable) e) in
      rw (here, first) refl
  get_from n (v ∷ vs) (suc i) zero passes is =
      let e : suc n + i ≡ n + suc i = omega arith in
      by_answer (k.variable n) (λ here. let next : rank k.variable (suc n) ≡ suc (rank k.variable n) = rw here refl in absurd (omega (arith, is, next, ap (rank k.variable) e, rank_grows k.variable (suc n) (suc n + i) (omega arith)))) (λ other. let next : rank k.variable (suc n) ≡ rank k.variable n = rw other refl in rw other (get_from (suc n) vs i zero (ap k.variable e ∙ passes) (omega (arith, is, next, ap (rank k.variable) e))))
  get_from n (v ∷ vs) (suc i) (suc j) passes is =
      let e : suc n + i ≡ n + suc i = omega arith in
      by_answer (k.variable n) (λ here. let next : rank k.variable (suc n) ≡ suc (rank k.variable n) = rw here refl in rw here (get_from (suc n) vs i j (ap k.variable e ∙ passes) (omega (arith, is, next, ap (rank k.variable) e)))) (λ other. let next : rank k.variable (suc n) ≡ rank k.variable n = rw other refl in rw other (get_from (suc n) vs i (suc j) (ap k.variable e ∙ passes) (omega (arith, is, next, ap (rank k.variable) e))))

  -- a variable that stays stands at its rank
  pub get-projected : (vs : List Var) (i : ℕ) → k.variable i ≡ true → slice_get (projected_vars k g 0 vs) (rank k.variable i) ≡ option_map (projected_var k g) (slice_get vs i)
  get-projected vs i passes =
      let e : 0 + i ≡ i = omega arith in
      get_from 0 vs i (rank k.variable i) (ap k.variable e ∙ passes) (omega (arith, ap (rank k.variable) e))

-- ---- functions

abbrev name_of : Option Function → Bytes
name_of o = option_map_or (λ (f : Function). f.name) o []

module _ (k : Kept ℕ) where
  named_from : (n : ℕ) (fs : List Function) (i j : ℕ) → k.function (n + i) ≡ true → rank k.function n + j ≡ rank k.function (n + i) → name_of (slice_get (projected_functions k n fs) j) ≡ name_of (slice_get fs i)
  named_from n [] i j passes is = refl
  named_from n (f ∷ fs) zero j passes is =
      let e : n + 0 ≡ n = omega arith in
      let here : k.function n ≡ true = sym (ap k.function e) ∙ passes in
      let first : j ≡ 0 = omega (arith, is, ap (rank k.function) e) in
      rw (here, first) refl
  named_from n (f ∷ fs) (suc i) zero passes is =
      let e : suc n + i ≡ n + suc i = omega arith in
      by_answer (k.function n) (λ here. let next : rank k.function (suc n) ≡ suc (rank k.function n) = rw here refl in absurd (omega (arith, is, next, ap (rank k.function) e, rank_grows k.function (suc n) (suc n + i) (omega arith)))) (λ other. let next : rank k.function (suc n) ≡ rank k.function n = rw other refl in rw other (named_from (suc n) fs i zero (ap k.function e ∙ passes) (omega (arith, is, next, ap (rank k.function) e))))
  named_from n (f ∷ fs) (suc i) (suc j) passes is =
      let e : suc n + i ≡ n + suc i = omega arith in
      by_answer (k.function n) (λ here. let next : rank k.function (suc n) ≡ suc (rank k.function n) = rw here refl in rw here (named_from (suc n) fs i j (ap k.function e ∙ passes) (omega (arith, is, next, ap (rank k.function) e)))) (λ other. let next : rank k.function (suc n) ≡ rank k.function n = rw other refl in rw other (named_from (suc n) fs i (suc j) (ap k.function e ∙ passes) (omega (arith, is, next, ap (rank k.function) e))))

  -- a function that stays has its name at its rank
  pub named-projected : (fs : List Function) (i : ℕ) → k.function i ≡ true → name_of (slice_get (projected_functions k 0 fs) (rank k.function i)) ≡ name_of (slice_get fs i)
  named-projected fs i passes =
      let e : 0 + i ≡ i = omega arith in
      named_from 0 fs i (rank k.function i) (ap k.function e ∙ passes) (omega (arith, ap (rank k.function) e))

  function_from : (n : ℕ) (fs : List Function) (i : ℕ) (f : Function) → slice_get fs i ≡ Some f → k.function (n + i) ≡ true → Among (projected_functions k n fs) (projected_function k (rank k.function) (n + i) f)
  function_from n [] i f there passes = none_there there
  function_from n (c ∷ fs) zero f there passes =
      let e : n + 0 ≡ n = omega arith in
      let here : k.function n ≡ true = sym (ap k.function e) ∙ passes in
      subst (λ ys. Among ys (projected_function k (rank k.function) (n + 0) f)) (sym (chosen _ _ here)) (subst (λ (y : Function). Among (projected_function k (rank k.function) n c ∷ projected_functions k (suc n) fs) y) (ap₂ (projected_function k (rank k.function)) (sym e) (some_same there)) first)
  function_from n (c ∷ fs) (suc i) f there passes =
      let e : suc n + i ≡ n + suc i = omega arith in
      let behind : Among (projected_functions k (suc n) fs) (projected_function k (rank k.function) (n + suc i) f) = subst (λ m. Among (projected_functions k (suc n) fs) (projected_function k (rank k.function) m f)) e (function_from (suc n) fs i f there (ap k.function e ∙ passes)) in
      by_answer (k.function n) (λ here. subst (λ ys. Among ys (projected_function k (rank k.function) (n + suc i) f)) (sym (chosen _ _ here)) (next behind)) (λ other. subst (λ ys. Among ys (projected_function k (rank k.function) (n + suc i) f)) (sym (unchosen _ _ other)) behind)

  -- what stays of a function that stays is one of the functions
  pub function_stays : (fs : List Function) (i : ℕ) (f : Function) → slice_get fs i ≡ Some f → k.function i ≡ true → Among (projected_functions k 0 fs) (projected_function k (rank k.function) i f)
  function_stays fs i f there passes =
      let e : 0 + i ≡ i = omega arith in
      subst (λ m. Among (projected_functions k 0 fs) (projected_function k (rank k.function) m f)) e (function_from 0 fs i f there (ap k.function e ∙ passes))

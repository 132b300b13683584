-- A function that stays stands at its rank among those that stay, and main is found there.
use Rattle.std.proofs.Common.{◌≡◌, ℕ, zero, suc, ◌+◌, List, [], ◌∷◌, cond, Bool, true, false, Option, Some, None, refl, sym, ap, ◌∙◌, arith}
use Rattle.std.specs.List.{position}
use Rattle.std.specs.Prelude.{slice_get, option_map}
use Rattle.c_tree.specs.declared.program.Function.{Function}
use Rattle.c_language.specs.NameRules.{is_main}
use Rattle.c_language.proofs.Lists.{position-cons}
use Rattle.c_language.proofs.Options.{none_there, some_same}
use Rattle.c_language.proofs.Tests.{by_answer}
use Rattle.kept_numbers.specs.Ranks.{rank}
use Rattle.projection.specs.Kept.{Kept}
use Rattle.projection.specs.Projection.{projected_function, projected_functions}
use Rattle.own_words.proofs.Names.{rank_grows}

module _ (k : Kept ℕ) where
  abbrev there : ℕ → Function → Function
  there = projected_function k (rank k.function)

  get_from : (n : ℕ) (fs : List Function) (i j : ℕ) → k.function (n + i) ≡ true → rank k.function n + j ≡ rank k.function (n + i) → slice_get (projected_functions k n fs) j ≡ option_map (there (n + i)) (slice_get fs i)
  get_from n [] i j passes is = refl
  get_from n (f ∷ fs) zero j passes is =
      let e : n + 0 ≡ n = omega arith in
      let here : k.function n ≡ true = sym (ap k.function e) ∙ passes in
      let first : j ≡ 0 = omega (arith, is, ap (rank k.function) e) in
      rw (here, first) (ap (λ m. Some (there m f)) (sym e))
  get_from n (f ∷ fs) (suc i) zero passes is =
      let e : suc n + i ≡ n + suc i = omega arith in
      by_answer (k.function n) (λ here. let next : rank k.function (suc n) ≡ suc (rank k.function n) = rw here refl in absurd (omega (arith, is, next, ap (rank k.function) e, rank_grows k.function (suc n) (suc n + i) (omega arith)))) (λ other. let next : rank k.function (suc n) ≡ rank k.function n = rw other refl in rw other (get_from (suc n) fs i zero (ap k.function e ∙ passes) (omega (arith, is, next, ap (rank k.function) e)) ∙ ap (λ m. option_map (there m) (slice_get fs i)) e))
  get_from n (f ∷ fs) (suc i) (suc j) passes is =
      let e : suc n + i ≡ n + suc i = omega arith in
      by_answer (k.function n) (λ here. let next : rank k.function (suc n) ≡ suc (rank k.function n) = rw here refl in rw here (get_from (suc n) fs i j (ap k.function e ∙ passes) (omega (arith, is, next, ap (rank k.function) e)) ∙ ap (λ m. option_map (there m) (slice_get fs i)) e)) (λ other. let next : rank k.function (suc n) ≡ rank k.function n = rw other refl in rw other (get_from (suc n) fs i (suc j) (ap k.function e ∙ passes) (omega (arith, is, next, ap (rank k.function) e)) ∙ ap (λ m. option_map (there m) (slice_get fs i)) e))

  -- what stays of a function stands at its rank
  pub function_at : (fs : List Function) (f : ℕ) → k.function f ≡ true → slice_get (projected_functions k 0 fs) (rank k.function f) ≡ option_map (there f) (slice_get fs f)
  function_at fs f passes =
      let e : 0 + f ≡ f = omega arith in
      get_from 0 fs f (rank k.function f) (ap k.function e ∙ passes) (omega (arith, ap (rank k.function) e)) ∙ ap (λ m. option_map (there m) (slice_get fs f)) e

  -- ---- main

  abbrev is_named_main : Function → Bool
  is_named_main f = is_main f.name

  abbrev main_in : List Function → Option ℕ
  main_in fs = position is_named_main fs

  first_is : (b : Bool) (o : Option ℕ) → cond b (Some 0) (option_map suc o) ≡ Some 0 → b ≡ true
  first_is true o e = refl
  first_is false None e = none_there e
  first_is false (Some m) e = let bad : suc m ≡ 0 = some_same e in cc

  later_is : (b : Bool) (o : Option ℕ) (m : ℕ) → cond b (Some 0) (option_map suc o) ≡ Some (suc m) → (b ≡ false) × (o ≡ Some m)
  later_is true o m e = let bad : 0 ≡ suc m = some_same e in cc
  later_is false None m e = none_there e
  later_is false (Some n) m e = let same : suc n ≡ suc m = some_same e in (refl, ap Some (omega (arith, same)))

  -- main comes first where it is first, and at its rank where others come before it
  main_from : (n : ℕ) (fs : List Function) (m j : ℕ) → main_in fs ≡ Some m → k.function (n + m) ≡ true → rank k.function n + j ≡ rank k.function (n + m) → main_in (projected_functions k n fs) ≡ Some j
  main_from n [] m j at passes is = none_there at
  main_from n (f ∷ fs) zero j at passes is =
      let e : n + 0 ≡ n = omega arith in
      let here : k.function n ≡ true = sym (ap k.function e) ∙ passes in
      let first : j ≡ 0 = omega (arith, is, ap (rank k.function) e) in
      let named : is_main f.name ≡ true = first_is (is_main f.name) (main_in fs) (sym (position-cons is_named_main f fs) ∙ at) in
      rw (here, first) (position-cons is_named_main (there n f) (projected_functions k (suc n) fs) ∙ ap (λ b. cond b (Some 0) (option_map suc (main_in (projected_functions k (suc n) fs)))) named)
  main_from n (f ∷ fs) (suc m) zero at passes is =
      let e : suc n + m ≡ n + suc m = omega arith in
      let w = later_is (is_main f.name) (main_in fs) m (sym (position-cons is_named_main f fs) ∙ at) in
      by_answer (k.function n) (λ here. let next : rank k.function (suc n) ≡ suc (rank k.function n) = rw here refl in absurd (omega (arith, is, next, ap (rank k.function) e, rank_grows k.function (suc n) (suc n + m) (omega arith)))) (λ other. let next : rank k.function (suc n) ≡ rank k.function n = rw other refl in rw other (main_from (suc n) fs m zero w.1 (ap k.function e ∙ passes) (omega (arith, is, next, ap (rank k.function) e))))
  main_from n (f ∷ fs) (suc m) (suc j) at passes is =
      let e : suc n + m ≡ n + suc m = omega arith in
      let w = later_is (is_main f.name) (main_in fs) m (sym (position-cons is_named_main f fs) ∙ at) in
      by_answer (k.function n) (λ here. let next : rank k.function (suc n) ≡ suc (rank k.function n) = rw here refl in rw here (position-cons is_named_main (there n f) (projected_functions k (suc n) fs) ∙ (ap (λ b. cond b (Some 0) (option_map suc (main_in (projected_functions k (suc n) fs)))) w.0 ∙ ap (option_map suc) (main_from (suc n) fs m j w.1 (ap k.function e ∙ passes) (omega (arith, is, next, ap (rank k.function) e)))))) (λ other. let next : rank k.function (suc n) ≡ rank k.function n = rw other refl in rw other (main_from (suc n) fs m (suc j) w.1 (ap k.function e ∙ passes) (omega (arith, is, next, ap (rank k.function) e))))

  pub main_there : (fs : List Function) (m : ℕ) → main_in fs ≡ Some m → k.function m ≡ true → main_in (projected_functions k 0 fs) ≡ Some (rank k.function m)
  main_there fs m at passes =
      let e : 0 + m ≡ m = omega arith in
      main_from 0 fs m (rank k.function m) at (ap k.function e ∙ passes) (omega (arith, ap (rank k.function) e))

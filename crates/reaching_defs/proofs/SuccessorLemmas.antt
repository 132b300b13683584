-- The last pair before from the same vertex, one pair more.
use Rattle.std.proofs.Common.{◌≡◌, ◌≢◌, ℕ, ◌+◌, ◌-◌, ◌<◌, ◌≤◌, inl, inr, List, length, get_or, set, sym, ap, subst, ◌∙◌, arith}
use Rattle.std.proofs.lemmas.Bool.{cases_eq}
use Rattle.std.proofs.lemmas.List.{get_or_default, get_or-set_same, get_or-set_other, length-set}
use Rattle.dep_model.specs.declared.skeleton.Pair.{Pair}
use Rattle.reaching_defs.specs.Stretches.{IsLastFrom}

module _ (pairs : List Pair) (e : ℕ) (one : Pair) (here : e < length pairs) (is : get_or pairs e one ≡ one) where
  same_from : (k : ℕ) (x : Pair) → k ≡ e → get_or pairs k x ≡ x → x.from ≡ one.from
  same_from k x q at = ap (λ (p : Pair). p.from) (sym at ∙ ap (λ j. get_or pairs j x) q ∙ get_or_default pairs e x one here ∙ is)

  -- the pair leads from the vertex
  last_now : (v : ℕ) → one.from ≡ v → IsLastFrom pairs v (e + 1) (e + 1)
  last_now v from = record {
    below = omega arith;
    here = λ some x at. same_from (e + 1 - 1) x (omega arith) at ∙ from;
    above = λ k x low high at. absurd (omega (arith, low, high));
  }

  -- it leads from another
  last_before : (v h : ℕ) → one.from ≢ v → IsLastFrom pairs v e h → IsLastFrom pairs v (e + 1) h
  last_before v h other last = record {
    below = (let b = last.below in omega (arith, b));
    here = last.here;
    above = λ k x low high at. elim (cases_eq k e) [
      | inl q ↦ λ from. other (sym (same_from k x q at) ∙ from)
      | inr q ↦ last.above k x low (omega (arith, high, q)) at
    ];
  }

  module _ (base : ℕ) (heads nexts : List ℕ) (low : base ≤ one.from) (wide : one.from - base < length heads) (long : e < length nexts)
      (heads_are : (u : ℕ) → u < length heads → IsLastFrom pairs (base + u) e (get_or heads u 0))
      (nexts_are : (k : ℕ) (x : Pair) → k < e → get_or pairs k x ≡ x → IsLastFrom pairs x.from k (get_or nexts k 0)) where
    pub heads_turn : (u : ℕ) → u < length (set heads (one.from - base) (e + 1)) → IsLastFrom pairs (base + u) (e + 1) (get_or (set heads (one.from - base) (e + 1)) u 0)
    heads_turn u h = elim (cases_eq u (one.from - base)) [
      | inl q ↦
          subst (λ j. IsLastFrom pairs (base + j) (e + 1) (get_or (set heads (one.from - base) (e + 1)) j 0)) (sym q)
          (subst (IsLastFrom pairs (base + (one.from - base)) (e + 1)) (sym (get_or-set_same heads (one.from - base) (e + 1) 0 wide)) (last_now (base + (one.from - base)) (omega (arith, low))))
      | inr q ↦
          subst (IsLastFrom pairs (base + u) (e + 1)) (sym (get_or-set_other heads (one.from - base) u (e + 1) 0 q))
          (last_before (base + u) (get_or heads u 0) (λ f. q (omega (arith, low, f))) (heads_are u (subst (λ m. u < m) (length-set heads (one.from - base) (e + 1)) h)))
    ]

    pub nexts_turn : (k : ℕ) (x : Pair) → k < e + 1 → get_or pairs k x ≡ x → IsLastFrom pairs x.from k (get_or (set nexts e (get_or heads (one.from - base) 0)) k 0)
    nexts_turn k x h at = elim (cases_eq k e) [
      | inl q ↦
          let from : base + (one.from - base) ≡ x.from = (let f = same_from k x q at in omega (arith, low, f)) in
          subst (λ j. IsLastFrom pairs x.from j (get_or (set nexts e (get_or heads (one.from - base) 0)) j 0)) (sym q)
          (subst (IsLastFrom pairs x.from e) (sym (get_or-set_same nexts e (get_or heads (one.from - base) 0) 0 long))
          (subst (λ v. IsLastFrom pairs v e (get_or heads (one.from - base) 0)) from (heads_are (one.from - base) wide)))
      | inr q ↦ subst (IsLastFrom pairs x.from k) (sym (get_or-set_other nexts e k (get_or heads (one.from - base) 0) 0 q)) (nexts_are k x (omega (arith, h, q)) at)
    ]

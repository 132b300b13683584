-- The chains of the links at each number, as they grow by a link.
use Rattle.std.proofs.Common.{◌≡◌, ◌≢◌, ℕ, ◌+◌, ◌<◌, inl, inr, List, length, get_or, set, sym, ap, subst, ◌∙◌, arith}
use Rattle.std.proofs.lemmas.List.{get_or-set_same, get_or-set_other, get_or_default, length-set}
use Rattle.std.proofs.lemmas.Bool.{cases_eq}
use Rattle.rule_closure.specs.declared.engine.Link.{Link}
use Rattle.rule_closure.specs.Links.{IsLast}

-- from each number and each of the first n links, the last link before at the same number
pub record AreChained (links : List Link) (n : ℕ) (heads nexts : List ℕ) : Type 0 where
  pub heads_are : (v : ℕ) → v < length heads → IsLast links v n (get_or heads v 0)
  pub nexts_are : (e : ℕ) (l : Link) → e < n → get_or links e l ≡ l → IsLast links l.to e (get_or nexts e 0)

module _ (links : List Link) (e : ℕ) (link : Link) (low : e < length links) (at : get_or links e link ≡ link) where
  -- it alone stands there
  only : (l : Link) → get_or links e l ≡ l → link ≡ l
  only l is = sym at ∙ get_or_default links e link l low ∙ is

  -- it is the last at its number
  last_here : IsLast links link.to (e + 1) (e + 1)
  last_here = record {
    below = omega arith;
    here = λ some l is. ap (λ (x : Link). x.to) (sym (only l (subst (λ j. get_or links j l ≡ l) (omega arith) is)));
    above = λ k l high short. absurd (omega (arith, high, short));
  }

  -- at another number the last stays
  last_stays : (v h : ℕ) → link.to ≢ v → IsLast links v e h → IsLast links v (e + 1) h
  last_stays v h other last = record {
    below = omega (arith, last.below);
    here = last.here;
    above = λ k l high short is. elim (cases_eq k e) [
      | inl q ↦ λ same. other (ap (λ (x : Link). x.to) (only l (subst (λ j. get_or links j l ≡ l) q is)) ∙ same)
      | inr q ↦ last.above k l high (omega (arith, short, q)) is
    ];
  }

  pub chained : (heads nexts : List ℕ) → link.to < length heads → e < length nexts → AreChained links e heads nexts
      → AreChained links (e + 1) (set heads link.to (e + 1)) (set nexts e (get_or heads link.to 0))
  chained heads nexts in_heads in_nexts so_far = record {
    heads_are = λ v h. elim (cases_eq v link.to) [
      | inl q ↦ subst (λ w. IsLast links w (e + 1) (get_or (set heads link.to (e + 1)) w 0)) (sym q) (subst (IsLast links link.to (e + 1)) (sym (get_or-set_same heads link.to (e + 1) 0 in_heads)) last_here)
      | inr q ↦ subst (IsLast links v (e + 1)) (sym (get_or-set_other heads link.to v (e + 1) 0 q)) (last_stays v _ (λ same. q (sym same)) (so_far.heads_are v (omega (arith, h, length-set heads link.to (e + 1)))))
    ];
    nexts_are = λ k l short is. elim (cases_eq k e) [
      | inl q ↦
          let same = only l (subst (λ j. get_or links j l ≡ l) q is) in
          subst (λ j. IsLast links l.to j (get_or (set nexts e (get_or heads link.to 0)) j 0)) (sym q)
          (subst (IsLast links l.to e) (sym (get_or-set_same nexts e (get_or heads link.to 0) 0 in_nexts))
          (subst (λ (x : Link). IsLast links x.to e (get_or heads link.to 0)) same (so_far.heads_are link.to in_heads)))
      | inr q ↦ subst (IsLast links l.to k) (sym (get_or-set_other nexts e k (get_or heads link.to 0) 0 q)) (so_far.nexts_are k l (omega (arith, short, q)) is)
    ];
  }

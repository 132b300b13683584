-- Rules with one premise, from one number back to another.
use Rattle.std.proofs.Common.{◌≡◌, ℕ, ◌<◌, Bool, true, false, List, set, replicate, Contains, sym, ◌∙◌, subst, inl, inr, arith}
use Rattle.std.proofs.lemmas.Bool.{false≢true}
use Rattle.std.proofs.lemmas.List.{length-replicate}
use Rattle.std.specs.Prelude.{IsTrue}
use Rattle.bit_rows.specs.Sets.{has}
use Rattle.bit_rows.proofs.SetLemmas.{has-empty}
use Rattle.rule_closure.specs.declared.closure.Rule.{Rule}
use Rattle.rule_closure.specs.Rules.{Derived}
use Rattle.rule_closure.specs.Rules as closed
use Rattle.rule_closure.proofs.SetLemmas.{has_set_same, has_set_cases}
use Rattle.matched_paths.specs.StepRules.{IsBack}
use Rattle.matched_paths.specs.StepRules as rules_
use Rattle.forward_chop.specs.Fields.{HaveOnePremise}

-- ---- from one number back to another
pub back_along : {rules : List Rule} {a b c : ℕ} → IsBack rules a b → IsBack rules b c → IsBack rules a c
back_along p rules_.itself = p
back_along p (rules_.by m q r) = rules_.by m (back_along p q) (back_along p r)

pub back_by : {rules : List Rule} (r : Rule) → Contains rules r → r.second ≡ r.first → IsBack rules r.first r.gives
back_by {rules} r m one = rules_.by {r = r} m rules_.itself (subst (IsBack rules r.first) (sym one) rules_.itself)

-- ---- what is derived from a set is so from one of its members
pub record FromOne (rules : List Rule) (s : List Bool) (k : ℕ) : Type 0 where
  pub start : ℕ
  pub here : IsTrue (has s start)
  pub goes : IsBack rules start k

pub from_one : (rules : List Rule) (s : List Bool) → HaveOnePremise rules → {k : ℕ} → Derived rules s k → FromOne rules s k
from_one rules s one (closed.seed {v = v} h) = record { start = v; here = h; goes = rules_.itself }
from_one rules s one (closed.by {r = r} m a b) =
    let f = from_one rules s one a in
    record { start = f.start; here = f.here; goes = back_along f.goes (back_by r m (one r m)) }

-- ---- one number as a set
pub only_has : (n v : ℕ) → v < n → IsTrue (has (set (replicate n false) v true) v)
only_has n v low = has_set_same (replicate n false) v (let long = length-replicate n false in omega (arith, long, low))

pub only_is : (n v u : ℕ) → IsTrue (has (set (replicate n false) v true) u) → u ≡ v
only_is n v u h = elim (has_set_cases (replicate n false) v u h) [
  | inl old ↦ absurd (false≢true (sym (has-empty n u) ∙ old))
  | inr same ↦ same
]

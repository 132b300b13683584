-- Rules with one or two premises, and the least sets that they close.
use Rattle.std.specs.Prelude.{ℕ, ◌≡◌, ◌<◌, Bool, List, length, Contains, IsTrue}
use Rattle.bit_rows.specs.Sets.{has, IsSubset}
use Rattle.rule_closure.specs.declared.closure.Rule.{Rule}

-- a number is in the set, or the rules give it from the set in finitely many steps
pub data Derived (rules : List Rule) (s : List Bool) : ℕ → Type 0 where
  seed : {v : ℕ} → IsTrue (has s v) → Derived rules s v
  by : {r : Rule} → Contains rules r → Derived rules s r.first → Derived rules s r.second → Derived rules s r.gives

-- a set has what a rule gives where it has both premises of the rule
abbrev pub IsClosedUnder : List Rule → List Bool → Type 0
IsClosedUnder rules s = (r : Rule) → Contains rules r → IsTrue (has s r.first) → IsTrue (has s r.second) → IsTrue (has s r.gives)

-- t is the least of the sets of its length that hold s and are closed under the rules
pub record IsLeast (rules : List Rule) (s t : List Bool) : Type 0 where
  pub size : length t ≡ length s
  pub holds : IsSubset s t
  pub closed : IsClosedUnder rules t
  pub least : (u : List Bool) → length u ≡ length s → IsSubset s u → IsClosedUnder rules u → IsSubset t u

-- the numbers of a rule are below n
pub record IsRuleWithin (n : ℕ) (r : Rule) : Type 0 where
  pub first_in : r.first < n
  pub second_in : r.second < n
  pub gives_in : r.gives < n

-- what a closure closes: sets of this size, by these rules
pub record RuleSystem : Type 0 where
  pub size : ℕ
  pub rules : List Rule

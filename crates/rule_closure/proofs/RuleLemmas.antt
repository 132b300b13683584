-- The least set closed under rules: it exists, there is one, and it is what the rules derive.
use Rattle.std.proofs.Common.{◌≡◌, ℕ, zero, suc, ◌+◌, ◌<◌, ◌≤◌, ◌⊎◌, ◌↔◌, inl, inr, Bool, true, false, List, [], ◌∷◌, length, set, Contains, All, refl, sym, ◌∙◌, subst, arith}
use Rattle.std.proofs.lemmas.List.{length-set}
use Rattle.std.proofs.lemmas.List.Elements.{All-contains}
use Rattle.std.proofs.lemmas.Bool.{cases_Bool, false≢true}
use Rattle.std.specs.Prelude.{IsTrue}
use Rattle.bit_rows.specs.Sets.{has, IsSubset, count_of}
use Rattle.rule_closure.specs.declared.closure.Rule.{Rule}
use Rattle.rule_closure.specs.Rules.{Derived, seed, by, IsClosedUnder, IsLeast, IsRuleWithin}
use Rattle.rule_closure.proofs.ListLemmas.{contains_none, contains_head, contains_cons, contains_cases}
use Rattle.rule_closure.proofs.SetLemmas.{has_in_range, has_set, has_set_cases, count-set, count_room, same_members}

-- ---- what is derived

-- what is derived has each property that the set has and the rules keep
pub derived_in : (rules : List Rule) (s : List Bool) (P : ℕ → Type 0) → ((v : ℕ) → IsTrue (has s v) → P v) → ((r : Rule) → Contains rules r → P r.first → P r.second → P r.gives) → {v : ℕ} → Derived rules s v → P v
derived_in rules s P begins keeps (seed {v = v} h) = begins v h
derived_in rules s P begins keeps (by {r = r} m a b) = keeps r m (derived_in rules s P begins keeps a) (derived_in rules s P begins keeps b)

-- it is in each set that holds the given one and is closed under the rules
pub derived_least : (rules : List Rule) (s t : List Bool) → IsSubset s t → IsClosedUnder rules t → {v : ℕ} → Derived rules s v → IsTrue (has t v)
derived_least rules s t holds closed d = derived_in rules s (λ v. IsTrue (has t v)) holds closed d

-- it is below the length of the set, where the rules are
pub derived_within : (rules : List Rule) (s : List Bool) → All (IsRuleWithin (length s)) rules → {v : ℕ} → Derived rules s v → v < length s
derived_within rules s within d = derived_in rules s (λ v. v < length s) (has_in_range s) (λ r m a b. let w = All-contains (IsRuleWithin (length s)) rules r within m in w.gives_in) d

-- more is derived from more
pub derived_more : (rules : List Rule) (s t : List Bool) → IsSubset s t → {v : ℕ} → Derived rules s v → Derived rules t v
derived_more rules s t holds d = derived_in rules s (λ v. Derived rules t v) (λ v h. seed (holds v h)) (λ r m a b. by m a b) d

-- more is derived by more rules
pub derived_by_more : (rules more : List Rule) (s : List Bool) → ((r : Rule) → Contains rules r → Contains more r) → {v : ℕ} → Derived rules s v → Derived more s v
derived_by_more rules more s each d = derived_in rules s (λ v. Derived more s v) (λ v h. seed h) (λ r m a b. by (each r m) a b) d

-- nothing more is derived from what is derived
pub derived_again : (rules : List Rule) (s t : List Bool) → ((v : ℕ) → IsTrue (has t v) → Derived rules s v) → {v : ℕ} → Derived rules t v → Derived rules s v
derived_again rules s t inside d = derived_in rules t (λ v. Derived rules s v) inside (λ r m a b. by m a b) d

-- ---- what is derived is the least set
pub least_from_derived : (rules : List Rule) (s t : List Bool) → length t ≡ length s → ((v : ℕ) → IsTrue (has t v) ↔ Derived rules s v) → IsLeast rules s t
least_from_derived rules s t size exact = record {
  size = size;
  holds = λ v h. let e = exact v in e.1 (seed h);
  closed = λ r m a b. let f = exact r.first in let g = exact r.second in let e = exact r.gives in e.1 (by m (f.0 a) (g.0 b));
  least = λ u l holds closed v h. let e = exact v in derived_least rules s u holds closed (e.0 h);
}

-- ---- there is one least set
pub least_unique : (rules : List Rule) (s t u : List Bool) → IsLeast rules s t → IsLeast rules s u → t ≡ u
least_unique rules s t u a b = same_members t u (a.size ∙ sym b.size) (λ v. (a.least u b.size b.holds b.closed v, b.least t a.size a.holds a.closed v))

-- ---- there is a least set

-- both premises of a rule are in the set, and what it gives is not
record Lacks (r : Rule) (t : List Bool) : Type 0 where
  pub first : IsTrue (has t r.first)
  pub second : IsTrue (has t r.second)
  pub gives : has t r.gives ≡ false

-- a rule under which a set is not closed
record Broken (rules : List Rule) (t : List Bool) : Type 0 where
  pub rule : Rule
  pub member : Contains rules rule
  pub lacks : Lacks rule t

closed_or_lacks : (r : Rule) (t : List Bool) → (IsTrue (has t r.first) → IsTrue (has t r.second) → IsTrue (has t r.gives)) ⊎ Lacks r t
closed_or_lacks r t = elim (cases_Bool (has t r.gives)) [
  | inl here ↦ inl (λ a b. here)
  | inr none ↦ elim (cases_Bool (has t r.first)) [
    | inr off ↦ inl (λ a b. absurd (false≢true (sym off ∙ a)))
    | inl first ↦ elim (cases_Bool (has t r.second)) [
      | inr off ↦ inl (λ a b. absurd (false≢true (sym off ∙ b)))
      | inl second ↦ inr (record { first = first; second = second; gives = none })
    ]
  ]
]

closed_with : (q : Rule) (rules : List Rule) (t : List Bool) → (IsTrue (has t q.first) → IsTrue (has t q.second) → IsTrue (has t q.gives)) → IsClosedUnder rules t → IsClosedUnder (q ∷ rules) t
closed_with q rules t here closed r m a b = elim (contains_cases q rules r m) [
  | inl e ↦ subst (λ (x : Rule). IsTrue (has t x.gives)) e (here (subst (λ (x : Rule). IsTrue (has t x.first)) (sym e) a) (subst (λ (x : Rule). IsTrue (has t x.second)) (sym e) b))
  | inr rest ↦ closed r rest a b
]

find_broken : (rules : List Rule) (t : List Bool) → IsClosedUnder rules t ⊎ Broken rules t
find_broken [] t = inl (λ r m a b. absurd (contains_none r m))
find_broken (q ∷ rules) t = elim (find_broken rules t) [
  | inr w ↦ inr (record { rule = w.rule; member = contains_cons q rules w.rule w.member; lacks = w.lacks })
  | inl closed ↦ elim (closed_or_lacks q t) [
    | inl here ↦ inl (closed_with q rules t here closed)
    | inr lacks ↦ inr (record { rule = q; member = contains_head q rules; lacks = lacks })
  ]
]

-- a set of what is derived
pub record DerivedSet (rules : List Rule) (s : List Bool) : Type 0 where
  pub members : List Bool
  pub size : length members ≡ length s
  pub exact : (v : ℕ) → IsTrue (has members v) ↔ Derived rules s v

-- what a broken rule gives is added, until none is broken
derived_set_from : (room : ℕ) (rules : List Rule) (s t : List Bool) → All (IsRuleWithin (length s)) rules → length t ≡ length s → IsSubset s t → ((v : ℕ) → IsTrue (has t v) → Derived rules s v) → length t ≤ count_of t + room → DerivedSet rules s
derived_set_from zero rules s t within size holds sound few = elim (find_broken rules t) [
  | inl closed ↦ record { members = t; size = size; exact = λ v. (sound v, λ d. derived_least rules s t holds closed d) }
  | inr w ↦
      let e = All-contains (IsRuleWithin (length s)) rules w.rule within w.member in
      absurd (omega (arith, count_room t w.rule.gives (omega (arith, e.gives_in, size)) w.lacks.gives))
]
derived_set_from (suc room) rules s t within size holds sound few = elim (find_broken rules t) [
  | inl closed ↦ record { members = t; size = size; exact = λ v. (sound v, λ d. derived_least rules s t holds closed d) }
  | inr w ↦
      let e = All-contains (IsRuleWithin (length s)) rules w.rule within w.member in
      let low : w.rule.gives < length t = omega (arith, e.gives_in, size) in
      derived_set_from room rules s (set t w.rule.gives true) within
      (length-set t w.rule.gives true ∙ size)
      (λ v h. has_set t w.rule.gives v (holds v h))
      (λ v h. elim (has_set_cases t w.rule.gives v h) [
        | inl old ↦ sound v old
        | inr q ↦ subst (λ x. Derived rules s x) (sym q) (by w.member (sound w.rule.first w.lacks.first) (sound w.rule.second w.lacks.second))
      ])
      (omega (arith, count-set t w.rule.gives low w.lacks.gives, length-set t w.rule.gives true))
]

pub derived_set : (rules : List Rule) (s : List Bool) → All (IsRuleWithin (length s)) rules → DerivedSet rules s
derived_set rules s within = derived_set_from (length s) rules s s within refl (λ v h. h) (λ v h. seed h) (omega arith)

pub least_exists : (rules : List Rule) (s : List Bool) → All (IsRuleWithin (length s)) rules → (t : List Bool) × IsLeast rules s t
least_exists rules s within = let d = derived_set rules s within in (d.members, least_from_derived rules s d.members d.size d.exact)

-- the least set is what is derived
pub derived_from_least : (rules : List Rule) (s t : List Bool) → All (IsRuleWithin (length s)) rules → IsLeast rules s t → (v : ℕ) → IsTrue (has t v) ↔ Derived rules s v
derived_from_least rules s t within least v =
    let d = derived_set rules s within in
    let same = least_unique rules s d.members t (least_from_derived rules s d.members d.size d.exact) least in
    subst (λ m. IsTrue (has m v) ↔ Derived rules s v) same (d.exact v)

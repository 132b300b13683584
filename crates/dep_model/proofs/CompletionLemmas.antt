-- The completion is one, it is what its closures derive, and rules give it.
use Rattle.std.proofs.Common.{◌≡◌, ℕ, ◌<◌, ◌↔◌, inl, inr, Bool, true, List, ◌++◌, length, set, map, Contains, All, refl, sym, ◌∙◌, subst}
use Rattle.std.proofs.lemmas.List.{length-set}
use Rattle.std.proofs.lemmas.List.Elements.{Contains-append_left, Contains-append_right, Contains-append_cases}
use Rattle.std.specs.Prelude.{IsTrue}
use Rattle.bit_rows.specs.Sets.{has, IsSubset}
use Rattle.dep_model.specs.declared.edge.Edge.{Edge}
use Rattle.dep_model.specs.declared.edge.Label.{Label}
use Rattle.dep_model.specs.declared.edge.Label.TheVariants.{Control, Flow, Call, In, Out}
use Rattle.rule_closure.specs.declared.closure.Rule.{Rule}
use Rattle.rule_closure.specs.Rules.{Derived, IsRuleWithin}
use Rattle.rule_closure.specs.Rules as rules_
use Rattle.dep_model.specs.Completion.{IsClosed, IsCompletion, Completed, seed, control, flow, formal_out, callee, actual_in, parameter, entry}
use Rattle.rule_closure.proofs.ListLemmas.{contains_map, map_contains}
use Rattle.rule_closure.proofs.SetLemmas.{has_in_range, has_set, has_set_same, has_set_cases, same_members}
use Rattle.rule_closure.proofs.RuleLemmas.{derived_set}

module _ (edges : List Edge) (Names : ℕ → ℕ → Type 0) (main : ℕ) where
  -- ---- the completion is one
  pub completion_unique : (x k m : List Bool) → IsCompletion edges Names main x k → IsCompletion edges Names main x m → k ≡ m
  completion_unique x k m a b = same_members k m (a.size ∙ sym b.size) (λ v. (a.least m b.size b.holds b.closed v, b.least k a.size a.holds a.closed v))

  -- ---- what the closures derive

  -- what is completed is in each closed set that holds the given one
  pub completed_least : (x t : List Bool) → IsSubset x t → IsClosed edges Names main t → {v : ℕ} → Completed edges Names main x v → IsTrue (has t v)
  completed_least x t holds closed (seed {v = v} h) = holds v h
  completed_least x t holds closed (control e m q a) = closed.controls e m q (completed_least x t holds closed a)
  completed_least x t holds closed (flow e m q a) = closed.flows e m q (completed_least x t holds closed a)
  completed_least x t holds closed (formal_out e c m q a) = closed.formal_outs e c m q (completed_least x t holds closed a)
  completed_least x t holds closed (callee e c m q a) = closed.callees e c m q (completed_least x t holds closed a)
  completed_least x t holds closed (actual_in e c m q a b) = closed.actual_ins e c m q (completed_least x t holds closed a) (completed_least x t holds closed b)
  completed_least x t holds closed (parameter {v = v} {u = u} n a) = closed.parameters v u n (completed_least x t holds closed a)
  completed_least x t holds closed entry = closed.entry

  -- a set of exactly what is completed is closed
  closed_from_completed : (x k : List Bool) → ((v : ℕ) → IsTrue (has k v) ↔ Completed edges Names main x v) → IsClosed edges Names main k
  closed_from_completed x k exact =
      let inside : (v : ℕ) → IsTrue (has k v) → Completed edges Names main x v = λ v h. let e = exact v in e.0 h in
      let all : (v : ℕ) → Completed edges Names main x v → IsTrue (has k v) = λ v h. let e = exact v in e.1 h in
      record {
        controls = λ e m q h. all e.from (control e m q (inside e.to h));
        flows = λ e m q h. all e.from (flow e m q (inside e.to h));
        formal_outs = λ e c m q h. all e.from (formal_out e c m q (inside e.to h));
        callees = λ e c m q h. all e.to (callee e c m q (inside e.from h));
        actual_ins = λ e c m q h g. all e.from (actual_in e c m q (inside c h) (inside e.to g));
        parameters = λ v u n h. all u (parameter n (inside v h));
        entry = all main entry;
      }

  -- and it is the completion
  pub completion_from_completed : (x k : List Bool) → length k ≡ length x → ((v : ℕ) → IsTrue (has k v) ↔ Completed edges Names main x v) → IsCompletion edges Names main x k
  completion_from_completed x k size exact = record {
    size = size;
    holds = λ v h. let e = exact v in e.1 (seed h);
    closed = closed_from_completed x k exact;
    least = λ t l holds closed v h. let e = exact v in completed_least x t holds closed (e.0 h);
  }

-- ---- the completion by rules

-- the rule of an edge from u to v
abbrev pub rule_at : ℕ → ℕ → Label → Rule
rule_at u v Control = record { first = v; second = v; gives = u }
rule_at u v Flow = record { first = v; second = v; gives = u }
rule_at u v (Call c) = record { first = u; second = u; gives = v }
rule_at u v (In c) = record { first = c; second = v; gives = u }
rule_at u v (Out c) = record { first = v; second = v; gives = u }

abbrev pub rule_of : Edge → Rule
rule_of e = rule_at e.from e.to e.label

-- rules that say which vertex names which parameter
pub record AreNames (Names : ℕ → ℕ → Type 0) (names : List Rule) : Type 0 where
  pub all : (v u : ℕ) → Names v u → Contains names (record { first = v; second = v; gives = u })
  pub only : (r : Rule) → Contains names r → Names r.first r.gives

module _ (edges : List Edge) (Names : ℕ → ℕ → Type 0) (main : ℕ) (names : List Rule) (are : AreNames Names names) where
  by_edge : (x : List Bool) (e : Edge) (l : Label) → e.label ≡ l → Contains edges e → Completed edges Names main x (rule_at e.from e.to l).first → Completed edges Names main x (rule_at e.from e.to l).second → Completed edges Names main x (rule_at e.from e.to l).gives
  by_edge x e Control q m a b = control e m q a
  by_edge x e Flow q m a b = flow e m q a
  by_edge x e (Call c) q m a b = callee e c m q a
  by_edge x e (In c) q m a b = actual_in e c m q a b
  by_edge x e (Out c) q m a b = formal_out e c m q a

  by_rule : (x : List Bool) (r : Rule) → Contains (map rule_of edges ++ names) r → Completed edges Names main x r.first → Completed edges Names main x r.second → Completed edges Names main x r.gives
  by_rule x r m a b = elim (Contains-append_cases (map rule_of edges) names r m) [
    | inl k ↦
        let w = contains_map rule_of edges r k in
        subst (λ (y : Rule). Completed edges Names main x y.gives) w.2
        (by_edge x w.0 w.0.label refl w.1 (subst (λ (y : Rule). Completed edges Names main x y.first) (sym w.2) a) (subst (λ (y : Rule). Completed edges Names main x y.second) (sym w.2) b))
    | inr k ↦ parameter (are.only r k) a
  ]

  completed_from_derived : (x : List Bool) {v : ℕ} → Derived (map rule_of edges ++ names) (set x main true) v → Completed edges Names main x v
  completed_from_derived x (rules_.seed {v = v} h) = elim (has_set_cases x main v h) [
    | inl old ↦ seed old
    | inr q ↦ subst (λ y. Completed edges Names main x y) (sym q) entry
  ]
  completed_from_derived x (rules_.by {r = r} m a b) = by_rule x r m (completed_from_derived x a) (completed_from_derived x b)

  rule_in : (e : Edge) (l : Label) → e.label ≡ l → Contains edges e → Contains (map rule_of edges ++ names) (rule_at e.from e.to l)
  rule_in e l q m = Contains-append_left (map rule_of edges) names (rule_at e.from e.to l) (subst (λ k. Contains (map rule_of edges) (rule_at e.from e.to k)) q (map_contains rule_of edges e m))

  derived_from_completed : (x : List Bool) → main < length x → {v : ℕ} → Completed edges Names main x v → Derived (map rule_of edges ++ names) (set x main true) v
  derived_from_completed x low (seed {v = v} h) = rules_.seed (has_set x main v h)
  derived_from_completed x low (control e m q a) = let d = derived_from_completed x low a in rules_.by (rule_in e Control q m) d d
  derived_from_completed x low (flow e m q a) = let d = derived_from_completed x low a in rules_.by (rule_in e Flow q m) d d
  derived_from_completed x low (formal_out e c m q a) = let d = derived_from_completed x low a in rules_.by (rule_in e (Out c) q m) d d
  derived_from_completed x low (callee e c m q a) = let d = derived_from_completed x low a in rules_.by (rule_in e (Call c) q m) d d
  derived_from_completed x low (actual_in e c m q a b) = rules_.by (rule_in e (In c) q m) (derived_from_completed x low a) (derived_from_completed x low b)
  derived_from_completed x low (parameter {v = v} {u = u} n a) =
      let d = derived_from_completed x low a in
      let r : Rule = record { first = v; second = v; gives = u } in
      rules_.by {r = r} (Contains-append_right (map rule_of edges) names r (are.all v u n)) d d
  derived_from_completed x low entry = rules_.seed (has_set_same x main low)

  -- what is completed is what the rules derive, once main's entry is added
  pub completed_by_rules : (x : List Bool) → main < length x → (v : ℕ) → Completed edges Names main x v ↔ Derived (map rule_of edges ++ names) (set x main true) v
  completed_by_rules x low v = (λ c. derived_from_completed x low c, λ d. completed_from_derived x d)

  -- a set of what the rules derive is the completion
  pub completion_from_rules : (x k : List Bool) → main < length x → length k ≡ length x → ((v : ℕ) → IsTrue (has k v) ↔ Derived (map rule_of edges ++ names) (set x main true) v) → IsCompletion edges Names main x k
  completion_from_rules x k low size exact = completion_from_completed edges Names main x k size (λ v. let e = exact v in (λ h. completed_from_derived x (e.0 h), λ c. e.1 (derived_from_completed x low c)))

  -- where the rules are within the set, the completion exists
  pub completion_exists : (x : List Bool) → main < length x → All (IsRuleWithin (length x)) (map rule_of edges ++ names) → (k : List Bool) × IsCompletion edges Names main x k
  completion_exists x low within =
      let d = derived_set (map rule_of edges ++ names) (set x main true) (subst (λ n. All (IsRuleWithin n) (map rule_of edges ++ names)) (sym (length-set x main true)) within) in
      (d.members, completion_from_rules x d.members low (d.size ∙ length-set x main true) d.exact)

  -- and it is what is completed
  pub completed_from_completion : (x k : List Bool) → All (IsRuleWithin (length x)) (map rule_of edges ++ names) → IsCompletion edges Names main x k → (v : ℕ) → IsTrue (has k v) ↔ Completed edges Names main x v
  completed_from_completion x k within c v =
      let low : main < length x = subst (λ n. main < n) c.size (has_in_range k main c.closed.entry) in
      let d = derived_set (map rule_of edges ++ names) (set x main true) (subst (λ n. All (IsRuleWithin n) (map rule_of edges ++ names)) (sym (length-set x main true)) within) in
      let own = completion_from_rules x d.members low (d.size ∙ length-set x main true) d.exact in
      let same = completion_unique edges Names main x d.members k own c in
      let e = d.exact v in
      subst (λ m. IsTrue (has m v) ↔ Completed edges Names main x v) same (λ h. completed_from_derived x (e.0 h), λ h. e.1 (derived_from_completed x low h))

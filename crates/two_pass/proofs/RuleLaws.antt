-- The rules that are made are those of the passes.
use Rattle.std.proofs.Common.{◌≡◌, ℕ, ◌+◌, ◌<◌, inl, inr, true, cond, List, [], ◌∷◌, ◌++◌, length, map, flat_map, Contains, All, refl, sym, ap, ◌∙◌, subst, arith}
use Rattle.std.specs.List.{range_with_len}
use Rattle.std.proofs.lemmas.List.Elements.{Contains-append_left, Contains-append_right, Contains-append_cases}
use Rattle.std.proofs.lemmas.List.FromFn.{length-range_with_len, get_or-range_with_len}
use Rattle.rule_closure.specs.declared.closure.Rule.{Rule}
use Rattle.rule_closure.specs.Rules.{IsRuleWithin}
use Rattle.rule_closure.proofs.ListLemmas.{contains_none, contains_head, contains_cons, contains_cases, contains_map, map_contains}
use Rattle.dep_model.specs.declared.edge.Edge.{Edge}
use Rattle.dep_model.specs.declared.edge.Label.{Label}
use Rattle.dep_model.specs.declared.edge.Label.TheVariants.{Control, Flow, Call, In, Out}
use Rattle.dep_model.specs.declared.graph.Graph.{Graph}
use Rattle.dep_model.specs.Facts.{FactSet, HoldsFact, IsSummary}
use Rattle.dep_model.specs.Graphs.{edge}
use Rattle.dep_model.specs.Shapes.{IsShaped}
use Rattle.matched_paths.specs.Places.{Places, ArePlaces, holds_fact}
use Rattle.matched_paths.proofs.CallShapes.{formals_of_call}
use Rattle.matched_paths.proofs.ReachLaws.{edge_below, inner_below}
use Rattle.two_pass.specs.PassRules.{GoesBack, IsPassRule, ArePassRules, goes_first, goes_second, edge_rules, turn_rule}
use Rattle.two_pass.specs.PassRules as passes
use Rattle.matched_paths.specs.Backward.{one_premise}
use Rattle.matched_paths.specs.EdgeGroups.{leaving}
use Rattle.two_pass.specs.CallRules.{crossing_rules, rules_by, call_rules}
use Rattle.matched_paths.proofs.Members.{contains_flat, flat_contains, if_contains, contains_if, all_of}
use Rattle.matched_paths.proofs.GroupLaws.{leaving_is, leaving_has}

-- ---- a rule that a list has is one of its rules
module _ (n : ℕ) (edges : List Edge) (K : FactSet) where
  pass_rule : (j k : ℕ) (r : Rule) → one_premise j k ≡ r → GoesBack n edges K j k → IsPassRule n edges K r
  pass_rule j k r e b = subst (IsPassRule n edges K) e (record { one = refl; goes = b })

  one_of_two : (j k l m : ℕ) (r : Rule) → Contains (one_premise j k ∷ one_premise l m ∷ []) r → GoesBack n edges K j k → GoesBack n edges K l m → IsPassRule n edges K r
  one_of_two j k l m r h a b = elim (contains_cases (one_premise j k) (one_premise l m ∷ []) r h) [
    | inl e ↦ pass_rule j k r e a
    | inr t ↦ elim (contains_cases (one_premise l m) [] r t) [ inl e ↦ pass_rule l m r e b | inr none ↦ absurd (contains_none r none) ]
  ]

  the_one : (j k : ℕ) (r : Rule) → Contains (one_premise j k ∷ []) r → GoesBack n edges K j k → IsPassRule n edges K r
  the_one j k r h a = elim (contains_cases (one_premise j k) [] r h) [ inl e ↦ pass_rule j k r e a | inr none ↦ absurd (contains_none r none) ]

  edge_rule_is : (a b : ℕ) (l : Label) (r : Rule) → Contains edges (edge a b l) → Contains (cond (goes_first l) (one_premise b a ∷ []) [] ++ cond (goes_second l) (one_premise (n + b) (n + a) ∷ []) []) r → IsPassRule n edges K r
  edge_rule_is a b Control r m h = one_of_two b a (n + b) (n + a) r h (passes.first (inl m)) (passes.second (inl m))
  edge_rule_is a b Flow r m h = one_of_two b a (n + b) (n + a) r h (passes.first (inr (inl m))) (passes.second (inr (inl m)))
  edge_rule_is a b (Call c) r m h = the_one b a r h (passes.call c m)
  edge_rule_is a b (In c) r m h = the_one b a r h (passes.in_ c m)
  edge_rule_is a b (Out c) r m h = the_one (n + b) (n + a) r h (passes.out c m)

  turn_is : (r : Rule) → Contains (map (turn_rule n) (range_with_len 0 n)) r → IsPassRule n edges K r
  turn_is r h =
      let w = contains_map (turn_rule n) (range_with_len 0 n) r h in
      let at = w.1 in
      let long = length-range_with_len 0 n in
      let place : at.0 < n = let low = at.1 in omega (arith, low, long) in
      let is = get_or-range_with_len 0 n at.0 w.0 place in
      let read = at.2 in
      let same : w.0 ≡ at.0 = omega (arith, is, read) in
      pass_rule w.0 (n + w.0) r w.2 (passes.turn (omega (arith, same, place)))

  turn_has : (v : ℕ) → v < n → Contains (map (turn_rule n) (range_with_len 0 n)) (one_premise v (n + v))
  turn_has v low =
      let long = length-range_with_len 0 n in
      let at : 0 + v ≡ v = omega arith in
      let inside : Contains (range_with_len 0 n) v = (v, omega (arith, long, low), get_or-range_with_len 0 n v v low ∙ at) in
      map_contains (turn_rule n) (range_with_len 0 n) v inside

module _ (g : Graph) (ws : List ℕ) (t : Places) (shaped : IsShaped g) (places : ArePlaces g t) where
  abbrev n : ℕ
  n = length g.vertices

  call_rule_is : (a b : ℕ) (l : Label) (r : Rule) → Contains g.edges (edge a b l) → Contains (rules_by l n g.edges ws t (edge a b l)) r → IsPassRule n g.edges (HoldsFact g ws) r
  call_rule_is a b Control r m h = absurd (contains_none r h)
  call_rule_is a b Flow r m h = absurd (contains_none r h)
  call_rule_is a b (Call c) r m h = absurd (contains_none r h)
  call_rule_is a b (Out c) r m h = absurd (contains_none r h)
  call_rule_is a b (In c) r m h =
      let w = contains_flat (crossing_rules n ws t (edge a b (In c))) (flat_map (leaving c) g.edges) r h in
      let leave = w.0 in
      let out = leaving_is g.edges c leave w.1 in
      let leaves : Contains g.edges (edge leave.from leave.to (Out c)) = subst (λ l. Contains g.edges (edge leave.from leave.to l)) out.1 out.0 in
      let held = if_contains (holds_fact t ws b leave.from) (one_premise leave.to a ∷ one_premise (n + leave.to) (n + a) ∷ []) r w.2 in
      let formals = formals_of_call g shaped c a b leave.from leave.to m leaves in
      let s : IsSummary g.edges (HoldsFact g ws) a leave.to = record {
        call = c;
        formal_in = b;
        formal_out = leave.from;
        enters = m;
        leaves = leaves;
        fact = (places.exact formals.0 b leave.from ws formals.1).1 held.0;
      } in
      one_of_two n g.edges (HoldsFact g ws) leave.to a (n + leave.to) (n + a) r held.1 (passes.first (inr (inr s))) (passes.second (inr (inr s)))

  -- both rules of a summary edge
  summary_has : (a b : ℕ) (s : IsSummary g.edges (HoldsFact g ws) a b) (r : Rule) → Contains (one_premise b a ∷ one_premise (n + b) (n + a) ∷ []) r → Contains (flat_map (call_rules n g.edges ws t) g.edges) r
  summary_has a b s r h =
      let formals = formals_of_call g shaped s.call a s.formal_in s.formal_out b s.enters s.leaves in
      let held : holds_fact t ws s.formal_in s.formal_out ≡ true = (places.exact formals.0 s.formal_in s.formal_out ws formals.1).0 s.fact in
      let enter = edge a s.formal_in (In s.call) in
      let leave = edge s.formal_out b (Out s.call) in
      flat_contains (call_rules n g.edges ws t) g.edges enter r s.enters
      (flat_contains (crossing_rules n ws t enter) (flat_map (leaving s.call) g.edges) leave r (leaving_has g.edges s.call s.formal_out b s.leaves)
      (contains_if (holds_fact t ws s.formal_in s.formal_out) (one_premise b a ∷ one_premise (n + b) (n + a) ∷ []) r held h))

  abbrev turns : List Rule
  turns = map (turn_rule n) (range_with_len 0 n)

  abbrev along : List Rule
  along = flat_map (edge_rules n) g.edges

  abbrev over : List Rule
  over = flat_map (call_rules n g.edges ws t) g.edges

  edge_has : (a b : ℕ) (l : Label) (r : Rule) → Contains g.edges (edge a b l) → Contains (edge_rules n (edge a b l)) r → Contains ((turns ++ along) ++ over) r
  edge_has a b l r m h = Contains-append_left (turns ++ along) over r (Contains-append_right turns along r (flat_contains (edge_rules n) g.edges (edge a b l) r m h))

  rule_has : (j k : ℕ) → GoesBack n g.edges (HoldsFact g ws) j k → Contains ((turns ++ along) ++ over) (one_premise j k)
  rule_has j k (passes.turn {v = v} h) =
      Contains-append_left (turns ++ along) over (one_premise v (n + v)) (Contains-append_left turns along (one_premise v (n + v)) (turn_has n g.edges (HoldsFact g ws) v h))
  rule_has j k (passes.call {u = u} {v = v} c m) = edge_has u v (Call c) (one_premise v u) m (contains_head (one_premise v u) [])
  rule_has j k (passes.in_ {u = u} {v = v} c m) = edge_has u v (In c) (one_premise v u) m (contains_head (one_premise v u) [])
  rule_has j k (passes.out {u = u} {v = v} c m) = edge_has u v (Out c) (one_premise (n + v) (n + u)) m (contains_head (one_premise (n + v) (n + u)) [])
  rule_has j k (passes.first {u = u} {v = v} (inl m)) = edge_has u v Control (one_premise v u) m (contains_head (one_premise v u) (one_premise (n + v) (n + u) ∷ []))
  rule_has j k (passes.first {u = u} {v = v} (inr (inl m))) = edge_has u v Flow (one_premise v u) m (contains_head (one_premise v u) (one_premise (n + v) (n + u) ∷ []))
  rule_has j k (passes.first {u = u} {v = v} (inr (inr s))) =
      Contains-append_right (turns ++ along) over (one_premise v u) (summary_has u v s (one_premise v u) (contains_head (one_premise v u) (one_premise (n + v) (n + u) ∷ [])))
  rule_has j k (passes.second {u = u} {v = v} (inl m)) =
      edge_has u v Control (one_premise (n + v) (n + u)) m (contains_cons (one_premise v u) (one_premise (n + v) (n + u) ∷ []) (one_premise (n + v) (n + u)) (contains_head (one_premise (n + v) (n + u)) []))
  rule_has j k (passes.second {u = u} {v = v} (inr (inl m))) =
      edge_has u v Flow (one_premise (n + v) (n + u)) m (contains_cons (one_premise v u) (one_premise (n + v) (n + u) ∷ []) (one_premise (n + v) (n + u)) (contains_head (one_premise (n + v) (n + u)) []))
  rule_has j k (passes.second {u = u} {v = v} (inr (inr s))) =
      Contains-append_right (turns ++ along) over (one_premise (n + v) (n + u))
      (summary_has u v s (one_premise (n + v) (n + u)) (contains_cons (one_premise v u) (one_premise (n + v) (n + u) ∷ []) (one_premise (n + v) (n + u)) (contains_head (one_premise (n + v) (n + u)) [])))

  rule_is : (r : Rule) → Contains ((turns ++ along) ++ over) r → IsPassRule n g.edges (HoldsFact g ws) r
  rule_is r h = elim (Contains-append_cases (turns ++ along) over r h) [
    | inl front ↦ elim (Contains-append_cases turns along r front) [
      | inl t ↦ turn_is n g.edges (HoldsFact g ws) r t
      | inr a ↦ let w = contains_flat (edge_rules n) g.edges r a in edge_rule_is n g.edges (HoldsFact g ws) w.0.from w.0.to w.0.label r w.1 w.2
    ]
    | inr o ↦ let w = contains_flat (call_rules n g.edges ws t) g.edges r o in call_rule_is w.0.from w.0.to w.0.label r w.1 w.2
  ]

  as_one : (r : Rule) → r.second ≡ r.first → one_premise r.first r.gives ≡ r
  as_one r e = ap (λ (s : ℕ). let q : Rule = record { first = r.first; second = s; gives = r.gives } in q) (sym e)

  pub rules_are : ArePassRules n g.edges (HoldsFact g ws) ((turns ++ along) ++ over)
  rules_are r = (rule_is r, λ p. subst (Contains ((turns ++ along) ++ over)) (as_one r p.one) (rule_has r.first r.gives p.goes))

-- ---- numbers of rules
pub ends_within : (g : Graph) → IsShaped g → All (λ e. (e.from < length g.vertices) × (e.to < length g.vertices)) g.edges
ends_within g shaped = all_of (λ (e : Edge). (e.from < length g.vertices) × (e.to < length g.vertices)) g.edges (λ e m. edge_below g shaped e m)

goes_within : (g : Graph) (K : FactSet) → IsShaped g → {j k : ℕ} → GoesBack (length g.vertices) g.edges K j k → (j < length g.vertices + length g.vertices) × (k < length g.vertices + length g.vertices)
goes_within g K shaped (passes.first {u = u} {v = v} e) = let b = inner_below g K shaped u v e in (omega (arith, b.1), omega (arith, b.0))
goes_within g K shaped (passes.second {u = u} {v = v} e) = let b = inner_below g K shaped u v e in (omega (arith, b.1), omega (arith, b.0))
goes_within g K shaped (passes.call {u = u} {v = v} c m) = let b = edge_below g shaped (edge u v (Call c)) m in (omega (arith, b.1), omega (arith, b.0))
goes_within g K shaped (passes.in_ {u = u} {v = v} c m) = let b = edge_below g shaped (edge u v (In c)) m in (omega (arith, b.1), omega (arith, b.0))
goes_within g K shaped (passes.out {u = u} {v = v} c m) = let b = edge_below g shaped (edge u v (Out c)) m in (omega (arith, b.1), omega (arith, b.0))
goes_within g K shaped (passes.turn h) = (omega (arith, h), omega (arith, h))

pub rules_within : (g : Graph) (K : FactSet) (rules : List Rule) → IsShaped g → ArePassRules (length g.vertices) g.edges K rules → All (IsRuleWithin (length g.vertices + length g.vertices)) rules
rules_within g K rules shaped are = all_of (IsRuleWithin (length g.vertices + length g.vertices)) rules (λ r m.
    let p = (are r).0 m in
    let w = goes_within g K shaped p.goes in
    record { first_in = w.0; second_in = let one = p.one in let low = w.0 in omega (arith, one, low); gives_in = w.1 })

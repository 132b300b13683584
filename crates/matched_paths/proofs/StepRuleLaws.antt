-- The rules that are made for a function are those that go back along its inner edges.
use Rattle.std.proofs.Common.{◌≡◌, ℕ, ◌-◌, ◌<◌, ◌≤◌, ◌&&◌, inl, inr, true, false, List, [], ◌∷◌, flat_map, Contains, All, refl, sym, ap, ◌∙◌, subst, arith}
use Rattle.std.specs.Prelude.{nat_lt, not}
use Rattle.std.proofs.lemmas.Bool.{and_parts, and_from}
use Rattle.std.proofs.lemmas.Bool.Decides.{nat_tests}
use Rattle.rule_closure.specs.declared.closure.Rule.{Rule}
use Rattle.rule_closure.specs.Rules.{IsRuleWithin}
use Rattle.rule_closure.proofs.ListLemmas.{contains_none, contains_head, contains_cases}
use Rattle.dep_model.specs.declared.edge.Edge.{Edge}
use Rattle.dep_model.specs.declared.edge.Label.{Label}
use Rattle.dep_model.specs.declared.edge.Label.TheVariants.{Control, Flow, Call, In, Out}
use Rattle.dep_model.specs.declared.graph.Graph.{Graph}
use Rattle.dep_model.specs.Facts.{FactSet, IsIn, HoldsFact, IsInnerEdge, IsSummary}
use Rattle.dep_model.specs.Graphs.{edge}
use Rattle.dep_model.specs.Shapes.{IsShaped}
use Rattle.matched_paths.specs.Backward.{one_premise}
use Rattle.matched_paths.specs.EdgeGroups.{group_at, leaving, starting}
use Rattle.matched_paths.specs.Places.{Places, ArePlaces, holds_fact}
use Rattle.matched_paths.proofs.CallShapes.{formals_of_call}
use Rattle.matched_paths.proofs.GroupLaws.{leaving_is, leaving_has, starting_is, starting_has}
use Rattle.matched_paths.proofs.Members.{contains_flat, flat_contains, if_contains, contains_if, all_of}
use Rattle.matched_paths.specs.declared.vertex_range.VertexRange.{VertexRange}
use Rattle.matched_paths.specs.StepRules.{inner_rules, crossing_rules, rules_by, step_rules, IsStepRule, AreStepRules}
use Rattle.matched_paths.specs.VertexRanges.{within, IsWholeFunction}

pub within_is : (s : VertexRange) (v : ℕ) → within s v ≡ true → (s.first ≤ v) × (v < s.last)
within_is s v h =
    let k = and_parts (not (nat_lt v s.first)) (nat_lt v s.last) h in
    let a = k.0 in
    let b = k.1 in
    (grind (arith, nat_tests, a), grind (arith, nat_tests, b))

pub is_within : (s : VertexRange) (v : ℕ) → s.first ≤ v → v < s.last → within s v ≡ true
is_within s v low high =
    let a : nat_lt v s.first ≡ false = grind (arith, nat_tests, low) in
    let b : nat_lt v s.last ≡ true = grind (arith, nat_tests, high) in
    and_from _ _ (ap not a) b

module _ (g : Graph) (ws : List ℕ) (t : Places) (s : VertexRange) (shaped : IsShaped g) (places : ArePlaces g t) (whole : IsWholeFunction g.vertices s) where
  abbrev f : ℕ
  f = whole.function

  abbrev K : FactSet
  K = HoldsFact g ws

  in_function : (v : ℕ) → within s v ≡ true → IsIn g.vertices f v
  in_function v h = (whole.all v).1 (within_is s v h)

  of_function : (v : ℕ) → IsIn g.vertices f v → within s v ≡ true
  of_function v i = let p = (whole.all v).0 i in is_within s v p.0 p.1

  inner_is : (u v : ℕ) (r : Rule) → IsInnerEdge g.edges K u v → Contains (inner_rules s u v) r → IsStepRule g K f s.first r
  inner_is u v r along h =
      let k = if_contains (within s u && within s v) (one_premise (v - s.first) (u - s.first) ∷ []) r h in
      let p = and_parts (within s u) (within s v) k.0 in
      let same : one_premise (v - s.first) (u - s.first) ≡ r = elim (contains_cases (one_premise (v - s.first) (u - s.first)) [] r k.1) [ inl e ↦ e | inr n ↦ absurd (contains_none r n) ] in
      subst (IsStepRule g K f s.first) same (record {
        one = refl;
        goes = record { from = u; to = v; from_in = in_function u p.0; to_in = in_function v p.1; along = along; j_is = refl; k_is = refl };
      })

  inner_has : (u v : ℕ) → IsIn g.vertices f u → IsIn g.vertices f v → Contains (inner_rules s u v) (one_premise (v - s.first) (u - s.first))
  inner_has u v i j =
      contains_if (within s u && within s v) (one_premise (v - s.first) (u - s.first) ∷ []) (one_premise (v - s.first) (u - s.first)) (and_from _ _ (of_function u i) (of_function v j)) (contains_head (one_premise (v - s.first) (u - s.first)) [])

  module _ (exits : List (List Edge)) (are : (c : ℕ) → group_at exits c ≡ flat_map (leaving c) g.edges) where
    rule_by : (a b : ℕ) (l : Label) (r : Rule) → Contains g.edges (edge a b l) → Contains (rules_by l s exits ws t (edge a b l)) r → IsStepRule g K f s.first r
    rule_by a b Control r m h = inner_is a b r (inl m) h
    rule_by a b Flow r m h = inner_is a b r (inr (inl m)) h
    rule_by a b (Call c) r m h = absurd (contains_none r h)
    rule_by a b (Out c) r m h = absurd (contains_none r h)
    rule_by a b (In c) r m h =
        let w = contains_flat (crossing_rules s ws t (edge a b (In c))) (group_at exits c) r h in
        let leave = w.0 in
        let out = leaving_is g.edges c leave (subst (λ es. Contains es leave) (are c) w.1) in
        let leaves : Contains g.edges (edge leave.from leave.to (Out c)) = subst (λ l. Contains g.edges (edge leave.from leave.to l)) out.1 out.0 in
        let held = if_contains (holds_fact t ws b leave.from) (inner_rules s a leave.to) r w.2 in
        let formals = formals_of_call g shaped c a b leave.from leave.to m leaves in
        let summary : IsSummary g.edges K a leave.to = record {
          call = c;
          formal_in = b;
          formal_out = leave.from;
          enters = m;
          leaves = leaves;
          fact = (places.exact formals.0 b leave.from ws formals.1).1 held.0;
        } in
        inner_is a leave.to r (inr (inr summary)) held.1

    abbrev edges : List Edge
    edges = flat_map (starting g.vertices f) g.edges

    abbrev made : List Rule
    made = flat_map (step_rules s exits ws t) edges

    rule_is : (r : Rule) → Contains made r → IsStepRule g K f s.first r
    rule_is r h =
        let w = contains_flat (step_rules s exits ws t) edges r h in
        let e = w.0 in
        rule_by e.from e.to e.label r (starting_is g.vertices g.edges f e w.1) w.2

    from_edge : (u v : ℕ) (l : Label) (r : Rule) → IsIn g.vertices f u → Contains g.edges (edge u v l) → Contains (rules_by l s exits ws t (edge u v l)) r → Contains made r
    from_edge u v l r i m h = flat_contains (step_rules s exits ws t) edges (edge u v l) r (starting_has g.vertices g.edges f (edge u v l) m i) h

    rule_has : (u v : ℕ) → IsIn g.vertices f u → IsIn g.vertices f v → IsInnerEdge g.edges K u v → Contains made (one_premise (v - s.first) (u - s.first))
    rule_has u v i j (inl m) = from_edge u v Control (one_premise (v - s.first) (u - s.first)) i m (inner_has u v i j)
    rule_has u v i j (inr (inl m)) = from_edge u v Flow (one_premise (v - s.first) (u - s.first)) i m (inner_has u v i j)
    rule_has u v i j (inr (inr q)) =
        let r = one_premise (v - s.first) (u - s.first) in
        let formals = formals_of_call g shaped q.call u q.formal_in q.formal_out v q.enters q.leaves in
        let held : holds_fact t ws q.formal_in q.formal_out ≡ true = (places.exact formals.0 q.formal_in q.formal_out ws formals.1).0 q.fact in
        let leave = edge q.formal_out v (Out q.call) in
        let there : Contains (group_at exits q.call) leave = subst (λ es. Contains es leave) (sym (are q.call)) (leaving_has g.edges q.call q.formal_out v q.leaves) in
        from_edge u q.formal_in (In q.call) r i q.enters
        (flat_contains (crossing_rules s ws t (edge u q.formal_in (In q.call))) (group_at exits q.call) leave r there
        (contains_if (holds_fact t ws q.formal_in q.formal_out) (inner_rules s u v) r held (inner_has u v i j)))

    as_one : (r : Rule) → r.second ≡ r.first → one_premise r.first r.gives ≡ r
    as_one r e = ap (λ (k : ℕ). let q : Rule = record { first = r.first; second = k; gives = r.gives } in q) (sym e)

    pub rules_are : AreStepRules g K f s.first made
    rules_are r = (
      rule_is r,
      λ p.
          let b = p.goes in
          let same : one_premise (b.to - s.first) (b.from - s.first) ≡ r = ap (λ (j : ℕ). one_premise j (b.from - s.first)) (sym b.j_is) ∙ ap (one_premise r.first) (sym b.k_is) ∙ as_one r p.one in
          subst (Contains made) same (rule_has b.from b.to b.from_in b.to_in b.along),
    )

-- the numbers of the rules are below the count of the function's vertices
pub rules_within : (g : Graph) (K : FactSet) (s : VertexRange) (whole : IsWholeFunction g.vertices s) (rules : List Rule) → AreStepRules g K whole.function s.first rules → All (IsRuleWithin (s.last - s.first)) rules
rules_within g K s whole rules are = all_of (IsRuleWithin (s.last - s.first)) rules (λ r m.
    let p = (are r).0 m in
    let b = p.goes in
    let to = (whole.all b.to).0 b.to_in in
    let from = (whole.all b.from).0 b.from_in in
    let j = b.j_is in let k = b.k_is in let one = p.one in
    let t0 = to.0 in let t1 = to.1 in let f0 = from.0 in let f1 = from.1 in
    record { first_in = omega (arith, j, t0, t1); second_in = omega (arith, one, j, t0, t1); gives_in = omega (arith, k, f0, f1) })

-- The rules of a function go back from a vertex to those from which chains of inner edges lead to it.
use Rattle.std.proofs.Common.{◌≡◌, ℕ, ◌-◌, Bool, List, Contains, refl, sym, ◌∙◌, subst, arith}
use Rattle.std.specs.Prelude.{◌↔◌, IsTrue}
use Rattle.bit_rows.specs.Sets.{has}
use Rattle.rule_closure.specs.declared.closure.Rule.{Rule}
use Rattle.rule_closure.specs.Rules.{Derived}
use Rattle.rule_closure.specs.Rules as closed
use Rattle.dep_model.specs.declared.graph.Graph.{Graph}
use Rattle.dep_model.specs.Facts.{FactSet, IsIn, IsInnerEdge, IsInnerChain}
use Rattle.dep_model.specs.Facts as facts
use Rattle.matched_paths.specs.Backward.{one_premise}
use Rattle.matched_paths.specs.declared.vertex_range.VertexRange.{VertexRange}
use Rattle.matched_paths.specs.StepRules.{IsBack, AreStepRules}
use Rattle.matched_paths.specs.StepRules as rules_
use Rattle.matched_paths.specs.VertexRanges.{IsWholeFunction}

-- ---- what rules derive from one number
pub back_of_derived : {rules : List Rule} {s : List Bool} {n : ℕ} → ((v : ℕ) → IsTrue (has s v) → v ≡ n) → {v : ℕ} → Derived rules s v → IsBack rules n v
back_of_derived {rules} {s} {n} one (closed.seed {v = v} h) = subst (IsBack rules n) (sym (one v h)) rules_.itself
back_of_derived one (closed.by m a b) = rules_.by m (back_of_derived one a) (back_of_derived one b)

pub derived_of_back : {rules : List Rule} {s : List Bool} {n : ℕ} → IsTrue (has s n) → {v : ℕ} → IsBack rules n v → Derived rules s v
derived_of_back here rules_.itself = closed.seed here
derived_of_back here (rules_.by m a b) = closed.by m (derived_of_back here a) (derived_of_back here b)

-- a chain begins in its function
pub chain_begins : {g : Graph} {K : FactSet} {f a b : ℕ} → IsInnerChain g K f a b → IsIn g.vertices f a
chain_begins (facts.ends i) = i
chain_begins (facts.goes_on i e rest) = i

module _ (g : Graph) (K : FactSet) (s : VertexRange) (whole : IsWholeFunction g.vertices s) (rules : List Rule) (are : AreStepRules g K whole.function s.first rules) (b : ℕ) (b_in : IsIn g.vertices whole.function b) where
  abbrev f : ℕ
  f = whole.function

  -- a number is that of a vertex from which a chain leads to b
  record IsChained (n : ℕ) : Type 0 where
    vertex : ℕ
    number : n ≡ vertex - s.first
    chain : IsInnerChain g K f vertex b

  -- two vertices of the function with one number are one
  one_vertex : (u v : ℕ) → IsIn g.vertices f u → IsIn g.vertices f v → u - s.first ≡ v - s.first → u ≡ v
  one_vertex u v i j e =
      let a = ((whole.all u).0 i).0 in
      let c = ((whole.all v).0 j).0 in
      omega (arith, a, c, e)

  chain_of_back : {n : ℕ} → IsBack rules (b - s.first) n → IsChained n
  chain_of_back rules_.itself = record { vertex = b; number = refl; chain = facts.ends b_in }
  chain_of_back (rules_.by {r = r} m x y) =
      let before = chain_of_back x in
      let p = ((are r).0 m).goes in
      let same : p.to ≡ before.vertex = one_vertex p.to before.vertex p.to_in (chain_begins before.chain) (sym p.j_is ∙ before.number) in
      record { vertex = p.from; number = p.k_is; chain = facts.goes_on p.from_in p.along (subst (λ v. IsInnerChain g K f v b) (sym same) before.chain) }

  back_of_chain : {v c : ℕ} → IsInnerChain g K f v c → c ≡ b → IsBack rules (b - s.first) (v - s.first)
  back_of_chain (facts.ends {a = a} i) e = subst (λ x. IsBack rules (b - s.first) (x - s.first)) (sym e) rules_.itself
  back_of_chain (facts.goes_on {a = a} {b = m} i along rest) e =
      let r : Rule = one_premise (m - s.first) (a - s.first) in
      let there : Contains rules r = (are r).1 (record { one = refl; goes = record { from = a; to = m; from_in = i; to_in = chain_begins rest; along = along; j_is = refl; k_is = refl } }) in
      let before = back_of_chain rest e in
      rules_.by {r = r} there before before

  pub chains_are : (v : ℕ) → IsIn g.vertices f v → IsBack rules (b - s.first) (v - s.first) ↔ IsInnerChain g K f v b
  chains_are v i = (
    λ x.
        let q = chain_of_back x in
        let same : v ≡ q.vertex = one_vertex v q.vertex i (chain_begins q.chain) q.number in
        subst (λ u. IsInnerChain g K f u b) (sym same) q.chain,
    λ c. back_of_chain c refl,
  )

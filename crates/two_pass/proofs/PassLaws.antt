-- With exactly the true facts, the rules of both passes derive what reaches a set by a word that rises and then falls.
use Rattle.std.proofs.Common.{◌≡◌, ◌↔◌, ℕ, ◌+◌, ◌<◌, Bool, List, [], ◌∷◌, length, Contains, refl, sym, ap, subst, arith, All}
use Rattle.std.proofs.lemmas.List.Elements.{All-contains}
use Rattle.std.specs.Prelude.{IsTrue}
use Rattle.bit_rows.specs.Sets.{has}
use Rattle.rule_closure.specs.declared.closure.Rule.{Rule}
use Rattle.rule_closure.specs.Rules.{Derived, RuleSystem}
use Rattle.rule_closure.specs.Rules as rules_
use Rattle.dep_model.specs.declared.edge.Edge.{Edge}
use Rattle.dep_model.specs.declared.edge.Label.{Label}
use Rattle.dep_model.specs.declared.edge.Label.TheVariants.{Control, Flow, Call, In, Out}
use Rattle.dep_model.specs.declared.graph.Graph.{Graph}
use Rattle.dep_model.specs.Facts.{FactSet, HoldsFact, AreTrueFacts}
use Rattle.dep_model.specs.Graphs.{edge}
use Rattle.dep_model.specs.Shapes.{IsShaped}
use Rattle.dep_model.specs.Words.{Open, Close, letters, ReachesAny}
use Rattle.matched_paths.specs.Laws.{AreTrue, HasEachTrueFact}
use Rattle.matched_paths.proofs.Levels.{Spelled, split, path_of}
use Rattle.matched_paths.proofs.FactLaws.{level_of_inner}
use Rattle.matched_paths.proofs.ReachLaws.{FallsToAny, falls_itself, falls_level, falls_open, reaches_falling, reaches_level, reaches_close, edge_below, inner_below, path_below, back_along_falling, back_along_rising}
use Rattle.two_pass.specs.PassRules.{GoesBack, IsPassRule, ArePassRules}
use Rattle.matched_paths.specs.Backward.{one_premise}
use Rattle.two_pass.specs.PassRules as passes
use Rattle.two_pass.specs.Ready.{PassGraph, HasMembers, FindsReached}

-- ---- edges by their letters
opened_goes : (n : ℕ) (edges : List Edge) (K : FactSet) (c a b : ℕ) → Spelled edges (Open c ∷ []) a b → GoesBack n edges K b a
opened_goes n edges K c a b h = by_label h.label h.member h.spells where
  by_label : (l : Label) → Contains edges (edge a b l) → letters l ≡ Open c ∷ [] → GoesBack n edges K b a
  by_label Control m s = cc
  by_label Flow m s = cc
  by_label (Call d) m s = passes.call d m
  by_label (In d) m s = passes.in_ d m
  by_label (Out d) m s = cc

closed_goes : (n : ℕ) (edges : List Edge) (K : FactSet) (c a b : ℕ) → Spelled edges (Close c ∷ []) a b → GoesBack n edges K (n + b) (n + a)
closed_goes n edges K c a b h = by_label h.label h.member h.spells where
  by_label : (l : Label) → Contains edges (edge a b l) → letters l ≡ Close c ∷ [] → GoesBack n edges K (n + b) (n + a)
  by_label Control m s = cc
  by_label Flow m s = cc
  by_label (Call d) m s = cc
  by_label (In d) m s = cc
  by_label (Out d) m s = passes.out d m

-- what a number says that is marked: of a vertex in the first pass, that it falls to one of the set, and in the second, that it reaches one
data IsMarked (n : ℕ) (edges : List Edge) (s : List Bool) (k : ℕ) : Type 0 where
  low : k < n → FallsToAny edges s k → IsMarked n edges s k
  high : (v : ℕ) → k ≡ n + v → ReachesAny edges s v → IsMarked n edges s k

from_high : (n : ℕ) (edges : List Edge) (s : List Bool) (v : ℕ) → IsMarked n edges s (n + v) → ReachesAny edges s v
from_high n edges s v (low h r) = absurd (omega (arith, h))
from_high n edges s v (high w e r) = let same : w ≡ v = omega (arith, e) in subst (ReachesAny edges s) same r

from_low : (n : ℕ) (edges : List Edge) (s : List Bool) (v : ℕ) → v < n → IsMarked n edges s v → FallsToAny edges s v
from_low n edges s v below (low h r) = r
from_low n edges s v below (high w e r) = absurd (omega (arith, e, below))

module _ (g : Graph) (K : FactSet) (shaped : IsShaped g) (true_ : AreTrue g K) where
  abbrev size : ℕ
  size = length g.vertices

  marks_back : (s : List Bool) {j k : ℕ} → GoesBack size g.edges K j k → IsMarked size g.edges s j → IsMarked size g.edges s k
  marks_back s (passes.first {u = u} {v = v} e) r =
      let below = inner_below g K shaped u v e in
      low below.0 (falls_level g.edges s u v (path_of (level_of_inner g K true_ u v e)) (from_low size g.edges s v below.1 r))
  marks_back s (passes.second {u = u} {v = v} e) r =
      high u refl (reaches_level g.edges s u v (path_of (level_of_inner g K true_ u v e)) (from_high size g.edges s v r))
  marks_back s (passes.call {u = u} {v = v} c m) r =
      let below = edge_below g shaped (edge u v (Call c)) m in
      low below.0 (falls_open g.edges s c u v (record { label = Call c; member = m; spells = refl }) (from_low size g.edges s v below.1 r))
  marks_back s (passes.in_ {u = u} {v = v} c m) r =
      let below = edge_below g shaped (edge u v (In c)) m in
      low below.0 (falls_open g.edges s c u v (record { label = In c; member = m; spells = refl }) (from_low size g.edges s v below.1 r))
  marks_back s (passes.out {u = u} {v = v} c m) r =
      high u refl (reaches_close g.edges s c u v (record { label = Out c; member = m; spells = refl }) (from_high size g.edges s v r))
  marks_back s (passes.turn {v = v} h) r = high v refl (reaches_falling g.edges s v (from_low size g.edges s v h r))

  module _ (rules : List Rule) (are : ArePassRules size g.edges K rules) (s : List Bool) (within : (v : ℕ) → IsTrue (has s v) → v < size) where
    marked_of_derived : {k : ℕ} → Derived rules s k → IsMarked size g.edges s k
    marked_of_derived (rules_.seed {v = v} h) = low (within v h) (falls_itself g.edges s v h)
    marked_of_derived (rules_.by {r = r} m a b) = marks_back s ((are r).0 m).goes (marked_of_derived a)

    derived_back : (j k : ℕ) → GoesBack size g.edges K j k → Derived rules s j → Derived rules s k
    derived_back j k b d = rules_.by {r = one_premise j k} ((are (one_premise j k)).1 (record { one = refl; goes = b })) d d

    derived_of_reaches : (all : HasEachTrueFact g K) (a : ℕ) → ReachesAny g.edges s a → (a < size) × Derived rules s (size + a)
    derived_of_reaches all a r =
        let q = r.reaches in
        let cut = split g.edges q.path a r.goal q.up q.down q.joins q.spells in
        let below : cut.middle < size = path_below g shaped cut.back cut.middle r.goal cut.back_joins (within r.goal r.wanted) in
        let falls : Derived rules s cut.middle =
        back_along_falling g K (Derived rules s) shaped all (λ u v e. derived_back v u (passes.first e))
        (λ c u v h. derived_back v u (opened_goes size g.edges K c u v h)) q.falls cut.back cut.middle r.goal cut.back_joins cut.back_spells
        (rules_.seed r.wanted) in (
          path_below g shaped cut.front a cut.middle cut.front_joins below,
          back_along_rising g K (λ v. Derived rules s (size + v)) shaped all (λ u v e. derived_back (size + v) (size + u) (passes.second e))
              (λ c u v h. derived_back (size + v) (size + u) (closed_goes size g.edges K c u v h)) q.rises cut.front a cut.middle cut.front_joins
              cut.front_spells (derived_back cut.middle (size + cut.middle) (passes.turn below) falls),
        )

-- the passes are exact
pub finds_reached : (g : Graph) (ws : List ℕ) (c : RuleSystem) → IsShaped g → AreTrueFacts g ws → ArePassRules (length g.vertices) g.edges (HoldsFact g ws) c.rules → FindsReached (length g.vertices) g.edges c
finds_reached g ws c shaped facts are s within v =
    let true_ : AreTrue g (HoldsFact g ws) = λ a b. (facts.exact a b).0 in
    let all : HasEachTrueFact g (HoldsFact g ws) = λ a b. (facts.exact a b).1 in (
      λ r. derived_of_reaches g (HoldsFact g ws) shaped true_ c.rules are s within all v r,
      λ d. from_high (length g.vertices) g.edges s v (marked_of_derived g (HoldsFact g ws) shaped true_ c.rules are s within d.1),
    )

-- a set with the same members is reached by the same
reached_by_same : (edges : List Edge) (s t : List Bool) → ((v : ℕ) → IsTrue (has s v) → IsTrue (has t v)) → (v : ℕ) → ReachesAny edges s v → ReachesAny edges t v
reached_by_same edges s t same v r = record { goal = r.goal; wanted = same r.goal r.wanted; reaches = r.reaches }

-- what the rules leave, read back, is what reaches
pub reach_is : (graph : PassGraph) (n : ℕ) (edges : List Edge) (c : RuleSystem) (from : List ℕ) (seeds marks into : List Bool) → record { size = n; edges = edges } ≡ graph → FindsReached n edges c → All (λ v. v < graph.size) from → HasMembers from seeds → ((v : ℕ) → IsTrue (has marks v) ↔ Derived c.rules seeds v) → ((v : ℕ) → IsTrue (has into v) ↔ ((v < n) × IsTrue (has marks (n + v)))) → (s : List Bool) → HasMembers from s → (v : ℕ) → IsTrue (has into v) ↔ ReachesAny graph.edges s v
reach_is graph n edges c from seeds marks into view finds inside seeds_are marks_are into_is s members v =
    let size_is : graph.size ≡ n = sym (ap (λ (p : PassGraph). p.size) view) in
    let edges_are : edges ≡ graph.edges = ap (λ (p : PassGraph). p.edges) view in
    let within : (u : ℕ) → IsTrue (has seeds u) → u < n = λ u h. subst (λ k. u < k) size_is (All-contains (λ k. k < graph.size) from u inside ((seeds_are u).0 h)) in
    let found = finds seeds within v in (
      λ h.
          let i = (into_is v).0 h in
          let r : ReachesAny edges seeds v = found.1 (i.0, (marks_are (n + v)).0 i.1) in
          subst (λ es. ReachesAny es s v) edges_are (reached_by_same edges seeds s (λ u k. (members u).1 ((seeds_are u).0 k)) v r),
      λ r.
          let r' : ReachesAny edges s v = subst (λ es. ReachesAny es s v) (sym edges_are) r in
          let d = found.0 (reached_by_same edges s seeds (λ u k. (seeds_are u).1 ((members u).0 k)) v r') in
          (into_is v).1 (d.0, (marks_are (n + v)).1 d.1),
    )

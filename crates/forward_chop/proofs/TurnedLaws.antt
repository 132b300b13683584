-- Rules that are turned round derive what the rules derive, the other way round.
use Rattle.std.proofs.Common.{◌≡◌, ℕ, ◌+◌, ◌<◌, ◌^◌, ◌↔◌, Bool, true, false, List, [], ◌∷◌, length, get_or, set, replicate, map, refl, sym, ap, ◌∙◌, subst, arith}
use Rattle.std.proofs.lemmas.List.{get_or_default}
use Rattle.std.proofs.lemmas.List.Elements.{All-contains, All-get_or}
use Rattle.std.specs.Prelude.{IsTrue}
use Rattle.bit_rows.specs.Sets.{has}
use Rattle.rule_closure.specs.declared.closure.Rule.{Rule}
use Rattle.rule_closure.specs.Rules.{Derived, RuleSystem}
use Rattle.rule_closure.proofs.ListLemmas.{contains_map, map_contains}
use Rattle.dep_model.specs.declared.edge.Edge.{Edge}
use Rattle.dep_model.specs.declared.graph.Graph.{Graph}
use Rattle.dep_model.specs.Facts.{FactSet, HoldsFact, AreTrueFacts}
use Rattle.dep_model.specs.Shapes.{IsShaped}
use Rattle.dep_model.specs.Words.{IsPath, Reaches, ReachesAny}
use Rattle.matched_paths.specs.StepRules.{IsBack}
use Rattle.matched_paths.specs.StepRules as rules_
use Rattle.matched_paths.proofs.ReachLaws.{edge_below}
use Rattle.matched_paths.proofs.ChainLaws.{back_of_derived, derived_of_back}
use Rattle.two_pass.specs.PassRules.{ArePassRules}
use Rattle.two_pass.specs.Ready.{FindsReached}
use Rattle.two_pass.proofs.PassLaws.{finds_reached}
use Rattle.forward_chop.specs.Chops.{IsForward}
use Rattle.forward_chop.specs.Fields.{HaveOnePremise}
use Rattle.forward_chop.proofs.BackLaws.{back_along, back_by, from_one, only_has, only_is}
use Rattle.forward_chop.specs.Turned.{turn, AreForwardPasses, AreForwardRules, FindsForward}

-- ---- turned round
pub turned_one : (rules : List Rule) → HaveOnePremise (map turn rules)
turned_one rules r m =
    let w = contains_map turn rules r m in
    sym (ap (λ (q : Rule). q.second) w.2) ∙ ap (λ (q : Rule). q.first) w.2

pub back_of_turned : (rules : List Rule) → HaveOnePremise rules → {k v : ℕ} → IsBack (map turn rules) k v → IsBack rules v k
back_of_turned rules one rules_.itself = rules_.itself
back_of_turned rules one {k = k} (rules_.by {r = r} m a b) =
    let w = contains_map turn rules r m in
    let first : w.0.gives ≡ r.first = ap (λ (q : Rule). q.first) w.2 in
    let gives : w.0.first ≡ r.gives = ap (λ (q : Rule). q.gives) w.2 in
    let rest : IsBack rules w.0.gives k = subst (λ j. IsBack rules j k) (sym first) (back_of_turned rules one a) in
    subst (λ j. IsBack rules j k) gives (back_along (back_by w.0 w.1 (one w.0 w.1)) rest)

pub turned_of_back : (rules : List Rule) → {v k : ℕ} → IsBack rules v k → IsBack (map turn rules) k v
turned_of_back rules rules_.itself = rules_.itself
turned_of_back rules (rules_.by {r = r} m a b) =
    back_along (back_by {rules = map turn rules} (turn r) (map_contains turn rules r m) refl) (turned_of_back rules a)

-- ---- the forward passes are exact
pub end_below : (g : Graph) → IsShaped g → (es : List Edge) (a b : ℕ) → IsPath g.edges a es b → a < length g.vertices → b < length g.vertices
end_below g shaped [] a b j h = subst (λ x. x < length g.vertices) j h
end_below g shaped (e ∷ es) a b j h = end_below g shaped es e.to b j.2 (edge_below g shaped e j.0).1

pub pass_one : (n : ℕ) (edges : List Edge) (K : FactSet) (rules : List Rule) → ArePassRules n edges K rules → HaveOnePremise rules
pass_one n edges K rules are r m = ((are r).0 m).one

module _ (g : Graph) (ws : List ℕ) (rules : List Rule) (shaped : IsShaped g) (facts : AreTrueFacts g ws) (are : ArePassRules (length g.vertices) g.edges (HoldsFact g ws) rules) where
  abbrev n : ℕ
  n = length g.vertices

  one : HaveOnePremise rules
  one = pass_one n g.edges (HoldsFact g ws) rules are

  found : FindsReached n g.edges (record { size = n + n; rules = rules })
  found = finds_reached g ws (record { size = n + n; rules = rules }) shaped facts are

  within : (v : ℕ) → v < n → (u : ℕ) → IsTrue (has (set (replicate n false) v true) u) → u < n
  within v low u h = subst (λ k. k < n) (sym (only_is n v u h)) low

  reaches_of_back : (x v : ℕ) → x < n → v < n → IsBack rules v (n + x) → Reaches g.edges x v
  reaches_of_back x v below low b =
      let r = (found (set (replicate n false) v true) (within v low) x).1 (below, derived_of_back (only_has n v low) b) in
      subst (Reaches g.edges x) (only_is n v r.goal r.wanted) r.reaches

  back_of_reaches : (x v : ℕ) → v < n → Reaches g.edges x v → IsBack rules v (n + x)
  back_of_reaches x v low r =
      let any : ReachesAny g.edges (set (replicate n false) v true) x = record { goal = v; wanted = only_has n v low; reaches = r } in
      back_of_derived (only_is n v) ((found (set (replicate n false) v true) (within v low) x).0 any).1

  forward_is : FindsForward n g.edges (record { size = n + n; rules = map turn rules })
  forward_is from s inside begins v = (to_derived, of_derived)
    where
      to_derived : IsForward g.edges from v → (v < n) × Derived (map turn rules) s v
      to_derived f =
          let x = f.start in
          let below : x < n = All-contains (λ k. k < n) from x inside f.listed in
          let low : v < n = end_below g shaped f.reaches.path x v f.reaches.joins below in
          let at = f.listed in
          let seed : IsTrue (has s (n + x)) = (begins (n + x)).1 (at.0, at.1, (let e = at.2 in let d = default_same from at.0 x at.1 in omega (arith, e, d))) in
          (low, derived_of_back seed (turned_of_back rules (back_of_reaches x v low f.reaches)))
        where
          default_same : (list : List ℕ) (i d : ℕ) → i < length list → get_or list i 0 ≡ get_or list i d
          default_same list i d low = get_or_default list i 0 d low

      of_derived : (v < n) × Derived (map turn rules) s v → IsForward g.edges from v
      of_derived d =
          let f = from_one (map turn rules) s (turned_one rules) d.1 in
          let at = (begins f.start).0 f.here in
          let x = get_or from at.0 0 in
          let below : x < n = All-get_or (λ k. k < n) from at.0 0 at.1 inside in
          let b : IsBack rules v (n + x) = subst (IsBack rules v) at.2 (back_of_turned rules one f.goes) in
          record { start = x; listed = (at.0, at.1, default_is from at.0 at.1); reaches = reaches_of_back x v below d.0 b }
        where
          default_is : (list : List ℕ) (i : ℕ) → i < length list → get_or list i (get_or list i 0) ≡ get_or list i 0
          default_is list i low = get_or_default list i (get_or list i 0) 0 low

pub finds_forward : (g : Graph) (ws : List ℕ) (c : RuleSystem) → IsShaped g → AreTrueFacts g ws → AreForwardRules (length g.vertices) g.edges (HoldsFact g ws) c.rules → FindsForward (length g.vertices) g.edges c
finds_forward g ws c shaped facts are from s inside begins v =
    let e = forward_is g ws are.rules shaped facts are.are from s inside begins v in
    subst (λ rs. IsForward g.edges from v ↔ ((v < length g.vertices) × Derived rs s v)) (sym are.turned_are) e

-- ---- the forward passes alone
pub passes_are : (g : Graph) (ws : List ℕ) (rules turned : List Rule) (n : ℕ) (edges : List Edge) (c : RuleSystem) (marks : List Bool) → IsShaped g → AreTrueFacts g ws → ArePassRules (length g.vertices) g.edges (HoldsFact g ws) rules → turned ≡ map turn rules → n ≡ length g.vertices → edges ≡ g.edges → c ≡ record { size = n + n; rules = turned } → length marks ≡ n + n → AreForwardPasses n edges c marks
passes_are g ws rules turned n edges c marks shaped facts are turned_are n_is edges_are c_is room =
    let whole : RuleSystem = record { size = n + n; rules = turned } in
    let found : FindsForward (length g.vertices) g.edges whole = finds_forward g ws whole shaped facts (record { rules = rules; are = are; turned_are = turned_are }) in
    let sized : FindsForward n g.edges whole = subst (λ (m : ℕ). FindsForward m g.edges whole) (sym n_is) found in
    let here : FindsForward n edges whole = subst (λ (es : List Edge). FindsForward n es whole) (sym edges_are) sized in
    record {
      few = (let few = shaped.few_vertices in omega (arith, n_is, few));
      twice = ap (λ (r : RuleSystem). r.size) c_is;
      room = room;
      finds = subst (λ (r : RuleSystem). FindsForward n edges r) (sym c_is) here;
    }

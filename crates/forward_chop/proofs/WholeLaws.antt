-- The passes over a whole graph find what a list rises to and reaches, and what falls to another and reaches it.
use Rattle.std.proofs.Common.{◌≡◌, ◌↔◌, ℕ, ◌+◌, ◌<◌, Bool, List, [], ◌∷◌, ◌++◌, length, get_or, map, Contains, refl, sym, ◌∙◌, subst, arith}
use Rattle.std.specs.Prelude.{IsTrue}
use Rattle.std.proofs.lemmas.List.{get_or_default}
use Rattle.std.proofs.lemmas.List.Elements.{All-contains}
use Rattle.bit_rows.specs.Sets.{has}
use Rattle.rule_closure.specs.declared.closure.Rule.{Rule}
use Rattle.rule_closure.specs.Rules.{Derived, RuleSystem}
use Rattle.rule_closure.specs.Rules as closed
use Rattle.dep_model.specs.declared.edge.Edge.{Edge}
use Rattle.dep_model.specs.declared.edge.Label.{Label}
use Rattle.dep_model.specs.declared.edge.Label.TheVariants.{Control, Flow, Call, In, Out}
use Rattle.dep_model.specs.declared.graph.Graph.{Graph}
use Rattle.dep_model.specs.Facts.{AreTrueFacts, FactSet, HoldsFact}
use Rattle.dep_model.specs.Graphs.{edge}
use Rattle.dep_model.specs.Shapes.{IsShaped}
use Rattle.dep_model.specs.Words.{Letter, Open, Close, letters, word, IsPath, Rises, Falls, ReachesAny}
use Rattle.dep_model.specs.Words as words
use Rattle.matched_paths.specs.Backward.{one_premise}
use Rattle.matched_paths.specs.Laws.{AreTrue, HasEachTrueFact}
use Rattle.matched_paths.specs.StepRules.{IsBack}
use Rattle.matched_paths.specs.StepRules as rules_
use Rattle.matched_paths.proofs.ChainLaws.{derived_of_back}
use Rattle.matched_paths.proofs.FactLaws.{level_of_inner}
use Rattle.matched_paths.proofs.Levels.{Level, Spelled, join_paths, word-append, word_with, path_of}
use Rattle.matched_paths.proofs.ReachLaws.{FallsToAny, falls_itself, falls_level, falls_open, edge_below, inner_below, back_along_falling, back_along_rising}
use Rattle.two_pass.specs.PassRules.{GoesBack, ArePassRules}
use Rattle.two_pass.specs.PassRules as passes
use Rattle.two_pass.proofs.PassLaws.{finds_reached}
use Rattle.forward_chop.specs.Chops.{IsForward, ReachesOne}
use Rattle.forward_chop.specs.Contexts.{IsRisenTo, FallsToOne}
use Rattle.forward_chop.specs.Turned.{turn, AreForwardRules, IsSecond}
use Rattle.forward_chop.specs.Whole.{FindsAhead, FindsBehind}
use Rattle.forward_chop.proofs.BackLaws.{back_along, back_by, from_one}
use Rattle.forward_chop.proofs.TurnedLaws.{back_of_turned, turned_of_back, turned_one, pass_one, finds_forward}

opened_back : (n : ℕ) (edges : List Edge) (K : FactSet) (c a b : ℕ) → Spelled edges (Open c ∷ []) a b → GoesBack n edges K b a
opened_back n edges K c a b h = by_label h.label h.member h.spells where
  by_label : (l : Label) → Contains edges (edge a b l) → letters l ≡ Open c ∷ [] → GoesBack n edges K b a
  by_label Control m s = cc
  by_label Flow m s = cc
  by_label (Call d) m s = passes.call d m
  by_label (In d) m s = passes.in_ d m
  by_label (Out d) m s = cc

closed_back : (n : ℕ) (edges : List Edge) (K : FactSet) (c a b : ℕ) → Spelled edges (Close c ∷ []) a b → GoesBack n edges K (n + b) (n + a)
closed_back n edges K c a b h = by_label h.label h.member h.spells where
  by_label : (l : Label) → Contains edges (edge a b l) → letters l ≡ Close c ∷ [] → GoesBack n edges K (n + b) (n + a)
  by_label Control m s = cc
  by_label Flow m s = cc
  by_label (Call d) m s = cc
  by_label (In d) m s = cc
  by_label (Out d) m s = passes.out d m

-- a path whose word rises leads from u to v
record RisesTo (edges : List Edge) (u v : ℕ) : Type 0 where
  path : List Edge
  joins : IsPath edges u path v
  rises : Rises (word path)

-- number k is the second of a vertex that rises to v
record IsRising (n : ℕ) (edges : List Edge) (v k : ℕ) : Type 0 where
  vertex : ℕ
  number : k ≡ n + vertex
  path : RisesTo edges vertex v

rises_level : (edges : List Edge) (u w v : ℕ) → Level edges u w → RisesTo edges w v → RisesTo edges u v
rises_level edges u w v l r =
    let m = path_of l in
    record {
      path = m.path ++ r.path;
      joins = join_paths edges m.path r.path u w v m.joins r.joins;
      rises = subst Rises (sym (word-append m.path r.path)) (words.level m.matched r.rises);
    }

rises_close : (edges : List Edge) (c u w v : ℕ) → Spelled edges (Close c ∷ []) u w → RisesTo edges w v → RisesTo edges u v
rises_close edges c u w v h r = record {
  path = edge u w h.label ∷ r.path;
  joins = (h.member, refl, r.joins);
  rises = subst Rises (sym (word_with h r.path)) (words.close c r.rises);
}

-- the members of a list, by their places
second_has : (n : ℕ) (list : List ℕ) (v : ℕ) → Contains list v → IsSecond n list (n + v)
second_has n list v at =
    let is : get_or list at.0 0 ≡ get_or list at.0 v = get_or_default list at.0 0 v at.1 in
    let e = at.2 in
    (at.0, at.1, omega (arith, is, e))

listed_at : (list : List ℕ) (i : ℕ) → i < length list → Contains list (get_or list i 0)
listed_at list i low = (i, low, get_or_default list i (get_or list i 0) 0 low)

module _ (g : Graph) (ws : List ℕ) (shaped : IsShaped g) (facts : AreTrueFacts g ws) (rules : List Rule) (are : ArePassRules (length g.vertices) g.edges (HoldsFact g ws) rules) where
  abbrev n : ℕ
  n = length g.vertices

  abbrev K : FactSet
  K = HoldsFact g ws

  true_ : AreTrue g K
  true_ a b = (facts.exact a b).0

  each : HasEachTrueFact g K
  each a b = (facts.exact a b).1

  there : (j k : ℕ) → GoesBack n g.edges K j k → Contains rules (one_premise j k)
  there j k b = (are (one_premise j k)).1 (record { one = refl; goes = b })

  -- ---- second numbers, while paths rise
  rising_step : {j k : ℕ} (v : ℕ) → GoesBack n g.edges K j k → IsRising n g.edges v j → IsRising n g.edges v k
  rising_step v (passes.first {u = u} {v = w} e) r = absurd (let b = (inner_below g K shaped u w e).1 in let q = r.number in omega (arith, b, q))
  rising_step v (passes.second {u = u} {v = w} e) r =
      let q = r.number in
      let same : r.vertex ≡ w = omega (arith, q) in
      record { vertex = u; number = refl; path = rises_level g.edges u w v (level_of_inner g K true_ u w e) (subst (λ x. RisesTo g.edges x v) same r.path) }
  rising_step v (passes.call {u = u} {v = w} c m) r = absurd (let b = (edge_below g shaped (edge u w (Call c)) m).1 in let q = r.number in omega (arith, b, q))
  rising_step v (passes.in_ {u = u} {v = w} c m) r = absurd (let b = (edge_below g shaped (edge u w (In c)) m).1 in let q = r.number in omega (arith, b, q))
  rising_step v (passes.out {u = u} {v = w} c m) r =
      let q = r.number in
      let same : r.vertex ≡ w = omega (arith, q) in
      record { vertex = u; number = refl; path = rises_close g.edges c u w v (record { label = Out c; member = m; spells = refl }) (subst (λ x. RisesTo g.edges x v) same r.path) }
  rising_step v (passes.turn {v = w} h) r = absurd (let q = r.number in omega (arith, h, q))

  rising_of_back : (v : ℕ) → {k : ℕ} → IsBack rules (n + v) k → IsRising n g.edges v k
  rising_of_back v rules_.itself = record { vertex = v; number = refl; path = record { path = []; joins = refl; rises = words.flat } }
  rising_of_back v (rules_.by {r = r} m a b) = rising_step v ((are r).0 m).goes (rising_of_back v a)

  back_step : (v j k : ℕ) → GoesBack n g.edges K j k → IsBack rules v j → IsBack rules v k
  back_step v j k b rest = back_along rest (back_by (one_premise j k) (there j k b) refl)

  back_of_rising : (v u : ℕ) → RisesTo g.edges u v → IsBack rules (n + v) (n + u)
  back_of_rising v u r =
      back_along_rising g K (λ x. IsBack rules (n + v) (n + x)) shaped each (λ a b e. back_step (n + v) (n + b) (n + a) (passes.second e))
      (λ c a b h. back_step (n + v) (n + b) (n + a) (closed_back n g.edges K c a b h)) r.rises r.path u v r.joins refl rules_.itself

  pub finds_ahead : FindsAhead n g.edges (record { size = n + n; rules = map turn rules })
  finds_ahead from s inside begins v low = ((risen, risen_has), (λ d. (forward.1 (low, d)), λ f. (forward.0 f).1))
    where
      turned : AreForwardRules n g.edges K (map turn rules)
      turned = record { rules = rules; are = are; turned_are = refl }

      forward : IsForward g.edges from v ↔ ((v < n) × Derived (map turn rules) s v)
      forward = finds_forward g ws (record { size = n + n; rules = map turn rules }) shaped facts turned from s inside begins v

      risen : Derived (map turn rules) s (n + v) → IsRisenTo g.edges from v
      risen d =
          let f = from_one (map turn rules) s (turned_one rules) d in
          let at = (begins f.start).0 f.here in
          let x = get_or from at.0 0 in
          let r = rising_of_back v (back_of_turned rules (pass_one n g.edges K rules are) f.goes) in
          let same : r.vertex ≡ x = (let a = r.number in let b = at.2 in omega (arith, a, b)) in
          let p = subst (λ y. RisesTo g.edges y v) same r.path in
          record { start = x; listed = listed_at from at.0 at.1; path = p.path; joins = p.joins; rises = p.rises }

      risen_has : IsRisenTo g.edges from v → Derived (map turn rules) s (n + v)
      risen_has r =
          let seed = (begins (n + r.start)).1 (second_has n from r.start r.listed) in
          derived_of_back seed (turned_of_back rules (back_of_rising v r.start (record { path = r.path; joins = r.joins; rises = r.rises })))

  -- ---- first numbers, while paths fall
  falling_step : (s : List Bool) {j k : ℕ} → GoesBack n g.edges K j k → (j < n → FallsToAny g.edges s j) → k < n → FallsToAny g.edges s k
  falling_step s (passes.first {u = u} {v = w} e) r low = falls_level g.edges s u w (path_of (level_of_inner g K true_ u w e)) (r (inner_below g K shaped u w e).1)
  falling_step s (passes.second {u = u} {v = w} e) r low = absurd (omega (arith, low))
  falling_step s (passes.call {u = u} {v = w} c m) r low = falls_open g.edges s c u w (record { label = Call c; member = m; spells = refl }) (r (edge_below g shaped (edge u w (Call c)) m).1)
  falling_step s (passes.in_ {u = u} {v = w} c m) r low = falls_open g.edges s c u w (record { label = In c; member = m; spells = refl }) (r (edge_below g shaped (edge u w (In c)) m).1)
  falling_step s (passes.out {u = u} {v = w} c m) r low = absurd (omega (arith, low))
  falling_step s (passes.turn {v = w} h) r low = absurd (omega (arith, low))

  falling_of_derived : (s : List Bool) {k : ℕ} → Derived rules s k → k < n → FallsToAny g.edges s k
  falling_of_derived s (closed.seed {v = v} h) low = falls_itself g.edges s v h
  falling_of_derived s (closed.by {r = r} m a b) low = falling_step s ((are r).0 m).goes (falling_of_derived s a) low

  derived_step : (s : List Bool) (j k : ℕ) → GoesBack n g.edges K j k → Derived rules s j → Derived rules s k
  derived_step s j k b d = closed.by {r = one_premise j k} (there j k b) d d

  pub finds_behind : FindsBehind n g.edges (record { size = n + n; rules = rules })
  finds_behind to s inside begins v low = ((falls, falls_has), (λ d. reaches (reached.1 (low, d)), λ r. (reached.0 (reaches_any r)).1))
    where
      none_more : (k : ℕ) → 0 + k ≡ k
      none_more k = omega arith

      member_is : (k : ℕ) → IsTrue (has s k) → Contains to k
      member_is k h =
          let at = (begins k).0 h in
          subst (Contains to) (sym (at.2 ∙ none_more (get_or to at.0 0))) (listed_at to at.0 at.1)

      member_has : (k : ℕ) → Contains to k → IsTrue (has s k)
      member_has k c = subst (λ j. IsTrue (has s j)) (none_more k) ((begins (0 + k)).1 (second_has 0 to k c))

      within : (k : ℕ) → IsTrue (has s k) → k < n
      within k h = All-contains (λ j. j < n) to k inside (member_is k h)

      reached : ReachesAny g.edges s v ↔ ((v < n) × Derived rules s (n + v))
      reached = finds_reached g ws (record { size = n + n; rules = rules }) shaped facts are s within v

      reaches : ReachesAny g.edges s v → ReachesOne g.edges to v
      reaches r = record { goal = r.goal; listed = member_is r.goal r.wanted; reaches = r.reaches }

      reaches_any : ReachesOne g.edges to v → ReachesAny g.edges s v
      reaches_any r = record { goal = r.goal; wanted = member_has r.goal r.listed; reaches = r.reaches }

      falls : Derived rules s v → FallsToOne g.edges to v
      falls d =
          let f = falling_of_derived s d low in
          record { goal = f.goal; listed = member_is f.goal f.wanted; path = f.path; joins = f.joins; falls = f.falls }

      falls_has : FallsToOne g.edges to v → Derived rules s v
      falls_has f =
          back_along_falling g K (Derived rules s) shaped each (λ a b e. derived_step s b a (passes.first e)) (λ c a b h. derived_step s b a (opened_back n g.edges K c a b h)) f.falls f.path v f.goal
          f.joins refl (closed.seed (member_has f.goal f.listed))

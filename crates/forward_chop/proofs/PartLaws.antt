-- A function's rules go along its matched paths: these are the chains of its inner edges, by exactly the true facts.
use Rattle.std.proofs.Common.{◌≡◌, ◌↔◌, ℕ, ◌+◌, ◌-◌, ◌<◌, ◌≤◌, ◌^◌, ◌&&◌, true, List, [], ◌∷◌, get_or, ◌++◌, length, map, flat_map, Some, All, Contains, slice_get, refl, sym, ap, ◌∙◌, subst, inl, inr, arith}
use Rattle.std.specs.Prelude.{nat_lt, IsTrue}
use Rattle.std.proofs.lemmas.Bool.{and_from, cases_lt}
use Rattle.std.proofs.lemmas.Bool.Decides.{nat_tests}
use Rattle.std.proofs.lemmas.List.Elements.{All-contains}
use Rattle.std.proofs.lemmas.List.{get_or_append_left, get_or_push, length-append}
use Rattle.std.proofs.lemmas.Option.{same_Some, slice_get_within, slice_get-get_or, get_or_from_slice_get}
use Rattle.rule_closure.specs.declared.closure.Rule.{Rule}
use Rattle.rule_closure.specs.Rules.{IsRuleWithin, RuleSystem}
use Rattle.rule_closure.proofs.ListLemmas.{contains_map}
use Rattle.dep_model.specs.declared.edge.Edge.{Edge}
use Rattle.dep_model.specs.declared.edge.Label.TheVariants.{Control, Flow, In, Out}
use Rattle.dep_model.specs.declared.graph.Graph.{Graph}
use Rattle.dep_model.specs.declared.vertex.Vertex.{Vertex}
use Rattle.dep_model.specs.Facts.{AreTrueFacts, FactSet, HoldsFact, IsIn, IsInnerChain, ends, goes_on, IsInnerEdge, IsMatchedPath}
use Rattle.dep_model.specs.Shapes.{IsShaped}
use Rattle.matched_paths.specs.Laws.{AreTrue, HasEachTrueFact}
use Rattle.matched_paths.specs.EdgeGroups.{group_at, starting}
use Rattle.matched_paths.specs.Places.{Places, ArePlaces}
use Rattle.matched_paths.specs.StepRules.{AreStepRules, IsBack, step_rules}
use Rattle.matched_paths.proofs.GroupLaws.{leaving_has, leaving_is, starting_is}
use Rattle.matched_paths.proofs.ReachLaws.{edge_below}
use Rattle.matched_paths.proofs.StepRuleLaws.{rules_are}
use Rattle.matched_paths.specs.declared.vertex_range.VertexRange.{VertexRange}
use Rattle.matched_paths.specs.VertexRanges.{IsInRange, IsWholeFunction, within}
use Rattle.dep_model.specs.Graphs.{edge}
use Rattle.matched_paths.proofs.CallShapes.{plain_stays, crossed, crossed_stays}
use Rattle.matched_paths.proofs.ChainLaws.{chains_are}
use Rattle.matched_paths.proofs.FactLaws.{back_along, level_of_inner}
use Rattle.matched_paths.proofs.Levels.{Level, stay, level_append, level_of_path, path_of}
use Rattle.matched_paths.proofs.Members.{all_of}
use Rattle.forward_chop.specs.declared.field.Field.{Field}
use Rattle.forward_chop.specs.Fields.{HaveOnePremise}
use Rattle.forward_chop.specs.Parts.{AreFirstParts, AreRulesOf, IsFieldOf}
use Rattle.forward_chop.specs.Rounds.{AreParts, CoversCalls, IsIndex, IsPart}
use Rattle.forward_chop.specs.Turned.{turn}
use Rattle.forward_chop.specs.Whole.{FindsAhead, FindsBehind, IsWhole}
use Rattle.forward_chop.specs.declared.wanted.Wanted.{Wanted}
use Rattle.forward_chop.specs.Outs.{PairsFrom}
use Rattle.forward_chop.specs.Pairs.{no_range}
use Rattle.two_pass.specs.PassRules.{ArePassRules}
use Rattle.forward_chop.proofs.RoundLaws.{letter_closed, letter_opened}
use Rattle.forward_chop.proofs.TurnedLaws.{back_of_turned, turned_of_back}
use Rattle.forward_chop.proofs.WholeLaws.{finds_ahead, finds_behind}

-- an inner edge stays in its function
inner_stays : (g : Graph) (K : FactSet) → IsShaped g → (f a b : ℕ) → IsInnerEdge g.edges K a b → IsIn g.vertices f a → IsIn g.vertices f b
inner_stays g K shaped f a b (inl m) i = plain_stays g shaped f a b i (record { label = Control; member = m; spells = refl })
inner_stays g K shaped f a b (inr (inl m)) i = plain_stays g shaped f a b i (record { label = Flow; member = m; spells = refl })
inner_stays g K shaped f a b (inr (inr s)) i =
    crossed_stays g f s.call a s.formal_in s.formal_out b i
    (crossed g shaped s.call a s.formal_in s.formal_out b (record { label = In s.call; member = s.enters; spells = refl }) (record { label = Out s.call; member = s.leaves; spells = refl }))

chain_level : (g : Graph) (K : FactSet) → AreTrue g K → {f a b : ℕ} → IsInnerChain g K f a b → Level g.edges a b
chain_level g K true_ (ends i) = stay
chain_level g K true_ (goes_on {a = a} {b = b} i e c) = level_append (level_of_inner g K true_ a b e) (chain_level g K true_ c)

step_one : (g : Graph) (K : FactSet) (f first : ℕ) (rules : List Rule) → AreStepRules g K f first rules → HaveOnePremise rules
step_one g K f first rules are r m = ((are r).0 m).one

module _ (g : Graph) (ws : List ℕ) (shaped : IsShaped g) (facts : AreTrueFacts g ws) (s : VertexRange) (whole : IsWholeFunction g.vertices s) (rules : List Rule) (are : AreStepRules g (HoldsFact g ws) whole.function s.first rules) where
  abbrev K : FactSet
  K = HoldsFact g ws

  true_ : AreTrue g K
  true_ a b = (facts.exact a b).0

  each : HasEachTrueFact g K
  each a b = (facts.exact a b).1

  path_of_chain : (a b : ℕ) → IsInnerChain g K whole.function a b → IsMatchedPath g.edges a b
  path_of_chain a b c = path_of (chain_level g K true_ c)

  chain_of_path : (a b : ℕ) → IsIn g.vertices whole.function a → IsIn g.vertices whole.function b → IsMatchedPath g.edges a b → IsInnerChain g K whole.function a b
  chain_of_path a b i j m =
      let P : ℕ → Type 0 = λ v. IsIn g.vertices whole.function v → IsInnerChain g K whole.function v b in
      back_along g K P shaped each (λ u v e rest inside. goes_on inside e (rest (inner_stays g K shaped whole.function u v e inside))) (level_of_path m) (λ inside. ends inside) i

  back_is_path : (u v : ℕ) → IsInRange s u → IsInRange s v → IsBack rules (u - s.first) (v - s.first) ↔ IsMatchedPath g.edges v u
  back_is_path u v i j =
      let iu = (whole.all u).1 i in
      let iv = (whole.all v).1 j in
      let c = chains_are g K s whole rules are u iu v iv in
      (λ b. path_of_chain v u (c.0 b), λ m. c.1 (chain_of_path v u iv iu m))

  turned_is_path : (u v : ℕ) → IsInRange s u → IsInRange s v → IsBack (map turn rules) (u - s.first) (v - s.first) ↔ IsMatchedPath g.edges u v
  turned_is_path u v i j =
      let c = back_is_path v u j i in
      (λ b. c.0 (back_of_turned rules (step_one g K whole.function s.first rules are) b), λ m. turned_of_back rules (c.1 m))

  pub part_is : (f : Field) → s.first ≤ s.last → s.last ≤ length g.vertices → IsFieldOf s (s.last - s.first) rules f → IsPart g f
  part_is f order inside h = record {
    fitted = record {
      order = subst (λ (r : VertexRange). r.first ≤ r.last) (sym h.range_is) order;
      few = (let few = shaped.few_vertices in let last = ap (λ (r : VertexRange). r.last) h.range_is in omega (arith, few, last, inside));
      ahead_size = ap (λ (c : RuleSystem). c.size) h.ahead_is ∙ size;
      behind_size = ap (λ (c : RuleSystem). c.size) h.behind_is ∙ size;
      reached_long = h.reached_long ∙ size;
      reaching_long = h.reaching_long ∙ size;
      behind_one = subst (λ (c : RuleSystem). HaveOnePremise c.rules) (sym h.behind_is) (step_one g K whole.function s.first rules are);
    };
    whole = subst (IsWholeFunction g.vertices) (sym h.range_is) whole;
    inside = subst (λ (r : VertexRange). r.last ≤ length g.vertices) (sym h.range_is) inside;
    ahead_is =
        subst (λ (c : RuleSystem). (u v : ℕ) → IsInRange f.range u → IsInRange f.range v → IsBack c.rules (u - f.range.first) (v - f.range.first) ↔ IsMatchedPath g.edges u v) (sym h.ahead_is)
        (subst (λ (r : VertexRange). (u v : ℕ) → IsInRange r u → IsInRange r v → IsBack (map turn rules) (u - r.first) (v - r.first) ↔ IsMatchedPath g.edges u v) (sym h.range_is) turned_is_path);
    behind_is =
        subst (λ (c : RuleSystem). (u v : ℕ) → IsInRange f.range u → IsInRange f.range v → IsBack c.rules (u - f.range.first) (v - f.range.first) ↔ IsMatchedPath g.edges v u) (sym h.behind_is)
        (subst (λ (r : VertexRange). (u v : ℕ) → IsInRange r u → IsInRange r v → IsBack rules (u - r.first) (v - r.first) ↔ IsMatchedPath g.edges v u) (sym h.range_is) back_is_path);
  }
    where
      size : s.last - s.first ≡ f.range.last - f.range.first
      size = ap (λ (r : VertexRange). r.last - r.first) (sym h.range_is)

-- the rules turned round have the same numbers
pub turn_within : (n : ℕ) (rules : List Rule) → All (IsRuleWithin n) rules → All (IsRuleWithin n) (map turn rules)
turn_within n rules all = all_of (IsRuleWithin n) (map turn rules) (λ r m.
    let w = contains_map turn rules r m in
    let i = All-contains (IsRuleWithin n) rules w.0 all w.1 in
    subst (IsRuleWithin n) w.2 (record { first_in = i.gives_in; second_in = i.gives_in; gives_in = i.first_in }))

-- ---- the edges of a function
pub starts_in : (g : Graph) (starts exits : List (List Edge)) → IsIndex g starts exits → (f n : ℕ) → n ≡ length g.vertices → All (λ e. e.to < n) (group_at starts f)
starts_in g starts exits index f n is = all_of (λ (e : Edge). e.to < n) (group_at starts f) (λ e m.
    let member = starting_is g.vertices g.edges f e (subst (λ es. Contains es e) (index.starts_are f) m) in
    subst (λ k. e.to < k) (sym is) (edge_below g index.shaped e member).1)

pub exits_in : (g : Graph) (starts exits : List (List Edge)) → IsIndex g starts exits → (c n : ℕ) → n ≡ length g.vertices → All (λ e. e.from < n) (group_at exits c)
exits_in g starts exits index c n is = all_of (λ (e : Edge). e.from < n) (group_at exits c) (λ e m.
    let out = leaving_is g.edges c e (subst (λ es. Contains es e) (index.exits_are c) m) in
    subst (λ k. e.from < k) (sym is) (edge_below g index.shaped e out.0).0)

-- the rules that are made of them are those of the function
pub rules_of_range : (g : Graph) (ws : List ℕ) (t : Places) (s : VertexRange) (starts exits : List (List Edge)) (x : Vertex) (rules : List Rule) → IsIndex g starts exits → ArePlaces g t → slice_get g.vertices s.first ≡ Some x → rules ≡ flat_map (step_rules s exits ws t) (group_at starts x.function) → AreRulesOf g ws s rules
rules_of_range g ws t s starts exits x rules index places at made whole order =
    let first = (whole.all s.first).1 (omega arith, order) in
    let function : x.function ≡ whole.function = ap (λ (v : Vertex). v.function) (same_Some _ _ (sym at ∙ first.at)) ∙ first.in_function in
    let edges : group_at starts x.function ≡ flat_map (starting g.vertices whole.function) g.edges = index.starts_are x.function ∙ ap (λ k. flat_map (starting g.vertices k) g.edges) function in
    subst (AreStepRules g (HoldsFact g ws) whole.function s.first) (sym (made ∙ ap (flat_map (step_rules s exits ws t)) edges)) (rules_are g ws t s index.shaped places whole exits index.exits_are)

-- ---- one function more
pub parts_begin : (g : Graph) → AreFirstParts g [] 0
parts_begin g = record { each = λ k p at. absurd (let low = slice_get_within {A = Field} [] k p at in omega (arith, low)); all = λ x low. absurd (omega (arith, low)) }

-- a function that is put behind others
module _ (xs : List Field) (y : Field) where
  long : length (xs ++ y ∷ []) ≡ length xs + 1
  long = length-append xs (y ∷ [])

  early_is : (k : ℕ) (p : Field) → k < length xs → slice_get (xs ++ y ∷ []) k ≡ Some p → slice_get xs k ≡ Some p
  early_is k p low at = slice_get-get_or xs k p low ∙ ap Some (sym (get_or_append_left xs (y ∷ []) p k low) ∙ get_or_from_slice_get (xs ++ y ∷ []) k p p at)

  is_early : (k : ℕ) (p : Field) → slice_get xs k ≡ Some p → slice_get (xs ++ y ∷ []) k ≡ Some p
  is_early k p at =
      let low = slice_get_within xs k p at in
      slice_get-get_or (xs ++ y ∷ []) k p (omega (arith, low, long)) ∙ ap Some (get_or_append_left xs (y ∷ []) p k low ∙ get_or_from_slice_get xs k p p at)

  last_at : slice_get (xs ++ y ∷ []) (length xs) ≡ Some y
  last_at = slice_get-get_or (xs ++ y ∷ []) (length xs) y (omega (arith, long)) ∙ ap Some (get_or_push xs y y (length xs) refl)

  last_is : (k : ℕ) (p : Field) → length xs ≤ k → slice_get (xs ++ y ∷ []) k ≡ Some p → y ≡ p
  last_is k p high at =
      let low = slice_get_within (xs ++ y ∷ []) k p at in
      let same : length xs ≡ k = omega (arith, low, long, high) in
      same_Some _ _ (sym last_at ∙ ap (slice_get (xs ++ y ∷ [])) same ∙ at)

pub parts_more : (g : Graph) (parts : List Field) (n : ℕ) (p : Field) → AreFirstParts g parts n → IsPart g p → p.range.first ≡ n → AreFirstParts g (parts ++ p ∷ []) p.range.last
parts_more g parts n p before part first = record {
  each = λ k q at. elim (cases_lt k (length parts)) [
    | inl low ↦ before.each k q (early_is parts p k q low at)
    | inr high ↦ subst (IsPart g) (last_is parts p k q (omega (arith, high)) at) part
  ];
  all = λ x low. elim (cases_lt x n) [
    | inl early ↦ let a = before.all x early in (a.0, (a.1.0, is_early parts p a.0 a.1.0 a.1.1, a.1.2))
    | inr late ↦ (length parts, (p, last_at parts p, (omega (arith, first, late), low)))
  ];
}

pub all_parts : (g : Graph) (parts : List Field) (n : ℕ) → AreFirstParts g parts n → length g.vertices ≤ n → AreParts g parts
all_parts g parts n h all = record { each = h.each; all = λ x low. h.all x (omega (arith, low, all)) }

-- ---- the bits that are laid for pairs
pub edges_to : (g : Graph) → IsShaped g → (n : ℕ) → n ≡ length g.vertices → All (λ e. e.to < n) g.edges
edges_to g shaped n is = all_of (λ (e : Edge). e.to < n) g.edges (λ e m. subst (λ k. e.to < k) (sym is) (edge_below g shaped e m).1)

pub exits_few : (g : Graph) (starts exits : List (List Edge)) → IsIndex g starts exits → (c : ℕ) → All (λ e. e.from + 1 < 2 ^ 32) (group_at exits c)
exits_few g starts exits index c = all_of (λ (e : Edge). e.from + 1 < 2 ^ 32) (group_at exits c) (λ e m.
    let low = All-contains (λ (x : Edge). x.from < length g.vertices) (group_at exits c) e (exits_in g starts exits index c (length g.vertices) refl) m in
    let few = index.shaped.few_vertices in
    omega (arith, low, few))

pub covers_pairs : (g : Graph) (starts exits : List (List Edge)) (w : Wanted) (outs : List VertexRange) → IsIndex g starts exits → w.outs.items ≡ outs → length outs ≡ length g.vertices → ((x o : ℕ) → PairsFrom g.edges exits x o → IsTrue (within (get_or outs x no_range) o)) → CoversCalls g.edges w
covers_pairs g starts exits w outs index same long all a x o b c =
    let leave = edge o b (Out c.call) in
    let leaves : Contains g.edges leave = subst (λ l. Contains g.edges (edge o b l)) (letter_closed c.leaves.label c.call c.leaves.spells) c.leaves.member in
    let pair : PairsFrom g.edges exits x o = record {
      edge = edge a x c.enters.label;
      listed = c.enters.member;
      call = c.call;
      opens = letter_opened c.enters.label c.call c.enters.spells;
      pairs = record { leave = leave; listed = subst (λ es. Contains es leave) (sym (index.exits_are c.call)) (leaving_has g.edges c.call o b leaves); x_is = refl; o_is = refl };
    } in
    let below = (edge_below g index.shaped (edge a x c.enters.label) c.enters.member).1 in
    let known : nat_lt x (length outs) ≡ true = grind (arith, nat_tests, below, long) in
    subst (λ (rs : List VertexRange). IsTrue (nat_lt x (length rs) && within (get_or rs x no_range) o)) (sym same) (and_from _ _ known (all x o pair))

-- ---- a whole graph
pub whole_is : (g : Graph) (ws : List ℕ) (rules : List Rule) (n : ℕ) (f : Field) → IsShaped g → AreTrueFacts g ws → ArePassRules (length g.vertices) g.edges (HoldsFact g ws) rules → n ≡ length g.vertices → IsFieldOf (record { first = 0; last = n }) (n + n) rules f → IsWhole g f
whole_is g ws rules n f shaped facts are is h =
    let twice : n + n ≡ length g.vertices + length g.vertices = omega (arith, is) in
    record {
      first_is = ap (λ (r : VertexRange). r.first) h.range_is;
      last_is = ap (λ (r : VertexRange). r.last) h.range_is ∙ is;
      few = (let few = shaped.few_vertices in omega (arith, few));
      ahead_size = ap (λ (c : RuleSystem). c.size) h.ahead_is ∙ twice;
      behind_size = ap (λ (c : RuleSystem). c.size) h.behind_is ∙ twice;
      reached_long = h.reached_long ∙ twice;
      reaching_long = h.reaching_long ∙ twice;
      ahead = subst (FindsAhead (length g.vertices) g.edges) (sym (h.ahead_is ∙ ap (λ (k : ℕ). let c : RuleSystem = record { size = k; rules = map turn rules } in c) twice)) (finds_ahead g ws shaped facts rules are);
      behind = subst (FindsBehind (length g.vertices) g.edges) (sym (h.behind_is ∙ ap (λ (k : ℕ). let c : RuleSystem = record { size = k; rules = rules } in c) twice)) (finds_behind g ws shaped facts rules are);
    }

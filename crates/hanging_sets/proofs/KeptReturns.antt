-- A function gives a result still where the result of a kept call is kept, and where its return is.
use Rattle.std.proofs.Common.{◌≡◌, ◌≢◌, ℕ, ◌<◌, ◌==◌, inl, inr, List, [], ◌∷◌, ◌++◌, length, Contains, Bool, true, false, ◌&&◌, ◌||◌, not, Option, Some, None, refl, sym, ap, ◌∙◌, subst}
use Rattle.std.specs.Prelude.{slice_get, is_some}
use Rattle.std.specs.List.{list_any}
use Rattle.std.specs.Option.{option_map_or}
use Rattle.std.proofs.lemmas.Bool.{and_parts, or_cases, or_left, or_right}
use Rattle.c_language.proofs.Lists.{head_is}
use Rattle.c_language.proofs.Tests.{false_true}
use Rattle.c_tree.specs.declared.expr.Expr.{Expr}
use Rattle.c_tree.specs.declared.program.Function.{Function}
use Rattle.c_tree.specs.declared.program.Program.{Program}
use Rattle.c_tree.specs.declared.statement.Arm.{Arm, fold-Arm}
use Rattle.c_tree.specs.declared.statement.Statement.{Statement, out-Statement, roll-Statement, map-Statement, fold-roll-Statement}
use Rattle.c_tree.specs.declared.statement.Statement.TheOpen.{Statement-F}
use Rattle.c_tree.specs.declared.statement.Statement.TheViews.{roll-out-Statement}
use Rattle.c_tree.specs.declared.statement.Statement.TheVariants as s
use Rattle.c_tree.specs.declared.statement.Target.{Target}
use Rattle.c_tree.specs.declared.statement.Target.TheVariants as target
use Rattle.c_language.specs.Code.{Returns}
use Rattle.c_language.specs.Mains.{is_main_of}
use Rattle.c_language.specs.NameRules.{is_main}
use Rattle.dep_model.specs.declared.edge.Edge.{Edge}
use Rattle.dep_model.specs.declared.edge.Label.TheVariants as label
use Rattle.dep_model.specs.declared.vertex.Slot.TheVariants.{Result}
use Rattle.dep_model.specs.declared.vertex.Vertex.{Vertex}
use Rattle.dep_model.specs.declared.vertex.VertexKind.TheVariants as kind
use Rattle.dep_model.specs.ClosedSets.{IsProjectable}
use Rattle.dep_model.specs.Doings.{Doing, Does, Calls, doing_number, doings, body_doings, doings_of, program_doings}
use Rattle.dep_model.specs.Graphs.{edge}
use Rattle.dep_model.specs.SystemGraph.{Analysis, vertices_of, IsVertex, AreSystemEdges}
use Rattle.dep_model.specs.SystemGraph as system
use Rattle.dep_model.specs.VertexOrder.{has_result, slots_of, result_slots}
use Rattle.dep_model.proofs.DoingForms.{doings-Return}
use Rattle.dep_model.proofs.Membership.{IsIn, contains_of_in, in_first, in_second, in_if}
use Rattle.numbered_texts.specs.FittingCalls.{stores}
use Rattle.projection.specs.KeptVertices.{returns_step, no_return, returns, kept_words, keeps_result}
use Rattle.shaped_graphs.proofs.KindLaws.{AreApart, formal_out_there}
use Rattle.shaped_graphs.proofs.NumberLaws.{of_some}
use Rattle.shaped_graphs.proofs.ShapeLaws.{CallsFit}
use Rattle.shaped_graphs.proofs.VertexLaws.{vertex_of}
use Rattle.hanging_sets.specs.Hanging.{EndsWith}
use Rattle.hanging_sets.specs.OwnParts.{HasOwnParts}
use Rattle.hanging_sets.proofs.HeldVertices.{IsKept, statement_kept}
use Rattle.hanging_sets.proofs.Owners.{function_of}
use Rattle.hanging_sets.proofs.KeptDoings.{owned, result_owned}
use Rattle.hanging_sets.proofs.KeptCalls.{is_call}
use Rattle.hanging_sets.proofs.Returning.{return_flows}

-- ---- a list that ends with a return

ends_doing : (i : ℕ) (e : Option Expr) (xs : List Statement) → EndsWith i e xs → IsIn (body_doings xs) (Does i (Returns e))
ends_doing i e [] h = absurd h
ends_doing i e (x ∷ []) (l, is) = in_first (doings x) [] (Does i (Returns e)) (subst (λ (ds : List Doing). IsIn ds (Does i (Returns e))) (sym (ap doings is ∙ doings-Return i l e)) (inl refl))
ends_doing i e (x ∷ (y ∷ rest)) h = in_second (doings x) (body_doings (y ∷ rest)) (Does i (Returns e)) (ends_doing i e (y ∷ rest) h)

ends_same : (i j : ℕ) (e d : Option Expr) (xs : List Statement) → EndsWith i e xs → EndsWith j d xs → i ≡ j
ends_same i j e d [] h k = absurd h
ends_same i j e d (x ∷ []) (l, is) (m, are) = ap doing_number (head_is (sym (doings-Return i l e) ∙ ap doings (sym is ∙ are) ∙ doings-Return j m d))
ends_same i j e d (x ∷ (y ∷ rest)) h k = ends_same i j e d (y ∷ rest) h k

module _ (keeps : ℕ → Bool) where
  returns-Return : (i l : ℕ) (e : Option Expr) → returns keeps (s.Return i l e) ≡ keeps i
  returns-Return i l e = ap (returns keeps) (sym (s.rolls-Return i l e)) ∙ fold-roll-Statement Bool Bool (returns_step keeps) no_return (Statement-F.Return i l e)

  ends_any : (i : ℕ) (e : Option Expr) (xs : List Statement) → EndsWith i e xs → keeps i ≡ true → list_any (λ (x : Statement). returns keeps x) xs ≡ true
  ends_any i e [] h k = absurd h
  ends_any i e (x ∷ []) (l, is) k = or_left (returns keeps x) _ (ap (returns keeps) is ∙ returns-Return i l e ∙ k)
  ends_any i e (x ∷ (y ∷ rest)) h k = or_right (returns keeps x) _ (ends_any i e (y ∷ rest) h k)

  -- a kept return among some statements
  record HasReturn (ds : List Doing) : Type 0 where
    number : ℕ
    value : Option Expr
    member : IsIn ds (Does number (Returns value))
    kept : keeps number ≡ true

  abbrev layer_returns : Statement-F Statement Arm → Bool
  layer_returns z = returns_step keeps (map-Statement Statement Arm Bool Bool (returns keeps) (fold-Arm Bool Bool (returns_step keeps) no_return) z)

  by_layer : (z : Statement-F Statement Arm) → layer_returns z ≡ true → HasReturn (doings (roll-Statement z))
  by_layer (Statement-F.Declare id l x i) h = false_true h
  by_layer (Statement-F.Assign id l left op right) h = false_true h
  by_layer (Statement-F.Bump id l e up before) h = false_true h
  by_layer (Statement-F.Invoke id l to f args) h = false_true h
  by_layer (Statement-F.Fetch id l to) h = false_true h
  by_layer (Statement-F.Write id l e) h = false_true h
  by_layer (Statement-F.Print id l format args) h = false_true h
  by_layer (Statement-F.Heap id l to cast n) h = false_true h
  by_layer (Statement-F.Release id l e) h = false_true h
  by_layer (Statement-F.If id l e a b) h = false_true h
  by_layer (Statement-F.While id l e b) h = false_true h
  by_layer (Statement-F.Do id l e b) h = false_true h
  by_layer (Statement-F.For id l None e None b) h = false_true h
  by_layer (Statement-F.For id l None e (Some k) b) h = false_true h
  by_layer (Statement-F.For id l (Some i) e None b) h = false_true h
  by_layer (Statement-F.For id l (Some i) e (Some k) b) h = false_true h
  by_layer (Statement-F.Switch id l e arms) h = false_true h
  by_layer (Statement-F.Block l b) h = false_true h
  by_layer (Statement-F.Return id l e) h = record {
    number = id;
    value = e;
    member = subst (λ (ds : List Doing). IsIn ds (Does id (Returns e))) (sym (ap doings (s.rolls-Return id l e) ∙ doings-Return id l e)) (inl refl);
    kept = h;
  }

  has_return : (x : Statement) → returns keeps x ≡ true → HasReturn (doings x)
  has_return x h =
      let is = roll-out-Statement x in
      subst (λ (y : Statement). HasReturn (doings y)) is
      (by_layer (out-Statement x) (sym (fold-roll-Statement Bool Bool (returns_step keeps) no_return (out-Statement x)) ∙ ap (returns keeps) is ∙ h))

  any_return : (xs : List Statement) → list_any (λ (x : Statement). returns keeps x) xs ≡ true → HasReturn (body_doings xs)
  any_return [] h = false_true h
  any_return (x ∷ xs) h = elim (or_cases (returns keeps x) (list_any (λ (y : Statement). returns keeps y) xs) h) [
    | inl b ↦ let w = has_return x b in record { number = w.number; value = w.value; member = in_first (doings x) (body_doings xs) (Does w.number (Returns w.value)) w.member; kept = w.kept }
    | inr b ↦ let w = any_return xs b in record { number = w.number; value = w.value; member = in_second (doings x) (body_doings xs) (Does w.number (Returns w.value)) w.member; kept = w.kept }
  ]

module _ (p : Program) (a : Analysis) (set : List Bool) (apart : AreApart (program_doings p)) (fit : CallsFit p) (own : HasOwnParts p) (edges : List Edge) (exact : AreSystemEdges p a edges) (able : IsProjectable p (vertices_of p a) edges set) where
  abbrev vs : List Vertex
  vs = vertices_of p a

  abbrev keeps : ℕ → Bool
  keeps = (kept_words set vs).statement

  gives_by : (f : ℕ) (c : Function) → slice_get p.functions f ≡ Some c → (is_main c.name || list_any (λ (x : Statement). returns keeps x) c.body) ≡ keeps_result set vs p f
  gives_by f c at = sym (ap (λ (o : Option Function). option_map_or (λ (h : Function). is_main h.name || list_any (λ (x : Statement). returns keeps x) h.body) o false) at)

  -- a function whose last return is kept gives a result still
  gives_still : (f i : ℕ) (e : Option Expr) (c : Function) → slice_get p.functions f ≡ Some c → EndsWith i e c.body → keeps i ≡ true → keeps_result set vs p f ≡ true
  gives_still f i e c at h k = sym (gives_by f c at) ∙ or_right (is_main c.name) _ (ends_any keeps i e c.body h k)

  pub returns_kept : (f i : ℕ) (e : Option Expr) → IsIn (doings_of p f) (Does i (Returns e)) → keeps i ≡ true → keeps_result set vs p f ≡ true
  returns_kept f i e m k =
      let w = function_of p f (Does i (Returns e)) m in
      gives_still f i e w.function w.at (own.returns_last f i e w.function w.at (contains_of_in (doings_of p f) (Does i (Returns e)) m)) k

  pub ends_kept : (f i : ℕ) (e : Option Expr) (c : Function) → slice_get p.functions f ≡ Some c → is_main c.name ≡ false → keeps_result set vs p f ≡ true → EndsWith i e c.body → keeps i ≡ true
  ends_kept f i e c at other gives h =
      let some : list_any (λ (x : Statement). returns keeps x) c.body ≡ true =
      sym (ap (λ (b : Bool). b || list_any (λ (x : Statement). returns keeps x) c.body) other) ∙ gives_by f c at ∙ gives
      in
      let w = any_return keeps c.body some in
      let m = subst (λ (ds : List Doing). IsIn ds (Does w.number (Returns w.value))) (sym (of_some p f c at)) w.member in
      let same = ends_same w.number i w.value e c.body (own.returns_last f w.number w.value c at (contains_of_in (doings_of p f) (Does w.number (Returns w.value)) m)) h in
      subst (λ (n : ℕ). keeps n ≡ true) same w.kept

  -- ---- results of calls

  some_function : (g : ℕ) → has_result p g ≡ true → (c : Function) × (slice_get p.functions g ≡ Some c)
  some_function g h = by_function (slice_get p.functions g) refl h
    where
      by_function : (o : Option Function) → slice_get p.functions g ≡ o → has_result p g ≡ true → (c : Function) × (slice_get p.functions g ≡ Some c)
      by_function None at h = false_true (sym (ap (λ (o : Option Function). option_map_or (λ (k : Function). is_some k.result) o false) at) ∙ h)
      by_function (Some c) at h = (c, at)

  not_true : (b : Bool) → not b ≡ true → b ≡ false
  not_true true h = false_true h
  not_true false h = refl

  pub results_kept : (f i g : ℕ) (to : Target) (args : List Expr) → IsIn (doings_of p f) (Calls i to g args) → keeps i ≡ true → stores to ≡ true → (kept_words set vs).result i ≡ true → keeps_result set vs p g ≡ true
  results_kept f i g to args m h stored r =
      let out = result_owned p a set apart f i g to args m r in
      let call = owned p a set apart f (Calls i to g args) m h in
      let given = fit.gives f i to g args m (λ none. false_true (sym (ap stores none) ∙ stored)) in
      let low = fit.there f i to g args m in
      let u = vertex_of p a g (kind.FormalOut Result) low (formal_out_there p a.effects g Result
      (in_second (slots_of p a.effects (a.effects.modified g)) (result_slots p a.effects g) Result (in_if (has_result p g && not (is_main_of p g)) (Result ∷ []) Result given (inl refl))))
      in
      let leaves = (exact (edge u.0 out.number (label.Out call.number))).1 (system.between (system.out f i g call.number Result (is_call p a set apart fit edges exact able f i g to args m call.number call.at) refl u.1 out.at)) in
      let formal = able.closed.closed.formal_outs (edge u.0 out.number (label.Out call.number)) call.number leaves refl out.member in
      let b = and_parts (has_result p g) (not (is_main_of p g)) given in
      let c = some_function g b.0 in
      let end = own.returns_there g c.0 c.1 b.0 (not_true (is_main_of p g) b.1) in
      let n = subst (λ (ds : List Doing). IsIn ds (Does end.0 (Returns (Some end.1)))) (sym (of_some p g c.0 c.1)) (ends_doing end.0 (Some end.1) c.0.body end.2) in
      let v = return_flows p a apart g end.0 end.1 c.0 c.1 end.2 n low a.points u.0 u.1 in
      let flow = (exact (edge v.number u.0 label.Flow)).1 (system.flow g v.flows) in
      let member = able.closed.closed.flows (edge v.number u.0 label.Flow) flow refl formal in
      gives_still g end.0 (Some end.1) c.0 c.1 end.2 (statement_kept set vs g end.0 (record { number = v.number; at = v.at; member = member }))

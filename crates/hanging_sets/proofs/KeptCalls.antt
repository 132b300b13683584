-- At a kept call the function called is kept, and the arguments are kept whose parameters are.
use Rattle.std.proofs.Common.{◌≡◌, ℕ, suc, ◌+◌, ◌<◌, ◌≤◌, inl, inr, List, [], ◌∷◌, ◌++◌, length, map, Contains, Bool, true, false, Some, refl, sym, ap, ◌∙◌, subst, arith}
use Rattle.std.specs.Prelude.{slice_get}
use Rattle.std.proofs.lemmas.Bool.{cases_eq, cases_lt}
use Rattle.bit_rows.specs.Sets.{has}
use Rattle.c_tree.specs.declared.expr.Expr.{Expr}
use Rattle.c_tree.specs.declared.program.Program.{Program}
use Rattle.c_tree.specs.declared.statement.Target.{Target}
use Rattle.dep_model.specs.declared.edge.Edge.{Edge}
use Rattle.dep_model.specs.declared.edge.Label.TheVariants as label
use Rattle.dep_model.specs.declared.vertex.Slot.{Slot}
use Rattle.dep_model.specs.declared.vertex.Slot.TheVariants.{Argument}
use Rattle.dep_model.specs.declared.vertex.Vertex.{Vertex}
use Rattle.dep_model.specs.declared.vertex.VertexKind.TheVariants.{Entry, FormalIn, Call, ActualIn}
use Rattle.dep_model.specs.ClosedSets.{IsProjectable}
use Rattle.dep_model.specs.Doings.{Calls, doings_of, program_doings}
use Rattle.dep_model.specs.Graphs.{edge}
use Rattle.dep_model.specs.MayPoint.{parameters}
use Rattle.dep_model.specs.SystemGraph.{Analysis, vertices_of, IsVertex, IsCall, IsCallEdge, AreSystemEdges}
use Rattle.dep_model.specs.SystemGraph as system
use Rattle.dep_model.specs.VertexOrder.{arguments_from, slots_of, touched, doing_vertices, function_kinds}
use Rattle.dep_model.proofs.Membership.{IsIn, contains_of_in, in_first, in_second, in_map}
use Rattle.projection.specs.KeptVertices.{kept_words, keeps_function, keeps_parameter}
use Rattle.shaped_graphs.proofs.KindLaws.{AreApart, in_slots, out_slots, entry_there, statement_there}
use Rattle.shaped_graphs.proofs.ShapeLaws.{CallsFit}
use Rattle.shaped_graphs.proofs.VertexLaws.{vertex_of, in_of_at}
use Rattle.hanging_sets.proofs.HeldVertices.{IsKept, entry_kept, parameter_kept, of_parameter, argument_kept}
use Rattle.hanging_sets.proofs.KeptDoings.{owned, argument_owned}

-- tests that follow one from the other are the same
pub same_tests : (b c : Bool) → (b ≡ true → c ≡ true) → (c ≡ true → b ≡ true) → b ≡ c
same_tests true true f g = refl
same_tests true false f g = sym (f refl)
same_tests false true f g = g refl
same_tests false false f g = refl

-- the slot of each of some arguments, the first of which has this place
pub argument_there : {A : Type 0} (k : ℕ) (as_ : List A) (n : ℕ) → k ≤ n → n < k + length as_ → IsIn (arguments_from k as_) (Argument n)
argument_there k [] n le lt = absurd (omega (arith, le, lt))
argument_there k (a ∷ as_) n le lt = elim (cases_eq k n) [
  | inl same ↦ inl (ap Argument same)
  | inr other ↦ let more : suc k ≤ n = le_of_other k n le other in inr (argument_there (suc k) as_ n more (omega (arith, lt)))
]
  where
    le_of_other : (x y : ℕ) → x ≤ y → (x ≡ y → ⊥) → suc x ≤ y
    le_of_other x y le other = elim (cases_lt x y) [
      | inl less ↦ omega (arith, less)
      | inr more ↦ let same : x ≡ y = omega (arith, le, more) in absurd (other same)
    ]

module _ (p : Program) (a : Analysis) (set : List Bool) (apart : AreApart (program_doings p)) (fit : CallsFit p) (edges : List Edge) (exact : AreSystemEdges p a edges) (able : IsProjectable p (vertices_of p a) edges set) where
  abbrev vs : List Vertex
  vs = vertices_of p a

  there_is : (e : Edge) → IsCallEdge p vs e → Contains edges e
  there_is e h = (exact e).1 (system.between h)

  module _ (f i g : ℕ) (to : Target) (args : List Expr) (m : IsIn (doings_of p f) (Calls i to g args)) where
    -- a call whose vertex this is
    pub is_call : (c : ℕ) → IsVertex vs f (Call i) c → IsCall p vs f i g c
    is_call c at = record { target = to; args = args; member = contains_of_in (doings_of p f) (Calls i to g args) m; at = at }

    -- its call vertex
    pub call_vertex : (c : ℕ) × IsVertex vs f (Call i) c
    call_vertex = vertex_of p a f (Call i) (fit.inside f (Calls i to g args) m) (statement_there p a.effects f (Calls i to g args) (Call i) m (inl refl))

    pub callee_entry : (e : ℕ) × IsVertex vs g Entry e
    callee_entry = vertex_of p a g Entry (fit.there f i to g args m) (entry_there p a.effects g)

    pub callee_kept : (kept_words set vs).statement i ≡ true → keeps_function set vs g ≡ true
    callee_kept h =
        let c = owned p a set apart f (Calls i to g args) m h in
        let e = callee_entry in
        let there = there_is (edge c.number e.0 (label.Call c.number)) (system.call f i g (is_call c.number c.at) refl e.1) in
        entry_kept set vs g (record { number = e.0; at = e.1; member = able.closed.closed.callees (edge c.number e.0 (label.Call c.number)) c.number there refl c.member })

    module _ (n : ℕ) (within : n < length args) where
      slot_there : IsIn (in_slots p a.effects g args) (Argument n)
      slot_there = in_first (arguments_from 0 args) (slots_of p a.effects (touched p a.effects g)) (Argument n) (argument_there 0 args n (omega arith) (omega (arith, within)))

      actual : (v : ℕ) × IsVertex vs f (ActualIn i (Argument n)) v
      actual =
          vertex_of p a f (ActualIn i (Argument n)) (fit.inside f (Calls i to g args) m)
          (statement_there p a.effects f (Calls i to g args) (ActualIn i (Argument n)) m (inr (in_first _ _ (ActualIn i (Argument n)) (in_map (ActualIn i) (in_slots p a.effects g args) (Argument n) slot_there))))

      formal_kind : IsIn (function_kinds p a.effects g) (FormalIn (Argument n))
      formal_kind =
          let many = fit.counted f i to g args m in
          let slot : IsIn (arguments_from 0 (parameters p g)) (Argument n) = argument_there 0 (parameters p g) n (omega arith) (omega (arith, within, many)) in
          inr (in_first _ _ (FormalIn (Argument n)) (in_map FormalIn (arguments_from 0 (parameters p g) ++ slots_of p a.effects (touched p a.effects g)) (Argument n) (in_first (arguments_from 0 (parameters p g)) (slots_of p a.effects (touched p a.effects g)) (Argument n) slot)))

      formal : (u : ℕ) × IsVertex vs g (FormalIn (Argument n)) u
      formal = vertex_of p a g (FormalIn (Argument n)) (fit.there f i to g args m) formal_kind

      enters : (c v u : ℕ) → IsVertex vs f (Call i) c → IsVertex vs f (ActualIn i (Argument n)) v → IsVertex vs g (FormalIn (Argument n)) u → Contains edges (edge v u (label.In c))
      enters c v u at from into = there_is (edge v u (label.In c)) (system.in_ f i g c (Argument n) (is_call c at) refl from into)

      parameter_of_argument : (kept_words set vs).argument i n ≡ true → keeps_parameter set vs g n ≡ true
      parameter_of_argument h =
          let v = argument_owned p a set apart f i g n to args m h in
          let c = call_vertex in
          let u = formal in
          parameter_kept set vs g n (record { number = u.0; at = u.1; member = able.arguments (edge v.number u.0 (label.In c.0)) c.0 f i n (enters c.0 v.number u.0 c.1 v.at u.1) refl v.at v.member })

      argument_of_parameter : (kept_words set vs).statement i ≡ true → keeps_parameter set vs g n ≡ true → (kept_words set vs).argument i n ≡ true
      argument_of_parameter h k =
          let c = owned p a set apart f (Calls i to g args) m h in
          let u = of_parameter set vs g n k in
          let v = actual in
          argument_kept set vs f i n (record { number = v.0; at = v.1; member = able.closed.closed.actual_ins (edge v.0 u.number (label.In c.number)) c.number (enters c.number v.0 u.number c.at v.1 u.at) refl c.member u.member })

      pub arguments_fit : (kept_words set vs).statement i ≡ true → (kept_words set vs).argument i n ≡ keeps_parameter set vs g n
      arguments_fit h = same_tests ((kept_words set vs).argument i n) (keeps_parameter set vs g n) parameter_of_argument (argument_of_parameter h)

-- A set that has the controllers of its members is nested, and has the entries of the functions of its members.
use Rattle.std.proofs.Common.{◌≡◌, ℕ, ◌+◌, ◌==◌, List, map, Bool, true, refl, subst, arith, eq-eqb, IsTrue}
use Rattle.std.specs.List.{range_with_len}
use Rattle.std.proofs.lemmas.Bool.{and_from}
use Rattle.bit_rows.specs.Sets.{has}
use Rattle.c_tree.specs.declared.program.Program.{Program}
use Rattle.dep_model.specs.declared.edge.Edge.{Edge}
use Rattle.dep_model.specs.declared.edge.Label.TheVariants.{Control}
use Rattle.dep_model.specs.declared.vertex.Vertex.{Vertex}
use Rattle.dep_model.specs.declared.vertex.VertexKind.TheVariants.{Entry}
use Rattle.dep_model.specs.ClosedSets.{IsClosedIn}
use Rattle.dep_model.specs.Doings.{doing_number, program_doings}
use Rattle.dep_model.specs.Facts.{IsIn}
use Rattle.dep_model.specs.FunctionVertices.{IsControlIn, nested, formal, actual, is_own, is_entry, passes}
use Rattle.dep_model.specs.Graphs.{edge}
use Rattle.dep_model.specs.SystemGraph.{Analysis, vertices_of, AreSystemEdges}
use Rattle.dep_model.specs.SystemGraph as system
use Rattle.dep_model.specs.VertexOrder.{in_function}
use Rattle.dep_model.proofs.EntryLaws.{entry_one}
use Rattle.projection.specs.KeptVertices.{kept_words}
use Rattle.projection_laws.specs.Nested.{IsNested, stands_in}
use Rattle.projection_laws.proofs.StandsNested.{standing_nested}
use Rattle.control_nesting.specs.ControlledVertices.{IsOwn, IsControlChain, begins, goes_on, IsControlClosed, HoldsEntry}
use Rattle.control_nesting.specs.TakenArms.{TakesAll}
use Rattle.control_nesting.proofs.Controlled.{standing_controlled, vertex_reached}
use Rattle.control_nesting.proofs.HeldVertices.{holds_there, held_of}
use Rattle.control_nesting.proofs.OwnVertices.{in_numbers, kind_there}

control_labelled : (p : Program) (vs : List Vertex) (f : ℕ) (e : Edge) → IsControlIn p vs f e → e.label ≡ Control
control_labelled p vs f e (nested c i labelled controls from to) = labelled
control_labelled p vs f e (formal labelled from to) = labelled
control_labelled p vs f e (actual i labelled from to) = labelled

module _ (p : Program) (a : Analysis) (s : List Bool) where
  abbrev vs : List Vertex
  vs = vertices_of p a

  abbrev keeps : ℕ → Bool
  keeps = (kept_words s vs).statement

  pub has_controllers : (edges : List Edge) → AreSystemEdges p a edges → IsClosedIn p vs edges s → IsControlClosed p vs s
  has_controllers edges are closed f e c h = closed.closed.controls e ((are e).1 (system.control f c)) (control_labelled p vs f e c) h

  module _ (takes : TakesAll p) (closed : IsControlClosed p vs s) where
    outer_kept : map doing_number (program_doings p) ≡ range_with_len 0 p.statements → (outer inner : ℕ) → stands_in p outer inner ≡ true → keeps inner ≡ true → keeps outer ≡ true
    outer_kept numbered outer inner h kept =
        let w = held_of s (λ (v : Vertex). is_own inner v.kind) 0 vs kept in
        let c = standing_controlled p a numbered takes outer inner h in
        let own = in_numbers p a (is_own inner) w.vertex.function w.place w.vertex.kind w.at w.passing in
        let same = c.to.alone w.vertex.function w.place own in
        let here : 0 + w.place ≡ w.place = omega arith in
        let e = c.leads c.from.vertex w.place c.from.owned (subst (λ f. IsOwn vs f inner w.place) same own) in
        let member = closed c.function (edge c.from.vertex w.place Control) e (subst (λ k. IsTrue (has s k)) here w.member) in
        let there : c.from.vertex ≡ 0 + c.from.vertex = omega arith in
        let k = kind_there p a (is_own outer) c.function c.from.vertex c.from.owned in
        holds_there s (λ (v : Vertex). is_own outer v.kind) 0 c.from.vertex vs (in_function c.function k.0) (subst (λ n. IsTrue (has s n)) there member) k.1 k.2

    pub closed_nested : map doing_number (program_doings p) ≡ range_with_len 0 p.statements → IsNested keeps p
    closed_nested numbered = standing_nested p keeps (outer_kept numbered)

    chain_held : (f u v : ℕ) → IsControlChain p vs f u v → IsTrue (has s v) → IsTrue (has s u)
    chain_held f u v begins h = h
    chain_held f u w (goes_on {v = v} c e) h = chain_held f u v c (closed f (edge v w Control) e h)

    pub closed_holds : (f v : ℕ) → IsIn vs f v → IsTrue (has s v) → HoldsEntry vs s f
    closed_holds f v i h =
        let r = vertex_reached p a takes f v i in
        let held = chain_held f r.entry v r.chain h in
        let there : r.entry ≡ 0 + r.entry = omega arith in
        record {
          entry = λ e at. subst (λ n. IsTrue (has s n)) (entry_one p a f r.entry e r.is_entry at) held;
          kept = holds_there s (passes is_entry f) 0 r.entry vs (in_function f Entry) (subst (λ n. IsTrue (has s n)) there held) r.is_entry (and_from (f == f) true (eq-eqb f f refl) refl);
        }

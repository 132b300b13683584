-- What a slice keeps can be projected: calls at one vertex are of one function, where statements have the numbers from 0 on.
use Rattle.std.proofs.Common.{◌≡◌, ◌↔◌, ℕ, ◌+◌, ◌==◌, List, length, map, Bool, true, refl, ap, subst, arith, eq-eqb, IsTrue}
use Rattle.std.specs.List.{range_with_len}
use Rattle.std.proofs.lemmas.Bool.{and_from}
use Rattle.bit_rows.specs.Sets.{has}
use Rattle.c_tree.specs.declared.program.Program.{Program}
use Rattle.completion.proofs.Projectable.{HaveOneCallee, projectable}
use Rattle.dep_model.specs.declared.edge.Edge.{Edge}
use Rattle.dep_model.specs.declared.vertex.Vertex.{Vertex}
use Rattle.dep_model.specs.declared.vertex.VertexKind.TheVariants.{Entry}
use Rattle.dep_model.specs.ClosedSets.{IsClosedIn, IsCompletionIn, IsProjectable}
use Rattle.dep_model.specs.Criteria.{criterion_of}
use Rattle.dep_model.specs.Doings.{Doing, Does, Calls, doing_number, doings_of, program_doings}
use Rattle.dep_model.specs.FunctionVertices.{is_entry, passes}
use Rattle.dep_model.specs.SystemGraph.{Analysis, vertices_of, AreSystemEdges}
use Rattle.dep_model.specs.VertexOrder.{in_function}
use Rattle.dep_model.specs.Words.{ReachesAny}
use Rattle.dep_model.proofs.Membership.{in_of_contains}
use Rattle.shaped_graphs.proofs.KindLaws.{one_doing}
use Rattle.shaped_graphs.proofs.NumberLaws.{apart_in}
use Rattle.control_nesting.specs.ControlledVertices.{KeepsMain}
use Rattle.control_nesting.proofs.HeldVertices.{holds_there}

abbrev called : Doing → ℕ
called (Does i x) = 0
called (Calls i to g args) = g

one_callee : (p : Program) (a : Analysis) (edges : List Edge) → map doing_number (program_doings p) ≡ range_with_len 0 p.statements → HaveOneCallee p a edges
one_callee p a edges numbered f i k e d me md x y =
    let one = Calls i x.is_call.target x.to x.is_call.args in
    let other = Calls i y.is_call.target y.to y.is_call.args in
    ap called (one_doing p a.effects (doings_of p f) one other (apart_in p f p.statements numbered) (in_of_contains (doings_of p f) one x.is_call.member) (in_of_contains (doings_of p f) other y.is_call.member) refl)

pub completed_projectable : (p : Program) (a : Analysis) (edges : List Edge) (set : ℕ → Bool) (reached kept : List Bool) → map doing_number (program_doings p) ≡ range_with_len 0 p.statements
    → AreSystemEdges p a edges → length reached ≡ length (vertices_of p a) → ((v : ℕ) → IsTrue (has reached v) ↔ ReachesAny edges (criterion_of set (vertices_of p a)) v)
    → IsCompletionIn p (vertices_of p a) edges reached kept → IsProjectable p (vertices_of p a) edges kept
completed_projectable p a edges set reached kept numbered are long reach c = projectable p a edges are (one_callee p a edges numbered) set reached kept long reach c

-- a closed set has the entry of main
pub main_kept : (p : Program) (vs : List Vertex) (edges : List Edge) (s : List Bool) → IsClosedIn p vs edges s → KeepsMain p vs s
main_kept p vs edges s h =
    let f = h.is_entry.function in
    let there : h.main ≡ 0 + h.main = omega arith in
    record {
      main = f;
      is_main = h.is_entry.is_main;
      kept = holds_there s (passes is_entry f) 0 h.main vs (in_function f Entry) (subst (λ n. IsTrue (has s n)) there h.closed.entry) h.is_entry.entry (and_from (f == f) true (eq-eqb f f refl) refl);
    }

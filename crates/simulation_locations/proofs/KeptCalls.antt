-- What a closed set keeps of each call.
use Rattle.std.proofs.Common.{ℕ, zero, suc, ◌<◌, List, [], ◌∷◌, length, Bool, arith}
use Rattle.std.specs.Prelude.{Contains, slice_get}
use Rattle.std.specs.Option.{option_map_or}
use Rattle.c_tree.specs.declared.expr.Expr.{Expr}
use Rattle.c_tree.specs.declared.program.Function.{Function}
use Rattle.c_tree.specs.declared.program.Program.{Program}
use Rattle.c_tree.specs.declared.statement.Target.{Target}
use Rattle.dep_model.specs.declared.edge.Edge.{Edge}
use Rattle.dep_model.specs.declared.vertex.Slot.TheVariants.{Result}
use Rattle.dep_model.specs.ClosedSets.{IsClosedIn}
use Rattle.dep_model.specs.Doings.{Doing, Calls, body_doings, doings_of}
use Rattle.dep_model.specs.SystemGraph.{Analysis, vertices_of, AreSystemEdges}
use Rattle.dep_model.specs.VertexOrder.{result_slots}
use Rattle.dep_model.proofs.Membership.{IsIn, in_of_contains}
use Rattle.simulation_locations.specs.Chained.{HasSoundCalls}
use Rattle.simulation_locations.specs.Laws.{KeepsCall}
use Rattle.simulation_locations.proofs.Between.{call_of_out, call_of_result, actual_in_kept, formal_out_kept, formal_result_kept}

-- a function with a statement is one of the program
pub function_there : (p : Program) (f : ℕ) (d : Doing) → IsIn (doings_of p f) d → f < length p.functions
function_there p f d m = in_functions p.functions f m
  where
    in_functions : (gs : List Function) (f : ℕ) → IsIn (option_map_or (λ (g : Function). body_doings g.body) (slice_get gs f) []) d → f < length gs
    in_functions [] f m = absurd m
    in_functions (g ∷ gs) zero m = omega arith
    in_functions (g ∷ gs) (suc f) m = let lt = in_functions gs f m in omega (arith, lt)

pub keeps_call : (p : Program) (a : Analysis) (edges : List Edge) (kept : List Bool) (f i g : ℕ) (to : Target) (args : List Expr) → HasSoundCalls p a → AreSystemEdges p a edges → IsClosedIn p (vertices_of p a) edges kept → Contains (doings_of p f) (Calls i to g args) → KeepsCall p a kept f i g to
keeps_call p a edges kept f i g to args sound are closed c =
    let member : IsIn (doings_of p f) (Calls i to g args) = in_of_contains (doings_of p f) (Calls i to g args) c in
    let low = function_there p f (Calls i to g args) member in
    let there = sound.callees f i g to args c in
    record {
      actual_in = λ l o k t. actual_in_kept p a edges are kept closed f i g to args member low there l o k t;
      formal_out = λ l k. formal_out_kept p a edges are kept closed f i g to args member low there sound.numbered l k;
      formal_result = λ st k. formal_result_kept p a edges are kept closed f i g to args member low there (in_of_contains (result_slots p a.effects g) Result (sound.results f i g to args c st)) k;
      call_of_out = λ l k. call_of_out p a edges are kept closed f i g l low k;
      call_of_result = λ k. call_of_result p a edges are kept closed f i g low k;
    }

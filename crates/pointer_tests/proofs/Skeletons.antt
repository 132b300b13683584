-- What a skeleton gives, whatever its analysis says of pointers.
use Rattle.std.proofs.Common.{◌≡◌, ◌≤◌, length, sym, subst, arith}
use Rattle.std.proofs.lemmas.List.{length-map}
use Rattle.c_tree.specs.declared.program.Program.{Program}
use Rattle.dep_model.specs.declared.skeleton.Skeleton.{Skeleton}
use Rattle.dep_model.specs.LocationLists.{location_list}
use Rattle.dep_model.specs.Locations.{TypedLocation, locations}
use Rattle.dep_model.specs.Stretches.{AreByFunction}
use Rattle.dep_model.proofs.FunctionOrder.{are_by_function}
use Rattle.program_graph.proofs.Parts.{even_rows}
use Rattle.reaching_defs.specs.RowFlow.{AreEvenRows}
use Rattle.pointer_tests.specs.LaidOut.{IsLaidOut}

pub by_function : (p : Program) (s : Skeleton) → IsLaidOut p s → AreByFunction s.vertices
by_function p s h = subst AreByFunction (sym h.is_skeleton.vertices_are) (are_by_function p h.analysis)

pub even_tables : (p : Program) (s : Skeleton) → IsLaidOut p s → AreEvenRows s
even_tables p s h = even_rows p h.analysis s h.is_skeleton

pub few_bits : (p : Program) (s : Skeleton) → IsLaidOut p s → s.defined.bits ≤ 4096
few_bits p s h =
    let bits = h.is_skeleton.defined_are.sized.bits_are in
    let long : length (location_list p) ≡ length (locations p) = length-map (locations p) (λ (o : TypedLocation). o.location) in
    let limit = h.few_locations in
    omega (arith, bits, long, limit)

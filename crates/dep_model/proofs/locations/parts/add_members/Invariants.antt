use Rattle.std.proofs.Common.{◌≡◌, ◌≤◌, ◌++◌, length, map, drop}
use Rattle.c_tree.specs.declared.program.Program.{Program}
use Rattle.dep_model.specs.Locations.{member_parts}
use Rattle.dep_model.specs.LocationObjects.{all_structs, placed_under, waiting}
use Rattle.dep_model.specs.declared.location.Root.{Root}
use Rattle.dep_model.proofs.locations.parts.add_members.Given as goal

abbrev pub invariant-loop-number : goal.invariant-loop-number
invariant-loop-number l = record {
  is : (p : Program) (r : Root)
      → waiting p r l.waiting.items ≡ map (placed_under r l.path) (member_parts (all_structs p) l.number (drop l.number l.members)) ++ waiting p r l.initial.waiting.items;
  within : l.number ≤ length l.members;
}

abbrev pub decreases-loop-number : goal.decreases-loop-number
decreases-loop-number l = l.number

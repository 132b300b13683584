use Rattle.std.proofs.Common.{◌≡◌, ◌++◌, drop, map, Some}
use Rattle.c_language.specs.ProgramOf.{member_tree}
use Rattle.c_types_program.proofs.structs.member_trees.Given as goal

abbrev pub invariant-loop-member : goal.invariant-loop-member
invariant-loop-member l = map Some l.made ++ map (member_tree l.defined.raw.now) (drop l.member-index l.list) ≡ map (member_tree l.defined.raw.now) l.list

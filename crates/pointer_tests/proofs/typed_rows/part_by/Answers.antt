use Rattle.std.proofs.Common.{arith}
use Rattle.program_graph.proofs.Parts.{pairs_in}
use Rattle.pointer_tests.proofs.Skeletons.{by_function, even_tables, few_bits}
use Rattle.pointer_tests.proofs.typed_rows.part_by.Goals as goal

pub edges-requires-clause-by_function : goal.edges-requires-clause-by_function
edges-requires-clause-by_function c = by_function c.args.p.now c.args.s.now c.requires.laid_out

pub follows-requires-clause-by_function : goal.follows-requires-clause-by_function
follows-requires-clause-by_function c = by_function c.args.p.now c.args.s.now c.requires.laid_out

pub edges-requires-2-clause-rows : goal.edges-requires-2-clause-rows
edges-requires-2-clause-rows c = even_tables c.args.p.now c.args.s.now c.requires.laid_out

pub edges-requires-2-clause-by_function : goal.edges-requires-2-clause-by_function
edges-requires-2-clause-by_function c = by_function c.args.p.now c.args.s.now c.requires.laid_out

pub edges-requires-2-clause-ends : goal.edges-requires-2-clause-ends
edges-requires-2-clause-ends c =
    pairs_in c.args.p.now c.args.s.now c.args.f c.in_ok-order.order.pairs c.in_ok-order.ensures.exact

pub edges-requires-2-clause-few_locations : goal.edges-requires-2-clause-few_locations
edges-requires-2-clause-few_locations c = let few = few_bits c.args.p.now c.args.s.now c.requires.laid_out in omega (arith, few)

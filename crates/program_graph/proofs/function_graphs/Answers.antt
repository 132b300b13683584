use Rattle.std.proofs.Common.{◌≡◌, arith}
use Rattle.program_graph.proofs.Parts.{few_functions, one_more_graph, all_graphs}
use Rattle.program_graph.proofs.function_graphs.Goals as goal

pub overflow_cast-f-end : goal.overflow_cast-f-end
overflow_cast-f-end c =
    let few = few_functions c.args.p.now c.args.s.now c.requires in
    let is = c.len-f-end.ensures in
    omega (arith, few, is)

pub loop-f-preserved : goal.loop-f-preserved
loop-f-preserved c =
    one_more_graph c.args.p.now c.args.s.now c.loop-f.f c.loop-f.parts.items c.push.new.self.items c.in_ok-part.part c.loop-f.invariant c.in_ok-push.ensures.items c.in_ok-part.ensures

pub returns : goal.returns
returns c =
    let done : c.loop-f.f ≡ c.len-f-end.result = let from = c.loop-f-test.false in let to = c.loop-f.auto.f-end in omega (arith, from, to) in
    all_graphs c.args.p.now c.args.s.now c.loop-f.f c.len-f-end.result c.loop-f.parts.items c.loop-f.invariant done c.len-f-end.ensures

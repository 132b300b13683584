use Rattle.std.proofs.Common.{sym, subst, arith}
use Rattle.summary_edges.specs.FunctionParts.{AreFirstParts}
use Rattle.summary_edges.proofs.PartLaws.{no_parts}
use Rattle.summary_edges.proofs.function_parts.FunctionParts.find.Goals as goal

pub loop-first-init : goal.loop-first-init
loop-first-init c = record {
  parts = no_parts c.args.g.now (record { list = c.new.result; of_vertex = c.new-2.result; of_number = c.new-3.result }) c.new.ensures.items c.new-2.ensures.items c.new-3.ensures.items;
  apart = λ u v x y low. absurd (omega (arith, low));
  inside = omega arith;
}

pub part_at-part-requires-clause-apart : goal.part_at-part-requires-clause-apart
part_at-part-requires-clause-apart c = c.loop-first.invariant.apart

pub add_part-requires-clause-before : goal.add_part-requires-clause-before
add_part-requires-clause-before c = subst (AreFirstParts c.args.g.now c.loop-first.parts) (sym c.part_at-part.ensures.first) c.loop-first.invariant.parts

pub loop-first-smaller : goal.loop-first-smaller
loop-first-smaller c =
    let first = c.part_at-part.ensures.first in
    let more = c.part_at-part.ensures.is.order in
    let inside = c.part_at-part.ensures.is.inside in
    omega (arith, first, more, inside)

pub loop-first-preserved : goal.loop-first-preserved
loop-first-preserved c = record {
  parts = c.in_ok-add_part.ensures;
  apart = c.part_at-part.ensures.apart;
  inside = c.part_at-part.ensures.is.inside;
}

use Rattle.std.proofs.Common.{arith}
use Rattle.bit_rows.specs.Sets.{has}
use Rattle.dep_model.specs.declared.vertex.Vertex.{Vertex}
use Rattle.dep_model.specs.FunctionVertices.{is_own, is_entry, passes}
use Rattle.projection.specs.KeptVertices.{is_result, is_argument, is_parameter, holds}
use Rattle.kept_numbers.specs.Pairs.{marked}
use Rattle.projection.proofs.HeldLemmas.{held_turn}
use Rattle.projection.proofs.parts.KeptParts.of.Goals as goal

pub loop-number-preserved : goal.loop-number-preserved
loop-number-preserved c = record {
  statements = λ i. held_turn c.args.kept.now (λ (v : Vertex). is_own i v.kind) c.loop-number.number c.args.vertices.now (has c.loop-number.parts.statements.items i) (has c.add_kept.new.self.statements.items i) (holds c.args.kept.now (λ (v : Vertex). is_own i v.kind) 0 c.args.vertices.now) (omega (arith, c.loop-number-test.true, c.len-number-end.ensures, c.requires)) (c.in_ok-add_kept.ensures.statements i) (c.loop-number.invariant.statements i);
  results = λ i. held_turn c.args.kept.now (λ (v : Vertex). is_result i v.kind) c.loop-number.number c.args.vertices.now (has c.loop-number.parts.results.items i) (has c.add_kept.new.self.results.items i) (holds c.args.kept.now (λ (v : Vertex). is_result i v.kind) 0 c.args.vertices.now) (omega (arith, c.loop-number-test.true, c.len-number-end.ensures, c.requires)) (c.in_ok-add_kept.ensures.results i) (c.loop-number.invariant.results i);
  arguments = λ i m. held_turn c.args.kept.now (λ (v : Vertex). is_argument i m v.kind) c.loop-number.number c.args.vertices.now (marked c.loop-number.parts.arguments i m) (marked c.add_kept.new.self.arguments i m) (holds c.args.kept.now (λ (v : Vertex). is_argument i m v.kind) 0 c.args.vertices.now) (omega (arith, c.loop-number-test.true, c.len-number-end.ensures, c.requires)) (c.in_ok-add_kept.ensures.arguments i m) (c.loop-number.invariant.arguments i m);
  functions = λ i. held_turn c.args.kept.now (passes is_entry i) c.loop-number.number c.args.vertices.now (has c.loop-number.parts.functions.items i) (has c.add_kept.new.self.functions.items i) (holds c.args.kept.now (passes is_entry i) 0 c.args.vertices.now) (omega (arith, c.loop-number-test.true, c.len-number-end.ensures, c.requires)) (c.in_ok-add_kept.ensures.functions i) (c.loop-number.invariant.functions i);
  parameters = λ i m. held_turn c.args.kept.now (passes (is_parameter m) i) c.loop-number.number c.args.vertices.now (marked c.loop-number.parts.parameters i m) (marked c.add_kept.new.self.parameters i m) (holds c.args.kept.now (passes (is_parameter m) i) 0 c.args.vertices.now) (omega (arith, c.loop-number-test.true, c.len-number-end.ensures, c.requires)) (c.in_ok-add_kept.ensures.parameters i m) (c.loop-number.invariant.parameters i m);
}

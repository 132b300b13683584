use Rattle.std.proofs.Common.{arith}
use Rattle.dep_model.specs.declared.vertex.Vertex.{Vertex}
use Rattle.dep_model.specs.FunctionVertices.{is_own}
use Rattle.projection.specs.KeptVertices.{holds}
use Rattle.projection.proofs.HeldLemmas.{held_here, held_later}
use Rattle.projection.proofs.numbering.is_statement_kept.Goals as goal

pub returns-then-is_own_kept : goal.returns-then-is_own_kept
returns-then-is_own_kept c =
    let lt = c.loop-number-test.true in
    held_here c.args.kept.now (λ (v : Vertex). is_own c.args.id v.kind) c.loop-number.number c.args.vertices.now c.is_own_kept.result
    (holds c.args.kept.now (λ (v : Vertex). is_own c.args.id v.kind) 0 c.args.vertices.now)
    (omega (arith, lt, c.len-number-end.ensures, c.requires)) c.is_own_kept.ensures c.if-is_own_kept.true c.loop-number.invariant

pub loop-number-preserved : goal.loop-number-preserved
loop-number-preserved c =
    let lt = c.loop-number-test.true in
    held_later c.args.kept.now (λ (v : Vertex). is_own c.args.id v.kind) c.loop-number.number c.args.vertices.now c.is_own_kept.result
    (holds c.args.kept.now (λ (v : Vertex). is_own c.args.id v.kind) 0 c.args.vertices.now)
    (omega (arith, lt, c.len-number-end.ensures, c.requires)) c.is_own_kept.ensures c.if-is_own_kept.false c.loop-number.invariant

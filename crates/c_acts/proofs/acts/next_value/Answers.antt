use Rattle.std.proofs.Common.{Option, Some, ap₂, ◌∙◌}
use Rattle.std.specs.Prelude.{pos}
use Rattle.c_arith.specs.declared.operators.BinaryOp.{BinaryOp}
use Rattle.c_language.specs.declared.expr_type.ExprType.{ExprType}
use Rattle.c_meaning.specs.declared.value.Value.{Value}
use Rattle.c_meaning.specs.declared.value.Value.TheVariants.{Number}
use Rattle.c_meaning.specs.Acts.{bump}
use Rattle.c_meaning.specs.Values.{binary_value, type_of}
use Rattle.c_memory.specs.Scenes.{types_in}
use Rattle.c_memory.proofs.EvaluationLemmas.{given_as}
use Rattle.c_memory.proofs.ExprForms.{typed}
use Rattle.c_acts.proofs.acts.next_value.Goals as goal

pub returns : goal.returns
returns c =
    let p = c.args.s.program.now in
    let m = c.args.s.memory.now in
    let one : Option Value = Some (Number (pos 1)) in
    let types = types_in c.args.s in
    given_as c.binary_value.result _ _
    (ap₂ (λ (op : BinaryOp) (t : ExprType). binary_value op t c.integer-one.result m c.in_ok-old.old one) c.bump-op.ensures (c.in_ok-shape.ensures ∙ typed p c.args.left.now)
    ∙ ap₂ (λ (u : ExprType) (o : Option Value). binary_value (bump c.args.up) (type_of types c.args.left.now) u m o one) c.integer-one.ensures c.in_ok-old.ensures)
    c.binary_value.ensures

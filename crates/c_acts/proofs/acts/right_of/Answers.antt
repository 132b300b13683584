use Rattle.std.proofs.Common.{Option, sym, ap, ap₂, ◌∙◌}
use Rattle.c_arith.specs.declared.operators.BinaryOp.{BinaryOp}
use Rattle.c_language.specs.declared.expr_type.ExprType.{ExprType}
use Rattle.c_meaning.specs.Acts.{right_of}
use Rattle.c_meaning.specs.Values.{binary_value, type_of}
use Rattle.c_memory.specs.Scenes.{types_in, state_in}
use Rattle.c_memory.proofs.EvaluationLemmas.{given_as}
use Rattle.c_memory.proofs.ExprForms.{typed}
use Rattle.c_acts.proofs.acts.right_of.Goals as goal

pub returns-in_ok-second-in-Some : goal.returns-in_ok-second-in-Some
returns-in_ok-second-in-Some c =
    let p = c.args.s.program.now in
    let m = c.args.s.memory.now in
    let op = c.in-Some.op in
    let left = c.args.left.now in
    let right = c.args.right.now in
    let types = types_in c.args.s in
    given_as c.binary_of.result _ _
    (ap₂ (λ (t u : ExprType). binary_value op t u m c.in_ok-first-in-Some.first c.in_ok-second-in-Some.second) (typed p left) (typed p right)
    ∙ ap₂ (binary_value op (type_of types left) (type_of types right) m) c.in_ok-first-in-Some.ensures c.in_ok-second-in-Some.ensures
    ∙ ap (λ (o : Option BinaryOp). right_of types o left right (state_in c.args.s)) (sym c.in-Some.is))
    c.binary_of.ensures

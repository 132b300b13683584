use Rattle.std.proofs.Common.{Option, sym, subst}
use Rattle.std.specs.Prelude.{IfOk}
use Rattle.c_meaning.specs.declared.value.Value.{Value}
use Rattle.c_meaning.specs.Activations.{executable, types_in, received}
use Rattle.c_machine.specs.Runs.{Stored}
use Rattle.c_machine.proofs.RunLemmas.{stored_nothing, heard_at}
use Rattle.c_machine.proofs.runs.Run.store_result.Goals as goal

pub returns-in-Some-clause-stands : goal.returns-in-Some-clause-stands
returns-in-Some-clause-stands c =
    λ p before x h.
    subst (λ (u : Option Value). IfOk c.store_value.result (λ o. Stored p before c.args.call (received (types_in (executable p) x.function) c.args.target.now u x.state) o c.store_value.new.self x)) (sym c.in-Some.is) (c.store_value.ensures.stands p before x h)

pub returns-in-None-clause-stands : goal.returns-in-None-clause-stands
returns-in-None-clause-stands c =
    λ p before x h. stored_nothing p before c.args.self.now x c.args.call c.args.target.now c.args.value c.in-None.is (heard_at p before c.args.self.now x h)

use Rattle.std.proofs.lemmas.Result.{IfOk-weaker}
use Rattle.c_machine.proofs.RunLemmas.{received_none, received_place, received_declared}
use Rattle.c_machine.proofs.runs.Run.receive.Goals as goal

pub returns-in-None-clause-stands : goal.returns-in-None-clause-stands
returns-in-None-clause-stands c =
    λ p before x h. received_none p before c.args.self.now x c.args.call c.args.target.now c.args.value c.in-None.is h

pub returns-in-Place-clause-stands : goal.returns-in-Place-clause-stands
returns-in-Place-clause-stands c =
    λ p before x h.
    IfOk-weaker c.store_result.result _ _ (λ o s. received_place p before o c.store_result.new.self x c.args.call c.args.target.now _ c.args.value c.in-Place.is s) (c.store_result.ensures.stands p before x h)

pub returns-in-Declared-clause-stands : goal.returns-in-Declared-clause-stands
returns-in-Declared-clause-stands c =
    λ p before x h.
    IfOk-weaker c.store_result-in-Declared.result _ _ (λ o s. received_declared p before o c.store_result-in-Declared.new.self x c.args.call c.args.target.now _ c.args.value c.in-Declared.is s) (c.store_result-in-Declared.ensures.stands p before x h)

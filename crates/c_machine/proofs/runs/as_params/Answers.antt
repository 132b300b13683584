use Rattle.std.proofs.Common.{◌≡◌, length, sym, arith}
use Rattle.c_machine.proofs.CallLemmas.{uneven}
use Rattle.c_machine.proofs.runs.as_params.Goals as goal

pub returns-then-len-params : goal.returns-then-len-params
returns-then-len-params c =
    sym
    (uneven c.args.program.now c.args.params.now c.args.values.items
    (λ e. let h : c.len.result ≡ length c.args.params.now = omega (arith, e, c.len.ensures, c.args.values.ok.0) in c.if-len-params.true h))

-- The premises of the law on slices about calls and about returns.
use Rattle.std.proofs.Common.{◌≡◌, true}
use Rattle.simulation_steps.specs.Laws.{CallsBeginTogether, CallsEndTogether}
use Rattle.simulation_steps.proofs.Entering.{entering}
use Rattle.simulation_steps.proofs.Returning.{returning}

pub calls_begin_together : CallsBeginTogether
calls_begin_together pair holds = entering pair (λ f. holds f ≡ true)

pub calls_end_together : CallsEndTogether
calls_end_together pair holds = returning pair (λ f. holds f ≡ true)

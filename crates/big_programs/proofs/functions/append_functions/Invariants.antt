use Rattle.std.proofs.Common.{◌≡◌, ◌++◌}
use Rattle.big_programs.specs.Draws.{state_before}
use Rattle.big_programs.specs.Generated.{first_functions}
use Rattle.big_programs.proofs.functions.append_functions.Given as goal

abbrev pub invariant-loop-earlier : goal.invariant-loop-earlier
invariant-loop-earlier l =
    (l.text ≡ l.initial.text ++ first_functions l.initial.generator.state l.earlier) × (l.generator.state ≡ state_before l.initial.generator.state l.earlier)

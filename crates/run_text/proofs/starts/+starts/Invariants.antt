use Rattle.std.proofs.Common.{◌≡◌, ◌++◌, take}
use Rattle.c_tree.specs.Numbered.{body_starts, arms_inner}
use Rattle.run_text.proofs.starts.+starts.Given as goal

abbrev pub invariant-among-loop-statement : goal.invariant-among-loop-statement
invariant-among-loop-statement l =
    l.found.items ≡ l.initial.found.items ++ body_starts (take l.statement-index l.list)

abbrev pub invariant-in_arms-loop-arm : goal.invariant-in_arms-loop-arm
invariant-in_arms-loop-arm l =
    l.found.items ≡ l.initial.found.items ++ body_starts (arms_inner (take l.arm-index l.arms))

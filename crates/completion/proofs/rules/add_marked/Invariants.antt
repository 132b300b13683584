use Rattle.std.proofs.Common.{◌≡◌, ◌++◌, take, flat_map}
use Rattle.bit_rows.specs.Sets.{has}
use Rattle.completion.specs.NameRules.{named_rule}
use Rattle.completion.proofs.rules.add_marked.Given as goal

abbrev pub invariant-loop-formal : goal.invariant-loop-formal
invariant-loop-formal l = l.rules.items ≡ l.fn.rules.items ++ flat_map (named_rule l.parameters (has l.used) l.number) (take l.formal-index l.formals)

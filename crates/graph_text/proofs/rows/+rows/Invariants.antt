use Rattle.std.proofs.Common.{◌≡◌, ◌++◌, take}
use Rattle.c_tree.specs.Numbered.{arms_inner}
use Rattle.graph_text.specs.RowWalk.{body_rows}
use Rattle.graph_text.proofs.rows.+rows.Given as goal

abbrev pub invariant-among-loop-statement : goal.invariant-among-loop-statement
invariant-among-loop-statement l =
    l.rows.items ≡ l.initial.rows.items ++ body_rows l.p (take l.statement-index l.list)

abbrev pub invariant-in_arms-loop-arm : goal.invariant-in_arms-loop-arm
invariant-in_arms-loop-arm l =
    l.rows.items ≡ l.initial.rows.items ++ body_rows l.p (arms_inner (take l.arm-index l.arms))

use Rattle.std.proofs.Common.{◌≡◌, ℕ, ◌++◌, drop}
use Rattle.dep_model.specs.Doings.{body_doings}
use Rattle.completion.specs.Numbered.{stated_at, with_number, arms_doings}
use Rattle.completion.proofs.statements.+statement.Given as goal

abbrev pub invariant-add_statements-loop-statement : goal.invariant-add_statements-loop-statement
invariant-add_statements-loop-statement l =
    (i : ℕ) → stated_at l.rows.items i ++ with_number l.function i (body_doings (drop l.statement-index l.list)) ≡ stated_at l.initial.rows.items i ++ with_number l.function i (body_doings l.list)

abbrev pub invariant-add_arms-loop-arm : goal.invariant-add_arms-loop-arm
invariant-add_arms-loop-arm l =
    (i : ℕ) → stated_at l.rows.items i ++ with_number l.function i (arms_doings (drop l.arm-index l.arms)) ≡ stated_at l.initial.rows.items i ++ with_number l.function i (arms_doings l.arms)

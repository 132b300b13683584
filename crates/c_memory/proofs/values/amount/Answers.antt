use Rattle.std.proofs.Common.{inl, inr, arith}
use Rattle.std.proofs.lemmas.Int.{ints}
use Rattle.c_memory.proofs.ShiftLemmas.{left_as_far, right_as_far}
use Rattle.c_memory.proofs.values.amount.Goals as goal

pub returns-then-y-lt0-clause-left : goal.returns-then-y-lt0-clause-left
returns-then-y-lt0-clause-left c = λ t x. let test = c.if-y-lt0.true in left_as_far t x c.args.y (inl (omega (arith, ints, test)))

pub returns-then-y-lt0-clause-right : goal.returns-then-y-lt0-clause-right
returns-then-y-lt0-clause-right c = λ t x. let test = c.if-y-lt0.true in right_as_far t x c.args.y (inl (omega (arith, ints, test)))

pub returns-then-y-gt64-clause-left : goal.returns-then-y-gt64-clause-left
returns-then-y-gt64-clause-left c = λ t x. let test = c.if-y-gt64.true in left_as_far t x c.args.y (inr (omega (arith, ints, test)))

pub returns-then-y-gt64-clause-right : goal.returns-then-y-gt64-clause-right
returns-then-y-gt64-clause-right c = λ t x. let test = c.if-y-gt64.true in right_as_far t x c.args.y (inr (omega (arith, ints, test)))

use Rattle.std.proofs.Common.{◌∙◌, ◌-◌, sym, ap, drop, length}
use Rattle.c_lex.specs.Scanning.{join_len}
use Rattle.c_lex.proofs.Loops.{step_taken, steps_done}
use Rattle.c_lex.proofs.Places.{passed_stop}
use Rattle.c_lex.proofs.place.behind_joins.Goals as goal

pub returns-then-len-eq0 : goal.returns-then-len-eq0
returns-then-len-eq0 c = sym (c.loop-turn.invariant ∙ passed_stop join_len (length c.args.bytes.now - c.loop-turn._turn) c.loop-turn.rest.now (sym c.join_len-len.ensures.value ∙ c.if-len-eq0.true))

pub loop-turn-preserved : goal.loop-turn-preserved
loop-turn-preserved c = step_taken join_len (length c.args.bytes.now) c.loop-turn._turn c.loop-turn.rest.now _ c.loop-turn-test.true c.loop-turn.invariant (c.behind-rest.ensures ∙ ap (λ n. drop n c.loop-turn.rest.now) c.join_len-len.ensures.value)

pub returns : goal.returns
returns c = sym (steps_done join_len (length c.args.bytes.now) c.loop-turn._turn c.loop-turn.rest.now c.loop-turn-test.false c.loop-turn.invariant)

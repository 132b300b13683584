use Rattle.std.proofs.Common.{◌∙◌, ◌-◌, sym, ap, drop, length, length-drop, arith}
use Rattle.c_lex.specs.Scanning.{gap_len}
use Rattle.c_lex.proofs.Loops.{step_taken, steps_done}
use Rattle.c_lex.proofs.Places.{passed_stop}
use Rattle.c_lex.proofs.LineLemmas.{gap_within}
use Rattle.c_lex.proofs.line.behind_gap.Goals as goal

pub returns-then-len-eq0-clause-value : goal.returns-then-len-eq0-clause-value
returns-then-len-eq0-clause-value c = sym (c.loop-turn.invariant.same ∙ passed_stop gap_len (length c.args.bytes.now - c.loop-turn._turn) c.loop-turn.rest.now (sym c.gap_len-len.ensures ∙ c.if-len-eq0.true))

pub behind-rest-requires : goal.behind-rest-requires
behind-rest-requires c = omega (arith, gap_within c.loop-turn.rest.now, c.gap_len-len.ensures)

pub loop-turn-preserved : goal.loop-turn-preserved
loop-turn-preserved c = record {
  same = step_taken gap_len (length c.args.bytes.now) c.loop-turn._turn c.loop-turn.rest.now _ c.loop-turn-test.true c.loop-turn.invariant.same (c.behind-rest.ensures ∙ ap (λ n. drop n c.loop-turn.rest.now) c.gap_len-len.ensures);
  within = omega (arith, ap length c.behind-rest.ensures, length-drop c.gap_len-len.result c.loop-turn.rest.now, c.loop-turn.invariant.within);
}

pub returns-clause-value : goal.returns-clause-value
returns-clause-value c = sym (steps_done gap_len (length c.args.bytes.now) c.loop-turn._turn c.loop-turn.rest.now c.loop-turn-test.false c.loop-turn.invariant.same)

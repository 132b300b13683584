use Rattle.std.proofs.Common.{arith}
use Rattle.bit_rows.specs.Tables.{the_set}
use Rattle.points_to.proofs.AgendaLemmas.{blank_block}
use Rattle.points_to.proofs.blocks.is_blank.Goals as goal

pub returns-then-word-eq0 : goal.returns-then-word-eq0
returns-then-word-eq0 c = λ h. blank_block c.args.rows.now.bits c.words-words.result.now (the_set c.args.rows.now c.args.row) c.args.place c.words-words.ensures.holds (omega (arith, c.if-word-eq0.true))

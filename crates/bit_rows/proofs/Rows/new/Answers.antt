use Rattle.std.proofs.Common.{arith, rules}
use Rattle.bit_rows.specs.Tables.{empty_table}
use Rattle.bit_rows.proofs.LayoutLemmas.{AreWordsOf, empty_words, table_sized}
use Rattle.bit_rows.proofs.Rows.new.Goals as goal
use Rattle.bit_rows.proofs.Rows.new.Goals.{In_ok-words}

-- the words that were made hold empty sets
empty : (c : In_ok-words) → AreWordsOf c.args.bits c.div_ceil-width.result c.args.rows c.in_ok-words.words.items (empty_table c.args.rows c.args.bits)
empty c =
    let width = c.div_ceil-width.ensures in
    empty_words c.args.bits c.div_ceil-width.result c.args.rows c.in_ok-words.words.items (omega (arith, width)) (omega arith) (omega arith) (c.in_ok-words.ensures.items_if_clones_equal (λ y h. search rules))

pub returns-clause-empty : goal.returns-clause-empty
returns-clause-empty c = (empty (goal.at.returns-clause-empty c).In_ok-words).view_is

pub returns-clause-size : goal.returns-clause-size
returns-clause-size c = table_sized c.args.bits c.div_ceil-width.result c.args.rows c.in_ok-words.words.items

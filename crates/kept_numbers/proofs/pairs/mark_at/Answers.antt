use Rattle.kept_numbers.proofs.PairLemmas.{row_marked}
use Rattle.kept_numbers.proofs.pairs.mark_at.Goals as goal

pub returns : goal.returns
returns c =
    row_marked c.args.rows.now.items c.args.at c.index_mut.result.now c.mark.new.used c.args.number c.requires c.index_mut.ensures.value c.in_ok-mark.ensures

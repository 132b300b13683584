use Rattle.completion.proofs.RowLaws.{row_grown}
use Rattle.completion.proofs.rows.push_at.Goals as goal

pub returns : goal.returns
returns g c =
    row_grown c.args.rows.now.items c.args.at c.index_mut.result.now c.push.new.self c.args.item c.requires c.index_mut.ensures.value c.in_ok-push.ensures.items

use Rattle.dep_model.proofs.RowLemmas.{row_grown}
use Rattle.sdg.proofs.vertex_lists.push_at.Goals as goal

pub returns : goal.returns
returns c =
    row_grown c.args.lists.now.items c.args.at c.index_mut.result.now c.push.new.self c.args.number c.requires c.index_mut.ensures.value c.in_ok-push.ensures.items

use Rattle.matched_paths.proofs.GroupLemmas.{exit_added}
use Rattle.matched_paths.proofs.edge_groups.push_at.Goals as goal

pub returns : goal.returns
returns c =
    exit_added c.args.rows.now.items c.args.at c.index_mut.result.now c.push.new.self c.args.edge c.requires c.index_mut.ensures.value c.in_ok-push.ensures.items

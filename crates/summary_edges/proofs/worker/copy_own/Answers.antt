use Rattle.std.proofs.Common.{sym, ◌∙◌}
use Rattle.std.proofs.lemmas.List.Edits.{length-between}
use Rattle.summary_edges.proofs.worker.copy_own.Goals as goal

pub copy_from_slice-requires : goal.copy_from_slice-requires
copy_from_slice-requires c = c.requires.own ∙ sym (length-between c.args.known.now c.args.part.first_word c.args.part.last_word c.requires.known)

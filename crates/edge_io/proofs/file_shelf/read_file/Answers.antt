use Rattle.std.proofs.Common.{rules}
use Rattle.edge_io.proofs.CallLemmas.{unread_file}
use Rattle.edge_io.proofs.file_shelf.read_file.Goals as goal

pub returns-clause-unfetchable : goal.returns-clause-unfetchable
returns-clause-unfetchable g c = unread_file g.R.Opener.may_open g.R.File.Source.may_read c.args.files.now c.args.name.now c.in-Ok.file _ c.in-Ok.ensures (search rules)

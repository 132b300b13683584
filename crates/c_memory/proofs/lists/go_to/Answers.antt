use Rattle.std.proofs.Common.{refl}
use Rattle.c_memory.proofs.ListLemmas.{gone_to}
use Rattle.c_memory.proofs.lists.go_to.Goals as goal

pub returns : goal.returns
returns c = gone_to c.args.element.now _ c.set.new.self c.args.index c.requires c.set.ensures refl

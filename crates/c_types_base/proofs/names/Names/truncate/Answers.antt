use Rattle.std.proofs.Common.{map, ap, sym, ◌∙◌}
use Rattle.std.proofs.lemmas.List.{take-map}
use Rattle.c_types_base.specs.Names.{entry_of}
use Rattle.c_types_base.proofs.names.Names.truncate.Goals as goal

pub returns : goal.returns
returns c = ap (map entry_of) c.truncate.ensures.entries ∙ sym (take-map entry_of c.args.count c.args.self.now.entries.entries)

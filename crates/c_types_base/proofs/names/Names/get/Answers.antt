use Rattle.std.proofs.Common.{ap, ◌∙◌, option_map}
use Rattle.c_types_base.specs.Names.{meaning_of}
use Rattle.c_types_base.proofs.NameLemmas.{found_lookup}
use Rattle.c_types_base.proofs.names.Names.get.Goals as goal

pub returns : goal.returns
returns c = ap (option_map meaning_of) c.get.ensures.value ∙ found_lookup c.args.name.now c.args.self.now.entries.entries

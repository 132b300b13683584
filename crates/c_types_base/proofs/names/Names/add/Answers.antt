use Rattle.std.proofs.Common.{map, ap, ◌∙◌, [], ◌∷◌}
use Rattle.std.proofs.lemmas.List.{map-append}
use Rattle.indexmap.proofs.CallerLemmas.{insert_entry-new}
use Rattle.c_language.proofs.Options.{unmapped}
use Rattle.c_types_base.specs.Names.{meaning_of, entry_of}
use Rattle.c_types_base.proofs.NameLemmas.{found_lookup}
use Rattle.c_types_base.proofs.names.Names.add.Goals as goal

pub returns : goal.returns
returns c =
    let entries = c.args.self.now.entries.entries in
    let gone = unmapped meaning_of _ (found_lookup c.args.name.now entries ∙ c.requires) in
    ap (map entry_of) (c.in_ok-insert.ensures.entries ∙ insert_entry-new _ c.args.self.now.entries c.args.name c.args.meaning gone)
    ∙ map-append entry_of entries ((c.args.name, c.args.meaning) ∷ [])

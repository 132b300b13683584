use Rattle.std.proofs.Common.{rules, None, option_map, ap, ◌∙◌}
use Rattle.c_types_base.specs.Names.{meaning_of}
use Rattle.c_types_base.proofs.NameLemmas.{names_behind, none_behind, same_behind}
use Rattle.c_types_base.proofs.names.Names.get_behind.Goals as goal

pub returns-in_err-index : goal.returns-in_err-index
returns-in_err-index c =
    let none = names_behind c.args.name.now c.args.count c.args.self.now.entries.entries None c.in_err-index.ensures.index c.get_index_of.ensures.unique in
    search (rules, none)

pub returns-then-index-count : goal.returns-then-index-count
returns-then-index-count c =
    none_behind c.args.name.now c.args.count c.in_ok-index.index c.args.self.now.entries.entries c.in_ok-index.ensures.index c.get_index_of.ensures.unique c.if-index-count.true

pub returns-else-index-count : goal.returns-else-index-count
returns-else-index-count c =
    ap (option_map meaning_of) c.get.ensures.value
    ∙ same_behind c.args.name.now c.args.count c.in_ok-index.index c.args.self.now.entries.entries c.in_ok-index.ensures.index c.get_index_of.ensures.unique c.if-index-count.false

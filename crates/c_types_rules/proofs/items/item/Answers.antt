use Rattle.std.proofs.Common.{ap, sym, ◌∙◌, refl}
use Rattle.c_tree.specs.declared.raw.program.RawItem.TheVariants as item_of
use Rattle.c_language.specs.Phrases as phrases
use Rattle.c_types_base.specs.Stretches.{of_declaration, of_item}
use Rattle.c_types_base.proofs.Stretching.{one_phrase}
use Rattle.c_types_rules.proofs.Checked.{walks_phrase}
use Rattle.c_types_rules.proofs.ItemSteps.{item_walks}
use Rattle.c_types_rules.proofs.StatementSteps.{restated_at}
use Rattle.c_types_rules.proofs.items.item.Goals as goal

pub returns-in-Tag : goal.returns-in-Tag
returns-in-Tag c =
    let one = item_of.Tag c.in-Tag.line c.bytes.result.now in
    item_walks c.args.item.now one c.args.tables.now c.args.tables.now c.on_line.result (c.in-Tag.is ∙ ap (item_of.Tag c.in-Tag.line) (sym c.bytes.ensures))
    (restated_at (one_phrase c.in-Tag.line (phrases.NamesStruct c.bytes.result.now)) (of_item one) c.args.tables.now c.args.tables.now c.on_line.result refl refl
    (walks_phrase c.args.tables.now c.requires.right c.in-Tag.line (phrases.NamesStruct c.bytes.result.now) c.check_tag.result c.check_tag.ensures c.on_line.result c.on_line.ensures))

pub returns-in-Global : goal.returns-in-Global
returns-in-Global c =
    let one = item_of.Global c.in-Global.line c.in-Global.var c.in-Global.init c.in-Global.is_static in
    item_walks c.args.item.now one c.args.tables.now c.declaration.new.tables c.declaration.result c.in-Global.is
    (restated_at (of_declaration c.in-Global.line (phrases.InFile c.in-Global.is_static) c.in-Global.var c.in-Global.init) (of_item one) c.args.tables.now c.declaration.new.tables c.declaration.result refl refl c.declaration.ensures)

use Rattle.std.proofs.Common.{◌+◌, drop, sym, ap, ◌∙◌}
use Rattle.c_tree.specs.declared.raw.program.RawProgram.{RawProgram}
use Rattle.c_language.proofs.Turns.{drop_turn}
use Rattle.c_types_base.specs.Tables.{scope_of}
use Rattle.c_types_base.proofs.ListingLaws.{structs_more, placed}
use Rattle.c_types_program.proofs.ItemForms.{item_comes, items_turn, counted_on, outside_on, next_item, last_item, items_made, functions_made}
use Rattle.c_types_program.proofs.walk.Walk.items.Goals as goal

pub item-requires-clause-place : goal.item-requires-clause-place
item-requires-clause-place c =
    let list = c.args.list.now in
    let i = c.loop-item.item-index in
    placed c.loop-item.self.tables.raw.now list i (drop (i + 1) list) (c.requires.whole ∙ ap (λ (r : RawProgram). r.items) (sym c.loop-item.invariant.going.at.stands.text)) _ c.loop-item.invariant.counted
    c.item-item.result (drop_turn list i c.item-item.result c.loop-item-test.true c.item-item.is)

pub item-requires-clause-fits : goal.item-requires-clause-fits
item-requires-clause-fits c =
    item_comes c.item-item.result (next_item c.args.list.now c.loop-item.item-index c.item-item.result c.loop-item-test.true c.item-item.is c.loop-item.invariant.going)

pub loop-item-preserved : goal.loop-item-preserved
loop-item-preserved c =
    let list = c.args.list.now in
    let i = c.loop-item.item-index in
    let one = c.item-item.result in
    let next = next_item list i one c.loop-item-test.true c.item-item.is c.loop-item.invariant.going in
    let later = c.item.new.self in
    record {
      going = items_turn one next later c.in_ok-tree.tree c.push.new.self c.item.new.functions c.in_ok-tree.ensures.tree c.in_ok-push.ensures.ok c.in_ok-tree.ensures.function c.in_ok-tree.ensures.passes;
      counted =
          structs_more list i one (scope_of c.loop-item.self.tables).structs (scope_of later.tables).structs c.loop-item-test.true c.item-item.is c.loop-item.invariant.counted
          (counted_on one next later c.in_ok-tree.ensures.passes);
      outside = outside_on one next later c.in_ok-tree.ensures.passes c.loop-item.invariant.outside;
    }

pub returns-clause-items : goal.returns-clause-items
returns-clause-items c = items_made (last_item c.args.list.now c.loop-item.item-index c.loop-item-test.false c.loop-item.invariant.going)

pub returns-clause-functions : goal.returns-clause-functions
returns-clause-functions c = functions_made (last_item c.args.list.now c.loop-item.item-index c.loop-item-test.false c.loop-item.invariant.going)

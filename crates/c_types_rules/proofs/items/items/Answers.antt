use Rattle.std.proofs.Common.{ap, sym, ◌∙◌, ◌+◌, drop}
use Rattle.c_tree.specs.declared.raw.program.RawProgram.{RawProgram}
use Rattle.c_language.specs.Scopes.{Scope}
use Rattle.c_language.proofs.Turns.{drop_turn}
use Rattle.c_types_base.specs.Tables.{scope_of}
use Rattle.c_types_base.specs.Stretches.{then_comes, of_item, of_items}
use Rattle.c_types_rules.specs.Walks.{Walks}
use Rattle.c_types_base.proofs.TextSteps.{items_here}
use Rattle.c_types_base.proofs.ListingLaws.{item_outer, item_structs, structs_more, placed}
use Rattle.c_types_rules.proofs.WalkSteps.{left_same, turn, stops, passes_on}
use Rattle.c_types_rules.proofs.items.items.Goals as goal

pub item-requires-clause-place : goal.item-requires-clause-place
item-requires-clause-place c =
    let list = c.args.list.now in
    let i = c.loop-child.child-index in
    placed c.loop-child.tables.raw.now list i (drop (i + 1) list) (c.requires.whole ∙ ap (λ (r : RawProgram). r.items) (sym c.loop-child.invariant.passed.text)) _ c.loop-child.invariant.counted
    c.child-item.result (drop_turn list i c.child-item.result c.loop-child-test.true c.child-item.is)

pub returns-in_err-item : goal.returns-in_err-item
returns-in_err-item c =
    let whole = of_items c.args.list.now in
    let rest = of_items (drop (c.loop-child.child-index + 1) c.args.list.now) in
    passes_on (Walks whole c.args.tables.now c.item.new.tables) c.in_err-item.field-0.0 c.from_residual.result c.from_residual.ensures.1
    (stops whole c.args.tables.now c.loop-child.tables (of_item c.child-item.result) rest
    (left_same whole c.args.tables.now c.loop-child.tables (of_items (drop c.loop-child.child-index c.args.list.now)) (then_comes (of_item c.child-item.result) rest)
    (items_here c.args.list.now c.loop-child.child-index c.child-item.result c.args.tables.now.raw.now c.loop-child-test.true c.child-item.is) c.loop-child.invariant.passed)
    c.item.new.tables c.in_err-item.field-0.0 c.in_err-item.ensures)

pub loop-child-preserved : goal.loop-child-preserved
loop-child-preserved c =
    let whole = of_items c.args.list.now in
    let rest = of_items (drop (c.loop-child.child-index + 1) c.args.list.now) in
    let raw = c.loop-child.tables.raw.now in
    let scope = scope_of c.loop-child.tables in
    record {
      passed =
          turn whole c.args.tables.now c.loop-child.tables (of_item c.child-item.result) rest
          (left_same whole c.args.tables.now c.loop-child.tables (of_items (drop c.loop-child.child-index c.args.list.now)) (then_comes (of_item c.child-item.result) rest)
          (items_here c.args.list.now c.loop-child.child-index c.child-item.result c.args.tables.now.raw.now c.loop-child-test.true c.child-item.is) c.loop-child.invariant.passed)
          c.item.new.tables c.in_ok-item.ensures;
      counted =
          structs_more c.args.list.now c.loop-child.child-index c.child-item.result scope.structs (scope_of c.item.new.tables).structs c.loop-child-test.true c.child-item.is c.loop-child.invariant.counted
          (ap (λ (x : Scope). x.structs) c.in_ok-item.ensures.1.scope_is ∙ item_structs raw scope c.child-item.result);
      outside = ap (λ (x : Scope). x.outer) c.in_ok-item.ensures.1.scope_is ∙ (item_outer raw scope c.child-item.result ∙ c.loop-child.invariant.outside);
    }

use Rattle.std.proofs.Common.{ap, sym, ◌∙◌}
use Rattle.std.proofs.lemmas.List.{at_drop_all}
use Rattle.std.specs.Prelude.{option_and_then}
use Rattle.c_meaning.specs.Values.{as_type}
use Rattle.c_memory.specs.Scenes.{types_in, state_in}
use Rattle.c_memory.proofs.ListLemmas.{with_listed, listed_turn, listed_none, listed_end}
use Rattle.c_memory.proofs.lists.listed_values.Goals as goal

pub loop-item-preserved : goal.loop-item-preserved
loop-item-preserved c =
    listed_turn (types_in c.args.s) c.args.element.now (state_in c.args.s) c.loop-item.values.items c.push.new.self.items c.args.items.now c.loop-item.item-index c.item-item.result
    c.in-Some.given c.converted.result _ c.loop-item-test.true c.item-item.is
    (c.converted.ensures ∙ ap (option_and_then (as_type c.args.element.now)) c.in_ok-value.ensures) c.in-Some.is c.in_ok-push-in-Some.ensures.items c.loop-item.invariant

pub returns-in-None : goal.returns-in-None
returns-in-None c =
    listed_none (types_in c.args.s) c.args.element.now (state_in c.args.s) c.loop-item.values.items c.args.items.now c.loop-item.item-index c.item-item.result
    c.converted.result _ c.loop-item-test.true c.item-item.is
    (c.converted.ensures ∙ ap (option_and_then (as_type c.args.element.now)) c.in_ok-value.ensures) c.in-None.is c.loop-item.invariant

pub returns : goal.returns
returns c =
    listed_end (types_in c.args.s) c.args.element.now (state_in c.args.s) c.loop-item.values.items c.args.items.now _
    (sym (at_drop_all (with_listed (types_in c.args.s) c.args.element.now (state_in c.args.s) c.loop-item.values.items) c.args.items.now c.loop-item.item-index c.loop-item-test.false)
    ∙ c.loop-item.invariant)

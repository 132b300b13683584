use Rattle.std.proofs.Common.{None, Some, get_or, ap, ◌∙◌, arith}
use Rattle.std.proofs.lemmas.List.{get_or-set_same, get_or-set_other}
use Rattle.summary_edges.proofs.PartLaws.{past_none}
use Rattle.summary_edges.proofs.function_parts.note_place.Goals as goal

pub loop-places-preserved : goal.loop-places-preserved
loop-places-preserved c = λ f. ap (λ xs. get_or xs f None) c.in_ok-push.ensures.items ∙ past_none c.loop-places.places.items None f ∙ c.loop-places.invariant f

pub returns-clause-here : goal.returns-clause-here
returns-clause-here c =
    let ended = c.loop-places-test.false in
    let counted = c.len.ensures in
    get_or-set_same c.loop-places.places.items c.args.number (Some c.args.place) None (omega (arith, ended, counted))

pub returns-clause-others : goal.returns-clause-others
returns-clause-others c = λ f other. get_or-set_other c.loop-places.places.items c.args.number f (Some c.args.place) None other ∙ c.loop-places.invariant f

use Rattle.std.proofs.Common.{◌≡◌, ◌||◌, List, get_or, take, flat_map, sym, ap, ◌∙◌, subst, arith}
use Rattle.std.proofs.lemmas.List.{take_more, take_all}
use Rattle.dep_model.specs.declared.edge.Edge.{Edge}
use Rattle.dep_model.specs.declared.edge.Label.TheVariants.{Control}
use Rattle.matched_paths.specs.EdgeGroups.{group_at, calling}
use Rattle.summary_edges.specs.Agendas.{HoldsCall}
use Rattle.summary_edges.proofs.AgendaLaws.{function_read}
use Rattle.summary_edges.proofs.GoingOnLaws.{IsAnyOwn, own_none, own_more, own_call, call_own}
use Rattle.summary_edges.proofs.PartLaws.{first_inside}
use Rattle.summary_edges.proofs.worker.calls_itself.Goals as goal

abbrev none : Edge
none = record { from = 0; to = 0; label = Control }

pub loop-call-init : goal.loop-call-init
loop-call-init c = own_none c.args.part.range

pub loop-call-preserved : goal.loop-call-preserved
loop-call-preserved c =
    let es = c.of-calls.result.now in
    let n = c.loop-call.call-index in
    subst (λ (seen : List Edge). IsAnyOwn c.args.part.range seen (c.loop-call.found || c.has-more.result)) (sym (take_more es n none c.loop-call-test.true))
    (own_more c.args.part.range (take n es) (get_or es n none) c.loop-call.found c.has-more.result c.has-more.ensures c.loop-call.invariant)

pub returns : goal.returns
returns c = λ f part.
    let g = c.args.g.now in
    let is = part.part in
    let first = c.args.part.range.first in
    let es = c.of-calls.result.now in
    let n = c.loop-call.call-index in
    let ended = c.loop-call-test.false in
    let own = function_read c.as_slice.result.now g.vertices first _ is.whole.function c.as_slice.ensures ((is.whole.all first).1 (first_inside g c.args.part is)) in
    let calls : es ≡ flat_map (calling g.vertices is.whole.function) g.edges = c.of-calls.ensures ∙ ap (group_at c.args.index.now.calls) own ∙ c.requires.index.calls is.whole.function in
    let all = subst (λ (seen : List Edge). IsAnyOwn c.args.part.range seen c.loop-call.found) (take_all n es (omega (arith, ended))) c.loop-call.invariant in (
      λ up. (let q = all.exact.0 up in subst (λ k. HoldsCall g k k) part.function_is (own_call g c.requires.index.shaped c.args.part is es calls q.0 q.1 q.2)),
      λ h. all.exact.1 (call_own g c.requires.index.shaped c.args.part is es calls (subst (λ k. HoldsCall g k k) (sym part.function_is) h)),
    )

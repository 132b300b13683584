use Rattle.std.proofs.Common.{◌≡◌, ◌<◌, inl, inr, None, Some, [], ◌∷◌, length, length-append, get_or, slice_get, sym, ap, ◌∙◌, subst, arith, rules}
use Rattle.std.specs.Prelude.{slice_index, vec_len}
use Rattle.std.proofs.lemmas.List.{get_or_default}
use Rattle.std.proofs.lemmas.List.Elements.{All-get_or}
use Rattle.std.proofs.lemmas.Option.{same_Some, slice_get_within, slice_get-get_or}
use Rattle.summary_edges.specs.declared.function_parts.FunctionPart.{FunctionPart}
use Rattle.summary_edges.specs.FactMachine.{IsFunction}
use Rattle.summary_edges.specs.Workers.{IsPartOf}
use Rattle.summary_edges.proofs.PartLaws.{pushed_cases}
use Rattle.summary_edges.proofs.WorkLaws.{IsNumbered, numbered, number_below}
use Rattle.summary_edges.proofs.working.agenda_parts.Goals as goal
use Rattle.summary_edges.proofs.working.agenda_parts.Goals.{In-loop-function}

-- the function that is read, and its place
here : (c : In-loop-function) → c.loop-function.function-index < length c.args.t.now.agenda.now → IsNumbered c.args.t.now.graph.now c.args.parts.now (get_or c.args.t.now.agenda.now c.loop-function.function-index 0)
here c low = numbered c.args.t.now.graph.now c.args.parts.now c.requires.parts _ (All-get_or (IsFunction c.args.t.now.graph.now) c.args.t.now.agenda.now c.loop-function.function-index 0 low c.args.t.now.functions)

pub index-noted-requires : goal.index-noted-requires
index-noted-requires c =
    let q = here (goal.at.index-noted-requires c).In-loop-function c.loop-function-test.true in
    let low = number_below c.args.parts.now.of_number.items _ q.place q.number_is in
    let size : vec_len c.args.parts.now.of_number ≡ length c.args.parts.now.of_number.items = search rules in
    omega (arith, low, size)

pub unreachable-requires : goal.unreachable-requires
unreachable-requires c =
    let q = here (goal.at.unreachable-requires c).In-loop-function c.loop-function-test.true in
    let xs = c.args.parts.now.of_number.items in
    let f = get_or c.args.t.now.agenda.now c.loop-function.function-index 0 in
    let low = number_below xs f q.place q.number_is in
    let bad : None ≡ Some q.place = sym c.in_default.is ∙ c.index-noted.ensures ∙ get_or_default xs f c.index-noted.result.now None low ∙ q.number_is in
    absurd cc

pub index-part-requires : goal.index-part-requires
index-part-requires c =
    let q = here (goal.at.index-part-requires c).In-loop-function c.loop-function-test.true in
    let xs = c.args.parts.now.of_number.items in
    let f = get_or c.args.t.now.agenda.now c.loop-function.function-index 0 in
    let low = number_below xs f q.place q.number_is in
    let same : c.in-Some.place ≡ q.place = same_Some _ _ (sym c.in-Some.is ∙ c.index-noted.ensures ∙ get_or_default xs f c.index-noted.result.now None low ∙ q.number_is) in
    let inside = slice_get_within c.args.parts.now.list.items q.place q.part q.at in
    let size : vec_len c.args.parts.now.list ≡ length c.args.parts.now.list.items = search rules in
    omega (arith, same, inside, size)

pub loop-function-preserved : goal.loop-function-preserved
loop-function-preserved c =
    let q = here (goal.at.loop-function-preserved c).In-loop-function c.loop-function-test.true in
    let g = c.args.t.now.graph.now in
    let agenda = c.args.t.now.agenda.now in
    let n = c.loop-function.function-index in
    let inv = c.loop-function.invariant in
    let old = c.loop-function.list.items in
    let list = c.args.parts.now.list.items in
    let part = c.index-part.result.now in
    let xs = c.args.parts.now.of_number.items in
    let f = get_or agenda n 0 in
    let low = number_below xs f q.place q.number_is in
    let same : c.in-Some.place ≡ q.place = same_Some _ _ (sym c.in-Some.is ∙ c.index-noted.ensures ∙ get_or_default xs f c.index-noted.result.now None low ∙ q.number_is) in
    let inside = slice_get_within list q.place q.part q.at in
    let at : slice_get list c.in-Some.place ≡ Some part = slice_get-get_or list c.in-Some.place part (omega (arith, same, inside)) ∙ ap Some (sym c.index-part.ensures) in
    let part_is : q.part ≡ part = same_Some _ _ (sym q.at ∙ ap (slice_get list) (sym same) ∙ at) in
    let is : IsPartOf g (slice_index agenda n) part = subst (λ (x : FunctionPart). IsPartOf g (slice_index agenda n) x) part_is q.is in
    let items = c.in_ok-push.ensures.items in
    let count = inv.long in
    let longer = length-append old (part ∷ []) in
    let long = ap length items in
    record {
      long = omega (arith, count, longer, long);
      each = λ k p place. elim (pushed_cases old part p k (subst (λ ps. slice_get ps k ≡ Some p) items place)) [
        | inl was ↦ inv.each k p was
        | inr new ↦ (let here_is : k ≡ n = new.0 ∙ count in subst (λ (x : FunctionPart). IsPartOf g (slice_index agenda k) x) new.1 (subst (λ j. IsPartOf g (slice_index agenda j) part) (sym here_is) is))
      ];
    }

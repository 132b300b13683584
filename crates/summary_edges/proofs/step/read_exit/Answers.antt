use Rattle.std.proofs.Common.{◌≡◌, ◌+◌, List, Some, get_or, slice_get, sym, ap, ◌∙◌, arith}
use Rattle.std.proofs.lemmas.Bool.{false≢true}
use Rattle.std.proofs.lemmas.Option.{slice_get-get_or}
use Rattle.dep_model.specs.declared.graph.OutRow.{OutRow}
use Rattle.summary_edges.specs.Steps.{IsReadAt}
use Rattle.summary_edges.proofs.FillLaws.{number_below}
use Rattle.summary_edges.proofs.PartLaws.{own_row}
use Rattle.summary_edges.proofs.StepLaws.{added_none, added_as, formals_of, exit_is}
use Rattle.summary_edges.proofs.step.read_exit.Goals as goal
use Rattle.summary_edges.proofs.step.read_exit.Goals.{After-has}

abbrev d : OutRow
d = record { vertex = 0; word = 0 }

-- the row that is read
at : (c : After-has) → slice_get c.args.g.now.outs (c.args.part.first_row + c.args.exit) ≡ Some (get_or c.as_slice.result.now (c.args.part.first_row + c.args.exit) d)
at c =
    let k = c.args.part.first_row + c.args.exit in
    let few = c.requires.exit in
    let inside = c.requires.part.rows_inside in
    slice_get-get_or c.args.g.now.outs k d (omega (arith, few, inside)) ∙ ap (λ (os : List OutRow). Some (get_or os k d)) (sym c.as_slice.ensures)

pub has-requires-clause-row_in : goal.has-requires-clause-row_in
has-requires-clause-row_in c = number_below c.args.part.range c.args.formal_in _ c.requires.in_in c.requires.room.vertices

pub add_fact-requires-clause-out_in : goal.add_fact-requires-clause-out_in
add_fact-requires-clause-out_in c =
    let few = c.requires.exit in
    own_row c.args.g.now c.requires.index.shaped.rows_are c.args.part c.requires.part (c.args.part.first_row + c.args.exit) _ (at (goal.at.add_fact-requires-clause-out_in c).After-has) (omega arith) (omega (arith, few))

pub add_fact-requires-clause-formals : goal.add_fact-requires-clause-formals
add_fact-requires-clause-formals c =
    let few = c.requires.exit in (
      c.requires.part.whole.function,
      formals_of c.args.g.now c.requires.index.shaped.rows_are c.args.part c.requires.part c.args.formal_in (c.args.part.first_row + c.args.exit) _ c.requires.in_in c.requires.kind
          (at (goal.at.add_fact-requires-clause-formals c).After-has) (omega arith) (omega (arith, few)),
    )

pub returns-then-has : goal.returns-then-has
returns-then-has c =
    let g = c.args.g.now in
    let p = c.args.part in
    let x = c.args.table.now in
    let held = sym c.has.ensures ∙ c.if-has.true in
    let same = exit_is g c.requires.index.shaped.rows_are p c.requires.part c.args.exit _ (at (goal.at.returns-then-has c).After-has) in
    added_as g p _ (IsReadAt g p x c.args.formal_in c.args.exit) c.args.words.now c.add_fact.new.words c.add_fact.result
    (λ a b. (
      λ h. record { from = h.0; to = h.1 ∙ sym same; reached = held },
      λ r. (r.from, r.to ∙ same),
    )) c.add_fact.ensures

pub returns-else-has : goal.returns-else-has
returns-else-has c =
    let g = c.args.g.now in
    let p = c.args.part in
    added_none g p (IsReadAt g p c.args.table.now c.args.formal_in c.args.exit) c.args.words.now (λ a b r. false≢true (sym (sym c.has.ensures ∙ c.if-has.false) ∙ r.reached))

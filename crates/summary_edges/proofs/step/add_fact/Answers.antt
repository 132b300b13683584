use Rattle.std.proofs.Common.{sym, ◌∙◌, arith}
use Rattle.std.proofs.lemmas.Option.{slice_get_within}
use Rattle.summary_edges.proofs.StepLaws.{fact_room, fact_adds, fact_there}
use Rattle.summary_edges.proofs.step.add_fact.Goals as goal

pub holds-requires-clause-in_range : goal.holds-requires-clause-in_range
holds-requires-clause-in_range c =
    let low = slice_get_within c.args.g.now.vertices c.args.formal_in _ c.requires.formals.1.goes_in in
    let long = c.requires.index.places.numbers_long in
    omega (arith, low, long)

pub holds-requires-clause-out_range : goal.holds-requires-clause-out_range
holds-requires-clause-out_range c =
    let low = slice_get_within c.args.g.now.vertices c.args.formal_out _ c.requires.formals.1.comes_out in
    let long = c.requires.index.places.rows_long in
    omega (arith, low, long)

pub returns-then-holds : goal.returns-then-holds
returns-then-holds c =
    fact_there c.args.g.now c.args.index.now.places c.requires.index.shaped.rows_are c.requires.index.places c.args.part c.requires.part c.requires.formals.0 c.args.formal_in c.args.formal_out c.requires.formals.1 c.requires.out_in
    c.args.words.now (sym c.holds.ensures ∙ c.if-holds.true)

pub set-requires-clause-in_range : goal.set-requires-clause-in_range
set-requires-clause-in_range c =
    let low = slice_get_within c.args.g.now.vertices c.args.formal_in _ c.requires.formals.1.goes_in in
    let long = c.requires.index.places.numbers_long in
    omega (arith, low, long)

pub set-requires-clause-out_range : goal.set-requires-clause-out_range
set-requires-clause-out_range c =
    let low = slice_get_within c.args.g.now.vertices c.args.formal_out _ c.requires.formals.1.comes_out in
    let long = c.requires.index.places.rows_long in
    omega (arith, low, long)

pub set-requires-clause-room : goal.set-requires-clause-room
set-requires-clause-room c =
    fact_room c.args.g.now c.args.index.now.places c.requires.index.shaped.rows_are c.requires.index.places c.args.part c.requires.part c.requires.formals.0 c.args.formal_in c.args.formal_out c.requires.formals.1 c.requires.out_in
    c.args.words.now c.requires.long

pub returns : goal.returns
returns c =
    fact_adds c.args.g.now c.args.index.now.places c.requires.index.shaped.rows_are c.requires.index.places c.args.part c.requires.part c.requires.formals.0 c.args.formal_in c.args.formal_out c.requires.formals.1 c.requires.out_in
    c.args.words.now c.set.new.words c.requires.long c.set.ensures.size c.set.ensures.exact (sym c.holds.ensures ∙ c.if-holds.false) c.set.ensures.others

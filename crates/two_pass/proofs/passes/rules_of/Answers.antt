use Rattle.two_pass.proofs.RuleLaws.{ends_within, rules_are}
use Rattle.two_pass.proofs.passes.rules_of.Goals as goal

pub along_edges-requires-clause-ends : goal.along_edges-requires-clause-ends
along_edges-requires-clause-ends c = rw (c.as_slice.ensures, c.requires.size) (ends_within c.args.g.now c.requires.shaped)

pub over_calls-requires-clause-ends : goal.over_calls-requires-clause-ends
over_calls-requires-clause-ends c = rw (c.as_slice-2.ensures, c.requires.size) (ends_within c.args.g.now c.requires.shaped)

pub returns : goal.returns
returns c =
    rw (c.in_ok-over_calls.ensures, c.in_ok-along_edges.ensures, c.in_ok-rules.ensures, c.as_slice.ensures, c.as_slice-2.ensures, c.as_slice-3.ensures, c.requires.size)
    (rules_are c.args.g.now c.args.f.now.words c.in_ok-places.places c.requires.shaped c.in_ok-places.ensures)

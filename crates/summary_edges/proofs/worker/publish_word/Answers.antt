use Rattle.std.proofs.Common.{◌+◌, ◌*◌, arith}
use Rattle.crew.specs.Seats.{view}
use Rattle.crew.proofs.BitLemmas.{low_place}
use Rattle.summary_edges.proofs.WorkerLaws.{put_learned, may_of_truth}
use Rattle.summary_edges.proofs.worker.publish_word.Goals as goal

pub publish-requires-clause-word : goal.publish-requires-clause-word
publish-requires-clause-word c = let long = c.requires.opened.long in let inside = c.requires.inside in omega (arith, long, inside)

pub publish-requires-clause-may_put : goal.publish-requires-clause-may_put
publish-requires-clause-may_put c = λ u i is b.
    may_of_truth c.args.t.now u (view c.args.seat.now) (64 * c.args.word + i) c.requires.opened is (c.requires.may i (low_place c.args.bits i c.ranges.bits.fits b) b)

pub returns-then-bits-ne0-clause-learned : goal.returns-then-bits-ne0-clause-learned
returns-then-bits-ne0-clause-learned c =
    let e = c.publish.ensures in
    put_learned (view c.args.seat.now) (view c.publish.new.seat) c.args.word c.args.bits e.answer.0 e.answer.3 e.keeps

use Rattle.std.proofs.Common.{ℕ, List, get_or, Contains, sym, subst, arith}
use Rattle.reaching_defs.proofs.ArrivalLemmas.{AreLeftRows, rows_left_begin}
use Rattle.reaching_defs.proofs.ListingLemmas.{at_place}
use Rattle.reaching_defs.proofs.arrivals.Arrivals.clear.Goals as goal

pub loop-w-init : goal.loop-w-init
loop-w-init c = record {
  sized = c.requires.roomy.sized;
  left = subst (λ (x : List ℕ). AreLeftRows x 0 c.args.self.now.rows) (sym c.members-reached.ensures.all) (rows_left_begin c.args.self.now.reached.members c.args.self.now.rows c.requires.listed);
}

pub clear-requires : goal.clear-requires
clear-requires c =
    let reached = c.members-reached.result.now in
    let u = get_or reached c.loop-w.w-index 0 in
    let m : Contains c.args.self.now.reached.members u = subst (λ (x : List ℕ). Contains x u) c.members-reached.ensures.all (at_place reached c.loop-w.w-index c.loop-w-test.true) in
    let low = c.members-reached.ensures.below u m in
    omega (arith, low, c.loop-w.invariant.sized.rows_are)

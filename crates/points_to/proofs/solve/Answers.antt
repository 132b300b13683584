use Rattle.std.proofs.Common.{length, map, sym, ap, ◌∙◌, subst}
use Rattle.dep_model.proofs.LocationsOnce.{listed_once}
use Rattle.numbered_texts.proofs.NumbersButLines.{statements_numbered}
use Rattle.points_laws.specs.Known.{HasKnownSides}
use Rattle.points_laws.proofs.KnownSides.{sides_known}
use Rattle.points_to.specs.Moves.{told, AreMoves}
use Rattle.points_to.proofs.MoveLemmas.{are_moves}
use Rattle.points_to.proofs.RoundLemmas.{stated}
use Rattle.points_to.proofs.solve.Goals as goal

pub new-requires-clause-once : goal.new-requires-clause-once
new-requires-clause-once c = listed_once c.args.p.now (statements_numbered c.args.p.now c.requires.well_formed)

pub new-requires-2-clause-once : goal.new-requires-2-clause-once
new-requires-2-clause-once c = listed_once c.args.p.now (statements_numbered c.args.p.now c.requires.well_formed)

pub settle-requires-clause-known : goal.settle-requires-clause-known
settle-requires-clause-known c = subst HasKnownSides (sym c.in_ok-solver.ensures.program) (sides_known c.args.p.now c.requires.well_formed)

pub settle-requires-clause-moves : goal.settle-requires-clause-moves
settle-requires-clause-moves c =
    let p = c.args.p.now in
    subst (λ q. AreMoves q c.as_slice.result.now) (sym c.in_ok-solver.ensures.program) (are_moves p c.as_slice.result.now (length p.functions) (ap (map told) c.as_slice.ensures.value ∙ c.in_ok-moves.ensures) (λ f d k. stated p p.functions f d k))

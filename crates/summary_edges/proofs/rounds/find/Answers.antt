use Rattle.std.proofs.Common.{refl, sym, subst}
use Rattle.dep_model.specs.Facts.{AreTrueFacts}
use Rattle.summary_edges.specs.Rounds.{AreSound}
use Rattle.summary_edges.proofs.RoundLaws.{none_held, settling_begins}
use Rattle.summary_edges.proofs.rounds.find.Goals as goal
use Rattle.summary_edges.proofs.rounds.find.Goals.{In_ok-none}

sound : (g : _) (c : In_ok-none g) → AreSound c.args.g.now c.in_ok-none.none.items
sound g c = subst (AreSound c.args.g.now) (sym (c.in_ok-none.ensures.items_if_clones_equal (λ y h. h))) (none_held c.args.g.now c.args.g.now.fact_words refl)

pub settle-requires-clause-functions : goal.settle-requires-clause-functions
settle-requires-clause-functions g c κs within =
    (settling_begins c.args.g.now c.in_ok-agenda.agenda.items c.in_ok-none.none.items c.in_ok-agenda.ensures (sound g (goal.at.settle-requires-clause-functions g c).In_ok-none)).functions

pub settle-requires-clause-ascending : goal.settle-requires-clause-ascending
settle-requires-clause-ascending g c κs within = c.in_ok-agenda.ensures.ascending

pub settle-requires-clause-sound : goal.settle-requires-clause-sound
settle-requires-clause-sound g c κs within = sound g (goal.at.settle-requires-clause-sound g c).In_ok-none

pub settle-requires-clause-others : goal.settle-requires-clause-others
settle-requires-clause-others g c κs within =
    (settling_begins c.args.g.now c.in_ok-agenda.agenda.items c.in_ok-none.none.items c.in_ok-agenda.ensures (sound g (goal.at.settle-requires-clause-others g c).In_ok-none)).others

pub returns : goal.returns
returns g c = record { exact = subst (AreTrueFacts c.args.g.now) (sym c.from_vec.ensures) c.in_ok-words.ensures.exact }

use Rattle.std.proofs.Common.{sym, subst}
use Rattle.crew.specs.Seats.{id_of}
use Rattle.summary_edges.specs.Teams.{IsTakenUp}
use Rattle.summary_edges.proofs.TeamLaws.{handed_back, parts_same}
use Rattle.summary_edges.proofs.team.run_team.Goals as goal

pub run_all-requires-clause-takes : goal.run_all-requires-clause-takes
run_all-requires-clause-takes g c κs within = λ i s low is. subst (IsTakenUp c.args.truth.now (id_of c.args.board.now)) (sym is) (c.requires.taken i s low)

pub returns-clause-parts : goal.returns-clause-parts
returns-clause-parts g c = parts_same c.args.truth.now c.args.seats.items c.in_ok-all.all.items c.in_ok-all.ensures.len c.in_ok-all.ensures.each

pub returns-clause-each : goal.returns-clause-each
returns-clause-each g c = λ first fresh. handed_back c.args.truth.now first c.args.seats.items c.in_ok-all.all.items c.in_ok-all.ensures.len c.in_ok-all.ensures.each fresh

use Rattle.std.proofs.Common.{◌<◌, [], length, sym, subst, arith}
use Rattle.crew.specs.Seats.{id_of}
use Rattle.slice_batch.specs.Team.{IsFresh}
use Rattle.slice_batch.proofs.Seats.{parts_same}
use mir.Syntax.{named}
use denote.Param.{param}
use Rattle.slice_batch.proofs.Shared.{captured_sync}
use Rattle.slice_batch.proofs.team.run_team.Goals as goal

pub team_map-requires-sync-F : goal.team_map-requires-sync-F
team_map-requires-sync-F g c κs within = record {
  shared = λ x b o κ. (captured_sync [] (named 6) (named 7) (named 8) (named 9) (named 10)
      κs.1.1.1.1.1.1.0 κs.1.1.1.1.1.1.1.0 κs.1.1.1.1.1.1.1.1.0 κs.1.1.1.1.1.1.1.1.1.0 κs.1.1.1.1.1.1.1.1.1.1.0
      (param 1 g.row.G) c.type_bounds.sync-G).shared x b o κ;
}

pub team_map-requires-clause-accepts : goal.team_map-requires-clause-accepts
team_map-requires-clause-accepts g c κs within = λ i s low is.
    (c.requires.starts, subst (IsFresh (id_of c.args.board.now) (length c.args.list.now)) (sym is) (c.requires.fresh i s low))

pub returns-clause-parts : goal.returns-clause-parts
returns-clause-parts g c =
    parts_same c.args.seats.items c.in_ok-all.all.items c.in_ok-all.ensures.len (λ i d low. let r = c.in_ok-all.ensures.each i d low in (r.0, r.1, r.2.1))

pub returns-clause-each : goal.returns-clause-each
returns-clause-each g c = λ i d low.
    let inside : i < length c.args.seats.items = omega (arith, low, c.in_ok-all.ensures.len) in
    (c.in_ok-all.ensures.each i d inside).2.0

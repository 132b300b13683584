use Rattle.std.proofs.Common.{ap, ◌∙◌, refl}
use Rattle.c_tree.specs.declared.program.Program.{Program}
use Rattle.dep_model.specs.LocationRows.{points_of}
use Rattle.effect_rows.specs.Gains.{with_places}
use Rattle.effect_rows.specs.Own.{own_uses}
use Rattle.mod_ref.proofs.AddedLemmas.{alone_added}
use Rattle.mod_ref.proofs.own.Own.alone.Goals as goal

pub returns : goal.returns
returns c =
    let w = c.args.self.now in
    let s = c.args.statement.now in
    let d = c.add_defines.ensures in
    let u = c.add_uses.ensures in
    alone_added c.args.f s c.callee.result w _ c.call.new.self c.requires.rows c.requires.f_in (record {
      program_is = u.kept ∙ d.kept;
      points_is = refl;
      functions_is = refl;
      calls_is = refl;
      modified_is = d.gained;
      used_is = u.gained ∙ ap (λ (q : Program). with_places q c.args.f (own_uses q (points_of q w.points.now) s) w.used) d.kept;
    }) c.callee.ensures c.in_ok-call.ensures

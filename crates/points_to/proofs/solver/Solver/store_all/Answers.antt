use Rattle.std.proofs.Common.{[], ◌∙◌, refl, sym, ap, subst, arith}
use Rattle.std.proofs.lemmas.List.{take_all}
use Rattle.effect_rows.specs.Gains.{row_of}
use Rattle.points_to.specs.Sweeps.{standing, IsSwept, stored}
use Rattle.points_to.proofs.SweepLemmas.{swept_none}
use Rattle.points_to.proofs.ValueLemmas.{stored_turn}
use Rattle.points_to.proofs.solver.Solver.store_all.Goals as goal

pub loop-value-init : goal.loop-value-init
loop-value-init c =
    let w = c.args.self.now in
    record {
      ready = c.requires.ready;
      program = refl;
      left = refl;
      swept = λ into h. swept_none w.effects (stored w.effects into []) (standing w) w c.requires.ready refl refl (λ points. refl);
    }

pub loop-value-preserved : goal.loop-value-preserved
loop-value-preserved c =
    let w = c.args.self.now in
    let i = c.loop-value.invariant in
    let e = c.store-more.ensures in
    record {
      ready = e.ready;
      program = e.program ∙ i.program;
      left = e.left ∙ i.left;
      swept = λ into h. stored_turn w.effects into c.args.values.now c.loop-value.value-index c.value-item.result (standing w) c.loop-value.self c.store-more.new.self c.loop-value.changed c.store-more.result c.loop-value-test.true c.value-item.is (i.swept into h)
          (e.used into (i.left ∙ h ∙ ap (λ q. row_of q into) (sym i.program)));
    }

pub returns : goal.returns
returns c = λ into h.
    let w = c.args.self.now in
    let l = c.loop-value in
    let end = c.loop-value-test.false in
    subst (λ es. IsSwept w.effects (stored w.effects into es) (standing w) l.self l.changed) (take_all l.value-index c.args.values.now (omega (arith, end))) (l.invariant.swept into h)

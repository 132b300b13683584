-- Where rows grow, what has read them isn't settled any longer.
use Rattle.std.proofs.Common.{◌≡◌, refl, sym, ap, ap₂, ◌∙◌, subst}
use Rattle.bit_rows.specs.Tables.{Table, Holds}
use Rattle.dep_model.specs.declared.points_to.PointsTo.{PointsTo}
use Rattle.points_to.specs.declared.agenda.Agenda.{Agenda}
use Rattle.points_to.specs.declared.solver.Solver.{Solver}
use Rattle.points_to.specs.Sweeps.{Standing, standing, IsTold}

pub same_standing : (old new : Solver) → new.points ≡ old.points → new.agenda ≡ old.agenda → standing new ≡ standing old
same_standing old new points agenda = ap₂ {C = Standing} (λ (t : PointsTo) (a : Agenda). record { points = t; agenda = a }) points agenda

pub told_none : (old : Standing) (new : Solver) → standing new ≡ old → IsTold old new
told_none old new same = subst (λ (s : Standing). IsTold s new) same (record { readers_stay = refl; told = λ k h. (h, λ j r. refl) })

pub told_both : (old : Standing) (mid new : Solver) → IsTold old mid → IsTold (standing mid) new → IsTold old new
told_both old mid new one two = record {
  readers_stay = two.readers_stay ∙ one.readers_stay;
  told = λ k h.
      let w = two.told k h in
      let v = one.told k w.0 in
      (v.0, λ j r. w.1 j (subst (λ (t : Table). Holds t j k) (sym one.readers_stay) r) ∙ v.1 j r);
}

use Rattle.std.proofs.Common.{◌≡◌, true, false, sym, ◌∙◌, arith}
use Rattle.std.proofs.lemmas.Bool.Decides.{Decides-eqb}
use Rattle.dep_model.specs.Groups.{is_at}
use Rattle.dep_model.proofs.Stretching.{least_more}
use Rattle.dep_model.proofs.groups.least_statement.Goals.{in-Some, in_default}
use Rattle.dep_model.proofs.groups.least_statement.Goals as goal

pub loop-number-init : goal.loop-number-init
loop-number-init c = λ v x i from to at is. absurd (omega (arith, from, to))

pub loop-number-preserved : goal.loop-number-preserved
loop-number-preserved c = elim c.match-statement_of.branch [
  | in-Some w ↦
      let now = w.least-is in
      let least = w.min-least.ensures in
      least_more c.args.vertices.now c.args.stretch.first (is_at c.args.actuals) c.loop-number.number c.loop-number.least c.match-statement_of.least c.loop-number.invariant
      (omega (arith, now, least))
      (λ i is. let same : w.in-Some.id ≡ i = (Decides-eqb w.in-Some.id i).0 (sym (w.in-Some.ensures i) ∙ is) in omega (arith, now, least, same))
  | in_default w ↦
      let now = w.least-is in
      least_more c.args.vertices.now c.args.stretch.first (is_at c.args.actuals) c.loop-number.number c.loop-number.least c.match-statement_of.least c.loop-number.invariant
      (omega (arith, now))
      (λ i is. let none : false ≡ true = sym (w.in_default.ensures i) ∙ is in absurd cc)
]

pub returns : goal.returns
returns c = λ v x i within at is.
    let end = c.loop-number-test.false in
    let high = within.1 in
    c.loop-number.invariant v x i within.0 (omega (arith, end, high)) at is

use Rattle.std.proofs.Common.{ℤ, [], ◌∷◌, Some, SFits, sym, ap, ◌∙◌, subst, rules}
use Rattle.c_machine.specs.Runs.{Tested}
use Rattle.std.specs.Int.{w128}
use Rattle.std.proofs.lemmas.Int.{to_z-of_z}
use Rattle.c_meaning.specs.declared.event.Shown.TheVariants as shown
use Rattle.c_machine.proofs.RunLemmas.{tested_so, tested_not}
use Rattle.c_machine.proofs.runs.Run.test.Goals as goal

pub returns-in_ok-tell-in-Some : goal.returns-in_ok-tell-in-Some
returns-in_ok-tell-in-Some c =
    λ p before x h.
    let fits : SFits w128 c.in-Some.value = search rules in
    let same = to_z-of_z w128 c.in-Some.value fits in
    subst (λ (v : ℤ). Tested p before c.args.id c.args.test.now (Some v) (record c.args.self.now { trace = c.tell.new.self }) x) (sym same)
    (tested_so p before c.args.self.now c.tell.new.self x c.scene.result c.args.id c.args.test.now c.in-Some.value c.in_ok-values-in-Some.values h c.scene.ensures.program c.scene.ensures.frame c.scene.ensures.memory
    (sym c.in-Some.is ∙ c.in_ok-value.ensures) (c.in_ok-values-in-Some.ensures ∙ ap (λ (z : ℤ). shown.Number z ∷ []) same) c.in_ok-tell-in-Some.ensures.events c.in_ok-tell-in-Some.ensures.output c.in_ok-tell-in-Some.ensures.watched)

pub returns-in-None : goal.returns-in-None
returns-in-None c =
    λ p before x h.
    tested_not p before c.args.self.now x c.scene.result c.args.id c.args.test.now h c.scene.ensures.program c.scene.ensures.frame c.scene.ensures.memory (sym c.in-None.is ∙ c.in_ok-value.ensures)

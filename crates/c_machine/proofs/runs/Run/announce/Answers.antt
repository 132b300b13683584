use Rattle.std.proofs.Common.{[], refl, sym, subst}
use Rattle.c_tree.specs.declared.statement.Target.{Target}
use Rattle.c_meaning.specs.Acts.{shows}
use Rattle.c_meaning.specs.Meaning.{announced, told}
use Rattle.c_machine.specs.Runs.{IsAt}
use Rattle.c_machine.proofs.RunLemmas.{at_trace}
use Rattle.c_machine.proofs.TraceLemmas.{told_more}
use Rattle.c_machine.proofs.runs.Run.announce.Goals as goal

pub returns-in_ok-tell-in-None : goal.returns-in_ok-tell-in-None
returns-in_ok-tell-in-None c =
    λ p before x h.
    subst (λ (to : Target). IsAt p before (record c.args.self.now { trace = c.tell.new.self }) (record x { trace = announced c.args.id to x.trace })) (sym c.in-None.is)
    (at_trace p before c.args.self.now c.tell.new.self x (told c.args.id (shows [] []) x.trace)
    (told_more before c.args.id c.new.result [] (shows [] []) c.args.self.now.trace c.tell.new.self x.trace c.new.ensures refl c.in_ok-tell-in-None.ensures.events c.in_ok-tell-in-None.ensures.output c.in_ok-tell-in-None.ensures.watched h.trace) h)

pub returns-in-Place : goal.returns-in-Place
returns-in-Place c =
    λ p before x h. subst (λ (to : Target). IsAt p before c.args.self.now (record x { trace = announced c.args.id to x.trace })) (sym c.in-Place.is) h

pub returns-in-Declared : goal.returns-in-Declared
returns-in-Declared c =
    λ p before x h. subst (λ (to : Target). IsAt p before c.args.self.now (record x { trace = announced c.args.id to x.trace })) (sym c.in-Declared.is) h

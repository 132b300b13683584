use Rattle.std.proofs.Common.{sym, ◌∙◌}
use Rattle.std.proofs.lemmas.Bool.{false≢true}
use Rattle.points_to.proofs.NotedLemmas.{set_sized, set_here, set_kept}
use Rattle.points_to.proofs.agenda.Agenda.note_at.Goals as goal

pub returns-then-has-clause-kept : goal.returns-then-has-clause-kept
returns-then-has-clause-kept c = set_kept c.args.place c.args.k _ _ c.args.self.now.readers c.set.new.self c.requires.place_in c.requires.inside c.requires.sized c.set.ensures.added

pub returns-then-has-clause-noted : goal.returns-then-has-clause-noted
returns-then-has-clause-noted c = λ h. set_here c.args.place c.args.k _ _ c.args.self.now.readers c.set.new.self c.requires.place_in c.requires.inside c.requires.sized c.set.ensures.added

pub returns-then-has-clause-sized : goal.returns-then-has-clause-sized
returns-then-has-clause-sized c = set_sized c.args.place c.args.k _ _ c.args.self.now.readers c.set.new.self c.requires.place_in c.requires.inside c.requires.sized c.set.ensures.added

pub returns-else-has-clause-noted : goal.returns-else-has-clause-noted
returns-else-has-clause-noted c = λ h. absurd (false≢true (sym (sym c.has.ensures ∙ c.if-has.false) ∙ h))

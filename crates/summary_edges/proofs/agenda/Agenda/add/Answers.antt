use Rattle.std.proofs.Common.{length, refl}
use Rattle.std.proofs.lemmas.List.{length-set}
use Rattle.summary_edges.proofs.AgendaLaws.{set_mark, place_added}
use Rattle.summary_edges.proofs.agenda.Agenda.add.Goals as goal

pub returns-in_ok-push-clause-agenda : goal.returns-in_ok-push-clause-agenda
returns-in_ok-push-clause-agenda c =
    (place_added (length c.args.self.now.marks.items) c.args.place c.args.self.now c.requires.agenda c.requires.inside _ c.in_ok-push.ensures.items refl (length-set c.args.self.now.marks.items _ _)).0

pub returns-in_ok-push-clause-added : goal.returns-in_ok-push-clause-added
returns-in_ok-push-clause-added c = set_mark (length c.args.self.now.marks.items) c.args.place c.args.self.now c.requires.agenda c.requires.inside

use Rattle.std.proofs.Common.{sym, ◌∙◌}
use Rattle.c_types_program.proofs.ItemForms.{tag_given}
use Rattle.c_types_program.proofs.walk.Walk.tag.Goals as goal

pub unreachable-requires : goal.unreachable-requires
unreachable-requires c = tag_given c.args.self.now c.requires.right c.args.line c.args.name.now c.requires.fits (sym c.struct_id.ensures ∙ c.in-None.is)

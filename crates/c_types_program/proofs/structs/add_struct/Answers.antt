use Rattle.std.proofs.Common.{sym, ap, ◌∙◌}
use Rattle.c_tree.specs.declared.raw.program.RawItem.TheVariants as item_of
use Rattle.c_types_program.specs.Items.{AddsStruct}
use Rattle.c_types_program.proofs.StructSteps.{passes_stop, own_members, stops_struct}
use Rattle.c_types_program.proofs.structs.add_struct.Goals as goal

pub struct_tree-requires-clause-kept : goal.struct_tree-requires-clause-kept
struct_tree-requires-clause-kept c =
    own_members c.args.defined.now.raw.now c.args.item.now c.in-Struct.line c.in-Struct.name c.as_slice.result.now (c.in-Struct.is ∙ ap (item_of.Struct c.in-Struct.line c.in-Struct.name) (sym c.as_slice.ensures)) c.requires.kept

pub returns-in_err-tree-in-Struct : goal.returns-in_err-tree-in-Struct
returns-in_err-tree-in-Struct c =
    passes_stop (AddsStruct c.args.defined.now.raw.now c.args.item.now c.args.made.now c.args.made.now) c.in_err-tree-in-Struct.field-0.0 c.from_residual.result c.from_residual.ensures.1
    (stops_struct c.args.defined.now.raw.now c.args.item.now c.in-Struct.line c.in-Struct.name c.as_slice.result.now (c.in-Struct.is ∙ ap (item_of.Struct c.in-Struct.line c.in-Struct.name) (sym c.as_slice.ensures)) c.args.made.now c.args.made.now
    c.in_err-tree-in-Struct.field-0.0 c.in_err-tree-in-Struct.ensures)

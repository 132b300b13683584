use Rattle.c_types_program.specs.declared.walk.Walk.{Walk}
use Rattle.c_types_program.specs.Items.{MakesProgram}
use Rattle.c_types_program.proofs.FormedText.{text_fits}
use Rattle.c_types_program.proofs.ProgramSteps.{walk_fits, program_long, walk_structs, structs_stop_all, walk_makes}
use Rattle.c_types_program.proofs.StructSteps.{passes_stop}
use Rattle.c_types_program.proofs.program.make_program.Goals as goal

pub items-requires-clause-fits : goal.items-requires-clause-fits
items-requires-clause-fits c =
    let raw = c.args.raw.now in
    let w : Walk = record { tables = c.in_ok-tables.tables; variables = c.new-variables.result } in
    walk_fits raw w c.in_ok-tables.ensures.text c.in_ok-tables.ensures.scope c.as_slice.result.now c.as_slice.ensures (text_fits raw c.requires.tree c.requires.rules)

pub returns-then-walk : goal.returns-then-walk
returns-then-walk c =
    let raw = c.args.raw.now in
    let w : Walk = record { tables = c.in_ok-tables.tables; variables = c.new-variables.result } in
    program_long raw w c.in_ok-tables.ensures.text c.in_ok-tables.ensures.scope c.as_slice.result.now c.as_slice.ensures c.new-variables.ensures c.items.new.self c.in_ok-made.ensures.passes c.if-walk.true

pub struct_trees-requires-clause-kept : goal.struct_trees-requires-clause-kept
struct_trees-requires-clause-kept c =
    let raw = c.args.raw.now in
    let w : Walk = record { tables = c.in_ok-tables.tables; variables = c.new-variables.result } in
    walk_structs raw w c.in_ok-tables.ensures.text c.in_ok-tables.ensures.scope c.as_slice.result.now c.as_slice.ensures c.new-variables.ensures c.items.new.self c.in_ok-made.ensures.passes
    c.in_ok-tables.ensures.right c.as_slice-2.result.now c.as_slice-2.ensures (text_fits raw c.requires.tree c.requires.rules)

pub returns-in_err-structs : goal.returns-in_err-structs
returns-in_err-structs c =
    let raw = c.args.raw.now in
    let w : Walk = record { tables = c.in_ok-tables.tables; variables = c.new-variables.result } in
    passes_stop (MakesProgram raw) c.in_err-structs.field-0.0 c.from_residual-in_err-structs.result c.from_residual-in_err-structs.ensures.1
    (structs_stop_all raw w c.in_ok-tables.ensures.text c.in_ok-tables.ensures.scope c.as_slice.result.now c.as_slice.ensures c.new-variables.ensures c.items.new.self c.in_ok-made.ensures.passes
    c.in_ok-tables.ensures.right c.as_slice-2.result.now c.as_slice-2.ensures c.in_err-structs.field-0.0 c.in_err-structs.ensures)

pub returns : goal.returns
returns c =
    let raw = c.args.raw.now in
    let w : Walk = record { tables = c.in_ok-tables.tables; variables = c.new-variables.result } in
    walk_makes raw w c.in_ok-tables.ensures.text c.in_ok-tables.ensures.scope c.as_slice.result.now c.as_slice.ensures c.new-variables.ensures c.items.new.self c.in_ok-made.ensures.passes
    c.in_ok-tables.ensures.right c.as_slice-2.result.now c.as_slice-2.ensures c.in_ok-made.made.0 c.in_ok-structs.structs c.in_ok-made.made.1 c.in_ok-made.ensures.items c.in_ok-made.ensures.functions c.if-walk.false c.in_ok-structs.ensures

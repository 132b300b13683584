use Rattle.std.proofs.Common.{arith, ap, ◌∙◌, List}
use Rattle.std.proofs.lemmas.List.Elements.{All-set}
use Rattle.c_meaning.specs.Memory.{Block}
use Rattle.c_memory.specs.Whole.{IsWhole}
use Rattle.c_memory.proofs.BlockLemmas.{written_at, written_past, written_nowhere, cell_at, no_cell_at, changed_whole, kept_at, whole_at, numbered, not_numbered}
use Rattle.c_memory.proofs.memory.Memory.write.Goals as goal

pub returns-then-at-len-clause-written : goal.returns-then-at-len-clause-written
returns-then-at-len-clause-written c =
    let size = c.len.ensures in
    let test = c.if-at-len.true in
    rw (← c.self.view_is) (written_past c.self.inside.layouts c.self.inside.blocks.items c.args.place.now c.args.value (omega (arith, size, test)))

pub invariant_of-self : goal.invariant_of-self
invariant_of-self c =
    let size = c.len.ensures in
    let test = c.if-at-len.false in
    let whole = whole_at c.self.inside.layouts c.self.inside.blocks.items c.args.place.now.block c.index_mut.result.now c.self.invariant (omega (arith, size, test)) c.index_mut.ensures.value in
    All-set (IsWhole c.self.inside.layouts) c.self.inside.blocks.items c.args.place.now.block c.set.new.self
    (changed_whole c.self.inside.layouts c.index_mut.result.now c.set.new.self _ c.in-Some.number whole c.set.ensures.written) c.self.invariant

pub returns-in-Some-clause-answer : goal.returns-in-Some-clause-answer
returns-in-Some-clause-answer c =
    let size = c.len.ensures in
    let test = c.if-at-len.false in
    let whole = whole_at c.self.inside.layouts c.self.inside.blocks.items c.args.place.now.block c.index_mut.result.now c.self.invariant (omega (arith, size, test)) c.index_mut.ensures.value in
    let number =
    numbered c.self.inside.layouts c.self.inside.blocks.items c.args.place.now c.index.result.now c.index_mut.result.now c.as_slice.result.now c.shape.result.now
    c.cell_number.result c.in-Some.number (omega (arith, size, test)) c.index.ensures c.index_mut.ensures.value c.as_slice.ensures c.shape.ensures c.cell_number.ensures c.in-Some.is in
    rw (← c.self.view_is)
    (cell_at c.self.inside.layouts c.self.inside.blocks.items c.args.place.now c.index_mut.result.now c.in-Some.number c.set.result (omega (arith, size, test)) c.index_mut.ensures.value
    whole number c.set.ensures.answer)

pub returns-in-Some-clause-written : goal.returns-in-Some-clause-written
returns-in-Some-clause-written c =
    let size = c.len.ensures in
    let test = c.if-at-len.false in
    let whole = whole_at c.self.inside.layouts c.self.inside.blocks.items c.args.place.now.block c.index_mut.result.now c.self.invariant (omega (arith, size, test)) c.index_mut.ensures.value in
    let number =
    numbered c.self.inside.layouts c.self.inside.blocks.items c.args.place.now c.index.result.now c.index_mut.result.now c.as_slice.result.now c.shape.result.now
    c.cell_number.result c.in-Some.number (omega (arith, size, test)) c.index.ensures c.index_mut.ensures.value c.as_slice.ensures c.shape.ensures c.cell_number.ensures c.in-Some.is in
    rw (← c.self.view_is)
    (written_at c.self.inside.layouts c.self.inside.blocks.items c.args.place.now c.args.value c.index_mut.result.now c.set.new.self c.in-Some.number (omega (arith, size, test))
    c.index_mut.ensures.value whole number c.set.ensures.written)

pub returns-in-Some-clause-refused : goal.returns-in-Some-clause-refused
returns-in-Some-clause-refused c = λ no.
    ap (λ (bs : List Block). record { structs = c.self.inside.layouts; blocks = bs })
    (kept_at c.self.inside.blocks.items c.args.place.now.block c.in-Some.number c.index_mut.result.now c.set.new.self _ c.set.result c.index_mut.ensures.value c.set.ensures.answer
    c.set.ensures.written no)
    ∙ c.self.view_is

pub returns-in-None-clause-answer : goal.returns-in-None-clause-answer
returns-in-None-clause-answer c =
    let size = c.len.ensures in
    let test = c.if-at-len.false in
    rw (← c.self.view_is)
    (no_cell_at c.self.inside.layouts c.self.inside.blocks.items c.args.place.now c.index.result.now (omega (arith, size, test)) c.index.ensures
    (not_numbered c.self.inside.layouts c.args.place.now c.index.result.now c.as_slice.result.now c.shape.result.now c.cell_number.result c.as_slice.ensures c.shape.ensures
    c.cell_number.ensures c.in-None.is))

pub returns-in-None-clause-written : goal.returns-in-None-clause-written
returns-in-None-clause-written c =
    let size = c.len.ensures in
    let test = c.if-at-len.false in
    rw (← c.self.view_is)
    (written_nowhere c.self.inside.layouts c.self.inside.blocks.items c.args.place.now c.args.value c.index.result.now (omega (arith, size, test)) c.index.ensures
    (not_numbered c.self.inside.layouts c.args.place.now c.index.result.now c.as_slice.result.now c.shape.result.now c.cell_number.result c.as_slice.ensures c.shape.ensures
    c.cell_number.ensures c.in-None.is))

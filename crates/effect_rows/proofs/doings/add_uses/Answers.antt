-- What is used is added part by part.
use Rattle.std.proofs.Common.{◌≡◌, ℕ, Option, ap, ◌∙◌, subst}
use Rattle.c_tree.specs.declared.statement.Statement.TheOpen.{Statement-F}
use Rattle.dep_model.specs.Denoted.{expr_reads, expr_places, left_reads}
use Rattle.dep_model.specs.DoingEffects.{any_reads, target_reads, amount_reads, compound_reads, the_input}
use Rattle.dep_model.specs.Locations.{same_location}
use Rattle.effect_rows.specs.Own.{own_uses, uses_of, own_step}
use Rattle.effect_rows.specs.Gains.{with_places, HasLocationRow}
use Rattle.effect_rows.specs.Pointed.{points_in}
use Rattle.effect_rows.proofs.ReadLemmas.{none_read, two_read, three_read}
use Rattle.effect_rows.proofs.OwnForms.{own-Assign, own-Bump, own-Invoke, own-Fetch, own-Heap, own-Declare, own-Block}
use Rattle.effect_rows.proofs.doings.add_uses.Goals as goal

pub returns-in-Assign-clause-gained : goal.returns-in-Assign-clause-gained
returns-in-Assign-clause-gained c =
    let p = c.args.g.now.program in
    let to = points_in c.args.g.now in
    let row = c.args.row in
    let start = c.args.rows.now in
    let has : HasLocationRow p row start = record { sized = c.requires.sized; row_in = c.requires.row_in } in
    let w = c.in-Assign in
    three_read p row start c.add_found.new.rows c.add_compound_reads.new.rows c.add_read.new.rows (left_reads p to w.left) (compound_reads p to w.op w.left) (expr_reads p to w.right) (own_uses p to c.args.statement.now)
    has c.add_found.ensures.size c.add_found.ensures.gained c.add_compound_reads.ensures.gained c.add_read.ensures.gained (ap (own_uses p to) w.is ∙ ap (uses_of p to) (own-Assign _ _ _ _ _))

pub returns-in-Bump-clause-gained : goal.returns-in-Bump-clause-gained
returns-in-Bump-clause-gained c =
    let p = c.args.g.now.program in
    let to = points_in c.args.g.now in
    let row = c.args.row in
    let start = c.args.rows.now in
    let has : HasLocationRow p row start = record { sized = c.requires.sized; row_in = c.requires.row_in } in
    let w = c.in-Bump in
    two_read p row start c.add_found-in-Bump.new.rows c.add_places.new.rows (left_reads p to w.left) (expr_places p to w.left) (own_uses p to c.args.statement.now)
    has c.add_found-in-Bump.ensures.gained c.add_places.ensures.gained (ap (own_uses p to) w.is ∙ ap (uses_of p to) (own-Bump _ _ _ _ _))

pub returns-in-Invoke-clause-gained : goal.returns-in-Invoke-clause-gained
returns-in-Invoke-clause-gained c =
    let p = c.args.g.now.program in
    let to = points_in c.args.g.now in
    let row = c.args.row in
    let start = c.args.rows.now in
    let has : HasLocationRow p row start = record { sized = c.requires.sized; row_in = c.requires.row_in } in
    let w = c.in-Invoke in
    two_read p row start c.add_all_reads.new.rows c.add_target_reads.new.rows (any_reads p to w.args) (target_reads p to w.target) (own_uses p to c.args.statement.now)
    has (subst (λ es. c.add_all_reads.new.rows ≡ with_places p row (any_reads p to es) start) c.as_slice.ensures c.add_all_reads.ensures.gained) c.add_target_reads.ensures.gained (ap (own_uses p to) w.is ∙ ap (uses_of p to) (own-Invoke _ _ _ _ _))

pub returns-in-Fetch-clause-gained : goal.returns-in-Fetch-clause-gained
returns-in-Fetch-clause-gained c =
    let p = c.args.g.now.program in
    let to = points_in c.args.g.now in
    let row = c.args.row in
    let start = c.args.rows.now in
    let has : HasLocationRow p row start = record { sized = c.requires.sized; row_in = c.requires.row_in } in
    let w = c.in-Fetch in
    two_read p row start c.add_input.new.rows c.add_target_reads-in-Fetch.new.rows (same_location the_input) (target_reads p to w.target) (own_uses p to c.args.statement.now)
    has c.add_input.ensures.gained c.add_target_reads-in-Fetch.ensures.gained (ap (own_uses p to) w.is ∙ ap (uses_of p to) (own-Fetch _ _ _))

pub returns-in-Heap-clause-gained : goal.returns-in-Heap-clause-gained
returns-in-Heap-clause-gained c =
    let p = c.args.g.now.program in
    let to = points_in c.args.g.now in
    let row = c.args.row in
    let start = c.args.rows.now in
    let has : HasLocationRow p row start = record { sized = c.requires.sized; row_in = c.requires.row_in } in
    let w = c.in-Heap in
    two_read p row start c.add_target_reads-in-Heap.new.rows c.add_amount_reads.new.rows (target_reads p to w.target) (amount_reads p to w.amount) (own_uses p to c.args.statement.now)
    has c.add_target_reads-in-Heap.ensures.gained c.add_amount_reads.ensures.gained (ap (own_uses p to) w.is ∙ ap (uses_of p to) (own-Heap _ _ _ _ _))

pub returns-in-None-clause-gained : goal.returns-in-None-clause-gained
returns-in-None-clause-gained c =
    let p = c.args.g.now.program in
    let to = points_in c.args.g.now in
    let d = c.in-Declare in
    none_read p c.args.row c.args.rows.now (own_uses p to c.args.statement.now) (ap (own_uses p to) c.in-Declare.is ∙ ap (uses_of p to) (own-Declare d.id d.line d.var d.init ∙ ap (λ (o : Option ℕ). own_step (Statement-F.Declare o d.line d.var d.init)) c.in-None.is))

pub returns-in-Block-clause-gained : goal.returns-in-Block-clause-gained
returns-in-Block-clause-gained c =
    let p = c.args.g.now.program in
    let to = points_in c.args.g.now in
    none_read p c.args.row c.args.rows.now (own_uses p to c.args.statement.now) (ap (own_uses p to) c.in-Block.is ∙ ap (uses_of p to) (own-Block _ _))

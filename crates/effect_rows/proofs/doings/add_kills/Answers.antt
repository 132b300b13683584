-- What is killed is added part by part.
use Rattle.std.proofs.Common.{ℕ, Option, ap, ◌∙◌}
use Rattle.c_tree.specs.declared.statement.Statement.TheOpen.{Statement-F}
use Rattle.dep_model.specs.DoingEffects.{target_kills, the_input}
use Rattle.dep_model.specs.Locations.{same_location}
use Rattle.effect_rows.specs.Own.{own_kills, kills_of, own_step}
use Rattle.effect_rows.specs.Gains.{HasLocationRow}
use Rattle.effect_rows.specs.Pointed.{points_in}
use Rattle.effect_rows.proofs.ReadLemmas.{none_read, two_read}
use Rattle.effect_rows.proofs.OwnForms.{own-Fetch, own-Declare, own-Write, own-Print, own-Release, own-If, own-While, own-Do, own-For, own-Switch, own-Block}
use Rattle.effect_rows.proofs.doings.add_kills.Goals as goal

pub returns-in-Fetch-clause-gained : goal.returns-in-Fetch-clause-gained
returns-in-Fetch-clause-gained c =
    let p = c.args.g.now.program in
    let to = points_in c.args.g.now in
    let row = c.args.row in
    let start = c.args.rows.now in
    let has : HasLocationRow p row start = record { sized = c.requires.sized; row_in = c.requires.row_in } in
    let w = c.in-Fetch in
    let f = c.args.f in
    two_read p row start c.add_input.new.rows c.add_target_kills-in-Fetch.new.rows (same_location the_input) (target_kills p to w.target) (own_kills p to f c.args.statement.now)
    has c.add_input.ensures.gained c.add_target_kills-in-Fetch.ensures.gained (ap (own_kills p to f) w.is ∙ ap (kills_of p to f) (own-Fetch _ _ _))

pub returns-in-None-clause-gained : goal.returns-in-None-clause-gained
returns-in-None-clause-gained c =
    let p = c.args.g.now.program in
    let to = points_in c.args.g.now in
    let d = c.in-Declare in
    none_read p c.args.row c.args.rows.now (own_kills p to c.args.f c.args.statement.now) (ap (own_kills p to c.args.f) c.in-Declare.is ∙ ap (kills_of p to c.args.f) (own-Declare d.id d.line d.var d.init ∙ ap (λ (o : Option ℕ). own_step (Statement-F.Declare o d.line d.var d.init)) c.in-None.is))

pub returns-in-Write-clause-gained : goal.returns-in-Write-clause-gained
returns-in-Write-clause-gained c =
    let p = c.args.g.now.program in
    let to = points_in c.args.g.now in
    none_read p c.args.row c.args.rows.now (own_kills p to c.args.f c.args.statement.now) (ap (own_kills p to c.args.f) c.in-Write.is ∙ ap (kills_of p to c.args.f) (own-Write _ _ _))

pub returns-in-Print-clause-gained : goal.returns-in-Print-clause-gained
returns-in-Print-clause-gained c =
    let p = c.args.g.now.program in
    let to = points_in c.args.g.now in
    none_read p c.args.row c.args.rows.now (own_kills p to c.args.f c.args.statement.now) (ap (own_kills p to c.args.f) c.in-Print.is ∙ ap (kills_of p to c.args.f) (own-Print _ _ _ _))

pub returns-in-Release-clause-gained : goal.returns-in-Release-clause-gained
returns-in-Release-clause-gained c =
    let p = c.args.g.now.program in
    let to = points_in c.args.g.now in
    none_read p c.args.row c.args.rows.now (own_kills p to c.args.f c.args.statement.now) (ap (own_kills p to c.args.f) c.in-Release.is ∙ ap (kills_of p to c.args.f) (own-Release _ _ _))

pub returns-in-If-clause-gained : goal.returns-in-If-clause-gained
returns-in-If-clause-gained c =
    let p = c.args.g.now.program in
    let to = points_in c.args.g.now in
    none_read p c.args.row c.args.rows.now (own_kills p to c.args.f c.args.statement.now) (ap (own_kills p to c.args.f) c.in-If.is ∙ ap (kills_of p to c.args.f) (own-If _ _ _ _ _))

pub returns-in-While-clause-gained : goal.returns-in-While-clause-gained
returns-in-While-clause-gained c =
    let p = c.args.g.now.program in
    let to = points_in c.args.g.now in
    none_read p c.args.row c.args.rows.now (own_kills p to c.args.f c.args.statement.now) (ap (own_kills p to c.args.f) c.in-While.is ∙ ap (kills_of p to c.args.f) (own-While _ _ _ _))

pub returns-in-Do-clause-gained : goal.returns-in-Do-clause-gained
returns-in-Do-clause-gained c =
    let p = c.args.g.now.program in
    let to = points_in c.args.g.now in
    none_read p c.args.row c.args.rows.now (own_kills p to c.args.f c.args.statement.now) (ap (own_kills p to c.args.f) c.in-Do.is ∙ ap (kills_of p to c.args.f) (own-Do _ _ _ _))

pub returns-in-For-clause-gained : goal.returns-in-For-clause-gained
returns-in-For-clause-gained c =
    let p = c.args.g.now.program in
    let to = points_in c.args.g.now in
    none_read p c.args.row c.args.rows.now (own_kills p to c.args.f c.args.statement.now) (ap (own_kills p to c.args.f) c.in-For.is ∙ ap (kills_of p to c.args.f) (own-For _ _ _ _ _ _))

pub returns-in-Switch-clause-gained : goal.returns-in-Switch-clause-gained
returns-in-Switch-clause-gained c =
    let p = c.args.g.now.program in
    let to = points_in c.args.g.now in
    none_read p c.args.row c.args.rows.now (own_kills p to c.args.f c.args.statement.now) (ap (own_kills p to c.args.f) c.in-Switch.is ∙ ap (kills_of p to c.args.f) (own-Switch _ _ _ _))

pub returns-in-Block-clause-gained : goal.returns-in-Block-clause-gained
returns-in-Block-clause-gained c =
    let p = c.args.g.now.program in
    let to = points_in c.args.g.now in
    none_read p c.args.row c.args.rows.now (own_kills p to c.args.f c.args.statement.now) (ap (own_kills p to c.args.f) c.in-Block.is ∙ ap (kills_of p to c.args.f) (own-Block _ _))

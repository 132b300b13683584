-- The pointings of each form of statement.
use Rattle.std.proofs.Common.{ℕ, Option, refl, sym, ap, ◌∙◌, subst}
use Rattle.c_tree.specs.declared.statement.Statement.TheOpen.{Statement-F}
use Rattle.c_language.specs.Code.{Sets, Bumps, Fetches, Writes, Prints, Allocates, Frees, Tests}
use Rattle.dep_model.specs.Denoted.{expr_points}
use Rattle.dep_model.specs.Doings.{Does}
use Rattle.dep_model.specs.Locations.{same_location}
use Rattle.dep_model.specs.MayPoint.{site, parameters, passed}
use Rattle.dep_model.specs.LocationRows.{points_of}
use Rattle.effect_rows.specs.Gains.{row_of}
use Rattle.effect_rows.specs.Own.{own_doing, own_step, own_defines}
use Rattle.effect_rows.proofs.OwnForms.{own-Declare, own-Assign, own-Bump, own-Invoke, own-Fetch, own-Write, own-Print, own-Heap, own-Release, own-If, own-While, own-Do, own-For, own-Switch, own-Block, own-Return}
use Rattle.points_to.specs.Sweeps.{standing, IsSwept}
use Rattle.points_to.proofs.AloneLemmas.{alone_none, does_nothing, gives_nothing, alone_one, alone_init, alone_return, alone_call}
use Rattle.points_to.proofs.solver.Solver.alone.Goals as goal

pub returns-in-None : goal.returns-in-None
returns-in-None c =
    let p = c.args.self.now.effects in
    let d = c.in-Declare in
    let e = c.define.ensures in
    alone_none p c.args.f c.args.statement.now (standing c.args.self.now) c.define.new.self e.ready e.program e.rows
    (does_nothing p c.args.f c.args.statement.now (ap own_doing d.is ∙ own-Declare d.id d.line d.var d.init ∙ ap (λ (o : Option ℕ). own_step (Statement-F.Declare o d.line d.var d.init)) c.in-None.is))

pub returns-in-Block : goal.returns-in-Block
returns-in-Block c =
    let p = c.args.self.now.effects in
    let e = c.define.ensures in
    alone_none p c.args.f c.args.statement.now (standing c.args.self.now) c.define.new.self e.ready e.program e.rows
    (does_nothing p c.args.f c.args.statement.now (ap own_doing c.in-Block.is ∙ own-Block _ _))

pub returns-in-Bump : goal.returns-in-Bump
returns-in-Bump c =
    let p = c.args.self.now.effects in
    let w = c.in-Bump in
    let e = c.define.ensures in
    alone_none p c.args.f c.args.statement.now (standing c.args.self.now) c.define.new.self e.ready e.program e.rows
    (gives_nothing p c.args.f c.args.statement.now (Does w.id (Bumps w.left w.up)) (ap own_doing w.is ∙ own-Bump _ _ _ _ _) (λ points. refl))

pub returns-in-Fetch : goal.returns-in-Fetch
returns-in-Fetch c =
    let p = c.args.self.now.effects in
    let w = c.in-Fetch in
    let e = c.define.ensures in
    alone_none p c.args.f c.args.statement.now (standing c.args.self.now) c.define.new.self e.ready e.program e.rows
    (gives_nothing p c.args.f c.args.statement.now (Does w.id (Fetches w.target)) (ap own_doing w.is ∙ own-Fetch _ _ _) (λ points. refl))

pub returns-in-Write : goal.returns-in-Write
returns-in-Write c =
    let p = c.args.self.now.effects in
    let w = c.in-Write in
    let e = c.define.ensures in
    alone_none p c.args.f c.args.statement.now (standing c.args.self.now) c.define.new.self e.ready e.program e.rows
    (gives_nothing p c.args.f c.args.statement.now (Does w.id (Writes w.value)) (ap own_doing w.is ∙ own-Write _ _ _) (λ points. refl))

pub returns-in-Print : goal.returns-in-Print
returns-in-Print c =
    let p = c.args.self.now.effects in
    let w = c.in-Print in
    let e = c.define.ensures in
    alone_none p c.args.f c.args.statement.now (standing c.args.self.now) c.define.new.self e.ready e.program e.rows
    (gives_nothing p c.args.f c.args.statement.now (Does w.id (Prints w.format w.args)) (ap own_doing w.is ∙ own-Print _ _ _ _) (λ points. refl))

pub returns-in-Release : goal.returns-in-Release
returns-in-Release c =
    let p = c.args.self.now.effects in
    let w = c.in-Release in
    let e = c.define.ensures in
    alone_none p c.args.f c.args.statement.now (standing c.args.self.now) c.define.new.self e.ready e.program e.rows
    (gives_nothing p c.args.f c.args.statement.now (Does w.id (Frees w.value)) (ap own_doing w.is ∙ own-Release _ _ _) (λ points. refl))

pub returns-in-If : goal.returns-in-If
returns-in-If c =
    let p = c.args.self.now.effects in
    let w = c.in-If in
    let e = c.define.ensures in
    alone_none p c.args.f c.args.statement.now (standing c.args.self.now) c.define.new.self e.ready e.program e.rows
    (gives_nothing p c.args.f c.args.statement.now (Does w.id (Tests w.test)) (ap own_doing w.is ∙ own-If _ _ _ _ _) (λ points. refl))

pub returns-in-While : goal.returns-in-While
returns-in-While c =
    let p = c.args.self.now.effects in
    let w = c.in-While in
    let e = c.define.ensures in
    alone_none p c.args.f c.args.statement.now (standing c.args.self.now) c.define.new.self e.ready e.program e.rows
    (gives_nothing p c.args.f c.args.statement.now (Does w.id (Tests w.test)) (ap own_doing w.is ∙ own-While _ _ _ _) (λ points. refl))

pub returns-in-Do : goal.returns-in-Do
returns-in-Do c =
    let p = c.args.self.now.effects in
    let w = c.in-Do in
    let e = c.define.ensures in
    alone_none p c.args.f c.args.statement.now (standing c.args.self.now) c.define.new.self e.ready e.program e.rows
    (gives_nothing p c.args.f c.args.statement.now (Does w.id (Tests w.test)) (ap own_doing w.is ∙ own-Do _ _ _ _) (λ points. refl))

pub returns-in-For : goal.returns-in-For
returns-in-For c =
    let p = c.args.self.now.effects in
    let w = c.in-For in
    let e = c.define.ensures in
    alone_none p c.args.f c.args.statement.now (standing c.args.self.now) c.define.new.self e.ready e.program e.rows
    (gives_nothing p c.args.f c.args.statement.now (Does w.id (Tests w.test)) (ap own_doing w.is ∙ own-For _ _ _ _ _ _) (λ points. refl))

pub returns-in-Switch : goal.returns-in-Switch
returns-in-Switch c =
    let p = c.args.self.now.effects in
    let w = c.in-Switch in
    let e = c.define.ensures in
    alone_none p c.args.f c.args.statement.now (standing c.args.self.now) c.define.new.self e.ready e.program e.rows
    (gives_nothing p c.args.f c.args.statement.now (Does w.id (Tests w.test)) (ap own_doing w.is ∙ own-Switch _ _ _ _) (λ points. refl))

pub returns-in-Some : goal.returns-in-Some
returns-in-Some c =
    let p = c.args.self.now.effects in
    let t = standing c.args.self.now in
    let f = c.args.f in
    let s = c.args.statement.now in
    let d = c.in-Declare in
    let e = c.define.ensures in
    let into = own_defines p (points_of p t.points) f s in
    alone_init p f s t c.define.new.self c.store_init.new.self e.program e.rows c.in-Some.field-0 d.var d.init c.store_init.result
    (ap own_doing d.is ∙ own-Declare d.id d.line d.var d.init ∙ ap (λ (o : Option ℕ). own_step (Statement-F.Declare o d.line d.var d.init)) c.in-Some.is)
    (c.store_init.ensures into (e.left ∙ ap (λ q. row_of q into) (sym e.program)))

pub returns-in-Assign : goal.returns-in-Assign
returns-in-Assign c =
    let p = c.args.self.now.effects in
    let t = standing c.args.self.now in
    let f = c.args.f in
    let s = c.args.statement.now in
    let w = c.in-Assign in
    let e = c.define.ensures in
    let into = own_defines p (points_of p t.points) f s in
    alone_one p f s t c.define.new.self c.store.new.self e.program e.rows (Does w.id (Sets w.left w.op w.right)) (λ q points. expr_points q points w.right) c.store.result
    (ap own_doing w.is ∙ own-Assign _ _ _ _ _) (λ points. refl) (c.store.ensures.used into (e.left ∙ ap (λ q. row_of q into) (sym e.program)))

pub returns-in-Heap : goal.returns-in-Heap
returns-in-Heap c =
    let p = c.args.self.now.effects in
    let t = standing c.args.self.now in
    let f = c.args.f in
    let s = c.args.statement.now in
    let w = c.in-Heap in
    let e = c.define.ensures in
    let into = own_defines p (points_of p t.points) f s in
    alone_one p f s t c.define.new.self c.store_site.new.self e.program e.rows (Does w.id (Allocates w.target w.amount)) (λ q points. same_location (site w.id)) c.store_site.result
    (ap own_doing w.is ∙ own-Heap _ _ _ _ _) (λ points. refl) (c.store_site.ensures into (e.left ∙ ap (λ q. row_of q into) (sym e.program)))

pub returns-in-Return : goal.returns-in-Return
returns-in-Return c =
    let p = c.args.self.now.effects in
    let t = standing c.args.self.now in
    let f = c.args.f in
    let s = c.args.statement.now in
    let w = c.in-Return in
    let e = c.define.ensures in
    let into = own_defines p (points_of p t.points) f s in
    alone_return p f s t c.define.new.self c.store_returned.new.self e.program e.rows w.id w.value c.store_returned.result
    (ap own_doing w.is ∙ own-Return _ _ _) (c.store_returned.ensures into (e.left ∙ ap (λ q. row_of q into) (sym e.program)))

pub returns-in-Invoke : goal.returns-in-Invoke
returns-in-Invoke c =
    let p = c.args.self.now.effects in
    let t = standing c.args.self.now in
    let f = c.args.f in
    let s = c.args.statement.now in
    let w = c.in-Invoke in
    let e = c.define.ensures in
    let into = own_defines p (points_of p t.points) f s in
    let new = c.store_result-stored.new.self in
    let last = c.pass-passed.new.self in
    alone_call p f s t c.define.new.self new e.program e.rows w.id w.function w.target w.args last c.store_result-stored.result c.pass-passed.result (ap own_doing w.is ∙ own-Invoke _ _ _ _ _)
    (c.store_result-stored.ensures into (e.left ∙ ap (λ q. row_of q into) (sym e.program)))
    (subst (λ es. IsSwept new.effects (λ points. passed new.effects points (parameters new.effects w.function) es) (standing new) last c.pass-passed.result) c.as_slice.ensures
    (subst (λ xs. IsSwept new.effects (λ points. passed new.effects points xs c.as_slice.result.now) (standing new) last c.pass-passed.result) c.parameters-parameters.ensures c.pass-passed.ensures))

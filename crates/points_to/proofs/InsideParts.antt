-- What stands in a statement that has one list of statements in it, or arms, as equations.
use Rattle.std.proofs.Common.{◌≡◌, ℕ, List, sym, ap, ◌∙◌}
use Rattle.c_tree.specs.declared.expr.Expr.{Expr}
use Rattle.c_tree.specs.declared.statement.Arm.{Arm}
use Rattle.c_tree.specs.declared.statement.Statement.{Statement, out-roll-Statement}
use Rattle.c_tree.specs.declared.statement.Statement.TheOpen.{Statement-F}
use Rattle.c_tree.specs.declared.statement.Statement.TheVariants as s
use Rattle.dep_model.specs.Doings.{body_doings}
use Rattle.mod_ref.specs.Own.{arms_doings, inside_step, inside_doings}

pub inside-While : (t : Statement) (id l : ℕ) (e : Expr) (b : List Statement) → t ≡ s.While id l e b → inside_doings t ≡ body_doings b
inside-While t id l e b same = ap inside_doings (same ∙ sym (s.rolls-While id l e b)) ∙ ap inside_step (out-roll-Statement (Statement-F.While id l e b))

pub inside-Do : (t : Statement) (id l : ℕ) (e : Expr) (b : List Statement) → t ≡ s.Do id l e b → inside_doings t ≡ body_doings b
inside-Do t id l e b same = ap inside_doings (same ∙ sym (s.rolls-Do id l e b)) ∙ ap inside_step (out-roll-Statement (Statement-F.Do id l e b))

pub inside-Switch : (t : Statement) (id l : ℕ) (e : Expr) (arms : List Arm) → t ≡ s.Switch id l e arms → inside_doings t ≡ arms_doings arms
inside-Switch t id l e arms same = ap inside_doings (same ∙ sym (s.rolls-Switch id l e arms)) ∙ ap inside_step (out-roll-Statement (Statement-F.Switch id l e arms))

pub inside-Block : (t : Statement) (l : ℕ) (b : List Statement) → t ≡ s.Block l b → inside_doings t ≡ body_doings b
inside-Block t l b same = ap inside_doings (same ∙ sym (s.rolls-Block l b)) ∙ ap inside_step (out-roll-Statement (Statement-F.Block l b))

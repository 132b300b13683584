-- Expressions that stand in one another.
use Rattle.std.proofs.Common.{sym, subst}
use Rattle.std.specs.Prelude.{Contains}
use Rattle.c_tree.specs.declared.raw.expr.RawExpr.{RawExpr, roll-RawExpr}
use Rattle.c_tree.specs.declared.raw.expr.RawExpr.TheOpen.{RawExpr-F}
use Rattle.c_tree.specs.declared.raw.expr.RawExpr.TheViews.{out-roll-RawExpr}
use Rattle.c_tree.specs.declared.raw.expr.RawExpr.TheVariants as e
use Rattle.c_language.specs.Words.{Bytes}
use Rattle.c_language.specs.Phrases.{Part}
use Rattle.c_language.specs.Uses.{operands_of, IsWithin, whole, deeper, Holds, holds}
use Rattle.c_scope_laws.specs.Agreement.{NamedIn}

-- what stands in an operand of a layer stands in the expression
pub below : (l : RawExpr-F RawExpr) (m x : RawExpr) → Contains (operands_of l) m → IsWithin x m → IsWithin x (roll-RawExpr l)
below l m x c w = deeper (subst (λ (z : RawExpr-F RawExpr). Contains (operands_of z) m) (sym (out-roll-RawExpr l)) c) w

pub itself : (x : Bytes) → NamedIn (roll-RawExpr (RawExpr-F.Variable x)) x
itself x = subst (λ (a : RawExpr). IsWithin (e.Variable x) a) (sym (e.rolls-Variable x)) whole

-- a part of a part is a part
pub within_within : {x m a : RawExpr} → IsWithin m a → IsWithin x m → IsWithin x a
within_within whole k = k
within_within (deeper c w) k = deeper c (within_within w k)

-- what stands in an expression of a phrase stands in the phrase
pub held_within : {part : Part} {m x : RawExpr} → Holds part m → IsWithin x m → Holds part x
held_within (holds c w) k = holds c (within_within w k)

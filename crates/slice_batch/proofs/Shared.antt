-- Threads may share what the workers of a team capture. The tree of a program reaches itself, and the search for all at once ends at a limit,
-- so each of its types has a lemma here, for the row that it has as a field.
use mathlib.Core.List.{[], ◌∷◌}
use mir.Syntax.{Sym, Lifetime}
use base.Fml.{Lft}
use denote.Ref.{ShrRef}
use denote.Slice.{ShrSlice}
use denote.RattleType.{RattleType}
use denote.Struct.Tuple.{TupleAt}
use denote.Param.Send.{IsSync, sendable, shr_sync, shr_slice_sync}
use Rattle.std.specs.contracts.alloc.Global as Global
use Rattle.std.proofs.Crossing as global
use Rattle.std.proofs.Crossing.{crosses}
use Rattle.c_tree.specs.contracts.types.CType as CType
use Rattle.c_tree.specs.contracts.expr.Expr as Expr
use Rattle.c_tree.specs.contracts.statement.Statement as Statement
use Rattle.c_tree.specs.contracts.statement.Target as Target
use Rattle.c_tree.specs.contracts.statement.Size as Size
use Rattle.c_tree.specs.contracts.statement.Amount as Amount
use Rattle.c_tree.specs.contracts.statement.Label as Label
use Rattle.c_tree.specs.contracts.program.Init as Init
use Rattle.c_tree.specs.contracts.program.Var as Var
use Rattle.c_tree.specs.contracts.program.Member as Member
use Rattle.c_tree.specs.contracts.program.StructDef as StructDef
use Rattle.c_tree.specs.contracts.program.Function as Function
use Rattle.c_tree.specs.contracts.program.Item as Item
use Rattle.c_tree.specs.contracts.program.Program as Program
use Rattle.c_tree.proofs.types.CType.TheLaws.TheKnot.{sync-CType}
use Rattle.c_tree.proofs.expr.Expr.TheLaws.TheKnot.{sync-Expr}
use Rattle.c_tree.proofs.statement.Statement.TheLaws.TheKnot.{sync-Statement}
use Rattle.slice_engine.specs.contracts.engine.Engine as Engine
use Rattle.slice_engine.specs.contracts.engine.Criterion as Criterion
use Rattle.crew.specs.contracts.board.Board as Board
use Rattle.crew.specs.contracts.truth.Numbers as Numbers
use Rattle.crew.specs.contracts.truth.NumbersTruth.TheImpl as NumbersTruth
use Rattle.crew.proofs.board.Board.TheSendSync as board

pub ctype_sync : IsSync (CType.the_field).row
ctype_sync = search (sendable, crosses, sync-CType) depth 40 fits 20000

pub expr_sync : IsSync (Expr.the_field).row
expr_sync = search (sendable, crosses, sync-Expr) depth 40 fits 20000

pub target_sync : IsSync (Target.the_field).row
target_sync = search (sendable, crosses, expr_sync) depth 40 fits 20000

pub size_sync : IsSync (Size.the_field).row
size_sync = search (sendable, crosses, ctype_sync) depth 40 fits 20000

pub amount_sync : IsSync (Amount.the_field).row
amount_sync = search (sendable, crosses, expr_sync, size_sync) depth 40 fits 20000

pub label_sync : IsSync (Label.the_field).row
label_sync = search (sendable, crosses, expr_sync) depth 40 fits 20000

pub init_sync : IsSync (Init.the_field).row
init_sync = search (sendable, crosses, expr_sync) depth 40 fits 20000

pub var_sync : IsSync (Var.the_field).row
var_sync = search (sendable, crosses, ctype_sync) depth 40 fits 20000

pub member_sync : IsSync (Member.the_field).row
member_sync = search (sendable, crosses, ctype_sync) depth 40 fits 20000

pub def_sync : IsSync (StructDef.the_field).row
def_sync = search (sendable, crosses, member_sync) depth 40 fits 20000

pub item_sync : IsSync (Item.the_field).row
item_sync = search (sendable, crosses, init_sync) depth 40 fits 20000

pub statement_sync : IsSync (Statement.the_field).row
statement_sync = search (sendable, crosses, sync-Statement, ctype_sync, expr_sync, target_sync, amount_sync, label_sync, init_sync) depth 40 fits 20000

pub function_sync : IsSync (Function.the_field).row
function_sync = search (sendable, crosses, ctype_sync, statement_sync) depth 40 fits 20000

pub program_sync : IsSync (Program.the_field).row
program_sync = search (sendable, crosses, var_sync, def_sync, item_sync, function_sync) depth 40 fits 20000

pub engine_sync : IsSync Engine.the_row
engine_sync = search (sendable, crosses, program_sync) depth 60 fits 20000

-- five values side by side, as a closure captures them
pub five_sync : (ν : Sym) (A B C D E : RattleType) → IsSync A → IsSync B → IsSync C → IsSync D → IsSync E → IsSync (TupleAt ν (A ∷ B ∷ C ∷ D ∷ E ∷ []))
five_sync ν A B C D E a b c d e = search sendable depth 20

pub board_sync : IsSync (Board.the_row Numbers.the_row NumbersTruth.ghosts)
board_sync = board.the_sync Numbers.the_row NumbersTruth.ghosts

pub criterion_sync : IsSync Criterion.the_row
criterion_sync = search (sendable, crosses) depth 40

-- what the workers of a team capture
pub captured_sync : (ν : Sym) (ℓ₀ ℓ₁ ℓ₂ ℓ₃ ℓ₄ : Lifetime) (κ₀ κ₁ κ₂ κ₃ κ₄ : Lft) (G : RattleType) → IsSync G
    → IsSync (TupleAt ν (ShrRef ℓ₀ κ₀ Global.the_row ∷ ShrRef ℓ₁ κ₁ Engine.the_row ∷ ShrSlice ℓ₂ κ₂ Criterion.the_row
    ∷ ShrRef ℓ₃ κ₃ (Board.the_row Numbers.the_row NumbersTruth.ghosts) ∷ ShrRef ℓ₄ κ₄ G ∷ []))
captured_sync ν ℓ₀ ℓ₁ ℓ₂ ℓ₃ ℓ₄ κ₀ κ₁ κ₂ κ₃ κ₄ G s =
    five_sync ν (ShrRef ℓ₀ κ₀ Global.the_row) (ShrRef ℓ₁ κ₁ Engine.the_row) (ShrSlice ℓ₂ κ₂ Criterion.the_row)
    (ShrRef ℓ₃ κ₃ (Board.the_row Numbers.the_row NumbersTruth.ghosts)) (ShrRef ℓ₄ κ₄ G)
    (shr_sync ℓ₀ κ₀ Global.the_row global.sync) (shr_sync ℓ₁ κ₁ Engine.the_row engine_sync) (shr_slice_sync ℓ₂ κ₂ Criterion.the_row criterion_sync)
    (shr_sync ℓ₃ κ₃ (Board.the_row Numbers.the_row NumbersTruth.ghosts) board_sync) (shr_sync ℓ₄ κ₄ G s)

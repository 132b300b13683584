-- Types fit in the trees of programs.
use Rattle.std.specs.Prelude.{◌≡◌, Some}
use Rattle.c_tree.specs.declared.expr.Expr.{Expr}
use Rattle.c_tree.specs.declared.program.Program.{Program}
use Rattle.c_language.specs.Programs.{IsWellFormed}
use Rattle.c_language.specs.TreeTypes.{tree_type}
use Rattle.c_language.specs.declared.expr_type.Operand.{Operand}
use Rattle.typed_programs.specs.TreeOperands.{tree_operand}
use Rattle.typed_programs.specs.TypedStatements.{IsTyped}

-- the type of an expression that is an operand is the operand's, in any program
abbrev pub OperandsHaveTypes : Type 0
OperandsHaveTypes = (p : Program) (e : Expr) (x : Operand) → tree_operand p e ≡ Some x → tree_type p e ≡ x.shape

-- types fit in each well-formed program
abbrev pub ProgramsAreTyped : Type 0
ProgramsAreTyped = (p : Program) → IsWellFormed p → IsTyped p

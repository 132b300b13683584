-- What breaks a rule on struct types (ISO C99 6.7.2.1, 6.7.2.3): their tags, their members, and where they have to be complete.
use Rattle.std.specs.Prelude.{◌≡◌, ℕ, Bool, true, false, List, Option, Some, None, Contains, take}
use Rattle.c_arith.specs.declared.operators.BinaryOp.{BinaryOp}
use Rattle.c_tree.specs.declared.raw.expr.RawExpr.{RawExpr}
use Rattle.c_tree.specs.declared.raw.expr.RawVar.{RawVar}
use Rattle.c_tree.specs.declared.raw.program.RawInit.{RawInit}
use Rattle.c_tree.specs.declared.raw.program.RawMember.{RawMember}
use Rattle.c_tree.specs.declared.raw.program.RawProgram.{RawProgram}
use Rattle.c_tree.specs.declared.raw.statement.RawTarget.{RawTarget}
use Rattle.c_tree.specs.declared.raw.statement.RawSize.TheVariants as size
use Rattle.c_tree.specs.declared.raw.statement.RawAmount.{RawAmount}
use Rattle.c_tree.specs.declared.raw.statement.RawTypeName.{RawTypeName}
use Rattle.c_language.specs.Words.{Bytes}
use Rattle.c_language.specs.DeclaredTypes.{StructText, defined_structs, struct_id, written_type, variable_type}
use Rattle.c_language.specs.Scopes.{Scope, Meaning, meaning_in}
use Rattle.c_language.specs.ExprTypes.{operand, target_of, value_type}
use Rattle.c_language.specs.ExprRules.{seen, holds_of, is_complete, points_to_incomplete, moves_incomplete, needs_struct, selects_missing}
use Rattle.c_language.specs.Phrases.{Stand, Part, DefinesStruct, HasMember, Declares, Assigns, Bumps, Allocates}
use Rattle.c_language.specs.Uses.{Holds, tags, sizes}
use Rattle.c_language.specs.TypeGrammar.{named_type}
use Rattle.c_language.specs.declared.expr_type.ExprType.{ExprType}

-- a tag isn't defined, or again, or not before an object, a member or a size of its type is needed (6.2.5, paragraph 22)
pub data MisusesTag (raw : RawProgram) (scope : Scope) : Part → Type 0 where
  undefined : {part : Part} {tag : Bytes} → Contains (tags part) tag → struct_id raw tag ≡ None → MisusesTag raw scope part
  again : {tag : Bytes} {s : StructText} → Contains (take scope.structs (defined_structs raw)) s → s.tag ≡ tag → MisusesTag raw scope (DefinesStruct tag)
  object : {stand : Stand} {var : RawVar} {i : RawInit} {t : ExprType}
      → variable_type raw var i ≡ Some t → is_complete scope t ≡ false → MisusesTag raw scope (Declares stand var i)
  member : {before : List RawMember} {m : RawMember} {t : ExprType}
      → written_type raw m.shape ≡ Some t → is_complete scope t ≡ false → MisusesTag raw scope (HasMember before m)
  in_expression : {part : Part} {inner : RawExpr} → Holds part inner → needs_struct scope (seen raw scope inner) ≡ true → MisusesTag raw scope part
  bumped : {left : RawExpr} → holds_of (points_to_incomplete scope) (operand raw scope left) ≡ true → MisusesTag raw scope (Bumps left)
  compound : {left right : RawExpr} {op : BinaryOp}
      → moves_incomplete scope op (operand raw scope left) (operand raw scope right) ≡ true → MisusesTag raw scope (Assigns left (Some op) right)
  size_of_type : {to : RawTarget} {cast : Option RawTypeName} {n : RawAmount} {t : RawTypeName} {object : ExprType}
      → Contains (sizes n) (size.Type t) → written_type raw (named_type t) ≡ Some object → is_complete scope object ≡ false
      → MisusesTag raw scope (Allocates to cast n)
  size_of_target : {to : RawTarget} {cast : Option RawTypeName} {n : RawAmount} {name : Bytes} {closed : Bool} {id : ℕ} {t object : ExprType}
      → Contains (sizes n) (size.Pointee name closed) → meaning_in scope name ≡ Some (Meaning.Variable id (Some t))
      → target_of (value_type t) ≡ Some object → is_complete scope object ≡ false
      → MisusesTag raw scope (Allocates to cast n)

-- two members of one struct have one name, or a member is selected that doesn't exist (6.5.2.3)
pub data MisnamesMember (raw : RawProgram) (scope : Scope) : Part → Type 0 where
  again : {before : List RawMember} {m other : RawMember} → Contains before other → other.name ≡ m.name → MisnamesMember raw scope (HasMember before m)
  missing : {part : Part} {inner : RawExpr} → Holds part inner → selects_missing raw (seen raw scope inner) ≡ true → MisnamesMember raw scope part

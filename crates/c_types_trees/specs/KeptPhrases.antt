-- What is known of a phrase that keeps all rules, and of the expressions in it.
use Rattle.std.specs.Prelude.{◌≡◌, ◌⊎◌, ℕ, Bool, List, [], ◌∷◌, Option, Some, None, Result, Ok, Err, Contains}
use Rattle.c_tree.specs.declared.raw.expr.RawExpr.{RawExpr}
use Rattle.c_tree.specs.declared.raw.expr.RawType.{RawType}
use Rattle.c_tree.specs.declared.raw.expr.RawVar.{RawVar}
use Rattle.c_tree.specs.declared.raw.program.RawInit.{RawInit}
use Rattle.c_tree.specs.declared.raw.program.RawInit.TheVariants as init
use Rattle.c_tree.specs.declared.raw.program.RawMember.{RawMember}
use Rattle.c_tree.specs.declared.raw.program.RawHead.{RawHead}
use Rattle.c_tree.specs.declared.raw.program.RawProgram.{RawProgram}
use Rattle.c_tree.specs.declared.raw.statement.RawTarget.{RawTarget}
use Rattle.c_tree.specs.declared.raw.statement.RawTarget.TheVariants as target
use Rattle.c_tree.specs.declared.raw.statement.RawArg.{RawArg}
use Rattle.c_tree.specs.declared.raw.statement.RawArg.TheVariants as arg
use Rattle.c_tree.specs.declared.raw.statement.RawTypeName.{RawTypeName}
use Rattle.c_tree.specs.declared.raw.statement.RawSize.{RawSize}
use Rattle.c_tree.specs.declared.raw.statement.RawSize.TheVariants as size
use Rattle.c_tree.specs.declared.raw.statement.RawAmount.{RawAmount}
use Rattle.c_tree.specs.declared.raw.statement.RawAmount.TheVariants as amount
use Rattle.c_tree.specs.declared.raw.statement.RawLabel.{RawLabel}
use Rattle.c_language.specs.Words.{Bytes}
use Rattle.c_language.specs.CallRules.{target_type}
use Rattle.c_language.specs.ConstantEvaluation.{constant}
use Rattle.c_language.specs.Phrases.{Stand, HasMember, DeclaresFunction, Declares, Begins, Calls, Allocates, Switches}
use Rattle.c_language.specs.ProgramOf.{size_tree}
use Rattle.c_language.specs.Rules.{BreaksNone}
use Rattle.c_language.specs.Scopes.{Scope}
use Rattle.c_language.specs.Uses.{lengths_in, sizes}
use Rattle.c_language.specs.declared.expr_type.Operand.{Operand}
use Rattle.c_types_base.specs.Judging.{judged}
use Rattle.c_language.specs.Options.{IsThere}

-- a judgement tells an operand
abbrev pub IsJudged : Result Operand ℕ → Type 0
IsJudged (Ok x) = Unit {0}
IsJudged (Err n) = ⊥

-- an expression is an operand, where its scope is in force
abbrev pub IsOperand : RawProgram → Scope → RawExpr → Type 0
IsOperand raw scope a = IsJudged (judged raw scope a)

abbrev pub AreOperands : RawProgram → Scope → List RawExpr → Type 0
AreOperands raw scope es = (a : RawExpr) → Contains es a → IsOperand raw scope a

-- an expression is a constant one (6.6)
abbrev pub IsConstant : RawExpr → Type 0
IsConstant a = IsThere (constant a)

-- an expression is an operand, or a constant one, which has its tree in every scope
abbrev pub IsMeant : RawProgram → Scope → RawExpr → Type 0
IsMeant raw scope a = IsOperand raw scope a ⊎ IsConstant a

-- an argument is an expression that is an operand
abbrev pub IsValue : RawProgram → Scope → RawArg → Type 0
IsValue raw scope (arg.Value a) = IsOperand raw scope a
IsValue raw scope (arg.Literal text) = ⊥

abbrev pub AreValues : RawProgram → Scope → List RawArg → Type 0
AreValues raw scope args = (a : RawArg) → Contains args a → IsValue raw scope a

-- ---- phrases

-- an initialiser is none, or breaks no rule
pub data IsKeptInit (raw : RawProgram) (scope : Scope) : RawInit → Type 0 where
  none : IsKeptInit raw scope init.None
  kept : {i : RawInit} {stand : Stand} {var : RawVar} → BreaksNone raw scope (Begins stand var i) → IsKeptInit raw scope i

-- a target is an operand where it is a place
abbrev pub IsMeantTarget : RawProgram → Scope → RawTarget → Type 0
IsMeantTarget raw scope target.None = Unit {0}
IsMeantTarget raw scope (target.Place a) = IsOperand raw scope a
IsMeantTarget raw scope (target.Declared var) = Unit {0}

-- a call breaks no rule
pub record IsKeptCall (raw : RawProgram) (scope : Scope) (f : Bytes) (args : List RawArg) : Type 0 where
  pub stand : Stand
  pub to : RawTarget
  pub kept : BreaksNone raw scope (Calls stand to f args)

-- a switch breaks no rule
pub record IsKeptSwitch (raw : RawProgram) (scope : Scope) (test : RawExpr) : Type 0 where
  pub labels : List RawLabel
  pub kept : BreaksNone raw scope (Switches test labels)

-- a label of a switch that breaks no rule, wherever the switch stands
pub record IsKeptLabel (raw : RawProgram) (one : RawLabel) : Type 0 where
  pub scope : Scope
  pub test : RawExpr
  pub labels : List RawLabel
  pub kept : BreaksNone raw scope (Switches test labels)
  pub among : Contains labels one

-- a member of a struct type breaks no rule
pub record IsKeptMember (raw : RawProgram) (m : RawMember) : Type 0 where
  pub scope : Scope
  pub before : List RawMember
  pub kept : BreaksNone raw scope (HasMember before m)

-- the declaration of a variable breaks no rule
pub record IsKeptVariable (raw : RawProgram) (var : RawVar) (i : RawInit) : Type 0 where
  pub scope : Scope
  pub stand : Stand
  pub kept : BreaksNone raw scope (Declares stand var i)

-- the head of a function breaks no rule
pub record IsKeptHead (raw : RawProgram) (head : RawHead) : Type 0 where
  pub scope : Scope
  pub is_definition : Bool
  pub kept : BreaksNone raw scope (DeclaresFunction head is_definition)

-- ---- types without lengths

-- no length stands in a type
abbrev pub HasNoLength : RawType → Type 0
HasNoLength t = lengths_in t ≡ []

abbrev pub HasNoLengthIf : Option RawType → Type 0
HasNoLengthIf None = Unit {0}
HasNoLengthIf (Some t) = HasNoLength t

abbrev pub IsPlainName : Option RawTypeName → Type 0
IsPlainName None = Unit {0}
IsPlainName (Some t) = HasNoLength t.base

abbrev pub IsPlainSize : RawSize → Type 0
IsPlainSize (size.Type t) = HasNoLength t.base
IsPlainSize (size.Pointee name closed) = Unit {0}

abbrev pub IsPlainAmount : RawAmount → Type 0
IsPlainAmount (amount.Size z) = IsPlainSize z
IsPlainAmount (amount.CountSize a z) = IsPlainSize z
IsPlainAmount (amount.SizeCount z a) = IsPlainSize z
IsPlainAmount (amount.Count a) = Unit {0}

-- the size in an amount has its tree
abbrev pub AreMeasured : RawProgram → Scope → RawAmount → Type 0
AreMeasured raw scope n = (z : RawSize) → IsPlainSize z → sizes n ≡ z ∷ [] → IsThere (size_tree raw scope z)

-- an allocation breaks no rule, its result is stored in what has a type, and no length stands in its type names
pub record IsKeptAllocation (raw : RawProgram) (scope : Scope) (cast : Option RawTypeName) (n : RawAmount) : Type 0 where
  pub to : RawTarget
  pub kept : BreaksNone raw scope (Allocates to cast n)
  pub typed : IsThere (target_type raw scope to)
  pub name : IsPlainName cast
  pub amount : IsPlainAmount n

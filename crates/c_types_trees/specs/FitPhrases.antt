-- Phrases that break no rule, and have the forms that tokens give them.
use Rattle.std.specs.Prelude.{ℕ, [], ◌∷◌, List, map, Option, Some, None}
use Rattle.c_language.specs.CallRules.{IsStored}
use Rattle.c_tree.specs.declared.raw.program.RawProgram.{RawProgram}
use Rattle.c_tree.specs.declared.raw.statement.RawTarget.{RawTarget}
use Rattle.c_tree.specs.declared.raw.statement.RawTypeName.{RawTypeName}
use Rattle.c_tree.specs.declared.raw.statement.RawAmount.{RawAmount}
use Rattle.c_tree.specs.declared.raw.statement.RawStatement.{RawStatement}
use Rattle.c_language.specs.Rules.{BreaksNone}
use Rattle.c_language.specs.Scopes.{Scope, in_order}
use Rattle.c_language.specs.Phrases.{Stand, Part, NamesStruct, DefinesStruct, HasMember, DeclaresFunction, Takes, EndsFunction, Declares, Begins, Assigns, Bumps, Calls, Allocates, Tests, Switches, Returns, Phrases, joined_at, target_phrases, scoped, IsInside}
use Rattle.c_types_trees.specs.KeptPhrases.{HasNoLengthIf, IsPlainName, IsPlainAmount}

-- what is allocated is stored, and no length stands in the type names
pub record IsAllocation (to : RawTarget) (cast : Option RawTypeName) (n : RawAmount) : Type 0 where
  pub stored : IsStored to
  pub name : IsPlainName cast
  pub amount : IsPlainAmount n

-- what the grammar says of a phrase
abbrev pub IsFormed : Part → Type 0
IsFormed (NamesStruct tag) = Unit {0}
IsFormed (DefinesStruct tag) = Unit {0}
IsFormed (HasMember before m) = Unit {0}
IsFormed (DeclaresFunction head is_definition) = HasNoLengthIf head.result
IsFormed (Takes before p) = Unit {0}
IsFormed (EndsFunction head body) = Unit {0}
IsFormed (Declares stand var i) = Unit {0}
IsFormed (Begins stand var i) = Unit {0}
IsFormed (Assigns left op right) = Unit {0}
IsFormed (Bumps left) = Unit {0}
IsFormed (Calls stand to f args) = Unit {0}
IsFormed (Allocates to cast n) = IsAllocation to cast n
IsFormed (Tests a) = Unit {0}
IsFormed (Switches a labels) = Unit {0}
IsFormed (Returns a) = Unit {0}

-- a phrase keeps the rules and has its form
pub record IsFit (raw : RawProgram) (scope : Scope) (part : Part) : Type 0 where
  pub kept : BreaksNone raw scope part
  pub formed : IsFormed part

abbrev pub AreFit : RawProgram → Phrases → Type 0
AreFit raw [] = Unit {0}
AreFit raw (p ∷ ps) = IsFit raw p.scope p.part × AreFit raw ps

-- the phrases of statements one after another fit, wherever inside a function these stand
pub record AreFitInside (raw : RawProgram) (body : List RawStatement) (scope : Scope) : Type 0 where
  pub stand : Stand
  pub inside : IsInside stand
  pub fit : AreFit raw (joined_at stand (in_order (map (scoped raw) body) scope))

-- the phrases of a statement fit, wherever inside a function it stands
pub record IsFitInside (raw : RawProgram) (one : RawStatement) (scope : Scope) : Type 0 where
  pub stand : Stand
  pub inside : IsInside stand
  pub fit : AreFit raw ((scoped raw one).gives scope stand)

-- the phrases of a target fit, wherever inside a function it stands
pub record AreFitTarget (raw : RawProgram) (line : ℕ) (scope : Scope) (to : RawTarget) : Type 0 where
  pub stand : Stand
  pub inside : IsInside stand
  pub fit : AreFit raw (target_phrases raw line scope stand to)

-- the phrases of a part of a for fit, where it has one
abbrev pub IsFitPart : RawProgram → Option RawStatement → Scope → Type 0
IsFitPart raw None scope = Unit {0}
IsFitPart raw (Some one) scope = IsFitInside raw one scope

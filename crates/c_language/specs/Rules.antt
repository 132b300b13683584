-- The rules that a text has to keep, by their numbers. A broken rule is named with the line of the phrase that breaks it.
use Rattle.std.specs.Prelude.{◌≡◌, ℕ, None, [], ◌∷◌, Contains}
use Rattle.c_tree.specs.declared.raw.program.RawProgram.{RawProgram}
use Rattle.c_language.specs.DeclaredTypes.{definition_of}
use Rattle.c_language.specs.Scopes.{Scope}
use Rattle.c_language.specs.Phrases.{Part, Phrase, Phrases, phrases}
use Rattle.c_language.specs.NameRules.{main_name, UsesUndeclared, DeclaresAgain, Shadows, DeclaresLibraryName, MisusesMain, LacksDefinition, LacksHeader}
use Rattle.c_language.specs.StructRules.{MisusesTag, MisnamesMember}
use Rattle.c_language.specs.ArrayRules.{HasNoElement, LacksConstant, MisusesInitialiser}
use Rattle.c_language.specs.SwitchRules.{MisusesSwitch, MisplacesDeclaration}
use Rattle.c_language.specs.TypeRules.{MisusesOperator, AssignsOtherType, AssignsNoPlace, MisusesAddress}
use Rattle.c_language.specs.CallRules.{MisusesArguments, MisusesResult, MisusesReturn, MisusesFormat, MisusesAllocation, MisusesLibrary}

-- a phrase breaks the rule with the number
pub data Breaks (raw : RawProgram) (scope : Scope) (part : Part) : ℕ → Type 0 where
  undeclared : UsesUndeclared raw scope part → Breaks raw scope part 1
  declared_again : DeclaresAgain raw scope part → Breaks raw scope part 2
  shadowing : Shadows raw scope part → Breaks raw scope part 3
  library_name : DeclaresLibraryName raw scope part → Breaks raw scope part 4
  main : MisusesMain raw scope part → Breaks raw scope part 5
  no_definition : LacksDefinition raw scope part → Breaks raw scope part 6
  tag : MisusesTag raw scope part → Breaks raw scope part 7
  member : MisnamesMember raw scope part → Breaks raw scope part 8
  no_element : HasNoElement part → Breaks raw scope part 9
  no_constant : LacksConstant raw scope part → Breaks raw scope part 10
  switch : MisusesSwitch raw scope part → Breaks raw scope part 11
  operator : MisusesOperator raw scope part → Breaks raw scope part 12
  other_type : AssignsOtherType raw scope part → Breaks raw scope part 13
  no_place : AssignsNoPlace raw scope part → Breaks raw scope part 14
  address : MisusesAddress raw scope part → Breaks raw scope part 15
  arguments : MisusesArguments raw scope part → Breaks raw scope part 16
  result : MisusesResult raw scope part → Breaks raw scope part 17
  return : MisusesReturn raw scope part → Breaks raw scope part 18
  format : MisusesFormat raw scope part → Breaks raw scope part 19
  allocation : MisusesAllocation raw scope part → Breaks raw scope part 20
  library : MisusesLibrary raw scope part → Breaks raw scope part 21
  initialiser : MisusesInitialiser raw scope part → Breaks raw scope part 22
  misplaced : MisplacesDeclaration raw scope part → Breaks raw scope part 23
  no_header : LacksHeader raw scope part → Breaks raw scope part 24

-- what stands at a scope breaks no rule
abbrev pub BreaksNone : RawProgram → Scope → Part → Type 0
BreaksNone raw scope part = (n : ℕ) → Breaks raw scope part n → ⊥

-- a phrase breaks no rule
abbrev pub KeepsAll : RawProgram → Phrase → Type 0
KeepsAll raw p = BreaksNone raw p.scope p.part

-- none of the phrases breaks a rule
abbrev pub AreKept : RawProgram → Phrases → Type 0
AreKept raw [] = Unit {0}
AreKept raw (p ∷ ps) = KeepsAll raw p × AreKept raw ps

-- the rule with the number is broken at the line
pub data IsBroken : (number line : ℕ) → RawProgram → Type 0 where
  -- a phrase on the line breaks it
  by_phrase : {raw : RawProgram} {n : ℕ} {p : Phrase} → Contains (phrases raw) p → Breaks raw p.scope p.part n → IsBroken n p.line raw
  -- there is no main, which is told at the first line
  no_main : {raw : RawProgram} → definition_of raw main_name ≡ None → IsBroken 5 1 raw

-- a text keeps all rules
abbrev pub KeepsRules : RawProgram → Type 0
KeepsRules raw = (number line : ℕ) → IsBroken number line raw → ⊥

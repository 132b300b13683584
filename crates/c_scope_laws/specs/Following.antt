-- What is known where a text and a thinner one have come to the same place.
use Rattle.std.specs.Prelude.{◌≡◌, ◌≤◌, ℕ, Bool, true, false, List, [], ◌∷◌, length, take, Option, Some, None, option_map, slice_get}
use Rattle.c_tree.specs.declared.raw.program.RawHead.{RawHead}
use Rattle.c_tree.specs.declared.raw.program.RawProgram.{RawProgram}
use Rattle.c_language.specs.Words.{Bytes}
use Rattle.c_language.specs.DeclaredTypes.{defined_functions, definition_of}
use Rattle.c_language.specs.Scopes.{Scope, Entry}
use Rattle.c_language.specs.NameRules.{IsDefinedBefore}
use Rattle.c_language.specs.CallRules.{head_around}
use Rattle.c_scope_laws.specs.Agreement.{SameOutside, moved_meaning, head_left, StandsInLeft}
use Rattle.kept_numbers.specs.Ranks.{rank}
use Rattle.projection.specs.Kept.{Kept}
use Rattle.c_scope_laws.specs.Thinning.{name_stays, heads_of}

module _ (k : Kept Bytes) where
  abbrev pub moved_entry : Entry → Entry
  moved_entry e = record { name = e.name; meaning = moved_meaning (rank k.variable) e.meaning }

  abbrev pub kept_more : Bool → Entry → List Entry → List Entry
  kept_more true e rest = moved_entry e ∷ rest
  kept_more false e rest = rest

  -- the declared names that stay
  abbrev pub kept_entries : List Entry → List Entry
  kept_entries [] = []
  kept_entries (e ∷ rest) = kept_more (name_stays k e.name e.meaning) e (kept_entries rest)

-- what both texts have in common
pub record TextsAgree (k : Kept Bytes) (raw other : RawProgram) : Type 0 where
  pub outside : SameOutside raw other
  pub definitions : (x : Bytes) → k.function x ≡ true → definition_of other x ≡ option_map (head_left (heads_of k)) (definition_of raw x)

-- the next numbers and the names at a place of the thinner text are those that stay
pub record ScopesAgree (k : Kept Bytes) (raw other : RawProgram) (defined_here defined_there : ℕ) (owner_here owner_there : Option ℕ) (scope next : Scope) : Type 0 where
  pub names : next.names ≡ kept_entries k scope.names
  pub within : scope.outer ≤ length scope.names
  pub outer : next.outer ≡ length (kept_entries k (take scope.outer scope.names))
  pub structs : next.structs ≡ scope.structs
  pub variables : next.variables ≡ rank k.variable scope.variables
  pub statements : next.statements ≡ rank k.statement scope.statements
  pub before : (x : Bytes) → IsDefinedBefore other next x → IsDefinedBefore raw scope x
  pub around : (h : RawHead) → head_around other next ≡ Some h → StandsInLeft (heads_of k) (head_around raw scope) h
  -- so many functions have been defined
  pub functions : scope.functions ≡ defined_here
  pub others : next.functions ≡ defined_there
  -- in these functions
  pub owner : scope.owner ≡ owner_here
  pub other_owner : next.owner ≡ owner_there

abbrev pub kept_head : Kept Bytes → Option RawHead → Bool
kept_head k None = false
kept_head k (Some h) = k.function h.name

-- the numbers of the functions of a text that are kept
abbrev pub kept_functions : Kept Bytes → RawProgram → ℕ → Bool
kept_functions k raw i = kept_head k (slice_get (defined_functions raw) i)

-- whether the head with a number passes a test, where there is one
abbrev pub head_passes : (RawHead → Bool) → Option RawHead → Bool
head_passes test None = false
head_passes test (Some h) = test h

-- what is kept, where the functions of a text are told by their numbers
abbrev pub kept_numbers : Kept Bytes → RawProgram → Kept ℕ
kept_numbers k raw = record {
  variable = k.variable;
  statement = k.statement;
  result = k.result;
  argument = k.argument;
  function = kept_functions k raw;
  parameter = λ i n. head_passes (λ (h : RawHead). k.parameter h.name n) (slice_get (defined_functions raw) i);
  gives = λ i. head_passes (λ (h : RawHead). k.gives h.name) (slice_get (defined_functions raw) i);
}

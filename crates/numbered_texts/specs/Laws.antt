-- The programs of texts are numbered in text order.
use Rattle.std.specs.Prelude.{◌≡◌, ◌⊎◌, ℕ, true, length, map, Some}
use Rattle.std.specs.List.{list_all, range_with_len}
use Rattle.c_tree.specs.declared.program.Program.{Program}
use Rattle.c_language.specs.Mains.{main_of}
use Rattle.c_language.specs.Programs.{IsWellFormed}
use Rattle.dep_model.specs.declared.location.Location.{Location}
use Rattle.dep_model.specs.Denoted.{TargetsOf}
use Rattle.dep_model.specs.Doings.{doing_number, program_doings}
use Rattle.dep_model.specs.ListedLocations.{IsListed, AreListed}
use Rattle.dep_model.specs.ModRef.{Modifies, MayUse}
use Rattle.dep_model.specs.DoingNames.{doing_below}
use Rattle.dep_model.specs.SystemGraph.{Analysis}
use Rattle.numbered_texts.specs.FittingCalls.{fits, parameter_counts, takes_result}

-- the statements of a well-formed program, function by function, have the numbers 0, 1, and so on up to their count
abbrev pub StatementsAreNumbered : Type 0
StatementsAreNumbered = (p : Program) → IsWellFormed p → map doing_number (program_doings p) ≡ range_with_len 0 p.statements

-- each variable that one of them names is one of the program
abbrev pub NamedVariablesExist : Type 0
NamedVariablesExist = (p : Program) → IsWellFormed p → list_all (doing_below (length p.vars)) (program_doings p) ≡ true

-- each location that a vertex may define and another, or the same, may use is one of the program's, whatever the analysis
abbrev pub LocationsAreListed : Type 0
LocationsAreListed = (p : Program) (a : Analysis) → IsWellFormed p → AreListed p a

-- each location that one of its functions modifies or uses is one of the program's, wherever pointers may point
abbrev pub EffectsAreListed : Type 0
EffectsAreListed = (p : Program) (points : TargetsOf) (f : ℕ) (l : Location) → IsWellFormed p → Modifies p points f l ⊎ MayUse p points f l → IsListed p l

-- each call in one is of a function of the program, with an argument for each of its parameters
abbrev pub CallsFit : Type 0
CallsFit = (p : Program) → IsWellFormed p → list_all (fits (parameter_counts p)) (program_doings p) ≡ true

-- each call whose result is stored is of a function that gives one: it isn't void, and it isn't main
abbrev pub ResultsAreGiven : Type 0
ResultsAreGiven = (p : Program) → IsWellFormed p → list_all (takes_result p) (program_doings p) ≡ true

-- a function named main is among its functions
abbrev pub ProgramsHaveMain : Type 0
ProgramsHaveMain = (p : Program) → IsWellFormed p → (f : ℕ) × (main_of p ≡ Some f)

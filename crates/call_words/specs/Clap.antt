-- What `clap` is told of a row, and what it finds.
use Rattle.std.specs.Prelude.{◌≡◌, ◌∷◌, List, [], map, Bool, true, Option, Some, codes, not}
use Rattle.std.specs.List.{list_any}
use Rattle.std.specs.Option.{option_map_or}
use Rattle.std.specs.Str.{bytes_eq}
use Rattle.clap.specs.Matches.{first_value, found_of, matched_of, raw_values}
use Rattle.clap.specs.Walk.{Rule}
use Rattle.clap.specs.Simple.{App, app_of, new_rule, new_shape}
use Rattle.clap.specs.declared.builder.action.ArgAction.TheVariants.{Append}
use Rattle.clap.specs.declared.builder.command.Command.{Command}
use Rattle.clap.specs.declared.parser.matches.ArgMatches.{ArgMatches}
use Rattle.call_words.specs.Sorting.{Bytes, Sorted}
use Rattle.call_words.specs.Grammar.{Row}
use Rattle.call_words.specs.Requests.{value_given}

-- the argument of all other words
abbrev pub words_rule : Rule
words_rule = record (new_rule (codes "words")) { action = Some Append }

abbrev pub option_rule : Bytes → Rule
option_rule name = record (new_rule name) { long = Some name }

-- a command with these arguments and no flag that asks for help
abbrev pub with_rules : Bytes → List Rule → App
with_rules name rules = record { top = record (new_shape name) { rules = rules; disable_help_flag = true }; subs = [] }

abbrev pub app_for : Bytes → List Bytes → App
app_for name names = with_rules name (words_rule ∷ map option_rule names)

abbrev pub option_names : Row → List Bytes
option_names r = map (λ o. o.0) r.options

-- no option has the name of the argument of all other words
abbrev pub is_apart : Row → Bool
is_apart r = not (list_any (λ name. bytes_eq name (codes "words")) (option_names r))

abbrev pub IsCommandFor : Row → Command → Type 0
IsCommandFor r command = app_of command ≡ app_for r.name (option_names r)

-- the values that were found of the argument of all other words
abbrev pub others_found : ArgMatches → List Bytes
others_found m = option_map_or raw_values (matched_of (found_of m) (codes "words")) []

abbrev pub value_found : ArgMatches → Bytes → Option Bytes
value_found m = first_value (found_of m)

-- what was found is what was sorted, of a row with these options
pub record HasMatches (r : Row) (s : Sorted) (m : ArgMatches) : Type 0 where
  pub words : others_found m ≡ s.others
  pub values : (name : Bytes) → list_any (λ other. bytes_eq other name) (option_names r) ≡ true → value_found m name ≡ value_given s.given name

-- The commands as a table, and which words are in the form of a row.
use Rattle.std.specs.Prelude.{◌≡◌, ◌≢◌, ℕ, ◌+◌, ◌-◌, ◌*◌, ◌<◌, ◌≤◌, List, [], ◌∷◌, length, map, min, Bool, true, false, if◌then◌else◌, Option, None, Contains, IsSomeAnd, All, AllPairs, codes, slice_get, slice_index, slice_index_or}
use Rattle.std.specs.List.{find}
use Rattle.std.specs.Option.{option_map}
use Rattle.std.specs.Char.{IsAsciiDigit}
use Rattle.std.specs.Str.{IsUtf8, bytes_eq}
use Rattle.call_words.specs.Sorting.{Bytes, Sorted, sorted}
use Rattle.call_words.specs.declared.grammar.Kind.{Kind}
use Rattle.call_words.specs.declared.grammar.Kind.TheVariants.{File, Number}
use Rattle.call_words.specs.declared.grammar.Command.{Command}
use Rattle.call_words.specs.declared.grammar.Command.TheVariants.{Slice, Trace, Run, Graph, Members, Big, Forward, Chop}

-- ---- the table

-- what a command wants: the kinds of its other words in order, whether the last of them may come more than once, its options, each with the kind of its value, and the names of those that have to be given
pub record Row : Type 0 where
  pub name : Bytes
  pub wanted : List Kind
  pub repeats : Bool
  pub options : List (Bytes × Kind)
  pub required : List Bytes

-- the number of a line
abbrev pub line : Kind
line = Number 0 9999999999

-- the option with a number of workers
abbrev pub workers : List (Bytes × Kind)
workers = (codes "workers", Number 1 16) ∷ []

-- the options of a run: the file with its input, and how many acts it may have
abbrev pub of_runs : List (Bytes × Kind)
of_runs = (codes "input", File) ∷ (codes "steps", Number 1 1000000000) ∷ []

abbrev pub row : Command → Row
row Slice = record {
  name = codes "slice";
  wanted = File ∷ line ∷ [];
  repeats = true;
  options = workers;
  required = [];
}
row Trace = record {
  name = codes "trace";
  wanted = File ∷ line ∷ [];
  repeats = true;
  options = of_runs;
  required = codes "input" ∷ [];
}
row Run = record {
  name = codes "run";
  wanted = File ∷ [];
  repeats = false;
  options = of_runs;
  required = codes "input" ∷ [];
}
row Graph = record {
  name = codes "graph";
  wanted = File ∷ [];
  repeats = false;
  options = workers;
  required = [];
}
row Members = record {
  name = codes "members";
  wanted = File ∷ line ∷ [];
  repeats = false;
  options = workers;
  required = [];
}
row Big = record {
  name = codes "big";
  wanted = Number 0 2147483647 ∷ Number 1 1000 ∷ [];
  repeats = false;
  options = workers;
  required = [];
}
row Forward = record {
  name = codes "forward";
  wanted = File ∷ line ∷ [];
  repeats = false;
  options = workers;
  required = [];
}
row Chop = record {
  name = codes "chop";
  wanted = File ∷ line ∷ line ∷ [];
  repeats = false;
  options = workers;
  required = [];
}

abbrev pub commands : List Command
commands = Slice ∷ Trace ∷ Run ∷ Graph ∷ Members ∷ Big ∷ Forward ∷ Chop ∷ []

-- ---- kinds of words

-- the name of a file: UTF-8, not empty, and not beginning with `-`
pub record IsFileName (name : Bytes) : Type 0 where
  pub is_utf8 : IsUtf8 name
  pub not_empty : 0 < length name
  pub no_dash : slice_index name 0 ≢ 45

-- one to ten decimal digits
pub record IsNumber (digits : Bytes) : Type 0 where
  pub not_empty : 0 < length digits
  pub at_most_ten : length digits ≤ 10
  pub all_digits : All IsAsciiDigit digits

-- the value of decimal digits behind a number
abbrev pub decimal_from : ℕ → Bytes → ℕ
decimal_from n [] = n
decimal_from n (b ∷ bs) = decimal_from (10 * n + (b - 48)) bs

-- a number from the first to the second
pub record IsNumberWithin (least greatest : ℕ) (digits : Bytes) : Type 0 where
  pub number : IsNumber digits
  pub at_least : least ≤ decimal_from 0 digits
  pub at_most : decimal_from 0 digits ≤ greatest

abbrev pub IsOf : Kind → Bytes → Type 0
IsOf File word = IsFileName word
IsOf (Number least greatest) word = IsNumberWithin least greatest word

-- ---- words in the form of a row

-- the kind of the other word at a place, where one may stand there
abbrev pub kind_at : Row → ℕ → Option Kind
kind_at r i = slice_get r.wanted (if r.repeats then min i (length r.wanted - 1) else i)

-- the kind of an option's value
abbrev pub kind_of : Row → Bytes → Option Kind
kind_of r name = option_map (λ o. o.1) (find (λ o. bytes_eq o.0 name) r.options)

abbrev pub word : List Bytes → ℕ → Bytes
word words i = slice_index_or words i []

-- the other words are those that the command wants
pub record AreWanted (r : Row) (others : List Bytes) : Type 0 where
  pub enough : length r.wanted ≤ length others
  pub each : (i : ℕ) → i < length others → IsSomeAnd (kind_at r i) (λ kind. IsOf kind (word others i))

-- each option is one of the command's, with a value of its kind
abbrev pub EachKnown : Row → List (Bytes × Bytes) → Type 0
EachKnown r given = All (λ (o : Bytes × Bytes). IsSomeAnd (kind_of r o.0) (λ kind. IsOf kind o.1)) given

-- no option is given twice
abbrev pub EachOnce : List (Bytes × Bytes) → Type 0
EachOnce given = AllPairs (λ (o p : Bytes × Bytes). o.0 ≢ p.0) given

-- the options with these names are given
abbrev pub EachThere : List Bytes → List (Bytes × Bytes) → Type 0
EachThere names given = All (λ name. Contains (map (λ (o : Bytes × Bytes). o.0) given) name) names

-- the options are the command's, each given once, and those that it has to have are there
pub record AreOptions (r : Row) (given : List (Bytes × Bytes)) : Type 0 where
  pub known : EachKnown r given
  pub once : EachOnce given
  pub required : EachThere r.required given

-- sorted words are in the form of a row
pub record IsSortedInForm (r : Row) (s : Sorted) : Type 0 where
  pub whole : s.waiting ≡ None
  pub others : AreWanted r s.others
  pub options : AreOptions r s.given

-- the words are UTF-8, and those behind the command's name are in the form of its row
pub record IsInForm (r : Row) (words : List Bytes) : Type 0 where
  pub utf8 : All IsUtf8 words
  pub sorted : IsSortedInForm r (sorted words)

-- the command that the first word names
abbrev pub command_of : List Bytes → Option Command
command_of words = find (λ c. bytes_eq (row c).name (word words 0)) commands

-- the words are in the grammar: in the form of the command that the first of them names
abbrev pub IsInGrammar : List Bytes → Type 0
IsInGrammar words = IsSomeAnd (command_of words) (λ c. IsInForm (row c) words)

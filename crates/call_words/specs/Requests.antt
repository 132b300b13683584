-- What words in the grammar ask for.
use Rattle.std.specs.Prelude.{◌≡◌, ℕ, ◌<◌, ◌≤◌, List, [], ◌∷◌, ◌++◌, map, drop, length, All, Option, None, Some, IfSome, codes}
use Rattle.std.specs.List.{find}
use Rattle.std.specs.Option.{option_map, option_map_or, option_to_list, unwrap_or}
use Rattle.std.specs.Str.{bytes_eq}
use Rattle.std.specs.String.{string_bytes}
use Rattle.call_words.specs.Sorting.{Bytes, sorted}
use Rattle.call_words.specs.Grammar.{word, decimal_from, command_of, IsInGrammar, IsNumber, IsNumberWithin}
use Rattle.call_words.specs.declared.grammar.Command.{Command}
use Rattle.call_words.specs.declared.grammar.Command.TheVariants.{Slice, Trace, Run, Graph, Members, Big, Forward, Chop}
use Rattle.call_words.specs.declared.request.Request.{Request}
use Rattle.call_words.specs.declared.request.Request.TheVariants as request

-- what is asked for
pub data Asked : Type 0 where
  -- the slices of a file's program at these lines, by so many workers
  slice : (file : Bytes) (lines : List ℕ) (workers : ℕ) → Asked
  -- the values at these lines in a run of a file's program on the bytes of another file, of at most so many acts
  trace : (file : Bytes) (lines : List ℕ) (input : Bytes) (steps : ℕ) → Asked
  -- what such a run writes
  run : (file input : Bytes) (steps : ℕ) → Asked
  -- the dependence graph of a file's program, by so many workers
  graph : (file : Bytes) (workers : ℕ) → Asked
  -- what reaches the statements on a line in that graph, by so many workers
  members : (file : Bytes) (line workers : ℕ) → Asked
  -- the numbers of the slice of the program that a seed gives, with so many functions beside main, by so many workers
  big : (seed size workers : ℕ) → Asked
  -- what the statements on a line reach in the graph of a file's program, by so many workers
  forward : (file : Bytes) (line workers : ℕ) → Asked
  -- through what in that graph the statements on the first line reach those on the second, by so many workers
  chop : (file : Bytes) (from to workers : ℕ) → Asked

-- the value of an option
abbrev pub value_given : List (Bytes × Bytes) → Bytes → Option Bytes
value_given given name = option_map (λ o. o.1) (find (λ (o : Bytes × Bytes). bytes_eq o.0 name) given)

abbrev pub numbers_of : List Bytes → List ℕ
numbers_of = map (decimal_from 0)

-- the number of an option, or this one where it is absent
abbrev pub number_or : ℕ → Option Bytes → ℕ
number_or absent value = option_map_or (decimal_from 0) value absent

-- the number of workers
abbrev pub workers_in : (Bytes → Option Bytes) → ℕ
workers_in value = number_or 4 (value (codes "workers"))

-- the file with the input of a run, and how many acts this may have
abbrev pub input_in : (Bytes → Option Bytes) → Bytes
input_in value = unwrap_or (value (codes "input")) []

abbrev pub steps_in : (Bytes → Option Bytes) → ℕ
steps_in value = number_or 10000000 (value (codes "steps"))

-- what a command's other words and the values of its options ask for
abbrev pub asks : Command → List Bytes → (Bytes → Option Bytes) → Asked
asks Slice others value = Asked.slice (word others 0) (numbers_of (drop 1 others)) (workers_in value)
asks Trace others value = Asked.trace (word others 0) (numbers_of (drop 1 others)) (input_in value) (steps_in value)
asks Run others value = Asked.run (word others 0) (input_in value) (steps_in value)
asks Graph others value = Asked.graph (word others 0) (workers_in value)
asks Members others value = Asked.members (word others 0) (decimal_from 0 (word others 1)) (workers_in value)
asks Big others value = Asked.big (decimal_from 0 (word others 0)) (decimal_from 0 (word others 1)) (workers_in value)
asks Forward others value = Asked.forward (word others 0) (decimal_from 0 (word others 1)) (workers_in value)
asks Chop others value = Asked.chop (word others 0) (decimal_from 0 (word others 1)) (decimal_from 0 (word others 2)) (workers_in value)

-- what the words ask for, where they are in the grammar
abbrev pub asked : List Bytes → Option Asked
asked words = option_map (λ c. asks c (sorted words).others (value_given (sorted words).given)) (command_of words)

-- ---- requests as the code holds them

abbrev pub asked_by : Request → Asked
asked_by (request.Slice file lines workers) = Asked.slice (string_bytes file) lines.items workers
asked_by (request.Trace file lines input steps) = Asked.trace (string_bytes file) lines.items (string_bytes input) steps
asked_by (request.Run file input steps) = Asked.run (string_bytes file) (string_bytes input) steps
asked_by (request.Graph file workers) = Asked.graph (string_bytes file) workers
asked_by (request.Members file line workers) = Asked.members (string_bytes file) line workers
asked_by (request.Big seed size workers) = Asked.big seed size workers
asked_by (request.Forward file line workers) = Asked.forward (string_bytes file) line workers
asked_by (request.Chop file from to workers) = Asked.chop (string_bytes file) from to workers

-- the other words and the values of the options are such as a command's request can be made of
abbrev pub CanAsk : Command → List Bytes → (Bytes → Option Bytes) → Type 0
CanAsk Slice others value = (0 < length others) × All IsNumber (drop 1 others) × IfSome (value (codes "workers")) IsNumber
CanAsk Trace others value = (0 < length others) × All IsNumber (drop 1 others) × IfSome (value (codes "steps")) IsNumber
CanAsk Run others value = (0 < length others) × IfSome (value (codes "steps")) IsNumber
CanAsk Graph others value = (0 < length others) × IfSome (value (codes "workers")) IsNumber
CanAsk Members others value = (1 < length others) × IsNumber (word others 1) × IfSome (value (codes "workers")) IsNumber
CanAsk Big others value = (1 < length others) × IsNumberWithin 0 2147483647 (word others 0) × IsNumberWithin 1 1000 (word others 1) × IfSome (value (codes "workers")) IsNumber
CanAsk Forward others value = (1 < length others) × IsNumber (word others 1) × IfSome (value (codes "workers")) IsNumber
CanAsk Chop others value = (2 < length others) × IsNumber (word others 1) × IsNumber (word others 2) × IfSome (value (codes "workers")) IsNumber

-- the words are in the grammar, and this request is what they ask for
pub record IsRead (words : List Bytes) (r : Request) : Type 0 where
  pub in_grammar : IsInGrammar words
  pub asks_for : asked words ≡ Some (asked_by r)

abbrev pub AreWorkers : ℕ → Type 0
AreWorkers workers = (1 ≤ workers) × (workers ≤ 16)

-- the numbers of what is asked for are those that a row lets through
abbrev pub IsBounded : Asked → Type 0
IsBounded (Asked.slice file lines workers) = AreWorkers workers
IsBounded (Asked.trace file lines input steps) = Unit {0}
IsBounded (Asked.run file input steps) = Unit {0}
IsBounded (Asked.graph file workers) = AreWorkers workers
IsBounded (Asked.members file line workers) = AreWorkers workers
IsBounded (Asked.big seed size workers) = (seed ≤ 2147483647) × (0 < size) × (size ≤ 1000) × AreWorkers workers
IsBounded (Asked.forward file line workers) = AreWorkers workers
IsBounded (Asked.chop file from to workers) = AreWorkers workers

-- the file with the program and the lines of what is asked for, where there are such
abbrev pub file_in : Asked → Option Bytes
file_in (Asked.slice file lines workers) = Some file
file_in (Asked.trace file lines input steps) = Some file
file_in (Asked.run file input steps) = Some file
file_in (Asked.graph file workers) = Some file
file_in (Asked.members file line workers) = Some file
file_in (Asked.big seed size workers) = None
file_in (Asked.forward file line workers) = Some file
file_in (Asked.chop file from to workers) = Some file

-- the file with the input, where one is asked for
abbrev pub input_of : Asked → Option Bytes
input_of (Asked.slice file lines workers) = None
input_of (Asked.trace file lines input steps) = Some input
input_of (Asked.run file input steps) = Some input
input_of (Asked.graph file workers) = None
input_of (Asked.members file line workers) = None
input_of (Asked.big seed size workers) = None
input_of (Asked.forward file line workers) = None
input_of (Asked.chop file from to workers) = None

-- both, in the order in which they are fetched
abbrev pub files_in : Asked → List Bytes
files_in asked = option_to_list (file_in asked) ++ option_to_list (input_of asked)

abbrev pub lines_in : Asked → List ℕ
lines_in (Asked.slice file lines workers) = lines
lines_in (Asked.trace file lines input steps) = lines
lines_in (Asked.run file input steps) = []
lines_in (Asked.graph file workers) = []
lines_in (Asked.members file line workers) = line ∷ []
lines_in (Asked.big seed size workers) = []
lines_in (Asked.forward file line workers) = line ∷ []
lines_in (Asked.chop file from to workers) = from ∷ to ∷ []

-- how many acts a run may have that is asked for
abbrev pub steps_of : Asked → ℕ
steps_of (Asked.slice file lines workers) = 0
steps_of (Asked.trace file lines input steps) = steps
steps_of (Asked.run file input steps) = steps
steps_of (Asked.graph file workers) = 0
steps_of (Asked.members file line workers) = 0
steps_of (Asked.big seed size workers) = 0
steps_of (Asked.forward file line workers) = 0
steps_of (Asked.chop file from to workers) = 0

-- what the words ask for; of words outside the grammar no slices
abbrev pub asked_of : List Bytes → Asked
asked_of words = unwrap_or (asked words) (Asked.slice [] [] 0)

-- and the file and the lines that they name
abbrev pub file_of : List Bytes → Option Bytes
file_of words = file_in (asked_of words)

abbrev pub lines_of : List Bytes → List ℕ
lines_of words = lines_in (asked_of words)

-- What a shelf tells of the files that are asked for, and the text that is made where no file has it.
use Rattle.std.specs.Prelude.{◌≡◌, ◌⊎◌, ℕ, ◌≤◌, List, [], length, Option, None, Some, IsSomeAnd}
use Rattle.std.specs.Borrow.{Bor}
use Rattle.std.specs.Option.{option_map}
use Rattle.edge_io.specs.Contents.{Told, IsAsTold}
use Rattle.edge_io.specs.Count.{one_more}
use Rattle.big_programs.specs.Generated.{generated}
use Rattle.c_language.specs.Words.{Bytes}
use Rattle.call_words.specs.Grammar.{IsInGrammar}
use Rattle.call_words.specs.Requests.{Asked, asked_of, file_in, file_of, input_of}

-- contents are told, and this text stands under the name
abbrev pub HoldsText : Told → Bytes → Bytes → Type 0
HoldsText told name text = IsSomeAnd told (λ under. under name ≡ Some text)

-- the name behind a reference
abbrev pub name_of : Option (Bor Bytes) → Option Bytes
name_of = option_map (λ name. name.now)

-- ---- a file that may be asked for; where none is, these bytes are made

-- where contents are told, these bytes stand under the name
abbrev pub IsGiven : Told → Bytes → Option Bytes → Bytes → Type 0
IsGiven told made None bytes = bytes ≡ made
IsGiven told made (Some name) bytes = IsAsTold told name bytes

-- so it holds of the bytes that are given: where contents are told of those that stand there, and of some where they aren't
abbrev pub OfGiven : Told → Bytes → Option Bytes → (Bytes → Type 0) → Type 0
OfGiven told made name P = (bytes : Bytes) × IsGiven told made name bytes × P bytes

-- the file is told to hold these bytes, at most 1,048,576
abbrev pub HoldsGiven : Told → Bytes → Option Bytes → Bytes → Type 0
HoldsGiven told made None bytes = bytes ≡ made
HoldsGiven told made (Some name) bytes = HoldsText told name bytes × (length bytes ≤ 1048576)

-- the counts of fetches before the file is fetched, and after it
abbrev pub AreFetchesOf : Option Bytes → ℕ → ℕ → Type 0
AreFetchesOf None before after = after ≡ before
AreFetchesOf (Some name) before after = after ≡ one_more before

-- ---- the files of what is asked

-- the text that is made where no file is asked for: that of the program that a seed gives
abbrev pub text_made : Asked → Bytes
text_made (Asked.slice file lines workers) = []
text_made (Asked.trace file lines input steps) = []
text_made (Asked.run file input steps) = []
text_made (Asked.graph file workers) = []
text_made (Asked.members file line workers) = []
text_made (Asked.big seed size workers) = generated seed size
text_made (Asked.forward file line workers) = []
text_made (Asked.chop file from to workers) = []

-- both hold of the files of what is asked: of the text, and of the input, which is empty where none is asked for
abbrev pub OfFiles : Told → Asked → (Bytes → Bytes → Type 0) → Type 0
OfFiles told asked P = OfGiven told (text_made asked) (file_in asked) (λ text. OfGiven told [] (input_of asked) (P text))

-- neither is longer than 1,048,576 bytes
abbrev pub AreShort : Bytes → Bytes → Type 0
AreShort text input = (length text ≤ 1048576) × (length input ≤ 1048576)

-- the text is there, and isn't longer
abbrev pub IsThere : Told → Asked → Type 0
IsThere told asked = OfGiven told (text_made asked) (file_in asked) (λ text. length text ≤ 1048576)

-- this is the name of the file with the text, or of that with the input, where a text that isn't too long is there
abbrev pub IsNameOf : Told → Asked → Bytes → Type 0
IsNameOf told asked name = (file_in asked ≡ Some name) ⊎ ((input_of asked ≡ Some name) × IsThere told asked)

-- the counts of fetches before and after: the text was fetched, if a file has it, and then the input, if one is asked for and the text came
abbrev pub AreFetches : Asked → ℕ → ℕ → Type 0
AreFetches asked before after = (middle : ℕ) × AreFetchesOf (file_in asked) before middle × ((after ≡ middle) ⊎ AreFetchesOf (input_of asked) middle after)

-- the words are in the grammar, and the files that they name are told to hold this text and this input, each of at most 1,048,576 bytes
pub record NamesText (words : List Bytes) (told : Told) (text input : Bytes) : Type 0 where
  pub in_grammar : IsInGrammar words
  pub holds : HoldsGiven told (text_made (asked_of words)) (file_of words) text
  pub holds_input : HoldsGiven told [] (input_of (asked_of words)) input

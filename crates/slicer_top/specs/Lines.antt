-- The lines that a call puts on err.
use Rattle.std.specs.Prelude.{◌⊎◌, ℕ, ◌++◌, Option, codes}
use Rattle.std.specs.Fmt.{decimal}
use Rattle.edge_io.specs.Count.{Rose}
use Rattle.edge_io.specs.Written.{Gains, GainsFront}
use Rattle.c_tree.specs.declared.limits.LimitName.{LimitName}
use Rattle.c_tree.specs.declared.limits.LimitName.TheVariants.{Nesting, ArrayLength, ObjectCells, Locations, Vertices, FactWords, Criteria}
use Rattle.c_language.specs.Words.{Bytes}

-- the words are outside the grammar
abbrev pub usage : Bytes
usage = codes "usage: slicer slice FILE LINE.. | trace FILE LINE.. --input FILE | run FILE --input FILE | graph FILE | members FILE LINE | big SEED SIZE | forward FILE LINE | chop FILE LINE LINE\n"

-- the file couldn't be read
abbrev pub cannot_read : Bytes → Bytes
cannot_read file = codes "cannot read " ++ (file ++ codes "\n")

-- the file is too long
abbrev pub too_long : Bytes → Bytes
too_long file = file ++ codes " is longer than 1048576 bytes\n"

-- what is told of a line of the text
abbrev pub numbered : ℕ → Bytes → Bytes
numbered at words = decimal at ++ (codes ": " ++ (words ++ codes "\n"))

-- a byte that begins no token
abbrev pub bad_byte : ℕ → Bytes
bad_byte at = numbered at (codes "bad byte")

-- a number that is no constant
abbrev pub bad_number : ℕ → Bytes
bad_number at = numbered at (codes "bad number")

-- a comment that isn't closed
abbrev pub open_comment : ℕ → Bytes
open_comment at = numbered at (codes "open comment")

-- a construct that the language leaves out begins with this token
abbrev pub left_out : ℕ → Bytes → Bytes
left_out at token = numbered at (codes "left out: " ++ token)

-- the tokens have no tree
abbrev pub syntax : ℕ → Bytes
syntax at = numbered at (codes "syntax")

-- a rule is broken
abbrev pub rule : ℕ → ℕ → Bytes
rule at number = numbered at (codes "rule " ++ decimal number)

-- no statement starts on the line
abbrev pub no_start : ℕ → Bytes
no_start line = numbered line (codes "no statement starts here")

-- a quantity is above its number
abbrev pub limit : LimitName → Bytes
limit Nesting = codes "limit: nesting\n"
limit ArrayLength = codes "limit: array length\n"
limit ObjectCells = codes "limit: object cells\n"
limit Locations = codes "limit: locations\n"
limit Vertices = codes "limit: vertices\n"
limit FactWords = codes "limit: fact words\n"
limit Criteria = codes "limit: criteria\n"

-- an act of a run is undefined, of a statement that starts on a line
abbrev pub undefined_act : ℕ → ℕ → Bytes
undefined_act at statement = numbered at (codes "undefined act in statement " ++ decimal statement)

-- a run needs more acts than it may have
abbrev pub more_steps : ℕ → Bytes
more_steps steps = codes "more than " ++ (decimal steps ++ codes " steps\n")

-- what was asked for couldn't be written
abbrev pub cannot_write : Bytes
cannot_write = codes "cannot write\n"

-- memory was wanting
abbrev pub out_of_memory : Bytes
out_of_memory = codes "out of memory\n"

-- err has these counts of faults and tells these bytes, before and after
module _ (faults faults' : ℕ) (before after : Option Bytes) where
  -- a put on err failed, which has gained a front of this line
  abbrev pub CutOff : Bytes → Type 0
  CutOff words = Rose faults faults' × GainsFront before after words

  -- the line was put, or the put of it failed
  abbrev pub PutOrCutOff : Bytes → Type 0
  PutOrCutOff words = Gains before after words ⊎ CutOff words

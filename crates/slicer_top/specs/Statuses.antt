-- The statuses with which a call ends.
use Rattle.std.specs.Prelude.{◌≡◌, ◌⊎◌, ℕ, Option}
use Rattle.std.specs.Option.{unwrap_or}
use Rattle.edge_io.specs.Count.{Rose}
use Rattle.slicer_top.specs.declared.exit.Exit.{Exit}
use Rattle.slicer_top.specs.declared.status.Status.{Status}
use Rattle.slicer_top.specs.declared.status.Status.TheVariants.{Done, Refused, Usage, ReadFault, WriteFault, NoMemory, Undefined, Steps, Limit, TooLong}

-- the exit code of a status
abbrev pub code_of : Status → ℕ
code_of Done = 0
code_of Refused = 1
code_of Usage = 2
code_of ReadFault = 3
code_of WriteFault = 4
code_of NoMemory = 5
code_of Undefined = 6
code_of Steps = 7
code_of Limit = 8
code_of TooLong = 9

-- the status with which the call of the slicer ended; none where a call of the program found no memory for its words
abbrev pub ended_in : Exit → Option Status
ended_in exit = exit.ended

-- the status of a call of the program
abbrev pub status_in : Exit → Status
status_in exit = unwrap_or exit.ended NoMemory

-- err had these counts of faults
module _ (err err' : ℕ) where
  -- the status is this answer, or one of those to which each answer yields: memory was wanting, or a put on err failed
  abbrev pub IsOrYields : Status → Status → Type 0
  IsOrYields status answer = (status ≡ answer) ⊎ (status ≡ NoMemory) ⊎ ((status ≡ WriteFault) × Rose err err')

  -- likewise for an answer that follows from the bytes of the file, where the shelf had these counts: it also yields to a fault
  abbrev pub IsOrYieldsToFault : ℕ → ℕ → Status → Status → Type 0
  IsOrYieldsToFault shelf shelf' status answer = IsOrYields status answer ⊎ ((status ≡ ReadFault) × Rose shelf shelf')

-- no fault came between the moments that have these counts
abbrev pub NoFault : ℕ → ℕ → Type 0
NoFault before after = Rose before after → ⊥

-- what was asked for was written or memory was wanting, and the counts of faults of the shelf, of out and of err stayed
pub record IsFaultless (shelf shelf' out out' err err' : ℕ) (status : Status) : Type 0 where
  pub ends : (status ≡ Done) ⊎ (status ≡ NoMemory)
  pub shelf_stays : shelf' ≡ shelf
  pub out_stays : out' ≡ out
  pub err_stays : err' ≡ err

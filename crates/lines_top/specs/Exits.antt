-- How a call of the program ended.
use Rattle.std.specs.Prelude.{Option}
use Rattle.std.specs.Option.{unwrap_or}
use Rattle.lines_top.specs.declared.exit.Exit.{Exit}
use Rattle.slicer_top.specs.declared.status.Status.{Status}
use Rattle.slicer_top.specs.declared.status.Status.TheVariants.{NoMemory}

-- the status with which the call for kept lines ended; none where there was no memory for its words
abbrev pub ended_in : Exit → Option Status
ended_in exit = exit.ended

-- the status of the call of the program
abbrev pub status_in : Exit → Status
status_in exit = unwrap_or exit.ended NoMemory

-- What an expression is evaluated in: the types of the program, the blocks of its variables, and the memory.
use Rattle.std.specs.Prelude.{ℕ, List, [], Option, None, option_and_then, slice_get}
use Rattle.c_tree.specs.declared.program.Program.{Program}
use Rattle.c_language.specs.TreeTypes.{typing_of}
use Rattle.c_meaning.specs.Memory.{Memory}
use Rattle.c_meaning.specs.Values.{Types, State}
use Rattle.c_memory.specs.declared.scene.Scene.{Scene}

-- the types of expressions, which know of no function's result
abbrev pub types_of : Program → Types
types_of p = record { typing = typing_of p; result = None }

abbrev pub bound_to : Option ℕ → Option ℕ
bound_to b = b

-- the block of a variable, by a table of them all
abbrev pub frame_of : List (Option ℕ) → ℕ → Option ℕ
frame_of frame x = option_and_then bound_to (slice_get frame x)

-- a state with these blocks of variables and this memory; expressions look at nothing else
abbrev pub scene : List (Option ℕ) → Memory → State
scene frame m = record { frame = frame_of frame; returned = None; memory = m; origins = []; unread = [] }

abbrev pub types_in : Scene → Types
types_in s = types_of s.program.now

abbrev pub state_in : Scene → State
state_in s = scene s.frame.now s.memory.now

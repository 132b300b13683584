-- What a sink in memory is.
use Rattle.std.specs.Prelude.{◌≡◌, ℕ, ◌+◌, ◌≤◌, List, [], length, Option, Some}
use Rattle.edge_io.specs.declared.memory_sink.MemorySink.{MemorySink}

-- the bytes written so far
abbrev pub bytes_of : MemorySink → List ℕ
bytes_of sink = sink.bytes.items

-- how many bytes it has room for, those that are written among them
abbrev pub room_of : MemorySink → ℕ
room_of sink = sink.room

-- the puts that fail, each with the number of bytes that it takes before that
abbrev pub failing_of : MemorySink → List (ℕ × ℕ)
failing_of sink = sink.failing.items

-- the number of the next put
abbrev pub puts_of : MemorySink → ℕ
puts_of sink = sink.puts

-- its count of faults
abbrev pub faults_of : MemorySink → ℕ
faults_of sink = sink.faults

-- it tells its bytes
abbrev pub written_of : MemorySink → Option (List ℕ)
written_of sink = Some (bytes_of sink)

-- no put is to fail, and there is room left for so many bytes
pub record Takes (sink : MemorySink) (count : ℕ) : Type 0 where
  pub none_failing : failing_of sink ≡ []
  pub room : length (bytes_of sink) + count ≤ room_of sink

-- What a sink over a stream is.
use Rattle.std.specs.Prelude.{ℕ}
use Rattle.edge_io.specs.declared.stream_sink.StreamSink.{StreamSink}

-- its stream
abbrev pub stream_of : {W : Type 0} → StreamSink W → W
stream_of sink = sink.stream

-- its count of faults
abbrev pub faults_of : {W : Type 0} → StreamSink W → ℕ
faults_of sink = sink.faults

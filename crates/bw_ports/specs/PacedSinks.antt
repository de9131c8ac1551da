-- What is seen of a writer that waits.
use Rattle.std.specs.Prelude.{ℕ, Option}
use Rattle.bw_ports.specs.declared.paced_sink.PacedSink.{PacedSink}

-- its own writer
abbrev pub paced_writer : {W P T : Type 0} → PacedSink W P T → W
paced_writer s = s.inner

-- how many bytes a second it takes, if not any number
abbrev pub paced_rate : {W P T : Type 0} → PacedSink W P T → Option ℕ
paced_rate s = s.rate

-- and the microsecond from which on the next byte may be written
abbrev pub free_from : {W P T : Type 0} → PacedSink W P T → ℕ
free_from s = s.free

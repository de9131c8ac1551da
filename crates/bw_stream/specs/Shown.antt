-- What is seen of the readers and writers over memory and of std's.
use Rattle.std.specs.Prelude.{ℕ, Bool, List, vec_capacity}
use Rattle.bw_stream.specs.declared.memory.MemorySource.{MemorySource}
use Rattle.bw_stream.specs.declared.memory.MemorySink.{MemorySink}
use Rattle.bw_stream.specs.declared.std_io.StdIo.{StdIo}
use Rattle.bw_stream.specs.declared.seek.SeekSource.{SeekSource}

-- the bytes that a reader over memory still has to give
abbrev pub memory_left : MemorySource → List ℕ
memory_left s = s.bytes.now

-- how many it gave or passed over
abbrev pub memory_moved : MemorySource → ℕ
memory_moved s = s.moved

-- and how many calls it has got
abbrev pub memory_reads : MemorySource → ℕ
memory_reads s = s.calls

-- the bytes that a writer over memory has
abbrev pub memory_written : MemorySink → List ℕ
memory_written s = s.bytes.items

-- how many of them it has room for
abbrev pub memory_room : MemorySink → ℕ
memory_room s = vec_capacity s.bytes

-- and how many of its writes failed
abbrev pub memory_refusals : MemorySink → ℕ
memory_refusals s = s.failures

-- the reader or writer of std itself
abbrev pub std_inner : {T : Type 0} → StdIo T → T
std_inner s = s.inner

-- how many bytes were read from it or passed over
abbrev pub std_moved : {T : Type 0} → StdIo T → ℕ
std_moved s = s.moved

-- how many calls read or passed over bytes
abbrev pub std_reads : {T : Type 0} → StdIo T → ℕ
std_reads s = s.calls

-- how many calls failed
abbrev pub std_failures : {T : Type 0} → StdIo T → ℕ
std_failures s = s.failures

-- and whether no byte was written since the last flush
abbrev pub std_flushed : {T : Type 0} → StdIo T → Bool
std_flushed s = s.is_flushed

-- the reader of std that a reader by seeking has
abbrev pub sought_inner : {T : Type 0} → SeekSource T → T
sought_inner s = s.std_io.inner

-- its place, counted in bytes from its start
abbrev pub sought_place : {T : Type 0} → SeekSource T → ℕ
sought_place s = s.place

-- its length as far as it is known, else 0
abbrev pub sought_len : {T : Type 0} → SeekSource T → ℕ
sought_len s = s.len

-- how many calls read or passed over bytes
abbrev pub sought_reads : {T : Type 0} → SeekSource T → ℕ
sought_reads s = s.std_io.calls

-- and how many of them failed
abbrev pub sought_failures : {T : Type 0} → SeekSource T → ℕ
sought_failures s = s.std_io.failures

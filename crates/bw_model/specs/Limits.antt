-- The limits of takes, messages and files.
use Rattle.std.specs.Prelude.{ℕ, ◌^◌}

-- how many numbers from `done` on may be admitted
abbrev pub window : ℕ
window = 16

-- how many names a server takes
abbrev pub most_takes : ℕ
most_takes = 256

-- how many markers a take has at most, and its file cue points
abbrev pub most_markers : ℕ
most_markers = 1024

-- the longest name, in bytes
abbrev pub longest_name : ℕ
longest_name = 32

-- the longest coding history, in bytes
abbrev pub longest_history : ℕ
longest_history = 4096

-- the longest block, in bytes of samples
abbrev pub longest_block : ℕ
longest_block = 32768

-- the longest value of a field of `bext` in a message, in bytes
abbrev pub longest_value : ℕ
longest_value = 256

-- the longest body: the longest block under the longest name
abbrev pub longest_body : ℕ
longest_body = 32806

-- the largest form, chunk or data, in bytes
abbrev pub largest : ℕ
largest = 2 ^ 62

-- how many chunks of a file are read at most
abbrev pub most_chunks : ℕ
most_chunks = 4096

-- how many sizes the table of `ds64` has at most
abbrev pub most_entries : ℕ
most_entries = 4096

-- how many cue points of a file are read at most
abbrev pub most_cues : ℕ
most_cues = 65536

-- The digest of a file's samples.
use Rattle.std.specs.Prelude.{ℕ, ◌+◌, ◌^◌, ◌<◌, ◌≤◌, IsTrue, not, List, length, slice_range}
use Rattle.sha2.specs.Sha256.{sha256}
use Rattle.bw_inspect.specs.Faults.{is_failed_read}
use Rattle.bw_inspect.specs.declared.fault.InspectFault.{InspectFault}
use Rattle.bw_inspect.specs.declared.report.Report.{Report}

-- the SHA-256 of so many bytes of b from a place on (FIPS 180-4)
abbrev pub digest_at : List ℕ → ℕ → ℕ → List ℕ
digest_at b place size = sha256 (slice_range b place (place + size))

-- bytes are reported to be missing only where b ends before
abbrev pub EndsBefore : List ℕ → ℕ → ℕ → InspectFault → Type 0
EndsBefore b place size f = IsTrue (not (is_failed_read f.kind)) → length b < place + size

-- b has the samples that the report gives, at places that u64 holds
pub record HasSamples (b : List ℕ) (r : Report) : Type 0 where
  pub within : r.data_at + r.data_size ≤ length b
  pub small : r.data_at + r.data_size < 2 ^ 64

-- What every call that reads leaves of its reader.
use Rattle.std.specs.Prelude.{◌≡◌, ℕ, ◌+◌, ◌≤◌, Result}
use Rattle.bw_model.specs.Limits.{largest}
use Rattle.bw_stream.specs.declared.source.Source.{Ghosts}
use Rattle.bw_inspect.specs.declared.fault.InspectFault.{InspectFault}
use Rattle.bw_inspect.specs.Faults.{counted}

-- where the longest form that is read ends
abbrev pub longest_end : ℕ
longest_end = largest + 8

-- at most this many bytes were used up, and a failure of the reader is counted, and returned as
-- Read
pub record Consumes {R X : Type 0} (S : Ghosts R) (most : ℕ) (result : Result X InspectFault)
    (old new : R) : Type 0 where
  pub failures : S.failures new ≡ counted result (S.failures old)
  pub moved : S.moved new ≤ S.moved old + most

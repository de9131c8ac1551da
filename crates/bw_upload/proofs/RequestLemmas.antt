-- What refuses an input of requests.
use Rattle.std.proofs.Common.{ℕ, List}
use Rattle.bw_console.specs.Faults.{RefusesLength}
use Rattle.bw_console.specs.declared.fault.Fault.{Fault}
use Rattle.bw_console.specs.declared.fault.Fault.TheVariants as faults
use Rattle.bw_upload.specs.RequestLines.{RefusesRequests}

pub length_refuses : (fault : Fault) (xs : List ℕ) → RefusesLength fault xs → RefusesRequests fault xs
length_refuses (faults.NotRequest n) xs h = absurd h
length_refuses faults.Unwritable xs h = absurd h
length_refuses fault xs h = h

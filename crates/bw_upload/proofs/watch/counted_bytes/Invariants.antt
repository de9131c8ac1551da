use Rattle.std.proofs.Common.{◌≡◌, ◌+◌, ◌-◌, ◌<◌, ◌^◌, drop, min}
use Rattle.std.specs.Prelude.{sum_by}
use Rattle.bw_model.specs.Requests.{samples_in}
use Rattle.bw_upload.specs.RoundCounts.{counted_bytes}
use Rattle.bw_upload.proofs.watch.counted_bytes.Given as goal

abbrev pub invariant-loop-request : goal.invariant-loop-request
invariant-loop-request l =
    (l.bytes < 2 ^ 64)
    × (min (l.bytes + sum_by samples_in (drop l.request-index l.requests)) (2 ^ 64 - 1)
    ≡ counted_bytes l.fn.requests)

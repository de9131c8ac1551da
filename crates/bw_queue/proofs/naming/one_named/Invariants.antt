use Rattle.std.proofs.Common.{◌≢◌, take}
use Rattle.std.specs.List.{All}
use Rattle.bw_queue.proofs.naming.one_named.Given as goal

-- none so far has the name
abbrev pub invariant-loop-recording : goal.invariant-loop-recording
invariant-loop-recording l = All (λ recording. recording.name ≢ l.name) (take l.recording-index l.recordings)

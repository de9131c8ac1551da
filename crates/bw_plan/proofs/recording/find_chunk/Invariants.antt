use Rattle.std.proofs.Common.{◌≡◌, drop}
use Rattle.bw_model.specs.Reading.{entry_of}
use Rattle.bw_plan.proofs.recording.find_chunk.Given as goal

abbrev pub invariant-loop-i : goal.invariant-loop-i
invariant-loop-i l = entry_of l.fn.id l.chunks ≡ entry_of l.fn.id (drop l._i l.chunks)

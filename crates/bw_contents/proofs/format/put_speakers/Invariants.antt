use Rattle.std.proofs.Common.{◌≡◌, ◌++◌, drop}
use Rattle.bw_contents.specs.Formats.{speaker_names, speakers_in}
use Rattle.bw_contents.proofs.format.put_speakers.Given as goal

abbrev pub invariant-loop-bit : goal.invariant-loop-bit
invariant-loop-bit l = l.text.items ++ speakers_in (drop l.bit speaker_names) l.rest
    ≡ l.fn.text.items ++ speakers_in speaker_names l.mask

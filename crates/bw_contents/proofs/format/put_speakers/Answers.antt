use Rattle.std.proofs.Common.{◌∙◌, ◌++◌, ◌%◌, List, ℕ, ap, arith}
use Rattle.bw_contents.specs.Formats.{speaker_names, speaker_text}
use Rattle.bw_contents.proofs.Masks.{speaker_put}
use Rattle.bw_contents.proofs.format.put_speakers.Goals as goal

pub loop-bit-preserved : goal.loop-bit-preserved
loop-bit-preserved c =
    speaker_put speaker_names c.loop-bit.bit c.loop-bit.rest c.loop-bit.text.items c.put_speaker.new.text.items _
    (omega (arith, c.loop-bit-test.true))
    (c.in_ok-put_speaker.ensures
    ∙ ap (λ (name : List ℕ). c.loop-bit.text.items ++ speaker_text name (c.loop-bit.rest % 2)) c.speaker_name.ensures)
    c.loop-bit.invariant

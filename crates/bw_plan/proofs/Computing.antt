-- What a proof unfolds to compute plans of literals.
use Rattle.std.specs.Prelude.{⊤}
use Rattle.std.specs.Char.{encode_utf8}
use Rattle.std.specs.Str.{chars, is_utf8}
use Rattle.unicode_normalization.proofs.Computing.{unicode_normalization}
use Rattle.bw_model.proofs.Computing as model
use Rattle.bw_plan.specs.CleanedTexts.{base_letter}
use Rattle.bw_plan.specs.Recordings.{outline_of, recording_of}
use Rattle.bw_plan.specs.Plans.{plan}
use Rattle.bw_plan.specs.PcmRecordings.{pcm_outline_of, pcm_recording_of}

unfoldable pub computing : ⊤
unfolding model.computing outline_of recording_of plan pcm_outline_of pcm_recording_of base_letter chars is_utf8 encode_utf8
    unicode_normalization
computing = tt

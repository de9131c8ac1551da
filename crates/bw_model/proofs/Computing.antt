-- What a proof unfolds to compute these definitions on literals.
use Rattle.std.specs.Prelude.{⊤}
use Rattle.std.specs.Fmt.{digits}
use Rattle.sha2.specs.Sha256.{sha256, digest_bytes, hash_after, compress, rounds, schedule, first_words}
use Rattle.bw_model.specs.Take.{judge}
use Rattle.bw_model.specs.File.{file_with, form_of, form_len, header}
use Rattle.bw_model.specs.Reading.{outer, next, walk, read}
use Rattle.bw_model.specs.Report.{report_of, report_text}
use Rattle.bw_model.specs.Wire.{decoded}
use Rattle.bw_model.specs.Replies.{decoded_reply}
use Rattle.bw_model.specs.Stream.{first_frame, stream_of}
use Rattle.bw_model.specs.Book.{made}
use Rattle.bw_model.specs.Turn.{served, own_reply, turn_by, turn}
use Rattle.bw_model.specs.World.{happens}

unfoldable pub computing : ⊤
unfolding judge file_with form_of form_len header outer next walk read report_of report_text decoded decoded_reply
    first_frame stream_of made served own_reply turn_by turn happens digits sha256 digest_bytes hash_after compress
    rounds schedule first_words
computing = tt

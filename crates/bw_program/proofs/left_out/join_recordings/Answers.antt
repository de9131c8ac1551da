use Rattle.std.proofs.Common.{refl}
use Rattle.bw_program.proofs.LeftOutLemmas.{joining_named}
use Rattle.bw_program.proofs.left_out.join_recordings.Goals as goal

pub returns : goal.returns
returns g c =
    let l = c.join_files.ensures in
    let named = joining_named (g.X.Files.RecordingFiles.file_at c.args.outside.now.files) _ _ _ _ _ _
    c.as_str.ensures.value c.as_str-2.ensures.value l.3 in
    ((l.0, l.1, l.2, named, l.4, l.5), refl, refl, refl, refl, refl)

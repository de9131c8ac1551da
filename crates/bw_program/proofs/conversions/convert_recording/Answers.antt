use Rattle.std.proofs.Common.{refl}
use Rattle.bw_program.proofs.ConversionLemmas.{conversion_named}
use Rattle.bw_program.proofs.conversions.convert_recording.Goals as goal

pub returns : goal.returns
returns g c =
    let l = c.convert_file.ensures in
    let named = conversion_named g.X.Disk.Disk (g.X.Files.RecordingFiles.file_at c.args.outside.now.files)
    _ _ _ _ _ _ _ _ _ _ c.as_str.ensures.value c.as_str-2.ensures.value c.form_for.ensures l.3 in
    ((l.0, l.1, l.2, named, l.4, l.5), refl, refl, refl, refl)

use Rattle.std.proofs.Common.{◌∙◌, Some, ap, sym}
use Rattle.std.specs.Prelude.{option_map, string_bytes}
use Rattle.bw_program.proofs.RequestLemmas.{any_kept, any_new}
use Rattle.bw_program.proofs.uploads.send_file_as.Goals as goal

pub returns-in-None : goal.returns-in-None
returns-in-None g c = any_new _ _ _ _ _ _ _ (ap (option_map string_bytes) c.in-None.is) c.send_new.ensures

pub returns-in-Some : goal.returns-in-Some
returns-in-Some g c = any_kept _ _ _ _ _ _ _
    (ap (option_map string_bytes) c.in-Some.is ∙ ap Some (sym c.as_str.ensures.value)) c.send_kept.ensures

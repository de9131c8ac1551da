use Rattle.bw_end_to_end.proofs.RecordedFileLaws.{recorders_have_files}
use Rattle.bw_end_to_end.proofs.c_promise.law_recorded_files.Goals as goal

pub returns : goal.returns
returns g c = record {
  in_table = recorders_have_files _ c.promise.ensures.in_table;
  in_folder = recorders_have_files _ c.promise.ensures.in_folder;
}

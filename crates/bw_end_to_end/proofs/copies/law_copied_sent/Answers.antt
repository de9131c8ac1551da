use Rattle.bw_end_to_end.proofs.SentCopies.{file_uploads, pcm_uploads, sent_files_are_copied}
use Rattle.bw_end_to_end.proofs.copies.law_copied_sent.Goals as goal

pub returns : goal.returns
returns g c =
    let sent = c.law_file_sent.ensures in
    let new = c.law_uploaded.ensures.new in
    let table = c.promise.ensures.in_table in
    let folder = c.promise.ensures.in_folder in
    record {
      uploads = file_uploads _ _ _ _ _ _ sent new table;
      pcm = pcm_uploads _ _ _ _ _ _ sent new table;
      commands = sent_files_are_copied _ _ _ _ _ _ sent new table;
      uploads_in_folder = file_uploads _ _ _ _ _ _ sent new folder;
      pcm_in_folder = pcm_uploads _ _ _ _ _ _ sent new folder;
      commands_in_folder = sent_files_are_copied _ _ _ _ _ _ sent new folder;
    }

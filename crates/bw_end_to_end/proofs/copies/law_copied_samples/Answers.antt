use Rattle.bw_end_to_end.proofs.SentSamples.{finished_copied, followed_copied}
use Rattle.bw_end_to_end.proofs.copies.law_copied_samples.Goals as goal

pub returns : goal.returns
returns g c =
    let sent = c.law_file_sent.ensures in
    let pcm = c.law_copied_sent.ensures.pcm in
    let pcm_in_folder = c.law_copied_sent.ensures.pcm_in_folder in
    record {
      finished = finished_copied _ _ _ _ _ _ sent pcm;
      followed = followed_copied _ _ _ _ _ _ sent pcm;
      finished_in_folder = finished_copied _ _ _ _ _ _ sent pcm_in_folder;
      followed_in_folder = followed_copied _ _ _ _ _ _ sent pcm_in_folder;
    }

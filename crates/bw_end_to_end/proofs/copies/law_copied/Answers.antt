use Rattle.bw_end_to_end.proofs.Carried.{file_carried, pcm_carried}
use Rattle.bw_end_to_end.proofs.CarriedNumbers.{file_numbers, pcm_numbers, samples_bytes}
use Rattle.bw_end_to_end.proofs.Cleaned.{cleans_once}
use Rattle.bw_end_to_end.proofs.CopiedFiles.{copied}
use Rattle.bw_end_to_end.proofs.FittingRequests.{plan_fits}
use Rattle.bw_end_to_end.proofs.EqualCopies.{copies_are_equal, pcm_copies_are_equal}
use Rattle.bw_end_to_end.proofs.copies.law_copied.Goals as goal

pub returns : goal.returns
returns c = record {
  files = λ b o r fits allowed of_bytes is.
      copied o r (file_carried b o r allowed is) (file_numbers b o r fits of_bytes is);
  pcm = λ b o p r allowed of_bytes is. copied o r (pcm_carried b o p r allowed is) (pcm_numbers b o p r of_bytes is);
  equal = copies_are_equal;
  pcm_equal = pcm_copies_are_equal;
  fit = λ b o r fits allowed of_bytes is.
      plan_fits o r (file_carried b o r allowed is) (file_numbers b o r fits of_bytes is) (samples_bytes b o r fits is);
  once = cleans_once;
}

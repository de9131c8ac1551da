use Rattle.bw_end_to_end.proofs.ExamplesOfCopies as rows
use Rattle.bw_end_to_end.proofs.copies.examples_of_copies.Goals as goal

pub returns : goal.returns
returns c = record {
  same_file = rows.same_file;
  extensible = rows.extensible;
  cleaned = rows.cleaned;
  again = rows.read_again;
  not_given = rows.not_given;
  pcm = rows.pcm;
}

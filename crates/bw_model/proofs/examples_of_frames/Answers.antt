use Rattle.bw_model.proofs.ExamplesOfFrames.{rows}
use Rattle.bw_model.proofs.examples_of_frames.Goals as goal

pub returns : goal.returns
returns c = search rows

use Rattle.bw_model.proofs.ExamplesOfReadings.{rows}
use Rattle.bw_model.proofs.ManyChunks.{many_chunks, too_many_chunks}
use Rattle.bw_model.proofs.examples_of_readings.Goals as goal

pub returns : goal.returns
returns c = search (rows, many_chunks, too_many_chunks)

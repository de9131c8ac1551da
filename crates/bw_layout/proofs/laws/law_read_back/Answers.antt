use Rattle.bw_layout.proofs.ReadBack.{heads_read_back, formats_read_back, entries_read_back, ds64_reads_back}
use Rattle.bw_layout.proofs.ReadBack.{cue_points_read_back, cues_read_back}
use Rattle.bw_layout.proofs.FieldsBack.{fields_read_back}
use Rattle.bw_layout.proofs.laws.law_read_back.Goals as goal

pub returns : goal.returns
returns c = record {
  heads = heads_read_back;
  formats = formats_read_back;
  fields = fields_read_back;
  entries = entries_read_back;
  sizes = ds64_reads_back;
  cue_points = cue_points_read_back;
  cues = cues_read_back;
}

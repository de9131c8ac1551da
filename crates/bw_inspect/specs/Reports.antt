-- A report in the words of the definitions.
use Rattle.std.specs.Prelude.{ℕ, List, Option, Some, option_map, codes, slice_range}
use Rattle.bw_model.specs.Reading as reading
use Rattle.bw_model.specs.Report as report
use Rattle.bw_inspect.specs.declared.report.BextChunk.{BextChunk}
use Rattle.bw_inspect.specs.declared.report.Report.{Report}

-- the fields of `bext` and its history's length, as they are reported
abbrev pub bext_by : BextChunk → report.RawBext × ℕ
bext_by x = (x.fields.0, x.history_len)

-- the reserved bytes of `bext`, which are kept and not reported
abbrev pub reserved_by : Report → Option (List ℕ)
reserved_by r = option_map (λ (x : BextChunk). x.fields.1) r.bext

-- the reserved bytes of the `bext` chunk among these, as they are in b
abbrev pub reserved_in : List ℕ → List reading.Entry → Option (List ℕ)
reserved_in b entries =
    option_map (λ (e : reading.Entry). slice_range (report.content_of b (Some e)) 422 602)
    (reading.entry_of (codes "bext") entries)

-- the same report
abbrev pub reported_by : Report → report.Report
reported_by r = record {
  form = r.form;
  size = r.size;
  chunks = r.chunks;
  fmt = r.fmt;
  data_at = r.data_at;
  data_size = r.data_size;
  bext = option_map bext_by r.bext;
  cues = r.cues;
}

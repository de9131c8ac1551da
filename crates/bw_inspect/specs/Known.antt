-- What is known from the chunks so far.
use Rattle.std.specs.Prelude.{ℕ, ◌+◌, ◌-◌, ◌≤◌, Bool, false, List, [], length, codes, Option, Some}
use Rattle.std.specs.Prelude.{None, option_map, is_some, unwrap_or}
use Rattle.bw_model.specs.Limits.{most_cues}
use Rattle.bw_model.specs.Reading as reading
use Rattle.bw_model.specs.Report as report
use Rattle.bw_model.specs.Bytes.{u32_at}
use Rattle.bw_inspect.specs.declared.walk.Known.{Known}
use Rattle.bw_inspect.specs.declared.walk.Samples.{Samples}
use Rattle.bw_inspect.specs.declared.chunk.ChunkKind.{ChunkKind}
use Rattle.bw_inspect.specs.declared.chunk.ChunkKind.TheVariants.{Fmt, Bext, Data, Cue, Other}
use Rattle.bw_inspect.specs.declared.report.BextChunk.{BextChunk}
use Rattle.bw_layout.specs.Raw.{bext_at}

-- a `bext` chunk with its reserved bytes, and its history's length
abbrev pub bext_kept : BextChunk → (report.RawBext × List ℕ) × ℕ
bext_kept x = (x.fields, x.history_len)

-- what is known, in the words of the definitions
pub record Facts : Type 0 where
  pub fmt : Option report.RawFmt
  pub samples : Option (ℕ × ℕ)
  pub bext : Option ((report.RawBext × List ℕ) × ℕ)
  pub cues : Option (List report.RawCue)

-- the same facts
abbrev pub facts_of : Known → Facts
facts_of k = record {
  fmt = k.fmt;
  samples = option_map (λ (s : Samples). (s.at, s.size)) k.samples;
  bext = option_map bext_kept k.bext;
  cues = k.cues;
}

-- there are no more points than allowed
abbrev pub HasFewCues : Known → Type 0
HasFewCues k = length (unwrap_or k.cues []) ≤ most_cues

-- before the first chunk
abbrev pub nothing : Facts
nothing = record { fmt = None; samples = None; bext = None; cues = None }

-- what `fmt ` says
abbrev pub fmt_reported : List ℕ → reading.Entry → report.RawFmt
fmt_reported b e = report.raw_fmt (report.content_of b (Some e))

-- where the samples begin, and a data chunk's size
abbrev pub samples_reported : reading.Entry → ℕ × ℕ
samples_reported e = (e.place + 8, e.size)

-- what `bext` says, and how long its coding history is
abbrev pub bext_reported : List ℕ → reading.Entry → (report.RawBext × List ℕ) × ℕ
bext_reported b e = (bext_at (report.content_of b (Some e)), e.size - 602)

-- the cue points in `cue `
abbrev pub cues_reported : List ℕ → reading.Entry → List report.RawCue
cues_reported b e = report.raw_cues (report.content_of b (Some e)) 4
    (u32_at (report.content_of b (Some e)) 0)

-- what the chunks seen say
abbrev pub facts_in : List ℕ → List reading.Entry → Facts
facts_in b seen = record {
  fmt = option_map (fmt_reported b) (reading.entry_of (codes "fmt ") seen);
  samples = option_map samples_reported (reading.entry_of (codes "data") seen);
  bext = option_map (bext_reported b) (reading.entry_of (codes "bext") seen);
  cues = option_map (cues_reported b) (reading.entry_of (codes "cue ") seen);
}

-- whether a chunk of that kind was seen
abbrev pub has_kind : ChunkKind → Facts → Bool
has_kind Fmt k = is_some k.fmt
has_kind Bext k = is_some k.bext
has_kind Data k = is_some k.samples
has_kind Cue k = is_some k.cues
has_kind Other k = false

-- what is known with one more chunk
abbrev pub learned : List ℕ → ChunkKind → reading.Entry → Facts → Facts
learned b Fmt e k = record k { fmt = Some (fmt_reported b e) }
learned b Bext e k = record k { bext = Some (bext_reported b e) }
learned b Data e k = record k { samples = Some (samples_reported e) }
learned b Cue e k = record k { cues = Some (cues_reported b e) }
learned b Other e k = k

-- The forms of `send` with headerless samples, in plain words, and what each results in.
use Rattle.std.specs.Prelude.{true, false, List, [], ◌∷◌, ◌++◌, Some, None, codes}
use Rattle.std.specs.declared.net.socket_addr.SocketAddr.{SocketAddr}
use Rattle.clap.specs.Walk.{Text}
use Rattle.bw_args.specs.Numbers.{IsCountText, IsNumber, default_fruitless, default_timeout}
use Rattle.bw_args.specs.Numbers.{most_block, most_fruitless, most_rate, number_written}
use Rattle.bw_args.specs.PcmSources.{IsFormatText, samples_with}
use Rattle.bw_args.specs.Lines.{PcmUpload, SendingPcm}
use Rattle.bw_args.specs.Forms.{RunsFor}
use Rattle.bw_args.specs.PeerForms.{ForSender, ReportsBad}
use Rattle.bw_args.specs.FileForms.{source_at, with_file}
use Rattle.bw_args.specs.declared.CommandLine.{CommandLine}
use Rattle.bw_args.specs.declared.bad_value.BadValue.TheVariants.{LeftOut, Pcm, Receipt, Skip, Block}
use Rattle.bw_args.specs.declared.bad_value.BadValue.TheVariants.{MixedSamples}
use Rattle.bw_args.specs.declared.commands.samples.WrittenFormat.{WrittenFormat}

-- the sender of headerless samples of which only address, name, file and format are said
abbrev pub plain_pcm_upload : SocketAddr → Text → Text → WrittenFormat → PcmUpload
plain_pcm_upload address name path format = record {
  connect = address;
  name = name;
  source = source_at path;
  pcm = samples_with None None None None false true format;
  timeout = default_timeout;
  fruitless = Some default_fruitless;
  log = false;
  rate = None;
}

-- `--file=FILE --pcm=RATE,CHANNELS,BITS`, and what follows
abbrev pub with_pcm : Text → Text → List Text → List Text
with_pcm path text more = with_file path ((codes "--pcm=" ++ text) ∷ more)

-- `--spool=SPOOL --pcm=RATE,CHANNELS,BITS`, and what follows
abbrev pub with_spool : Text → Text → List Text → List Text
with_spool path text more = (codes "--spool=" ++ path) ∷ (codes "--pcm=" ++ text) ∷ more

-- the line runs the plain sender of such samples with this change
abbrev pub AsksToSendPcm : CommandLine → Text → WrittenFormat → (PcmUpload → PcmUpload) →
    SocketAddr → Text → Type 0
AsksToSendPcm line path format change address name =
    RunsFor (SendingPcm (change (plain_pcm_upload address name path format))) line

-- `send --connect=ADDR --name=NAME --file=FILE --pcm=RATE,CHANNELS,BITS` runs, with each of its
-- options
pub record RunsPcmSender (words : List Text) (line : CommandLine) : Type 0 where
  pub alone : (path text : Text) (format : WrittenFormat) → IsFormatText text format
      → ForSender false words (with_pcm path text []) (AsksToSendPcm line path format (λ s. s))
  -- with `--skip=BYTES`
  pub skip : (path text bytes : Text) (format : WrittenFormat) → IsFormatText text format
      → IsNumber bytes → ForSender false words (with_pcm path text ((codes "--skip=" ++ bytes) ∷ []))
      (AsksToSendPcm line path format (λ s.
      record s { pcm = record s.pcm { skip = number_written bytes } }))
  -- with `--block=FRAMES`
  pub block : (path text frames : Text) (format : WrittenFormat) → IsFormatText text format
      → IsCountText most_block frames
      → ForSender false words (with_pcm path text ((codes "--block=" ++ frames) ∷ []))
      (AsksToSendPcm line path format (λ s.
      record s { pcm = record s.pcm { block = Some (number_written frames) } }))
  -- with `--follow --until=END` it never gives up
  pub follow : (path text end : Text) (format : WrittenFormat) → IsFormatText text format
      → ForSender false words
      (with_pcm path text (codes "--follow" ∷ (codes "--until=" ++ end) ∷ []))
      (AsksToSendPcm line path format (λ s.
      record s { pcm = record s.pcm { until = Some end }; fruitless = None }))
  -- unless `--fruitless=N` is given too
  pub fruitless : (path text end count : Text) (format : WrittenFormat) → IsFormatText text format
      → IsCountText most_fruitless count → ForSender false words
      (with_pcm path text
      (codes "--follow" ∷ (codes "--until=" ++ end) ∷ (codes "--fruitless=" ++ count) ∷ []))
      (AsksToSendPcm line path format (λ s.
      record s { pcm = record s.pcm { until = Some end }; fruitless = Some (number_written count) }))
  -- `--spool=SPOOL --pcm=RATE,CHANNELS,BITS` in place of a file; it never gives up
  pub spool : (path text : Text) (format : WrittenFormat) → IsFormatText text format
      → ForSender false words (with_spool path text []) (AsksToSendPcm line path format (λ s.
      record s { pcm = record s.pcm { is_spooled = true }; fruitless = None }))
  -- with `--no-defaults`
  pub no_defaults : (path text : Text) (format : WrittenFormat) → IsFormatText text format
      → ForSender false words (with_pcm path text (codes "--no-defaults" ∷ []))
      (AsksToSendPcm line path format (λ s. record s { pcm = record s.pcm { defaults = false } }))
  -- with `--marks=MARKS` too
  pub marks : (path text marks : Text) (format : WrittenFormat) → IsFormatText text format
      → ForSender false words (with_spool path text ((codes "--marks=" ++ marks) ∷ []))
      (AsksToSendPcm line path format (λ s.
      record s { pcm = record s.pcm { is_spooled = true; marks = Some marks }; fruitless = None }))
  -- with `--rate=BYTES`
  pub rate : (path text bytes : Text) (format : WrittenFormat) → IsFormatText text format
      → IsCountText most_rate bytes
      → ForSender false words (with_pcm path text ((codes "--rate=" ++ bytes) ∷ []))
      (AsksToSendPcm line path format (λ s. record s { rate = Some (number_written bytes) }))

-- options that don't belong together, and bad values, are faults
pub record RefusesSamples (words : List Text) (line : CommandLine) : Type 0 where
  -- with `--pcm=TEXT`, where that is no format
  pub format : (path text : Text) → ((format : WrittenFormat) → ¬ IsFormatText text format)
      → ForSender false words (with_pcm path text []) (ReportsBad line Pcm)
  -- with `--skip=BYTES`, where that is no number
  pub skip : (path text bytes : Text) (format : WrittenFormat) → IsFormatText text format
      → ¬ IsNumber bytes → ForSender false words (with_pcm path text ((codes "--skip=" ++ bytes) ∷ []))
      (ReportsBad line Skip)
  -- with `--block=FRAMES`, where that is no such number
  pub block : (path text frames : Text) (format : WrittenFormat) → IsFormatText text format
      → ¬ IsCountText most_block frames
      → ForSender false words (with_pcm path text ((codes "--block=" ++ frames) ∷ []))
      (ReportsBad line Block)
  -- `--pcm=RATE,CHANNELS,BITS` without a file
  pub fileless : (text : Text) (format : WrittenFormat) → IsFormatText text format
      → ForSender false words ((codes "--pcm=" ++ text) ∷ []) (ReportsBad line MixedSamples)
  -- with `--follow` alone
  pub follow : (path text : Text) (format : WrittenFormat) → IsFormatText text format
      → ForSender false words (with_pcm path text (codes "--follow" ∷ [])) (ReportsBad line MixedSamples)
  -- with `--until=END` alone
  pub until : (path text end : Text) (format : WrittenFormat) → IsFormatText text format
      → ForSender false words (with_pcm path text ((codes "--until=" ++ end) ∷ []))
      (ReportsBad line MixedSamples)
  -- with `--marks=MARKS` alone
  pub marks : (path text marks : Text) (format : WrittenFormat) → IsFormatText text format
      → ForSender false words (with_pcm path text ((codes "--marks=" ++ marks) ∷ []))
      (ReportsBad line MixedSamples)
  -- with `--state=STATE`
  pub state : (path text state : Text) (format : WrittenFormat) → IsFormatText text format
      → ForSender false words (with_pcm path text ((codes "--state=" ++ state) ∷ []))
      (ReportsBad line MixedSamples)
  -- with `--receipt=RECEIPTS`
  pub receipt : (path text receipts : Text) (format : WrittenFormat) → IsFormatText text format
      → ForSender false words (with_pcm path text ((codes "--receipt=" ++ receipts) ∷ []))
      (ReportsBad line Receipt)
  -- `--spool=SPOOL --pcm=RATE,CHANNELS,BITS` with `--receipt=RECEIPTS`
  pub spool_receipt : (path text receipts : Text) (format : WrittenFormat) → IsFormatText text format
      → ForSender false words (with_spool path text ((codes "--receipt=" ++ receipts) ∷ []))
      (ReportsBad line Receipt)
  -- with `--keep-left-out=LEFT`
  pub left_out : (path text left : Text) (format : WrittenFormat) → IsFormatText text format
      → ForSender false words (with_pcm path text ((codes "--keep-left-out=" ++ left) ∷ []))
      (ReportsBad line LeftOut)
  -- `--spool=SPOOL --pcm=RATE,CHANNELS,BITS` with `--keep-left-out=LEFT`
  pub spool_left_out : (path text left : Text) (format : WrittenFormat) → IsFormatText text format
      → ForSender false words (with_spool path text ((codes "--keep-left-out=" ++ left) ∷ []))
      (ReportsBad line LeftOut)
  -- with `--spool=SPOOL` beside the file
  pub two_files : (path text spool : Text) (format : WrittenFormat) → IsFormatText text format
      → ForSender false words (with_pcm path text ((codes "--spool=" ++ spool) ∷ []))
      (ReportsBad line MixedSamples)
  -- `--spool=SPOOL --pcm=RATE,CHANNELS,BITS` with `--follow --until=END`
  pub two_ends : (path text end : Text) (format : WrittenFormat) → IsFormatText text format
      → ForSender false words
      (with_spool path text (codes "--follow" ∷ (codes "--until=" ++ end) ∷ []))
      (ReportsBad line MixedSamples)
  -- `--spool=SPOOL` alone
  pub unformatted : (path : Text)
      → ForSender false words ((codes "--spool=" ++ path) ∷ []) (ReportsBad line MixedSamples)
  -- with `--file=FILE --no-defaults` alone
  pub no_defaults : (path : Text)
      → ForSender false words (with_file path (codes "--no-defaults" ∷ [])) (ReportsBad line MixedSamples)
  -- with `--file=FILE --skip=BYTES` alone
  pub formatless : (path bytes : Text) → IsNumber bytes
      → ForSender false words (with_file path ((codes "--skip=" ++ bytes) ∷ []))
      (ReportsBad line MixedSamples)

-- The forms of `pack` and of `send` with a recording, in plain words, and what each results in.
use Rattle.std.specs.Prelude.{◌≡◌, true, false, Some, None, List, [], ◌∷◌, ◌++◌, codes}
use Rattle.std.specs.declared.net.socket_addr.SocketAddr.{SocketAddr}
use Rattle.clap.specs.Walk.{Text}
use Rattle.clap.specs.declared.error.ErrorKind.TheVariants.{MissingRequiredArgument}
use Rattle.bw_args.specs.Numbers.{IsCountText, default_fruitless, default_timeout, most_fruitless}
use Rattle.bw_args.specs.Numbers.{most_rate, most_rounds, most_seconds, number_written}
use Rattle.bw_args.specs.ReceiptOptions.{target}
use Rattle.bw_args.specs.Sources.{PlainSource}
use Rattle.bw_args.specs.Lines.{Packing, FileUpload, Uploading}
use Rattle.bw_args.specs.Forms.{IsPlain, IsReportedAs, RunsFor}
use Rattle.bw_args.specs.PeerForms.{ForSender, ReportsBad}
use Rattle.bw_args.specs.declared.CommandLine.{CommandLine}
use Rattle.bw_args.specs.declared.CommandLine.TheVariants.{BadValue as Bad}
use Rattle.bw_args.specs.declared.bad_value.BadValue.TheVariants.{Fruitless, LeftOut, Mixed, Rate, Receipt}

-- a file of which nothing else is said
abbrev pub source_at : Text → PlainSource
source_at path = record {
  path = path;
  settings = [];
  strict = false;
  strict_texts = false;
  left_out = None;
}

-- `pack FILE` runs, with each of its options, whatever the program's name
pub record RunsPack (words : List Text) (line : CommandLine) : Type 0 where
  -- `pack FILE`
  pub alone : (program path : Text) → IsPlain path
      → words ≡ program ∷ codes "pack" ∷ path ∷ [] → RunsFor (Packing (source_at path)) line
  -- `pack --strict FILE`
  pub strict : (program path : Text) → IsPlain path
      → words ≡ program ∷ codes "pack" ∷ codes "--strict" ∷ path ∷ []
      → RunsFor (Packing (record (source_at path) { strict = true })) line
  -- `pack --strict-texts FILE`
  pub strict_texts : (program path : Text) → IsPlain path
      → words ≡ program ∷ codes "pack" ∷ codes "--strict-texts" ∷ path ∷ []
      → RunsFor (Packing (record (source_at path) { strict_texts = true })) line
  -- `pack --set=A --set=B FILE`
  pub sets : (program path a b : Text) → IsPlain path
      → words ≡ program ∷ codes "pack" ∷ (codes "--set=" ++ a) ∷ (codes "--set="
      ++ b) ∷ path ∷ []
      → RunsFor (Packing (record (source_at path) { settings = a ∷ b ∷ [] })) line
  -- `pack --keep-left-out=LEFT FILE`
  pub left_out : (program path left : Text) → IsPlain path
      → words ≡ program ∷ codes "pack" ∷ (codes "--keep-left-out=" ++ left) ∷ path ∷ []
      → RunsFor (Packing (record (source_at path) { left_out = Some left })) line
  -- `pack --strict-texts --keep-left-out=LEFT FILE`
  pub left_out_texts : (program path left : Text) → IsPlain path
      → words ≡ program ∷ codes "pack" ∷ codes "--strict-texts"
      ∷ (codes "--keep-left-out=" ++ left) ∷ path ∷ []
      → RunsFor (Packing (record (source_at path) { strict_texts = true; left_out = Some left })) line
  -- `pack --strict --keep-left-out=LEFT FILE`
  pub left_out_strict : (program path left : Text) → IsPlain path
      → words ≡ program ∷ codes "pack" ∷ codes "--strict"
      ∷ (codes "--keep-left-out=" ++ left) ∷ path ∷ []
      → line ≡ Bad LeftOut
  -- `pack`
  pub none : (program : Text) → words ≡ program ∷ codes "pack" ∷ []
      → IsReportedAs MissingRequiredArgument line

-- the sender of a recording of which only address, name and file are said
abbrev pub plain_upload : SocketAddr → Text → Text → FileUpload
plain_upload address name path = record {
  connect = address;
  name = name;
  source = source_at path;
  timeout = default_timeout;
  fruitless = default_fruitless;
  log = false;
  state = None;
  receipt = None;
  rate = None;
}

-- `--file=FILE`, and what follows
abbrev pub with_file : Text → List Text → List Text
with_file path more = (codes "--file=" ++ path) ∷ more

-- the line runs the plain sender of this file with this change
abbrev pub AsksToUpload : CommandLine → Text → (FileUpload → FileUpload) → SocketAddr → Text →
    Type 0
AsksToUpload line path change address name =
    RunsFor (Uploading (change (plain_upload address name path))) line

-- `send --connect=ADDR --name=NAME --file=FILE` runs, with each of its options
pub record RunsFileSender (words : List Text) (line : CommandLine) : Type 0 where
  pub alone : (path : Text) → ForSender false words (with_file path [])
      (AsksToUpload line path (λ s. s))
  -- with `--set=A --set=B`
  pub sets : (path a b : Text) → ForSender false words
      (with_file path ((codes "--set=" ++ a) ∷ (codes "--set=" ++ b) ∷ []))
      (AsksToUpload line path (λ s.
      record s { source = record s.source { settings = a ∷ b ∷ [] } }))
  -- with `--strict`
  pub strict : (path : Text) → ForSender false words (with_file path (codes "--strict" ∷ []))
      (AsksToUpload line path (λ s. record s { source = record s.source { strict = true } }))
  -- with `--strict-texts`
  pub strict_texts : (path : Text) → ForSender false words (with_file path (codes "--strict-texts" ∷ []))
      (AsksToUpload line path (λ s. record s { source = record s.source { strict_texts = true } }))
  -- with `--keep-left-out=LEFT`
  pub left_out : (path left : Text)
      → ForSender false words (with_file path ((codes "--keep-left-out=" ++ left) ∷ []))
      (AsksToUpload line path (λ s. record s { source = record s.source { left_out = Some left } }))
  -- with `--fruitless=N`
  pub fruitless : (path count : Text) → IsCountText most_fruitless count
      → ForSender false words (with_file path ((codes "--fruitless=" ++ count) ∷ []))
      (AsksToUpload line path (λ s. record s { fruitless = number_written count }))
  -- with `--timeout=SECONDS`
  pub timeout : (path seconds : Text) → IsCountText most_seconds seconds
      → ForSender false words (with_file path ((codes "--timeout=" ++ seconds) ∷ []))
      (AsksToUpload line path (λ s. record s { timeout = number_written seconds }))
  -- with `--log`
  pub log : (path : Text) → ForSender false words (with_file path (codes "--log" ∷ []))
      (AsksToUpload line path (λ s. record s { log = true }))
  -- with `--state=STATE`
  pub state : (path state : Text)
      → ForSender false words (with_file path ((codes "--state=" ++ state) ∷ []))
      (AsksToUpload line path (λ s. record s { state = Some state }))
  -- with `--rate=BYTES`
  pub rate : (path bytes : Text) → IsCountText most_rate bytes
      → ForSender false words (with_file path ((codes "--rate=" ++ bytes) ∷ []))
      (AsksToUpload line path (λ s. record s { rate = Some (number_written bytes) }))
  -- with `--receipt=RECEIPTS`
  pub receipt : (path receipts : Text)
      → ForSender false words (with_file path ((codes "--receipt=" ++ receipts) ∷ []))
      (AsksToUpload line path (λ s. record s { receipt = Some (target false receipts) }))
  -- with `--receipt=RECEIPTS --json`
  pub receipt_json : (path receipts : Text)
      → ForSender false words (with_file path ((codes "--receipt=" ++ receipts) ∷ codes "--json" ∷ []))
      (AsksToUpload line path (λ s. record s { receipt = Some (target true receipts) }))
  -- with `--network`
  pub network : (path : Text) → ForSender true words (with_file path (codes "--network" ∷ []))
      (AsksToUpload line path (λ s. s))

-- options that don't belong together, and bad values, are faults
pub record RefusesFiles (words : List Text) (line : CommandLine) : Type 0 where
  -- with `--file=FILE --rounds=N`
  pub rounds : (path count : Text) → IsCountText most_rounds count
      → ForSender false words (with_file path ((codes "--rounds=" ++ count) ∷ []))
      (ReportsBad line Mixed)
  -- without it, `--set=A`
  pub sets : (a : Text) → ForSender false words ((codes "--set=" ++ a) ∷ []) (ReportsBad line Mixed)
  -- `--strict`
  pub strict : ForSender false words (codes "--strict" ∷ []) (ReportsBad line Mixed)
  -- `--strict-texts`
  pub strict_texts : ForSender false words (codes "--strict-texts" ∷ []) (ReportsBad line Mixed)
  -- `--log`
  pub log : ForSender false words (codes "--log" ∷ []) (ReportsBad line Mixed)
  -- `--state=STATE`
  pub state : (state : Text) → ForSender false words ((codes "--state=" ++ state) ∷ [])
      (ReportsBad line Mixed)
  -- `--receipt=RECEIPTS`
  pub receipt : (receipts : Text) → ForSender false words ((codes "--receipt=" ++ receipts) ∷ [])
      (ReportsBad line Mixed)
  -- `--keep-left-out=LEFT`
  pub left_out : (left : Text) → ForSender false words ((codes "--keep-left-out=" ++ left) ∷ [])
      (ReportsBad line Mixed)
  -- `--json`
  pub json : ForSender false words (codes "--json" ∷ []) (ReportsBad line Mixed)
  -- `--rate=BYTES`
  pub rate : (bytes : Text) → IsCountText most_rate bytes
      → ForSender false words ((codes "--rate=" ++ bytes) ∷ []) (ReportsBad line Mixed)
  -- `--fruitless=N`
  pub fruitless : (count : Text) → IsCountText most_fruitless count
      → ForSender false words ((codes "--fruitless=" ++ count) ∷ []) (ReportsBad line Mixed)
  -- with `--file=FILE --json` alone
  pub json_alone : (path : Text) → ForSender false words (with_file path (codes "--json" ∷ []))
      (ReportsBad line Receipt)
  -- with `--file=FILE --strict --keep-left-out=LEFT`
  pub left_out_strict : (path left : Text) → ForSender false words
      (with_file path (codes "--strict" ∷ (codes "--keep-left-out=" ++ left) ∷ []))
      (ReportsBad line LeftOut)
  -- with `--file=FILE --fruitless=N`, where N is no such number
  pub bad_fruitless : (path count : Text) → ¬ IsCountText most_fruitless count
      → ForSender false words (with_file path ((codes "--fruitless=" ++ count) ∷ []))
      (ReportsBad line Fruitless)
  -- with `--file=FILE --rate=BYTES`, where BYTES is no such number
  pub bad_rate : (path bytes : Text) → ¬ IsCountText most_rate bytes
      → ForSender false words (with_file path ((codes "--rate=" ++ bytes) ∷ []))
      (ReportsBad line Rate)

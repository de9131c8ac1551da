-- The forms of `send` with several recordings, in plain words, and what each results in.
use Rattle.std.specs.Prelude.{◌≡◌, Bool, true, false, Some, None, List, [], ◌∷◌, ◌++◌, codes}
use Rattle.std.specs.declared.net.socket_addr.SocketAddr.{SocketAddr}
use Rattle.clap.specs.Walk.{Text}
use Rattle.clap.specs.declared.error.ErrorKind.TheVariants.{MissingRequiredArgument}
use Rattle.bw_args.specs.Addresses.{IsAddress}
use Rattle.bw_args.specs.Numbers.{IsCountText, default_fruitless, default_timeout, most_fruitless}
use Rattle.bw_args.specs.Numbers.{most_rate, most_seconds, number_written}
use Rattle.bw_args.specs.ReceiptOptions.{target}
use Rattle.bw_args.specs.SeveralRecordings.{FilesUpload}
use Rattle.bw_args.specs.Lines.{SendingFiles}
use Rattle.bw_args.specs.Forms.{IsPlain, IsReportedAs, RunsFor}
use Rattle.bw_args.specs.PeerForms.{ForSender, ReportsBad}
use Rattle.bw_args.specs.FileForms.{with_file}
use Rattle.bw_args.specs.declared.CommandLine.{CommandLine}
use Rattle.bw_args.specs.declared.CommandLine.TheVariants.{BadValue as Bad}
use Rattle.bw_args.specs.declared.bad_value.BadValue.TheVariants.{Connect, Files, Fruitless, Mixed, Rate}
use Rattle.bw_args.specs.declared.bad_value.BadValue.TheVariants.{Receipt, Timeout}

-- the sender of several recordings of which only address and paths are said
abbrev pub plain_files : SocketAddr → List Text → FilesUpload
plain_files address paths = record {
  connect = address;
  paths = paths;
  names = None;
  settings = [];
  strict = false;
  strict_texts = false;
  timeout = default_timeout;
  fruitless = default_fruitless;
  log = false;
  states = None;
  receipt = None;
  rate = None;
}

-- `send --connect=ADDR`, and what follows
abbrev pub sending_files : Text → Text → List Text → List Text
sending_files program connect more = program ∷ codes "send" ∷ (codes "--connect=" ++ connect) ∷ more

-- with a local address, or under `--network` with any, and a file that doesn't begin with `-`, whatever the
-- program's name, this holds of the line for these further words and then the file
abbrev pub ForFiles : Bool → List Text → List Text → (SocketAddr → Text → Type 0) → Type 0
ForFiles network words more Holds = (program connect path : Text) (address : SocketAddr)
    → IsAddress network connect address → IsPlain path
    → words ≡ sending_files program connect (more ++ path ∷ []) → Holds address path

-- the line runs the plain sender of this file with this change
abbrev pub AsksToSendFiles : CommandLine → (FilesUpload → FilesUpload) → SocketAddr → Text → Type 0
AsksToSendFiles line change address path =
    RunsFor (SendingFiles (change (plain_files address (path ∷ [])))) line

-- `send --connect=ADDR FILE` runs, with more files, and with each of its options
pub record RunsFilesSender (words : List Text) (line : CommandLine) : Type 0 where
  pub alone : ForFiles false words [] (AsksToSendFiles line (λ s. s))
  -- `FILE FILE`
  pub two : (first : Text) → IsPlain first → ForFiles false words (first ∷ [])
      (λ address path. RunsFor (SendingFiles (plain_files address (first ∷ path ∷ []))) line)
  -- `FILE --json --receipt=RECEIPTS FILE`
  pub apart : (first receipts : Text) → IsPlain first → ForFiles false words
      (first ∷ codes "--json" ∷ (codes "--receipt=" ++ receipts) ∷ [])
      (λ address path. RunsFor (SendingFiles (record (plain_files address (first ∷ path ∷ [])) {
        receipt = Some (target true receipts);
      })) line)
  -- with `--names=NAMES`
  pub names : (names : Text) → ForFiles false words ((codes "--names=" ++ names) ∷ [])
      (AsksToSendFiles line (λ s. record s { names = Some names }))
  -- with `--set=A --set=B`
  pub sets : (a b : Text) → ForFiles false words ((codes "--set=" ++ a) ∷ (codes "--set=" ++ b) ∷ [])
      (AsksToSendFiles line (λ s. record s { settings = a ∷ b ∷ [] }))
  -- with `--strict`
  pub strict : ForFiles false words (codes "--strict" ∷ [])
      (AsksToSendFiles line (λ s. record s { strict = true }))
  -- with `--strict-texts`
  pub strict_texts : ForFiles false words (codes "--strict-texts" ∷ [])
      (AsksToSendFiles line (λ s. record s { strict_texts = true }))
  -- with `--timeout=SECONDS`
  pub timeout : (seconds : Text) → IsCountText most_seconds seconds
      → ForFiles false words ((codes "--timeout=" ++ seconds) ∷ [])
      (AsksToSendFiles line (λ s. record s { timeout = number_written seconds }))
  -- with `--fruitless=N`
  pub fruitless : (count : Text) → IsCountText most_fruitless count
      → ForFiles false words ((codes "--fruitless=" ++ count) ∷ [])
      (AsksToSendFiles line (λ s. record s { fruitless = number_written count }))
  -- with `--log`
  pub log : ForFiles false words (codes "--log" ∷ [])
      (AsksToSendFiles line (λ s. record s { log = true }))
  -- with `--state=DIR`
  pub states : (folder : Text) → ForFiles false words ((codes "--state=" ++ folder) ∷ [])
      (AsksToSendFiles line (λ s. record s { states = Some folder }))
  -- with `--receipt=RECEIPTS`
  pub receipt : (receipts : Text) → ForFiles false words ((codes "--receipt=" ++ receipts) ∷ [])
      (AsksToSendFiles line (λ s. record s { receipt = Some (target false receipts) }))
  -- with `--receipt=RECEIPTS --json`
  pub receipt_json : (receipts : Text) → ForFiles false words
      ((codes "--receipt=" ++ receipts) ∷ codes "--json" ∷ [])
      (AsksToSendFiles line (λ s. record s { receipt = Some (target true receipts) }))
  -- with `--rate=BYTES`
  pub rate : (bytes : Text) → IsCountText most_rate bytes
      → ForFiles false words ((codes "--rate=" ++ bytes) ∷ [])
      (AsksToSendFiles line (λ s. record s { rate = Some (number_written bytes) }))
  -- with `--network`
  pub network : ForFiles true words (codes "--network" ∷ []) (AsksToSendFiles line (λ s. s))

-- options that don't go with `send --connect=ADDR FILE`, `--names` without a file, and bad values, are faults
pub record RefusesSeveral (words : List Text) (line : CommandLine) : Type 0 where
  -- with `--name=NAME`
  pub name : (name : Text) → ForFiles false words ((codes "--name=" ++ name) ∷ []) (ReportsBad line Files)
  -- with `--name=NAME --file=FILE`
  pub two_ways : (name file : Text) → ForFiles false words
      ((codes "--name=" ++ name) ∷ (codes "--file=" ++ file) ∷ []) (ReportsBad line Files)
  -- with `--file=FILE`
  pub file : (file : Text) → ForFiles false words ((codes "--file=" ++ file) ∷ []) (ReportsBad line Files)
  -- with `--rounds=N`
  pub rounds : (count : Text) → ForFiles false words ((codes "--rounds=" ++ count) ∷ [])
      (ReportsBad line Files)
  -- with `--keep-left-out=LEFT`
  pub left_out : (left : Text) → ForFiles false words ((codes "--keep-left-out=" ++ left) ∷ [])
      (ReportsBad line Files)
  -- with `--pcm=RATE,CHANNELS,BITS`
  pub pcm : (text : Text) → ForFiles false words ((codes "--pcm=" ++ text) ∷ []) (ReportsBad line Files)
  -- with `--skip=BYTES`
  pub skip : (bytes : Text) → ForFiles false words ((codes "--skip=" ++ bytes) ∷ []) (ReportsBad line Files)
  -- with `--block=FRAMES`
  pub block : (frames : Text) → ForFiles false words ((codes "--block=" ++ frames) ∷ [])
      (ReportsBad line Files)
  -- with `--follow`
  pub follow : ForFiles false words (codes "--follow" ∷ []) (ReportsBad line Files)
  -- with `--until=END`
  pub until : (end : Text) → ForFiles false words ((codes "--until=" ++ end) ∷ []) (ReportsBad line Files)
  -- with `--spool=SPOOL`
  pub spool : (spool : Text) → ForFiles false words ((codes "--spool=" ++ spool) ∷ [])
      (ReportsBad line Files)
  -- with `--no-defaults`
  pub no_defaults : ForFiles false words (codes "--no-defaults" ∷ []) (ReportsBad line Files)
  -- with `--json` alone
  pub json_alone : ForFiles false words (codes "--json" ∷ []) (ReportsBad line Receipt)
  -- where ADDR is no local address
  pub connect : (program connect path : Text) → ((address : SocketAddr) → ¬ IsAddress false connect address)
      → IsPlain path → words ≡ sending_files program connect (path ∷ []) → line ≡ Bad Connect
  -- with `--timeout=SECONDS`, where SECONDS is no such number
  pub timeout : (seconds : Text) → ¬ IsCountText most_seconds seconds
      → ForFiles false words ((codes "--timeout=" ++ seconds) ∷ []) (ReportsBad line Timeout)
  -- with `--fruitless=N`, where N is no such number
  pub fruitless : (count : Text) → ¬ IsCountText most_fruitless count
      → ForFiles false words ((codes "--fruitless=" ++ count) ∷ []) (ReportsBad line Fruitless)
  -- with `--rate=BYTES`, where BYTES is no such number
  pub rate : (bytes : Text) → ¬ IsCountText most_rate bytes
      → ForFiles false words ((codes "--rate=" ++ bytes) ∷ []) (ReportsBad line Rate)
  -- `send --connect=ADDR --name=NAME --names=NAMES`
  pub names : (names : Text) → ForSender false words ((codes "--names=" ++ names) ∷ [])
      (ReportsBad line Mixed)
  -- with `--file=FILE --names=NAMES`
  pub file_names : (path names : Text)
      → ForSender false words (with_file path ((codes "--names=" ++ names) ∷ [])) (ReportsBad line Mixed)
  -- `send FILE`
  pub unaddressed : (program path : Text) → IsPlain path → words ≡ program ∷ codes "send" ∷ path ∷ []
      → IsReportedAs MissingRequiredArgument line
  -- `send --connect=ADDR --file=FILE`
  pub nameless : (program connect path : Text)
      → words ≡ sending_files program connect (with_file path []) → IsReportedAs MissingRequiredArgument line

-- The forms of `send` with a WAVE file that another program still writes, and what each results in.
use Rattle.std.specs.Prelude.{false, List, [], ◌∷◌, ◌++◌, Some, None, codes}
use Rattle.std.specs.declared.net.socket_addr.SocketAddr.{SocketAddr}
use Rattle.clap.specs.Walk.{Text}
use Rattle.bw_args.specs.Numbers.{IsCountText, default_timeout, most_fruitless, number_written}
use Rattle.bw_args.specs.PcmSources.{header_samples}
use Rattle.bw_args.specs.Lines.{PcmUpload, SendingPcm}
use Rattle.bw_args.specs.Forms.{RunsFor}
use Rattle.bw_args.specs.PeerForms.{ForSender, ReportsBad}
use Rattle.bw_args.specs.FileForms.{source_at, with_file}
use Rattle.bw_args.specs.declared.CommandLine.{CommandLine}
use Rattle.bw_args.specs.declared.bad_value.BadValue.TheVariants.{LeftOut, Receipt, MixedSamples}

-- the sender of a growing file of which only address, name and file are said: it never gives up
abbrev pub plain_follower : SocketAddr → Text → Text → PcmUpload
plain_follower address name path = record {
  connect = address;
  name = name;
  source = source_at path;
  pcm = header_samples None;
  timeout = default_timeout;
  fruitless = None;
  log = false;
  rate = None;
}

-- `--file=FILE --follow`, and what comes after it
abbrev pub with_growing : Text → List Text → List Text
with_growing path more = with_file path (codes "--follow" ∷ more)

-- the line runs the plain sender of this growing file with this change
abbrev pub AsksToFollow : CommandLine → Text → (PcmUpload → PcmUpload) → SocketAddr → Text → Type 0
AsksToFollow line path change address name =
    RunsFor (SendingPcm (change (plain_follower address name path))) line

-- `send --connect=ADDR --name=NAME --file=FILE --follow` runs, with its options
pub record RunsFollower (words : List Text) (line : CommandLine) : Type 0 where
  pub alone : (path : Text) → ForSender false words (with_growing path []) (AsksToFollow line path (λ s. s))
  -- with `--until=END`
  pub until : (path end : Text)
      → ForSender false words (with_growing path ((codes "--until=" ++ end) ∷ []))
      (AsksToFollow line path (λ s. record s { pcm = header_samples (Some end) }))
  -- with `--fruitless=N` it gives up
  pub fruitless : (path count : Text) → IsCountText most_fruitless count
      → ForSender false words (with_growing path ((codes "--fruitless=" ++ count) ∷ []))
      (AsksToFollow line path (λ s. record s { fruitless = Some (number_written count) }))

-- what needs a complete file is refused
pub record RefusesFollower (words : List Text) (line : CommandLine) : Type 0 where
  -- `--follow` without a file
  pub fileless : ForSender false words (codes "--follow" ∷ []) (ReportsBad line MixedSamples)
  -- `--file=FILE --until=END` alone
  pub unfollowed : (path end : Text)
      → ForSender false words (with_file path ((codes "--until=" ++ end) ∷ [])) (ReportsBad line MixedSamples)
  -- with `--state=STATE`
  pub state : (path state : Text)
      → ForSender false words (with_growing path ((codes "--state=" ++ state) ∷ []))
      (ReportsBad line MixedSamples)
  -- with `--strict`
  pub strict : (path : Text)
      → ForSender false words (with_growing path (codes "--strict" ∷ [])) (ReportsBad line MixedSamples)
  -- with `--strict-texts`
  pub strict_texts : (path : Text)
      → ForSender false words (with_growing path (codes "--strict-texts" ∷ [])) (ReportsBad line MixedSamples)
  -- with `--receipt=RECEIPTS`
  pub receipt : (path receipts : Text)
      → ForSender false words (with_growing path ((codes "--receipt=" ++ receipts) ∷ []))
      (ReportsBad line Receipt)
  -- with `--keep-left-out=LEFT`
  pub left_out : (path left : Text)
      → ForSender false words (with_growing path ((codes "--keep-left-out=" ++ left) ∷ []))
      (ReportsBad line LeftOut)

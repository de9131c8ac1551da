-- What is done for a command line that sends headerless samples, from a spool too.
use Rattle.std.specs.Prelude.{◌≡◌, ◌⊎◌, ℕ, Bool, true, false, Option, None, List, Ok, Err, if◌then◌else◌}
use Rattle.std.specs.Prelude.{string_bytes}
use Rattle.bw_stream.specs.declared.sink.Sink.{Ghosts as Writer}
use Rattle.bw_args.specs.declared.recordings.PcmSender.{PcmSender}
use Rattle.bw_console.specs.declared.exit.Exit.{Exit}
use Rattle.bw_live.specs.BegunSpools.{FillsFile, HoldsBegun, filled_since}
use Rattle.bw_live.specs.declared.filled.Filled.{Filled}
use Rattle.bw_live.specs.declared.begun_spool.SpoolWish.{SpoolWish}
use Rattle.bw_ports.specs.declared.network.Network.{Ghosts as NetworkGhosts}
use Rattle.bw_ports.specs.declared.recording_files.RecordingFiles.{Ghosts as FileGhosts}
use Rattle.bw_ports.specs.declared.spool_purpose.Purpose.{Purpose}
use Rattle.bw_ports.specs.Keeping.{KeepsUnlessDone}
use Rattle.bw_program.specs.PcmUploads.{SendsFilled}
use Rattle.bw_program.specs.Sides.{SenderSide, SpoolSide, StateSide, UploadSide}

-- the path of a sender's spool
abbrev pub spool_path : PcmSender → List ℕ
spool_path sender = string_bytes sender.source.path

-- the take that a command line asks for, and the form of its samples
pub record IsPurposeOf (sender : PcmSender) (purpose : Purpose) : Type 0 where
  pub name : purpose.name.now ≡ sender.name
  pub rate : purpose.rate ≡ sender.pcm.rate
  pub channels : purpose.channels ≡ sender.pcm.channels
  pub bits : purpose.bits ≡ sender.pcm.bits
  pub skip : purpose.skip ≡ sender.pcm.skip

-- what the spool of a sender in a process that began then is held for: no moment is kept without defaults
pub record IsSpoolWishOf (sender : PcmSender) (started : Option ℕ) (wish : SpoolWish) : Type 0 where
  pub path : wish.path.now ≡ spool_path sender
  pub purpose : IsPurposeOf sender wish.purpose
  pub begins : wish.started ≡ (if sender.pcm.defaults then started else None)

module _ {U J F H G M Q N X P R W D A B O E K SB SL : Type 0} (upload : UploadSide U J Q)
    (side : SenderSide D A B) (network : NetworkGhosts N X P D R W A B) (files : FileGhosts F H G M)
    (states : StateSide F SB SL) (spools : SpoolSide F K) (out : Writer O) (reported : Writer E)
    (started : Option ℕ) where
  -- the spool was held, what it holds was sent with the fields of the moment that it keeps, and what still
  -- came was kept unless all is stored
  pub record SendsSpool (sender : PcmSender) (exit : Exit) (f f' : F) (n : N) (q q' : Q) (o o' : O)
      (e e' : E) : Type 0 where
    pub keeper : K
    pub lent : spools.lends f keeper
    pub opened : SB
    pub kept : states.files.state_at opened ≡ states.kept_at f
    pub wish : SpoolWish
    pub wish_is : IsSpoolWishOf sender started wish
    pub began : Option ℕ
    pub held : K
    pub begun : E
    pub holds : HoldsBegun states.files spools.keeper reported wish (Ok began) opened keeper held e begun
    pub ended : E
    pub sends : SendsFilled upload side network files spools out reported sender (filled_since began) exit
        f f' n q q' o o' begun ended
    pub last : K
    pub keeps : KeepsUnlessDone spools.keeper reported (spool_path sender) exit held last ended e'

  -- the spool isn't held: nothing was drawn and nothing sent
  pub record RefusesSpool (sender : PcmSender) (exit : Exit) (f f' : F) (q q' : Q) (o o' : O) (e e' : E)
      : Type 0 where
    pub keeper : K
    pub lent : spools.lends f keeper
    pub opened : SB
    pub kept : states.files.state_at opened ≡ states.kept_at f
    pub wish : SpoolWish
    pub wish_is : IsSpoolWishOf sender started wish
    pub last : K
    pub refuses : HoldsBegun states.files spools.keeper reported wish (Err exit) opened keeper last e e'
    pub files_are : f' ≡ f
    pub unpaused : q' ≡ q
    pub unprinted : o' ≡ o

  -- the samples of a file were sent with the fields that the text at its side says
  pub record SendsUnspooled (sender : PcmSender) (exit : Exit) (f f' : F) (n : N) (q q' : Q) (o o' : O)
      (e e' : E) : Type 0 where
    pub opened : SB
    pub kept : states.files.state_at opened ≡ states.kept_at f
    pub wish : SpoolWish
    pub wish_is : IsSpoolWishOf sender started wish
    pub filled : Filled
    pub begun : E
    pub fills : FillsFile states.files reported wish (Ok filled) opened e begun
    pub sends : SendsFilled upload side network files spools out reported sender filled exit
        f f' n q q' o o' begun e'

  -- that text can't be read: nothing was sent
  pub record RefusesUnspooled (sender : PcmSender) (exit : Exit) (f f' : F) (q q' : Q) (o o' : O) (e e' : E)
      : Type 0 where
    pub opened : SB
    pub wish : SpoolWish
    pub wish_is : IsSpoolWishOf sender started wish
    pub refuses : FillsFile states.files reported wish (Err exit) opened e e'
    pub files_are : f' ≡ f
    pub unpaused : q' ≡ q
    pub unprinted : o' ≡ o

  -- from a spool, which may not be had, or from a file
  abbrev pub SendsBySpool : Bool → PcmSender → Exit → F → F → N → Q → Q → O → O → E →
      E → Type 0
  SendsBySpool true sender exit f f' n q q' o o' e e' =
      SendsSpool sender exit f f' n q q' o o' e e' ⊎ RefusesSpool sender exit f f' q q' o o' e e'
  SendsBySpool false sender exit f f' n q q' o o' e e' =
      SendsUnspooled sender exit f f' n q q' o o' e e' ⊎ RefusesUnspooled sender exit f f' q q' o o' e e'

  -- from what the command line names
  abbrev pub SendsPcmCommand : PcmSender → Exit → F → F → N → Q → Q → O → O → E → E →
      Type 0
  SendsPcmCommand sender = SendsBySpool sender.pcm.is_spooled sender

-- What the options of a command line give.
use Rattle.std.specs.Prelude.{◌≡◌, ◌≢◌, ℕ, Bool, true, false, List, [], Option, Some, None}
use Rattle.std.specs.Prelude.{unwrap_or, Result, Ok, Err, codes, IsTrue, is_some, ◌&&◌, ◌||◌}
use Rattle.std.specs.Str.{bytes_eq}
use Rattle.std.specs.declared.net.socket_addr.SocketAddr.{SocketAddr}
use Rattle.clap.specs.Walk.{Row, Text, first_of}
use Rattle.bw_model.specs.Wire.{is_name}
use Rattle.bw_args.specs.Addresses.{IsAddress}
use Rattle.bw_args.specs.Numbers.{IsCountText, IsLimitText, IsNumber, default_limit}
use Rattle.bw_args.specs.Numbers.{default_idle, default_rounds, most_exchanges, most_recorders}
use Rattle.bw_args.specs.Numbers.{most_rounds, most_seconds, number_written}
use Rattle.bw_args.specs.declared.folders.FolderWork.{FolderWork}
use Rattle.bw_args.specs.declared.folders.FolderWork.TheVariants.{Report, Watch, GiveUp}
use Rattle.bw_args.specs.declared.peers.End.{End}
use Rattle.bw_args.specs.declared.peers.End.TheVariants as when
use Rattle.bw_args.specs.declared.peers.Journaling.{Journaling}
use Rattle.bw_args.specs.declared.peers.Journaling.TheVariants.{Without, Kept, Synced}
use Rattle.bw_args.specs.declared.peers.Logging.{Logging}
use Rattle.bw_args.specs.declared.peers.Logging.TheVariants.{Lines, Json}
use Rattle.bw_args.specs.declared.peers.Recorders.{Recorders as Way}
use Rattle.bw_args.specs.declared.peers.Recorders.TheVariants.{InTurn, AtOnce}

-- the bytes are a take's name
abbrev pub IsName : Text → Type 0
IsName text = IsTrue (is_name text)

-- the name that an option gives
abbrev pub GivesName : Option Text → Text → Type 0
GivesName None name = ⊥
GivesName (Some text) name = IsName text × (name ≡ text)

-- exactly that name
abbrev pub IsNameGiven : Option Text → Option Text → Type 0
IsNameGiven text (Some name) = GivesName text name
IsNameGiven text None = (name : Text) → ¬ GivesName text name

-- the limit that an option gives, or the default
abbrev pub GivesLimit : Option Text → ℕ → Type 0
GivesLimit None limit = limit ≡ default_limit
GivesLimit (Some text) limit = IsLimitText text × (limit ≡ number_written text)

-- exactly that limit
abbrev pub IsLimitGiven : Option Text → Option ℕ → Type 0
IsLimitGiven text (Some limit) = GivesLimit text limit
IsLimitGiven text None = (limit : ℕ) → ¬ GivesLimit text limit

-- the number of the call that is to fail, as an option gives it, or none
abbrev pub GivesFuse : Option Text → Option ℕ → Type 0
GivesFuse None fuse = fuse ≡ None
GivesFuse (Some text) fuse = IsNumber text × (fuse ≡ Some (number_written text))

-- the option gives what is no number
abbrev pub GivesNoFuse : Option Text → Type 0
GivesNoFuse text = (fuse : Option ℕ) → ¬ GivesFuse text fuse

-- exactly that number, or none; a fault if the option gives what is no number
abbrev pub IsFuseGiven : {E : Type 0} → Option Text → Result (Option ℕ) E → Type 0
IsFuseGiven text (Ok fuse) = GivesFuse text fuse
IsFuseGiven text (Err fault) = GivesNoFuse text

-- what the options of a command give, by their names
abbrev pub given_on_line : List Row → Text → Option Text
given_on_line options id = first_of id options

-- the flag is given
abbrev pub is_set : Option Text → Bool
is_set None = false
is_set (Some text) = bytes_eq text (codes "true")

-- the address that an option gives, which may be any if the network is allowed
abbrev pub GivesAddress : Bool → Option Text → SocketAddr → Type 0
GivesAddress network None address = ⊥
GivesAddress network (Some text) address = IsAddress network text address

-- exactly that address
abbrev pub IsAddressGiven : Bool → Option Text → Option SocketAddr → Type 0
IsAddressGiven network text (Some address) = GivesAddress network text address
IsAddressGiven network text None = (address : SocketAddr) → ¬ GivesAddress network text address

-- the folder's path that an option gives
abbrev pub GivesFolder : Option Text → Text → Type 0
GivesFolder None folder = ⊥
GivesFolder (Some text) folder = (text ≢ []) × (folder ≡ text)

-- exactly that path
abbrev pub IsFolderGiven : Option Text → Option Text → Type 0
IsFolderGiven text (Some folder) = GivesFolder text folder
IsFolderGiven text None = (folder : Text) → ¬ GivesFolder text folder

-- the number from 1 to the most that an option gives, or none
abbrev pub GivesCount : ℕ → Option Text → Option ℕ → Type 0
GivesCount most None count = count ≡ None
GivesCount most (Some text) count = IsCountText most text × (count ≡ Some (number_written text))

-- exactly that number, or none; a fault if the option gives what is no such number
abbrev pub IsCountGiven : {E : Type 0} → ℕ → Option Text → Result (Option ℕ) E → Type 0
IsCountGiven most text (Ok count) = GivesCount most text count
IsCountGiven most text (Err fault) = (count : Option ℕ) → ¬ GivesCount most text count

-- when a server ends: after this many exchanges, one where no number is given, or when it is
-- stopped, where that is asked for; not both
abbrev pub IsEnd : Option ℕ → Bool → End → Type 0
IsEnd None false end = end ≡ when.Exchanges 1
IsEnd (Some count) false end = end ≡ when.Exchanges count
IsEnd None true end = end ≡ when.UntilStopped
IsEnd (Some count) true end = ⊥

-- exactly that end
abbrev pub IsEndGiven : Option ℕ → Bool → Option End → Type 0
IsEndGiven count until_stopped (Some end) = IsEnd count until_stopped end
IsEndGiven count until_stopped None = (end : End) → ¬ IsEnd count until_stopped end

-- when a server ends, by the two options that say it
abbrev pub GivesEnd : Option Text → Bool → End → Type 0
GivesEnd text until_stopped end =
    (count : Option ℕ) × GivesCount most_exchanges text count × IsEnd count until_stopped end

-- how recorders are served: many at once, where their number is given, and one after the other where
-- it isn't; each way has a time of its own, of which only the first has a default
abbrev pub IsRecorders : Option ℕ → Option ℕ → Option ℕ → Way → Type 0
IsRecorders timeout None None way = way ≡ InTurn timeout
IsRecorders timeout None (Some idle) way = ⊥
IsRecorders None (Some most) idle way = way ≡ AtOnce most (unwrap_or idle default_idle)
IsRecorders (Some timeout) (Some most) idle way = ⊥

-- exactly that way
abbrev pub IsRecordersGiven : Option ℕ → Option ℕ → Option ℕ → Option Way → Type 0
IsRecordersGiven timeout most idle (Some way) = IsRecorders timeout most idle way
IsRecordersGiven timeout most idle None = (way : Way) → ¬ IsRecorders timeout most idle way

-- how recorders are served, by the three options that say it
pub record GivesRecorders (given : Text → Option Text) (way : Way) : Type 0 where
  pub timeout : Option ℕ
  pub most : Option ℕ
  pub idle : Option ℕ
  pub waits : GivesCount most_seconds (given (codes "timeout")) timeout
  pub serves : GivesCount most_recorders (given (codes "recorders")) most
  pub idles : GivesCount most_seconds (given (codes "idle")) idle
  pub is : IsRecorders timeout most idle way

-- where a server of many recorders shows its status, as an option gives it, or nowhere; the address
-- may be any if the network is allowed
abbrev pub GivesStatus : Bool → Option Text → Bool → Option SocketAddr → Type 0
GivesStatus network None of_many status = status ≡ None
GivesStatus network (Some text) true (Some address) = IsAddress network text address
GivesStatus network (Some text) true None = ⊥
GivesStatus network (Some text) false status = ⊥

-- exactly that place; a fault if the option gives what is none
abbrev pub IsStatusGiven : {E : Type 0} → Bool → Option Text → Bool → Result (Option SocketAddr) E
    → Type 0
IsStatusGiven network text of_many (Ok status) = GivesStatus network text of_many status
IsStatusGiven network text of_many (Err fault) =
    (status : Option SocketAddr) → ¬ GivesStatus network text of_many status

-- how a server reports what happens, as an option gives it, or that it doesn't
abbrev pub GivesLog : Option Text → Option Logging → Type 0
GivesLog None form = form ≡ None
GivesLog (Some text) None = ⊥
GivesLog (Some text) (Some Lines) = text ≡ codes "lines"
GivesLog (Some text) (Some Json) = text ≡ codes "json"

-- exactly that; a fault if the option gives another word
abbrev pub IsLogGiven : {E : Type 0} → Option Text → Result (Option Logging) E → Type 0
IsLogGiven text (Ok form) = GivesLog text form
IsLogGiven text (Err fault) = (form : Option Logging) → ¬ GivesLog text form

-- whether a server keeps journals: one of which they are synced keeps them
abbrev pub IsJournaling : Bool → Bool → Journaling → Type 0
IsJournaling false false journal = journal ≡ Without
IsJournaling true false journal = journal ≡ Kept
IsJournaling true true journal = journal ≡ Synced
IsJournaling false true journal = ⊥

-- exactly that
abbrev pub IsJournalingGiven : Bool → Bool → Option Journaling → Type 0
IsJournalingGiven is_kept is_synced (Some journal) = IsJournaling is_kept is_synced journal
IsJournalingGiven is_kept is_synced None =
    (journal : Journaling) → ¬ IsJournaling is_kept is_synced journal

-- whether `--rest` is given, which it may be only where journals are kept
abbrev pub GivesRest : Bool → Bool → Bool → Type 0
GivesRest is_kept false rest = rest ≡ false
GivesRest true true rest = rest ≡ true
GivesRest false true rest = ⊥

-- exactly that
abbrev pub IsRestGiven : Bool → Bool → Option Bool → Type 0
IsRestGiven is_kept asked (Some rest) = GivesRest is_kept asked rest
IsRestGiven is_kept asked None = (rest : Bool) → ¬ GivesRest is_kept asked rest

-- the number from 1 to the most that an option gives, or the default
abbrev pub GivesCountOr : ℕ → ℕ → Option Text → ℕ → Type 0
GivesCountOr default most text n =
    (count : Option ℕ) × GivesCount most text count × (n ≡ unwrap_or count default)

-- the rounds that an option gives, or the default
abbrev pub GivesRounds : Option Text → ℕ → Type 0
GivesRounds = GivesCountOr default_rounds most_rounds

-- takes are watched, and something else is asked for beside it
abbrev pub is_watch_mixed : Bool → Bool → Bool → Bool → Option Text → Bool
is_watch_mixed watch check json digest name =
    watch && (check || (json || (digest || is_some name)))

-- what is done with the takes of a folder: they are watched; they are reported, with their samples or
-- not, in JSON or not, with digests or not; or one is given up. The first and the last go with nothing
-- else
abbrev pub IsWork : Bool → Bool → Bool → Bool → Option Text → FolderWork → Type 0
IsWork true check json digest name work =
    (is_watch_mixed true check json digest name ≡ false) × (work ≡ Watch)
IsWork false check json digest None work = work ≡ Report check json digest
IsWork false false false false (Some text) work = IsName text × (work ≡ GiveUp text)
IsWork false false false true (Some text) work = ⊥
IsWork false false true digest (Some text) work = ⊥
IsWork false true json digest (Some text) work = ⊥

-- exactly that
abbrev pub IsWorkGiven : Bool → Bool → Bool → Bool → Option Text → Option FolderWork → Type 0
IsWorkGiven watch check json digest text (Some work) = IsWork watch check json digest text work
IsWorkGiven watch check json digest text None =
    (work : FolderWork) → ¬ IsWork watch check json digest text work

-- by the five options that say it
abbrev pub GivesWork : (Text → Option Text) → FolderWork → Type 0
GivesWork given work = IsWork (is_set (given (codes "watch"))) (is_set (given (codes "check")))
    (is_set (given (codes "json"))) (is_set (given (codes "digest"))) (given (codes "give-up")) work

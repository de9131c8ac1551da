-- What is shown of a server's takes: of each name that it knows what its log says, and what was
-- counted.
use Rattle.std.specs.Prelude.{◌≡◌, ℕ, ◌*◌, ◌-◌, ◌/◌, ◌^◌, ◌==◌, ◌&&◌, Bool, Option, Some, None}
use Rattle.std.specs.Prelude.{List, [], ◌∷◌, is_some, option_map, map, string_bytes, nat_lt}
use Rattle.std.specs.Prelude.{if◌then◌else◌}
use Rattle.std.specs.Cmp.Lexicographic.{slice_cmp}
use Rattle.std.specs.Ordering.{nat_cmp}
use Rattle.std.specs.List.{All, list_any}
use Rattle.std.specs.List.Sorted.{IsSorted}
use Rattle.std.specs.Str.{bytes_eq}
use Rattle.std.specs.declared.net.socket_addr.SocketAddr.{SocketAddr}
use Rattle.bw_model.specs.Book.{Book, Log, is_known, log_of, made}
use Rattle.bw_model.specs.Take.{Format, Take, frames as frames_of, parts}
use Rattle.bw_operators.specs.AllowLists.{AllowRules, may_come}
use Rattle.bw_session.specs.Books.{count_waiting}
use Rattle.bw_session.specs.KnownNames.{KnowsTaken, ListsNames}
use Rattle.bw_serve.specs.declared.peer_slot.PeerSlot.{PeerSlot}
use Rattle.bw_status.specs.declared.snapshot.SoundFormat.{SoundFormat}
use Rattle.bw_status.specs.declared.snapshot.ShownState.{ShownState}
use Rattle.bw_status.specs.declared.snapshot.ShownState.TheVariants.{Unopened, Open, Closed, Stood}
use Rattle.bw_status.specs.declared.snapshot.TakeStatus.{TakeStatus}
use Rattle.bw_serve_status.specs.Growths.{grown_at}
use Rattle.bw_serve_status.specs.declared.name_tally.NameTally.{NameTally}
use Rattle.bw_serve_status.specs.declared.snapshots.Surroundings.{Surroundings}

-- a format as it is shown
abbrev pub sound_of : Format → SoundFormat
sound_of f = record { rate = f.rate; channels = f.channels; bits = f.bits }

-- the state of a take as it is shown
abbrev pub state_for : Bool → Bool → Bool → ShownState
state_for stood closed has_format =
    if stood then Stood else (if closed then Closed else (if has_format then Open else Unopened))

-- this many frames, if there is a format
abbrev pub if_format : Option SoundFormat → ℕ → Option ℕ
if_format None count = None
if_format (Some f) count = Some count

-- so many whole milliseconds, if that can be shown
abbrev pub shown_ms : ℕ → Option ℕ
shown_ms ms = if nat_lt ms (2 ^ 64) then Some ms else None

-- how long so many frames of this rate last, in whole milliseconds
abbrev pub lasting : ℕ → ℕ → Option ℕ
lasting count rate = if rate == 0 then None else shown_ms (count * 1000 / rate)

-- the same, if there is a format
abbrev pub lasting_in : Option SoundFormat → ℕ → Option ℕ
lasting_in None count = None
lasting_in (Some f) count = lasting count f.rate

-- how many messages of a name were refused, and how often the store failed
abbrev pub replied_of : List ℕ → List NameTally → ℕ × ℕ
replied_of name [] = (0, 0)
replied_of name (t ∷ ts) = if bytes_eq t.name name then (t.refused, t.delayed) else replied_of name ts

-- whether a name is among the first of which messages came over a link
abbrev pub has_sent : List ℕ → PeerSlot → Bool
has_sent name peer = list_any (λ n. bytes_eq n name) peer.link_stats.names

-- and the name may come from there
abbrev pub is_peer_of : AllowRules → List ℕ → PeerSlot → Bool
is_peer_of rules name peer = has_sent name peer && may_come rules peer.address name

-- the first peer for which that holds
abbrev pub peer_of : AllowRules → List ℕ → List PeerSlot → Option SocketAddr
peer_of rules name [] = None
peer_of rules name (p ∷ ps) =
    if is_peer_of rules name p then Some p.address else peer_of rules name ps

-- the take of a name whose log is this, where a file of the name existed before the server's or not
abbrev pub take_of_log : Bool → Log → Take
take_of_log existed log = made existed log.admitted log.done

-- what is shown of this name
pub record ShowsTake (existed : Bool) (log : Log) (tallies : List NameTally) (peers : List PeerSlot)
    (around : Surroundings) (name : List ℕ) (t : TakeStatus) : Type 0 where
  -- whether it is known that a file existed
  pub stood : Bool
  pub knows : KnowsTaken existed log stood
  pub state_is : t.state ≡ state_for stood (take_of_log existed log).closed
      (is_some (take_of_log existed log).format)
  pub format_is : t.format ≡ option_map sound_of (take_of_log existed log).format
  pub frames_are : t.frames ≡ if_format t.format (frames_of (parts (take_of_log existed log)))
  pub ms_are : t.ms ≡ lasting_in t.format (frames_of (parts (take_of_log existed log)))
  pub next_is : t.next ≡ log.done
  pub held_are : t.held ≡ count_waiting log
  pub replied : (t.refused ≡ (replied_of name tallies).0) × (t.delayed ≡ (replied_of name tallies).1)
  pub quiet_is : t.quiet_ms
      ≡ option_map (λ at. around.now - at) (grown_at name tallies around.growth.now)
  pub peer_is : t.peer ≡ peer_of around.allow.now name peers

-- the name that is shown
abbrev pub take_name : TakeStatus → List ℕ
take_name t = string_bytes t.name

-- what is shown of a name is what this book says of it
abbrev pub ShowsOf : (List ℕ → Bool) → Book → List NameTally → List PeerSlot → Surroundings →
    TakeStatus → Type 0
ShowsOf existed book tallies peers around t =
    ShowsTake (existed (take_name t)) (log_of book (take_name t)) tallies peers around (take_name t) t

-- what is shown of the takes, each name of the book once, in the order of the names' bytes
pub record ShowsTakes (existed : List ℕ → Bool) (book : Book) (tallies : List NameTally)
    (peers : List PeerSlot) (around : Surroundings) (takes : List TakeStatus) : Type 0 where
  pub known : ListsNames (is_known book) (map take_name takes)
  pub in_order : IsSorted (slice_cmp nat_cmp) (map take_name takes)
  pub each : All (ShowsOf existed book tallies peers around) takes

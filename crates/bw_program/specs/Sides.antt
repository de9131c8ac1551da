-- What the parts of the program's outside say of themselves, in groups.
use Rattle.std.specs.Prelude.{ℕ, Bool, List, Option, Result}
use Rattle.bw_stream.specs.declared.sink.Sink.{Ghosts as Writer}
use Rattle.bw_stream.specs.declared.source.Source.{Ghosts as Reader}
use Rattle.bw_store.specs.declared.store.TakeStore.{Ghosts as StoreGhosts}
use Rattle.bw_journal.specs.declared.journal.Journal.{Ghosts as JournalGhosts}
use Rattle.bw_serve.specs.declared.filtered_network.ServeRules.{Ghosts as RuleGhosts}
use Rattle.bw_disk.specs.declared.disk.Disk.{Ghosts as DiskGhosts}
use Rattle.bw_ports.specs.declared.dial.Dial.{Ghosts as DialGhosts}
use Rattle.bw_ports.specs.declared.link.Link.{Ghosts as LinkGhosts}
use Rattle.bw_ports.specs.declared.peers.Peers.{Ghosts as PeerGhosts}
use Rattle.bw_ports.specs.declared.reactor.Reactor.{Ghosts as ReactorGhosts}
use Rattle.bw_ports.specs.declared.recording_files.RecordingFiles.{Ghosts as FileGhosts}
use Rattle.bw_ports.specs.declared.edited_files.EditedFiles.{Ghosts as EditGhosts}
use Rattle.bw_ports.specs.declared.folder_locks.FolderLocks.{Ghosts as LockGhosts}
use Rattle.bw_ports.specs.declared.file_kind.FileKinds.{Ghosts as KindGhosts}
use Rattle.bw_ports.specs.declared.receipt_files.ReceiptFiles.{Ghosts as ReceiptGhosts}
use Rattle.bw_ports.specs.declared.starts.StartRefusal.{StartRefusal}
use Rattle.bw_model.specs.Book.{Book}
use Rattle.bw_model.specs.Wire.{Frame}
use Rattle.bw_model.specs.Replies.{Reply}
use Rattle.bw_exchange.specs.Commits.{CommitsNothing}
use Rattle.bw_exchange.specs.declared.turns.NotKept.{NotKept}
use Rattle.bw_session.specs.Books.{HoldsBook}
use Rattle.bw_session.specs.ServerTurns.{ServerTurn}
use Rattle.bw_session.specs.declared.server.Server.{Server}
use Rattle.bw_ports.specs.declared.system.System.{Ghosts as SystemGhosts}
use Rattle.bw_ports.specs.declared.pause.Pause.{Ghosts as PauseGhosts}
use Rattle.bw_ports.specs.declared.recording_files.FileStamp.{FileStamp}
use Rattle.bw_ports.specs.declared.state_files.StateFiles.{Ghosts as StateGhosts}
use Rattle.bw_ports.specs.declared.state_files.StateLog.{Ghosts as LogGhosts}
use Rattle.bw_send_file.specs.declared.fault.FeedFault.{FeedFault}
use Rattle.bw_serve.specs.declared.opening.OpenedServer.{OpenedServer}
use Rattle.bw_serve_status.specs.Shown.{StatusSide}
use Rattle.bw_ports.specs.declared.spool_keeper.SpoolKeeper.{Ghosts as KeeperGhosts}
use Rattle.bw_takes.specs.declared.screen.ScreenStyle.{ScreenStyle}
use Rattle.bw_upload.specs.declared.feed.Feed.{Ghosts as FeedGhosts}

-- what the states of senders have, and the files that they are kept in
pub record StateSide (F B L : Type 0) : Type 1 where
  pub kept_at : F → List ℕ → Option (List ℕ)
  pub files : StateGhosts B L
  pub log : LogGhosts L

abbrev pub state_side : {F B L : Type 0} → (F → List ℕ → Option (List ℕ)) →
    StateGhosts B L → LogGhosts L →
    StateSide F B L
state_side kept_at files log = record { kept_at = kept_at; files = files; log = log }

-- what senders hold their spools by, and the markers that will have been placed in recordings, if they
-- are known
pub record SpoolSide (F K : Type 0) : Type 1 where
  pub lends : F → K → Type 0
  pub keeper : KeeperGhosts K
  pub points_at : F → List ℕ → List ℕ → Option (List (ℕ × ℕ))

abbrev pub spool_side : {F K : Type 0} → (F → K → Type 0) → KeeperGhosts K →
    (F → List ℕ → List ℕ → Option (List (ℕ × ℕ))) → SpoolSide F K
spool_side lends keeper points_at =
    record { lends = lends; keeper = keeper; points_at = points_at }

-- the texts of receipts, and the files that they are appended to
pub record ReceiptSide (F R : Type 0) : Type 1 where
  pub Opened : Type 0
  pub noted_at : F → List ℕ → Option (List ℕ)
  pub files : ReceiptGhosts R Opened

abbrev pub receipt_side : {F R H : Type 0} → (F → List ℕ → Option (List ℕ)) → ReceiptGhosts R H →
    ReceiptSide F R
receipt_side {H = H} noted_at files = record { Opened = H; noted_at = noted_at; files = files }

-- the system, the files of recordings and their readers, the states, the spools and the receipts of their
-- senders, how files are changed in place, the locks of servers' folders, what is at each path, the disk of
-- these folders, and the process's streams
pub record HostSide (S T F H G M SB SL KP RC J LK DK DF I O E : Type 0) : Type 1 where
  pub system : SystemGhosts S T
  pub files : FileGhosts F H G M
  pub readers : Reader H
  pub states : StateSide F SB SL
  pub spools : SpoolSide F KP
  pub receipts : ReceiptSide F RC
  pub edits : EditGhosts F J
  pub locks : LockGhosts F LK
  pub kinds : KindGhosts F
  pub disk : DiskGhosts DK DF
  pub input : Reader I
  pub out : Writer O
  pub reported : Writer E

abbrev pub host_side : {S T F H G M SB SL KP RC J LK DK DF I O E : Type 0} → SystemGhosts S T →
    FileGhosts F H G M → Reader H → StateSide F SB SL → SpoolSide F KP → ReceiptSide F RC → EditGhosts F J →
    LockGhosts F LK → KindGhosts F → DiskGhosts DK DF → Reader I → Writer O → Writer E →
    HostSide S T F H G M SB SL KP RC J LK DK DF I O E
host_side system files readers states spools receipts edits locks kinds disk input out reported = record {
  system = system;
  files = files;
  readers = readers;
  states = states;
  spools = spools;
  receipts = receipts;
  edits = edits;
  locks = locks;
  kinds = kinds;
  disk = disk;
  input = input;
  out = out;
  reported = reported;
}

-- what recorders reach a server through, and operators
pub record ReachSide (P R W L K N SP SK : Type 0) : Type 1 where
  pub peers : PeerGhosts P R W
  pub reader : Reader R
  pub writer : Writer W
  pub reactor : ReactorGhosts L K
  pub link : LinkGhosts K
  pub status : StatusSide N L SP SK

abbrev pub reach_side : {P R W L K N SP SK : Type 0} → PeerGhosts P R W → Reader R → Writer W →
    ReactorGhosts L K → LinkGhosts K → StatusSide N L SP SK → ReachSide P R W L K N SP SK
reach_side peers reader writer reactor link status = record {
  peers = peers;
  reader = reader;
  writer = writer;
  reactor = reactor;
  link = link;
  status = status;
}

-- what a new server keeps files in, and its journal, which is none; how it is reached; and how it is
-- chosen whether a link may have one name alone, and whether what happens is said
pub record ServerSide (X Z P R W L K N SP SK : Type 0) : Type 1 where
  pub store : StoreGhosts X
  pub none : JournalGhosts Z
  pub reach : ReachSide P R W L K N SP SK
  pub rules : RuleGhosts N

abbrev pub server_side : {X Z P R W L K N SP SK : Type 0} → StoreGhosts X → JournalGhosts Z →
    PeerGhosts P R W → Reader R → Writer W → ReactorGhosts L K → LinkGhosts K → RuleGhosts N →
    StatusSide N L SP SK → ServerSide X Z P R W L K N SP SK
server_side store none peers reader writer reactor link rules status = record {
  store = store;
  none = none;
  reach = reach_side peers reader writer reactor link status;
  rules = rules;
}

-- what a server answers and commits, when all is committed, and which books its table holds
pub record TurnsSide (T : Type 0) : Type 1 where
  pub answers : T → Frame → List Reply → T → Type 0
  pub committed : T → Type 0
  pub commits : T → Result (Unit {0}) NotKept → T → Type 0
  pub holds : T → (List ℕ → Option (List ℕ)) → Book → Type 0

abbrev pub turns_side : {T : Type 0} → (T → Frame → List Reply → T → Type 0) → (T → Type 0) →
    (T → Result (Unit {0}) NotKept → T → Type 0) →
    (T → (List ℕ → Option (List ℕ)) → Book → Type 0) → TurnsSide T
turns_side answers committed commits holds =
    record { answers = answers; committed = committed; commits = commits; holds = holds }

-- those of a new server
abbrev pub new_turns : {X Y : Type 0} (S : StoreGhosts X) (J : JournalGhosts Y) → TurnsSide (Server X Y S J)
new_turns S J = turns_side (ServerTurn S J) (λ s. Unit {0}) CommitsNothing
    (λ s first book. HoldsBook S J first s book)

-- how servers with journals are opened, and what they are
pub record KeptSide (N T : Type 0) : Type 1 where
  pub opens : N → List ℕ → ℕ → Bool → Result (OpenedServer T) StartRefusal → N → Type 0
  pub failures : N → ℕ
  pub server : TurnsSide T

abbrev pub kept_side : {N T : Type 0} →
    (N → List ℕ → ℕ → Bool → Result (OpenedServer T) StartRefusal → N → Type 0) →
    (N → ℕ) → TurnsSide T →
    KeptSide N T
kept_side opens failures server = record { opens = opens; failures = failures; server = server }

-- what a sender reaches a server by
pub record SenderSide (D A B : Type 0) : Type 1 where
  pub dial : DialGhosts D A B
  pub replies : Reader A
  pub requests : Writer B

abbrev pub sender_side : {D A B : Type 0} → DialGhosts D A B → Reader A → Writer B → SenderSide D A B
sender_side dial replies requests = record { dial = dial; replies = replies; requests = requests }

-- what a sender of recordings takes its requests from, what that looks at before the last of them,
-- what it takes those of samples from that are still written, and what it waits by
pub record UploadSide (U J Q : Type 0) : Type 1 where
  pub feed : FeedGhosts U FeedFault
  pub looks_at : Option FileStamp → U → Type 0
  pub follow : FeedGhosts J FeedFault
  pub pause : PauseGhosts Q

abbrev pub upload_side : {U J Q : Type 0} → FeedGhosts U FeedFault →
    (Option FileStamp → U → Type 0) →
    FeedGhosts J FeedFault → PauseGhosts Q → UploadSide U J Q
upload_side feed looks_at follow pause =
    record { feed = feed; looks_at = looks_at; follow = follow; pause = pause }

-- the parts themselves, as they are before or after a command
pub record ProgramWorld (S F DK N Q I O E : Type 0) : Type 0 where
  pub system : S
  pub files : F
  pub disk : DK
  pub network : N
  pub pause : Q
  pub input : I
  pub out : O
  pub faults : E
  pub screens : ScreenStyle
  pub is_typed : Bool
  pub started : Option ℕ

abbrev pub program_world : {S F DK N Q I O E : Type 0} → S → F → DK → N → Q → I → O → E →
    ScreenStyle → Bool → Option ℕ → ProgramWorld S F DK N Q I O E
program_world system files disk network pause input out faults screens is_typed started = record {
  system = system;
  files = files;
  disk = disk;
  network = network;
  pause = pause;
  input = input;
  out = out;
  faults = faults;
  screens = screens;
  is_typed = is_typed;
  started = started;
}

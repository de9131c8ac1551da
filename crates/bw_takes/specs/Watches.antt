-- What a watch of a folder's takes shows, round after round, and how it ends.
use Rattle.std.specs.Prelude.{◌≡◌, ◌⊎◌, ◌-◌, ◌^◌, ℕ, zero, suc, List, []}
use Rattle.bw_console.specs.Outcomes.{Outcome, HasWritten, IsOutOfMemory}
use Rattle.bw_console.specs.Prints.{HasPrinted}
use Rattle.bw_console.specs.declared.exit.Exit.{Exit}
use Rattle.bw_console.specs.declared.exit.Exit.TheVariants.{Done}
use Rattle.bw_disk.specs.declared.reading.ReadFault.{ReadFault}
use Rattle.bw_disk.specs.declared.reading.ReadFault.TheVariants.{Disk, Memory}
use Rattle.bw_stream.specs.declared.sink.Sink.{Ghosts as Writer}
use Rattle.bw_takes.specs.Screens.{rows_after, screen_text}
use Rattle.bw_takes.specs.Showings.{IsFolderUnread, PrintsPart}
use Rattle.bw_takes.specs.declared.progress.TakeProgress.{TakeProgress}
use Rattle.bw_takes.specs.declared.screen.Row.{Row}
use Rattle.bw_takes.specs.declared.screen.ScreenStyle.{ScreenStyle}

-- how takes are read, what waiting does, and the process's writers
pub record WatchSide (T P W E : Type 0) : Type 1 where
  pub reads : T → List ℕ → List TakeProgress → T → Type 0
  pub fails : T → List ℕ → ReadFault → T → Type 0
  pub waits : P → ℕ → P → Type 0
  pub out : Writer W
  pub reported : Writer E

abbrev pub watch_side : {T P W E : Type 0} → (T → List ℕ → List TakeProgress → T → Type 0) →
    (T → List ℕ → ReadFault → T → Type 0) → (P → ℕ → P → Type 0) → Writer W →
    Writer E → WatchSide T P W E
watch_side reads fails waits out reported = record {
  reads = reads;
  fails = fails;
  waits = waits;
  out = out;
  reported = reported;
}

-- the same as they are before or after a round
pub record WatchWorld (T P W E : Type 0) : Type 0 where
  pub takes : T
  pub pause : P
  pub out : W
  pub faults : E

abbrev pub watch_world : {T P W E : Type 0} → T → P → W → E → WatchWorld T P W E
watch_world takes pause out faults =
    record { takes = takes; pause = pause; out = out; faults = faults }

-- A round after a screen with these rows: the takes are read, the screen of them is printed whole,
-- and a second is waited.
pub record IsWatchRound {T P W E : Type 0} (side : WatchSide T P W E) (style : ScreenStyle)
    (folder : List ℕ) (before rows : List Row) (x x' : WatchWorld T P W E) : Type 0 where
  pub takes : List TakeProgress
  pub reads : side.reads x.takes folder takes x'.takes
  pub shows : rows ≡ rows_after before takes
  pub prints : HasPrinted side.out (screen_text style rows) x.out x'.out
  pub waits : side.waits x.pause 1000 x'.pause
  pub reports : x'.faults ≡ x.faults

-- so many rounds, the first after no screen, and the rows of the last screen
abbrev pub AreWatchRounds : {T P W E : Type 0} → WatchSide T P W E → ScreenStyle → List ℕ → ℕ →
    List Row → WatchWorld T P W E → WatchWorld T P W E → Type 0
AreWatchRounds side style folder zero rows x x' = (rows ≡ []) × (x' ≡ x)
AreWatchRounds side style folder (suc n) rows x x' = (before : List Row) × (mid : WatchWorld _ _ _ _)
    × AreWatchRounds side style folder n before x mid × IsWatchRound side style folder before rows mid x'

-- the screen of these takes isn't printed whole, or there is no memory for it
abbrev pub CutsScreen : ScreenStyle → List Row → List TakeProgress → Outcome → Type 0
CutsScreen style before takes did =
    PrintsPart (screen_text style (rows_after before takes)) did ⊎ IsOutOfMemory did

-- it is reported that the folder can't be read, or that memory was refused
abbrev pub TellsUnread : ReadFault → List ℕ → Outcome → Type 0
TellsUnread Disk folder did = IsFolderUnread folder did ⊎ IsOutOfMemory did
TellsUnread Memory folder did = IsOutOfMemory did

-- what was done in the round in which a watch ended: the takes couldn't be read, or the screen of what
-- was read wasn't printed
abbrev pub IsLastRound : {T P W E : Type 0} → WatchSide T P W E → ScreenStyle → List ℕ →
    List Row → T → T → Outcome → Type 0
IsLastRound side style folder before t t' did =
    ((fault : ReadFault) × side.fails t folder fault t' × TellsUnread fault folder did)
    ⊎ ((takes : List TakeProgress) × side.reads t folder takes t' × CutsScreen style before takes did)

-- a watch ends within a round after a screen with these rows, without a wait
pub record EndsWatch {T P W E : Type 0} (side : WatchSide T P W E) (style : ScreenStyle)
    (folder : List ℕ) (before : List Row) (exit : Exit) (x x' : WatchWorld T P W E) : Type 0 where
  pub did : Outcome
  pub ends : did.exit ≡ exit
  pub is : IsLastRound side style folder before x.takes x'.takes did
  pub writes : HasWritten side.out side.reported did x.out x'.out x.faults x'.faults
  pub unpaused : x'.pause ≡ x.pause

-- all rounds that there may be are over
pub record IsWatchOver {T P W E : Type 0} (count : ℕ) (exit : Exit)
    (x x' : WatchWorld T P W E) : Type 0 where
  pub most : count ≡ 2 ^ 64 - 1
  pub exit_is : exit ≡ Done
  pub same : x' ≡ x

-- A watch: one round after another, until one ends it. Each screen is of what was read in its round.
pub record Watches {T P W E : Type 0} (side : WatchSide T P W E) (style : ScreenStyle)
    (folder : List ℕ) (exit : Exit) (x x' : WatchWorld T P W E) : Type 0 where
  pub count : ℕ
  pub rows : List Row
  pub last : WatchWorld T P W E
  pub rounds : AreWatchRounds side style folder count rows x last
  pub ends : EndsWatch side style folder rows exit last x' ⊎ IsWatchOver count exit last x'

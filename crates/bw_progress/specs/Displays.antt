-- When the line of an upload is shown.
use Rattle.std.specs.Prelude.{◌≡◌, ◌⊎◌, ℕ, List, Bool, true, false, Option, Some, None}
use Rattle.bw_console.specs.Prints.{Print, IsOf, IsPrint}
use Rattle.bw_console.specs.Text.{as_line}
use Rattle.bw_progress.specs.Lines.{upload_line}
use Rattle.bw_progress.specs.Paces.{awaited_from, is_due_after}
use Rattle.bw_progress.specs.declared.display.ProgressDisplay.{ProgressDisplay}
use Rattle.bw_progress.specs.declared.pace.LinePace.{LinePace}
use Rattle.bw_progress.specs.declared.progress.UploadProgress.{UploadProgress}
use Rattle.bw_progress.specs.declared.screen.Screen.{Ghosts as ScreenGhosts}
use Rattle.bw_stream.specs.declared.sink.Sink.{Ghosts as Writer}

-- what is sent after a beginning: this if anyone sees the screen
abbrev pub begun_if : Bool → UploadProgress → Option UploadProgress → Option UploadProgress
begun_if true p before = Some p
begun_if false p before = before

-- since when a line is awaited after it
abbrev pub awaited_if : Bool → LinePace → ℕ → Option ℕ → Option ℕ
awaited_if true pace now last = awaited_from pace now last
awaited_if false pace now last = last

-- lines are as often as before, and the next upload is of the same recording
pub record KeepsPace {S T : Type 0} (old new : ProgressDisplay S T) : Type 0 where
  pub pace_is : new.pace ≡ old.pace
  pub part_is : new.part ≡ old.part

-- nothing changes on the screen
pub record StaysShown {S T : Type 0} (old new : ProgressDisplay S T) : Type 0 where
  pub kept : KeepsPace old new
  pub screen_is : new.screen ≡ old.screen
  pub last_is : new.last ≡ old.last
  pub shown_is : new.is_shown ≡ old.is_shown

module _ {S T : Type 0} (screen : ScreenGhosts S) where
  -- the line of this progress is shown
  pub record ShowsLine (now : ℕ) (p : UploadProgress) (old new : ProgressDisplay S T) : Type 0 where
    pub kept : KeepsPace old new
    pub shows : screen.shows old.screen (upload_line now p) new.screen
    pub last_is : new.last ≡ Some now
    pub shown_is : new.is_shown ≡ true

  -- it is shown if it is due, unless memory is refused
  abbrev pub ShowsOnce : Bool → ℕ → UploadProgress → ProgressDisplay S T → ProgressDisplay S T →
      Type 0
  ShowsOnce false now p old new = StaysShown old new
  ShowsOnce true now p old new = ShowsLine now p old new ⊎ StaysShown old new

  abbrev pub ShowsWhenDue : ℕ → ProgressDisplay S T → ProgressDisplay S T → Type 0
  ShowsWhenDue now old new = elim old.progress [
    | None ↦ StaysShown old new
    | Some p ↦ ShowsOnce (is_due_after old.pace old.last now) now p old new
  ]

  -- the line is cleared if it was shown
  abbrev pub ClearsShown : Bool → ProgressDisplay S T → ProgressDisplay S T → Type 0
  ClearsShown true old new = screen.clears old.screen new.screen
  ClearsShown false old new = new.screen ≡ old.screen

  pub record ClearsLine (old new : ProgressDisplay S T) : Type 0 where
    pub kept : KeepsPace old new
    pub clears : ClearsShown old.is_shown old new
    pub shown_is : new.is_shown ≡ false

-- a log gets a line with its end, unless memory is refused
abbrev pub AppendsLine : {E : Type 0} → Writer E → List ℕ → E → E → Type 0
AppendsLine w line old new =
    (new ≡ old) ⊎ ((print : Print) × IsOf (as_line line) print × IsPrint w print old new)

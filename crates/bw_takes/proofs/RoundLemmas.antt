-- A round of a watch, by what its calls leave.
use Rattle.std.proofs.Common.{◌≡◌, inl, inr, ℕ, suc, List, Result, Ok, Err, sym, subst, refl}
use Rattle.std.specs.Prelude.{IfOk, IfErr, OnOk}
use Rattle.bw_console.specs.Outcomes.{Outcome, HasWritten, IsOutOfMemory}
use Rattle.bw_console.specs.Prints.{HasPrinted, IsPrint, Print}
use Rattle.bw_console.specs.declared.exit.Exit.{Exit}
use Rattle.bw_disk.specs.declared.reading.ReadFault.{ReadFault}
use Rattle.bw_disk.specs.declared.reading.ReadFault.TheVariants.{Disk, Memory}
use Rattle.bw_stream.specs.declared.sink.Sink.{Ghosts as Writer}
use Rattle.bw_takes.specs.Screens.{rows_after, screen_text}
use Rattle.bw_takes.specs.Watches.{AreWatchRounds, CutsScreen, EndsWatch, IsWatchRound, TellsUnread, WatchSide, WatchWorld}
use Rattle.bw_takes.specs.declared.progress.TakeProgress.{TakeProgress}
use Rattle.bw_takes.specs.declared.screen.Row.{Row}
use Rattle.bw_takes.specs.declared.screen.ScreenStyle.{ScreenStyle}

-- a writer is left alone by what prints nothing
pub unprinted : {W : Type 0} (w : Writer W) (fault : ReadFault) (folder : List ℕ) (did : Outcome) (out : W) →
    TellsUnread fault folder did → IsPrint w did.out out out
unprinted w Disk folder did out (inl unread) = subst (λ (p : Print). IsPrint w p out out) (sym unread.prints) refl
unprinted w Disk folder did out (inr refused) = subst (λ (p : Print). IsPrint w p out out) (sym refused.prints) refl
unprinted w Memory folder did out refused = subst (λ (p : Print). IsPrint w p out out) (sym refused.prints) refl

-- that memory was refused is what is reported of that fault
pub memory_told : (fault : ReadFault) (folder : List ℕ) (did : Outcome) → fault ≡ Memory → IsOutOfMemory did →
    TellsUnread fault folder did
memory_told fault folder did is refused = subst (λ (f : ReadFault). TellsUnread f folder did) (sym is) refused

module _ {T P W E V : Type 0} (side : WatchSide T P W E) (style : ScreenStyle) (folder : List ℕ) (before : List Row)
    (items : V → List Row) (takes read : List TakeProgress) (x x' : WatchWorld T P W E) where
  -- takes that were read are shown
  pub round_is : (r : Result V Exit) → takes ≡ read → side.reads x.takes folder read x'.takes →
      IfOk r (λ rows. items rows ≡ rows_after before takes) →
      OnOk r (HasPrinted side.out (screen_text style (rows_after before takes)) x.out x'.out) →
      OnOk r (side.waits x.pause 1000 x'.pause) → OnOk r (x'.faults ≡ x.faults) →
      IfOk r (λ rows. IsWatchRound side style folder before (items rows) x x')
  round_is (Ok rows) same reads shown printed waited unreported = record {
    takes = takes;
    reads = subst (λ (ts : List TakeProgress). side.reads x.takes folder ts x'.takes) (sym same) reads;
    shows = shown;
    prints = subst (λ (rs : List Row). HasPrinted side.out (screen_text style rs) x.out x'.out) (sym shown) printed;
    waits = waited;
    reports = unreported;
  }
  round_is (Err exit) same reads shown printed waited unreported = tt

  -- or they aren't
  pub end_is : (r : Result V Exit) → takes ≡ read → side.reads x.takes folder read x'.takes →
      IfErr r (λ exit. (did : Outcome) × (did.exit ≡ exit) × CutsScreen style before takes did
      × HasWritten side.out side.reported did x.out x'.out x.faults x'.faults × (x'.pause ≡ x.pause)) →
      IfErr r (λ exit. EndsWatch side style folder before exit x x')
  end_is (Ok rows) same reads ends = tt
  end_is (Err exit) same reads ends = record {
    did = ends.0;
    ends = ends.1;
    is = inr (
      takes,
      subst (λ (ts : List TakeProgress). side.reads x.takes folder ts x'.takes) (sym same) reads,
      ends.2,
    );
    writes = ends.3;
    unpaused = ends.4;
  }

-- one round more
pub rounds_next : {T P W E : Type 0} (side : WatchSide T P W E) (style : ScreenStyle) (folder : List ℕ) (n m : ℕ)
    (before lent rows : List Row) (x mid x' : WatchWorld T P W E) → m ≡ suc n → lent ≡ before →
    AreWatchRounds side style folder n before x mid → IsWatchRound side style folder lent rows mid x' →
    AreWatchRounds side style folder m rows x x'
rounds_next side style folder n m before lent rows x mid x' more same so round =
    subst (λ (k : ℕ). AreWatchRounds side style folder k rows x x') (sym more)
    (before, mid, so, subst (λ (b : List Row). IsWatchRound side style folder b rows mid x') same round)

-- a watch ends after the rows that were lent
pub ends_after : {T P W E : Type 0} (side : WatchSide T P W E) (style : ScreenStyle) (folder : List ℕ)
    (before lent : List Row) (exit : Exit) (x x' : WatchWorld T P W E) → lent ≡ before →
    EndsWatch side style folder lent exit x x' → EndsWatch side style folder before exit x x'
ends_after side style folder before lent exit x x' same ends =
    subst (λ (b : List Row). EndsWatch side style folder b exit x x') same ends

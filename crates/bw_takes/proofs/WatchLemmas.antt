-- What rounds of a watch over a disk leave of it.
use Rattle.std.proofs.Common.{◌⊎◌, inl, inr, ℕ, zero, suc, List, ap, sym, subst, refl}
use Rattle.bw_console.specs.Outcomes.{Outcome}
use Rattle.bw_console.specs.declared.exit.Exit.{Exit}
use Rattle.bw_disk.specs.DiskSteps.{StaysWhole}
use Rattle.bw_disk.specs.declared.disk.Disk.{Ghosts}
use Rattle.bw_disk.proofs.DiskChains.{stays_twice}
use Rattle.bw_stream.specs.declared.sink.Sink.{Ghosts as Writer}
use Rattle.bw_takes.specs.FolderProgress.{fails_folder, reads_folder}
use Rattle.bw_takes.specs.Watches.{AreWatchRounds, EndsWatch, IsLastRound, IsWatchOver, Watches, WatchWorld, watch_side}
use Rattle.bw_takes.specs.declared.screen.Row.{Row}
use Rattle.bw_takes.specs.declared.screen.ScreenStyle.{ScreenStyle}

module _ {D F P W E : Type 0} (G : Ghosts D F) (waits : P → ℕ → P → Type 0) (out : Writer W) (reported : Writer E)
    (style : ScreenStyle) (folder : List ℕ) where
  -- a disk that is as it was
  whole_here : (d : D) → StaysWhole G d d
  whole_here d = record { honest = refl; contents = λ h path. refl; synced = λ h path. refl }

  rounds_stay : (n : ℕ) (rows : List Row) (x x' : WatchWorld D P W E) →
      AreWatchRounds (watch_side (reads_folder G) (fails_folder G) waits out reported) style folder n rows x x' →
      StaysWhole G x.takes x'.takes
  rounds_stay zero rows x x' r = subst (λ (d : D). StaysWhole G x.takes d) (sym (ap (λ y. y.takes) r.1)) (whole_here x.takes)
  rounds_stay (suc n) rows x x' r =
      stays_twice G x.takes r.1.takes x'.takes (rounds_stay n r.0 x r.1 r.2) r.3.reads.disk

  last_stays : (before : List Row) (d d' : D) (did : Outcome) →
      IsLastRound (watch_side (reads_folder G) (fails_folder G) waits out reported) style folder before d d' did →
      StaysWhole G d d'
  last_stays before d d' did (inl unread) = unread.1.disk
  last_stays before d d' did (inr cut) = cut.1.disk

  ends_stay : (count : ℕ) (rows : List Row) (exit : Exit) (x x' : WatchWorld D P W E) →
      (EndsWatch (watch_side (reads_folder G) (fails_folder G) waits out reported) style folder rows exit x x'
      ⊎ IsWatchOver count exit x x') → StaysWhole G x.takes x'.takes
  ends_stay count rows exit x x' (inl e) = last_stays rows x.takes x'.takes e.did e.is
  ends_stay count rows exit x x' (inr o) =
      subst (λ (d : D). StaysWhole G x.takes d) (sym (ap (λ y. y.takes) o.same)) (whole_here x.takes)

  -- a whole watch leaves a disk as it was
  pub watch_stays : (exit : Exit) (x x' : WatchWorld D P W E) →
      Watches (watch_side (reads_folder G) (fails_folder G) waits out reported) style folder exit x x' →
      StaysWhole G x.takes x'.takes
  watch_stays exit x x' w =
      stays_twice G x.takes w.last.takes x'.takes (rounds_stay w.count w.rows x w.last w.rounds)
      (ends_stay w.count w.rows exit w.last x' w.ends)

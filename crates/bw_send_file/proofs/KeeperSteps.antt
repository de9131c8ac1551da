-- A keeper of a state gets reports of how far its sender is.
use Rattle.std.proofs.Common.{◌≡◌, ◌∙◌, Bool, true, false, ap, sym, refl}
use Rattle.std.specs.Prelude.{is_none}
use Rattle.bw_console.specs.Prints.{failures_if}
use Rattle.bw_ports.specs.declared.state_files.StateLog.{Ghosts as LogGhosts}
use Rattle.bw_send_file.specs.NotedCounts.{KeepsFault}
use Rattle.bw_send_file.specs.declared.keeper.StateKeeper.{StateKeeper}

module _ {L T : Type 0} (log : LogGhosts L) where
  -- two steps, after the first of which a call has failed or hasn't
  keeps_by : (b : Bool) (x y z : StateKeeper L T) → is_none y.fault ≡ b → KeepsFault log x y → KeepsFault log y z →
      is_none x.fault ≡ true → log.failures z.log ≡ failures_if (is_none z.fault) (log.failures x.log)
  keeps_by true x y z e h k some =
      k.counts e ∙ ap (failures_if (is_none z.fault)) (h.counts some ∙ ap (λ (b : Bool). failures_if b (log.failures x.log)) e)
  keeps_by false x y z e h k some =
      let s = k.stops e in
      ap (λ (l : L). log.failures l) s.0 ∙ h.counts some
      ∙ ap (λ (b : Bool). failures_if b (log.failures x.log)) (ap (λ (f : _). is_none f) (sym s.1))

  pub keeps_then : (x y z : StateKeeper L T) → KeepsFault log x y → KeepsFault log y z → KeepsFault log x z
  keeps_then x y z h k = record {
    counts = keeps_by (is_none y.fault) x y z refl h k;
    stops = λ none.
        let s = h.stops none in
        let t = k.stops (ap (λ (f : _). is_none f) s.1 ∙ none) in
        (t.0 ∙ s.0, t.1 ∙ s.1);
  }

-- What a command that resulted in this did.
use Rattle.std.proofs.Common.{◌≡◌, ℕ, true, refl, sym}
use Rattle.std.specs.Prelude.{Result, Ok, Err}
use Rattle.bw_stream.specs.declared.sink.Sink.{Ghosts as Writer}
use Rattle.bw_console.specs.Faults.{exit_on, input_fault_text, is_readable}
use Rattle.bw_console.specs.Outcomes.{HasWritten, Outcome, ResultsIn}
use Rattle.bw_console.specs.Prints.{IsOf, IsPrint, Nothing, Print, failures_if}
use Rattle.bw_console.specs.Text.{as_line}
use Rattle.bw_console.specs.declared.exit.Exit.{Exit}
use Rattle.bw_console.specs.declared.exit.Exit.TheVariants.{Done}
use Rattle.bw_console.specs.declared.fault.Fault.{Fault}

module _ {W E : Type 0} (w : Writer W) (e : Writer E) (is_print : Result (Unit {0}) Fault → Print → Type 0) where
  -- the command ended so, and its reads are counted
  abbrev pub Ends : Exit → ℕ → ℕ → W → W → E → E → Type 0
  Ends exit count count' out out' faults faults' =
      (did : Outcome) × (did.exit ≡ exit) × ResultsIn is_print did
      × (count' ≡ failures_if did.reads_all count) × HasWritten w e did out out' faults faults'

  pub ends_done : (count count' : ℕ) (out out' : W) (faults : E) (print : Print) → is_print (Ok tt) print →
      IsPrint w print out out' → count' ≡ failures_if true count → Ends Done count count' out out' faults faults
  ends_done count count' out out' faults print prints printed counted = (
    record { reads_all = true; out = print; faults = Nothing; exit = Done },
    refl,
    record { outcome = Ok tt; exit_is = refl; reads = refl; prints = prints; reports = refl },
    counted,
    record { printed = printed; reported = refl },
  )

  pub ends_at : (fault : Fault) (exit : Exit) (count count' : ℕ) (out out' : W) (faults faults' : E) (print report : Print) →
      is_print (Err fault) print → IsPrint w print out out' → count' ≡ failures_if (is_readable fault) count →
      exit ≡ exit_on fault → IsOf (as_line (input_fault_text fault)) report → IsPrint e report faults faults' →
      Ends exit count count' out out' faults faults'
  ends_at fault exit count count' out out' faults faults' print report prints printed counted ends reports reported = (
    record { reads_all = is_readable fault; out = print; faults = report; exit = exit_on fault },
    sym ends,
    record { outcome = Err fault; exit_is = refl; reads = refl; prints = prints; reports = reports },
    counted,
    record { printed = printed; reported = reported },
  )

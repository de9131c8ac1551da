-- How a command ends.
use Rattle.std.proofs.Common.{◌≡◌, ℕ, List, true, refl, inl, inr, subst}
use Rattle.bw_stream.specs.declared.sink.Sink.{Ghosts as Writer}
use Rattle.bw_console.specs.Faults.{input_fault_text}
use Rattle.bw_console.specs.Outcomes.{HasWritten, Outcome, IsOutOfMemory}
use Rattle.bw_console.specs.Prints.{HasPrinted, IsOf, Nothing, Print, Whole}
use Rattle.bw_console.specs.Text.{as_line}
use Rattle.bw_console.specs.declared.exit.Exit.{Exit}
use Rattle.bw_console.specs.declared.exit.Exit.TheVariants as exits
use Rattle.bw_console.specs.declared.fault.Fault.TheVariants as faults
use Rattle.bw_takes.specs.Showings.{PrintsTold, ReportsUnread}
use Rattle.bw_takes.specs.TakeReports.{Told}

-- what a command did that memory was refused, if this is reported
abbrev pub out_of_memory : Print → Outcome
out_of_memory reported = record { reads_all = true; out = Nothing; faults = reported; exit = exits.Memory }

pub is_out_of_memory : (reported : Print) → IsOf (as_line (input_fault_text faults.Memory)) reported →
    IsOutOfMemory (out_of_memory reported)
is_out_of_memory reported says = record { exit_is = refl; reads = refl; prints = refl; reports = says }

-- the lines are printed, and then it is reported which files can't be read, if any
told_after_lines : {W E : Type 0} (w : Writer W) (e : Writer E) (told : Told) (exit : Exit) (out out' : W)
    (f f' : E) → HasPrinted w told.lines out out' → ReportsUnread e told exit f f' →
    (did : Outcome) × (did.exit ≡ exit) × (did.reads_all ≡ true) × PrintsTold told did × HasWritten w e did out out' f f'
told_after_lines w e told exit out out' f f' printed (inl a) = (
  record { reads_all = true; out = Whole told.lines; faults = Nothing; exit = exit },
  refl,
  refl,
  inl (a.0, record { prints = refl; reports = refl; exit_is = a.1 }),
  record { printed = printed; reported = a.2 },
)
told_after_lines w e told exit out out' f f' printed (inr a) = (
  record { reads_all = true; out = Whole told.lines; faults = a.2.0; exit = exit },
  refl,
  refl,
  inr (inl (a.0, record { prints = refl; reports = a.2.1; exit_is = a.1 })),
  record { printed = printed; reported = a.2.2 },
)

-- the same of a text that is these lines
pub told_after_text : {W E : Type 0} (w : Writer W) (e : Writer E) (told : Told) (exit : Exit) (out out' : W)
    (f f' : E) (text : List ℕ) → text ≡ told.lines → HasPrinted w text out out' → ReportsUnread e told exit f f' →
    (did : Outcome) × (did.exit ≡ exit) × (did.reads_all ≡ true) × PrintsTold told did × HasWritten w e did out out' f f'
told_after_text w e told exit out out' f f' text is printed reported =
    told_after_lines w e told exit out out' f f' (subst (λ (t : List ℕ). HasPrinted w t out out') is printed) reported

-- What the command did with an input, in which a line is of a server, or none is.
use Rattle.std.proofs.Common.{◌≡◌, ◌≢◌, ◌≤◌, ℕ, Bool, true, false, List, Option, Some, length, refl, sym, subst}
use Rattle.std.specs.Prelude.{Err}
use Rattle.bw_stream.specs.declared.sink.Sink.{Ghosts as Writer}
use Rattle.bw_console.specs.Faults.{RefusesLength, exit_on, input_fault_text, is_readable}
use Rattle.bw_console.specs.Input.{longest_input}
use Rattle.bw_console.specs.Lines.{lines_of}
use Rattle.bw_console.specs.Outcomes.{HasWritten, Outcome, PrintsText}
use Rattle.bw_console.specs.Prints.{IsOf, IsPrint, Nothing, Print, Whole, Part}
use Rattle.bw_console.specs.Text.{as_line}
use Rattle.bw_console.specs.declared.exit.Exit.{Exit}
use Rattle.bw_console.specs.declared.fault.Fault.{Fault}
use Rattle.bw_console.specs.declared.fault.Fault.TheVariants as faults
use Rattle.bw_model.proofs.Elements.{some_inj}
use Rattle.bw_commands.proofs.EventLemmas.{length_refuses, of_text}
use Rattle.bw_delivery.specs.Chosen.{IsChosenRehearsal, IsFaultIf, IsPrintOfChosen, IsTextIf, PrintsChosen, RefusesIf}
use Rattle.bw_delivery.specs.ServerLines.{has_servers}

module _ (name : List ℕ) (limit : ℕ) (input : List ℕ) where
  -- a text of the input, as the bytes that are to be printed
  prints : (printed : List ℕ → Print) (text bytes : List ℕ) → IsTextIf (has_servers input) name limit input text →
      bytes ≡ text → PrintsChosen name limit (Some input) printed (printed bytes)
  prints printed text bytes right same = record {
    text = bytes;
    is = refl;
    right = λ xs reported. subst (λ (z : List ℕ). IsTextIf (has_servers z) name limit z bytes) (some_inj reported)
        (subst (IsTextIf (has_servers input) name limit input) (sym same) right);
  }

  pub text_printed : (text bytes : List ℕ) (did : Outcome) → IsTextIf (has_servers input) name limit input text →
      bytes ≡ text → PrintsText bytes did → IsChosenRehearsal name limit (Some input) did
  text_printed text bytes did right same =
      of_text (IsPrintOfChosen name limit (Some input)) bytes did (prints Whole text bytes right same)
      (prints Part text bytes right same)

-- a line that says no event refuses the input, and so does no other fault of lines
refuses_lines : (v : Bool) (fault : Fault) (input : List ℕ) → length input ≤ longest_input →
    IsFaultIf v fault (lines_of input) → RefusesIf v fault input
refuses_lines true (faults.NotEvent n) input within h = (within, h)
refuses_lines true faults.Memory input within h = tt
refuses_lines true fault input within h = absurd h
refuses_lines false (faults.NotEvent n) input within h = (within, h)
refuses_lines false faults.Memory input within h = tt
refuses_lines false fault input within h = absurd h

-- no fault of lines is one of the writer
no_writing : (v : Bool) (lines : List (List ℕ)) → ¬ IsFaultIf v faults.Unwritable lines
no_writing true lines h = h
no_writing false lines h = h

-- nor of the reader
readable : (v : Bool) (fault : Fault) (lines : List (List ℕ)) → IsFaultIf v fault lines → is_readable fault ≡ true
readable true faults.Unreadable lines h = absurd h
readable false faults.Unreadable lines h = absurd h
readable v fault lines h = refl

lines_refused : (name : List ℕ) (limit : ℕ) (input : List ℕ) (fault : Fault) → length input ≤ longest_input →
    IsFaultIf (has_servers input) fault (lines_of input) → IsPrintOfChosen name limit (Some input) (Err fault) Nothing
lines_refused name limit input faults.Unwritable within h = absurd (no_writing (has_servers input) (lines_of input) h)
lines_refused name limit input fault within h = record {
  is = refl;
  right = λ xs reported. subst (λ (z : List ℕ). RefusesIf (has_servers z) fault z) (some_inj reported)
      (refuses_lines (has_servers input) fault input within h);
}

-- the command ended so on bytes whose lines have a fault, all of which were read
pub lines_reported : {W E : Type 0} (w : Writer W) (e : Writer E) (name : List ℕ) (limit : ℕ) (input : List ℕ)
    (fault : Fault) (exit : Exit) (out : W) (reported reported' : E) (report : Print) → length input ≤ longest_input →
    IsFaultIf (has_servers input) fault (lines_of input) → exit ≡ exit_on fault →
    IsOf (as_line (input_fault_text fault)) report → IsPrint e report reported reported' →
    (did : Outcome) × (did.exit ≡ exit) × IsChosenRehearsal name limit (Some input) did × (did.reads_all ≡ true)
    × HasWritten w e did out out reported reported'
lines_reported w e name limit input fault exit out reported reported' report within h ends reports said = (
  record { reads_all = is_readable fault; out = Nothing; faults = report; exit = exit_on fault },
  sym ends,
  record {
    outcome = Err fault;
    exit_is = refl;
    reads = refl;
    prints = lines_refused name limit input fault within h;
    reports = reports;
  },
  readable (has_servers input) fault (lines_of input) h,
  record { printed = refl; reported = said },
)

-- a fault of the length refuses, whatever the lines say
refuses_if : (v : Bool) (fault : Fault) (xs : List ℕ) → RefusesLength fault xs → RefusesIf v fault xs
refuses_if true (faults.NotEvent n) xs h = absurd h
refuses_if true fault xs h = length_refuses fault xs h
refuses_if false fault xs h = length_refuses fault xs h

pub unread_refuses : (name : List ℕ) (limit : ℕ) (input : Option (List ℕ)) (fault : Fault) →
    ((xs : List ℕ) → input ≡ Some xs → RefusesLength fault xs) → fault ≢ faults.Unwritable →
    IsPrintOfChosen name limit input (Err fault) Nothing
unread_refuses name limit input faults.Unwritable h own = absurd (own refl)
unread_refuses name limit input fault h own =
    record { is = refl; right = λ xs reported. refuses_if (has_servers xs) fault xs (h xs reported) }

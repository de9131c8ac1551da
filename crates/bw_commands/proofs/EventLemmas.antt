-- What is printed of an input, and what refuses it.
use Rattle.std.proofs.Common.{◌≡◌, ◌≢◌, ℕ, List, Option, Some, Ok, Err, refl, subst, sym, inl, inr}
use Rattle.std.specs.Prelude.{Result}
use Rattle.bw_console.specs.Input.{Asked, Exchanges, asked_by}
use Rattle.bw_console.specs.Faults.{RefusesInput, RefusesLength}
use Rattle.bw_console.specs.Outcomes.{Outcome, PrintsText, ResultsIn}
use Rattle.bw_console.specs.Prints.{Nothing, Whole, Part, Print}
use Rattle.bw_console.specs.declared.fault.Fault.{Fault}
use Rattle.bw_console.specs.declared.fault.Fault.TheVariants as faults
use Rattle.bw_commands.specs.Replays.{IsPrintOf, IsRunText, IsTextFor, PrintsRun}
use Rattle.bw_commands.specs.Rehearsals.{RefusesEvents}

pub length_refuses : (fault : Fault) (xs : List ℕ) → RefusesLength fault xs → RefusesEvents fault xs
length_refuses (faults.NotEvent n) xs h = absurd h
length_refuses faults.Unwritable xs h = absurd h
length_refuses fault xs h = h

pub refuses_run : (limit : ℕ) (fuse : Option ℕ) (input : Option (List ℕ)) (fault : Fault) →
    ((xs : List ℕ) → input ≡ Some xs → RefusesInput fault (asked_by xs)) → fault ≢ faults.Unwritable →
    IsPrintOf limit fuse input (Err fault) Nothing
refuses_run limit fuse input faults.Unwritable h own = absurd (own refl)
refuses_run limit fuse input fault h own = record { is = refl; right = h }

-- the text of a run was to be printed, as these bytes
pub run_printed : (limit : ℕ) (fuse : Option ℕ) (input : Option (List ℕ)) (inputs : List (List ℕ))
    (printed : List ℕ → Print) (text bytes : List ℕ) →
    ((xs : List ℕ) → input ≡ Some xs → asked_by xs ≡ Exchanges inputs) → IsRunText limit fuse inputs text →
    bytes ≡ text → PrintsRun limit fuse input printed (printed bytes)
run_printed limit fuse input inputs printed text bytes asks right same = record {
  text = bytes;
  is = refl;
  right = λ xs reported. subst (λ (a : Asked). IsTextFor limit fuse a bytes) (sym (asks xs reported))
      (subst (IsRunText limit fuse inputs) (sym same) right);
}

-- a command whose text is all that it prints, by what is said of a text that is printed, or is not
pub of_text : (is_print : Result (Unit {0}) Fault → Print → Type 0) (text : List ℕ) (did : Outcome) →
    is_print (Ok tt) (Whole text) → is_print (Err faults.Unwritable) (Part text) → PrintsText text did →
    ResultsIn is_print did
of_text is_print text did whole part (read, inl (ended, printed, none)) = record {
  outcome = Ok tt;
  exit_is = ended;
  reads = read;
  prints = subst (is_print (Ok tt)) (sym printed) whole;
  reports = none;
}
of_text is_print text did whole part (read, inr (ended, printed, reported)) = record {
  outcome = Err faults.Unwritable;
  exit_is = ended;
  reads = read;
  prints = subst (is_print (Err faults.Unwritable)) (sym printed) part;
  reports = reported;
}

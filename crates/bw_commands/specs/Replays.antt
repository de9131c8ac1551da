-- What a replay reads and writes, and how it ends.
use Rattle.std.specs.Prelude.{◌≡◌, ◌≤◌, ◌+◌, ◌*◌, ◌++◌, ℕ, Option, List, Result, Ok, Err}
use Rattle.bw_store.specs.MemoryNames.{AreNames}
use Rattle.bw_stream.specs.Readers.{Of}
use Rattle.bw_console.specs.Outcomes.{Outcome, ResultsIn}
use Rattle.bw_console.specs.Faults.{RefusesInput}
use Rattle.bw_console.specs.Input.{Asked, asked_by, TooLong, NotHex, Exchanges}
use Rattle.bw_session.specs.ServerRuns.{all_done}
use Rattle.bw_commands.specs.OneFuse.{failures_under, SufficeFor}
use Rattle.bw_console.specs.Prints.{Print, Nothing, Whole, Part}
use Rattle.bw_commands.specs.Runs.{ReportedExchange, IsReplayRun}
use Rattle.bw_commands.specs.Text.{exchanges_text, files_text}
use Rattle.bw_console.specs.declared.fault.Fault.{Fault}
use Rattle.bw_console.specs.declared.fault.Fault.TheVariants as faults

-- The text of a run of these inputs over a store of which the call of the fuse's number fails, if
-- there is a fuse: its exchanges, and then the files in the order of their names.
pub record IsRunText (limit : ℕ) (fuse : Option ℕ) (inputs : List (List ℕ)) (text : List ℕ) :
    Type 0 where
  pub reported : List ReportedExchange
  pub contents : List ℕ → Option (List ℕ)
  -- one store call failed if the run made more than `fuse`, else none; none without a fuse
  pub calls : ℕ
  pub failures : ℕ
  pub failed : failures ≡ failures_under fuse calls
  pub run : IsReplayRun limit inputs failures reported contents
  pub names : List (List ℕ)
  pub ordered : AreNames names contents
  -- each file took the calls that made it and wrote it
  pub took : SufficeFor contents names calls
  -- and at most four came for each number that was done, and for the one whose call failed
  pub most : calls ≤ 4 * (all_done run.book + failures)
  pub is : text ≡ exchanges_text 0 reported ++ files_text contents names

-- the input asks for exchanges, and this is the text of a run of them
abbrev pub IsTextFor : ℕ → Option ℕ → Asked → List ℕ → Type 0
IsTextFor limit fuse (Exchanges inputs) text = IsRunText limit fuse inputs text
IsTextFor limit fuse TooLong text = ⊥
IsTextFor limit fuse (NotHex n) text = ⊥

-- the text of a run that an input asks for was to be printed
pub record PrintsRun (limit : ℕ) (fuse : Option ℕ) (input : Option (List ℕ))
    (printed : List ℕ → Print) (print : Print) : Type 0 where
  pub text : List ℕ
  pub is : print ≡ printed text
  pub right : Of input (λ xs. IsTextFor limit fuse (asked_by xs) text)

-- nothing is printed, and a fault that refuses is the one that the input has
pub record PrintsNothing (input : Option (List ℕ)) (fault : Fault) (print : Print) : Type 0 where
  pub is : print ≡ Nothing
  pub right : Of input (λ xs. RefusesInput fault (asked_by xs))

-- what is printed of a replay that results in this
abbrev pub IsPrintOf : ℕ → Option ℕ → Option (List ℕ) → Result (Unit {0}) Fault → Print →
    Type 0
IsPrintOf limit fuse input (Ok x) print = PrintsRun limit fuse input Whole print
IsPrintOf limit fuse input (Err faults.Unwritable) print = PrintsRun limit fuse input Part print
IsPrintOf limit fuse input (Err fault) print = PrintsNothing input fault print

-- a replay of this input did this, over a store of which the call of the fuse's number fails, if
-- there is a fuse
abbrev pub IsReplay : ℕ → Option ℕ → Option (List ℕ) → Outcome → Type 0
IsReplay limit fuse input = ResultsIn (IsPrintOf limit fuse input)

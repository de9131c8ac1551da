-- What the command `send` reads and writes, and how it ends.
use Rattle.std.specs.Prelude.{◌≡◌, ℕ, Option, List, Result, Ok, Err, codes}
use Rattle.bw_model.specs.Take.{Request}
use Rattle.bw_stream.specs.declared.sink.Sink.{Ghosts as Writer}
use Rattle.bw_stream.specs.declared.source.Source.{Ghosts as Reader}
use Rattle.bw_stream.specs.Readers.{Of}
use Rattle.bw_console.specs.Outcomes.{Outcome}
use Rattle.bw_console.specs.Faults.{IsReportedBy, exit_on, is_read}
use Rattle.bw_console.specs.Prints.{Print, Nothing, Whole, Part, IsOf}
use Rattle.bw_console.specs.Text.{as_line}
use Rattle.bw_console.specs.declared.exit.Exit.{Exit}
use Rattle.bw_console.specs.declared.exit.Exit.TheVariants.{Done, Device}
use Rattle.bw_console.specs.declared.fault.Fault.{Fault}
use Rattle.bw_console.specs.declared.fault.Fault.TheVariants as faults
use Rattle.bw_upload.specs.RequestLines.{AreRequestsOf, RefusesRequests}
use Rattle.bw_upload.specs.RoundsMade.{MakesRounds}
use Rattle.bw_upload.specs.SenderText.{sender_text}
use Rattle.bw_upload.specs.SendState.{Sending, OffersInOrder, EachIsStored, exit_for_sender}
use Rattle.bw_upload.specs.SendState.{new_sending}
use Rattle.bw_ports.specs.declared.dial.Dial.{Ghosts as DialGhosts}

-- how the command ends after this outcome
abbrev pub exit_of_send : Result Exit Fault → Exit
exit_of_send (Ok exit) = exit
exit_of_send (Err fault) = exit_on fault

-- what is reported of a sender that isn't done
abbrev pub unsettled_line : List ℕ
unsettled_line = as_line (codes "not every request has its verdict yet")

-- what is reported where the input was sent: that line, where the sender isn't done
abbrev pub ReportsOfExit : Exit → Print → Type 0
ReportsOfExit Device reported = IsOf unsettled_line reported
ReportsOfExit exit reported = reported ≡ Nothing

-- what is reported of the command's outcome
abbrev pub ReportsOfSend : Result Exit Fault → Print → Type 0
ReportsOfSend (Ok exit) reported = ReportsOfExit exit reported
ReportsOfSend (Err fault) reported = IsReportedBy (Err fault) reported

module _ {D R W : Type 0} (dial : DialGhosts D R W) (reader : Reader R) (writer : Writer W) where
  -- The input's requests were sent in rounds by a new sender of this name, and the text of the
  -- sender's outcome was to be printed.
  pub record PrintsSender (name : List ℕ) (rounds : ℕ) (input : Option (List ℕ)) (d d' : D)
      (printed : List ℕ → Print) (exit : Exit) (print : Print) : Type 0 where
    pub requests : List Request
    pub said : Of input (λ xs. AreRequestsOf xs requests)
    pub last : Sending
    pub went : MakesRounds dial reader writer rounds (new_sending name requests) last d d'
    pub is : print ≡ printed (sender_text last.sender)
    pub exit_is : exit ≡ exit_for_sender last
    pub in_order : OffersInOrder last
    pub done : exit ≡ Done → EachIsStored last

  -- nothing is printed, and nothing was sent: the input can't be read, or has this fault
  pub record RefusesSend (input : Option (List ℕ)) (d d' : D) (fault : Fault) (print : Print)
      : Type 0 where
    pub is : print ≡ Nothing
    pub right : Of input (λ xs. RefusesRequests fault xs)
    pub unsent : d' ≡ d

  -- what is printed by the command that results in this
  abbrev pub IsPrintOfSend : List ℕ → ℕ → Option (List ℕ) → D → D → Result Exit Fault →
      Print → Type 0
  IsPrintOfSend name rounds input d d' (Ok exit) print =
      PrintsSender name rounds input d d' Whole exit print
  IsPrintOfSend name rounds input d d' (Err faults.Unwritable) print =
      (exit : Exit) × PrintsSender name rounds input d d' Part exit print
  IsPrintOfSend name rounds input d d' (Err faults.Memory) print = print ≡ Nothing
  IsPrintOfSend name rounds input d d' (Err faults.TooLong) print =
      RefusesSend input d d' faults.TooLong print
  IsPrintOfSend name rounds input d d' (Err (faults.NotHex n)) print =
      RefusesSend input d d' (faults.NotHex n) print
  IsPrintOfSend name rounds input d d' (Err (faults.NotEvent n)) print =
      RefusesSend input d d' (faults.NotEvent n) print
  IsPrintOfSend name rounds input d d' (Err (faults.NotRequest n)) print =
      RefusesSend input d d' (faults.NotRequest n) print
  IsPrintOfSend name rounds input d d' (Err faults.Unreadable) print =
      RefusesSend input d d' faults.Unreadable print

  -- the command did this with the input and the links
  pub record IsSendRun (name : List ℕ) (rounds : ℕ) (input : Option (List ℕ)) (d d' : D)
      (did : Outcome) : Type 0 where
    pub outcome : Result Exit Fault
    pub exit_is : did.exit ≡ exit_of_send outcome
    pub reads : did.reads_all ≡ is_read outcome
    pub prints : IsPrintOfSend name rounds input d d' outcome did.out
    pub reports : ReportsOfSend outcome did.faults

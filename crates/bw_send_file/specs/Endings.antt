-- What is reported at the end of an upload, and how the command ends.
use Rattle.std.specs.Prelude.{◌≡◌, ◌⊎◌, ◌++◌, ℕ, List, codes, decimal}
use Rattle.bw_model.specs.World.{Sender}
use Rattle.bw_console.specs.Faults.{input_fault_text}
use Rattle.bw_console.specs.Outcomes.{Outcome as Did, IsOutOfMemory}
use Rattle.bw_console.specs.Prints.{Print, Nothing, Whole, Part, IsOf}
use Rattle.bw_console.specs.Text.{as_line}
use Rattle.bw_console.specs.declared.exit.Exit.{Exit}
use Rattle.bw_console.specs.declared.exit.Exit.TheVariants as exits
use Rattle.bw_console.specs.declared.fault.Fault.TheVariants as faults
use Rattle.bw_inspect.specs.Faults.{inspect_fault_text}
use Rattle.bw_inspect.specs.declared.fault.InspectFault.{InspectFault}
use Rattle.bw_recorder.specs.Packs.{IsOpenReport}
use Rattle.bw_recorder.specs.declared.fault.OpenFault.TheVariants as opens
use Rattle.bw_upload.specs.SenderText.{sender_text}
use Rattle.bw_upload.specs.declared.outcome.Outcome.{Outcome}
use Rattle.bw_upload.specs.declared.outcome.Outcome.TheVariants as outcomes
use Rattle.bw_send_file.specs.declared.fault.FeedFault.{FeedFault}
use Rattle.bw_send_file.specs.declared.fault.FeedFault.TheVariants.{Unread, Unstamped, Refused, Changed}
use Rattle.bw_send_file.specs.declared.fault.FeedFault.TheVariants.{Unsendable, Memory}

-- the lines, whose first word is the cause; of two of them with the line of a hint below
abbrev pub conflict_line : ℕ → List ℕ
conflict_line n = as_line (codes "Conflict: another request was sent under number " ++ decimal n)
    ++ codes
    "hint: another recording has this name: use another, or give that one up: bwingest takes --folder DIR --give-up NAME\n"

abbrev pub too_far_line : ℕ → List ℕ
too_far_line n = as_line (codes "TooFar: the server lacks requests before number " ++ decimal n)
    ++ codes "hint: the server hasn't the take any more: send it again under another name\n"

abbrev pub not_offered_line : List ℕ
not_offered_line = as_line (codes "NotOffered: the sender takes no more requests")

abbrev pub fruitless_line : List ℕ
fruitless_line = as_line (codes "Fruitless: as many links in a row as are allowed settled nothing")

abbrev pub limit_line : List ℕ
limit_line = as_line (codes "Limit: no more links are made")

abbrev pub unread_line : InspectFault → List ℕ
unread_line f = as_line (codes "send: " ++ inspect_fault_text f)

abbrev pub altered_line : List ℕ
altered_line = as_line (codes "Changed: the file isn't any more what it was")

abbrev pub unsendable_line : List ℕ
unsendable_line = as_line (codes "Unsendable: no message carries the next request")

abbrev pub memory_line : List ℕ
memory_line = as_line (input_fault_text faults.Memory)

-- this line is reported, and the command ends so
abbrev pub EndsWithLine : List ℕ → Exit → Exit → Print → Type 0
EndsWithLine line end exit print = (exit ≡ end) × IsOf line print

-- what is reported where the file at a path gives no more requests
abbrev pub IsFileReport : List ℕ → FeedFault → Exit → Print → Type 0
IsFileReport path (Unread f) exit print = EndsWithLine (unread_line f) exits.Device exit print
IsFileReport path (Unstamped error) exit print =
    IsOpenReport (codes "send") path (opens.Unopened error) exit print
IsFileReport path (Refused f) exit print = IsOpenReport (codes "send") path (opens.Refused f) exit print
IsFileReport path Changed exit print = EndsWithLine altered_line exits.Refused exit print
IsFileReport path Unsendable exit print = EndsWithLine unsendable_line exits.Refused exit print
IsFileReport path Memory exit print = EndsWithLine memory_line exits.Memory exit print

-- what is reported of an outcome: nothing where all is stored, or a request was refused
abbrev pub IsOutcomeReport : List ℕ → Outcome FeedFault → Exit → Print → Type 0
IsOutcomeReport path outcomes.Done exit print = (exit ≡ exits.Done) × (print ≡ Nothing)
IsOutcomeReport path (outcomes.Refused n v) exit print = (exit ≡ exits.Refused) × (print ≡ Nothing)
IsOutcomeReport path (outcomes.Conflict n) exit print =
    EndsWithLine (conflict_line n) exits.Refused exit print
IsOutcomeReport path (outcomes.TooFar n) exit print = EndsWithLine (too_far_line n) exits.Refused exit print
IsOutcomeReport path (outcomes.NotOffered error) exit print =
    EndsWithLine not_offered_line exits.Refused exit print
IsOutcomeReport path outcomes.Fruitless exit print = EndsWithLine fruitless_line exits.Device exit print
IsOutcomeReport path (outcomes.Feed fault) exit print = IsFileReport path fault exit print
IsOutcomeReport path outcomes.Memory exit print = EndsWithLine memory_line exits.Memory exit print
IsOutcomeReport path outcomes.Limit exit print = EndsWithLine limit_line exits.Device exit print

-- the counts and the refused numbers are printed, and then the outcome is reported
pub record EndsPrinted (path : List ℕ) (s : Sender) (outcome : Outcome FeedFault) (did : Did)
    : Type 0 where
  pub prints : did.out ≡ Whole (sender_text s)
  pub reports : IsOutcomeReport path outcome did.exit did.faults

-- the writer failed before their end
pub record EndsUnprinted (s : Sender) (did : Did) : Type 0 where
  pub prints : did.out ≡ Part (sender_text s)
  pub exit_is : did.exit ≡ exits.Device
  pub reports : IsOf (as_line (input_fault_text faults.Unwritable)) did.faults

-- a command ends so after an upload with this outcome and this sender
abbrev pub EndsAfter : List ℕ → Sender → Outcome FeedFault → Did → Type 0
EndsAfter path s outcome did =
    EndsPrinted path s outcome did ⊎ EndsUnprinted s did ⊎ IsOutOfMemory did

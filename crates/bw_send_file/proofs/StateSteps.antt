-- What is stored once a command with a state has ended with the status 0.
use Rattle.std.proofs.Common.{◌≡◌, ◌∙◌, ℕ, List, MatchOption, None, Option, Some, refl, sym, subst, inl, inr}
use Rattle.std.specs.IoError.{error_kind}
use Rattle.std.specs.declared.io.Error.{Error}
use Rattle.std.specs.declared.io.ErrorKind.{ErrorKind}
use Rattle.bw_stream.specs.declared.sink.Sink.{Ghosts as Writer}
use Rattle.bw_stream.specs.declared.source.Source.{Ghosts as Reader}
use Rattle.bw_ports.specs.declared.dial.Dial.{Ghosts as DialGhosts}
use Rattle.bw_ports.specs.declared.pause.Pause.{Ghosts as PauseGhosts}
use Rattle.bw_console.specs.Prints.{IsPrint, Nothing, Print}
use Rattle.bw_console.specs.declared.exit.Exit.{Exit}
use Rattle.bw_console.specs.declared.exit.Exit.TheVariants as exits
use Rattle.bw_plan.specs.Recordings.{Options}
use Rattle.bw_ports.specs.declared.recording_files.FileStamp.{FileStamp}
use Rattle.bw_recorder.proofs.Statuses.{memory_ends, unopened_ends}
use Rattle.bw_recorder.specs.Packs.{Packing}
use Rattle.bw_send_file.specs.Sendings.{Ways}
use Rattle.bw_send_file.proofs.AskSteps.{has_answered}
use Rattle.bw_send_file.specs.Asks.{HasAnswered}
use Rattle.bw_send_file.specs.FilesSentOn.{Continuation, EndsKept, HasContinued, HasReported, IsUnsent, Outside, SendingSide, SendsFrom}
use Rattle.bw_send_file.specs.FilesSentOn.{StartsAt, StopsBeforeSending, known_file_of}
use Rattle.bw_send_file.specs.FoundCounts.{IsCountFound, IsStateFound, ResumesAt}
use Rattle.bw_send_file.specs.StateReports.{ReportsUnkept}
use Rattle.bw_send_file.specs.declared.resumed_job.Job.{Job}
use Rattle.bw_send_file.specs.declared.place.Found.{Found}

unkept_ends : (path : List ℕ) (kind : ErrorKind) (exit : Exit) (print : Print) → ReportsUnkept path kind exit print →
    exit ≡ exits.Done → ⊥
unkept_ends path kind exit print (inl x) done = unopened_ends kind (sym x.1.0 ∙ done)
unkept_ends path kind exit print (inr x) done = memory_ends (sym x.0 ∙ done)

-- a command whose state isn't kept doesn't end with the status 0
pub kept_done : (path : List ℕ) (sent exit : Exit) (print : Print) → EndsKept path sent exit print → exit ≡ exits.Done →
    sent ≡ exits.Done
kept_done path sent exit print (inl x) done = sym x.0 ∙ done
kept_done path sent exit print (inr x) done = absurd (unkept_ends path x.0 exit print x.1 done)

-- the count that was found is the one that the state says
pub count_is : (file : Option (List ℕ)) (header : List ℕ) (found : Found) → IsStateFound file header found →
    IsCountFound file header found.count
count_is file header found says = λ bytes is. (says bytes is).1.count

module _ {P D R W : Type 0} (pause : PauseGhosts P) (dial : DialGhosts D R W) (reader : Reader R)
    (writer : Writer W) where
  -- where it begins follows from what was found and answered
  pub resumes : (job : Job) (found : Found) (count : ℕ) (old new : Ways P D) (print : Print) →
      StartsAt pause dial reader writer job found count old new print →
      ResumesAt found.count (HasAnswered dial reader job.recorder.name.now) count
  resumes job found count old new print (inl x) = inl (x.none, x.count_is)
  resumes job found count old new print (inr x) = inr (
    x.next,
    has_answered pause dial reader writer job.recorder.name.now job.recorder.fruitless x.next old new x.answers,
    x.count_is,
  )

-- the end of a command whose state was kept, or wasn't
pub ends_kept : (path : List ℕ) (told : Option Error) (sent exit : Exit) (print : Print) →
    MatchOption told ((exit ≡ sent) × (print ≡ Nothing)) (λ error. ReportsUnkept path (error_kind error) exit print) →
    EndsKept path sent exit print
ends_kept path None sent exit print h = inl h
ends_kept path (Some error) sent exit print h = inr (error_kind error, h)

-- nothing was sent, and what was reported was a start and a fault
pub continued : {W E : Type 0} (w : Writer W) (e : Writer E) (did : Continuation) (out : W) (faults faults' : E) →
    IsUnsent did → HasReported e did faults faults' → HasContinued w e did out out faults faults'
continued {W} {E} w e did out faults faults' unsent has = record {
  begun = has.begun;
  begins = has.begins;
  sent = faults';
  sends = record {
    between = has.begun;
    warns = subst (λ (p : Print). IsPrint e p has.begun has.begun) (sym unsent.silent.warned) refl;
    prints = subst (λ (p : Print). IsPrint w p out out) (sym unsent.silent.prints) refl;
    reports = has.reports;
  };
  ends = subst (λ (p : Print). IsPrint e p faults' faults') (sym unsent.keeps) refl;
}

module _ {F P D R W : Type 0} (side : SendingSide F P D R W) (job : Job) where
  pub unsent_before : (o : Options) (outside : Outside) (old new : Ways P D) (did : Continuation) →
      StopsBeforeSending side job o outside old new did → IsUnsent did
  unsent_before o outside old new did (inl x) = x.0.unsent
  unsent_before o outside old new did (inr x) = x.unsent

  -- the files are as they were when the state was read
  pub sends_same : (o : Options) (file file' : List ℕ → Option (List ℕ)) (stamp stamp' : List ℕ → Option FileStamp)
      (count : ℕ) (old new : Ways P D) (did : Packing) → file' ≡ file → stamp' ≡ stamp →
      SendsFrom side job o (known_file_of job file' stamp') count old new did →
      SendsFrom side job o (known_file_of job file stamp) count old new did
  sends_same o file file' stamp stamp' count old new did files stamps sends =
      subst (λ (f : List ℕ → Option (List ℕ)). SendsFrom side job o (known_file_of job f stamp) count old new did) files
      (subst (λ (t : List ℕ → Option FileStamp). SendsFrom side job o (known_file_of job file' t) count old new did) stamps sends)

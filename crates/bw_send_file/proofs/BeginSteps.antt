-- A command with a state ends before anything was sent.
use Rattle.std.proofs.Common.{◌≡◌, ◌⊎◌, ℕ, Bool, true, false, refl, inl, inr}
use Rattle.bw_console.specs.Prints.{Print, Nothing, failures_if}
use Rattle.bw_console.specs.declared.exit.Exit.{Exit}
use Rattle.bw_stream.specs.Moves.{one_more}
use Rattle.bw_ports.specs.declared.recording_files.FileStamp.{FileStamp}
use Rattle.std.proofs.Common.{Option}
use Rattle.bw_plan.specs.Recordings.{Options}
use Rattle.bw_recorder.specs.Packs.{Packing}
use Rattle.bw_recorder.proofs.PackSteps.{refusal}
use Rattle.bw_upload.specs.declared.feed.Feed.{Ghosts as FeedGhosts}
use Rattle.bw_send_file.specs.declared.fault.FeedFault.{FeedFault}
use Rattle.bw_send_file.specs.FilesSentOn.{Continuation, GivesNoHeader, IsSilent, IsUnsent, KnownFile}
use Rattle.bw_send_file.specs.declared.resumed_job.Job.{Job}

-- a call failed, or this is so
pub well_of : (n m : ℕ) (P : Type 0) → (m ≡ one_more n) ⊎ ((m ≡ n) × P) →
    (well : Bool) × (m ≡ failures_if well n) × (well ≡ true → P)
well_of n m P (inl e) = (false, e, λ x. absurd cc)
well_of n m P (inr e) = (true, e.0, λ x. e.1)

-- nothing is printed where a file gives no header
pub silent_of : {F : Type 0} (feed : FeedGhosts F FeedFault) (looks_at : Option FileStamp → F → Type 0) (job : Job)
    (o : Options) (file : KnownFile) (did : Packing) → GivesNoHeader feed looks_at job o file did → IsSilent did
silent_of feed looks_at job o file did (inl x) = record { warned = x.warned; prints = x.prints }
silent_of feed looks_at job o file did (inr x) = x.silent

-- the command ended with this report, and nothing was sent
abbrev pub ended_with : Bool → Print → Exit → Print → Continuation
ended_with well began exit print = record {
  is_state_well = well;
  began = began;
  sent = refusal exit print;
  unkept = Nothing;
  exit = exit;
}

pub sends_nothing : (well : Bool) (began : Print) (exit : Exit) (print : Print) → IsUnsent (ended_with well began exit print)
sends_nothing well began exit print =
    record { silent = record { warned = refl; prints = refl }; keeps = refl; exit_is = refl }

-- What is stored once the rest of a recording was sent.
use Rattle.std.proofs.Common.{◌≡◌, ◌⊎◌, ◌∙◌, ℕ, true, List, ◌++◌, length, take, Some, refl, ap, sym, inl, inr, subst}
use Rattle.std.proofs.Math.Seq.{take-append_seam}
use Rattle.bw_model.specs.Take.{Request}
use Rattle.bw_model.specs.World.{Sender as Defined}
use Rattle.bw_stream.specs.declared.sink.Sink.{Ghosts as Writer}
use Rattle.bw_stream.specs.declared.source.Source.{Ghosts as Reader}
use Rattle.bw_ports.specs.declared.dial.Dial.{Ghosts as DialGhosts}
use Rattle.bw_ports.specs.declared.pause.Pause.{Ghosts as PauseGhosts}
use Rattle.bw_ports.specs.declared.recording_files.FileStamp.{FileStamp}
use Rattle.bw_console.specs.Outcomes.{Outcome as Did}
use Rattle.bw_console.specs.Prints.{Print, Nothing}
use Rattle.bw_console.specs.declared.exit.Exit.{Exit}
use Rattle.bw_console.specs.declared.exit.Exit.TheVariants as exits
use Rattle.bw_plan.specs.Recordings.{Options}
use Rattle.bw_recorder.specs.Packs.{IsReportedText}
use Rattle.bw_upload.specs.declared.feed.Feed.{Ghosts as FeedGhosts}
use Rattle.bw_send_file.specs.Endings.{IsFileReport}
use Rattle.bw_send_file.specs.Sendings.{IsFeedSentAfter}
use Rattle.bw_send_file.specs.Sendings.{Errand, StoresAll, Ways}
use Rattle.bw_send_file.specs.declared.fault.FeedFault.{FeedFault}
use Rattle.bw_send_file.specs.declared.fault.FeedFault.TheVariants.{Changed}
use Rattle.bw_send_file.specs.FilesSentOn.{KnownFile, OpensFile, SendingSide, SendsFrom}
use Rattle.bw_send_file.specs.SentOn.{UploadsAll, WasStoredBefore}
use Rattle.bw_send_file.specs.SkippedRequests.{FailsFirst, LacksFirst, SkipsFirst}
use Rattle.bw_send_file.specs.declared.resumed_job.Job.{Job}

memory_ends : exits.Memory ≡ exits.Done → ⊥
memory_ends e = cc

-- the first requests and the rest
whole_again : (count : ℕ) (requests given rest first : List Request) → requests ≡ given ++ rest → length given ≡ count →
    first ≡ take count requests → first ++ rest ≡ requests
whole_again count requests given rest first all many is =
    ap (λ (xs : List Request). xs ++ rest)
    (is ∙ ap (take count) all ∙ ap (λ (k : ℕ). take k (given ++ rest)) (sym many) ∙ take-append_seam given rest)
    ∙ sym all

module _ {F P D R W : Type 0} (feed : FeedGhosts F FeedFault) (pause : PauseGhosts P)
    (dial : DialGhosts D R W) (reader : Reader R) (writer : Writer W) where
  -- after the first ones were passed over
  pub rest_sent : (e : Errand) (count : ℕ) (requests : List Request) (s : Defined) (g g' : F) (old new : Ways P D) (did : Did) →
      SkipsFirst count requests (feed.left g) → WasStoredBefore e.name count requests s →
      IsFeedSentAfter feed pause dial reader writer s e g g' old new did → did.exit ≡ exits.Done →
      UploadsAll feed pause dial reader writer e.most requests s old new
  rest_sent e count requests s g g' old new did skips before (inl x) done = record {
    begun = g;
    ended = g';
    outcome = x.outcome;
    sender = x.sender;
    went = x.went;
    stores = subst (λ (rs : List Request). StoresAll rs x.went.last.filling.sender)
        (whole_again count requests skips.given skips.rest s.offered skips.all skips.many before.first)
        (x.done done skips.rest skips.to_come);
  }
  rest_sent e count requests s g g' old new did skips before (inr (inl x)) done = absurd (x.undone done)
  rest_sent e count requests s g g' old new did skips before (inr (inr x)) done =
      absurd (memory_ends (sym x.ends.exit_is ∙ done))

module _ {F P D R W : Type 0} (side : SendingSide F P D R W) (job : Job) where
  -- the file was opened again, but its first requests can't be passed over, for this fault
  pub fails_to_pass : (o : Options) (file : KnownFile) (count : ℕ) (begun : F) (text : List ℕ) (stays : Ways P D)
      (fault : FeedFault) (exit : Exit) (warned reported : Print) →
      OpensFile side.feed side.looks_at job o file begun text → IsReportedText text warned →
      FailsFirst side.feed count begun fault
      ⊎ ((fault ≡ Changed) × ((now : FileStamp) → file.stamp ≡ Some now → LacksFirst side.feed count begun)) →
      IsFileReport job.file.path.now fault exit reported →
      SendsFrom side job o file count stays stays (record {
        is_system_well = true;
        warned = warned;
        out = Nothing;
        faults = reported;
        exit = exit;
      })
  fails_to_pass o file count begun text stays fault exit warned reported opens warns why reports = inr (record {
    begun = begun;
    text = text;
    opens = opens;
    warns = warns;
    well = refl;
    goes = inr (record { unsent = refl; prints = refl; fault = fault; why = why; reports = reports });
  })

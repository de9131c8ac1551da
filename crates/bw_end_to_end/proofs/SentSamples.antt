-- Samples that were sent with status 0 are copied.
use Rattle.std.proofs.Common.{◌≡◌, inl, inr, ℕ, true, List, [], map, refl, sym, ◌∙◌}
use Rattle.std.specs.Prelude.{codes, string_bytes}
use Rattle.bw_model.specs.Wire.{are_bytes}
use Rattle.bw_stream.specs.declared.sink.Sink.{Ghosts as Writer}
use Rattle.bw_stream.specs.declared.source.Source.{Ghosts as Reader}
use Rattle.bw_delivery.specs.Statement.{ServerKind}
use Rattle.bw_console.specs.declared.exit.Exit.TheVariants as exits
use Rattle.bw_ports.specs.declared.dial.Dial.{Ghosts as DialGhosts}
use Rattle.bw_ports.specs.declared.pause.Pause.{Ghosts as PauseGhosts}
use Rattle.bw_plan.specs.Recordings.{Options, Recording}
use Rattle.bw_recorder.specs.Packs.{Packing}
use Rattle.bw_upload.specs.declared.feed.Feed.{Ghosts as FeedGhosts}
use Rattle.bw_send_file.specs.FileSendings.{errand_of}
use Rattle.bw_send_file.specs.Sendings.{Errand}
use Rattle.bw_send_file.specs.declared.fault.FeedFault.{FeedFault}
use Rattle.bw_end_to_end.specs.SentFiles.{DoneFeedsAreStored}
use Rattle.bw_end_to_end.specs.SentCopies.{PcmUploadsAreCopied}
use Rattle.bw_end_to_end.proofs.SpelledSettings.{options_spelled}
use Rattle.bw_plan.specs.PcmRecordings.{pcm_recording_of}
use Rattle.bw_send_file.specs.PcmSendings.{SendsRequests, RefusesOptions}
use Rattle.bw_send_file.specs.declared.pcm_job.PcmFile.{PcmFile}
use Rattle.bw_end_to_end.specs.Copies.{plan_by}
use Rattle.bw_end_to_end.specs.SentSamples.{SendsSamplesCopy, HasOptions, FinishedSamplesAreCopied}
use Rattle.bw_end_to_end.specs.SentSamples.{FollowedSamplesAreCopied}
use Rattle.bw_recorder.proofs.Statuses.{memory_ends, usage_ends}
use Rattle.bw_end_to_end.proofs.SentCopies.{open_ends}
use Rattle.std.proofs.Common.{Ok, Err}
use Rattle.bw_send_file.specs.Sendings.{Ways}
use Rattle.bw_send_file.specs.declared.job.Recorder.{Recorder}

module _ {F P D R W T : Type 0} (feed : FeedGhosts F FeedFault) (pause : PauseGhosts P)
    (dial : DialGhosts D R W) (reader : Reader R) (writer : Writer W) (kind : ServerKind T)
    (done_feeds : DoneFeedsAreStored feed pause dial reader writer)
    (uploads : PcmUploadsAreCopied feed pause dial reader writer kind) where
  options_end : (file : PcmFile) (old new : Ways P D) (did : Packing) →
      RefusesOptions feed pause dial reader writer file old new did → did.exit ≡ exits.Done → ⊥
  options_end file old new did (inl x, same) done = usage_ends (sym x.exit_is ∙ done)
  options_end file old new did (inr x, same) done = memory_ends (sym x.exit_is ∙ done)

  samples_copied : (recorder : Recorder) (file : PcmFile) (b : List ℕ) (old new : Ways P D) (did : Packing)
      (o : Options) (begun : F) (r : Recording) → are_bytes b ≡ true →
      HasOptions feed pause dial reader writer kind file o →
      SendsRequests feed pause dial reader writer (errand_of recorder file.file) begun old new did →
      did.exit ≡ exits.Done → pcm_recording_of b o file.pcm ≡ Ok r → feed.left begun (plan_by o r) →
      SendsSamplesCopy feed pause dial reader writer kind recorder file b old new o r
  samples_copied recorder file b old new did o begun r bytes asked went done is left =
      let e : Errand = errand_of recorder file.file in
      let spelled = options_spelled (map string_bytes file.file.settings.now) file.file.strict file.file.frames o
      asked in
      let stores = done_feeds e begun went.ended old new went.sent went.sends (sym went.exit_is ∙ done) (plan_by o r)
      left in
      record {
        is = is;
        begun = begun;
        ended = went.ended;
        did = went.sent;
        stores = stores;
        copy = uploads b o file.pcm r bytes spelled.allowed spelled.of_bytes is e begun went.ended old new went.sent
            stores;
      }

  pub finished_copied : FinishedSamplesAreCopied feed pause dial reader writer kind
  finished_copied recorder file b stamp old new did bytes stamped (inl refused) done =
      absurd (options_end file old new did refused done)
  finished_copied recorder file b stamp old new did bytes stamped (inr (o, Ok begun, asked, opens, went)) done =
      let fed = opens.0 b refl stamped in (
        o,
        asked,
        fed.recording,
        samples_copied recorder file b old new did o begun fed.recording bytes asked went done
            fed.is fed.gives,
      )
  finished_copied recorder file b stamp old new did bytes stamped (inr (o, Err fault, asked, opens, unsent)) done =
      absurd (open_ends (codes "send") file.file.path.now fault did.exit did.faults unsent.0.reports done)

  pub followed_copied : FollowedSamplesAreCopied feed pause dial reader writer kind
  followed_copied by_path recorder file b old new did bytes (inl refused) done =
      absurd (options_end file old new did refused done)
  followed_copied by_path recorder file b old new did bytes (inr (o, Ok begun, asked, opens, went)) done = (
    o,
    asked,
    λ r is. samples_copied recorder file b old new did o begun r bytes asked went done is
        (opens b refl [] refl r is),
  )
  followed_copied by_path recorder file b old new did bytes (inr (o, Err fault, asked, opens, unsent)) done =
      absurd (open_ends (codes "send") file.file.path.now fault did.exit did.faults unsent.0.reports done)

-- A file that was sent with status 0 is copied.
use Rattle.std.proofs.Common.{◌≡◌, inl, inr, ℕ, ◌≤◌, Bool, true, false, List, [], ◌∷◌, ◌++◌, length, map, Option, Some}
use Rattle.std.proofs.Common.{refl, sym, ◌∙◌, ap, arith}
use Rattle.std.specs.Prelude.{◌||◌, ◌/◌, ◌*◌, option_map, codes, string_bytes}
use Rattle.std.specs.IoError.{error_kind}
use Rattle.std.specs.List.{list_any}
use Rattle.bw_model.specs.Take.{Request, Open, Close, block_align}
use Rattle.bw_model.specs.Wire.{are_bytes}
use Rattle.bw_model.specs.World.{is_close}
use Rattle.bw_stream.specs.declared.sink.Sink.{Ghosts as Writer}
use Rattle.bw_stream.specs.declared.source.Source.{Ghosts as Reader}
use Rattle.bw_console.specs.Prints.{Print}
use Rattle.bw_console.specs.declared.exit.Exit.{Exit}
use Rattle.bw_console.specs.declared.exit.Exit.TheVariants as exits
use Rattle.bw_ports.specs.declared.dial.Dial.{Ghosts as DialGhosts}
use Rattle.bw_ports.specs.declared.pause.Pause.{Ghosts as PauseGhosts}
use Rattle.bw_plan.specs.Plans.{plan, field_requests, block_requests, mark_request}
use Rattle.bw_plan.specs.Recordings.{Options, Recording, block_frames, recording_of}
use Rattle.bw_plan.specs.declared.options.Strictness.{Strictness}
use Rattle.bw_recorder.proofs.Statuses.{kind_ends, memory_ends, refused_ends, unopened_ends, usage_ends}
use Rattle.bw_recorder.specs.Packs.{Packing, IsOpenReport}
use Rattle.bw_recorder.specs.declared.fault.OpenFault.{OpenFault}
use Rattle.bw_recorder.specs.declared.fault.OpenFault.TheVariants.{Unopened, Refused, Lossy, Changed}
use Rattle.bw_upload.specs.declared.feed.Feed.{Ghosts as FeedGhosts}
use Rattle.bw_send_file.specs.FileSendings.{RefusesToSend, errand_of}
use Rattle.bw_send_file.specs.Sendings.{Errand}
use Rattle.bw_send_file.specs.declared.fault.FeedFault.{FeedFault}
use Rattle.bw_delivery.specs.Statement.{ServerKind, Promise}
use Rattle.bw_end_to_end.specs.SentFiles.{DoneFeedsAreStored}
use Rattle.bw_end_to_end.specs.UploadedLinks.{UploadsSendRequests}
use Rattle.bw_end_to_end.specs.Copies.{read_again}
use Rattle.bw_end_to_end.specs.SentCopies.{UploadsAreCopied, FileUploadsAreCopied, PcmUploadsAreCopied, SentFilesAreCopied}
use Rattle.bw_end_to_end.proofs.Carried.{IsCarried, file_carried, pcm_carried}
use Rattle.bw_end_to_end.proofs.CarriedNumbers.{HasNumbers, file_numbers, samples_bytes, pcm_numbers, pcm_bytes}
use Rattle.bw_end_to_end.proofs.CopiedFiles.{copied}
use Rattle.bw_end_to_end.proofs.FittingRequests.{plan_fits}
use Rattle.bw_end_to_end.proofs.SpelledSettings.{options_spelled}

-- a plan ends with CLOSE
ends_closed : (xs : List Request) (n : ℕ) → list_any is_close (xs ++ Close n ∷ []) ≡ true
ends_closed [] n = refl
ends_closed (x ∷ xs) n = go (is_close x) (ends_closed xs n)
  where
    go : (v : Bool) → list_any is_close (xs ++ Close n ∷ []) ≡ true → v || list_any is_close (xs ++ Close n ∷ []) ≡ true
    go true h = refl
    go false h = h

plan_closes : (frames : ℕ) (r : Recording) → list_any is_close (plan frames r) ≡ true
unfolding plan
plan_closes frames r =
    ends_closed (Open r.outline.format r.outline.history ∷ field_requests 1 r.outline.values
    ++ block_requests (frames * block_align r.outline.format) r.samples ++ map mark_request r.outline.markers)
    (length r.samples / block_align r.outline.format)

-- Where nothing was sent, the status isn't 0.

pub open_ends : (command path : List ℕ) (fault : OpenFault) (exit : Exit) (print : Print) →
    IsOpenReport command path fault exit print → exit ≡ exits.Done → ⊥
open_ends command path (Unopened error) exit print (did, same, faults, inl x) done =
    unopened_ends (error_kind error) (sym x.exit_is ∙ same ∙ done)
open_ends command path (Unopened error) exit print (did, same, faults, inr x) done =
    memory_ends (sym x.exit_is ∙ same ∙ done)
open_ends command path (Refused f) exit print h done = kind_ends f.kind (sym h.0 ∙ done)
open_ends command path (Lossy text) exit print h done = refused_ends (sym h.0 ∙ done)
open_ends command path Changed exit print h done = refused_ends (sym h.0 ∙ done)

module _ {F P D R W T : Type 0} (feed : FeedGhosts F FeedFault) (pause : PauseGhosts P)
    (dial : DialGhosts D R W) (reader : Reader R) (writer : Writer W) (kind : ServerKind T)
    (done_feeds : DoneFeedsAreStored feed pause dial reader writer)
    (uploads : (most : Option ℕ) → UploadsSendRequests feed pause dial reader writer most)
    (promise : Promise kind) where
  refusal_ends : (path : List ℕ) (file : Option (List ℕ)) (texts : List (List ℕ)) (strict : Strictness) (frames : Option ℕ)
      (did : Packing) → RefusesToSend feed pause dial reader writer path file texts strict frames did →
      did.exit ≡ exits.Done → ⊥
  refusal_ends path file texts strict frames did (inl x) done = usage_ends (sym x.exit_is ∙ done)
  refusal_ends path file texts strict frames did (inr (inl x)) done = memory_ends (sym x.exit_is ∙ done)
  refusal_ends path file texts strict frames did (inr (inr (o, asked, x))) done =
      open_ends (codes "send") path x.fault did.exit did.faults x.reports done

  upload_copied : (o : Options) (r : Recording) → IsCarried o r → HasNumbers r.outline → are_bytes r.samples ≡ true →
      UploadsAreCopied feed pause dial reader writer kind o r
  upload_copied o r carried numbers bytes e f f' old new did stores has links run last more named serves after strict =
      let fit = plan_fits o r carried numbers bytes in
      let frames : ℕ = block_frames o r.outline.format in
      let requests : List Request = plan frames r in
      let went = stores.sent.went in
      let verdicts = went.last.filling.sender.verdicts in
      let server = serves.server in
      let p = serves.premises in
      let sends = uploads e.most e.name stores.sent.sender stores.sent.outcome f f' old.pause new.pause old.dial
      new.dial went requests [] links stores.all named fit serves.ends in
      let contents = promise.file
      (record { name = e.name; requests = requests; had = []; has = verdicts; links = links }) run
      sends
      (record { held = server.held; answered = server.answered; over = server.over })
      (record {
        unchanged = p.unchanged;
        alone = p.alone;
        before = record { only = p.before.only; kept = p.before.kept };
        honest = p.honest;
      })
      stores.stored (plan_closes frames r) more last after in
      let some : 1 ≤ frames = omega arith in
      ap (option_map (λ (x : List ℕ). recording_of x (read_again strict))) contents
      ∙ copied o r carried numbers frames (kind.limit run.old) some serves.limit strict

  pub file_uploads : FileUploadsAreCopied feed pause dial reader writer kind
  file_uploads b o r bytes allowed of_bytes is =
      upload_copied o r (file_carried b o r allowed is) (file_numbers b o r bytes of_bytes is)
      (samples_bytes b o r bytes is)

  pub pcm_uploads : PcmUploadsAreCopied feed pause dial reader writer kind
  pcm_uploads b o p r bytes allowed of_bytes is =
      upload_copied o r (pcm_carried b o p r allowed is) (pcm_numbers b o p r of_bytes is) (pcm_bytes b o p r bytes is)

  pub sent_files_are_copied : SentFilesAreCopied feed pause dial reader writer kind
  sent_files_are_copied recorder file b old new did bytes (inl refused) done =
      absurd (refusal_ends file.path.now (Some b) (map string_bytes file.settings.now) file.strict file.frames did
      refused.0 done)
  sent_files_are_copied recorder file b old new did bytes (inr (o, asked, went)) done =
      let fed = went.right b refl in
      let e : Errand = errand_of recorder file in
      let spelled = options_spelled (map string_bytes file.settings.now) file.strict file.frames o asked in
      let stores = done_feeds e went.begun went.ended old new went.sent went.sends (sym went.exit_is ∙ done)
      (plan (block_frames o fed.recording.outline.format) fed.recording) fed.gives in
      record {
        o = o;
        asked = asked;
        recording = fed.recording;
        is = fed.is;
        begun = went.begun;
        ended = went.ended;
        did = went.sent;
        stores = stores;
        copy = file_uploads b o fed.recording bytes spelled.allowed spelled.of_bytes fed.is e went.begun went.ended
            old new went.sent stores;
      }

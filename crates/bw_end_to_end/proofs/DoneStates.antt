-- Sendings from a state that ended with status 0.
use Rattle.std.proofs.Common.{◌≡◌, ℕ, suc, zero, ◌<◌, List, [], ◌∷◌, length, Option, Some, None, refl, sym, ◌∙◌, ap, subst}
use Rattle.std.proofs.Common.{arith, append-nil}
use Rattle.std.specs.Prelude.{map}
use Rattle.bw_model.specs.Bytes.{at}
use Rattle.bw_model.specs.Take.{Request, Verdict, Stored}
use Rattle.bw_model.specs.World.{Sender}
use Rattle.bw_stream.specs.declared.sink.Sink.{Ghosts as Writer}
use Rattle.bw_stream.specs.declared.source.Source.{Ghosts as Reader}
use Rattle.bw_ports.specs.declared.dial.Dial.{Ghosts as DialGhosts}
use Rattle.bw_ports.specs.declared.pause.Pause.{Ghosts as PauseGhosts}
use Rattle.bw_upload.specs.declared.feed.Feed.{Ghosts as FeedGhosts}
use Rattle.bw_send_file.specs.declared.fault.FeedFault.{FeedFault}
use Rattle.bw_end_to_end.specs.SentFilesOn.{RecordingsAreStored, RestsSendRequests}
use Rattle.bw_end_to_end.specs.UsedLinks.{PendingHaveNumbers}
use Rattle.bw_end_to_end.proofs.UploadLinks.{uploads_send_on}

-- each of these requests has a verdict
stored_at : (rs : List Request) (n : ℕ) → n < length rs → at (map (λ r. Some Stored) rs) n ≡ Some Stored
stored_at [] n below = absurd (omega (arith, below))
stored_at (r ∷ rs) zero below = refl
stored_at (r ∷ rs) (suc n) below = stored_at rs n (omega (arith, below))

-- so none of them is pending
none_pending : (s : Sender) → s.verdicts ≡ map (λ r. Some Stored) s.offered → PendingHaveNumbers s
none_pending s stored n below none =
    absurd (some_none (sym (stored_at s.offered n below) ∙ ap (λ (vs : List (Option Verdict)). at vs n) (sym stored) ∙ none))
  where
    some_none : {v : Verdict} → Some v ≡ None → ⊥
    some_none e = cc

module _ {F P D R W : Type 0} (feed : FeedGhosts F FeedFault) (pause : PauseGhosts P)
    (dial : DialGhosts D R W) (reader : Reader R) (writer : Writer W) where
  pub recordings_stored : RecordingsAreStored feed pause dial reader writer
  recordings_stored state stamp job count b old new r s before =
      let sent = r.sent.sends s before in
      let all = sent.stores.offered in
      record {
        sent = sent;
        all = append-nil sent.went.last.filling.sender.offered ∙ all;
        numbered = none_pending s before.has.stored;
        stored = λ n below. sent.stores.stored n (subst (λ (rs : List Request). n < length rs) (sym all) below);
      }

  pub rests_send : RestsSendRequests feed pause dial reader writer
  rests_send most requests s old new x links named each ends =
      let sent = x.sent in
      uploads_send_on feed pause dial reader writer most s sent.sender sent.outcome sent.begun sent.ended old.pause
      new.pause old.dial new.dial sent.went requests [] links x.all x.numbered named each ends

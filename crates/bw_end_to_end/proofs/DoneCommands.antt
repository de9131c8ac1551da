-- Commands of senders that ended with status 0.
use mathlib.Core.Logic.{inl, inr}
use Rattle.std.proofs.Common.{◌≡◌, ◌<◌, ◌⊎◌, ℕ, Option, List, [], ◌∷◌, length, Result, Ok, Err, refl, sym, ◌∙◌, ap, subst, append-nil}
use Rattle.bw_model.specs.Take.{Request}
use Rattle.bw_stream.specs.declared.sink.Sink.{Ghosts as Writer}
use Rattle.bw_stream.specs.declared.source.Source.{Ghosts as Reader}
use Rattle.bw_console.specs.Prints.{Print, Whole}
use Rattle.bw_console.specs.declared.exit.Exit.{Exit}
use Rattle.bw_console.specs.declared.exit.Exit.TheVariants.{Done, Refused, Device, Memory}
use Rattle.bw_console.specs.declared.fault.Fault.{Fault}
use Rattle.bw_console.specs.declared.fault.Fault.TheVariants as faults
use Rattle.bw_ports.specs.declared.dial.Dial.{Ghosts as DialGhosts}
use Rattle.bw_ports.specs.declared.pause.Pause.{Ghosts as PauseGhosts}
use Rattle.bw_upload.specs.Sends.{IsPrintOfSend, PrintsSender, exit_of_send}
use Rattle.bw_model.specs.Replies.{Reply}
use Rattle.bw_upload.specs.RoundsMade.{AreRounds, MakesRounds}
use Rattle.bw_upload.specs.SendState.{Sending, IsSettled, hear_in, new_sending, offer_more}
use Rattle.bw_upload.proofs.OfferSteps.{more_keeps}
use Rattle.bw_upload.specs.declared.feed.Feed.{Ghosts as FeedGhosts}
use Rattle.bw_send_file.specs.declared.fault.FeedFault.{FeedFault}
use Rattle.bw_end_to_end.specs.SentFiles.{DoneFeedsAreStored}
use Rattle.bw_end_to_end.specs.SentInRounds.{DoneSendsStoreAll}

refused_ends : Refused ≡ Done → ⊥
refused_ends e = cc

device_ends : Device ≡ Done → ⊥
device_ends e = cc

memory_ends : Memory ≡ Done → ⊥
memory_ends e = cc

module _ {D R W : Type 0} (dial : DialGhosts D R W) (reader : Reader R) (writer : Writer W) where
  whole_print : (name : List ℕ) (rounds : ℕ) (input : Option (List ℕ)) (d d' : D) (outcome : Result Exit Fault)
      (print : Print) → exit_of_send outcome ≡ Done →
      IsPrintOfSend dial reader writer name rounds input d d' outcome print →
      PrintsSender dial reader writer name rounds input d d' Whole Done print
  whole_print name rounds input d d' (Ok exit) print e h =
      subst (λ (x : Exit). PrintsSender dial reader writer name rounds input d d' Whole x print) e h
  whole_print name rounds input d d' (Err faults.Unwritable) print e h = absurd (device_ends e)
  whole_print name rounds input d d' (Err faults.Memory) print e h = absurd (memory_ends e)
  whole_print name rounds input d d' (Err faults.TooLong) print e h = absurd (refused_ends e)
  whole_print name rounds input d d' (Err (faults.NotHex n)) print e h = absurd (refused_ends e)
  whole_print name rounds input d d' (Err (faults.NotEvent n)) print e h = absurd (refused_ends e)
  whole_print name rounds input d d' (Err (faults.NotRequest n)) print e h = absurd (refused_ends e)
  whole_print name rounds input d d' (Err faults.Unreadable) print e h = absurd (device_ends e)

  -- rounds keep the requests
  rounds_keep : (x : Sending) (heard : List (List Reply)) (y : Sending) (d d' : D) →
      AreRounds dial reader writer x heard y d d' → y.requests ≡ x.requests
  rounds_keep x [] y d d' went = ap (λ (z : Sending). z.requests) went.0
  rounds_keep x (heard ∷ more) y d d' went =
      rounds_keep (hear_in (offer_more x) heard) more y went.0 d' went.3 ∙ more_keeps x

  made_keep : (name : List ℕ) (requests : List Request) (rounds : ℕ) (last : Sending) (d d' : D) →
      MakesRounds dial reader writer rounds (new_sending name requests) last d d' → last.requests ≡ requests
  made_keep name requests rounds last d d' went = go went.ends
    where
      following : went.following.requests ≡ requests
      following = rounds_keep (new_sending name requests) went.heard went.following d d' went.went

      go : ((length went.heard ≡ rounds) × (last ≡ went.following))
          ⊎ ((length went.heard < rounds) × (last ≡ offer_more went.following) × IsSettled last) →
          last.requests ≡ requests
      go (inl k) = ap (λ (z : Sending). z.requests) k.1 ∙ following
      go (inr k) = ap (λ (z : Sending). z.requests) k.1 ∙ more_keeps went.following ∙ following

  pub done_sends : DoneSendsStoreAll dial reader writer
  done_sends name rounds input d d' did run done =
      let sent = whole_print name rounds input d d' run.outcome did.out (sym run.exit_is ∙ done) run.prints in
      let same = made_keep name sent.requests rounds sent.last d d' sent.went in
      let each = sent.done refl in
      record {
        sent = sent;
        stored = λ n below. each.stored n (subst (λ (rs : List Request). n < length rs) (sym same) below);
      }

module _ {F P D R W : Type 0} (feed : FeedGhosts F FeedFault) (pause : PauseGhosts P)
    (dial : DialGhosts D R W) (reader : Reader R) (writer : Writer W) where
  pub done_feeds : DoneFeedsAreStored feed pause dial reader writer
  done_feeds e f f' old new did (inl sent) done requests left =
      let all = sent.done done requests left in
      record {
        sent = sent;
        all = append-nil sent.went.last.filling.sender.offered ∙ all.offered;
        stored = λ n below. all.stored n (subst (λ (rs : List Request). n < length rs) (sym all.offered) below);
      }
  done_feeds e f f' old new did (inr (inl failed)) done requests left = absurd (failed.undone done)
  done_feeds e f f' old new did (inr (inr nothing)) done requests left =
      absurd (memory_ends (sym nothing.ends.exit_is ∙ done))

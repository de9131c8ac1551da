-- What the steps of an upload keep of its sender.
use Rattle.std.proofs.Common.{◌≡◌, ℕ, List, [], ◌∷◌, ◌++◌, Option, None, refl, sym, ◌∙◌, ap, subst, append-nil, append_assoc}
use Rattle.bw_model.specs.Take.{Request}
use Rattle.bw_model.specs.Replies.{Reply}
use Rattle.bw_model.specs.World.{Sender, offer, offer_fault}
use Rattle.bw_stream.specs.declared.sink.Sink.{Ghosts as Writer}
use Rattle.bw_stream.specs.declared.source.Source.{Ghosts as Reader}
use Rattle.bw_sender.specs.Hears.{hear_all}
use Rattle.bw_ports.specs.declared.dial.Dial.{Ghosts as DialGhosts}
use Rattle.bw_ports.specs.declared.pause.Pause.{Ghosts as PauseGhosts}
use Rattle.bw_upload.proofs.OfferSteps.{taken}
use Rattle.bw_sender.proofs.HeardSenders.{all_heard}
use Rattle.bw_upload.specs.Chains.{Chain}
use Rattle.bw_upload.specs.Conversations.{Conversing, TalkEvent, TalkStep, Says, Breaks, Hears}
use Rattle.bw_upload.specs.Courses.{Course, CourseStep, UploadEvent, Fills, Misses, Makes, Talks, Leaves}
use Rattle.bw_upload.specs.WindowFills.{Filling, FillEvent, FillStep, Takes, Lacks, Closes}
use Rattle.bw_upload.specs.declared.feed.Feed.{Ghosts as FeedGhosts}
use Rattle.bw_end_to_end.specs.UsedLinks.{PendingHaveNumbers}
use Rattle.bw_end_to_end.proofs.RoundLinks.{all_named, heard_numbers, offered_numbers}

-- More may have been offered to the sender, and its name is the same.
pub record OffersMore (s t : Sender) : Type 0 where
  pub name_is : t.name ≡ s.name
  pub more : List Request
  pub offered : s.offered ++ more ≡ t.offered
  pub numbered : PendingHaveNumbers s → PendingHaveNumbers t

pub same_offers : (s t : Sender) → t ≡ s → OffersMore s t
same_offers s t e = record {
  name_is = ap (λ (z : Sender). z.name) e;
  more = [];
  offered = append-nil s.offered ∙ ap (λ (z : Sender). z.offered) (sym e);
  numbered = λ h. subst PendingHaveNumbers (sym e) h;
}

pub hears_offers : (s : Sender) (heard : List Reply) → OffersMore s (hear_all s heard)
hears_offers s heard = record {
  name_is = all_named s heard;
  more = [];
  offered = append-nil s.offered ∙ sym (all_heard s heard);
  numbered = λ h. heard_numbers s heard h;
}

one_more : (s : Sender) (r : Request) → offer_fault s r ≡ None → OffersMore s (offer s r)
one_more s r e = subst (OffersMore s) (sym (taken s r e)) (record {
  name_is = refl;
  more = r ∷ [];
  offered = refl;
  numbered = λ h. offered_numbers s r e h;
})

pub then_offers : (s t u : Sender) → OffersMore s t → OffersMore t u → OffersMore s u
then_offers s t u a b = record {
  name_is = b.name_is ∙ a.name_is;
  more = a.more ++ b.more;
  offered = sym (append_assoc s.offered a.more b.more) ∙ ap (λ (z : List Request). z ++ b.more) a.offered ∙ b.offered;
  numbered = λ h. b.numbered (a.numbered h);
}

module _ {F P D R W X : Type 0} (feed : FeedGhosts F X) (pause : PauseGhosts P)
    (dial : DialGhosts D R W) (reader : Reader R) (writer : Writer W) (most : Option ℕ) where
  -- a step of filling keeps the verdicts
  pub record FillsMore (s t : Sender) : Type 0 where
    pub offers : OffersMore s t
    pub verdicts : t.verdicts ≡ s.verdicts

  pub fill_offers : (e : FillEvent) (x y : Filling F P) → FillStep feed pause e x y → FillsMore x.sender y.sender
  fill_offers (Takes r) x y step = record {
    offers = subst (OffersMore x.sender) (sym step.sender) (one_more x.sender r step.accepted);
    verdicts = ap (λ (z : Sender). z.verdicts) (step.sender ∙ taken x.sender r step.accepted);
  }
  fill_offers Lacks x y step = record {
    offers = same_offers x.sender y.sender step.sender;
    verdicts = ap (λ (z : Sender). z.verdicts) step.sender;
  }
  fill_offers Closes x y step = record {
    offers = same_offers x.sender y.sender step.sender;
    verdicts = ap (λ (z : Sender). z.verdicts) step.sender;
  }

  talk_offers : (e : TalkEvent) (x y : Conversing R W) → TalkStep reader writer e x y → OffersMore x.sender y.sender
  talk_offers Says x y step = same_offers x.sender y.sender (ap (λ (z : Conversing R W). z.sender) step.is)
  talk_offers Breaks x y step = same_offers x.sender y.sender (ap (λ (z : Conversing R W). z.sender) step.is)
  talk_offers (Hears heard) x y step =
      subst (OffersMore x.sender) (sym (ap (λ (z : Conversing R W). z.sender) step.is)) (hears_offers x.sender heard)

  step_offers : (e : UploadEvent) (x y : Course F P D R W) → CourseStep feed pause dial reader writer most e x y →
      OffersMore x.filling.sender y.filling.sender
  step_offers (Fills e) x y step = (fill_offers e x.filling y.filling step.step).offers
  step_offers Misses x y step =
      same_offers x.filling.sender y.filling.sender (ap (λ (z : Course F P D R W). z.filling.sender) step.is)
  step_offers Makes x y step =
      same_offers x.filling.sender y.filling.sender (ap (λ (z : Course F P D R W). z.filling.sender) step.is)
  step_offers (Talks e) x y step =
      subst (OffersMore x.filling.sender) (sym (ap (λ (z : Course F P D R W). z.filling.sender) step.is))
      (talk_offers e (record { sender = x.filling.sender; line = step.l }) step.t step.step)
  step_offers (Leaves end) x y step =
      same_offers x.filling.sender y.filling.sender (ap (λ (z : Course F P D R W). z.filling.sender) step.is)

  pub course_offers : (events : List UploadEvent) (x y : Course F P D R W) →
      Chain (CourseStep feed pause dial reader writer most) events x y → OffersMore x.filling.sender y.filling.sender
  course_offers [] x y went =
      same_offers x.filling.sender y.filling.sender (ap (λ (z : Course F P D R W). z.filling.sender) went)
  course_offers (e ∷ events) x y went =
      then_offers x.filling.sender went.0.filling.sender y.filling.sender (step_offers e x went.0 went.1)
      (course_offers events went.0 y went.2)

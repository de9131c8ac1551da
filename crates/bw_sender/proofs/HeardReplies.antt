-- A framer gives replies, none, one or some after others, and a sender counts them.
use Rattle.std.proofs.Common.{◌≡◌, List, [], ◌∷◌, ◌++◌, refl, sym, ap, subst, ◌∙◌, append_assoc}
use Rattle.std.proofs.lemmas.List.{append-nil}
use Rattle.bw_model.specs.Replies.{Reply}
use Rattle.bw_model.specs.World.{Sender as Defined, hear}
use Rattle.bw_sender.specs.Senders.{IsSender}
use Rattle.bw_sender.specs.declared.sender.Sender.{Sender}
use Rattle.bw_wire.specs.Codecs.{reply_codec}
use Rattle.bw_wire.specs.FramerStates.{Pending, Reported, Nothing, Gives, Fails, next_of}
use Rattle.bw_wire.specs.Runs.{given_by}
use Rattle.bw_sender.specs.Hears.{hear_all, CountsAll, GaveReplies}
use Rattle.bw_sender.specs.LinkReplies.{HearsThese}
use Rattle.bw_sender.proofs.ReplyRuns.{IsNoReply, gave_more}

pub heard_in_turn : (s : Defined) (a b : List Reply) → hear_all s (a ++ b) ≡ hear_all (hear_all s a) b
heard_in_turn s [] b = refl
heard_in_turn s (r ∷ a) b = heard_in_turn (hear s r) a b

pub counts_on : (a b : List Reply) (x y z : Sender) → CountsAll a x y → CountsAll b y z → CountsAll (a ++ b) x z
counts_on a b x y z f g s is =
    subst (λ (t : Defined). IsSender t z) (sym (heard_in_turn s a b)) (g (hear_all s a) (f s is))

-- nothing is heard
pub these_none : (x : Sender) (p : Pending) → HearsThese [] x x p p
these_none x p = record {
  counted = λ s is. is;
  gives = λ fed before d. subst (λ (rs : List Reply). GaveReplies fed rs p) (sym (append-nil before)) d;
}

-- some replies are heard, and then others
pub these_on : (a b : List Reply) (x y z : Sender) (p q r : Pending) → HearsThese a x y p q →
    HearsThese b y z q r → HearsThese (a ++ b) x z p r
these_on a b x y z p q r f g = record {
  counted = counts_on a b x y z f.counted g.counted;
  gives = λ fed before d.
      subst (λ (rs : List Reply). GaveReplies fed rs r) (append_assoc before a b)
      (g.gives fed (before ++ a) (f.gives fed before d));
}

-- a framer was asked, and there was no reply
pub these_quiet : (x : Sender) (p q : Pending) (t : Reported Reply) → t ≡ (next_of reply_codec p).0 → IsNoReply t →
    q ≡ (next_of reply_codec p).1 → HearsThese [] x x p q
these_quiet x p q t reported none same = record {
  counted = λ s is. is;
  gives = λ fed before d. gave_more fed before [] p q same (ap (given_by reply_codec) (sym reported) ∙ no_reply t none) d;
}
  where
    no_reply : (t : Reported Reply) → IsNoReply t → given_by reply_codec t ≡ []
    no_reply Nothing none = refl
    no_reply (Gives r) none = absurd none
    no_reply (Fails reason place) none = refl

-- a reply was there, and is counted
pub these_one : (x y : Sender) (p q : Pending) (r : Reply) → Gives r ≡ (next_of reply_codec p).0 →
    q ≡ (next_of reply_codec p).1 → ((s : Defined) → IsSender s x → IsSender (hear s r) y) →
    HearsThese (r ∷ []) x y p q
these_one x y p q r reported same counted = record {
  counted = counted;
  gives = λ fed before d. gave_more fed before (r ∷ []) p q same (ap (given_by reply_codec) (sym reported)) d;
}

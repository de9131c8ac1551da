-- What an event of the sender makes of a world, with the network that has it.
use Rattle.std.proofs.Common.{◌≡◌, ◌∙◌, ◌++◌, ℕ, List, [], Option, ap, map, sym, subst}
use Rattle.std.proofs.lemmas.List.{append-nil}
use Rattle.bw_wire.specs.Replies.{reply_of}
use Rattle.bw_wire.specs.declared.reply.Reply.{Reply as Written}
use Rattle.std.specs.Prelude.{slice_get}
use Rattle.bw_model.specs.Take.{Request}
use Rattle.bw_model.specs.Replies.{Reply}
use Rattle.bw_model.specs.Turn.{good}
use Rattle.bw_model.specs.Exchange.{nothing_stands}
use Rattle.bw_model.specs.World.{World, Sender, Offer, Send, Bring, offer, pending, happens, send, bring}
use Rattle.bw_delivery.specs.Networks.{IsNetwork}
use Rattle.bw_delivery.specs.declared.network.Network.{Network}

module _ (w : World) (n : Network) where
  pub offered_by : (r : Request) (s : Sender) → offer w.sender r ≡ s → IsNetwork (record w { sender = s }) n →
      IsNetwork (happens nothing_stands w (Offer r) good) n
  unfolding happens
  offered_by r s e k = subst (λ (x : Sender). IsNetwork (record w { sender = x }) n) (sym e) k

  pub sent_by : (i : ℕ) (o : Option (ℕ × Request)) → pending w.sender i ≡ o → IsNetwork (send w o) n →
      IsNetwork (happens nothing_stands w (Send i) good) n
  unfolding happens
  sent_by i o e k = subst (λ (x : Option (ℕ × Request)). IsNetwork (send w x) n) (sym e) k

  pub brought_by : (i : ℕ) (o : Option Reply) → slice_get w.replies i ≡ o → IsNetwork (bring w o) n →
      IsNetwork (happens nothing_stands w (Bring i) good) n
  unfolding happens
  brought_by i o e k = subst (λ (x : Option Reply). IsNetwork (bring w x) n) (sym e) k

-- the same replies, and none more
pub same_replies : (xs ys : List Written) (replies : List Reply) → xs ≡ ys → map reply_of ys ≡ replies →
    map reply_of xs ≡ replies ++ []
same_replies xs ys replies same are = ap (map reply_of) same ∙ are ∙ sym (append-nil replies)

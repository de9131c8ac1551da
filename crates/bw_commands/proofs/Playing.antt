-- What an event makes of a world, and a simulation that has it.
use Rattle.std.proofs.Common.{◌≡◌, ℕ, refl, List, [], ◌∷◌, ◌++◌, Option, Some, None, sym, ap, ◌∙◌, subst}
use Rattle.std.specs.Prelude.{slice_get}
use Rattle.bw_model.specs.Take.{Request}
use Rattle.bw_model.specs.Wire.{Message, Says}
use Rattle.bw_model.specs.Replies.{Reply, Noticed, Next}
use Rattle.bw_model.specs.Book.{Book, log_of}
use Rattle.bw_model.specs.Turn.{good, turn}
use Rattle.bw_model.specs.CountedTurn.{IsTurn, IsWithoutRoom}
use Rattle.bw_model.specs.Exchange.{nothing_stands}
use Rattle.bw_model.specs.World.{World, Sender, Offer, Send, Deliver, Bring, Ask, offer, pending}
use Rattle.bw_model.specs.World.{happens, send, deliver, bring}
use Rattle.bw_session.specs.Books.{failures_of}
use Rattle.bw_commands.specs.FaultRuns.{AreReported, IsUntouched, AreFaultsOfDelivery}
use Rattle.bw_commands.specs.Simulations.{IsSimulated, PlaysOn, failures_on}
use Rattle.bw_commands.specs.declared.simulation.Simulation.{Simulation}

-- the world with this book and more replies
abbrev pub with_replies : World → List Reply → Book → World
with_replies w reported book =
    record { sender = w.sender; sent = w.sent; book = book; replies = w.replies ++ reported }

-- if the server isn't touched, its counts stay
untouched : (old later : Simulation) → later.server ≡ old.server → IsUntouched (failures_on old) (failures_on later) good
untouched old later same = record {
  faults_are = refl;
  count = ap (λ (s : _). failures_of _ _ s) same;
}

-- a turn's faults are reported
faults_reported : (before after : ℕ) (m : Message) (reported : List Reply) (book later : Book) →
    (t : IsTurn nothing_stands before after book (Says m) reported later) → AreReported before after book (Says m) t.faults
faults_reported before after m reported book later t = record {
  room = λ refused. subst (IsWithoutRoom book (Says m)) (sym t.answered) (t.room refused);
  count = t.count;
  stop = t.stop;
}

module _ (limit : ℕ) (w : World) (old later : Simulation) where
  pub offered : (r : Request) (s : Sender) → offer w.sender r ≡ s → later.server ≡ old.server →
      IsSimulated limit (record w { sender = s }) later → PlaysOn limit w (Offer r) old later
  unfolding happens
  offered r s e same k = record {
    faults_are = untouched old later same;
    faults = good;
    simulated = subst (λ (x : Sender). IsSimulated limit (record w { sender = x }) later) (sym e) k;
  }

  pub sent : (i : ℕ) (o : Option (ℕ × Request)) → pending w.sender i ≡ o → later.server ≡ old.server →
      IsSimulated limit (send w o) later → PlaysOn limit w (Send i) old later
  unfolding happens
  sent i o e same k = record {
    faults_are = untouched old later same;
    faults = good;
    simulated = subst (λ (x : Option (ℕ × Request)). IsSimulated limit (send w x) later) (sym e) k;
  }

  pub delivered : (i : ℕ) (sent m : Message) (reported : List Reply) (book : Book) →
      slice_get w.sent i ≡ Some sent → m ≡ sent →
      IsTurn nothing_stands (failures_on old) (failures_on later) w.book (Says m) reported book →
      IsSimulated limit (with_replies w reported book) later → PlaysOn limit w (Deliver i) old later
  unfolding happens
  delivered i sent m reported book e same t k = record {
    faults = t.faults;
    faults_are = subst (λ (o : Option Message). AreFaultsOfDelivery (failures_on old) (failures_on later) w.book o t.faults)
        (sym (e ∙ ap Some (sym same))) (faults_reported (failures_on old) (failures_on later) m reported w.book book t);
    simulated = subst (λ (o : Option Message). IsSimulated limit (deliver nothing_stands w o t.faults) later)
        (sym (e ∙ ap Some (sym same)))
        (subst (λ (rs : List Reply). IsSimulated limit
        (with_replies w rs (turn nothing_stands w.book (Says m) t.faults).1) later) (sym t.answered)
        (subst (λ (b : Book). IsSimulated limit (with_replies w reported b) later) (sym t.left) k));
  }

  pub delivered_none : (i : ℕ) → slice_get w.sent i ≡ None → later.server ≡ old.server → IsSimulated limit w later →
      PlaysOn limit w (Deliver i) old later
  unfolding happens
  delivered_none i e same k = record {
    faults = good;
    faults_are = subst (λ (o : Option Message). AreFaultsOfDelivery (failures_on old) (failures_on later) w.book o good)
        (sym e) (untouched old later same);
    simulated = subst (λ (o : Option Message). IsSimulated limit (deliver nothing_stands w o good) later) (sym e) k;
  }

  pub brought : (i : ℕ) (o : Option Reply) → slice_get w.replies i ≡ o → later.server ≡ old.server →
      IsSimulated limit (bring w o) later → PlaysOn limit w (Bring i) old later
  unfolding happens
  brought i o e same k = record {
    faults_are = untouched old later same;
    faults = good;
    simulated = subst (λ (x : Option Reply). IsSimulated limit (bring w x) later) (sym e) k;
  }

  pub asked : later.server ≡ old.server → IsSimulated limit (with_replies w
      (Noticed w.sender.name 0 Next (log_of w.book w.sender.name).done ∷ []) w.book) later →
      PlaysOn limit w Ask old later
  unfolding turn happens
  asked same k = record { faults = good; simulated = k; faults_are = untouched old later same }

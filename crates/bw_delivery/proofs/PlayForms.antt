-- What an event makes of a world, with the network and the machine that have it.
use Rattle.std.proofs.Common.{◌≡◌, ℕ, inl, inr, refl, Bool, true, false, List, [], ◌∷◌, ◌++◌, Option, Some, None, sym, ap, ◌∙◌, subst}
use Rattle.std.specs.Prelude.{slice_get, Result, Ok, Err, IfOk}
use Rattle.std.proofs.lemmas.List.{append-nil}
use Rattle.bw_model.specs.Take.{Request}
use Rattle.bw_model.specs.Wire.{Message, Frame, Says, Asks}
use Rattle.bw_model.specs.Replies.{Reply}
use Rattle.bw_model.specs.Book.{Book}
use Rattle.bw_model.specs.Turn.{good}
use Rattle.bw_model.specs.Exchange.{nothing_stands}
use Rattle.bw_model.specs.World.{World, Event, Offer, Send, Deliver, Bring, Ask, happens, pending}
use Rattle.bw_journal.specs.Stops.{cut_book}
use Rattle.bw_kept.specs.LeftFolders.{LeavesAtLeast}
use Rattle.bw_delivery.proofs.AskForms.{asked_book}
use Rattle.bw_delivery.specs.StoppedWorlds.{WorldStep, Happens, Answers, Stops, Starts, MayCome, IsNextStep}
use Rattle.bw_commands.specs.RehearsedWorlds.{event_meaning}
use Rattle.bw_commands.specs.declared.event.Event.{Event as Played}
use Rattle.bw_commands.proofs.Staging.{sent_book, brought_book}
use Rattle.bw_delivery.specs.Machines.{IsRunning, IsLeftAt, IsMachine, KeepsRunning, DiesInTurn}
use Rattle.bw_delivery.specs.Machines.{TurnsMachine, AnswersForName, BeginsOverLeft, StartsFound, one_frame, runs}
use Rattle.bw_delivery.specs.Networks.{IsNetwork}
use Rattle.bw_delivery.specs.declared.event.StopEvent.{StopEvent}
use Rattle.bw_delivery.specs.PlayedEvents.{PlaysBy, LeavesBook, IsPlayed, IsPlayedEvent, AnswersOrDies}
use Rattle.bw_delivery.specs.PlayedEvents.{DeliversIf, AsksIf, StopsIf, StartsIf, MayStartIf}
use Rattle.bw_delivery.specs.declared.machine.Machine.{Machine}
use Rattle.bw_delivery.specs.declared.machine.Machine.TheVariants.{Runs, Stopped}
use Rattle.bw_delivery.specs.declared.machine.Life.{Life}
use Rattle.bw_delivery.specs.declared.machine.Folder.{Folder}
use Rattle.bw_delivery.specs.declared.network.Network.{Network}

-- the world with another book, and with more replies
abbrev pub with_replies : World → List Reply → Book → World
with_replies w replies book =
    record { sender = w.sender; sent = w.sent; book = book; replies = w.replies ++ replies }

pub other_book : (w : World) (n : Network) (book : Book) → IsNetwork w n → IsNetwork (record w { book = book }) n
other_book w n book k = record { sender = k.sender; offered = k.offered; sent = k.sent; replies = k.replies }

-- what changes the book alone
pub by_machine : (limit : ℕ) (w : World) (AreSteps : List WorldStep → Bool → Type 0) (n : Network) (m : Machine) →
    IsNetwork w n → LeavesBook limit w AreSteps m → PlaysBy limit w AreSteps n m
by_machine limit w AreSteps n m k l = record {
  steps = l.steps;
  world = record w { book = l.book };
  played = l.played;
  went = l.went;
  network_is = other_book w n l.book k;
  machine_is = l.machine_is;
}

pub each_by_machine : {E : Type 0} (limit : ℕ) (w : World) (AreSteps : List WorldStep → Bool → Type 0) (n : Network)
    (r : Result Machine E) → IsNetwork w n → IfOk r (λ m. LeavesBook limit w AreSteps m) →
    IfOk r (λ m. PlaysBy limit w AreSteps n m)
each_by_machine limit w AreSteps n (Ok m) k l = by_machine limit w AreSteps n m k l
each_by_machine limit w AreSteps n (Err e) k l = l

-- the same event by another word
module _ (limit : ℕ) (w : World) (n : Network) (was : Bool) where
  pub by_event : (m : Machine) (e other : Played) → e ≡ other →
      PlaysBy limit w (IsPlayedEvent w was (event_meaning other)) n m →
      PlaysBy limit w (IsPlayedEvent w was (event_meaning e)) n m
  by_event m e other same p =
      subst (λ (x : Played). PlaysBy limit w (IsPlayedEvent w was (event_meaning x)) n m) (sym same) p

  pub each_by_event : {E : Type 0} (r : Result Machine E) (e other : Played) → e ≡ other →
      IfOk r (λ m. PlaysBy limit w (IsPlayedEvent w was (event_meaning other)) n m) →
      IfOk r (λ m. PlaysBy limit w (IsPlayedEvent w was (event_meaning e)) n m)
  each_by_event (Ok m) e other same p = by_event m e other same p
  each_by_event (Err x) e other same p = p

  pub by_stop : (m : Machine) (e other : StopEvent) → e ≡ other → PlaysBy limit w (IsPlayed w was other) n m →
      PlaysBy limit w (IsPlayed w was e) n m
  by_stop m e other same p = subst (λ (x : StopEvent). PlaysBy limit w (IsPlayed w was x) n m) (sym same) p

  pub each_by_stop : {E : Type 0} (r : Result Machine E) (e other : StopEvent) → e ≡ other →
      IfOk r (λ m. PlaysBy limit w (IsPlayed w was other) n m) → IfOk r (λ m. PlaysBy limit w (IsPlayed w was e) n m)
  each_by_stop (Ok m) e other same p = by_stop m e other same p
  each_by_stop (Err x) e other same p = p

module _ (limit : ℕ) (w : World) (later : Network) where
  -- an event that leaves the machine as it is
  happened : (m : Machine) (e : Event) → IsPlayedEvent w (runs m) e (Happens e good ∷ []) (runs m) →
      (happens nothing_stands w e good).book ≡ w.book → IsNetwork (happens nothing_stands w e good) later →
      IsMachine limit w.book m → PlaysBy limit w (IsPlayedEvent w (runs m) e) later m
  happened m e played same n is = record {
    steps = Happens e good ∷ [];
    world = happens nothing_stands w e good;
    played = played;
    went = (tt, refl);
    network_is = n;
    machine_is = subst (λ (b : Book). IsMachine limit b m) (sym same) is;
  }

  pub offered : (m : Machine) (r : Request) → IsNetwork (happens nothing_stands w (Offer r) good) later →
      IsMachine limit w.book m → PlaysBy limit w (IsPlayedEvent w (runs m) (Offer r)) later m
  unfolding happens
  offered m r n is = happened m (Offer r) (refl, refl) refl n is

  pub sent : (m : Machine) (i : ℕ) → IsNetwork (happens nothing_stands w (Send i) good) later →
      IsMachine limit w.book m → PlaysBy limit w (IsPlayedEvent w (runs m) (Send i)) later m
  unfolding happens
  sent m i n is = happened m (Send i) (refl, refl) (sent_book w (pending w.sender i)) n is

  pub brought : (m : Machine) (i : ℕ) → IsNetwork (happens nothing_stands w (Bring i) good) later →
      IsMachine limit w.book m → PlaysBy limit w (IsPlayedEvent w (runs m) (Bring i)) later m
  unfolding happens
  brought m i n is = happened m (Bring i) (refl, refl) (brought_book w (slice_get w.replies i)) n is

  -- an event of which nothing comes
  idle : (m : Machine) (AreSteps : List WorldStep → Bool → Type 0) → AreSteps [] (runs m) → IsNetwork w later →
      IsMachine limit w.book m → PlaysBy limit w AreSteps later m
  idle m AreSteps played n is = record {
    steps = [];
    world = w;
    played = played;
    went = refl;
    network_is = n;
    machine_is = is;
  }

  -- what comes while no server runs is lost
  pub lost : (m : Machine) (folder : Folder) (k : ℕ) → m ≡ Stopped folder → IsNetwork w later →
      IsMachine limit w.book m → PlaysBy limit w (IsPlayedEvent w (runs m) (Deliver k)) later (Stopped folder)
  lost m folder k e n is =
      idle (Stopped folder) (IsPlayedEvent w (runs m) (Deliver k))
      (subst (λ (b : Bool). DeliversIf b (slice_get w.sent k) [] false) (sym (ap runs e)) (refl, refl)) n
      (subst (IsMachine limit w.book) e is)

  pub unasked : (m : Machine) (folder : Folder) → m ≡ Stopped folder → IsNetwork w later →
      IsMachine limit w.book m → PlaysBy limit w (IsPlayedEvent w (runs m) Ask) later (Stopped folder)
  unasked m folder e n is =
      idle (Stopped folder) (IsPlayedEvent w (runs m) Ask)
      (subst (λ (b : Bool). AsksIf b w.sender.name [] false) (sym (ap runs e)) (refl, refl)) n
      (subst (IsMachine limit w.book) e is)

  -- what a server does that runs
  pub on_runs : {E : Type 0} (m : Machine) (life : Life) (e : Event) (r : Result Machine E) → m ≡ Runs life →
      IsMachine limit w.book m →
      (IsRunning limit w.book life → IfOk r (λ other. PlaysBy limit w (IsPlayedEvent w true e) later other)) →
      IfOk r (λ other. PlaysBy limit w (IsPlayedEvent w (runs m) e) later other)
  on_runs m life e r same is f =
      subst (λ (b : Bool). IfOk r (λ (other : Machine). PlaysBy limit w (IsPlayedEvent w b e) later other))
      (sym (ap runs same)) (f (subst (IsMachine limit w.book) same is))

  -- there is no such message
  pub unsent : (life : Life) (k : ℕ) → slice_get w.sent k ≡ None → IsNetwork w later → IsRunning limit w.book life →
      PlaysBy limit w (IsPlayedEvent w true (Deliver k)) later (Runs life)
  unsent life k none n is =
      idle (Runs life) (IsPlayedEvent w true (Deliver k))
      (subst (λ (o : Option Message). DeliversIf true o [] true) (sym none) (refl, refl)) n is

  -- a frame comes to the server
  module _ (f : Frame) (replies : List Reply) (AreSteps : List WorldStep → Bool → Type 0)
      (played : (steps : List WorldStep) (on : Bool) → AnswersOrDies f steps on → AreSteps steps on)
      (n : (book : Book) → IsNetwork (with_replies w replies book) later) where
    went_on : (life : Life) → KeepsRunning limit w f replies life → PlaysBy limit w AreSteps later (Runs life)
    went_on life g = record {
      steps = Answers (one_frame f replies) g.later ∷ [];
      world = with_replies w replies g.later;
      played = played (Answers (one_frame f replies) g.later ∷ []) true (inl (refl, (replies, (g.later, refl))));
      went = (g.next, ap (λ (rs : List Reply). with_replies w rs g.later) (sym (append-nil replies)));
      network_is = n g.later;
      machine_is = g.running;
    }

    stopped : (folder : Folder) → DiesInTurn limit w f replies folder → PlaysBy limit w AreSteps later (Stopped folder)
    stopped folder d = record {
      steps = Stops (one_frame f d.given) d.later d.left ∷ [];
      world = record w { book = d.left };
      played = played (Stops (one_frame f d.given) d.later d.left ∷ []) false (inr (refl, (d.given, (d.later, (d.left, refl)))));
      went = (d.next, refl);
      network_is = subst (λ (rs : List Reply). IsNetwork (record {
        sender = w.sender;
        sent = w.sent;
        book = d.left;
        replies = rs;
      }) later) (ap (λ (rs : List Reply). w.replies ++ rs) d.silent ∙ append-nil w.replies) (n d.left);
      machine_is = d.stands;
    }

    pub turned : (machine : Machine) → TurnsMachine limit w f replies machine → PlaysBy limit w AreSteps later machine
    turned (Runs life) g = went_on life g
    turned (Stopped folder) d = stopped folder d

  -- the message at a place of what was sent comes to it
  pub came : (k : ℕ) (s m : Message) (replies : List Reply) (machine : Machine) → slice_get w.sent k ≡ Some s →
      m ≡ s → ((book : Book) → IsNetwork (with_replies w replies book) later) →
      (MayCome w (Says m) → TurnsMachine limit w (Says m) replies machine) →
      PlaysBy limit w (IsPlayedEvent w true (Deliver k)) later machine
  came k s m replies machine at same n turns =
      let there : slice_get w.sent k ≡ Some m = at ∙ ap Some (sym same) in
      turned (Says m) replies (IsPlayedEvent w true (Deliver k))
      (λ steps on did. subst (λ (o : Option Message). DeliversIf true o steps on) (sym there) did) n machine
      (turns (inl (k, there)))

  -- the server is asked for the sender's name
  pub asked : (name : List ℕ) (replies : List Reply) (machine : Machine) → name ≡ w.sender.name →
      ((book : Book) → IsNetwork (with_replies w replies book) later) →
      TurnsMachine limit w (Asks name 0) replies machine → PlaysBy limit w (IsPlayedEvent w true Ask) later machine
  asked name replies machine same n turns =
      turned (Asks name 0) replies (IsPlayedEvent w true Ask)
      (λ steps on did. subst (λ (x : List ℕ). AnswersOrDies (Asks x 0) steps on) same did) n machine turns

-- A machine whose server stops, or which gets one.
module _ (limit : ℕ) (w : World) (m : Machine) where
  -- nothing changes
  unchanged : (later : Machine) (AreSteps : List WorldStep → Bool → Type 0) → AreSteps [] (runs later) → m ≡ later →
      IsMachine limit w.book m → LeavesBook limit w AreSteps later
  unchanged later AreSteps played e is = record {
    steps = [];
    book = w.book;
    played = played;
    went = refl;
    machine_is = subst (IsMachine limit w.book) e is;
  }

  pub runs_already : (life : Life) (name : List ℕ) → m ≡ Runs life → IsMachine limit w.book m →
      LeavesBook limit w (λ steps on. (on ≡ true) × StartsIf (runs m) name steps) (Runs life)
  runs_already life name e is =
      unchanged (Runs life) _ (subst (λ (b : Bool). (true ≡ true) × StartsIf b name []) (sym (ap runs e)) (refl, refl)) e is

  pub counted_already : (life : Life) (name : List ℕ) → m ≡ Runs life → IsMachine limit w.book m →
      LeavesBook limit w (MayStartIf (runs m) name) (Runs life)
  counted_already life name e is =
      unchanged (Runs life) _ (subst (λ (b : Bool). MayStartIf b name [] true) (sym (ap runs e)) (refl, refl)) e is

  pub left_by : (folder : Folder) → m ≡ Stopped folder → IsMachine limit w.book m → IsLeftAt limit w.book folder
  left_by folder e is = subst (IsMachine limit w.book) e is

  pub started : (folder : Folder) (life : Life) (name : List ℕ) → m ≡ Stopped folder →
      StartsFound limit w name (Runs life) →
      LeavesBook limit w (λ steps on. (on ≡ true) × StartsIf (runs m) name steps) (Runs life)
  started folder life name e f = record {
    steps = Starts ∷ Stops (one_frame (Asks name 0) f.given) f.later f.left ∷ Starts ∷ [];
    book = cut_book f.left;
    played = subst (λ (b : Bool). (true ≡ true)
        × StartsIf b name (Starts ∷ Stops (one_frame (Asks name 0) f.given) f.later f.left ∷ Starts ∷ []))
        (sym (ap runs e)) (refl, (f.given, (f.later, (f.left, refl))));
    went = (tt, (f.next, (tt, refl)));
    machine_is = f.machine_is;
  }

  pub counted : (folder : Folder) (later : Machine) (name : List ℕ) → m ≡ Stopped folder → StartsFound limit w name later →
      LeavesBook limit w (MayStartIf (runs m) name) later
  counted folder (Runs life) name e f = record {
    steps = Starts ∷ Stops (one_frame (Asks name 0) f.given) f.later f.left ∷ Starts ∷ [];
    book = cut_book f.left;
    played = subst (λ (b : Bool). MayStartIf b name (Starts
        ∷ Stops (one_frame (Asks name 0) f.given) f.later f.left ∷ Starts ∷ []) true)
        (sym (ap runs e)) (inl (refl, (f.given, (f.later, (f.left, refl)))));
    went = (tt, (f.next, (tt, refl)));
    machine_is = f.machine_is;
  }
  counted folder (Stopped left) name e f = record {
    steps = Starts ∷ Stops (one_frame (Asks name 0) f.given) f.later f.left ∷ [];
    book = f.left;
    played = subst (λ (b : Bool). MayStartIf b name (Starts ∷ Stops (one_frame (Asks name 0) f.given) f.later f.left ∷ []) false)
        (sym (ap runs e)) (inr (refl, (f.given, (f.later, (f.left, refl)))));
    went = (tt, (f.next, refl));
    machine_is = f.machine_is;
  }

  pub each_counted : {E : Type 0} (folder : Folder) (name : List ℕ) (r : Result Machine E) → m ≡ Stopped folder →
      IfOk r (StartsFound limit w name) → IfOk r (λ later. LeavesBook limit w (MayStartIf (runs m) name) later)
  each_counted folder name (Ok later) e f = counted folder later name e f
  each_counted folder name (Err x) e f = f

  pub stopped_already : (folder : Folder) → m ≡ Stopped folder → IsMachine limit w.book m →
      LeavesBook limit w (λ steps on. (on ≡ false) × StopsIf (runs m) steps) (Stopped folder)
  stopped_already folder e is =
      unchanged (Stopped folder) _ (subst (λ (b : Bool). (false ≡ false) × StopsIf b []) (sym (ap runs e)) (refl, refl)) e is

  pub stopped_now : (life : Life) (folder : Folder) (later left : Book) → m ≡ Runs life →
      IsNextStep nothing_stands w (Stops [] later left) → IsLeftAt limit left folder →
      LeavesBook limit w (λ steps on. (on ≡ false) × StopsIf (runs m) steps) (Stopped folder)
  stopped_now life folder later left e next stands = record {
    steps = Stops [] later left ∷ [];
    book = left;
    played = subst (λ (b : Bool). (false ≡ false) × StopsIf b (Stops [] later left ∷ [])) (sym (ap runs e))
        (refl, (later, (left, refl)));
    went = (next, refl);
    machine_is = stands;
  }

-- What comes of a server that found a name.
module _ (limit : ℕ) (w : World) (name : List ℕ) where
  -- it stopped as it did
  pub found_stopped : (folder : Folder) → AnswersForName limit w name (Stopped folder) → StartsFound limit w name (Stopped folder)
  found_stopped folder (replies, d) = record {
    given = d.given;
    later = d.later;
    left = d.left;
    next = d.next;
    machine_is = d.stands;
  }

  -- another goes on
  pub found_anew : (life later : Life) (f : AnswersForName limit w name (Runs life)) → BeginsOverLeft limit f.1.later later →
      StartsFound limit w name (Runs later)
  found_anew life later (replies, g) (left, ahead, running) = record {
    given = replies;
    later = g.later;
    left = left;
    next = (
      (tt, tt),
      g.next.1,
      subst (λ (b : Book). LeavesAtLeast b g.later left)
          (asked_book limit (record w { book = cut_book w.book }) name replies g.later g.next.1) ahead,
    );
    machine_is = running;
  }

  pub found_by : (machine other : Machine) → machine ≡ other → AnswersForName limit w name machine →
      AnswersForName limit w name other
  found_by machine other e f = subst (AnswersForName limit w name) e f

  pub each_anew : {E : Type 0} (life : Life) (r : Result Life E) (f : AnswersForName limit w name (Runs life)) →
      IfOk r (BeginsOverLeft limit f.1.later) → IfOk r (λ later. StartsFound limit w name (Runs later))
  each_anew life (Ok later) f h = found_anew life later f h
  each_anew life (Err e) f h = h

-- A server that began over what another left.
pub each_started : {E : Type 0} (limit : ℕ) (book left : Book) → LeavesAtLeast book book left → (r : Result Life E) →
    IfOk r (λ life. IsRunning limit (cut_book left) life) → IfOk r (BeginsOverLeft limit book)
each_started limit book left ahead (Ok life) h = (left, ahead, h)
each_started limit book left ahead (Err e) h = h

-- The same start, for a name that is another's.
pub starts_for : (limit : ℕ) (w : World) (was : Bool) (name other : List ℕ) (m : Machine) → name ≡ other →
    LeavesBook limit w (λ steps on. (on ≡ true) × StartsIf was name steps) m →
    LeavesBook limit w (λ steps on. (on ≡ true) × StartsIf was other steps) m
starts_for limit w was name other m e l =
    subst (λ (n : List ℕ). LeavesBook limit w (λ steps on. (on ≡ true) × StartsIf was n steps) m) e l

pub counts_for : (limit : ℕ) (w : World) (was : Bool) (name other : List ℕ) (m : Machine) → name ≡ other →
    LeavesBook limit w (MayStartIf was name) m → LeavesBook limit w (MayStartIf was other) m
counts_for limit w was name other m e l = subst (λ (n : List ℕ). LeavesBook limit w (MayStartIf was n) m) e l

-- A link is used, turn after turn.
use Rattle.std.proofs.Common.{◌≡◌, ◌≢◌, ◌⊎◌, ℕ, suc, ◌+◌, ◌≤◌, Bool, true, false, List, [], ◌∷◌, ◌++◌, length, map}
use Rattle.std.proofs.Common.{Option, Some, None, Ok, Err, refl, sym, ap, subst, ◌∙◌, arith, inl, inr}
use Rattle.std.specs.Prelude.{is_none, not, ◌&&◌, ◌==◌}
use Rattle.std.proofs.lemmas.Bool.{eqb-true}
use Rattle.std.proofs.lemmas.List.{length-append, append-nil}
use Rattle.bw_model.specs.Take.{Verdict}
use Rattle.bw_model.specs.World.{Sender as Defined, settled, pending, refused, refused_from}
use Rattle.bw_stream.specs.declared.sink.Sink.{Ghosts as Writer}
use Rattle.bw_stream.specs.declared.source.Source.{Ghosts as Reader}
use Rattle.bw_sender.specs.declared.sender.Sender.{Sender}
use Rattle.bw_exchange.specs.WholeExchanges.{most_reads}
use Rattle.bw_sender.specs.LinkReplies.{PartsWith}
use Rattle.bw_sender.specs.Talks.{HasHeard}
use Rattle.bw_sender.specs.declared.send_fault.SendFault.TheVariants as faults
use Rattle.bw_sender.specs.declared.talk.Talk.{Talk}
use Rattle.bw_ports.specs.declared.dial.Dial.{Ghosts as DialGhosts}
use Rattle.bw_ports.specs.declared.dial.Duplex.{Duplex}
use Rattle.bw_ports.specs.declared.pause.Pause.{Ghosts as PauseGhosts}
use Rattle.bw_upload.specs.Chains.{Chain}
use Rattle.bw_upload.specs.Conversations.{Conversing, Line, LeavesBy, HeedsStop, new_line}
use Rattle.bw_upload.specs.Courses.{Course, CourseStep, UploadEvent, Fills, Talks, Leaves, LeavesRightly}
use Rattle.bw_upload.specs.Courses.{fruitless_after}
use Rattle.bw_upload.specs.WindowFills.{Filling, FillEvent, FillStep, is_done}
use Rattle.bw_upload.specs.FinalStops.{final_stop, final_stops}
use Rattle.bw_upload.specs.Supplies.{IsFilling, FillsUp}
use Rattle.bw_upload.specs.Turns.{IsLine, IsTalking, HeedsAny, TakesTurn, TurnBy}
use Rattle.bw_upload.specs.Visits.{BeginsVisit, KeepsDials, Visits, visit_end}
use Rattle.bw_upload.specs.declared.feed.Feed.{Ghosts as FeedGhosts}
use Rattle.bw_upload.specs.declared.observer.LinkEnd.{LinkEnd}
use Rattle.bw_upload.specs.declared.observer.LinkEnd.TheVariants as ends
use Rattle.bw_upload.specs.declared.outcome.Outcome.{Outcome}
use Rattle.bw_upload.specs.declared.outcome.Outcome.TheVariants as outcomes
use Rattle.bw_upload.specs.declared.supply.Supply.{Supply}
use Rattle.bw_upload.proofs.ChainSteps.{chain_on}
use Rattle.bw_upload.proofs.FinalSteps.{finals_on, fills_finals, talks_finals}
use Rattle.bw_upload.proofs.Lifting.{lift_fill, lift_talk, with_filling, with_talk}

-- ---- whether all is done

done_of : (s : Defined) (ended : Bool) (p : Bool) (n : ℕ) → ended ≡ true → is_none (pending s 0) ≡ p →
    length (refused s) ≡ n → is_done s ended ≡ (p && (n == 0))
done_of s ended p n e f g =
    ap (λ (b : Bool). b && (is_none (pending s 0) && (length (refused s) == 0))) e
    ∙ ap (λ (b : Bool). b && (length (refused s) == 0)) f ∙ ap (λ (m : ℕ). p && (m == 0)) g

pub still_some : (s : Defined) (ended : Bool) → is_done s ended ≡ false → length (refused s) ≡ 0 →
    (ended ≡ true) ⊎ (pending s 0 ≢ None) → pending s 0 ≢ None
still_some s ended undone none (inr some) = some
still_some s ended undone none (inl e) = λ idle.
    let done : is_done s ended ≡ true = done_of s ended true 0 e (ap is_none idle) none in
    unequal (is_done s ended) done undone
  where
    unequal : (b : Bool) → b ≡ true → b ≡ false → ⊥
    unequal b x y = absurd cc

pub undone_open : (s : Defined) (ended : Bool) → ended ≡ false → is_done s ended ≡ false
undone_open s ended e = ap (λ (b : Bool). b && (is_none (pending s 0) && (length (refused s) == 0))) e

not_false : (b : Bool) → not b ≡ false → b ≡ true
not_false true e = refl
not_false false e = absurd cc

pub none_refused : (n : ℕ) → not (n == 0) ≡ false → n ≡ 0
none_refused n e = eqb-true n 0 (not_false (n == 0) e)

map_len : (es : List FillEvent) → length (map Fills es) ≡ length es
map_len [] = refl
map_len (e ∷ es) = ap suc (map_len es)

pub some_refused : {X : Type 0} (xs : List X) → not (length xs == 0) ≡ true → xs ≢ []
some_refused [] e = λ h. absurd (wrong e)
  where
    wrong : not (0 == 0) ≡ true → ⊥
    wrong e = absurd cc
some_refused (x ∷ xs) e = λ h. absurd cc

same_refused : (s t : Defined) → t.verdicts ≡ s.verdicts → length (refused t) ≡ length (refused s)
same_refused s t e = ap (λ (vs : List (Option Verdict)). length (refused_from 0 vs)) e

module _ {F P D R W X : Type 0} (feed : FeedGhosts F X) (pause : PauseGhosts P) (dial : DialGhosts D R W)
    (reader : Reader R) (writer : Writer W) (most : Option ℕ) where
  abbrev Goes : List UploadEvent → Course F P D R W → Course F P D R W → Type 0
  Goes es x y = Chain (CourseStep feed pause dial reader writer most) es x y

  goes_on : (a b : List UploadEvent) (x y z : Course F P D R W) → Goes a x y → Goes b y z → Goes (a ++ b) x z
  goes_on a b x y z f g = chain_on (CourseStep feed pause dial reader writer most) a b x y z f g

  -- so far the link was used so
  pub record VisitSoFar (n : ℕ) (x : Course F P D R W) (supply : Supply) (talk : Talk) (link : Duplex R W) (f : F) (p : P)
      : Type 0 where
    pub events : List UploadEvent
    pub after : Course F P D R W
    pub l : Line R W
    pub went : Goes events x after
    pub line : after.line ≡ Some l
    pub is_line : IsLine l talk link
    pub whole : l.is_broken ≡ false
    pub filling : IsFilling after.filling supply f p
    pub some : pending after.filling.sender 0 ≢ None
    pub kept : KeepsDials x after
    pub fruitless : after.fruitless ≡ x.fruitless
    pub before : after.before ≡ x.before
    pub many : n ≤ length l.input
    pub unstopped : l.stop ≡ None
    pub finals : final_stops events ≡ []

  pub visit_begins : (x : Course F P D R W) (supply : Supply) (talk : Talk) (link : Duplex R W) (f : F) (p : P) →
      BeginsVisit x supply f p link → talk.next ≡ 0 → HasHeard [] [] talk → VisitSoFar 0 x supply talk link f p
  visit_begins x supply talk link f p b next heard = record {
    events = [];
    after = x;
    l = new_line link.reader link.writer;
    went = refl;
    line = b.line;
    is_line = record { reader = refl; writer = refl; next = next; heard = heard };
    whole = refl;
    filling = b.filling;
    some = b.some;
    kept = record { dial = refl; dials = refl };
    fruitless = refl;
    before = refl;
    many = omega arith;
    unstopped = refl;
    finals = refl;
  }

  -- what a turn makes of that
  abbrev pub TurnsSo : Option LinkEnd → Sender → Talk → Duplex R W → Sender → Talk → Duplex R W → Type 0
  TurnsSo end sender talk link sender' talk' link' = (y : Conversing R W) → IsTalking y sender talk link →
      y.line.is_broken ≡ false → pending y.sender 0 ≢ None → TakesTurn reader writer end y sender' talk' link'

  pub record VisitTurned (end : Option LinkEnd) (n : ℕ) (x : Course F P D R W) (supply : Supply) (talk : Talk)
      (link : Duplex R W) (f : F) (p : P) : Type 0 where
    pub events : List UploadEvent
    pub after : Course F P D R W
    pub t : Conversing R W
    pub m : ℕ
    pub went : Goes events x after
    pub line : after.line ≡ Some t.line
    pub sender : after.filling.sender ≡ t.sender
    pub filling : IsFilling after.filling supply f p
    pub by : TurnBy reader writer end m t talk link
    pub kept : KeepsDials x after
    pub fruitless : after.fruitless ≡ x.fruitless
    pub before : after.before ≡ x.before
    pub many : n ≤ m
    pub heeds : HeedsAny end t.line.stop
    pub finals : final_stops events ≡ []

  pub visit_turned : (end : Option LinkEnd) (n : ℕ) (x : Course F P D R W) (supply : Supply) (talk talk' : Talk)
      (link link' : Duplex R W) (sender' : Sender) (f : F) (p : P) → VisitSoFar n x supply talk link f p →
      TurnsSo end supply.sender talk link sender' talk' link' →
      VisitTurned end n x (record supply { sender = sender' }) talk' link' f p
  visit_turned end n x supply talk talk' link link' sender' f p so turns =
      let t = turns (record { sender = so.after.filling.sender; line = so.l })
      (record { sender_is = so.filling.sender; line_is = so.is_line; unstopped = so.unstopped }) so.whole so.some in
      let more = t.talks in
      record {
        events = so.events ++ map Talks more.events;
        after = with_talk so.after more.after;
        t = more.after;
        m = length so.l.input;
        went = goes_on so.events (map Talks more.events) x so.after (with_talk so.after more.after) so.went
            (lift_talk feed pause dial reader writer most more.events so.after so.l more.after so.line more.went);
        line = refl;
        sender = refl;
        filling = record {
          sender = more.sender_is;
          ended = so.filling.ended;
          feed = so.filling.feed;
          pause = so.filling.pause;
        };
        by = t.by;
        kept = record { dial = so.kept.dial; dials = so.kept.dials };
        fruitless = so.fruitless;
        before = so.before;
        many = so.many;
        heeds = t.heeds;
        finals = finals_on so.events (map Talks more.events) [] so.finals (talks_finals more.events);
      }

  -- a course that leaves its link
  abbrev left_course : Course F P D R W → Course F P D R W
  left_course y = record y {
    line = None;
    fruitless = fruitless_after y.before (settled y.filling.sender) y.fruitless;
  }

  -- the link is left
  leaves : (end : LinkEnd) (events : List UploadEvent) (x y : Course F P D R W) (l : Line R W) (supply : Supply) (f : F)
      (p : P) → Goes events x y → y.line ≡ Some l →
      LeavesBy reader writer end (record { sender = y.filling.sender; line = l }) →
      LeavesRightly feed pause dial reader writer most end (is_done y.filling.sender y.filling.is_ended) →
      IsFilling y.filling supply f p → KeepsDials x y → y.fruitless ≡ x.fruitless → y.before ≡ x.before →
      HeedsStop end l.stop → final_stops events ≡ [] → Visits feed pause dial reader writer most (Ok end) x supply f p
  leaves end events x y l supply f p went line why rightly filling kept fruitless before heeds finals = record {
    events = events ++ Leaves end ∷ [];
    after = left_course y;
    went = goes_on events (Leaves end ∷ []) x y (left_course y) went (
      left_course y,
      record { l = l; line = line; why = why; rightly = rightly; heeds = heeds; is = refl },
      refl,
    );
    kept = record { dial = kept.dial; dials = kept.dials };
    by = record {
      filling = filling;
      free = refl;
      fruitless = ap (λ (n : ℕ). fruitless_after n (settled y.filling.sender) y.fruitless) before
          ∙ ap (fruitless_after x.before (settled y.filling.sender)) fruitless;
      last = (events, refl);
      finals = finals_on events (Leaves end ∷ []) (final_stop end) finals (append-nil (final_stop end));
    };
  }

  -- the upload ends here, since memory was refused
  out_of_memory : (events : List UploadEvent) (x y : Course F P D R W) (supply : Supply) (f : F) (p : P) →
      Goes events x y → KeepsDials x y → IsFilling y.filling supply f p → final_stops events ≡ [] →
      Visits feed pause dial reader writer most (Err outcomes.Memory) x supply f p
  out_of_memory events x y supply f p went kept filling finals = record {
    events = events;
    after = y;
    went = went;
    kept = kept;
    by = record {
      sender_is = filling.sender;
      paused = filling.pause;
      stops = tt;
      undone = λ other. absurd (other refl);
      many = λ e. absurd cc;
      finals = finals;
    };
  }

  -- after a turn that ends it
  left_so : (end : LinkEnd) (n : ℕ) (x : Course F P D R W) (supply : Supply) (talk : Talk) (link : Duplex R W) (f : F)
      (p : P) → (v : VisitTurned (Some end) n x supply talk link f p) → LeavesBy reader writer end v.t →
      LeavesRightly feed pause dial reader writer most end (is_done v.after.filling.sender v.after.filling.is_ended) →
      Visits feed pause dial reader writer most (Ok end) x supply f p
  left_so end n x supply talk link f p v why rightly =
      leaves end v.events x v.after v.t.line supply f p v.went v.line
      (subst (λ (s : Defined). LeavesBy reader writer end (record { sender = s; line = v.t.line })) (sym v.sender) why)
      rightly v.filling v.kept v.fruitless v.before v.heeds v.finals

  pub visit_left : (end : LinkEnd) (n : ℕ) (x : Course F P D R W) (supply : Supply) (talk : Talk) (link : Duplex R W)
      (f : F) (p : P) → VisitTurned (Some end) n x supply talk link f p →
      Visits feed pause dial reader writer most (visit_end end) x supply f p
  visit_left ends.Ended n x supply talk link f p v = left_so ends.Ended n x supply talk link f p v v.by tt
  visit_left (ends.Broken faults.Read) n x supply talk link f p v =
      left_so (ends.Broken faults.Read) n x supply talk link f p v v.by tt
  visit_left (ends.Broken faults.Write) n x supply talk link f p v =
      left_so (ends.Broken faults.Write) n x supply talk link f p v v.by tt
  visit_left (ends.Broken faults.Memory) n x supply talk link f p v =
      out_of_memory v.events x v.after supply f p v.went v.kept v.filling v.finals
  visit_left (ends.Broken faults.BadReply) n x supply talk link f p v =
      left_so (ends.Broken faults.BadReply) n x supply talk link f p v v.by tt
  visit_left (ends.Broken faults.TurnLimit) n x supply talk link f p v =
      left_so (ends.Broken faults.TurnLimit) n x supply talk link f p v v.by tt
  visit_left (ends.Stopped stop) n x supply talk link f p v =
      left_so (ends.Stopped stop) n x supply talk link f p v v.by tt
  visit_left ends.Refused n x supply talk link f p v = absurd v.by
  visit_left ends.Done n x supply talk link f p v = absurd v.by

  -- a request is refused
  pub visit_refused : (n : ℕ) (x : Course F P D R W) (supply : Supply) (talk : Talk) (link : Duplex R W) (f : F) (p : P)
      → (v : VisitTurned None n x supply talk link f p) → not (length (refused v.after.filling.sender) == 0) ≡ true →
      Visits feed pause dial reader writer most (Ok ends.Refused) x supply f p
  visit_refused n x supply talk link f p v some =
      leaves ends.Refused v.events x v.after v.t.line supply f p v.went v.line
      (some_refused (refused v.after.filling.sender) some) tt v.filling v.kept v.fruitless v.before v.heeds v.finals

  -- the window is filled: this is what is left then
  filled : (n : ℕ) (x : Course F P D R W) (supply : Supply) (talk : Talk) (link : Duplex R W) (f : F) (p : P) →
      (v : VisitTurned None n x supply talk link f p) → (es : List FillEvent) (y : Filling F P) →
      Chain (FillStep feed pause) es v.after.filling y → Goes (v.events ++ map Fills es) x (with_filling v.after y)
  filled n x supply talk link f p v es y went =
      goes_on v.events (map Fills es) x v.after (with_filling v.after y) v.went
      (lift_fill feed pause dial reader writer most es v.after y went)

  pub visit_stopped : (outcome : Outcome X) (n : ℕ) (x : Course F P D R W) (supply supply' : Supply) (talk : Talk)
      (link : Duplex R W) (f f' : F) (p p' : P) → (v : VisitTurned None n x supply talk link f p) →
      FillsUp feed pause (Err outcome) v.after.filling supply' f' p' →
      Visits feed pause dial reader writer most (Err outcome) x supply' f' p'
  visit_stopped outcome n x supply supply' talk link f f' p p' v u =
      let len = length-append v.events (map Fills u.events) in
      let same = map_len u.events in
      record {
        events = v.events ++ map Fills u.events;
        after = with_filling v.after u.after;
        went = filled n x supply talk link f p v u.events u.after u.went;
        kept = record { dial = v.kept.dial; dials = v.kept.dials };
        by = record {
          sender_is = u.by.0;
          paused = u.by.2;
          stops = u.by.3;
          undone = λ other. undone_open u.after.sender u.after.is_ended u.by.1;
          many = λ e. let many = u.by.4 e in omega (arith, many, len, same);
          finals = finals_on v.events (map Fills u.events) [] v.finals (fills_finals u.events);
        };
      }

  pub visit_done : (n : ℕ) (x : Course F P D R W) (supply supply' : Supply) (talk : Talk) (link : Duplex R W) (w' : W)
      (f f' : F) (p p' : P) → (v : VisitTurned None n x supply talk link f p) →
      (u : FillsUp feed pause (Ok tt) v.after.filling supply' f' p') →
      is_done u.after.sender u.after.is_ended ≡ true → PartsWith writer link.writer w' →
      Visits feed pause dial reader writer most (Ok ends.Done) x supply' f' p'
  visit_done n x supply supply' talk link w' f f' p p' v u done parts =
      leaves ends.Done (v.events ++ map Fills u.events) x (with_filling v.after u.after) v.t.line supply' f' p'
      (filled n x supply talk link f p v u.events u.after u.went) v.line
      (v.by.2, w', subst (λ (z : W). PartsWith writer z w') (sym v.by.0.writer) parts) done u.by.0
      (record { dial = v.kept.dial; dials = v.kept.dials }) v.fruitless v.before v.heeds
      (finals_on v.events (map Fills u.events) [] v.finals (fills_finals u.events))

  pub visit_more : (n : ℕ) (x : Course F P D R W) (supply supply' : Supply) (talk : Talk) (link : Duplex R W)
      (f f' : F) (p p' : P) → (v : VisitTurned None n x supply talk link f p) →
      (u : FillsUp feed pause (Ok tt) v.after.filling supply' f' p') →
      not (length (refused v.after.filling.sender) == 0) ≡ false →
      is_done u.after.sender u.after.is_ended ≡ false → VisitSoFar (n + 1) x supply' talk link f' p'
  visit_more n x supply supply' talk link f f' p p' v u welcome undone =
      let none : length (refused u.after.sender) ≡ 0 =
      same_refused v.after.filling.sender u.after.sender u.verdicts
      ∙ none_refused (length (refused v.after.filling.sender)) welcome in
      record {
        events = v.events ++ map Fills u.events;
        after = with_filling v.after u.after;
        l = v.t.line;
        went = filled n x supply talk link f p v u.events u.after u.went;
        line = v.line;
        is_line = v.by.0;
        whole = v.by.2;
        filling = u.by.0;
        some = still_some u.after.sender u.after.is_ended undone none u.by.1;
        kept = record { dial = v.kept.dial; dials = v.kept.dials };
        fruitless = v.fruitless;
        before = v.before;
        many = omega (arith, v.many, v.by.1);
        unstopped = v.heeds;
        finals = finals_on v.events (map Fills u.events) [] v.finals (fills_finals u.events);
      }

  pub visit_limited : (n : ℕ) (x : Course F P D R W) (supply : Supply) (talk : Talk) (link : Duplex R W) (f : F) (p : P)
      → VisitSoFar n x supply talk link f p → most_reads ≤ n →
      Visits feed pause dial reader writer most (Ok (ends.Broken faults.TurnLimit)) x supply f p
  visit_limited n x supply talk link f p so long =
      leaves (ends.Broken faults.TurnLimit) so.events x so.after so.l supply f p so.went so.line
      (omega (arith, long, so.many)) tt so.filling so.kept so.fruitless so.before so.unstopped so.finals

  -- no talk begins: memory was refused
  pub visit_lacks : (x : Course F P D R W) (supply : Supply) (link : Duplex R W) (f : F) (p : P) →
      BeginsVisit x supply f p link → Visits feed pause dial reader writer most (Err outcomes.Memory) x supply f p
  visit_lacks x supply link f p b =
      out_of_memory [] x x supply f p refl (record { dial = refl; dials = refl }) b.filling refl

-- Links are made, one after another.
use Rattle.std.proofs.Common.{◌≡◌, ◌⊎◌, ℕ, suc, ◌+◌, ◌-◌, ◌^◌, ◌≤◌, Bool, true, false, List, [], ◌∷◌, ◌++◌, length, map}
use Rattle.std.proofs.Common.{Option, Some, None, Result, Ok, Err, refl, sym, ap, subst, ◌∙◌, append_assoc, arith, inl, inr}
use Rattle.std.specs.Prelude.{is_none, ◌&&◌, ◌==◌, nat_lt, if◌then◌else◌}
use Rattle.std.proofs.Math.Bool.{and-false, and-true}
use Rattle.std.proofs.lemmas.Bool.{eqb-true, le-ltb}
use Rattle.std.proofs.lemmas.List.{length-append}
use Rattle.bw_model.specs.Take.{Verdict}
use Rattle.bw_model.specs.World.{Sender as Defined, settled, pending, refused, refused_from}
use Rattle.bw_stream.specs.declared.sink.Sink.{Ghosts as Writer}
use Rattle.bw_stream.specs.declared.source.Source.{Ghosts as Reader}
use Rattle.bw_sender.specs.Senders.{IsSender}
use Rattle.bw_sender.specs.declared.stop.Stop.{Stop}
use Rattle.bw_sender.specs.declared.stop.Stop.TheVariants as stops
use Rattle.bw_ports.specs.declared.dial.Dial.{Ghosts as DialGhosts}
use Rattle.bw_ports.specs.declared.dial.DialFault.{DialFault}
use Rattle.bw_ports.specs.declared.dial.Duplex.{Duplex}
use Rattle.bw_ports.specs.declared.pause.Pause.{Ghosts as PauseGhosts}
use Rattle.bw_upload.specs.Backoff.{backoff, is_spent}
use Rattle.bw_upload.specs.Chains.{Chain}
use Rattle.bw_upload.specs.Conversations.{new_line}
use Rattle.bw_upload.specs.Courses.{Course, CourseStep, UploadEvent, Fills, Misses, Makes, Leaves, fruitless_after, starts}
use Rattle.bw_upload.specs.WindowFills.{Filling, FillEvent, FillStep, is_done}
use Rattle.bw_upload.specs.FinalStops.{final_stop, final_stops, named_stop}
use Rattle.bw_upload.specs.Links.{says_done, EndsFilled, PreparedBy, Prepares, EndsUpload, DialsNext}
use Rattle.bw_upload.specs.Links.{LinkAsked, end_of_link, WaitsBefore}
use Rattle.bw_upload.specs.FeedStops.{StopsFeed}
use Rattle.bw_upload.specs.Supplies.{IsFilling, FillsUp, RefusedBy}
use Rattle.bw_upload.specs.WholeUploads.{Uploads}
use Rattle.bw_upload.specs.Visits.{BeginsVisit, Visits}
use Rattle.bw_upload.specs.declared.feed.Feed.{Ghosts as FeedGhosts}
use Rattle.bw_upload.specs.declared.observer.LinkEnd.{LinkEnd}
use Rattle.bw_upload.specs.declared.observer.LinkEnd.TheVariants as ends
use Rattle.bw_upload.specs.declared.outcome.Outcome.{Outcome}
use Rattle.bw_upload.specs.declared.outcome.Outcome.TheVariants as outcomes
use Rattle.bw_upload.specs.declared.supply.Supply.{Supply}
use Rattle.bw_upload.proofs.ChainSteps.{chain_on}
use Rattle.bw_upload.proofs.Lifting.{lift_fill, with_filling}
use Rattle.bw_upload.proofs.FeedSteps.{feeds_so}
use Rattle.bw_upload.proofs.FinalSteps.{finals_on, fills_finals}
use Rattle.bw_upload.proofs.VisitSteps.{still_some, undone_open}

-- ---- refusals

not_zero : (n : ℕ) (b : Bool) → (n == 0) ≡ b → 1 ≤ n → b ≡ false
not_zero n true e some = let zero_is = eqb-true n 0 e in absurd (omega (arith, zero_is, some))
not_zero n false e some = refl

-- where a request is refused, not all is done
refused_undone : (s : Defined) (ended : Bool) (x : ℕ × Verdict) (rest : List (ℕ × Verdict)) → refused s ≡ x ∷ rest →
    is_done s ended ≡ false
refused_undone s ended x rest e =
    let len : length (refused s) ≡ suc (length rest) = ap length e in
    let none : (length (refused s) == 0) ≡ false =
    not_zero (length (refused s)) (length (refused s) == 0) refl (omega (arith, len)) in
    ap (λ (b : Bool). ended && (is_none (pending s 0) && b)) none
    ∙ ap (λ (b : Bool). ended && b) (and-false (is_none (pending s 0))) ∙ and-false ended

lt_self : (n : ℕ) → nat_lt n n ≡ false
lt_self n = le-ltb n n (omega arith)

fills_len : (es : List FillEvent) → length (map Fills es) ≡ length es
fills_len [] = refl
fills_len (e ∷ es) = ap suc (fills_len es)

-- where no reply that ends an upload is named
rightly_of : {X : Type 0} (outcome : Outcome X) (done : Bool) → named_stop outcome ≡ [] → says_done outcome ≡ done →
    says_done outcome ≡ (done && (length (named_stop outcome) == 0))
rightly_of outcome done none says =
    says ∙ sym (and-true done) ∙ sym (ap (λ (l : List Stop). done && (length l == 0)) none)

module _ {F P X : Type 0} (feed : FeedGhosts F X) (pause : PauseGhosts P) (most : Option ℕ) where
  -- what stops the feed names no reply, and neither does what ends an upload before a link
  stop_names : (outcome : Outcome X) (y : Filling F P) (f : F) → StopsFeed feed pause outcome y f →
      named_stop outcome ≡ []
  stop_names outcomes.Done y f s = refl
  stop_names (outcomes.Refused n v) y f s = refl
  stop_names (outcomes.Conflict n) y f s = absurd s
  stop_names (outcomes.TooFar n) y f s = absurd s
  stop_names (outcomes.NotOffered error) y f s = refl
  stop_names outcomes.Fruitless y f s = refl
  stop_names (outcomes.Feed fault) y f s = refl
  stop_names outcomes.Memory y f s = refl
  stop_names outcomes.Limit y f s = refl

  filled_names : (outcome : Outcome X) (n count : ℕ) (y : Filling F P) (f : F) →
      EndsFilled feed pause most outcome n count y f → named_stop outcome ≡ []
  filled_names outcomes.Done n count y f e = refl
  filled_names (outcomes.Refused m v) n count y f e = refl
  filled_names (outcomes.Conflict m) n count y f e = absurd e
  filled_names (outcomes.TooFar m) n count y f e = absurd e
  filled_names (outcomes.NotOffered error) n count y f e = refl
  filled_names outcomes.Fruitless n count y f e = refl
  filled_names (outcomes.Feed fault) n count y f e = refl
  filled_names outcomes.Memory n count y f e = refl
  filled_names outcomes.Limit n count y f e = refl

  -- what stops the feed doesn't say that all is done
  pub stop_says : (outcome : Outcome X) (y : Filling F P) (f : F) → StopsFeed feed pause outcome y f →
      says_done outcome ≡ false
  stop_says outcomes.Done y f s = absurd s
  stop_says (outcomes.Refused n v) y f s = absurd s
  stop_says (outcomes.Conflict n) y f s = absurd s
  stop_says (outcomes.TooFar n) y f s = absurd s
  stop_says (outcomes.NotOffered error) y f s = refl
  stop_says outcomes.Fruitless y f s = absurd s
  stop_says (outcomes.Feed fault) y f s = refl
  stop_says outcomes.Memory y f s = refl
  stop_says outcomes.Limit y f s = refl

  pub stop_ends : (outcome : Outcome X) (n count : ℕ) (y : Filling F P) (f : F) → StopsFeed feed pause outcome y f →
      (outcome ≡ outcomes.Limit → 2 ^ 64 - 1 ≤ count) → EndsFilled feed pause most outcome n count y f
  stop_ends outcomes.Done n count y f s many = absurd s
  stop_ends (outcomes.Refused m v) n count y f s many = absurd s
  stop_ends (outcomes.Conflict m) n count y f s many = absurd s
  stop_ends (outcomes.TooFar m) n count y f s many = absurd s
  stop_ends (outcomes.NotOffered error) n count y f s many = s
  stop_ends outcomes.Fruitless n count y f s many = absurd s
  stop_ends (outcomes.Feed fault) n count y f s many = s
  stop_ends outcomes.Memory n count y f s many = tt
  stop_ends outcomes.Limit n count y f s many = (many refl, s)

  -- ---- before a link

  pub prep_refused : (outcome : Outcome X) (n : ℕ) (x : Filling F P) (supply : Supply) (f : F) (p : P) →
      IsFilling x supply f p → RefusedBy (Some outcome) x.sender →
      Prepares feed pause most (Err outcome) n x supply f p
  prep_refused (outcomes.Refused m v) n x supply f p is r = record {
    events = [];
    after = x;
    went = refl;
    by = (
      is.sender,
      is.pause,
      (r.0, r.1, is.feed),
      λ other. rightly_of {X = X} (outcomes.Refused m v) _ refl (sym (refused_undone x.sender x.is_ended _ r.0 r.1)),
    );
  }
  prep_refused outcomes.Done n x supply f p is r = absurd r
  prep_refused (outcomes.Conflict m) n x supply f p is r = absurd r
  prep_refused (outcomes.TooFar m) n x supply f p is r = absurd r
  prep_refused (outcomes.NotOffered error) n x supply f p is r = absurd r
  prep_refused outcomes.Fruitless n x supply f p is r = absurd r
  prep_refused (outcomes.Feed fault) n x supply f p is r = absurd r
  prep_refused outcomes.Memory n x supply f p is r = absurd r
  prep_refused outcomes.Limit n x supply f p is r = absurd r

  -- the window was filled, and nothing else was done
  as_filled : (filled result : Result (Unit {0}) (Outcome X)) (n : ℕ) (x : Filling F P) (supply : Supply) (f : F) (p : P)
      (u : FillsUp feed pause filled x supply f p) →
      PreparedBy feed pause most result n (length u.events) u.after supply f p →
      Prepares feed pause most result n x supply f p
  as_filled filled result n x supply f p u by = record { events = u.events; after = u.after; went = u.went; by = by }

  pub prep_stopped : (outcome : Outcome X) (n : ℕ) (x : Filling F P) (supply : Supply) (f : F) (p : P) →
      FillsUp feed pause (Err outcome) x supply f p → Prepares feed pause most (Err outcome) n x supply f p
  prep_stopped outcome n x supply f p u = as_filled (Err outcome) (Err outcome) n x supply f p u (
    u.by.0,
    u.by.2,
    stop_ends outcome n (length u.events) u.after f u.by.3 u.by.4,
    λ other. rightly_of outcome _ (stop_names outcome u.after f u.by.3)
        (stop_says outcome u.after f u.by.3 ∙ sym (undone_open u.after.sender u.after.is_ended u.by.1)),
  )

  pub prep_done : (n : ℕ) (x : Filling F P) (supply : Supply) (f : F) (p : P) →
      (u : FillsUp feed pause (Ok tt) x supply f p) → is_done u.after.sender u.after.is_ended ≡ true →
      Prepares feed pause most (Err outcomes.Done) n x supply f p
  prep_done n x supply f p u done = as_filled (Ok tt) (Err outcomes.Done) n x supply f p u (
    u.by.0.sender,
    u.by.0.pause,
    u.by.0.feed,
    λ other. rightly_of {X = X} outcomes.Done _ refl (sym done),
  )

  pub prep_spent : (n : ℕ) (x : Filling F P) (supply : Supply) (f : F) (p : P) →
      (u : FillsUp feed pause (Ok tt) x supply f p) → is_done u.after.sender u.after.is_ended ≡ false →
      is_spent most n ≡ true → Prepares feed pause most (Err outcomes.Fruitless) n x supply f p
  prep_spent n x supply f p u undone spent = as_filled (Ok tt) (Err outcomes.Fruitless) n x supply f p u (
    u.by.0.sender,
    u.by.0.pause,
    (spent, u.by.0.feed),
    λ other. rightly_of {X = X} outcomes.Fruitless _ refl (sym undone),
  )

  pub prep_ready : (n : ℕ) (x : Filling F P) (supply : Supply) (f : F) (p : P) →
      (u : FillsUp feed pause (Ok tt) x supply f p) → length (refused x.sender) ≡ 0 →
      is_done u.after.sender u.after.is_ended ≡ false → is_spent most n ≡ false →
      Prepares feed pause most (Ok tt) n x supply f p
  prep_ready n x supply f p u welcome undone left =
      let none : length (refused u.after.sender) ≡ 0 =
      ap (λ (vs : List (Option Verdict)). length (refused_from 0 vs)) u.verdicts ∙ welcome in
      as_filled (Ok tt) (Ok tt) n x supply f p u
      (u.by.0, still_some u.after.sender u.after.is_ended undone none u.by.1, none, left)

module _ {F P D R W X : Type 0} (feed : FeedGhosts F X) (pause : PauseGhosts P) (dial : DialGhosts D R W)
    (reader : Reader R) (writer : Writer W) (most : Option ℕ) where
  abbrev Leads : List UploadEvent → Course F P D R W → Course F P D R W → Type 0
  Leads es x y = Chain (CourseStep feed pause dial reader writer most) es x y

  -- ---- one link

  dialled : {x : Course F P D R W} {supply : Supply} {f : F} {p : P} {d : D} (d' : D) (made : Result (Duplex R W) DialFault) →
      DialsNext feed pause dial reader writer most x supply f p d → dial.dials d made d' → dial.dials x.dial made d'
  dialled d' made n called = subst (λ (z : D). dial.dials z made d') (sym n.dial_is) called

  pub link_missed : (fault : DialFault) (x : Course F P D R W) (supply : Supply) (f : F) (p : P) (d d' : D) →
      DialsNext feed pause dial reader writer most x supply f p d → dial.dials d (Err fault) d' →
      LinkAsked feed pause dial reader writer most (Ok tt) x supply f p d'
  link_missed fault x supply f p d d' n called =
      let y : Course F P D R W = record x {
        filling = record x.filling { pause = p };
        dial = d';
        dials = suc x.dials;
        fruitless = suc x.fruitless;
      } in
      record {
        events = Misses ∷ [];
        after = y;
        went = (
          y,
          record { may = n.may; waits = n.waits; fault = fault; called = dialled d' (Err fault) n called; is = refl },
          refl,
        );
        by = (
          record {
            filling = n.filling;
            free = n.may.free;
            dial_is = refl;
            dials = refl;
            fruitless = sym (ap (λ (b : Bool). if b then 0 else suc x.fruitless) (lt_self (settled x.filling.sender)));
          },
          omega arith,
          refl,
        );
      }

  abbrev pub made_course : Course F P D R W → P → D → Duplex R W → Course F P D R W
  made_course x p d' link = record x {
    filling = record x.filling { pause = p };
    dial = d';
    dials = suc x.dials;
    line = Some (new_line link.reader link.writer);
    before = settled x.filling.sender;
  }

  pub link_begins : (x : Course F P D R W) (supply : Supply) (f : F) (p : P) (d d' : D) (link : Duplex R W) →
      DialsNext feed pause dial reader writer most x supply f p d →
      BeginsVisit (made_course x p d' link) supply f p link
  link_begins x supply f p d d' link n = record { filling = n.filling; line = refl; some = n.may.some }

  made : (x : Course F P D R W) (supply : Supply) (f : F) (p : P) (d d' : D) (link : Duplex R W)
      (es : List UploadEvent) (y : Course F P D R W) → DialsNext feed pause dial reader writer most x supply f p d →
      dial.dials d (Ok link) d' → Leads es (made_course x p d' link) y → Leads (Makes ∷ es) x y
  made x supply f p d d' link es y n called went = (
    made_course x p d' link,
    record { may = n.may; waits = n.waits; link = link; called = dialled d' (Ok link) n called; is = refl },
    went,
  )

  stop_ends_upload : (outcome : Outcome X) (events : List UploadEvent) (y : Course F P D R W) (f : F) →
      StopsFeed feed pause outcome y.filling f → (outcome ≡ outcomes.Limit → 2 ^ 64 - 1 ≤ length events) →
      EndsUpload feed pause dial reader writer most outcome events y f
  stop_ends_upload outcomes.Done events y f s many = absurd s
  stop_ends_upload (outcomes.Refused n v) events y f s many = absurd s
  stop_ends_upload (outcomes.Conflict n) events y f s many = absurd s
  stop_ends_upload (outcomes.TooFar n) events y f s many = absurd s
  stop_ends_upload (outcomes.NotOffered error) events y f s many = s
  stop_ends_upload outcomes.Fruitless events y f s many = absurd s
  stop_ends_upload (outcomes.Feed fault) events y f s many = s
  stop_ends_upload outcomes.Memory events y f s many = tt
  stop_ends_upload outcomes.Limit events y f s many = (many refl, s)

  pub link_stopped : (outcome : Outcome X) (x : Course F P D R W) (supply supply' : Supply) (f f' : F) (p p' : P)
      (d d' : D) (link : Duplex R W) → DialsNext feed pause dial reader writer most x supply f p d →
      dial.dials d (Ok link) d' →
      Visits feed pause dial reader writer most (Err outcome) (made_course x p d' link) supply' f' p' →
      LinkAsked feed pause dial reader writer most (Err outcome) x supply' f' p' d'
  link_stopped outcome x supply supply' f f' p p' d d' link n called v = record {
    events = Makes ∷ v.events;
    after = v.after;
    went = made x supply f p d d' link v.events v.after n called v.went;
    by = record {
      sender_is = v.by.sender_is;
      paused = v.by.paused;
      dial_is = v.kept.dial;
      ends = stop_ends_upload outcome (Makes ∷ v.events) v.after f' v.by.stops
          (λ e. let many = v.by.many e in omega (arith, many));
      rightly = λ other. rightly_of outcome _ (stop_names feed pause most outcome v.after.filling f' v.by.stops)
          (stop_says feed pause most outcome v.after.filling f' v.by.stops ∙ sym (v.by.undone other));
      finals = v.by.finals ∙ sym (stop_names feed pause most outcome v.after.filling f' v.by.stops);
    };
  }

  link_on : (end : LinkEnd) (x : Course F P D R W) (supply supply' : Supply) (f f' : F) (p p' : P)
      (d d' : D) (link : Duplex R W) → DialsNext feed pause dial reader writer most x supply f p d →
      dial.dials d (Ok link) d' →
      final_stop end ≡ [] → Visits feed pause dial reader writer most (Ok end) (made_course x p d' link) supply' f' p' →
      LinkAsked feed pause dial reader writer most (Ok tt) x supply' f' p' d'
  link_on end x supply supply' f f' p p' d d' link n called none v = record {
    events = Makes ∷ v.events;
    after = v.after;
    went = made x supply f p d d' link v.events v.after n called v.went;
    by = (
      record {
        filling = v.by.filling;
        free = v.by.free;
        dial_is = v.kept.dial;
        dials = v.kept.dials;
        fruitless = v.by.fruitless;
      },
      omega arith,
      v.by.finals ∙ none,
    );
  }

  stopped_for : (outcome : Outcome X) (stop : Stop) (x : Course F P D R W) (supply supply' : Supply) (f f' : F) (p p' : P)
      (d d' : D) (link : Duplex R W) → DialsNext feed pause dial reader writer most x supply f p d →
      dial.dials d (Ok link) d' → says_done outcome ≡ false → named_stop outcome ≡ stop ∷ [] →
      final_stop (ends.Stopped stop) ≡ stop ∷ [] →
      (v : Visits feed pause dial reader writer most (Ok (ends.Stopped stop)) (made_course x p d' link) supply' f' p') →
      EndsUpload feed pause dial reader writer most outcome (Makes ∷ v.events) v.after f' →
      LinkAsked feed pause dial reader writer most (Err outcome) x supply' f' p' d'
  stopped_for outcome stop x supply supply' f f' p p' d d' link n called says named final v ends =
      let done : Bool = is_done v.after.filling.sender v.after.filling.is_ended in
      record {
        events = Makes ∷ v.events;
        after = v.after;
        went = made x supply f p d d' link v.events v.after n called v.went;
        by = record {
          sender_is = v.by.filling.sender;
          paused = v.by.filling.pause;
          dial_is = v.kept.dial;
          ends = ends;
          rightly = λ other. says ∙ sym (and-false done) ∙ sym (ap (λ (l : List Stop). done && (length l == 0)) named);
          finals = v.by.finals ∙ final ∙ sym named;
        };
      }

  pub link_ended : (end : LinkEnd) (x : Course F P D R W) (supply supply' : Supply) (f f' : F) (p p' : P)
      (d d' : D) (link : Duplex R W) → DialsNext feed pause dial reader writer most x supply f p d →
      dial.dials d (Ok link) d' →
      (v : Visits feed pause dial reader writer most (Ok end) (made_course x p d' link) supply' f' p') →
      LinkAsked feed pause dial reader writer most (end_of_link end) x supply' f' p' d'
  link_ended (ends.Stopped (stops.Conflict m)) x supply supply' f f' p p' d d' link n called v =
      stopped_for (outcomes.Conflict m) (stops.Conflict m) x supply supply' f f' p p' d d' link n called refl refl refl v
      ((Makes ∷ v.by.last.0, ap (λ (es : List UploadEvent). Makes ∷ es) v.by.last.1), v.by.filling.feed)
  link_ended (ends.Stopped (stops.TooFar m)) x supply supply' f f' p p' d d' link n called v =
      stopped_for (outcomes.TooFar m) (stops.TooFar m) x supply supply' f f' p p' d d' link n called refl refl refl v
      ((Makes ∷ v.by.last.0, ap (λ (es : List UploadEvent). Makes ∷ es) v.by.last.1), v.by.filling.feed)
  link_ended (ends.Stopped stops.TableFull) x supply supply' f f' p p' d d' link n called v =
      link_on (ends.Stopped stops.TableFull) x supply supply' f f' p p' d d' link n called refl v
  link_ended (ends.Stopped stops.NoRoom) x supply supply' f f' p p' d d' link n called v =
      link_on (ends.Stopped stops.NoRoom) x supply supply' f f' p p' d d' link n called refl v
  link_ended (ends.Stopped stops.DelayedStore) x supply supply' f f' p p' d d' link n called v =
      link_on (ends.Stopped stops.DelayedStore) x supply supply' f f' p p' d d' link n called refl v
  link_ended (ends.Stopped stops.BadFrame) x supply supply' f f' p p' d d' link n called v =
      link_on (ends.Stopped stops.BadFrame) x supply supply' f f' p p' d d' link n called refl v
  link_ended ends.Ended x supply supply' f f' p p' d d' link n called v =
      link_on ends.Ended x supply supply' f f' p p' d d' link n called refl v
  link_ended (ends.Broken fault) x supply supply' f f' p p' d d' link n called v =
      link_on (ends.Broken fault) x supply supply' f f' p p' d d' link n called refl v
  link_ended ends.Refused x supply supply' f f' p p' d d' link n called v =
      link_on ends.Refused x supply supply' f f' p p' d d' link n called refl v
  link_ended ends.Done x supply supply' f f' p p' d d' link n called v =
      link_on ends.Done x supply supply' f f' p p' d d' link n called refl v

  -- ---- link after link

  pub record LinksSoFar (links fruitless : ℕ) (s : Defined) (f0 : F) (p0 : P) (d0 : D) (supply : Supply) (f : F) (p : P)
      (d : D) : Type 0 where
    pub events : List UploadEvent
    pub after : Course F P D R W
    pub went : Leads events (starts s f0 p0 d0) after
    pub filling : IsFilling after.filling supply f p
    pub free : after.line ≡ None
    pub dial_is : after.dial ≡ d
    pub dials : after.dials ≡ links
    pub count : fruitless ≡ after.fruitless
    pub few : fruitless ≤ links
    pub many : links ≤ length events
    pub finals : final_stops events ≡ []

  pub links_none : (s : Defined) (supply : Supply) (f : F) (p : P) (d : D) → IsSender s supply.sender →
      supply.is_ended ≡ false → LinksSoFar 0 0 s f p d supply f p d
  links_none s supply f p d is unended = record {
    events = [];
    after = starts s f p d;
    went = refl;
    filling = record { sender = is; ended = unended; feed = refl; pause = refl };
    free = refl;
    dial_is = refl;
    dials = refl;
    count = refl;
    few = omega arith;
    many = omega arith;
    finals = refl;
  }

  -- the window is filled
  prepared : (s : Defined) (f0 : F) (p0 : P) (d0 : D) (a : List UploadEvent) (x : Course F P D R W)
      (es : List FillEvent) (y : Filling F P) → Leads a (starts s f0 p0 d0) x →
      Chain (FillStep feed pause) es x.filling y → Leads (a ++ map Fills es) (starts s f0 p0 d0) (with_filling x y)
  prepared s f0 p0 d0 a x es y went fill =
      chain_on (CourseStep feed pause dial reader writer most) a (map Fills es) (starts s f0 p0 d0) x
      (with_filling x y) went (lift_fill feed pause dial reader writer most es x y fill)

  ends_up : (outcome : Outcome X) (n count : ℕ) (events : List UploadEvent) (x : Course F P D R W) (f : F) →
      EndsFilled feed pause most outcome n count x.filling f → n ≡ x.fruitless → count ≤ length events →
      EndsUpload feed pause dial reader writer most outcome events x f
  ends_up outcomes.Done n count events x f e same le = e
  ends_up (outcomes.Refused m v) n count events x f e same le = e
  ends_up (outcomes.Conflict m) n count events x f e same le = absurd e
  ends_up (outcomes.TooFar m) n count events x f e same le = absurd e
  ends_up (outcomes.NotOffered error) n count events x f e same le = e
  ends_up outcomes.Fruitless n count events x f e same le =
      (subst (λ (m : ℕ). is_spent most m ≡ true) same e.0, e.1)
  ends_up (outcomes.Feed fault) n count events x f e same le = e
  ends_up outcomes.Memory n count events x f e same le = tt
  ends_up outcomes.Limit n count events x f e same le = (omega (arith, e.0, le), e.1)

  pub links_unprepared : (outcome : Outcome X) (links n : ℕ) (s : Defined) (f0 : F) (p0 : P) (d0 : D)
      (supply supply' : Supply) (f f' : F) (p p' : P) (d : D) →
      (so : LinksSoFar links n s f0 p0 d0 supply f p d) →
      Prepares feed pause most (Err outcome) n so.after.filling supply' f' p' →
      Uploads feed pause dial reader writer most s supply'.sender outcome f0 f' p0 p' d0 d
  links_unprepared outcome links n s f0 p0 d0 supply supply' f f' p p' d so q =
      let len = length-append so.events (map Fills q.events) in
      let fills = fills_len q.events in
      record {
        events = so.events ++ map Fills q.events;
        last = with_filling so.after q.after;
        went = prepared s f0 p0 d0 so.events so.after q.events q.after so.went q.went;
        sender_is = q.by.0;
        paused = q.by.1;
        dial_is = so.dial_is;
        ends = ends_up outcome n (length q.events) (so.events ++ map Fills q.events) (with_filling so.after q.after) f'
            q.by.2 so.count (omega (arith, len, fills));
        rightly = q.by.3;
        finals = finals_on so.events (map Fills q.events) [] so.finals (fills_finals q.events)
            ∙ sym (filled_names feed pause most outcome n (length q.events) q.after f' q.by.2);
        feeds = λ requests left. feeds_so feed pause dial reader writer most (so.events ++ map Fills q.events) s requests
            f0 p0 d0 (with_filling so.after q.after) outcome
            (prepared s f0 p0 d0 so.events so.after q.events q.after so.went q.went) q.by.3 left;
      }

  pub links_ready : (links n : ℕ) (s : Defined) (f0 : F) (p0 : P) (d0 : D) (supply supply' : Supply) (f f' : F)
      (p p' p'' : P) (d : D) → (so : LinksSoFar links n s f0 p0 d0 supply f p d) →
      (q : Prepares feed pause most (Ok tt) n so.after.filling supply' f' p') → WaitsBefore pause links n p' p'' →
      DialsNext feed pause dial reader writer most (with_filling so.after q.after) supply' f' p'' d
  links_ready links n s f0 p0 d0 supply supply' f f' p p' p'' d so q waits = record {
    filling = record {
      sender = q.by.0.sender;
      ended = q.by.0.ended;
      feed = q.by.0.feed;
      pause = refl;
    };
    waits = due waits;
    may = record {
      free = so.free;
      some = q.by.1;
      welcome = q.by.2;
      left = subst (λ (m : ℕ). is_spent most m ≡ false) so.count q.by.3;
    };
    dial_is = so.dial_is;
  }
    where
      due : WaitsBefore pause links n p' p'' →
          ((so.after.dials ≡ 0) × (p'' ≡ q.after.pause))
          ⊎ ((1 ≤ so.after.dials) × pause.waits q.after.pause (backoff so.after.fruitless) p'')
      due (inl first) = inl (so.dials ∙ first.0, first.1 ∙ sym q.by.0.pause)
      due (inr later) = inr (
        subst (λ (m : ℕ). 1 ≤ m) (sym so.dials) later.0,
        subst (λ (z : P). pause.waits z (backoff so.after.fruitless) p'') (sym q.by.0.pause)
            (subst (λ (m : ℕ). pause.waits p' (backoff m) p'') so.count later.1),
      )

  more_events : (outcome : Outcome X) (a es : List UploadEvent) (y : Course F P D R W) (f : F) →
      EndsUpload feed pause dial reader writer most outcome es y f →
      EndsUpload feed pause dial reader writer most outcome (a ++ es) y f
  more_events outcomes.Done a es y f e = e
  more_events (outcomes.Refused m v) a es y f e = e
  more_events (outcomes.Conflict m) a es y f e = (
    (
      a ++ e.0.0,
      ap (λ (z : List UploadEvent). a ++ z) e.0.1
          ∙ sym (append_assoc a e.0.0 (Leaves (ends.Stopped (stops.Conflict m)) ∷ [])),
    ),
    e.1,
  )
  more_events (outcomes.TooFar m) a es y f e = (
    (
      a ++ e.0.0,
      ap (λ (z : List UploadEvent). a ++ z) e.0.1
          ∙ sym (append_assoc a e.0.0 (Leaves (ends.Stopped (stops.TooFar m)) ∷ [])),
    ),
    e.1,
  )
  more_events (outcomes.NotOffered error) a es y f e = e
  more_events outcomes.Fruitless a es y f e = e
  more_events (outcomes.Feed fault) a es y f e = e
  more_events outcomes.Memory a es y f e = tt
  more_events outcomes.Limit a es y f e = let len = length-append a es in (omega (arith, len, e.0), e.1)

  pub links_stopped : (outcome : Outcome X) (links n : ℕ) (s : Defined) (f0 : F) (p0 : P) (d0 : D)
      (supply supply' supply'' : Supply) (f f' f'' : F) (p p' p'' : P) (d d' : D) →
      (so : LinksSoFar links n s f0 p0 d0 supply f p d) →
      (q : Prepares feed pause most (Ok tt) n so.after.filling supply' f' p') →
      LinkAsked feed pause dial reader writer most (Err outcome) (with_filling so.after q.after) supply'' f'' p'' d' →
      Uploads feed pause dial reader writer most s supply''.sender outcome f0 f'' p0 p'' d0 d'
  links_stopped outcome links n s f0 p0 d0 supply supply' supply'' f f' f'' p p' p'' d d' so q m = record {
    events = (so.events ++ map Fills q.events) ++ m.events;
    last = m.after;
    went = chain_on (CourseStep feed pause dial reader writer most) (so.events ++ map Fills q.events) m.events
        (starts s f0 p0 d0) (with_filling so.after q.after) m.after
        (prepared s f0 p0 d0 so.events so.after q.events q.after so.went q.went) m.went;
    sender_is = m.by.sender_is;
    paused = m.by.paused;
    dial_is = m.by.dial_is;
    ends = more_events outcome (so.events ++ map Fills q.events) m.events m.after f'' m.by.ends;
    rightly = m.by.rightly;
    finals = finals_on (so.events ++ map Fills q.events) m.events (named_stop outcome)
        (finals_on so.events (map Fills q.events) [] so.finals (fills_finals q.events)) m.by.finals;
    feeds = λ requests left. feeds_so feed pause dial reader writer most
        ((so.events ++ map Fills q.events) ++ m.events) s requests f0 p0 d0 m.after outcome
        (chain_on (CourseStep feed pause dial reader writer most) (so.events ++ map Fills q.events) m.events
        (starts s f0 p0 d0) (with_filling so.after q.after) m.after
        (prepared s f0 p0 d0 so.events so.after q.events q.after so.went q.went) m.went) m.by.rightly left;
  }

  pub few_more : (a b n links : ℕ) → n ≤ links → (if nat_lt a b then 0 else suc n) ≤ links + 1
  few_more a b n links le = go (nat_lt a b)
    where
      go : (c : Bool) → (if c then 0 else suc n) ≤ links + 1
      go true = omega arith
      go false = omega (arith, le)

  pub links_more : (links n before now m : ℕ) (s : Defined) (f0 : F) (p0 : P) (d0 : D)
      (supply supply' supply'' : Supply) (f f' f'' : F) (p p' p'' : P) (d d' : D) →
      (so : LinksSoFar links n s f0 p0 d0 supply f p d) →
      (q : Prepares feed pause most (Ok tt) n so.after.filling supply' f' p') →
      (k : LinkAsked feed pause dial reader writer most (Ok tt) (with_filling so.after q.after) supply'' f'' p'' d') →
      before ≡ settled q.after.sender → now ≡ settled k.after.filling.sender → m ≡ fruitless_after before now n →
      LinksSoFar (links + 1) m s f0 p0 d0 supply'' f'' p'' d'
  links_more links n before now m s f0 p0 d0 supply supply' supply'' f f' f'' p p' p'' d d' so q k b w same =
      let len = length-append (so.events ++ map Fills q.events) k.events in
      let first = length-append so.events (map Fills q.events) in
      record {
        events = (so.events ++ map Fills q.events) ++ k.events;
        after = k.after;
        went = chain_on (CourseStep feed pause dial reader writer most) (so.events ++ map Fills q.events) k.events
            (starts s f0 p0 d0) (with_filling so.after q.after) k.after
            (prepared s f0 p0 d0 so.events so.after q.events q.after so.went q.went) k.went;
        filling = k.by.0.filling;
        free = k.by.0.free;
        dial_is = k.by.0.dial_is;
        dials = k.by.0.dials ∙ ap suc so.dials ∙ (let e : suc links ≡ links + 1 = omega arith in e);
        count = same ∙ ap (λ (z : ℕ). fruitless_after z now n) b
            ∙ ap (λ (z : ℕ). fruitless_after (settled q.after.sender) z n) w
            ∙ ap (fruitless_after (settled q.after.sender) (settled k.after.filling.sender)) so.count
            ∙ sym k.by.0.fruitless;
        few = subst (λ (z : ℕ). z ≤ links + 1) (sym same) (few_more before now n links so.few);
        many = omega (arith, len, first, so.many, k.by.1);
        finals = finals_on (so.events ++ map Fills q.events) k.events []
            (finals_on so.events (map Fills q.events) [] so.finals (fills_finals q.events)) k.by.2;
      }

  pub links_over : (outcome : Outcome X) (links n : ℕ) (s : Defined) (f0 : F) (p0 : P) (d0 : D) (supply : Supply) (f : F)
      (p : P) (d : D) → (so : LinksSoFar links n s f0 p0 d0 supply f p d) →
      says_done outcome ≡ is_done so.after.filling.sender so.after.filling.is_ended → named_stop outcome ≡ [] →
      EndsUpload feed pause dial reader writer most outcome so.events so.after f →
      Uploads feed pause dial reader writer most s supply.sender outcome f0 f p0 p d0 d
  links_over outcome links n s f0 p0 d0 supply f p d so says none ends = record {
    events = so.events;
    last = so.after;
    went = so.went;
    sender_is = so.filling.sender;
    paused = so.filling.pause;
    dial_is = so.dial_is;
    ends = ends;
    rightly = λ other. rightly_of outcome _ none says;
    finals = so.finals ∙ sym none;
    feeds = λ requests left. feeds_so feed pause dial reader writer most so.events s requests f0 p0 d0 so.after outcome
        so.went (λ other. rightly_of outcome _ none says) left;
  }

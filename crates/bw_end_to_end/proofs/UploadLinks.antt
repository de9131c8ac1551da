-- What an upload writes and hears.
use mathlib.Core.Logic.{inl, inr}
use Rattle.std.proofs.Common.{◌≡◌, ℕ, suc, zero, ◌⊎◌, List, [], ◌∷◌, ◌++◌}
use Rattle.std.proofs.Common.{Option, Some, None, refl, sym, ◌∙◌, ap, subst, arith, append_assoc}
use Rattle.std.specs.List.{Contains}
use Rattle.std.proofs.lemmas.List.Elements.{Contains-append_left, Contains-append_right, Contains-append_cases}
use Rattle.bw_model.specs.Bytes.{at}
use Rattle.bw_model.specs.Take.{Request, Verdict}
use Rattle.bw_model.specs.Replies.{Reply, Judged}
use Rattle.bw_model.specs.World.{Sender}
use Rattle.bw_stream.specs.declared.sink.Sink.{Ghosts as Writer}
use Rattle.bw_stream.specs.declared.source.Source.{Ghosts as Reader}
use Rattle.bw_sender.specs.Hears.{hear_all}
use Rattle.bw_ports.specs.declared.dial.Dial.{Ghosts as DialGhosts}
use Rattle.bw_ports.specs.declared.dial.Duplex.{Duplex}
use Rattle.bw_ports.specs.declared.pause.Pause.{Ghosts as PauseGhosts}
use Rattle.bw_sender.specs.Senders.{new_sender}
use Rattle.bw_upload.specs.Chains.{Chain}
use Rattle.bw_upload.specs.Conversations.{Conversing, Line, TalkEvent, TalkStep, Says, Breaks, Hears, LeavesBy, new_line}
use Rattle.bw_upload.specs.Courses.{Course, CourseStep, UploadEvent, Fills, Misses, Makes, Talks, Leaves}
use Rattle.bw_upload.specs.declared.feed.Feed.{Ghosts as FeedGhosts}
use Rattle.bw_upload.specs.declared.observer.LinkEnd.{LinkEnd}
use Rattle.bw_upload.specs.declared.observer.LinkEnd.TheVariants as ends
use Rattle.bw_delivery.specs.Deliveries.{HeardOverLinks}
use Rattle.bw_delivery.specs.Statement.{LinkBytes, WroteRequests}
use Rattle.bw_end_to_end.specs.UsedLinks.{UsedLink, AreSenderEnds, PendingHaveNumbers}
use Rattle.bw_end_to_end.specs.UploadedLinks.{used_link, open_link, writer_left, links_in_course, UploadsSendOn}
use Rattle.bw_end_to_end.specs.UploadedLinks.{UploadsSendRequests}
use Rattle.bw_end_to_end.proofs.SaidRequests.{IsOffered, AreSpelled, only_now}
use Rattle.bw_end_to_end.proofs.RoundLinks.{heard_all}
use Rattle.bw_end_to_end.proofs.CourseSteps.{fill_offers, course_offers}
use Rattle.bw_end_to_end.proofs.UsedLines.{IsUsedFrom, Took, used_new, used_says, used_breaks, used_hears}
use Rattle.bw_end_to_end.proofs.UsedLines.{took_so_far, took_bye, end_says, end_hears}

-- the replies that were heard over a link, if there is one
abbrev pub heard_over_line : {R W : Type 0} → Option (Line R W) → List Reply
heard_over_line None = []
heard_over_line (Some l) = l.heard

-- what a course writes and hears, over these links; this was heard over the first of them already
record CourseSends (name : List ℕ) (requests : List Request) (before : List (Option Verdict)) (heard_now : List Reply)
    (after : List (Option Verdict)) (links : List (ℕ × LinkBytes)) : Type 0 where
  says : (n : ℕ) (l : LinkBytes) → Contains links (n, l) → WroteRequests name requests l.said
  heard : (n : ℕ) (v : Verdict) → at after n ≡ Some v → (at before n ≡ Some v) ⊎ HeardOverLinks links name n v
  current : (n : ℕ) (v : Verdict) → Contains heard_now (Judged name n v) → HeardOverLinks links name n v

nothing_in : {X : Type 0} {x : X} → Contains [] x → ⊥
nothing_in (k, below, e) = omega arith

module _ {F P D R W X : Type 0} (feed : FeedGhosts F X) (pause : PauseGhosts P)
    (dial : DialGhosts D R W) (reader : Reader R) (writer : Writer W) (most : Option ℕ)
    (name : List ℕ) (requests : List Request) where
  -- a link that was made is the one that is used
  abbrev IsOpen : Option (Duplex R W) → Option (Line R W) → Type 0
  IsOpen None None = Unit {0}
  IsOpen None (Some l) = ⊥
  IsOpen (Some made) None = ⊥
  IsOpen (Some made) (Some l) = IsUsedFrom reader writer name requests made l

  -- a link that ends here, and others
  emit : (made : Duplex R W) (line : Line R W) (w : W) (us : List (UsedLink R W)) (vs after : List (Option Verdict))
      (links : List (ℕ × LinkBytes)) → IsUsedFrom reader writer name requests made line →
      Took reader writer name requests made w → AreSenderEnds reader writer (used_link (Some made) w ++ us) links →
      ((more : List (ℕ × LinkBytes)) → AreSenderEnds reader writer us more →
      CourseSends name requests vs [] after more) → CourseSends name requests vs line.heard after links
  emit made line w us vs after [] used took ends rec = absurd ends
  emit made line w us vs after (l ∷ ls) used took ends rec =
      let more = rec ls ends.1 in
      record {
        says = λ n m has. by_place more.says n m (Contains-append_cases (l ∷ []) ls (n, m) has);
        heard = λ n v e. later n v (more.heard n v e);
        current = λ n v has. (
          l.0,
          l.1,
          (0, omega arith, refl),
          end_hears reader writer name requests made line w l.1 used ends.0 n v has,
        );
      }
    where
      by_place : ((n : ℕ) (m : LinkBytes) → Contains ls (n, m) → WroteRequests name requests m.said) →
          (n : ℕ) (m : LinkBytes) → Contains (l ∷ []) (n, m) ⊎ Contains ls (n, m) → WroteRequests name requests m.said
      by_place rest_says n m (inl (zero, below, f)) =
          subst (λ (z : ℕ × LinkBytes). WroteRequests name requests z.1.said) f
          (end_says reader writer name requests made w l.1 took ends.0)
      by_place rest_says n m (inl (suc k, below, f)) = absurd (omega arith)
      by_place rest_says n m (inr k) = rest_says n m k

      later : (n : ℕ) (v : Verdict) → (at vs n ≡ Some v) ⊎ HeardOverLinks ls name n v →
          (at vs n ≡ Some v) ⊎ HeardOverLinks (l ∷ ls) name n v
      later n v (inl k) = inl k
      later n v (inr (k, m, has, hears)) = inr (k, m, Contains-append_right (l ∷ []) ls (k, m) has, hears)

  -- no more links
  no_links : (vs : List (Option Verdict)) (links : List (ℕ × LinkBytes)) → AreSenderEnds reader writer [] links →
      CourseSends name requests vs [] vs links
  no_links vs [] ends = record {
    says = λ n l has. absurd (nothing_in has);
    heard = λ n v e. inl e;
    current = λ n v has. absurd (nothing_in has);
  }
  no_links vs (l ∷ ls) ends = absurd ends

  -- where a course ends
  course_ends : (made : Option (Duplex R W)) (line : Option (Line R W)) (vs : List (Option Verdict))
      (links : List (ℕ × LinkBytes)) → IsOpen made line → AreSenderEnds reader writer (open_link made line) links →
      CourseSends name requests vs (heard_over_line line) vs links
  course_ends None None vs links is ends = no_links vs links ends
  course_ends None (Some l) vs links is ends = absurd is
  course_ends (Some made) None vs links is ends = absurd is
  course_ends (Some made) (Some l) vs links is ends = emit made l l.writer [] vs vs links is
      (took_so_far reader writer name requests made l is) ends (λ more e. no_links vs more e)

  -- the writer of a link that is left
  took_left : (end : LinkEnd) (x : Conversing R W) (why : LeavesBy reader writer end x) (made : Duplex R W) →
      IsUsedFrom reader writer name requests made x.line →
      Took reader writer name requests made (writer_left reader writer end x why)
  took_left ends.Done x why made used = took_bye reader writer name requests made x.line why.1 why.0 why.2 used
  took_left ends.Ended x why made used = took_so_far reader writer name requests made x.line used
  took_left (ends.Broken fault) x why made used = took_so_far reader writer name requests made x.line used
  took_left (ends.Stopped stop) x why made used = took_so_far reader writer name requests made x.line used
  took_left ends.Refused x why made used = took_so_far reader writer name requests made x.line used

  -- where a link is left
  course_leaves : (end : LinkEnd) (x : Conversing R W) (why : LeavesBy reader writer end x) (made : Option (Duplex R W))
      (us : List (UsedLink R W)) (vs after : List (Option Verdict)) (links : List (ℕ × LinkBytes)) →
      IsOpen made (Some x.line) →
      AreSenderEnds reader writer (used_link made (writer_left reader writer end x why) ++ us) links →
      ((more : List (ℕ × LinkBytes)) → AreSenderEnds reader writer us more → CourseSends name requests vs [] after more) →
      CourseSends name requests vs x.line.heard after links
  course_leaves end x why None us vs after links is ends rec = absurd is
  course_leaves end x why (Some made) us vs after links is ends rec =
      emit made x.line (writer_left reader writer end x why) us vs after links is (took_left end x why made is) ends rec

  -- a step over a link
  talked : (e : TalkEvent) (x y : Conversing R W) (rest : List Request) → TalkStep reader writer e x y →
      IsOffered name requests x.sender rest → AreSpelled name requests → (made : Option (Duplex R W)) →
      IsOpen made (Some x.line) → IsOpen made (Some y.line)
  talked e x y rest step h spelled None is = is
  talked Says x y rest step h spelled (Some made) is =
      used_says reader writer name requests made x y rest h spelled step is
  talked Breaks x y rest step h spelled (Some made) is =
      used_breaks reader writer name requests made x y rest h spelled step is
  talked (Hears heard) x y rest step h spelled (Some made) is =
      used_hears reader writer name requests made heard x y step is

  same_line : (vs ws after : List (Option Verdict)) (old new : Option (Line R W)) (links : List (ℕ × LinkBytes)) →
      new ≡ old → ws ≡ vs → CourseSends name requests ws (heard_over_line new) after links →
      CourseSends name requests vs (heard_over_line old) after links
  same_line vs ws after old new links e f h =
      subst (λ (z : Option (Line R W)). CourseSends name requests vs (heard_over_line z) after links) e
      (subst (λ (z : List (Option Verdict)). CourseSends name requests z (heard_over_line new) after links) f h)

  -- what a step over a link hears is heard over the first of the links
  talk_sends : (e : TalkEvent) (x y : Conversing R W) (after : List (Option Verdict)) (links : List (ℕ × LinkBytes)) →
      TalkStep reader writer e x y → x.sender.name ≡ name →
      CourseSends name requests y.sender.verdicts y.line.heard after links →
      CourseSends name requests x.sender.verdicts x.line.heard after links
  talk_sends Says x y after links step own h =
      subst (λ (z : Conversing R W). CourseSends name requests z.sender.verdicts z.line.heard after links) step.is h
  talk_sends Breaks x y after links step own h =
      subst (λ (z : Conversing R W). CourseSends name requests z.sender.verdicts z.line.heard after links) step.is h
  talk_sends (Hears heard) x y after links step own h =
      let k = subst (λ (z : Conversing R W). CourseSends name requests z.sender.verdicts z.line.heard after links) step.is h in
      record {
        says = k.says;
        heard = λ n v e. before k.current n v (k.heard n v e);
        current = λ n v has. k.current n v (Contains-append_left x.line.heard heard (Judged name n v) has);
      }
    where
      first : ((n : ℕ) (v : Verdict) → Contains (x.line.heard ++ heard) (Judged name n v) → HeardOverLinks links name n v) →
          (n : ℕ) (v : Verdict) → (at x.sender.verdicts n ≡ Some v) ⊎ Contains heard (Judged x.sender.name n v) →
          (at x.sender.verdicts n ≡ Some v) ⊎ HeardOverLinks links name n v
      first current n v (inl e) = inl e
      first current n v (inr has) = inr (current n v (Contains-append_right x.line.heard heard (Judged name n v)
          (subst (λ (z : List ℕ). Contains heard (Judged z n v)) own has)))

      before : ((n : ℕ) (v : Verdict) → Contains (x.line.heard ++ heard) (Judged name n v) → HeardOverLinks links name n v) →
          (n : ℕ) (v : Verdict) → (at (hear_all x.sender heard).verdicts n ≡ Some v) ⊎ HeardOverLinks links name n v →
          (at x.sender.verdicts n ≡ Some v) ⊎ HeardOverLinks links name n v
      before current n v (inl e) = first current n v (heard_all x.sender heard n v e)
      before current n v (inr k) = inr k

  -- A course.
  course_sends : (events : List UploadEvent) (x y : Course F P D R W)
      (went : Chain (CourseStep feed pause dial reader writer most) events x y) (made : Option (Duplex R W))
      (links : List (ℕ × LinkBytes)) (rest : List Request) → IsOpen made x.line → x.filling.sender.name ≡ name →
      PendingHaveNumbers x.filling.sender → y.filling.sender.offered ++ rest ≡ requests →
      AreSpelled name requests →
      AreSenderEnds reader writer (links_in_course feed pause dial reader writer most made events x y went) links →
      CourseSends name requests x.filling.sender.verdicts (heard_over_line x.line) y.filling.sender.verdicts links
  course_sends [] x y went made links rest is own numbered whole spelled ends =
      subst (λ (z : Course F P D R W). CourseSends name requests x.filling.sender.verdicts (heard_over_line x.line)
      z.filling.sender.verdicts links) (sym went)
      (course_ends made x.line x.filling.sender.verdicts links is ends)
  course_sends (Fills e ∷ events) x y went made links rest is own numbered whole spelled ends =
      let step = went.1 in
      let f = fill_offers feed pause dial reader writer most e x.filling went.0.filling step.step in
      let line : went.0.line ≡ x.line = ap (λ (z : Course F P D R W). z.line) step.is in
      same_line x.filling.sender.verdicts went.0.filling.sender.verdicts y.filling.sender.verdicts x.line went.0.line links
      line f.verdicts
      (course_sends events went.0 y went.2 made links rest (subst (IsOpen made) (sym line) is) (f.offers.name_is ∙ own)
      (f.offers.numbered numbered) whole spelled ends)
  course_sends (Misses ∷ events) x y went made links rest is own numbered whole spelled ends =
      let step = went.1 in
      let line : went.0.line ≡ x.line = ap (λ (z : Course F P D R W). z.line) step.is in
      let sender : went.0.filling.sender ≡ x.filling.sender = ap (λ (z : Course F P D R W). z.filling.sender) step.is in
      same_line x.filling.sender.verdicts went.0.filling.sender.verdicts y.filling.sender.verdicts x.line went.0.line links
      line (ap (λ (z : Sender). z.verdicts) sender)
      (course_sends events went.0 y went.2 made links rest (subst (IsOpen made) (sym line) is)
      (ap (λ (z : Sender). z.name) sender ∙ own)
      (subst PendingHaveNumbers (sym sender) numbered) whole spelled ends)
  course_sends (Makes ∷ events) x y went made links rest is own numbered whole spelled ends =
      let step = went.1 in
      let line : went.0.line ≡ Some (new_line step.link.reader step.link.writer) =
      ap (λ (z : Course F P D R W). z.line) step.is in
      let sender : went.0.filling.sender ≡ x.filling.sender = ap (λ (z : Course F P D R W). z.filling.sender) step.is in
      let h = course_sends events went.0 y went.2 (Some step.link) links rest
      (subst (IsOpen (Some step.link)) (sym line) (used_new reader writer name requests step.link))
      (ap (λ (z : Sender). z.name) sender ∙ own)
      (subst PendingHaveNumbers (sym sender) numbered) whole spelled ends in
      subst (λ (z : Option (Line R W)). CourseSends name requests x.filling.sender.verdicts (heard_over_line z)
      y.filling.sender.verdicts links) (sym step.may.free)
      (subst (λ (z : List (Option Verdict)). CourseSends name requests z [] y.filling.sender.verdicts links)
      (ap (λ (z : Sender). z.verdicts) sender)
      (subst (λ (z : Option (Line R W)). CourseSends name requests went.0.filling.sender.verdicts (heard_over_line z)
      y.filling.sender.verdicts links) line h))
  course_sends (Talks e ∷ events) x y went made links rest is own numbered whole spelled ends =
      let step = went.1 in
      let here : Conversing R W = record { sender = x.filling.sender; line = step.l } in
      let more = course_offers feed pause dial reader writer most (Talks e ∷ events) x y went in
      let h : IsOffered name requests x.filling.sender (more.more ++ rest) = record {
        name_is = own;
        whole = sym (append_assoc x.filling.sender.offered more.more rest)
            ∙ ap (λ (z : List Request). z ++ rest) more.offered ∙ whole;
        numbered = numbered;
      } in
      let line : went.0.line ≡ Some step.t.line = ap (λ (z : Course F P D R W). z.line) step.is in
      let sender : went.0.filling.sender ≡ step.t.sender = ap (λ (z : Course F P D R W). z.filling.sender) step.is in
      let next = course_offers feed pause dial reader writer most events went.0 y went.2 in
      let open_now : IsOpen made (Some step.t.line) =
      talked e here step.t (more.more ++ rest) step.step h spelled made (subst (IsOpen made) step.line is) in
      let one = course_offers feed pause dial reader writer most (Talks e ∷ []) x went.0 (went.0, went.1, refl) in
      let k = course_sends events went.0 y went.2 made links rest (subst (IsOpen made) (sym line) open_now)
      (one.name_is ∙ own) (one.numbered numbered) whole spelled ends in
      subst (λ (z : Option (Line R W)). CourseSends name requests x.filling.sender.verdicts (heard_over_line z)
      y.filling.sender.verdicts links) (sym step.line)
      (talk_sends e here step.t y.filling.sender.verdicts links step.step own
      (subst (λ (z : Sender). CourseSends name requests z.verdicts step.t.line.heard y.filling.sender.verdicts links) sender
      (subst (λ (z : Option (Line R W)). CourseSends name requests went.0.filling.sender.verdicts (heard_over_line z)
      y.filling.sender.verdicts links) line k)))
  course_sends (Leaves end ∷ events) x y went made links rest is own numbered whole spelled ends =
      let step = went.1 in
      let here : Conversing R W = record { sender = x.filling.sender; line = step.l } in
      let line : went.0.line ≡ None = ap (λ (z : Course F P D R W). z.line) step.is in
      let sender : went.0.filling.sender ≡ x.filling.sender = ap (λ (z : Course F P D R W). z.filling.sender) step.is in
      subst (λ (z : Option (Line R W)). CourseSends name requests x.filling.sender.verdicts (heard_over_line z)
      y.filling.sender.verdicts links) (sym step.line)
      (course_leaves end here step.why made _ x.filling.sender.verdicts y.filling.sender.verdicts links
      (subst (IsOpen made) step.line is) ends
      (λ ls e.
      subst (λ (z : List (Option Verdict)). CourseSends name requests z [] y.filling.sender.verdicts ls)
      (ap (λ (z : Sender). z.verdicts) sender)
      (subst (λ (z : Option (Line R W)). CourseSends name requests went.0.filling.sender.verdicts (heard_over_line z)
      y.filling.sender.verdicts ls) line
      (course_sends events went.0 y went.2 None ls rest (subst (IsOpen None) (sym line) tt)
      (ap (λ (z : Sender). z.name) sender ∙ own)
      (subst PendingHaveNumbers (sym sender) numbered) whole spelled e))))

module _ {F P D R W X : Type 0} (feed : FeedGhosts F X) (pause : PauseGhosts P)
    (dial : DialGhosts D R W) (reader : Reader R) (writer : Writer W) (most : Option ℕ) where
  pub uploads_send_on : UploadsSendOn feed pause dial reader writer most
  uploads_send_on x sender outcome f f' p p' d d' went requests rest links whole numbered named each ends =
      let h = course_sends feed pause dial reader writer most x.name requests went.events _ went.last went.went None links
      rest tt refl numbered whole (record { named = named; each = each }) ends in
      record { wrote = h.says; told = h.heard }

  -- a new sender had no requests before
  pub uploads_send : UploadsSendRequests feed pause dial reader writer most
  uploads_send name sender outcome f f' p p' d d' went requests rest links whole named each ends =
      let h = uploads_send_on (new_sender name) sender outcome f f' p p' d d' went requests rest links whole
      (λ n below none. absurd (omega (arith, below))) named each ends in
      record { wrote = h.wrote; told = λ n v e. inr (only_now n v (h.told n v e)) }

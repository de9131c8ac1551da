-- A whole frame that a connection holds is answered in its next quantum, or ends its stream.
use Rattle.std.proofs.Common.{◌≡◌, ◌⊎◌, inl, inr, ℕ, ◌+◌, ◌-◌, Bool, true, false, Option, Some, None, Result, Ok, Err}
use Rattle.std.proofs.Common.{List, [], ◌∷◌, ◌++◌, length, take, drop, refl, sym, ap, subst, ◌∙◌, arith}
use Rattle.std.proofs.Common.{if◌then◌else◌}
use Rattle.std.specs.Prelude.{IfSome, IsTrue, is_some}
use Rattle.std.proofs.lemmas.List.{append-nil, length-append}
use Rattle.bw_model.specs.Bytes.{u32_at, first_that_holds}
use Rattle.bw_model.specs.Exchange.{replies_bytes}
use Rattle.bw_model.specs.Stream.{End, first_frame, framing_faults, longest_body, stream_of}
use Rattle.bw_model.specs.Wire.{Second, Frame, Says, Asks, Bye, Reason, Length, Kind, Name, Number, Payload, Cut}
use Rattle.bw_model.specs.Wire.{are_bytes, decoded}
use Rattle.bw_model.proofs.FrameLaws.{first_by, first_frame-by}
use Rattle.bw_wire.specs.Codecs.{is_bye, message_codec}
use Rattle.bw_wire.specs.FramerStates.{Phase as FramerPhase, Reading, Left, Failed, Pending, Reported, Nothing, Gives}
use Rattle.bw_wire.specs.FramerStates.{Fails, next_in, next_of, next_read}
use Rattle.bw_wire.specs.Framings.{is_decided, is_decided_by}
use Rattle.bw_wire.specs.Runs.{Call, Takes, FollowsStream, Run, fed_in, framer_run, given_by, with_call}
use Rattle.bw_wire.proofs.FramePrefixes.{decoded-not_cut}
use Rattle.bw_wire.proofs.StreamRuns.{runs_follow_streams}
use Rattle.bw_exchange.specs.declared.exchange.Exchange.{Exchange}
use Rattle.bw_exchange.specs.declared.step.StreamEnd.{StreamEnd}
use Rattle.bw_exchange.specs.AnsweredFrames.{Answered, answered_frames, replies_of}
use Rattle.bw_exchange.specs.Bounds.{most_before_answer}
use Rattle.bw_exchange.specs.Done.{Done, HasDone, IsExchangeOf, MustWait, last_of}
use Rattle.bw_exchange.specs.Ends.{IsFinal, end_meaning, end_so_far}
use Rattle.bw_exchange.specs.Parts.{end_of, pending_of, waiting_in}
use Rattle.bw_exchange.proofs.Doing.{fed_in-more, replies_bytes-append, run_more}
use Rattle.bw_exchange.proofs.Lawful.{is_exchange}
use Rattle.bw_connections.specs.declared.connection.Connection.{Connection}
use Rattle.bw_connections.specs.declared.connection.Phase.{Phase}
use Rattle.bw_connections.specs.declared.connection.Phase.TheVariants as phases
use Rattle.bw_connections.specs.HeldFrames.{HasFinalEnd, HeldFramesAreHeard, HoldsFrame, IsHeard}
use Rattle.bw_connections.specs.Lives.{Lives, Moved, has_just_ended, is_heard, quiet_since, silence_by, silence_of}
use Rattle.bw_ports.specs.declared.link.Link.{Ghosts as LinkGhosts}

-- ---- a framer that holds a whole frame reports something

whole_read : (more : List ℕ) (read : Result Frame Reason) (fault : Option Reason) → is_decided_by fault ≡ true →
    (read ≡ Err Cut → ⊥) → first_by more read fault ≡ Err Cut → ⊥
whole_read more read (Some reason) whole body is =
    let cut : reason ≡ Cut = cc in
    let missing = subst (λ (r : Reason). is_decided_by (Some r) ≡ true) cut whole in cc
whole_read more (Ok x) None whole body is = cc
whole_read more (Err reason) None whole body is =
    let cut : reason ≡ Cut = cc in body (ap (λ (r : Reason). Err r) cut)

-- it isn't cut
whole_first : (bytes : List ℕ) → is_decided bytes ≡ true → first_frame Second bytes ≡ Err Cut → ⊥
whole_first bytes whole is =
    let body = take (u32_at bytes 0) (drop 4 bytes) in
    whole_read (drop (4 + u32_at bytes 0) bytes) (decoded Second body)
    (first_that_holds (framing_faults longest_body bytes)) whole (decoded-not_cut body)
    (sym (first_frame-by Second bytes) ∙ is)

nothing_read : (p : Pending) (read : Result (Frame × List ℕ) Reason) → (next_read message_codec p read).0 ≡ Nothing →
    read ≡ Err Cut
nothing_read p (Ok (Says m, more)) none = absurd cc
nothing_read p (Ok (Asks name number, more)) none = absurd cc
nothing_read p (Ok (Bye, more)) none = absurd cc
nothing_read p (Err Length) none = absurd cc
nothing_read p (Err Kind) none = absurd cc
nothing_read p (Err Name) none = absurd cc
nothing_read p (Err Number) none = absurd cc
nothing_read p (Err Payload) none = absurd cc
nothing_read p (Err Cut) none = refl

nothing_in : (h : FramerPhase) (p : Pending) → (next_in message_codec h p).0 ≡ Nothing →
    first_frame Second p.bytes ≡ Err Cut
nothing_in Reading p none = nothing_read p (first_frame Second p.bytes) none
nothing_in Left p none = absurd cc
nothing_in (Failed reason) p none = absurd cc

-- nothing is reported only of bytes that are cut
nothing_cut : (p : Pending) → (next_of message_codec p).0 ≡ Nothing → first_frame Second p.bytes ≡ Err Cut
unfolding next_of
nothing_cut p none = nothing_in p.phase p none

-- ---- what it reports is answered, or ends the stream

follows : (calls : List Call) (fed : List ℕ) (r : Run Frame) → fed_in calls ≡ fed → framer_run message_codec calls ≡ r →
    IsTrue (are_bytes fed) → FollowsStream fed r
follows calls fed r fed_by runs fits =
    subst (FollowsStream fed) runs (subst (λ (x : List ℕ). FollowsStream x (framer_run message_codec calls)) fed_by
    (runs_follow_streams calls (subst (λ (x : List ℕ). IsTrue (are_bytes x)) (sym fed_by) fits)))

-- if it is a message or an ask, more frames came than were answered
longer : (fed : List ℕ) (xs : List Answered) (gone : List ℕ) (p : Pending) (w : List ℕ) (e : Option End)
    (frame : Frame) → Done fed xs gone p w e → is_bye frame ≡ false → (next_of message_codec p).0 ≡ Gives frame →
    (stream_of Second fed).0 ≡ answered_frames xs → ⊥
longer fed xs gone p w e frame d other is all =
    let fs = answered_frames xs in
    let f = follows (d.calls ++ Takes ∷ []) fed (with_call message_codec (record { given = fs; state = p }) Takes)
    (fed_in-more d.calls Takes ∙ append-nil (fed_in d.calls) ∙ d.fed_by)
    (run_more message_codec d.calls Takes ∙ ap (λ (r : Run Frame). with_call message_codec r Takes) d.runs) d.fits in
    let given : given_by message_codec (next_of message_codec p).0 ≡ frame ∷ [] =
    ap (given_by message_codec) is ∙ ap (λ (b : Bool). if b then [] else frame ∷ []) other in
    let same : fs ≡ (fs ++ frame ∷ []) ++ f.prefix.0 =
    sym all ∙ f.prefix.1 ∙ ap (λ (x : List Frame). (fs ++ x) ++ f.prefix.0) given in
    let len = ap (length {A = Frame}) same in
    let first = length-append (fs ++ frame ∷ []) f.prefix.0 in
    let second : length (fs ++ frame ∷ []) ≡ length fs + 1 = length-append fs (frame ∷ []) in
    omega (arith, len, first, second)

-- so if all that came were answered, it ends the stream
ends_stream : (fed : List ℕ) (xs : List Answered) (gone : List ℕ) (p : Pending) (w : List ℕ) (e : Option End) →
    Done fed xs gone p w e → is_decided p.bytes ≡ true → (stream_of Second fed).0 ≡ answered_frames xs →
    IsFinal (stream_of Second fed).1
ends_stream fed xs gone p w e d whole all = go (next_of message_codec p).0 refl
  where
    f : FollowsStream fed (record { given = answered_frames xs; state = p })
    f = follows d.calls fed (record { given = answered_frames xs; state = p }) d.fed_by d.runs d.fits

    go : (r : Reported Frame) → (next_of message_codec p).0 ≡ r → IsFinal (stream_of Second fed).1
    go Nothing is = absurd (whole_first p.bytes whole (nothing_cut p is))
    go (Gives (Says m)) is = absurd (longer fed xs gone p w e (Says m) d refl is all)
    go (Gives (Asks name number)) is = absurd (longer fed xs gone p w e (Asks name number) d refl is all)
    go (Gives Bye) is = subst IsFinal (sym (ap (λ (s : List Frame × End). s.1) (f.bye is))) tt
    go (Fails reason offset) is =
        subst IsFinal (sym (ap (λ (s : List Frame × End). s.1) (f.fault reason offset is)))
        (λ cut. f.not_cut offset (is ∙ ap (λ (r : Reason). Fails r offset) cut))

-- ---- replies

-- if no frame more was answered, and the stream has not ended, no byte more waits
none_more : (rs : List ℕ) (gone bytes w last : List ℕ) → gone ++ [] ≡ rs ++ last → (gone ++ bytes) ++ w ≡ rs ++ [] →
    length w ≡ 0
none_more rs gone bytes w last was is =
    let a = ap (length {A = ℕ}) was in
    let b = ap (length {A = ℕ}) is in
    let c = length-append gone [] in
    let d = length-append rs last in
    let e = length-append (gone ++ bytes) w in
    let f = length-append gone bytes in
    let g = length-append rs [] in
    omega (arith, a, b, c, d, e, f, g)

-- ---- quanta

-- all that can be answered was
answered_all : (fed : List ℕ) (xs : List Answered) (gone bytes : List ℕ) (a b : Exchange) → HasDone fed xs gone a →
    waiting_in a ≡ [] → is_decided (pending_of a).bytes ≡ true → HasDone fed xs (gone ++ bytes) b → MustWait b →
    HasFinalEnd b
answered_all fed xs gone bytes a b d sent whole d' must = go (end_of b) refl must
  where
    x : IsExchangeOf fed xs ((gone ++ bytes) ++ waiting_in b) b
    x = is_exchange runs_follow_streams fed xs (gone ++ bytes) b d'

    final : (stream_of Second fed).0 ≡ answered_frames xs → IsFinal (stream_of Second fed).1
    final = ends_stream fed xs gone (pending_of a) (waiting_in a) (end_so_far (end_of a)) d whole

    none_waits : end_of b ≡ None → length (waiting_in b) ≡ 0
    none_waits is = none_more (replies_bytes (replies_of xs)) gone bytes (waiting_in b)
        (replies_bytes (last_of (end_so_far (end_of a))))
        (ap (λ (y : List ℕ). gone ++ y) (sym sent) ∙ d.written
        ∙ replies_bytes-append (replies_of xs) (last_of (end_so_far (end_of a))))
        (d'.written ∙ ap (λ (y : Option StreamEnd). replies_bytes (replies_of xs ++ last_of (end_so_far y))) is
        ∙ replies_bytes-append (replies_of xs) [])

    go : (end : Option StreamEnd) → end_of b ≡ end → MustWait b → HasFinalEnd b
    go (Some end) is must =
        let all : stream_of Second fed ≡ (answered_frames xs, end_meaning end) =
        subst (λ (y : Option StreamEnd).
        IfSome (end_so_far y) (λ z. stream_of Second fed ≡ (answered_frames xs, z))) is x.whole in
        record {
          end = end;
          is = is;
          final = subst IsFinal (ap (λ (s : List Frame × End). s.1) all) (final (ap (λ (s : List Frame × End). s.0) all));
        }
    go None is (inl (inl wants)) = absurd (x.unended wants (final (x.wants_read wants)))
    go None is (inl (inr over)) = absurd (let ended = sym (ap (λ (y : Option StreamEnd). is_some y) is) ∙ over in cc)
    go None is (inr many) = let few = none_waits is in absurd (omega (arith, many, few))

none_quiet : (h : Phase) (w : List ℕ) (whole : Bool) (quiet : ℕ) → quiet ≡ 0 → silence_by h w whole quiet ≡ 0
none_quiet phases.Serving [] true quiet is = refl
none_quiet phases.Serving [] false quiet is = is
none_quiet phases.Serving (b ∷ bs) whole quiet is = is
none_quiet (phases.Draining fault) w whole quiet is = is

quiet_now : (now since : ℕ) (h k : Phase) → h ≡ phases.Serving → quiet_since now since h k true ≡ now
quiet_now now since h phases.Serving serving = refl
quiet_now now since h (phases.Draining fault) serving =
    ap (λ (g : Phase). quiet_since now since g (phases.Draining fault) true) serving

module _ {L : Type 0} (G : LinkGhosts L) where
  heard : (now : ℕ) (c c' : Connection L) (before answered : List Answered) → Lives G c before → HoldsFrame c →
      (moved : Moved G c answered c') → c'.since ≡ quiet_since now c.since c.phase c'.phase
      (is_heard answered (has_just_ended (end_of c.exchange) (end_of c'.exchange))) →
      IsHeard now answered c' ⊎ HasFinalEnd moved.between
  heard now c c' before [] l h moved since =
      let done = subst (λ (x : List ℕ). HasDone x before (l.gone ++ moved.bytes) moved.between) (append-nil l.fed)
      (subst (λ (x : List Answered). HasDone (l.fed ++ []) x (l.gone ++ moved.bytes) moved.between) (append-nil before)
      (moved.answers l.fed before l.gone l.done)) in
      inr (answered_all l.fed before l.gone moved.bytes c.exchange moved.between l.done h.sent h.whole done
      (moved.waits (omega arith)))
  heard now c c' before (a ∷ xs) l h moved since =
      let at_now = since ∙ quiet_now now c.since c.phase c'.phase h.serving in
      inl (record {
        some = omega arith;
        silence = none_quiet c'.phase (waiting_in c'.exchange) (is_decided (pending_of c'.exchange).bytes)
            (now - c'.since) (omega (arith, at_now));
      })

  -- it isn't quiet while it holds the frame
  held_quiet : (time : ℕ) (c : Connection L) → HoldsFrame c → silence_of time c ≡ 0
  held_quiet time c h =
      ap (λ (k : Phase). silence_by k (waiting_in c.exchange) (is_decided (pending_of c.exchange).bytes)
      (time - c.since)) h.serving
      ∙ ap (λ (w : List ℕ). silence_by phases.Serving w (is_decided (pending_of c.exchange).bytes)
      (time - c.since)) h.sent
      ∙ ap (λ (b : Bool). silence_by phases.Serving [] b (time - c.since)) h.whole

  pub held_heard : HeldFramesAreHeard G
  held_heard now c c' before answered l h moved since =
      (λ time. held_quiet time c h, heard now c c' before answered l h moved since)

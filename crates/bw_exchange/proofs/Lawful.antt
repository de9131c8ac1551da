-- What an exchange has done, said by the bytes alone.
use Rattle.std.proofs.Common.{◌≡◌, ℕ, ◌+◌, true, List, [], ◌∷◌, ◌++◌, length, Option, Some, None, Result, Ok, Err}
use Rattle.std.proofs.Common.{refl, sym, ap, subst, ◌∙◌, arith, inl, inr}
use Rattle.std.specs.Prelude.{IfSome, IsTrue}
use Rattle.std.proofs.lemmas.Bool.{and_from}
use Rattle.std.proofs.lemmas.List.{length-append}
use Rattle.std.proofs.lemmas.List.Folds.{list_all-append}
use Rattle.bw_model.specs.Wire.{Second, Frame, Says, Asks, Bye, Reason, is_below, are_bytes}
use Rattle.bw_model.specs.Stream.{first_frame, End, EndOfInput, SaidBye, BadFrame, stream_of}
use Rattle.bw_wire.specs.Codecs.{message_codec}
use Rattle.bw_wire.specs.FramerStates.{Phase, Reading, Left, Failed, Pending, Reported, Nothing, Fails, fresh, next_of}
use Rattle.bw_wire.specs.FramerStates.{with_piece, cut_off, end_in}
use Rattle.bw_wire.specs.Runs.{Call, Feeds, Takes, fed_in, Run, framer_run, with_call, with_calls, input_end}
use Rattle.bw_wire.specs.Runs.{FollowsStream}
use Rattle.bw_wire.specs.Runs.{RunsFollowStreams}
use Rattle.bw_wire.proofs.FramerLaws.{next_of-left, next_of-failed, next_of-partial, next_of-bad, next_of-value}
use Rattle.bw_wire.proofs.FramerLaws.{next_of-last, cut_or_not}
use Rattle.bw_exchange.specs.declared.exchange.Exchange.{Exchange}
use Rattle.bw_exchange.specs.AnsweredFrames.{Answered, answered_frames}
use Rattle.bw_exchange.specs.declared.step.StreamEnd.{StreamEnd}
use Rattle.bw_exchange.specs.declared.step.StreamEnd.TheVariants as ends
use Rattle.bw_exchange.specs.Steps.{ReportsEnd}
use Rattle.bw_wire.proofs.StreamRuns.{runs_follow_streams}
use Rattle.bw_exchange.specs.Ends.{end_meaning, end_so_far, IsFinal}
use Rattle.bw_exchange.specs.Done.{EndsSo, Done, HasDone, AreFirstOf, IsExchangeOf}
use Rattle.bw_exchange.proofs.Doing.{run_more, fed_in-more}
use Rattle.bw_exchange.proofs.Growing.{stream_of-grows}

-- ---- how many bytes were fed

pub with_piece-fed : (h : Phase) (p : Pending) (piece : List ℕ) → p.phase ≡ h →
    (with_piece p piece).fed ≡ p.fed + length piece
with_piece-fed Reading p piece e = rw e refl
with_piece-fed Left p piece e = rw e refl
with_piece-fed (Failed reason) p piece e = rw e refl

next_of-fed : (h : Phase) (read : Result (Frame × List ℕ) Reason) (p : Pending) → p.phase ≡ h →
    first_frame Second p.bytes ≡ read → (next_of message_codec p).1.fed ≡ p.fed
next_of-fed Left read p e f = ap (λ (y : Reported Frame × Pending). y.1.fed) (next_of-left message_codec p e)
next_of-fed (Failed reason) read p e f =
    ap (λ (y : Reported Frame × Pending). y.1.fed) (next_of-failed message_codec p reason e)
next_of-fed Reading (Ok (Says m, more)) p e f =
    ap (λ (y : Reported Frame × Pending). y.1.fed) (next_of-value message_codec p (Says m) more e f refl)
next_of-fed Reading (Ok (Asks name number, more)) p e f =
    ap (λ (y : Reported Frame × Pending). y.1.fed) (next_of-value message_codec p (Asks name number) more e f refl)
next_of-fed Reading (Ok (Bye, more)) p e f =
    ap (λ (y : Reported Frame × Pending). y.1.fed) (next_of-last message_codec p Bye more e f refl)
next_of-fed Reading (Err reason) p e f = elim (cut_or_not reason) [
  | inl cut ↦ ap (λ (y : Reported Frame × Pending). y.1.fed)
      (next_of-partial message_codec p e (f ∙ ap (λ (r : Reason). Err r) cut))
  | inr other ↦ ap (λ (y : Reported Frame × Pending). y.1.fed) (next_of-bad message_codec p reason e f other)
]

with_calls-fed : (r : Run Frame) (calls : List Call) →
    (with_calls message_codec r calls).state.fed ≡ r.state.fed + length (fed_in calls)
with_calls-fed r [] = omega arith
with_calls-fed r (Feeds piece ∷ calls) =
    let more = with_calls-fed (with_call message_codec r (Feeds piece)) calls in
    let here = with_piece-fed r.state.phase r.state piece refl in
    let len = length-append piece (fed_in calls) in
    omega arith
with_calls-fed r (Takes ∷ calls) =
    with_calls-fed (with_call message_codec r Takes) calls
    ∙ ap (λ (n : ℕ). n + length (fed_in calls))
    (next_of-fed r.state.phase (first_frame Second r.state.bytes) r.state refl refl)

counted : (fed : List ℕ) (xs : List Answered) (gone : List ℕ) (p : Pending) (w : List ℕ) (e : Option End) →
    Done fed xs gone p w e → p.fed ≡ length fed
counted fed xs gone p w e d =
    let state = ap (λ (r : Run Frame). r.state.fed) d.runs in
    let all = with_calls-fed (record { given = []; state = fresh }) d.calls in
    let len = ap (length {A = ℕ}) d.fed_by in
    omega arith

-- ---- frames and ends

follows : RunsFollowStreams → (fed : List ℕ) (xs : List Answered) (gone : List ℕ) (p : Pending) (w : List ℕ)
    (e : Option End) → Done fed xs gone p w e → FollowsStream fed (record { given = answered_frames xs; state = p })
follows law fed xs gone p w e d =
    subst (λ (x : List ℕ). FollowsStream x (record { given = answered_frames xs; state = p })) d.fed_by
    (subst (λ (r : Run Frame). FollowsStream (fed_in d.calls) r) d.runs
    (law d.calls (subst (λ (x : List ℕ). IsTrue (are_bytes x)) (sym d.fed_by) d.fits)))

-- the end that a framer reports is one that no more bytes can change
pub final_end : (fed : List ℕ) (xs : List Answered) (gone : List ℕ) (p : Pending) (w : List ℕ) (e : Option End)
    (end : StreamEnd) → Done fed xs gone p w e → ReportsEnd end (next_of message_codec p).0 → IsFinal (end_meaning end)
final_end fed xs gone p w e ends.Bye d t = tt
final_end fed xs gone p w e ends.EndOfInput d t = absurd t
final_end fed xs gone p w e (ends.BadFrame fault) d t =
    λ cut. (follows runs_follow_streams fed xs gone p w e d).not_cut fault.offset
    (t ∙ ap (λ (r : Reason). Fails r fault.offset) cut)

-- they stay the first frames when more is fed
prefix_grows : RunsFollowStreams → (fed : List ℕ) (xs : List Answered) (gone : List ℕ) (p : Pending) (w : List ℕ)
    (e : Option End) → Done fed xs gone p w e → (more : List ℕ) → IsTrue (are_bytes more) →
    AreFirstOf (answered_frames xs) (fed ++ more)
prefix_grows law fed xs gone p w e d more bytes =
    let calls = d.calls ++ Feeds more ∷ [] in
    let all : fed_in calls ≡ fed ++ more =
    fed_in-more d.calls (Feeds more) ∙ ap (λ (x : List ℕ). x ++ more) d.fed_by in
    let fits : are_bytes (fed ++ more) ≡ true =
    list_all-append (is_below 256) fed more ∙ and_from (are_bytes fed) (are_bytes more) d.fits bytes in
    let f = law calls (ap are_bytes all ∙ fits) in
    let given : (framer_run message_codec calls).given ≡ answered_frames xs =
    ap (λ (r : Run Frame). r.given) (run_more message_codec d.calls (Feeds more)
    ∙ ap (λ (r : Run Frame). with_call message_codec r (Feeds more)) d.runs) in
    subst (AreFirstOf (answered_frames xs)) all
    (subst (λ (fs : List Frame). AreFirstOf fs (fed_in calls)) given f.prefix)

ends_stream : (bytes : List ℕ) (fs : List Frame) (p : Pending) (end : End) →
    FollowsStream bytes (record { given = fs; state = p }) → EndsSo end p → stream_of Second bytes ≡ (fs, end)
ends_stream bytes fs p SaidBye f e = f.bye e
ends_stream bytes fs p EndOfInput f e = f.nothing e.0 ∙ ap (λ (x : Option (Reason × ℕ)). (fs, input_end x)) e.1
ends_stream bytes fs p (BadFrame reason place) f (inl e) = f.fault reason place e
ends_stream bytes fs p (BadFrame reason place) f (inr e) =
    f.nothing e.0 ∙ ap (λ (x : Option (Reason × ℕ)). (fs, input_end x)) e.1

whole_stream : (bytes : List ℕ) (fs : List Frame) (p : Pending) (e : Option End) →
    FollowsStream bytes (record { given = fs; state = p }) → IfSome e (λ x. EndsSo x p) →
    IfSome e (λ x. stream_of Second bytes ≡ (fs, x))
whole_stream bytes fs p None f e = tt
whole_stream bytes fs p (Some end) f e = ends_stream bytes fs p end f e

-- if nothing more is reported, the input's end isn't final
not_final : (h : Phase) (p : Pending) → p.phase ≡ h → (next_of message_codec p).0 ≡ Nothing →
    IsFinal (input_end (end_in h p)) → ⊥
not_final Reading p e none final = open_end p.bytes final
  where
    open_end : (bytes : List ℕ) → IsFinal (input_end (cut_off bytes p.used)) → ⊥
    open_end [] final = final
    open_end (b ∷ bs) final = final refl
not_final Left p e none final =
    let reported = ap (λ (y : Reported Frame × Pending). y.0) (sym (next_of-left message_codec p e)) ∙ none in cc
not_final (Failed reason) p e none final =
    let reported = ap (λ (y : Reported Frame × Pending). y.0) (sym (next_of-failed message_codec p reason e)) ∙ none in cc

settled : (bytes : List ℕ) (fs : List Frame) (e : Option End) → are_bytes bytes ≡ true →
    IfSome e (λ x. stream_of Second bytes ≡ (fs, x))
    → IfSome e (λ x. IsFinal x → (more : List ℕ) → stream_of Second (bytes ++ more) ≡ (fs, x))
settled bytes fs None fits e = tt
settled bytes fs (Some end) fits e = λ final more. stream_of-grows bytes more fs end fits final e

-- what was done says of the bytes alone which frames were answered, and how it ended
pub is_exchange : RunsFollowStreams → (fed : List ℕ) (xs : List Answered) (gone : List ℕ) (e : Exchange) →
    HasDone fed xs gone e → IsExchangeOf fed xs (gone ++ e.outgoing.items) e
is_exchange law fed xs gone e d =
    let p = e.framer in
    let w = e.outgoing.items in
    let end = end_so_far e.end in
    let f = follows law fed xs gone p w end d in
    let whole = whole_stream fed (answered_frames xs) p end f d.ends in
    record {
      prefix = prefix_grows law fed xs gone p w end d;
      wants_read = λ h. ap (λ (s : List Frame × End). s.0) (f.nothing (e.quiet h).0);
      unended = λ h final. not_final p.phase p refl (e.quiet h).0
          (subst IsFinal (ap (λ (s : List Frame × End). s.1) (f.nothing (e.quiet h).0)) final);
      whole = whole;
      settled = settled fed (answered_frames xs) end d.fits whole;
      written = d.written;
      spelled = d.spelled;
      counted = counted fed xs gone p w end d;
    }

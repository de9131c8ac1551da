-- What a framer of replies was fed, what it gave, and what it reports next.
use Rattle.std.proofs.Common.{◌≡◌, ℕ, ◌+◌, ◌<◌, List, [], ◌∷◌, ◌++◌, length, Result, Ok, Err}
use Rattle.std.proofs.Common.{refl, sym, ap, subst, ◌∙◌, arith, inl, inr}
use Rattle.std.specs.Prelude.{IsTrue}
use Rattle.std.proofs.lemmas.Bool.{and_from}
use Rattle.std.proofs.lemmas.List.{append-nil, length-append, length-drop}
use Rattle.std.proofs.lemmas.List.Folds.{list_all-append}
use Rattle.bw_model.specs.Bytes.{u32_at}
use Rattle.bw_model.specs.Wire.{Reason, Cut, is_below, are_bytes}
use Rattle.bw_model.specs.Replies.{Reply}
use Rattle.bw_model.specs.Stream.{first_reply}
use Rattle.bw_model.proofs.FrameLaws.{reads_reply}
use Rattle.bw_wire.specs.Codecs.{reply_codec}
use Rattle.bw_wire.specs.Reasons.{reason_meaning}
use Rattle.bw_wire.specs.declared.fault.WireFault.{WireFault}
use Rattle.bw_wire.specs.FramerStates.{Phase, Reading, Left, Failed, Pending, Reported, Nothing, Gives, Fails, fresh}
use Rattle.bw_wire.specs.FramerStates.{with_piece, compacted, emptied, next_of}
use Rattle.bw_wire.specs.Runs.{Call, Feeds, Takes, fed_in, Run, given_by, with_call, with_calls}
use Rattle.bw_wire.specs.Runs.{Follows}
use Rattle.bw_wire.proofs.FramerLaws.{next_of-left, next_of-failed, next_of-partial, next_of-bad, next_of-value}
use Rattle.bw_wire.proofs.FramerLaws.{cut_or_not}
use Rattle.bw_wire.proofs.StreamRuns.{reply_runs_follow_replies}
use Rattle.bw_sender.specs.Hears.{GaveReplies, ReportsFault}
use Rattle.bw_exchange.proofs.Doing.{run_more, fed_in-more}
use Rattle.bw_exchange.proofs.Lawful.{with_piece-fed}

-- what a framer reports, and what it then keeps
abbrev Answer : Type 0
Answer = Reported Reply × Pending

-- ---- what is reported last is reported again

-- what is reported is no reply
abbrev pub IsNoReply : Reported Reply → Type 0
IsNoReply Nothing = Unit {0}
IsNoReply (Gives r) = ⊥
IsNoReply (Fails reason place) = Unit {0}

again_by : (p q : Pending) (t : Reported Reply) → next_of reply_codec p ≡ (t, q) → (next_of reply_codec q).0 ≡ t →
    (next_of reply_codec (next_of reply_codec p).1).0 ≡ (next_of reply_codec p).0
again_by p q t e again =
    ap (λ (y : Answer). (next_of reply_codec y.1).0) e ∙ again ∙ sym (ap (λ (y : Answer). y.0) e)

again_in : (h : Phase) (read : Result (Reply × List ℕ) Reason) (p : Pending) → p.phase ≡ h →
    first_reply p.bytes ≡ read → IsNoReply (next_of reply_codec p).0
    → (next_of reply_codec (next_of reply_codec p).1).0 ≡ (next_of reply_codec p).0
again_in Left read p e f last =
    let a = next_of-left reply_codec p e in again_by p p Nothing a (ap (λ (y : Answer). y.0) a)
again_in (Failed reason) read p e f last =
    let a = next_of-failed reply_codec p reason e in
    again_by p p (Fails reason p.used) a (ap (λ (y : Answer). y.0) a)
again_in Reading (Ok (r, more)) p e f last =
    absurd (subst IsNoReply (ap (λ (y : Answer). y.0) (next_of-value reply_codec p r more e f refl)) last)
again_in Reading (Err reason) p e f last = elim (cut_or_not reason) [
  | inl cut ↦ let f' : first_reply p.bytes ≡ Err Cut = f ∙ ap (λ (r : Reason). Err r) cut in
      again_by p (compacted p) Nothing (next_of-partial reply_codec p e f')
      (ap (λ (y : Answer). y.0) (next_of-partial reply_codec (compacted p) e f'))
  | inr other ↦ let q = emptied p p.used (Failed reason) in
      again_by p q (Fails reason p.used) (next_of-bad reply_codec p reason e f other)
      (ap (λ (y : Answer). y.0) (next_of-failed reply_codec q reason refl))
]

pub reported_again : (p q : Pending) (t : Reported Reply) → (next_of reply_codec p).0 ≡ t → q ≡ (next_of reply_codec p).1 →
    IsNoReply t → (next_of reply_codec q).0 ≡ t
reported_again p q t e same last =
    ap (λ (x : Pending). (next_of reply_codec x).0) same
    ∙ again_in p.phase (first_reply p.bytes) p refl refl (subst IsNoReply (sym e) last) ∙ e

-- what a framer reports by a fault
abbrev pub failed_by : WireFault → Reported Reply
failed_by fault = Fails (reason_meaning fault.reason) fault.offset

pub fault_again : (p q : Pending) (fault : WireFault) → failed_by fault ≡ (next_of reply_codec p).0 →
    q ≡ (next_of reply_codec p).1 → ReportsFault q
fault_again p q fault reported same = (
  reason_meaning fault.reason,
  fault.offset,
  reported_again p q (failed_by fault) (sym reported) same tt,
)

-- before any piece no reply is whole
pub fresh_quiet : (next_of reply_codec fresh).0 ≡ Nothing
unfolding next_of first_reply
fresh_quiet = refl

-- no bytes are cut
pub no_bytes_cut : first_reply [] ≡ Err Cut
unfolding first_reply
no_bytes_cut = refl

-- ---- how many bytes are left, and how many were fed

first_reply-shorter : (bytes : List ℕ) (r : Reply) (more : List ℕ) → first_reply bytes ≡ Ok (r, more) →
    length more < length bytes
first_reply-shorter bytes r more e =
    let reads = reads_reply bytes r more e in
    omega (arith, reads.has.whole, ap (length {A = ℕ}) reads.rest, length-drop (4 + u32_at bytes 0) bytes)

-- a reply that is given is used up
abbrev IsShorter : Pending → Answer → Type 0
IsShorter p (Nothing, q) = Unit {0}
IsShorter p (Gives r, q) = length q.bytes < length p.bytes
IsShorter p (Fails reason place, q) = Unit {0}

shorter_in : (h : Phase) (read : Result (Reply × List ℕ) Reason) (p : Pending) → p.phase ≡ h →
    first_reply p.bytes ≡ read → IsShorter p (next_of reply_codec p)
shorter_in Left read p e f = subst (IsShorter p) (sym (next_of-left reply_codec p e)) tt
shorter_in (Failed reason) read p e f = subst (IsShorter p) (sym (next_of-failed reply_codec p reason e)) tt
shorter_in Reading (Ok (r, more)) p e f =
    subst (IsShorter p) (sym (next_of-value reply_codec p r more e f refl)) (first_reply-shorter p.bytes r more f)
shorter_in Reading (Err reason) p e f = elim (cut_or_not reason) [
  | inl cut ↦ subst (IsShorter p)
      (sym (next_of-partial reply_codec p e (f ∙ ap (λ (r : Reason). Err r) cut))) tt
  | inr other ↦ subst (IsShorter p) (sym (next_of-bad reply_codec p reason e f other)) tt
]

pub gives_shorter : (p q : Pending) (r : Reply) → (next_of reply_codec p).0 ≡ Gives r → q ≡ (next_of reply_codec p).1
    → length q.bytes < length p.bytes
gives_shorter p q r e same =
    subst (λ (x : Pending). length x.bytes < length p.bytes) (sym same)
    (subst (λ (t : Reported Reply). IsShorter p (t, (next_of reply_codec p).1)) e
    (shorter_in p.phase (first_reply p.bytes) p refl refl))

taken_fed : (h : Phase) (read : Result (Reply × List ℕ) Reason) (p : Pending) → p.phase ≡ h →
    first_reply p.bytes ≡ read → (next_of reply_codec p).1.fed ≡ p.fed
taken_fed Left read p e f = ap (λ (y : Answer). y.1.fed) (next_of-left reply_codec p e)
taken_fed (Failed reason) read p e f = ap (λ (y : Answer). y.1.fed) (next_of-failed reply_codec p reason e)
taken_fed Reading (Ok (r, more)) p e f = ap (λ (y : Answer). y.1.fed) (next_of-value reply_codec p r more e f refl)
taken_fed Reading (Err reason) p e f = elim (cut_or_not reason) [
  | inl cut ↦ ap (λ (y : Answer). y.1.fed)
      (next_of-partial reply_codec p e (f ∙ ap (λ (r : Reason). Err r) cut))
  | inr other ↦ ap (λ (y : Answer). y.1.fed) (next_of-bad reply_codec p reason e f other)
]

calls_fed : (r : Run Reply) (calls : List Call) →
    (with_calls reply_codec r calls).state.fed ≡ r.state.fed + length (fed_in calls)
calls_fed r [] = omega arith
calls_fed r (Feeds piece ∷ calls) =
    let more = calls_fed (with_call reply_codec r (Feeds piece)) calls in
    let here = with_piece-fed r.state.phase r.state piece refl in
    let len = length-append piece (fed_in calls) in
    omega arith
calls_fed r (Takes ∷ calls) =
    calls_fed (with_call reply_codec r Takes) calls
    ∙ ap (λ (n : ℕ). n + length (fed_in calls))
    (taken_fed r.state.phase (first_reply r.state.bytes) r.state refl refl)

-- ---- what was given so far

pub gave_none : GaveReplies [] [] fresh
gave_none = record { fits = refl; calls = []; fed_by = refl; runs = refl }

-- a piece is fed
pub gave_fed : (fed : List ℕ) (given : List Reply) (piece : List ℕ) (p q : Pending) →
    q ≡ with_piece p piece → IsTrue (are_bytes piece) → GaveReplies fed given p → GaveReplies (fed ++ piece) given q
gave_fed fed given piece p q same bytes d = record {
  fits = list_all-append (is_below 256) fed piece ∙ and_from (are_bytes fed) (are_bytes piece) d.fits bytes;
  calls = d.calls ++ Feeds piece ∷ [];
  fed_by = fed_in-more d.calls (Feeds piece) ∙ ap (λ (x : List ℕ). x ++ piece) d.fed_by;
  runs = run_more reply_codec d.calls (Feeds piece)
      ∙ ap (λ (r : Run Reply). with_call reply_codec r (Feeds piece)) d.runs
      ∙ ap (λ (x : Pending). record { given = given; state = x }) (sym same);
}

-- the framer is asked
pub gave_more : (fed : List ℕ) (given more : List Reply) (p q : Pending) → q ≡ (next_of reply_codec p).1 →
    given_by reply_codec (next_of reply_codec p).0 ≡ more → GaveReplies fed given p →
    GaveReplies fed (given ++ more) q
gave_more fed given more p q same reported d = record {
  fits = d.fits;
  calls = d.calls ++ Takes ∷ [];
  fed_by = fed_in-more d.calls Takes ∙ append-nil (fed_in d.calls) ∙ d.fed_by;
  runs = run_more reply_codec d.calls Takes
      ∙ ap (λ (r : Run Reply). with_call reply_codec r Takes) d.runs
      ∙ ap (λ (x : List Reply). record { given = given ++ x; state = (next_of reply_codec p).1 }) reported
      ∙ ap (λ (x : Pending). record { given = given ++ more; state = x }) (sym same);
}

pub gave_counted : (fed : List ℕ) (given : List Reply) (p : Pending) → GaveReplies fed given p → p.fed ≡ length fed
gave_counted fed given p d =
    let state = ap (λ (r : Run Reply). r.state.fed) d.runs in
    let all = calls_fed (record { given = []; state = fresh }) d.calls in
    let len = ap (length {A = ℕ}) d.fed_by in
    omega arith

-- what was given follows what was fed
pub gave_follows : (fed : List ℕ) (given : List Reply) (p : Pending) → GaveReplies fed given p →
    Follows Reply reply_codec fed (record { given = given; state = p })
gave_follows fed given p d =
    subst (λ (x : List ℕ). Follows Reply reply_codec x (record { given = given; state = p })) d.fed_by
    (subst (λ (r : Run Reply). Follows Reply reply_codec (fed_in d.calls) r) d.runs
    (reply_runs_follow_replies d.calls (subst (λ (x : List ℕ). IsTrue (are_bytes x)) (sym d.fed_by) d.fits)))

use Rattle.std.proofs.Common.{◌≡◌, ◌≢◌, ◌∙◌, List, ap, string_bytes, subst, sym, take, ℕ}
use Rattle.std.specs.List.{All}
use Rattle.std.proofs.lemmas.List.{take_all}
use Rattle.bw_queue.specs.NamedRecordings.{AreNamedApart, SaysAlike}
use Rattle.bw_queue.specs.QueueFaults.{alike_text}
use Rattle.bw_queue.specs.declared.recording.QueuedRecording.{QueuedRecording}
use Rattle.bw_queue.proofs.NamedLemmas.{apart_more, says_more}
use Rattle.bw_queue.proofs.naming.refuse_alike.Goals as goal

pub returns-in-Some : goal.returns-in-Some
returns-in-Some c =
    let first = c.in-Some.first.now in
    let second = c.index-recordings-place.result in
    says_more (λ (line : List ℕ). line ≡ alike_text c.as_str.result.now c.as_str-in-Some.result.now) (λ line. ⊥)
    (SaysAlike c.args.recordings.now) (λ line. ⊥)
    (λ line same. (
      c.loop-place.place,
      first,
      second,
      c.loop-place-test.true,
      sym c.index-recordings-place.is,
      c.in-Some.ensures,
      same ∙ (ap (λ (p : List ℕ). alike_text p c.as_str-in-Some.result.now) c.as_str.ensures.value
          ∙ ap (λ (p : List ℕ). alike_text (string_bytes first.path) p) c.as_str-in-Some.ensures.value),
    )) (λ line says. says) c.alike.result c.alike.ensures

pub loop-place-preserved : goal.loop-place-preserved
loop-place-preserved c = apart_more c.args.recordings.now c.loop-place.place c.index-recordings-place.result
    c.loop-place-test.true c.loop-place.invariant
    (subst (λ (r : QueuedRecording). All (λ (recording : QueuedRecording). recording.name ≢ r.name)
    (take c.loop-place.place c.args.recordings.now)) c.index-recordings-place.is c.in_default.ensures)

pub returns : goal.returns
returns c = subst AreNamedApart (take_all c.loop-place.place c.args.recordings.now c.loop-place-test.false)
    c.loop-place.invariant

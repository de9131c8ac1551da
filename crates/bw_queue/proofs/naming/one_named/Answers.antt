use Rattle.std.proofs.Common.{◌≢◌, List, refl, subst, sym}
use Rattle.std.specs.Cmp.Lexicographic.{other_text, same_text}
use Rattle.std.specs.List.{All}
use Rattle.std.proofs.lemmas.List.{take_all}
use Rattle.bw_queue.specs.declared.recording.QueuedRecording.{QueuedRecording}
use Rattle.bw_queue.proofs.NamedLemmas.{none_more}
use Rattle.bw_queue.proofs.naming.one_named.Goals as goal

pub returns-then-eq : goal.returns-then-eq
returns-then-eq c = (
  c.loop-recording.recording-index,
  c.recording-item.result,
  c.loop-recording-test.true,
  sym c.recording-item.is,
  (refl, same_text c.recording-item.result.name c.args.name.now c.if-eq.ensures),
)

pub loop-recording-preserved : goal.loop-recording-preserved
loop-recording-preserved c = none_more c.args.recordings.now c.loop-recording.recording-index c.recording-item.result
    c.args.name.now c.loop-recording-test.true c.loop-recording.invariant
    (subst (λ (r : QueuedRecording). r.name ≢ c.args.name.now) c.recording-item.is
    (other_text c.recording-item.result.name c.args.name.now c.if-eq.ensures))

pub returns : goal.returns
returns c = subst (λ (rs : List QueuedRecording). All (λ (r : QueuedRecording). r.name ≢ c.args.name.now) rs)
    (take_all c.loop-recording.recording-index c.args.recordings.now c.loop-recording-test.false)
    c.loop-recording.invariant

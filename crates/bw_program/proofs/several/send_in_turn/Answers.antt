use Rattle.std.proofs.Common.{◌≡◌, ◌∷◌, ◌+◌, ◌∙◌, [], List, ap, drop, get_or, refl, subst, sym}
use Rattle.std.proofs.lemmas.List.{drop_all, drop_more}
use Rattle.bw_console.specs.declared.exit.Exit.{Exit}
use Rattle.bw_program.specs.Requests.{ByUpload, OneRecording}
use Rattle.bw_queue.specs.declared.recording.QueuedRecording.{QueuedRecording}
use Rattle.bw_program.proofs.SeveralLemmas.{GoesOn, ends_with_last, goes_on, goes_on_at_first, stops_at_memory}
use Rattle.bw_program.proofs.several.send_in_turn.Goals as goal

pub loop-recording-init : goal.loop-recording-init
loop-recording-init g c = goes_on_at_first
    (λ recording exit s s'. g.B.Behavior.does (ByUpload (OneRecording c.args.several.now c.args.receipts.now recording))
    exit s s') c.args.recordings.now c.args.sender.now

pub loop-recording-preserved : goal.loop-recording-preserved
loop-recording-preserved g c =
    let does = λ (recording : QueuedRecording) (exit : Exit) (s s' : g.row.B.Denot). g.B.Behavior.does (ByUpload
    (OneRecording c.args.several.now c.args.receipts.now recording)) exit s s' in
    let all = c.args.recordings.now in
    let next = drop_more all c.loop-recording.recording-index c.recording-item.result c.loop-recording-test.true
    ∙ ap (λ (r : QueuedRecording). r ∷ drop (c.loop-recording.recording-index + 1) all) (sym c.recording-item.is) in
    subst (λ (e : Exit). GoesOn does all (drop (c.loop-recording.recording-index + 1) all) e c.args.sender.now
    c.send_one-exit.new.self) (sym c.worse-worst.ensures)
    (goes_on does all (drop (c.loop-recording.recording-index + 1) all) c.recording-item.result c.loop-recording.worst
    c.send_one-exit.result c.args.sender.now c.loop-recording.sender c.send_one-exit.new.self
    (subst (λ (rest : List QueuedRecording). GoesOn does all rest c.loop-recording.worst c.args.sender.now
    c.loop-recording.sender) next c.loop-recording.invariant) c.send_one-exit.ensures c.in_default.not-Memory)

pub returns-in-Memory : goal.returns-in-Memory
returns-in-Memory g c =
    let does = λ (recording : QueuedRecording) (exit : Exit) (s s' : g.row.B.Denot). g.B.Behavior.does (ByUpload
    (OneRecording c.args.several.now c.args.receipts.now recording)) exit s s' in
    let all = c.args.recordings.now in
    let next = drop_more all c.loop-recording.recording-index c.recording-item.result c.loop-recording-test.true
    ∙ ap (λ (r : QueuedRecording). r ∷ drop (c.loop-recording.recording-index + 1) all) (sym c.recording-item.is) in
    stops_at_memory does all (drop (c.loop-recording.recording-index + 1) all) c.recording-item.result
    c.loop-recording.worst c.args.sender.now c.loop-recording.sender c.send_one-exit.new.self
    (subst (λ (rest : List QueuedRecording). GoesOn does all rest c.loop-recording.worst c.args.sender.now
    c.loop-recording.sender) next c.loop-recording.invariant) c.in-Memory.ensures

pub returns : goal.returns
returns g c =
    let does = λ (recording : QueuedRecording) (exit : Exit) (s s' : g.row.B.Denot). g.B.Behavior.does (ByUpload
    (OneRecording c.args.several.now c.args.receipts.now recording)) exit s s' in
    let all = c.args.recordings.now in
    ends_with_last does all c.loop-recording.worst c.args.sender.now c.loop-recording.sender
    (subst (λ (rest : List QueuedRecording). GoesOn does all rest c.loop-recording.worst c.args.sender.now
    c.loop-recording.sender) (drop_all c.loop-recording.recording-index all c.loop-recording-test.false)
    c.loop-recording.invariant)

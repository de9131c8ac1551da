use Rattle.std.proofs.Common.{◌≡◌, ◌++◌, ◌∷◌, [], List, map, string_bytes, subst, sym, take, ℕ}
use Rattle.bw_queue.specs.NamedRecordings.{AreNamed, IsNameless, SaysNameless}
use Rattle.bw_queue.specs.QueueFaults.{nameless_text}
use Rattle.bw_queue.specs.declared.recording.QueuedRecording.{QueuedRecording}
use Rattle.bw_queue.proofs.NamedLemmas.{named_more, says_more, text_there, texts_more}
use Rattle.bw_queue.proofs.naming.name_recordings.Goals as goal

pub returns-in-Err : goal.returns-in-Err
returns-in-Err c =
    let lines = map (λ x. x.now) c.args.lines.now in
    let paths = map string_bytes c.args.paths.now in
    let path = c.as_str.result.now in
    let there = text_there string_bytes c.args.paths.now c.loop-path.path-index c.path-item.result path
    c.loop-path-test.true c.path-item.is c.as_str.ensures.value in
    says_more (λ (line : List ℕ). IsNameless lines path × (line ≡ nameless_text path)) (λ line. ⊥)
    (SaysNameless lines paths) (λ line. ⊥)
    (λ line says. (c.loop-path.path-index, path, there.0, there.1, says)) (λ line says. says) c.in-Err.fault
    c.in-Err.ensures

pub loop-path-preserved : goal.loop-path-preserved
loop-path-preserved c =
    let lines = map (λ x. x.now) c.args.lines.now in
    let path = c.as_str.result.now in
    let more = texts_more string_bytes c.args.paths.now c.loop-path.path-index c.path-item.result path
    c.loop-path-test.true c.path-item.is c.as_str.ensures.value in
    let named = named_more lines (map string_bytes (take c.loop-path.path-index c.args.paths.now))
    c.loop-path.recordings.items path c.in-Ok.recording c.loop-path.invariant c.in-Ok.ensures.0 c.in-Ok.ensures.1 in
    subst (λ (ps : List (List ℕ)). AreNamed lines ps c.push.new.self.items) (sym more)
    (subst (λ (rs : List QueuedRecording). AreNamed lines (map string_bytes (take c.loop-path.path-index c.args.paths.now)
    ++ path ∷ []) rs) (sym c.in_default.ensures.items) named)

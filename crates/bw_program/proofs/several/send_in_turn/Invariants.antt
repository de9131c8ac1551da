use Rattle.std.proofs.Common.{drop}
use Rattle.bw_program.specs.Requests.{ByUpload, OneRecording}
use Rattle.bw_program.proofs.SeveralLemmas.{GoesOn}
use Rattle.bw_program.proofs.several.send_in_turn.Given as goal

-- the others go on after those that were sent
abbrev pub invariant-loop-recording : goal.invariant-loop-recording
invariant-loop-recording g l =
    GoesOn (λ recording exit s s'. g.B.Behavior.does (ByUpload (OneRecording l.several l.receipts recording)) exit s s')
    l.recordings (drop l.recording-index l.recordings) l.worst l.fn.sender l.sender

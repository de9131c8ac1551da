use Rattle.std.proofs.Common.{take}
use Rattle.bw_session.specs.IngestRuns.{ServesInputs, input_bytes}
use Rattle.bw_session.proofs.ingest.serve_inputs.Given as goal

abbrev pub invariant-loop-input : goal.invariant-loop-input
invariant-loop-input g l = ServesInputs g.T.Turns.answers l.fn.server l.server (input_bytes (take l.input-index l.inputs))
    l.reported

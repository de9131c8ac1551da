use Rattle.std.proofs.Common.{List}
use Rattle.bw_model.specs.Wire.{Frame}
use Rattle.bw_model.specs.Replies.{Reply}
use Rattle.bw_machine.proofs.reporting.ReportingServer.report.Given as goal

-- what the server has answered and committed is as it was
abbrev pub invariant-loop-name : goal.invariant-loop-name
invariant-loop-name g l = record {
  answered : (before : _) (frame : Frame) (replies : List Reply) →
      g.T.Turns.answers before frame replies l.fn.self.server → g.T.Turns.answers before frame replies l.self.server;
  committed : g.T.Turns.committed l.fn.self.server → g.T.Turns.committed l.self.server;
}

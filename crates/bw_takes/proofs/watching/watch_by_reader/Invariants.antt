use Rattle.bw_takes.specs.Watches.{AreWatchRounds, watch_side, watch_world}
use Rattle.bw_takes.proofs.watching.watch_by_reader.Given as goal

-- so many rounds are over
abbrev pub invariant-loop-count : goal.invariant-loop-count
invariant-loop-count g l =
    AreWatchRounds (watch_side g.T.ProgressReader.reads g.T.ProgressReader.fails g.P.Pause.waits g.W.Sink g.E.Sink)
    l.fn.style l.fn.folder l.count l.rows.items (watch_world l.fn.takes l.fn.pause l.fn.out l.fn.faults)
    (watch_world l.takes l.pause l.out l.faults)

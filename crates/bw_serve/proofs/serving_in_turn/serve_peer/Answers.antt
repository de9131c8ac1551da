use Rattle.std.proofs.Common.{◌∙◌, ℕ, List, ap, fold, subst}
use Rattle.bw_exchange.specs.AnsweredFrames.{AnswersAll, answered_frames}
use Rattle.bw_exchange.specs.LinkCounts.{Counted, message_count, counting_frame}
use Rattle.bw_exchange.proofs.LinkStatsLemmas.{all_by_server, all_counted}
use Rattle.bw_exchange.specs.Commits.{CommitsUntil}
use Rattle.bw_serve.proofs.CountedBatches.{serves_by, until_by_server}
use Rattle.bw_serve.specs.Guards.{GuardedOverCommits}
use Rattle.bw_serve.specs.LinkLines.{Logs, peer_line}
use Rattle.bw_serve.proofs.serving_in_turn.serve_peer.Goals as goal

pub returns : goal.returns
returns g c =
    let to = c.serve_guarded-ended.ensures in
    let all = to.serves.by_server in
    let answers = GuardedOverCommits g.T.Turns.answers g.T.Turns.committed c.args.terms.now.allow.now
    c.args.peer.address in
    let last = c.serve_guarded-ended.new.server in
    let end = c.serve_guarded-ended.result.end in
    let counted = c.link_stats.ensures
    ∙ all_counted answers c.start.new.self to.serves.answered last all
    ∙ ap (λ x. fold counting_frame x (answered_frames to.serves.answered)) c.start.ensures.link_stats in
    record {
      r' = _;
      w' = _;
      served = serves_by _ _ answers g.T.Turns.commits g.P.Reader.Source g.P.Writer.Sink g.O.Sink _ _ _ _ _ _ _ _ _ _ _
          _ _ to
          (subst (λ s. AnswersAll answers s to.serves.answered last.server) c.start.ensures.server
          (all_by_server answers c.start.new.self to.serves.answered last all))
          (subst (λ s. CommitsUntil answers g.T.Turns.commits end s last.server) c.start.ensures.server
          (until_by_server answers g.T.Turns.commits end c.start.new.self last to.batches));
      logs = subst (λ (n : List ℕ). Logs g.E.Sink c.args.terms.now.log (peer_line c.args.peer.address n
          (message_count (answered_frames to.serves.answered))) c.args.faults.now c.report_link.new.faults)
          c.end_name.ensures.value
          (subst (λ (x : Counted). Logs g.E.Sink c.args.terms.now.log
          (peer_line c.args.peer.address c.end_name.result.now x)
          c.args.faults.now c.report_link.new.faults) counted c.report_link.ensures);
    }

use Rattle.std.proofs.Common.{rules}
use Rattle.bw_delivery.proofs.LineWords.{none_of_server}
use Rattle.bw_delivery.proofs.lines.server_event_in.Goals as goal

pub returns : goal.returns
returns c = none_of_server c.args.line.now (λ e. search rules) (λ e. search rules) c.in_default.ensures
    c.in_default-index_after.ensures c.in_default-index_after-2.ensures c.in_default-index_after-3.ensures

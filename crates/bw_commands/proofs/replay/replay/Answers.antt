use Rattle.bw_console.proofs.OutcomeLemmas.{ends_done, ends_at}
use Rattle.bw_commands.proofs.replay.replay.Goals as goal

pub returns-in-Ok-clause-did : goal.returns-in-Ok-clause-did
returns-in-Ok-clause-did g c =
    let p = c.in-Ok.ensures.prints in
    ends_done g.W.Sink g.E.Sink _ _ _ _ _ _ p.0 p.1 p.2 c.in-Ok.ensures.count

pub returns-in-Err-clause-did : goal.returns-in-Err-clause-did
returns-in-Err-clause-did g c =
    let p = c.in-Err.ensures.prints in
    let l = c.give_up.ensures.line in
    ends_at g.W.Sink g.E.Sink _ c.in-Err.fault _ _ _ _ _ _ _ p.0 l.0 p.1 p.2 c.in-Err.ensures.count
    c.give_up.ensures.exit l.1 l.2

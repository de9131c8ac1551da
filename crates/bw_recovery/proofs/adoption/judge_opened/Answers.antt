use Rattle.bw_recovery.proofs.JudgedFiles.{spares_samples}
use Rattle.bw_recovery.proofs.adoption.judge_opened.Goals as goal

pub returns-in-None-2-clause-spares : goal.returns-in-None-2-clause-spares
returns-in-None-2-clause-spares c =
    spares_samples c.args.limit c.args.state.now.parts c.least_mending.result c.args.header.now c.requires.opened
    c.requires.header c.least_mending.ensures.cut

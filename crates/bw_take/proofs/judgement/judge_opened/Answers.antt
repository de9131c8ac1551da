use Rattle.bw_take.proofs.judgement.judge_opened.Goals as goal

pub returns-in-Mark : goal.returns-in-Mark
returns-in-Mark c = rw c.in-Mark.is (c.judge_mark.ensures c.args.format)

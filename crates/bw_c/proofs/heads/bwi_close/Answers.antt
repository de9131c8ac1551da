use Rattle.bw_c.proofs.heads.bwi_close.Goals as goal

pub returns-clause-wrote : goal.returns-clause-wrote
returns-clause-wrote c = c.put_head.ensures.wrote

pub returns-clause-some : goal.returns-clause-some
returns-clause-some c = c.put_head.ensures.some

pub returns-clause-none : goal.returns-clause-none
returns-clause-none c = c.put_head.ensures.none

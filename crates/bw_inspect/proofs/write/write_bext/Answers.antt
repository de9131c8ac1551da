use Rattle.bw_inspect.proofs.write.write_bext.Goals as goal

pub returns-in-Some-clause-ok : goal.returns-in-Some-clause-ok
returns-in-Some-clause-ok g c = rw c.in-Some.is c.write_bext_chunk.ensures.ok

pub returns-in-Some-clause-err : goal.returns-in-Some-clause-err
returns-in-Some-clause-err g c = rw c.in-Some.is c.write_bext_chunk.ensures.err

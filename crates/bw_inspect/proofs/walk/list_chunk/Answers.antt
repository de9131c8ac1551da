use Rattle.std.proofs.Common.{rules}
use Rattle.bw_inspect.proofs.walk.list_chunk.Goals as goal

pub returns-in_ok-skip_pad-clause-passed : goal.returns-in_ok-skip_pad-clause-passed
returns-in_ok-skip_pad-clause-passed g c = search rules

pub returns-in_ok-skip_pad-clause-place : goal.returns-in_ok-skip_pad-clause-place
returns-in_ok-skip_pad-clause-place g c = search rules

pub returns-else-entry-eq1-clause-place : goal.returns-else-entry-eq1-clause-place
returns-else-entry-eq1-clause-place g c = search rules

pub returns-in_ok-skip_pad-clause-consumed : goal.returns-in_ok-skip_pad-clause-consumed
returns-in_ok-skip_pad-clause-consumed g c = search rules

pub returns-in_ok-skip_pad-clause-known : goal.returns-in_ok-skip_pad-clause-known
returns-in_ok-skip_pad-clause-known g c = search rules

pub returns-in_ok-skip_pad-clause-chunks : goal.returns-in_ok-skip_pad-clause-chunks
returns-in_ok-skip_pad-clause-chunks g c = search rules

pub returns-in_ok-skip_pad-clause-ok : goal.returns-in_ok-skip_pad-clause-ok
returns-in_ok-skip_pad-clause-ok g c = search rules

pub returns-in_ok-skip_pad-clause-err : goal.returns-in_ok-skip_pad-clause-err
returns-in_ok-skip_pad-clause-err g c = search rules

pub returns-else-entry-eq1-clause-consumed : goal.returns-else-entry-eq1-clause-consumed
returns-else-entry-eq1-clause-consumed g c = search rules

pub returns-else-entry-eq1-clause-passed : goal.returns-else-entry-eq1-clause-passed
returns-else-entry-eq1-clause-passed g c = search rules

pub returns-else-entry-eq1-clause-known : goal.returns-else-entry-eq1-clause-known
returns-else-entry-eq1-clause-known g c = search rules

pub returns-else-entry-eq1-clause-chunks : goal.returns-else-entry-eq1-clause-chunks
returns-else-entry-eq1-clause-chunks g c = search rules

pub returns-else-entry-eq1-clause-ok : goal.returns-else-entry-eq1-clause-ok
returns-else-entry-eq1-clause-ok g c = search rules

pub returns-else-entry-eq1-clause-err : goal.returns-else-entry-eq1-clause-err
returns-else-entry-eq1-clause-err g c = search rules

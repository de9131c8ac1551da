use Rattle.std.proofs.Common.{arith}
use Rattle.bw_commands.proofs.TextLemmas.{file_step, no_file_left}
use Rattle.bw_commands.proofs.text.put_files.Goals as goal

pub loop-place-preserved : goal.loop-place-preserved
loop-place-preserved c =
    let count = c.name_count-place-end.ensures.count in
    let within = c.loop-place-test.true in
    file_step _ _ c.loop-place.place _ _ _ (omega (arith, count, within)) c.loop-place.invariant
    c.in_ok-put_file_at.ensures

pub returns-clause-files : goal.returns-clause-files
returns-clause-files c =
    let count = c.name_count-place-end.ensures.count in
    let past = c.loop-place-test.false in
    no_file_left _ _ c.loop-place.place _ _ (omega (arith, count, past)) c.loop-place.invariant

use Rattle.bw_repair.proofs.KeptChunks.{has_room, keep_leaves, keep_refusal, kept_whole}
use Rattle.bw_repair.proofs.left_out.making.make_left.Goals as goal

pub returns-in-Ok-put_file-clause-ok : goal.returns-in-Ok-put_file-clause-ok
returns-in-Ok-put_file-clause-ok g c = λ b e.
    kept_whole g.D.Disk b c.args.to.now c.args.sections.now _ _ _ (c.requires b e)
    (c.new-reader.ensures b (c.in-Ok.ensures.ok b e)) c.in-Ok-put_file.ensures.ok

pub returns-in-Err-put_file-clause-err : goal.returns-in-Err-put_file-clause-err
returns-in-Err-put_file-clause-err g c = λ b e.
    keep_refusal b c.args.sections.now c.in-Err-put_file.fault (c.requires b e)
    (c.in-Err-put_file.ensures.err _ (c.new-reader.ensures b (c.in-Ok.ensures.ok b e))
    (has_room b c.args.sections.now (c.requires b e))).reason

pub returns-in-Err-put_file-clause-left : goal.returns-in-Err-put_file-clause-left
returns-in-Err-put_file-clause-left g c = λ b e.
    let stops = c.in-Err-put_file.ensures.err _ (c.new-reader.ensures b (c.in-Ok.ensures.ok b e))
    (has_room b c.args.sections.now (c.requires b e)) in
    keep_leaves g.D.Disk b c.args.to.now c.args.sections.now c.in-Err-put_file.fault.kind _ _ (c.requires b e)
    stops.leaves stops.other

use Rattle.bw_repair.proofs.Converted.{four, left_named, made_whole, refusal}
use Rattle.bw_repair.proofs.conversions.conversion.copy_file.Goals as goal

pub returns-in-Ok-make_file-clause-ok : goal.returns-in-Ok-make_file-clause-ok
returns-in-Ok-make_file-clause-ok g c = λ b e.
    let is = c.requires b e in
    made_whole g.D.Disk b c.args.to.now c.args.form c.id.result c.in-Ok-make_file.len _ _ _ is c.id.ensures
    (c.without_id-reader.ensures b (c.in-Ok.ensures.ok b e) (four c.args.form b is)) c.in-Ok-make_file.ensures.ok

pub returns-clause-err : goal.returns-clause-err
returns-clause-err g c = λ b e.
    let is = c.requires b e in
    refusal b c.args.form c.in-Err-make_file.fault is
    (c.in-Err-make_file.ensures.err _
    (c.without_id-reader.ensures b (c.in-Ok.ensures.ok b e) (four c.args.form b is))).reason

pub returns-clause-left : goal.returns-clause-left
returns-clause-left g c = λ b e.
    let is = c.requires b e in
    left_named g.D.Disk b c.args.to.now c.args.form c.id.result c.in-Err-make_file.fault.kind _ _ c.id.ensures
    (c.in-Err-make_file.ensures.err _
    (c.without_id-reader.ensures b (c.in-Ok.ensures.ok b e) (four c.args.form b is))).leaves

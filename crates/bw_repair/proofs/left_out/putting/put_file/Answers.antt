use Rattle.std.proofs.Common.{rules, List, ℕ, Option, subst}
use Rattle.bw_disk.specs.Volumes.{Finds}
use Rattle.bw_repair.proofs.PutFiles.{found_stops, made_stops}
use Rattle.bw_repair.proofs.left_out.putting.put_file.Goals as goal

pub returns-in-Ok-None-clause-err : goal.returns-in-Ok-None-clause-err
returns-in-Ok-None-clause-err g c = λ b e long.
    made_stops g.D.Disk c.args.to.now b c.args.id c.args.disk.now c.open.new.self c.make_file.new.disk c.open.ensures.honest
    (λ h. c.open.ensures.contents h c.args.to.now) c.in-Err-make_file.fault
    (λ h. subst (λ x. Finds g.D.Disk.path_of c.args.to.now x (g.D.Disk.contents c.args.disk.now c.args.to.now))
    c.in-Ok-None.field-0-is (c.in-Ok-None.ensures.found h)) (c.in-Err-make_file.ensures.err b e)

pub returns-in-Ok-Some-clause-err : goal.returns-in-Ok-Some-clause-err
returns-in-Ok-Some-clause-err g c =
    found_stops g.D.Disk c.args.to.now c.args.id c.args.disk.now c.open.new.self c.find_file.new.disk c.find_file.result _ _
    c.open.ensures.honest (λ h. c.open.ensures.contents h c.args.to.now)
    (λ h. (subst (λ x. Finds g.D.Disk.path_of c.args.to.now x (g.D.Disk.contents c.args.disk.now c.args.to.now))
    c.in-Ok-Some.field-0-is (c.in-Ok-Some.ensures.found h)).1) c.find_file.ensures.err

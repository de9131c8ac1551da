use Rattle.std.proofs.Common.{rules, ◌∙◌, IsTrue, ap, subst, sym, Bool}
use Rattle.bw_store.specs.Stores.{overwritten}
use Rattle.bw_repair.specs.Comparisons.{Compares}
use Rattle.bw_repair.proofs.PutFiles.{found, named_left, other_there}
use Rattle.bw_repair.proofs.left_out.putting.find_file.Goals as goal

pub returns-in-Ok-clause-ok : goal.returns-in-Ok-clause-ok
returns-in-Ok-clause-ok g c = λ b e long.
    let path = g.D.Disk.path_of c.args.file.now in
    let whole = c.holds_all.ensures.rest in
    let at = c.holds_all.ensures.path in
    found g.D.Disk path b c.args.id _ _ c.requires
    (λ h. subst (λ (v : Bool). Compares (g.D.Disk.contents c.args.disk.now path) (overwritten b 0 c.args.id) v)
    c.in-Ok-true.field-0-test (c.in-Ok-true.ensures.ok h _
    (named_left g.R.Source.left _ c.args.reader _ _ c.args.id b c.new-named.ensures.inner c.new-named.ensures.ahead
    c.new-named.ensures.others (search rules) long e)))
    (λ h. c.sync.ensures.unchanged (subst IsTrue (sym whole.honest) h) path ∙ whole.contents h path)
    (λ h.
    ap (g.D.Disk.synced c.sync.new.self) (sym at)
    ∙ (c.in-Ok.ensures.synced (subst IsTrue (sym whole.honest) h)).reported
    ∙ ap (g.D.Disk.contents c.holds_all.new.disk) at ∙ whole.contents h path)

pub returns-in-Ok-false-clause-err : goal.returns-in-Ok-false-clause-err
returns-in-Ok-false-clause-err g c = λ b e long.
    let path = g.D.Disk.path_of c.args.file.now in
    other_there g.D.Disk path b c.args.id _ _ _ c.fault_at-in-Ok-false.ensures c.requires
    (λ h. subst (λ (v : Bool). Compares (g.D.Disk.contents c.args.disk.now path) (overwritten b 0 c.args.id) v)
    c.in-Ok-false.field-0-test (c.in-Ok-false.ensures.ok h _
    (named_left g.R.Source.left _ c.args.reader _ _ c.args.id b c.new-named.ensures.inner c.new-named.ensures.ahead
    c.new-named.ensures.others (search rules) long e)))
    (λ h. c.holds_all.ensures.rest.contents h path)

use Rattle.std.proofs.Common.{◌≡◌, ℕ, List, Some, IsTrue, sym, ◌∙◌, subst}
use Rattle.bw_recovery.specs.Adoptions.{with_header, shortened}
use Rattle.bw_recovery.specs.Changes.{KeepsSamples}
use Rattle.bw_recovery.proofs.PartForms.{kept_then, mended_length}
use Rattle.bw_recovery.proofs.mending.mend.Goals as goal

pub returns-in_err-put_header-clause-part : goal.returns-in_err-put_header-clause-part
returns-in_err-put_header-clause-part g c = λ honest place count found is around.
    c.in_err-put_header.ensures.part honest place count found is around.front around.long

pub returns-in_err-cut_file-clause-part : goal.returns-in_err-cut_file-clause-part
returns-in_err-cut_file-clause-part g c = λ honest place count found is around.
    let p = c.in_ok-put_header.ensures in
    let h1 = subst IsTrue (sym p.honest) honest in
    let path = g.D.Disk.path_of c.args.file.now in
    kept_then place count found (g.D.Disk.contents c.put_header.new.disk path) (g.D.Disk.contents c.cut_file.new.disk path)
    (p.part honest place count found is around.front around.long)
    (λ between at long. subst (λ (q : List ℕ). KeepsSamples place count between (g.D.Disk.contents c.cut_file.new.disk q)) p.path
    (c.in_err-cut_file.ensures.part h1 place count between
    (subst (λ (q : List ℕ). g.D.Disk.contents c.put_header.new.disk q ≡ Some between) (sym p.path) at) long around.cut))

pub returns-clause-part : goal.returns-clause-part
returns-clause-part g c = λ honest place count found is around.
    let p = c.in_ok-put_header.ensures in
    let q = c.in_ok-cut_file.ensures in
    let h1 = subst IsTrue (sym p.honest) honest in
    let h2 = subst IsTrue (sym q.honest) h1 in
    let path = g.D.Disk.path_of c.args.file.now in
    let path2 : g.D.Disk.path_of c.cut_file.new.file ≡ path = q.path ∙ p.path in
    let C1 = g.D.Disk.contents c.put_header.new.disk in
    let C2 = g.D.Disk.contents c.cut_file.new.disk in
    let C3 = g.D.Disk.contents c.put_pad.new.disk in
    let headed : List ℕ = with_header c.args.mending.now.header c.args.header.now found in
    let shorter : List ℕ = shortened c.args.mending.now.cut headed in
    let cut : C2 path ≡ Some shorter = subst (λ (x : List ℕ). C2 x ≡ Some shorter) p.path
    (q.ok h1 headed (subst (λ (x : List ℕ). C1 x ≡ Some headed) (sym p.path) (p.ok honest found is))) in
    kept_then place count found (C2 path) (C3 path)
    (kept_then place count found (C1 path) (C2 path) (p.part honest place count found is around.front around.long)
    (λ between at long. subst (λ (x : List ℕ). KeepsSamples place count between (C2 x)) p.path
    (q.part h1 place count between (subst (λ (x : List ℕ). C1 x ≡ Some between) (sym p.path) at) long around.cut)))
    (λ between at long. subst (λ (x : List ℕ). KeepsSamples place count between (C3 x)) path2
    (c.put_pad.ensures.part h2 place count between (subst (λ (x : List ℕ). C2 x ≡ Some between) (sym path2) at) long
    (λ pads. mended_length place count c.args.mending.now c.args.header.now found between around (sym cut ∙ at) pads)))

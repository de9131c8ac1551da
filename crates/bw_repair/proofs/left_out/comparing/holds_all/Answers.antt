use Rattle.std.proofs.Common.{rules, arith, IsTrue, ap, subst, sym, ◌∙◌, ◌≡◌}
use Rattle.bw_disk.proofs.DiskChains.{stays_twice}
use Rattle.bw_repair.proofs.PieceCompares.{differs, ended, more}
use Rattle.bw_repair.proofs.left_out.comparing.holds_all.Goals as goal

pub returns-then-count-eq0-clause-ok : goal.returns-then-count-eq0-clause-ok
returns-then-count-eq0-clause-ok g c = λ honest.
    let i = c.loop-place.invariant in
    let now = subst IsTrue (sym i.rest.honest) honest in
    let path = g.D.Disk.path_of c.args.file.now in
    let same : g.D.Disk.contents c.loop-place.disk (g.D.Disk.path_of c.loop-place.file)
    ≡ g.D.Disk.contents c.args.disk.now path =
    ap (g.D.Disk.contents c.loop-place.disk) i.path ∙ i.rest.contents honest path in
    ended c.ends_at.result _ _ _ c.loop-place.place _ c.in-Ok.count c.read.new.buf _ _
    (λ w is. i.bytes honest w is) (λ xs is. c.in-Ok.ensures.ok xs is) same c.if-count-eq0.true (search rules)
    (c.ends_at.ensures.ok now)

pub returns-then-not-branch-clause-ok : goal.returns-then-not-branch-clause-ok
returns-then-not-branch-clause-ok g c = λ honest w is.
    let i = c.loop-place.invariant in
    let now = subst IsTrue (sym i.rest.honest) honest in
    let path = g.D.Disk.path_of c.args.file.now in
    let same : g.D.Disk.contents c.loop-place.disk (g.D.Disk.path_of c.loop-place.file)
    ≡ g.D.Disk.contents c.args.disk.now path =
    ap (g.D.Disk.contents c.loop-place.disk) i.path ∙ i.rest.contents honest path in
    let far = i.bytes honest w is in
    differs _ _ w c.loop-place.place _ c.in-Ok.count c.read.new.buf _ c.in_ok-has_piece.field-0 _ _ far
    (c.in-Ok.ensures.ok _ far.rest) same (search rules) (c.in_ok-has_piece.ensures.ok now) (search rules)

pub loop-place-preserved : goal.loop-place-preserved
loop-place-preserved g c =
    let i = c.loop-place.invariant in
    record {
      room = search rules;
      near = search rules;
      path = search rules;
      failures = search rules;
      rest = stays_twice g.D.Disk c.args.disk.now c.loop-place.disk c.has_piece.new.disk i.rest c.has_piece.ensures.rest;
      bytes = λ honest w is.
          let now = subst IsTrue (sym i.rest.honest) honest in
          let path = g.D.Disk.path_of c.args.file.now in
          let same : g.D.Disk.contents c.loop-place.disk (g.D.Disk.path_of c.loop-place.file)
          ≡ g.D.Disk.contents c.args.disk.now path =
          ap (g.D.Disk.contents c.loop-place.disk) i.path ∙ i.rest.contents honest path in
          let far = i.bytes honest w is in
          more _ _ w c.loop-place.place _ c.in-Ok.count c.read.new.buf _ c.in_ok-has_piece.field-0 _ _ far
          (c.in-Ok.ensures.ok _ far.rest) same (search rules) (c.in_ok-has_piece.ensures.ok now) (search rules);
    }

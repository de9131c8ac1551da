use Rattle.std.proofs.Common.{rules, arith, ◌≡◌, ◌≤◌, ◌-◌, IsTrue, length, drop, sym, ap, ◌∙◌, subst}
use Rattle.std.specs.Prelude.{option_map}
use Rattle.bw_disk.specs.DiskSteps.{StaysWhole}
use Rattle.bw_disk.proofs.PrefixReads.{read_more}
use Rattle.bw_disk.proofs.DiskChains.{stays_twice}
use Rattle.bw_take_files.proofs.SampleLemmas.{past}
use Rattle.bw_take_files.proofs.bodies.read_from.Goals as goal

pub loop-count-preserved : goal.loop-count-preserved
loop-count-preserved g c =
    let was = c.loop-count.invariant in
    let stays : StaysWhole g.D.Disk c.loop-count.disk c.read_at.new.self = record {
      honest = c.read_at.ensures.honest;
      contents = c.read_at.ensures.contents;
      synced = c.read_at.ensures.synced;
    } in
    let len : length c.read_at.new.room ≡ length c.loop-count.room - c.loop-count.count = search rules in
    let fits : c.in-Ok.more ≤ length c.loop-count.room - c.loop-count.count = search rules in
    let small = was.fits in
    record {
      fits = grind (arith, len, fits, small);
      room = grind (arith, len, fits, small, was.room);
      path = c.read_at.ensures.path ∙ was.path;
      failures = search rules;
      disk = stays_twice g.D.Disk c.args.disk.now c.loop-count.disk c.read_at.new.self was.disk stays;
      read = λ honest.
          let now = subst IsTrue (sym was.disk.honest) honest in
          let place = c.args.offset in
          let content = g.D.Disk.contents c.args.disk.now (g.D.Disk.path_of c.args.file.now) in
          let same : g.D.Disk.contents c.loop-count.disk (g.D.Disk.path_of c.loop-count.file) ≡ content =
          ap (g.D.Disk.contents c.loop-count.disk) was.path
          ∙ was.disk.contents honest (g.D.Disk.path_of c.args.file.now) in
          read_more (option_map (drop place) content) _ c.loop-count.room c.read_at.new.room _ c.loop-count.count
          c.in-Ok.more _ small (omega (arith, len, fits)) (was.read honest) (ap (option_map (drop place)) same)
          (past _ place c.loop-count.count _ c.in-Ok.more c.read_at.new.room (c.in-Ok.ensures.read now));
    }

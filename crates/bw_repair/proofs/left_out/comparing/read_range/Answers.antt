use Rattle.std.proofs.Common.{rules, arith, ◌≡◌, ◌≤◌, ◌-◌, IsTrue, drop, length, sym, ap, ◌∙◌, subst}
use Rattle.std.specs.Prelude.{option_map}
use Rattle.bw_disk.specs.Volumes.{ReadsFrom}
use Rattle.bw_disk.proofs.PrefixReads.{read_more}
use Rattle.bw_disk.proofs.DiskChains.{stays_on}
use Rattle.bw_repair.proofs.RangeReads.{from_place}
use Rattle.bw_repair.proofs.left_out.comparing.read_range.Goals as goal

pub loop-count-preserved : goal.loop-count-preserved
loop-count-preserved g c =
    let was = c.loop-count.invariant in
    let len : length c.read_at.new.room ≡ length c.loop-count.room - c.loop-count.count = search rules in
    let fits : c.in_ok-more.more ≤ length c.loop-count.room - c.loop-count.count = search rules in
    let small = was.0 in (
      grind (arith, len, fits, small),
      grind (arith, len, fits, small, was.1),
      c.read_at.ensures.path ∙ was.2,
      search rules,
      stays_on g.D.Disk c.args.disk.now c.loop-count.disk c.read_at.new.self was.4 c.read_at.ensures.honest
          c.read_at.ensures.contents c.read_at.ensures.synced,
      λ honest.
          let now = subst IsTrue (sym was.4.honest) honest in
          let same : g.D.Disk.contents c.loop-count.disk (g.D.Disk.path_of c.loop-count.file)
          ≡ g.D.Disk.contents c.args.disk.now (g.D.Disk.path_of c.args.file.now) =
          ap (g.D.Disk.contents c.loop-count.disk) was.2
          ∙ was.4.contents honest (g.D.Disk.path_of c.args.file.now) in
          read_more (option_map (drop c.args.place) (g.D.Disk.contents c.args.disk.now (g.D.Disk.path_of c.args.file.now))) _
          c.loop-count.room c.read_at.new.room _ c.loop-count.count c.in_ok-more.more _ small (omega (arith, len, fits))
          (was.5 honest) (ap (option_map (drop c.args.place)) same)
          (from_place _ c.args.place c.loop-count.count _ _ _ (c.in_ok-more.ensures.read now)),
    )

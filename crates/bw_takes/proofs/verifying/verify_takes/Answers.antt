use Rattle.std.proofs.Common.{◌≡◌, ℕ, List, [], arith, false, refl, rules, subst, sym}
use Rattle.std.proofs.lemmas.Result.{IfOk-weaker}
use Rattle.bw_disk.proofs.DiskChains.{stays_twice}
use Rattle.bw_takes.specs.ReadCounts.{Rises, has_lines}
use Rattle.bw_takes.specs.VerifiedTakes.{verified_by}
use Rattle.bw_takes.proofs.ReadCountLemmas.{rises_none}
use Rattle.bw_takes.proofs.VerifyingLemmas.{VerifiesOf, counts_end, verified_same, verifies_all}
use Rattle.bw_takes.proofs.VerifyingLemmas.{verifies_next, verifies_none}
use Rattle.bw_takes.proofs.verifying.verify_takes.Goals as goal

pub loop-receipt-init : goal.loop-receipt-init
loop-receipt-init g c =
    let a = c.args in
    let contents = g.D.Disk.contents a.disk.now in
    let lines : c.new.result.items ≡ [] = search rules in
    let unread : c.new-2.result.items ≡ [] = search rules in
    record {
      few = omega arith;
      counted = subst (λ (xs : List ℕ). Rises (g.D.Disk.failures a.disk.now) (g.D.Disk.failures c.list.new.self)
          (has_lines xs)) (sym unread)
          (subst (λ (n : ℕ). Rises (g.D.Disk.failures a.disk.now) n false)
          (sym (c.in_ok-_listed.ensures.call.failed.quiet refl)) (rises_none (g.D.Disk.failures a.disk.now)));
      disk = search rules;
      tells = λ honest.
          subst (VerifiesOf a.folder.now contents [])
          (sym (verified_same c.new.result.items [] c.new-2.result.items [] 0 0 lines unread refl))
          (verifies_none a.folder.now contents);
    }

pub loop-receipt-preserved : goal.loop-receipt-preserved
loop-receipt-preserved g c =
    let i = c.loop-receipt.invariant in
    let r = c.in_ok-verify_take.ensures in
    let a = c.args in
    record {
      few =
          let before = i.few in
          let more = r.few in
          omega (arith, before, more);
      counted = r.counted (g.D.Disk.failures a.disk.now) i.counted;
      disk = stays_twice g.D.Disk _ _ _ i.disk r.disk;
      tells = λ honest. verifies_next g.D.Disk a.folder.now a.disk.now c.loop-receipt.disk i.disk honest
          a.receipts.now c.loop-receipt.receipt-index c.receipt-item.result _ _ c.loop-receipt-test.true c.receipt-item.is
          (i.tells honest) r.told;
    }

pub returns-clause-report : goal.returns-clause-report
returns-clause-report g c = λ honest.
    let i = c.loop-receipt.invariant in
    IfOk-weaker c.end_report.result _ _
    (λ report is. verifies_all c.args.folder.now (g.D.Disk.contents c.args.disk.now) c.args.receipts.now
    c.loop-receipt.receipt-index _ _ _ c.loop-receipt-test.false (search rules) (i.tells honest) is)
    c.end_report.ensures.told

pub returns-clause-failures : goal.returns-clause-failures
returns-clause-failures g c =
    counts_end (g.D.Disk.failures c.args.disk.now) _ c.end_report.result _ c.loop-receipt.invariant.counted
    c.end_report.ensures.unread c.end_report.ensures.memory

use Rattle.std.proofs.Common.{inl, inr, refl, sym}
use Rattle.bw_disk.proofs.DiskChains.{stays_twice}
use Rattle.bw_takes.proofs.EndLemmas.{is_out_of_memory, out_of_memory}
use Rattle.bw_takes.proofs.ReceiptLemmas.{checked_by}
use Rattle.bw_takes.proofs.receipts.show_verified.Goals as goal

pub returns-in-Ok : goal.returns-in-Ok
returns-in-Ok g c =
    let p = c.print_verified.ensures in (
      p.0,
      p.1,
      inl (
        c.in-Ok.receipts.items,
        c.in-Ok.ensures.read.0,
        checked_by g.D.Disk _ _ c.deref.ensures.value _ _ _ _ _ c.receipts_at.ensures.disk c.in-Ok.ensures.read.1 p.2,
      ),
      stays_twice g.D.Disk _ _ _ c.receipts_at.ensures.disk p.3,
      p.4,
    )

pub returns-in-Err-Memory : goal.returns-in-Err-Memory
returns-in-Err-Memory g c =
    let l = c.give_up.ensures.line in (
      out_of_memory l.0,
      sym c.give_up.ensures.exit,
      inr (inr (inr (is_out_of_memory l.0 l.1))),
      c.receipts_at.ensures.disk,
      record { printed = refl; reported = l.2 },
    )

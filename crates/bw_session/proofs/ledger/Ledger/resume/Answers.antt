use Rattle.bw_journal.specs.Rows.{row_count}
use Rattle.bw_session.proofs.Packing.{codes_hold}
use Rattle.bw_session.proofs.ledger.Ledger.resume.Goals as goal

pub invariant_of-result : goal.invariant_of-result
invariant_of-result c = record {
  whole = c.requires.whole;
  coded = codes_hold (row_count c.args.table.items) c.args.table.items c.requires.coded;
}

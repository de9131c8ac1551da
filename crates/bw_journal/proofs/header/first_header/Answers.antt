use Rattle.bw_journal.proofs.HeaderWrites.{short_none}
use Rattle.bw_journal.proofs.header.first_header.Goals as goal

pub returns-then-bytes-lt-LEN-clause-value : goal.returns-then-bytes-lt-LEN-clause-value
returns-then-bytes-lt-LEN-clause-value c = short_none c.args.bytes.now c.if-bytes-lt-LEN.true

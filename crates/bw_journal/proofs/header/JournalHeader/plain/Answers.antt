use Rattle.std.proofs.Common.{rules}
use Rattle.bw_journal.specs.HeaderRefs.{header_said}
use Rattle.bw_journal.proofs.HeaderWrites.{plain_written}
use Rattle.bw_journal.proofs.header.JournalHeader.plain.Goals as goal

pub returns : goal.returns
returns c =
    plain_written c.copy_from_slice.new.self c.copy_from_slice-2.new.self c.args.name.now (header_said c.args.self.now)
    (search rules) (search rules)

use Rattle.std.proofs.Common.{rules}
use Rattle.bw_takes.proofs.listing.put_unread.Goals as goal

pub returns-in-Ok-extend_from_slice-clause-unread : goal.returns-in-Ok-extend_from_slice-clause-unread
returns-in-Ok-extend_from_slice-clause-unread g c = (c.in_ok-entry.entry, search rules)

use Rattle.bw_journal.proofs.HeaderReads.{headers_read_back, cut_headers_are_not_begun, headers_are_clean, torn_headers_are_not_begun}
use Rattle.bw_journal.proofs.HeaderStands.{read_headers_stand}
use Rattle.bw_journal.proofs.laws.law_headers.Goals as goal

pub returns : goal.returns
returns c = search (headers_read_back, read_headers_stand, cut_headers_are_not_begun, headers_are_clean, torn_headers_are_not_begun)

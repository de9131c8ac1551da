use Rattle.std.proofs.Common.{inl, inr, refl, rules, sym}
use Rattle.bw_takes.proofs.ReceiptLemmas.{path_read, rises_failed}
use Rattle.bw_takes.proofs.receipts.receipts_at.Goals as goal

pub returns-in-Ok-Some-clause-read : goal.returns-in-Ok-Some-clause-read
returns-in-Ok-Some-clause-read g c = search (rules, path_read)

use Rattle.std.proofs.Common.{◌≢◌, take}
use Rattle.std.specs.List.{All}
use Rattle.bw_report.proofs.stored.is_among.Given as goal

-- none so far is the receipt
abbrev pub invariant-loop-kept : goal.invariant-loop-kept
invariant-loop-kept l = All (λ kept. kept ≢ l.receipt) (take l.kept-index l.receipts)

use Rattle.std.proofs.Common.{◌≢◌, take}
use Rattle.std.specs.List.{All}
use Rattle.bw_report.proofs.stored.is_named.Given as goal

-- none so far has the name
abbrev pub invariant-loop-kept : goal.invariant-loop-kept
invariant-loop-kept l = All (λ kept. kept.name ≢ l.name) (take l.kept-index l.receipts)

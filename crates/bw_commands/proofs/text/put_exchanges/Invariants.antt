use Rattle.std.proofs.Common.{◌≡◌, List, ◌++◌, drop}
use Rattle.bw_commands.specs.Runs.{ReportedExchange, AllReport}
use Rattle.bw_commands.specs.Text.{exchanges_text}
use Rattle.bw_commands.proofs.text.put_exchanges.Given as goal

abbrev pub invariant-loop-index : goal.invariant-loop-index
invariant-loop-index l = (reported : List ReportedExchange) → AllReport l.replies l.ends reported →
    (left : List ReportedExchange) × AllReport (drop l.index l.replies) (drop l.index l.ends) left
    × (l.out.items ++ exchanges_text l.index left ≡ l.fn.out.items ++ exchanges_text 0 reported)

use Rattle.std.proofs.Common.{◌∙◌}
use Rattle.std.proofs.lemmas.Result.{IfOk-weaker}
use Rattle.bw_report.proofs.EntryLemmas.{contents_joined}
use Rattle.bw_report.proofs.entry.people_entry.Goals as goal

pub returns-in_ok-text-in-Read-2 : goal.returns-in_ok-text-in-Read-2
returns-in_ok-text-in-Read-2 c =
    rw c.in-Read.is (IfOk-weaker c.with_contents.result _ _ (λ v h.
    h ∙ contents_joined _ _ _ _ _ _ _ c.in_ok-text-in-Read-2.ensures c.in_ok-text-in-Read.ensures
    c.in_ok-text.ensures) c.with_contents.ensures)

use Rattle.bw_kept.proofs.FoundForms.{absent}
use Rattle.bw_kept.proofs.finding.close_unknown.Goals as goal

pub returns-then-not-is_known-clause-kept : goal.returns-then-not-is_known-clause-kept
returns-then-not-is_known-clause-kept g c = record {
  counts = c.close_files.ensures.counts;
  books = λ honest honest_notes first book h.
      c.close_files.ensures.books honest honest_notes first book h
      (absent _ _ c.is_known.ensures.kept c.if-not-is_known.true);
  committed = c.close_files.ensures.committed;
}

use Rattle.std.proofs.Common.{◌∙◌, List, Option, ap, inr, sym, ℕ}
use Rattle.bw_report.proofs.StoredLemmas.{found_after, unreadable}
use Rattle.bw_report.proofs.stored.receipt_of.Goals as goal

pub returns-in-Ok-inspect-clause-receipt : goal.returns-in-Ok-inspect-clause-receipt
returns-in-Ok-inspect-clause-receipt g c =
    let path = c.args.path.now in
    let same = ap (λ (f : List ℕ → Option (List ℕ)). f path) c.in-Ok.ensures.files in
    found_after g.F.File.Source _ _ _ _ _ c.hashed.result c.args.name.now same c.in-Ok.ensures.count
    (c.hashed.ensures.receipt (λ b e. (_, c.in-Ok-inspect.ensures.ok b (c.in-Ok.ensures.ok b (sym same ∙ e)))))

pub returns : goal.returns
returns g c = record {
  files = c.in-Ok.ensures.files;
  receipt = inr (
    c.in-Ok.ensures.count,
    λ b e.
        let there = c.in-Ok.ensures.ok b e in
        unreadable g.F.File.Source b c.in-Err.fault c.in-Ok.file c.inspect.new.reader there
        c.in-Err.ensures.consumed.failures (c.in-Err.ensures.err b there).fault c.in_default-kind.not-Memory,
  );
}

use Rattle.std.proofs.Common.{◌∙◌, ap, inl, inr}
use Rattle.bw_report.specs.Receipts.{receipt_with}
use Rattle.bw_report.proofs.SampleLemmas.{has_samples}
use Rattle.bw_report.proofs.stored.hashed.Goals as goal

pub returns-in-Ok-report_digest-clause-receipt : goal.returns-in-Ok-report_digest-clause-receipt
returns-in-Ok-report_digest-clause-receipt g c = λ given. (
  (λ b e.
      let gives = (given b e).1 in (
        c.args.report.now,
        record { reading_is = gives.reading_is; is = gives.reports },
        c.receipt_under.ensures ∙ ap (receipt_with c.args.name.now c.args.report.now)
            (c.in-Ok-report_digest.ensures.ok b (c.in-Ok.ensures.ok b e)),
      )),
  c.in-Ok.ensures.count,
)

pub returns-clause-receipt : goal.returns-clause-receipt
returns-clause-receipt g c = λ given. inr (
  c.in-Ok.ensures.count,
  λ b e. inl (record {
    opened = c.in-Ok.file;
    left = c.report_digest.new.reader;
    of_bytes = c.in-Ok.ensures.ok b e;
    failed = c.in-Err.ensures.failed b (c.in-Ok.ensures.ok b e) (has_samples b c.args.report.now (given b e));
  }),
)

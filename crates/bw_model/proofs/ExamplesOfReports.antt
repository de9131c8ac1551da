-- The worked rows compute: the text of a report.
use Rattle.std.proofs.Common.{refl}
use Rattle.bw_model.proofs.Computing.{computing}
use Rattle.bw_model.specs.ExamplesOfReports.{ReportRf64Example, ReportTabledExample, ReportSmallExample, ReportLoudnessExample}
use Rattle.bw_model.specs.ExamplesOfReports.{ReportMarkedExample}

pub report_rf64 : ReportRf64Example
unfolding computing
report_rf64 = refl

pub report_tabled : ReportTabledExample
unfolding computing
report_tabled = refl

pub report_small : ReportSmallExample
unfolding computing
report_small = refl

pub report_loudness : ReportLoudnessExample
unfolding computing
report_loudness = refl

pub report_marked : ReportMarkedExample
unfolding computing
report_marked = refl

-- all of them
pub ruleset rows = (report_rf64, report_tabled, report_small, report_loudness, report_marked)

use Rattle.std.proofs.Common.{string_bytes}
use Rattle.bw_send_file.specs.StateReports.{unkept_text}
use Rattle.bw_console.proofs.OpeningLemmas.{reasoned}
use Rattle.bw_send_file.proofs.reports.unkept_line.Goals as goal

pub returns : goal.returns
returns c = reasoned c.line_with.result string_bytes (unkept_text c.args.path.now) _ c.line_with.ensures

use Rattle.std.proofs.Common.{rules}
use Rattle.bw_serve.proofs.reporting.report_link.Goals as goal

pub returns-in-Ok : goal.returns-in-Ok
returns-in-Ok g c = search rules

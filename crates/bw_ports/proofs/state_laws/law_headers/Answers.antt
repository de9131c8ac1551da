use Rattle.bw_ports.proofs.HeaderWords.{headers_apart, headers_lines}
use Rattle.bw_ports.proofs.state_laws.law_headers.Goals as goal

pub returns-clause-line : goal.returns-clause-line
returns-clause-line c = headers_lines

pub returns-clause-apart : goal.returns-clause-apart
returns-clause-apart c = headers_apart

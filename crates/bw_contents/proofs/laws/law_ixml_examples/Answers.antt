use Rattle.bw_contents.proofs.ExamplesOfIxml.{ixml_example, malformed_ixml_example}
use Rattle.bw_contents.proofs.laws.law_ixml_examples.Goals as goal

pub returns-clause-whole : goal.returns-clause-whole
returns-clause-whole c = ixml_example

pub returns-clause-malformed : goal.returns-clause-malformed
returns-clause-malformed c = malformed_ixml_example

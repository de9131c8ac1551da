use Rattle.bw_model.proofs.PrefixLaws.{prefixes}
use Rattle.bw_model.proofs.EndLaws.{readings}
use Rattle.bw_model.proofs.law_prefix.Goals as goal

pub returns : goal.returns
returns c = record { prefix = prefixes; reading = readings }

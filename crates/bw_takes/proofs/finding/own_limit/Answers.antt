use Rattle.std.proofs.Common.{◌∙◌, ap, ℕ, List, drop, take}
use Rattle.hex.specs.Hex.{decode_sized}
use Rattle.bw_takes.specs.TakeLines.{own_limit, limit_spelled}
use Rattle.bw_takes.proofs.finding.own_limit.Goals as goal

pub returns : goal.returns
unfolding own_limit
returns c = c.limit_spelled.ensures
    ∙ ap (λ (xs : List ℕ). limit_spelled (decode_sized (take 8 (drop 4 xs)) 4)) c.front_of-front.ensures

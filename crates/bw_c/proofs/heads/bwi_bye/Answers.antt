use Rattle.std.proofs.Common.{◌≡◌, ◌<◌, length, ℕ, arith}
use Rattle.bw_model.specs.Wire.{Bye}
use Rattle.bw_c.proofs.HeadLaws.{spelled_wrote, spelled_some, spelled_none}
use Rattle.bw_c.proofs.heads.bwi_bye.Goals as goal

pub returns-clause-wrote : goal.returns-clause-wrote
returns-clause-wrote c =
    spelled_wrote Bye c.bye_of.result.items _ _ _ c.bye_of.ensures.frame c.put.ensures.room c.put.ensures.full

pub returns-clause-some : goal.returns-clause-some
returns-clause-some c =
    spelled_some Bye c.bye_of.result.items _ _ _ c.bye_of.ensures.frame c.bye_of.ensures.some c.put.ensures.room
    c.put.ensures.full

pub returns-clause-none : goal.returns-clause-none
returns-clause-none c =
    spelled_none c.bye_of.result.items _ _ _ c.bye_of.ensures.some c.put.ensures.room c.put.ensures.full

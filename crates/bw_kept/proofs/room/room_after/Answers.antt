use Rattle.std.proofs.Common.{sym, ◌∙◌}
use Rattle.bw_kept.proofs.room.room_after.Goals as goal

pub returns-then-full-clause-full : goal.returns-then-full-clause-full
returns-then-full-clause-full g c = λ full first book h.
    sym (c.is_full-full.ensures.value first book h) ∙ c.if-full.true

pub returns-else-full-clause-place : goal.returns-else-full-clause-place
returns-else-full-clause-place g c = λ free first book h. sym (c.is_full-full.ensures.value first book h) ∙ c.if-full.false

pub returns-else-full-2-clause-place : goal.returns-else-full-2-clause-place
returns-else-full-2-clause-place g c = λ free first book h.
    sym (c.is_full-full.ensures.value first book h) ∙ c.if-full-2.false

pub returns-else-full-3-clause-place : goal.returns-else-full-3-clause-place
returns-else-full-3-clause-place g c = λ free first book h.
    sym (c.is_full-full.ensures.value first book h) ∙ c.if-full-3.false

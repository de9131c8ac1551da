-- What of a file a recording may not lose.
use Rattle.std.specs.Prelude.{Bool, true, false}
use Rattle.bw_plan.specs.declared.options.Strictness.{Strictness}
use Rattle.bw_plan.specs.declared.options.Strictness.TheVariants.{Lenient, Texts, Full}

-- a text that would be cleaned is refused, and a cue point that would be left out: the first of them
-- is the recording's fault
abbrev pub refuses_texts : Strictness → Bool
refuses_texts Lenient = false
refuses_texts Texts = true
refuses_texts Full = false

-- whatever would be lost is refused, after a list of all of it
abbrev pub refuses_losses : Strictness → Bool
refuses_losses Lenient = false
refuses_losses Texts = false
refuses_losses Full = true

-- What a reply is to a sender.
use Rattle.std.specs.Prelude.{ℕ}
use Rattle.bw_model.specs.World as model
use Rattle.bw_sender.specs.declared.heard.Heard.{Heard}
use Rattle.bw_sender.specs.declared.heard.Heard.TheVariants as heards

-- what a reply was, in the definitions' words
abbrev pub heard_of : Heard → model.Heard
heard_of heards.Counted = model.Counted
heard_of heards.Known = model.Known
heard_of heards.Noted = model.Noted
heard_of heards.Stranger = model.Stranger

-- its number
abbrev pub heard_number : Heard → ℕ
heard_number heards.Counted = 1
heard_number heards.Known = 2
heard_number heards.Noted = 3
heard_number heards.Stranger = 4

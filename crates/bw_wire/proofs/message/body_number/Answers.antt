use Rattle.std.proofs.Common.{sym, ◌∙◌, ap, subst}
use Rattle.bw_model.specs.Wire.{number_in}
use Rattle.bw_wire.specs.Addresses.{HasAddress}
use Rattle.bw_wire.specs.Bodies.{body_number}
use Rattle.bw_wire.proofs.message.body_number.Goals as goal

pub after_kind-requires : goal.after_kind-requires
after_kind-requires c = c.requires.some

pub number-requires : goal.number-requires
number-requires c = subst HasAddress (sym c.after_kind.ensures) c.requires.address

pub returns-clause-value : goal.returns-clause-value
unfolding body_number
returns-clause-value c = c.number.ensures ∙ ap number_in c.after_kind.ensures

pub returns-clause-range : goal.returns-clause-range
unfolding body_number
returns-clause-range c = rw (c.number.ensures, c.after_kind.ensures) c.requires.number

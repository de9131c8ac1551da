use Rattle.std.proofs.Common.{◌∙◌, ap}
use Rattle.bw_model.specs.Wire.{name_in, is_name_bad}
use Rattle.bw_wire.specs.Bodies.{body_name}
use Rattle.bw_wire.proofs.message.body_name.Goals as goal

pub after_kind-requires : goal.after_kind-requires
after_kind-requires c = c.requires.some

pub name-requires : goal.name-requires
name-requires c = ap is_name_bad c.after_kind.ensures ∙ c.requires.named

pub returns : goal.returns
unfolding body_name
returns c = c.name.ensures ∙ ap name_in c.after_kind.ensures

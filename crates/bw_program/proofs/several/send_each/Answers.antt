use Rattle.std.proofs.Common.{sym}
use Rattle.bw_program.specs.Sides.{program_world}
use Rattle.bw_program.proofs.SeveralWorlds.{each_alone}
use Rattle.bw_program.proofs.several.send_each.Goals as goal

pub returns : goal.returns
returns g c = rw (sym c.deref.ensures.value, sym c.deref-2.ensures.value) (each_alone _ _ _ _ _ _ _
    (λ x. program_world x.system x.files x.disk x.network x.pause x.input x.out x.faults x.screens x.is_typed x.started)
    c.args.several.now _ _ c.send_in_turn.result c.args.outside.now c.send_in_turn.new.sender c.send_in_turn.ensures)

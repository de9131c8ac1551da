use Rattle.bw_delivery.proofs.ChosenOutcomes.{lines_reported, text_printed}
use Rattle.bw_delivery.proofs.command.rehearse_bytes.Goals as goal

pub returns-in-Ok : goal.returns-in-Ok
returns-in-Ok g c =
    let p = c.print_text.ensures in (
      p.0,
      p.1,
      text_printed c.args.name c.args.limit c.args.input.now c.in-Ok.text.items c.as_slice.result.now p.0
          c.in-Ok.ensures.ok c.as_slice.ensures.value p.2,
      p.2.0,
      p.3,
    )

pub returns-in-Err : goal.returns-in-Err
returns-in-Err g c =
    let l = c.give_up.ensures.line in
    lines_reported g.W.Sink g.E.Sink c.args.name c.args.limit c.args.input.now c.in-Err.fault _ _ _ _ l.0 c.requires
    c.in-Err.ensures.err c.give_up.ensures.exit l.1 l.2

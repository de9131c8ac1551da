use Rattle.std.proofs.Common.{◌∙◌, ap, sym}
use Rattle.std.specs.Option.{option_copied_mut}
use Rattle.bw_sender.proofs.Offering.{judged_set}
use Rattle.bw_sender.proofs.window.Window.judge.Goals as goal

pub returns-clause-judged : goal.returns-clause-judged
returns-clause-judged c =
    rw (← c.self.view_is)
    (judged_set c.self.inside.slots.items c.args.slot c.unwrap-place.result.now c.args.verdict
    (sym c.get_mut.ensures.value ∙ ap option_copied_mut c.unwrap-place.ensures))

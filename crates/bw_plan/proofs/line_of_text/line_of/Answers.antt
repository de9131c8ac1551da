use Rattle.std.proofs.Common.{◌∙◌, sym, arith}
use Rattle.bw_plan.proofs.CleanTexts.{line_ended, line_grown}
use Rattle.bw_plan.proofs.line_of_text.line_of.Goals as goal

pub loop-i-preserved : goal.loop-i-preserved
loop-i-preserved c =
    line_grown c.loop-i.line.items c.put_character.new.line.items c.loop-i.previous c.index-characters-i.result
    c.args.characters.now c.loop-i._i c.loop-i-test.true c.index-characters-i.is c.in_ok-put_character.ensures
    ∙ c.loop-i.invariant

pub returns : goal.returns
returns c =
    sym (line_ended c.loop-i.line.items c.loop-i.previous c.args.characters.now c.loop-i._i
    (omega (arith, c.loop-i-test.false))) ∙ c.loop-i.invariant

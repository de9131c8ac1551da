use Rattle.std.proofs.Common.{◌∙◌, ◌++◌, List, ap, sym}
use Rattle.std.proofs.lemmas.List.{append-nil}
use Rattle.bw_contents.specs.Texts.{Said}
use Rattle.bw_contents.proofs.Parts.{no_part, parts_put}
use Rattle.bw_contents.proofs.list.put_parts.Goals as goal

pub loop-rest-preserved : goal.loop-rest-preserved
loop-rest-preserved c =
    let i = c.loop-rest.invariant in
    parts_put _ _ _ _ _ _ _ c.loop-rest-test.true i.1 c.in_ok-put_part.ensures c.after_part-rest.ensures i.2

pub returns : goal.returns
returns c =
    let i = c.loop-rest.invariant in
    sym (append-nil c.loop-rest.contents.items)
    ∙ ap (λ (s : List Said). c.loop-rest.contents.items ++ s)
    (sym (no_part i.0 c.args.list_type c.loop-rest.rest.now c.loop-rest-test.false)) ∙ i.2

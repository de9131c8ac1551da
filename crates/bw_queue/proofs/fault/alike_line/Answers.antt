use Rattle.std.proofs.Common.{sym, ◌∙◌, ◌++◌, codes}
use Rattle.std.proofs.lemmas.List.{append_assoc}
use Rattle.bw_queue.specs.QueueFaults.{alike_text}
use Rattle.bw_queue.proofs.fault.alike_line.Goals as goal

pub returns : goal.returns
unfolding alike_text
returns c =
    let end = codes ": one name for both: use --names\n" in
    c.in_ok-line.ensures.ok
    ∙ sym (append_assoc (c.args.first.now ++ codes " and ") c.args.second.now end
    ∙ append_assoc c.args.first.now (codes " and ") (c.args.second.now ++ end))

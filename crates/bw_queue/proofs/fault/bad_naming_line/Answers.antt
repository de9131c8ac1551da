use Rattle.std.proofs.Common.{sym, ◌∙◌, ◌++◌, codes, decimal}
use Rattle.std.proofs.lemmas.List.{append_assoc}
use Rattle.bw_queue.specs.QueueFaults.{bad_naming_text}
use Rattle.bw_queue.proofs.fault.bad_naming_line.Goals as goal

pub returns : goal.returns
unfolding bad_naming_text
returns c =
    let digits = decimal c.args.number in
    let end = codes ": not a new path with its name\n" in
    c.in_ok-line.ensures.ok
    ∙ sym (append_assoc (c.args.path.now ++ codes " line ") digits end
    ∙ append_assoc c.args.path.now (codes " line ") (digits ++ end))

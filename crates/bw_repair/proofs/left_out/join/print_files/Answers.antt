use Rattle.std.proofs.Common.{◌∙◌, ap, ℕ, List, Option}
use Rattle.bw_repair.proofs.JoinedFiles.{all_joined, joining_stopped, part_joined}
use Rattle.bw_repair.proofs.left_out.join.print_files.Goals as goal

pub returns-in-Ok-print_both-clause-ends : goal.returns-in-Ok-print_both-clause-ends
returns-in-Ok-print_both-clause-ends g c =
    all_joined g.W.Sink _ _ _ _ c.args.first.now c.args.second.now _ _
    (λ t e. c.new-take_reader.ensures t (c.in-Ok.ensures.ok t e))
    (λ l e. c.new-left_reader.ensures l
    (c.in-Ok-open.ensures.ok l (ap (λ (f : List ℕ → Option (List ℕ)). f c.args.left.now) c.in-Ok.ensures.files ∙ e)))
    c.requires c.in-Ok-print_both.ensures

pub returns-in-Err-Unread-clause-ends : goal.returns-in-Err-Unread-clause-ends
returns-in-Err-Unread-clause-ends g c =
    part_joined g.W.Sink _ _ _ _ c.args.first.now c.args.second.now _ _
    (λ t e. c.new-take_reader.ensures t (c.in-Ok.ensures.ok t e))
    (λ l e. c.new-left_reader.ensures l
    (c.in-Ok-open.ensures.ok l (ap (λ (f : List ℕ → Option (List ℕ)). f c.args.left.now) c.in-Ok.ensures.files ∙ e)))
    c.requires (rw c.in-Err-Unread.field-0-is at c.in-Err-Unread.ensures)

pub returns-clause-ends : goal.returns-clause-ends
returns-clause-ends g c =
    joining_stopped g.W.Sink _ _ _ _ c.args.first.now c.args.second.now _ _
    (λ t e. c.new-take_reader.ensures t (c.in-Ok.ensures.ok t e))
    (λ l e. c.new-left_reader.ensures l
    (c.in-Ok-open.ensures.ok l (ap (λ (f : List ℕ → Option (List ℕ)). f c.args.left.now) c.in-Ok.ensures.files ∙ e)))
    c.requires (rw c.in-Err-Unwritable.field-0-is at c.in-Err-Unwritable.ensures)

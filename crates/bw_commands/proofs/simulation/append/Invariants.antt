use Rattle.std.proofs.Common.{◌≡◌, ◌≤◌, ◌+◌, ◌++◌, length, vec_capacity}
use Rattle.bw_commands.proofs.simulation.append.Given as goal

abbrev pub invariant-loop-reply : goal.invariant-loop-reply
invariant-loop-reply l =
    (goal.iterator-loop-reply).can_next l.reply-iterator
    × (goal.iterator-loop-reply).is_finite l.reply-iterator
    × (l.replies.items ++ l.reply-iterator ≡ l.fn.replies.items ++ l.fn.reported.items)
    × (length l.replies.items + length l.reply-iterator ≤ vec_capacity l.replies)

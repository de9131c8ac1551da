use Rattle.std.proofs.Common.{◌≡◌, List, ◌++◌, length, true, flat_map}
use Rattle.std.specs.List.{list_all}
use Rattle.bw_model.specs.Replies.{Reply, is_reply}
use Rattle.bw_model.specs.Exchange.{replies_bytes}
use Rattle.bw_commands.specs.Text.{reply_line}
use Rattle.bw_commands.proofs.text.put_replies.Given as goal

abbrev pub invariant-loop-rest : goal.invariant-loop-rest
invariant-loop-rest l = (replies : List Reply) → list_all is_reply replies ≡ true → l.frames ≡ replies_bytes replies →
    (left : List Reply) × (list_all is_reply left ≡ true) × (l.rest ≡ replies_bytes left)
    × (l.out.items ++ flat_map reply_line left ≡ l.fn.out.items ++ flat_map reply_line replies)

abbrev pub decreases-loop-rest : goal.decreases-loop-rest
decreases-loop-rest l = length l.rest

use Rattle.std.proofs.Common.{◌≡◌, drop, fold, map}
use Rattle.bw_wire.specs.Replies.{reply_of}
use Rattle.bw_serve_status.specs.Tallies.{tallied_reply}
use Rattle.bw_serve_status.proofs.tallied.count_replies.Given as goal

abbrev pub invariant-loop-reply : goal.invariant-loop-reply
invariant-loop-reply l =
    fold tallied_reply l.tallies (map reply_of (drop l.reply-index l.replies))
    ≡ fold tallied_reply l.initial.tallies (map reply_of l.replies)

use Rattle.std.proofs.Common.{◌≡◌, ◌+◌, ◌*◌, ◌≤◌, ◌++◌, map, take, vec_len, vec_capacity}
use Rattle.std.specs.Prelude.{IsTrue}
use Rattle.std.specs.List.{list_all}
use Rattle.bw_model.specs.Replies.{is_reply}
use Rattle.bw_model.specs.Exchange.{replies_bytes}
use Rattle.bw_wire.specs.Replies.{reply_of}
use Rattle.bw_exchange.specs.Bounds.{longest_reply_frame}
use Rattle.bw_exchange.proofs.outgoing.put_replies.Given as goal

abbrev pub invariant-loop-reply : goal.invariant-loop-reply
invariant-loop-reply l = record {
  items : l.out.items ≡ l.fn.out.items ++ replies_bytes (map reply_of (take l.reply-index l.replies));
  spelled : IsTrue (list_all is_reply (map reply_of (take l.reply-index l.replies)));
  len : vec_len l.out ≤ vec_len l.fn.out + longest_reply_frame * l.reply-index;
  capacity : vec_capacity l.fn.out ≤ vec_capacity l.out;
}

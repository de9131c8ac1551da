use Rattle.std.proofs.Common.{rules, ◌≡◌, length}
use Rattle.bw_plan.proofs.NextRequests.{on_ok_map}
use Rattle.bw_send_file.proofs.HeldLaws.{holds_more, is_short}
use Rattle.bw_send_file.proofs.followed_buffer.SampleBuffer.read_on.Goals as goal

pub returns-clause-read : goal.returns-clause-read
returns-clause-read g c xs e =
    let room = c.self.inside.room in
    let len : room.len ≡ length c.read_on.new.room = search rules in
    holds_more c.args.self.now room.len room.items c.as_mut_slice.result.now c.read_on.new.room _ xs c.self.inside.held
    c.read_on.new.held room.len _ c.self.view_is c.as_mut_slice.ensures.value len c.read_on.ensures.within
    (c.read_on.ensures.read xs e)

pub returns-clause-end : goal.returns-clause-end
returns-clause-end g c =
    let room = c.self.inside.room in
    let len : room.len ≡ length c.read_on.new.room = search rules in
    on_ok_map c.read_on.result c.read_on.ensures.end (λ ends. λ complete short xs e.
    ends complete (is_short c.read_on.new.room _ c.read_on.new.held room.len len c.read_on.ensures.within short) xs e)

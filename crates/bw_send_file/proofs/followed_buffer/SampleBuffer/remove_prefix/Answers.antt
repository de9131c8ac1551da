use Rattle.std.proofs.Common.{rules}
use Rattle.bw_send_file.proofs.HeldLaws.{prefix_removed}
use Rattle.bw_send_file.proofs.followed_buffer.SampleBuffer.remove_prefix.Goals as goal

pub returns : goal.returns
returns c =
    let room = c.self.inside.room in
    prefix_removed c.args.self.now c.args.count c.self.inside.held room.len c.copy_within.new.self.len room.items
    c.copy_within.new.self.items c.self.view_is c.copy_within.ensures.len (search rules) c.requires
    c.copy_within.ensures.items

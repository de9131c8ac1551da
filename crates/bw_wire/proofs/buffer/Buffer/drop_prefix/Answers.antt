use Rattle.std.proofs.Common.{◌≤◌, length, vec_capacity, subst, ◌∙◌, sym, arith}
use Rattle.bw_wire.specs.Held.{Held, without_prefix}
use Rattle.bw_wire.specs.Blocks.{held_in}
use Rattle.bw_wire.proofs.BufferLaws.{room_kept-small, room_kept-large, spare-large, within_prefix, moved, shifted}
use Rattle.bw_wire.proofs.BufferLaws.{held-parts}
use Rattle.bw_wire.proofs.buffer.Buffer.drop_prefix.Goals as goal

pub returns-then-len-gt-LARGEST_KEPT : goal.returns-then-len-gt-LARGEST_KEPT
returns-then-len-gt-LARGEST_KEPT c =
    let b = c.self.inside in
    let within : b.len ≤ length b.block.items = omega arith in
    let least = subst (λ (h : Held). c.args.count ≤ length h.bytes) (sym c.self.view_is) c.requires.within in
    let count : c.args.count ≤ b.len = within_prefix c.args.count b.len b.block.items least within in
    let bytes = moved c.args.count b.len b.block.items c.deref.result.now b.spare.items c.copy_in.new.block.items
    count within c.deref.ensures.value c.copy_in.ensures.prefix in
    let large = room_kept-large (vec_capacity b.block) (omega arith) in
    let spare = spare-large _ _ c.self.invariant.ready (omega arith) in
    let room = c.copy_in.ensures.capacity ∙ (c.self.invariant.spare ∙ (spare ∙ sym large)) in
    rw (c.swap.ensures.x_after, ← c.self.view_is) (held-parts _ _ (without_prefix (held_in b) c.args.count) bytes room)

pub returns : goal.returns
returns c =
    let b = c.self.inside in
    let within : b.len ≤ length b.block.items = omega arith in
    let least = subst (λ (h : Held). c.args.count ≤ length h.bytes) (sym c.self.view_is) c.requires.within in
    let count : c.args.count ≤ b.len = within_prefix c.args.count b.len b.block.items least within in
    let bytes = shifted c.args.count b.len b.block.items c.copy_within.new.self.items
    count within c.copy_within.ensures.items in
    let small = room_kept-small (vec_capacity b.block) (omega arith) in
    rw (← c.self.view_is)
    (held-parts _ _ (without_prefix (held_in b) c.args.count) bytes (c.copy_within.ensures.capacity ∙ sym small))

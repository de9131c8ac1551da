use Rattle.std.proofs.Common.{◌≡◌, ◌≢◌, ◌≤◌, None, Err, length, List, ℕ, refl, subst}
use Rattle.bw_model.specs.Wire.{Cut}
use Rattle.bw_model.specs.Stream.{first_reply, longest_reply}
use Rattle.bw_wire.specs.Codecs.{reply_codec}
use Rattle.bw_wire.specs.Held.{rest_below}
use Rattle.bw_wire.specs.Reasons.{reason_meaning}
use Rattle.bw_wire.specs.Replies.{reply_of}
use Rattle.bw_wire.specs.ReplyPrefixes.{IsWholeReply}
use Rattle.bw_wire.proofs.FramerSteps.{left_steps, failed_steps, partial_steps, bad_steps, value_steps}
use Rattle.bw_wire.proofs.reply_framer.ReplyFramer.next_frame.Goals as goal

pub returns-in-Left : goal.returns-in-Left
returns-in-Left c =
    let s = left_steps reply_codec c.self.inside.intake None refl c.in-Left.is c.self.invariant in
    rw (← c.self.view_is) (record { left = s.next; reported = s.reported; held = s.held })

pub returns-in-Failed : goal.returns-in-Failed
returns-in-Failed c =
    let s = failed_steps reply_codec c.self.inside.intake c.in-Failed.reason c.in-Failed.is c.self.invariant in
    rw (← c.self.view_is) (record { left = s.next; reported = s.reported; held = s.held })

pub returns-in-Partial : goal.returns-in-Partial
returns-in-Partial c =
    let prefix = subst (λ (b : List ℕ). (first_reply b ≡ Err Cut) × (length b ≤ rest_below longest_reply))
    c.bytes.ensures c.in-Partial.ensures in
    let s = partial_steps reply_codec c.self.inside.intake c.compact.new.self c.in-Reading.is c.compact.ensures prefix in
    rw (← c.self.view_is) (record { left = s.next; reported = s.reported; held = s.held })

pub returns-in-Bad : goal.returns-in-Bad
returns-in-Bad c =
    let prefix = subst (λ (b : List ℕ). (first_reply b ≡ Err (reason_meaning c.in-Bad.reason))
    × (reason_meaning c.in-Bad.reason ≢ Cut)) c.bytes.ensures c.in-Bad.ensures in
    let s = bad_steps reply_codec c.self.inside.intake c.finish.new.self c.in-Bad.reason c.in-Reading.is
    c.finish.ensures prefix in
    rw (← c.self.view_is) (record { left = s.next; reported = s.reported; held = s.held })

pub returns-in-Whole : goal.returns-in-Whole
returns-in-Whole c =
    let prefix = subst (λ (b : List ℕ). IsWholeReply b c.in-Whole.reply c.in-Whole.len) c.bytes.ensures
    c.in-Whole.ensures in
    let s = value_steps reply_codec c.self.inside.intake c.use_up.new.self c.in-Whole.len (reply_of c.in-Whole.reply)
    refl c.in-Reading.is c.use_up.ensures prefix.whole prefix.first in
    rw (← c.self.view_is) (record { left = s.next; reported = s.reported; held = s.held })

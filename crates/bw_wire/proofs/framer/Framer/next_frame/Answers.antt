use Rattle.std.proofs.Common.{◌≡◌, ◌≢◌, ◌≤◌, Some, Err, length, drop, List, ℕ, IsTrue, sym, refl, ap, subst, ◌∙◌}
use Rattle.bw_model.specs.Wire.{Second, Says, Asks, Bye, Cut}
use Rattle.bw_model.specs.Stream.{first_frame}
use Rattle.bw_wire.specs.declared.intake.Intake.{Intake}
use Rattle.bw_wire.specs.Bodies.{body_name, body_number, message_in, is_message_body, is_ask_body}
use Rattle.bw_wire.specs.Codecs.{message_codec}
use Rattle.bw_wire.specs.Framings.{body_at_prefix}
use Rattle.bw_wire.specs.FramePrefixes.{IsMessagePrefix, IsAskPrefix, IsByePrefix}
use Rattle.bw_wire.specs.Held.{longest_rest}
use Rattle.bw_wire.specs.FramerStates.{Gives}
use Rattle.bw_wire.specs.Reasons.{reason_meaning}
use Rattle.bw_wire.proofs.FramerSteps.{left_steps, failed_steps, partial_steps, bad_steps, last_steps, value_steps}
use Rattle.bw_wire.proofs.FramerSteps.{lent_body, lent_digest}
use Rattle.bw_wire.proofs.framer.Framer.next_frame.Goals as goal

pub returns-in-Left : goal.returns-in-Left
returns-in-Left c =
    let s = left_steps message_codec c.self.inside.intake (Some Bye) refl c.in-Left.is c.self.invariant.0 in
    rw (← c.self.view_is) ((refl, (λ _. tt), s.next), record { left = tt; reported = s.reported; held = s.held })

pub returns-in-Failed : goal.returns-in-Failed
returns-in-Failed c =
    let s = failed_steps message_codec c.self.inside.intake c.in-Failed.reason c.in-Failed.is c.self.invariant.0 in
    rw (← c.self.view_is) ((refl, (λ _. tt), s.next), record { left = tt; reported = s.reported; held = s.held })

pub returns-in-Partial : goal.returns-in-Partial
returns-in-Partial c =
    let prefix = subst (λ (b : List ℕ). (first_frame Second b ≡ Err Cut) × (length b ≤ longest_rest)) c.bytes.ensures
    c.in-Partial.ensures in
    let s = partial_steps message_codec c.self.inside.intake c.compact.new.self c.in-Reading.is c.compact.ensures
    prefix in
    rw (← c.self.view_is) ((refl, (λ _. tt), s.next), record { left = tt; reported = s.reported; held = s.held })

pub returns-in-Bad : goal.returns-in-Bad
returns-in-Bad c =
    let prefix = subst (λ (b : List ℕ). (first_frame Second b ≡ Err (reason_meaning c.in-Bad.reason))
    × (reason_meaning c.in-Bad.reason ≢ Cut)) c.bytes.ensures c.in-Bad.ensures in
    let s = bad_steps message_codec c.self.inside.intake c.finish.new.self c.in-Bad.reason c.in-Reading.is
    c.finish.ensures prefix in
    rw (← c.self.view_is) ((refl, (λ _. tt), s.next), record { left = tt; reported = s.reported; held = s.held })

pub returns-in-Bye : goal.returns-in-Bye
returns-in-Bye c =
    let prefix = subst (λ (b : List ℕ). IsByePrefix b c.in-Bye.len) c.bytes.ensures c.in-Bye.ensures in
    let s = last_steps message_codec c.self.inside.intake c.use_up.new.self c.finish-in-Bye.new.self c.in-Bye.len Bye
    refl c.in-Reading.is c.use_up.ensures c.finish-in-Bye.ensures prefix.whole prefix.first in
    rw (← c.self.view_is) ((refl, (λ _. tt), s.next), record { left = tt; reported = s.reported; held = s.held })

pub invariant_of-self-in-Message-2 : goal.invariant_of-self-in-Message-2
invariant_of-self-in-Message-2 c =
    let i = c.self.inside.intake in
    let prefix = subst (λ (b : List ℕ). IsMessagePrefix b c.in-Message.len) c.bytes.ensures c.in-Message.ensures in
    let same = c.as_slice.ensures ∙ ap (λ (x : Intake). x.buffer.bytes) c.use_up-in-Message.ensures in
    let lent = lent_body c.as_slice.result.now i.buffer.bytes i.start c.in-Message.len same in
    record {
      spells = subst (λ (b : List ℕ). IsTrue (is_message_body b)) (sym lent) prefix.spelled;
      hashed = lent_digest c.kept_digest-digest.result c.as_slice.result.now i.buffer.bytes i.start c.in-Message.len
          same (c.kept_digest-digest.ensures i.buffer.bytes c.self.invariant.1);
    }

pub invariant_of-self-in-Ask-2 : goal.invariant_of-self-in-Ask-2
invariant_of-self-in-Ask-2 c =
    let i = c.self.inside.intake in
    let prefix = subst (λ (b : List ℕ). IsAskPrefix b c.in-Ask.len) c.bytes.ensures c.in-Ask.ensures in
    let lent = lent_body c.as_slice-in-Ask.result.now i.buffer.bytes i.start c.in-Ask.len
    (c.as_slice-in-Ask.ensures ∙ ap (λ (x : Intake). x.buffer.bytes) c.use_up-in-Ask.ensures) in
    record { spells = subst (λ (b : List ℕ). IsTrue (is_ask_body b)) (sym lent) prefix.spelled }

pub returns-in-Message : goal.returns-in-Message
returns-in-Message c =
    let i = c.self.inside.intake in
    let prefix = subst (λ (b : List ℕ). IsMessagePrefix b c.in-Message.len) c.bytes.ensures c.in-Message.ensures in
    let m = message_in (body_at_prefix c.in-Message.len (drop i.start i.buffer.bytes)) in
    let s = value_steps message_codec i c.use_up-in-Message.new.self c.in-Message.len (Says m) refl c.in-Reading.is
    c.use_up-in-Message.ensures prefix.whole prefix.first in
    let lent = lent_body c.as_slice.result.now i.buffer.bytes i.start c.in-Message.len
    (c.as_slice.ensures ∙ ap (λ (x : Intake). x.buffer.bytes) c.use_up-in-Message.ensures) in
    rw (← c.self.view_is) (
      (refl, (λ _. tt), s.next),
      record { left = tt; reported = ap (λ (b : List ℕ). Gives (Says (message_in b))) lent ∙ s.reported; held = s.held },
    )

pub returns-in-Ask : goal.returns-in-Ask
returns-in-Ask c =
    let i = c.self.inside.intake in
    let prefix = subst (λ (b : List ℕ). IsAskPrefix b c.in-Ask.len) c.bytes.ensures c.in-Ask.ensures in
    let body = body_at_prefix c.in-Ask.len (drop i.start i.buffer.bytes) in
    let s = value_steps message_codec i c.use_up-in-Ask.new.self c.in-Ask.len
    (Asks (body_name body) (body_number body)) refl c.in-Reading.is c.use_up-in-Ask.ensures prefix.whole
    prefix.first in
    let lent = lent_body c.as_slice-in-Ask.result.now i.buffer.bytes i.start c.in-Ask.len
    (c.as_slice-in-Ask.ensures ∙ ap (λ (x : Intake). x.buffer.bytes) c.use_up-in-Ask.ensures) in
    rw (← c.self.view_is) (
      (refl, (λ _. tt), s.next),
      record {
        left = tt;
        reported = ap (λ (b : List ℕ). Gives (Asks (body_name b) (body_number b))) lent ∙ s.reported;
        held = s.held;
      },
    )

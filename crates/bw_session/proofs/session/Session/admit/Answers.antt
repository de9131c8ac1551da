use Rattle.std.proofs.Common.{rules, ◌≡◌, ℕ, List, None, ◌+◌, ◌-◌, ◌<◌, ◌≤◌, ◌⊎◌, inl, inr, length, false}
use Rattle.std.proofs.Common.{sym, ◌∙◌, ap, subst, arith}
use Rattle.std.specs.Prelude.{is_some, Option, Some, slice_set}
use Rattle.bw_model.specs.Bytes.{at}
use Rattle.bw_model.specs.Take.{Verdict}
use Rattle.bw_model.specs.Wire.{Message, Second, last_number}
use Rattle.bw_wire.specs.Frames.{message_of}
use Rattle.bw_file.specs.GrowingFiles.{Growing}
use Rattle.bw_wire.proofs.BodyLaws.{message_spelled}
use Rattle.bw_session.specs.NameNotes.{IsNoted}
use Rattle.bw_session.specs.Drains.{Fits, HoldsPart}
use Rattle.bw_session.specs.AdmittedMessages.{with_message}
use Rattle.bw_session.proofs.Slots.{copied-some}
use Rattle.bw_session.proofs.AdmitForms.{count_room, none_of, no_false, fits_held, outside_not_new, free_new}
use Rattle.bw_session.proofs.AdmitForms.{said_request, part_same, part_put, notes_same, notes_put}
use Rattle.bw_session.proofs.session.Session.admit.Goals as goal
use Rattle.bw_session.proofs.session.Session.admit.Goals.{then-number-done-via-then-number-done}
use Rattle.bw_session.proofs.session.Session.admit.Goals.{then-number-done-via-else-number-done+then-done-number}

pub returns-then-number-done-clause-ok : goal.returns-then-number-done-clause-ok
returns-then-number-done-clause-ok c = λ first log found h.
    let m : Message = message_of c.args.message.now in
    let finished : List (List ℕ × Verdict) = c.args.self.now.progress.ledger.outcomes in
    let number = c.number-number.ensures.value in
    let done = c.len-done.ensures.value in
    let outside : (m.number < length finished) ⊎ (length finished + 16 ≤ m.number) =
    elim c.then-number-done.branch [
      | then-number-done-via-then-number-done w ↦ inl (search rules)
      | then-number-done-via-else-number-done+then-done-number w ↦ inr (search rules)
    ] in
    part_same first log _ _ _ _ _ h m (outside_not_new first log _ _ _ _ _ h m.number outside)

pub returns-then-number-done-clause-noted : goal.returns-then-number-done-clause-noted
returns-then-number-done-clause-noted c = λ first log found hd notes h noted.
    let m : Message = message_of c.args.message.now in
    let finished : List (List ℕ × Verdict) = c.args.self.now.progress.ledger.outcomes in
    let number = c.number-number.ensures.value in
    let done = c.len-done.ensures.value in
    let outside : (m.number < length finished) ⊎ (length finished + 16 ≤ m.number) =
    elim c.then-number-done.branch [
      | then-number-done-via-then-number-done w ↦ inl (search rules)
      | then-number-done-via-else-number-done+then-done-number w ↦ inr (search rules)
    ] in
    notes_same first log _ _ _ _ _ h m hd _ _ notes (outside_not_new first log _ _ _ _ _ h m.number outside) noted

pub make_room-requires : goal.make_room-requires
make_room-requires c =
    let slot : ℕ = c.number-number.result - c.len-done.result in
    let none : is_some c.get.result ≡ false = search rules in
    let free : at c.args.self.now.window slot ≡ None =
    none_of _ (copied-some c.get.result _ false c.get.ensures.value none) in
    let slots = c.get.ensures.slots in
    let within : slot < length c.args.self.now.window = search rules in
    let room = count_room c.args.self.now.window slot free within in
    omega (arith, room, slots)

pub invariant_of-self : goal.invariant_of-self
invariant_of-self c =
    let slot : ℕ = c.number-number.result - c.len-done.result in
    let finished : List (List ℕ × Verdict) = c.args.self.now.progress.ledger.outcomes in
    let none : is_some c.get.result ≡ false = search rules in
    let free : at c.args.self.now.window slot ≡ None =
    none_of _ (copied-some c.get.result _ false c.get.ensures.value none) in
    let slots = c.get.ensures.slots in
    let within : slot < length c.args.self.now.window = search rules in
    let done = c.len-done.ensures.value in
    let range = c.number-number.ensures.range in
    let number : length finished + slot ≤ last_number Second = search rules in
    let kept = c.in_ok-room.ensures.progress in
    let held : c.put.new.self ≡ slice_set c.args.self.now.window slot (Some c.copy_to.result) =
    c.put.ensures ∙ ap (λ (w : List (Option (List ℕ))). slice_set w slot (Some c.copy_to.result))
    c.in_ok-room.ensures.window in
    record {
      fits = subst (λ (g : Growing). Fits g c.make_room.new.self.progress.state.parts
          (length c.make_room.new.self.progress.ledger.outcomes) c.make_room.new.self.progress.state.room
          c.make_room.new.self.progress.ledger.room c.put.new.self) (sym kept.growing)
          (fits_held c.args.self.now.progress.growing c.args.self.now.progress.state.parts
          c.make_room.new.self.progress.state.parts (length finished)
          (length c.make_room.new.self.progress.ledger.outcomes)
          c.args.self.now.progress.state.room c.make_room.new.self.progress.state.room
          c.args.self.now.progress.ledger.room c.make_room.new.self.progress.ledger.room slot
          c.args.self.now.window c.put.new.self c.copy_to.result c.args.self.now.fits free
          within held c.in_ok-room.ensures.storable c.in_ok-room.ensures.keepable number kept.parts
          (ap length kept.outcomes));
    }

pub returns-clause-ok : goal.returns-clause-ok
returns-clause-ok c = λ first log found h.
    let slot : ℕ = c.number-number.result - c.len-done.result in
    let m : Message = message_of c.args.message.now in
    let finished : List (List ℕ × Verdict) = c.args.self.now.progress.ledger.outcomes in
    let none : is_some c.get.result ≡ false = search rules in
    let free : at c.args.self.now.window slot ≡ None =
    none_of _ (copied-some c.get.result _ false c.get.ensures.value none) in
    let slots = c.get.ensures.slots in
    let inside : slot < 16 = search rules in
    let within : slot < length c.args.self.now.window = search rules in
    let value = c.number-number.ensures.value in
    let done = c.len-done.ensures.value in
    let place : m.number ≡ length finished + slot = search rules in
    let kept = c.in_ok-room.ensures.progress in
    let held : c.put.new.self ≡ slice_set c.args.self.now.window slot (Some c.copy_to.result) =
    c.put.ensures ∙ ap (λ (w : List (Option (List ℕ))). slice_set w slot (Some c.copy_to.result))
    c.in_ok-room.ensures.window in
    subst (λ (g : Growing). HoldsPart first (with_message log m) c.make_room.new.self.progress.state.parts
    c.make_room.new.self.progress.ledger.outcomes c.put.new.self g found) (sym kept.growing)
    (part_put first log c.args.self.now.progress.state.parts finished c.args.self.now.window
    c.args.self.now.progress.growing found h m slot c.put.new.self c.copy_to.result
    c.make_room.new.self.progress.state.parts c.make_room.new.self.progress.ledger.outcomes
    (c.requires.name ∙ sym c.args.self.now.progress.same_name)
    (said_request m (message_spelled c.args.message.now.body.now c.args.message.now.spells).fits) place inside within
    free held c.copy_to.ensures kept.parts kept.outcomes)

pub returns-clause-noted : goal.returns-clause-noted
returns-clause-noted c = λ first log found hd notes h noted.
    let slot : ℕ = c.number-number.result - c.len-done.result in
    let m : Message = message_of c.args.message.now in
    let finished : List (List ℕ × Verdict) = c.args.self.now.progress.ledger.outcomes in
    let none : is_some c.get.result ≡ false = search rules in
    let free : at c.args.self.now.window slot ≡ None =
    none_of _ (copied-some c.get.result _ false c.get.ensures.value none) in
    let inside : slot < 16 = search rules in
    let value = c.number-number.ensures.value in
    let done = c.len-done.ensures.value in
    let place : m.number ≡ length finished + slot = search rules in
    subst (λ (n : ℕ). IsNoted hd c.args.self.now.progress.name (with_message log m) n notes)
    (sym c.in_ok-room.ensures.progress.noted)
    (notes_put first log c.args.self.now.progress.state.parts finished c.args.self.now.window
    c.args.self.now.progress.growing found h m slot hd _ _ notes place inside free noted)

pub returns-clause-unasked : goal.returns-clause-unasked
returns-clause-unasked c = λ first log found h refused.
    let slot : ℕ = c.number-number.result - c.len-done.result in
    let m : Message = message_of c.args.message.now in
    let finished : List (List ℕ × Verdict) = c.args.self.now.progress.ledger.outcomes in
    let none : is_some c.get.result ≡ false = search rules in
    let free : at c.args.self.now.window slot ≡ None =
    none_of _ (copied-some c.get.result _ false c.get.ensures.value none) in
    let inside : slot < 16 = search rules in
    let value = c.number-number.ensures.value in
    let done = c.len-done.ensures.value in
    let place : m.number ≡ length finished + slot = search rules in
    no_false (sym refused ∙ free_new first log c.args.self.now.progress.state.parts finished c.args.self.now.window
    c.args.self.now.progress.growing found h m.number slot place inside free)

pub len-done-requires : goal.len-done-requires
len-done-requires c = search rules

pub number-number-requires : goal.number-number-requires
number-number-requires c = search rules

pub overflow_cast-number : goal.overflow_cast-number
overflow_cast-number c = search rules

pub overflow_add-done : goal.overflow_add-done
overflow_add-done c = search rules

pub returns-then-number-done-clause-progress : goal.returns-then-number-done-clause-progress
returns-then-number-done-clause-progress c = search rules

pub returns-then-number-done-clause-err : goal.returns-then-number-done-clause-err
returns-then-number-done-clause-err c = search rules

pub returns-then-number-done-clause-held : goal.returns-then-number-done-clause-held
returns-then-number-done-clause-held c = search rules

pub returns-then-number-done-clause-refused : goal.returns-then-number-done-clause-refused
returns-then-number-done-clause-refused c = search rules

pub returns-then-number-done-clause-unasked : goal.returns-then-number-done-clause-unasked
returns-then-number-done-clause-unasked c = search rules

pub get-requires : goal.get-requires
get-requires c = search rules

pub is_some-requires : goal.is_some-requires
is_some-requires c κs = search rules

pub returns-then-is_some-clause-progress : goal.returns-then-is_some-clause-progress
returns-then-is_some-clause-progress c = search rules

pub returns-then-is_some-clause-err : goal.returns-then-is_some-clause-err
returns-then-is_some-clause-err c = search rules

pub returns-then-is_some-clause-held : goal.returns-then-is_some-clause-held
returns-then-is_some-clause-held c = search rules

pub returns-then-is_some-clause-ok : goal.returns-then-is_some-clause-ok
returns-then-is_some-clause-ok c = search rules

pub returns-then-is_some-clause-refused : goal.returns-then-is_some-clause-refused
returns-then-is_some-clause-refused c = search rules

pub returns-then-is_some-clause-noted : goal.returns-then-is_some-clause-noted
returns-then-is_some-clause-noted c = search rules

pub returns-then-is_some-clause-unasked : goal.returns-then-is_some-clause-unasked
returns-then-is_some-clause-unasked c = search rules

pub branch-room-requires : goal.branch-room-requires
branch-room-requires c κs = search rules

pub from_residual-requires : goal.from_residual-requires
from_residual-requires c κs = search rules

pub returns-in_err-room-clause-progress : goal.returns-in_err-room-clause-progress
returns-in_err-room-clause-progress c = search rules

pub returns-in_err-room-clause-err : goal.returns-in_err-room-clause-err
returns-in_err-room-clause-err c = search rules

pub returns-in_err-room-clause-held : goal.returns-in_err-room-clause-held
returns-in_err-room-clause-held c = search rules

pub returns-in_err-room-clause-ok : goal.returns-in_err-room-clause-ok
returns-in_err-room-clause-ok c = search rules

pub returns-in_err-room-clause-refused : goal.returns-in_err-room-clause-refused
returns-in_err-room-clause-refused c = search rules

pub returns-in_err-room-clause-noted : goal.returns-in_err-room-clause-noted
returns-in_err-room-clause-noted c = search rules

pub returns-in_err-room-clause-unasked : goal.returns-in_err-room-clause-unasked
returns-in_err-room-clause-unasked c = search rules

pub copy_to-requires-clause-empty : goal.copy_to-requires-clause-empty
copy_to-requires-clause-empty c = search rules

pub copy_to-requires-clause-room : goal.copy_to-requires-clause-room
copy_to-requires-clause-room c = search rules

pub copy_to-requires-clause-digest : goal.copy_to-requires-clause-digest
copy_to-requires-clause-digest c = search rules

pub put-requires : goal.put-requires
put-requires c = search rules

pub returns-clause-progress : goal.returns-clause-progress
returns-clause-progress c = search rules

pub returns-clause-err : goal.returns-clause-err
returns-clause-err c = search rules

pub returns-clause-held : goal.returns-clause-held
returns-clause-held c = search rules

pub returns-clause-refused : goal.returns-clause-refused
returns-clause-refused c = search rules

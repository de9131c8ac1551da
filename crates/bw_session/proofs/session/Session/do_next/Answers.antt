use Rattle.std.proofs.Common.{◌≡◌, ◌+◌, ◌<◌, ◌≤◌, ℕ, List, Option, Some, [], ◌∷◌, ◌++◌, None, length, refl, sym, ◌∙◌}
use Rattle.std.proofs.Common.{ap, rules, subst, arith, drop, true, false}
use Rattle.std.proofs.lemmas.Result.{err_from_is_err_and}
use Rattle.std.specs.Prelude.{is_some, slice_set}
use Rattle.std.proofs.lemmas.List.{length_push}
use Rattle.bw_model.specs.Take.{Verdict}
use Rattle.bw_model.specs.Wire.{Message, message_body}
use Rattle.bw_model.specs.Requests.{meaning}
use Rattle.bw_model.specs.VerdictMeanings.{verdict_meaning}
use Rattle.bw_file.specs.GrowingFiles.{Growing}
use Rattle.bw_wire.specs.Bodies.{message_in}
use Rattle.bw_wire.specs.Frames.{message_of}
use Rattle.bw_wire.proofs.BodyLaws.{message_spelled}
use Rattle.bw_session.specs.Windows.{count_held}
use Rattle.bw_session.specs.Ledgers.{Entries}
use Rattle.bw_session.specs.Executions.{Touches, StopsBeforeDone, judged_plan}
use Rattle.bw_session.specs.JudgedParts.{judged_in, KeepsJudged}
use Rattle.bw_store.specs.StoreSteps.{WasAsked, WasAskedFirst}
use Rattle.bw_session.specs.NameNotes.{IsNoted}
use Rattle.bw_session.specs.AdmittedMessages.{with_message}
use Rattle.bw_session.specs.Drains.{HoldsPart}
use Rattle.bw_session.specs.NextNumbers.{with_done}
use Rattle.bw_session.proofs.AdmitForms.{at-set_same, count_room, said_number, notes_put}
use Rattle.bw_session.proofs.DrainForms.{part_waits, part_done}
use Rattle.bw_session.proofs.NextForms.{fits_passed, fits_waiting, passed_slot, held_at, next_prefix}
use Rattle.bw_session.proofs.RunForms.{noted_then}
use Rattle.bw_session.specs.Sessions.{part_of}
use Rattle.bw_session.specs.KeptParts.{Part}
use Rattle.bw_session.specs.ConsecutiveCalls.{DoesFirst, TriesFirst}
use Rattle.bw_session.proofs.AskForms.{does_first, tries_first, window_next}
use Rattle.bw_session.specs.NextNumbers.{KeepsBoth}
use Rattle.bw_session.specs.WriteOrders.{FileComesFirst, IsCarriedOut}
use Rattle.bw_session.proofs.OrderForms.{order_as, order_then}
use Rattle.bw_session.proofs.OrderSteps.{next_carried, none_carried}
use Rattle.bw_model.specs.Bytes.{at}
use Rattle.bw_session.proofs.session.Session.do_next.Goals as goal

pub make_room-requires : goal.make_room-requires
make_room-requires g c =
    let slots = c.requires.slots in
    let room = count_room c.args.self.now.window 0 c.requires.free (omega (arith, slots)) in
    omega (arith, room, slots)

pub number_done-requires-clause-number : goal.number_done-requires-clause-number
number_done-requires-clause-number g c =
    let number = said_number (message_of c.args.message.now)
    (message_spelled c.args.message.now.body.now c.args.message.now.spells).fits in
    let next = c.requires.next in
    let same = ap length c.in_ok-room.ensures.progress.outcomes in
    omega (arith, number, next, same)

pub invariant_of-self : goal.invariant_of-self
invariant_of-self g c =
    let kept = c.in_ok-room.ensures.progress in
    let more : length c.number_done.new.self.ledger.outcomes ≡ length c.args.self.now.progress.ledger.outcomes + 1 =
    ap length c.in-Ok.ensures.kept.outcomes
    ∙ length_push c.make_room.new.self.progress.ledger.outcomes (c.args.digest, verdict_meaning c.in-Ok.verdict)
    ∙ ap (λ (x : List (List ℕ × Verdict)). length x + 1) kept.outcomes in
    record {
      fits = fits_passed c.args.self.now.progress.growing c.number_done.new.self.growing
          c.args.self.now.progress.state.parts c.number_done.new.self.state.parts
          (length c.args.self.now.progress.ledger.outcomes) _ c.args.self.now.progress.state.room
          c.make_room.new.self.progress.state.room c.number_done.new.self.state.room
          c.args.self.now.progress.ledger.room c.make_room.new.self.progress.ledger.room
          c.number_done.new.self.ledger.room c.args.self.now.window c.advance.new.self c.args.self.now.fits
          c.requires.free
          (c.advance.ensures ∙ ap (λ (w : List (Option (List ℕ))). drop 1 w ++ None ∷ []) c.in_ok-room.ensures.window)
          more c.in_ok-room.ensures.storable c.in-Ok.ensures.places.room c.in_ok-room.ensures.keepable
          c.in-Ok.ensures.places.places c.in-Ok.ensures.kept.clean;
    }

pub invariant_of-self-in-Err : goal.invariant_of-self-in-Err
invariant_of-self-in-Err g c =
    let m : Message = message_of c.args.message.now in
    let said = message_spelled c.args.message.now.body.now c.args.message.now.spells in
    let kept = c.in_ok-room.ensures.progress in
    let slots = c.requires.slots in
    let there : 0 < length c.args.self.now.window = omega (arith, slots) in
    let number = said_number m said.fits in
    let next = c.requires.next in
    let read : meaning c.request-request.result ≡ (message_in c.copy_to.result).request =
    c.request-request.ensures.value
    ∙ ap (λ (b : List ℕ). (message_in b).request) (said.spelled ∙ sym c.copy_to.ensures) in
    record {
      fits = fits_waiting c.args.self.now.progress.growing c.number_done.new.self.growing
          c.args.self.now.progress.state.parts c.number_done.new.self.state.parts
          (length c.args.self.now.progress.ledger.outcomes) _ c.args.self.now.progress.state.room
          c.number_done.new.self.state.room c.args.self.now.progress.ledger.room
          c.number_done.new.self.ledger.room c.args.self.now.window c.put.new.self c.copy_to.result
          c.args.self.now.fits c.requires.free there
          (c.put.ensures ∙ ap (λ (w : List (Option (List ℕ))). slice_set w 0 (Some c.copy_to.result))
          c.in_ok-room.ensures.window)
          (ap (λ (l : Entries). length l.outcomes) c.in-Err.ensures.left.ledger ∙ ap length kept.outcomes)
          (subst (λ (n : ℕ). count_held c.args.self.now.window + 1 ≤ n) (sym c.in-Err.ensures.left.room)
          c.in_ok-room.ensures.storable)
          (subst (λ (l : Entries). count_held c.args.self.now.window + 1 ≤ l.room) (sym c.in-Err.ensures.left.ledger)
          c.in_ok-room.ensures.keepable)
          (omega (arith, number, next))
          (λ dirty. subst (Touches c.number_done.new.self.state.parts) read (c.in-Err.ensures.left.again dirty));
    }

pub returns-in-Ok-clause-drained : goal.returns-in-Ok-clause-drained
returns-in-Ok-clause-drained g c = λ honest first log h.
    let m : Message = message_of c.args.message.now in
    let w : List (Option (List ℕ)) = c.args.self.now.window in
    let kept = c.in_ok-room.ensures.progress in
    let here = next_prefix first log c.args.self.now c.make_room.new.self (g.S.TakeStore.contents c.args.stores.now.store)
    m (meaning c.request-request.result) c.args.digest h kept c.requires.name c.requires.next c.requires.free
    c.requires.slots c.request-request.ensures.value c.request-request.ensures.fits c.requires.digest in
    let held = here.0 in
    let prefix = here.1 in
    let done = c.in-Ok.ensures.done honest first (with_message log m) prefix.0 prefix.1 in
    record {
      reported = (ap is_some prefix.0.here, done.verdict_is);
      left = held_at first _ _ _ _ _ (g.S.TakeStore.contents c.number_done.new.stores.store) _ _ kept.name
          (part_done first (with_message log m) c.make_room.new.self.progress.state.parts
          c.make_room.new.self.progress.ledger.outcomes (slice_set w 0 (Some (message_body m)))
          c.make_room.new.self.progress.growing _ held (verdict_meaning c.in-Ok.verdict)
          c.number_done.new.self.state.parts c.number_done.new.self.ledger.outcomes c.advance.new.self
          c.number_done.new.self.growing _ (ap (λ (x : Growing). x.name) c.in-Ok.ensures.places.known)
          c.in-Ok.ensures.kept.clean
          (c.advance.ensures ∙ ap (λ (x : List (Option (List ℕ))). drop 1 x ++ None ∷ []) c.in_ok-room.ensures.window
          ∙ ap (λ (x : List (Option (List ℕ))). x ++ None ∷ []) (sym (passed_slot w (message_body m)))) done);
    }

pub returns-in-Ok-clause-noted : goal.returns-in-Ok-clause-noted
returns-in-Ok-clause-noted g c = λ honest honest_notes first log h existed noted.
    let m : Message = message_of c.args.message.now in
    let w : List (Option (List ℕ)) = c.args.self.now.window in
    let kept = c.in_ok-room.ensures.progress in
    let here = next_prefix first log c.args.self.now c.make_room.new.self (g.S.TakeStore.contents c.args.stores.now.store)
    m (meaning c.request-request.result) c.args.digest h kept c.requires.name c.requires.next c.requires.free
    c.requires.slots c.request-request.ensures.value c.request-request.ensures.fits c.requires.digest in
    let held = here.0 in
    let prefix = here.1 in
    let next = c.requires.next in
    noted_then c.make_room.new.self.progress.name c.args.self.now.progress.name
    (g.J.Journal.header c.args.stores.now.journal) _ first (with_message log m) (with_done (with_message log m))
    c.make_room.new.self.progress.noted _ (g.J.Journal.notes c.args.stores.now.journal)
    (g.J.Journal.notes c.number_done.new.stores.journal) kept.name refl
    (c.in-Ok.ensures.noted honest honest_notes first (with_message log m) prefix.0 prefix.1) existed
    (subst (λ (n : ℕ). IsNoted (g.J.Journal.header c.args.stores.now.journal c.args.self.now.progress.name)
    c.args.self.now.progress.name (with_message log m) n
    (g.J.Journal.notes c.args.stores.now.journal c.args.self.now.progress.name)) (sym kept.noted)
    (notes_put first log c.args.self.now.progress.state.parts c.args.self.now.progress.ledger.outcomes w
    c.args.self.now.progress.growing _ h m 0 _ c.args.self.now.progress.name c.args.self.now.progress.noted _
    (omega (arith, next)) (omega arith) c.requires.free noted))

pub returns-in-Err-clause-drained : goal.returns-in-Err-clause-drained
returns-in-Err-clause-drained g c = λ honest first log h.
    let m : Message = message_of c.args.message.now in
    let w : List (Option (List ℕ)) = c.args.self.now.window in
    let kept = c.in_ok-room.ensures.progress in
    let here = next_prefix first log c.args.self.now c.make_room.new.self (g.S.TakeStore.contents c.args.stores.now.store)
    m (meaning c.request-request.result) c.args.digest h kept c.requires.name c.requires.next c.requires.free
    c.requires.slots c.request-request.ensures.value c.request-request.ensures.fits c.requires.digest in
    let held = here.0 in
    let prefix = here.1 in
    record {
      reported = ap is_some prefix.0.here;
      left = held_at first _ _ _ _ _ (g.S.TakeStore.contents c.number_done.new.stores.store) _ _ kept.name
          (subst (λ (x : List (Option (List ℕ))). HoldsPart first (with_message log m)
          c.number_done.new.self.state.parts c.number_done.new.self.ledger.outcomes x
          c.number_done.new.self.growing
          (g.S.TakeStore.contents c.number_done.new.stores.store c.make_room.new.self.progress.name))
          (sym (c.put.ensures
          ∙ ap (λ (x : List (Option (List ℕ))). slice_set x 0 (Some c.copy_to.result)) c.in_ok-room.ensures.window
          ∙ ap (λ (b : List ℕ). slice_set w 0 (Some b)) c.copy_to.ensures))
          (part_waits first (with_message log m) c.make_room.new.self.progress.state.parts
          c.make_room.new.self.progress.ledger.outcomes (slice_set w 0 (Some (message_body m)))
          c.make_room.new.self.progress.growing _ held c.number_done.new.self.state.parts
          c.number_done.new.self.ledger.outcomes (meaning c.request-request.result) c.number_done.new.self.growing _
          prefix.0.here (ap (λ (x : Growing). x.name) c.in-Err.ensures.places.known)
          (c.in-Err.ensures.done honest first (with_message log m) prefix.0 prefix.1)));
    }

pub returns-in-Err-clause-noted : goal.returns-in-Err-clause-noted
returns-in-Err-clause-noted g c = λ honest honest_notes first log h existed noted.
    let m : Message = message_of c.args.message.now in
    let w : List (Option (List ℕ)) = c.args.self.now.window in
    let kept = c.in_ok-room.ensures.progress in
    let here = next_prefix first log c.args.self.now c.make_room.new.self (g.S.TakeStore.contents c.args.stores.now.store)
    m (meaning c.request-request.result) c.args.digest h kept c.requires.name c.requires.next c.requires.free
    c.requires.slots c.request-request.ensures.value c.request-request.ensures.fits c.requires.digest in
    let held = here.0 in
    let prefix = here.1 in
    let next = c.requires.next in
    noted_then c.make_room.new.self.progress.name c.args.self.now.progress.name
    (g.J.Journal.header c.args.stores.now.journal) _ first (with_message log m) (with_message log m)
    c.make_room.new.self.progress.noted _ (g.J.Journal.notes c.args.stores.now.journal)
    (g.J.Journal.notes c.number_done.new.stores.journal) kept.name refl
    (c.in-Err.ensures.noted honest honest_notes first (with_message log m) prefix.0 prefix.1) existed
    (subst (λ (n : ℕ). IsNoted (g.J.Journal.header c.args.stores.now.journal c.args.self.now.progress.name)
    c.args.self.now.progress.name (with_message log m) n
    (g.J.Journal.notes c.args.stores.now.journal c.args.self.now.progress.name)) (sym kept.noted)
    (notes_put first log c.args.self.now.progress.state.parts c.args.self.now.progress.ledger.outcomes w
    c.args.self.now.progress.growing _ h m 0 _ c.args.self.now.progress.name c.args.self.now.progress.noted _
    (omega (arith, next)) (omega arith) c.requires.free noted))

pub returns-in-Ok-clause-asked : goal.returns-in-Ok-clause-asked
returns-in-Ok-clause-asked g c =
    let m : Message = message_of c.args.message.now in
    let w : List (Option (List ℕ)) = c.args.self.now.window in
    let kept = c.in_ok-room.ensures.progress in
    let slots = c.requires.slots in
    let there : 0 < length w = omega (arith, slots) in
    let said = message_spelled c.args.message.now.body.now c.args.message.now.spells in
    let a : Part = record (part_of c.args.self.now) { window = slice_set w 0 (Some (message_body m)) } in
    let b : Part = record {
      parts = c.number_done.new.self.state.parts;
      outcomes = c.number_done.new.self.ledger.outcomes;
      window = c.advance.new.self;
      growing = c.number_done.new.self.growing;
    } in
    subst (λ (x : List (Option (List ℕ))). DoesFirst g.S.TakeStore (record (part_of c.args.self.now) { window = x })
    c.args.stores.now.store b c.number_done.new.stores.store)
    (sym (window_next w (length c.args.self.now.progress.ledger.outcomes) m c.requires.next c.requires.free))
    (does_first g.S.TakeStore a b c.args.stores.now.store c.number_done.new.stores.store (message_body m) c.args.digest
    (meaning c.request-request.result) (verdict_meaning c.in-Ok.verdict) (at-set_same w 0 (Some (message_body m)) there)
    (c.request-request.ensures.value ∙ ap (λ (x : List ℕ). (message_in x).request) said.spelled) c.requires.digest
    (subst (λ (p : _). WasAsked g.S.TakeStore (judged_plan c.args.self.now.progress.growing p
    (meaning c.request-request.result) c.number_done.new.self.growing.made)
    c.args.stores.now.store c.number_done.new.stores.store) kept.parts
    (subst (λ (x : Growing). WasAsked g.S.TakeStore (judged_plan x c.make_room.new.self.progress.state.parts
    (meaning c.request-request.result) c.number_done.new.self.growing.made)
    c.args.stores.now.store c.number_done.new.stores.store) kept.growing c.in-Ok.ensures.asked.1.order))
    (c.in-Ok.ensures.places.known ∙ ap (λ (x : Growing). record x {
      made = c.number_done.new.self.growing.made;
      dirty = c.number_done.new.self.growing.dirty;
      ahead = c.number_done.new.self.growing.ahead;
    }) kept.growing)
    c.in-Ok.ensures.kept.clean c.in-Ok.ensures.kept.level
    (subst (λ (p : _). KeepsJudged p (meaning c.request-request.result) c.number_done.new.self.state.parts) kept.parts
    c.in-Ok.ensures.kept.kept)
    (c.in-Ok.ensures.kept.verdict ∙ ap (λ (p : _). judged_in p (meaning c.request-request.result)
    c.number_done.new.self.state.parts.taken) kept.parts)
    (c.in-Ok.ensures.kept.outcomes ∙ ap (λ (x : List (List ℕ × Verdict)).
    x ++ (c.args.digest, verdict_meaning c.in-Ok.verdict) ∷ []) kept.outcomes)
    (c.advance.ensures ∙ ap (λ (x : List (Option (List ℕ))). drop 1 x ++ None ∷ []) c.in_ok-room.ensures.window
    ∙ ap (λ (x : List (Option (List ℕ))). x ++ None ∷ []) (sym (passed_slot w (message_body m)))))

pub returns-in-Err-clause-asked : goal.returns-in-Err-clause-asked
returns-in-Err-clause-asked g c =
    let m : Message = message_of c.args.message.now in
    let w : List (Option (List ℕ)) = c.args.self.now.window in
    let kept = c.in_ok-room.ensures.progress in
    let slots = c.requires.slots in
    let there : 0 < length w = omega (arith, slots) in
    let said = message_spelled c.args.message.now.body.now c.args.message.now.spells in
    let a : Part = record (part_of c.args.self.now) { window = slice_set w 0 (Some (message_body m)) } in
    let b : Part = record {
      parts = c.number_done.new.self.state.parts;
      outcomes = c.number_done.new.self.ledger.outcomes;
      window = c.put.new.self;
      growing = c.number_done.new.self.growing;
    } in
    subst (λ (x : List (Option (List ℕ))). TriesFirst g.S.TakeStore (record (part_of c.args.self.now) { window = x })
    c.args.stores.now.store b c.number_done.new.stores.store)
    (sym (window_next w (length c.args.self.now.progress.ledger.outcomes) m c.requires.next c.requires.free))
    (tries_first g.S.TakeStore a b c.args.stores.now.store c.number_done.new.stores.store (message_body m)
    (meaning c.request-request.result) (at-set_same w 0 (Some (message_body m)) there)
    (c.request-request.ensures.value ∙ ap (λ (x : List ℕ). (message_in x).request) said.spelled) (
      c.in-Err.ensures.asked.0,
      subst (λ (p : _). WasAskedFirst g.S.TakeStore (judged_plan c.args.self.now.progress.growing p
          (meaning c.request-request.result) c.in-Err.ensures.asked.0)
          c.args.stores.now.store c.number_done.new.stores.store) kept.parts
          (subst (λ (x : Growing). WasAskedFirst g.S.TakeStore (judged_plan x c.make_room.new.self.progress.state.parts
          (meaning c.request-request.result) c.in-Err.ensures.asked.0)
          c.args.stores.now.store c.number_done.new.stores.store) kept.growing c.in-Err.ensures.asked.1.begun),
    )
    (subst (λ (p : _). StopsBeforeDone g.S.TakeStore p c.args.self.now.progress.growing (meaning c.request-request.result)
    c.number_done.new.self.state.parts c.number_done.new.self.growing c.args.stores.now.store
    c.number_done.new.stores.store) kept.parts
    (subst (λ (x : Growing). StopsBeforeDone g.S.TakeStore c.make_room.new.self.progress.state.parts x
    (meaning c.request-request.result) c.number_done.new.self.state.parts c.number_done.new.self.growing
    c.args.stores.now.store c.number_done.new.stores.store) kept.growing c.in-Err.ensures.left.stop))
    (ap (λ (l : Entries). l.outcomes) c.in-Err.ensures.left.ledger ∙ kept.outcomes)
    (c.put.ensures
    ∙ ap (λ (x : List (Option (List ℕ))). slice_set x 0 (Some c.copy_to.result)) c.in_ok-room.ensures.window
    ∙ ap (λ (b : List ℕ). slice_set w 0 (Some b)) c.copy_to.ensures))

pub returns-in_err-room-clause-refused : goal.returns-in_err-room-clause-refused
returns-in_err-room-clause-refused g c =
    let answer = err_from_is_err_and c.from_residual.result c.from_residual.ensures.1 in
    rw answer.1 (record {
      left = record { store = refl; journal = refl; progress = search rules; window = search rules };
      refused = search rules;
    })

pub returns-in-Ok-clause-tried : goal.returns-in-Ok-clause-tried
returns-in-Ok-clause-tried g c =
    let kept = c.in_ok-room.ensures.progress in
    record {
      both = subst (λ (n : List ℕ). KeepsBoth g.S.TakeStore g.J.Journal false n c.args.stores.now.store
          c.number_done.new.stores.store c.args.stores.now.journal c.number_done.new.stores.journal) kept.name
          c.in-Ok.ensures.both;
      calls = c.number_done.ensures.calls;
      done = ap length c.in-Ok.ensures.kept.outcomes
          ∙ length_push c.make_room.new.self.progress.ledger.outcomes (c.args.digest, verdict_meaning c.in-Ok.verdict)
          ∙ ap (λ (x : List (List ℕ × Verdict)). length x + 1) kept.outcomes;
    }

pub returns-in-Err-clause-tried : goal.returns-in-Err-clause-tried
returns-in-Err-clause-tried g c =
    let kept = c.in_ok-room.ensures.progress in
    let same : length c.number_done.new.self.ledger.outcomes ≡ length c.args.self.now.progress.ledger.outcomes =
    ap (λ (l : Entries). length l.outcomes) c.in-Err.ensures.left.ledger ∙ ap length kept.outcomes in
    record {
      both = subst (λ (n : List ℕ). KeepsBoth g.S.TakeStore g.J.Journal true n c.args.stores.now.store
          c.number_done.new.stores.store c.args.stores.now.journal c.number_done.new.stores.journal) kept.name
          c.in-Err.ensures.both;
      calls = c.number_done.ensures.calls;
      done = omega (arith, same);
    }

pub returns-in-Ok-clause-ordered : goal.returns-in-Ok-clause-ordered
returns-in-Ok-clause-ordered g c = λ honest honest_notes first log h existed noted order.
    let m : Message = message_of c.args.message.now in
    let w : List (Option (List ℕ)) = c.args.self.now.window in
    let kept = c.in_ok-room.ensures.progress in
    let here = next_prefix first log c.args.self.now c.make_room.new.self (g.S.TakeStore.contents c.args.stores.now.store)
    m (meaning c.request-request.result) c.args.digest h kept c.requires.name c.requires.next c.requires.free
    c.requires.slots c.request-request.ensures.value c.request-request.ensures.fits c.requires.digest in
    let prefix = here.1 in
    let next = c.requires.next in
    let put = subst (λ (n : ℕ). IsNoted (g.J.Journal.header c.args.stores.now.journal c.args.self.now.progress.name)
    c.args.self.now.progress.name (with_message log m) n
    (g.J.Journal.notes c.args.stores.now.journal c.args.self.now.progress.name)) (sym kept.noted)
    (notes_put first log c.args.self.now.progress.state.parts c.args.self.now.progress.ledger.outcomes w
    c.args.self.now.progress.growing _ h m 0 _ c.args.self.now.progress.name c.args.self.now.progress.noted _
    (omega (arith, next)) (omega arith) c.requires.free noted) in
    let untried = subst (λ (n : ℕ). FileComesFirst
    (g.J.Journal.header c.args.stores.now.journal c.args.self.now.progress.name) first c.args.self.now.progress.name n
    (IsCarriedOut c.make_room.new.self.progress.growing c.make_room.new.self.progress.state.parts
    (meaning c.request-request.result)) (g.J.Journal.notes c.args.stores.now.journal c.args.self.now.progress.name)
    (g.S.TakeStore.contents c.args.stores.now.store c.args.self.now.progress.name)) (sym kept.noted)
    (order_as _ _ _ _ _ _ _ _ (λ carried. absurd (none_carried (part_of c.args.self.now) c.requires.free carried))
    order) in
    order_then c.make_room.new.self.progress.name c.args.self.now.progress.name
    (g.J.Journal.header c.args.stores.now.journal) _ first (with_message log m) c.make_room.new.self.progress.noted _ _ _
    (g.J.Journal.notes c.args.stores.now.journal) (g.J.Journal.notes c.number_done.new.stores.journal)
    (g.S.TakeStore.contents c.args.stores.now.store) (g.S.TakeStore.contents c.number_done.new.stores.store) kept.name
    refl
    (λ e n o. order_as _ _ _ _ _ _ _ _ (λ none. absurd none)
    (c.in-Ok.ensures.ordered honest honest_notes first (with_message log m) prefix.0 prefix.1 e n o)) existed put untried

pub returns-in-Err-clause-ordered : goal.returns-in-Err-clause-ordered
returns-in-Err-clause-ordered g c = λ honest honest_notes first log h existed noted order.
    let m : Message = message_of c.args.message.now in
    let w : List (Option (List ℕ)) = c.args.self.now.window in
    let kept = c.in_ok-room.ensures.progress in
    let here = next_prefix first log c.args.self.now c.make_room.new.self (g.S.TakeStore.contents c.args.stores.now.store)
    m (meaning c.request-request.result) c.args.digest h kept c.requires.name c.requires.next c.requires.free
    c.requires.slots c.request-request.ensures.value c.request-request.ensures.fits c.requires.digest in
    let prefix = here.1 in
    let next = c.requires.next in
    let put = subst (λ (n : ℕ). IsNoted (g.J.Journal.header c.args.stores.now.journal c.args.self.now.progress.name)
    c.args.self.now.progress.name (with_message log m) n
    (g.J.Journal.notes c.args.stores.now.journal c.args.self.now.progress.name)) (sym kept.noted)
    (notes_put first log c.args.self.now.progress.state.parts c.args.self.now.progress.ledger.outcomes w
    c.args.self.now.progress.growing _ h m 0 _ c.args.self.now.progress.name c.args.self.now.progress.noted _
    (omega (arith, next)) (omega arith) c.requires.free noted) in
    let untried = subst (λ (n : ℕ). FileComesFirst
    (g.J.Journal.header c.args.stores.now.journal c.args.self.now.progress.name) first c.args.self.now.progress.name n
    (IsCarriedOut c.make_room.new.self.progress.growing c.make_room.new.self.progress.state.parts
    (meaning c.request-request.result)) (g.J.Journal.notes c.args.stores.now.journal c.args.self.now.progress.name)
    (g.S.TakeStore.contents c.args.stores.now.store c.args.self.now.progress.name)) (sym kept.noted)
    (order_as _ _ _ _ _ _ _ _ (λ carried. absurd (none_carried (part_of c.args.self.now) c.requires.free carried))
    order) in
    let said = message_spelled c.args.message.now.body.now c.args.message.now.spells in
    let slots = c.requires.slots in
    let there : 0 < length w = omega (arith, slots) in
    let b : Part = record {
      parts = c.number_done.new.self.state.parts;
      outcomes = c.number_done.new.self.ledger.outcomes;
      window = c.put.new.self;
      growing = c.number_done.new.self.growing;
    } in
    let held : at c.put.new.self 0 ≡ Some c.copy_to.result =
    ap (λ (x : List (Option (List ℕ))). at x 0) (c.put.ensures
    ∙ ap (λ (x : List (Option (List ℕ))). slice_set x 0 (Some c.copy_to.result)) c.in_ok-room.ensures.window)
    ∙ at-set_same w 0 (Some c.copy_to.result) there in
    let read : meaning c.request-request.result ≡ (message_in c.copy_to.result).request =
    c.request-request.ensures.value
    ∙ ap (λ (x : List ℕ). (message_in x).request) (said.spelled ∙ sym c.copy_to.ensures) in
    order_then c.make_room.new.self.progress.name c.args.self.now.progress.name
    (g.J.Journal.header c.args.stores.now.journal) _ first (with_message log m) c.make_room.new.self.progress.noted _ _ _
    (g.J.Journal.notes c.args.stores.now.journal) (g.J.Journal.notes c.number_done.new.stores.journal)
    (g.S.TakeStore.contents c.args.stores.now.store) (g.S.TakeStore.contents c.number_done.new.stores.store) kept.name
    refl
    (λ e n o. order_as _ _ _ _ _ _ _ _ (next_carried b c.copy_to.result (meaning c.request-request.result) held read)
    (c.in-Err.ensures.ordered honest honest_notes first (with_message log m) prefix.0 prefix.1 e n o)) existed put untried

use Rattle.std.proofs.Common.{◌≡◌, ◌<◌, ℕ, List, Option, None, Some, Bool, cond, not, ◌&&◌, length, map}
use Rattle.std.proofs.Common.{refl, sym, ◌∙◌, ap, subst, arith, inl, inr}
use Rattle.std.specs.Prelude.{is_some, nat_le}
use Rattle.std.specs.Option.{option_map_or}
use Rattle.std.specs.Str.{bytes_eq}
use Rattle.std.specs.HashMap.{spare}
use Rattle.std.proofs.lemmas.Bool.{lt-leb}
use Rattle.std.proofs.lemmas.Result.{err_from_is_err_and}
use Rattle.bw_model.specs.Wire.{Message}
use Rattle.bw_model.specs.Book.{Log, no_log, log_of, is_known}
use Rattle.bw_model.specs.Turn.{is_full, window, most_takes}
use Rattle.bw_model.specs.CountedTurn.{book_reported}
use Rattle.bw_model.proofs.BookLemmas.{unknown_log}
use Rattle.bw_file.specs.GrowingFiles.{Growing}
use Rattle.bw_store.specs.Stores.{KeepsOthers}
use Rattle.bw_wire.specs.Frames.{message_of}
use Rattle.bw_wire.proofs.BodyLaws.{message_spelled}
use Rattle.bw_session.specs.Sessions.{CallsFew, HoldsLog, part_of}
use Rattle.bw_wire.specs.Replies.{reply_of}
use Rattle.bw_journal.specs.JournalHeaders.{header_bytes}
use Rattle.bw_journal.specs.Notes.{IsPrefixOf}
use Rattle.bw_session.specs.NameNotes.{IsNoted}
use Rattle.bw_session.specs.ServedMessages.{ServesMessage, log_after}
use Rattle.bw_session.specs.Servers.{store_since, done_in}
use Rattle.bw_session.specs.NextNumbers.{KeepsBoth, failed_calls}
use Rattle.bw_session.specs.declared.session.Session.{Session}
use Rattle.bw_session.specs.Books.{failures_of}
use Rattle.bw_session.specs.Tables.{session_in}
use Rattle.bw_session.proofs.ServerForms.{table_set, book_turned, inserted, one_more, unknown_here, put_here}
use Rattle.bw_session.proofs.AnswerForms.{answers_served, answers_known, none_away}
use Rattle.bw_session.proofs.RunForms.{noted_then}
use Rattle.bw_session.proofs.JournalForms.{notes_after, order_after, reported_here, reported_others}
use Rattle.bw_session.proofs.CountForms.{counted}
use Rattle.bw_session.specs.ConsecutiveCalls.{new_part}
use Rattle.bw_session.proofs.AskForms.{asks_at}
use Rattle.bw_session.proofs.OrderForms.{order_then}
use Rattle.bw_session.proofs.OrderSteps.{quiet_ends}
use Rattle.bw_session.proofs.server.Server.begin.Goals as goal

pub invariant_of-self-2 : goal.invariant_of-self-2
invariant_of-self-2 g c =
    let table = c.args.self.now.table in
    let before = table.room in
    let place = c.requires.place in
    let room : 0 < spare c.args.self.now.sessions = omega (arith, before, place) in
    let ok = c.insert.ensures.succeeds room in
    let take = c.in_ok-serve.ensures.take in
    let less = c.insert.ensures.spare in
    let one = one_more c.insert.result ok _ _ _ c.insert.ensures.old
    (subst (λ (n : List ℕ). session_in c.args.self.now.sessions n ≡ None) (sym c.copy-2.ensures)
    c.requires.fresh) c.insert.ensures.len in
    record {
      table = table_set c.args.self.now.sessions c.insert.new.self c.args.self.now.limit c.args.name.now
          c.serve.new.self table (omega (arith, one, place)) (omega (arith, one, before, less))
          (subst (λ (k : List ℕ). (n : List ℕ) → session_in c.insert.new.self n
          ≡ cond (bytes_eq k n) (Some c.serve.new.self) (session_in c.args.self.now.sessions n)) c.copy-2.ensures
          (inserted c.insert.result ok c.insert.ensures.updates).0)
          (take.name ∙ c.in_ok-session.ensures.name ∙ c.copy.ensures)
          (ap (λ (x : Growing). x.limit) (take.growing) ∙ ap (λ (x : Growing). x.limit) c.in_ok-session.ensures.growing);
    }

pub returns-clause-both : goal.returns-clause-both
returns-clause-both g c =
    let both = c.in_ok-serve.ensures.both in
    let owner = c.in_ok-session.ensures.name ∙ c.copy.ensures in
    let none : length c.in_ok-session.session.progress.ledger.outcomes ≡ 0 =
    (c.in_ok-session.ensures.holds None).memory.done in
    let here = put_here (session_in c.args.self.now.sessions) (session_in c.insert.new.self) c.args.name.now
    c.serve.new.self
    (subst (λ (k : List ℕ). (n : List ℕ) → session_in c.insert.new.self n
    ≡ cond (bytes_eq k n) (Some c.serve.new.self) (session_in c.args.self.now.sessions n)) c.copy-2.ensures
    c.in-Ok.ensures.updates.0) in
    let now : done_in c.insert.new.self c.args.name.now ≡ length c.serve.new.self.progress.ledger.outcomes =
    ap (λ (o : Option Session). option_map_or (λ x. length x.progress.ledger.outcomes) o 0) here in (
      both.0,
      subst (λ (n : List ℕ). KeepsBoth g.S.TakeStore g.J.Journal both.0 n c.args.self.now.stores.store
          c.serve.new.stores.store c.args.self.now.stores.journal c.serve.new.stores.journal) owner both.1,
      subst (λ (k : ℕ). CallsFew (g.S.TakeStore.calls c.args.self.now.stores.store)
          (g.S.TakeStore.calls c.serve.new.stores.store) 0 k both.0) (sym now)
          (subst (λ (k : ℕ). CallsFew (g.S.TakeStore.calls c.args.self.now.stores.store)
          (g.S.TakeStore.calls c.serve.new.stores.store) k (length c.serve.new.self.progress.ledger.outcomes) both.0)
          none both.2),
      both.3,
    )

pub returns-clause-met : goal.returns-clause-met
returns-clause-met g c =
    ap is_some (put_here (session_in c.args.self.now.sessions) (session_in c.insert.new.self) c.args.name.now
    c.serve.new.self
    (subst (λ (k : List ℕ). (n : List ℕ) → session_in c.insert.new.self n
    ≡ cond (bytes_eq k n) (Some c.serve.new.self) (session_in c.args.self.now.sessions n)) c.copy-2.ensures
    c.in-Ok.ensures.updates.0))

pub returns-in_err-session-clause-left : goal.returns-in_err-session-clause-left
returns-in_err-session-clause-left g c =
    let answer = err_from_is_err_and c.from_residual.result c.from_residual.ensures.1 in
    rw answer.1 (record { sessions = refl; store = refl; journal = refl })

pub returns-in_err-serve-clause-left : goal.returns-in_err-serve-clause-left
returns-in_err-serve-clause-left g c =
    let answer = err_from_is_err_and c.from_residual-in_err-serve.result c.from_residual-in_err-serve.ensures.1 in
    let left = c.in_err-serve.ensures.refused.left in
    rw answer.1 (record { sessions = refl; store = left.store; journal = left.journal })

pub returns-clause-turned : goal.returns-clause-turned
returns-clause-turned g c = record {
  asked = let m : Message = message_of c.args.message.now in
      let s : Session = c.in_ok-session.session in
      let s' : Session = c.serve.new.self in
      let limit : ℕ = c.args.self.now.limit in
      let fresh = subst (λ (n : List ℕ). session_in c.args.self.now.sessions n ≡ None) (sym c.requires.name)
      c.requires.fresh in
      let here = put_here (session_in c.args.self.now.sessions) (session_in c.insert.new.self) m.name s'
      (subst (λ (k : List ℕ). (n : List ℕ) → session_in c.insert.new.self n
      ≡ cond (bytes_eq k n) (Some s') (session_in c.args.self.now.sessions n)) (c.copy-2.ensures ∙ sym c.requires.name)
      c.in-Ok.ensures.updates.0) in
      asks_at g.S.TakeStore m limit (part_of s) (part_of s') (session_in c.args.self.now.sessions m.name)
      (session_in c.insert.new.self m.name) c.args.self.now.stores.store c.serve.new.stores.store
      (c.in_ok-session.ensures.part ∙ ap (λ (n : List ℕ). new_part n limit) (c.copy.ensures ∙ sym c.requires.name)
      ∙ sym (ap (λ (o : Option Session). option_map_or part_of o (new_part m.name limit)) fresh))
      (sym (ap (λ (o : Option Session). option_map_or part_of o (new_part m.name limit)) here))
      c.in_ok-serve.ensures.asked;
  turned = λ honest first book h.
      let m : Message = message_of c.args.message.now in
      let said = message_spelled c.args.message.now.body.now c.args.message.now.spells in
      let s : Session = c.serve.new.self in
      let take = c.in_ok-serve.ensures.take in
      let both = c.in_ok-serve.ensures.both in
      let owner : c.in_ok-session.session.progress.name ≡ m.name =
      c.in_ok-session.ensures.name ∙ c.copy.ensures ∙ sym c.requires.name in
      let fresh = subst (λ (n : List ℕ). session_in c.args.self.now.sessions n ≡ None) (sym c.requires.name)
      c.requires.fresh in
      let unknown = unknown_here c.args.self.now.limit (store_since g.S.TakeStore first c.args.self.now.stores.store)
      (session_in c.args.self.now.sessions) book h honest m.name fresh in
      let nothing = h.holds.others honest m.name (inr unknown) in
      let served = c.in_ok-serve.ensures.served honest (first m.name) no_log
      (subst (λ (o : Option (List ℕ)). HoldsLog (first m.name) no_log (part_of c.in_ok-session.session) o)
      (sym (ap (g.S.TakeStore.contents c.args.self.now.stores.store) owner ∙ nothing))
      (c.in_ok-session.ensures.holds (first m.name))) in
      let after : ℕ = failed_calls (g.S.TakeStore.failures c.serve.new.stores.store)
      (g.J.Journal.failures c.serve.new.stores.journal) in
      let here = subst (λ (n : List ℕ). ServesMessage (first m.name) no_log m (failures_of g.S.TakeStore g.J.Journal c.args.self.now)
      after c.serve.new.out.items (part_of s) (g.S.TakeStore.contents c.serve.new.stores.store n)) owner served in
      let there = subst (λ (l : Log). ServesMessage (first m.name) l m (failures_of g.S.TakeStore g.J.Journal c.args.self.now)
      after c.serve.new.out.items (part_of s) (g.S.TakeStore.contents c.serve.new.stores.store m.name))
      (sym (unknown_log book m.name unknown)) here in
      let count = counted c.args.self.now.sessions book c.requires.unique h.holds.is_book c.args.self.now.table.few h.holds.names in
      let place = c.requires.place in
      let near = ap (λ (k : Bool). not k && nat_le window m.number) unknown ∙ lt-leb window m.number c.requires.near in
      let fits = ap (λ (k : Bool). not k && is_full book) unknown
      ∙ lt-leb most_takes (length book) (omega (arith, count, place)) in
      let sets = subst (λ (k : List ℕ). (n : List ℕ) → session_in c.insert.new.self n
      ≡ cond (bytes_eq k n) (Some s) (session_in c.args.self.now.sessions n)) (c.copy-2.ensures ∙ sym c.requires.name)
      c.in-Ok.ensures.updates.0 in
      let others = subst (λ (n : List ℕ). KeepsOthers (g.S.TakeStore.contents c.args.self.now.stores.store)
      (g.S.TakeStore.contents c.serve.new.stores.store) n) owner (both.1.others honest) in
      let turned = book_turned c.args.self.now.limit (store_since g.S.TakeStore first c.args.self.now.stores.store)
      (store_since g.S.TakeStore first c.serve.new.stores.store) (session_in c.args.self.now.sessions)
      (session_in c.insert.new.self) book h honest m said.fits s
      (failures_of g.S.TakeStore g.J.Journal c.args.self.now) after c.serve.new.out.items sets refl others
      (ap (λ (x : Growing). x.name) take.growing ∙ c.in_ok-session.session.progress.same_name ∙ owner)
      (ap (λ (x : Growing). x.limit) take.growing ∙ ap (λ (x : Growing). x.limit) c.in_ok-session.ensures.growing)
      (answers_served (is_known book m.name) (is_full book) (first m.name) (log_of book m.name) m near fits
      (failures_of g.S.TakeStore g.J.Journal c.args.self.now) after c.serve.new.out.items (part_of s)
      (g.S.TakeStore.contents c.serve.new.stores.store m.name) there)
      (inl (answers_known (is_known book m.name) (is_full book) (first m.name) (log_of book m.name) m near fits
      (failures_of g.S.TakeStore g.J.Journal c.args.self.now) after c.serve.new.out.items (part_of s)
      (g.S.TakeStore.contents c.serve.new.stores.store m.name) there)) in
      record { later = _; turned = turned.0; held = turned.1 };
  noted = λ honest honest_notes asleep awake first book h n.
      let m : Message = message_of c.args.message.now in
      let s : Session = c.serve.new.self in
      let both = c.in_ok-serve.ensures.both in
      let owner : c.in_ok-session.session.progress.name ≡ m.name =
      c.in_ok-session.ensures.name ∙ c.copy.ensures ∙ sym c.requires.name in
      let fresh = subst (λ (n : List ℕ). session_in c.args.self.now.sessions n ≡ None) (sym c.requires.name)
      c.requires.fresh in
      let unknown = unknown_here c.args.self.now.limit (store_since g.S.TakeStore first c.args.self.now.stores.store)
      (session_in c.args.self.now.sessions) book h honest m.name fresh in
      let nothing = h.holds.others honest m.name (inr unknown) in
      let near = ap (λ (k : Bool). not k && nat_le window m.number) unknown ∙ lt-leb window m.number c.requires.near in
      let sets = subst (λ (k : List ℕ). (n : List ℕ) → session_in c.insert.new.self n
      ≡ cond (bytes_eq k n) (Some s) (session_in c.args.self.now.sessions n)) (c.copy-2.ensures ∙ sym c.requires.name)
      c.in-Ok.ensures.updates.0 in
      let here = put_here (session_in c.args.self.now.sessions) (session_in c.insert.new.self) m.name s sets in
      let done : done_in c.insert.new.self m.name ≡ length s.progress.ledger.outcomes =
      ap (λ (o : Option Session). option_map_or (λ x. length x.progress.ledger.outcomes) o 0) here in
      let begun = subst (λ (k : List ℕ). IsNoted (g.J.Journal.header c.args.self.now.stores.journal m.name) k no_log
      c.in_ok-session.session.progress.noted (g.J.Journal.notes c.args.self.now.stores.journal m.name))
      (c.copy.ensures ∙ sym c.requires.name)
      (c.in_ok-session.ensures.noted (g.J.Journal.header c.args.self.now.stores.journal m.name)
      (g.J.Journal.notes c.args.self.now.stores.journal m.name)
      (subst (λ (k : List ℕ). IsPrefixOf (header_bytes k (g.J.Journal.header c.args.self.now.stores.journal m.name))
      (g.J.Journal.notes c.args.self.now.stores.journal m.name)) (sym (c.copy.ensures ∙ sym c.requires.name))
      (n.unknown m.name fresh awake))) in
      let noted = noted_then c.in_ok-session.session.progress.name m.name
      (g.J.Journal.header c.args.self.now.stores.journal) _ (first m.name) no_log
      (log_after no_log m (length s.progress.ledger.outcomes)) c.in_ok-session.session.progress.noted _
      (g.J.Journal.notes c.args.self.now.stores.journal) (g.J.Journal.notes c.serve.new.stores.journal) owner refl
      (c.in_ok-serve.ensures.noted honest honest_notes (first m.name) no_log
      (subst (λ (o : Option (List ℕ)). HoldsLog (first m.name) no_log (part_of c.in_ok-session.session) o)
      (sym (ap (g.S.TakeStore.contents c.args.self.now.stores.store) owner ∙ nothing))
      (c.in_ok-session.ensures.holds (first m.name)))) (n.existed m.name awake) begun in
      notes_after asleep (g.J.Journal.header c.args.self.now.stores.journal) (g.J.Journal.header c.serve.new.stores.journal)
      (g.J.Journal.notes c.args.self.now.stores.journal) (g.J.Journal.notes c.serve.new.stores.journal) first
      (session_in c.args.self.now.sessions) (session_in c.insert.new.self) book
      (book_reported book m (map reply_of c.serve.new.out.items) (done_in c.insert.new.self m.name)) m.name s
      (log_after no_log m (length s.progress.ledger.outcomes)) n (both.1.headers honest_notes)
      (subst (λ (k : List ℕ). KeepsOthers (g.J.Journal.notes c.args.self.now.stores.journal)
      (g.J.Journal.notes c.serve.new.stores.journal) k) owner (both.1.other_notes honest_notes)) sets
      (reported_here book m (map reply_of c.serve.new.out.items) (done_in c.insert.new.self m.name) near
      ∙ ap (λ (b : Bool). cond b (log_of book m.name) (log_after (log_of book m.name) m
      (done_in c.insert.new.self m.name))) (none_away c.serve.new.out.items c.in_ok-serve.ensures.reported)
      ∙ ap (λ (l : Log). log_after l m (done_in c.insert.new.self m.name)) (unknown_log book m.name unknown)
      ∙ ap (log_after no_log m) done)
      (reported_others book m (map reply_of c.serve.new.out.items) (done_in c.insert.new.self m.name) near) noted;
  ordered = λ honest honest_notes asleep awake first book h n o.
      let m : Message = message_of c.args.message.now in
      let s : Session = c.serve.new.self in
      let both = c.in_ok-serve.ensures.both in
      let owner : c.in_ok-session.session.progress.name ≡ m.name =
      c.in_ok-session.ensures.name ∙ c.copy.ensures ∙ sym c.requires.name in
      let fresh = subst (λ (n : List ℕ). session_in c.args.self.now.sessions n ≡ None) (sym c.requires.name)
      c.requires.fresh in
      let unknown = unknown_here c.args.self.now.limit (store_since g.S.TakeStore first c.args.self.now.stores.store)
      (session_in c.args.self.now.sessions) book h honest m.name fresh in
      let nothing = h.holds.others honest m.name (inr unknown) in
      let sets = subst (λ (k : List ℕ). (n : List ℕ) → session_in c.insert.new.self n
      ≡ cond (bytes_eq k n) (Some s) (session_in c.args.self.now.sessions n)) (c.copy-2.ensures ∙ sym c.requires.name)
      c.in-Ok.ensures.updates.0 in
      let begun = subst (λ (k : List ℕ). IsNoted (g.J.Journal.header c.args.self.now.stores.journal m.name) k no_log
      c.in_ok-session.session.progress.noted (g.J.Journal.notes c.args.self.now.stores.journal m.name))
      (c.copy.ensures ∙ sym c.requires.name)
      (c.in_ok-session.ensures.noted (g.J.Journal.header c.args.self.now.stores.journal m.name)
      (g.J.Journal.notes c.args.self.now.stores.journal m.name)
      (subst (λ (k : List ℕ). IsPrefixOf (header_bytes k (g.J.Journal.header c.args.self.now.stores.journal m.name))
      (g.J.Journal.notes c.args.self.now.stores.journal m.name)) (sym (c.copy.ensures ∙ sym c.requires.name))
      (n.unknown m.name fresh awake))) in
      let here = order_then c.in_ok-session.session.progress.name m.name
      (g.J.Journal.header c.args.self.now.stores.journal) _ (first m.name) no_log
      c.in_ok-session.session.progress.noted _ _ _ (g.J.Journal.notes c.args.self.now.stores.journal)
      (g.J.Journal.notes c.serve.new.stores.journal) (g.S.TakeStore.contents c.args.self.now.stores.store)
      (g.S.TakeStore.contents c.serve.new.stores.store) owner refl
      (c.in_ok-serve.ensures.ordered honest honest_notes (first m.name) no_log
      (subst (λ (o : Option (List ℕ)). HoldsLog (first m.name) no_log (part_of c.in_ok-session.session) o)
      (sym (ap (g.S.TakeStore.contents c.args.self.now.stores.store) owner ∙ nothing))
      (c.in_ok-session.ensures.holds (first m.name)))) (n.existed m.name awake) begun
      (record { begun = λ short. nothing; entered = inl (quiet_ends _ _ no_log _ _ begun refl) }) in
      order_after (g.J.Journal.header c.args.self.now.stores.journal) (g.J.Journal.header c.serve.new.stores.journal)
      (g.J.Journal.notes c.args.self.now.stores.journal) (g.J.Journal.notes c.serve.new.stores.journal) first
      (g.S.TakeStore.contents c.args.self.now.stores.store) (g.S.TakeStore.contents c.serve.new.stores.store)
      (session_in c.args.self.now.sessions) (session_in c.insert.new.self) m.name s o (both.1.headers honest_notes)
      (subst (λ (k : List ℕ). KeepsOthers (g.J.Journal.notes c.args.self.now.stores.journal)
      (g.J.Journal.notes c.serve.new.stores.journal) k) owner (both.1.other_notes honest_notes))
      (subst (λ (k : List ℕ). KeepsOthers (g.S.TakeStore.contents c.args.self.now.stores.store)
      (g.S.TakeStore.contents c.serve.new.stores.store) k) owner (both.1.others honest)) sets here;
}

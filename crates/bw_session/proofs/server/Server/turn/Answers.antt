use Rattle.std.proofs.Common.{rules}
use Rattle.std.proofs.Common.{◌≡◌, ◌+◌, ◌≤◌, ℕ, List, Option, Some, true, false, Bool, cond, length, refl, sym, ◌∙◌}
use Rattle.std.proofs.Common.{ap, subst, inr, map, not, ◌&&◌}
use Rattle.std.specs.Prelude.{is_some, nat_le}
use Rattle.std.specs.Str.{bytes_eq}
use Rattle.std.specs.Option.{option_map_or}
use Rattle.std.specs.HashMap.{hash_map_len, spare}
use Rattle.bw_model.specs.Wire.{Message}
use Rattle.bw_model.specs.Book.{log_of, is_known}
use Rattle.bw_model.specs.Turn.{is_full, most_takes, window}
use Rattle.bw_model.specs.CountedTurn.{book_reported}
use Rattle.bw_file.specs.GrowingFiles.{Growing}
use Rattle.bw_store.specs.Stores.{KeepsOthers}
use Rattle.bw_wire.specs.Frames.{message_of}
use Rattle.bw_wire.proofs.BodyLaws.{message_spelled}
use Rattle.bw_session.specs.NextNumbers.{KeepsBoth, failed_calls}
use Rattle.bw_session.specs.Sessions.{CallsFew, HoldsLog, part_of}
use Rattle.bw_wire.specs.Replies.{reply_of}
use Rattle.bw_session.specs.ServedMessages.{Answers, log_reported}
use Rattle.bw_session.specs.Servers.{HoldsIn, kept_in, store_since, done_in}
use Rattle.bw_session.specs.Books.{failures_of}
use Rattle.bw_session.specs.NotedNames.{NotesNames}
use Rattle.bw_session.specs.Tables.{session_in}
use Rattle.bw_session.specs.declared.session.Session.{Session}
use Rattle.bw_session.proofs.AnswerForms.{answers_full}
use Rattle.bw_session.proofs.RunForms.{noted_then}
use Rattle.bw_session.proofs.JournalForms.{OrderIn, notes_after, order_after, reported_here, reported_others}
use Rattle.bw_session.proofs.ServerForms.{table_set, book_turned, known_here, part_here, put_here}
use Rattle.bw_session.proofs.AdmitForms.{no_false}
use Rattle.bw_session.proofs.UseForms.{same_kept, kept_put}
use Rattle.bw_session.specs.ConsecutiveCalls.{AsksInTurn, new_part}
use Rattle.bw_session.specs.Servers.{part_in}
use Rattle.bw_session.proofs.AskForms.{asks_at}
use Rattle.bw_session.proofs.OrderForms.{order_then}
use Rattle.bw_session.proofs.server.Server.turn.Goals as goal

pub answer-requires-clause-name : goal.answer-requires-clause-name
answer-requires-clause-name g c =
    let m : Message = message_of c.args.message.now in
    let found = subst (λ (n : List ℕ). session_in c.args.self.now.sessions n ≡ Some c.in-Some.session.now)
    c.name-name.ensures (sym c.in-Some.ensures.value) in
    sym (c.args.self.now.table.names m.name c.in-Some.session.now found)

pub invariant_of-self : goal.invariant_of-self
invariant_of-self g c =
    let s : Session = c.in-Some.session.now in
    let m : Message = message_of c.args.message.now in
    let table = c.args.self.now.table in
    let found = subst (λ (n : List ℕ). session_in c.args.self.now.sessions n ≡ Some s) c.name-name.ensures
    (sym c.in-Some.ensures.value) in
    let holds = c.get_mut.follows.holds c.answer.new.self in
    let take = c.answer.ensures.take in
    record {
      table = table_set c.args.self.now.sessions (c.get_mut.follows.lender c.answer.new.self) c.args.self.now.limit
          c.name-name.result c.answer.new.self table
          (subst (λ (n : ℕ). n ≤ most_takes) (sym holds.2) table.few)
          (subst (λ (n : ℕ). most_takes ≤ n + spare (c.get_mut.follows.lender c.answer.new.self)) (sym holds.2)
          (subst (λ (n : ℕ). most_takes ≤ hash_map_len c.args.self.now.sessions + n) (sym holds.6) table.room))
          (holds.3 (sym (ap is_some c.in-Some.ensures.value))).0
          (take.name ∙ table.names m.name s found ∙ sym c.name-name.ensures)
          (ap (λ (x : Growing). x.limit) take.growing ∙ table.limits m.name s found);
    }

pub returns-in-Some-clause-both : goal.returns-in-Some-clause-both
returns-in-Some-clause-both g c =
    let s : Session = c.in-Some.session.now in
    let m : Message = message_of c.args.message.now in
    let both = c.answer.ensures.both in
    let found = subst (λ (n : List ℕ). session_in c.args.self.now.sessions n ≡ Some s) c.name-name.ensures
    (sym c.in-Some.ensures.value) in
    let named = c.args.self.now.table.names m.name s found in
    let holds = c.get_mut.follows.holds c.answer.new.self in
    let sets = subst (λ (k : List ℕ). (n : List ℕ) → session_in (c.get_mut.follows.lender c.answer.new.self) n
    ≡ cond (bytes_eq k n) (Some c.answer.new.self) (session_in c.args.self.now.sessions n)) c.name-name.ensures
    (holds.3 (sym (ap is_some c.in-Some.ensures.value))).0 in
    let here = put_here (session_in c.args.self.now.sessions) (session_in (c.get_mut.follows.lender c.answer.new.self))
    m.name c.answer.new.self sets in
    let before : done_in c.args.self.now.sessions m.name ≡ length s.progress.ledger.outcomes =
    ap (λ (o : Option Session). option_map_or (λ x. length x.progress.ledger.outcomes) o 0) found in
    let after : done_in (c.get_mut.follows.lender c.answer.new.self) m.name
    ≡ length c.answer.new.self.progress.ledger.outcomes =
    ap (λ (o : Option Session). option_map_or (λ x. length x.progress.ledger.outcomes) o 0) here in (
      both.0,
      subst (λ (n : List ℕ). KeepsBoth g.S.TakeStore g.J.Journal both.0 n c.args.self.now.stores.store
          c.answer.new.stores.store c.args.self.now.stores.journal c.answer.new.stores.journal) named both.1,
      subst (λ (k : ℕ). CallsFew (g.S.TakeStore.calls c.args.self.now.stores.store)
          (g.S.TakeStore.calls c.answer.new.stores.store) (done_in c.args.self.now.sessions m.name) k both.0)
          (sym after)
          (subst (λ (k : ℕ). CallsFew (g.S.TakeStore.calls c.args.self.now.stores.store)
          (g.S.TakeStore.calls c.answer.new.stores.store) k (length c.answer.new.self.progress.ledger.outcomes) both.0)
          (sym before) both.2),
      both.3,
    )

pub returns-in-Some-clause-uncalled : goal.returns-in-Some-clause-uncalled
returns-in-Some-clause-uncalled g c = λ away.
    let s : Session = c.in-Some.session.now in
    let s' : Session = c.answer.new.self in
    let m : Message = message_of c.args.message.now in
    let kept = c.answer.ensures.uncalled away in
    let found = subst (λ (n : List ℕ). session_in c.args.self.now.sessions n ≡ Some s) c.name-name.ensures
    (sym c.in-Some.ensures.value) in
    let sets = subst (λ (k : List ℕ). (n : List ℕ) → session_in (c.get_mut.follows.lender s') n
    ≡ cond (bytes_eq k n) (Some s') (session_in c.args.self.now.sessions n)) c.name-name.ensures
    ((c.get_mut.follows.holds s').3 (sym (ap is_some c.in-Some.ensures.value))).0 in (
      kept.store,
      kept.journal,
      kept_put (session_in c.args.self.now.sessions) (session_in (c.get_mut.follows.lender s')) m.name s s' found sets
          (same_kept s s' kept.progress kept.window),
    )

pub returns-in-None-clause-uncalled : goal.returns-in-None-clause-uncalled
returns-in-None-clause-uncalled g c = λ away.
    let kept = c.meet.ensures.uncalled away in (
      kept.0,
      kept.1,
      λ name. ap (λ (t : _). kept_in t name) (kept.2 ∙ c.get_mut.follows.holds-at-none),
    )

pub returns-in-Some-clause-turned : goal.returns-in-Some-clause-turned
returns-in-Some-clause-turned g c = λ honest first book h.
    let s : Session = c.in-Some.session.now in
    let s' : Session = c.answer.new.self in
    let m : Message = message_of c.args.message.now in
    let said = message_spelled c.args.message.now.body.now c.args.message.now.spells in
    let table = c.args.self.now.table in
    let take = c.answer.ensures.take in
    let both = c.answer.ensures.both in
    let limit : ℕ = c.args.self.now.limit in
    let found = subst (λ (n : List ℕ). session_in c.args.self.now.sessions n ≡ Some s) c.name-name.ensures
    (sym c.in-Some.ensures.value) in
    let named = table.names m.name s found in
    let limited = table.limits m.name s found in
    let holds = c.get_mut.follows.holds s' in
    let sets = subst (λ (k : List ℕ). (n : List ℕ) → session_in (c.get_mut.follows.lender s') n
    ≡ cond (bytes_eq k n) (Some s') (session_in c.args.self.now.sessions n)) c.name-name.ensures
    (holds.3 (sym (ap is_some c.in-Some.ensures.value))).0 in
    let store = store_since g.S.TakeStore first c.args.self.now.stores.store in
    let known = known_here limit store (session_in c.args.self.now.sessions) book h honest m.name s found in
    let part = part_here limit store (session_in c.args.self.now.sessions) book h honest m.name s found
    (s.progress.same_name ∙ named) limited in
    let before : ℕ = failures_of g.S.TakeStore g.J.Journal c.args.self.now in
    let after : ℕ = failed_calls (g.S.TakeStore.failures c.answer.new.stores.store)
    (g.J.Journal.failures c.answer.new.stores.journal) in
    let answers = c.answer.ensures.answers honest (first m.name) (log_of book m.name)
    (subst (λ (n : List ℕ). HoldsLog (first m.name) (log_of book m.name) (part_of s)
    (g.S.TakeStore.contents c.args.self.now.stores.store n)) (sym named) part) in
    let here = subst (λ (n : List ℕ). Answers true false (first m.name) (log_of book m.name) m before after
    c.answer.new.out.items (part_of s') (g.S.TakeStore.contents c.answer.new.stores.store n)) named answers in
    let full = subst (λ (k : Bool). Answers k (is_full book) (first m.name) (log_of book m.name) m before after
    c.answer.new.out.items (part_of s') (g.S.TakeStore.contents c.answer.new.stores.store m.name)) (sym known)
    (answers_full (is_full book) (first m.name) (log_of book m.name) m before after c.answer.new.out.items
    (part_of s') (g.S.TakeStore.contents c.answer.new.stores.store m.name) here) in
    let turned = book_turned limit store (store_since g.S.TakeStore first c.answer.new.stores.store)
    (session_in c.args.self.now.sessions) (session_in (c.get_mut.follows.lender s')) book h honest m said.fits s'
    before after c.answer.new.out.items sets refl
    (subst (λ (n : List ℕ). KeepsOthers (g.S.TakeStore.contents c.args.self.now.stores.store)
    (g.S.TakeStore.contents c.answer.new.stores.store) n) named (both.1.others honest))
    (ap (λ (x : Growing). x.name) take.growing ∙ s.progress.same_name ∙ named)
    (ap (λ (x : Growing). x.limit) take.growing ∙ limited) full (inr known) in
    record { later = _; turned = turned.0; held = turned.1 }

pub returns-in-None-clause-turned : goal.returns-in-None-clause-turned
returns-in-None-clause-turned g c = λ honest first book h.
    let turned = c.meet.ensures.turned.turned honest first book
    (subst (λ (t : _). HoldsIn c.args.self.now.limit (store_since g.S.TakeStore first c.args.self.now.stores.store)
    (session_in t) book) (sym c.get_mut.follows.holds-at-none) h) in
    record { later = turned.later; turned = turned.turned; held = turned.held }

pub returns-in-Some-clause-noted : goal.returns-in-Some-clause-noted
returns-in-Some-clause-noted g c = λ honest honest_notes asleep awake first book h n.
    let s : Session = c.in-Some.session.now in
    let s' : Session = c.answer.new.self in
    let m : Message = message_of c.args.message.now in
    let table = c.args.self.now.table in
    let both = c.answer.ensures.both in
    let limit : ℕ = c.args.self.now.limit in
    let found = subst (λ (n : List ℕ). session_in c.args.self.now.sessions n ≡ Some s) c.name-name.ensures
    (sym c.in-Some.ensures.value) in
    let named = table.names m.name s found in
    let limited = table.limits m.name s found in
    let holds = c.get_mut.follows.holds s' in
    let sets = subst (λ (k : List ℕ). (n : List ℕ) → session_in (c.get_mut.follows.lender s') n
    ≡ cond (bytes_eq k n) (Some s') (session_in c.args.self.now.sessions n)) c.name-name.ensures
    (holds.3 (sym (ap is_some c.in-Some.ensures.value))).0 in
    let here = put_here (session_in c.args.self.now.sessions) (session_in (c.get_mut.follows.lender s')) m.name s'
    sets in
    let done : done_in (c.get_mut.follows.lender s') m.name ≡ length s'.progress.ledger.outcomes =
    ap (λ (o : Option Session). option_map_or (λ x. length x.progress.ledger.outcomes) o 0) here in
    let store = store_since g.S.TakeStore first c.args.self.now.stores.store in
    let known = known_here limit store (session_in c.args.self.now.sessions) book h honest m.name s found in
    let part = part_here limit store (session_in c.args.self.now.sessions) book h honest m.name s found
    (s.progress.same_name ∙ named) limited in
    let near : (not (is_known book m.name) && nat_le window m.number) ≡ false =
    ap (λ (k : Bool). not k && nat_le window m.number) known in
    let noted = noted_then s.progress.name m.name (g.J.Journal.header c.args.self.now.stores.journal) _ (first m.name)
    (log_of book m.name)
    (log_reported (log_of book m.name) m (map reply_of c.answer.new.out.items) (length s'.progress.ledger.outcomes))
    s.progress.noted _ (g.J.Journal.notes c.args.self.now.stores.journal)
    (g.J.Journal.notes c.answer.new.stores.journal) named refl
    (c.answer.ensures.noted honest honest_notes (first m.name) (log_of book m.name)
    (subst (λ (n : List ℕ). HoldsLog (first m.name) (log_of book m.name) (part_of s)
    (g.S.TakeStore.contents c.args.self.now.stores.store n)) (sym named) part)) (n.existed m.name awake)
    (n.known m.name s found) in
    notes_after asleep (g.J.Journal.header c.args.self.now.stores.journal) (g.J.Journal.header c.answer.new.stores.journal)
    (g.J.Journal.notes c.args.self.now.stores.journal) (g.J.Journal.notes c.answer.new.stores.journal) first
    (session_in c.args.self.now.sessions) (session_in (c.get_mut.follows.lender s')) book
    (book_reported book m (map reply_of c.answer.new.out.items) (done_in (c.get_mut.follows.lender s') m.name)) m.name s'
    (log_reported (log_of book m.name) m (map reply_of c.answer.new.out.items) (length s'.progress.ledger.outcomes)) n
    (both.1.headers honest_notes)
    (subst (λ (k : List ℕ). KeepsOthers (g.J.Journal.notes c.args.self.now.stores.journal)
    (g.J.Journal.notes c.answer.new.stores.journal) k) named (both.1.other_notes honest_notes)) sets
    (reported_here book m (map reply_of c.answer.new.out.items) (done_in (c.get_mut.follows.lender s') m.name) near
    ∙ ap (log_reported (log_of book m.name) m (map reply_of c.answer.new.out.items)) done)
    (reported_others book m (map reply_of c.answer.new.out.items) (done_in (c.get_mut.follows.lender s') m.name) near) noted

pub returns-in-Some-clause-unmet : goal.returns-in-Some-clause-unmet
returns-in-Some-clause-unmet g c = λ none.
    let sets = subst (λ (k : List ℕ). (n : List ℕ) → session_in (c.get_mut.follows.lender c.answer.new.self) n
    ≡ cond (bytes_eq k n) (Some c.answer.new.self) (session_in c.args.self.now.sessions n)) c.name-name.ensures
    ((c.get_mut.follows.holds c.answer.new.self).3 (sym (ap is_some c.in-Some.ensures.value))).0 in
    no_false (sym (ap is_some none) ∙ ap is_some (put_here (session_in c.args.self.now.sessions)
    (session_in (c.get_mut.follows.lender c.answer.new.self)) (message_of c.args.message.now).name
    c.answer.new.self sets))

pub answer-requires-clause-empty : goal.answer-requires-clause-empty
answer-requires-clause-empty g c = search rules

pub meet-requires-clause-empty : goal.meet-requires-clause-empty
meet-requires-clause-empty g c = search rules

pub returns-in-Some-clause-asked : goal.returns-in-Some-clause-asked
returns-in-Some-clause-asked g c =
    let s : Session = c.in-Some.session.now in
    let s' : Session = c.answer.new.self in
    let m : Message = message_of c.args.message.now in
    let limit : ℕ = c.args.self.now.limit in
    let found = subst (λ (n : List ℕ). session_in c.args.self.now.sessions n ≡ Some s) c.name-name.ensures
    (sym c.in-Some.ensures.value) in
    let sets = subst (λ (k : List ℕ). (n : List ℕ) → session_in (c.get_mut.follows.lender s') n
    ≡ cond (bytes_eq k n) (Some s') (session_in c.args.self.now.sessions n)) c.name-name.ensures
    ((c.get_mut.follows.holds s').3 (sym (ap is_some c.in-Some.ensures.value))).0 in
    let here = put_here (session_in c.args.self.now.sessions) (session_in (c.get_mut.follows.lender s')) m.name s'
    sets in
    asks_at g.S.TakeStore m limit (part_of s) (part_of s') (session_in c.args.self.now.sessions m.name)
    (session_in (c.get_mut.follows.lender s') m.name) c.args.self.now.stores.store c.answer.new.stores.store
    (sym (ap (λ (o : Option Session). option_map_or part_of o (new_part m.name limit)) found))
    (sym (ap (λ (o : Option Session). option_map_or part_of o (new_part m.name limit)) here))
    c.answer.ensures.asked

pub returns-in-None-clause-asked : goal.returns-in-None-clause-asked
returns-in-None-clause-asked g c =
    let m : Message = message_of c.args.message.now in
    let limit : ℕ = c.args.self.now.limit in
    subst (λ (t : _). AsksInTurn g.S.TakeStore m (part_in t limit m.name) c.args.self.now.stores.store
    (part_in c.meet.new.self.sessions limit m.name) c.meet.new.self.stores.store) c.get_mut.follows.holds-at-none
    c.meet.ensures.turned.asked

pub returns-in-None-clause-noted : goal.returns-in-None-clause-noted
returns-in-None-clause-noted g c = λ honest honest_notes asleep awake first book h n.
    c.meet.ensures.turned.noted honest honest_notes asleep awake first book
    (subst (λ (t : _). HoldsIn c.args.self.now.limit (store_since g.S.TakeStore first c.args.self.now.stores.store)
    (session_in t) book) (sym c.get_mut.follows.holds-at-none) h)
    (subst (λ (t : _). NotesNames asleep (g.J.Journal.header c.args.self.now.stores.journal)
    (g.J.Journal.notes c.args.self.now.stores.journal) first (session_in t) book)
    (sym c.get_mut.follows.holds-at-none) n)

pub returns-in-Some-clause-ordered : goal.returns-in-Some-clause-ordered
returns-in-Some-clause-ordered g c = λ honest honest_notes asleep awake first book h n o.
    let s : Session = c.in-Some.session.now in
    let s' : Session = c.answer.new.self in
    let m : Message = message_of c.args.message.now in
    let table = c.args.self.now.table in
    let both = c.answer.ensures.both in
    let limit : ℕ = c.args.self.now.limit in
    let found = subst (λ (n : List ℕ). session_in c.args.self.now.sessions n ≡ Some s) c.name-name.ensures
    (sym c.in-Some.ensures.value) in
    let named = table.names m.name s found in
    let limited = table.limits m.name s found in
    let holds = c.get_mut.follows.holds s' in
    let sets = subst (λ (k : List ℕ). (n : List ℕ) → session_in (c.get_mut.follows.lender s') n
    ≡ cond (bytes_eq k n) (Some s') (session_in c.args.self.now.sessions n)) c.name-name.ensures
    (holds.3 (sym (ap is_some c.in-Some.ensures.value))).0 in
    let store = store_since g.S.TakeStore first c.args.self.now.stores.store in
    let part = part_here limit store (session_in c.args.self.now.sessions) book h honest m.name s found
    (s.progress.same_name ∙ named) limited in
    let here = order_then s.progress.name m.name (g.J.Journal.header c.args.self.now.stores.journal) _ (first m.name)
    (log_of book m.name) s.progress.noted _ _ _ (g.J.Journal.notes c.args.self.now.stores.journal)
    (g.J.Journal.notes c.answer.new.stores.journal) (g.S.TakeStore.contents c.args.self.now.stores.store)
    (g.S.TakeStore.contents c.answer.new.stores.store) named refl
    (c.answer.ensures.ordered honest honest_notes (first m.name) (log_of book m.name)
    (subst (λ (n : List ℕ). HoldsLog (first m.name) (log_of book m.name) (part_of s)
    (g.S.TakeStore.contents c.args.self.now.stores.store n)) (sym named) part)) (n.existed m.name awake)
    (n.known m.name s found) (o m.name s found) in
    order_after (g.J.Journal.header c.args.self.now.stores.journal) (g.J.Journal.header c.answer.new.stores.journal)
    (g.J.Journal.notes c.args.self.now.stores.journal) (g.J.Journal.notes c.answer.new.stores.journal) first
    (g.S.TakeStore.contents c.args.self.now.stores.store) (g.S.TakeStore.contents c.answer.new.stores.store)
    (session_in c.args.self.now.sessions) (session_in (c.get_mut.follows.lender s')) m.name s' o
    (both.1.headers honest_notes)
    (subst (λ (k : List ℕ). KeepsOthers (g.J.Journal.notes c.args.self.now.stores.journal)
    (g.J.Journal.notes c.answer.new.stores.journal) k) named (both.1.other_notes honest_notes))
    (subst (λ (k : List ℕ). KeepsOthers (g.S.TakeStore.contents c.args.self.now.stores.store)
    (g.S.TakeStore.contents c.answer.new.stores.store) k) named (both.1.others honest)) sets here

pub returns-in-None-clause-ordered : goal.returns-in-None-clause-ordered
returns-in-None-clause-ordered g c = λ honest honest_notes asleep awake first book h n o.
    c.meet.ensures.turned.ordered honest honest_notes asleep awake first book
    (subst (λ (t : _). HoldsIn c.args.self.now.limit (store_since g.S.TakeStore first c.args.self.now.stores.store)
    (session_in t) book) (sym c.get_mut.follows.holds-at-none) h)
    (subst (λ (t : _). NotesNames asleep (g.J.Journal.header c.args.self.now.stores.journal)
    (g.J.Journal.notes c.args.self.now.stores.journal) first (session_in t) book)
    (sym c.get_mut.follows.holds-at-none) n)
    (subst (λ (t : _). OrderIn (g.J.Journal.header c.args.self.now.stores.journal)
    (g.J.Journal.notes c.args.self.now.stores.journal) first (g.S.TakeStore.contents c.args.self.now.stores.store)
    (session_in t)) (sym c.get_mut.follows.holds-at-none) o)

use Rattle.std.proofs.Common.{◌≡◌, ℕ, ◌||◌, List, [], ◌∷◌, ◌++◌, map, None, refl, sym, ◌∙◌, ap, subst}
use Rattle.std.specs.Prelude.{is_some, nat_le}
use Rattle.bw_model.specs.Wire.{Message, Says}
use Rattle.bw_model.specs.Replies as model
use Rattle.bw_model.specs.Turn.{is_turned_away, notice, window}
use Rattle.bw_model.specs.Book.{Book}
use Rattle.bw_model.specs.CountedTurn.{IsTurn}
use Rattle.bw_session.specs.Books.{failures_of}
use Rattle.bw_session.specs.NextNumbers.{failed_calls}
use Rattle.bw_wire.specs.declared.reply.Reply.{Reply}
use Rattle.bw_wire.specs.declared.reply.Reply.TheVariants.{Notice}
use Rattle.bw_wire.specs.Frames.{message_of}
use Rattle.bw_wire.specs.Notices.{notice_meaning}
use Rattle.bw_wire.specs.Replies.{reply_of}
use Rattle.bw_session.specs.NotedNames.{NotesNames}
use Rattle.bw_session.specs.Servers.{HoldsIn, store_since, done_in}
use Rattle.bw_session.specs.Tables.{session_in}
use Rattle.bw_session.proofs.AnswerForms.{served_here}
use Rattle.bw_session.proofs.ServerForms.{unknown_here}
use Rattle.bw_session.proofs.JournalForms.{OrderIn, reported_away, away_either}
use Rattle.bw_session.proofs.UseForms.{timely_push, timely_notice}
use Rattle.std.proofs.Common.{inr}
use Rattle.bw_session.specs.Servers.{part_in}
use Rattle.bw_session.proofs.server.Server.meet.Goals as goal

pub returns-in_default-clause-uncalled : goal.returns-in_default-clause-uncalled
returns-in_default-clause-uncalled g c = λ away. served_here c.try_meet.new.out.items c.in_default.ensures.reported away

pub returns-in-Err-clause-both : goal.returns-in-Err-clause-both
returns-in-Err-clause-both g c =
    let both = c.try_meet.ensures.both in (
      both.0,
      both.1,
      both.2,
      timely_push both.0 c.try_meet.new.out.items c.push.new.self.items
          (Notice c.args.name c.number.result c.in-Err.code 0) c.push.ensures.items both.3
          (timely_notice both.0 (Notice c.args.name c.number.result c.in-Err.code 0) c.args.name c.number.result
          (notice_meaning c.in-Err.code) 0 refl c.in-Err.ensures.prompt),
    )

pub returns-in-Err-clause-uncalled : goal.returns-in-Err-clause-uncalled
returns-in-Err-clause-uncalled g c = λ away.
    let left = c.in-Err.ensures.left in (left.store, left.journal, left.sessions)

pub returns-in-Err-clause-unmet : goal.returns-in-Err-clause-unmet
returns-in-Err-clause-unmet g c = λ none. c.in-Err.ensures.left

pub returns-in-Err-clause-turned : goal.returns-in-Err-clause-turned
returns-in-Err-clause-turned g c =
    let m : Message = message_of c.args.message.now in
    let e = c.in-Err.ensures in
    let reported : map reply_of c.push.new.self.items ≡ notice m (notice_meaning c.in-Err.code) 0 =
    ap (map reply_of) (c.push.ensures.items
    ∙ ap (λ (rs : List Reply). rs ++ Notice c.args.name c.number.result c.in-Err.code 0 ∷ []) e.unreported)
    ∙ ap (λ (x : List ℕ). model.Noticed x c.number.result (notice_meaning c.in-Err.code) 0 ∷ []) (sym c.requires.name)
    ∙ ap (λ (k : ℕ). model.Noticed m.name k (notice_meaning c.in-Err.code) 0 ∷ []) c.number.ensures.value in
    record {
      asked = inr (e.left.store, ap (λ (t : _). (part_in t c.args.self.now.limit m.name).outcomes) e.left.sessions);
      turned = λ honest first book h.
          let quiet : failures_of g.S.TakeStore g.J.Journal c.try_meet.new.self
          ≡ failures_of g.S.TakeStore g.J.Journal c.args.self.now =
          ap (λ (s : _). failed_calls (g.S.TakeStore.failures s)
          (g.J.Journal.failures c.try_meet.new.self.stores.journal)) e.left.store
          ∙ ap (λ (j : _). failed_calls (g.S.TakeStore.failures c.args.self.now.stores.store) (g.J.Journal.failures j))
          e.left.journal in
          record {
            later = book;
            turned = subst (λ (rs : List model.Reply). IsTurn (λ n. is_some (first n))
                (failures_of g.S.TakeStore g.J.Journal c.args.self.now)
                (failures_of g.S.TakeStore g.J.Journal c.try_meet.new.self) book (Says m) rs book) (sym reported)
                (subst (λ (k : ℕ). IsTurn (λ n. is_some (first n)) (failures_of g.S.TakeStore g.J.Journal c.args.self.now) k
                book (Says m) (notice m (notice_meaning c.in-Err.code) 0) book) (sym quiet) (e.refused honest first book h));
            held = subst (λ (l : ℕ). HoldsIn l (store_since g.S.TakeStore first c.try_meet.new.self.stores.store)
                (session_in c.try_meet.new.self.sessions) book) (sym c.try_meet.ensures.limit)
                (subst (λ (s : _). HoldsIn c.args.self.now.limit (store_since g.S.TakeStore first s)
                (session_in c.try_meet.new.self.sessions) book) (sym e.left.store)
                (subst (λ (t : _). HoldsIn c.args.self.now.limit
                (store_since g.S.TakeStore first c.args.self.now.stores.store) (session_in t) book)
                (sym e.left.sessions) h));
          };
      noted = λ honest honest_notes asleep awake first book h n.
          let fresh = subst (λ (k : List ℕ). session_in c.args.self.now.sessions k ≡ None) (sym c.requires.name)
          c.requires.fresh in
          let unknown = unknown_here c.args.self.now.limit (store_since g.S.TakeStore first c.args.self.now.stores.store)
          (session_in c.args.self.now.sessions) book h honest m.name fresh in
          let away = away_either book m (map reply_of c.push.new.self.items) unknown
          (ap (λ (rs : List model.Reply). is_turned_away rs || nat_le window m.number) reported ∙ e.away) in
          subst (λ (b : Book). NotesNames asleep (g.J.Journal.header c.try_meet.new.self.stores.journal)
          (g.J.Journal.notes c.try_meet.new.self.stores.journal) first (session_in c.try_meet.new.self.sessions) b)
          (sym (reported_away book m (map reply_of c.push.new.self.items) (done_in c.try_meet.new.self.sessions m.name) away))
          (subst (λ (j : _). NotesNames asleep (g.J.Journal.header j) (g.J.Journal.notes j) first
          (session_in c.try_meet.new.self.sessions) book) (sym e.left.journal)
          (subst (λ (t : _). NotesNames asleep (g.J.Journal.header c.args.self.now.stores.journal)
          (g.J.Journal.notes c.args.self.now.stores.journal) first (session_in t) book) (sym e.left.sessions) n));
      ordered = λ honest honest_notes asleep awake first book h n o.
          subst (λ (s : _). OrderIn (g.J.Journal.header c.try_meet.new.self.stores.journal)
          (g.J.Journal.notes c.try_meet.new.self.stores.journal) first (g.S.TakeStore.contents s)
          (session_in c.try_meet.new.self.sessions)) (sym e.left.store)
          (subst (λ (j : _). OrderIn (g.J.Journal.header j) (g.J.Journal.notes j) first
          (g.S.TakeStore.contents c.args.self.now.stores.store) (session_in c.try_meet.new.self.sessions))
          (sym e.left.journal)
          (subst (λ (t : _). OrderIn (g.J.Journal.header c.args.self.now.stores.journal)
          (g.J.Journal.notes c.args.self.now.stores.journal) first
          (g.S.TakeStore.contents c.args.self.now.stores.store) (session_in t)) (sym e.left.sessions) o));
    }

use Rattle.std.proofs.Common.{rules, ◌≡◌, ◌<◌, ◌≤◌, ℕ, List, None, refl, sym, ◌∙◌, subst, arith}
use Rattle.std.specs.Prelude.{is_some}
use Rattle.std.specs.HashMap.{hash_map_len}
use Rattle.std.proofs.lemmas.Bool.{le-leb}
use Rattle.bw_model.specs.Wire.{Message}
use Rattle.bw_model.specs.Turn.{window, most_takes}
use Rattle.bw_wire.specs.Frames.{message_of}
use Rattle.bw_session.specs.Servers.{store_since}
use Rattle.bw_session.specs.Books.{failures_of}
use Rattle.bw_session.specs.Tables.{session_in}
use Rattle.bw_session.proofs.ServerForms.{unknown_here, too_far, table_full, no_room}
use Rattle.bw_session.proofs.CountForms.{counted}
use Rattle.bw_session.proofs.UseForms.{uses_none}
use Rattle.bw_session.proofs.server.Server.try_meet.Goals as goal

pub returns-then-number-ge-SLOTS-clause-both : goal.returns-then-number-ge-SLOTS-clause-both
returns-then-number-ge-SLOTS-clause-both g c =
    uses_none g.S.TakeStore g.J.Journal _ _ _ _ _ _ _ _ refl refl refl c.requires.empty

pub returns-then-len-eq-NAMES-clause-both : goal.returns-then-len-eq-NAMES-clause-both
returns-then-len-eq-NAMES-clause-both g c =
    uses_none g.S.TakeStore g.J.Journal _ _ _ _ _ _ _ _ refl refl refl c.requires.empty

pub returns-then-number-ge-SLOTS-clause-refused : goal.returns-then-number-ge-SLOTS-clause-refused
returns-then-number-ge-SLOTS-clause-refused g c = λ honest first book h.
    let m : Message = message_of c.args.message.now in
    let fresh = subst (λ (n : List ℕ). session_in c.args.self.now.sessions n ≡ None) (sym c.requires.name)
    c.requires.fresh in
    let unknown = unknown_here c.args.self.now.limit (store_since g.S.TakeStore first c.args.self.now.stores.store)
    (session_in c.args.self.now.sessions) book h honest m.name fresh in
    let past : window ≤ m.number = search rules in
    too_far (λ n. is_some (first n)) (failures_of g.S.TakeStore g.J.Journal c.args.self.now) book m unknown past

pub returns-then-len-eq-NAMES-clause-refused : goal.returns-then-len-eq-NAMES-clause-refused
returns-then-len-eq-NAMES-clause-refused g c = λ honest first book h.
    let m : Message = message_of c.args.message.now in
    let fresh = subst (λ (n : List ℕ). session_in c.args.self.now.sessions n ≡ None) (sym c.requires.name)
    c.requires.fresh in
    let unknown = unknown_here c.args.self.now.limit (store_since g.S.TakeStore first c.args.self.now.stores.store)
    (session_in c.args.self.now.sessions) book h honest m.name fresh in
    let near : m.number < window = search rules in
    let count = counted c.args.self.now.sessions book c.len.ensures.unique h.holds.is_book c.args.self.now.table.few h.holds.names in
    let full : hash_map_len c.args.self.now.sessions ≡ most_takes = search rules in
    table_full (λ n. is_some (first n)) (failures_of g.S.TakeStore g.J.Journal c.args.self.now) book m unknown near
    (count ∙ full)

pub returns-in-Err-clause-refused : goal.returns-in-Err-clause-refused
returns-in-Err-clause-refused g c = λ honest first book h.
    let m : Message = message_of c.args.message.now in
    let fresh = subst (λ (n : List ℕ). session_in c.args.self.now.sessions n ≡ None) (sym c.requires.name)
    c.requires.fresh in
    let unknown = unknown_here c.args.self.now.limit (store_since g.S.TakeStore first c.args.self.now.stores.store)
    (session_in c.args.self.now.sessions) book h honest m.name fresh in
    let near : m.number < window = search rules in
    let count = counted c.args.self.now.sessions book c.len.ensures.unique h.holds.is_book c.args.self.now.table.few h.holds.names in
    let place : hash_map_len c.args.self.now.sessions < most_takes = search rules in
    no_room (λ n. is_some (first n)) (failures_of g.S.TakeStore g.J.Journal c.args.self.now) book m unknown near
    (omega (arith, count, place))

pub returns-then-number-ge-SLOTS-clause-away : goal.returns-then-number-ge-SLOTS-clause-away
returns-then-number-ge-SLOTS-clause-away g c =
    let past : window ≤ (message_of c.args.message.now).number = search rules in
    le-leb window (message_of c.args.message.now).number past

pub returns-then-number-ge-SLOTS-clause-left : goal.returns-then-number-ge-SLOTS-clause-left
returns-then-number-ge-SLOTS-clause-left g c = record { sessions = refl; store = refl; journal = refl }

pub returns-then-len-eq-NAMES-clause-left : goal.returns-then-len-eq-NAMES-clause-left
returns-then-len-eq-NAMES-clause-left g c = record { sessions = refl; store = refl; journal = refl }

-- A message's turn, from what serving it leaves.
use Rattle.std.proofs.Common.{◌∷◌, [], ◌≡◌, ℕ, Bool, true, false, not, ◌&&◌, List, map}
use Rattle.std.proofs.Common.{Option, Some, None, refl, sym, ◌∙◌, ap, subst, arith}
use Rattle.std.specs.Prelude.{is_some, nat_le, unwrap_or}
use Rattle.std.specs.List.{All}
use Rattle.std.specs.Option.{option_map_or}
use Rattle.bw_model.specs.Counts.{Counts}
use Rattle.bw_model.specs.Wire.{Message}
use Rattle.bw_model.specs.Replies.{Reply as ModelReply, NoRoom, Judged, Noticed, Refused}
use Rattle.bw_model.specs.Book.{Log}
use Rattle.bw_model.specs.CountedTurn.{is_pending}
use Rattle.bw_model.specs.Turn.{Faults, served, turn_by, is_admissible, notice, window, is_turned_away}
use Rattle.bw_model.specs.Take.{Parts, Verdict}
use Rattle.bw_file.specs.GrowingFiles.{Growing}
use Rattle.bw_wire.specs.declared.reply.Reply.{Reply}
use Rattle.bw_wire.specs.Replies.{reply_of}
use Rattle.bw_session.specs.Drains.{HoldsPart}
use Rattle.bw_session.specs.Sessions.{Part, HoldsLog, KeepsProgress, part_of}
use Rattle.bw_session.specs.declared.session.Session.{Session}
use Rattle.bw_session.specs.ServedReplies.{IsServing}
use Rattle.bw_session.specs.ServedMessages.{ServesMessage, Answers}

and_no : (b : Bool) → (b && false) ≡ false
and_no true = refl
and_no false = refl

module _ (known full : Bool) (first : Option (List ℕ)) (log : Log) (m : Message)
    (near : (not known && nat_le window m.number) ≡ false) (fits : (not known && full) ≡ false) where
  by_serving : (stop : Option ℕ) → turn_by (is_some first) known full log m (record { refused = false; stop = stop })
      ≡ ((served (is_some first) log m stop).0, Some (served (is_some first) log m stop).1)
  unfolding turn_by
  by_serving stop =
      let none = and_no (is_admissible log m.number) in
      rw (near, fits, none) refl

  by_refusal : is_admissible log m.number ≡ true →
      turn_by (is_some first) known full log m (record { refused = true; stop = None })
      ≡ (notice m NoRoom log.done, None)
  unfolding turn_by
  by_refusal admissible = rw (near, fits, admissible) refl

  -- it is served
  pub answers_served : (before after : ℕ) (replies : List Reply) (p : Part) (found : Option (List ℕ)) →
      ServesMessage first log m before after replies p found → Answers known full first log m before after replies p found
  answers_served before after replies p found s =
      let is = by_serving s.stop in
      record {
        faults = record { refused = false; stop = s.stop };
        answered = ap (λ (x : List ModelReply × Option Log). x.0) is ∙ s.answered;
        left = subst (λ (x : List ModelReply × Option Log). HoldsLog first (unwrap_or x.1 log) p found) (sym is) s.left;
        room = λ never. no_false never;
        count = subst (λ (x : List ModelReply × Option Log). Counts before after (option_map_or is_pending x.1 false))
            (sym is) s.count;
        whole = λ quiet. s.whole
            (sym (ap (λ (x : List ModelReply × Option Log). option_map_or is_pending x.1 false) is) ∙ quiet);
      }
    where
      no_false : {A : Type 0} → false ≡ true → A
      no_false e = cc

  -- a growth was refused
  pub answers_refused : (before : ℕ) (replies : List Reply) (p : Part) (found : Option (List ℕ)) →
      is_admissible log m.number ≡ true → map reply_of replies ≡ notice m NoRoom log.done →
      HoldsLog first log p found → Answers known full first log m before before replies p found
  answers_refused before replies p found admissible reported h =
      let is = by_refusal admissible in
      record {
        faults = record { refused = true; stop = None };
        answered = ap (λ (x : List ModelReply × Option Log). x.0) is ∙ sym reported;
        left = subst (λ (x : List ModelReply × Option Log). HoldsLog first (unwrap_or x.1 log) p found) (sym is) h;
        room = λ refused. (admissible, reported);
        count = subst (λ (x : List ModelReply × Option Log). Counts before before (option_map_or is_pending x.1 false))
            (sym is) (record { quiet = λ q. refl; rises = λ r. no_false r; stays = λ l. refl });
        whole = λ quiet. refl;
      }
    where
      no_false : {A : Type 0} → false ≡ true → A
      no_false e = cc

-- a session that only got more room holds the same
pub same_part : (first : Option (List ℕ)) (log : Log) (s s' : Session) (found : Option (List ℕ)) →
    KeepsProgress s.progress s'.progress → s'.window ≡ s.window → HoldsLog first log (part_of s) found →
    HoldsLog first log (part_of s') found
same_part first log s s' found k same h =
    subst (λ (x : Growing). HoldsPart first log s'.progress.state.parts s'.progress.ledger.outcomes s'.window x found)
    (sym k.growing)
    (subst (λ (x : List (Option (List ℕ))). HoldsPart first log s'.progress.state.parts s'.progress.ledger.outcomes x
    s.progress.growing found) (sym same)
    (subst (λ (x : List (List ℕ × Verdict)). HoldsPart first log s'.progress.state.parts x s.window s.progress.growing
    found) (sym k.outcomes)
    (subst (λ (x : Parts). HoldsPart first log x s.progress.ledger.outcomes s.window s.progress.growing found)
    (sym k.parts) h)))

-- and the name is known then
pub answers_known : (known full : Bool) (first : Option (List ℕ)) (log : Log) (m : Message)
    (near : (not known && nat_le window m.number) ≡ false) (fits : (not known && full) ≡ false)
    (before after : ℕ) (replies : List Reply) (p : Part) (found : Option (List ℕ))
    (s : ServesMessage first log m before after replies p found) →
    is_some (turn_by (is_some first) known full log m
    (answers_served known full first log m near fits before after replies p found s).faults).1 ≡ true
unfolding answers_served
answers_known known full first log m near fits before after replies p found s =
    ap (λ (x : List ModelReply × Option Log). is_some x.1) (by_serving known full first log m near fits s.stop)

-- if the name is known it doesn't matter whether the table is full
pub answers_full : (full : Bool) (first : Option (List ℕ)) (log : Log) (m : Message) (before after : ℕ)
    (replies : List Reply) (p : Part) (found : Option (List ℕ)) →
    Answers true false first log m before after replies p found →
    Answers true full first log m before after replies p found
unfolding turn_by
answers_full full first log m before after replies p found a = record {
  faults = a.faults;
  answered = ap (λ (x : List ModelReply × Option Log). x.0) (same a.faults) ∙ a.answered;
  left = subst (λ (x : List ModelReply × Option Log). HoldsLog first (unwrap_or x.1 log) p found) (sym (same a.faults))
      a.left;
  room = a.room;
  count = subst (λ (x : List ModelReply × Option Log). Counts before after (option_map_or is_pending x.1 false))
      (sym (same a.faults)) a.count;
  whole = λ quiet. a.whole
      (sym (ap (λ (x : List ModelReply × Option Log). option_map_or is_pending x.1 false) (same a.faults)) ∙ quiet);
}
  where
    same : (faults : Faults) → turn_by (is_some first) true full log m faults ≡ turn_by (is_some first) true false log m faults
    same faults = refl

same_head : (x : ModelReply) (rs : List ModelReply) → is_turned_away (x ∷ rs) ≡ is_turned_away (x ∷ [])
same_head (Judged name n v) rs = refl
same_head (Noticed name n code next) rs = refl
same_head (Refused reason place) rs = refl

-- a message that is served isn't turned away
pub none_away : (out : List Reply) → All IsServing out → is_turned_away (map reply_of out) ≡ false
none_away [] all = refl
none_away (r ∷ rs) all = same_head (reply_of r) (map reply_of rs) ∙ (all 0 r (omega arith)).served

pub served_here : {P : Type 0} (out : List Reply) → All IsServing out → is_turned_away (map reply_of out) ≡ true → P
served_here out all away = no_true (sym (none_away out all) ∙ away)
  where
    no_true : {P : Type 0} → false ≡ true → P
    no_true e = cc

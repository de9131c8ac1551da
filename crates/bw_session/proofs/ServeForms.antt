-- A message of a name that has a session.
use Rattle.std.proofs.Common.{◌≡◌, ℕ, zero, suc, ◌+◌, ◌-◌, ◌≤◌, Bool, true, false, cond, List, [], ◌∷◌, ◌++◌}
use Rattle.std.proofs.Common.{length, map, Option, Some, None, refl, sym, ◌∙◌, ap, subst, arith}
use Rattle.std.specs.Prelude.{is_some, is_none, nat_lt, option_map}
use Rattle.std.proofs.lemmas.Bool.{and_parts, ltb-true}
use Rattle.std.proofs.lemmas.List.{map-append}
use Rattle.bw_model.specs.Bytes.{at, put}
use Rattle.bw_model.specs.Take.{Request}
use Rattle.bw_model.specs.Counts.{Counts}
use Rattle.bw_model.specs.Replies.{Reply as ModelReply}
use Rattle.bw_model.specs.Wire.{Message}
use Rattle.bw_model.specs.Book.{Log, verdict_at, run_end}
use Rattle.bw_model.specs.Turn.{is_admissible, admitted_after, drained_to, verdicts_from, own_reply, served, window}
use Rattle.bw_model.specs.Holds.{body_of}
use Rattle.bw_model.proofs.MapLemmas.{at-put_other}
use Rattle.bw_model.specs.declared.verdict.Verdict.{Verdict as Judgement}
use Rattle.bw_wire.specs.declared.reply.Reply.{Reply}
use Rattle.bw_wire.specs.declared.reply.Reply.TheVariants.{Verdict}
use Rattle.bw_wire.specs.Replies.{reply_of}
use Rattle.bw_journal.specs.JournalHeaders.{Header}
use Rattle.bw_session.specs.AdmittedMessages.{with_message}
use Rattle.bw_session.specs.Drains.{DrainsNext}
use Rattle.bw_session.specs.declared.drains.Drained.TheVariants.{Done, Stopped}
use Rattle.bw_session.specs.NameNotes.{IsNoted}
use Rattle.bw_session.specs.NextNumbers.{with_done}
use Rattle.bw_session.specs.Sessions.{Part, HoldsLog}
use Rattle.bw_session.specs.Runs.{with_more_done, HasDrained, EndsDraining}
use Rattle.bw_session.specs.ServedMessages.{ServesMessage}
use Rattle.bw_session.proofs.AdmitForms.{filled}
use Rattle.bw_session.proofs.RunForms.{drained_push}
use Rattle.bw_session.proofs.ReplyForms.{run_stops, run_goes}

at_past : (w : List (Option (List ℕ))) (i : ℕ) → length w ≤ i → at w i ≡ None
at_past [] i h = refl
at_past (x ∷ w) zero h = absurd (omega (arith, h))
at_past (x ∷ w) (suc i) h = at_past w i (omega (arith, h))

no_false : {A : Type 0} → true ≡ false → A
no_false e = cc

no_body : {A : Type 0} {b : List ℕ} → None ≡ Some b → A
no_body e = cc

module _ (first : Option (List ℕ)) (log : Log) (m : Message) (p : Part) (before : Option (List ℕ))
    (h : HoldsLog first log p before) (slots : length p.window ≡ 16) where
  -- nothing is admitted past the window
  none_past : at log.admitted (log.done + window) ≡ None
  none_past = go (at log.admitted (log.done + window)) refl
    where
      go : (o : Option Request) → at log.admitted (log.done + window) ≡ o → at log.admitted (log.done + window) ≡ None
      go None is = is
      go (Some r) is = no_body (sym (at_past p.window 16 (omega (arith, slots))) ∙ h.memory.held 16
          ∙ ap (option_map (body_of p.growing.name (log.done + window))) is)

  still_none : at (admitted_after log m) (log.done + window) ≡ None
  still_none = go (is_admissible log m.number) refl
    where
      go : (v : Bool) → is_admissible log m.number ≡ v →
          at (cond v (put log.admitted m.number m.request) log.admitted) (log.done + window) ≡ None
      go false is = none_past
      go true is =
          let below = ltb-true m.number (log.done + window)
          (and_parts (is_none (at log.admitted m.number)) (nat_lt m.number (log.done + window)) is).1 in
          at-put_other log.admitted m.number (log.done + window) m.request (λ e. omega (arith, e, below)) ∙ none_past

  -- the message is admitted, or was before
  pub starts : (q : Part) (out : List Reply) (contents : List ℕ → Option (List ℕ)) (n name : List ℕ) → out ≡ [] →
      n ≡ name → HoldsLog first (with_message log m) q (contents n) →
      HasDrained first (with_message log m) out q (contents name)
  starts q out contents n name none same held =
      subst (λ (x : List ℕ). HasDrained first (with_message log m) out q (contents x)) same
      (subst (λ (rs : List Reply). HasDrained first (with_message log m) rs q (contents n)) (sym none) (record {
        left =
            let here : log.done ≡ log.done + 0 = omega arith in
            subst (λ (k : ℕ). HoldsLog first (record (with_message log m) { done = k }) q (contents n)) here held;
        reported = refl;
        none_past = still_none;
      }))

  -- and its number was done at once
  pub starts_done : (number : ℕ) (v : Judgement) (owner : List ℕ) (all out : List Reply) (q : Part)
      (contents : List ℕ → Option (List ℕ)) (n name : List ℕ) → out ≡ [] →
      all ≡ out ++ Verdict owner number v ∷ [] → q.growing.name ≡ owner → number ≡ length p.outcomes → n ≡ name →
      DrainsNext (Done v) first (with_message log m) q.parts q.outcomes q.window q.growing (contents n) →
      HasDrained first (with_message log m) all q (contents name)
  starts_done number v owner all out q contents n name none is same numbered under d =
      let done = h.memory.done in
      let here : log.done ≡ log.done + 0 = omega arith in
      subst (λ (x : List ℕ). HasDrained first (with_message log m) all q (contents x)) under
      (drained_push first (with_message log m) [] owner number v all owner q (contents n)
      (is ∙ ap (λ (rs : List Reply). rs ++ Verdict owner number v ∷ []) none) same refl
      (omega (arith, numbered, done))
      (d.reported.1 ∙ ap (verdict_at (is_some first) (admitted_after log m)) here) refl still_none
      (subst (λ (k : ℕ). HoldsLog first (with_done (record (with_message log m) { done = k })) q (contents n)) here
      d.left))

  -- or a fault stopped it
  pub stops_at_once : (out : List Reply) (q : Part) (contents : List ℕ → Option (List ℕ)) (n name : List ℕ) →
      out ≡ [] → n ≡ name →
      DrainsNext Stopped first (with_message log m) q.parts q.outcomes q.window q.growing (contents n) →
      EndsDraining first (with_message log m) true out q (contents name)
  stops_at_once out q contents n name none same d =
      let here : log.done ≡ log.done + length out = omega (arith, ap length none) in
      record {
        drained = starts q out contents n name none same d.left;
        end = ap (λ (k : ℕ). is_some (at (admitted_after log m) k)) (sym here) ∙ d.reported;
      }

pub ends_under : (first : Option (List ℕ)) (log : Log) (stopped : Bool) (out : List Reply) (p : Part)
    (contents : List ℕ → Option (List ℕ)) (n name : List ℕ) → n ≡ name →
    EndsDraining first log stopped out p (contents n) → EndsDraining first log stopped out p (contents name)
ends_under first log stopped out p contents n name same e =
    subst (λ (x : List ℕ). EndsDraining first log stopped out p (contents x)) same e

pub noted_start : (h : Header) (name : List ℕ) (log : Log) (offset : ℕ) (notes : Option (List ℕ)) (out : List Reply) →
    out ≡ [] → IsNoted h name log offset notes → IsNoted h name (with_more_done log (length out)) offset notes
noted_start h name log offset notes out none noted =
    let here : log.done ≡ log.done + length out = omega (arith, ap length none) in
    subst (λ (k : ℕ). IsNoted h name (record log { done = k }) offset notes) here noted

pub noted_one : (h : Header) (name : List ℕ) (log : Log) (offset : ℕ) (notes : Option (List ℕ)) (r : Reply)
    (all out : List Reply) → out ≡ [] → all ≡ out ++ r ∷ [] → IsNoted h name (with_done log) offset notes →
    IsNoted h name (with_more_done log (length all)) offset notes
noted_one h name log offset notes r all out none is noted =
    let one : length all ≡ 1 = ap length (is ∙ ap (λ (rs : List Reply). rs ++ r ∷ []) none) in
    let here : suc log.done ≡ log.done + length all = omega (arith, one) in
    subst (λ (k : ℕ). IsNoted h name (record log { done = k }) offset notes) here noted

-- where a fault stopped draining, if one did
abbrev stop_of : Bool → ℕ → Option ℕ
stop_of false count = None
stop_of true count = Some count

module _ (first : Option (List ℕ)) (log : Log) (m : Message) (stopped : Bool) (drained : List Reply) (p : Part)
    (found : Option (List ℕ)) (e : EndsDraining first (with_message log m) stopped drained p found) where
  -- draining came as far as the definitions say
  later_is : drained_to log.done (run_end (admitted_after log m) log.done) (stop_of stopped (length drained))
      ≡ log.done + length drained
  later_is = go stopped (at (admitted_after log m) (log.done + length drained)) refl e.end
    where
      go : (v : Bool) (o : Option Request) → at (admitted_after log m) (log.done + length drained) ≡ o →
          is_some (at (admitted_after log m) (log.done + length drained)) ≡ v →
          drained_to log.done (run_end (admitted_after log m) log.done) (stop_of v (length drained))
          ≡ log.done + length drained
      go false None is end =
          run_stops (admitted_after log m) log.done (length drained) is
          (filled first _ _ _ _ _ found e.drained.left)
      go false (Some r) is end = no_false (sym (ap is_some is) ∙ end)
      go true None is end = no_false (sym end ∙ ap is_some is)
      go true (Some r) is end =
          let more = run_goes (admitted_after log m) log.done (length drained) r is
          (filled first _ _ _ _ _ found e.drained.left) in
          omega (arith, more)

  -- The message is served.
  pub serves : (own all : List Reply) (before after : ℕ) → m.name ≡ p.growing.name → all ≡ drained ++ own →
      map reply_of own ≡ own_reply (is_some first) (admitted_after log m) log.done (length p.outcomes)
      (run_end (admitted_after log m) log.done) m →
      Counts before after stopped → ServesMessage first log m before after all p found
  unfolding served
  serves own all before after name is own_is counts =
      let s : List (Option Request) = admitted_after log m in
      let t : Bool = is_some first in
      let end : ℕ = run_end s log.done in
      let k : ℕ = length drained in
      let count : (log.done + k) - log.done ≡ k = omega arith in
      let outcomes : length p.outcomes ≡ log.done + k = e.drained.left.memory.done in
      let pending = ap (λ (l : ℕ). is_some (at s l)) later_is ∙ e.end in
      record {
        stop = stop_of stopped k;
        answered =
            ap (λ (l : ℕ). verdicts_from t s m.name log.done (l - log.done) ++ own_reply t s log.done l end m) later_is
            ∙ ap (λ (n : ℕ). verdicts_from t s m.name log.done n ++ own_reply t s log.done (log.done + k) end m) count
            ∙ ap (λ (x : List ℕ). verdicts_from t s x log.done k ++ own_reply t s log.done (log.done + k) end m) name
            ∙ ap (λ (rs : List ModelReply). rs ++ own_reply t s log.done (log.done + k) end m) (sym e.drained.reported)
            ∙ ap (λ (rs : List ModelReply). map reply_of drained ++ rs)
            (ap (λ (l : ℕ). own_reply t s log.done l end m) (sym outcomes) ∙ sym own_is)
            ∙ sym (map-append reply_of drained own) ∙ ap (map reply_of) (sym is);
        left = subst (λ (l : ℕ). HoldsLog first (record { admitted = s; done = l }) p found) (sym later_is)
            e.drained.left;
        count = subst (Counts before after) (sym pending) counts;
        whole = λ quiet. ap (λ (v : Bool). stop_of v k) (sym pending ∙ quiet);
      }

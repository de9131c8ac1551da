-- A turn of the sender's message keeps what was offered.
use Rattle.std.proofs.Common.{◌≡◌, ◌≢◌, ℕ, ◌+◌, ◌-◌, ◌<◌, ◌≤◌, Bool, true, false, not, cond, ◌&&◌, List, [], ◌∷◌}
use Rattle.std.proofs.Common.{Option, Some, None, refl, sym, ◌∙◌, ap, subst, arith, ◌⊎◌, inl, inr}
use Rattle.std.specs.Prelude.{slice_get, nat_le, nat_lt, is_none}
use Rattle.std.proofs.lemmas.Bool.{false≢true, ltb-true, leb-true, lt-ltb, lt-leb}
use Rattle.std.proofs.lemmas.Bool.Decides.{eqb_tells}
use Rattle.std.proofs.Math.Dec.{eqb}
use Rattle.sha2.specs.Sha256.{sha256}
use Rattle.bw_model.specs.Bytes.{at, put}
use Rattle.bw_model.specs.Take.{Request}
use Rattle.bw_model.specs.Wire.{Message, message_body}
use Rattle.bw_model.specs.Replies.{Reply, Noticed, Notice, Held, TooFar, TableFull, NoRoom}
use Rattle.bw_model.specs.Replies.{DelayedStore}
use Rattle.bw_model.specs.Book.{Log, Book, log_of, is_known, run_end, verdict_at}
use Rattle.bw_model.specs.Turn.{Faults, turn_by, served, own_reply, notice, window, is_admissible, admitted_after}
use Rattle.bw_model.specs.Turn.{drained_to, repeats, is_repeat, is_full, with_change, message_turn}
use Rattle.bw_model.specs.World.{turns_down}
use Rattle.bw_model.proofs.BookLemmas.{name_refl, log-with_log_same, unknown_log}
use Rattle.bw_model.proofs.MapLemmas.{at-put_same, at-put_other, IsFilled, filled_to, verdict-put, filled-put}
use Rattle.bw_model.proofs.Elements.{Each, each-append}
use Rattle.bw_model.proofs.OwnReplies.{drained, own_cases}
use Rattle.bw_model.proofs.TrueReplies.{IsSound, IsTrueReply, IsFaithfulStep, notice_true, judged_true, verdicts_true}
use Rattle.bw_model.proofs.TrueReplies.{still}

-- what the message's admission leaves
record IsAdmission (taken : Bool) (offered : List Request) (log : Log) (m : Message)
    (s : List (Option Request)) : Type 0 where
  here : at s m.number ≡ Some m.request
  admitted : (n : ℕ) (r : Request) → at s n ≡ Some r → slice_get offered n ≡ Some r
  filled : IsFilled s log.done
  same : (n : ℕ) → n < log.done → verdict_at taken s n ≡ verdict_at taken log.admitted n

admission : (taken : Bool) (offered : List Request) (log : Log) (m : Message) → IsSound offered log →
    slice_get offered m.number ≡ Some m.request → m.number < log.done + window →
    IsAdmission taken offered log m (admitted_after log m)
admission taken offered log m sound was below = go (at log.admitted m.number) refl
  where
    s : List (Option Request)
    s = log.admitted

    fits : nat_lt m.number (log.done + window) ≡ true
    fits = lt-ltb m.number (log.done + window) below

    go : (x : Option Request) → at s m.number ≡ x → IsAdmission taken offered log m (admitted_after log m)
    go None e =
        let yes : is_admissible log m.number ≡ true =
        ap (λ (z : Option Request). is_none z && nat_lt m.number (log.done + window)) e ∙ fits in
        subst (λ (v : Bool). IsAdmission taken offered log m (cond v (put s m.number m.request) s)) (sym yes) (record {
          here = at-put_same s m.number m.request;
          admitted = λ n r h. old n r h;
          filled = filled-put s m.number m.request log.done sound.filled e;
          same = λ n b. verdict-put taken s m.number m.request log.done n sound.filled e b;
        })
      where
        old : (n : ℕ) (r : Request) → at (put s m.number m.request) n ≡ Some r → slice_get offered n ≡ Some r
        old n r h = by_place (eqb_tells n m.number)
          where
            by_place : ((eqb n m.number ≡ true) × (n ≡ m.number)) ⊎ ((eqb n m.number ≡ false) × (n ≢ m.number)) →
                slice_get offered n ≡ Some r
            by_place (inl p) =
                ap (slice_get offered) p.1 ∙ was ∙ sym (at-put_same s m.number m.request)
                ∙ ap (at (put s m.number m.request)) (sym p.1) ∙ h
            by_place (inr p) = sound.admitted n r (sym (at-put_other s m.number n m.request p.1) ∙ h)
    go (Some x) e =
        let no : is_admissible log m.number ≡ false =
        ap (λ (z : Option Request). is_none z && nat_lt m.number (log.done + window)) e in
        subst (λ (v : Bool). IsAdmission taken offered log m (cond v (put s m.number m.request) s)) (sym no) (record {
          here = e ∙ sym (sound.admitted m.number x e) ∙ was;
          admitted = sound.admitted;
          filled = sound.filled;
          same = λ n b. refl;
        })

own_true : (taken : Bool) (s : List (Option Request)) (done later end : ℕ) (m : Message) →
    m.number < done + window → at s m.number ≡ Some m.request → done ≤ later →
    Each (IsTrueReply taken m.name (record { admitted = s; done = later })) (own_reply taken s done later end m)
own_true taken s done later end m near here from =
    own_cases (λ rs. Each (IsTrueReply taken m.name log) rs) taken s done later end m
    (λ e. absurd (false≢true (sym (lt-leb (done + window) m.number near) ∙ e)))
    (λ e. absurd (false≢true (sym (ap not same) ∙ e)))
    (λ _. tt)
    (λ e. let h : m.number < done = ltb-true m.number done e in
    (judged_true taken m.name log m.number (omega arith), tt))
    (λ _. (notice_true taken m.name m.name log m.number later DelayedStore refl, tt))
    (λ _. (notice_true taken m.name m.name log m.number later Held refl, tt))
  where
    log : Log
    log = record { admitted = s; done = later }

    same : is_repeat s m ≡ true
    same = ap (repeats m) here ∙ name_refl (sha256 (message_body m))

served_true : (taken : Bool) (offered : List Request) (log : Log) (m : Message) (stop : Option ℕ) →
    IsSound offered log → slice_get offered m.number ≡ Some m.request → m.number < log.done + window →
    IsFaithfulStep taken offered m.name log (served taken log m stop).1 (served taken log m stop).0
unfolding served
served_true taken offered log m stop sound was near =
    let s = admitted_after log m in
    let a = admission taken offered log m sound was near in
    let end = run_end s log.done in
    let d = drained log.done end stop (omega arith) in
    let later = drained_to log.done end stop in
    let new : Log = record { admitted = s; done = later } in
    record {
      sound = record { admitted = a.admitted; filled = filled_to s log.done later a.filled d.to };
      grows = record { done = d.from; verdicts = a.same };
      reported = each-append (IsTrueReply taken m.name new) _ _
          (verdicts_true taken m.name new log.done (later - log.done) (let f = d.from in omega (arith, f)))
          (own_true taken s log.done later end m near a.here d.from);
    }

-- the turn of the sender's message
pub own_message_true : (existed : List ℕ → Bool) (offered : List Request) (b : Book) (m : Message) (faults : Faults) →
    IsSound offered (log_of b m.name) → slice_get offered m.number ≡ Some m.request →
    m.number < (log_of b m.name).done + window →
    IsFaithfulStep (existed m.name) offered m.name (log_of b m.name)
    (log_of (message_turn (existed m.name) b m faults).1 m.name) (message_turn (existed m.name) b m faults).0
unfolding turn_by
own_message_true existed offered b m faults sound was near =
    go (is_known b m.name) refl (nat_le window m.number) refl (is_full b) (is_admissible log m.number && faults.refused)
  where
    log : Log
    log = log_of b m.name

    Goal : List Reply × Option Log → Type 0
    Goal x = IsFaithfulStep (existed m.name) offered m.name log (log_of (with_change b m.name x.1) m.name) x.0

    kept : (code : Notice) (next : ℕ) → turns_down m.name (Noticed m.name m.number code next) ≡ false →
        Goal (Noticed m.name m.number code next ∷ [], None)
    kept code next w = still (existed m.name) offered m.name log _ sound
        (notice_true (existed m.name) m.name m.name log m.number next code w, tt)

    served_goal : Goal ((served (existed m.name) log m faults.stop).0, Some (served (existed m.name) log m faults.stop).1)
    served_goal =
        subst (λ (z : Log). IsFaithfulStep (existed m.name) offered m.name log z
        (served (existed m.name) log m faults.stop).0)
        (sym (log-with_log_same b m.name (served (existed m.name) log m faults.stop).1))
        (served_true (existed m.name) offered log m faults.stop sound was near)

    go : (known : Bool) → is_known b m.name ≡ known → (far : Bool) → nat_le window m.number ≡ far →
        (full refused : Bool) →
        Goal (cond (not known && far) (notice m TooFar 0, None) (cond (not known && full) (notice m TableFull 0, None)
        (cond refused (notice m NoRoom log.done, None)
        ((served (existed m.name) log m faults.stop).0, Some (served (existed m.name) log m faults.stop).1))))
    go false k true f full refused =
        let none : log.done ≡ 0 = ap (λ (l : Log). l.done) (unknown_log b m.name k) in
        let over : window ≤ m.number = leb-true window m.number f in
        absurd (omega arith)
    go false k false f true refused = kept TableFull 0 refl
    go false k false f false true = kept NoRoom log.done refl
    go false k false f false false = served_goal
    go true k far f full true = kept NoRoom log.done refl
    go true k far f full false = served_goal

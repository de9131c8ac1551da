-- Turns of messages that are some of a name's requests, wherever their numbers are.
use Rattle.std.proofs.Common.{◌≡◌, ℕ, ◌+◌, ◌-◌, ◌<◌, ◌≤◌, Bool, true, false, not, cond, ◌&&◌, List, [], ◌∷◌}
use Rattle.std.proofs.Common.{Option, Some, refl, sym, ◌∙◌, ap, subst, arith, ◌⊎◌, inl, inr}
use Rattle.std.specs.Prelude.{slice_get, nat_le, nat_lt, is_none}
use Rattle.std.specs.Str.{bytes_eq}
use Rattle.std.proofs.lemmas.Bool.{cases_lt, le-leb, le-ltb}
use Rattle.bw_model.specs.Bytes.{at, put}
use Rattle.bw_model.specs.Take.{Request, Verdict}
use Rattle.bw_model.specs.Wire.{Message, Frame, Says, Asks, Bye}
use Rattle.bw_model.specs.Replies.{Reply, Judged, Noticed, Notice, Held, TooFar, Conflict}
use Rattle.bw_model.specs.Replies.{DelayedStore, Next}
use Rattle.bw_model.specs.Book.{Log, Book, log_of, is_known, run_end, verdict_at}
use Rattle.bw_model.specs.Turn.{Faults, turn, served, own_reply, window, admitted_after}
use Rattle.bw_model.specs.Turn.{drained_to, is_repeat, is_full, with_change}
use Rattle.bw_model.proofs.BookLemmas.{log-with_log_same}
use Rattle.bw_model.proofs.MapLemmas.{filled_to}
use Rattle.bw_model.proofs.Elements.{Each, each-append, each-map}
use Rattle.bw_model.proofs.TrueReplies.{IsSound, Grows, IsTrueReply, IsFaithfulStep, verdicts_true}
use Rattle.bw_model.proofs.OwnTurns.{own_message_true}
use Rattle.bw_model.proofs.OtherTurns.{other_true}
use Rattle.bw_delivery.proofs.TurnCases.{by_case, ends_between}

-- a message is one of these requests, under its number and this name
abbrev pub IsOneOf : List ℕ → List Request → Frame → Type 0
IsOneOf name requests (Says m) = (m.name ≡ name) × (slice_get requests m.number ≡ Some m.request)
IsOneOf name requests (Asks x n) = Unit {0}
IsOneOf name requests Bye = Unit {0}

-- no message of this name
abbrev pub IsOfAnother : List ℕ → Frame → Type 0
IsOfAnother name (Says m) = bytes_eq m.name name ≡ false
IsOfAnother name (Asks x n) = Unit {0}
IsOfAnother name Bye = Unit {0}

-- a verdict on the name in a reply is that of a done number
abbrev pub ReportsDone : Bool → List ℕ → Log → Reply → Type 0
ReportsDone taken name log r = (n : ℕ) (v : Verdict) → r ≡ Judged name n v →
    (n < log.done) × (v ≡ verdict_at taken log.admitted n)

-- what a turn does to a name's log of which nothing but these requests is admitted
pub record IsSoundStep (taken : Bool) (requests : List Request) (name : List ℕ) (old new : Log)
    (replies : List Reply) : Type 0 where
  pub sound : IsSound requests new
  pub grows : Grows taken old new
  pub reported : Each (ReportsDone taken name new) replies

pub from_faithful : (taken : Bool) (requests : List Request) (name : List ℕ) (old new : Log) (replies : List Reply) →
    IsFaithfulStep taken requests name old new replies → IsSoundStep taken requests name old new replies
from_faithful taken requests name old new replies h = record {
  sound = h.sound;
  grows = h.grows;
  reported = each-map (IsTrueReply taken name new) (ReportsDone taken name new) replies (λ r t. t.judged) h.reported;
}

pub notice_reports : (taken : Bool) (name x : List ℕ) (log : Log) (k next : ℕ) (code : Notice) →
    ReportsDone taken name log (Noticed x k code next)
notice_reports taken name x log k next code n v e = absurd (not_judged e)
  where
    not_judged : Noticed x k code next ≡ Judged name n v → ⊥
    not_judged e = cc

pub same_log : (taken : Bool) (requests : List Request) (name : List ℕ) (log : Log) (replies : List Reply) →
    IsSound requests log → Each (ReportsDone taken name log) replies →
    IsSoundStep taken requests name log log replies
same_log taken requests name log replies sound reported =
    record { sound = sound; grows = record { done = omega arith; verdicts = λ n h. refl }; reported = reported }

-- a message past the window isn't admitted
far_admitted : (log : Log) (m : Message) → log.done + window ≤ m.number → admitted_after log m ≡ log.admitted
far_admitted log m far = ap (λ (v : Bool). cond v (put log.admitted m.number m.request) log.admitted)
    (never (is_none (at log.admitted m.number)) (nat_lt m.number (log.done + window))
    (le-ltb m.number (log.done + window) far))
  where
    never : (a b : Bool) → b ≡ false → a && b ≡ false
    never true b e = e
    never false b e = refl

far_own : (taken : Bool) (s : List (Option Request)) (done later end : ℕ) (m : Message) → done + window ≤ m.number →
    own_reply taken s done later end m ≡ Noticed m.name m.number TooFar later ∷ []
unfolding own_reply
far_own taken s done later end m far = go (nat_le (done + window) m.number) (le-leb (done + window) m.number far)
    (cond (not (is_repeat s m)) (Noticed m.name m.number Conflict later ∷ [])
    (cond (nat_le done m.number && nat_lt m.number later) []
    (cond (nat_lt m.number done) (Judged m.name m.number (verdict_at taken s m.number) ∷ [])
    (cond (nat_lt later end) (Noticed m.name m.number DelayedStore later ∷ [])
    (Noticed m.name m.number Held later ∷ [])))))
  where
    go : (v : Bool) → v ≡ true → (rest : List Reply) →
        cond v (Noticed m.name m.number TooFar later ∷ []) rest ≡ Noticed m.name m.number TooFar later ∷ []
    go true e rest = refl
    go false e rest = absurd cc

pub far_served : (taken : Bool) (requests : List Request) (log : Log) (m : Message) (stop : Option ℕ) →
    IsSound requests log → log.done + window ≤ m.number →
    IsSoundStep taken requests m.name log (served taken log m stop).1 (served taken log m stop).0
unfolding served
far_served taken requests log m stop sound far =
    let s = admitted_after log m in
    let same : s ≡ log.admitted = far_admitted log m far in
    let end = run_end s log.done in
    let d = ends_between log.done end stop (omega arith) in
    let later = drained_to log.done end stop in
    let new : Log = record { admitted = s; done = later } in
    record {
      sound = record {
        admitted = λ n r h. sound.admitted n r (ap (λ (z : List (Option Request)). at z n) (sym same) ∙ h);
        filled = filled_to s log.done later
            (λ k b. let x = sound.filled k b in (x.0, ap (λ (z : List (Option Request)). at z k) same ∙ x.1)) d.1;
      };
      grows = record {
        done = d.0;
        verdicts = λ n b. ap (λ (z : List (Option Request)). verdict_at taken z n) same;
      };
      reported = each-append (ReportsDone taken m.name new) _ _
          (each-map (IsTrueReply taken m.name new) (ReportsDone taken m.name new) _ (λ r t. t.judged)
          (verdicts_true taken m.name new log.done (later - log.done) (let f = d.0 in omega (arith, f))))
          (subst (Each (ReportsDone taken m.name new)) (sym (far_own taken s log.done later end m far))
          (notice_reports taken m.name m.name new m.number later TooFar, tt));
    }

-- a message past the window
far_message : (existed : List ℕ → Bool) (requests : List Request) (b : Book) (m : Message) (faults : Faults) →
    IsSound requests (log_of b m.name) → (log_of b m.name).done + window ≤ m.number →
    IsSoundStep (existed m.name) requests m.name (log_of b m.name)
    (log_of (turn existed b (Says m) faults).1 m.name) (turn existed b (Says m) faults).0
unfolding turn
far_message existed requests b m faults sound far =
    let taken : Bool = existed m.name in
    let log : Log = log_of b m.name in
    let x : List Reply × Log = served taken log m faults.stop in
    by_case taken (is_known b m.name) (is_full b) log m faults
    (λ y. IsSoundStep taken requests m.name log (log_of (with_change b m.name y.1) m.name) y.0)
    (λ code next. same_log taken requests m.name log _ sound
    (notice_reports taken m.name m.name log m.number next code, tt))
    (subst (λ (l : Log). IsSoundStep taken requests m.name log l x.0) (sym (log-with_log_same b m.name x.1))
    (far_served taken requests log m faults.stop sound far))

-- a message that is one of the requests
own_message : (existed : List ℕ → Bool) (requests : List Request) (b : Book) (m : Message) (faults : Faults) →
    IsSound requests (log_of b m.name) → slice_get requests m.number ≡ Some m.request →
    IsSoundStep (existed m.name) requests m.name (log_of b m.name)
    (log_of (turn existed b (Says m) faults).1 m.name) (turn existed b (Says m) faults).0
unfolding turn
own_message existed requests b m faults sound was = go (cases_lt m.number ((log_of b m.name).done + window))
  where
    go : (m.number < (log_of b m.name).done + window) ⊎ ((log_of b m.name).done + window ≤ m.number) →
        IsSoundStep (existed m.name) requests m.name (log_of b m.name)
        (log_of (turn existed b (Says m) faults).1 m.name) (turn existed b (Says m) faults).0
    go (inl near) = from_faithful (existed m.name) requests m.name _ _ _
        (own_message_true existed requests b m faults sound was near)
    go (inr far) = far_message existed requests b m faults sound far

-- a frame that is one of the requests, or of another name
pub sound_step : (existed : List ℕ → Bool) (requests : List Request) (name : List ℕ) (b : Book) (f : Frame)
    (faults : Faults) → IsSound requests (log_of b name) → IsOneOf name requests f ⊎ IsOfAnother name f →
    IsSoundStep (existed name) requests name (log_of b name) (log_of (turn existed b f faults).1 name)
    (turn existed b f faults).0
unfolding turn
sound_step existed requests name b (Says m) faults sound (inl h) =
    subst (λ (z : List ℕ). IsSoundStep (existed z) requests z (log_of b z)
    (log_of (turn existed b (Says m) faults).1 z) (turn existed b (Says m) faults).0) h.0
    (own_message existed requests b m faults
    (subst (λ (z : List ℕ). IsSound requests (log_of b z)) (sym h.0) sound) h.1)
sound_step existed requests name b (Says m) faults sound (inr off) =
    from_faithful (existed name) requests name _ _ _ (other_true existed requests name b (Says m) faults off sound)
sound_step existed requests name b (Asks x n) faults sound h =
    same_log (existed name) requests name (log_of b name) _ sound
    (notice_reports (existed name) name x (log_of b name) n (log_of b x).done Next, tt)
sound_step existed requests name b Bye faults sound h = same_log (existed name) requests name (log_of b name) [] sound tt

-- Each run in each schedule is faithful.
use Rattle.std.proofs.Common.{◌≡◌, ℕ, ◌+◌, ◌<◌, ◌≤◌, Bool, true, false, cond, ◌||◌, List, [], ◌∷◌, length}
use Rattle.std.proofs.Common.{take, Option, Some, None, refl, sym, ◌∙◌, ap, subst, arith}
use Rattle.std.specs.Prelude.{slice_get}
use Rattle.std.specs.List.{list_any}
use Rattle.bw_model.specs.Wire.{Message, Frame, Says, Asks}
use Rattle.bw_model.specs.Replies.{Reply, Next}
use Rattle.bw_model.specs.Take.{Request}
use Rattle.bw_model.specs.Book.{Log, log_of, made, made_by, step}
use Rattle.bw_model.specs.Turn.{Faults, turn, window, is_of}
use Rattle.bw_model.specs.World.{Sender, turns_down}
use Rattle.bw_model.proofs.Elements.{Each, each-append, each-get, each-map, get-below}
use Rattle.bw_model.proofs.SenderSteps.{WasOffered, settled_done}
use Rattle.bw_model.proofs.TrueReplies.{IsSound, Grows, IsTrueReply, IsFaithfulStep, notice_true, still}
use Rattle.bw_model.proofs.OwnTurns.{own_message_true}
use Rattle.bw_model.proofs.OtherTurns.{other_true}
use Rattle.bw_delivery.specs.Reruns.{Reruns, RerunEvent, Starts, Resumes, Offers, Sends, Delivers, Brings, AskedFor, Others}
use Rattle.bw_delivery.specs.Reruns.{new_reruns, begun, with_run, offered_next, sent_under, sent_by, met, delivered_to, heard_by}
use Rattle.bw_delivery.specs.Reruns.{rerun_step, reruns_after, IsFaithfulRun, EachRunIsFaithful, RunsHearOneVerdict}
use Rattle.bw_delivery.specs.Reruns.{SettledRunsAreWhole}
use Rattle.bw_delivery.proofs.Elements.{each-set, each-contains, get-take}
use Rattle.bw_delivery.proofs.RunSteps.{IsRunOn, run_grown, offered_near, run_begins, run_offered, run_heard}
use Rattle.bw_delivery.proofs.DoneRequests.{within_requests, prefix_of_requests, made_of_requests}

-- what each event keeps
record AreKept (existed : List ℕ → Bool) (x : Reruns) : Type 0 where
  sound : IsSound x.requests (log_of x.book x.name)
  were : Each (WasOffered x.name x.requests (log_of x.book x.name).done) x.sent
  reported : Each (IsTrueReply (existed x.name) x.name (log_of x.book x.name)) x.replies
  runs : Each (IsRunOn (existed x.name) x.name x.requests (log_of x.book x.name)) x.runs

grown_reply : (taken : Bool) (name : List ℕ) (old new : Log) → Grows taken old new → (r : Reply) →
    IsTrueReply taken name old r → IsTrueReply taken name new r
grown_reply taken name old new g r h = record {
  judged = λ n v e. let x = h.judged n v e in let below : n < old.done = x.0 in let more = g.done in
      ((let b : n < new.done = omega (arith, below, more) in b), x.1 ∙ sym (g.verdicts n below));
  welcome = h.welcome;
}

-- a turn that keeps the name's part true
met_true : (existed : List ℕ → Bool) (x : Reruns) (f : Frame) (faults : Faults) → AreKept existed x →
    IsFaithfulStep (existed x.name) x.requests x.name (log_of x.book x.name)
    (log_of (turn existed x.book f faults).1 x.name) (turn existed x.book f faults).0 →
    AreKept existed (met existed x f faults)
met_true existed x f faults k step =
    let old : Log = log_of x.book x.name in
    let new : Log = log_of (turn existed x.book f faults).1 x.name in
    let more : old.done ≤ new.done = step.grows.done in
    record {
      sound = step.sound;
      were = each-map (WasOffered x.name x.requests old.done) (WasOffered x.name x.requests new.done) x.sent
          (λ m h. record { own = h.own; was = h.was; near = (let n = h.near in omega (arith, n, more)) }) k.were;
      reported = each-append (IsTrueReply (existed x.name) x.name new) x.replies (turn existed x.book f faults).0
          (each-map _ (IsTrueReply (existed x.name) x.name new) x.replies
          (grown_reply (existed x.name) x.name old new step.grows) k.reported) step.reported;
      runs = each-map (IsRunOn (existed x.name) x.name x.requests old) (IsRunOn (existed x.name) x.name x.requests new)
          x.runs (run_grown (existed x.name) x.name x.requests old new step.grows) k.runs;
    }

with_runs : (existed : List ℕ → Bool) (x : Reruns) (runs : List Sender) → AreKept existed x →
    Each (IsRunOn (existed x.name) x.name x.requests (log_of x.book x.name)) runs →
    AreKept existed (record x { runs = runs })
with_runs existed x runs k h = record { sound = k.sound; were = k.were; reported = k.reported; runs = h }

run_true : (existed : List ℕ → Bool) (x : Reruns) → AreKept existed x → (i : ℕ) (s : Sender) →
    slice_get x.runs i ≡ Some s → IsRunOn (existed x.name) x.name x.requests (log_of x.book x.name) s
run_true existed x k i s e =
    each-get (IsRunOn (existed x.name) x.name x.requests (log_of x.book x.name)) x.runs i s k.runs e

begun_true : (existed : List ℕ → Bool) (x : Reruns) → AreKept existed x → (s : Sender) →
    IsRunOn (existed x.name) x.name x.requests (log_of x.book x.name) s → AreKept existed (begun x (Some s))
begun_true existed x k s h = with_runs existed x _ k (each-append _ x.runs (s ∷ []) k.runs (h, tt))

sent_true : (existed : List ℕ → Bool) (x : Reruns) → AreKept existed x → (s : Sender) →
    IsRunOn (existed x.name) x.name x.requests (log_of x.book x.name) s → (n : ℕ) (next : Option Request) →
    slice_get s.offered n ≡ next → AreKept existed (sent_under x n next)
sent_true existed x k s h n None e = k
sent_true existed x k s h n (Some r) e =
    let below : n < length s.offered = get-below s.offered n r e in
    let near = offered_near (existed x.name) x.name x.requests (log_of x.book x.name) s h in
    let done : ℕ = (log_of x.book x.name).done in
    let room : n < done + window = omega (arith, below, near) in
    let was : slice_get x.requests n ≡ Some r =
    get-take x.requests (length s.offered) n r (sym (ap (λ (xs : List Request). slice_get xs n) h.first) ∙ e) in
    record {
      sound = k.sound;
      were = each-append (WasOffered x.name x.requests done) x.sent _ k.were
          (record { own = refl; was = was; near = room }, tt);
      reported = k.reported;
      runs = k.runs;
    }

step_true : (existed : List ℕ → Bool) (x : Reruns) (e : RerunEvent) (faults : Faults) → AreKept existed x →
    AreKept existed (rerun_step existed x e faults)
unfolding turn rerun_step
step_true existed x Starts faults k = begun_true existed x k _
    (run_begins (existed x.name) x.name x.requests (log_of x.book x.name))
step_true existed x (Resumes i) faults k = go (slice_get x.runs i) refl
  where
    go : (o : Option Sender) → slice_get x.runs i ≡ o → AreKept existed (begun x o)
    go None e = k
    go (Some s) e = begun_true existed x k s (run_true existed x k i s e)
step_true existed x (Offers i) faults k = go (slice_get x.runs i) refl
  where
    go : (o : Option Sender) → slice_get x.runs i ≡ o → AreKept existed (with_run x i (offered_next x.requests o))
    go None e = k
    go (Some s) e = with_runs existed x _ k (each-set _ x.runs i _ k.runs
        (run_offered (existed x.name) x.name x.requests (log_of x.book x.name) s (run_true existed x k i s e)
        (slice_get x.requests (length s.offered)) refl))
step_true existed x (Sends i n) faults k = go (slice_get x.runs i) refl
  where
    go : (o : Option Sender) → slice_get x.runs i ≡ o → AreKept existed (sent_by x o n)
    go None e = k
    go (Some s) e = sent_true existed x k s (run_true existed x k i s e) n (slice_get s.offered n) refl
step_true existed x (Delivers i) faults k = go (slice_get x.sent i) refl
  where
    go : (o : Option Message) → slice_get x.sent i ≡ o → AreKept existed (delivered_to existed x o faults)
    go None e = k
    go (Some m) e =
        let h = each-get (WasOffered x.name x.requests (log_of x.book x.name).done) x.sent i m k.were e in
        met_true existed x (Says m) faults k
        (subst (λ (z : List ℕ). IsFaithfulStep (existed z) x.requests z (log_of x.book z)
        (log_of (turn existed x.book (Says m) faults).1 z) (turn existed x.book (Says m) faults).0) h.own
        (own_message_true existed x.requests x.book m faults
        (subst (λ (z : List ℕ). IsSound x.requests (log_of x.book z)) (sym h.own) k.sound) h.was
        (subst (λ (z : List ℕ). m.number < (log_of x.book z).done + window) (sym h.own) h.near)))
step_true existed x (Brings i j) faults k = go (slice_get x.runs i) refl (slice_get x.replies j) refl
  where
    go : (o : Option Sender) → slice_get x.runs i ≡ o → (r : Option Reply) → slice_get x.replies j ≡ r →
        AreKept existed (with_run x i (heard_by o r))
    go None e r f = k
    go (Some s) e None f = with_runs existed x _ k (each-set _ x.runs i s k.runs (run_true existed x k i s e))
    go (Some s) e (Some r) f = with_runs existed x _ k (each-set _ x.runs i _ k.runs
        (run_heard (existed x.name) x.name x.requests (log_of x.book x.name) s r (run_true existed x k i s e)
        (each-get (IsTrueReply (existed x.name) x.name (log_of x.book x.name)) x.replies j r k.reported f)))
step_true existed x AskedFor faults k = met_true existed x (Asks x.name 0) faults k
    (still (existed x.name) x.requests x.name (log_of x.book x.name) _ k.sound
    (notice_true (existed x.name) x.name x.name (log_of x.book x.name) 0 _ Next refl, tt))
step_true existed x (Others f) faults k = go (is_of x.name f) refl
  where
    go : (v : Bool) → is_of x.name f ≡ v → AreKept existed (cond v x (met existed x f faults))
    go true e = k
    go false e = met_true existed x f faults k (other_true existed x.requests x.name x.book f faults e k.sound)

steps_true : (existed : List ℕ → Bool) (x : Reruns) (events : List (RerunEvent × Faults)) → AreKept existed x →
    AreKept existed (reruns_after existed x events)
steps_true existed x [] k = k
steps_true existed x (e ∷ es) k = steps_true existed (rerun_step existed x e.0 e.1) es (step_true existed x e.0 e.1 k)

none_some : {X : Type 0} {x : X} → None ≡ Some x → ⊥
none_some e = cc

start_true : (existed : List ℕ → Bool) (name : List ℕ) (requests : List Request) →
    AreKept existed (new_reruns name requests)
start_true existed name requests = record {
  sound = record { admitted = λ n r e. absurd (none_some e); filled = λ k below. absurd (omega arith) };
  were = tt;
  reported = tt;
  runs = tt;
}

no_turning_down : (taken : Bool) (name : List ℕ) (log : Log) (rs : List Reply) → Each (IsTrueReply taken name log) rs →
    list_any (turns_down name) rs ≡ false
no_turning_down taken name log [] h = refl
no_turning_down taken name log (r ∷ rs) h =
    ap (λ (v : Bool). v || list_any (turns_down name) rs) h.0.welcome ∙ no_turning_down taken name log rs h.1

faithful_run : (existed : List ℕ → Bool) (x : Reruns) (s : Sender) → AreKept existed x →
    IsRunOn (existed x.name) x.name x.requests (log_of x.book x.name) s → IsFaithfulRun existed x s
faithful_run existed x s k h = record {
  name_is = h.own;
  offered = h.first;
  faithful = record {
    admitted = k.sound.admitted;
    verdicts = h.known;
    within = within_requests x.requests (log_of x.book x.name) k.sound;
    prefix = prefix_of_requests x.requests (log_of x.book x.name) k.sound;
    made = made_of_requests (existed x.name) x.requests (log_of x.book x.name) k.sound;
    settled = settled_done s.verdicts (log_of x.book x.name).done (λ n v e. (h.known n v e).0);
    welcome = no_turning_down (existed x.name) x.name (log_of x.book x.name) x.replies k.reported;
  };
}

pub each_run : EachRunIsFaithful
each_run existed name requests events s has =
    let x = reruns_after existed (new_reruns name requests) events in
    let k = steps_true existed (new_reruns name requests) events (start_true existed name requests) in
    faithful_run existed x s k
    (each-contains (IsRunOn (existed x.name) x.name x.requests (log_of x.book x.name)) x.runs s k.runs has)

pub runs_agree : RunsHearOneVerdict
runs_agree existed x s t h g n v w e f = (h.faithful.verdicts n v e).1 ∙ sym (g.faithful.verdicts n w f).1

pub settled_whole : SettledRunsAreWhole
unfolding made
settled_whole existed x s h all =
    let done : ℕ = (log_of x.book x.name).done in
    let most = h.faithful.within in
    let least = h.faithful.settled in
    let same : done ≡ length x.requests = omega (arith, most, least, all) in
    (same, h.faithful.made ∙ ap (made_by (existed x.name)) (ap (λ (n : ℕ). take n x.requests) same ∙ take_all x.requests))
  where
    take_all : (rs : List Request) → take (length rs) rs ≡ rs
    take_all [] = refl
    take_all (r ∷ rs) = ap (λ (xs : List Request). r ∷ xs) (take_all rs)

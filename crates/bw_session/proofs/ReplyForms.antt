-- What was admitted under a number, and the reply to a message.
use Rattle.std.proofs.Common.{◌≡◌, ℕ, zero, suc, ◌+◌, ◌<◌, ◌≤◌, Bool, true, false, cond, List, [], ◌∷◌, length, take}
use Rattle.std.proofs.Common.{drop, Option, Some, None, refl, sym, ◌∙◌, ap, arith, ◌⊎◌, inl, inr, le-ltb, lt-ltb}
use Rattle.std.specs.Prelude.{is_some, slice_index_or, nat_lt}
use Rattle.std.proofs.lemmas.Bool.{cases_lt, lt-leb, le-leb}
use Rattle.std.specs.Str.{bytes_eq}
use Rattle.sha2.specs.Sha256.{sha256}
use Rattle.bw_model.specs.Bytes.{at, first_free}
use Rattle.bw_model.specs.Take.{Request, Verdict, Stored}
use Rattle.bw_model.specs.Wire.{Message, message_body}
use Rattle.bw_model.specs.Book.{Log, verdict_at, run_end}
use Rattle.bw_model.specs.Turn.{is_repeat, repeats, own_reply, window}
use Rattle.bw_model.specs.Replies.{Judged, Noticed, Conflict, DelayedStore, Held, TooFar}
use Rattle.bw_model.specs.Holds.{body_of, finished_from}
use Rattle.bw_model.proofs.MapLemmas.{IsFilled, at-first_free, at-drop}
use Rattle.bw_wire.specs.declared.reply.Reply.{Reply}
use Rattle.bw_session.specs.Sessions.{Part, HoldsLog}
use Rattle.bw_session.specs.Runs.{EndsDraining}
use Rattle.bw_session.proofs.AdmitForms.{filled}

absurd_none : {A : Type 0} {r : Request} → None ≡ Some r → A
absurd_none e = cc

no_body : {A : Type 0} {b : List ℕ} → Some b ≡ None → A
no_body e = cc

at-taken : (s : List (Option Request)) (n k : ℕ) → k < n → at (take n s) k ≡ at s k
at-taken s zero k h = absurd (omega (arith, h))
at-taken [] (suc n) k h = refl
at-taken (x ∷ s) (suc n) zero h = refl
at-taken (x ∷ s) (suc n) (suc k) h = at-taken s n k (omega (arith, h))

-- what is kept of a number
kept_at : (existed : Bool) (whole : List (Option Request)) (name : List ℕ) (n : ℕ) (xs : List (Option Request)) (k i : ℕ)
    (d : List ℕ × Verdict) → i ≡ n + k → k < length (finished_from existed whole name n xs) →
    (r : Request) × (at xs k ≡ Some r) × (slice_index_or (finished_from existed whole name n xs) k d
    ≡ (sha256 (body_of name i r), verdict_at existed whole i))
kept_at existed whole name n [] k i d e h = absurd (omega (arith, h))
kept_at existed whole name n (None ∷ xs) k i d e h = absurd (omega (arith, h))
kept_at existed whole name n (Some r ∷ xs) zero i d e h =
    let same : n ≡ i = omega (arith, e) in
    (r, refl, ap (λ (j : ℕ). (sha256 (body_of name j r), verdict_at existed whole j)) same)
kept_at existed whole name n (Some r ∷ xs) (suc k) i d e h =
    kept_at existed whole name (suc n) xs k i d (omega (arith, e)) (omega (arith, h))

module _ (first : Option (List ℕ)) (log : Log) (p : Part) (found : Option (List ℕ))
    (h : HoldsLog first log p found) where
  -- the digest and the verdict of a done number
  done_at : (n : ℕ) (d : List ℕ × Verdict) → n < length p.outcomes →
      (r : Request) × (at log.admitted n ≡ Some r) × (slice_index_or p.outcomes n d
      ≡ (sha256 (body_of p.growing.name n r), verdict_at (is_some first) log.admitted n))
  done_at n d below =
      let done = h.memory.done in
      let long : length (finished_from _ log.admitted p.growing.name 0 (take log.done log.admitted))
      ≡ log.done = ap length (sym h.memory.finished) ∙ done in
      let x = kept_at _ log.admitted p.growing.name 0 (take log.done log.admitted) n n d
      (omega arith) (omega (arith, long, below, done)) in (
        x.0,
        sym (at-taken log.admitted log.done n (omega (arith, below, done))) ∙ x.1,
        ap (λ (ys : List (List ℕ × Verdict)). slice_index_or ys n d) h.memory.finished ∙ x.2,
      )

  -- whether it is the digest of a message's body says whether the message repeats it
  pub repeat_done : (n : ℕ) (m : Message) (digest : List ℕ) (answer : Bool) → n < length p.outcomes →
      m.name ≡ p.growing.name → m.number ≡ n → digest ≡ sha256 (message_body m) →
      ((d : List ℕ × Verdict) → answer ≡ bytes_eq (slice_index_or p.outcomes n d).0 digest) →
      answer ≡ is_repeat log.admitted m
  repeat_done n m digest answer below name number summed reported =
      let x = done_at n ([], Stored) below in
      reported ([], Stored)
      ∙ ap (λ (y : List ℕ × Verdict). bytes_eq y.0 digest) x.2
      ∙ ap (bytes_eq (sha256 (body_of p.growing.name n x.0))) summed
      ∙ ap (λ (z : List ℕ). bytes_eq (sha256 (body_of z n x.0)) (sha256 (message_body m))) (sym name)
      ∙ ap (λ (k : ℕ). bytes_eq (sha256 (body_of m.name k x.0)) (sha256 (message_body m))) (sym number)
      ∙ ap (repeats m) (sym (ap (at log.admitted) number ∙ x.1))

  pub verdict_kept : (n : ℕ) (v : Verdict) → n < length p.outcomes →
      ((d : List ℕ × Verdict) → v ≡ (slice_index_or p.outcomes n d).1) → v ≡ verdict_at (is_some first) log.admitted n
  verdict_kept n v below reported =
      let x = done_at n ([], Stored) below in
      reported ([], Stored) ∙ ap (λ (y : List ℕ × Verdict). y.1) x.2

-- The message's own reply, case by case.

pub own_far : (t : Bool) (s : List (Option Request)) (done later end : ℕ) (m : Message) → done + window ≤ m.number →
    own_reply t s done later end m ≡ Noticed m.name m.number TooFar later ∷ []
unfolding own_reply
own_far t s done later end m past = let a = le-leb (done + window) m.number past in rw (a) refl

module _ (t : Bool) (s : List (Option Request)) (done later end : ℕ) (m : Message) (near : m.number < done + window) where
  pub own_conflict : is_repeat s m ≡ false →
      own_reply t s done later end m ≡ Noticed m.name m.number Conflict later ∷ []
  unfolding own_reply
  own_conflict repeat = let a = lt-leb (done + window) m.number near in rw (a, repeat) refl

  pub own_waits : is_repeat s m ≡ true → done ≤ later → later ≤ m.number → (short : Bool) → nat_lt later end ≡ short →
      own_reply t s done later end m ≡ Noticed m.name m.number (cond short DelayedStore Held) later ∷ []
  unfolding own_reply
  own_waits repeat up above short is =
      let a = lt-leb (done + window) m.number near in
      let b = le-leb done m.number (omega (arith, up, above)) in
      let c = le-ltb m.number later above in
      let d = le-ltb m.number done (omega (arith, up, above)) in
      rw (a, repeat, b, c, d, is) (go short)
    where
      go : (v : Bool) →
          cond v (Noticed m.name m.number DelayedStore later ∷ []) (Noticed m.name m.number Held later ∷ [])
          ≡ Noticed m.name m.number (cond v DelayedStore Held) later ∷ []
      go true = refl
      go false = refl

  pub own_done : is_repeat s m ≡ true → m.number < done →
      own_reply t s done later end m ≡ Judged m.name m.number (verdict_at t s m.number) ∷ []
  unfolding own_reply
  own_done repeat below =
      let a = lt-leb (done + window) m.number near in
      let b = lt-leb done m.number below in
      let c = lt-ltb m.number done below in
      rw (a, repeat, b, c) refl

  pub own_drained : is_repeat s m ≡ true → done ≤ m.number → m.number < later → own_reply t s done later end m ≡ []
  unfolding own_reply
  own_drained repeat up below =
      let a = lt-leb (done + window) m.number near in
      let b = le-leb done m.number up in
      let c = lt-ltb m.number later below in
      rw (a, repeat, b, c) refl

-- Where draining ended.

no_false : {A : Type 0} → true ≡ false → A
no_false e = cc

free_past : (s : List (Option Request)) (k : ℕ) → IsFilled s k → k ≤ first_free s
free_past s zero h = omega arith
free_past [] (suc k) h = let x = h 0 (omega arith) in absurd_none x.1
free_past (None ∷ s) (suc k) h = let x = h 0 (omega arith) in absurd_none x.1
free_past (Some r ∷ s) (suc k) h =
    let rest = free_past s k (λ i below. h (suc i) (omega (arith, below))) in omega (arith, rest)

-- up to a number that is reached, the run continues
pub run_past : (s : List (Option Request)) (done k : ℕ) → IsFilled s (done + k) → done + k ≤ run_end s done
run_past s done k h =
    let rest = free_past (drop done s) k (λ i below.
    let x = h (done + i) (omega (arith, below)) in (x.0, at-drop done i (done + i) s refl ∙ x.1)) in
    omega (arith, rest)

pub run_stops : (s : List (Option Request)) (done k : ℕ) → at s (done + k) ≡ None → IsFilled s (done + k) →
    run_end s done ≡ done + k
run_stops s done k none h = go (cases_lt (done + k) (run_end s done))
  where
    go : (done + k < run_end s done) ⊎ (run_end s done ≤ done + k) → run_end s done ≡ done + k
    go (inl less) =
        let x = at-first_free (drop done s) k (omega (arith, less)) in
        absurd_none (sym (at-drop done k (done + k) s refl ∙ none) ∙ x.1)
    go (inr past) = let reached = run_past s done k h in omega (arith, past, reached)

pub run_goes : (s : List (Option Request)) (done k : ℕ) (r : Request) → at s (done + k) ≡ Some r →
    IsFilled s (done + k) → done + k < run_end s done
run_goes s done k r here h =
    let more = run_past s done (suc k) (λ i below. go i (cases_lt i (done + k)) below) in
    omega (arith, more)
  where
    go : (i : ℕ) → (i < done + k) ⊎ (done + k ≤ i) → i < done + suc k → (x : Request) × (at s i ≡ Some x)
    go i (inl less) below = h i less
    go i (inr past) below = let same : i ≡ done + k = omega (arith, past, below) in (r, ap (at s) same ∙ here)

-- a fault stopped draining exactly if the run continues
pub stops_short : (s : List (Option Request)) (done k : ℕ) (stopped : Bool) → is_some (at s (done + k)) ≡ stopped →
    IsFilled s (done + k) → nat_lt (done + k) (run_end s done) ≡ stopped
stops_short s done k stopped end h = go (at s (done + k)) refl stopped end
  where
    go : (o : Option Request) → at s (done + k) ≡ o → (v : Bool) → is_some (at s (done + k)) ≡ v →
        nat_lt (done + k) (run_end s done) ≡ v
    go None is v e =
        le-ltb (done + k) (run_end s done) (let end = run_stops s done k is h in omega (arith, end))
        ∙ sym (ap is_some is) ∙ e
    go (Some r) is v e = lt-ltb (done + k) (run_end s done) (run_goes s done k r is h) ∙ sym (ap is_some is) ∙ e

-- by the number of the done ones
pub short_at : (first : Option (List ℕ)) (log : Log) (stopped : Bool) (replies : List Reply) (p : Part)
    (found : Option (List ℕ)) (done : ℕ) → EndsDraining first log stopped replies p found → log.done ≡ done →
    nat_lt (length p.outcomes) (run_end log.admitted done) ≡ stopped
short_at first log stopped replies p found done h same =
    let later : length p.outcomes ≡ log.done + length replies = h.drained.left.memory.done in
    ap (λ (n : ℕ). nat_lt n (run_end log.admitted done)) later
    ∙ ap (λ (n : ℕ). nat_lt (log.done + length replies) (run_end log.admitted n)) (sym same)
    ∙ stops_short log.admitted log.done (length replies) stopped h.end
    (filled first _ _ _ _ _ found h.drained.left)

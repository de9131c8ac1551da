-- Replies that say what the log has.
use Rattle.std.proofs.Common.{◌≡◌, ℕ, suc, zero, ◌+◌, ◌<◌, ◌≤◌, Bool, false, List, Some, refl, sym, ◌∙◌, ap, subst}
use Rattle.std.proofs.Common.{arith}
use Rattle.std.specs.Prelude.{slice_get}
use Rattle.bw_model.specs.Bytes.{at}
use Rattle.bw_model.specs.Take.{Request, Verdict}
use Rattle.bw_model.specs.Replies.{Reply, Judged, Noticed, Notice}
use Rattle.bw_model.specs.Book.{Log, verdict_at}
use Rattle.bw_model.specs.Turn.{verdicts_from}
use Rattle.bw_model.specs.World.{turns_down}
use Rattle.bw_model.proofs.MapLemmas.{IsFilled}
use Rattle.bw_model.proofs.Elements.{Each}

-- what was admitted is what was offered, and the done numbers are admitted
pub record IsSound (offered : List Request) (log : Log) : Type 0 where
  pub admitted : (n : ℕ) (r : Request) → at log.admitted n ≡ Some r → slice_get offered n ≡ Some r
  pub filled : IsFilled log.admitted log.done

-- the log grows, and its verdicts stay
pub record Grows (taken : Bool) (old new : Log) : Type 0 where
  pub done : old.done ≤ new.done
  pub verdicts : (n : ℕ) → n < old.done → verdict_at taken new.admitted n ≡ verdict_at taken old.admitted n

-- a reply of this name gives a verdict of the log, and turns nothing down
pub record IsTrueReply (taken : Bool) (name : List ℕ) (log : Log) (r : Reply) : Type 0 where
  pub judged : (n : ℕ) (v : Verdict) → r ≡ Judged name n v → (n < log.done) × (v ≡ verdict_at taken log.admitted n)
  pub welcome : turns_down name r ≡ false

-- a turn of a message that was offered
pub record IsFaithfulStep (taken : Bool) (offered : List Request) (name : List ℕ) (old new : Log)
    (replies : List Reply) : Type 0 where
  pub sound : IsSound offered new
  pub grows : Grows taken old new
  pub reported : Each (IsTrueReply taken name new) replies

pub notice_true : (taken : Bool) (name x : List ℕ) (log : Log) (n next : ℕ) (code : Notice) →
    turns_down name (Noticed x n code next) ≡ false → IsTrueReply taken name log (Noticed x n code next)
notice_true taken name x log n next code w = record { judged = λ k v e. absurd (not_judged e); welcome = w }
  where
    not_judged : {k : ℕ} {v : Verdict} → Noticed x n code next ≡ Judged name k v → ⊥
    not_judged e = cc

pub judged_true : (taken : Bool) (name : List ℕ) (log : Log) (n : ℕ) → n < log.done →
    IsTrueReply taken name log (Judged name n (verdict_at taken log.admitted n))
judged_true taken name log n below = record { judged = λ k v e. reported k v e; welcome = refl }
  where
    reported : (k : ℕ) (v : Verdict) → Judged name n (verdict_at taken log.admitted n) ≡ Judged name k v →
        (k < log.done) × (v ≡ verdict_at taken log.admitted k)
    reported k v e =
        let same : n ≡ k = cc in
        let verdicts : verdict_at taken log.admitted n ≡ v = cc in
        (subst (λ (z : ℕ). z < log.done) same below, sym verdicts ∙ ap (verdict_at taken log.admitted) same)

pub verdicts_true : (taken : Bool) (name : List ℕ) (log : Log) (n k : ℕ) → n + k ≤ log.done →
    Each (IsTrueReply taken name log) (verdicts_from taken log.admitted name n k)
verdicts_true taken name log n zero h = tt
verdicts_true taken name log n (suc k) h =
    (judged_true taken name log n (omega arith), verdicts_true taken name log (suc n) k (omega arith))

-- nothing changed
pub still : (taken : Bool) (offered : List Request) (name : List ℕ) (log : Log) (replies : List Reply) →
    IsSound offered log → Each (IsTrueReply taken name log) replies →
    IsFaithfulStep taken offered name log log replies
still taken offered name log replies sound reported =
    record { sound = sound; grows = record { done = omega arith; verdicts = λ n h. refl }; reported = reported }

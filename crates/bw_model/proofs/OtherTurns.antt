-- A turn of another name leaves the sender's part.
use Rattle.std.proofs.Common.{◌≡◌, ℕ, suc, zero, ◌-◌, Bool, true, false, not, cond, ◌&&◌, List, [], Option}
use Rattle.std.proofs.Common.{Some, None, refl, sym, ◌∙◌, ap, subst}
use Rattle.std.specs.Prelude.{nat_le}
use Rattle.std.specs.Str.{bytes_eq}
use Rattle.std.proofs.lemmas.Bool.{false≢true}
use Rattle.bw_model.specs.Take.{Request, Verdict}
use Rattle.bw_model.specs.Wire.{Message, Frame, Says, Asks, Bye}
use Rattle.bw_model.specs.Replies.{Reply, Judged, Noticed, Refused, TooFar, TableFull, NoRoom}
use Rattle.bw_model.specs.Replies.{Next}
use Rattle.bw_model.specs.Book.{Log, Book, log_of, is_known, run_end}
use Rattle.bw_model.specs.Turn.{Faults, turn, turn_by, served, own_reply, verdicts_from, notice, window, is_admissible}
use Rattle.bw_model.specs.Turn.{admitted_after, drained_to, is_of, is_full, with_change}
use Rattle.bw_model.specs.World.{is_too_far_or_conflict}
use Rattle.bw_model.proofs.BookLemmas.{name_refl, log-with_log_other}
use Rattle.bw_model.proofs.Elements.{Each, each-append, each-map}
use Rattle.bw_model.proofs.OwnReplies.{own_cases}
use Rattle.bw_model.proofs.TrueReplies.{IsSound, IsTrueReply, IsFaithfulStep, notice_true, still}

-- replies of another name change nothing for the sender
abbrev pub IsOf : List ℕ → Reply → Type 0
IsOf name (Judged x n v) = x ≡ name
IsOf name (Noticed x n code next) = x ≡ name
IsOf name (Refused reason place) = Unit {0}

pub other_reply : (taken : Bool) (name x : List ℕ) (log : Log) (r : Reply) → bytes_eq x name ≡ false → IsOf x r →
    IsTrueReply taken name log r
other_reply taken name x log (Judged y n v) off is = record { judged = λ k w e. absurd (not_own k w e); welcome = refl }
  where
    not_own : (k : ℕ) (w : Verdict) → Judged y n v ≡ Judged name k w → ⊥
    not_own k w e = let own : y ≡ name =
        cc in false≢true (sym off ∙ ap (λ (z : List ℕ). bytes_eq z name) (sym is ∙ own) ∙ name_refl name)
other_reply taken name x log (Noticed y n code next) off is =
    notice_true taken name y log n next code (w (is_too_far_or_conflict code))
  where
    off' : bytes_eq y name ≡ false
    off' = ap (λ (z : List ℕ). bytes_eq z name) is ∙ off

    w : (c : Bool) → c && bytes_eq y name ≡ false
    w true = off'
    w false = refl
other_reply taken name x log (Refused reason place) off is =
    record { judged = λ k w e. absurd (not_judged e); welcome = refl }
  where
    not_judged : {k : ℕ} {w : Verdict} → Refused reason place ≡ Judged name k w → ⊥
    not_judged e = cc

verdicts_of : (taken : Bool) (s : List (Option Request)) (name : List ℕ) (n k : ℕ) →
    Each (IsOf name) (verdicts_from taken s name n k)
verdicts_of taken s name n zero = tt
verdicts_of taken s name n (suc k) = (refl, verdicts_of taken s name (suc n) k)

own_of : (taken : Bool) (s : List (Option Request)) (done later end : ℕ) (m : Message) →
    Each (IsOf m.name) (own_reply taken s done later end m)
own_of taken s done later end m =
    own_cases (λ rs. Each (IsOf m.name) rs) taken s done later end m
    (λ _. (refl, tt)) (λ _. (refl, tt)) (λ _. tt) (λ _. (refl, tt)) (λ _. (refl, tt)) (λ _. (refl, tt))

pub message_of : (taken known full : Bool) (log : Log) (m : Message) (faults : Faults) →
    Each (IsOf m.name) (turn_by taken known full log m faults).0
unfolding served turn_by
message_of taken known full log m faults =
    go (not known && nat_le window m.number) (not known && full) (is_admissible log m.number && faults.refused)
  where
    s : List (Option Request)
    s = admitted_after log m

    later : ℕ
    later = drained_to log.done (run_end s log.done) faults.stop

    go : (u v w : Bool) → Each (IsOf m.name)
        (cond {A = List Reply × Option Log} u (notice m TooFar 0, None)
        (cond v (notice m TableFull 0, None)
        (cond w (notice m NoRoom log.done, None)
        ((served taken log m faults.stop).0, Some (served taken log m faults.stop).1)))).0
    go true v w = (refl, tt)
    go false true w = (refl, tt)
    go false false true = (refl, tt)
    go false false false = each-append (IsOf m.name) _ _ (verdicts_of taken s m.name log.done (later - log.done))
        (own_of taken s log.done later (run_end s log.done) m)

-- a turn of another name
pub other_true : (existed : List ℕ → Bool) (offered : List Request) (name : List ℕ) (b : Book) (f : Frame)
    (faults : Faults) → is_of name f ≡ false →
    IsSound offered (log_of b name) →
    IsFaithfulStep (existed name) offered name (log_of b name) (log_of (turn existed b f faults).1 name)
    (turn existed b f faults).0
unfolding turn turn_by
other_true existed offered name b (Says m) faults off sound =
    let x = turn_by (existed m.name) (is_known b m.name) (is_full b) (log_of b m.name) m faults in
    subst (λ (l : Log). IsFaithfulStep (existed name) offered name (log_of b name) l x.0) (sym (same x.1))
    (still (existed name) offered name (log_of b name) x.0 sound
    (each-map (IsOf m.name) (IsTrueReply (existed name) name (log_of b name)) x.0
    (λ r h. other_reply (existed name) name m.name (log_of b name) r off h)
    (message_of (existed m.name) (is_known b m.name) (is_full b) (log_of b m.name) m faults)))
  where
    same : (c : Option Log) → log_of (with_change b m.name c) name ≡ log_of b name
    same None = refl
    same (Some l) = log-with_log_other b m.name name l off
other_true existed offered name b (Asks x n) faults off sound =
    still (existed name) offered name (log_of b name) _ sound
    (notice_true (existed name) name x (log_of b name) n (log_of b x).done Next refl, tt)
other_true existed offered name b Bye faults off sound = still (existed name) offered name (log_of b name) [] sound tt

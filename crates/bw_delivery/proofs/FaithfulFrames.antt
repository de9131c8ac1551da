-- A frame's turn on a folder's book keeps the sender's part of a world true.
use Rattle.std.proofs.Common.{◌≡◌, ◌⊎◌, inl, inr, ℕ, ◌+◌, ◌<◌, ◌≤◌, Bool, true, false, not, cond, ◌&&◌, List, [], ◌∷◌}
use Rattle.std.proofs.Common.{Option, Some, None, refl, sym, ap, subst, arith}
use Rattle.std.specs.Prelude.{slice_get, nat_le}
use Rattle.std.specs.Str.{bytes_eq}
use Rattle.std.proofs.lemmas.Bool.{leb-true}
use Rattle.bw_model.specs.Take.{Request}
use Rattle.bw_model.specs.Wire.{Frame, Message, Says, Asks, Bye}
use Rattle.bw_model.specs.Replies.{Reply, Noticed, Notice, TooFar, TableFull, NoRoom, Next, DelayedStore}
use Rattle.bw_model.specs.Book.{Log, Book, log_of, is_known}
use Rattle.bw_model.specs.Turn.{Faults, turn_by, served, notice, window, is_admissible, with_change}
use Rattle.bw_model.specs.World.{turns_down}
use Rattle.bw_model.proofs.BookLemmas.{unknown_log, log-with_log_same, log-with_log_other}
use Rattle.bw_model.proofs.Elements.{each-map}
use Rattle.bw_model.proofs.OtherTurns.{IsOf, other_reply, message_of}
use Rattle.bw_model.proofs.TrueReplies.{IsSound, IsTrueReply, IsFaithfulStep, notice_true, still}
use Rattle.bw_delivery.proofs.FolderDeliveries.{served_near}
use Rattle.bw_kept.specs.FolderRuns.{turn_where, name_of_frame, delay_of}
use Rattle.bw_delivery.specs.StoppedWorlds.{TurnsInFolder}

-- one of what was offered, near enough, whoever says whether a further name fits
own_faithful : (full taken : Bool) (offered : List Request) (b : Book) (m : Message) (faults : Faults) →
    IsSound offered (log_of b m.name) → slice_get offered m.number ≡ Some m.request →
    m.number < (log_of b m.name).done + window →
    IsFaithfulStep taken offered m.name (log_of b m.name)
    (log_of (with_change b m.name (turn_by taken (is_known b m.name) full (log_of b m.name) m faults).1) m.name)
    (turn_by taken (is_known b m.name) full (log_of b m.name) m faults).0
unfolding turn_by
own_faithful full taken offered b m faults sound was near =
    go (is_known b m.name) refl (nat_le window m.number) refl full (is_admissible log m.number && faults.refused)
  where
    log : Log
    log = log_of b m.name

    Goal : List Reply × Option Log → Type 0
    Goal x = IsFaithfulStep taken offered m.name log (log_of (with_change b m.name x.1) m.name) x.0

    kept : (code : Notice) (next : ℕ) → turns_down m.name (Noticed m.name m.number code next) ≡ false →
        Goal (Noticed m.name m.number code next ∷ [], None)
    kept code next w =
        still taken offered m.name log _ sound (notice_true taken m.name m.name log m.number next code w, tt)

    served_goal : Goal ((served taken log m faults.stop).0, Some (served taken log m faults.stop).1)
    served_goal =
        subst (λ (z : Log). IsFaithfulStep taken offered m.name log z (served taken log m faults.stop).0)
        (sym (log-with_log_same b m.name (served taken log m faults.stop).1))
        (served_near taken offered log m faults.stop sound was near)

    go : (known : Bool) → is_known b m.name ≡ known → (far : Bool) → nat_le window m.number ≡ far →
        (at_end refused : Bool) →
        Goal (cond (not known && far) (notice m TooFar 0, None) (cond (not known && at_end) (notice m TableFull 0, None)
        (cond refused (notice m NoRoom log.done, None)
        ((served taken log m faults.stop).0, Some (served taken log m faults.stop).1))))
    go false k true f at_end refused =
        let none : log.done ≡ 0 = ap (λ (l : Log). l.done) (unknown_log b m.name k) in
        let over : window ≤ m.number = leb-true window m.number f in
        absurd (omega (arith, none, over, near))
    go false k false f true refused = kept TableFull 0 refl
    go false k false f false true = kept NoRoom log.done refl
    go false k false f false false = served_goal
    go true k far f at_end true = kept NoRoom log.done refl
    go true k far f at_end false = served_goal

-- a message of another name
other_faithful : (full taken other_taken : Bool) (offered : List Request) (name : List ℕ) (b : Book) (m : Message)
    (faults : Faults) → IsSound offered (log_of b name) → bytes_eq m.name name ≡ false →
    IsFaithfulStep taken offered name (log_of b name)
    (log_of (with_change b m.name (turn_by other_taken (is_known b m.name) full (log_of b m.name) m faults).1) name)
    (turn_by other_taken (is_known b m.name) full (log_of b m.name) m faults).0
other_faithful full taken other_taken offered name b m faults sound off =
    let log : Log = log_of b name in
    let x : List Reply × Option Log = turn_by other_taken (is_known b m.name) full (log_of b m.name) m faults in
    subst (λ (l : Log). IsFaithfulStep taken offered name log l x.0) (sym (same x.1))
    (still taken offered name log x.0 sound
    (each-map (IsOf m.name) (IsTrueReply taken name log) x.0
    (λ r h. other_reply taken name m.name log r off h)
    (message_of other_taken (is_known b m.name) full (log_of b m.name) m faults)))
  where
    same : (c : Option Log) → log_of (with_change b m.name c) name ≡ log_of b name
    same None = refl
    same (Some l) = log-with_log_other b m.name name l off

-- The sender sent a message, or it is another's, or the frame is none.
abbrev pub MayBeOf : List ℕ → List Request → Log → Frame → Type 0
MayBeOf name offered log (Says m) =
    ((m.name ≡ name) × (slice_get offered m.number ≡ Some m.request) × (m.number < log.done + window))
    ⊎ (bytes_eq m.name name ≡ false)
MayBeOf name offered log (Asks x n) = Unit {0}
MayBeOf name offered log Bye = Unit {0}

served_frame : (full : Bool) (existed : List ℕ → Bool) (offered : List Request) (name : List ℕ) (b : Book) (f : Frame)
    (faults : Faults) → IsSound offered (log_of b name) → MayBeOf name offered (log_of b name) f →
    IsFaithfulStep (existed name) offered name (log_of b name)
    (log_of (with_change b (name_of_frame f) (turn_where full existed b f faults).1) name)
    (turn_where full existed b f faults).0
served_frame full existed offered name b (Says m) faults sound (inl h) =
    subst (λ (z : List ℕ). IsFaithfulStep (existed z) offered z (log_of b z)
    (log_of (with_change b m.name (turn_where full existed b (Says m) faults).1) z)
    (turn_where full existed b (Says m) faults).0) h.0
    (own_faithful full (existed m.name) offered b m faults
    (subst (λ (z : List ℕ). IsSound offered (log_of b z)) (sym h.0) sound) h.1
    (subst (λ (z : List ℕ). m.number < (log_of b z).done + window) (sym h.0) h.2))
served_frame full existed offered name b (Says m) faults sound (inr off) =
    other_faithful full (existed name) (existed m.name) offered name b m faults sound off
served_frame full existed offered name b (Asks x n) faults sound h =
    still (existed name) offered name (log_of b name) _ sound
    (notice_true (existed name) name x (log_of b name) n (log_of b x).done Next refl, tt)
served_frame full existed offered name b Bye faults sound h =
    still (existed name) offered name (log_of b name) [] sound tt

-- a frame that is put off
delayed_frame : (taken : Bool) (offered : List Request) (name : List ℕ) (log : Log) (f : Frame) → IsSound offered log →
    IsFaithfulStep taken offered name log log (delay_of f)
delayed_frame taken offered name log (Says m) sound =
    still taken offered name log _ sound (notice_true taken name m.name log m.number 0 DelayedStore refl, tt)
delayed_frame taken offered name log (Asks x n) sound =
    still taken offered name log _ sound (notice_true taken name x log n 0 DelayedStore refl, tt)
delayed_frame taken offered name log Bye sound = still taken offered name log [] sound tt

pub folder_frame : (existed : List ℕ → Bool) (offered : List Request) (name : List ℕ) (b later : Book) (f : Frame)
    (replies : List Reply) → IsSound offered (log_of b name) → MayBeOf name offered (log_of b name) f →
    TurnsInFolder existed b f replies later →
    IsFaithfulStep (existed name) offered name (log_of b name) (log_of later name) replies
folder_frame existed offered name b later f replies sound may (inl (before, after, full, s)) =
    subst (λ (z : Book). IsFaithfulStep (existed name) offered name (log_of b name) (log_of z name) replies) s.left
    (subst (IsFaithfulStep (existed name) offered name (log_of b name) _) s.answered
    (served_frame full existed offered name b f s.faults sound may))
folder_frame existed offered name b later f replies sound may (inr (off, same)) =
    subst (λ (z : Book). IsFaithfulStep (existed name) offered name (log_of b name) (log_of z name) replies) (sym same)
    (subst (IsFaithfulStep (existed name) offered name (log_of b name) (log_of b name)) (sym off)
    (delayed_frame (existed name) offered name (log_of b name) f sound))

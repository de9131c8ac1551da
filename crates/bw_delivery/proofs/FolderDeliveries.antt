-- What is delivered to a folder: each step of a folder's book is sound for the sender's name.
use Rattle.std.proofs.Common.{◌≡◌, ℕ, ◌+◌, ◌<◌, ◌≤◌, Bool, true, false, cond, ◌&&◌, ◌||◌, List, [], ◌∷◌, ◌++◌}
use Rattle.std.proofs.Common.{Option, Some, None, refl, sym, ◌∙◌, ap, subst, arith, ◌⊎◌, inl, inr}
use Rattle.std.specs.Prelude.{slice_get}
use Rattle.std.specs.Str.{bytes_eq}
use Rattle.std.specs.List.{AllByRecursion}
use Rattle.std.proofs.lemmas.Bool.{cases_lt}
use Rattle.bw_model.specs.Take.{Request, Stored}
use Rattle.bw_model.specs.Wire.{Message, Frame, Says, Asks, Bye}
use Rattle.bw_model.specs.Replies.{Reply, NoRoom, DelayedStore, Next}
use Rattle.bw_model.specs.Book.{Log, Book, log_of, is_known, no_log}
use Rattle.bw_model.specs.Turn.{Faults, turn_by, served, notice, window, is_admissible, is_full, with_change, message_turn}
use Rattle.bw_model.proofs.BookLemmas.{name_refl, log-with_log_same, log-with_log_other}
use Rattle.bw_model.proofs.Elements.{each-append, each-map}
use Rattle.bw_model.proofs.MapLemmas.{at-first_free}
use Rattle.bw_model.proofs.OtherTurns.{IsOf, other_reply, message_of}
use Rattle.bw_model.proofs.OwnTurns.{own_message_true}
use Rattle.bw_model.proofs.TrueReplies.{IsSound, IsFaithfulStep}
use Rattle.bw_exchange.specs.AnsweredFrames.{Answered, replies_of}
use Rattle.bw_connections.specs.ConnectionTables.{all_answered}
use Rattle.bw_kept.specs.FolderRuns.{IsFolderRun, ServesFrame, turn_where, name_of_frame, delay_of}
use Rattle.bw_delivery.specs.Deliveries.{LinkBytes}
use Rattle.bw_delivery.specs.FolderDeliveries.{IsFolderDelivery, FolderDeliveriesAreTrue}
use Rattle.bw_delivery.specs.FolderDeliveries.{StoredFolderDeliveriesAreWhole}
use Rattle.bw_delivery.proofs.DeliveryLaws.{IsOfEither, grows_on, reports_on, joined_frames, delivered_by}
use Rattle.bw_delivery.proofs.SoundTurns.{IsOneOf, IsOfAnother, ReportsDone, IsSoundStep, from_faithful, notice_reports}
use Rattle.bw_delivery.proofs.SoundTurns.{same_log, far_served}
use Rattle.bw_delivery.proofs.TurnCases.{by_case}
use Rattle.bw_delivery.proofs.WholeTakes.{all_made}

-- a message of a name that is known is served where memory is given
always_served : (taken : Bool) (log : Log) (m : Message) (stop : Option ℕ) →
    turn_by taken true false log m (record { refused = false; stop = stop })
    ≡ ((served taken log m stop).0, Some (served taken log m stop).1)
unfolding turn_by
always_served taken log m stop = go (is_admissible log m.number)
  where
    go : (v : Bool) → cond {A = List Reply × Option Log} (v && false) (notice m NoRoom log.done, None)
        ((served taken log m stop).0, Some (served taken log m stop).1)
        ≡ ((served taken log m stop).0, Some (served taken log m stop).1)
    go true = refl
    go false = refl

-- what is served of one of the requests that is near, by a turn on the book of its name alone
pub served_near : (taken : Bool) (requests : List Request) (log : Log) (m : Message) (stop : Option ℕ) →
    IsSound requests log → slice_get requests m.number ≡ Some m.request → m.number < log.done + window →
    IsFaithfulStep taken requests m.name log (served taken log m stop).1 (served taken log m stop).0
served_near taken requests log m stop sound was near =
    subst (λ (l : Log). IsFaithfulStep taken requests m.name log l (served taken log m stop).0)
    (log-with_log_same alone m.name (served taken log m stop).1)
    (subst (λ (y : List Reply × Option Log). IsFaithfulStep taken requests m.name log
    (log_of (with_change alone m.name y.1) m.name) y.0) turned
    (subst (λ (l : Log). IsFaithfulStep taken requests m.name l
    (log_of (message_turn taken alone m faults).1 m.name) (message_turn taken alone m faults).0) own
    (own_message_true (λ _. taken) requests alone m faults
    (subst (IsSound requests) (sym own) sound) was
    (subst (λ (l : Log). m.number < l.done + window) (sym own) near))))
  where
    alone : Book
    alone = (m.name, log) ∷ []

    known : is_known alone m.name ≡ true
    known = ap (λ (v : Bool). v || false) (name_refl m.name)

    own : log_of alone m.name ≡ log
    own = ap (λ (v : Bool). cond v log no_log) (name_refl m.name)

    faults : Faults
    faults = record { refused = false; stop = stop }

    x : List Reply × Option Log
    x = ((served taken log m stop).0, Some (served taken log m stop).1)

    turned : turn_by taken (is_known alone m.name) (is_full alone) (log_of alone m.name) m faults ≡ x
    turned = ap (λ (v : Bool). turn_by taken v false (log_of alone m.name) m faults) known
        ∙ ap (λ (l : Log). turn_by taken true false l m faults) own ∙ always_served taken log m stop

-- wherever its number is
served_sound : (taken : Bool) (requests : List Request) (log : Log) (m : Message) (stop : Option ℕ) →
    IsSound requests log → slice_get requests m.number ≡ Some m.request →
    IsSoundStep taken requests m.name log (served taken log m stop).1 (served taken log m stop).0
served_sound taken requests log m stop sound was = go (cases_lt m.number (log.done + window))
  where
    go : (m.number < log.done + window) ⊎ (log.done + window ≤ m.number) →
        IsSoundStep taken requests m.name log (served taken log m stop).1 (served taken log m stop).0
    go (inl near) =
        from_faithful taken requests m.name _ _ _ (served_near taken requests log m stop sound was near)
    go (inr far) = far_served taken requests log m stop sound far

-- one of the requests comes, whoever says whether a further name fits
own_where : (full : Bool) (existed : List ℕ → Bool) (requests : List Request) (b : Book) (m : Message)
    (faults : Faults) → IsSound requests (log_of b m.name) → slice_get requests m.number ≡ Some m.request →
    IsSoundStep (existed m.name) requests m.name (log_of b m.name)
    (log_of (with_change b m.name (turn_where full existed b (Says m) faults).1) m.name)
    (turn_where full existed b (Says m) faults).0
own_where full existed requests b m faults sound was =
    let taken : Bool = existed m.name in
    let log : Log = log_of b m.name in
    let x : List Reply × Log = served taken log m faults.stop in
    by_case taken (is_known b m.name) full log m faults
    (λ y. IsSoundStep taken requests m.name log (log_of (with_change b m.name y.1) m.name) y.0)
    (λ code next. same_log taken requests m.name log _ sound
    (notice_reports taken m.name m.name log m.number next code, tt))
    (subst (λ (l : Log). IsSoundStep taken requests m.name log l x.0) (sym (log-with_log_same b m.name x.1))
    (served_sound taken requests log m faults.stop sound was))

-- a message of another name comes
other_where : (full : Bool) (existed : List ℕ → Bool) (requests : List Request) (name : List ℕ) (b : Book)
    (m : Message) (faults : Faults) → IsSound requests (log_of b name) → bytes_eq m.name name ≡ false →
    IsSoundStep (existed name) requests name (log_of b name)
    (log_of (with_change b m.name (turn_where full existed b (Says m) faults).1) name)
    (turn_where full existed b (Says m) faults).0
other_where full existed requests name b m faults sound off =
    let taken : Bool = existed name in
    let log : Log = log_of b name in
    let x : List Reply × Option Log =
    turn_by (existed m.name) (is_known b m.name) full (log_of b m.name) m faults in
    subst (λ (l : Log). IsSoundStep taken requests name log l x.0) (sym (same x.1))
    (same_log taken requests name log x.0 sound
    (each-map (IsOf m.name) (ReportsDone taken name log) x.0
    (λ r h. (other_reply taken name m.name log r off h).judged)
    (message_of (existed m.name) (is_known b m.name) full (log_of b m.name) m faults)))
  where
    same : (c : Option Log) → log_of (with_change b m.name c) name ≡ log_of b name
    same None = refl
    same (Some l) = log-with_log_other b m.name name l off

-- a frame that is served
where_sound : (full : Bool) (existed : List ℕ → Bool) (requests : List Request) (name : List ℕ) (b : Book)
    (f : Frame) (faults : Faults) → IsSound requests (log_of b name) → IsOneOf name requests f ⊎ IsOfAnother name f →
    IsSoundStep (existed name) requests name (log_of b name)
    (log_of (with_change b (name_of_frame f) (turn_where full existed b f faults).1) name)
    (turn_where full existed b f faults).0
where_sound full existed requests name b (Says m) faults sound (inl h) =
    subst (λ (z : List ℕ). IsSoundStep (existed z) requests z (log_of b z)
    (log_of (with_change b m.name (turn_where full existed b (Says m) faults).1) z)
    (turn_where full existed b (Says m) faults).0) h.0
    (own_where full existed requests b m faults
    (subst (λ (z : List ℕ). IsSound requests (log_of b z)) (sym h.0) sound) h.1)
where_sound full existed requests name b (Says m) faults sound (inr off) =
    other_where full existed requests name b m faults sound off
where_sound full existed requests name b (Asks x n) faults sound h =
    same_log (existed name) requests name (log_of b name) _ sound
    (notice_reports (existed name) name x (log_of b name) n (log_of b x).done Next, tt)
where_sound full existed requests name b Bye faults sound h =
    same_log (existed name) requests name (log_of b name) [] sound tt

-- a frame that is put off
delay_sound : (taken : Bool) (requests : List Request) (name : List ℕ) (log : Log) (f : Frame) →
    IsSound requests log → IsSoundStep taken requests name log log (delay_of f)
delay_sound taken requests name log (Says m) sound = same_log taken requests name log _ sound
    (notice_reports taken name m.name log m.number 0 DelayedStore, tt)
delay_sound taken requests name log (Asks x n) sound = same_log taken requests name log _ sound
    (notice_reports taken name x log n 0 DelayedStore, tt)
delay_sound taken requests name log Bye sound = same_log taken requests name log [] sound tt

-- one step after another
steps_on : (taken : Bool) (requests : List Request) (name : List ℕ) (a b c : Log) (first rest : List Reply) →
    IsSoundStep taken requests name a b first → IsSoundStep taken requests name b c rest →
    IsSoundStep taken requests name a c (first ++ rest)
steps_on taken requests name a b c first rest x y = record {
  sound = y.sound;
  grows = grows_on taken a b c x.grows y.grows;
  reported = each-append (ReportsDone taken name c) first rest
      (each-map (ReportsDone taken name b) (ReportsDone taken name c) first
      (reports_on taken name b c y.grows) x.reported) y.reported;
}

-- a run over a folder
pub folder_sound : (existed : List ℕ → Bool) (requests : List Request) (name : List ℕ) (before after : ℕ)
    (b later : Book) (answered : List Answered) → IsFolderRun existed before after b answered later →
    IsSound requests (log_of b name) → AllByRecursion (IsOfEither name requests) answered →
    IsSoundStep (existed name) requests name (log_of b name) (log_of later name) (replies_of answered)
folder_sound existed requests name before after b later [] went sound each =
    subst (λ (z : Book). IsSoundStep (existed name) requests name (log_of b name) (log_of z name) []) (sym went.1)
    (same_log (existed name) requests name (log_of b name) [] sound tt)
folder_sound existed requests name before after b later (a ∷ rest) (count, mid, turned, more) sound each =
    let first = head turned in
    steps_on (existed name) requests name (log_of b name) (log_of mid name) (log_of later name) a.replies
    (replies_of rest) first
    (folder_sound existed requests name count after mid later rest more first.sound each.1)
  where
    head : ((full : Bool) × ServesFrame full existed before count b a.frame a.replies mid)
        ⊎ ((a.replies ≡ delay_of a.frame) × (mid ≡ b)) →
        IsSoundStep (existed name) requests name (log_of b name) (log_of mid name) a.replies
    head (inl (full, s)) =
        subst (λ (z : Book). IsSoundStep (existed name) requests name (log_of b name) (log_of z name) a.replies) s.left
        (subst (IsSoundStep (existed name) requests name (log_of b name) _) s.answered
        (where_sound full existed requests name b a.frame s.faults sound each.0))
    head (inr (put_off, same)) =
        subst (λ (z : Book). IsSoundStep (existed name) requests name (log_of b name) (log_of z name) a.replies)
        (sym same)
        (subst (IsSoundStep (existed name) requests name (log_of b name) (log_of b name)) (sym put_off)
        (delay_sound (existed name) requests name (log_of b name) a.frame sound))

-- what the name had at first
pub folder_had : (existed : List ℕ → Bool) (name : List ℕ) (requests : List Request)
    (links : List (ℕ × LinkBytes)) (book later : Book) → IsFolderDelivery existed name requests links book later →
    IsSound requests (log_of book name)
folder_had existed name requests links book later d = record {
  admitted = d.had;
  filled = λ k below. let all = d.all_done in at-first_free (log_of book name).admitted k (omega (arith, all, below));
}

pub folder_step : (existed : List ℕ → Bool) (name : List ℕ) (requests : List Request)
    (links : List (ℕ × LinkBytes)) (book later : Book) →
    (d : IsFolderDelivery existed name requests links book later) →
    IsSoundStep (existed name) requests name (log_of book name) (log_of later name) (replies_of (all_answered d.trace))
folder_step existed name requests links book later d =
    folder_sound existed requests name d.before d.after book later (all_answered d.trace) d.went
    (folder_had existed name requests links book later d) (joined_frames name requests links d.trace d.joined)

pub folder_deliveries_true : FolderDeliveriesAreTrue
folder_deliveries_true existed name requests links book later d =
    delivered_by existed name requests links later d.trace d.joined
    (folder_step existed name requests links book later d)

pub stored_folder_whole : StoredFolderDeliveriesAreWhole
stored_folder_whole existed name requests links book later d stored =
    let h = folder_deliveries_true existed name requests links book later d in
    all_made (existed name) name requests later h.within h.made (λ n below. (h.verdicts n Stored (stored n below)).0)

-- The text of a rehearsal's outcome.
use Rattle.std.proofs.Common.{◌≡◌, ℕ, Bool, true, false, List, ◌++◌, Result, Ok, Err, OnOk, Option, Some, None, refl, sym}
use Rattle.std.proofs.Common.{◌∙◌, ap, [], ◌∷◌, ◌≤◌, map, subst, inl, arith}
use Rattle.std.specs.Prelude.{unwrap_or, is_none, slice_get, if◌then◌else◌}
use Rattle.bw_model.specs.Bytes.{put}
use Rattle.bw_model.specs.Take.{Request}
use Rattle.bw_model.specs.Wire.{Message}
use Rattle.bw_model.specs.Replies.{Reply, Judged, Noticed, Refused}
use Rattle.bw_model.specs.Turn.{Faults, is_of}
use Rattle.bw_model.specs.Exchange.{nothing_stands}
use Rattle.bw_model.specs.World.{World as Reported, Sender, Event, Offer, Send, Deliver, Bring, Ask, Foreign, send, deliver}
use Rattle.bw_model.specs.World.{bring, comes, hear, is_counted, offer_fault, pending, happens, world_after, new_world}
use Rattle.bw_model.specs.World.{settled, stored}
use Rattle.bw_model.specs.Book.{Book, Log, log_of, is_known}
use Rattle.bw_model.proofs.BookLemmas.{unknown_log}
use Rattle.bw_model.specs.Holds.{Holds}
use Rattle.bw_session.specs.Books.{of_known, failures_of}
use Rattle.bw_session.specs.Servers.{kept_in}
use Rattle.bw_store.specs.Memory.{content_under}
use Rattle.bw_store.specs.MemoryNames.{names_of, AreNames}
use Rattle.bw_store.specs.declared.memory.MemoryStore.{MemoryStore}
use Rattle.bw_commands.specs.FaultRuns.{AreFaultsOfRuns}
use Rattle.bw_commands.specs.RehearsedWorlds.{event_meaning, no_contents}
use Rattle.bw_commands.specs.Worlds.{WasRehearsed}
use Rattle.bw_commands.specs.declared.event.Event.{Event as Read}
use Rattle.bw_commands.specs.declared.rehearsing.World.{World}
use Rattle.bw_commands.proofs.QuietLemmas.{NonePends, quiet_world}
use Rattle.bw_commands.specs.Text.{files_text}
use Rattle.bw_commands.specs.Rehearsals.{world_counts_line, world_progress_line, world_lines, HasWorld, IsWorldText}

pub on_ok : {T E P Q : Type 0} (r : Result T E) → OnOk r P → (P → Q) → OnOk r Q
on_ok (Ok x) p f = f p
on_ok (Err e) p f = tt

-- of an unknown name none are done
pub done_reported : (book : Book) (name : List ℕ) →
    unwrap_or (of_known book name (λ (log : Log). log.done)) 0 ≡ (log_of book name).done
done_reported book name = go (is_known book name) refl
  where
    go : (v : Bool) → is_known book name ≡ v →
        unwrap_or (of_known book name (λ (log : Log). log.done)) 0 ≡ (log_of book name).done
    go true e = rw e refl
    go false e = rw e (ap (λ (log : Log). log.done) (sym (unknown_log book name e)))

pub same_progress : (prefix : List ℕ) (done done' settled settled' stored stored' : ℕ) → done ≡ done' →
    settled ≡ settled' → stored ≡ stored' →
    prefix ++ world_progress_line done settled stored ≡ prefix ++ world_progress_line done' settled' stored'
same_progress prefix done done' settled settled' stored stored' d e f =
    ap (λ (n : ℕ). prefix ++ world_progress_line n settled stored) d
    ∙ ap (λ (n : ℕ). prefix ++ world_progress_line done' n stored) e
    ∙ ap (λ (n : ℕ). prefix ++ world_progress_line done' settled' n) f

same_counts : (a a' b b' c c' : ℕ) → a ≡ a' → b ≡ b' → c ≡ c' → world_counts_line a b c ≡ world_counts_line a' b' c'
same_counts a a' b b' c c' e f g =
    ap (λ (n : ℕ). world_counts_line n b c) e ∙ ap (λ (n : ℕ). world_counts_line a' n c) f
    ∙ ap (λ (n : ℕ). world_counts_line a' b' n) g

-- the three parts of the text, one after another
pub world_put : (w : Reported) (x : World) (store store' : MemoryStore) (none counts progress whole : List ℕ) →
    HasWorld w x → none ≡ [] → counts ≡ none ++ world_counts_line x.offered x.sent x.replies →
    progress ≡ counts ++ world_progress_line (log_of w.book w.sender.name).done (settled w.sender) (stored w.sender) →
    whole ≡ progress ++ files_text (content_under store.files) (names_of store) → store ≡ store' →
    whole ≡ world_lines w ++ files_text (content_under store'.files) (names_of store')
world_put w x store store' none counts progress whole h empty put more files same =
    files
    ∙ ap (λ (z : List ℕ). z ++ files_text (content_under store.files) (names_of store))
    (more ∙ ap (λ (z : List ℕ). z ++ world_progress_line (log_of w.book w.sender.name).done (settled w.sender)
    (stored w.sender)) (put ∙ ap (λ (z : List ℕ). z ++ world_counts_line x.offered x.sent x.replies) empty
    ∙ same_counts _ _ _ _ _ _ h.offered h.sent h.replies))
    ∙ ap (λ (s : MemoryStore). world_lines w ++ files_text (content_under s.files) (names_of s)) same

-- The name of a sender stays.

offered_name : (v : Bool) (s t : Sender) → t.name ≡ s.name → (if v then t else s).name ≡ s.name
offered_name true s t e = e
offered_name false s t e = refl

heard_name : (s : Sender) (r : Reply) → (hear s r).name ≡ s.name
heard_name s (Judged name n v) = offered_name (is_counted s name n) s (record s { verdicts = put s.verdicts n v }) refl
heard_name s (Noticed name n code next) = refl
heard_name s (Refused reason place) = refl

sent_name : (w : Reported) (p : Option (ℕ × Request)) → (send w p).sender.name ≡ w.sender.name
sent_name w None = refl
sent_name w (Some p) = refl

delivered_name : (existed : List ℕ → Bool) (w : Reported) (m : Option Message) (faults : Faults) →
    (deliver existed w m faults).sender.name ≡ w.sender.name
delivered_name existed w None faults = refl
delivered_name existed w (Some m) faults = refl

brought_name : (w : Reported) (r : Option Reply) → (bring w r).sender.name ≡ w.sender.name
brought_name w None = refl
brought_name w (Some r) = heard_name w.sender r

foreign_name : (v : Bool) (w x : Reported) → x.sender ≡ w.sender → (if v then w else x).sender.name ≡ w.sender.name
foreign_name true w x e = refl
foreign_name false w x e = ap (λ (s : Sender). s.name) e

event_name : (existed : List ℕ → Bool) (w : Reported) (e : Event) (faults : Faults) →
    (happens existed w e faults).sender.name ≡ w.sender.name
unfolding happens
event_name existed w (Offer r) faults =
    offered_name (is_none (offer_fault w.sender r)) w.sender
    (record w.sender { offered = w.sender.offered ++ r ∷ [] }) refl
event_name existed w (Send i) faults = sent_name w (pending w.sender i)
event_name existed w (Deliver k) faults = delivered_name existed w (slice_get w.sent k) faults
event_name existed w (Bring k) faults = brought_name w (slice_get w.replies k)
event_name existed w Ask faults = refl
event_name existed w (Foreign f) faults = foreign_name (is_of w.sender.name f) w (comes existed w f faults) refl

pub name_stays : (existed : List ℕ → Bool) (w : Reported) (es : List (Event × Faults)) →
    (world_after existed w es).sender.name ≡ w.sender.name
name_stays existed w [] = refl
name_stays existed w (e ∷ es) = name_stays existed (happens existed w e.0 e.1) es ∙ event_name existed w e.0 e.1

-- what was rehearsed has its text
pub rehearsed_text : (name copy : List ℕ) (limit : ℕ) (events : List Read) (x : World) (text : List ℕ) → copy ≡ name →
    WasRehearsed copy limit events x →
    ((w : Reported) → HasWorld w x → w.sender.name ≡ name → text ≡ world_lines w
    ++ files_text (content_under x.server.stores.store.files) (names_of x.server.stores.store)) →
    AreNames (names_of x.server.stores.store) (content_under x.server.stores.store.files) →
    IsWorldText name limit (map event_meaning events) text
rehearsed_text name copy limit events x text same r put names = record {
  schedule = r.led.schedule;
  events_are = r.led.meant;
  world = r.world;
  reached = ap (λ (n : List ℕ). world_after nothing_stands (new_world n) r.led.schedule) (sym same) ∙ r.led.reached;
  failures = failures_of _ _ x.server;
  fault_runs = subst (λ (n : List ℕ). AreFaultsOfRuns 0 (failures_of _ _ x.server) (new_world n) r.led.schedule) same r.led.fault_runs;
  contents = content_under x.server.stores.store.files;
  kept_of = kept_in x.server.sessions;
  held = subst (λ (n : ℕ). Holds n (record {
    contents = content_under x.server.stores.store.files;
    first = no_contents;
    honest = true;
  }) (kept_in x.server.sessions) r.world.book) r.limited r.held.holds;
  files = r.files;
  whole = λ none name. r.files name (inl (none_pends none name));
  names = names_of x.server.stores.store;
  ordered = names;
  is = put r.world (record {
    offered = r.offered;
    sent = r.sent;
    replies = r.replies;
    sender = r.sender;
    held = r.held;
  }) (ap (λ (w : Reported). w.sender.name) (sym r.led.reached)
      ∙ name_stays nothing_stands (new_world copy) r.led.schedule ∙ same);
}
  where
    none_pends : failures_of _ _ x.server ≡ 0 → NonePends r.world.book
    none_pends none =
        let zero : failures_of _ _ x.server ≤ 0 = omega (arith, none) in
        subst (λ (w : Reported). NonePends w.book) r.led.reached
        (quiet_world 0 (failures_of _ _ x.server) (new_world copy) r.led.schedule r.led.fault_runs zero (λ n. refl))

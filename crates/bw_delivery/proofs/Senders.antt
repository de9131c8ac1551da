-- A sender to servers that follow one another counts only what lies in the last folder.
use Rattle.std.proofs.Common.{◌≡◌, ◌⊎◌, inl, inr, ℕ, zero, suc, ◌<◌, Bool, true, false, List, [], ◌∷◌, map, Option, Some}
use Rattle.std.proofs.Common.{is_some, length, refl, sym, ◌∙◌, ap, subst, arith}
use Rattle.std.specs.List.{AllByRecursion, Contains, list_any}
use Rattle.bw_model.specs.Bytes.{at, first_free}
use Rattle.bw_model.specs.Take.{Take, Request, Verdict, Stored, new_take}
use Rattle.bw_model.specs.File.{file_of}
use Rattle.bw_model.specs.Exchange.{take_in}
use Rattle.bw_model.specs.World.{is_close}
use Rattle.bw_model.specs.Book.{Log, Book, log_of, is_known, made_by}
use Rattle.std.specs.Prelude.{slice_get}
use Rattle.std.specs.Str.{bytes_eq}
use Rattle.bw_model.specs.Wire.{Message, Frame, Says, Asks, Bye}
use Rattle.bw_model.proofs.BookLemmas.{same_name, unknown_log}
use Rattle.bw_model.proofs.MapLemmas.{at-first_free}
use Rattle.bw_model.proofs.TrueReplies.{IsSound}
use Rattle.bw_store.specs.declared.store.TakeStore.{Ghosts as StoreGhosts}
use Rattle.bw_journal.specs.Stops.{cut_book}
use Rattle.bw_journal.proofs.CutLaws.{at-take_some, logs_cut}
use Rattle.bw_journal.specs.declared.journal.Journal.{Ghosts as JournalGhosts}
use Rattle.bw_exchange.specs.AnsweredFrames.{Answered, replies_of}
use Rattle.bw_session.specs.Books.{failures_of}
use Rattle.bw_session.specs.declared.server.Server.{Server}
use Rattle.bw_connections.specs.ConnectionTables.{all_answered}
use Rattle.bw_delivery.specs.Deliveries.{HasOnly, IsDelivered, HeardOverLinks}
use Rattle.bw_delivery.proofs.ClosedLaws.{AreStored, stored_closes}
use Rattle.bw_delivery.proofs.DeliveryLaws.{IsOfEither, joined_frames, delivered_by}
use Rattle.bw_delivery.proofs.DoneRequests.{within_requests, prefix_of_requests, made_of_requests}
use Rattle.bw_delivery.proofs.FolderDeliveries.{folder_sound}
use Rattle.bw_delivery.proofs.SoundTurns.{IsOneOf, IsOfAnother, IsSoundStep}
use Rattle.bw_delivery.proofs.WholeTakes.{IsWholeTake, all_made, not_taken, whole_take}
use Rattle.bw_kept.specs.FolderRuns.{IsFolderRun}
use Rattle.bw_kept.specs.LeftFolders.{CommittedBooksAreCovered, DoesFewer, KeptServersLeaveDone, EmptyServersHold}
use Rattle.bw_delivery.specs.Lives.{Folder, LiesIn, KeepsDoneNumbers, IsVerdictOf, Life, FollowOn, folder_after}
use Rattle.bw_delivery.specs.Senders.{SenderBefore, SentLife, CameOverLinks, HasVerdict, IsOfRequests}
use Rattle.bw_delivery.specs.Senders.{SendersCountDone}
use Rattle.bw_delivery.proofs.ClosedFiles.{closed_lies}
use Rattle.bw_delivery.proofs.DoneNumbers.{keeps_itself, keeps_on, done_stays}
use Rattle.bw_delivery.proofs.FrameSteps.{HasLogs}
use Rattle.bw_delivery.proofs.LifeLemmas.{LifeLeft, life_left, stop_keeps}

-- a log of which only these requests are is sound for them
only_sound : (requests : List Request) (book : Book) (name : List ℕ) → HasLogs book →
    HasOnly requests (log_of book name) → IsSound requests (log_of book name)
only_sound requests book name logs only = record {
  admitted = only;
  filled = λ k below. at-first_free (log_of book name).admitted k (free k below (is_known book name) refl);
}
  where
    free : (k : ℕ) → k < (log_of book name).done → (v : Bool) → is_known book name ≡ v →
        k < first_free (log_of book name).admitted
    free k below true e = let all = (logs name e).all_done in omega (arith, all, below)
    free k below false e = let none = ap (λ (l : Log). l.done) (unknown_log book name e) in absurd (omega (arith, none, below))

-- a stop admits nothing
only_stops : (requests : List Request) (log : Log) (left : Book) (name : List ℕ) → DoesFewer log (log_of left name) →
    HasOnly requests log → HasOnly requests (log_of (cut_book left) name)
only_stops requests log left name d only n r e =
    only n r (sym (ap (λ (s : List (Option Request)). at s n) same) ∙ there)
  where
    same : (log_of left name).admitted ≡ log.admitted
    same = ap (λ (l : Log). l.admitted) d.is

    there : at (log_of left name).admitted n ≡ Some r
    there = at-take_some (log_of left name).done n (log_of left name).admitted r
        (sym (ap (λ (l : Log). at l.admitted n) (logs_cut left name)) ∙ e)

-- a frame that wasn't kept is one of the requests, or another's
unkept_frame : (s : SenderBefore) (f : Frame) → ((m : Message) → f ≡ Says m → m.name ≡ s.name →
    slice_get s.requests m.number ≡ Some m.request) → IsOneOf s.name s.requests f ⊎ IsOfAnother s.name f
unkept_frame s (Says m) was = go (bytes_eq m.name s.name) refl
  where
    go : (v : Bool) → bytes_eq m.name s.name ≡ v → IsOneOf s.name s.requests (Says m) ⊎ IsOfAnother s.name (Says m)
    go true same = let is = same_name m.name s.name same in inl (is, was m refl is)
    go false off = inr off
unkept_frame s (Asks x n) was = inl tt
unkept_frame s Bye was = inl tt

unkept_frames : (s : SenderBefore) (answered : List Answered) → AllByRecursion (IsOfRequests s) answered →
    AllByRecursion (IsOfEither s.name s.requests) answered
unkept_frames s [] each = tt
unkept_frames s (a ∷ rest) each = (unkept_frame s a.frame each.0, unkept_frames s rest each.1)

module _ {X Y : Type 0} (S : StoreGhosts X) (J : JournalGhosts Y)
    (Fails : List ℕ → Server X Y S J → Server X Y S J → Type 0) (Differs : List ℕ → Server X Y S J → Type 0)
    (stops : KeptServersLeaveDone S J) (begins : EmptyServersHold S J) (covers : CommittedBooksAreCovered S J)
    (limit : ℕ) (first : List ℕ → Option (List ℕ)) (s : SenderBefore) where
  abbrev taken : Bool
  taken = is_some (first s.name)

  abbrev existed : List ℕ → Bool
  existed name = is_some (first name)

  abbrev lives_of : List (SentLife S J Fails Differs) → List (Life S J Fails Differs)
  lives_of sent = map (λ x. x.life) sent

  pub record SentKept (f : Folder) (book : Book) (sent : List (SentLife S J Fails Differs)) : Type 0 where
    pub after : Book
    pub lies : LiesIn limit first after (folder_after S J Fails Differs f (lives_of sent))
    pub only : HasOnly s.requests (log_of after s.name)
    pub kept : KeepsDoneNumbers taken (log_of book s.name) (log_of after s.name)
    pub heard : (x : SentLife S J Fails Differs) → Contains sent x → (n : ℕ) (v : Verdict) →
        HeardOverLinks x.links s.name n v → IsVerdictOf taken (log_of after s.name) n v

  -- one life
  life_sound : (book : Book) (x : SentLife S J Fails Differs)
      (l : LifeLeft S J Fails Differs stops begins covers limit first book x.life) → HasLogs book →
      HasOnly s.requests (log_of book s.name) → CameOverLinks S J Fails Differs s x →
      IsSoundStep taken s.requests s.name (log_of book s.name) (log_of l.turns.later s.name)
      (replies_of (all_answered x.trace))
  life_sound book x l logs only sent =
      folder_sound existed s.requests s.name (failures_of S J x.life.began) (failures_of S J x.life.committed) book
      l.turns.later (all_answered x.trace)
      (subst (λ (xs : List Answered). IsFolderRun existed (failures_of S J x.life.began) (failures_of S J x.life.committed)
      book xs l.turns.later) (sym sent.answered) l.turns.went)
      (only_sound s.requests book s.name logs only)
      (joined_frames s.name s.requests x.links x.trace sent.joined)

  -- what it answered after its last commit
  life_sound_on : (book : Book) (x : SentLife S J Fails Differs)
      (l : LifeLeft S J Fails Differs stops begins covers limit first book x.life) →
      HasOnly s.requests (log_of l.turns.later s.name) → CameOverLinks S J Fails Differs s x →
      HasOnly s.requests (log_of l.turns_on.later s.name)
  life_sound_on book x l only sent =
      (folder_sound existed s.requests s.name (failures_of S J x.life.committed) (failures_of S J x.life.ended) l.turns.later
      l.turns_on.later x.life.unkept l.turns_on.went
      (only_sound s.requests l.turns.later s.name l.turns.held.each.logs only)
      (unkept_frames s x.life.unkept sent.unkept)).sound.admitted

  pub sent_kept : (f : Folder) (book : Book) (sent : List (SentLife S J Fails Differs)) → LiesIn limit first book f →
      HasOnly s.requests (log_of book s.name) → FollowOn S J Fails Differs limit f (lives_of sent) →
      AllByRecursion (CameOverLinks S J Fails Differs s) sent → SentKept f book sent
  sent_kept f book [] lies only went was = record {
    after = book;
    lies = lies;
    only = only;
    kept = keeps_itself taken (log_of book s.name);
    heard = λ x has n v heard. absurd (let below = has.1 in omega (arith, below));
  }
  sent_kept f book (x ∷ sent) lies only went was =
      let l = life_left S J Fails Differs stops begins covers limit first book f x.life lies went.0 in
      let step = life_sound book x l lies.each.logs only was.0 in
      let next : Book = cut_book l.left in
      let on = sent_kept x.life.found next sent l.lies
      (only_stops s.requests (log_of l.turns_on.later s.name) l.left s.name (l.numbers.logs s.name)
      (life_sound_on book x l step.sound.admitted was.0)) went.1 was.1 in
      let later : KeepsDoneNumbers taken (log_of l.turns.later s.name) (log_of on.after s.name) =
      keeps_on taken (log_of l.turns.later s.name) (log_of next s.name) (log_of on.after s.name)
      (stop_keeps S J Fails Differs stops begins covers limit first book x.life l s.name) on.kept in
      let d : IsDelivered existed s.name s.requests (HeardOverLinks x.links s.name) (log_of l.turns.later s.name)
      l.turns.later = delivered_by existed s.name s.requests x.links l.turns.later x.trace was.0.joined step in
      record {
        after = on.after;
        lies = on.lies;
        only = on.only;
        kept = keeps_on taken (log_of book s.name) (log_of l.turns.later s.name) (log_of on.after s.name)
            (l.turns.kept s.name) later;
        heard = heard (log_of l.turns.later s.name) (log_of on.after s.name) later d.verdicts on.heard;
      }
    where
      heard : (mid last : Log) → KeepsDoneNumbers taken mid last →
          ((n : ℕ) (v : Verdict) → HeardOverLinks x.links s.name n v → IsVerdictOf taken mid n v) →
          ((y : SentLife S J Fails Differs) → Contains sent y → (n : ℕ) (v : Verdict) →
          HeardOverLinks y.links s.name n v → IsVerdictOf taken last n v) →
          (y : SentLife S J Fails Differs) → Contains (x ∷ sent) y → (n : ℕ) (v : Verdict) →
          HeardOverLinks y.links s.name n v → IsVerdictOf taken last n v
      heard mid last later here rest y (zero, below, e) n v h =
          done_stays taken mid last later n v
          (here n v (subst (λ (z : SentLife S J Fails Differs). HeardOverLinks z.links s.name n v) (sym e) h))
      heard mid last later here rest y (suc k, below, e) n v h = rest y (k, omega (arith, below), e) n v h

-- once it has that each request is stored
module _ (existed : List ℕ → Bool) (name : List ℕ) (requests : List Request) (after : Book)
    (Has : ℕ → Verdict → Type 0) (d : IsDelivered existed name requests Has (log_of after name) after)
    (sound : IsSound requests (log_of after name)) (stored : (n : ℕ) → n < length requests → Has n Stored) where
  all_there : ((log_of after name).done ≡ length requests)
      × (take_in (existed name) after name ≡ made_by (existed name) requests)
  all_there = all_made (existed name) name requests after d.within d.made (λ n below. (d.verdicts n Stored (stored n below)).0)

  are_stored : IsWholeTake (existed name) requests (log_of after name)
  are_stored = whole_take (existed name) requests (log_of after name) sound all_there.0
      (λ n below. (d.verdicts n Stored (stored n below)).1)

  -- one of which is a CLOSE
  module _ (any : list_any is_close requests ≡ true) where
    free : existed name ≡ false
    free = not_taken (existed name) requests are_stored.stored any

    made_is : made_by (existed name) requests ≡ made_by false requests
    made_is = ap (λ (v : Bool). made_by v requests) free

    take_closed : (take_in (existed name) after name).closed ≡ true
    take_closed =
        ap (λ (t : Take). t.closed) (all_there.1 ∙ made_is)
        ∙ stored_closes (new_take false) requests
        (subst (λ (v : Bool). AreStored (new_take v) requests) free are_stored.stored) any

pub senders_count : {X Y : Type 0} (S : StoreGhosts X) (J : JournalGhosts Y)
    (Fails : List ℕ → Server X Y S J → Server X Y S J → Type 0) (Differs : List ℕ → Server X Y S J → Type 0) →
    KeptServersLeaveDone S J → EmptyServersHold S J → CommittedBooksAreCovered S J → SendersCountDone S J Fails Differs
senders_count S J Fails Differs stops begins covers limit first book f s sent lies named was went sent_so =
    let k = sent_kept S J Fails Differs stops begins covers limit first s f book sent lies was.only went sent_so in
    let existed : List ℕ → Bool = λ name. is_some (first name) in
    let log : Log = log_of k.after s.name in
    let sound : IsSound s.requests log = only_sound s.requests k.after s.name k.lies.each.logs k.only in
    let Has : ℕ → Verdict → Type 0 = HasVerdict S J Fails Differs s sent in
    let d : IsDelivered existed s.name s.requests Has log k.after = record {
      within = within_requests s.requests log sound;
      prefix = prefix_of_requests s.requests log sound;
      made = made_of_requests (existed s.name) s.requests log sound;
      verdicts = λ n v has. elim has [
        | inl had ↦ done_stays (existed s.name) (log_of book s.name) log k.kept n v (was.kept n v had)
        | inr x ↦ k.heard x.0 x.1 n v x.2
      ];
    } in
    record {
      after = k.after;
      lies = k.lies;
      its_log = record { only = k.only; kept = d.verdicts };
      its_take = record { within = d.within; first = d.prefix; is_made = d.made };
      whole = λ stored. (all_there existed s.name s.requests k.after Has d sound stored).1;
      closed = λ stored any.
          closed_lies limit first k.after (folder_after S J Fails Differs f (map (λ x. x.life) sent)) s.name
          (k.lies.names s.name named) (take_closed existed s.name s.requests k.after Has d sound stored any)
          ∙ ap (λ (t : Take). file_of t limit) ((all_there existed s.name s.requests k.after Has d sound stored).1
          ∙ made_is existed s.name s.requests k.after Has d sound stored any);
    }

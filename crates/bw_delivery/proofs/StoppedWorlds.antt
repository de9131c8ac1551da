-- Worlds stay faithful where servers stop within turns.
use Rattle.std.proofs.Common.{◌≡◌, ◌⊎◌, inl, inr, ℕ, suc, ◌<◌, ◌≤◌, Bool, true, false, List, [], ◌∷◌, Option, Some, None}
use Rattle.std.proofs.Common.{◌++◌, is_some, refl, sym, ◌∙◌, ap, subst, arith}
use Rattle.std.proofs.lemmas.Bool.{cases_lt}
use Rattle.bw_model.specs.Bytes.{at}
use Rattle.bw_model.specs.Take.{Request}
use Rattle.bw_model.specs.Wire.{Frame, Says, Asks, Bye}
use Rattle.bw_model.specs.Replies.{Reply, Judged}
use Rattle.bw_model.specs.Book.{Log, Book, log_of}
use Rattle.bw_model.specs.CountedTurn.{is_pending}
use Rattle.bw_model.specs.World.{World, happens, new_world}
use Rattle.bw_model.proofs.Elements.{Each, each-append, each-map, each-get}
use Rattle.bw_model.proofs.TrueReplies.{IsSound, Grows, IsTrueReply}
use Rattle.bw_model.proofs.SenderSteps.{WasOffered, IsKept}
use Rattle.bw_model.proofs.WorldLaws.{event_true, faithful, start}
use Rattle.bw_journal.specs.Stops.{cut_log, cut_book}
use Rattle.bw_journal.proofs.CutLaws.{at-take, at-take_some, verdict-cut, logs_cut}
use Rattle.std.proofs.Common.{append_assoc}
use Rattle.std.proofs.lemmas.List.{append-nil}
use Rattle.bw_exchange.specs.AnsweredFrames.{Answered, replies_of}
use Rattle.bw_kept.specs.LeftFolders.{DoesFewer, LeavesAtLeast}
use Rattle.bw_delivery.specs.StoppedWorlds.{WorldStep, Happens, Answers, Stops, Starts, MayCome, MayComeEach, TurnsInFolder}
use Rattle.bw_delivery.specs.StoppedWorlds.{RunsInFolder, WorldStepsTo, StoppedWorldsAreFaithful}
use Rattle.bw_delivery.proofs.FaithfulFrames.{MayBeOf, folder_frame}

-- what is sound stays so if the log is cut
sound_cut : (offered : List Request) (log : Log) → IsSound offered log → IsSound offered (cut_log log)
sound_cut offered log h = record {
  admitted = λ n r e. h.admitted n r (at-take_some log.done n log.admitted r e);
  filled = λ k below. let x = h.filled k below in (x.0, at-take log.done k log.admitted below ∙ x.1);
}

-- a log that is cut has its verdicts
grows_cut : (taken : Bool) (log : Log) → Grows taken log (cut_log log)
grows_cut taken log = record {
  done = omega arith;
  verdicts = λ n below. verdict-cut taken log.admitted log.done n below;
}

none_true : false ≡ true → ⊥
none_true e = cc

-- the number that waits was admitted
waiting : (o : Option Request) → is_some o ≡ true → (r : Request) × (o ≡ Some r)
waiting None e = absurd (none_true e)
waiting (Some r) e = (r, refl)

-- what is sound stays so where the first numbers are done
sound_first : (offered : List Request) (log left : Log) → DoesFewer log left → IsSound offered log → IsSound offered left
sound_first offered log left d h =
    subst (IsSound offered) (sym d.is) (record { admitted = h.admitted; filled = λ k below. filled k below d.most })
  where
    filled : (k : ℕ) → k < d.kept → (d.kept ≤ log.done) ⊎ ((is_pending log ≡ true) × (d.kept ≡ suc log.done)) →
        (r : Request) × (at log.admitted k ≡ Some r)
    filled k below (inl few) = h.filled k (omega (arith, below, few))
    filled k below (inr (waits, is)) = go (cases_lt k log.done)
      where
        go : (k < log.done) ⊎ (log.done ≤ k) → (r : Request) × (at log.admitted k ≡ Some r)
        go (inl under) = h.filled k under
        go (inr over) =
            let same : log.done ≡ k = omega (arith, below, is, over) in
            let x = waiting (at log.admitted log.done) waits in
            (x.0, ap (at log.admitted) (sym same) ∙ x.1)

-- and such a log has the verdicts of an earlier one, if it has its done numbers
grows_first : (taken : Bool) (old log left : Log) → DoesFewer log left → old.done ≤ left.done → Grows taken old log →
    Grows taken old left
grows_first taken old log left d least g =
    let e : left.done ≡ d.kept = ap (λ (l : Log). l.done) d.is in
    subst (Grows taken old) (sym d.is) (record { done = omega (arith, least, e); verdicts = g.verdicts })

grows_then : (taken : Bool) (a b c : Log) → Grows taken a b → Grows taken b c → Grows taken a c
grows_then taken a b c f g =
    let first = f.done in
    let second = g.done in
    record {
      done = omega (arith, first, second);
      verdicts = λ n below. g.verdicts n (omega (arith, first, below)) ∙ f.verdicts n below;
    }

module _ (existed : List ℕ → Bool) (w : World) (k : IsKept existed w) where
  abbrev old : Log
  old = log_of w.book w.sender.name

  -- the sender's part of a world stays true if its log grows
  grown : (left : Book) → IsSound w.sender.offered (log_of left w.sender.name) →
      Grows (existed w.sender.name) old (log_of left w.sender.name) → IsKept existed (record w { book = left })
  grown left sound g =
      let more : old.done ≤ (log_of left w.sender.name).done = g.done in
      record {
        sound = sound;
        were = each-map (WasOffered w.sender.name w.sender.offered old.done)
            (WasOffered w.sender.name w.sender.offered (log_of left w.sender.name).done) w.sent
            (λ m h. record { own = h.own; was = h.was; near = (let n = h.near in omega (arith, n, more)) }) k.were;
        reported = each-map (IsTrueReply (existed w.sender.name) w.sender.name old)
            (IsTrueReply (existed w.sender.name) w.sender.name (log_of left w.sender.name)) w.replies
            (λ r h. record {
              judged = λ n v e. let x = h.judged n v e in let below : n < old.done = x.0 in (
                (let b : n < (log_of left w.sender.name).done = omega (arith, below, more) in b),
                x.1 ∙ sym (g.verdicts n below),
              );
              welcome = h.welcome;
            }) k.reported;
        known = λ n v e. let x = k.known n v e in let below : n < old.done = x.0 in (
          (let b : n < (log_of left w.sender.name).done = omega (arith, below, more) in b),
          x.1 ∙ sym (g.verdicts n below),
        );
        near = k.near;
      }

  -- by a log that is one of another book
  by_log : (left : Book) (log : Log) → log_of left w.sender.name ≡ log → IsSound w.sender.offered log →
      Grows (existed w.sender.name) old log → IsKept existed (record w { book = left })
  by_log left log is sound g =
      grown left (subst (IsSound w.sender.offered) (sym is) sound)
      (subst (λ (l : Log). Grows (existed w.sender.name) old l) (sym is) g)

  cut_kept : IsKept existed (record w { book = cut_book w.book })
  cut_kept =
      by_log (cut_book w.book) (cut_log old) (logs_cut w.book w.sender.name) (sound_cut w.sender.offered old k.sound)
      (grows_cut (existed w.sender.name) old)

-- a reply that is true stays so if the log grows
grown_reply : (taken : Bool) (name : List ℕ) (old new : Log) → Grows taken old new → (r : Reply) →
    IsTrueReply taken name old r → IsTrueReply taken name new r
grown_reply taken name old new g r h = record {
  judged = λ n v e. let x = h.judged n v e in
      let below : n < old.done = x.0 in
      let more = g.done in
      ((let b : n < new.done = omega (arith, below, more) in b), x.1 ∙ sym (g.verdicts n below));
  welcome = h.welcome;
}

-- what may come to the server is one of what was offered, or another's
may_be_of : (existed : List ℕ → Bool) (w : World) (f : Frame) → IsKept existed w → MayCome w f →
    MayBeOf w.sender.name w.sender.offered (log_of w.book w.sender.name) f
may_be_of existed w (Says m) kept (inl (k, e)) =
    let h = each-get (WasOffered w.sender.name w.sender.offered (log_of w.book w.sender.name).done) w.sent k m kept.were e in
    inl (h.own, h.was, h.near)
may_be_of existed w (Says m) kept (inr other) = inr other
may_be_of existed w (Asks x n) kept may = tt
may_be_of existed w Bye kept may = tt

-- the turn of a frame that may come
comes_kept : (existed : List ℕ → Bool) (w : World) (f : Frame) (replies : List Reply) (later : Book) →
    IsKept existed w → MayCome w f → TurnsInFolder existed w.book f replies later →
    IsKept existed (record w { book = later; replies = w.replies ++ replies })
comes_kept existed w f replies later k may turns =
    let name = w.sender.name in
    let old : Log = log_of w.book name in
    let new : Log = log_of later name in
    let step = folder_frame existed w.sender.offered name w.book later f replies k.sound (may_be_of existed w f k may) turns in
    let more : old.done ≤ new.done = step.grows.done in
    record {
      sound = step.sound;
      were = each-map (WasOffered name w.sender.offered old.done) (WasOffered name w.sender.offered new.done) w.sent
          (λ m h. record { own = h.own; was = h.was; near = (let n = h.near in omega (arith, n, more)) }) k.were;
      reported = each-append (IsTrueReply (existed name) name new) w.replies replies
          (each-map (IsTrueReply (existed name) name old) (IsTrueReply (existed name) name new) w.replies
          (grown_reply (existed name) name old new step.grows) k.reported) step.reported;
      known = λ n v e. let x = k.known n v e in let below : n < old.done = x.0 in
          ((let b : n < new.done = omega (arith, below, more) in b), x.1 ∙ sym (step.grows.verdicts n below));
      near = k.near;
    }

-- its log grows
comes_grows : (existed : List ℕ → Bool) (w : World) (f : Frame) (replies : List Reply) (later : Book) →
    IsKept existed w → MayCome w f → TurnsInFolder existed w.book f replies later →
    Grows (existed w.sender.name) (log_of w.book w.sender.name) (log_of later w.sender.name)
comes_grows existed w f replies later k may turns =
    (folder_frame existed w.sender.offered w.sender.name w.book later f replies k.sound (may_be_of existed w f k may)
    turns).grows

-- what may come may still, once other frames were answered
may_still : (w : World) (book : Book) (replies : List Reply) (f : Frame) → MayCome w f →
    MayCome (record w { book = book; replies = replies }) f
may_still w book replies (Says m) may = may
may_still w book replies (Asks x n) may = tt
may_still w book replies Bye may = tt

may_each : (w : World) (book : Book) (replies : List Reply) (answered : List Answered) → MayComeEach w answered →
    MayComeEach (record w { book = book; replies = replies }) answered
may_each w book replies [] may = tt
may_each w book replies (a ∷ rest) may = (may_still w book replies a.frame may.0, may_each w book replies rest may.1)

-- the turns of frames that may come
record ComesEach (existed : List ℕ → Bool) (w : World) (answered : List Answered) (later : Book) : Type 0 where
  kept : IsKept existed (record w { book = later; replies = w.replies ++ replies_of answered })
  grows : Grows (existed w.sender.name) (log_of w.book w.sender.name) (log_of later w.sender.name)

comes_each : (existed : List ℕ → Bool) (w : World) (answered : List Answered) (later : Book) → IsKept existed w →
    MayComeEach w answered → RunsInFolder existed w.book answered later → ComesEach existed w answered later
comes_each existed w [] later k may same = record {
  kept = subst (λ (b : Book). IsKept existed (record w { book = b; replies = w.replies ++ [] })) (sym same)
      (subst (λ (rs : List Reply). IsKept existed (record w { replies = rs })) (sym (append-nil w.replies)) k);
  grows = subst (λ (b : Book). Grows (existed w.sender.name) (log_of w.book w.sender.name) (log_of b w.sender.name))
      (sym same) (record { done = omega arith; verdicts = λ n below. refl });
}
comes_each existed w (a ∷ rest) later k may (mid, turn, more) =
    let next : World = record w { book = mid; replies = w.replies ++ a.replies } in
    let on = comes_each existed next rest later (comes_kept existed w a.frame a.replies mid k may.0 turn)
    (may_each w mid (w.replies ++ a.replies) rest may.1) more in
    record {
      kept = subst (λ (rs : List Reply). IsKept existed (record w { book = later; replies = rs }))
          (append_assoc w.replies a.replies (replies_of rest)) on.kept;
      grows = grows_then (existed w.sender.name) (log_of w.book w.sender.name) (log_of mid w.sender.name)
          (log_of later w.sender.name) (comes_grows existed w a.frame a.replies mid k may.0 turn) on.grows;
    }

-- a server stops after these
stops_kept : (existed : List ℕ → Bool) (w : World) (answered : List Answered) (later left : Book) → IsKept existed w →
    MayComeEach w answered → RunsInFolder existed w.book answered later → LeavesAtLeast w.book later left →
    IsKept existed (record w { book = left })
stops_kept existed w answered later left k may runs leaves =
    let name = w.sender.name in
    let on = comes_each existed w answered later k may runs in
    let d = leaves.numbers.logs name in
    grown existed w k left (sound_first w.sender.offered (log_of later name) (log_of left name) d on.kept.sound)
    (grows_first (existed name) (log_of w.book name) (log_of later name) (log_of left name) d (leaves.done name) on.grows)

-- each step keeps the sender's part true
steps_kept : (existed : List ℕ → Bool) (w : World) (steps : List WorldStep) (later : World) → IsKept existed w →
    WorldStepsTo existed w steps later → IsKept existed later
steps_kept existed w [] later kept same = subst (IsKept existed) (sym same) kept
steps_kept existed w (Happens e faults ∷ ss) later kept (next, more) =
    steps_kept existed (happens existed w e faults) ss later (event_true existed w e faults kept) more
steps_kept existed w (Answers answered after ∷ ss) later kept (next, more) =
    steps_kept existed (record w { book = after; replies = w.replies ++ replies_of answered }) ss later
    (comes_each existed w answered after kept next.0 next.1).kept more
steps_kept existed w (Stops answered after left ∷ ss) later kept (next, more) =
    steps_kept existed (record w { book = left }) ss later
    (stops_kept existed w answered after left kept next.0 next.1 next.2) more
steps_kept existed w (Starts ∷ ss) later kept (next, more) =
    steps_kept existed (record w { book = cut_book w.book }) ss later (cut_kept existed w kept) more

pub stopped_worlds : StoppedWorldsAreFaithful
stopped_worlds existed name steps later went =
    let k = steps_kept existed (new_world name) steps later (start existed name) went in (
      faithful existed later k,
      λ i n v e.
          (each-get (IsTrueReply (existed later.sender.name) later.sender.name (log_of later.book later.sender.name))
          later.replies i (Judged later.sender.name n v) k.reported e).judged n v refl,
    )

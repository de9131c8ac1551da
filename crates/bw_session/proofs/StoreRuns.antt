-- What a run leaves in the store.
use Rattle.std.proofs.Common.{◌≡◌, ℕ, ◌+◌, ◌*◌, ◌≤◌, ◌<◌, Bool, List, [], Some, None, refl, sym, ◌∙◌, ap}
use Rattle.std.proofs.Common.{subst, inl, inr, arith}
use Rattle.std.specs.Prelude.{IsTrue, is_some, map}
use Rattle.bw_model.specs.Book.{Book}
use Rattle.bw_model.specs.Counts.{last_count}
use Rattle.bw_model.specs.Holds.{Kept, Holds}
use Rattle.bw_model.specs.Wire.{Frame}
use Rattle.bw_model.specs.Exchange.{content_in, replies_bytes, exchanges}
use Rattle.bw_model.specs.Turn.{book_after}
use Rattle.bw_model.specs.NumberOrder.{AreInOrder}
use Rattle.bw_model.proofs.BookLaws.{empty_book}
use Rattle.bw_model.proofs.HeldFiles.{held_files}
use Rattle.bw_store.specs.declared.store.TakeStore.{Ghosts as StoreGhosts}
use Rattle.bw_journal.specs.declared.journal.Journal.{Ghosts as JournalGhosts}
use Rattle.bw_session.specs.Books.{failures_of, HoldsBook}
use Rattle.bw_session.specs.NextNumbers.{failed_calls}
use Rattle.bw_session.specs.Servers.{kept_in, store_since}
use Rattle.bw_session.specs.declared.server.Server.{Server}
use Rattle.bw_exchange.specs.AnsweredFrames.{Answered, AnswersAll}
use Rattle.bw_session.specs.ServerTurns.{ServerTurn}
use Rattle.bw_exchange.specs.TurnRuns.{IsRun, run_without_faults}
use Rattle.bw_session.specs.ServerRuns.{all_done}
use Rattle.bw_session.specs.IngestRuns.{answered_in, LeavesRun, WentThrough, Ingests, IngestsInPart, input_bytes}
use Rattle.bw_session.specs.IngestRuns.{GoWell, RunsAsDefined, ingested_end, input_frames, IsShort, ReportsNoFailure}
use Rattle.bw_session.specs.declared.ingest.Run.{Run}
use Rattle.std.specs.List.{AllByRecursion}
use Rattle.bw_session.proofs.InputSteps.{none_first}
use Rattle.bw_session.proofs.ServedRuns.{servers_run}
use Rattle.bw_exchange.proofs.GoodRuns.{in_order_well, good_run}
use Rattle.bw_session.proofs.GoodExchanges.{frames_answered, none_wanted, exchanges_well}

-- the calls of a store whose failures alone are counted
store_calls : (failures failures' calls calls' done : ℕ) → failed_calls failures 0 ≤ failed_calls failures' 0 →
    (failed_calls failures' 0 < last_count →
    calls' + 4 * (0 + failed_calls failures 0) ≤ calls + 4 * (done + failed_calls failures' 0)) →
    failures' < last_count → calls' + 4 * failures ≤ calls + 4 * (done + failures')
store_calls failures failures' calls calls' done up few below =
    let same' : failed_calls failures' 0 ≡ failures' = omega (arith, below) in
    let same : failed_calls failures 0 ≡ failures = omega (arith, below, up, same') in
    let bound = few (omega (arith, same', below)) in
    omega (arith, same, same', bound)

module _ {X : Type 0} (S : StoreGhosts X) where
  -- of an empty run
  empty_held : (limit : ℕ) (store : X) → Holds limit (store_since S (S.contents store) store) (λ n. None) []
  empty_held limit store = record {
    is_book = empty_book;
    names = λ n. refl;
    each = λ n k e. absurd (no_kept e);
    others = λ honest n which. refl;
    theirs = λ honest n k e existed. absurd (no_kept e);
    files = λ honest n k e new. absurd (no_kept e);
  }
    where
      no_kept : {k : Kept} → None ≡ Some k → ⊥
      no_kept e = cc

  pub leaves_nothing : (limit : ℕ) (store : X) → IsTrue (S.honest store) → LeavesRun S limit store [] store
  leaves_nothing limit store honest = record {
    book = [];
    run = (refl, refl);
    calls = λ below. omega arith;
    kept_of = λ n. None;
    held = empty_held limit store;
    files = λ n which. held_files limit (store_since S (S.contents store) store) (λ k. None) []
        (empty_held limit store) honest n which;
  }

  -- what a server answers leaves the store as honest as it was
  pub honest_still : {Y : Type 0} (J : JournalGhosts Y) (store : X) (old new : Server X Y S J)
      (answered : List Answered) → old.stores.store ≡ store → AnswersAll (ServerTurn S J) old answered new →
      S.honest new.stores.store ≡ S.honest store
  honest_still J store old new answered begun h =
      (servers_run S J old new answered h).honest ∙ ap S.honest begun

  -- a run of a server that began with this store
  module _ {Y : Type 0} (J : JournalGhosts Y) (quiet : (y : Y) → J.failures y ≡ 0) (limit : ℕ) (store : X)
      (old new : Server X Y S J) (begun : old.stores.store ≡ store) (limited : old.limit ≡ limit)
      (empty : HoldsBook S J (S.contents store) old []) (honest : IsTrue (S.honest store)) where
    pub leaves_run : (answered : List Answered) → AnswersAll (ServerTurn S J) old answered new →
        LeavesRun S limit store answered new.stores.store
    leaves_run answered h =
        let r = servers_run S J old new answered h in
        let was_honest = ap S.honest begun ∙ honest in
        let x = r.runs was_honest (S.contents store) [] empty in
        let count : failures_of S J old ≡ failed_calls (S.failures store) 0 =
        ap (λ (n : ℕ). failed_calls (S.failures old.stores.store) n) (quiet old.stores.journal)
        ∙ ap (λ (s : X). failed_calls (S.failures s) 0) begun in
        let count' : failures_of S J new ≡ failed_calls (S.failures new.stores.store) 0 =
        ap (λ (n : ℕ). failed_calls (S.failures new.stores.store) n) (quiet new.stores.journal) in
        let held = subst (λ (n : ℕ). Holds n (store_since S (S.contents store) new.stores.store)
        (kept_in new.sessions) x.later) (r.limit ∙ limited) x.held.holds in
        record {
          book = x.later;
          run = subst (λ (n : ℕ). IsRun (λ name. is_some (S.contents store name)) n
              (failed_calls (S.failures new.stores.store) 0) [] answered x.later) count
              (subst (λ (n : ℕ). IsRun (λ name. is_some (S.contents store name)) (failures_of S J old) n [] answered
              x.later) count' x.went);
          calls = store_calls (S.failures store) (S.failures new.stores.store) (S.calls store) (S.calls new.stores.store)
              (all_done x.later)
              (subst (λ (n : ℕ). n ≤ failed_calls (S.failures new.stores.store) 0) count
              (subst (λ (n : ℕ). failures_of S J old ≤ n) count' r.no_less))
              (subst (λ (s : X). failed_calls (S.failures new.stores.store) 0 < last_count →
              S.calls new.stores.store + 4 * (0 + failed_calls (S.failures store) 0)
              ≤ S.calls s + 4 * (all_done x.later + failed_calls (S.failures new.stores.store) 0)) begun
              (subst (λ (n : ℕ). failed_calls (S.failures new.stores.store) 0 < last_count →
              S.calls new.stores.store + 4 * (0 + n)
              ≤ S.calls old.stores.store + 4 * (all_done x.later + failed_calls (S.failures new.stores.store) 0)) count
              (subst (λ (n : ℕ). n < last_count → S.calls new.stores.store + 4 * (0 + failures_of S J old)
              ≤ S.calls old.stores.store + 4 * (all_done x.later + n)) count' x.calls)));
          kept_of = kept_in new.sessions;
          held = held;
          files = λ n which. held_files limit (store_since S (S.contents store) new.stores.store)
              (kept_in new.sessions) x.later held (r.honest ∙ was_honest) n which;
        }

  -- a server that began with this store answered these frames, and its store is the one that is left
  pub runs_through : {Y : Type 0} (J : JournalGhosts Y) (quiet : (y : Y) → J.failures y ≡ 0) (limit : ℕ)
      (store after : X) (old new : Server X Y S J) → old.stores.store ≡ store → old.limit ≡ limit →
      HoldsBook S J (S.contents store) old [] → (answered : List Answered) →
      AnswersAll (ServerTurn S J) old answered new → after ≡ new.stores.store →
      WentThrough S J limit store answered after × (IsTrue (S.honest store) → LeavesRun S limit store answered after)
  runs_through J quiet limit store after old new begun limited empty answered h left = (
    record {
      server = old;
      store_is = begun;
      limit_is = limited;
      new = empty;
      following = new;
      by_server = h;
      left = left;
    },
    λ honest. subst (LeavesRun S limit store answered) (sym left)
        (leaves_run J quiet limit store old new begun limited empty honest answered h),
  )

  pub ingests_nothing : {Y : Type 0} (J : JournalGhosts Y) (limit : ℕ) (store : X) (inputs : List (List ℕ)) →
      IngestsInPart S J limit store inputs store
  ingests_nothing J limit store inputs = record {
    went = [];
    next = [];
    are = record { left = inputs; inputs_are = refl; each = tt; first = none_first inputs };
    store = inr (refl, refl);
    leaves = λ honest. leaves_nothing limit store honest;
  }

  -- inputs in order are served as the definitions' exchanges
  pub ingests_well : {Y : Type 0} (J : JournalGhosts Y) (limit : ℕ) (before : X) (inputs : List (List ℕ)) (run : Run X) →
      Ingests S J limit before inputs run → IsTrue (S.honest before) →
      GoWell inputs (input_bytes run.replies.items) → RunsAsDefined S limit before inputs run
  ingests_well J limit before inputs run h honest well =
      let existed : List ℕ → Bool = λ n. is_some (S.contents before n) in
      let leaves = h.leaves honest in
      let short = subst (AllByRecursion IsShort) (sym h.are.inputs_are) well.short in
      let reported = subst (AllByRecursion ReportsNoFailure) (sym h.are.written_is) well.no_want in
      let frames = frames_answered h.went h.are.each short ∙ ap input_frames h.are.inputs_are in
      let near = subst (AreInOrder []) (sym frames) well.in_order in
      let x = in_order_well existed _ _ (answered_in h.went) leaves.book leaves.run near
      (none_wanted h.went h.are.each short reported) in
      let alike = exchanges_well existed [] h.went leaves.book h.are.each short x.0 in
      let left = ap (λ (fs : List Frame). book_after existed [] (run_without_faults fs)) (sym frames)
      ∙ (good_run existed [] (answered_in h.went) leaves.book x.0).left in
      record {
        replies = sym h.are.written_is ∙ alike.written
            ∙ ap (λ (is : List (List ℕ)). map (λ x. replies_bytes x.replies) (exchanges existed [] is)) h.are.inputs_are;
        ends_are = ap (map ingested_end) (sym h.are.ends_are) ∙ alike.ends
            ∙ ap (λ (is : List (List ℕ)). map (λ x. Some x.end) (exchanges existed [] is)) h.are.inputs_are;
        files = λ n. leaves.files n (inl (x.1 n))
            ∙ ap (λ (b : Book). content_in (S.contents before) limit b n) (sym left);
      }

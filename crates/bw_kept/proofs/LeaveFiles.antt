-- What a run over a folder leaves of each file.
use Rattle.std.proofs.Common.{◌≡◌, ◌⊎◌, inl, inr, ℕ, ◌<◌, Bool, true, false, Option, Some, None, is_some, List, [], ◌∷◌}
use Rattle.std.proofs.Common.{refl, sym, ◌∙◌, ap, subst, arith}
use Rattle.std.specs.Prelude.{IsTrue}
use Rattle.std.specs.Bool.{MatchBool}
use Rattle.bw_model.specs.Book.{Log, Book, log_of, is_known, made}
use Rattle.bw_model.specs.CountedTurn.{is_pending}
use Rattle.bw_model.specs.Exchange.{take_in, content_in}
use Rattle.bw_model.specs.File.{file_of}
use Rattle.bw_model.specs.Wire.{is_name}
use Rattle.bw_model.proofs.HeldFiles.{held_files}
use Rattle.bw_store.specs.declared.store.TakeStore.{Ghosts as StoreGhosts}
use Rattle.bw_journal.specs.declared.journal.Journal.{Ghosts as JournalGhosts}
use Rattle.bw_journal.proofs.ClosedForms.{closed_done}
use Rattle.bw_exchange.specs.AnsweredFrames.{Answered, AnswersAll}
use Rattle.bw_session.specs.Servers.{kept_in, store_since}
use Rattle.bw_session.specs.declared.server.Server.{Server}
use Rattle.bw_recovery.specs.Left.{IsLeftFile, IsLeftOpen}
use Rattle.bw_kept.specs.KeptFolders.{HoldsKept, LiesInFolder}
use Rattle.bw_kept.specs.KeptTurns.{KeptTurn}
use Rattle.bw_kept.specs.LeftFolders.{KeptServersLeaveDone}
use Rattle.bw_kept.specs.RunLeavings.{RunsLeaveFiles}
use Rattle.bw_kept.proofs.KeepRuns.{runs_keep_on, honest_then}
use Rattle.bw_kept.proofs.KeptForms.{never}

-- the file that is to stand, by what stood first and by the log
abbrev file_by : Option (List ℕ) → ℕ → Log → Option (List ℕ)
file_by (Some bytes) limit log = Some bytes
file_by None limit log = file_of (made false log.admitted log.done) limit

file_by_is : (first : List ℕ → Option (List ℕ)) (limit : ℕ) (book : Book) (name : List ℕ) →
    file_by (first name) limit (log_of book name) ≡ content_in first limit book name
unfolding made
file_by_is first limit book name = go (first name)
  where
    go : (o : Option (List ℕ)) → file_by o limit (log_of book name)
        ≡ elim o [ Some bytes ↦ Some bytes | None ↦ file_of (take_in false book name) limit ]
    go (Some bytes) = refl
    go None = refl

closed_file : (b : Bool) (A B : Type 0) → b ≡ true → MatchBool b A B → A
closed_file true A B e h = h
closed_file false A B e h = never e

-- what lies there of a closed take is its file
closed_lies : (limit : ℕ) (first : Option (List ℕ)) (name : List ℕ) (log : Log) (journal file : Option (List ℕ)) →
    (made false log.admitted log.done).closed ≡ true → LiesInFolder limit first name log journal file →
    file ≡ file_by first limit log
closed_lies limit first name log journal file closed lies = go journal lies
  where
    some : 0 < log.done
    some = let least = closed_done log.admitted log.done closed in omega (arith, least)

    none : {A : Type 0} → log.done ≡ 0 → A
    none e = absurd (omega (arith, some, e))

    of_first : (o : Option (List ℕ)) → IsLeftFile o (made (is_some o) log.admitted log.done) limit file →
        file ≡ file_by o limit log
    of_first (Some bytes) left = left
    of_first None left =
        closed_file (made false log.admitted log.done).closed (file ≡ file_of (made false log.admitted log.done) limit)
        (IsLeftOpen (made false log.admitted log.done) (made false log.admitted log.done).format file) closed left

    go : (o : Option (List ℕ)) → LiesInFolder limit first name log o file → file ≡ file_by first limit log
    go None (inl left) = none left.0
    go (Some bytes) (inl (inl left)) = of_first first left.file
    go (Some bytes) (inl (inr left)) = none left.none
    go o (inr faulty) = none faulty.none

-- the log's take is whole
abbrev IsQuiet : Log → Type 0
IsQuiet log = (is_pending log ≡ false) ⊎ ((made false log.admitted log.done).closed ≡ true)

module _ {X Y : Type 0} (S : StoreGhosts X) (J : JournalGhosts Y) where
  table_file : (first : List ℕ → Option (List ℕ)) (s : Server X Y S J) (book : Book) (h : HoldsKept S J first s book) →
      IsTrue (S.honest s.stores.store) → (name : List ℕ) → is_known h.table name ≡ true → IsQuiet (log_of book name) →
      S.contents s.stores.store name ≡ content_in first s.limit book name
  table_file first s book h honest name known quiet =
      let there = h.inside name known in
      held_files s.limit (store_since S h.now s.stores.store) (kept_in s.sessions) h.table h.held.holds honest name
      (subst IsQuiet there.same_log quiet)
      ∙ sym (file_by_is h.now s.limit h.table name)
      ∙ ap (λ (l : Log). file_by (h.now name) s.limit l) (sym there.same_log)
      ∙ ap (λ (o : Option (List ℕ)). file_by o s.limit (log_of book name)) there.same_first
      ∙ file_by_is first s.limit book name

  closed_there : (first : List ℕ → Option (List ℕ)) (s : Server X Y S J) (book : Book) (h : HoldsKept S J first s book) →
      IsTrue (S.honest s.stores.store) → (name : List ℕ) → IsTrue (is_name name) →
      (made false (log_of book name).admitted (log_of book name).done).closed ≡ true →
      S.contents s.stores.store name ≡ content_in first s.limit book name
  closed_there first s book h honest name named closed = go (is_known h.table name) refl
    where
      go : (v : Bool) → is_known h.table name ≡ v → S.contents s.stores.store name ≡ content_in first s.limit book name
      go true known = table_file first s book h honest name known (inr closed)
      go false unknown =
          closed_lies s.limit (first name) name (log_of book name) (J.notes s.stores.journal name)
          (S.contents s.stores.store name) closed (h.outside name named unknown (J.notes s.stores.journal name) (inl refl)).lies
          ∙ file_by_is first s.limit book name

  module _ (Fails : List ℕ → Server X Y S J → Server X Y S J → Type 0) (Differs : List ℕ → Server X Y S J → Type 0) where
    -- store and journal stay as honest as they were
    stays : (old new : Server X Y S J) (answered : List Answered) → AnswersAll (KeptTurn S J Fails Differs) old answered new →
        (S.honest new.stores.store ≡ S.honest old.stores.store)
        × (J.honest new.stores.journal ≡ J.honest old.stores.journal)
    stays old new [] same = (
      ap (λ (s : Server X Y S J). S.honest s.stores.store) same,
      ap (λ (s : Server X Y S J). J.honest s.stores.journal) same,
    )
    stays old new (a ∷ rest) (mid, t, more) =
        let r = stays mid new rest more in
        let one = honest_then S J Fails Differs old mid a.frame a.replies t in (r.0 ∙ one.0, r.1 ∙ one.1)

    pub runs_leave_files : KeptServersLeaveDone S J → RunsLeaveFiles S J Fails Differs
    runs_leave_files leave old new answered went honest honest_notes first book h =
        let on = runs_keep_on S J Fails Differs old new answered went honest honest_notes first book h in
        let same = stays old new answered went in
        record {
          run = on;
          closed = λ name named closed. closed_there first new on.later on.held (same.0 ∙ honest) name named closed;
          quiet = λ name known quiet. table_file first new on.later on.held (same.0 ∙ honest) name known (inl quiet);
          left = λ journals disk. leave first new on.later (same.0 ∙ honest) (same.1 ∙ honest_notes) on.held journals disk;
        }

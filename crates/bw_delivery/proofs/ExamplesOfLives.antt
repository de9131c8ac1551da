-- The worked row computes.
use Rattle.std.proofs.Common.{◌≡◌, inl, ℕ, ◌<◌, Bool, true, false, cond, ◌||◌, List, [], ◌∷◌, ◌++◌, length, Some, None}
use Rattle.std.proofs.Common.{refl, sym, ◌∙◌, subst, arith}
use Rattle.std.specs.Prelude.{IsTrue}
use Rattle.std.specs.Str.{bytes_eq}
use Rattle.std.proofs.lemmas.Bool.{false≢true}
use Rattle.std.proofs.lemmas.List.{append-nil}
use Rattle.sha2.proofs.Facts256.{length-sha256}
use Rattle.bw_model.proofs.BookLemmas.{same_name}
use Rattle.bw_model.proofs.Computing.{computing}
use Rattle.bw_model.specs.Take.{Open, Block, Close, Stored}
use Rattle.bw_model.specs.Wire.{Frame}
use Rattle.bw_model.specs.Replies.{Reply, Judged, Noticed, DelayedStore}
use Rattle.bw_model.specs.Book.{Log, Book, log_of, made, no_log}
use Rattle.bw_model.specs.BookRules.{IsLog}
use Rattle.bw_model.specs.Exchange.{nothing_stands}
use Rattle.bw_model.specs.ExampleWords.{a1, mono, two_frames, small_file, example_limit, says, fails_after}
use Rattle.bw_model.specs.Holds.{body_of}
use Rattle.bw_model.specs.Turn.{good, with_change}
use Rattle.bw_store.specs.declared.store.TakeStore.{Ghosts as StoreGhosts}
use Rattle.bw_journal.specs.declared.journal.Journal.{Ghosts as JournalGhosts}
use Rattle.bw_session.specs.declared.server.Server.{Server}
use Rattle.bw_delivery.proofs.ExamplesOfDeliveries.{joined}
use Rattle.bw_journal.specs.Entries.{sealed_entry}
use Rattle.bw_journal.specs.NotedJournals.{IsCut, IsNotable, done_entry}
use Rattle.bw_journal.specs.Stops.{cut_book}
use Rattle.bw_journal.proofs.Lengths.{entry_length}
use Rattle.bw_recovery.specs.Left.{IsLeftFile}
use Rattle.bw_recovery.specs.LeftNames.{IsLeftName}
use Rattle.bw_session.specs.Books.{count_waiting}
use Rattle.bw_kept.specs.FolderRuns.{ServesFrame, turn_where, stops_where, name_of_frame, ends_with_request}
use Rattle.bw_kept.specs.KeptFolders.{AreLogs, IsOutOfTable}
use Rattle.bw_kept.specs.LeftFolders.{LeavesDone}
use Rattle.std.specs.List.{AllByRecursion}
use Rattle.bw_model.specs.ExamplesOfWorlds.{small_take}
use Rattle.bw_delivery.specs.Senders.{IsOfRequests}
use Rattle.bw_delivery.specs.Lives.{LiesIn}
use Rattle.bw_delivery.specs.ExamplesOfLives.{log_with, book_with, journal_with, block_entry, folder_with, nothing_first}
use Rattle.bw_delivery.specs.ExamplesOfLives.{killed_folder, KilledInATurnExample}
use Rattle.bw_delivery.specs.ExamplesOfLives.{SentLifeExample}

-- a frame in whose turn nothing fails
pub serves : (f : Frame) (replies : List Reply) (book later : Book) →
    (turn_where false nothing_stands book f good).0 ≡ replies →
    with_change book (name_of_frame f) (turn_where false nothing_stands book f good).1 ≡ later →
    stops_where false nothing_stands book f good ≡ false → ServesFrame false nothing_stands 0 0 book f replies later
serves f replies book later answered left goes_on = record {
  faults = good;
  answered = answered;
  left = left;
  room = λ refused. absurd (false≢true refused);
  count = record {
    quiet = λ _. refl;
    rises = λ stops below. absurd (false≢true (sym goes_on ∙ stops));
    stays = λ above. refl;
  };
  stop = λ _. refl;
}

-- one in whose turn a call fails
pub fails : (f : Frame) (replies : List Reply) (book later : Book) →
    (turn_where false nothing_stands book f (fails_after 0)).0 ≡ replies →
    with_change book (name_of_frame f) (turn_where false nothing_stands book f (fails_after 0)).1 ≡ later →
    stops_where false nothing_stands book f (fails_after 0) ≡ true →
    ServesFrame false nothing_stands 0 1 book f replies later
fails f replies book later answered left stops = record {
  faults = fails_after 0;
  answered = answered;
  left = left;
  room = λ refused. absurd (false≢true refused);
  count = record {
    quiet = λ goes_on. absurd (false≢true (sym goes_on ∙ stops));
    rises = λ _ below. refl;
    stays = λ above. absurd (omega (arith, above));
  };
  stop = λ goes_on. absurd (false≢true (sym goes_on ∙ stops));
}

opened : ServesFrame false nothing_stands 0 0 [] (says 0 (Open mono [])) (Judged a1 0 Stored ∷ []) (book_with 1 1)
unfolding computing
opened = serves (says 0 (Open mono [])) (Judged a1 0 Stored ∷ []) [] (book_with 1 1) refl refl refl

delayed : ServesFrame false nothing_stands 0 1 (book_with 1 1) (says 1 (Block two_frames))
    (Noticed a1 1 DelayedStore 1 ∷ []) (book_with 2 1)
unfolding computing
delayed = fails (says 1 (Block two_frames)) (Noticed a1 1 DelayedStore 1 ∷ []) (book_with 1 1) (book_with 2 1) refl refl refl

stored : ServesFrame false nothing_stands 0 0 (book_with 1 1) (says 1 (Block two_frames)) (Judged a1 1 Stored ∷ [])
    (book_with 2 2)
unfolding computing
stored = serves (says 1 (Block two_frames)) (Judged a1 1 Stored ∷ []) (book_with 1 1) (book_with 2 2) refl refl refl

closed : ServesFrame false nothing_stands 0 0 (book_with 2 2) (says 2 (Close 2)) (Judged a1 2 Stored ∷ []) (book_with 3 3)
unfolding computing
closed = serves (says 2 (Close 2)) (Judged a1 2 Stored ∷ []) (book_with 2 2) (book_with 3 3) refl refl refl

-- what a stop cuts
cut : cut_book (book_with 2 1) ≡ book_with 1 1
cut = refl

-- a book of `a1` alone lies in the folder
module _ (log : Log) (journal : List ℕ) (is : IsLog log) (ends : ends_with_request log ≡ true)
    (quiet : count_waiting log ≡ 0)
    (left : IsLeftName example_limit None a1 log (Some journal) (Some small_file)) where
  abbrev book : Book
  book = (a1, log) ∷ []

  each : AreLogs book
  each = record {
    logs = λ name known. logs name (bytes_eq a1 name) known;
    ends = λ name. all_end name (bytes_eq a1 name);
  }
    where
      logs : (name : List ℕ) (v : Bool) → v || false ≡ true → IsLog (cond v log no_log)
      logs name true known = is
      logs name false known = absurd (false≢true known)

      all_end : (name : List ℕ) (v : Bool) → IsTrue (ends_with_request (cond v log no_log))
      all_end name true = ends
      all_end name false = refl

  outside : (name : List ℕ) → IsOutOfTable example_limit None name (log_of book name)
      ((folder_with journal).journals name) ((folder_with journal).files name)
  outside name = go (bytes_eq a1 name) refl
    where
      go : (v : Bool) → bytes_eq a1 name ≡ v → IsOutOfTable example_limit None name (cond v log no_log)
          (cond v (Some journal) None) (cond v (Some small_file) None)
      go true e = subst (λ (x : List ℕ). IsOutOfTable example_limit None x log (Some journal) (Some small_file))
          (same_name a1 name e) (record { quiet = quiet; lies = inl left })
      go false e = record { quiet = refl; lies = inl (refl, refl) }

  lies_alone : LiesIn example_limit nothing_first book (folder_with journal)
  lies_alone = record { each = each; names = λ name named. outside name }

-- the files
file_of_open : IsLeftFile None (made false (log_with 1 1).admitted 1) example_limit (Some small_file)
unfolding computing
file_of_open = record { long = omega arith; samples = refl }

file_of_closed : IsLeftFile None (made false (log_with 3 3).admitted 3) example_limit (Some small_file)
unfolding computing
file_of_closed = refl

-- the cut entry
notable : IsNotable (done_entry false (log_with 1 1).admitted a1 1 (Block two_frames))
notable = (refl, length-sha256 (body_of a1 1 (Block two_frames)))

long : 20 < length (sealed_entry (done_entry false (log_with 1 1).admitted a1 1 (Block two_frames)))
long =
    let e = entry_length (done_entry false (log_with 1 1).admitted a1 1 (Block two_frames))
    (length-sha256 (body_of a1 1 (Block two_frames))) in
    omega (arith, e)

cut_to : (count : ℕ) → count < 21 → IsCut (block_entry count)
cut_to count short = record {
  entry = done_entry false (log_with 1 1).admitted a1 1 (Block two_frames);
  notable = notable;
  count = count;
  short = let l = long in omega (arith, l, short);
  prefix = refl;
}

is_opened : IsLog (log_with 1 1)
unfolding computing
is_opened = record { some = refl; all_done = omega arith; none_past = omega arith; fits = refl }

is_closed : IsLog (log_with 3 3)
unfolding computing
is_closed = record { some = refl; all_done = omega arith; none_past = omega arith; fits = refl }

left_cut : IsLeftName example_limit None a1 (log_with 1 1) (Some (journal_with 1 ++ block_entry 20)) (Some small_file)
left_cut = inl (record { tail = block_entry 20; cut = cut_to 20 (omega arith); notes = refl; file = file_of_open })

left_whole : IsLeftName example_limit None a1 (log_with 3 3) (Some (journal_with 3)) (Some small_file)
left_whole = inl (record {
  tail = [];
  cut = cut_to 0 (omega arith);
  notes = sym (append-nil (journal_with 3));
  file = file_of_closed;
})

leaves : LeavesDone example_limit nothing_first (book_with 2 1) (λ name. length (journal_with 1))
    killed_folder.journals killed_folder.files
leaves = record {
  left = book_with 2 1;
  numbers = record {
    names = λ name. refl;
    logs = λ name. record { kept = (log_of (book_with 2 1) name).done; is = refl; most = inl (omega arith) };
  };
  least = λ name n within ends. within;
  lies = lies_alone (log_with 1 1) (journal_with 1 ++ block_entry 20) is_opened refl refl left_cut;
}

pub killed_in_a_turn : KilledInATurnExample
killed_in_a_turn = (
  (0, book_with 1 1, inl (false, opened), (1, book_with 2 1, inl (false, delayed), (refl, refl))),
  leaves,
  (0, book_with 2 2, inl (false, stored), (0, book_with 3 3, inl (false, closed), (refl, refl))),
  lies_alone (log_with 3 3) (journal_with 3) is_closed refl refl left_whole,
)

pub sent_life : {X Y : Type 0} (S : StoreGhosts X) (J : JournalGhosts Y)
    (Fails : List ℕ → Server X Y S J → Server X Y S J → Type 0) (Differs : List ℕ → Server X Y S J → Type 0) →
    SentLifeExample S J Fails Differs
sent_life S J Fails Differs life same none = record {
  answered = sym same;
  joined = joined;
  unkept = subst (AllByRecursion (IsOfRequests (record { name = a1; requests = small_take; had = [] }))) (sym none) tt;
}

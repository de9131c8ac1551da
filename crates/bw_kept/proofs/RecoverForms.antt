-- What a recovery makes of what lies in a folder under a name.
use Rattle.std.proofs.Common.{◌≡◌, inl, inr, ℕ, ◌*◌, ◌<◌, ◌≤◌, ◌^◌, Bool, false, not, ◌&&◌, List, [], ◌∷◌, ◌++◌}
use Rattle.std.proofs.Common.{length, take, Option, Some, None, is_some, option_map, Ok, Err, refl, sym, ◌∙◌, ap, subst, arith}
use Rattle.std.specs.Prelude.{IsSome, Result}
use Rattle.bw_model.specs.Take.{Format, Verdict}
use Rattle.bw_model.specs.File.{file_with}
use Rattle.bw_model.specs.Book.{Log, made}
use Rattle.bw_model.specs.BookRules.{IsLog}
use Rattle.bw_model.specs.Holds.{finished_from}
use Rattle.bw_journal.specs.JournalHeaders.{Header, header_bytes}
use Rattle.bw_journal.specs.Notes.{IsPrefixOf}
use Rattle.bw_journal.specs.NotedJournals.{AdmitsDone, journal_of, story_of_log}
use Rattle.bw_journal.specs.Replays.{Story, JournalFault, NotBegun, replay}
use Rattle.bw_journal.proofs.RecoveryLaws.{finished-length}
use Rattle.bw_journal.proofs.Taken.{taken-made}
use Rattle.bw_session.specs.WriteOrders.{file_due}
use Rattle.bw_session.specs.declared.kept_take.KeptTake.{KeptTake}
use Rattle.bw_session.proofs.ResumeForms.{digests_kept, unpacked}
use Rattle.bw_recovery.specs.Left.{wanted_file}
use Rattle.bw_recovery.specs.LeftNames.{header_beside, IsLeftBegun, IsLeftTorn, IsResumed}
use Rattle.bw_recovery.specs.Findings.{RefusesName}
use Rattle.bw_recovery.specs.Names.{kept_journal, name_fault}
use Rattle.bw_recovery.specs.declared.finding.NameFault.{NameFault}
use Rattle.bw_recovery.proofs.NameLemmas.{left_names_are_resumed, unopened}
use Rattle.bw_recovery.proofs.StoryForms.{begun_story, torn_story}
use Rattle.bw_session.specs.TableChanges.{IsOfLog}
use Rattle.bw_kept.specs.Recoveries.{IsKeptOf, IsSoundName, MadeOfJournal, Recovers, opened_story, story_in}
use Rattle.bw_kept.specs.KeptFolders.{HasThisFault, LiesInFolder}
use Rattle.bw_kept.specs.declared.recovery.Recovered.TheVariants.{New, LeftOut, Kept}
use Rattle.bw_kept.proofs.KeptForms.{never}
use Rattle.bw_kept.proofs.LeftEntries.{journal_begun}
use Rattle.bw_kept.proofs.LeftNames.{header_is}

take_prefix : (xs ys : List ℕ) → take (length xs) (xs ++ ys) ≡ xs
take_prefix [] ys = refl
take_prefix (x ∷ xs) ys = ap (λ (zs : List ℕ). x ∷ zs) (take_prefix xs ys)

-- a name without a fault has none
no_fault : {A X : Type 0} (o : Option X) → IsSome o → o ≡ None → A
no_fault None some none = never some
no_fault (Some x) some none = absurd (some_none none)
  where
    some_none : Some x ≡ None → ⊥
    some_none e = cc

-- how long the story's table is
table_long : (h : Header) (name : List ℕ) (log : Log) → AdmitsDone log →
    length (story_of_log h name log).table ≡ 33 * log.done
table_long h name log admits =
    let outcomes : List (List ℕ × Verdict) = finished_from h.existed log.admitted name 0 (take log.done log.admitted) in
    let packs = unpacked outcomes (digests_kept h.existed log.admitted name 0 (take log.done log.admitted)) in
    let size : length (story_of_log h name log).table ≡ 33 * length outcomes = packs.0 in
    let long : length outcomes ≡ length (take log.done log.admitted) =
    finished-length h.existed log.admitted name 0 (take log.done log.admitted) admits.each in
    let all = admits.long in
    omega (arith, size, long, all)

-- What is known of a name that is new.
pub record IsNewThere (first : Option (List ℕ)) (name : List ℕ) (log : Log) (h : Header)
    (later_journal later_file : Option (List ℕ)) : Type 0 where
  pub none : log.done ≡ 0
  pub prefix : IsPrefixOf (header_bytes name h) later_journal
  pub existed : h.existed ≡ is_some first
  pub file_is : later_file ≡ first

-- Of a name that a stop left.
module _ (limit : ℕ) (first : Option (List ℕ)) (name : List ℕ) (log : Log) (bytes : List ℕ) (file : Option (List ℕ))
    (small : limit < 2 ^ 32) (admits : AdmitsDone log) (h : Header) (same : h.limit ≡ limit) where
  abbrev head : Header
  head = header_beside limit first

  abbrev story : Story
  story = story_of_log head name log

  -- whose journal is begun
  module _ (left : IsLeftBegun limit first name log bytes file) where
    said : replay limit name bytes ≡ Ok story
    said = begun_story limit first name log bytes file small admits left

    kept : kept_journal (replay limit name bytes) bytes ≡ journal_of head name log
    kept =
        ap (λ (r : Result Story JournalFault). kept_journal r bytes) said
        ∙ ap (take (length (journal_of head name log))) left.notes
        ∙ take_prefix (journal_of head name log) left.tail

    taken : story.parts.taken ≡ is_some first
    taken = taken-made (is_some first) log.admitted log.done

    resumed : IsResumed limit first name log bytes file
    resumed = left_names_are_resumed limit first name log bytes file small admits (inl left)

  head_is : h.existed ≡ is_some first → h ≡ head
  head_is existed = header_is h limit first same existed

  -- of this story no number is done
  none_done : (r : Result Story JournalFault) → r ≡ Ok story → MadeOfJournal name r New → log.done ≡ 0
  none_done r is made =
      let empty : length story.table ≡ 0 = subst (λ (x : Result Story JournalFault). MadeOfJournal name x New) is made in
      let long = table_long head name log admits in
      omega (arith, empty, long)

  begun_new : (later_journal later_file : Option (List ℕ)) → IsLeftBegun limit first name log bytes file →
      ((s : Story) → replay limit name bytes ≡ Ok s → h.existed ≡ s.parts.taken) →
      IsSoundName limit name bytes file New later_journal later_file → IsNewThere first name log h later_journal later_file
  begun_new later_journal later_file left opened sound =
      let none = none_done (replay limit name bytes) (said left) sound.made in
      let existed : h.existed ≡ is_some first = opened story (said left) ∙ taken left in
      record {
        none = none;
        prefix = inr (
          length (header_bytes name h),
          sound.restored.notes ∙ ap Some (kept left
              ∙ journal_begun head name log none ∙ ap (header_bytes name) (sym (head_is existed))
              ∙ sym (take_whole (header_bytes name h))),
        );
        existed = existed;
        file_is = sound.restored.take ∙ (resumed left).file ∙ sym (unopened first limit log none);
      }
    where
      take_whole : (xs : List ℕ) → take (length xs) xs ≡ xs
      take_whole [] = refl
      take_whole (x ∷ xs) = ap (λ (zs : List ℕ). x ∷ zs) (take_whole xs)

  torn_new : (later_journal later_file : Option (List ℕ)) → IsLeftTorn limit first name log bytes file →
      h.existed ≡ is_some later_file → IsSoundName limit name bytes file New later_journal later_file →
      IsNewThere first name log h later_journal later_file
  torn_new later_journal later_file left alike sound =
      let torn = torn_story limit first name log bytes file small left in
      let r = left_names_are_resumed limit first name log bytes file small admits (inr left) in
      let file_is : later_file ≡ first = sound.restored.take ∙ r.file ∙ sym (unopened first limit log left.none) in
      record {
        none = left.none;
        prefix = inr (
          0,
          sound.restored.notes
              ∙ ap (λ (x : Result Story JournalFault). Some (kept_journal x bytes)) torn,
        );
        existed = alike ∙ ap is_some file_is;
        file_is = file_is;
      }

  -- the name's take is that of its log
  begun_kept : (later_journal later_file : Option (List ℕ)) (k : KeptTake) → IsLeftBegun limit first name log bytes file →
      IsLog log → length log.admitted ≤ log.done →
      ((s : Story) → replay limit name bytes ≡ Ok s → h.existed ≡ s.parts.taken) →
      IsSoundName limit name bytes file (Kept k) later_journal later_file →
      (k.name ≡ name) × IsOfLog limit first log h k later_journal later_file
  begun_kept later_journal later_file k left is_log all opened sound = (of.named, ofs of.named)
    where
      of : IsKeptOf name story k
      of = subst (λ (x : Result Story JournalFault). MadeOfJournal name x (Kept k)) (said left) sound.made

      existed : h.existed ≡ is_some first
      existed = opened story (said left) ∙ taken left

      file_is : later_file ≡ wanted_file first (made (is_some first) log.admitted log.done) limit
      file_is = sound.restored.take ∙ (resumed left).file

      due : (o : Option (List ℕ)) → wanted_file o (made (is_some o) log.admitted log.done) limit ≡ file_due o log limit
      due None = refl
      due (Some b) = refl

      formed : (o : Option (List ℕ)) →
          not (is_some o) && is_some (made (is_some o) log.admitted log.done).format
          ≡ not (is_some o) && is_some (wanted_file o (made (is_some o) log.admitted log.done) limit)
      formed (Some b) = refl
      formed None = go (made false log.admitted log.done).format
        where
          go : (f : Option Format) → is_some f ≡ is_some (option_map (λ x. file_with x (made false log.admitted log.done) limit) f)
          go None = refl
          go (Some f) = refl

      ofs : k.name ≡ name → IsOfLog limit first log h k later_journal later_file
      ofs named = record {
        is_log = is_log;
        all = all;
        existed = existed;
        story = of.story ∙ ap (λ (x : Header). story_of_log x name log) (sym (head_is existed))
            ∙ ap (λ (n : List ℕ). story_of_log h n log) (sym named);
        made = of.made ∙ ap (λ (v : Bool). not v && is_some story.parts.format) (taken left)
            ∙ formed first ∙ ap (λ (o : Option (List ℕ)). not (is_some first) && is_some o) (sym file_is);
        notes_are = sound.restored.notes ∙ ap Some (kept left
            ∙ ap (λ (x : Header). journal_of x name log) (sym (head_is existed))
            ∙ ap (λ (n : List ℕ). journal_of h n log) (sym named));
        file_is = file_is ∙ due first;
      }

module _ (limit : ℕ) (first : Option (List ℕ)) (name : List ℕ) (log : Log) (file : Option (List ℕ))
    (small : limit < 2 ^ 32) (admits : AdmitsDone log) (h : Header) (same : h.limit ≡ limit) where
  -- a name that is new, by what lay there: its journal is opened with what it says of a file, or the disks
  -- show alike whether there is one
  pub new_there : (journal later_journal later_file : Option (List ℕ)) → LiesInFolder limit first name log journal file →
      ((s : Story) → opened_story limit name journal New ≡ Some s → h.existed ≡ s.parts.taken) →
      (opened_story limit name journal New ≡ None → h.existed ≡ is_some later_file) →
      Recovers limit name journal file New later_journal later_file →
      IsNewThere first name log h later_journal later_file
  new_there None later_journal later_file (inl left) opened alike made =
      let file_is : later_file ≡ first = made.1 ∙ left.1 in
      record { none = left.0; prefix = inl made.0; existed = alike refl ∙ ap is_some file_is; file_is = file_is }
  new_there None later_journal later_file (inr faulty) opened alike made = absurd faulty.fault
  new_there (Some bytes) later_journal later_file (inl (inl left)) opened alike made =
      begun_new limit first name log bytes file small admits h same later_journal later_file left
      (λ s is. opened s (ap story_in is)) made
  new_there (Some bytes) later_journal later_file (inl (inr left)) opened alike made =
      torn_new limit first name log bytes file small admits h same later_journal later_file left
      (alike (ap story_in (torn_story limit first name log bytes file small left))) made
  new_there (Some bytes) later_journal later_file (inr faulty) opened alike made =
      no_fault (name_fault limit name bytes file) faulty.fault made.sound

  -- a take that is kept is that of the log
  pub kept_there : (journal later_journal later_file : Option (List ℕ)) (k : KeptTake) →
      LiesInFolder limit first name log journal file → (0 < log.done → IsLog log) → length log.admitted ≤ log.done →
      ((s : Story) → opened_story limit name journal (Kept k) ≡ Some s → h.existed ≡ s.parts.taken) →
      Recovers limit name journal file (Kept k) later_journal later_file →
      (k.name ≡ name) × IsOfLog limit first log h k later_journal later_file
  kept_there None later_journal later_file k lies logs all opened made = absurd made
  kept_there (Some bytes) later_journal later_file k (inl (inl left)) logs all opened made =
      begun_kept limit first name log bytes file small admits h same later_journal later_file k left
      (logs (done_of (replay limit name bytes) (said limit first name log bytes file small admits h same left) made.made))
      all (λ s is. opened s (ap story_in is)) made
    where
      done_of : (r : Result Story JournalFault) → r ≡ Ok (story_of_log (header_beside limit first) name log) →
          MadeOfJournal name r (Kept k) → 0 < log.done
      done_of r is m =
          let some = (subst (λ (x : Result Story JournalFault). MadeOfJournal name x (Kept k)) is m).done in
          let long = table_long (header_beside limit first) name log admits in
          omega (arith, some, long)
  kept_there (Some bytes) later_journal later_file k (inl (inr left)) logs all opened made =
      absurd (no_kept (replay limit name bytes) (torn_story limit first name log bytes file small left) made.made)
    where
      kept_new : Kept k ≡ New → ⊥
      kept_new e = cc

      no_kept : (r : Result Story JournalFault) → r ≡ Err NotBegun → MadeOfJournal name r (Kept k) → ⊥
      no_kept r is m =
          kept_new (subst (λ (x : Result Story JournalFault). MadeOfJournal name x (Kept k)) is m)
  kept_there (Some bytes) later_journal later_file k (inr faulty) logs all opened made =
      no_fault (name_fault limit name bytes file) faulty.fault made.sound

  -- a name that is left out has a fault, and nothing of it is done
  pub left_out_there : (journal later_journal later_file : Option (List ℕ)) (cause : NameFault) →
      LiesInFolder limit first name log journal file →
      Recovers limit name journal file (LeftOut cause) later_journal later_file →
      HasThisFault limit name later_journal later_file cause
      × LiesInFolder limit first name log later_journal later_file
  left_out_there None later_journal later_file cause lies made = absurd made
  left_out_there (Some bytes) later_journal later_file cause lies made = (
    subst (λ (o : Option (List ℕ)). HasThisFault limit name o later_file cause) (sym made.1)
        (subst (λ (o : Option (List ℕ)). RefusesName limit name bytes o cause) (sym made.2) made.0),
    subst (λ (o : Option (List ℕ)). LiesInFolder limit first name log o later_file) (sym made.1)
        (subst (λ (o : Option (List ℕ)). LiesInFolder limit first name log (Some bytes) o) (sym made.2) lies),
  )

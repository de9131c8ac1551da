-- A name that a stop left is recovered as its log says.
use Rattle.std.proofs.Common.{◌≡◌, ◌⊎◌, inl, inr, ◌∙◌, ℕ, zero, suc, ◌+◌, ◌<◌, ◌^◌, Bool, true, false, List, [], ◌∷◌, ◌++◌, length, take}
use Rattle.std.proofs.Common.{Option, Some, None, is_some, IsSome, Result, Ok, Err, refl, sym, ap, subst, arith, length-append}
use Rattle.std.specs.Prelude.{nat_lt, IfSome}
use Rattle.std.specs.List.{list_all}
use Rattle.std.proofs.lemmas.Bool.{and_parts, lt-ltb, ltb-true}
use Rattle.std.proofs.lemmas.List.{append-nil, take_all}
use Rattle.bw_model.specs.Take.{Request, Verdict}
use Rattle.bw_model.specs.Wire.{is_request}
use Rattle.bw_model.specs.Replies.{verdict_code}
use Rattle.bw_model.specs.Book.{Log, made}
use Rattle.bw_model.specs.Holds.{finished_from}
use Rattle.bw_journal.specs.JournalHeaders.{Header, header_bytes}
use Rattle.bw_journal.specs.Notes.{IsPrefixOf}
use Rattle.bw_journal.specs.Entries.{sealed_entries}
use Rattle.bw_journal.specs.NotedJournals.{AdmitsDone, fits, packed, journal_of, story_of_log, entries_from}
use Rattle.bw_journal.specs.Replays.{Story, JournalFault, NotBegun, replay}
use Rattle.bw_journal.proofs.Taken.{taken-made}
use Rattle.bw_recovery.specs.Findings.{cause_of}
use Rattle.bw_recovery.specs.LeftNames.{header_beside, IsLeftName, IsResumed}
use Rattle.bw_recovery.specs.Names.{NameFault, name_fault, kept_journal}
use Rattle.bw_recovery.proofs.NameLemmas.{left_names_are_resumed, unopened}
use Rattle.bw_recovery.proofs.StoryForms.{begun_story, torn_story}
use Rattle.bw_session.specs.declared.kept_take.KeptTake.{KeptTake}
use Rattle.bw_kept.specs.Recoveries.{MadeOfJournal, IsKeptOf, makes_file, story_in}
use Rattle.bw_kept.specs.RecoveredLogs.{LeftNamesAreRecovered}
use Rattle.bw_kept.specs.declared.recovery.Recovered.TheVariants.{New, LeftOut, Kept}

-- as many outcomes as requests
finished_length : (existed : Bool) (s : List (Option Request)) (name : List ℕ) (n : ℕ) (rest : List (Option Request)) →
    list_all fits rest ≡ true → length (finished_from existed s name n rest) ≡ length rest
finished_length existed s name n [] h = refl
finished_length existed s name n (None ∷ rest) h = absurd cc
finished_length existed s name n (Some r ∷ rest) h =
    ap suc (finished_length existed s name (suc n) rest (and_parts (is_request r) (list_all fits rest) h).1)

-- a row is never empty
packed_some : (rows : List (List ℕ × Verdict)) → nat_lt 0 (length (packed rows)) ≡ nat_lt 0 (length rows)
packed_some [] = refl
packed_some (x ∷ rows) =
    let a : length ((x.0 ++ verdict_code x.1 ∷ []) ++ packed rows)
    ≡ length (x.0 ++ verdict_code x.1 ∷ []) + length (packed rows) =
    length-append (x.0 ++ verdict_code x.1 ∷ []) (packed rows) in
    let b : length (x.0 ++ verdict_code x.1 ∷ []) ≡ length x.0 + 1 = length-append x.0 (verdict_code x.1 ∷ []) in
    lt-ltb 0 (length (packed (x ∷ rows))) (omega (arith, a, b)) ∙ sym (lt-ltb 0 (length (x ∷ rows)) (omega arith))

-- a story's table is empty exactly if no number is done
story_done : (h : Header) (name : List ℕ) (log : Log) → AdmitsDone log →
    nat_lt 0 (length (story_of_log h name log).table) ≡ nat_lt 0 log.done
story_done h name log whole =
    packed_some (finished_from h.existed log.admitted name 0 (take log.done log.admitted))
    ∙ ap (nat_lt 0) (finished_length h.existed log.admitted name 0 (take log.done log.admitted) whole.each ∙ whole.long)

not_less : (n : ℕ) → n ≡ 0 → 0 < n → ⊥
not_less n e l = omega (arith, e, l)

none_done : (n m : ℕ) → nat_lt 0 n ≡ nat_lt 0 m → n ≡ 0 → m ≡ 0
none_done n zero e z = refl
none_done n (suc m) e z = absurd (not_less n z (ltb-true 0 n (e ∙ lt-ltb 0 (suc m) (omega arith))))

some_done : (n m : ℕ) → nat_lt 0 n ≡ nat_lt 0 m → 0 < n → 0 < m
some_done n m e l = ltb-true 0 m (sym e ∙ lt-ltb 0 n l)

-- where no number is done, a journal is its header
no_entries : (h : Header) (name : List ℕ) (log : Log) → log.done ≡ 0 → journal_of h name log ≡ header_bytes name h
no_entries h name log none =
    ap (λ (n : ℕ). header_bytes name h
    ++ sealed_entries (entries_from h.existed log.admitted name 0 (take n log.admitted))) none
    ∙ append-nil (header_bytes name h)

header_prefix : (limit : ℕ) (first : Option (List ℕ)) (name : List ℕ) (log : Log) (kept : List ℕ) → log.done ≡ 0 →
    (kept ≡ journal_of (header_beside limit first) name log) ⊎ ((log.done ≡ 0) × (kept ≡ [])) →
    IsPrefixOf (header_bytes name (header_beside limit first)) (Some kept)
header_prefix limit first name log kept none (inl e) =
    let bytes : List ℕ = header_bytes name (header_beside limit first) in
    inr (
      length bytes,
      ap (λ (x : List ℕ). Some x)
          (e ∙ no_entries (header_beside limit first) name log none ∙ sym (take_all (length bytes) bytes (omega arith))),
    )
header_prefix limit first name log kept none (inr e) = inr (0, ap (λ (x : List ℕ). Some x) e.1)

whole_journal : (limit : ℕ) (first : Option (List ℕ)) (name : List ℕ) (log : Log) (kept : List ℕ) → 0 < log.done →
    (kept ≡ journal_of (header_beside limit first) name log) ⊎ ((log.done ≡ 0) × (kept ≡ [])) →
    Some kept ≡ Some (journal_of (header_beside limit first) name log)
whole_journal limit first name log kept done (inl e) = ap (λ (x : List ℕ). Some x) e
whole_journal limit first name log kept done (inr e) = absurd (not_less log.done e.0 done)

-- what a journal that a stop left says: the story of its log, or nothing where nothing is done
abbrev Says : ℕ → Option (List ℕ) → List ℕ → Log → List ℕ → Type 0
Says limit first name log journal =
    (replay limit name journal ≡ Ok (story_of_log (header_beside limit first) name log))
    ⊎ ((log.done ≡ 0) × (replay limit name journal ≡ Err NotBegun))

says : (limit : ℕ) (first : Option (List ℕ)) (name : List ℕ) (log : Log) (journal : List ℕ) (file : Option (List ℕ)) →
    limit < 2 ^ 32 → AdmitsDone log → IsLeftName limit first name log (Some journal) file →
    Says limit first name log journal
says limit first name log journal file small whole (inl left) =
    inl (begun_story limit first name log journal file small whole left)
says limit first name log journal file small whole (inr left) =
    inr (left.none, torn_story limit first name log journal file small left)

-- a name with a fault isn't one that a stop left
faulty : (a b : Option NameFault) → a ≡ b → IsSome b → a ≡ None → ⊥
faulty a b same some none = apart (ap (λ (o : Option NameFault). is_some o) (sym none ∙ same) ∙ some)
  where
    apart : false ≡ true → ⊥
    apart e = cc

-- a journal that is open says whether a file was there
story_taken : (limit : ℕ) (first : Option (List ℕ)) (name : List ℕ) (log : Log) (journal : List ℕ) →
    Says limit first name log journal →
    IfSome (story_in (replay limit name journal)) (λ s. s.parts.taken ≡ is_some first)
story_taken limit first name log journal (inl e) =
    subst (λ (x : Result Story JournalFault). IfSome (story_in x) (λ s. s.parts.taken ≡ is_some first)) (sym e)
    (taken-made (is_some first) log.admitted log.done)
story_taken limit first name log journal (inr e) =
    subst (λ (x : Result Story JournalFault). IfSome (story_in x) (λ s. s.parts.taken ≡ is_some first)) (sym e.1) tt

new_done : (limit : ℕ) (first : Option (List ℕ)) (name : List ℕ) (log : Log) (journal : List ℕ) → AdmitsDone log →
    Says limit first name log journal → MadeOfJournal name (replay limit name journal) New → log.done ≡ 0
new_done limit first name log journal whole (inl e) made =
    none_done (length (story_of_log (header_beside limit first) name log).table) log.done
    (story_done (header_beside limit first) name log whole)
    (subst (λ (x : Result Story JournalFault). MadeOfJournal name x New) e made)
new_done limit first name log journal whole (inr e) made = e.0

kept_of : (limit : ℕ) (first : Option (List ℕ)) (name : List ℕ) (log : Log) (journal : List ℕ) (k : KeptTake) →
    Says limit first name log journal → MadeOfJournal name (replay limit name journal) (Kept k) →
    IsKeptOf name (story_of_log (header_beside limit first) name log) k
kept_of limit first name log journal k (inl e) made =
    subst (λ (x : Result Story JournalFault). MadeOfJournal name x (Kept k)) e made
kept_of limit first name log journal k (inr e) made =
    absurd (apart (subst (λ (x : Result Story JournalFault). MadeOfJournal name x (Kept k)) e.1 made))
  where
    apart : Kept k ≡ New → ⊥
    apart x = cc

pub left_names_are_recovered : LeftNamesAreRecovered
left_names_are_recovered limit first name log None file New later_journal later_file small whole left made = record {
  made_of = record { none = left.0; notes = inl made.0 };
  file = made.1 ∙ left.1 ∙ unopened first limit log left.0;
  existed = tt;
}
left_names_are_recovered limit first name log None file (LeftOut cause) later_journal later_file small whole left made =
    absurd made
left_names_are_recovered limit first name log None file (Kept k) later_journal later_file small whole left made =
    absurd made
left_names_are_recovered limit first name log (Some journal) file (LeftOut cause) later_journal later_file small whole
    left made =
    absurd (faulty (name_fault limit name journal file) (cause_of cause) made.0.fault made.0.some
    (left_names_are_resumed limit first name log journal file small whole left).fault)
left_names_are_recovered limit first name log (Some journal) file New later_journal later_file small whole left made =
    let m : IsResumed limit first name log journal file =
    left_names_are_resumed limit first name log journal file small whole left in
    let says_it : Says limit first name log journal = says limit first name log journal file small whole left in
    let none : log.done ≡ 0 = new_done limit first name log journal whole says_it made.made in
    record {
      made_of = record {
        none = none;
        notes = subst (IsPrefixOf (header_bytes name (header_beside limit first))) (sym made.restored.notes)
            (header_prefix limit first name log (kept_journal (replay limit name journal) journal) none m.notes);
      };
      file = made.restored.take ∙ m.file;
      existed = story_taken limit first name log journal says_it;
    }
left_names_are_recovered limit first name log (Some journal) file (Kept k) later_journal later_file small whole left made =
    let m : IsResumed limit first name log journal file =
    left_names_are_resumed limit first name log journal file small whole left in
    let says_it : Says limit first name log journal = says limit first name log journal file small whole left in
    let q : IsKeptOf name (story_of_log (header_beside limit first) name log) k =
    kept_of limit first name log journal k says_it made.made in
    let done : 0 < log.done =
    some_done (length (story_of_log (header_beside limit first) name log).table) log.done
    (story_done (header_beside limit first) name log whole) q.done in
    record {
      made_of = record {
        done = done;
        named = q.named;
        story = q.story;
        made_file = q.made ∙ ap (λ (s : Story). makes_file s.parts) (sym q.story);
        notes = made.restored.notes
            ∙ whole_journal limit first name log (kept_journal (replay limit name journal) journal) done m.notes;
      };
      file = made.restored.take ∙ m.file;
      existed = story_taken limit first name log journal says_it;
    }

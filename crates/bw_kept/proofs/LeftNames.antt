-- What a server's relations say of a name is what lies in its folder wherever it is stopped.
use Rattle.std.proofs.Common.{◌≡◌, ◌⊎◌, inl, inr, ℕ, zero, suc, ◌<◌, ◌≤◌, ◌^◌, Bool, true, false, List, [], ◌∷◌}
use Rattle.std.proofs.Common.{◌++◌, length, take, Option, Some, None, is_some}
use Rattle.std.proofs.Common.{refl, sym, ◌∙◌, ap, subst, arith}
use Rattle.std.specs.Prelude.{IfSome, IsTrue, IsSome, Result, Err, if◌then◌else◌}
use Rattle.std.proofs.lemmas.Bool.{false≢true, cases_lt}
use Rattle.std.proofs.lemmas.List.{append-nil, take_all}
use Rattle.bw_model.specs.Bytes.{at}
use Rattle.bw_model.specs.Take.{Request}
use Rattle.bw_model.specs.Wire.{is_request}
use Rattle.bw_model.specs.File.{file_of}
use Rattle.bw_model.specs.Book.{Log, made}
use Rattle.bw_model.specs.CountedTurn.{is_pending}
use Rattle.bw_model.specs.ReadBack.{is_admitted}
use Rattle.std.specs.List.{list_all}
use Rattle.std.proofs.lemmas.Bool.{and_parts, and_from}
use Rattle.std.proofs.lemmas.List.{length_push}
use Rattle.bw_model.proofs.MadeTakes.{IsMade, is_made}
use Rattle.bw_journal.specs.JournalHeaders.{Header, header_bytes, header_len}
use Rattle.bw_journal.specs.Notes.{IsPrefixOf, IsShortOf}
use Rattle.bw_journal.specs.NotedJournals.{AdmitsDone, IsCut, journal_of, up_to, fits}
use Rattle.bw_journal.specs.Recovery.{IsOnTheWay}
use Rattle.bw_journal.specs.Replays.{Story, JournalFault, NotBegun, Damaged, replay}
use Rattle.bw_journal.proofs.HeaderReads.{cut_headers_are_not_begun}
use Rattle.bw_journal.proofs.Lengths.{length-header_bytes}
use Rattle.bw_session.specs.NextNumbers.{with_done}
use Rattle.bw_session.specs.NameNotes.{HasEntries}
use Rattle.bw_recovery.specs.Left.{IsLeftFile, wanted_file}
use Rattle.bw_recovery.specs.Names.{OfJournal, begins_take, name_fault, fault_beside}
use Rattle.bw_recovery.specs.LeftNames.{header_beside, IsLeftBegun}
use Rattle.bw_recovery.proofs.FewerDone.{cut_names_are_of_fewer}
use Rattle.bw_recovery.proofs.NameLemmas.{unopened}
use Rattle.bw_folder.specs.PendingNotes.{IsOnDisk}
use Rattle.bw_session.proofs.LogSteps.{take_next}
use Rattle.bw_kept.specs.KeptFolders.{HasNameFault, LiesInFolder}
use Rattle.bw_kept.specs.LeftNames.{IsWrittenInOrder, LiesAsEither}
use Rattle.bw_kept.proofs.OpenFiles.{left_file}
use Rattle.bw_kept.proofs.DiskForms.{on_disk_short}
use Rattle.bw_kept.proofs.LeftEntries.{journal_begun, nothing_cut, Ends, Cut, Whole, ends}

-- The journal of a name has what its log says, or no more than a prefix of the header where no number
-- is done.
abbrev pub Stands : Header → List ℕ → Log → Option (List ℕ) → Type 0
Stands h name log found = ((log.done ≡ 0) × IsPrefixOf (header_bytes name h) found) ⊎ HasEntries h name log found

-- What is known of a name, by what stood under it and its log.
pub record Known (limit : ℕ) (first : Option (List ℕ)) (name : List ℕ) (log : Log) (journal file : Option (List ℕ)) :
    Type 0 where
  pub admits : AdmitsDone log
  pub right : IsTrue (list_all is_admitted log.admitted)
  pub stood : (bytes : List ℕ) → first ≡ Some bytes → file ≡ Some bytes
  pub own : first ≡ None → IsOnTheWay (made false log.admitted log.done) limit (at log.admitted log.done) file
  pub stands : Stands (header_beside limit first) name log journal
  pub order : is_pending log ≡ true → IsWrittenInOrder limit first name log journal file

-- a request that waits is one of a message
waits_right : (s : List (Option Request)) (n : ℕ) → list_all is_admitted s ≡ true → (r : Request) → at s n ≡ Some r →
    IsTrue (is_request r)
waits_right [] n h r e = absurd (none e)
  where
    none : None ≡ Some r → ⊥
    none e = cc
waits_right (x ∷ s) zero h r e =
    let one = (and_parts (is_admitted x) (list_all is_admitted s) h).0 in
    sym (ap is_admitted e) ∙ one
waits_right (x ∷ s) (suc n) h r e = waits_right s n (and_parts (is_admitted x) (list_all is_admitted s) h).1 r e

module _ (limit : ℕ) (first : Option (List ℕ)) (name : List ℕ) (log : Log) (journal file : Option (List ℕ))
    (small : limit < 2 ^ 32) (k : Known limit first name log journal file) where
  abbrev h : Header
  h = header_beside limit first

  is_made_of : (existed : Bool) (n : ℕ) → IsMade (made existed log.admitted n)
  is_made_of existed n = is_made existed log.admitted n k.right

  -- the file is one that a stop leaves
  file_left : IsLeftFile first (made (is_some first) log.admitted log.done) limit file
  file_left =
      left_file first (made (is_some first) log.admitted log.done) limit (at log.admitted log.done) file
      (is_made_of (is_some first) log.done).fields k.stood
      (λ none. subst (λ (o : Option (List ℕ)). IsOnTheWay (made (is_some o) log.admitted log.done) limit
      (at log.admitted log.done) file) (sym none) (k.own none))

  -- a journal that is whole up to a cut tail
  begun_left : (bytes tail : List ℕ) → IsCut tail → bytes ≡ journal_of h name log ++ tail →
      IsLeftBegun limit first name log bytes file
  begun_left bytes tail cut e = record { tail = tail; cut = cut; notes = e; file = file_left }

  -- without a done number and a whole header the file is what existed
  untouched : log.done ≡ 0 → IsShortOf (header_bytes name h) journal → file ≡ first
  untouched none short = go (is_pending log) refl first refl
    where
      quiet : is_pending log ≡ false → first ≡ None → file ≡ None
      quiet still e = by_way (k.own e)
        where
          none_some : {X : Type 0} {x : X} → None ≡ Some x → ⊥
          none_some e = cc

          by_way : IsOnTheWay (made false log.admitted log.done) limit (at log.admitted log.done) file → file ≡ None
          by_way (inl whole) = whole ∙ sym (unopened None limit log none)
          by_way (inr m) = absurd (false≢true (sym still ∙ ap (λ (o : Option Request). is_some o) m.waiting))

      go : (v : Bool) → is_pending log ≡ v → (o : Option (List ℕ)) → first ≡ o → file ≡ first
      go true waits o e = (k.order waits).begun short
      go false still None e = quiet still e ∙ sym e
      go false still (Some bytes) e = k.stood bytes e ∙ sym e

  -- the next number is done too
  next_left : (bytes : List ℕ) → journal ≡ Some bytes → bytes ≡ journal_of h name (with_done log) →
      is_pending log ≡ true → IsLeftBegun limit first name (with_done log) bytes file
  next_left bytes is e waits = record {
    tail = [];
    cut = nothing_cut;
    notes = e ∙ sym (append-nil (journal_of h name (with_done log)));
    file = by_first first refl;
  }
    where
      now : file ≡ wanted_file first (made (is_some first) log.admitted (with_done log).done) limit
      now = (k.order waits).noted (is ∙ ap Some e)

      by_first : (o : Option (List ℕ)) → first ≡ o →
          IsLeftFile o (made (is_some o) log.admitted (with_done log).done) limit file
      by_first o e =
          left_file o (made (is_some o) log.admitted (with_done log).done) limit None file
          (is_made_of (is_some o) (with_done log).done).fields (λ bytes same. k.stood bytes (e ∙ same))
          (λ none. inl (now ∙ ap (λ (x : Option (List ℕ)). wanted_file x
          (made (is_some x) log.admitted (with_done log).done) limit) (e ∙ none)
          ∙ sym (ap (λ (x : Option (List ℕ)). file_of (made (is_some x) log.admitted (with_done log).done) limit) none)))

  -- with its header only
  header_left : (bytes : List ℕ) → log.done ≡ 0 → bytes ≡ header_bytes name h →
      IsLeftBegun limit first name log bytes file
  header_left bytes none e =
      begun_left bytes [] nothing_cut
      (e ∙ sym (journal_begun h name log none) ∙ sym (append-nil (journal_of h name log)))

  -- a prefix of a header beside a file that begins as a server's is a fault
  faulty : (count : ℕ) (bytes found : List ℕ) → count < header_len → bytes ≡ take count (header_bytes name h) →
      begins_take found ≡ true → IsSome (name_fault limit name bytes (Some found))
  faulty count bytes found short e begins =
      let said : replay limit name bytes ≡ Err NotBegun =
      ap (replay limit name) e ∙ cut_headers_are_not_begun name h count small short in
      ap (λ (r : Result Story JournalFault). is_some (fault_beside limit r (Some found))) said
      ∙ ap (λ (v : Bool). is_some (if v then Some (OfJournal Damaged) else None)) begins

  -- with a prefix of its header that isn't all of it
  torn : (bytes : List ℕ) (count : ℕ) → journal ≡ Some bytes → log.done ≡ 0 → count < header_len →
      bytes ≡ take count (header_bytes name h) → LiesInFolder limit first name log (Some bytes) file
  torn bytes count is none short e = by_file file refl
    where
      long : length (header_bytes name h) ≡ header_len
      long = length-header_bytes name h

      same : file ≡ first
      same = untouched none (inr (count, is ∙ ap Some e, omega (arith, short, long)))

      -- unless the file begins as a server's
      left : IfSome file (λ b. begins_take b ≡ false) → LiesInFolder limit first name log (Some bytes) file
      left foreign = inl (inr (record {
        none = none;
        count = count;
        short = short;
        notes = e;
        file = same;
        foreign = foreign;
      }))

      by_file : (o : Option (List ℕ)) → file ≡ o → LiesInFolder limit first name log (Some bytes) file
      by_file None is = left (subst (λ (o : Option (List ℕ)). IfSome o (λ b. begins_take b ≡ false)) (sym is) tt)
      by_file (Some found) is = by_first (begins_take found) refl
        where
          by_first : (v : Bool) → begins_take found ≡ v → LiesInFolder limit first name log (Some bytes) file
          by_first false other =
              left (subst (λ (o : Option (List ℕ)). IfSome o (λ b. begins_take b ≡ false)) (sym is) other)
          by_first true begins = inr (record {
            none = none;
            fault = subst (λ (o : Option (List ℕ)). HasNameFault limit name (Some bytes) o) (sym is)
                (faulty count bytes found short e begins);
          })

  -- with a prefix of its header
  torn_left : (bytes : List ℕ) (count : ℕ) → journal ≡ Some bytes → log.done ≡ 0 →
      bytes ≡ take count (header_bytes name h) → LiesInFolder limit first name log (Some bytes) file
  torn_left bytes count is none e = go (cases_lt count (length (header_bytes name h)))
    where
      long : length (header_bytes name h) ≡ header_len
      long = length-header_bytes name h

      go : (count < length (header_bytes name h)) ⊎ (length (header_bytes name h) ≤ count) →
          LiesInFolder limit first name log (Some bytes) file
      go (inl short) = torn bytes count is none (omega (arith, short, long)) e
      go (inr whole) = inl (inl (header_left bytes none (e ∙ take_all count (header_bytes name h) whole)))

  pub name_left : LiesAsEither limit first name log journal file
  name_left = go journal refl k.stands
    where
      some_same : {X : Type 0} {x y : X} → Some x ≡ Some y → x ≡ y
      some_same e = cc

      none_some : {X : Type 0} {x : X} → None ≡ Some x → ⊥
      none_some e = cc

      some_none : {X : Type 0} {x : X} → Some x ≡ None → ⊥
      some_none e = cc

      go : (o : Option (List ℕ)) → journal ≡ o → Stands h name log o → LiesAsEither limit first name log o file
      go None is (inl (none, p)) = inl (inl (none, untouched none (inl is)))
      go None is (inr (count, e)) = absurd (none_some e)
      go (Some bytes) is (inl (none, inl e)) = absurd (some_none e)
      go (Some bytes) is (inl (none, inr (count, e))) = inl (torn_left bytes count is none (some_same e))
      go (Some bytes) is (inr entries) =
          by_end (ends h name log bytes k.admits (waits_right log.admitted log.done k.right) entries)
        where
          by_end : Ends h name log bytes → LiesAsEither limit first name log (Some bytes) file
          by_end (Cut tail cut e) = inl (inl (inl (begun_left bytes tail cut e)))
          by_end (Whole r here e) =
              let waits : is_pending log ≡ true = ap (λ (o : Option Request). is_some o) here in
              inr (waits, inl (next_left bytes is e waits))

-- What the disk has of a name lies there by the first numbers of its log, at least those of which the entry is
-- committed.
pub record LiesByFirst (limit : ℕ) (first : Option (List ℕ)) (name : List ℕ) (log : Log) (committed : ℕ)
    (found file : Option (List ℕ)) : Type 0 where
  pub kept : ℕ
  pub most : (kept ≤ log.done) ⊎ ((is_pending log ≡ true) × (kept ≡ suc log.done))
  pub least : (n : ℕ) → n ≤ log.done →
      length (journal_of (header_beside limit first) name (up_to n log)) ≤ committed → n ≤ kept
  pub lies : LiesInFolder limit first name (up_to kept log) found file

-- all of it
whole_lies : (limit : ℕ) (first : Option (List ℕ)) (name : List ℕ) (log : Log) (committed : ℕ)
    (found file : Option (List ℕ)) → LiesAsEither limit first name log found file →
    LiesByFirst limit first name log committed found file
whole_lies limit first name log committed found file (inl lies) = record {
  kept = log.done;
  most = inl (omega arith);
  least = λ n within ends. within;
  lies = lies;
}
whole_lies limit first name log committed found file (inr (waits, left)) = record {
  kept = suc log.done;
  most = inr (waits, refl);
  least = λ n within ends. omega (arith, within);
  lies = inl left;
}

-- each number of a log is admitted, also the one that waits
admits_next : (log : Log) (r : Request) → AdmitsDone log → at log.admitted log.done ≡ Some r → IsTrue (is_request r) →
    AdmitsDone (with_done log)
admits_next log r whole here right =
    let next = take_next log.admitted log.done r here in
    let l = whole.long in
    record {
      long = ap (λ (xs : List (Option Request)). length xs) next
          ∙ (let more : length (take log.done log.admitted ++ Some r ∷ []) ≡ suc log.done =
          omega (arith, length_push (take log.done log.admitted) (Some r), l) in more);
      each = ap (λ (xs : List (Option Request)). list_all fits xs) next
          ∙ all_push (take log.done log.admitted) whole.each;
    }
  where
    all_push : (xs : List (Option Request)) → list_all fits xs ≡ true → list_all fits (xs ++ Some r ∷ []) ≡ true
    all_push [] h = and_from (is_request r) true right refl
    all_push (x ∷ xs) h =
        let both = and_parts (fits x) (list_all fits xs) h in
        and_from (fits x) (list_all fits (xs ++ Some r ∷ [])) both.0 (all_push xs both.1)

module _ (limit : ℕ) (first : Option (List ℕ)) (name : List ℕ) (log : Log) (journal file : Option (List ℕ))
    (small : limit < 2 ^ 32) (k : Known limit first name log journal file) (committed : ℕ) where
  -- a prefix of a journal that is left of this log, or of it with the number done that waits
  prefix_lies : (bytes : List ℕ) (count : ℕ) → committed ≤ count → header_len ≤ count → (most : ℕ) →
      (most ≡ log.done) ⊎ ((is_pending log ≡ true) × (most ≡ suc log.done)) → AdmitsDone (up_to most log) →
      IsLeftBegun limit first name (up_to most log) bytes file →
      LiesByFirst limit first name log committed (Some (take count bytes)) file
  prefix_lies bytes count least begun most which admits left =
      let c = cut_names_are_of_fewer limit first name (up_to most log) bytes file count admits begun (inl left) in
      let few : c.kept ≤ most = c.fewer in
      record {
        kept = c.kept;
        most = by_most c.kept few which;
        least = λ n within ends. c.each n (below n within which) (let e = ends in omega (arith, e, least));
        lies = inl c.left;
      }
    where
      below : (n : ℕ) → n ≤ log.done → (most ≡ log.done) ⊎ ((is_pending log ≡ true) × (most ≡ suc log.done)) → n ≤ most
      below n within (inl e) = omega (arith, within, e)
      below n within (inr x) = let e = x.1 in omega (arith, within, e)

      by_most : (n : ℕ) → n ≤ most → (most ≡ log.done) ⊎ ((is_pending log ≡ true) × (most ≡ suc log.done)) →
          (n ≤ log.done) ⊎ ((is_pending log ≡ true) × (n ≡ suc log.done))
      by_most n few (inl e) = inl (omega (arith, few, e))
      by_most n few (inr (waits, e)) = go (cases_lt log.done n)
        where
          go : (log.done < n) ⊎ (n ≤ log.done) → (n ≤ log.done) ⊎ ((is_pending log ≡ true) × (n ≡ suc log.done))
          go (inl over) = inr (waits, omega (arith, few, e, over))
          go (inr within) = inl within

  pub name_on_disk : (found : Option (List ℕ)) → IsOnDisk committed journal found →
      LiesByFirst limit first name log committed found file
  name_on_disk found on = by_stands k.stands on
    where
      h : Header
      h = header_beside limit first

      same_lies : found ≡ journal → LiesByFirst limit first name log committed found file
      same_lies same =
          subst (λ (o : Option (List ℕ)). LiesByFirst limit first name log committed o file) (sym same)
          (whole_lies limit first name log committed journal file (name_left limit first name log journal file small k))

      by_stands : Stands h name log journal → IsOnDisk committed journal found →
          LiesByFirst limit first name log committed found file
      by_stands s (inl same) = same_lies same
      by_stands (inl (none, p)) (inr x) =
          same_lies (on_disk_short committed (header_bytes name h) journal found
          (let long = length-header_bytes name h in omega (arith, long)) p (inr x))
      by_stands (inr entries) (inr (bytes, count, noted, is, least, begun)) =
          subst (λ (o : Option (List ℕ)). LiesByFirst limit first name log committed o file) (sym is)
          (by_end (ends h name log bytes k.admits (waits_right log.admitted log.done k.right)
          (subst (HasEntries h name log) noted entries)))
        where
          by_end : Ends h name log bytes → LiesByFirst limit first name log committed (Some (take count bytes)) file
          by_end (Cut tail cut e) =
              prefix_lies bytes count least begun log.done (inl refl) k.admits
              (begun_left limit first name log journal file small k bytes tail cut e)
          by_end (Whole r here e) =
              let waits : is_pending log ≡ true = ap (λ (o : Option Request). is_some o) here in
              prefix_lies bytes count least begun (suc log.done) (inr (waits, refl))
              (admits_next log r k.admits here (waits_right log.admitted log.done k.right r here))
              (next_left limit first name log journal file small k bytes noted e waits)

-- a header with this limit, which says whether something existed
pub header_is : (h : Header) (limit : ℕ) (first : Option (List ℕ)) → h.limit ≡ limit → h.existed ≡ is_some first →
    h ≡ header_beside limit first
header_is h limit first e f =
    ap (λ (n : ℕ). record { limit = n; existed = h.existed }) e
    ∙ ap (λ (v : Bool). record { limit = limit; existed = v }) f

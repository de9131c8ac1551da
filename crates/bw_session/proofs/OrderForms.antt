-- In which order a number is written, by which of the calls failed.
use Rattle.std.proofs.Common.{◌≡◌, inl, inr, ℕ, zero, suc, ◌+◌, ◌<◌, ◌≤◌, Bool, List, [], ◌∷◌, ◌++◌, length, take}
use Rattle.std.proofs.Common.{Option, Some, None, refl, sym, ◌∙◌, ap, subst, arith, length-append}
use Rattle.std.specs.Prelude.{is_some}
use Rattle.std.proofs.lemmas.Bool.{cases_lt}
use Rattle.std.proofs.lemmas.List.{append-nil}
use Rattle.bw_model.specs.Take.{Parts, Request, Verdict}
use Rattle.bw_model.specs.Book.{Log}
use Rattle.bw_model.specs.Holds.{finished_from}
use Rattle.bw_journal.specs.JournalHeaders.{Header, header_bytes}
use Rattle.bw_journal.specs.Entries.{content, sealed_entry, sealed_entries}
use Rattle.bw_journal.specs.Notes.{IsPrefixOf, IsShortOf, Starts, StartsInPart, Notes, NotesInPart}
use Rattle.bw_journal.specs.NotedJournals.{done_entry, entries_from, journal_of}
use Rattle.bw_journal.proofs.Lengths.{sealed-length}
use Rattle.bw_session.specs.DoneNumbers.{KeepsDone}
use Rattle.bw_session.specs.NextNumbers.{IsNext, with_done}
use Rattle.bw_session.specs.NameNotes.{entry_if, next_entry, HasEntries, IsNoted}
use Rattle.bw_session.specs.WriteOrders.{FileComesFirst, HasNothingPast}
use Rattle.bw_session.proofs.NoteForms.{begins, journal_next}

pub take_most : (n : ℕ) (xs : List ℕ) → length (take n xs) ≤ length xs
take_most zero xs = omega arith
take_most (suc n) [] = omega arith
take_most (suc n) (x ∷ xs) = let more : length (take n xs) ≤ length xs = take_most n xs in omega (arith, more)

-- a journal is no shorter than its header
header_first : (h : Header) (name : List ℕ) (log : Log) → length (header_bytes name h) ≤ length (journal_of h name log)
header_first h name log =
    let sum = length-append (header_bytes name h)
    (sealed_entries (entries_from h.existed log.admitted name 0 (take log.done log.admitted))) in
    omega (arith, sum)

-- what begins with the header is no shorter
pub not_short : (h : Header) (name : List ℕ) (log : Log) (rest : List ℕ) (notes : Option (List ℕ)) →
    notes ≡ Some (journal_of h name log ++ rest) → IsShortOf (header_bytes name h) notes → ⊥
not_short h name log rest notes e (inl none) = absurd (some_none (sym e ∙ none))
  where
    some_none : {X : Type 0} {x : X} → Some x ≡ None → ⊥
    some_none e = cc
not_short h name log rest notes e (inr (count, is, short)) =
    let same : length (journal_of h name log ++ rest) ≡ length (take count (header_bytes name h)) =
    ap length (some_same (sym e ∙ is)) in
    let sum = length-append (journal_of h name log) rest in
    let long = header_first h name log in
    let few = take_count count (header_bytes name h) in
    omega (arith, same, sum, long, few, short)
  where
    some_same : {X : Type 0} {x y : X} → Some x ≡ Some y → x ≡ y
    some_same e = cc

    take_count : (n : ℕ) (xs : List ℕ) → length (take n xs) ≤ n
    take_count zero xs = omega arith
    take_count (suc n) [] = omega arith
    take_count (suc n) (x ∷ xs) = let more : length (take n xs) ≤ n = take_count n xs in omega (arith, more)

-- before number 0 a journal is its header
pub begun_length : (h : Header) (name : List ℕ) (log : Log) → log.done ≡ 0 →
    length (journal_of h name log) ≡ length (header_bytes name h)
begun_length h name log e =
    ap (λ (n : ℕ). length (journal_of h name (record { admitted = log.admitted; done = n }))) e
    ∙ ap length (append-nil (header_bytes name h))

-- after a `begin` no byte comes after the noted ones
module _ (h : Header) (name : List ℕ) (log : Log) (offset : ℕ) (before found : Option (List ℕ))
    (noted : IsNoted h name log offset before) (ends : HasNothingPast offset before) where
  header_ends : log.done ≡ 0 → length (header_bytes name h) ≤ offset
  header_ends none = let e = begun_length h name log none in let o = noted.offset_is in omega (arith, e, o)

  pub begun_ends : (log.done ≡ 0 → Starts (header_bytes name h) before found) → (1 ≤ log.done → found ≡ before) →
      HasNothingPast offset found
  begun_ends starts same = go log.done refl
    where
      by_start : log.done ≡ 0 → Starts (header_bytes name h) before found → HasNothingPast offset found
      by_start none s = elim s.only [
        | inl e ↦ subst (HasNothingPast offset) (sym e) ends
        | inr p ↦ subst (HasNothingPast offset) (sym (s.written p)) (header_ends none)
      ]

      go : (n : ℕ) → log.done ≡ n → HasNothingPast offset found
      go zero e = by_start e (starts e)
      go (suc n) e = subst (HasNothingPast offset) (sym (same (omega (arith, e)))) ends

  pub part_ends : log.done ≡ 0 → StartsInPart (header_bytes name h) before found → HasNothingPast offset found
  part_ends none s = elim s.only [
    | inl e ↦ subst (HasNothingPast offset) (sym e) ends
    | inr p ↦ by_prefix found (s.prefix p)
  ]
    where
      by_prefix : (o : Option (List ℕ)) → IsPrefixOf (header_bytes name h) o → HasNothingPast offset o
      by_prefix None p = tt
      by_prefix (Some bytes) (inl e) = absurd (some_none e)
        where
          some_none : {X : Type 0} {x : X} → Some x ≡ None → ⊥
          some_none e = cc
      by_prefix (Some bytes) (inr (count, e)) =
          let same : length bytes ≡ length (take count (header_bytes name h)) = ap length (some_same e) in
          let few = take_most count (header_bytes name h) in
          let long = header_ends none in
          omega (arith, same, few, long)
        where
          some_same : {X : Type 0} {x y : X} → Some x ≡ Some y → x ≡ y
          some_same e = cc

-- of a request that is next
module _ (first : Option (List ℕ)) (h : Header) (log : Log) (p : Parts) (finished : List (List ℕ × Verdict))
    (r : Request) (owner name digest : List ℕ) (existed : h.existed ≡ is_some first) (same : owner ≡ name)
    (memory : KeepsDone (is_some first) owner log p finished) (next : IsNext name log r digest) where
  entries_are : finished ≡ finished_from h.existed log.admitted name 0 (take log.done log.admitted)
  entries_are =
      subst (λ (x : List ℕ). finished ≡ finished_from h.existed log.admitted x 0 (take log.done log.admitted)) same
      (subst (λ (b : Bool). finished ≡ finished_from b log.admitted owner 0 (take log.done log.admitted))
      (sym existed) memory.finished_are)

  longer : length (journal_of h name log) < length (journal_of h name (with_done log))
  longer =
      let whole = ap length (journal_next h name log r finished memory.done entries_are next.here) in
      let sum = length-append (journal_of h name log) (next_entry h.existed name log) in
      let entry : length (next_entry h.existed name log)
      ≡ length (sealed_entry (done_entry h.existed log.admitted name log.done r)) =
      ap (λ (o : Option Request). length (entry_if h.existed name log.admitted log.done o)) next.here in
      omega (arith, whole, sum, entry, (sealed-length (content (done_entry h.existed log.admitted name log.done r))).0)

  pub no_next : (offset : ℕ) (notes : Option (List ℕ)) → offset ≡ length (journal_of h name log) → HasNothingPast offset notes →
      notes ≡ Some (journal_of h name (with_done log)) → ⊥
  no_next offset notes place ends is =
      let short : length (journal_of h name (with_done log)) ≤ offset = subst (HasNothingPast offset) is ends in
      omega (arith, longer, place, short)

-- after a note no byte follows the noted ones
pub noted_ends : (h : Header) (name : List ℕ) (log : Log) (offset len : ℕ) (entry : List ℕ) (before notes : Option (List ℕ)) →
    offset ≡ length (journal_of h name log) → HasEntries h name log before → entry ≡ next_entry h.existed name log →
    len ≡ length entry → Notes offset entry before notes → HasNothingPast (offset + len) notes
noted_ends h name log offset len entry before notes place entries is long writes =
    let now = writes (journal_of h name log) entries.0
    (entries.1 ∙ ap (λ (x : List ℕ). Some (journal_of h name log ++ take entries.0 x)) (sym is)) (sym place) in
    let sum = length-append (journal_of h name log) entry in
    subst (HasNothingPast (offset + len)) (sym now) (let l : length (journal_of h name log ++ entry) ≤ offset + len =
    omega (arith, place, long, sum) in l)

-- what begins with some bytes isn't short of them
not_less : (bytes rest : List ℕ) (found : Option (List ℕ)) → found ≡ Some (bytes ++ rest) → IsShortOf bytes found → ⊥
not_less bytes rest found e (inl none) = absurd (some_none (sym e ∙ none))
  where
    some_none : {X : Type 0} {x : X} → Some x ≡ None → ⊥
    some_none e = cc
not_less bytes rest found e (inr (count, is, short)) =
    let same : length (bytes ++ rest) ≡ length (take count bytes) = ap length (some_same (sym e ∙ is)) in
    let sum = length-append bytes rest in
    let few = take_count count bytes in
    omega (arith, same, sum, few, short)
  where
    some_same : {X : Type 0} {x y : X} → Some x ≡ Some y → x ≡ y
    some_same e = cc

    take_count : (n : ℕ) (xs : List ℕ) → length (take n xs) ≤ n
    take_count zero xs = omega arith
    take_count (suc n) [] = omega arith
    take_count (suc n) (x ∷ xs) = let more : length (take n xs) ≤ n = take_count n xs in omega (arith, more)

take_all : (n : ℕ) (xs : List ℕ) → length xs ≤ n → take n xs ≡ xs
take_all zero [] long = refl
take_all zero (x ∷ xs) long = absurd (omega (arith, long))
take_all (suc n) [] long = refl
take_all (suc n) (x ∷ xs) long = ap (λ (ys : List ℕ). x ∷ ys) (take_all n xs (omega (arith, long)))

-- what a failed `begin` leaves is short of the header only if it was before
short_before : (h : Header) (name : List ℕ) (log : Log) (offset : ℕ) (before notes : Option (List ℕ)) →
    IsNoted h name log offset before → StartsInPart (header_bytes name h) before notes →
    IsShortOf (header_bytes name h) notes → IsShortOf (header_bytes name h) before
short_before h name log offset before notes noted starts short = elim noted.stands [
  | inl p ↦ by_prefix p.1
  | inr entries ↦ absurd (not_short h name log _ notes (starts.kept (begins h name log before entries) ∙ entries.1) short)
]
  where
    header : List ℕ
    header = header_bytes name h

    by_prefix : IsPrefixOf header before → IsShortOf header before
    by_prefix (inl none) = inl none
    by_prefix (inr (count, e)) = elim (cases_lt count (length header)) [
      | inl less ↦ inr (count, e, less)
      | inr long ↦
          let whole : before ≡ Some (header ++ []) =
          e ∙ ap Some (take_all count header long ∙ sym (append-nil header)) in
          absurd (not_less header [] notes (starts.kept ([], whole) ∙ whole) short)
    ]

-- By which of the calls failed.

-- a `begin`: the file is as it was
pub order_unbegun : (h : Header) (first : Option (List ℕ)) (name : List ℕ) (log : Log) (offset : ℕ)
    (before notes file : Option (List ℕ)) (C : Type 0) → IsNoted h name log offset before →
    FileComesFirst h first name offset C before file → log.done ≡ 0 → StartsInPart (header_bytes name h) before notes →
    FileComesFirst h first name offset C notes file
order_unbegun h first name log offset before notes file C noted order none starts = record {
  begun = λ short. order.begun (short_before h name log offset before notes noted starts short);
  entered = elim order.entered [
    | inl ends ↦ inl (part_ends h name log offset before notes noted ends none starts)
    | inr carried ↦ inr carried
  ];
}

-- one of the store, of a request that wasn't carried out: nothing is noted of it
pub order_unwritten : (h : Header) (first : Option (List ℕ)) (name : List ℕ) (log : Log) (offset : ℕ)
    (before notes file file' : Option (List ℕ)) (C D : Type 0) → IsNoted h name log offset before →
    FileComesFirst h first name offset C before file → (C → ⊥) → HasEntries h name log notes →
    (log.done ≡ 0 → Starts (header_bytes name h) before notes) → (1 ≤ log.done → notes ≡ before) →
    FileComesFirst h first name offset D notes file'
order_unwritten h first name log offset before notes file file' C D noted order uncarried entries starts same = record {
  begun = λ short. absurd (not_short h name log _ notes entries.1 short);
  entered = elim order.entered [
    | inl ends ↦ inl (begun_ends h name log offset before notes noted ends starts same)
    | inr carried ↦ absurd (uncarried carried)
  ];
}

-- the note: its request is carried out
pub order_unnoted : (h : Header) (first : Option (List ℕ)) (name : List ℕ) (log : Log) (offset : ℕ) (entry : List ℕ)
    (before notes file : Option (List ℕ)) (C : Type 0) → offset ≡ length (journal_of h name log) →
    HasEntries h name log before → entry ≡ next_entry h.existed name log → NotesInPart offset entry before notes → C →
    FileComesFirst h first name offset C notes file
order_unnoted h first name log offset entry before notes file C place entries is part carried =
    let now = part (journal_of h name log) entries.0
    (entries.1 ∙ ap (λ (x : List ℕ). Some (journal_of h name log ++ take entries.0 x)) (sym is)) (sym place) in
    record {
      begun = λ short. absurd (not_short h name log _ notes now.1 short);
      entered = inr carried;
    }

-- none: the number is done
pub order_done : (h : Header) (first : Option (List ℕ)) (name : List ℕ) (log : Log) (offset len : ℕ) (entry : List ℕ)
    (before notes file : Option (List ℕ)) (C : Type 0) → offset ≡ length (journal_of h name log) →
    HasEntries h name log before → entry ≡ next_entry h.existed name log → len ≡ length entry →
    Notes offset entry before notes → FileComesFirst h first name (offset + len) C notes file
order_done h first name log offset len entry before notes file C place entries is long writes =
    let now = writes (journal_of h name log) entries.0
    (entries.1 ∙ ap (λ (x : List ℕ). Some (journal_of h name log ++ take entries.0 x)) (sym is)) (sym place) in
    record {
      begun = λ short. absurd (not_short h name log entry notes now short);
      entered = inl (noted_ends h name log offset len entry before notes place entries is long writes);
    }

-- the order with another word for what is carried out
pub order_as : (h : Header) (first : Option (List ℕ)) (name : List ℕ) (offset : ℕ) (notes file : Option (List ℕ))
    (C D : Type 0) → (C → D) → FileComesFirst h first name offset C notes file →
    FileComesFirst h first name offset D notes file
order_as h first name offset notes file C D then order = record {
  begun = order.begun;
  entered = elim order.entered [
    | inl ends ↦ inl ends
    | inr carried ↦ inr (then carried)
  ];
}

-- a step that keeps the order at one name and header, said of others that are the same
pub order_then : (n name : List ℕ) (head : List ℕ → Header) (h : Header) (first : Option (List ℕ)) (log : Log)
    (offset offset' : ℕ) (C D : Type 0) (before after file file' : List ℕ → Option (List ℕ)) → n ≡ name →
    head name ≡ h →
    ((head n).existed ≡ is_some first → IsNoted (head n) n log offset (before n) →
    FileComesFirst (head n) first n offset C (before n) (file n) →
    FileComesFirst (head n) first n offset' D (after n) (file' n)) →
    h.existed ≡ is_some first → IsNoted h name log offset (before name) →
    FileComesFirst h first name offset C (before name) (file name) →
    FileComesFirst h first name offset' D (after name) (file' name)
order_then n name head h first log offset offset' C D before after file file' same begun step =
    subst (λ (x : Header). x.existed ≡ is_some first → IsNoted x name log offset (before name) →
    FileComesFirst x first name offset C (before name) (file name) →
    FileComesFirst x first name offset' D (after name) (file' name)) begun
    (subst (λ (x : List ℕ). (head x).existed ≡ is_some first → IsNoted (head x) x log offset (before x) →
    FileComesFirst (head x) first x offset C (before x) (file x) →
    FileComesFirst (head x) first x offset' D (after x) (file' x)) same step)

-- The journal of a name has its done numbers, and a prefix of one entry more or that entry.
use Rattle.std.proofs.Common.{◌≡◌, ◌⊎◌, inl, inr, ℕ, zero, suc, ◌+◌, ◌<◌, ◌≤◌, Bool, true, List, [], ◌∷◌, ◌++◌, length}
use Rattle.std.proofs.Common.{take, Option, Some, None, refl, sym, ◌∙◌, ap, arith}
use Rattle.std.specs.Prelude.{IsTrue}
use Rattle.std.specs.List.{list_all}
use Rattle.std.proofs.lemmas.Bool.{and_parts, cases_lt}
use Rattle.std.proofs.lemmas.List.{append-nil, flat_map_more, take_all}
use Rattle.sha2.proofs.Facts256.{length-sha256}
use Rattle.bw_model.specs.Bytes.{at, zeros}
use Rattle.bw_model.specs.Take.{Request, Close, Stored}
use Rattle.bw_model.specs.Wire.{is_request}
use Rattle.bw_model.specs.Book.{Log}
use Rattle.bw_model.specs.Holds.{body_of}
use Rattle.bw_journal.specs.JournalHeaders.{Header, header_bytes}
use Rattle.bw_journal.specs.Entries.{JournalEntry, sealed_entry, sealed_entries}
use Rattle.bw_journal.specs.NotedJournals.{IsNotable, IsCut, AdmitsDone, fits, done_entry, entries_from, journal_of}
use Rattle.bw_journal.proofs.Lengths.{entry_length}
use Rattle.bw_session.specs.NextNumbers.{with_done}
use Rattle.bw_session.specs.NameNotes.{entry_if, next_entry, HasEntries}
use Rattle.bw_session.proofs.LogSteps.{take_next}

-- before number 0 a journal is its header
pub journal_begun : (h : Header) (name : List ℕ) (log : Log) → log.done ≡ 0 →
    journal_of h name log ≡ header_bytes name h
journal_begun h name log e =
    ap (λ (n : ℕ). journal_of h name (record { admitted = log.admitted; done = n })) e ∙ append-nil (header_bytes name h)

-- one more entry
entries_push : (existed : Bool) (s : List (Option Request)) (name : List ℕ) (n : ℕ) (xs : List (Option Request))
    (r : Request) → list_all fits xs ≡ true →
    entries_from existed s name n (xs ++ Some r ∷ [])
    ≡ entries_from existed s name n xs ++ done_entry existed s name (n + length xs) r ∷ []
entries_push existed s name n [] r h =
    ap (λ (k : ℕ). done_entry existed s name k r ∷ []) (let same : n ≡ n + 0 = omega arith in same)
entries_push existed s name n (None ∷ xs) r h = absurd cc
entries_push existed s name n (Some x ∷ xs) r h =
    let place : suc n + length xs ≡ n + suc (length xs) = omega arith in
    ap (λ (ys : List JournalEntry). done_entry existed s name n x ∷ ys)
    (entries_push existed s name (suc n) xs r (and_parts (is_request x) (list_all fits xs) h).1
    ∙ ap (λ (k : ℕ). entries_from existed s name (suc n) xs ++ done_entry existed s name k r ∷ []) place)

-- the journal of one more done number
journal_next : (h : Header) (name : List ℕ) (log : Log) (r : Request) → AdmitsDone log →
    at log.admitted log.done ≡ Some r →
    journal_of h name (with_done log)
    ≡ journal_of h name log ++ sealed_entry (done_entry h.existed log.admitted name log.done r)
journal_next h name log r whole here =
    let s : List (Option Request) = log.admitted in
    let prefix : List (Option Request) = take log.done s in
    let place : 0 + length prefix ≡ log.done = omega (arith, whole.long) in
    ap (λ (xs : List (Option Request)). header_bytes name h ++ sealed_entries (entries_from h.existed s name 0 xs))
    (take_next s log.done r here)
    ∙ ap (λ (es : List JournalEntry). header_bytes name h ++ sealed_entries es)
    (entries_push h.existed s name 0 prefix r whole.each
    ∙ ap (λ (k : ℕ). entries_from h.existed s name 0 prefix ++ done_entry h.existed s name k r ∷ []) place)
    ∙ sym (flat_map_more sealed_entry (header_bytes name h) (entries_from h.existed s name 0 prefix)
    (done_entry h.existed s name log.done r))

-- an entry
abbrev some_entry : JournalEntry
some_entry = record { request = Close 0; verdict = Stored; digest = zeros 32 }

-- no byte of one
pub nothing_cut : IsCut []
nothing_cut =
    let long = entry_length some_entry refl in
    record { entry = some_entry; notable = (refl, refl); count = 0; short = omega (arith, long); prefix = refl }

take_none : (n : ℕ) (xs : List ℕ) → xs ≡ [] → take n xs ≡ []
take_none zero xs e = refl
take_none (suc n) xs e = ap (take (suc n)) e

-- The journal has no more than a prefix of one entry after the done numbers, or the one after them.
pub data Ends (h : Header) (name : List ℕ) (log : Log) (journal : List ℕ) : Type 0 where
  Cut : (tail : List ℕ) → IsCut tail → journal ≡ journal_of h name log ++ tail → Ends h name log journal
  Whole : (r : Request) → at log.admitted log.done ≡ Some r → journal ≡ journal_of h name (with_done log) →
      Ends h name log journal

notable_entry : (existed : Bool) (name : List ℕ) (log : Log) (r : Request) → IsTrue (is_request r) →
    IsNotable (done_entry existed log.admitted name log.done r)
notable_entry existed name log r right = (right, length-sha256 (body_of name log.done r))

pub ends : (h : Header) (name : List ℕ) (log : Log) (journal : List ℕ) → AdmitsDone log →
    ((r : Request) → at log.admitted log.done ≡ Some r → IsTrue (is_request r)) →
    HasEntries h name log (Some journal) → Ends h name log journal
ends h name log journal whole right (count, e) = go (at log.admitted log.done) refl
  where
    some_same : {X : Type 0} {x y : X} → Some x ≡ Some y → x ≡ y
    some_same e = cc

    is : journal ≡ journal_of h name log ++ take count (next_entry h.existed name log)
    is = some_same e

    here : (o : Option Request) → at log.admitted log.done ≡ o →
        journal ≡ journal_of h name log ++ take count (entry_if h.existed name log.admitted log.done o)
    here o same =
        is ∙ ap (λ (o : Option Request). journal_of h name log ++ take count (entry_if h.existed name log.admitted log.done o))
        same

    go : (o : Option Request) → at log.admitted log.done ≡ o → Ends h name log journal
    go None same =
        Cut [] nothing_cut (here None same ∙ ap (λ (t : List ℕ). journal_of h name log ++ t) (take_none count [] refl))
    go (Some r) same = by_length (cases_lt count (length entry))
      where
        entry : List ℕ
        entry = sealed_entry (done_entry h.existed log.admitted name log.done r)

        by_length : (count < length entry) ⊎ (length entry ≤ count) → Ends h name log journal
        by_length (inl short) = Cut (take count entry) (record {
          entry = done_entry h.existed log.admitted name log.done r;
          notable = notable_entry h.existed name log r (right r same);
          count = count;
          short = short;
          prefix = refl;
        }) (here (Some r) same)
        by_length (inr long) = Whole r same (
            here (Some r) same
            ∙ ap (λ (t : List ℕ). journal_of h name log ++ t) (take_all count entry long)
            ∙ sym (journal_next h name log r whole same)
            )

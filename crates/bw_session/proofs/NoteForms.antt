-- What the calls of a journal leave under a name, by which of them failed.
use Rattle.std.proofs.Common.{◌≡◌, ℕ, zero, suc, ◌+◌, ◌≤◌, Bool, List, [], ◌∷◌, ◌++◌, length, take, Option, Some, None}
use Rattle.std.proofs.Common.{refl, sym, ◌∙◌, ap, subst, arith, ◌⊎◌, inl, inr, append_assoc, length-append}
use Rattle.std.specs.Prelude.{is_some}
use Rattle.std.proofs.lemmas.List.{append-nil, flat_map_more}
use Rattle.bw_model.specs.Bytes.{at}
use Rattle.bw_model.specs.Take.{Parts, Request, Verdict}
use Rattle.bw_model.specs.Book.{Log, verdict_at}
use Rattle.bw_model.specs.Holds.{finished_from}
use Rattle.bw_journal.specs.JournalHeaders.{Header, header_bytes}
use Rattle.bw_journal.specs.Entries.{JournalEntry, sealed_entry, sealed_entries}
use Rattle.bw_journal.specs.Notes.{IsPrefixOf, BeginsWith, Starts, StartsInPart, Notes, NotesInPart}
use Rattle.bw_journal.specs.NotedJournals.{done_entry, entries_from, journal_of}
use Rattle.bw_file.specs.GrowingFiles.{Growing}
use Rattle.bw_session.specs.Prefixes.{Carried}
use Rattle.bw_session.specs.NextNumbers.{IsNext, with_done, noted_of}
use Rattle.bw_session.specs.NameNotes.{entry_if, next_entry, HasEntries, IsNoted}
use Rattle.bw_session.proofs.LogSteps.{take_next, finished-short, take-short, verdict_here}

-- before number 0 a journal is its header
start : (h : Header) (name : List ℕ) (s : List (Option Request)) (n : ℕ) → n ≡ 0 →
    journal_of h name (record { admitted = s; done = n }) ≡ header_bytes name h
start h name s n e =
    ap (λ (k : ℕ). journal_of h name (record { admitted = s; done = k })) e ∙ append-nil (header_bytes name h)

pub begins : (h : Header) (name : List ℕ) (log : Log) (found : Option (List ℕ)) → HasEntries h name log found →
    BeginsWith (header_bytes name h) found
begins h name log found (count, e) = (
  _,
  e ∙ ap Some (append_assoc (header_bytes name h) _ (take count (next_entry h.existed name log))),
)

-- after a `begin` that succeeds, where one is made
pub begun_notes : (h : Header) (name : List ℕ) (log : Log) (offset : ℕ) (before found : Option (List ℕ)) →
    IsNoted h name log offset before → (log.done ≡ 0 → Starts (header_bytes name h) before found) →
    (1 ≤ log.done → found ≡ before) → HasEntries h name log found
begun_notes h name log offset before found noted starts same = by_number log.done refl noted.stands
  where
    by_number : (n : ℕ) → log.done ≡ n →
        ((log.done ≡ 0) × IsPrefixOf (header_bytes name h) before) ⊎ HasEntries h name log before →
        HasEntries h name log found
    by_number zero e (inl prefix) = (
      0,
      (starts e).written prefix.1 ∙ ap Some (sym (start h name log.admitted log.done e) ∙ sym (append-nil _)),
    )
    by_number zero e (inr entries) =
        ((entries.0, (starts e).kept (begins h name log before entries) ∙ entries.1))
    by_number (suc n) e (inl prefix) = let none = prefix.0 in absurd (omega (arith, e, none))
    by_number (suc n) e (inr entries) = (entries.0, same (omega (arith, e)) ∙ entries.1)

-- that fails
pub begun_in_part : (h : Header) (name : List ℕ) (log : Log) (offset : ℕ) (before found : Option (List ℕ)) →
    IsNoted h name log offset before → StartsInPart (header_bytes name h) before found → IsNoted h name log offset found
begun_in_part h name log offset before found noted starts = record {
  offset_is = noted.offset_is;
  stands = elim noted.stands [
    | inl prefix ↦ inl (prefix.0, starts.prefix prefix.1)
    | inr entries ↦ inr (entries.0, starts.kept (begins h name log before entries) ∙ entries.1)
  ];
}

-- one more entry
entries_push : (existed : Bool) (s : List (Option Request)) (name : List ℕ) (n : ℕ) (xs : List (Option Request))
    (r : Request) → length (finished_from existed s name n xs) ≡ length xs →
    entries_from existed s name n (xs ++ Some r ∷ []) ≡
    entries_from existed s name n xs ++ done_entry existed s name (n + length xs) r ∷ []
entries_push existed s name n [] r e =
    ap (λ (k : ℕ). done_entry existed s name k r ∷ []) (let same : n ≡ n + 0 = omega arith in same)
entries_push existed s name n (None ∷ xs) r e = absurd (omega (arith, e))
entries_push existed s name n (Some x ∷ xs) r e =
    let rest : length (finished_from existed s name (suc n) xs) ≡ length xs = omega (arith, e) in
    let place : suc n + length xs ≡ n + suc (length xs) = omega arith in
    ap (λ (ys : List JournalEntry). done_entry existed s name n x ∷ ys)
    (entries_push existed s name (suc n) xs r rest
    ∙ ap (λ (k : ℕ). entries_from existed s name (suc n) xs ++ done_entry existed s name k r ∷ []) place)

-- the journal of one more done number
pub journal_next : (h : Header) (name : List ℕ) (log : Log) (r : Request) (finished : List (List ℕ × Verdict)) →
    length finished ≡ log.done →
    finished ≡ finished_from h.existed log.admitted name 0 (take log.done log.admitted) →
    at log.admitted log.done ≡ Some r →
    journal_of h name (with_done log) ≡ journal_of h name log ++ next_entry h.existed name log
journal_next h name log r finished done finished_are here =
    let n : ℕ = log.done in
    let s : List (Option Request) = log.admitted in
    let prefix : List (Option Request) = take n s in
    let long : length (finished_from h.existed s name 0 prefix) ≡ n = ap length (sym finished_are) ∙ done in
    let few = finished-short h.existed s name 0 prefix in
    let small = take-short n s in
    let whole : length (finished_from h.existed s name 0 prefix) ≡ length prefix = omega (arith, long, few, small) in
    let place : 0 + length prefix ≡ n = omega (arith, long, few, small) in
    let e : JournalEntry = done_entry h.existed s name n r in
    ap (λ (xs : List (Option Request)). header_bytes name h ++ sealed_entries (entries_from h.existed s name 0 xs))
    (take_next s n r here)
    ∙ ap (λ (es : List JournalEntry). header_bytes name h ++ sealed_entries es)
    (entries_push h.existed s name 0 prefix r whole
    ∙ ap (λ (k : ℕ). entries_from h.existed s name 0 prefix ++ done_entry h.existed s name k r ∷ []) place)
    ∙ sym (flat_map_more sealed_entry (header_bytes name h) (entries_from h.existed s name 0 prefix) e)
    ∙ ap (λ (o : Option Request). journal_of h name log ++ entry_if h.existed name s n o) (sym here)

-- what is noted of the next number is its entry
entry_noted : (existed : Bool) (name : List ℕ) (log : Log) (v : Verdict) (r : Request) (digest : List ℕ) →
    IsNext name log r digest → v ≡ verdict_at existed log.admitted log.done →
    noted_of v digest r ≡ next_entry existed name log
entry_noted existed name log v r digest next is =
    ap (λ (x : Verdict). noted_of x digest r) is
    ∙ ap (λ (d : List ℕ). noted_of (verdict_at existed log.admitted log.done) d r) next.digest_is
    ∙ ap (λ (o : Option Request). entry_if existed name log.admitted log.done o) (sym next.here)

-- after a `note` that succeeds
noted_next : (h : Header) (name : List ℕ) (log : Log) (offset len : ℕ) (before found : Option (List ℕ))
    (finished : List (List ℕ × Verdict)) (v : Verdict) (r : Request) (digest : List ℕ) →
    offset ≡ length (journal_of h name log) → HasEntries h name log before → length finished ≡ log.done →
    finished ≡ finished_from h.existed log.admitted name 0 (take log.done log.admitted) → IsNext name log r digest →
    v ≡ verdict_at h.existed log.admitted log.done → len ≡ length (noted_of v digest r) →
    Notes offset (noted_of v digest r) before found → IsNoted h name (with_done log) (offset + len) found
noted_next h name log offset len before found finished v r digest place stands done finished_are next is long notes =
    let bytes : noted_of v digest r ≡ next_entry h.existed name log = entry_noted h.existed name log v r digest next is in
    let whole = journal_next h name log r finished done finished_are next.here in
    let now : found ≡ Some (journal_of h name log ++ noted_of v digest r) =
    notes (journal_of h name log) stands.0
    (stands.1 ∙ ap (λ (x : List ℕ). Some (journal_of h name log ++ take stands.0 x)) (sym bytes)) (sym place) in
    record {
      offset_is =
          let sum = length-append (journal_of h name log) (next_entry h.existed name log) in
          let all = ap length whole in
          let same = ap length bytes in
          omega (arith, place, long, sum, all, same);
      stands = inr (
        0,
        now ∙ ap (λ (x : List ℕ). Some (journal_of h name log ++ x)) bytes
            ∙ ap Some (sym whole ∙ sym (append-nil (journal_of h name (with_done log)))),
      );
    }

-- that fails
noted_in_part : (h : Header) (name : List ℕ) (log : Log) (offset : ℕ) (before found : Option (List ℕ))
    (v : Verdict) (r : Request) (digest : List ℕ) →
    offset ≡ length (journal_of h name log) → HasEntries h name log before → IsNext name log r digest →
    v ≡ verdict_at h.existed log.admitted log.done → NotesInPart offset (noted_of v digest r) before found →
    IsNoted h name log offset found
noted_in_part h name log offset before found v r digest place stands next is notes =
    let bytes : noted_of v digest r ≡ next_entry h.existed name log = entry_noted h.existed name log v r digest next is in
    let now = notes (journal_of h name log) stands.0
    (stands.1 ∙ ap (λ (x : List ℕ). Some (journal_of h name log ++ take stands.0 x)) (sym bytes)) (sym place) in
    record {
      offset_is = place;
      stands = inr (now.0, now.1 ∙ ap (λ (x : List ℕ). Some (journal_of h name log ++ take now.0 x)) bytes);
    }

-- The same of a request that was carried out.
module _ (first : Option (List ℕ)) (h : Header) (log : Log) (v : Verdict) (p : Parts)
    (finished : List (List ℕ × Verdict)) (r : Request) (g : Growing) (file : Option (List ℕ)) (name digest : List ℕ)
    (existed : h.existed ≡ is_some first) (same : g.name ≡ name) (c : Carried first log v p finished r g file)
    (next : IsNext name log r digest) where
  judged : v ≡ verdict_at h.existed log.admitted log.done
  judged =
      c.verdict_is ∙ sym (verdict_here (is_some first) log.admitted log.done r next.here)
      ∙ ap (λ (b : Bool). verdict_at b log.admitted log.done) (sym existed)

  pub carried_noted : (offset len : ℕ) (before found : Option (List ℕ)) → offset ≡ length (journal_of h name log) →
      HasEntries h name log before → len ≡ length (noted_of v digest r) →
      Notes offset (noted_of v digest r) before found → IsNoted h name (with_done log) (offset + len) found
  carried_noted offset len before found place stands long notes =
      let finished_are : finished ≡ finished_from h.existed log.admitted name 0 (take log.done log.admitted) =
      subst (λ (x : List ℕ). finished ≡ finished_from h.existed log.admitted x 0 (take log.done log.admitted)) same
      (subst (λ (b : Bool). finished ≡ finished_from b log.admitted g.name 0 (take log.done log.admitted))
      (sym existed) c.memory.finished_are) in
      noted_next h name log offset len before found finished v r digest place stands c.memory.done finished_are next
      judged long notes

  pub carried_in_part : (offset : ℕ) (before found : Option (List ℕ)) → offset ≡ length (journal_of h name log) →
      HasEntries h name log before → NotesInPart offset (noted_of v digest r) before found →
      IsNoted h name log offset found
  carried_in_part offset before found place stands notes =
      noted_in_part h name log offset before found v r digest place stands next judged notes

  pub carried_entry : noted_of v digest r ≡ next_entry h.existed name log
  carried_entry = entry_noted h.existed name log v r digest next judged

-- A journal says what the server kept.
use Rattle.std.proofs.Common.{◌≡◌, ℕ, zero, suc, ◌+◌, Bool, true, cond, Option, Some, None, Ok, Err, List}
use Rattle.std.proofs.Common.{[], ◌∷◌, ◌++◌, length, take, drop, map, refl, sym, ap, ◌∙◌, append_assoc, arith}
use Rattle.std.specs.Prelude.{fold, ◌==◌}
use Rattle.std.specs.List.{list_all}
use Rattle.std.proofs.lemmas.Bool.{and_parts, eq-eqb}
use Rattle.std.proofs.lemmas.List.{append-nil, drop_at, length-append, take-append-drop}
use Rattle.std.proofs.lemmas.List.Sums.{fold-append}
use Rattle.sha2.specs.Sha256.{sha256}
use Rattle.sha2.proofs.Facts256.{length-sha256}
use Rattle.bw_model.specs.Bytes.{at}
use Rattle.bw_model.specs.Take.{Take, Request, Verdict, new_take, parts, after, verdict}
use Rattle.bw_model.specs.Wire.{is_request}
use Rattle.bw_model.specs.Replies.{verdict_code}
use Rattle.bw_model.specs.Book.{Log, made, step, verdict_at, verdict_by}
use Rattle.bw_model.specs.Holds.{body_of, finished_from}
use Rattle.bw_model.proofs.BookLemmas.{name_refl}
use Rattle.bw_model.proofs.MapLemmas.{at-drop}
use Rattle.bw_journal.specs.Lines.{journal_lines}
use Rattle.bw_journal.specs.Seals.{check}
use Rattle.bw_journal.specs.Entries.{JournalEntry, content, entry_line, sealed_entry, sealed_entries}
use Rattle.bw_journal.specs.JournalHeaders.{Header, header_bytes, header_len}
use Rattle.bw_journal.specs.Replays.{Story, OtherName, OtherLimit, replayed, replay, replayed_after, replayed_entries}
use Rattle.bw_journal.specs.Replays.{beginning}
use Rattle.bw_journal.specs.NotedJournals.{IsNotable, IsHeader, bare_entry, fits, entries_from, packed}
use Rattle.bw_journal.specs.NotedJournals.{journal_of, story_of_log, up_to, JournalsReportLogs}
use Rattle.bw_journal.proofs.BareLaws.{parts_alike, entry_judged}
use Rattle.bw_journal.proofs.EntryLaws.{entry_again}
use Rattle.bw_journal.proofs.HeaderReads.{headers_read_back}
use Rattle.bw_journal.proofs.Lengths.{length-header_bytes}
use Rattle.bw_journal.proofs.ReplaySteps.{goes_on}
use Rattle.bw_journal.proofs.SealLaws.{sealed_first, opened-line, cut_sealed}

-- the entries and the outcomes of requests, from a take and a number on
abbrev entry_by : Take → List ℕ → ℕ → Request → JournalEntry
entry_by t name n r = record { request = r; verdict = verdict t r; digest = sha256 (body_of name n r) }

abbrev entries_by : Take → List ℕ → ℕ → List (Option Request) → List JournalEntry
entries_by t name n [] = []
entries_by t name n (None ∷ rest) = []
entries_by t name n (Some r ∷ rest) = entry_by t name n r ∷ entries_by (after t r) name (suc n) rest

abbrev finished_by : Take → List ℕ → ℕ → List (Option Request) → List (List ℕ × Verdict)
finished_by t name n [] = []
finished_by t name n (None ∷ rest) = []
finished_by t name n (Some r ∷ rest) =
    (sha256 (body_of name n r), verdict t r) ∷ finished_by (after t r) name (suc n) rest

-- what is after the first of a list's places
at_place : {X : Type 0} (n : ℕ) (s : List X) (x : X) (more : List X) → drop n s ≡ x ∷ more →
    (drop (suc n) s ≡ more) × (take (suc n) s ≡ take n s ++ x ∷ [])
at_place zero [] x more e = absurd cc
at_place (suc n) [] x more e = absurd cc
at_place zero (y ∷ s) x more e = (cc, cc)
at_place (suc n) (y ∷ s) x more e = let h = at_place n s x more e in (h.0, ap (λ (z : List _). y ∷ z) h.1)

made_next : (existed : Bool) (s : List (Option Request)) (n : ℕ) (r : Request) →
    take (suc n) s ≡ take n s ++ Some r ∷ [] → made existed s (suc n) ≡ after (made existed s n) r
unfolding made
made_next existed s n r e = ap (fold step (new_take existed)) e ∙ fold-append step (new_take existed) (take n s) (Some r ∷ [])

verdict_here : (existed : Bool) (s : List (Option Request)) (n : ℕ) (r : Request) (more : List (Option Request)) →
    drop n s ≡ Some r ∷ more → verdict_at existed s n ≡ verdict (made existed s n) r
verdict_here existed s n r more e =
    let there : at s n ≡ Some r = sym (at-drop n 0 n s (omega arith)) ∙ ap (λ (z : List (Option Request)). at z 0) e in
    ap (verdict_by (made existed s n)) there

entries_same : (existed : Bool) (s : List (Option Request)) (name : List ℕ) (n : ℕ) (rest more : List (Option Request)) →
    drop n s ≡ rest ++ more
    → entries_from existed s name n rest ≡ entries_by (made existed s n) name n rest
entries_same existed s name n [] more e = refl
entries_same existed s name n (None ∷ rest) more e = refl
entries_same existed s name n (Some r ∷ rest) more e =
    let h = at_place n s (Some r) (rest ++ more) e in
    ap (λ (v : Verdict). record { request = r; verdict = v; digest = sha256 (body_of name n r) } ∷ entries_from existed s
    name (suc n) rest) (verdict_here existed s n r (rest ++ more) e)
    ∙ ap (λ (es : List JournalEntry). entry_by (made existed s n) name n r ∷ es)
    (entries_same existed s name (suc n) rest more h.0
    ∙ ap (λ (t : Take). entries_by t name (suc n) rest) (made_next existed s n r h.1))

finished_same : (existed : Bool) (s : List (Option Request)) (name : List ℕ) (n : ℕ) (rest more : List (Option Request)) →
    drop n s ≡ rest ++ more
    → finished_from existed s name n rest ≡ finished_by (made existed s n) name n rest
finished_same existed s name n [] more e = refl
finished_same existed s name n (None ∷ rest) more e = refl
finished_same existed s name n (Some r ∷ rest) more e =
    let h = at_place n s (Some r) (rest ++ more) e in
    ap (λ (v : Verdict). (sha256 (body_of name n r), v) ∷ finished_from existed s name (suc n) rest)
    (verdict_here existed s n r (rest ++ more) e)
    ∙ ap (λ (rows : List (List ℕ × Verdict)). (sha256 (body_of name n r), verdict (made existed s n) r) ∷ rows)
    (finished_same existed s name (suc n) rest more h.0
    ∙ ap (λ (t : Take). finished_by t name (suc n) rest) (made_next existed s n r h.1))

notable : (t : Take) (name : List ℕ) (n : ℕ) (r : Request) → is_request r ≡ true → IsNotable (entry_by t name n r)
notable t name n r h = (h, length-sha256 (body_of name n r))

-- the story after all of the requests
abbrev story_by : Take → List ℕ → ℕ → List (Option Request) → ℕ → List ℕ → Story
story_by t name n rest used table = record {
  parts = parts (fold step t rest);
  table = table ++ packed (finished_by t name n rest);
  used = used + length (sealed_entries (entries_by t name n rest));
}

-- the lines of entries
abbrev pub lines_of : List JournalEntry → List (List ℕ)
lines_of es = map entry_line es

-- entries, one after another
reports : (t : Take) (name : List ℕ) (n : ℕ) (rest : List (Option Request)) (used : ℕ) (table : List ℕ) →
    list_all fits rest ≡ true →
    replayed (lines_of (entries_by t name n rest)) (record { parts = parts t; table = table; used = used })
    ≡ Ok (story_by t name n rest used table)
reports t name n [] used table h =
    ap (λ (x : List ℕ). Ok (record { parts = parts t; table = x; used = used })) (sym (append-nil table))
    ∙ ap (λ (k : ℕ). Ok (record { parts = parts t; table = table ++ []; used = k }))
    (let e : used ≡ used + 0 = omega arith in e)
reports t name n (None ∷ rest) used table h = absurd cc
reports t name n (Some r ∷ rest) used table h =
    let e = entry_by t name n r in
    let ok = and_parts (is_request r) (list_all fits rest) h in
    let later = lines_of (entries_by (after t r) name (suc n) rest) in
    let more = sealed_entries (entries_by (after t r) name (suc n) rest) in
    let s : Story = record { parts = parts t; table = table; used = used } in
    let row = sha256 (body_of name n r) ++ verdict_code (verdict t r) ∷ [] in
    let len = suc (length (entry_line e)) in
    let sum : used + len + length more ≡ used + length (sealed_entry e ++ more) =
    omega (arith, length-append (sealed_entry e) more, length-append (entry_line e) (2 ∷ [])) in
    goes_on (entry_line e ∷ later) (entry_line e) (content e) later s (bare_entry e) refl (opened-line (content e))
    (entry_again e (notable t name n r ok.0)) (entry_judged t r (sha256 (body_of name n r)))
    ∙ ap (λ (p : _). replayed later (record { parts = p; table = table ++ row; used = used + len })) (parts_alike t r)
    ∙ reports (after t r) name (suc n) rest (used + len) (table ++ row) ok.1
    ∙ ap (λ (x : List ℕ). Ok
    (record { parts = parts (fold step (after t r) rest); table = x; used = used + len + length more }))
    (append_assoc table row (packed (finished_by (after t r) name (suc n) rest)))
    ∙ ap (λ (k : ℕ). Ok (record {
      parts = parts (fold step (after t r) rest);
      table = table ++ (row ++ packed (finished_by (after t r) name (suc n) rest));
      used = k;
    })) sum

-- the lines of entries are read, and then those of what follows
pub entry_lines : (es : List JournalEntry) (more : List ℕ) → journal_lines (sealed_entries es ++ more) ≡ lines_of es
    ++ journal_lines more
entry_lines [] more = refl
entry_lines (e ∷ es) more =
    ap (λ (x : List ℕ). journal_lines x) (append_assoc (sealed_entry e) (sealed_entries es) more)
    ∙ sealed_first (content e) (sealed_entries es ++ more)
    ∙ ap (λ (ls : List (List ℕ)). entry_line e ∷ ls) (entry_lines es more)

-- what the lines say is what the journal reports
reported_after : (name : List ℕ) (h : Header) (rest : List ℕ) (s : Story) → IsHeader h →
    replayed (journal_lines rest) (beginning h.existed) ≡ Ok s → replay h.limit name (header_bytes name h ++ rest) ≡ Ok s
unfolding replay replayed_entries
reported_after name h rest s small reported =
    let bytes = header_bytes name h ++ rest in
    ap (replayed_after h.limit name bytes) (headers_read_back name h rest small)
    ∙ ap (λ (v : Bool). cond v
    (cond (h.limit == h.limit) (replayed (journal_lines (drop header_len bytes)) (beginning h.existed)) (Err OtherLimit))
    (Err OtherName)) (name_refl (check name))
    ∙ ap (λ (v : Bool). cond v (replayed (journal_lines (drop header_len bytes)) (beginning h.existed)) (Err OtherLimit))
    (eq-eqb h.limit h.limit refl)
    ∙ ap (λ (x : List ℕ). replayed (journal_lines x) (beginning h.existed))
    (drop_at (header_bytes name h) rest header_len (length-header_bytes name h))
    ∙ reported

-- The first entries of a log.
module _ (h : Header) (name : List ℕ) (log : Log) where
  abbrev pub first : ℕ → List JournalEntry
  first d = entries_from h.existed log.admitted name 0 (take d log.admitted)

  -- what they say
  said : (d : ℕ) → list_all fits (take d log.admitted) ≡ true →
      replayed (lines_of (first d)) (beginning h.existed) ≡ Ok (story_of_log h name (up_to d log))
  unfolding made
  said d each =
      let existed = h.existed in
      let s = log.admitted in
      let rest = take d s in
      let parted : drop 0 s ≡ rest ++ drop d s = sym (take-append-drop d s) in
      let t = new_take existed in
      let same : entries_from existed s name 0 rest ≡ entries_by t name 0 rest =
      entries_same existed s name 0 rest (drop d s) parted in
      ap (λ (x : List JournalEntry). replayed (lines_of x) (beginning existed)) same
      ∙ reports t name 0 rest header_len [] each
      ∙ ap (λ (x : List JournalEntry). Ok (record {
        parts = parts (fold step t rest);
        table = packed (finished_by t name 0 rest);
        used = header_len + length (sealed_entries x);
      })) (sym same)
      ∙ ap (λ (x : List (List ℕ × Verdict)). Ok (record {
        parts = parts (fold step t rest);
        table = packed x;
        used = header_len + length (sealed_entries (entries_from existed s name 0 rest));
      })) (sym (finished_same existed s name 0 rest (drop d s) parted))
      ∙ ap (λ (n : ℕ). Ok (record {
        parts = parts (fold step t rest);
        table = packed (finished_from existed s name 0 rest);
        used = n;
      })) (let sum : header_len + length (sealed_entries (first d)) ≡ length (journal_of h name (up_to d log)) =
      omega (arith, length-append (header_bytes name h) (sealed_entries (first d)), length-header_bytes name h) in sum)

  -- entries, and then lines of more of them
  pub reported : (d k : ℕ) (tail : List ℕ) → IsHeader h → list_all fits (take k log.admitted) ≡ true →
      lines_of (first d) ++ journal_lines tail ≡ lines_of (first k) →
      replay h.limit name (journal_of h name (up_to d log) ++ tail) ≡ Ok (story_of_log h name (up_to k log))
  reported d k tail small each same =
      ap (replay h.limit name) (append_assoc (header_bytes name h) (sealed_entries (first d)) tail)
      ∙ reported_after name h (sealed_entries (first d) ++ tail) (story_of_log h name (up_to k log)) small
      (ap (λ (ls : List (List ℕ)). replayed ls (beginning h.existed)) (entry_lines (first d) tail ∙ same) ∙ said k each)

pub journals_report_logs : JournalsReportLogs
journals_report_logs h name log tail small whole cut =
    let none : journal_lines tail ≡ [] =
    ap (λ (x : List ℕ). journal_lines x) cut.prefix ∙ cut_sealed (content cut.entry) cut.count cut.short in
    reported h name log log.done log.done tail small whole.each
    (ap (λ (ls : List (List ℕ)). lines_of (first h name log log.done) ++ ls) none ∙ append-nil _)

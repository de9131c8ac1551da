-- What journals say of done numbers, as a server keeps it.
use Rattle.std.proofs.Common.{◌≡◌, ℕ, zero, suc, ◌+◌, ◌*◌, ◌/◌, ◌≤◌, Bool, true, false}
use Rattle.std.proofs.Common.{List, [], ◌∷◌, ◌++◌, length, take, Option, Some, None, refl, sym, ◌∙◌, ap}
use Rattle.std.proofs.Common.{subst, arith, length-append}
use Rattle.std.specs.List.{AllByRecursion, list_all}
use Rattle.std.proofs.lemmas.Bool.{and_parts, and_from}
use Rattle.std.proofs.lemmas.List.{take-append-le, drop_at, get_or_append_left, take_at, get_or_at, take-take}
use Rattle.sha2.proofs.Facts256.{length-sha256}
use Rattle.bw_model.specs.Bytes.{first_free}
use Rattle.bw_model.specs.Take.{Request, Verdict}
use Rattle.bw_model.specs.Wire.{is_request}
use Rattle.bw_model.specs.ReadBack.{is_admitted}
use Rattle.bw_model.specs.Replies.{verdict_code}
use Rattle.bw_model.specs.Book.{Log, Book, log_of, is_known}
use Rattle.bw_model.specs.BookRules.{IsBook}
use Rattle.bw_model.specs.Holds.{body_of, finished_from}
use Rattle.bw_model.proofs.BookLemmas.{unknown_log}
use Rattle.bw_journal.specs.Entries.{JournalEntry, sealed_entries}
use Rattle.bw_journal.specs.JournalHeaders.{Header, header_bytes}
use Rattle.bw_journal.specs.NotedJournals.{AdmitsDone, fits, packed, entries_from, journal_of}
use Rattle.bw_journal.specs.Rows.{row_count}
use Rattle.bw_journal.specs.Stops.{cut_log}
use Rattle.bw_journal.proofs.CutLaws.{verdict-cut}
use Rattle.bw_session.specs.Ledgers.{entries_in}
use Rattle.bw_session.proofs.AdmitForms.{entries_same}
use Rattle.bw_session.proofs.LogSteps.{take-short}
use Rattle.bw_session.proofs.Packing.{verdict_of-code}

-- Rows are read back from their bytes.
pub unpacked : (rows : List (List ℕ × Verdict)) → AllByRecursion (λ (r : List ℕ × Verdict). length r.0 ≡ 32) rows →
    (length (packed rows) ≡ 33 * length rows) × (entries_in (length rows) (packed rows) ≡ rows)
unfolding entries_in
unpacked [] h = (refl, refl)
unpacked (x ∷ rows) h =
    let more = unpacked rows h.1 in
    let d : List ℕ = x.0 in
    let v : Verdict = x.1 in
    let row : List ℕ = d ++ verdict_code v ∷ [] in
    let rest : List ℕ = packed rows in
    let long : length row ≡ 33 = length-append d (verdict_code v ∷ []) ∙ ap (λ (n : ℕ). n + 1) h.0 in (
      omega (arith, length-append row rest, long, more.0),
      rw (
        take-append-le 32 row rest (omega (arith, long)),
        take_at d (verdict_code v ∷ []) 32 h.0,
        get_or_append_left row rest 0 32 (omega (arith, long)),
        get_or_at d (verdict_code v) [] 0 32 h.0,
        verdict_of-code v,
        drop_at row rest 33 long,
      )
          (ap (λ (xs : List (List ℕ × Verdict)). x ∷ xs) more.1),
    )

pub digests_kept : (existed : Bool) (s : List (Option Request)) (name : List ℕ) (n : ℕ) (rest : List (Option Request)) →
    AllByRecursion (λ (r : List ℕ × Verdict). length r.0 ≡ 32) (finished_from existed s name n rest)
digests_kept existed s name n [] = tt
digests_kept existed s name n (None ∷ rest) = tt
digests_kept existed s name n (Some r ∷ rest) =
    (length-sha256 (body_of name n r), digests_kept existed s name (suc n) rest)

pub unpacked_table : (table : List ℕ) (rows : List (List ℕ × Verdict)) → table ≡ packed rows →
    AllByRecursion (λ (r : List ℕ × Verdict). length r.0 ≡ 32) rows → entries_in (row_count table) table ≡ rows
unpacked_table table rows e h =
    let u = unpacked rows h in
    let long : length table ≡ 33 * length rows = ap length e ∙ u.0 in
    let count : length table / 33 ≡ length rows = grind arith in
    ap (λ (n : ℕ). entries_in n table) count ∙ ap (entries_in (length rows)) e ∙ u.1

-- Each number below `done` was admitted.
pub all_fit : (s : List (Option Request)) (d : ℕ) → d ≤ first_free s → list_all is_admitted s ≡ true →
    (length (take d s) ≡ d) × (list_all fits (take d s) ≡ true)
all_fit s zero h each = (refl, refl)
all_fit [] (suc d) h each = absurd (omega arith)
all_fit (None ∷ s) (suc d) h each = absurd (omega arith)
all_fit (Some r ∷ s) (suc d) h each =
    let parts = and_parts (is_request r) (list_all is_admitted s) each in
    let more = all_fit s d (omega arith) parts.1 in
    (ap suc more.0, and_from (is_request r) (list_all fits (take d s)) parts.0 more.1)

pub book_admits : (book : Book) → IsBook book → (name : List ℕ) → AdmitsDone (log_of book name)
book_admits book h name = go (is_known book name) refl
  where
    go : (v : Bool) → is_known book name ≡ v → AdmitsDone (log_of book name)
    go true e =
        let log = h.logs name e in
        let all = all_fit (log_of book name).admitted (log_of book name).done log.all_done log.fits in
        record { long = all.0; each = all.1 }
    go false e = subst AdmitsDone (sym (unknown_log book name e)) (record { long = refl; each = refl })

-- a journal has the done numbers alone
pub journal_cut : (h : Header) (name : List ℕ) (log : Log) → journal_of h name (cut_log log) ≡ journal_of h name log
journal_cut h name log =
    ap (λ (es : List JournalEntry). header_bytes name h ++ sealed_entries es)
    (ap (entries_from h.existed (take log.done log.admitted) name 0)
    (take-take log.done log.done log.admitted (omega arith))
    ∙ entries_same h.existed log.admitted (take log.done log.admitted) name 0 log.done (take log.done log.admitted)
    (λ n below. verdict-cut h.existed log.admitted log.done n below)
    (let short = take-short log.done log.admitted in omega (arith, short)))

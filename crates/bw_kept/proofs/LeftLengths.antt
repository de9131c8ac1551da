-- How long the journal of a name is, by its log.
use Rattle.std.proofs.Common.{◌≡◌, inl, inr, ℕ, ◌<◌, ◌≤◌, List, ◌++◌, length, take, Option, Some, None, refl, ap, arith}
use Rattle.std.proofs.Common.{length-append}
use Rattle.bw_model.specs.Book.{Log}
use Rattle.bw_journal.specs.JournalHeaders.{Header}
use Rattle.bw_journal.specs.NotedJournals.{journal_of}
use Rattle.bw_session.specs.NameNotes.{next_entry}
use Rattle.bw_recovery.specs.LeftNames.{header_beside}
use Rattle.bw_kept.specs.KeptFolders.{LiesInFolder}
use Rattle.bw_kept.proofs.LeftNames.{Stands}

-- the journal of a log of which a number is done is no longer than what is noted
pub stands_long : (h : Header) (name : List ℕ) (log : Log) (journal : Option (List ℕ)) → 0 < log.done →
    Stands h name log journal → (bytes : List ℕ) × (journal ≡ Some bytes) × (length (journal_of h name log) ≤ length bytes)
stands_long h name log journal some (inl (none, p)) = absurd (omega (arith, some, none))
stands_long h name log journal some (inr (count, e)) =
    let tail : List ℕ = take count (next_entry h.existed name log) in
    let size = length-append (journal_of h name log) tail in
    (journal_of h name log ++ tail, e, omega (arith, size))

pub left_long : (limit : ℕ) (first : Option (List ℕ)) (name : List ℕ) (log : Log) (journal file : Option (List ℕ)) →
    0 < log.done → LiesInFolder limit first name log journal file →
    (bytes : List ℕ) × (journal ≡ Some bytes) × (length (journal_of (header_beside limit first) name log) ≤ length bytes)
left_long limit first name log None file some (inl left) = let none = left.0 in absurd (omega (arith, some, none))
left_long limit first name log (Some bytes) file some (inl (inl left)) =
    let size = length-append (journal_of (header_beside limit first) name log) left.tail in
    let is = ap (λ (xs : List ℕ). length xs) left.notes in
    (bytes, refl, omega (arith, size, is))
left_long limit first name log (Some bytes) file some (inl (inr left)) =
    let none = left.none in absurd (omega (arith, some, none))
left_long limit first name log journal file some (inr faulty) = let none = faulty.none in absurd (omega (arith, some, none))

-- What the table of a replay has.
use Rattle.std.specs.Prelude.{◌≡◌, ◌≤◌, ℕ, zero, suc, ◌+◌, ◌*◌, ◌/◌, ◌%◌, ◌&&◌, Bool, true, IsTrue}
use Rattle.std.specs.Prelude.{List, length, drop, slice_index, is_some}
use Rattle.bw_model.specs.Limits.{longest_block}
use Rattle.bw_model.specs.Take.{Parts}
use Rattle.bw_model.specs.Replies.{verdict_of}
use Rattle.bw_journal.specs.Entries.{longest_entry}
use Rattle.bw_journal.specs.JournalHeaders.{header_len}

-- the last of each of the first n times 33 bytes is a verdict's code
unfoldable pub have_codes : ℕ → List ℕ → Bool
have_codes zero table = true
have_codes (suc n) table =
    is_some (verdict_of (slice_index table 32)) && have_codes n (drop 33 table)

-- how many numbers a table has: a digest and a verdict's code for each
abbrev pub row_count : List ℕ → ℕ
row_count table = length table / 33

-- The table is whole, and what is known takes no more than its numbers can have brought.
pub record IsWholeTable (p : Parts) (table : List ℕ) (used : ℕ) : Type 0 where
  pub whole : length table % 33 ≡ 0
  pub coded : IsTrue (have_codes (row_count table) table)
  pub samples : p.samples_len ≤ longest_block * row_count table
  pub notes : used ≤ header_len + longest_entry * row_count table

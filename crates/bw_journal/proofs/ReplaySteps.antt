-- A replay, line by line.
use Rattle.std.proofs.Common.{◌≡◌, ℕ, suc, ◌+◌, Bool, true, false, cond, Some, None, Result, Ok, Err, List, [], ◌∷◌}
use Rattle.std.proofs.Common.{length, drop, refl, sym, ap, ◌∙◌}
use Rattle.std.proofs.lemmas.List.{drop-drop}
use Rattle.bw_model.specs.Take.{Parts, new_take, parts}
use Rattle.bw_journal.specs.Lines.{journal_lines}
use Rattle.bw_journal.specs.Seals.{opened}
use Rattle.bw_journal.specs.Entries.{JournalEntry, entry_in}
use Rattle.bw_journal.specs.JournalHeaders.{header_len}
use Rattle.bw_journal.specs.Replays.{Story, JournalFault, OtherVerdict, NotAnEntry, Damaged, entry_or_fault, with_entry}
use Rattle.bw_journal.specs.Replays.{is_judged, replayed, replayed_entries}

-- nothing is reported yet
pub begins : (used : ℕ) (existed : Bool) (bytes : List ℕ) (p : Parts) (table : List ℕ) →
    used ≡ header_len → p ≡ parts (new_take existed) → table ≡ [] →
    replayed (journal_lines (drop used bytes)) (record { parts = p; table = table; used = used }) ≡ replayed_entries existed bytes
unfolding replayed_entries
begins used existed bytes p table place is empty =
    ap (λ (n : ℕ). replayed (journal_lines (drop n bytes)) (record { parts = p; table = table; used = n })) place
    ∙ ap (λ (q : Parts). replayed (journal_lines (drop header_len bytes)) (record { parts = q; table = table; used = header_len })) is
    ∙ ap (λ (t : List ℕ). replayed (journal_lines (drop header_len bytes))
    (record { parts = parts (new_take existed); table = t; used = header_len })) empty

-- no line follows
pub stops : (ls : List (List ℕ)) (s : Story) → ls ≡ [] → replayed ls s ≡ Ok s
stops ls s none = ap (λ (x : List (List ℕ)). replayed x s) none

-- what is said with the first line
abbrev first_said : Result JournalEntry JournalFault → List ℕ → List (List ℕ) → Story → Result Story JournalFault
first_said r line more s = elim r [
  | Err f ↦ Err f
  | Ok e ↦ cond (is_judged s.parts e) (replayed more (with_entry s (e, suc (length line)))) (Err OtherVerdict)
]

first_line : (ls : List (List ℕ)) (line : List ℕ) (more : List (List ℕ)) (s : Story) (r : Result JournalEntry JournalFault) →
    ls ≡ line ∷ more → entry_or_fault (opened line) ≡ r → replayed ls s ≡ first_said r line more s
first_line ls line more s r is found =
    ap (λ (x : List (List ℕ)). replayed x s) is ∙ ap (λ (x : Result JournalEntry JournalFault). first_said x line more s) found

entry_here : (line content : List ℕ) (e : JournalEntry) → opened line ≡ Some content → entry_in content ≡ Some e →
    entry_or_fault (opened line) ≡ Ok e
entry_here line content e opens found = ap entry_or_fault opens ∙ rw (found, entry_or_fault) refl

-- one more entry is reported
pub goes_on : (ls : List (List ℕ)) (line content : List ℕ) (more : List (List ℕ)) (s : Story) (e : JournalEntry) →
    ls ≡ line ∷ more → opened line ≡ Some content → entry_in content ≡ Some e → is_judged s.parts e ≡ true →
    replayed ls s ≡ replayed more (with_entry s (e, suc (length line)))
goes_on ls line content more s e is opens found judged =
    first_line ls line more s (Ok e) is (entry_here line content e opens found)
    ∙ ap (λ (v : Bool). cond v (replayed more (with_entry s (e, suc (length line)))) (Err OtherVerdict)) judged

-- an entry isn't judged as it says
pub differs : (ls : List (List ℕ)) (line content : List ℕ) (more : List (List ℕ)) (s : Story) (e : JournalEntry) →
    ls ≡ line ∷ more → opened line ≡ Some content → entry_in content ≡ Some e → is_judged s.parts e ≡ false →
    replayed ls s ≡ Err OtherVerdict
differs ls line content more s e is opens found judged =
    first_line ls line more s (Ok e) is (entry_here line content e opens found)
    ∙ ap (λ (v : Bool). cond v (replayed more (with_entry s (e, suc (length line)))) (Err OtherVerdict)) judged

-- a line isn't what an entry is written as
pub damaged : (ls : List (List ℕ)) (line : List ℕ) (more : List (List ℕ)) (s : Story) → ls ≡ line ∷ more →
    opened line ≡ None → replayed ls s ≡ Err Damaged
damaged ls line more s is opens = first_line ls line more s (Err Damaged) is (ap entry_or_fault opens)

-- a content is no entry
pub unknown : (ls : List (List ℕ)) (line content : List ℕ) (more : List (List ℕ)) (s : Story) → ls ≡ line ∷ more →
    opened line ≡ Some content → entry_in content ≡ None → replayed ls s ≡ Err NotAnEntry
unknown ls line content more s is opens none =
    first_line ls line more s (Err NotAnEntry) is (ap entry_or_fault opens ∙ rw (none, entry_or_fault) refl)

-- what these parts and this table say
pub same_story : (ls : List (List ℕ)) (s : Story) (x : JournalEntry × ℕ) (p : Parts) (table : List ℕ) (used : ℕ) →
    p ≡ (with_entry s x).parts → table ≡ (with_entry s x).table → used ≡ s.used + x.1 →
    replayed ls (record { parts = p; table = table; used = used }) ≡ replayed ls (with_entry s x)
same_story ls s x p table used is rows place =
    ap (λ (q : Parts). replayed ls (record { parts = q; table = table; used = used })) is
    ∙ ap (λ (t : List ℕ). replayed ls (record { parts = (with_entry s x).parts; table = t; used = used })) rows
    ∙ ap (λ (n : ℕ). replayed ls (record { parts = (with_entry s x).parts; table = (with_entry s x).table; used = n })) place

-- the lines from a place on, the first of which is known
pub next_lines : (bytes rest line : List ℕ) (used : ℕ) → rest ≡ drop used bytes →
    journal_lines rest ≡ line ∷ journal_lines (drop (length line + 1) rest) →
    journal_lines (drop used bytes) ≡ line ∷ journal_lines (drop (used + (length line + 1)) bytes)
next_lines bytes rest line used is found =
    ap (λ (x : List ℕ). journal_lines x) (sym is) ∙ found
    ∙ ap (λ (x : List ℕ). line ∷ journal_lines (drop (length line + 1) x)) is
    ∙ ap (λ (x : List ℕ). line ∷ journal_lines x) (drop-drop (length line + 1) used bytes)

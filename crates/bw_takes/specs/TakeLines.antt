-- The parts of the line of a take, and what it is judged by.
use Rattle.std.specs.Prelude.{◌/◌, ◌%◌, ◌*◌, ◌==◌, ◌&&◌, ℕ, Bool, Result, Ok, Err}
use Rattle.std.specs.Prelude.{List, ◌++◌, codes, decimal, length, take, drop}
use Rattle.std.specs.Prelude.{min, nat_le, if◌then◌else◌}
use Rattle.hex.specs.Hex.{decode_sized, encode_lower}
use Rattle.hex.specs.declared.error.FromHexError.{FromHexError}
use Rattle.bw_model.specs.Bytes.{u32_at}
use Rattle.bw_journal.specs.Lines.{before_zero}
use Rattle.bw_journal.specs.Replays.{JournalFault, NotBegun, NotAJournal, OtherName, OtherLimit}
use Rattle.bw_journal.specs.Replays.{OtherVerdict, NotAnEntry, Damaged}
use Rattle.bw_journal.specs.declared.fault.ReplayFault.{ReplayFault}
use Rattle.bw_journal.specs.declared.fault.ReplayFault.TheVariants as faults
use Rattle.bw_recovery.specs.Causes.{file_cause_text, journal_text}
use Rattle.bw_recovery.specs.Names.{NameFault, OfJournal, OfFile}
use Rattle.bw_takes.specs.declared.hashing.SampleDigest.{SampleDigest}
use Rattle.bw_takes.specs.declared.hashing.SampleDigest.TheVariants.{Unasked, Missing, Known}

-- the largest limit
abbrev pub largest_limit : ℕ
largest_limit = 4294967294

-- how a journal of the largest limit begins
abbrev pub usual_front : List ℕ
usual_front = codes "BWJ2feffffff"

-- the first twelve bytes of a journal; where it ends earlier, or is zero, those of the largest limit
-- follow
abbrev pub journal_front : List ℕ → List ℕ
journal_front journal =
    take (min 12 (length (before_zero journal))) (before_zero journal)
    ++ drop (min 12 (length (before_zero journal))) usual_front

-- a server may have this limit
abbrev pub is_limit : ℕ → Bool
is_limit n = nat_le 8192 n && nat_le n largest_limit && (n % 2 == 0)

-- this limit, or the largest
abbrev pub limit_or_largest : ℕ → ℕ
limit_or_largest n = if is_limit n then n else largest_limit

-- the limit that these digits spell, or the largest
abbrev pub limit_spelled : Result (List ℕ) FromHexError → ℕ
limit_spelled (Err e) = largest_limit
limit_spelled (Ok bytes) = limit_or_largest (u32_at bytes 0)

-- the limit of the server that began a journal, as its header has it in eight digits from the fifth
-- byte on
unfoldable pub own_limit : List ℕ → ℕ
own_limit journal = limit_spelled (decode_sized (take 8 (drop 4 (journal_front journal))) 4)

-- what is left of so many frames at a rate after whole seconds, in thousandths, rounded down
abbrev pub thousandths : ℕ → ℕ → ℕ
thousandths count rate = count % rate * 1000 / rate

-- the line of a take that is one word, as what is wrong with it
unfoldable pub word_line : List ℕ → List ℕ → List ℕ
word_line name word = name ++ codes " " ++ word ++ codes "\n"

-- the line of a take without samples of the server's: its state, and the next number
unfoldable pub next_line : List ℕ → List ℕ → ℕ → List ℕ
next_line name word next =
    name ++ codes " " ++ word ++ codes " next " ++ decimal next ++ codes "\n"

-- how the line of a take with so many frames begins, up to its whole seconds and a dot
unfoldable pub timed_start : List ℕ → List ℕ → ℕ → ℕ → List ℕ
timed_start name word count seconds = name ++ codes " " ++ word ++ codes " frames "
    ++ decimal count ++ codes " seconds " ++ decimal seconds ++ codes "."

-- and how it goes on: three digits of the thousandths
unfoldable pub timed_part : ℕ → List ℕ
timed_part part = decimal (part / 100) ++ decimal (part / 10 % 10) ++ decimal (part % 10)
    ++ codes " next "

-- and how it ends: the next number, and the SHA-256 of the samples in hex, if it is known
unfoldable pub next_end : ℕ → SampleDigest → List ℕ
next_end next Unasked = decimal next ++ codes "\n"
next_end next Missing = decimal next ++ codes "\n"
next_end next (Known digest) =
    decimal next ++ codes " sha256=" ++ encode_lower digest ++ codes "\n"

-- the line of a take with so many frames at a rate: its state, frames, seconds, the next number and the
-- digest of its samples
abbrev pub opened_line : List ℕ → List ℕ → ℕ → ℕ → ℕ → SampleDigest → List ℕ
opened_line name word count rate next digest = timed_start name word count (count / rate)
    ++ timed_part (thousandths count rate) ++ next_end next digest

-- the line of a take with which this is wrong at a number
unfoldable pub numbered_line : List ℕ → List ℕ → ℕ → List ℕ
numbered_line name word number =
    name ++ codes " " ++ word ++ codes " number " ++ decimal number ++ codes "\n"

-- the word for whether a take is closed
abbrev pub state_word : Bool → List ℕ
state_word closed = if closed then codes "closed" else codes "open"

-- what is wrong with a journal, as the code has it
abbrev pub replay_fault : JournalFault → ReplayFault
replay_fault NotBegun = faults.NotBegun
replay_fault NotAJournal = faults.NotAJournal
replay_fault OtherName = faults.OtherName
replay_fault OtherLimit = faults.OtherLimit
replay_fault OtherVerdict = faults.OtherVerdict
replay_fault NotAnEntry = faults.NotAnEntry
replay_fault Damaged = faults.Damaged

-- what is wrong with a take
abbrev pub take_fault_text : NameFault → List ℕ
take_fault_text (OfJournal f) = journal_text (replay_fault f)
take_fault_text (OfFile f) = file_cause_text f

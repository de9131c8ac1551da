-- What a journal has of a done number.
use Rattle.std.specs.Prelude.{ℕ, suc, ◌&&◌, Option, Some, None, option_map}
use Rattle.std.specs.Prelude.{option_and_then, Result}
use Rattle.std.specs.Prelude.{Ok, Err, List, [], ◌∷◌, ◌++◌, length, take, drop, flat_map}
use Rattle.std.specs.Prelude.{slice_index, nat_lt, ◌==◌, if◌then◌else◌}
use Rattle.bw_model.specs.Bytes.{le32, u32_at, zeros, is_within}
use Rattle.bw_model.specs.Limits.{longest_block}
use Rattle.bw_model.specs.Take.{Request, Open, Block, Mark, SetField, Close, Verdict}
use Rattle.bw_model.specs.Wire.{kind, payload, decoded_request}
use Rattle.bw_model.specs.Replies.{verdict_code, verdict_of}
use Rattle.bw_journal.specs.Lines.{journal_lines}
use Rattle.bw_journal.specs.Seals.{sealed_line, sealed, opened}

-- the request with zeros in place of its samples
abbrev pub bare : Request → Request
bare (Block bytes) = Block (zeros (length bytes))
bare (Open f history) = Open f history
bare (Mark id frame) = Mark id frame
bare (SetField tag value) = SetField tag value
bare (Close total) = Close total

-- what is noted of a request after its kind: its payload, or for a block its length
abbrev pub noted_payload : Request → List ℕ
noted_payload (Block bytes) = le32 (length bytes)
noted_payload (Open f history) = payload (Open f history)
noted_payload (Mark id frame) = payload (Mark id frame)
noted_payload (SetField tag value) = payload (SetField tag value)
noted_payload (Close total) = payload (Close total)

-- what is noted of a request
abbrev pub noted : Request → List ℕ
noted r = kind r ∷ noted_payload r

-- a done number: its request, its verdict, and the digest of its body
pub record JournalEntry : Type 0 where
  pub request : Request
  pub verdict : Verdict
  pub digest : List ℕ

-- an entry's bytes before its check
unfoldable pub content : JournalEntry → List ℕ
content e = verdict_code e.verdict ∷ e.digest ++ noted e.request

-- an entry's bytes
abbrev pub sealed_entry : JournalEntry → List ℕ
sealed_entry e = sealed (content e)

-- an entry's line
abbrev pub entry_line : JournalEntry → List ℕ
entry_line e = sealed_line (content e)

-- No entry takes more bytes: the content of an OPEN with the longest history and its check are
-- 4,148, each of which may take two, and a 2 ends them.
abbrev pub longest_entry : ℕ
longest_entry = 8297

-- the bytes of whole entries
abbrev pub sealed_entries : List JournalEntry → List ℕ
sealed_entries es = flat_map sealed_entry es

-- the value, if there is one
abbrev pub value_in : {X F : Type 0} → Result X F → Option X
value_in (Ok x) = Some x
value_in (Err f) = None

-- a block of a length that a message may have
abbrev pub block_noted : List ℕ → Option Request
block_noted p =
    if (length p == 4) && is_within 1 longest_block (u32_at p 0)
    then Some (Block (zeros (u32_at p 0)))
    else None

-- the request that these bytes note, without samples
abbrev pub request_in : List ℕ → Option Request
request_in [] = None
request_in (kind ∷ p) =
    if kind == 2 then block_noted p else value_in (decoded_request (kind ∷ p))

-- the entry of a verdict and a request, if both are there
abbrev pub made_of : Option Verdict → List ℕ → Option Request → Option JournalEntry
made_of None digest r = None
made_of (Some v) digest None = None
made_of (Some v) digest (Some r) = Some (record { request = r; verdict = v; digest = digest })

-- the entry with these bytes before its check
unfoldable pub entry_in : List ℕ → Option JournalEntry
entry_in bytes =
    if nat_lt (length bytes) 34 then None
    else made_of (verdict_of (slice_index bytes 0)) (take 32 (drop 1 bytes))
    (request_in (drop 33 bytes))

-- the content of the first of these lines, and how many bytes the line takes
abbrev pub content_of_first : List (List ℕ) → Option (List ℕ × ℕ)
content_of_first [] = None
content_of_first (line ∷ more) = option_map (λ c. (c, suc (length line))) (opened line)

-- the content of the line at the start of these bytes, and how many it takes; none if no line ends
-- there, or its check is wrong
unfoldable pub first_content : List ℕ → Option (List ℕ × ℕ)
first_content bytes = content_of_first (journal_lines bytes)

-- the entry of a content, and how many bytes it takes
abbrev pub entry_with_len : List ℕ × ℕ → Option (JournalEntry × ℕ)
entry_with_len x = option_map (λ e. (e, x.1)) (entry_in x.0)

-- The entry at the start of these bytes, and how many it takes; none if the start is torn or isn't
-- an entry.
unfoldable pub first_entry : List ℕ → Option (JournalEntry × ℕ)
first_entry bytes = option_and_then entry_with_len (first_content bytes)

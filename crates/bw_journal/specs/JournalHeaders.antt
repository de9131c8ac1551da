-- What a journal begins with.
use Rattle.std.specs.Prelude.{ℕ, ◌&&◌, ◌||◌, Bool, true, false, Option, Some, None, Result, Ok, Err}
use Rattle.std.specs.Prelude.{List, [], ◌∷◌, ◌++◌, codes, length, take, drop, slice_index, nat_lt}
use Rattle.std.specs.Prelude.{◌==◌, if◌then◌else◌}
use Rattle.std.specs.Str.{bytes_eq}
use Rattle.hex.specs.Hex.{encode_lower, decode_of}
use Rattle.hex.specs.declared.error.FromHexError.{FromHexError}
use Rattle.bw_model.specs.Bytes.{le32, u32_at}
use Rattle.bw_journal.specs.Lines.{before_zero}
use Rattle.bw_journal.specs.Seals.{check}

-- the server's limit, and whether a file of the name existed before its journal
pub record Header : Type 0 where
  -- the largest form size of a RIFF file
  pub limit : ℕ
  pub existed : Bool

-- one byte for a fact
abbrev pub existed_flag : Bool → ℕ
existed_flag true = 1
existed_flag false = 0

-- the bytes that distinguish a journal from other files
abbrev pub magic : List ℕ
magic = codes "BWJ2"

-- a header's bytes before its check: the last are the first ones of the name's digest (SHA-256,
-- FIPS 180-4)
unfoldable pub header_content : List ℕ → Header → List ℕ
header_content name h = le32 h.limit ++ existed_flag h.existed ∷ check name

-- the line of a header with these bytes, with its end: hex digits after the magic
unfoldable pub header_line : List ℕ → List ℕ
header_line plain = magic ++ (encode_lower plain ++ 2 ∷ [])

-- the bytes of the header of a name's journal
abbrev pub header_bytes : List ℕ → Header → List ℕ
header_bytes name h = header_line (header_content name h ++ check (header_content name h))

-- how many bytes a header has
abbrev pub header_len : ℕ
header_len = 47

-- the fact of a byte
abbrev pub flag_of : ℕ → Option Bool
flag_of n = if n == 0 then Some false else if n == 1 then Some true else None

-- the header with this limit, if its flag is one, beside what it has of its name's digest
abbrev pub header_with : ℕ → Option Bool → List ℕ → Option (Header × List ℕ)
header_with limit None digest = None
header_with limit (Some existed) digest =
    Some (record { limit = limit; existed = existed }, digest)

-- the header with these bytes, of which the last eight are the check of the others
unfoldable pub header_in : List ℕ → Option (Header × List ℕ)
header_in plain =
    if (length plain == 21) && bytes_eq (drop 13 plain) (check (take 13 plain))
    then header_with (u32_at plain 0) (flag_of (slice_index plain 4)) (take 8 (drop 5 plain))
    else None

-- the header that these digits spell, if it is the first line of a journal
abbrev pub header_spelled : List ℕ → Result (List ℕ) FromHexError → Option (Header × List ℕ)
header_spelled bytes (Err e) = None
header_spelled bytes (Ok plain) =
    if bytes_eq (take header_len bytes) (header_line plain) then header_in plain else None

-- the header at the start of these bytes, if one is there, and what it has of its name's digest
unfoldable pub first_header : List ℕ → Option (Header × List ℕ)
first_header bytes = header_spelled bytes (decode_of (take 42 (drop 4 bytes)))

-- these bytes are a prefix of the others, and fewer
abbrev pub is_torn : List ℕ → List ℕ → Bool
is_torn bytes whole =
    nat_lt (length bytes) (length whole) && bytes_eq bytes (take (length bytes) whole)

-- a header is there, of this name's journal and with this limit
abbrev pub is_header_of : ℕ → List ℕ → Option (Header × List ℕ) → Bool
is_header_of limit name None = false
is_header_of limit name (Some x) = bytes_eq x.1 (check name) && (x.0.limit == limit)

-- up to their first zero or their end, the bytes are a prefix of a header of this limit and name,
-- which isn't all of it
abbrev pub is_torn_header : ℕ → List ℕ → List ℕ → Bool
is_torn_header limit name bytes =
    is_torn (before_zero bytes) (header_bytes name (record { limit = limit; existed = false }))
    || is_torn (before_zero bytes) (header_bytes name (record { limit = limit; existed = true }))

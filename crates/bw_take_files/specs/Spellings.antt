-- How a receipt is written.
use Rattle.std.specs.Prelude.{◌==◌, ◌||◌, ◌∷◌, ◌++◌, ℕ, List, [], codes, decimal, flat_map, nat_lt}
use Rattle.std.specs.Prelude.{if◌then◌else◌}
use Rattle.hex.specs.Hex.{encode_lower}
use Rattle.serde_json.specs.Data.{Data, member, no_members, number, object, string, unsigned}
use Rattle.serde_json.specs.Written.{compact_text}
use Rattle.bw_take_files.specs.declared.receipts.receipt.Receipt.{Receipt}

-- a byte as `\x` and two digits
abbrev pub hex_escape : ℕ → List ℕ
hex_escape c = 92 ∷ 120 ∷ encode_lower (c ∷ [])

-- a byte of a text in a line: a control character or a backslash is escaped
abbrev pub source_byte : ℕ → List ℕ
source_byte c = if nat_lt c 32 || ((c == 127) || (c == 92)) then hex_escape c else c ∷ []

-- a byte of a word: a blank is escaped too
abbrev pub word_byte : ℕ → List ℕ
word_byte c = if c == 32 then hex_escape c else source_byte c

-- what a receipt says of the take, in words
unfoldable pub take_text : List ℕ → ℕ → List ℕ → List ℕ
take_text name count digest = codes "receipt " ++ name ++ codes " " ++ decimal count
    ++ codes " sha256=" ++ encode_lower digest ++ codes " "

-- and its whole line
abbrev pub receipt_text : Receipt → List ℕ → List ℕ → List ℕ
receipt_text r address source = take_text r.name r.frames r.digest ++ flat_map word_byte address
    ++ codes " " ++ flat_map source_byte source ++ codes "\n"

-- as an object, whose members are in the order of their keys, as they are printed
abbrev pub receipt_object : Receipt → List ℕ → List ℕ → Data
receipt_object r address source = object
    (member (codes "address") (string address)
    (member (codes "frames") (number (unsigned r.frames))
    (member (codes "name") (string r.name)
    (member (codes "sha256") (string (encode_lower r.digest))
    (member (codes "source") (string source) no_members)))))

-- in JSON (RFC 8259)
abbrev pub receipt_json : Receipt → List ℕ → List ℕ → List ℕ
receipt_json r address source = compact_text (receipt_object r address source) ++ codes "\n"

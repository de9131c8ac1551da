-- The line of a receipt: what its sender read of a take that is stored.
use Rattle.std.specs.Prelude.{◌≡◌, ◌⊎◌, ◌==◌, ◌<◌, ◌≤◌, ◌^◌, ◌||◌, ◌++◌, ℕ, Bool, List, Option, Some, None}
use Rattle.std.specs.Prelude.{Ok, IsTrue, codes, decimal, length, map, nat_le, nat_lt, option_and_then}
use Rattle.std.specs.Prelude.{if◌then◌else◌}
use Rattle.std.specs.List.{after_first, before_first, position_or_len}
use Rattle.std.specs.Str.{IsUtf8}
use Rattle.std.specs.Str.Parse.{IsNumeral, digits_value}
use Rattle.hex.specs.Hex.{decode_sized, encode_lower}
use Rattle.serde_json.specs.Data.{Data, member, no_members, number, object, string, unsigned}
use Rattle.serde_json.specs.Find.{as_number, as_str, as_u64, get}
use Rattle.serde_json.specs.Read.{read}
use Rattle.bw_model.specs.Wire.{is_name}
use Rattle.bw_take_files.specs.declared.receipts.receipt.Receipt.{Receipt}

-- what comes before the first such character of a text, and after it
abbrev pub parts_at : ℕ → List ℕ → Option (List ℕ × List ℕ)
parts_at c text = if nat_lt (position_or_len (λ x. x == c) text) (length text)
    then Some (before_first (λ x. x == c) text, after_first (λ x. x == c) text) else None

-- the first word of a text, and what follows the blank after it
abbrev pub cut_word : List ℕ → Option (List ℕ × List ℕ)
cut_word text = parts_at 32 text

-- decimal digits of a number of 64 bits
pub record SaysCount (digits : List ℕ) (count : ℕ) : Type 0 where
  pub numeral : IsNumeral 10 digits
  pub value : digits_value 10 digits ≡ count
  pub fits : count < 2 ^ 64

-- the name of a take, its frames, and 32 bytes in 64 digits, which are the SHA-256 of its samples
pub record SaysTake (name : List ℕ) (count : ℕ) (digits : List ℕ) (r : Receipt) : Type 0 where
  pub named : r.name ≡ name
  pub is_name : IsTrue (is_name name)
  pub counted : r.frames ≡ count
  pub hashed : decode_sized digits 32 ≡ Ok r.digest

-- `receipt NAME COUNT sha256=DIGITS ADDRESS SOURCE`; a blank in it is part of SOURCE
pub record HasReceiptWords (line name count digits : List ℕ) : Type 0 where
  pub address : List ℕ
  pub source : List ℕ
  pub after_word : List ℕ
  pub after_name : List ℕ
  pub after_count : List ℕ
  pub after_label : List ℕ
  pub after_digits : List ℕ
  pub begins : cut_word line ≡ Some (codes "receipt", after_word)
  pub name_next : cut_word after_word ≡ Some (name, after_name)
  pub count_next : cut_word after_name ≡ Some (count, after_count)
  pub label_next : parts_at 61 after_count ≡ Some (codes "sha256", after_label)
  pub digits_next : cut_word after_label ≡ Some (digits, after_digits)
  pub address_next : cut_word after_digits ≡ Some (address, source)

-- such a line of words
pub record IsReceiptText (line : List ℕ) (r : Receipt) : Type 0 where
  pub name : List ℕ
  pub count : List ℕ
  pub digits : List ℕ
  pub words : HasReceiptWords line name count digits
  pub counts : SaysCount count r.frames
  pub says : SaysTake name r.frames digits r

-- the text that a member of an object is, if it is one
abbrev pub text_member : List ℕ → Data → Option (List ℕ)
text_member key d = option_and_then as_str (get key d)

-- the whole number that a member of an object is, if it is one
abbrev pub count_member : List ℕ → Data → Option ℕ
count_member key d = option_and_then as_u64 (option_and_then as_number (get key d))

-- an object with the members of a receipt, and maybe others
pub record IsReceiptData (d : Data) (r : Receipt) : Type 0 where
  pub name : List ℕ
  pub digits : List ℕ
  pub name_is : text_member (codes "name") d ≡ Some name
  pub frames_is : count_member (codes "frames") d ≡ Some r.frames
  pub sha256_is : text_member (codes "sha256") d ≡ Some digits
  pub says : SaysTake name r.frames digits r

-- such an object as JSON (RFC 8259)
pub record IsReceiptObject (line : List ℕ) (r : Receipt) : Type 0 where
  pub value : Data
  pub read : read line ≡ Some value
  pub is : IsReceiptData value r

-- a line is a receipt: in UTF-8, of words or of JSON
pub record IsReceiptLine (line : List ℕ) (r : Receipt) : Type 0 where
  pub utf8 : IsUtf8 line
  pub is : IsReceiptText line r ⊎ IsReceiptObject line r

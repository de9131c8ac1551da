-- What is printed of a request is read as that request.
use Rattle.std.proofs.Common.{◌≡◌, ℕ, zero, suc, true, List, ◌∷◌, ◌++◌, length, Ok, refl, ◌∙◌, ap, arith}
use Rattle.std.specs.Int.{byte_at, bytes_low_first}
use Rattle.std.proofs.Math.Nat.{mod-lt}
use Rattle.std.proofs.lemmas.Bool.{and_from, and_parts, lt-ltb}
use Rattle.std.proofs.lemmas.List.Folds.{list_all-append}
use Rattle.hex.proofs.HexLemmas.{decode_of-encode_lower}
use Rattle.bw_model.specs.Bytes.{le16, le32}
use Rattle.bw_model.specs.Take.{Request, Open, Block, Mark, SetField, Close}
use Rattle.bw_model.specs.Wire.{are_bytes, is_below, is_request, kind, payload, decoded_request}
use Rattle.bw_model.proofs.ByteNumbers.{IsBytes-from_test}
use Rattle.bw_model.proofs.Payloads.{reads_request}
use Rattle.bw_recorder.specs.RequestLines.{LinesAreRead}

is_byte : (i n : ℕ) → is_below 256 (byte_at i n) ≡ true
is_byte zero n = lt-ltb _ _ (mod-lt n (omega arith))
is_byte (suc i) n = lt-ltb _ _ (mod-lt _ (omega arith))

low_bytes : (i k n : ℕ) → are_bytes (bytes_low_first i k n) ≡ true
low_bytes i zero n = refl
low_bytes i (suc k) n =
    and_from (is_below 256 (byte_at i n)) (are_bytes (bytes_low_first (suc i) k n)) (is_byte i n) (low_bytes (suc i) k n)

both : (xs ys : List ℕ) → are_bytes xs ≡ true → are_bytes ys ≡ true → are_bytes (xs ++ ys) ≡ true
both xs ys a b = list_all-append (is_below 256) xs ys ∙ and_from (are_bytes xs) (are_bytes ys) a b

-- a payload consists of bytes
payload_bytes : (r : Request) → is_request r ≡ true → are_bytes (payload r) ≡ true
payload_bytes (Open f history) h =
    let fits = and_parts _ (are_bytes history) h in
    both (le32 f.rate ++ le16 f.channels ++ le16 f.bits ++ le16 (length history)) history
    (both (le32 f.rate ++ le16 f.channels ++ le16 f.bits) (le16 (length history))
    (both (le32 f.rate ++ le16 f.channels) (le16 f.bits)
    (both (le32 f.rate) (le16 f.channels) (low_bytes 0 4 f.rate) (low_bytes 0 2 f.channels)) (low_bytes 0 2 f.bits))
    (low_bytes 0 2 (length history))) fits.1
payload_bytes (Block bytes) h = (and_parts _ (are_bytes bytes) h).1
payload_bytes (Mark id frame) h = both (le32 id) (le32 frame) (low_bytes 0 4 id) (low_bytes 0 4 frame)
payload_bytes (SetField tag value) h =
    let all = and_parts _ (are_bytes value) h in
    and_from (is_below 256 tag) (are_bytes value) (and_parts (is_below 256 tag) _ all.0).0 all.1
payload_bytes (Close total) h = low_bytes 0 8 total

kind_byte : (r : Request) → is_below 256 (kind r) ≡ true
kind_byte (Open f history) = refl
kind_byte (Block bytes) = refl
kind_byte (Mark id frame) = refl
kind_byte (SetField tag value) = refl
kind_byte (Close total) = refl

decoded_back : (r : Request) → is_request r ≡ true → decoded_request (kind r ∷ payload r) ≡ Ok r
decoded_back r h =
    let reads = reads_request r h in
    rw (reads.kind_fits, reads.passes) (ap (λ (x : Request). Ok x) reads.request_is)

pub lines_are_read : LinesAreRead
lines_are_read r h = record {
  bytes = kind r ∷ payload r;
  hex = decode_of-encode_lower (kind r ∷ payload r)
      (IsBytes-from_test (kind r ∷ payload r)
      (and_from (is_below 256 (kind r)) (are_bytes (payload r)) (kind_byte r) (payload_bytes r h)));
  request = decoded_back r h;
}

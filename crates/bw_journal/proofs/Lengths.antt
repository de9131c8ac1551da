-- How long headers and entries are.
use Rattle.std.proofs.Common.{◌≡◌, ℕ, ◌+◌, ◌*◌, ◌≤◌, List, [], ◌∷◌, ◌++◌, length, ap, ◌∙◌, arith, length-append, suc}
use Rattle.std.proofs.lemmas.List.{length-take-le}
use Rattle.sha2.specs.Sha256.{sha256}
use Rattle.sha2.proofs.Facts256.{length-sha256}
use Rattle.hex.specs.Hex.{encode_lower, lower_digits}
use Rattle.hex.proofs.HexLemmas.{length-encode_with}
use Rattle.bw_journal.specs.Seals.{check, sealed_line, sealed}
use Rattle.bw_journal.specs.Entries.{JournalEntry, noted, content, sealed_entry}
use Rattle.bw_journal.specs.JournalHeaders.{Header, magic, header_content, header_line, header_bytes, header_len}
use Rattle.bw_journal.proofs.StuffLaws.{stuffed_most}

pub check-length : (c : List ℕ) → length (check c) ≡ 8
unfolding check
check-length c = length-take-le 8 (sha256 c) (omega (arith, length-sha256 c))

-- a sealed content is longer than it is, and no longer than twice it and its check
pub sealed-length : (c : List ℕ) → (9 + length c ≤ length (sealed c)) × (length (sealed c) ≤ 2 * (length c + 8) + 1)
unfolding sealed_line
sealed-length c =
    let whole = length-append (sealed_line c) (2 ∷ []) in
    let both = length-append c (check c) in
    let most = stuffed_most (c ++ check c) in (
      omega (arith, whole, both, most.0, check-length c),
      omega (arith, whole, both, most.1, check-length c),
    )

pub content-long : (e : JournalEntry) → length e.digest ≡ 32 → length (content e) ≡ 33 + length (noted e.request)
unfolding content
content-long e h =
    let whole : length (content e) ≡ 1 + (length e.digest + length (noted e.request)) =
    ap suc (length-append e.digest (noted e.request)) ∙ omega arith in
    omega (arith, whole, h)

pub entry_length : (e : JournalEntry) → length e.digest ≡ 32 → 42 + length (noted e.request) ≤ length (sealed_entry e)
entry_length e h = omega (arith, (sealed-length (content e)).0, content-long e h)

pub header_content_len : (name : List ℕ) (h : Header) → length (header_content name h) ≡ 13
unfolding header_content
header_content_len name h = omega (arith, check-length name)

pub header_plain_len : (name : List ℕ) (h : Header) → length (header_content name h ++ check (header_content name h)) ≡ 21
header_plain_len name h =
    omega (
      arith,
      length-append (header_content name h) (check (header_content name h)),
      header_content_len name h,
      check-length (header_content name h),
    )

pub header_line-length : (p : List ℕ) → length p ≡ 21 → length (header_line p) ≡ header_len
unfolding header_line
header_line-length p h =
    let digits : length (encode_lower p) ≡ 2 * length p = length-encode_with lower_digits p in
    omega (arith, length-append magic (encode_lower p ++ 2 ∷ []), length-append (encode_lower p) (2 ∷ []), digits, h)

pub length-header_bytes : (name : List ℕ) (h : Header) → length (header_bytes name h) ≡ header_len
length-header_bytes name h =
    header_line-length (header_content name h ++ check (header_content name h)) (header_plain_len name h)

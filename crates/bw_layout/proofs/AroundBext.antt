-- A header is a prefix of 80 bytes, the fixed part of `bext`, and the rest; prefix and rest don't
-- depend on the fields.
use Rattle.std.proofs.Common.{◌≡◌, ℕ, ◌+◌, Bool, true, false, cond, List, ◌++◌, length, refl, ◌∙◌, ap, append_assoc}
use Rattle.std.proofs.Common.{length-append}
use Rattle.std.specs.Prelude.{codes, nat_le}
use Rattle.bw_model.specs.Bytes.{unsaid}
use Rattle.bw_model.specs.Take.{Format, AreFields}
use Rattle.bw_model.specs.Layout.{head, pad, chunk, bext_fixed}
use Rattle.bw_model.specs.File.{form_size, header, fmt_chunk, junk_chunk, ds64_chunk}
use Rattle.bw_model.proofs.Widths.{length-bext_fixed}

-- the bytes before the fixed part, and those after it, in RIFF or not
abbrev pub prefix : Bool → ℕ → ℕ → Format → ℕ → List ℕ
prefix v form data_len f n =
    cond v (head (codes "RIFF") form) (head (codes "BW64") unsaid) ++ codes "WAVE"
    ++ cond v (chunk junk_chunk) (chunk (ds64_chunk form data_len)) ++ chunk (fmt_chunk f) ++ head (codes "bext") n

abbrev pub rear : Bool → ℕ → List ℕ → ℕ → List ℕ
rear v data_len history n = history ++ pad n ++ cond v (head (codes "data") data_len) (head (codes "data") unsaid)

-- the fixed part between these
abbrev pub around : List ℕ → List ℕ → List (List ℕ) → List ℕ
around p q fields = p ++ (bext_fixed fields ++ q)

pub length-prefix : (v : Bool) (form data_len : ℕ) (f : Format) (n : ℕ) → length (prefix v form data_len f n) ≡ 80
length-prefix true form data_len f n = refl
length-prefix false form data_len f n = refl

regrouped : (outer wave first fmt size fixed history pad data_head : List ℕ) →
    outer ++ wave ++ first ++ (fmt ++ (size ++ ((fixed ++ history) ++ pad))) ++ data_head
    ≡ (outer ++ wave ++ first ++ fmt ++ size) ++ (fixed ++ (history ++ pad ++ data_head))
regrouped outer wave first fmt size fixed history pad data_head = simp append_assoc

pub header_around : (f : Format) (fields : List (List ℕ)) (history : List ℕ) (data_len cues limit : ℕ) →
    AreFields fields →
    let form = form_size (length history) data_len cues in let n = 602 + length history in
    header f fields history data_len cues limit
    ≡ around (prefix (nat_le form limit) form data_len f n) (rear (nat_le form limit) data_len history n) fields
unfolding header
header_around f fields history data_len cues limit h =
    ap whole (length-append (bext_fixed fields) history
    ∙ ap (λ (k : ℕ). k + length history) (length-bext_fixed fields h)) ∙ go (nat_le form limit)
  where
    form : ℕ
    form = form_size (length history) data_len cues

    n : ℕ
    n = 602 + length history

    middle : ℕ → List ℕ
    middle k = chunk (fmt_chunk f) ++ (head (codes "bext") k ++ ((bext_fixed fields ++ history) ++ pad k))

    whole : ℕ → List ℕ
    whole k = cond (nat_le form limit)
        (head (codes "RIFF") form ++ codes "WAVE" ++ chunk junk_chunk ++ middle k ++ head (codes "data") data_len)
        (head (codes "BW64") unsaid ++ codes "WAVE" ++ chunk (ds64_chunk form data_len) ++ middle k
        ++ head (codes "data") unsaid)

    go : (v : Bool) → cond v
        (head (codes "RIFF") form ++ codes "WAVE" ++ chunk junk_chunk ++ middle n ++ head (codes "data") data_len)
        (head (codes "BW64") unsaid ++ codes "WAVE" ++ chunk (ds64_chunk form data_len) ++ middle n
        ++ head (codes "data") unsaid)
        ≡ around (prefix v form data_len f n) (rear v data_len history n) fields
    go true = regrouped (head (codes "RIFF") form) (codes "WAVE") (chunk junk_chunk) (chunk (fmt_chunk f))
        (head (codes "bext") n) (bext_fixed fields) history (pad n) (head (codes "data") data_len)
    go false = regrouped (head (codes "BW64") unsaid) (codes "WAVE") (chunk (ds64_chunk form data_len))
        (chunk (fmt_chunk f)) (head (codes "bext") n) (bext_fixed fields) history (pad n) (head (codes "data") unsaid)

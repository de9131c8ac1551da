-- What is read from a chunk's content is what was written into it.
use Rattle.std.proofs.Common.{◌≡◌, ℕ, ◌+◌, ◌-◌, ◌*◌, ◌/◌, ◌<◌, ◌≤◌, ◌^◌, true, ◌&&◌, ◌||◌, ◌⊎◌, inl, inr, List, [], ◌∷◌}
use Rattle.std.proofs.Common.{◌++◌, length, take, drop, refl, sym, ◌∙◌, ap, subst, arith, append_assoc, length-append}
use Rattle.std.specs.Prelude.{flat_map, map, ◌==◌, IsTrue, nat_le, nat_lt}
use Rattle.std.specs.List.{list_all}
use Rattle.std.specs.Int.{w32, from_le_bytes}
use Rattle.std.proofs.lemmas.List.{drop_at, drop-drop}
use Rattle.std.proofs.lemmas.Bool.{and_parts, or_cases, leb-true, ltb-true, eqb-true}
use Rattle.std.proofs.lemmas.Nat.{from_le_bytes-to_le_bytes_2, from_le_bytes-to_le_bytes_4, mul-le}
use Rattle.bw_model.specs.Bytes.{u16_at, u32_at, le32}
use Rattle.bw_model.specs.Take.{Format, is_format, block_align}
use Rattle.bw_model.specs.Layout.{fmt_content, cue_point, cue_content}
use Rattle.bw_model.specs.Report.{RawFmt, raw_fmt, RawCue, raw_cues}
use Rattle.bw_model.specs.ReadBack.{reported_fmt, reported_cue, is_marker}

-- `fmt `

record IsSmall (f : Format) : Type 0 where
  rate : f.rate ≤ 768000
  channels : f.channels ≤ 64
  bits : f.bits ≤ 32
  bytes : f.bits / 8 ≤ 4

is_small : (f : Format) → IsTrue (is_format f) → IsSmall f
is_small f h =
    let outer = and_parts (nat_le 1 f.rate && nat_le f.rate 768000 && (nat_le 1 f.channels && nat_le f.channels 64))
    ((f.bits == 16) || (f.bits == 24) || (f.bits == 32)) h in
    let inner = and_parts (nat_le 1 f.rate && nat_le f.rate 768000)
    (nat_le 1 f.channels && nat_le f.channels 64) outer.0 in
    let rate : f.rate ≤ 768000 =
    leb-true f.rate 768000 (and_parts (nat_le 1 f.rate) (nat_le f.rate 768000) inner.0).1 in
    let channels : f.channels ≤ 64 =
    leb-true f.channels 64 (and_parts (nat_le 1 f.channels) (nat_le f.channels 64) inner.1).1 in
    bits rate channels (or_cases ((f.bits == 16) || (f.bits == 24)) (f.bits == 32) outer.1)
  where
    at : f.rate ≤ 768000 → f.channels ≤ 64 → (n : ℕ) → f.bits ≡ n → n ≤ 32 → n / 8 ≤ 4 → IsSmall f
    at rate channels n e small bytes =
        record {
          rate = rate;
          channels = channels;
          bits = omega (arith, e);
          bytes = subst (λ (m : ℕ). m / 8 ≤ 4) (sym e) bytes;
        }

    bits : f.rate ≤ 768000 → f.channels ≤ 64 → ((f.bits == 16) || (f.bits == 24) ≡ true) ⊎ ((f.bits == 32) ≡ true) →
        IsSmall f
    bits rate channels (inr e) = at rate channels 32 (eqb-true f.bits 32 e) (omega arith) (omega arith)
    bits rate channels (inl e) = two (or_cases (f.bits == 16) (f.bits == 24) e)
      where
        two : ((f.bits == 16) ≡ true) ⊎ ((f.bits == 24) ≡ true) → IsSmall f
        two (inl e) = at rate channels 16 (eqb-true f.bits 16 e) (omega arith) (omega arith)
        two (inr e) = at rate channels 24 (eqb-true f.bits 24 e) (omega arith) (omega arith)

pub raw-fmt : (f : Format) → IsTrue (is_format f) → raw_fmt (fmt_content f) ≡ reported_fmt f
raw-fmt f h =
    ap (λ (n : ℕ). made n (u16_at c 2) (u32_at c 4) (u32_at c 8) (u16_at c 12) (u16_at c 14))
    (from_le_bytes-to_le_bytes_2 1 (omega arith))
    ∙ ap (λ (n : ℕ). made 1 n (u32_at c 4) (u32_at c 8) (u16_at c 12) (u16_at c 14))
    (from_le_bytes-to_le_bytes_2 f.channels (omega (arith, small.channels)))
    ∙ ap (λ (n : ℕ). made 1 f.channels n (u32_at c 8) (u16_at c 12) (u16_at c 14))
    (from_le_bytes-to_le_bytes_4 f.rate (omega (arith, small.rate)))
    ∙ ap (λ (n : ℕ). made 1 f.channels f.rate n (u16_at c 12) (u16_at c 14))
    (from_le_bytes-to_le_bytes_4 (f.rate * block_align f) (omega (arith, bytes)))
    ∙ ap (λ (n : ℕ). made 1 f.channels f.rate (f.rate * block_align f) n (u16_at c 14))
    (from_le_bytes-to_le_bytes_2 (block_align f) (omega (arith, align)))
    ∙ ap (λ (n : ℕ). made 1 f.channels f.rate (f.rate * block_align f) (block_align f) n)
    (from_le_bytes-to_le_bytes_2 f.bits (omega (arith, small.bits)))
  where
    small : IsSmall f
    small = is_small f h

    align : block_align f ≤ 256
    align = mul-le f.channels (f.bits / 8) 64 4 small.channels small.bytes

    bytes : f.rate * block_align f ≤ 196608000
    bytes = mul-le f.rate (block_align f) 768000 256 small.rate align

    made : ℕ → ℕ → ℕ → ℕ → ℕ → ℕ → RawFmt
    made tag channels rate bytes align bits =
        record { tag = tag; channels = channels; rate = rate; bytes_per_second = bytes; align = align; bits = bits }

    c : List ℕ
    c = fmt_content f

-- `cue `

-- a number after a prefix
shifted : (prefix x : List ℕ) (p i q : ℕ) → p ≡ length prefix → q ≡ p + i →
    u32_at (prefix ++ x) q ≡ from_le_bytes w32 (take 4 (drop i x))
shifted prefix x p i q e at =
    let count : p + i + 4 - (p + i) ≡ 4 = omega arith in
    ap (u32_at (prefix ++ x)) at
    ∙ ap (λ (k : ℕ). from_le_bytes w32 (take k (drop (p + i) (prefix ++ x)))) count
    ∙ ap (λ (z : List ℕ). from_le_bytes w32 (take 4 z))
    (sym (drop-drop i p (prefix ++ x)) ∙ ap (drop i) (drop_at prefix x p (sym e)))

cues_after : (prefix : List ℕ) (p : ℕ) (ms : List (ℕ × ℕ)) → p ≡ length prefix → IsTrue (list_all is_marker ms) →
    raw_cues (prefix ++ flat_map cue_point ms) p (length ms) ≡ map reported_cue ms
cues_after prefix p [] e h = refl
cues_after prefix p (m ∷ ms) e h =
    let both = and_parts (is_marker m) (list_all is_marker ms) h in
    let small = and_parts (nat_lt m.0 (2 ^ 32)) (nat_lt m.1 (2 ^ 32)) both.0 in
    let rest : List ℕ = flat_map cue_point ms in
    let c : List ℕ = prefix ++ (cue_point m ++ rest) in
    let following : p + 24 ≡ length (prefix ++ cue_point m) = omega (arith, length-append prefix (cue_point m)) in
    let id : u32_at c p ≡ m.0 =
    shifted prefix (cue_point m ++ rest) p 0 p e (omega arith)
    ∙ from_le_bytes-to_le_bytes_4 m.0 (ltb-true m.0 (2 ^ 32) small.0) in
    let position : u32_at c (p + 4) ≡ m.1 =
    shifted prefix (cue_point m ++ rest) p 4 (p + 4) e refl
    ∙ from_le_bytes-to_le_bytes_4 m.1 (ltb-true m.1 (2 ^ 32) small.1) in
    let offset : u32_at c (p + 20) ≡ m.1 =
    shifted prefix (cue_point m ++ rest) p 20 (p + 20) e refl
    ∙ from_le_bytes-to_le_bytes_4 m.1 (ltb-true m.1 (2 ^ 32) small.1) in
    ap (λ (n : ℕ). record { id = n; position = u32_at c (p + 4); offset = u32_at c (p + 20) }
    ∷ raw_cues c (p + 24) (length ms)) id
    ∙ ap (λ (n : ℕ). record { id = m.0; position = n; offset = u32_at c (p + 20) } ∷ raw_cues c (p + 24) (length ms))
    position
    ∙ ap (λ (n : ℕ). record { id = m.0; position = m.1; offset = n } ∷ raw_cues c (p + 24) (length ms)) offset
    ∙ ap (λ (cs : List RawCue). reported_cue m ∷ cs)
    (ap (λ (z : List ℕ). raw_cues z (p + 24) (length ms)) (sym (append_assoc prefix (cue_point m) rest))
    ∙ cues_after (prefix ++ cue_point m) (p + 24) ms following both.1)

pub raw-cues : (ms : List (ℕ × ℕ)) → length ms < 2 ^ 32 → IsTrue (list_all is_marker ms) →
    raw_cues (cue_content ms) 4 (u32_at (cue_content ms) 0) ≡ map reported_cue ms
raw-cues ms few h =
    ap (raw_cues (cue_content ms) 4) (from_le_bytes-to_le_bytes_4 (length ms) few)
    ∙ cues_after (le32 (length ms)) 4 ms refl h

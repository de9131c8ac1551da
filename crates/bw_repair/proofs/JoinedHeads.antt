-- A take under another size of its form, before other bytes.
use Rattle.std.proofs.Common.{◌≡◌, ◌∙◌, ◌⊎◌, ℕ, ◌+◌, ◌-◌, ◌^◌, ◌≤◌, ◌<◌, Bool, true, false, List, [], ◌∷◌, ◌++◌, length}
use Rattle.std.proofs.Common.{refl, sym, ap, arith, inl, inr}
use Rattle.std.specs.Prelude.{slice_range, if◌then◌else◌}
use Rattle.std.specs.Int.{w32, w64, from_le_bytes}
use Rattle.std.proofs.lemmas.List.{append_assoc, length-append}
use Rattle.std.proofs.lemmas.Nat.{from_le_bytes-to_le_bytes_4, from_le_bytes-to_le_bytes_8}
use Rattle.bw_model.specs.Bytes.{le32, le64, u32_at, u64_at, unsaid}
use Rattle.bw_model.specs.Reading.{id_at}
use Rattle.bw_model.proofs.StandingChunks.{range-whole}
use Rattle.bw_repair.proofs.JoinedBytes.{kept_range, padded_length}

-- where a form of t with this id has its size, and which bytes of t are at their places up to the end
pub record IsResized (t text id : List ℕ) (riff : Bool) (size end : ℕ) : Type 0 where
  pub named : id_at text 0 ≡ id
  pub narrow : riff ≡ true → u32_at text 4 ≡ size
  pub wide : riff ≡ false → (u32_at text 4 ≡ unsaid) × (u64_at text 20 ≡ size)
  pub ranges : (i j : ℕ) → 8 ≤ i → i ≤ j → j ≤ end → j ≤ length t → (riff ≡ true) ⊎ ((j ≤ 20) ⊎ (28 ≤ i)) →
      slice_range text i j ≡ slice_range t i j

-- this id and four bytes
named_head : (id x r text : List ℕ) → length id ≡ 4 → length x ≡ 4 → text ≡ (id ++ x) ++ r →
    (id_at text 0 ≡ id) × (slice_range text 4 8 ≡ x)
named_head id x r text four more is =
    let parts : text ≡ id ++ (x ++ r) = is ∙ append_assoc id x r in (
      ap (λ (z : List ℕ). id_at z 0) parts ∙ range-whole [] id (x ++ r) 0 4 refl (sym four),
      ap (λ (z : List ℕ). slice_range z 4 8) parts ∙ range-whole id x r 4 4 (sym four) (sym more),
    )

narrow_is : (id t r text : List ℕ) (size end : ℕ) → length id ≡ 4 → end ≤ length t + 1 → size < 2 ^ 32 →
    text ≡ (id ++ le32 size) ++ (slice_range (t ++ 0 ∷ []) 8 end ++ r) → IsResized t text id true size end
narrow_is id t r text size end four whole small is =
    let head = named_head id (le32 size) (slice_range (t ++ 0 ∷ []) 8 end ++ r) text four refl is in
    let eight : length (id ++ le32 size) ≡ length id + 4 = length-append id (le32 size) in
    record {
      named = head.0;
      narrow = λ e. ap (from_le_bytes w32) head.1 ∙ from_le_bytes-to_le_bytes_4 size small;
      wide = λ e. absurd (cc);
      ranges = λ i j low up far there any.
          ap (λ (z : List ℕ). slice_range z i j) is
          ∙ kept_range (id ++ le32 size) t r 8 end i j (omega (arith, eight, four)) whole low up far there;
    }

wide_is : (id t r text : List ℕ) (size end : ℕ) → length id ≡ 4 → end ≤ length t + 1 → 28 ≤ end → size < 2 ^ 64 →
    text ≡ (id ++ le32 unsaid)
    ++ (slice_range (t ++ 0 ∷ []) 8 20 ++ (le64 size ++ (slice_range (t ++ 0 ∷ []) 28 end ++ r))) →
    IsResized t text id false size end
wide_is id t r text size end four whole some small is =
    let low = slice_range (t ++ 0 ∷ []) 8 20 in
    let high = slice_range (t ++ 0 ∷ []) 28 end in
    let front = id ++ le32 unsaid in
    let eight : length front ≡ length id + 4 = length-append id (le32 unsaid) in
    let twelve : length low ≡ 12 = padded_length t 8 20 (omega (arith, whole, some)) in
    let twenty : length (front ++ low) ≡ length front + length low = length-append front low in
    let more : length ((front ++ low) ++ le64 size) ≡ length (front ++ low) + 8 =
    length-append (front ++ low) (le64 size) in
    let head = named_head id (le32 unsaid) (low ++ (le64 size ++ (high ++ r))) text four refl is in
    let second : text ≡ (front ++ low) ++ (le64 size ++ (high ++ r)) =
    is ∙ sym (append_assoc front low (le64 size ++ (high ++ r))) in
    let third : text ≡ ((front ++ low) ++ le64 size) ++ (high ++ r) =
    second ∙ sym (append_assoc (front ++ low) (le64 size) (high ++ r)) in
    record {
      named = head.0;
      narrow = λ e. absurd (cc);
      wide = λ e. (
        ap (from_le_bytes w32) head.1,
        ap (λ (z : List ℕ). u64_at z 20) second
            ∙ ap (from_le_bytes w64) (range-whole (front ++ low) (le64 size) (high ++ r) 20 8
            (omega (arith, eight, twelve, twenty, four)) refl)
            ∙ from_le_bytes-to_le_bytes_8 size small,
      );
      ranges = λ i j above up far there part.
          elim part [
            | inl e ↦ absurd (cc)
            | inr side ↦ elim side [
              | inl below ↦ ap (λ (z : List ℕ). slice_range z i j) is
                  ∙ kept_range front t (le64 size ++ (high ++ r)) 8 20 i j (omega (arith, eight, four))
                  (omega (arith, whole, some)) above up below there
              | inr after ↦ ap (λ (z : List ℕ). slice_range z i j) third
                  ∙ kept_range ((front ++ low) ++ le64 size) t r 28 end i j
                  (omega (arith, eight, twelve, twenty, more, four)) whole after up far there
            ]
          ];
    }

-- t with the size of the one kind of form, or of the other
abbrev pub resized_by : Bool → List ℕ → ℕ → ℕ → List ℕ → List ℕ
resized_by riff id size end t =
    if riff then id ++ le32 size ++ slice_range (t ++ 0 ∷ []) 8 end
    else id ++ le32 unsaid ++ slice_range (t ++ 0 ∷ []) 8 20 ++ le64 size ++ slice_range (t ++ 0 ∷ []) 28 end

-- the take of a joined file
pub resized_is : (riff : Bool) (id t r : List ℕ) (size end : ℕ) → length id ≡ 4 → end ≤ length t + 1 →
    (riff ≡ true → size < 2 ^ 32) → (riff ≡ false → (28 ≤ end) × (size < 2 ^ 64)) →
    IsResized t (resized_by riff id size end t ++ r) id riff size end
resized_is true id t r size end four whole narrow wide =
    narrow_is id t r _ size end four whole (narrow refl)
    (append_assoc (id ++ le32 size) (slice_range (t ++ 0 ∷ []) 8 end) r)
resized_is false id t r size end four whole narrow wide =
    let w = wide refl in
    wide_is id t r _ size end four whole w.0 w.1
    (parts (id ++ le32 unsaid) (slice_range (t ++ 0 ∷ []) 8 20) (le64 size) (slice_range (t ++ 0 ∷ []) 28 end) r)
  where
    parts : (a b c d e : List ℕ) → (((a ++ b) ++ c) ++ d) ++ e ≡ a ++ (b ++ (c ++ (d ++ e)))
    parts a b c d e = simp append_assoc

-- .. is as long as where it ends
pub resized_length : (riff : Bool) (id t : List ℕ) (size end : ℕ) → length id ≡ 4 → end ≤ length t + 1 → 8 ≤ end →
    (riff ≡ false → 28 ≤ end) →
    length (resized_by riff id size end t) ≡ end
resized_length true id t size end four whole some wide =
    let x = slice_range (t ++ 0 ∷ []) 8 end in
    let all : length ((id ++ le32 size) ++ x) ≡ length (id ++ le32 size) + length x =
    length-append (id ++ le32 size) x in
    let head : length (id ++ le32 size) ≡ length id + 4 = length-append id (le32 size) in
    let rest : length x ≡ end - 8 = padded_length t 8 end whole in
    omega (arith, all, head, rest, four, some)
resized_length false id t size end four whole some wide =
    let more : 28 ≤ end = wide refl in
    let low = slice_range (t ++ 0 ∷ []) 8 20 in
    let high = slice_range (t ++ 0 ∷ []) 28 end in
    let front = id ++ le32 unsaid in
    let head : length front ≡ length id + 4 = length-append id (le32 unsaid) in
    let twelve : length low ≡ 12 = padded_length t 8 20 (omega (arith, whole, more)) in
    let rest : length high ≡ end - 28 = padded_length t 28 end whole in
    let first : length (front ++ low) ≡ length front + length low = length-append front low in
    let second : length ((front ++ low) ++ le64 size) ≡ length (front ++ low) + 8 =
    length-append (front ++ low) (le64 size) in
    let all : length (((front ++ low) ++ le64 size) ++ high) ≡ length ((front ++ low) ++ le64 size) + length high =
    length-append ((front ++ low) ++ le64 size) high in
    omega (arith, all, head, twelve, rest, first, second, four, more)

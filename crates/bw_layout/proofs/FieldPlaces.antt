-- Where the fields of `bext` are in a header.
use Rattle.std.proofs.Common.{◌≡◌, ℕ, zero, suc, ◌+◌, ◌-◌, ◌≤◌, List, ◌++◌, length, take, drop, sym, ◌∙◌, ap, subst}
use Rattle.std.proofs.Common.{arith, length-append, refl, ◌∷◌}
use Rattle.std.specs.Prelude.{codes, nat_le, slice_range, slice_set}
use Rattle.bw_model.specs.Bytes.{zeros}
use Rattle.bw_model.specs.Take.{Format, AreFields, with_field, field_bytes, Text, Digits, Whole, Maybe, Level}
use Rattle.bw_model.specs.File.{form_size}
use Rattle.bw_layout.specs.Places.{field_part, from_version, StandsAt}
use Rattle.bw_layout.proofs.AroundBext.{around, prefix, rear, length-prefix, header_around}
use Rattle.bw_layout.proofs.JoinedRanges.{range_at_seam, changed_at_seam}
use Rattle.bw_layout.proofs.BextParts.{by_name, cut1, cut2, cut3, cut4, cut5, cut6, cut7, cut8, version, loudness}
use Rattle.bw_layout.proofs.BextParts.{length-version, texts-length, wide-length}

-- between its ends the fixed part can be cut before and after each field
record Seams (tag place count : ℕ) (p q : List ℕ) (fields : List (List ℕ)) : Type 0 where
  before : List ℕ
  following : List ℕ
  place-is : length before ≡ place
  count-is : length (field_part tag fields) ≡ count
  old : around p q fields ≡ before ++ (field_part tag fields ++ following)
  new : (value : List ℕ) →
      around p q (with_field fields tag value) ≡ before ++ (field_part tag (with_field fields tag value) ++ following)

-- seams between any ends are enough
from_seams : (tag place count : ℕ) →
    ((p q : List ℕ) → length p ≡ 80 → (fields : List (List ℕ)) → AreFields fields → Seams tag place count p q fields) →
    StandsAt tag place count
from_seams tag place count seams = record {
  bytes = λ f fields history data_len cues limit h.
      let s = seams (p f history data_len cues limit) (q history data_len cues limit)
      (p-length f history data_len cues limit) fields h in
      ap (λ (l : List ℕ). slice_range l place (place + count))
      (header_around f fields history data_len cues limit h ∙ s.old)
      ∙ range_at_seam s.before (field_part tag fields) s.following place count s.place-is s.count-is;
  others = λ f fields value history data_len cues limit h h'.
      let s = seams (p f history data_len cues limit) (q history data_len cues limit)
      (p-length f history data_len cues limit) fields h in
      let y = field_part tag (with_field fields tag value) in
      header_around f (with_field fields tag value) history data_len cues limit h' ∙ s.new value
      ∙ changed_at_seam s.before (field_part tag fields) y s.following place count s.place-is s.count-is
      ∙ ap (λ (l : List ℕ). take place l ++ y ++ drop (place + count) l)
      (sym (header_around f fields history data_len cues limit h ∙ s.old));
}
  where
    form : List ℕ → ℕ → ℕ → ℕ
    form history data_len cues = form_size (length history) data_len cues

    p : Format → List ℕ → ℕ → ℕ → ℕ → List ℕ
    p f history data_len cues limit =
        prefix (nat_le (form history data_len cues) limit) (form history data_len cues) data_len f (602 + length history)

    q : List ℕ → ℕ → ℕ → ℕ → List ℕ
    q history data_len cues limit =
        rear (nat_le (form history data_len cues) limit) data_len history (602 + length history)

    p-length : (f : Format) (history : List ℕ) (data_len cues limit : ℕ) → length (p f history data_len cues limit) ≡ 80
    p-length f history data_len cues limit =
        length-prefix (nat_le (form history data_len cues) limit) (form history data_len cues) data_len f
        (602 + length history)

pub stands_1 : StandsAt 1 80 256
stands_1 = from_seams 1 80 256 (λ p q p-length. by_name (Seams 1 80 256 p q) (λ a b c d e t u levels w. record {
  before = p;
  following = b ++ c ++ d ++ e ++ t ++ version levels ++ u ++ loudness levels ++ zeros 180 ++ q;
  place-is = p-length;
  count-is = w.a-width;
  old = cut1 p a b c d e t (version levels) u (loudness levels) (zeros 180) q;
  new = λ value. cut1 p (field_bytes (Text 256) value) b c d e t (version levels) u (loudness levels) (zeros 180) q;
}))

pub stands_2 : StandsAt 2 336 32
stands_2 = from_seams 2 336 32 (λ p q p-length. by_name (Seams 2 336 32 p q) (λ a b c d e t u levels w. record {
  before = p ++ a;
  following = c ++ d ++ e ++ t ++ version levels ++ u ++ loudness levels ++ zeros 180 ++ q;
  place-is = simp length-append (omega (arith, p-length, w.a-width));
  count-is = w.b-width;
  old = cut2 p a b c d e t (version levels) u (loudness levels) (zeros 180) q;
  new = λ value. cut2 p a (field_bytes (Text 32) value) c d e t (version levels) u (loudness levels) (zeros 180) q;
}))

pub stands_3 : StandsAt 3 368 32
stands_3 = from_seams 3 368 32 (λ p q p-length. by_name (Seams 3 368 32 p q) (λ a b c d e t u levels w. record {
  before = p ++ a ++ b;
  following = d ++ e ++ t ++ version levels ++ u ++ loudness levels ++ zeros 180 ++ q;
  place-is = simp length-append (omega (arith, p-length, w.a-width, w.b-width));
  count-is = w.c-width;
  old = cut3 p a b c d e t (version levels) u (loudness levels) (zeros 180) q;
  new = λ value. cut3 p a b (field_bytes (Text 32) value) d e t (version levels) u (loudness levels) (zeros 180) q;
}))

pub stands_4 : StandsAt 4 400 10
stands_4 = from_seams 4 400 10 (λ p q p-length. by_name (Seams 4 400 10 p q) (λ a b c d e t u levels w. record {
  before = p ++ a ++ b ++ c;
  following = e ++ t ++ version levels ++ u ++ loudness levels ++ zeros 180 ++ q;
  place-is = simp length-append (omega (arith, p-length, w.a-width, w.b-width, w.c-width));
  count-is = w.d-width;
  old = cut4 p a b c d e t (version levels) u (loudness levels) (zeros 180) q;
  new = λ value. cut4 p a b c (field_bytes (Digits (codes "dddd-dd-dd")) value) e t (version levels) u
      (loudness levels) (zeros 180) q;
}))

pub stands_5 : StandsAt 5 410 8
stands_5 = from_seams 5 410 8 (λ p q p-length. by_name (Seams 5 410 8 p q) (λ a b c d e t u levels w. record {
  before = p ++ a ++ b ++ c ++ d;
  following = t ++ version levels ++ u ++ loudness levels ++ zeros 180 ++ q;
  place-is = simp length-append (omega (arith, p-length, w.a-width, w.b-width, w.c-width, w.d-width));
  count-is = w.e-width;
  old = cut5 p a b c d e t (version levels) u (loudness levels) (zeros 180) q;
  new = λ value. cut5 p a b c d (field_bytes (Digits (codes "dd:dd:dd")) value) t (version levels) u (loudness levels)
      (zeros 180) q;
}))

pub stands_6 : StandsAt 6 418 8
stands_6 = from_seams 6 418 8 (λ p q p-length. by_name (Seams 6 418 8 p q) (λ a b c d e t u levels w. record {
  before = p ++ a ++ b ++ c ++ d ++ e;
  following = version levels ++ u ++ loudness levels ++ zeros 180 ++ q;
  place-is = simp length-append (omega (arith, p-length, w.a-width, w.b-width, w.c-width, w.d-width, w.e-width));
  count-is = w.t-width;
  old = cut6 p a b c d e t (version levels) u (loudness levels) (zeros 180) q;
  new = λ value. cut6 p a b c d e (field_bytes (Whole 8) value) (version levels) u (loudness levels) (zeros 180) q;
}))

pub stands_7 : StandsAt 7 428 64
stands_7 = from_seams 7 428 64 (λ p q p-length. by_name (Seams 7 428 64 p q) (λ a b c d e t u levels w. record {
  before = p ++ a ++ b ++ c ++ d ++ e ++ t ++ version levels;
  following = loudness levels ++ zeros 180 ++ q;
  place-is = length-append (p ++ a ++ b ++ c ++ d ++ e ++ t) (version levels)
      ∙ omega (arith, texts-length p a b c d e t u levels p-length w, length-version levels);
  count-is = w.u-width;
  old = cut7 p a b c d e t (version levels) u (loudness levels) (zeros 180) q;
  new = λ value. cut7 p a b c d e t (version levels) (field_bytes (Maybe 64) value) (loudness levels) (zeros 180) q;
}))

-- the five loudness fields, each by the loudness that it sets
abbrev IsLoud : ℕ → ℕ → Type 0
IsLoud tag k = (a b c d e t u : List ℕ) (levels : List (List ℕ)) (value : List ℕ) →
    with_field (a ∷ b ∷ c ∷ d ∷ e ∷ t ∷ u ∷ levels) tag value
    ≡ a ∷ b ∷ c ∷ d ∷ e ∷ t ∷ u ∷ slice_set levels k (field_bytes Level value)

loud_stands : (tag k : ℕ) → ((fields : List (List ℕ)) → field_part tag fields ≡ from_version fields) → IsLoud tag k →
    StandsAt tag 426 76
loud_stands tag k wide sets =
    from_seams tag 426 76 (λ p q p-length. by_name (Seams tag 426 76 p q) (λ a b c d e t u levels w.
    let prefix = p ++ a ++ b ++ c ++ d ++ e ++ t in
    let following = zeros 180 ++ q in
    let cut : (ls : List (List ℕ)) →
    around p q (a ∷ b ∷ c ∷ d ∷ e ∷ t ∷ u ∷ ls)
    ≡ prefix ++ (field_part tag (a ∷ b ∷ c ∷ d ∷ e ∷ t ∷ u ∷ ls) ++ following) =
    λ ls. cut8 p a b c d e t (version ls) u (loudness ls) (zeros 180) q
    ∙ ap (λ (m : List ℕ). prefix ++ (m ++ following)) (sym (wide (a ∷ b ∷ c ∷ d ∷ e ∷ t ∷ u ∷ ls))) in
    record {
      before = prefix;
      following = following;
      place-is = texts-length p a b c d e t u levels p-length w;
      count-is = ap length (wide (a ∷ b ∷ c ∷ d ∷ e ∷ t ∷ u ∷ levels)) ∙ wide-length a b c d e t u levels w;
      old = cut levels;
      new = λ value. subst (λ (fs : List (List ℕ)). around p q fs ≡ prefix ++ (field_part tag fs ++ following))
          (sym (sets a b c d e t u levels value)) (cut (slice_set levels k (field_bytes Level value)));
    }))

pub stands_8 : StandsAt 8 426 76
stands_8 = loud_stands 8 0 (λ fields. refl) (λ a b c d e t u levels value. refl)

pub stands_9 : StandsAt 9 426 76
stands_9 = loud_stands 9 1 (λ fields. refl) (λ a b c d e t u levels value. refl)

pub stands_10 : StandsAt 10 426 76
stands_10 = loud_stands 10 2 (λ fields. refl) (λ a b c d e t u levels value. refl)

pub stands_11 : StandsAt 11 426 76
stands_11 = loud_stands 11 3 (λ fields. refl) (λ a b c d e t u levels value. refl)

pub stands_12 : StandsAt 12 426 76
stands_12 = loud_stands 12 4 (λ fields. refl) (λ a b c d e t u levels value. refl)

-- the five loudness fields share their place
pub loudness_stands : (tag : ℕ) → 8 ≤ tag → tag ≤ 12 → StandsAt tag 426 76
loudness_stands tag low high =
    let after_seven : 8 + (tag - 8) ≡ tag = omega arith in
    subst (λ (t : ℕ). StandsAt t 426 76) after_seven (go (tag - 8) (omega arith))
  where
    go : (k : ℕ) → k ≤ 4 → StandsAt (8 + k) 426 76
    go zero h = stands_8
    go (suc zero) h = stands_9
    go (suc (suc zero)) h = stands_10
    go (suc (suc (suc zero))) h = stands_11
    go (suc (suc (suc (suc zero)))) h = stands_12
    go (suc (suc (suc (suc (suc k))))) h = absurd (omega arith)

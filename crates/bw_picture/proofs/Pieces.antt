-- Levels that are read piece by piece.
use Rattle.std.proofs.Common.{◌≡◌, ℕ, zero, suc, ◌+◌, ◌*◌, ◌/◌, ◌%◌, ◌≤◌, ◌<◌, List, length, drop, Option, Some, refl}
use Rattle.std.proofs.Common.{sym, ◌∙◌, ap, arith}
use Rattle.std.proofs.Common.{add_assoc, add-zero, add-suc}
use Rattle.std.proofs.Math.Nat.{mul-le-mul_right}
use Rattle.std.specs.Prelude.{slice_range, slice_index, min, max}
use Rattle.bw_inspect.specs.Places.{IsGiven}
use Rattle.bw_inspect.proofs.PartialReads.{part_at}
use Rattle.bw_picture.specs.Levels.{bytes_of, level_at, levels_of, unsigned_at}
use Rattle.bw_picture.specs.Peaks.{frame_level, greatest_of, least_of}
use Rattle.bw_picture.specs.Reads.{HasWidened, file_level}
use Rattle.bw_picture.specs.declared.level.SampleWidth.{SampleWidth}
use Rattle.bw_picture.specs.declared.level.SampleWidth.TheVariants.{Two, Three, Four}

least-add : (f : ℕ → ℕ) (low m n : ℕ) → least_of f low (m + n) ≡ least_of (λ k. f (m + k)) (least_of f low m) n
least-add f low m zero = ap (least_of f low) (add-zero m)
least-add f low m (suc n) =
    ap (least_of f low) (add-suc m n) ∙ ap (λ (k : ℕ). min k (f (m + n))) (least-add f low m n)

greatest-add : (f : ℕ → ℕ) (high m n : ℕ) → greatest_of f high (m + n)
    ≡ greatest_of (λ k. f (m + k)) (greatest_of f high m) n
greatest-add f high m zero = ap (greatest_of f high) (add-zero m)
greatest-add f high m (suc n) =
    ap (greatest_of f high) (add-suc m n) ∙ ap (λ (k : ℕ). max k (f (m + n))) (greatest-add f high m n)

least-same : (f g : ℕ → ℕ) (low n : ℕ) → ((k : ℕ) → k < n → f k ≡ g k) → least_of f low n ≡ least_of g low n
least-same f g low zero e = refl
least-same f g low (suc n) e =
    ap (λ (k : ℕ). min k (f n)) (least-same f g low n (λ k h. e k (omega arith)))
    ∙ ap (min (least_of g low n)) (e n (omega arith))

greatest-same : (f g : ℕ → ℕ) (high n : ℕ) → ((k : ℕ) → k < n → f k ≡ g k) → greatest_of f high n
    ≡ greatest_of g high n
greatest-same f g high zero e = refl
greatest-same f g high (suc n) e =
    ap (λ (k : ℕ). max k (f n)) (greatest-same f g high n (λ k h. e k (omega arith)))
    ∙ ap (max (greatest_of g high n)) (e n (omega arith))

-- a level of some values and then of others, where it is the least of them or the greatest
module _ (of : (ℕ → ℕ) → ℕ → ℕ → ℕ)
    (same : (f g : ℕ → ℕ) (v n : ℕ) → ((k : ℕ) → k < n → f k ≡ g k) → of f v n ≡ of g v n)
    (add : (f : ℕ → ℕ) (v m n : ℕ) → of f v (m + n) ≡ of (λ k. f (m + k)) (of f v m) n) where
  level_more : (value shown : ℕ → ℕ) (first mid last done count : ℕ) → mid ≡ of value first done →
      last ≡ of shown mid count → ((k : ℕ) → k < count → shown k ≡ value (done + k)) →
      last ≡ of value first (done + count)
  level_more value shown first mid last done count was is shows =
      is ∙ same shown (λ k. value (done + k)) mid count shows
      ∙ ap (λ (v : ℕ). of (λ k. value (done + k)) v count) was ∙ sym (add value first done count)

part : (b piece : List ℕ) (base n p m : ℕ) → piece ≡ slice_range b base (base + n) → p + m ≤ n →
    slice_range piece p (p + m) ≡ slice_range b (base + p) (base + p + m)
part b piece base n p m e h =
    ap (λ (x : List ℕ). slice_range x p (p + m)) e
    ∙ part_at b base n p (p + m) (omega arith) h
    ∙ ap (slice_range b (base + p)) (sym (add_assoc base p m))

unsigned_part : (w : SampleWidth) (b piece : List ℕ) (base n p : ℕ) → piece ≡ slice_range b base (base + n) →
    p + bytes_of w ≤ n → unsigned_at w piece p ≡ unsigned_at w b (base + p)
unsigned_part Two b piece base n p e h = rw (part b piece base n p 2 e h) refl
unsigned_part Three b piece base n p e h = rw (part b piece base n p 3 e h) refl
unsigned_part Four b piece base n p e h = rw (part b piece base n p 4 e h) refl

level_part : (w : SampleWidth) (b piece : List ℕ) (base n p : ℕ) → piece ≡ slice_range b base (base + n) →
    p + bytes_of w ≤ n → level_at w piece p ≡ level_at w b (base + p)
level_part w b piece base n p e h =
    ap (λ (u : ℕ). (u + levels_of w / 2) % levels_of w) (unsigned_part w b piece base n p e h)

room : (c size n align : ℕ) → c < n → n * size ≤ align → c * size + size ≤ align
room c size n align h fits = grind (arith, h, fits)

-- the level in a piece is that of the file
same_level : (w : SampleWidth) (b piece : List ℕ) (place done count align c k n : ℕ) →
    piece ≡ slice_range b (place + done * align) (place + done * align + count * align) →
    c < n → n * bytes_of w ≤ align → k < count →
    frame_level w piece align (c * bytes_of w) k ≡ file_level w b place align c (done + k)
same_level w b piece place done count align c k n e h fits below =
    let size : ℕ = bytes_of w in
    let within : c * size + size ≤ align = room c size n align h fits in
    let frames : k * align + align ≤ count * align = room k align count (count * align) below (omega arith) in
    let ends : k * align + c * size + size ≤ count * align = omega (arith, within, frames) in
    level_part w b piece (place + done * align) (count * align) (k * align + c * size) e ends
    ∙ ap (level_at w b) (let at : place + done * align + (k * align + c * size)
    ≡ place + (done + k) * align + c * size =
    omega arith in at)

-- further frames are taken
pub widened_more : (b : List ℕ) (place done count : ℕ) (w : SampleWidth) (align : ℕ)
    (lows highs lows' highs' lows'' highs'' piece : List ℕ) (left left' : Option (List ℕ)) →
    length lows * bytes_of w ≤ align → length lows' ≡ length lows →
    HasWidened b place done w align lows highs lows' highs' left →
    IsGiven b (place + done * align) (count * align) piece left' →
    ((c : ℕ) → c < length lows' → slice_index lows'' c ≡
    least_of (frame_level w piece align (c * bytes_of w)) (slice_index lows' c) count) →
    ((c : ℕ) → c < length lows' → slice_index highs'' c ≡
    greatest_of (frame_level w piece align (c * bytes_of w)) (slice_index highs' c) count) →
    HasWidened b place (done + count) w align lows highs lows'' highs'' left'
widened_more b place done count w align lows highs lows' highs' lows'' highs'' piece left left' fits long h given lo hi
    =
    record {
      lows_are = λ c below.
          let below' : c < length lows' = omega (arith, long, below) in
          level_more least_of least-same least-add (file_level w b place align c) _ _ _ _ done count
          (h.lows_are c below) (lo c below')
          (λ k under. same_level w b piece place done count align c k (length lows) given.bytes below fits under);
      highs_are = λ c below.
          let below' : c < length lows' = omega (arith, long, below) in
          level_more greatest_of greatest-same greatest-add (file_level w b place align c) _ _ _ _ done count
          (h.highs_are c below) (hi c below')
          (λ k under. same_level w b piece place done count align c k (length lows) given.bytes below fits under);
      rest = given.rest ∙ ap (λ (k : ℕ). Some (drop k b))
          (let at : place + done * align + count * align ≡ place + (done + count) * align = omega arith in at);
    }

-- some of the frames aren't there
pub frames_end_before : (b : List ℕ) (place done count frames align n : ℕ) → n ≡ count * align → done + count ≤ frames →
    length b < place + done * align + n → length b < place + frames * align
frames_end_before b place done count frames align n is within short =
    let all : (done + count) * align ≤ frames * align = mul-le-mul_right align within in
    omega (arith, is, all, short)

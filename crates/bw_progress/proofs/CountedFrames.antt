-- What the first requests of a recording's plan bring of it.
use Rattle.std.proofs.Common.{◌≡◌, ℕ, zero, suc, ◌+◌, ◌-◌, ◌*◌, ◌≤◌, inl, inr, List, [], ◌∷◌, ◌++◌, length, map}
use Rattle.std.proofs.Common.{refl, ◌∙◌, ap, arith}
use Rattle.std.proofs.Common.{length-take, length-drop}
use Rattle.std.proofs.Common.{◌<◌, mul_comm}
use Rattle.std.specs.Prelude.{◌/◌, ◌%◌, min, max, take, drop}
use Rattle.std.proofs.Math.Nat.{div-add-mod, mod-lt, mul-div_cancel, mul-sub, suc-mul, zero-mul}
use Rattle.std.proofs.lemmas.Bool.{cases_lt}
use Rattle.std.proofs.lemmas.Nat.{mul-le}
use Rattle.bw_model.specs.Take.{Request, Block, Close, block_align}
use Rattle.bw_plan.specs.Plans.{plan, pieces, field_requests, block_requests, mark_request}
use Rattle.bw_plan.specs.Recordings.{block_frames, given_count, piece_count}
use Rattle.bw_plan.proofs.PlanCounts.{count_fields}
use Rattle.bw_plan.proofs.PlanLaws.{align_is_some}
use Rattle.bw_progress.specs.CountedFrames.{SettledFramesAreCounted, frames_of_first}

-- no request
of_none : (align n : ℕ) → frames_of_first align n [] ≡ 0
of_none align zero = refl
of_none align (suc n) = refl

-- as many requests
as_many : (align n m : ℕ) (requests : List Request) → n ≡ m →
    frames_of_first align n requests ≡ frames_of_first align m requests
as_many align n m requests same = ap (λ (k : ℕ). frames_of_first align k requests) same

-- one list after another
of_both : (align n : ℕ) (xs ys : List Request) → frames_of_first align n (xs ++ ys)
    ≡ frames_of_first align n xs + frames_of_first align (n - length xs) ys
of_both align zero xs ys =
    let none : frames_of_first align (zero - length xs) ys ≡ zero =
    as_many align (zero - length xs) zero ys (omega arith) in
    omega (arith, none)
of_both align (suc n) [] ys = let same = as_many align (suc n - 0) (suc n) ys (omega arith) in omega (arith, same)
of_both align (suc n) (x ∷ xs) ys =
    let less = as_many align (suc n - length (x ∷ xs)) (n - length xs) ys (omega arith) in
    let rest = of_both align n xs ys in
    omega (arith, rest, less)

-- fields have no frames
of_fields : (align n tag : ℕ) (values : List (List ℕ)) → frames_of_first align n (field_requests tag values) ≡ 0
of_fields align zero tag values = refl
of_fields align (suc n) tag [] = refl
of_fields align (suc n) tag ([] ∷ values) = of_fields align (suc n) (suc tag) values
of_fields align (suc n) tag ((c ∷ cs) ∷ values) =
    let rest = of_fields align n (suc tag) values in
    omega (arith, rest)

-- nor have markers, and CLOSE
of_marks : (align n : ℕ) (marks : List (ℕ × ℕ)) → frames_of_first align n (map mark_request marks) ≡ 0
of_marks align zero marks = refl
of_marks align (suc n) [] = refl
of_marks align (suc n) (m ∷ marks) = let rest = of_marks align n marks in omega (arith, rest)

of_close : (align n frames : ℕ) → frames_of_first align n (Close frames ∷ []) ≡ 0
of_close align zero frames = refl
of_close align (suc n) frames = let rest = of_none align n in omega (arith, rest)

-- a block of so many frames has these, or all that are left
frames_of_block : (align frames q : ℕ) → 1 ≤ align → min (frames * align) (q * align) / align ≡ min frames q
frames_of_block align frames q some = elim (cases_lt frames q) [
  | inl few ↦
      let scaled : frames * align ≤ q * align = mul-le frames align q align (omega (arith, few)) (omega arith) in
      let bytes : min (frames * align) (q * align) ≡ frames * align = omega (arith, scaled) in
      ap (λ (n : ℕ). n / align) bytes ∙ mul-div_cancel frames some ∙ omega (arith, few)
  | inr few ↦
      let scaled : q * align ≤ frames * align = mul-le q align frames align few (omega arith) in
      let bytes : min (frames * align) (q * align) ≡ q * align = omega (arith, scaled) in
      ap (λ (n : ℕ). n / align) bytes ∙ mul-div_cancel q some ∙ omega (arith, few)
]

-- blocks of so many frames, which are enough for the samples
of_blocks : (align frames q count n : ℕ) (bytes : List ℕ) → 1 ≤ align → length bytes ≡ q * align →
    length bytes ≤ count * (frames * align) →
    frames_of_first align n (map Block (pieces count (frames * align) bytes)) ≡ min (n * frames) q
of_blocks align frames q count zero bytes some whole enough =
    let none : zero * frames ≡ zero = zero-mul frames in
    omega (arith, none)
of_blocks align frames q zero (suc n) bytes some whole enough =
    let none : zero * (frames * align) ≡ zero = zero-mul (frames * align) in
    let least : q * 1 ≤ q * align = mul-le q 1 q align (omega arith) some in
    omega (arith, whole, enough, least, none)
of_blocks align frames q (suc count) (suc n) bytes some whole enough =
    let size : ℕ = frames * align in
    let first : length (take size bytes) / align ≡ min frames q =
    ap (λ (k : ℕ). k / align) (length-take size bytes ∙ ap (min size) whole) ∙ frames_of_block align frames q some in
    let left : length (drop size bytes) ≡ length bytes - size = length-drop size bytes in
    let apart : align * (q - frames) ≡ align * q - align * frames = mul-sub align q frames in
    let x : (q - frames) * align ≡ align * (q - frames) = mul_comm (q - frames) align in
    let y : q * align ≡ align * q = mul_comm q align in
    let z : frames * align ≡ align * frames = mul_comm frames align in
    let rest : length (drop size bytes) ≡ (q - frames) * align = omega (arith, left, whole, apart, x, y, z) in
    let next : suc count * size ≡ count * size + size = suc-mul count size in
    let room : length (drop size bytes) ≤ count * size = omega (arith, left, enough, next) in
    let again = of_blocks align frames (q - frames) count n (drop size bytes) some rest room in
    let more : suc n * frames ≡ n * frames + frames = suc-mul n frames in
    omega (arith, first, again, more)

-- so many pieces are enough
enough_pieces : (size len : ℕ) → 1 ≤ size → len ≤ piece_count size len * size
enough_pieces size len some =
    let d : size * (len / size) + len % size ≡ len = div-add-mod len size in
    let short : len % size < size = mod-lt len some in
    let turn : size * (len / size) ≡ len / size * size = mul_comm size (len / size) in
    elim (cases_lt 0 (len % size)) [
      | inl part ↦
          let count : len / size + min 1 (len % size) ≡ suc (len / size) = omega (arith, part) in
          let bytes : (len / size + min 1 (len % size)) * size ≡ len / size * size + size =
          ap (λ (k : ℕ). k * size) count ∙ suc-mul (len / size) size in
          omega (arith, d, short, turn, bytes)
      | inr none ↦
          let count : len / size + min 1 (len % size) ≡ len / size = omega (arith, none) in
          let bytes : (len / size + min 1 (len % size)) * size ≡ len / size * size =
          ap (λ (k : ℕ). k * size) count in
          omega (arith, d, none, turn, bytes)
    ]

some_of_most : (n : ℕ) → 1 ≤ max 1 n
some_of_most n = omega arith

pub settled_frames_are_counted : SettledFramesAreCounted
unfolding plan
settled_frames_are_counted o r offered zero clean long =
    let none : zero - (1 + given_count r.outline.values) ≡ zero = omega arith in
    let nothing : (zero - (1 + given_count r.outline.values)) * block_frames o r.outline.format ≡ zero =
    ap (λ (k : ℕ). k * block_frames o r.outline.format) none ∙ zero-mul (block_frames o r.outline.format) in
    omega (arith, nothing)
settled_frames_are_counted o r offered (suc n) clean long =
    let align : ℕ = block_align r.outline.format in
    let frames : ℕ = block_frames o r.outline.format in
    let q : ℕ = length r.samples / align in
    let given : ℕ = given_count r.outline.values in
    let some : 1 ≤ align = align_is_some r.outline.format clean.format in
    let any : 1 ≤ frames = some_of_most _ in
    let size_some : 1 ≤ frames * align = mul-le 1 1 frames align any some in
    let sets = field_requests 1 r.outline.values in
    let blocks = block_requests (frames * align) r.samples in
    let marks = map mark_request r.outline.markers in
    let a = of_both align n (sets ++ blocks ++ marks) (Close q ∷ []) in
    let b = of_both align n (sets ++ blocks) marks in
    let c = of_both align n sets blocks in
    let d = of_fields align n 1 r.outline.values in
    let e = of_close align (n - length (sets ++ blocks ++ marks)) q in
    let f = of_marks align (n - length (sets ++ blocks)) r.outline.markers in
    let fields : length sets ≡ given = count_fields 1 r.outline.values in
    let at : n - length sets ≡ suc n - (1 + given) = omega (arith, fields) in
    let split = div-add-mod (length r.samples) align in
    let turn = mul_comm align q in
    let rest = clean.whole in
    let whole : length r.samples ≡ q * align = omega (arith, split, turn, rest) in
    let pieces_do = enough_pieces (frames * align) (length r.samples) size_some in
    let g = of_blocks align frames q (piece_count (frames * align) (length r.samples)) (suc n - (1 + given)) r.samples
    some whole pieces_do in
    let h : frames_of_first align (n - length sets) blocks ≡ frames_of_first align (suc n - (1 + given)) blocks =
    ap (λ (k : ℕ). frames_of_first align k blocks) at in
    let all : r.outline.samples_len / align ≡ q = ap (λ (k : ℕ). k / align) long in
    omega (arith, a, b, c, d, e, f, g, h, all)

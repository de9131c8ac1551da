-- A padded message in blocks.
use Rattle.std.proofs.Common.{◌≡◌, ℕ, ◌+◌, ◌-◌, ◌*◌, ◌/◌, ◌%◌, ◌^◌, ◌<◌, ◌≤◌, List, ◌∷◌, ◌++◌, length, take}
use Rattle.std.proofs.Common.{drop, replicate, refl, sym, ap, ◌∙◌, arith, length-append, length-drop}
use Rattle.std.proofs.Common.{length-take}
use Rattle.std.proofs.lemmas.List.{take-append-le, drop-append-le, append_assoc, drop-take, take-take}
use Rattle.std.proofs.lemmas.List.{drop-drop, take_at, length-replicate}
use Rattle.std.proofs.lemmas.Slice.{take-put_mid}
use Rattle.std.specs.Int.{w64, to_be_bytes}
use Rattle.sha2.specs.Sha256.{padded_message, padding}
use Rattle.bw_digest.specs.Messages.{block_of, blocks_in, IsTail}
use borrow.Rule.Slice.PartMut.{put_mid}

pub length-padding : (n : ℕ) → length (padding n) ≡ (119 - n % 64) % 64 + 9
length-padding n =
    let zeros : List ℕ = replicate ((119 - n % 64) % 64) 0 in
    omega (arith, length-append zeros (to_be_bytes w64 (n * 8 % 2 ^ 64)), length-replicate {A = ℕ} ((119 - n % 64) % 64) 0)

length-padded : (m : List ℕ) → length (padded_message m) ≡ length m + ((119 - length m % 64) % 64 + 9)
length-padded m = length-append m (padding (length m)) ∙ ap (λ n. length m + n) (length-padding (length m))

-- a block that is whole in the message
pub block_inside : (m : List ℕ) (place : ℕ) → place < length m / 64 → take 64 (drop (place * 64) m) ≡ block_of m place
block_inside m place inside =
    let at : drop (place * 64) (padded_message m) ≡ drop (place * 64) m ++ padding (length m) =
    drop-append-le (place * 64) m (padding (length m)) (omega arith) in
    sym (ap (take 64) at ∙ take-append-le 64 (drop (place * 64) m) (padding (length m)) (omega (arith, length-drop (place * 64) m)))

-- a block after the last that is whole in the message
pub block_after : (m tail : List ℕ) (place : ℕ) → IsTail m tail → length m / 64 ≤ place → place < blocks_in m
    → take 64 (drop ((place - length m / 64) * 64) tail) ≡ block_of m place
block_after m tail place is after before =
    let q : ℕ = length m / 64 in
    let k : ℕ = (place - q) * 64 in
    let r : ℕ = length (padded_message m) - q * 64 - k in
    let count = length-padded m in
    let all : length (padded_message m) - q * 64 ≡ k + r = omega (arith, count) in
    let whole : drop k (take (k + r) tail) ≡ take r (drop k tail) = drop-take k r tail in
    let seam : drop k (drop (q * 64) (padded_message m)) ≡ drop (place * 64) (padded_message m) =
    drop-drop k (q * 64) (padded_message m) ∙ ap (λ n. drop n (padded_message m)) (omega arith) in
    let from : take r (drop k tail) ≡ drop (place * 64) (padded_message m) =
    sym whole ∙ ap (drop k) (rw all at is) ∙ seam in
    sym (take-take 64 r (drop k tail) (omega (arith, count))) ∙ ap (take 64) from

-- what is written one after the other: the end of the message, a bit 1 and zeros, the length
pub tail_is : (m rest after p l : List ℕ) (e j k : ℕ) → rest ≡ drop (length m / 64 * 64) m →
    p ≡ 0x80 ∷ replicate ((119 - length m % 64) % 64) 0
    → l ≡ to_be_bytes w64 (length m * 8 % 2 ^ 64) → length (rest ++ after) ≡ 128 → e ≡ length m % 64 + length p
    → IsTail m (put_mid e j (put_mid (length m % 64) k (rest ++ after) p) l)
tail_is m rest after p l e j k er ep el long ee =
    let u : ℕ = length m % 64 in
    let first : List ℕ = rest ++ after in
    let second : List ℕ = put_mid u k first p in
    let used : length rest ≡ u = ap length er ∙ length-drop (length m / 64 * 64) m ∙ omega arith in
    let eight : length l ≡ 8 = rw el refl in
    let marks : length p ≡ (119 - length m % 64) % 64 + 1 = ap length ep
    ∙ omega (arith, length-replicate {A = ℕ} ((119 - length m % 64) % 64) 0) in
    let one : take u first ≡ rest = take_at rest after u used in
    let two : take e second ≡ rest ++ p = take-put_mid u k first p e ee (omega (arith, used, length-append rest after))
    ∙ ap (λ x. x ++ p) one in
    let room : e ≤ length second = omega (arith, ap length two, length-append rest p, used, length-take e second) in
    let three : take (e + 8) (put_mid e j second l) ≡ (rest ++ p) ++ l = take-put_mid e j second l (e + 8) (omega arith) room
    ∙ ap (λ x. x ++ l) two in
    let count : length (padded_message m) - length m / 64 * 64 ≡ e + 8 = omega (arith, length-padded m, marks) in
    rw count three
    ∙ append_assoc rest p l ∙ rw (er, ep, el) (sym (drop-append-le (length m / 64 * 64) m (padding (length m)) (omega arith)))

-- a padded message has a block at least
pub has_a_block : (m : List ℕ) → 0 < blocks_in m
has_a_block m = omega (arith, length-padded m)

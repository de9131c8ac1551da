-- What is held once bytes at the start are released.
use Rattle.std.proofs.Common.{◌≡◌, ℕ, ◌+◌, ◌-◌, ◌<◌, ◌≤◌, List, ◌++◌, length, take, drop, sym, ap, ◌∙◌, arith}
use Rattle.std.specs.Prelude.{nat_le, if◌then◌else◌}
use Rattle.std.proofs.lemmas.Bool.Decides.{nat_tests}
use Rattle.std.proofs.lemmas.List.{drop-take, length-drop, length-take}
use Rattle.std.proofs.Math.Seq.{take-append_seam}
use Rattle.bw_wire.specs.Held.{largest_kept, longest_rest, room_kept, Held}

-- a large block is released, and another is kept
pub room_kept-small : (room : ℕ) → room ≤ largest_kept → room_kept room ≡ room
room_kept-small room small = grind (arith, nat_tests)

pub room_kept-large : (room : ℕ) → largest_kept < room → room_kept room ≡ longest_rest
room_kept-large room large = grind (arith, nat_tests)

-- the spare block that there is beside a large one
pub spare-large : (size spare : ℕ) → spare ≡ (if nat_le size largest_kept then 0 else longest_rest)
    → largest_kept < size → spare ≡ longest_rest
spare-large size spare e large = grind (arith, nat_tests)

-- after some of the first bytes
pub drop-prefix : (count len : ℕ) (items : List ℕ) → count ≤ len
    → drop count (take len items) ≡ take (len - count) (drop count items)
drop-prefix count len items h =
    let all : len ≡ count + (len - count) = omega arith in
    ap (λ (n : ℕ). drop count (take n items)) all ∙ drop-take count (len - count) items

-- what is left was copied to the start of another block
pub moved : (count len : ℕ) (items seen spare block : List ℕ) → count ≤ len → len ≤ length items → seen ≡ items
    → take (0 + length (take (len - count) (drop count seen))) block
    ≡ take 0 spare ++ take (len - count) (drop count seen)
    → take (len - count) block ≡ drop count (take len items)
moved count len items seen spare block h within same copied =
    let n : 0 + length (take (len - count) (drop count seen)) ≡ len - count =
    omega (arith, ap (length {A = ℕ}) same, length-take (len - count) (drop count seen), length-drop count seen) in
    ap (λ (k : ℕ). take k block) (sym n)
    ∙ (copied
    ∙ (ap (λ (x : List ℕ). take (len - count) (drop count x)) same ∙ sym (drop-prefix count len items h)))

-- what is left was copied to the start of its block
pub shifted : (count len : ℕ) (items block : List ℕ) → count ≤ len → len ≤ length items
    → block ≡ take 0 items ++ take (len - count) (drop count items) ++ drop (0 + (len - count)) items
    → take (len - count) block ≡ drop count (take len items)
shifted count len items block h within copied =
    let prefix = take (len - count) (drop count items) in
    let n : length prefix ≡ len - count =
    omega (arith, length-take (len - count) (drop count items), length-drop count items) in
    ap (take (len - count)) copied
    ∙ (ap (λ (k : ℕ). take k (prefix ++ drop (0 + (len - count)) items)) (sym n)
    ∙ (take-append_seam prefix (drop (0 + (len - count)) items) ∙ sym (drop-prefix count len items h)))

-- what is held by its parts
pub held-parts : (bytes : List ℕ) (room : ℕ) (h : Held) → bytes ≡ h.bytes → room ≡ h.room
    → record { bytes = bytes; room = room } ≡ h
held-parts bytes room h e f =
    ap (λ (x : List ℕ). record { bytes = x; room = room }) e ∙ ap (λ (n : ℕ). record { bytes = h.bytes; room = n }) f

-- no more than the bytes is released
pub within_prefix : (count len : ℕ) (items : List ℕ) → count ≤ length (take len items) → len ≤ length items
    → count ≤ len
within_prefix count len items h within = omega (arith, length-take len items)

-- What a buffer of samples holds, by its parts.
use Rattle.std.proofs.Common.{◌≡◌, ℕ, ◌+◌, ◌-◌, ◌<◌, ◌≤◌, List, ◌++◌, length, take, drop, Option, sym, ap, ◌∙◌, arith}
use Rattle.std.proofs.lemmas.List.{drop-take, length-drop, length-take}
use Rattle.std.proofs.Math.Seq.{take-append_seam}
use Rattle.bw_send_file.specs.FollowedReads.{ReadsAfter}
use Rattle.bw_send_file.specs.Samples.{HeldSamples, HoldsMore}

-- what was read into the room is held
same_held : (room more : List ℕ) (held len : ℕ) → len ≡ length room → held ≤ length room →
    take held (take len (room ++ more)) ≡ take held room
same_held room more held len e h =
    let all : take len (room ++ more) ≡ room =
    ap (λ (k : ℕ). take k (room ++ more)) e ∙ take-append_seam room more in
    ap (take held) all

pub holds_more : (old : HeldSamples) (size : ℕ) (room now room' more xs : List ℕ) (held held' len : ℕ)
    (left : Option (List ℕ)) → record { size = size; held = take held room } ≡ old → now ≡ room →
    len ≡ length room' → held' ≤ length room' → ReadsAfter now held xs room' held' left →
    HoldsMore old xs (record { size = len; held = take held' (take len (room' ++ more)) }) left
holds_more old size room now room' more xs held held' len left is same e h r = record {
  rest = r.rest;
  left_is = r.left_is;
  together = ap (λ (z : List ℕ). z ++ r.rest) (same_held room' more held' len e h)
      ∙ r.together
      ∙ ap (λ (z : List ℕ). take held z ++ xs) same
      ∙ ap (λ (z : HeldSamples). z.held ++ xs) is;
}

pub is_short : (room more : List ℕ) (held len : ℕ) → len ≡ length room → held ≤ length room →
    length (take held (take len (room ++ more))) < len → held < length room
is_short room more held len e h short =
    let same = ap length (same_held room more held len e h) in
    let long = length-take held room in
    omega (arith, e, h, short, same, long)

-- what is left of a prefix was copied to the start of its room
copied_back : (count len : ℕ) (items room : List ℕ) → count ≤ len → len ≤ length items →
    room ≡ take 0 items ++ take (len - count) (drop count items) ++ drop (0 + (len - count)) items →
    take (len - count) room ≡ drop count (take len items)
copied_back count len items room h within copied =
    let prefix = take (len - count) (drop count items) in
    let n : length prefix ≡ len - count =
    omega (arith, length-take (len - count) (drop count items), length-drop count items) in
    let whole : count + (len - count) ≡ len = omega (arith, h) in
    ap (take (len - count)) copied
    ∙ (ap (λ (k : ℕ). take k (prefix ++ drop (0 + (len - count)) items)) (sym n)
    ∙ (take-append_seam prefix (drop (0 + (len - count)) items)
    ∙ sym (ap (λ (k : ℕ). drop count (take k items)) (sym whole) ∙ drop-take count (len - count) items)))

pub prefix_removed : (old : HeldSamples) (count len size size' : ℕ) (items room : List ℕ) →
    record { size = size; held = take len items } ≡ old → size' ≡ size → len ≤ length items →
    count ≤ length old.held →
    room ≡ take 0 items ++ take (len - count) (drop count items) ++ drop (0 + (len - count)) items →
    record { size = size'; held = take (len - count) room } ≡ record old { held = drop count old.held }
prefix_removed old count len size size' items room is same within few copied =
    let long = length-take len items in
    let held : length (take len items) ≡ length old.held = ap (λ (z : HeldSamples). length z.held) is in
    let h : count ≤ len = omega (arith, few, held, long, within) in
    ap (λ (z : List ℕ). record { size = size'; held = z }) (copied_back count len items room h within copied)
    ∙ ap (λ (n : ℕ). record { size = n; held = drop count (take len items) }) same
    ∙ ap (λ (z : HeldSamples). record z { held = drop count z.held }) is

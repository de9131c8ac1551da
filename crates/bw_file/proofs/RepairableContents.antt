-- Contents between two files: the bytes that a request leaves alone are in them.
use Rattle.std.proofs.Common.{◌≡◌, ◌⊎◌, inl, inr, ℕ, ◌+◌, ◌-◌, ◌≤◌, ◌<◌, List, ◌++◌, length, take, drop, get_or, refl}
use Rattle.std.proofs.Common.{sym, ◌∙◌, ap, arith, length-append, length-drop, take-append-drop}
use Rattle.std.specs.Prelude.{slice_range}
use Rattle.std.proofs.lemmas.List.{places, same_lists, take_at, drop_at, length-take-le, get_or-take, get_or-drop}
use Rattle.bw_model.specs.File.{Repairable}
use Rattle.bw_store.specs.Stores.{Torn}

-- a range of bytes that a torn write doesn't touch
range_stays : (found torn : List ℕ) (from to place n : ℕ) → to ≤ length found → Torn found place n torn →
    (place + n ≤ from) ⊎ (to ≤ place) → slice_range torn from to ≡ slice_range found from to
range_stays found torn from to place n fits t apart =
    let low = t.no_shorter in
    let short : length (take (to - from) (drop from torn)) ≡ to - from =
    length-take-le (to - from) (drop from torn) (omega (arith, length-drop from torn)) in
    let long : length (take (to - from) (drop from found)) ≡ to - from =
    length-take-le (to - from) (drop from found) (omega (arith, length-drop from found)) in
    same_lists _ _ (short ∙ sym long) (λ k d h.
    let small : k < to - from = omega (arith, short) in
    let inside : from + k < length found = omega arith in
    let same : get_or torn (from + k) 0 ≡ get_or found (from + k) 0 =
    elim apart [ inl b ↦ t.following (from + k) (omega arith) | inr b ↦ t.before (from + k) (omega arith) ] in
    get_or-take (to - from) (drop from torn) k d small ∙ get_or-drop from torn k d ∙ grind (arith, places, same))

-- what a torn write of bytes that the request may change leaves
pub repairable_torn : (old new found torn : List ℕ) (from to place n : ℕ) → to ≤ length old →
    Repairable old new from to found → Torn found place n torn → (place + n ≤ from) ⊎ (to ≤ place) →
    place + n ≤ length new → Repairable old new from to torn
repairable_torn old new found torn from to place n fits r t apart room =
    let low = r.no_shorter in
    let high = r.no_longer in
    let a = t.no_shorter in
    let b = t.no_longer in
    record {
      no_shorter = omega arith;
      no_longer = omega arith;
      kept = range_stays found torn from to place n (omega arith) t apart ∙ r.kept;
    }

-- the old file is such a content
pub repairable_old : (old new : List ℕ) (from to : ℕ) → length old ≤ length new → Repairable old new from to old
repairable_old old new from to h = record { no_shorter = omega arith; no_longer = h; kept = refl }

-- the parts of such a content: any bytes, those that are left alone, and a bounded number after
-- them
pub record Parted (prefix_len : ℕ) (kept : List ℕ) (most : ℕ) (found : List ℕ) : Type 0 where
  pub prefix : List ℕ
  pub rest : List ℕ
  pub parts : found ≡ prefix ++ (kept ++ rest)
  pub prefix_is : length prefix ≡ prefix_len
  pub rest_is : length rest ≤ most

range_at : (prefix kept tail : List ℕ) (from to : ℕ) → length prefix ≡ from → from + length kept ≡ to →
    slice_range (prefix ++ (kept ++ tail)) from to ≡ kept
range_at prefix kept tail from to f t =
    let n : to - from ≡ length kept = omega arith in
    ap (take (to - from)) (drop_at prefix (kept ++ tail) from f) ∙ take_at kept tail (to - from) (sym n)

pub repairable_parts : (prefix kept tail new found : List ℕ) (from to : ℕ) → length prefix ≡ from →
    from + length kept ≡ to → Repairable (prefix ++ (kept ++ tail)) new from to found →
    Parted from kept (length new - to) found
repairable_parts prefix kept tail new found from to f t r =
    let low = r.no_shorter in
    let high = r.no_longer in
    let long : length (prefix ++ (kept ++ tail)) ≡ from + (length kept + length tail) =
    omega (arith, length-append prefix (kept ++ tail), length-append kept tail) in
    let n : to - from ≡ length kept = omega arith in
    let stands : take (to - from) (drop from found) ≡ kept = r.kept ∙ range_at prefix kept tail from to f t in
    record {
      prefix = take from found;
      rest = drop (to - from) (drop from found);
      parts = sym (take-append-drop from found)
          ∙ ap (λ (l : List ℕ). take from found ++ l)
          (sym (take-append-drop (to - from) (drop from found))
          ∙ ap (λ (l : List ℕ). l ++ drop (to - from) (drop from found)) stands);
      prefix_is = length-take-le from found (omega arith);
      rest_is = omega (arith, length-drop (to - from) (drop from found), length-drop from found);
    }

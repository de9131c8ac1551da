-- One request after the other.
use Rattle.std.proofs.Common.{◌≡◌, ℕ, suc, ◌+◌, ◌-◌, ◌<◌, ◌≤◌, min, Bool, true, false, List, ◌∷◌, ◌++◌}
use Rattle.std.proofs.Common.{length, map, take, drop, refl, sym, ◌∙◌, ap, subst, arith}
use Rattle.std.proofs.Common.{length-take, length-drop}
use Rattle.std.specs.Prelude.{◌*◌, ◌/◌, ◌%◌, slice_range, nat_le}
use Rattle.std.proofs.lemmas.Bool.{leb-true, leb-false}
use Rattle.std.proofs.lemmas.List.{take_all, drop_all, take-append-le, take-take, drop-drop, drop-take}
use Rattle.std.proofs.lemmas.Nat.{div-mul-add}
use Rattle.std.proofs.Math.Nat.{add-div_right, add-mod_right, mod-eq_of_lt}
use Rattle.std.proofs.Common.{Option, Some, Result, OnOk, Ok, Err}
use Rattle.bw_model.specs.Take.{Block}
use Rattle.bw_inspect.specs.Places.{IsGiven}
use Rattle.bw_plan.specs.Progress.{Samples, IsNextBlock}
use Rattle.bw_plan.specs.Recordings.{piece_count}
use Rattle.bw_plan.specs.Plans.{pieces, block_requests}

-- one piece more, and those of what is left
piece_more : (size len : ℕ) → 1 ≤ size → 0 < len → piece_count size len ≡ suc (piece_count size (len - size))
piece_more size len some more = go (nat_le size len) refl
  where
    go : (v : Bool) → nat_le size len ≡ v → piece_count size len ≡ suc (piece_count size (len - size))
    go true h =
        let fits : size ≤ len = leb-true size len h in
        let whole : len ≡ (len - size) + size = omega (arith, fits) in
        let q : len / size ≡ (len - size) / size + 1 =
        ap (λ (n : ℕ). n / size) whole ∙ add-div_right (len - size) some in
        let r : len % size ≡ (len - size) % size =
        ap (λ (n : ℕ). n % size) whole ∙ add-mod_right (len - size) size in
        ap (λ (n : ℕ). n + min 1 (len % size)) q
        ∙ ap (λ (n : ℕ). (len - size) / size + 1 + min 1 n) r ∙ omega arith
    go false h =
        let short : len < size = leb-false size len h in
        let only : len ≡ 0 * size + len = omega arith in
        let q : len / size ≡ 0 = ap (λ (n : ℕ). n / size) only ∙ div-mul-add 0 size len short in
        let r : len % size ≡ len = mod-eq_of_lt short in
        let none : len - size ≡ 0 = omega (arith, short) in
        let all : len - size ≡ 0 * size + 0 = omega (arith, none) in
        let q' : (len - size) / size ≡ 0 =
        ap (λ (n : ℕ). n / size) all ∙ div-mul-add 0 size 0 (omega (arith, some)) in
        let r' : (len - size) % size ≡ 0 = ap (λ (n : ℕ). n % size) none ∙ mod-eq_of_lt (omega (arith, some)) in
        let one : 0 + min 1 len ≡ 1 = omega (arith, more) in
        let zero_more : 0 + min 1 0 ≡ 0 = omega arith in
        let now : piece_count size len ≡ 1 =
        ap (λ (n : ℕ). n + min 1 (len % size)) q ∙ ap (λ (n : ℕ). 0 + min 1 n) r ∙ one in
        let then : piece_count size (len - size) ≡ 0 =
        ap (λ (n : ℕ). n + min 1 ((len - size) % size)) q' ∙ ap (λ (n : ℕ). 0 + min 1 n) r' ∙ zero_more in
        now ∙ sym (ap suc then)

-- samples are a block, and the blocks of what stands after it
pub first_block : (size : ℕ) (xs : List ℕ) → 1 ≤ size → 0 < length xs →
    block_requests size xs ≡ Block (take size xs) ∷ block_requests size (drop size xs)
first_block size xs some more =
    let rest : ℕ = piece_count size (length (drop size xs)) in
    let count : piece_count size (length xs) ≡ suc rest =
    piece_more size (length xs) some more ∙ ap (λ (n : ℕ). suc (piece_count size n)) (sym (length-drop size xs)) in
    ap (λ (n : ℕ). map Block (pieces n size xs)) count

-- the first bytes of a part, as many as there are
first_part : (b : List ℕ) (p l size : ℕ) →
    take size (slice_range b p (p + l)) ≡ slice_range b p (p + min l size)
first_part b p l size = go (nat_le size l) refl
  where
    go : (v : Bool) → nat_le size l ≡ v → take size (slice_range b p (p + l)) ≡ slice_range b p (p + min l size)
    go true h =
        let fits : size ≤ l = leb-true size l h in
        take-take size (p + l - p) (drop p b) (omega (arith, fits))
        ∙ ap (λ (n : ℕ). take n (drop p b)) (omega (arith, fits))
    go false h =
        let short : l < size = leb-false size l h in
        let few = length-take (p + l - p) (drop p b) in
        take_all size (slice_range b p (p + l)) (omega (arith, short, few))
        ∙ ap (λ (n : ℕ). take n (drop p b)) (omega (arith, short))

-- what stands after them
other_part : (b : List ℕ) (p l size : ℕ) →
    drop size (slice_range b p (p + l)) ≡ slice_range b (p + min l size) (p + min l size + (l - min l size))
other_part b p l size = go (nat_le size l) refl
  where
    go : (v : Bool) → nat_le size l ≡ v →
        drop size (slice_range b p (p + l)) ≡ slice_range b (p + min l size) (p + min l size + (l - min l size))
    go true h =
        let fits : size ≤ l = leb-true size l h in
        let least : min l size ≡ size = omega (arith, fits) in
        ap (λ (n : ℕ). drop size (take n (drop p b))) (omega (arith, fits))
        ∙ drop-take size (l - size) (drop p b)
        ∙ ap (take (l - size)) (drop-drop size p b)
        ∙ ap (λ (n : ℕ). take n (drop (p + size) b)) (omega (arith, fits))
        ∙ ap (λ (n : ℕ). slice_range b (p + n) (p + n + (l - n))) (sym least)
    go false h =
        let short : l < size = leb-false size l h in
        let few = length-take (p + l - p) (drop p b) in
        let none : p + min l size + (l - min l size) - (p + min l size) ≡ 0 = omega (arith, short) in
        drop_all size (slice_range b p (p + l)) (omega (arith, short, few))
        ∙ sym (ap (λ (n : ℕ). take n (drop (p + min l size) b)) none)

-- the block that was read, and those of what is left
pub block_read : (b block : List ℕ) (p l size : ℕ) → 1 ≤ size → 0 < l → p + min l size ≤ length b →
    block ≡ slice_range b p (p + min l size) →
    block_requests size (slice_range b p (p + l))
    ≡ Block block ∷ block_requests size (slice_range b (p + min l size) (p + min l size + (l - min l size)))
block_read b block p l size some more there e =
    let xs : List ℕ = slice_range b p (p + l) in
    let long : length xs ≡ min (p + l - p) (length (drop p b)) = length-take (p + l - p) (drop p b) in
    let rest = length-drop p b in
    first_block size xs some (omega (arith, long, rest, some, more, there))
    ∙ ap (λ (ys : List ℕ). Block ys ∷ block_requests size (drop size xs)) (first_part b p l size ∙ sym e)
    ∙ ap (λ (ys : List ℕ). Block block ∷ block_requests size ys) (other_part b p l size)

-- a block that was read into a buffer which has room for no more
read_on : (b buf rest old : List ℕ) (size p l m n k : ℕ) (left : Option (List ℕ)) → 1 ≤ size → 0 < l →
    m ≡ min l size → n ≡ m → k ≡ m → IsGiven b p n buf left →
    IsNextBlock b (record { size = size; block = old; place = p; left = l })
    (record { size = size; block = take k (buf ++ rest); place = p + m; left = l - m }) left
read_on b buf rest old size p l m n k left some more e f h given =
    let full : m ≡ n = omega (arith, f) in
    let there : p + m ≤ length b = let t = given.within (omega (arith, e, f, some, more)) in omega (arith, t, full) in
    let got : buf ≡ slice_range b p (p + min l size) =
    given.bytes ∙ ap (λ (i : ℕ). slice_range b p (p + i)) (f ∙ e) in
    let fits : p + min l size ≤ length b = omega (arith, there, e) in
    let long : length buf ≡ m =
    ap length got ∙ length-take (p + min l size - p) (drop p b)
    ∙ (let d = length-drop p b in omega (arith, d, fits, e)) in
    let held : take k (buf ++ rest) ≡ buf =
    take-append-le k buf rest (omega (arith, long, h)) ∙ take_all k buf (omega (arith, long, h)) in
    record {
      request = block_read b (take k (buf ++ rest)) p l size some more fits (held ∙ got)
          ∙ ap (λ (i : ℕ). Block (take k (buf ++ rest)) ∷ block_requests size (slice_range b (p + i) (p + i + (l - i))))
          (sym e);
      stands = given.rest ∙ ap (λ (i : ℕ). Some (drop (p + i) b)) f;
    }

-- the same of samples with these parts
pub next_block : (b buf rest old : List ℕ) (s : Samples) (size p l m n k : ℕ) (left : Option (List ℕ)) →
    record { size = size; block = old; place = p; left = l } ≡ s → 1 ≤ size → 0 < l →
    m ≡ min l size → n ≡ m → k ≡ m → IsGiven b p n buf left →
    IsNextBlock b s (record { size = size; block = take k (buf ++ rest); place = p + m; left = l - m }) left
next_block b buf rest old s size p l m n k left same some more e f h given =
    subst (λ (x : Samples). IsNextBlock b x
    (record { size = size; block = take k (buf ++ rest); place = p + m; left = l - m }) left) same
    (read_on b buf rest old size p l m n k left some more e f h given)

-- what an answer of Ok says, by what it said before
pub on_ok_map : {X E : Type 0} {P Q : Type 0} → (r : Result X E) → OnOk r P → (P → Q) → OnOk r Q
on_ok_map (Ok x) p f = f p
on_ok_map (Err e) p f = tt

-- The chunks of a list, one after another.
use Rattle.std.proofs.Common.{◌≡◌, ℕ, zero, suc, ◌+◌, ◌-◌, ◌≤◌, ◌<◌, List, [], ◌++◌, length, drop, refl, sym, arith}
use Rattle.std.proofs.Common.{append_assoc, subst}
use Rattle.std.proofs.lemmas.Bool.{le-ltb, lt-ltb}
use Rattle.std.proofs.lemmas.List.{length-drop}
use Rattle.bw_model.specs.Bytes.{u32_at, even_up}
use Rattle.bw_contents.specs.Texts.{Said}
use Rattle.bw_contents.specs.Lists.{part_says, parts_say}

-- there is a whole head: its chunk, and those after it
pub record PartStep (n : ℕ) (type c : List ℕ) : Type 0 where
  pub fewer : ℕ
  pub enough : length (drop (8 + even_up (u32_at c 4)) c) ≤ fewer
  pub is : parts_say n type c ≡ part_says type c ++ parts_say fewer type (drop (8 + even_up (u32_at c 4)) c)

pub part_step : (n : ℕ) (type c : List ℕ) → 8 ≤ length c → length c ≤ n → PartStep n type c
part_step zero type c long few = absurd (omega (arith, long, few))
part_step (suc m) type c long few = record {
  fewer = m;
  enough =
      let cut : length (drop (8 + even_up (u32_at c 4)) c) ≡ length c - (8 + even_up (u32_at c 4)) =
      length-drop (8 + even_up (u32_at c 4)) c in
      omega (arith, cut, few, long);
  is = rw (le-ltb (length c) 8 long) refl;
}

-- there is none
pub no_part : (n : ℕ) (type c : List ℕ) → length c < 8 → parts_say n type c ≡ []
no_part zero type c short = refl
no_part (suc m) type c short = rw (lt-ltb (length c) 8 short) refl

-- a list and what the chunks from one on say, after this one's was appended
pub parts_put : (n : ℕ) (type c next : List ℕ) (old new all : List Said) → 8 ≤ length c → length c ≤ n
    → new ≡ old ++ part_says type c → next ≡ drop (8 + even_up (u32_at c 4)) c
    → old ++ parts_say n type c ≡ all
    → (m : ℕ) × (length next ≤ m) × (new ++ parts_say m type next ≡ all)
parts_put n type c next old new all long few put is whole =
    let step = part_step n type c long few in
    let rest : length next ≤ step.fewer = subst (λ (x : List ℕ). length x ≤ step.fewer) (sym is) step.enough in
    (step.fewer, rest, rw (put, is, append_assoc, ← step.is) whole)

-- The first frame of bytes depends on their number, on the length that they give, and on its body alone.
use Rattle.std.proofs.Common.{◌≡◌, ◌≢◌, ◌≤◌, ℕ, zero, suc, ◌+◌, ◌-◌, Bool, true, false, not, ◌&&◌, ◌||◌, cond}
use Rattle.std.proofs.Common.{List, [], ◌∷◌, ◌++◌, length, take, drop, Option, Some, None, Result, Ok, Err, nat_lt}
use Rattle.std.proofs.Common.{refl, sym, ap, ◌∙◌, arith, ◌==◌}
use Rattle.std.specs.List.{list_all}
use Rattle.std.proofs.lemmas.Bool.{ne_eqb}
use Rattle.std.proofs.lemmas.List.{take_at, length-append}
use Rattle.bw_model.specs.Bytes.{u32_at, first_that_holds, unless, is_within}
use Rattle.bw_model.specs.Wire.{Version, Second, Frame, Says, Asks, Bye, Reason, Name}
use Rattle.bw_model.specs.Wire.{decoded, is_name, is_name_byte, is_name_bad, name_in, number_in, payload_in}
use Rattle.bw_model.specs.Wire.{request_of, body_faults}
use Rattle.bw_model.specs.Stream.{End, BadFrame, end_by, end_at, framing_faults}
use Rattle.bw_model.specs.Stream.{longest_body, before}
use Rattle.bw_model.proofs.Addresses.{name_in-cons}
use Rattle.bw_model.proofs.FrameLaws.{first_by, first_frame-by}

-- what a frame's body says
abbrev pub body_in : List ℕ → List ℕ
body_in bytes = take (u32_at bytes 0) (drop 4 bytes)

-- bytes of the same number, after the same length
pub record SameFraming (xs ys : List ℕ) : Type 0 where
  pub count : length ys ≡ length xs
  pub size : u32_at ys 0 ≡ u32_at xs 0

pub faults-same : (xs ys : List ℕ) → SameFraming xs ys →
    first_that_holds (framing_faults longest_body ys) ≡ first_that_holds (framing_faults longest_body xs)
faults-same xs ys s = rw (s.count, s.size) refl

-- an end doesn't depend on what follows the frame
pub end-same : (place : ℕ) (more later : List ℕ) (read : Result Frame Reason) (fault : Option Reason) →
    end_by place (first_by later read fault) ≡ end_by place (first_by more read fault)
end-same place more later (Ok (Says m)) None = refl
end-same place more later (Ok (Asks name number)) None = refl
end-same place more later (Ok Bye) None = refl
end-same place more later (Err reason) None = refl
end-same place more later read (Some reason) = refl

-- the end at bytes that aren't empty
pub end-by : (v : Version) (place x : ℕ) (xs : List ℕ)
    → end_at v place (x ∷ xs)
    ≡ end_by place (first_by (drop (4 + u32_at (x ∷ xs) 0) (x ∷ xs)) (decoded v (body_in (x ∷ xs)))
    (first_that_holds (framing_faults longest_body (x ∷ xs))))
end-by v place x xs = ap (end_by place) (first_frame-by v (x ∷ xs))

-- with the same body
pub ends-same : (v : Version) (place x y : ℕ) (xs ys : List ℕ) → SameFraming (x ∷ xs) (y ∷ ys) →
    body_in (y ∷ ys) ≡ body_in (x ∷ xs) → end_at v place (y ∷ ys) ≡ end_at v place (x ∷ xs)
ends-same v place x y xs ys s e =
    end-by v place y ys
    ∙ ap (λ (f : Option Reason). end_by place (first_by (drop (4 + u32_at (y ∷ ys) 0) (y ∷ ys))
    (decoded v (body_in (y ∷ ys))) f)) (faults-same (x ∷ xs) (y ∷ ys) s)
    ∙ ap (λ (b : List ℕ). end_by place (first_by (drop (4 + u32_at (y ∷ ys) 0) (y ∷ ys)) (decoded v b)
    (first_that_holds (framing_faults longest_body (x ∷ xs))))) e
    ∙ end-same place (drop (4 + u32_at (x ∷ xs) 0) (x ∷ xs)) (drop (4 + u32_at (y ∷ ys) 0) (y ∷ ys))
    (decoded v (body_in (x ∷ xs))) (first_that_holds (framing_faults longest_body (x ∷ xs)))
    ∙ sym (end-by v place x xs)

-- a name with a byte 0 at its end is none
pub no-name : (name : List ℕ) → is_name (name ++ 0 ∷ []) ≡ false
no-name name = last_false (is_within 1 32 (length (name ++ 0 ∷ []))) (go name)
  where
    last_false : (a : Bool) {b : Bool} → b ≡ false → (a && b) ≡ false
    last_false true e = e
    last_false false e = refl

    go : (xs : List ℕ) → list_all is_name_byte (xs ++ 0 ∷ []) ≡ false
    go [] = refl
    go (x ∷ xs) = last_false (is_name_byte x) (go xs)

-- of a body whose name ends with such a byte the name is the first fault
pub decoded-misnamed : (k : ℕ) (name more : List ℕ) → k ≢ 9 → is_within 1 6 k ≡ true →
    decoded Second (k ∷ (length name + 1) ∷ ((name ++ 0 ∷ []) ++ more)) ≡ Err Name
unfolding decoded
decoded-misnamed k name more other within =
    let n = length name + 1 in
    let rest = n ∷ ((name ++ 0 ∷ []) ++ more) in
    let len : length (name ++ 0 ∷ []) ≡ n = length-append name (0 ∷ []) in
    let named : name_in rest ≡ name ++ 0 ∷ [] =
    name_in-cons n ((name ++ 0 ∷ []) ++ more) ∙ take_at (name ++ 0 ∷ []) more n len in
    let bad : is_name (name_in rest) ≡ false = ap is_name named ∙ no-name name in
    let cut : is_name_bad rest ≡ true = or_last (nat_lt (length rest) (1 + n)) (ap not bad) in
    rw (ne_eqb k 9 other, within, cut) refl
  where
    or_last : (a : Bool) {b : Bool} → b ≡ true → (a || b) ≡ true
    or_last true e = refl
    or_last false e = e

-- of a body whose kind is none that a name follows, only the kind and that more follows it matter
pub decoded-strange : (k x y : ℕ) (xs ys : List ℕ) → is_within 1 6 k ≡ false →
    decoded Second (k ∷ y ∷ ys) ≡ decoded Second (k ∷ x ∷ xs)
unfolding decoded
decoded-strange k x y xs ys within = go (k == 9) refl
  where
    go : (b : Bool) → (k == 9) ≡ b → decoded Second (k ∷ y ∷ ys) ≡ decoded Second (k ∷ x ∷ xs)
    go true nine = rw (nine, ne_eqb (suc (length xs)) 0 (omega arith), ne_eqb (suc (length ys)) 0 (omega arith)) refl
    go false nine = rw (nine, within) refl

-- where a name may follow the kind, an exchange ends only at a fault
pub ends-badly : (place k : ℕ) (rest more : List ℕ) (end : End) → k ≢ 9 →
    end_by place (before more (decoded Second (k ∷ rest))) ≡ Some end → (reason : Reason) × (end ≡ BadFrame reason place)
unfolding decoded
ends-badly place k rest more end other e =
    go (first_that_holds (body_faults Second k rest)) (k == 6) (rw (ne_eqb k 9 other) at e)
  where
    go : (fault : Option Reason) (six : Bool)
        → end_by place (before more (unless fault (cond six (Asks (name_in rest) (number_in rest))
        (Says (record { name = name_in rest; number = number_in rest; request = request_of k (payload_in rest) })))))
        ≡ Some end
        → (reason : Reason) × (end ≡ BadFrame reason place)
    go (Some reason) six e = (reason, cc)
    go None true e = absurd cc
    go None false e = absurd cc

-- bytes that follow others are taken after these
pub take-past : (p q : List ℕ) (n : ℕ) → length p ≤ n → take n (p ++ q) ≡ p ++ take (n - length p) q
take-past [] q n long = ap (λ (k : ℕ). take k q) (omega arith)
take-past (x ∷ p) q zero long = absurd (omega arith)
take-past (x ∷ p) q (suc n) long =
    let less : suc n - suc (length p) ≡ n - length p = omega arith in
    rw less (ap (λ (r : List ℕ). x ∷ r) (take-past p q n (omega arith)))

-- The first of the lines, and what is wrong with it.
use Rattle.std.proofs.Common.{◌≡◌, ℕ, suc, ◌+◌, ◌<◌, List, [], ◌∷◌, ◌++◌, length, take, drop, ◌==◌, refl, arith, ◌∙◌}
use Rattle.std.proofs.Common.{ap, sym, append_assoc, append-nil, true, false, Bool, Result, Ok, Err, ◌⊎◌, inl, inr}
use Rattle.std.specs.List.{position_or_len}
use Rattle.std.proofs.lemmas.Bool.{ne_eqb}
use Rattle.std.specs.Io.BufRead.{strip_last}
use Rattle.hex.specs.Hex.{decode_of}
use Rattle.hex.specs.declared.error.FromHexError.{FromHexError}
use Rattle.hex.specs.declared.error.FromHexError.TheVariants.{OutOfMemory}
use Rattle.bw_console.specs.Faults.{IsLineFault, line_fault}
use Rattle.bw_console.specs.Lines.{lines_from, lines_of, is_line_end, decoded_from, with_line}

abbrev ends_at : List ℕ → ℕ
ends_at xs = position_or_len is_line_end xs

abbrev Ended : List ℕ → List ℕ → Type 0
Ended line xs = lines_from line xs
    ≡ strip_last 13 (line ++ take (ends_at xs) xs) ∷ lines_from [] (drop (ends_at xs + 1) xs)

one_plus : (n : ℕ) → 1 + n ≡ suc n
one_plus n = omega arith

two_plus : (n : ℕ) → (1 + n) + 1 ≡ suc (n + 1)
two_plus n = omega arith

longer : (line : List ℕ) (c n : ℕ) (cs : List ℕ) →
    strip_last 13 ((line ++ c ∷ []) ++ take n cs) ∷ lines_from [] (drop (n + 1) cs)
    ≡ strip_last 13 (line ++ take (1 + n) (c ∷ cs)) ∷ lines_from [] (drop ((1 + n) + 1) (c ∷ cs))
longer line c n cs =
    ap (λ (z : List ℕ). strip_last 13 z ∷ lines_from [] (drop (n + 1) cs))
    (append_assoc line (c ∷ []) (take n cs) ∙ ap (λ (k : ℕ). line ++ take k (c ∷ cs)) (sym (one_plus n)))
    ∙ ap (λ (k : ℕ). strip_last 13 (line ++ take (1 + n) (c ∷ cs)) ∷ lines_from [] (drop k (c ∷ cs))) (sym (two_plus n))

-- the line that byte 10 ends
pub line_ended : (line xs : List ℕ) → position_or_len is_line_end xs < length xs →
    lines_from line xs ≡ strip_last 13 (line ++ take (position_or_len is_line_end xs) xs)
    ∷ lines_from [] (drop (position_or_len is_line_end xs + 1) xs)
unfolding lines_from
line_ended line [] h = absurd (omega arith)
line_ended line (c ∷ cs) h = go (line_ended (line ++ c ∷ []) cs) (c == 10) refl h
  where
    go : (ends_at cs < length cs → Ended (line ++ c ∷ []) cs) → (v : Bool) → (c == 10) ≡ v →
        ends_at (c ∷ cs) < length (c ∷ cs) → Ended line (c ∷ cs)
    go rec true e h = rw e (ap (λ (z : List ℕ). strip_last 13 z ∷ lines_from [] cs) (sym (append-nil line)))
    go rec false e h = let h' = rw e at h in rw e (rec (omega arith) ∙ longer line c (ends_at cs) cs)

not_zero : (n : ℕ) → (suc n == 0) ≡ false
not_zero n = ne_eqb (suc n) 0 (λ e. absurd (omega arith))

-- the line that the end ends
pub line_rests : (line xs : List ℕ) → position_or_len is_line_end xs ≡ length xs → 0 < length (line ++ xs) →
    lines_from line xs ≡ (line ++ xs) ∷ []
unfolding lines_from
line_rests [] [] h n = absurd (omega arith)
line_rests (b ∷ bs) [] h n = rw (not_zero (length bs)) (ap (λ (z : List ℕ). z ∷ []) (sym (append-nil (b ∷ bs))))
line_rests line (c ∷ cs) h n = go (line_rests (line ++ c ∷ []) cs) (c == 10) refl h
  where
    go : (ends_at cs ≡ length cs → 0 < length ((line ++ c ∷ []) ++ cs) →
        lines_from (line ++ c ∷ []) cs ≡ ((line ++ c ∷ []) ++ cs) ∷ []) → (v : Bool) → (c == 10) ≡ v →
        ends_at (c ∷ cs) ≡ length (c ∷ cs) → lines_from line (c ∷ cs) ≡ (line ++ c ∷ cs) ∷ []
    go rec true e h = let h' = rw e at h in absurd (omega arith)
    go rec false e h = let h' =
        rw e at h in rw e (rec (omega arith) (rw (append_assoc line (c ∷ []) cs) n)
        ∙ ap (λ (z : List ℕ). z ∷ []) (append_assoc line (c ∷ []) cs))

-- what the lines so far and the others say together
abbrev pub after_lines : List (List ℕ) → Result (List (List ℕ)) ℕ → Result (List (List ℕ)) ℕ
after_lines found (Ok more) = Ok (found ++ more)
after_lines found (Err n) = Err n

pub decoded_step : (found : List (List ℕ)) (n : ℕ) (line : List ℕ) (lines : List (List ℕ)) (bytes : List ℕ) →
    decode_of line ≡ Ok bytes →
    after_lines found (decoded_from n (line ∷ lines)) ≡ after_lines (found ++ bytes ∷ []) (decoded_from (n + 1) lines)
unfolding decoded_from
decoded_step found n line lines bytes e = rw e (go (decoded_from (n + 1) lines))
  where
    go : (more : Result (List (List ℕ)) ℕ) →
        after_lines found (with_line n (Ok bytes) more) ≡ after_lines (found ++ bytes ∷ []) more
    go (Ok more) = ap Ok (sym (append_assoc found (bytes ∷ []) more))
    go (Err m) = refl

pub decoded_stop : (found : List (List ℕ)) (n : ℕ) (line : List ℕ) (lines : List (List ℕ)) (e : FromHexError) →
    decode_of line ≡ Err e → after_lines found (decoded_from n (line ∷ lines)) ≡ Err n
unfolding decoded_from
decoded_stop found n line lines e h = rw h refl

-- a line that can't be read is the fault that is reported
pub line_faulted : (e : FromHexError) (n : ℕ) (line : List ℕ) (lines : Result (List (List ℕ)) ℕ) →
    (e ≡ OutOfMemory) ⊎ (decode_of line ≡ Err e) → (decode_of line ≡ Err e → lines ≡ Err n) →
    IsLineFault (line_fault e n) lines
line_faulted OutOfMemory n line lines h k = tt
line_faulted _ n line lines (inl m) k = absurd (cc)
line_faulted _ n line lines (inr d) k = k d

pub decoded_end : (found : List (List ℕ)) (n : ℕ) → after_lines found (decoded_from n []) ≡ Ok found
unfolding decoded_from
decoded_end found n = ap Ok (append-nil found)

pub no_lines : (bytes : List ℕ) → length bytes ≡ 0 → lines_of bytes ≡ []
unfolding lines_from
no_lines [] h = refl
no_lines (b ∷ bs) h = absurd (omega arith)

pub lines_step : (found : List (List ℕ)) (n : ℕ) (bytes line others : List ℕ) →
    lines_of bytes ≡ line ∷ lines_of others →
    after_lines found (decoded_from n (lines_of bytes)) ≡ after_lines found (decoded_from n (line ∷ lines_of others))
lines_step found n bytes line others e = ap (λ (z : List (List ℕ)). after_lines found (decoded_from n z)) e

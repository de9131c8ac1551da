-- The first line of bytes.
use Rattle.std.proofs.Common.{◌≡◌, ◌+◌, ◌≤◌, ◌<◌, ◌∙◌, ℕ, suc, Bool, true, false, cond, not, List, [], ◌∷◌, ◌++◌}
use Rattle.std.proofs.Common.{length, take, drop, ap, sym, refl, arith, append_assoc, append-nil, ◌-◌, length-drop}
use Rattle.std.proofs.lemmas.List.{take_all}
use Rattle.std.specs.Prelude.{◌==◌}
use Rattle.std.specs.List.{prefix_len}
use Rattle.bw_ports.specs.StateReadings.{lines_after}

abbrev goes_on : ℕ → Bool
goes_on c = not (c == 10)

take_more : (n b : ℕ) (bs : List ℕ) → take (1 + n) (b ∷ bs) ≡ b ∷ take n bs
take_more n b bs = let e : 1 + n ≡ suc n = omega arith in rw e refl

drop_more : (n b : ℕ) (bs : List ℕ) → drop (1 + n + 1) (b ∷ bs) ≡ drop (n + 1) bs
drop_more n b bs = let e : 1 + n + 1 ≡ suc (n + 1) = omega arith in rw e refl

unended_at : (t : Bool) (line bs : List ℕ) (b : ℕ) → suc (length bs) ≤ cond (not t) (1 + prefix_len goes_on bs) 0 →
    (length bs ≤ prefix_len goes_on bs → lines_after (line ++ b ∷ []) bs ≡ []) →
    cond t (line ∷ lines_after [] bs) (lines_after (line ++ b ∷ []) bs) ≡ []
unended_at true line bs b h more = absurd (omega arith)
unended_at false line bs b h more = more (omega arith)

-- what nothing ends is no line
pub unended : (line bs : List ℕ) → length bs ≤ prefix_len (λ c. not (c == 10)) bs → lines_after line bs ≡ []
unended line [] h = refl
unended line (b ∷ bs) h = unended_at (b == 10) line bs b h (unended (line ++ b ∷ []) bs)

ended_at : (t : Bool) (line bs : List ℕ) (b : ℕ) → cond (not t) (1 + prefix_len goes_on bs) 0 < suc (length bs) →
    (prefix_len goes_on bs < length bs → lines_after (line ++ b ∷ []) bs
    ≡ ((line ++ b ∷ []) ++ take (prefix_len goes_on bs) bs) ∷ lines_after [] (drop (prefix_len goes_on bs + 1) bs)) →
    cond t (line ∷ lines_after [] bs) (lines_after (line ++ b ∷ []) bs)
    ≡ (line ++ take (cond (not t) (1 + prefix_len goes_on bs) 0) (b ∷ bs))
    ∷ lines_after [] (drop (cond (not t) (1 + prefix_len goes_on bs) 0 + 1) (b ∷ bs))
ended_at true line bs b h more = ap (λ (l : List ℕ). l ∷ lines_after [] bs) (sym (append-nil line))
ended_at false line bs b h more =
    more (omega arith)
    ∙ ap (λ (l : List ℕ). l ∷ lines_after [] (drop (prefix_len goes_on bs + 1) bs))
    (append_assoc line (b ∷ []) (take (prefix_len goes_on bs) bs)
    ∙ ap (λ (l : List ℕ). line ++ l) (sym (take_more (prefix_len goes_on bs) b bs)))
    ∙ ap (λ (l : List ℕ). (line ++ take (1 + prefix_len goes_on bs) (b ∷ bs)) ∷ lines_after [] l)
    (sym (drop_more (prefix_len goes_on bs) b bs))

-- the first line is cut off
pub ended : (line bs : List ℕ) → prefix_len (λ c. not (c == 10)) bs < length bs →
    lines_after line bs ≡ (line ++ take (prefix_len (λ c. not (c == 10)) bs) bs)
    ∷ lines_after [] (drop (prefix_len (λ c. not (c == 10)) bs + 1) bs)
ended line [] h = absurd (omega arith)
ended line (b ∷ bs) h = ended_at (b == 10) line bs b h (ended (line ++ b ∷ []) bs)

-- what follows a place, as a slice of the bytes up to their end
pub rest_of : (bs : List ℕ) (j : ℕ) → take (length bs - j) (drop j bs) ≡ drop j bs
rest_of bs j = take_all (length bs - j) (drop j bs) (omega (arith, length-drop j bs))

pub ended_slice : (bs : List ℕ) (n : ℕ) → n ≡ prefix_len (λ c. not (c == 10)) bs → n < length bs →
    lines_after [] bs ≡ take n bs ∷ lines_after [] (take (length bs - (n + 1)) (drop (n + 1) bs))
ended_slice bs n e h = rw (e, rest_of bs (prefix_len (λ c. not (c == 10)) bs + 1)) (ended [] bs (rw e at h))

-- A line of a count is read as that count.
use Rattle.std.proofs.Common.{◌≡◌, ◌+◌, ◌*◌, ◌/◌, ◌%◌, ◌^◌, ◌≤◌, ◌<◌, ◌∙◌, ℕ, List, [], ◌∷◌, ◌++◌}
use Rattle.std.proofs.Common.{Option, Some, ap, arith}
use Rattle.std.specs.Prelude.{decimal, codes}
use Rattle.std.proofs.lemmas.Fmt.{decimal_by_steps}
use Rattle.std.proofs.lemmas.List.Sums.{fold-append}
use Rattle.bw_ports.specs.Counts.{count_in, most_settled, digits_count, settled_text, count_with_digit}
use Rattle.bw_ports.proofs.TextLines.{IsText, text_appended}

digit_added : (n d : ℕ) → d < 10 → 10 * n + d ≤ most_settled → count_with_digit (Some n) (48 + d) ≡ Some (10 * n + d)
digit_added n d small fits = grind (arith)

-- the number of its digits, if no take has more requests
IsReadAs : ℕ → List ℕ → Type 0
IsReadAs n ds = n ≤ most_settled → digits_count ds ≡ Some n

more_digits : (n : ℕ) (ds : List ℕ) → 10 ≤ n → (n / 10 ≤ most_settled → digits_count ds ≡ Some (n / 10)) →
    n ≤ most_settled → digits_count (ds ++ ((48 + n % 10) ∷ [])) ≡ Some n
more_digits n ds ten rec fits =
    let whole : 10 * (n / 10) + n % 10 ≡ n = omega arith in
    let least : n / 10 ≤ most_settled = omega arith in
    fold-append count_with_digit (Some 0) ds ((48 + n % 10) ∷ [])
    ∙ ap (λ (x : Option ℕ). count_with_digit x (48 + n % 10)) (rec least)
    ∙ digit_added (n / 10) (n % 10) (omega arith) (omega (arith, whole))
    ∙ ap Some whole

one_digit : (n : ℕ) → n < 10 → n ≤ most_settled → digits_count ((48 + n) ∷ []) ≡ Some n
one_digit n small fits = digit_added 0 n small (omega arith) ∙ ap Some (omega arith)

pub decimal_is_read : (n : ℕ) → n ≤ most_settled → digits_count (decimal n) ≡ Some n
decimal_is_read n fits =
    decimal_by_steps (λ m ds. m ≤ most_settled → digits_count ds ≡ Some m) one_digit more_digits n (omega arith) fits

pub settled_is_read : (n : ℕ) → n ≤ most_settled → count_in (settled_text n) ≡ Some n
settled_is_read n fits = decimal_is_read n fits

decimal_is_text : (n : ℕ) → n < 2 ^ 64 → IsText (decimal n)
decimal_is_text n small =
    decimal_by_steps (λ m ds. IsText ds) (λ m h. (omega arith, tt))
    (λ m ds ten h. text_appended ds ((48 + m % 10) ∷ []) h (omega arith, tt)) n small

pub settled_is_text : (n : ℕ) → n ≤ most_settled → IsText (settled_text n)
settled_is_text n fits =
    text_appended (codes "settled ") (decimal n)
    (omega arith, (omega arith, (omega arith, (omega arith, (omega arith, (omega arith, (omega arith, (omega arith, tt))))))))
    (decimal_is_text n (omega arith))

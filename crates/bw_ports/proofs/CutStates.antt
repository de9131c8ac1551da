-- Wherever a state is cut, its whole lines are read.
use Rattle.std.proofs.Common.{◌≡◌, ◌≢◌, ◌+◌, ◌-◌, ◌≤◌, ◌<◌, ◌∙◌, ◌⊎◌, inl, inr, ℕ, zero, suc, Bool, true, false, cond, List, [], ◌∷◌}
use Rattle.std.proofs.Common.{Option, Some, None, length, take, map, max, ap, sym, refl, arith, length-append}
use Rattle.std.proofs.lemmas.Bool.{le-leb}
use Rattle.std.proofs.lemmas.List.{take_all}
use Rattle.std.proofs.lemmas.Slice.Eq.{bytes_eq-Decides}
use Rattle.std.specs.Prelude.{nat_le, unwrap_or}
use Rattle.std.specs.Str.{bytes_eq}
use Rattle.std.specs.List.{AllByRecursion}
use Rattle.bw_console.specs.Text.{as_line}
use Rattle.bw_ports.specs.Counts.{most_settled, settled_text}
use Rattle.bw_ports.specs.States.{count_lines, state_bytes}
use Rattle.bw_ports.specs.StateReadings.{greatest_count, lines_after, said_after, settled_in}
use Rattle.bw_ports.specs.Laws.{CutStatesAreRead, OtherStatesSayNothing, StatesAreRead, greatest, said_of_cut, whole_counts}
use Rattle.bw_ports.proofs.TextLines.{cut_after, cut_short}
use Rattle.bw_ports.proofs.CountLines.{settled_is_read, settled_is_text}

le_cases : (a b : ℕ) → ((nat_le a b ≡ true) × (a ≤ b)) ⊎ ((nat_le a b ≡ false) × (b < a))
le_cases a b = grind (arith)

line_len : (text : List ℕ) → length (as_line text) ≡ length text + 1
line_len text = grind (arith, length-append)

AreCounts : List ℕ → Type 0
AreCounts counts = AllByRecursion (λ n. n ≤ most_settled) counts

cut_counts : (k : ℕ) (counts : List ℕ) → AllByRecursion (λ n. n ≤ most_settled) counts →
    lines_after [] (take k (count_lines counts)) ≡ map settled_text (whole_counts k counts)
cut_counts zero [] h = refl
cut_counts (suc k) [] h = refl
cut_counts k (n ∷ ns) h = at (le_cases (length (as_line (settled_text n))) k) (cut_counts (k - length (as_line (settled_text n))) ns h.1)
  where
    at : ((nat_le (length (as_line (settled_text n))) k ≡ true) × (length (as_line (settled_text n)) ≤ k))
        ⊎ ((nat_le (length (as_line (settled_text n))) k ≡ false) × (k < length (as_line (settled_text n)))) →
        lines_after [] (take (k - length (as_line (settled_text n))) (count_lines ns))
        ≡ map settled_text (whole_counts (k - length (as_line (settled_text n))) ns) →
        lines_after [] (take k (count_lines (n ∷ ns))) ≡ map settled_text (whole_counts k (n ∷ ns))
    at (inl p) rest =
        let len = line_len (settled_text n) in
        cut_after k (settled_text n) (count_lines ns) (settled_is_text n h.0) (omega (arith, p.1, len))
        ∙ ap (λ (m : ℕ). settled_text n ∷ lines_after [] (take (k - m) (count_lines ns))) (sym len)
        ∙ ap (λ (ls : List (List ℕ)). settled_text n ∷ ls) rest
        ∙ ap (λ (t : Bool). map settled_text
        (cond t (n ∷ whole_counts (k - length (as_line (settled_text n))) ns) [])) (sym p.0)
    at (inr p) rest =
        let len = line_len (settled_text n) in
        cut_short k (settled_text n) (count_lines ns) (settled_is_text n h.0) (omega (arith, p.1, len))
        ∙ ap (λ (t : Bool). map settled_text
        (cond t (n ∷ whole_counts (k - length (as_line (settled_text n))) ns) [])) (sym p.0)

-- the counts of whole lines are among those that were noted
counts_within : (k : ℕ) (counts : List ℕ) → AllByRecursion (λ n. n ≤ most_settled) counts →
    AllByRecursion (λ n. n ≤ most_settled) (whole_counts k counts)
counts_within k [] h = tt
counts_within k (n ∷ ns) h =
    at (nat_le (length (as_line (settled_text n))) k) (counts_within (k - length (as_line (settled_text n))) ns h.1)
  where
    at : (t : Bool) → AllByRecursion (λ m. m ≤ most_settled) (whole_counts (k - length (as_line (settled_text n))) ns) →
        AllByRecursion (λ m. m ≤ most_settled) (cond t (n ∷ whole_counts (k - length (as_line (settled_text n))) ns) [])
    at true more = (h.0, more)
    at false more = tt

greatest_read : (counts : List ℕ) → AllByRecursion (λ n. n ≤ most_settled) counts →
    greatest_count (map settled_text counts) ≡ greatest counts
greatest_read [] h = refl
greatest_read (n ∷ ns) h =
    ap (λ (x : Option ℕ). max (unwrap_or x 0) (greatest_count (map settled_text ns))) (settled_is_read n h.0)
    ∙ ap (λ (m : ℕ). max n m) (greatest_read ns h.1)

header_is : (header : List ℕ) → bytes_eq header header ≡ true
header_is header = grind (arith, bytes_eq-Decides)

pub cut_states : CutStatesAreRead
cut_states header counts k text within = at (le_cases (length header + 1) k)
  where
    at : ((nat_le (length header + 1) k ≡ true) × (length header + 1 ≤ k))
        ⊎ ((nat_le (length header + 1) k ≡ false) × (k < length header + 1)) →
        settled_in header (take k (state_bytes header counts)) ≡ said_of_cut k header counts
    at (inl p) =
        ap (said_after header) (cut_after k header (count_lines counts) text p.1)
        ∙ ap (λ (t : Bool). cond t (Some (greatest_count (lines_after [] (take (k - (length header + 1)) (count_lines counts))))) None)
        (header_is header)
        ∙ ap (λ (ls : List (List ℕ)). Some (greatest_count ls)) (cut_counts (k - (length header + 1)) counts within)
        ∙ ap Some (greatest_read (whole_counts (k - (length header + 1)) counts)
        (counts_within (k - (length header + 1)) counts within))
        ∙ ap (λ (t : Bool). cond t (Some (greatest (whole_counts (k - (length header + 1)) counts))) None) (sym p.0)
    at (inr p) =
        ap (said_after header) (cut_short k header (count_lines counts) text (omega (arith, p.1)))
        ∙ ap (λ (t : Bool). cond t (Some (greatest (whole_counts (k - (length header + 1)) counts))) None) (sym p.0)

-- every line of the whole is whole
all_whole : (k : ℕ) (counts : List ℕ) → length (count_lines counts) ≤ k → whole_counts k counts ≡ counts
all_whole k [] h = refl
all_whole k (n ∷ ns) h =
    let len = length-append (as_line (settled_text n)) (count_lines ns) in
    let fits : nat_le (length (as_line (settled_text n))) k ≡ true = le-leb _ _ (omega (arith, h, len)) in
    ap (λ (t : Bool). cond t (n ∷ whole_counts (k - length (as_line (settled_text n))) ns) []) fits
    ∙ ap (λ (ms : List ℕ). n ∷ ms)
    (all_whole (k - length (as_line (settled_text n))) ns (omega (arith, h, len)))

pub whole_states : StatesAreRead
whole_states header counts text within =
    let k = length (state_bytes header counts) in
    let len = length-append (as_line header) (count_lines counts) in
    let own = line_len header in
    let fits : nat_le (length header + 1) (length (state_bytes header counts)) ≡ true = le-leb _ _ (omega (arith, len, own)) in
    ap (settled_in header) (sym (take_all (length (state_bytes header counts)) (state_bytes header counts) (omega arith)))
    ∙ cut_states header counts (length (state_bytes header counts)) text within
    ∙ ap (λ (t : Bool). cond t (Some (greatest (whole_counts (length (state_bytes header counts) - (length header + 1)) counts)))
    None) fits
    ∙ ap (λ (ms : List ℕ). Some (greatest ms))
    (all_whole (length (state_bytes header counts) - (length header + 1)) counts (omega (arith, len, own)))

other_header : (header other : List ℕ) → other ≢ header → bytes_eq other header ≡ false
other_header header other differs = grind (arith, bytes_eq-Decides)

pub other_states : OtherStatesSayNothing
other_states header other counts k text differs = at (le_cases (length other + 1) k)
  where
    at : ((nat_le (length other + 1) k ≡ true) × (length other + 1 ≤ k))
        ⊎ ((nat_le (length other + 1) k ≡ false) × (k < length other + 1)) →
        settled_in header (take k (state_bytes other counts)) ≡ None
    at (inl p) =
        ap (said_after header) (cut_after k other (count_lines counts) text p.1)
        ∙ ap (λ (t : Bool). cond t (Some (greatest_count (lines_after [] (take (k - (length other + 1)) (count_lines counts))))) None)
        (other_header header other differs)
    at (inr p) = ap (said_after header) (cut_short k other (count_lines counts) text (omega (arith, p.1)))

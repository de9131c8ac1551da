-- What is sealed is opened again, and what is cut isn't.
use Rattle.std.proofs.Common.{◌≡◌, ℕ, ◌+◌, ◌-◌, ◌*◌, ◌≤◌, ◌<◌, Bool, true, false, cond, Option, Some, None, List, []}
use Rattle.std.proofs.Common.{◌∷◌, ◌++◌, length, take, drop, refl, sym, ap, ◌∙◌, append_assoc, arith}
use Rattle.std.specs.Prelude.{option_and_then, nat_lt}
use Rattle.std.specs.Str.{bytes_eq}
use Rattle.std.proofs.lemmas.Bool.{le-ltb}
use Rattle.std.proofs.lemmas.List.{take_at, drop_at, length-append, take-append-drop}
use Rattle.bw_model.proofs.BookLemmas.{name_refl, same_name}
use Rattle.bw_model.proofs.Elements.{some_inj}
use Rattle.bw_journal.specs.Lines.{AreLineBytes, stuffed, plain, journal_lines}
use Rattle.bw_journal.specs.Seals.{check, sealed_line, sealed, checked, opened}
use Rattle.bw_journal.proofs.LineLaws.{line_first, cut_line}
use Rattle.bw_journal.proofs.Lengths.{check-length}
use Rattle.bw_journal.proofs.StuffLaws.{stuffed_clean, stuffed_most, plain_stuffed, plain_stands}

pub line_clean : (c : List ℕ) → AreLineBytes (sealed_line c)
unfolding sealed_line
line_clean c = stuffed_clean (c ++ check c)

pub sealed_first : (c more : List ℕ) → journal_lines (sealed c ++ more) ≡ sealed_line c ∷ journal_lines more
sealed_first c more =
    ap (λ (x : List ℕ). journal_lines x) (append_assoc (sealed_line c) (2 ∷ []) more)
    ∙ line_first (sealed_line c) more (line_clean c)

checked_again : (c : List ℕ) → checked (c ++ check c) ≡ Some c
checked_again c =
    let long : length (c ++ check c) ≡ length c + 8 = omega (arith, length-append c (check c), check-length c) in
    let place : length (c ++ check c) - 8 ≡ length c = omega (arith, long) in
    let test : nat_lt (length (c ++ check c)) 8 ≡ false = le-ltb (length (c ++ check c)) 8 (omega (arith, long)) in
    let first : take (length (c ++ check c) - 8) (c ++ check c) ≡ c =
    ap (λ (n : ℕ). take n (c ++ check c)) place ∙ take_at c (check c) (length c) refl in
    let last : drop (length (c ++ check c) - 8) (c ++ check c) ≡ check c =
    ap (λ (n : ℕ). drop n (c ++ check c)) place ∙ drop_at c (check c) (length c) refl in
    rw (test, last, first, name_refl (check c)) refl

pub opened-line : (c : List ℕ) → opened (sealed_line c) ≡ Some c
unfolding opened sealed_line
opened-line c = ap (option_and_then checked) (plain_stuffed (c ++ check c)) ∙ checked_again c

none_some : {X : Type 0} {x : X} → None ≡ Some x → ⊥
none_some e = cc

checked_stands : (p c : List ℕ) → checked p ≡ Some c → p ≡ c ++ check c
checked_stands p c e =
    go (nat_lt (length p) 8) (bytes_eq (drop (length p - 8) p) (check (take (length p - 8) p))) refl e
  where
    n : ℕ
    n = length p - 8

    go : (a b : Bool) → bytes_eq (drop n p) (check (take n p)) ≡ b →
        cond a None (cond b (Some (take n p)) None) ≡ Some c → p ≡ c ++ check c
    go true b t e = absurd (none_some e)
    go false false t e = absurd (none_some e)
    go false true t e =
        sym (take-append-drop n p)
        ∙ ap (λ (x : List ℕ). take n p ++ x) (same_name (drop n p) (check (take n p)) t)
        ∙ ap (λ (x : List ℕ). x ++ check x) (some_inj e)

-- what is opened is the line of its content
pub opened_stands : (line c : List ℕ) → opened line ≡ Some c → sealed_line c ≡ line
unfolding opened sealed_line
opened_stands line c e = go (plain line) refl e
  where
    go : (o : Option (List ℕ)) → plain line ≡ o → option_and_then checked o ≡ Some c → stuffed (c ++ check c) ≡ line
    go None t e = absurd (none_some e)
    go (Some p) t e = ap stuffed (sym (checked_stands p c e)) ∙ plain_stands line p t

pub opened_short : (line c : List ℕ) → opened line ≡ Some c → length line ≤ 2 * (length c + 8)
unfolding sealed_line
opened_short line c e =
    let same : length (stuffed (c ++ check c)) ≡ length line = ap length (opened_stands line c e) in
    omega (arith, same, (stuffed_most (c ++ check c)).1, length-append c (check c), check-length c)

-- a prefix of a sealed content has no line
pub cut_sealed : (c : List ℕ) (k : ℕ) → k < length (sealed c) → journal_lines (take k (sealed c)) ≡ []
cut_sealed c k short =
    cut_line (sealed_line c) k (line_clean c) (omega (arith, short, length-append (sealed_line c) (2 ∷ [])))

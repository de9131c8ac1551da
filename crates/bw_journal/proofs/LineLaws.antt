-- Lines are read back, also where their end was torn.
use Rattle.std.proofs.Common.{◌≡◌, ◌≢◌, ◌⊎◌, inl, inr, ℕ, zero, suc, ◌<◌, ◌≤◌, Bool, true, false, cond}
use Rattle.std.proofs.Common.{List, [], ◌∷◌, ◌++◌, length, take, refl, sym, ap, ◌∙◌, append_assoc, subst, arith}
use Rattle.std.specs.Prelude.{◌==◌}
use Rattle.std.proofs.lemmas.List.{append-nil, take-append-le}
use Rattle.std.proofs.lemmas.Bool.{ne_eqb, cases_eq, eqb-true}
use Rattle.bw_journal.specs.Lines.{AreLineBytes, journal_lines_after, journal_lines, before_zero, IsTorn}

clean_step : (b : ℕ) (line bs : List ℕ) → b ≢ 0 → b ≢ 2 →
    journal_lines_after line (b ∷ bs) ≡ journal_lines_after (line ++ b ∷ []) bs
clean_step b line bs h k = rw (ne_eqb b 0 h, ne_eqb b 2 k) refl

zero_ends : (b : ℕ) (line bs : List ℕ) → b ≡ 0 → journal_lines_after line (b ∷ bs) ≡ []
zero_ends b line bs h = rw h refl

-- a clean line is read whatever follows it
clean_run : (l line bs : List ℕ) → AreLineBytes l → journal_lines_after line (l ++ bs) ≡ journal_lines_after (line ++ l) bs
clean_run [] line bs h = ap (λ (x : List ℕ). journal_lines_after x bs) (sym (append-nil line))
clean_run (b ∷ l) line bs h =
    clean_step b line (l ++ bs) h.0 h.1
    ∙ clean_run l (line ++ b ∷ []) bs h.2
    ∙ ap (λ (x : List ℕ). journal_lines_after x bs) (append_assoc line (b ∷ []) l)

pub line_first : (l bs : List ℕ) → AreLineBytes l → journal_lines (l ++ 2 ∷ bs) ≡ l ∷ journal_lines bs
line_first l bs h = clean_run l [] (2 ∷ bs) h

-- without its end none is read
pub line_open : (l : List ℕ) → AreLineBytes l → journal_lines l ≡ []
line_open l h = ap (λ (x : List ℕ). journal_lines x) (sym (append-nil l)) ∙ clean_run l [] [] h

pub clean_append : (xs ys : List ℕ) → AreLineBytes xs → AreLineBytes ys → AreLineBytes (xs ++ ys)
clean_append [] ys h k = k
clean_append (x ∷ xs) ys h k = (h.0, h.1, clean_append xs ys h.2 k)

pub clean_take : (n : ℕ) (xs : List ℕ) → AreLineBytes xs → AreLineBytes (take n xs)
clean_take zero xs h = tt
clean_take (suc n) [] h = tt
clean_take (suc n) (x ∷ xs) h = (h.0, h.1, clean_take n xs h.2)

-- a prefix of a line with its end, which isn't all of it, has no line
pub cut_line : (l : List ℕ) (k : ℕ) → AreLineBytes l → k ≤ length l → journal_lines (take k (l ++ 2 ∷ [])) ≡ []
cut_line l k h short =
    ap (λ (x : List ℕ). journal_lines x) (take-append-le k l (2 ∷ []) short) ∙ line_open (take k l) (clean_take k l h)

none_first : {X : Type 0} {x : X} {xs : List X} → [] ≡ x ∷ xs → ⊥
none_first e = cc

first_same : {X : Type 0} {x y : X} {xs ys : List X} → x ∷ xs ≡ y ∷ ys → x ≡ y
first_same e = cc

-- if a line is read, it is there with its end
pub line_stands : (line bytes l : List ℕ) (ls : List (List ℕ)) → journal_lines_after line bytes ≡ l ∷ ls →
    (rest : List ℕ) × (line ++ bytes ≡ l ++ 2 ∷ rest)
line_stands line [] l ls e = absurd (none_first e)
line_stands line (b ∷ bs) l ls e =
    go (b == 0) refl (b == 2) refl (line_stands (line ++ b ∷ []) bs l ls) e
  where
    go : (z : Bool) → (b == 0) ≡ z → (t : Bool) → (b == 2) ≡ t →
        (journal_lines_after (line ++ b ∷ []) bs ≡ l ∷ ls → (rest : List ℕ) × ((line ++ b ∷ []) ++ bs ≡ l ++ 2 ∷ rest)) →
        cond z [] (cond t (line ∷ journal_lines_after [] bs) (journal_lines_after (line ++ b ∷ []) bs)) ≡ l ∷ ls →
        (rest : List ℕ) × (line ++ b ∷ bs ≡ l ++ 2 ∷ rest)
    go true z t u below e = absurd (none_first e)
    go false z true u below e = (
      bs,
      ap (λ (x : List ℕ). x ++ b ∷ bs) (first_same e) ∙ ap (λ (n : ℕ). l ++ n ∷ bs) (eqb-true b 2 u),
    )
    go false z false u below e =
        let found = below e in
        (found.0, sym (append_assoc line (b ∷ []) bs) ∙ found.1)

pub line_taken : (bytes l : List ℕ) (ls : List (List ℕ)) → journal_lines bytes ≡ l ∷ ls →
    take (suc (length l)) bytes ≡ l ++ 2 ∷ []
line_taken bytes l ls e =
    let found = line_stands [] bytes l ls e in
    ap (take (suc (length l))) found.1 ∙ part l found.0
  where
    part : (l rest : List ℕ) → take (suc (length l)) (l ++ 2 ∷ rest) ≡ l ++ 2 ∷ []
    part [] rest = refl
    part (x ∷ l) rest = ap (λ (xs : List ℕ). x ∷ xs) (part l rest)

-- the first lines of these
abbrev pub AreFirst : List (List ℕ) → List (List ℕ) → Type 0
AreFirst all found = (k : ℕ) × (found ≡ take k all)

none_read : (all : List (List ℕ)) (b : ℕ) (line m : List ℕ) → b ≡ 0 → AreFirst all (journal_lines_after line (b ∷ m))
none_read all b line m h = (0, zero_ends b line m h)

line_read : (b : ℕ) (line m : List ℕ) → b ≡ 2 → journal_lines_after line (b ∷ m) ≡ line ∷ journal_lines m
line_read b line m h = rw h refl

whole : (w : ℕ) (written m line : List ℕ) →
    ((l : List ℕ) → AreFirst (journal_lines_after l written) (journal_lines_after l m)) →
    (w ≡ 0) ⊎ (w ≡ 0 → ⊥) → (w ≡ 2) ⊎ (w ≡ 2 → ⊥) →
    AreFirst (journal_lines_after line (w ∷ written)) (journal_lines_after line (w ∷ m))
whole w written m line below (inl zeroed) other = none_read (journal_lines_after line (w ∷ written)) w line m zeroed
whole w written m line below (inr some) (inl ends) =
    let found = below [] in (
      suc found.0,
      line_read w line m ends ∙ ap (λ (x : List (List ℕ)). line ∷ x) found.1
          ∙ ap (λ (x : List (List ℕ)). take (suc found.0) x) (sym (line_read w line written ends)),
    )
whole w written m line below (inr some) (inr goes) =
    let found = below (line ++ w ∷ []) in (
      found.0,
      clean_step w line m some goes ∙ found.1
          ∙ ap (λ (x : List (List ℕ)). take found.0 x) (sym (clean_step w line written some goes)),
    )

-- whatever is torn, its lines are some of the first lines
torn_after : (written m line : List ℕ) → IsTorn written m → AreFirst (journal_lines_after line written) (journal_lines_after line m)
torn_after written [] line torn = (0, refl)
torn_after [] (b ∷ m) line torn = absurd torn
torn_after (w ∷ written) (b ∷ m) line torn = elim torn.0 [
  | inr none ↦ none_read (journal_lines_after line (w ∷ written)) b line m none
  | inl same ↦ subst (λ (x : ℕ). AreFirst (journal_lines_after line (w ∷ written)) (journal_lines_after line (x ∷ m))) (sym same)
      (whole w written m line (λ l. torn_after written m l torn.1) (cases_eq w 0) (cases_eq w 2))
]

pub torn_first : (written found : List ℕ) → IsTorn written found → AreFirst (journal_lines written) (journal_lines found)
torn_first written found torn = torn_after written found [] torn

-- Up to the first zero what is torn is a prefix of what was written, and if it is all of that, nothing
-- is torn.
pub record IsPrefixBeforeZero (written found : List ℕ) : Type 0 where
  pub count : ℕ
  pub prefix : before_zero found ≡ take count written
  pub whole : (count < length written) ⊎ (found ≡ written)

pub torn_prefix : (written found : List ℕ) → IsTorn written found → IsPrefixBeforeZero written found
torn_prefix [] [] torn = record { count = 0; prefix = refl; whole = inr refl }
torn_prefix (w ∷ written) [] torn = record { count = 0; prefix = refl; whole = inl (omega arith) }
torn_prefix [] (b ∷ m) torn = absurd torn
torn_prefix (w ∷ written) (b ∷ m) torn = go (cases_eq b 0) torn.0 (torn_prefix written m torn.1)
  where
    zeroed : b ≡ 0 → IsPrefixBeforeZero (w ∷ written) (b ∷ m)
    zeroed e = record { count = 0; prefix = rw e refl; whole = inl (omega arith) }

    longer : (k : ℕ) → b ≡ w → (k < length written) ⊎ (m ≡ written) →
        (suc k < length (w ∷ written)) ⊎ (b ∷ m ≡ w ∷ written)
    longer k e (inl short) = inl (omega (arith, short))
    longer k e (inr all) = inr (ap (λ (x : ℕ). x ∷ m) e ∙ ap (λ (x : List ℕ). w ∷ x) all)

    go : (b ≡ 0) ⊎ (b ≡ 0 → ⊥) → (b ≡ w) ⊎ (b ≡ 0) → IsPrefixBeforeZero written m →
        IsPrefixBeforeZero (w ∷ written) (b ∷ m)
    go (inl e) same p = zeroed e
    go (inr some) (inr e) p = zeroed e
    go (inr some) (inl e) p = record {
      count = suc p.count;
      prefix = rw (ne_eqb b 0 some) (ap (λ (x : List ℕ). b ∷ x) p.prefix
          ∙ ap (λ (x : ℕ). x ∷ take p.count written) e);
      whole = longer p.count e p.whole;
    }

-- bytes that aren't zero
pub clean_kept : (xs ys : List ℕ) → AreLineBytes xs → before_zero (xs ++ ys) ≡ xs ++ before_zero ys
clean_kept [] ys h = refl
clean_kept (x ∷ xs) ys h = rw (ne_eqb x 0 h.0) (ap (λ (z : List ℕ). x ∷ z) (clean_kept xs ys h.2))

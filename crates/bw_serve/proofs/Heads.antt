-- What a filter gives for the bytes of a frame, from its start.
use Rattle.std.proofs.Common.{◌≡◌, ◌<◌, ◌≤◌, ℕ, zero, suc, ◌+◌, ◌-◌, true, false, List, [], ◌∷◌, ◌++◌, length}
use Rattle.std.proofs.Common.{drop, take, get_or, refl, sym, ap, subst, ◌∙◌, arith, append_assoc, inl, inr, le_of_lt}
use Rattle.std.proofs.Common.{add-one}
use Rattle.std.proofs.lemmas.Bool.{le-leb, lt-leb, cases_lt}
use Rattle.std.proofs.lemmas.List.{length-append, take-append-drop, take_more, length-take-le}
use Rattle.std.specs.Prelude.{◌⊎◌}
use Rattle.bw_model.specs.Bytes.{u32_at}
use Rattle.bw_serve.specs.Filters.{Filter, has_name, allows, after_byte, passed, filtered, after_bytes}
use Rattle.bw_serve.proofs.Passing.{heading, resting, filtered-append, filtered-passing, filtered-unnamed}
use Rattle.bw_serve.proofs.Passing.{after-allowed, after-refused}

-- bytes that begin with a length, a kind, a name's length and these bytes
abbrev pub six : ℕ → ℕ → ℕ → ℕ → ℕ → ℕ → List ℕ → List ℕ
six a b c d k n rest = a ∷ b ∷ c ∷ d ∷ k ∷ n ∷ rest

-- the length in four bytes
abbrev pub size_in : ℕ → ℕ → ℕ → ℕ → ℕ
size_in a b c d = u32_at (a ∷ b ∷ c ∷ d ∷ []) 0

-- up to the last byte of a name, and from it on
filtered_by : (first before : List ℕ) (last : ℕ) (more : List ℕ) → has_name before ≡ false
    → filtered (heading first []) ((before ++ last ∷ []) ++ more)
    ≡ before ++ (passed (heading first before) last ∷ filtered (after_byte (heading first before) last) more)
filtered_by first before last more unnamed =
    let start = filtered-unnamed first [] before unnamed in
    ap (filtered (heading first [])) (append_assoc before (last ∷ []) more)
    ∙ filtered-append (heading first []) before (last ∷ more)
    ∙ ap (λ (xs : List ℕ). xs ++ filtered (after_bytes (heading first []) before) (last ∷ more)) start.0
    ∙ ap (λ (f : Filter). before ++ filtered f (last ∷ more)) start.1

filtered-allowed : (first before : List ℕ) (last : ℕ) (more : List ℕ) → has_name before ≡ false →
    has_name (before ++ last ∷ []) ≡ true → allows first (drop 6 (before ++ last ∷ [])) ≡ true
    → filtered (heading first []) ((before ++ last ∷ []) ++ more)
    ≡ (before ++ last ∷ []) ++ filtered (resting (drop 6 (before ++ last ∷ []))
    (u32_at (before ++ last ∷ []) 0 - (length (before ++ last ∷ []) - 4))) more
filtered-allowed first before last more unnamed named allowed =
    let a = after-allowed first before last named allowed in
    filtered_by first before last more unnamed
    ∙ ap (λ (b : ℕ). before ++ (b ∷ filtered (after_byte (heading first before) last) more)) a.1
    ∙ ap (λ (f : Filter). before ++ (last ∷ filtered f more)) a.0
    ∙ sym (append_assoc before (last ∷ []) _)

filtered-refused : (first before : List ℕ) (last : ℕ) (more : List ℕ) → has_name before ≡ false →
    has_name (before ++ last ∷ []) ≡ true → allows first (drop 6 (before ++ last ∷ [])) ≡ false
    → filtered (heading first []) ((before ++ last ∷ []) ++ more) ≡ (before ++ 0 ∷ []) ++ more
filtered-refused first before last more unnamed named refused =
    let a = after-refused first before last named refused in
    filtered_by first before last more unnamed
    ∙ ap (λ (b : ℕ). before ++ (b ∷ filtered (after_byte (heading first before) last) more)) a.1
    ∙ ap (λ (xs : List ℕ). before ++ (0 ∷ xs)) (filtered-passing _ more a.0).0
    ∙ sym (append_assoc before (0 ∷ []) more)

-- a name of some bytes isn't there before its last byte, and then it is
before_last : (a b c d k : ℕ) (start : List ℕ) → has_name (six a b c d k (length start + 1) start) ≡ false
before_last a b c d k start = lt-leb _ _ (omega arith)

at_last : (a b c d k : ℕ) (start : List ℕ) (last : ℕ) →
    has_name (six a b c d k (length start + 1) (start ++ last ∷ [])) ≡ true
at_last a b c d k start last = le-leb _ _ (omega (arith, length-append start (last ∷ [])))

-- a frame under an allowed name is given as it is
pub named-allowed : (first : List ℕ) (a b c d k : ℕ) (start : List ℕ) (last : ℕ) (more : List ℕ) →
    allows first (start ++ last ∷ []) ≡ true
    → filtered (heading first []) (six a b c d k (length start + 1) ((start ++ last ∷ []) ++ more))
    ≡ six a b c d k (length start + 1) ((start ++ last ∷ [])
    ++ filtered (resting (start ++ last ∷ []) (size_in a b c d - (length start + 3))) more)
named-allowed first a b c d k start last more allowed =
    let before = six a b c d k (length start + 1) start in
    let count : length (before ++ last ∷ []) - 4 ≡ length start + 3 = omega (arith, length-append start (last ∷ [])) in
    filtered-allowed first before last more (before_last a b c d k start) (at_last a b c d k start last) allowed
    ∙ ap (λ (n : ℕ). six a b c d k (length start + 1) ((start ++ last ∷ [])
    ++ filtered (resting (start ++ last ∷ []) (size_in a b c d - n)) more)) count

-- of another name the last byte is given as 0
pub named-refused : (first : List ℕ) (a b c d k : ℕ) (start : List ℕ) (last : ℕ) (more : List ℕ) →
    allows first (start ++ last ∷ []) ≡ false
    → filtered (heading first []) (six a b c d k (length start + 1) ((start ++ last ∷ []) ++ more))
    ≡ six a b c d k (length start + 1) ((start ++ 0 ∷ []) ++ more)
named-refused first a b c d k start last more refused =
    filtered-refused first (six a b c d k (length start + 1) start) last more (before_last a b c d k start)
    (at_last a b c d k start last) refused

-- a name without bytes changes nothing in its frame
pub nameless-allowed : (first : List ℕ) (a b c d k : ℕ) (more : List ℕ) → allows first [] ≡ true
    → filtered (heading first []) (six a b c d k 0 more)
    ≡ six a b c d k 0 (filtered (resting [] (size_in a b c d - 2)) more)
nameless-allowed first a b c d k more allowed =
    filtered-allowed first (a ∷ b ∷ c ∷ d ∷ k ∷ []) 0 more refl refl allowed

pub nameless-refused : (first : List ℕ) (a b c d k : ℕ) (more : List ℕ) → allows first [] ≡ false →
    filtered (heading first []) (six a b c d k 0 more) ≡ six a b c d k 0 more
nameless-refused first a b c d k more refused =
    filtered-refused first (a ∷ b ∷ c ∷ d ∷ k ∷ []) 0 more refl refl refused

-- bytes that don't reach a name's end are given as they are
pub unnamed-same : (first bytes : List ℕ) → has_name bytes ≡ false → filtered (heading first []) bytes ≡ bytes
unnamed-same first bytes unnamed = (filtered-unnamed first [] bytes unnamed).0

-- bytes don't reach a name's end, or have a name without bytes, or one with a last byte
pub by_name : (P : List ℕ → Type 0) → ((bytes : List ℕ) → has_name bytes ≡ false → P bytes)
    → ((a b c d k : ℕ) (more : List ℕ) → P (six a b c d k 0 more))
    → ((a b c d k : ℕ) (start : List ℕ) (last : ℕ) (more : List ℕ) →
    P (six a b c d k (length start + 1) ((start ++ last ∷ []) ++ more)))
    → (bytes : List ℕ) → P bytes
by_name P short none named [] = short [] refl
by_name P short none named (a ∷ []) = short (a ∷ []) refl
by_name P short none named (a ∷ b ∷ []) = short (a ∷ b ∷ []) refl
by_name P short none named (a ∷ b ∷ c ∷ []) = short (a ∷ b ∷ c ∷ []) refl
by_name P short none named (a ∷ b ∷ c ∷ d ∷ []) = short (a ∷ b ∷ c ∷ d ∷ []) refl
by_name P short none named (a ∷ b ∷ c ∷ d ∷ k ∷ []) = short (a ∷ b ∷ c ∷ d ∷ k ∷ []) refl
by_name P short none named (a ∷ b ∷ c ∷ d ∷ k ∷ zero ∷ rest) = none a b c d k rest
by_name P short none named (a ∷ b ∷ c ∷ d ∷ k ∷ suc m ∷ rest) = go (cases_lt m (length rest))
  where
    go : (m < length rest) ⊎ (length rest ≤ m) → P (six a b c d k (suc m) rest)
    go (inr few) = short (six a b c d k (suc m) rest) (lt-leb _ _ (omega arith))
    go (inl enough) =
        let start = take m rest in
        let last = get_or rest m 0 in
        let len : length start + 1 ≡ suc m = omega (arith, length-take-le m rest (le_of_lt enough)) in
        let whole : (start ++ last ∷ []) ++ drop (suc m) rest ≡ rest =
        ap (λ (xs : List ℕ). xs ++ drop (suc m) rest)
        (sym (take_more rest m 0 enough) ∙ ap (λ (n : ℕ). take n rest) (add-one m))
        ∙ take-append-drop (suc m) rest in
        subst (λ (n : ℕ). P (six a b c d k n rest)) len
        (subst (λ (xs : List ℕ). P (six a b c d k (length start + 1) xs)) whole
        (named a b c d k start last (drop (suc m) rest)))

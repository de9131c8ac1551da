-- What a filter gives for bytes that follow one another.
use Rattle.std.proofs.Common.{◌≡◌, ◌<◌, ◌≤◌, ℕ, suc, ◌+◌, ◌-◌, Bool, true, false, List, [], ◌∷◌, ◌++◌}
use Rattle.std.proofs.Common.{length, drop, slice_index, refl, sym, ap, ◌∙◌, arith}
use Rattle.std.proofs.Common.{append_assoc, append-nil}
use Rattle.std.proofs.lemmas.Bool.{lt-ltb, leb-true, le-leb}
use Rattle.std.proofs.lemmas.List.{length-append, get_or_append_left}
use Rattle.bw_model.specs.Bytes.{u32_at}
use Rattle.bw_serve.specs.Filters.{Filter, has_name, allows, after_byte, passed, filtered, after_bytes}

-- within the bytes up to a frame's name
abbrev pub heading : List ℕ → List ℕ → Filter
heading first head = record { first = first; head = head; left = 0; passing = false }

-- within the bytes after it
abbrev pub resting : List ℕ → ℕ → Filter
resting first left = record { first = first; head = []; left = left; passing = false }

pub filtered-append : (f : Filter) (xs ys : List ℕ) →
    filtered f (xs ++ ys) ≡ filtered f xs ++ filtered (after_bytes f xs) ys
filtered-append f [] ys = refl
filtered-append f (x ∷ xs) ys = ap (λ (r : List ℕ). passed f x ∷ r) (filtered-append (after_byte f x) xs ys)

pub after_bytes-append : (f : Filter) (xs ys : List ℕ) → after_bytes f (xs ++ ys) ≡ after_bytes (after_bytes f xs) ys
after_bytes-append f [] ys = refl
after_bytes-append f (x ∷ xs) ys = after_bytes-append (after_byte f x) xs ys

pub filtered-length : (f : Filter) (xs : List ℕ) → length (filtered f xs) ≡ length xs
filtered-length f [] = refl
filtered-length f (x ∷ xs) = ap suc (filtered-length (after_byte f x) xs)

-- where all bytes pass they pass as they come
after-passing : (f : Filter) (b : ℕ) → f.passing ≡ true → after_byte f b ≡ f
unfolding after_byte
after-passing f b e = rw e refl

passed-passing : (f : Filter) (b : ℕ) → f.passing ≡ true → passed f b ≡ b
unfolding passed
passed-passing f b e = rw e refl

pub filtered-passing : (f : Filter) (xs : List ℕ) → f.passing ≡ true → (filtered f xs ≡ xs) × (after_bytes f xs ≡ f)
filtered-passing f [] e = (refl, refl)
filtered-passing f (x ∷ xs) e =
    let more = filtered-passing f xs e in
    rw (passed-passing f x e, after-passing f x e) (ap (λ (r : List ℕ). x ∷ r) more.0, more.1)

-- after a name the bytes of the frame pass
abbrev pub framing : List ℕ → List ℕ → ℕ → Filter
framing first head left = record { first = first; head = head; left = left; passing = false }

after-framing : (first head : List ℕ) (n b : ℕ) → 0 < n → after_byte (framing first head n) b ≡ framing first head (n - 1)
unfolding after_byte
after-framing first head n b some = rw (lt-ltb 0 n some) refl

passed-framing : (first head : List ℕ) (n b : ℕ) → 0 < n → passed (framing first head n) b ≡ b
unfolding passed
passed-framing first head n b some = rw (after-framing first head n b some) refl

pub filtered-framing : (first head : List ℕ) (n : ℕ) (xs : List ℕ) → length xs ≤ n →
    (filtered (framing first head n) xs ≡ xs)
    × (after_bytes (framing first head n) xs ≡ framing first head (n - length xs))
filtered-framing first head n [] few = (refl, ap (framing first head) (omega arith))
filtered-framing first head n (x ∷ xs) few =
    let some : 0 < n = omega arith in
    let more = filtered-framing first head (n - 1) xs (omega arith) in
    let left : n - 1 - length xs ≡ n - suc (length xs) = omega arith in
    rw (passed-framing first head n x some, after-framing first head n x some)
    (ap (λ (r : List ℕ). x ∷ r) more.0, more.1 ∙ ap (framing first head) left)

pub filtered-resting : (first : List ℕ) (n : ℕ) (xs : List ℕ) → length xs ≤ n →
    (filtered (resting first n) xs ≡ xs) × (after_bytes (resting first n) xs ≡ resting first (n - length xs))
filtered-resting first n xs few = filtered-framing first [] n xs few

-- more bytes have a name if fewer do
pub fewer-unnamed : (head more : List ℕ) → has_name (head ++ more) ≡ false → has_name head ≡ false
fewer-unnamed head more e = go (has_name head) refl
  where
    go : (b : Bool) → has_name head ≡ b → has_name head ≡ false
    go false h = h
    go true h =
        let long : 6 + slice_index head 5 ≤ length head = leb-true _ _ h in
        let same : slice_index (head ++ more) 5 ≡ slice_index head 5 =
        get_or_append_left head more 0 5 (omega arith) in
        let named : has_name (head ++ more) ≡ true =
        le-leb _ _ (omega (arith, same, length-append head more)) in
        absurd (cc)

after-unnamed : (first head : List ℕ) (b : ℕ) → has_name (head ++ b ∷ []) ≡ false →
    after_byte (heading first head) b ≡ heading first (head ++ b ∷ [])
unfolding after_byte
after-unnamed first head b e = rw e refl

passed-unnamed : (first head : List ℕ) (b : ℕ) → has_name (head ++ b ∷ []) ≡ false → passed (heading first head) b ≡ b
unfolding passed
passed-unnamed first head b e = rw (after-unnamed first head b e) refl

-- up to a name the bytes of a frame pass
pub filtered-unnamed : (first head xs : List ℕ) → has_name (head ++ xs) ≡ false →
    (filtered (heading first head) xs ≡ xs) × (after_bytes (heading first head) xs ≡ heading first (head ++ xs))
filtered-unnamed first head [] e = (refl, ap (heading first) (sym (append-nil head)))
filtered-unnamed first head (x ∷ xs) e =
    let same : (head ++ x ∷ []) ++ xs ≡ head ++ x ∷ xs = append_assoc head (x ∷ []) xs in
    let unnamed : has_name ((head ++ x ∷ []) ++ xs) ≡ false = ap has_name same ∙ e in
    let first_one = fewer-unnamed (head ++ x ∷ []) xs unnamed in
    let more = filtered-unnamed first (head ++ x ∷ []) xs unnamed in
    rw (passed-unnamed first head x first_one, after-unnamed first head x first_one)
    (ap (λ (r : List ℕ). x ∷ r) more.0, more.1 ∙ ap (heading first) same)

-- at the end of a name that is allowed
pub after-allowed : (first head : List ℕ) (b : ℕ) → has_name (head ++ b ∷ []) ≡ true →
    allows first (drop 6 (head ++ b ∷ [])) ≡ true
    → (after_byte (heading first head) b ≡ resting (drop 6 (head ++ b ∷ []))
    (u32_at (head ++ b ∷ []) 0 - (length (head ++ b ∷ []) - 4))) × (passed (heading first head) b ≡ b)
unfolding after_byte passed
after-allowed first head b named allowed = rw (named, allowed) (refl, refl)

-- and of one that isn't
pub after-refused : (first head : List ℕ) (b : ℕ) → has_name (head ++ b ∷ []) ≡ true →
    allows first (drop 6 (head ++ b ∷ [])) ≡ false
    → ((after_byte (heading first head) b).passing ≡ true) × (passed (heading first head) b ≡ 0)
unfolding after_byte passed
after-refused first head b named refused = rw (named, refused) (refl, refl)

-- Bytes with others in the place of some.
use Rattle.std.proofs.Common.{◌≡◌, ℕ, zero, suc, ◌-◌, ◌≤◌, List, [], ◌∷◌, ◌++◌, length, take, drop, refl, sym, ◌∙◌, ap, arith}
use Rattle.std.proofs.Common.{Option, Some, None}
use Rattle.std.specs.Prelude.{min, option_map}
use Rattle.std.proofs.lemmas.List.{length-take-le}
use Rattle.std.proofs.Math.Seq.{take-append_seam}
use Rattle.bw_stream.specs.Moves.{Reads, Skips}
use Rattle.bw_repair.specs.Overlays.{overlaid}

-- as many as before
pub overlaid-length : (n : ℕ) (cs xs : List ℕ) → length (overlaid n cs xs) ≡ length xs
unfolding overlaid
overlaid-length n cs [] = refl
overlaid-length zero [] (x ∷ xs) = refl
overlaid-length zero (c ∷ cs) (x ∷ xs) = ap suc (overlaid-length zero cs xs)
overlaid-length (suc n) cs (x ∷ xs) = ap suc (overlaid-length n cs xs)

-- none of others
pub overlaid-none : (n : ℕ) (xs : List ℕ) → overlaid n [] xs ≡ xs
unfolding overlaid
overlaid-none n [] = refl
overlaid-none zero (x ∷ xs) = refl
overlaid-none (suc n) (x ∷ xs) = ap (λ (z : List ℕ). x ∷ z) (overlaid-none n xs)

-- what comes first of them
pub overlaid-take : (k n : ℕ) (cs xs : List ℕ) → take k (overlaid n cs xs) ≡ overlaid n cs (take k xs)
unfolding overlaid
overlaid-take zero n cs xs = refl
overlaid-take (suc k) n cs [] = refl
overlaid-take (suc k) zero [] (x ∷ xs) = refl
overlaid-take (suc k) zero (c ∷ cs) (x ∷ xs) = ap (λ (z : List ℕ). c ∷ z) (overlaid-take k zero cs xs)
overlaid-take (suc k) (suc n) cs (x ∷ xs) = ap (λ (z : List ℕ). x ∷ z) (overlaid-take k n cs xs)

drop_nil : (k : ℕ) → drop {A = ℕ} k [] ≡ []
drop_nil zero = refl
drop_nil (suc k) = refl

same : (a a' : ℕ) (cs cs' xs : List ℕ) → a ≡ a' → cs ≡ cs' → overlaid a cs xs ≡ overlaid a' cs' xs
same a a' cs cs' xs e f = ap (λ (n : ℕ). overlaid n cs xs) e ∙ ap (λ (z : List ℕ). overlaid a' z xs) f

-- what is left of them
pub overlaid-drop : (k n : ℕ) (cs xs : List ℕ) →
    drop k (overlaid n cs xs) ≡ overlaid (n - k) (drop (k - n) cs) (drop k xs)
unfolding overlaid
overlaid-drop zero n cs xs =
    same n (n - 0) cs (drop (0 - n) cs) xs (omega arith)
    (let e : 0 ≡ 0 - n = omega arith in ap (λ (m : ℕ). drop m cs) e)
overlaid-drop (suc k) n cs [] = refl
overlaid-drop (suc k) zero [] (x ∷ xs) =
    sym (ap (λ (z : List ℕ). overlaid (0 - suc k) z (drop k xs)) (drop_nil (suc k - 0))
    ∙ overlaid-none (0 - suc k) (drop k xs))
overlaid-drop (suc k) zero (c ∷ cs) (x ∷ xs) =
    overlaid-drop k zero cs xs
    ∙ same (0 - k) (0 - suc k) (drop (k - 0) cs) (drop (suc k - 0) (c ∷ cs)) (drop k xs) (omega arith)
    (let e : k - 0 ≡ k = omega arith in let f : suc k ≡ suc k - 0 = omega arith in
    ap (λ (m : ℕ). drop m cs) e ∙ ap (λ (m : ℕ). drop m (c ∷ cs)) f)
overlaid-drop (suc k) (suc n) cs (x ∷ xs) =
    overlaid-drop k n cs xs
    ∙ same (n - k) (suc n - suc k) (drop (k - n) cs) (drop (suc k - suc n) cs) (drop k xs) (omega arith)
    (let e : k - n ≡ suc k - suc n = omega arith in ap (λ (m : ℕ). drop m cs) e)

-- part by part
parts : ℕ → ℕ → List ℕ → List ℕ → List ℕ
parts s n cs xs = take s xs ++ (take n cs ++ drop n (drop s xs))

parts_at : (s s' n n' : ℕ) (cs xs : List ℕ) → s ≡ s' → n ≡ n' → parts s n cs xs ≡ parts s' n' cs xs
parts_at s s' n n' cs xs e f = ap (λ (k : ℕ). parts k n cs xs) e ∙ ap (λ (k : ℕ). parts s' k cs xs) f

parts_are : (a s n : ℕ) (cs xs : List ℕ) → s ≡ min a (length xs) → n ≡ min (length cs) (length xs - s) →
    parts s n cs xs ≡ overlaid a cs xs
unfolding overlaid parts
parts_are a s n cs [] e f =
    let s0 : s ≡ 0 = omega (arith, e) in
    let n0 : n ≡ 0 = omega (arith, e, f) in parts_at s 0 n 0 cs [] s0 n0
parts_are zero s n [] (x ∷ xs) e f =
    let s0 : s ≡ 0 = omega (arith, e) in
    let n0 : n ≡ 0 = omega (arith, e, f) in parts_at s 0 n 0 [] (x ∷ xs) s0 n0
parts_are zero s n (c ∷ cs) (x ∷ xs) e f =
    let s0 : s ≡ 0 = omega (arith, e) in
    let m : ℕ = min (length cs) (length xs - 0) in
    let n0 : n ≡ suc m = omega (arith, e, f) in
    parts_at s 0 n (suc m) (c ∷ cs) (x ∷ xs) s0 n0
    ∙ ap (λ (z : List ℕ). c ∷ z) (parts_are zero 0 m cs xs (omega arith) refl)
parts_are (suc a) s n cs (x ∷ xs) e f =
    let m : ℕ = min a (length xs) in
    let s0 : s ≡ suc m = omega (arith, e) in
    let n0 : n ≡ min (length cs) (length xs - m) = omega (arith, e, f) in
    parts_at s (suc m) n n cs (x ∷ xs) s0 refl
    ∙ ap (λ (z : List ℕ). x ∷ z) (parts_are a m n cs xs refl n0)

-- what is written into a piece
pub replaced : (a s n k : ℕ) (cs here xs : List ℕ) → s ≡ min a (length xs) →
    n ≡ min (length cs) (length xs - s) → here ≡ take n cs → k ≡ n →
    take s xs ++ (here ++ drop k (drop s xs)) ≡ overlaid a cs xs
unfolding parts
replaced a s n k cs here xs e f h i =
    ap (λ (z : List ℕ). take s xs ++ (z ++ drop k (drop s xs))) h
    ∙ ap (λ (j : ℕ). take s xs ++ (take n cs ++ drop j (drop s xs))) i
    ∙ parts_are a s n cs xs e f

nothing : (a : ℕ) (cs : List ℕ) → overlaid a cs [] ≡ []
unfolding overlaid
nothing a cs = refl

-- a read through an overlay is one of the bytes with the others
pub read-overlaid : (a : ℕ) (cs : List ℕ) (inner : Option (List ℕ)) (most n : ℕ) (buf piece : List ℕ)
    (left : Option (List ℕ)) → n ≤ length buf → Reads inner most n buf left →
    piece ≡ overlaid a cs (take n buf) →
    Reads (option_map (overlaid a cs) inner) most n (piece ++ drop n buf)
    (option_map (overlaid (a - n) (drop (n - a) cs)) left)
read-overlaid a cs None most n buf piece left fits r is xs e = absurd (cc)
read-overlaid a cs (Some ys) most n buf piece left fits r is xs e =
    let q = r ys refl in
    let same : xs ≡ overlaid a cs ys = cc in
    let long : length piece ≡ n =
    ap length is ∙ overlaid-length a cs (take n buf) ∙ length-take-le n buf fits in
    let first : take n (piece ++ drop n buf) ≡ piece =
    ap (λ (k : ℕ). take k (piece ++ drop n buf)) (sym long) ∙ take-append_seam piece (drop n buf) in
    record {
      within = rw (same, overlaid-length) q.within;
      given = first ∙ is ∙ ap (overlaid a cs) q.given ∙ sym (overlaid-take n a cs ys) ∙ ap (take n) (sym same);
      rest = ap (option_map (overlaid (a - n) (drop (n - a) cs))) q.rest
          ∙ ap Some (sym (overlaid-drop n a cs ys)) ∙ ap (λ (z : List ℕ). Some (drop n z)) (sym same);
      end = λ z w. same ∙ ap (overlaid a cs) (q.end z w) ∙ nothing a cs;
    }

-- .. and so is a skip
pub skip-overlaid : (a : ℕ) (cs : List ℕ) (inner : Option (List ℕ)) (most n : ℕ)
    (left : Option (List ℕ)) → Skips inner most n left →
    Skips (option_map (overlaid a cs) inner) most n
    (option_map (overlaid (a - n) (drop (n - a) cs)) left)
skip-overlaid a cs None most n left r xs e = absurd (cc)
skip-overlaid a cs (Some ys) most n left r xs e =
    let q = r ys refl in
    let same : xs ≡ overlaid a cs ys = cc in
    record {
      within = rw (same, overlaid-length) q.within;
      rest = ap (option_map (overlaid (a - n) (drop (n - a) cs))) q.rest
          ∙ ap Some (sym (overlaid-drop n a cs ys)) ∙ ap (λ (z : List ℕ). Some (drop n z)) (sym same);
      end = λ z w. same ∙ ap (overlaid a cs) (q.end z w) ∙ nothing a cs;
    }

-- the same of what a call leaves
pub read-left : (a a' : ℕ) (cs cs' : List ℕ) (inner : Option (List ℕ)) (most n : ℕ) (buf part piece : List ℕ)
    (left left' : Option (List ℕ)) → n ≤ length buf → Reads inner most n buf left → part ≡ take n buf →
    piece ≡ overlaid a cs part → a' ≡ a - length part → cs' ≡ drop (length part - a) cs → left' ≡ left →
    Reads (option_map (overlaid a cs) inner) most n (piece ++ drop n buf) (option_map (overlaid a' cs') left')
read-left a a' cs cs' inner most n buf part piece left left' fits r cut is ahead others kept =
    let long : length part ≡ n = ap length cut ∙ length-take-le n buf fits in
    let first : a' ≡ a - n = ahead ∙ ap (λ (k : ℕ). a - k) long in
    let more : cs' ≡ drop (n - a) cs = others ∙ ap (λ (k : ℕ). drop (k - a) cs) long in
    let made = read-overlaid a cs inner most n buf piece left fits r (is ∙ ap (overlaid a cs) cut) in
    rw (first, more, kept) made

pub skip-left : (a a' : ℕ) (cs cs' : List ℕ) (inner : Option (List ℕ)) (most n : ℕ) (left left' : Option (List ℕ)) →
    Skips inner most n left → a' ≡ a - n → cs' ≡ drop (n - a) cs → left' ≡ left →
    Skips (option_map (overlaid a cs) inner) most n (option_map (overlaid a' cs') left')
skip-left a a' cs cs' inner most n left left' r ahead others kept =
    let made = skip-overlaid a cs inner most n left r in rw (ahead, others, kept) made

-- bytes that fit, part by part
pub overlaid-parted : (a n : ℕ) (cs xs : List ℕ) → a ≡ min a (length xs) →
    n ≡ min (length cs) (length xs - a) →
    overlaid a cs xs ≡ take a xs ++ (take n cs ++ drop n (drop a xs))
unfolding parts
overlaid-parted a n cs xs e f = sym (parts_are a a n cs xs e f)

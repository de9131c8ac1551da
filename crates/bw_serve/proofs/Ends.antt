-- How an exchange ends through the filter, where no frame comes any more.
use Rattle.std.proofs.Common.{◌≡◌, ◌≢◌, ◌<◌, ◌≤◌, ℕ, ◌+◌, ◌-◌, true, false, List, [], ◌∷◌, ◌++◌, length}
use Rattle.std.proofs.Common.{take, drop, nat_le, Option, Some, None, Result, Err, refl, sym, ap, subst, ◌∙◌, arith, inl, inr}
use Rattle.std.proofs.Common.{append_assoc, ◌⊎◌, le_of_lt, le_of_eq}
use Rattle.std.proofs.lemmas.Bool.{cases_lt, and_parts, leb-true, cases_Bool}
use Rattle.std.proofs.lemmas.List.{length-append, take-append-drop, take-append-le, length-take-le}
use Rattle.bw_model.specs.Bytes.{first_that_holds, is_within}
use Rattle.bw_model.specs.Wire.{Second, Frame, Reason, Name, decoded}
use Rattle.bw_model.specs.Stream.{End, BadFrame, end_at, end_by, before, framing_faults, longest_body}
use Rattle.bw_model.proofs.FrameLaws.{first_by}
use Rattle.bw_serve.specs.Filters.{allows, filtered, after_bytes}
use Rattle.bw_serve.specs.OneName.{EndsAlike}
use Rattle.bw_serve.proofs.Passing.{heading, resting, filtered-append, filtered-length, filtered-resting}
use Rattle.bw_serve.proofs.Heads.{six, size_in, by_name, named-allowed, named-refused, nameless-allowed}
use Rattle.bw_serve.proofs.Heads.{nameless-refused, unnamed-same}
use Rattle.bw_serve.proofs.FirstFrames.{body_in, SameFraming, ends-same, end-by, faults-same, decoded-misnamed}
use Rattle.bw_serve.proofs.FirstFrames.{decoded-strange, ends-badly, end-same, take-past}

-- where an exchange ended at these bytes, it ends alike at those
abbrev pub Alike : ℕ → End → List ℕ → Type 0
Alike place end bytes = (end' : End) × (end_at Second place bytes ≡ Some end') × EndsAlike place end end'

same-alike : (place : ℕ) (end : End) (bytes : List ℕ) → end_at Second place bytes ≡ Some end → Alike place end bytes
same-alike place end bytes e = (end, e, inl refl)

-- what follows a name in a frame is given as it is
take-resting : (size : ℕ) (head name more : List ℕ) →
    take size (head ++ filtered (resting name (size - length head)) more) ≡ take size (head ++ more)
take-resting size head name more = go (cases_lt (size - length head) (length more))
  where
    left : ℕ
    left = size - length head

    go : (left < length more) ⊎ (length more ≤ left)
        → take size (head ++ filtered (resting name left) more) ≡ take size (head ++ more)
    go (inr few) = ap (λ (xs : List ℕ). take size (head ++ xs)) (filtered-resting name left more few).0
    go (inl enough) =
        let p = take left more in
        let q = drop left more in
        let count : length p ≡ left = length-take-le left more (le_of_lt enough) in
        let rests = filtered-resting name left p (le_of_eq count) in
        let later = filtered (after_bytes (resting name left) p) q in
        let whole : size ≤ length (head ++ p) = omega (arith, length-append head p) in
        let given : filtered (resting name left) more ≡ p ++ later =
        ap (filtered (resting name left)) (sym (take-append-drop left more))
        ∙ filtered-append (resting name left) p q
        ∙ ap (λ (xs : List ℕ). xs ++ later) rests.0 in
        ap (λ (xs : List ℕ). take size (head ++ xs)) given
        ∙ ap (take size) (sym (append_assoc head p later))
        ∙ take-append-le size (head ++ p) later whole
        ∙ sym (take-append-le size (head ++ p) q whole)
        ∙ ap (take size) (append_assoc head p q)
        ∙ ap (λ (xs : List ℕ). take size (head ++ xs)) (take-append-drop left more)

-- after an allowed name
allowed-alike : (place a b c d k n : ℕ) (name more : List ℕ) (end : End) →
    end_at Second place (six a b c d k n (name ++ more)) ≡ Some end
    → end_at Second place (six a b c d k n (name ++ filtered (resting name (size_in a b c d - (length name + 2))) more))
    ≡ Some end
allowed-alike place a b c d k n name more end e =
    let size = size_in a b c d in
    let count : size - length (k ∷ n ∷ name) ≡ size - (length name + 2) = omega arith in
    let later = filtered (resting name (size - (length name + 2))) more in
    let s : SameFraming (six a b c d k n (name ++ more)) (six a b c d k n (name ++ later)) = record {
      count = omega (
        arith,
        length-append name later,
        length-append name more,
        filtered-length (resting name (size - (length name + 2))) more,
      );
      size = refl;
    } in
    ends-same Second place a a (b ∷ c ∷ d ∷ k ∷ n ∷ (name ++ more)) (b ∷ c ∷ d ∷ k ∷ n ∷ (name ++ later)) s
    (ap (λ (m : ℕ). take size ((k ∷ n ∷ name) ++ filtered (resting name m) more)) (sym count)
    ∙ take-resting size (k ∷ n ∷ name) name more)
    ∙ e

-- another last byte of a name changes no framing
same-framing : (a b c d k n last : ℕ) (start more : List ℕ) → SameFraming
    (six a b c d k n ((start ++ last ∷ []) ++ more)) (six a b c d k n ((start ++ 0 ∷ []) ++ more))
same-framing a b c d k n last start more = record {
  count = omega (
    arith,
    length-append (start ++ last ∷ []) more,
    length-append (start ++ 0 ∷ []) more,
    length-append start (last ∷ []),
    length-append start (0 ∷ []),
  );
  size = refl;
}

-- after another name, whose last byte isn't in the frame
refused-short : (place a b c d k : ℕ) (start : List ℕ) (last : ℕ) (more : List ℕ) (end : End) →
    size_in a b c d ≤ length start + 2
    → end_at Second place (six a b c d k (length start + 1) ((start ++ last ∷ []) ++ more)) ≡ Some end
    → end_at Second place (six a b c d k (length start + 1) ((start ++ 0 ∷ []) ++ more)) ≡ Some end
refused-short place a b c d k start last more end short e =
    let n = length start + 1 in
    let xs = (start ++ last ∷ []) ++ more in
    let ys = (start ++ 0 ∷ []) ++ more in
    let size = size_in a b c d in
    let body : (x : ℕ) → take size (k ∷ n ∷ ((start ++ x ∷ []) ++ more)) ≡ take size (k ∷ n ∷ start) =
    λ x. ap (λ (zs : List ℕ). take size (k ∷ n ∷ zs)) (append_assoc start (x ∷ []) more)
    ∙ take-append-le size (k ∷ n ∷ start) (x ∷ more) (omega arith) in
    let s : SameFraming (six a b c d k n xs) (six a b c d k n ys) = same-framing a b c d k n last start more in
    ends-same Second place a a (b ∷ c ∷ d ∷ k ∷ n ∷ xs) (b ∷ c ∷ d ∷ k ∷ n ∷ ys) s (body 0 ∙ sym (body last)) ∙ e

-- the body of a frame that has the whole name
body-past : (size k n x : ℕ) (start more : List ℕ) → length start + 3 ≤ size
    → take size (k ∷ n ∷ ((start ++ x ∷ []) ++ more))
    ≡ k ∷ n ∷ ((start ++ x ∷ []) ++ take (size - (length start + 3)) more)
body-past size k n x start more long =
    let count : size - length (k ∷ n ∷ (start ++ x ∷ [])) ≡ size - (length start + 3) =
    omega (arith, length-append start (x ∷ [])) in
    take-past (k ∷ n ∷ (start ++ x ∷ [])) more size (omega (arith, length-append start (x ∷ [])))
    ∙ ap (λ (m : ℕ). k ∷ n ∷ ((start ++ x ∷ []) ++ take m more)) count

-- a kind that a name follows isn't that of BYE
pub within-other : (k : ℕ) → is_within 1 6 k ≡ true → k ≢ 9
within-other k e =
    let most : k ≤ 6 = leb-true k 6 (and_parts (nat_le 1 k) (nat_le k 6) e).1 in
    λ nine. absurd (omega arith)

-- the end by the faults of the framing, and by what the body says
abbrev by_parts : ℕ → List ℕ → Option Reason → Result Frame Reason → Option End
by_parts place more fault read = end_by place (first_by more read fault)

refused-by : (place k n : ℕ) (start : List ℕ) (last : ℕ) (x later more : List ℕ) (end : End)
    (fault : Option Reason) → n ≡ length start + 1
    → by_parts place more fault (decoded Second (k ∷ n ∷ ((start ++ last ∷ []) ++ x))) ≡ Some end
    → (end' : End)
    × (by_parts place later fault (decoded Second (k ∷ n ∷ ((start ++ 0 ∷ []) ++ x))) ≡ Some end')
    × EndsAlike place end end'
refused-by place k n start last x later more end (Some reason) size e = (end, e, inl refl)
refused-by place k n start last x later more end None size e = go (cases_Bool (is_within 1 6 k))
  where
    go : (is_within 1 6 k ≡ true) ⊎ (is_within 1 6 k ≡ false)
        → (end' : End)
        × (end_by place (before later (decoded Second (k ∷ n ∷ ((start ++ 0 ∷ []) ++ x)))) ≡ Some end')
        × EndsAlike place end end'
    go (inl within) =
        let bad = ends-badly place k (n ∷ ((start ++ last ∷ []) ++ x)) more end (within-other k within) e in
        let misnamed : decoded Second (k ∷ n ∷ ((start ++ 0 ∷ []) ++ x)) ≡ Err Name =
        ap (λ (m : ℕ). decoded Second (k ∷ m ∷ ((start ++ 0 ∷ []) ++ x))) size
        ∙ decoded-misnamed k start x (within-other k within) within in (
          BadFrame Name place,
          ap (λ (r : Result Frame Reason). end_by place (before later r)) misnamed,
          inr (bad.0, bad.1, refl),
        )
    go (inr strange) = (
      end,
      ap (λ (r : Result Frame Reason). end_by place (before later r))
          (decoded-strange k n n ((start ++ last ∷ []) ++ x) ((start ++ 0 ∷ []) ++ x) strange)
          ∙ end-same place more later (decoded Second (k ∷ n ∷ ((start ++ last ∷ []) ++ x))) None ∙ e,
      inl refl,
    )

refused-long : (place a b c d k : ℕ) (start : List ℕ) (last : ℕ) (more : List ℕ) (end : End) →
    length start + 3 ≤ size_in a b c d
    → end_at Second place (six a b c d k (length start + 1) ((start ++ last ∷ []) ++ more)) ≡ Some end
    → Alike place end (six a b c d k (length start + 1) ((start ++ 0 ∷ []) ++ more))
refused-long place a b c d k start last more end long e =
    let n = length start + 1 in
    let size = size_in a b c d in
    let x = take (size - (length start + 3)) more in
    let old = b ∷ c ∷ d ∷ k ∷ n ∷ ((start ++ last ∷ []) ++ more) in
    let new = b ∷ c ∷ d ∷ k ∷ n ∷ ((start ++ 0 ∷ []) ++ more) in
    let fault = first_that_holds (framing_faults longest_body (a ∷ old)) in
    let s : SameFraming (a ∷ old) (a ∷ new) = same-framing a b c d k n last start more in
    let given : by_parts place (drop (4 + size) (a ∷ old)) fault (decoded Second (k ∷ n ∷ ((start ++ last ∷ []) ++ x)))
    ≡ Some end =
    ap (λ (body : List ℕ). by_parts place (drop (4 + size) (a ∷ old)) fault (decoded Second body))
    (sym (body-past size k n last start more long))
    ∙ sym (end-by Second place a old) ∙ e in
    let ended = refused-by place k n start last x (drop (4 + size) (a ∷ new)) (drop (4 + size) (a ∷ old)) end fault refl
    given in (
      ended.0,
      end-by Second place a new
          ∙ ap (λ (f : Option Reason). by_parts place (drop (4 + size) (a ∷ new)) f
          (decoded Second (body_in (a ∷ new)))) (faults-same (a ∷ old) (a ∷ new) s)
          ∙ ap (λ (body : List ℕ). by_parts place (drop (4 + size) (a ∷ new)) fault (decoded Second body))
          (body-past size k n 0 start more long)
          ∙ ended.1,
      ended.2,
    )

-- Where an exchange ends it ends alike through the filter.
pub ends-alike : (first : List ℕ) (place : ℕ) (end : End) (bytes : List ℕ) → end_at Second place bytes ≡ Some end →
    Alike place end (filtered (heading first []) bytes)
ends-alike first place end bytes =
    by_name (λ bytes. end_at Second place bytes ≡ Some end → Alike place end (filtered (heading first []) bytes))
    (λ bytes unnamed e. subst (Alike place end) (sym (unnamed-same first bytes unnamed)) (same-alike place end bytes e))
    nameless named bytes
  where
    nameless : (a b c d k : ℕ) (more : List ℕ) → end_at Second place (six a b c d k 0 more) ≡ Some end →
        Alike place end (filtered (heading first []) (six a b c d k 0 more))
    nameless a b c d k more e = go (cases_Bool (allows first []))
      where
        go : (allows first [] ≡ true) ⊎ (allows first [] ≡ false) →
            Alike place end (filtered (heading first []) (six a b c d k 0 more))
        go (inl fine) = subst (Alike place end) (sym (nameless-allowed first a b c d k more fine))
            (same-alike place end (six a b c d k 0 (filtered (resting [] (size_in a b c d - 2)) more))
            (allowed-alike place a b c d k 0 [] more end e))
        go (inr bad) = subst (Alike place end) (sym (nameless-refused first a b c d k more bad))
            (same-alike place end (six a b c d k 0 more) e)

    named : (a b c d k : ℕ) (start : List ℕ) (last : ℕ) (more : List ℕ)
        → end_at Second place (six a b c d k (length start + 1) ((start ++ last ∷ []) ++ more)) ≡ Some end
        → Alike place end
        (filtered (heading first []) (six a b c d k (length start + 1) ((start ++ last ∷ []) ++ more)))
    named a b c d k start last more e =
        go (cases_Bool (allows first (start ++ last ∷ []))) (cases_lt (length start + 2) (size_in a b c d))
      where
        go : (allows first (start ++ last ∷ []) ≡ true) ⊎ (allows first (start ++ last ∷ []) ≡ false) →
            (length start + 2 < size_in a b c d) ⊎ (size_in a b c d ≤ length start + 2)
            → Alike place end
            (filtered (heading first []) (six a b c d k (length start + 1) ((start ++ last ∷ []) ++ more)))
        go (inl fine) _ =
            let count : size_in a b c d - (length (start ++ last ∷ []) + 2) ≡ size_in a b c d - (length start + 3) =
            omega (arith, length-append start (last ∷ [])) in
            subst (Alike place end) (sym (named-allowed first a b c d k start last more fine))
            (same-alike place end (six a b c d k (length start + 1) ((start ++ last ∷ [])
            ++ filtered (resting (start ++ last ∷ []) (size_in a b c d - (length start + 3))) more))
            (subst (λ (m : ℕ). end_at Second place (six a b c d k (length start + 1) ((start ++ last ∷ [])
            ++ filtered (resting (start ++ last ∷ []) m) more)) ≡ Some end) count
            (allowed-alike place a b c d k (length start + 1) (start ++ last ∷ []) more end e)))
        go (inr bad) (inl long) = subst (Alike place end) (sym (named-refused first a b c d k start last more bad))
            (refused-long place a b c d k start last more end (omega arith) e)
        go (inr bad) (inr short) = subst (Alike place end) (sym (named-refused first a b c d k start last more bad))
            (same-alike place end (six a b c d k (length start + 1) ((start ++ 0 ∷ []) ++ more))
            (refused-short place a b c d k start last more end short e))

-- The first fault of lists of faults that stand after each other.
use Rattle.std.proofs.Common.{◌≡◌, ℕ, ◌≤◌, min, max, arith, subst, Bool, true, false, cond}
use Rattle.std.proofs.Common.{List, [], ◌∷◌, ◌++◌, Option, Some, None, refl, sym, ◌∙◌, ap}
use Rattle.std.specs.Prelude.{◌&&◌, ◌||◌, ◌==◌, ◌*◌, ◌/◌, Ok, Err, nat_le}
use Rattle.std.proofs.lemmas.Bool.{and_from, not-false, leb-true, leb-false}
use Rattle.std.proofs.lemmas.Nat.{div-add-mod', mul-le}
use Rattle.bw_model.specs.Bytes.{first_that_holds, unless, is_within}
use Rattle.bw_model.specs.Take.{is_format}
use Rattle.bw_model.proofs.Elements.{Each}
use Rattle.bw_model.specs.Report.{RawFmt}
use Rattle.bw_plan.specs.Recordings.{FaultAt, Outline, Options, FileNotes, format_faults, faults_of_content, recorded_format}
use Rattle.bw_plan.specs.Recordings.{outline_of, set_outline, head_place}
use Rattle.std.specs.Prelude.{codes}

not_none : {X : Type 0} {x : X} → Some x ≡ None → ⊥
not_none h = cc

-- no fault of the first ones
pub free-append : (xs ys : List (Bool × FaultAt)) → first_that_holds xs ≡ None →
    first_that_holds (xs ++ ys) ≡ first_that_holds ys
free-append [] ys h = refl
free-append (x ∷ xs) ys h = go x.0 h (free-append xs ys)
  where
    go : (v : Bool) → cond v (Some x.1) (first_that_holds xs) ≡ None →
        (first_that_holds xs ≡ None → first_that_holds (xs ++ ys) ≡ first_that_holds ys) →
        cond v (Some x.1) (first_that_holds (xs ++ ys)) ≡ first_that_holds ys
    go true h rest = absurd (not_none h)
    go false h rest = rest h

-- a fault of the first ones
pub fault-append : (xs ys : List (Bool × FaultAt)) (f : FaultAt) → first_that_holds xs ≡ Some f →
    first_that_holds (xs ++ ys) ≡ Some f
fault-append [] ys f h = absurd (none h)
  where
    none : {X : Type 0} {z : X} → None ≡ Some z → ⊥
    none h = cc
fault-append (x ∷ xs) ys f h = go x.0 h (fault-append xs ys f)
  where
    go : (v : Bool) → cond v (Some x.1) (first_that_holds xs) ≡ Some f →
        (first_that_holds xs ≡ Some f → first_that_holds (xs ++ ys) ≡ Some f) →
        cond v (Some x.1) (first_that_holds (xs ++ ys)) ≡ Some f
    go true h rest = h
    go false h rest = rest h

-- neither the format nor the content has a fault
pub outlined : (o : Options) (n : FileNotes) (r : Outline) →
    first_that_holds (format_faults n.report.fmt n.extension (head_place (codes "fmt ") n.report.chunks)) ≡ None →
    r ≡ set_outline o n → first_that_holds (faults_of_content o n r) ≡ None → outline_of o n ≡ Ok r
unfolding outline_of
outlined o n r h e k =
    let formats = format_faults n.report.fmt n.extension (head_place (codes "fmt ") n.report.chunks) in
    ap (λ (x : Option FaultAt). unless x (set_outline o n))
    (free-append formats (faults_of_content o n (set_outline o n)) h
    ∙ ap (λ (z : Outline). first_that_holds (faults_of_content o n z)) (sym e) ∙ k)
    ∙ ap Ok (sym e)

-- the format has a fault
pub wrong_format : (o : Options) (n : FileNotes) (f : FaultAt) →
    first_that_holds (format_faults n.report.fmt n.extension (head_place (codes "fmt ") n.report.chunks)) ≡ Some f →
    outline_of o n ≡ Err f
unfolding outline_of
wrong_format o n f h =
    let formats = format_faults n.report.fmt n.extension (head_place (codes "fmt ") n.report.chunks) in
    ap (λ (x : Option FaultAt). unless x (set_outline o n))
    (fault-append formats (faults_of_content o n (set_outline o n)) f h)

-- the content has a fault
pub wrong_content : (o : Options) (n : FileNotes) (r : Outline) (f : FaultAt) →
    first_that_holds (format_faults n.report.fmt n.extension (head_place (codes "fmt ") n.report.chunks)) ≡ None →
    r ≡ set_outline o n → first_that_holds (faults_of_content o n r) ≡ Some f → outline_of o n ≡ Err f
unfolding outline_of
wrong_content o n r f h e k =
    let formats = format_faults n.report.fmt n.extension (head_place (codes "fmt ") n.report.chunks) in
    ap (λ (x : Option FaultAt). unless x (set_outline o n))
    (free-append formats (faults_of_content o n (set_outline o n)) h
    ∙ ap (λ (z : Outline). first_that_holds (faults_of_content o n z)) (sym e) ∙ k)

-- where there is no fault, no test holds
pub none_hold : (xs : List (Bool × FaultAt)) → first_that_holds xs ≡ None → Each (λ x. x.0 ≡ false) xs
none_hold [] h = tt
none_hold (x ∷ xs) h = go x.0 refl h (none_hold xs)
  where
    go : (v : Bool) → x.0 ≡ v → cond v (Some x.1) (first_that_holds xs) ≡ None →
        (first_that_holds xs ≡ None → Each (λ x. x.0 ≡ false) xs) →
        (x.0 ≡ false) × Each (λ x. x.0 ≡ false) xs
    go true e h rest = absurd (not_none h)
    go false e h rest = (e, rest h)

-- a format without a fault is allowed
pub free_format : (f : RawFmt) (extension : List ℕ) (p : ℕ) → first_that_holds (format_faults f extension p) ≡ None →
    is_format (recorded_format f) ≡ true
free_format f extension p h =
    let r = is_within 1 768000 f.rate in
    let c = is_within 1 64 f.channels in
    let d = (f.bits == 16) || (f.bits == 24) || (f.bits == 32) in
    let e = none_hold (format_faults f extension p) h in
    and_from (r && c) d (and_from r c (not-false r e.1.1.1.1.0) (not-false c e.1.1.1.1.1.0)) (not-false d e.1.0)

-- a block has no more bytes than the longest one
pub fits_block : (k a : ℕ) → 1 ≤ a → a ≤ 32768 → max 1 (min k (32768 / a)) * a ≤ 32768
fits_block k a some few =
    let q = 32768 / a in
    let whole : q * a ≤ 32768 = let e = div-add-mod' 32768 a in omega (arith, e) in
    let least : min k q * a ≤ q * a = mul-le (min k q) a q a (omega arith) (omega arith) in
    go (nat_le 1 (min k q)) refl whole least
  where
    go : (v : Bool) → nat_le 1 (min k (32768 / a)) ≡ v → 32768 / a * a ≤ 32768 →
        min k (32768 / a) * a ≤ 32768 / a * a → max 1 (min k (32768 / a)) * a ≤ 32768
    go true e whole least =
        let big = leb-true 1 (min k (32768 / a)) e in
        let same : max 1 (min k (32768 / a)) ≡ min k (32768 / a) = omega (arith, big) in
        subst (λ (n : ℕ). n * a ≤ 32768) (sym same) (omega (arith, whole, least))
    go false e whole least =
        let small = leb-false 1 (min k (32768 / a)) e in
        let same : max 1 (min k (32768 / a)) ≡ 1 = omega (arith, small) in
        subst (λ (n : ℕ). n * a ≤ 32768) (sym same) (omega (arith, few))

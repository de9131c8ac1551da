-- A sender's entries, one by one.
use Rattle.std.proofs.Common.{◌≡◌, ℕ, suc, zero, ◌+◌, ◌<◌, ◌≤◌, Bool, true, false, ◌&&◌, ◌||◌, List, []}
use Rattle.std.proofs.Common.{◌∷◌, ◌++◌, length, take, drop, Option, Some, None, refl, sym, ◌∙◌, ap, arith}
use Rattle.std.specs.Prelude.{is_some, slice_get, count_by, if◌then◌else◌}
use Rattle.std.specs.List.{list_any}
use Rattle.bw_model.specs.Bytes.{at, put, first_free}
use Rattle.bw_model.specs.Take.{Request, Verdict, is_stored}
use Rattle.bw_model.specs.World.{refused_from, pending_from, has_closed_from, is_close, is_some_stored}
use Rattle.std.proofs.Common.{get_or}
use Rattle.std.proofs.Math.Bool.{or-false, or_assoc, and-true}
use Rattle.std.proofs.lemmas.Option.{slice_get-get_or}
use Rattle.std.proofs.lemmas.List.Sums.{count_by_more_no, count_by_more_yes}
use Rattle.bw_model.proofs.Elements.{some_inj}
use Rattle.bw_sender.specs.Entries.{SenderEntry, unjudged, entries, judged, is_judged_at, closes}
use Rattle.bw_sender.specs.Entries.{pending_entries, pending_at}

pub length_entries : (rs : List Request) (vs : List (Option Verdict)) → length (entries rs vs) ≡ length rs
length_entries [] vs = refl
length_entries (r ∷ rs) [] = ap suc (length_entries rs [])
length_entries (r ∷ rs) (v ∷ vs) = ap suc (length_entries rs vs)

pub first_free_len : {X : Type 0} (vs : List (Option X)) → first_free vs ≤ length vs
first_free_len [] = omega arith
first_free_len (None ∷ vs) = omega arith
first_free_len (Some v ∷ vs) = let h : first_free vs ≤ length vs = first_free_len vs in omega arith

-- what is refused below the first number without a verdict is all that is reported as refused
pub refused_prefix : (n : ℕ) (vs : List (Option Verdict)) →
    refused_from n (take (first_free vs) vs) ≡ refused_from n vs
refused_prefix n [] = refl
refused_prefix n (None ∷ vs) = refl
refused_prefix n (Some v ∷ vs) =
    ap (λ (xs : List (ℕ × Verdict)). if is_stored v then xs else (n, v) ∷ xs) (refused_prefix (suc n) vs)

-- Lists.

no_some : {X : Type 0} {x : X} → None ≡ Some x → ⊥
no_some e = cc

pub drop_at : {X : Type 0} (k : ℕ) (xs : List X) (x : X) → slice_get xs k ≡ Some x → drop k xs ≡ x ∷ drop (suc k) xs
drop_at k [] x e = absurd (no_some e)
drop_at zero (y ∷ ys) x e = ap (λ (z : _). z ∷ ys) (some_inj e)
drop_at (suc k) (y ∷ ys) x e = drop_at k ys x e

pub get_dropped : {X : Type 0} (k i : ℕ) (xs : List X) → slice_get (drop k xs) i ≡ slice_get xs (k + i)
get_dropped zero i xs = ap (slice_get xs) (omega arith)
get_dropped (suc k) i [] = refl
get_dropped (suc k) i (x ∷ xs) =
    let same : suc (k + i) ≡ suc k + i = omega arith in
    get_dropped k i xs ∙ ap (λ (m : ℕ). slice_get (x ∷ xs) m) same

pub drop_none : {X : Type 0} (k : ℕ) (xs : List X) → length xs ≤ k → drop k xs ≡ []
drop_none zero [] h = refl
drop_none zero (x ∷ xs) h = absurd (omega (arith, h))
drop_none (suc k) [] h = refl
drop_none (suc k) (x ∷ xs) h = drop_none k xs (omega (arith, h))

pub drop_one_more : {X : Type 0} (k : ℕ) (xs : List X) → drop 1 (drop k xs) ≡ drop (suc k) xs
drop_one_more zero xs = refl
drop_one_more (suc k) [] = refl
drop_one_more (suc k) (x ∷ xs) = drop_one_more k xs

-- Settling: the first entry without a verdict.

pub judged_prefix : (rs : List Request) (vs : List (Option Verdict)) (k : ℕ) (r : Request) (v : Verdict) →
    slice_get (entries rs vs) k ≡ Some (record { request = r; verdict = Some v }) →
    (slice_get rs k ≡ Some r) × (slice_get vs k ≡ Some (Some v))
judged_prefix [] vs k r v e = absurd (no_some e)
judged_prefix (x ∷ rs) [] zero r v e = absurd (no_some (ap (λ (y : SenderEntry). y.verdict) (some_inj e)))
judged_prefix (x ∷ rs) [] (suc k) r v e = let h = judged_prefix rs [] k r v e in (h.0, h.1)
judged_prefix (x ∷ rs) (y ∷ vs) zero r v e =
    (ap (λ (z : SenderEntry). Some z.request) (some_inj e), ap (λ (z : SenderEntry). Some z.verdict) (some_inj e))
judged_prefix (x ∷ rs) (y ∷ vs) (suc k) r v e = judged_prefix rs vs k r v e

pub one_more_free : (vs : List (Option Verdict)) (k : ℕ) (v : Verdict) → k ≤ first_free vs →
    slice_get vs k ≡ Some (Some v) → suc k ≤ first_free vs
one_more_free [] k v h e = absurd (no_some e)
one_more_free (None ∷ vs) zero v h e = absurd (no_some (some_inj e))
one_more_free (None ∷ vs) (suc k) v h e = absurd (omega (arith, h))
one_more_free (Some x ∷ vs) zero v h e = omega arith
one_more_free (Some x ∷ vs) (suc k) v h e =
    let more : suc k ≤ first_free vs = one_more_free vs k v (omega (arith, h)) e in omega (arith, more)

pub not_judged : (rs : List Request) (vs : List (Option Verdict)) (k : ℕ) → length vs ≤ length rs →
    k ≤ first_free vs → is_judged_at (entries rs vs) k ≡ false → k ≡ first_free vs
not_judged rs [] k l h e = omega (arith, h)
not_judged rs (None ∷ vs) k l h e = omega (arith, h)
not_judged [] (Some v ∷ vs) k l h e = absurd (omega (arith, l))
not_judged (r ∷ rs) (Some v ∷ vs) zero l h e = absurd (both e)
  where
    both : true ≡ false → ⊥
    both e = cc
not_judged (r ∷ rs) (Some v ∷ vs) (suc k) l h e =
    ap suc (not_judged rs vs k (omega (arith, l)) (omega (arith, h)) e)

got_below : {X : Type 0} (xs : List X) (k : ℕ) (x : X) → slice_get xs k ≡ Some x → k < length xs
got_below [] k x e = absurd (no_some e)
got_below (y ∷ ys) zero x e = omega arith
got_below (y ∷ ys) (suc k) x e = let h : k < length ys = got_below ys k x e in omega (arith, h)

-- with its verdict counted
pub stored_more : (vs : List (Option Verdict)) (k : ℕ) (v : Verdict) → slice_get vs k ≡ Some (Some v) →
    count_by is_some_stored (take (suc k) vs)
    ≡ count_by is_some_stored (take k vs) + (if is_stored v then 1 else 0)
stored_more vs k v e =
    let same : suc k ≡ k + 1 = omega arith in
    ap (λ (n : ℕ). count_by is_some_stored (take n vs)) same ∙ go (is_stored v) refl
  where
    below : k < length vs
    below = got_below vs k (Some v) e

    there : get_or vs k None ≡ Some v
    there = some_inj (sym (slice_get-get_or vs k None below) ∙ e)

    go : (b : Bool) → is_stored v ≡ b →
        count_by is_some_stored (take (k + 1) vs)
        ≡ count_by is_some_stored (take k vs) + (if b then 1 else 0)
    go true h = count_by_more_yes is_some_stored vs k None below (ap is_some_stored there ∙ h)
    go false h = count_by_more_no is_some_stored vs k None below (ap is_some_stored there ∙ h) ∙ omega arith

pub refused_more : (n : ℕ) (vs : List (Option Verdict)) (k : ℕ) (v : Verdict) → k ≤ first_free vs →
    slice_get vs k ≡ Some (Some v) →
    refused_from n (take (suc k) vs) ≡ refused_from n (take k vs) ++ (if is_stored v then [] else (n + k, v) ∷ [])
refused_more n [] k v h e = absurd (no_some e)
refused_more n (None ∷ vs) zero v h e = absurd (no_some (some_inj e))
refused_more n (None ∷ vs) (suc k) v h e = absurd (omega (arith, h))
refused_more n (Some y ∷ vs) zero v h e =
    ap (λ (o : Option Verdict). refused_from n (o ∷ [])) (some_inj e)
    ∙ ap (λ (m : ℕ). if is_stored v then [] else (m, v) ∷ []) (omega arith)
refused_more n (Some y ∷ vs) (suc k) v h e =
    go (is_stored y) _ _ _ (refused_more (suc n) vs k v (omega (arith, h)) e
    ∙ ap (λ (m : ℕ). refused_from (suc n) (take k vs) ++ (if is_stored v then [] else (m, v) ∷ [])) (omega arith))
  where
    go : (b : Bool) (xs ys zs : List (ℕ × Verdict)) → xs ≡ ys ++ zs →
        (if b then xs else (n, y) ∷ xs) ≡ (if b then ys else (n, y) ∷ ys) ++ zs
    go true xs ys zs more = more
    go false xs ys zs more = ap (λ (xs : List (ℕ × Verdict)). (n, y) ∷ xs) more

pub or_left : {a b : Bool} (c : Bool) → a ≡ b → (a || c) ≡ (b || c)
or_left c e = ap (λ (x : Bool). x || c) e

pub closed_more : (rs : List Request) (vs : List (Option Verdict)) (k : ℕ) (r : Request) (v : Verdict) →
    slice_get rs k ≡ Some r → slice_get vs k ≡ Some (Some v) →
    has_closed_from (take (suc k) rs) (take (suc k) vs)
    ≡ (has_closed_from (take k rs) (take k vs) || (is_close r && is_stored v))
closed_more [] vs k r v e f = absurd (no_some e)
closed_more (x ∷ rs) [] k r v e f = absurd (no_some f)
closed_more (x ∷ rs) (y ∷ vs) zero r v e f =
    ap (λ (o : Option Verdict). has_closed_from (x ∷ []) (o ∷ [])) (some_inj f)
    ∙ ap (λ (z : Request). (is_close z && is_stored v) || false) (some_inj e) ∙ or-false (is_close r && is_stored v)
closed_more (x ∷ rs) (None ∷ vs) (suc k) r v e f =
    ap (λ (b : Bool). is_close x || b) (closed_more rs vs k r v e f)
    ∙ sym (or_assoc (is_close x) (has_closed_from (take k rs) (take k vs)) (is_close r && is_stored v))
closed_more (x ∷ rs) (Some y ∷ vs) (suc k) r v e f =
    ap (λ (b : Bool). (is_close x && is_stored y) || b) (closed_more rs vs k r v e f)
    ∙ sym (or_assoc (is_close x && is_stored y) (has_closed_from (take k rs) (take k vs))
    (is_close r && is_stored v))

-- Offers.

pub entries_more : (rs : List Request) (vs : List (Option Verdict)) (r : Request) → length vs ≤ length rs →
    entries (rs ++ r ∷ []) vs ≡ entries rs vs ++ unjudged r ∷ []
entries_more [] [] r h = refl
entries_more [] (v ∷ vs) r h = absurd (omega (arith, h))
entries_more (x ∷ rs) [] r h = ap (λ (es : List SenderEntry). unjudged x ∷ es) (entries_more rs [] r (omega arith))
entries_more (x ∷ rs) (v ∷ vs) r h =
    ap (λ (es : List SenderEntry). record { request = x; verdict = v } ∷ es) (entries_more rs vs r (omega (arith, h)))

any_closes : (rs : List Request) (vs : List (Option Verdict)) → has_closed_from rs vs ≡ list_any closes (entries rs vs)
any_closes [] vs = refl
any_closes (r ∷ rs) [] =
    ap (λ (b : Bool). b || has_closed_from rs []) (sym (and-true (is_close r)))
    ∙ ap (λ (b : Bool). (is_close r && true) || b) (any_closes rs [])
any_closes (r ∷ rs) (None ∷ vs) =
    ap (λ (b : Bool). b || has_closed_from rs vs) (sym (and-true (is_close r)))
    ∙ ap (λ (b : Bool). (is_close r && true) || b) (any_closes rs vs)
any_closes (r ∷ rs) (Some v ∷ vs) = ap (λ (b : Bool). (is_close r && is_stored v) || b) (any_closes rs vs)

pub closed_in : (rs : List Request) (vs : List (Option Verdict)) (k : ℕ) → k ≤ length vs → length vs ≤ length rs →
    has_closed_from rs vs ≡ (has_closed_from (take k rs) (take k vs) || list_any closes (drop k (entries rs vs)))
closed_in rs vs zero h l = any_closes rs vs
closed_in rs [] (suc k) h l = absurd (omega (arith, h))
closed_in [] (v ∷ vs) (suc k) h l = absurd (omega (arith, l))
closed_in (r ∷ rs) (None ∷ vs) (suc k) h l =
    ap (λ (b : Bool). is_close r || b) (closed_in rs vs k (omega (arith, h)) (omega (arith, l)))
    ∙ sym (or_assoc (is_close r) (has_closed_from (take k rs) (take k vs)) (list_any closes (drop k (entries rs vs))))
closed_in (r ∷ rs) (Some v ∷ vs) (suc k) h l =
    ap (λ (b : Bool). (is_close r && is_stored v) || b) (closed_in rs vs k (omega (arith, h)) (omega (arith, l)))
    ∙ sym (or_assoc (is_close r && is_stored v) (has_closed_from (take k rs) (take k vs))
    (list_any closes (drop k (entries rs vs))))

-- Verdicts.

pub judged_at : (rs : List Request) (vs : List (Option Verdict)) (n : ℕ) → n < length rs →
    is_judged_at (entries rs vs) n ≡ is_some (at vs n)
judged_at [] vs n h = absurd (omega (arith, h))
judged_at (r ∷ rs) [] zero h = refl
judged_at (r ∷ rs) [] (suc n) h = judged_at rs [] n (omega (arith, h))
judged_at (r ∷ rs) (v ∷ vs) zero h = refl
judged_at (r ∷ rs) (v ∷ vs) (suc n) h = judged_at rs vs n (omega (arith, h))

pub judged_put : (rs : List Request) (vs : List (Option Verdict)) (n : ℕ) (v : Verdict) → n < length rs →
    entries rs (put vs n v) ≡ judged (entries rs vs) n v
judged_put [] vs n v h = absurd (omega (arith, h))
judged_put (r ∷ rs) [] zero v h = refl
judged_put (r ∷ rs) [] (suc n) v h =
    ap (λ (es : List SenderEntry). unjudged r ∷ es) (judged_put rs [] n v (omega (arith, h)))
judged_put (r ∷ rs) (y ∷ vs) zero v h = refl
judged_put (r ∷ rs) (y ∷ vs) (suc n) v h =
    ap (λ (es : List SenderEntry). record { request = r; verdict = y } ∷ es) (judged_put rs vs n v (omega (arith, h)))

pub judged_drop : (k i : ℕ) (es : List SenderEntry) (v : Verdict) → drop k (judged es (k + i) v) ≡ judged (drop k es) i v
judged_drop zero i es v = ap (λ (m : ℕ). judged es m v) (omega arith)
judged_drop (suc k) i [] v = refl
judged_drop (suc k) i (e ∷ es) v =
    let same : suc k + i ≡ suc (k + i) = omega arith in
    ap (λ (m : ℕ). drop (suc k) (judged (e ∷ es) m v)) same ∙ judged_drop k i es v

pub put_within : {X : Type 0} (vs : List (Option X)) (n most : ℕ) (v : X) → length vs ≤ most → n < most →
    length (put vs n v) ≤ most
put_within [] zero most v h b = omega (arith, b)
put_within vs n zero v h b = absurd (omega (arith, b))
put_within [] (suc n) (suc most) v h b =
    let more : length (put [] n v) ≤ most = put_within [] n most v (omega arith) (omega (arith, b)) in
    omega (arith, more)
put_within (y ∷ vs) zero (suc most) v h b = omega (arith, h)
put_within (y ∷ vs) (suc n) (suc most) v h b =
    let more : length (put vs n v) ≤ most = put_within vs n most v (omega (arith, h)) (omega (arith, b)) in
    omega (arith, more)

-- What is pending.

pub pending_in : (n : ℕ) (rs : List Request) (vs : List (Option Verdict)) →
    pending_from n rs vs ≡ pending_entries n (entries rs vs)
pending_in n [] vs = refl
pending_in n (r ∷ rs) [] = ap (λ (ps : List (ℕ × Request)). (n, r) ∷ ps) (pending_in (suc n) rs [])
pending_in n (r ∷ rs) (None ∷ vs) = ap (λ (ps : List (ℕ × Request)). (n, r) ∷ ps) (pending_in (suc n) rs vs)
pending_in n (r ∷ rs) (Some v ∷ vs) = pending_in (suc n) rs vs

pub pending_after : (k n : ℕ) (rs : List Request) (vs : List (Option Verdict)) → k ≤ first_free vs →
    length vs ≤ length rs → pending_entries n (entries rs vs) ≡ pending_entries (n + k) (drop k (entries rs vs))
pending_after zero n rs vs h l = ap (λ (m : ℕ). pending_entries m (entries rs vs)) (omega arith)
pending_after (suc k) n rs [] h l = absurd (omega (arith, h))
pending_after (suc k) n rs (None ∷ vs) h l = absurd (omega (arith, h))
pending_after (suc k) n [] (Some v ∷ vs) h l = absurd (omega (arith, l))
pending_after (suc k) n (r ∷ rs) (Some v ∷ vs) h l =
    pending_after k (suc n) rs vs (omega (arith, h)) (omega (arith, l))
    ∙ ap (λ (m : ℕ). pending_entries m (drop k (entries rs vs))) (omega arith)

pub drop_past : {X : Type 0} (k : ℕ) (xs : List X) → slice_get xs k ≡ None → drop k xs ≡ drop (suc k) xs
drop_past k [] e = drop_none k [] (omega arith)
drop_past zero (y ∷ ys) e = absurd (no_some (sym e))
drop_past (suc k) (y ∷ ys) e = drop_past k ys e

-- what is pending from a slot on, if its request is pending
pub pending_some : (slot n : ℕ) (es : List SenderEntry) (r : Request) → pending_at es slot ≡ Some r →
    pending_entries n (drop slot es) ≡ (n, r) ∷ pending_entries (suc n) (drop (suc slot) es)
pending_some slot n [] r h = absurd (no_some h)
pending_some zero n (e ∷ es) r h = go e.verdict h
  where
    go : (o : Option Verdict) → (if is_some o then None else Some e.request) ≡ Some r →
        (if is_some o then pending_entries (suc n) es else (n, e.request) ∷ pending_entries (suc n) es)
        ≡ (n, r) ∷ pending_entries (suc n) es
    go None h = ap (λ (z : Request). (n, z) ∷ pending_entries (suc n) es) (some_inj h)
    go (Some v) h = absurd (no_some h)
pending_some (suc slot) n (e ∷ es) r h = pending_some slot n es r h

-- what is pending if it isn't
pub pending_none : (slot n : ℕ) (es : List SenderEntry) → pending_at es slot ≡ None →
    pending_entries n (drop slot es) ≡ pending_entries (suc n) (drop (suc slot) es)
pending_none slot n [] h =
    ap (pending_entries n) (drop_none slot [] (omega arith))
pending_none zero n (e ∷ es) h = go e.verdict h
  where
    go : (o : Option Verdict) → (if is_some o then None else Some e.request) ≡ None →
        (if is_some o then pending_entries (suc n) es else (n, e.request) ∷ pending_entries (suc n) es)
        ≡ pending_entries (suc n) es
    go None h = absurd (no_some (sym h))
    go (Some v) h = refl
pending_none (suc slot) n (e ∷ es) h = pending_none slot n es h

pub get_past : {X : Type 0} (x : X) (xs : List X) (n m : ℕ) → n ≡ suc m → slice_get (x ∷ xs) n ≡ slice_get xs m
get_past x xs n m e = ap (slice_get (x ∷ xs)) e

pub get_first : {X : Type 0} (x : X) (xs : List X) (n : ℕ) → n ≡ 0 → slice_get (x ∷ xs) n ≡ Some x
get_first x xs n e = ap (slice_get (x ∷ xs)) e

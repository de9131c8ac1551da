-- Sizes that were decided stay.
use Rattle.std.proofs.Common.{◌≡◌, ℕ, zero, suc, ◌+◌, ◌-◌, ◌%◌, ◌<◌, ◌≤◌, Bool, true, false, refl, sym, ◌∙◌, ap, subst, arith}
use Rattle.std.specs.Prelude.{Result, Ok, Err, Some, None, ◌∷◌, [], ◌&&◌, ◌||◌, not, nat_lt, ◌==◌, nat_le, if◌then◌else◌}
use Rattle.bw_model.specs.Bytes.{first_that_holds, unsaid, even_up}
use Rattle.bw_inspect.specs.declared.fault.InspectKind.TheVariants.{NoFmt, TooLarge}
use Rattle.bw_repair.specs.Decisions.{decided, ends_at_head, is_closed, is_form_kept, is_unsized, may_continue, refusal}
use Rattle.bw_repair.specs.Decisions.{size_of_data, size_of_form, with_decided, within}
use Rattle.bw_repair.specs.declared.fault.RepairKind.TheVariants.{Unread, NotLast, Overlap}
use Rattle.bw_repair.specs.declared.decision.Sizes.{Sizes}
use Rattle.bw_repair.specs.declared.fault.RepairFault.{RepairFault}
use Rattle.bw_repair.specs.declared.search.DataHead.{DataHead}

true_false : true ≡ false → ⊥
true_false e = cc

abbrev ok_sizes : ℕ → ℕ → Sizes
ok_sizes f d = record { form = f; «data» = d }

or_true : (a b c x : Bool) → c ≡ true → (a || b || (true && (c || x))) ≡ true
or_true a b c x e = grind (arith, e)

and_false : (a b c : Bool) → b ≡ false → (a && (b && c)) ≡ false
and_false a b c e = grind (arith, e)

-- sizes of which nothing refuses the samples' and the form's
passes : (c x y u z k m t : Bool) (f g h i j : RepairFault) (v : Sizes) → x ≡ false → y ≡ false → u ≡ false →
    k ≡ true → t ≡ false → ◌≡◌ {A = Result Sizes RepairFault}
    (elim (first_that_holds ((c && x, f) ∷ (c && y, g) ∷ (u && z, h) ∷ (not u && (not k && m), i) ∷ []))
    [ None ↦ if t then Err j else Ok v | Some q ↦ Err q ])
    (Ok v)
passes true false false false z true m false f g h i j v _ _ _ _ _ = refl
passes false false false false z true m false f g h i j v _ _ _ _ _ = refl
passes c true y u z k m t f g h i j v e _ _ _ _ = absurd (true_false e)
passes c x true u z k m t f g h i j v _ e _ _ _ = absurd (true_false e)
passes c x y true z k m t f g h i j v _ _ e _ _ = absurd (true_false e)
passes c x y u z false m t f g h i j v _ _ _ e _ = absurd (true_false (sym e))
passes c x y u z k m true f g h i j v _ _ _ _ e = absurd (true_false e)

-- or the samples' size was never given, and the form ends with their head
starts : (c x y u z w t : Bool) (f g h i j : RepairFault) (v : Sizes) → c ≡ false → u ≡ true → z ≡ false →
    t ≡ false → ◌≡◌ {A = Result Sizes RepairFault}
    (elim (first_that_holds ((c && x, f) ∷ (c && y, g) ∷ (u && z, h) ∷ (not u && w, i) ∷ []))
    [ None ↦ if t then Err j else Ok v | Some q ↦ Err q ])
    (Ok v)
starts false x y true false w false f g h i j v _ _ _ _ = refl
starts true x y u z w t f g h i j v e _ _ _ = absurd (true_false e)
starts c x y false z w t f g h i j v _ e _ _ = absurd (true_false (sym e))
starts c x y u true w t f g h i j v _ _ e _ = absurd (true_false e)
starts c x y u z w true f g h i j v _ _ _ e = absurd (true_false e)

or_false : (a b c x : Bool) → a ≡ false → b ≡ false → c ≡ false → (a || b || (c && x)) ≡ false
or_false a b c x p q r = grind (arith, p, q, r)

and_true : (a b x y : Bool) → a ≡ false → b ≡ true → y ≡ true → (not a && b && (x || y)) ≡ true
and_true a b x y p q r = grind (arith, p, q, r)

not_equal : (m n : ℕ) → m < n → (m == n) ≡ false
not_equal m n h = grind (arith, h)

some_bytes : (n : ℕ) → 0 < n → (n == 0) ≡ false
some_bytes n h = grind (arith, h)

not_less : (m n : ℕ) → n ≤ m → nat_lt m n ≡ false
not_less m n h = grind (arith, h)

less : (m n : ℕ) → m < n → nat_lt m n ≡ true
less m n h = grind (arith, h)

is_le : (m n : ℕ) → m ≤ n → nat_le m n ≡ true
is_le m n h = grind (arith, h)

not_le : (m n : ℕ) → n < m → nat_le m n ≡ false
not_le m n h = grind (arith, h)

sizes_are : (f g d k : ℕ) → f ≡ g → d ≡ k →
    ◌≡◌ {A = Sizes} (record { form = f; «data» = d }) (record { form = g; «data» = k })
sizes_are f g d k p q =
    ap (λ (x : ℕ). ok_sizes x d) p ∙ ap (λ (x : ℕ). ok_sizes g x) q

-- a form that ends with its samples
sized : (p a d r : ℕ) → 0 < d → d ≤ r → p + even_up d < unsaid →
    decided (record { place = p; align = a; form = p + even_up d; size = d; rest = r })
    ≡ Ok (record { form = p + even_up d; «data» = d })
sized p a d r low fits small =
    let h : DataHead = record { place = p; align = a; form = p + even_up d; size = d; rest = r } in
    let long : d ≤ even_up d = omega (arith) in
    let u : is_unsized h ≡ false =
    or_false (d == unsaid) (nat_lt r d) (d == 0) (ends_at_head h) (not_equal d unsaid (omega (arith, long, small)))
    (not_less r d fits) (some_bytes d low) in
    let k : is_form_kept h ≡ true =
    and_true (p + even_up d == unsaid) (nat_le (p + d) (p + even_up d)) (nat_le (p + even_up d) (p + r))
    (nat_lt (p + even_up d) (p + 8 + even_up d)) (not_equal (p + even_up d) unsaid small)
    (is_le (p + d) (p + even_up d) (omega (arith, long))) (less (p + even_up d) (p + 8 + even_up d) (omega (arith))) in
    let bytes : size_of_data h ≡ d = ap (λ (b : Bool). if b then r - r % a else d) u in
    let form : size_of_form h ≡ p + even_up d =
    ap (λ (b : Bool). if not b && is_form_kept h then h.form else p + even_up (if b then r - r % a else d)) u
    ∙ ap (λ (b : Bool). if b then h.form else p + even_up d) k in
    passes (is_closed h) (d == unsaid) (nat_lt (p + even_up d) (p + d)) (is_unsized h) (a == 0) (is_form_kept h)
    (may_continue h) (nat_le unsaid (size_of_form h)) (refusal h true NotLast).1 (refusal h true Overlap).1
    (refusal h true (Unread NoFmt)).1 (refusal h true NotLast).1 (refusal h true (Unread TooLarge)).1
    (ok_sizes (size_of_form h) (size_of_data h)) (not_equal d unsaid (omega (arith, long, small)))
    (not_less (p + even_up d) (p + d) (omega (arith, long))) u k
    (ap (λ (x : ℕ). nat_le unsaid x) form ∙ not_le unsaid (p + even_up d) small)
    ∙ ap (λ (x : Sizes). Ok x) (sizes_are (size_of_form h) (p + even_up d) (size_of_data h) d form bytes)

-- a form without samples, and with less than a frame after their head
empty : (p a r : ℕ) → (a == 0) ≡ false → r - r % a ≡ 0 → p < unsaid →
    decided (record { place = p; align = a; form = p; size = 0; rest = r }) ≡ Ok (record { form = p; «data» = 0 })
empty p a r aligned none small =
    let h : DataHead = record { place = p; align = a; form = p; size = 0; rest = r } in
    let u : is_unsized h ≡ true =
    or_true (0 == unsaid) (nat_lt r 0) (nat_le p p) (not (is_form_kept h) && not (may_continue h)) (is_le p p (omega (arith))) in
    let c : is_closed h ≡ false =
    and_false (not (p == unsaid)) (nat_lt p p) (nat_le p (p + r)) (not_less p p (omega (arith))) in
    let bytes : size_of_data h ≡ 0 = ap (λ (b : Bool). if b then r - r % a else 0) u ∙ none in
    let even : even_up (r - r % a) ≡ 0 = ap even_up none in
    let form : size_of_form h ≡ p =
    ap (λ (b : Bool). if not b && is_form_kept h then p else p + even_up (if b then r - r % a else 0)) u
    ∙ ap (λ (x : ℕ). p + x) even ∙ omega (arith) in
    starts (is_closed h) (0 == unsaid) (nat_lt p (p + 0)) (is_unsized h) (a == 0) (not (is_form_kept h) && may_continue h)
    (nat_le unsaid (size_of_form h)) (refusal h true NotLast).1 (refusal h true Overlap).1
    (refusal h true (Unread NoFmt)).1 (refusal h true NotLast).1 (refusal h true (Unread TooLarge)).1
    (ok_sizes (size_of_form h) (size_of_data h)) c u aligned
    (ap (λ (x : ℕ). nat_le unsaid x) form ∙ not_le unsaid p small)
    ∙ ap (λ (x : Sizes). Ok x) (sizes_are (size_of_form h) p (size_of_data h) 0 form bytes)

err_ok : {f : RepairFault} {s : Sizes} → ◌≡◌ {A = Result Sizes RepairFault} (Err f) (Ok s) → ⊥
err_ok e = cc

ok_is : {s t : Sizes} → ◌≡◌ {A = Result Sizes RepairFault} (Ok s) (Ok t) → s ≡ t
ok_is e = cc

-- nothing refuses the sizes that were decided
free : (a b c d : Bool) (f g h i : RepairFault) (w : Result Sizes RepairFault) (s : Sizes) →
    ◌≡◌ {A = Result Sizes RepairFault}
    (elim (first_that_holds ((a, f) ∷ (b, g) ∷ (c, h) ∷ (d, i) ∷ [])) [ None ↦ w | Some x ↦ Err x ]) (Ok s) →
    (c ≡ false) × (d ≡ false) × (w ≡ Ok s)
free true b c d f g h i w s e = absurd (err_ok e)
free false true c d f g h i w s e = absurd (err_ok e)
free false false true d f g h i w s e = absurd (err_ok e)
free false false false true f g h i w s e = absurd (err_ok e)
free false false false false f g h i w s e = (refl, refl, e)

-- and the form's size can be given
fitting : (t : Bool) (f : RepairFault) (x s : Sizes) →
    ◌≡◌ {A = Result Sizes RepairFault} (if t then Err f else Ok x) (Ok s) → (t ≡ false) × (s ≡ x)
fitting true f x s e = absurd (err_ok e)
fitting false f x s e = (refl, sym (ok_is e))

-- what two tests leave of a third
right : (a b : Bool) → a ≡ true → (a && b) ≡ false → b ≡ false
right true b t e = e
right false b t e = absurd (true_false (sym t))

last : (a b c : Bool) → a ≡ false → b ≡ false → (not a && (not b && c)) ≡ false → c ≡ false
last a b c p q e = grind (arith, p, q, e)

parts : (a b c : Bool) → (a || b || c) ≡ false → (b ≡ false) × (c ≡ false)
parts a b c e = (grind (arith, e), grind (arith, e))

some : (n : ℕ) (x k m : Bool) → k ≡ false → m ≡ false → ((n == 0) && (x || (not k && not m))) ≡ false → 0 < n
some n x k m p q e = grind (arith, p, q, e)

below : (x y n : ℕ) → x ≡ y → nat_le n x ≡ false → y < n
below x y n is e = grind (arith, is, e)

within_rest : (r n : ℕ) → nat_lt r n ≡ false → n ≤ r
within_rest r n e = grind (arith, e)

same : (s : Sizes) (f g d k : ℕ) → s ≡ record { form = f; «data» = d } → f ≡ g → d ≡ k →
    s ≡ record { form = g; «data» = k }
same s f g d k e p q =
    e ∙ sizes_are f g d k p q

Stays : DataHead → Sizes → Type 0
Stays h s = decided (with_decided h s) ≡ Ok s

unsized_stays : (h : DataHead) (d : ℕ) → h.rest - h.rest % h.align ≡ d → (h.align == 0) ≡ false →
    h.place + even_up d < unsaid → Stays h (record { form = h.place + even_up d; «data» = d })
unfolding Stays
unsized_stays h zero e a small =
    let form : h.place ≡ h.place + even_up 0 = omega (arith) in
    subst (λ (x : ℕ). Stays h (record { form = x; «data» = 0 })) form
    (empty h.place h.align h.rest a e (subst (λ (x : ℕ). x < unsaid) (sym form) small))
unsized_stays h (suc n) e a small =
    sized h.place h.align (suc n) h.rest (omega (arith)) (omega (arith, e)) small

pub settled : (h : DataHead) (s : Sizes) → decided h ≡ Ok s → decided (with_decided h s) ≡ Ok s
unfolding Stays
settled h s e = by_size (is_unsized h) refl
  where
    d : ℕ
    d = h.rest - h.rest % h.align

    tests : ((is_unsized h && h.align == 0) ≡ false)
        × ((not (is_unsized h) && (not (is_form_kept h) && may_continue h)) ≡ false) × (within h ≡ Ok s)
    tests =
        free (is_closed h && h.size == unsaid) (is_closed h && nat_lt h.form (h.place + h.size))
        (is_unsized h && h.align == 0) (not (is_unsized h) && (not (is_form_kept h) && may_continue h))
        (refusal h true NotLast).1 (refusal h true Overlap).1 (refusal h true (Unread NoFmt)).1
        (refusal h true NotLast).1 (within h) s e

    given : (nat_le unsaid (size_of_form h) ≡ false) × (s ≡ record { form = size_of_form h; «data» = size_of_data h })
    given =
        fitting (nat_le unsaid (size_of_form h)) (refusal h true (Unread TooLarge)).1
        (ok_sizes (size_of_form h) (size_of_data h)) s tests.2

    by_size : (u : Bool) → is_unsized h ≡ u → Stays h s
    by_size true u =
        let bytes : size_of_data h ≡ d = ap (λ (b : Bool). if b then d else h.size) u in
        let form : size_of_form h ≡ h.place + even_up d =
        ap (λ (b : Bool). if not b && is_form_kept h then h.form else h.place + even_up (if b then d else h.size)) u in
        let is = same s _ (h.place + even_up d) _ d given.1 form bytes in
        subst (λ (z : Sizes). Stays h z) (sym is)
        (unsized_stays h d refl (right (is_unsized h) (h.align == 0) u tests.0) (below _ _ unsaid form given.0))
    by_size false u = by_form (is_form_kept h) refl
      where
        bytes : size_of_data h ≡ h.size
        bytes = ap (λ (b : Bool). if b then d else h.size) u

        form_by : size_of_form h ≡ (if is_form_kept h then h.form else h.place + even_up h.size)
        form_by =
            ap (λ (b : Bool). if not b && is_form_kept h then h.form else h.place + even_up (if b then d else h.size)) u

        by_form : (k : Bool) → is_form_kept h ≡ k → Stays h s
        by_form true k =
            let form : size_of_form h ≡ h.form =
            form_by ∙ ap (λ (b : Bool). if b then h.form else h.place + even_up h.size) k in
            let is = same s _ h.form _ h.size given.1 form bytes in
            subst (λ (z : Sizes). Stays h z) (sym is) (e ∙ ap (λ (z : Sizes). Ok z) is)
        by_form false k =
            let form : size_of_form h ≡ h.place + even_up h.size =
            form_by ∙ ap (λ (b : Bool). if b then h.form else h.place + even_up h.size) k in
            let is = same s _ (h.place + even_up h.size) _ h.size given.1 form bytes in
            let m = last (is_unsized h) (is_form_kept h) (may_continue h) u k tests.1 in
            let left = parts (h.size == unsaid) (nat_lt h.rest h.size) (h.size == 0 && ends_at_head h) u in
            let low : 0 < h.size = some h.size (nat_le h.form h.place) (is_form_kept h) (may_continue h) k m left.1 in
            subst (λ (z : Sizes). Stays h z) (sym is)
            (sized h.place h.align h.size h.rest low (within_rest h.rest h.size left.0) (below _ _ unsaid form given.0))

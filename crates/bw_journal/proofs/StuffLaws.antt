-- Bytes are read back from a line.
use Rattle.std.proofs.Common.{◌≡◌, inl, inr, ℕ, zero, suc, ◌+◌, ◌-◌, ◌*◌, ◌<◌, ◌≤◌, Bool, true, false, cond, Some, None}
use Rattle.std.proofs.Common.{List, [], ◌∷◌, ◌++◌, length, take, drop, refl, sym, ap, ◌∙◌, append_assoc, subst, arith}
use Rattle.std.specs.Prelude.{◌==◌, nat_lt, nat_le, slice_set, slice_index}
use Rattle.std.proofs.lemmas.List.{append-nil, length-append, length-drop, take-set-le, drop-set, take-take}
use Rattle.std.proofs.lemmas.List.{take-append-drop, length-take-le}
use Rattle.std.proofs.lemmas.Bool.{ne_eqb, cases_lt, lt-ltb, le-ltb, le-leb, ltb-false, leb-true, eqb-true, and_from, and_parts}
use Rattle.bw_model.specs.Bytes.{is_within}
use Rattle.bw_model.proofs.Elements.{some_inj}
use Rattle.bw_journal.specs.Lines.{AreLineBytes, stuffed, plain_after, plain}

pub few : (b : ℕ) (bs : List ℕ) → b < 3 → stuffed (b ∷ bs) ≡ 1 ∷ (b + 3) ∷ stuffed bs
few b bs h = rw (lt-ltb b 3 h) refl

pub many : (b : ℕ) (bs : List ℕ) → 3 ≤ b → stuffed (b ∷ bs) ≡ b ∷ stuffed bs
many b bs h = rw (le-ltb b 3 h) refl

pub stuffed_clean : (bs : List ℕ) → AreLineBytes (stuffed bs)
stuffed_clean [] = tt
stuffed_clean (b ∷ bs) = elim (cases_lt b 3) [
  | inl h ↦ rw (few b bs h) (
    λ e. absurd (omega (arith, e)),
    λ e. absurd (omega (arith, e)),
    (λ e. absurd (omega (arith, e)), λ e. absurd (omega (arith, e)), stuffed_clean bs),
  )
  | inr h ↦ rw (many b bs h) (λ e. absurd (omega (arith, e, h)), λ e. absurd (omega (arith, e, h)), stuffed_clean bs)
]

-- a line has at most two bytes for each
pub stuffed_most : (bs : List ℕ) → (length bs ≤ length (stuffed bs)) × (length (stuffed bs) ≤ 2 * length bs)
stuffed_most [] = (omega arith, omega arith)
stuffed_most (b ∷ bs) =
    let more = stuffed_most bs in elim (cases_lt b 3) [
      | inl h ↦ rw (few b bs h) (omega (arith, more.0), omega (arith, more.1))
      | inr h ↦ rw (many b bs h) (omega (arith, more.0), omega (arith, more.1))
    ]

pub stuffed_append : (xs ys : List ℕ) → stuffed (xs ++ ys) ≡ stuffed xs ++ stuffed ys
stuffed_append [] ys = refl
stuffed_append (x ∷ xs) ys = elim (cases_lt x 3) [
  | inl h ↦ few x (xs ++ ys) h ∙ ap (λ (l : List ℕ). 1 ∷ (x + 3) ∷ l) (stuffed_append xs ys)
      ∙ ap (λ (l : List ℕ). l ++ stuffed ys) (sym (few x xs h))
  | inr h ↦ many x (xs ++ ys) h ∙ ap (λ (l : List ℕ). x ∷ l) (stuffed_append xs ys)
      ∙ ap (λ (l : List ℕ). l ++ stuffed ys) (sym (many x xs h))
]

-- one byte is read back
few_plain : (b : ℕ) (out bs : List ℕ) → b < 3 →
    plain_after false out (1 ∷ (b + 3) ∷ bs) ≡ plain_after false (out ++ b ∷ []) bs
few_plain b out bs h =
    let within : is_within 3 5 (b + 3) ≡ true =
    and_from (nat_le 3 (b + 3)) (nat_le (b + 3) 5) (le-leb 3 (b + 3) (omega arith)) (le-leb (b + 3) 5 (omega (arith, h))) in
    let same : (b + 3) - 3 ≡ b = omega arith in
    ap (λ (v : Bool). cond v (plain_after false (out ++ ((b + 3) - 3) ∷ []) bs) None) within
    ∙ ap (λ (n : ℕ). plain_after false (out ++ n ∷ []) bs) same

many_plain : (b : ℕ) (out bs : List ℕ) → 3 ≤ b → plain_after false out (b ∷ bs) ≡ plain_after false (out ++ b ∷ []) bs
many_plain b out bs h = rw (ne_eqb b 1 (λ e. absurd (omega (arith, e, h))), le-ltb b 3 h) refl

plain_again : (out bs : List ℕ) → plain_after false out (stuffed bs) ≡ Some (out ++ bs)
plain_again out [] = ap Some (sym (append-nil out))
plain_again out (b ∷ bs) = elim (cases_lt b 3) [
  | inl h ↦ ap (plain_after false out) (few b bs h) ∙ few_plain b out (stuffed bs) h ∙ plain_again (out ++ b ∷ []) bs
      ∙ ap Some (append_assoc out (b ∷ []) bs)
  | inr h ↦ ap (plain_after false out) (many b bs h) ∙ many_plain b out (stuffed bs) h ∙ plain_again (out ++ b ∷ []) bs
      ∙ ap Some (append_assoc out (b ∷ []) bs)
]

pub plain_stuffed : (bs : List ℕ) → plain (stuffed bs) ≡ Some bs
plain_stuffed bs = plain_again [] bs

none_some : {X : Type 0} {x : X} → None ≡ Some x → ⊥
none_some e = cc

-- these bytes, after a 1 or not
abbrev after : Bool → List ℕ → List ℕ
after true bs = 1 ∷ bs
after false bs = bs

-- and conversely
plain_from : (a : Bool) (out bs r : List ℕ) → plain_after a out bs ≡ Some r →
    (c : List ℕ) × (r ≡ out ++ c) × (stuffed c ≡ after a bs)
plain_from true out [] r e = absurd (none_some e)
plain_from false out [] r e = ([], sym (some_inj e) ∙ sym (append-nil out), refl)
plain_from true out (b ∷ bs) r e =
    go (is_within 3 5 b) refl (plain_from false (out ++ (b - 3) ∷ []) bs r) e
  where
    go : (v : Bool) → is_within 3 5 b ≡ v →
        (plain_after false (out ++ (b - 3) ∷ []) bs ≡ Some r →
        (c : List ℕ) × (r ≡ (out ++ (b - 3) ∷ []) ++ c) × (stuffed c ≡ bs)) →
        cond v (plain_after false (out ++ (b - 3) ∷ []) bs) None ≡ Some r →
        (c : List ℕ) × (r ≡ out ++ c) × (stuffed c ≡ 1 ∷ b ∷ bs)
    go false t below e = absurd (none_some e)
    go true t below e =
        let bounds = and_parts (nat_le 3 b) (nat_le b 5) t in
        let low = leb-true 3 b bounds.0 in
        let high = leb-true b 5 bounds.1 in
        let found = below e in
        let same : (b - 3) + 3 ≡ b = omega (arith, low) in (
          (b - 3) ∷ found.0,
          found.1 ∙ append_assoc out ((b - 3) ∷ []) found.0,
          few (b - 3) found.0 (omega (arith, low, high)) ∙ ap (λ (n : ℕ). 1 ∷ n ∷ stuffed found.0) same
              ∙ ap (λ (l : List ℕ). 1 ∷ b ∷ l) found.2,
        )
plain_from false out (b ∷ bs) r e =
    go (b == 1) refl (nat_lt b 3) refl (plain_from true out bs r) (plain_from false (out ++ b ∷ []) bs r) e
  where
    go : (v : Bool) → (b == 1) ≡ v → (w : Bool) → nat_lt b 3 ≡ w →
        (plain_after true out bs ≡ Some r → (c : List ℕ) × (r ≡ out ++ c) × (stuffed c ≡ 1 ∷ bs)) →
        (plain_after false (out ++ b ∷ []) bs ≡ Some r →
        (c : List ℕ) × (r ≡ (out ++ b ∷ []) ++ c) × (stuffed c ≡ bs)) →
        cond v (plain_after true out bs) (cond w None (plain_after false (out ++ b ∷ []) bs)) ≡ Some r →
        (c : List ℕ) × (r ≡ out ++ c) × (stuffed c ≡ b ∷ bs)
    go true t w u one other e =
        let found = one e in
        (found.0, found.1, found.2 ∙ ap (λ (n : ℕ). n ∷ bs) (sym (eqb-true b 1 t)))
    go false t true u one other e = absurd (none_some e)
    go false t false u one other e =
        let found = other e in (
          b ∷ found.0,
          found.1 ∙ append_assoc out (b ∷ []) found.0,
          many b found.0 (ltb-false b 3 u) ∙ ap (λ (l : List ℕ). b ∷ l) found.2,
        )

pub plain_stands : (line r : List ℕ) → plain line ≡ Some r → stuffed r ≡ line
plain_stands line r e =
    let found = plain_from false [] line r e in ap stuffed found.1 ∙ found.2

-- The last bytes of a line are in their places, those before place i of what it is made of still to
-- be put there.
pub record IsStuffedFrom (bytes now : List ℕ) (i place : ℕ) : Type 0 where
  pub within : i ≤ length bytes
  pub waits : take i now ≡ take i bytes
  pub done : drop place now ≡ stuffed (drop i bytes) ++ 2 ∷ []
  pub long : length now ≡ length (stuffed bytes) + 1
  pub at : place ≡ length (stuffed (take i bytes))

length-set : (xs : List ℕ) (i y : ℕ) → length (slice_set xs i y) ≡ length xs
length-set [] i y = refl
length-set (x ∷ xs) zero y = refl
length-set (x ∷ xs) (suc i) y = ap suc (length-set xs i y)

-- an element, before and after others
take_next : (n : ℕ) (xs : List ℕ) → n < length xs → take (suc n) xs ≡ take n xs ++ slice_index xs n ∷ []
take_next n [] e = absurd (omega (arith, e))
take_next zero (x ∷ xs) e = refl
take_next (suc n) (x ∷ xs) e = ap (λ (l : List ℕ). x ∷ l) (take_next n xs (omega (arith, e)))

drop_next : (n : ℕ) (xs : List ℕ) → n < length xs → drop n xs ≡ slice_index xs n ∷ drop (suc n) xs
drop_next n [] e = absurd (omega (arith, e))
drop_next zero (x ∷ xs) e = refl
drop_next (suc n) (x ∷ xs) e = drop_next n xs (omega (arith, e))

of_prefix : (k i : ℕ) (xs : List ℕ) → i < k → slice_index (take k xs) i ≡ slice_index xs i
of_prefix zero i xs h = absurd (omega (arith, h))
of_prefix (suc k) i [] h = refl
of_prefix (suc k) zero (x ∷ xs) h = refl
of_prefix (suc k) (suc i) (x ∷ xs) h = of_prefix k i xs (omega (arith, h))

take_none : (n : ℕ) (xs : List ℕ) → length xs ≤ n → drop n xs ≡ []
take_none zero [] h = refl
take_none zero (x ∷ xs) h = absurd (omega (arith, h))
take_none (suc n) [] h = refl
take_none (suc n) (x ∷ xs) h = take_none n xs (omega (arith, h))

-- the end alone
pub only_end : (xs : List ℕ) (len i place : ℕ) → len ≤ length xs → length xs ≡ length (stuffed (take len xs)) + 1 →
    i ≡ len → place ≡ length xs - 1 → IsStuffedFrom (take len xs) (slice_set xs place 2) i place
only_end xs len i place low long start last =
    let size : length (take len xs) ≡ len = length-take-le len xs low in
    let most = (stuffed_most (take len xs)).0 in
    record {
      within = omega (arith, size, start);
      waits = take-set-le i xs place 2 (omega (arith, size, most, start, last, long))
          ∙ ap (λ (n : ℕ). take n xs) start
          ∙ sym (ap (λ (n : ℕ). take n (take len xs)) start ∙ take-take len len xs (omega arith));
      done = drop-set xs place 2 (omega (arith, last, long))
          ∙ ap (λ (l : List ℕ). 2 ∷ l) (take_none (place + 1) xs (omega (arith, last, long)))
          ∙ ap (λ (l : List ℕ). stuffed l ++ 2 ∷ []) (sym (take_none i (take len xs) (omega (arith, size, start))));
      long = length-set xs place 2 ∙ long;
      at = omega (arith, last, long)
          ∙ ap (λ (l : List ℕ). length (stuffed l))
          (sym (ap (λ (n : ℕ). take n (take len xs)) start ∙ take-take len len xs (omega arith)));
    }

module _ (p now : List ℕ) (i place : ℕ) (h : IsStuffedFrom p now (suc i) place) where
  abbrev pub byte : ℕ
  byte = slice_index now i

  same : byte ≡ slice_index p i
  same =
      sym (of_prefix (suc i) i now (omega arith)) ∙ ap (λ (l : List ℕ). slice_index l i) h.waits
      ∙ of_prefix (suc i) i p (omega arith)

  place_is : place ≡ length (stuffed (take i p)) + length (stuffed (byte ∷ []))
  place_is =
      h.at ∙ ap (λ (l : List ℕ). length (stuffed l)) (take_next i p (omega (arith, h.within)))
      ∙ ap length (stuffed_append (take i p) (slice_index p i ∷ []))
      ∙ length-append (stuffed (take i p)) (stuffed (slice_index p i ∷ []))
      ∙ ap (λ (n : ℕ). length (stuffed (take i p)) + length (stuffed (n ∷ []))) (sym same)

  rest_is : drop i p ≡ byte ∷ drop (suc i) p
  rest_is = drop_next i p (omega (arith, h.within)) ∙ ap (λ (n : ℕ). n ∷ drop (suc i) p) (sym same)

  low : i ≤ length (stuffed (take i p))
  low = omega (arith, (stuffed_most (take i p)).0, length-take-le i p (omega (arith, h.within)))

  less : length (stuffed (take i p)) < length now
  less =
      let whole = ap length (stuffed_append (take i p) (drop i p)) ∙ length-append (stuffed (take i p)) (stuffed (drop i p)) in
      let all = ap (λ (l : List ℕ). length (stuffed l)) (take-append-drop i p) in
      omega (arith, h.long, whole, all)

  waiting : take i now ≡ take i p
  waiting =
      sym (take-take i (suc i) now (omega arith)) ∙ ap (take i) h.waits ∙ take-take i (suc i) p (omega arith)

  pub two_places : byte < 3 → place ≡ length (stuffed (take i p)) + 2
  two_places few_here = place_is ∙ ap (λ (l : List ℕ). length (stuffed (take i p)) + length l) (few byte [] few_here)

  pub one_place : 3 ≤ byte → place ≡ length (stuffed (take i p)) + 1
  one_place more = place_is ∙ ap (λ (l : List ℕ). length (stuffed (take i p)) + length l) (many byte [] more)

  two_set : (a b : ℕ) → byte < 3 → a ≡ place - 1 → b ≡ place - 2 →
      IsStuffedFrom p (slice_set (slice_set now a (byte + 3)) b 1) i b
  two_set a b few_here ea eb =
      let at = two_places few_here in
      let inner = slice_set now a (byte + 3) in
      let inner_long = length-set now a (byte + 3) in
      let whole : length (stuffed (take i p)) + 2 ≤ length now =
      omega (arith, at, h.long, ap length h.done, length-drop place now, length-append (stuffed (drop (suc i) p)) (2 ∷ [])) in
      record {
        within = omega (arith, h.within);
        waits = take-set-le i inner b 1 (omega (arith, at, eb, low)) ∙ take-set-le i now a (byte + 3) (omega (arith, at, ea, low))
            ∙ waiting;
        done = drop-set inner b 1 (omega (arith, at, eb, inner_long, whole))
            ∙ ap (λ (n : ℕ). 1 ∷ drop n inner) (let e : b + 1 ≡ a = omega (arith, at, ea, eb) in e)
            ∙ ap (λ (l : List ℕ). 1 ∷ l) (drop-set now a (byte + 3) (omega (arith, at, ea, whole)))
            ∙ ap (λ (n : ℕ). 1 ∷ (byte + 3) ∷ drop n now) (let e : a + 1 ≡ place = omega (arith, at, ea) in e)
            ∙ ap (λ (l : List ℕ). 1 ∷ (byte + 3) ∷ l) h.done
            ∙ ap (λ (l : List ℕ). l ++ 2 ∷ []) (sym (few byte (drop (suc i) p) few_here))
            ∙ ap (λ (l : List ℕ). stuffed l ++ 2 ∷ []) (sym rest_is);
        long = length-set inner b 1 ∙ inner_long ∙ h.long;
        at = omega (arith, at, eb);
      }

  one_set : (a : ℕ) → 3 ≤ byte → a ≡ place - 1 → IsStuffedFrom p (slice_set now a byte) i a
  one_set a more ea =
      let at = one_place more in
      let whole : length (stuffed (take i p)) + 1 ≤ length now = omega (arith, less) in
      record {
        within = omega (arith, h.within);
        waits = take-set-le i now a byte (omega (arith, at, ea, low)) ∙ waiting;
        done = drop-set now a byte (omega (arith, at, ea, whole))
            ∙ ap (λ (n : ℕ). byte ∷ drop n now) (let e : a + 1 ≡ place = omega (arith, at, ea) in e)
            ∙ ap (λ (l : List ℕ). byte ∷ l) h.done
            ∙ ap (λ (l : List ℕ). l ++ 2 ∷ []) (sym (many byte (drop (suc i) p) more))
            ∙ ap (λ (l : List ℕ). stuffed l ++ 2 ∷ []) (sym rest_is);
        long = length-set now a byte ∙ h.long;
        at = omega (arith, at, ea);
      }

  pub two_put : (a b : ℕ) (now' : List ℕ) (place' : ℕ) → byte < 3 → a ≡ place - 1 → b ≡ place - 2 →
      now' ≡ slice_set (slice_set now a (byte + 3)) b 1 → place' ≡ b → IsStuffedFrom p now' i place'
  two_put a b now' place' few_here ea eb is at =
      subst (λ (l : List ℕ). IsStuffedFrom p l i place') (sym is)
      (subst (λ (n : ℕ). IsStuffedFrom p (slice_set (slice_set now a (byte + 3)) b 1) i n) (sym at) (two_set a b few_here ea eb))

  pub one_put : (a : ℕ) (now' : List ℕ) (place' : ℕ) → 3 ≤ byte → a ≡ place - 1 → now' ≡ slice_set now a byte →
      place' ≡ a → IsStuffedFrom p now' i place'
  one_put a now' place' more ea is at =
      subst (λ (l : List ℕ). IsStuffedFrom p l i place') (sym is)
      (subst (λ (n : ℕ). IsStuffedFrom p (slice_set now a byte) i n) (sym at) (one_set a more ea))

-- all are put
pub all_put : (p now : List ℕ) (i place : ℕ) → i ≡ 0 → IsStuffedFrom p now i place → now ≡ stuffed p ++ 2 ∷ []
all_put p now i place none h =
    let at : place ≡ 0 = h.at ∙ ap (λ (n : ℕ). length (stuffed (take n p))) none in
    ap (λ (n : ℕ). drop n now) (sym at) ∙ h.done ∙ ap (λ (n : ℕ). stuffed (drop n p) ++ 2 ∷ []) none

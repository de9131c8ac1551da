-- A slot that is released, and one that is empty.
use Rattle.std.proofs.Common.{◌≡◌, ◌≢◌, ℕ, zero, suc, ◌+◌, ◌<◌, ◌≤◌, List, [], ◌∷◌, ◌++◌, get_or, inl, inr}
use Rattle.std.proofs.Common.{length, take, drop, Option, Some, None, Bool, true, false, refl, sym, ◌∙◌, ap, arith}
use Rattle.std.specs.Prelude.{slice_get, count_by, if◌then◌else◌, ◌==◌, ◌&&◌, nat_lt, is_none, is_some}
use Rattle.std.proofs.lemmas.List.{get_or-drop, length-take}
use Rattle.std.proofs.lemmas.Bool.{cases_lt}
use Rattle.std.proofs.lemmas.List.Sums.{count_by-le-length}
use Rattle.bw_model.specs.Bytes.{at, put, first_free}
use Rattle.bw_model.specs.Take.{Verdict, is_stored, Stored, NameTaken, AlreadyOpen, NotOpen, Closed}
use Rattle.bw_model.specs.Take.{BadFormat, BadBlock, BadMarker, DuplicateMarker, TooManyMarkers, BadField}
use Rattle.bw_model.specs.Take.{WrongTotal}
use Rattle.bw_model.specs.World.{Sender as Defined, settled, is_some_stored}
use Rattle.bw_sender.proofs.EntryLaws.{one_more_free, stored_more, first_free_len, put_within}
use Rattle.std.proofs.lemmas.List.{get_or-set_same, get_or-set_other}
use Rattle.std.proofs.lemmas.Bool.{cases_eq}
use Rattle.std.proofs.Common.{set}
use Rattle.bw_model.proofs.MapLemmas.{take-put, first_free-put, at-put_same, at-put_other}
use Rattle.bw_model.specs.Replies.{verdict_code}
use Rattle.std.proofs.Math.Bool.{and-false}
use Rattle.std.proofs.Math.Seq.{take-append_seam}
use Rattle.std.proofs.lemmas.Bool.{le-ltb, lt-ltb, ltb-true, ne_eqb}
use Rattle.std.specs.Str.{bytes_eq}
use Rattle.bw_sender.proofs.SenderLaws.{settled_some}
use Rattle.bw_c.specs.PlainSenders.{slot_of, sender_name, PlainFrom, IsPlainSender, lacks_verdict}
use Rattle.bw_c.specs.declared.sender.BwiSender.{BwiSender}

no_some : {X : Type 0} {x : X} → None ≡ Some x → ⊥
no_some e = cc

pub padded : (ys : List ℕ) (i : ℕ) → get_or (ys ++ 0 ∷ []) i 0 ≡ get_or ys i 0
padded [] zero = refl
padded [] (suc i) = refl
padded (y ∷ ys) zero = refl
padded (y ∷ ys) (suc i) = padded ys i

pub get_or_past : (xs : List ℕ) (n : ℕ) → length xs ≤ n → get_or xs n 0 ≡ 0
get_or_past [] n h = refl
get_or_past (x ∷ xs) zero h = absurd (omega (arith, h))
get_or_past (x ∷ xs) (suc n) h = get_or_past xs n (omega (arith, h))

pub shifted_at : (xs : List ℕ) (i : ℕ) → get_or (drop 1 xs ++ 0 ∷ []) i 0 ≡ get_or xs (i + 1) 0
shifted_at xs i = padded (drop 1 xs) i ∙ get_or-drop 1 xs i 0 ∙ ap (λ (n : ℕ). get_or xs n 0) (omega arith)

pub at_get : {X : Type 0} (vs : List (Option X)) (k : ℕ) (v : X) → at vs k ≡ Some v → slice_get vs k ≡ Some (Some v)
at_get [] k v e = absurd (no_some e)
at_get (y ∷ ys) zero v e = ap Some e
at_get (y ∷ ys) (suc k) v e = at_get ys k v e

pub at_past : {X : Type 0} (vs : List (Option X)) (n : ℕ) → length vs ≤ n → at vs n ≡ None
at_past [] n h = refl
at_past (y ∷ ys) zero h = absurd (omega (arith, h))
at_past (y ∷ ys) (suc n) h = at_past ys n (omega (arith, h))

pub free_at : {X : Type 0} (vs : List (Option X)) (k : ℕ) → k ≤ first_free vs → at vs k ≡ None → k ≡ first_free vs
free_at [] k h e = omega (arith, h)
free_at (None ∷ vs) k h e = omega (arith, h)
free_at (Some v ∷ vs) zero h e = absurd (no_some (sym e))
free_at (Some v ∷ vs) (suc k) h e = ap suc (free_at vs k (omega (arith, h)) e)

pub empty_slot : (o : Option Verdict) → slot_of o ≡ 0 → o ≡ None
empty_slot None e = refl
empty_slot (Some v) e = absurd (omega (arith, e))

pub full_slot : (o : Option Verdict) → slot_of o ≢ 0 → (v : Verdict) × (o ≡ Some v)
full_slot None h = absurd (h refl)
full_slot (Some v) h = (v, refl)

pub stored_code : (v : Verdict) → ◌≡◌ {A = ℕ} (if slot_of (Some v) == 1 then 1 else 0) (if is_stored v then 1 else 0)
stored_code Stored = refl
stored_code NameTaken = refl
stored_code AlreadyOpen = refl
stored_code NotOpen = refl
stored_code Closed = refl
stored_code BadFormat = refl
stored_code BadBlock = refl
stored_code BadMarker = refl
stored_code DuplicateMarker = refl
stored_code TooManyMarkers = refl
stored_code BadField = refl
stored_code WrongTotal = refl

-- nothing is in the first slot
pub none_left : (k : ℕ) (s : Defined) (x : BwiSender) → PlainFrom k s x → get_or x.verdicts 0 0 ≡ 0 → k ≡ settled s
none_left k s x f e =
    free_at s.verdicts k f.prefix
    (empty_slot (at s.verdicts k) (ap (λ (n : ℕ). slot_of (at s.verdicts n)) (omega arith) ∙ sym (f.slots 0 (omega arith)) ∙ e))

-- as many are settled as there can be
pub spent : (k : ℕ) (s : Defined) (x : BwiSender) → PlainFrom k s x → x.offered ≤ x.settled → k ≡ settled s
spent k s x f h =
    let free = first_free_len s.verdicts in
    omega (arith, free, f.prefix, f.within, f.offered, f.settled, h)

pub stored_few : (k : ℕ) (s : Defined) (x : BwiSender) → PlainFrom k s x → x.stored ≤ x.settled
stored_few k s x f =
    let some = count_by-le-length is_some_stored (take k s.verdicts) in
    let free = first_free_len s.verdicts in
    let long = length-take k s.verdicts in
    omega (arith, some, free, long, f.stored, f.settled, f.prefix)

-- the first slot is released
pub settles_one : (k : ℕ) (s : Defined) (x y : BwiSender) → PlainFrom k s x → get_or x.verdicts 0 0 ≢ 0 →
    y.name ≡ x.name → y.name_len ≡ x.name_len → y.offered ≡ x.offered → y.settled ≡ x.settled + 1 →
    y.stored ≡ x.stored + (if get_or x.verdicts 0 0 == 1 then 1 else 0) →
    ((i : ℕ) → i < 16 → get_or y.verdicts i 0 ≡ get_or x.verdicts (i + 1) 0) → length x.verdicts ≡ 16 → PlainFrom (suc k) s y
settles_one k s x y f full name name_len offered settled stored slots long =
    let first : get_or x.verdicts 0 0 ≡ slot_of (at s.verdicts k) =
    f.slots 0 (omega arith) ∙ ap (λ (n : ℕ). slot_of (at s.verdicts n)) (omega arith) in
    let some = full_slot (at s.verdicts k) (λ e. full (first ∙ e)) in
    let v = some.0 in
    let there = at_get s.verdicts k v some.1 in
    record {
      name = ap (λ (n : ℕ). take n y.name) name_len ∙ ap (take x.name_len) name ∙ f.name;
      offered = offered ∙ f.offered;
      within = f.within;
      few = let h = f.few in omega (arith, h);
      prefix = one_more_free s.verdicts k v f.prefix there;
      settled = let a = settled in let b = f.settled in omega (arith, a, b);
      slots = slots_after;
      stored = stored ∙ ap (λ (n : ℕ). n + (if get_or x.verdicts 0 0 == 1 then 1 else 0)) f.stored
          ∙ ap (λ (n : ℕ). count_by is_some_stored (take k s.verdicts) + (if n == 1 then 1 else 0)) (first ∙ ap slot_of some.1)
          ∙ ap (λ (n : ℕ). count_by is_some_stored (take k s.verdicts) + n) (stored_code v)
          ∙ sym (stored_more s.verdicts k v there);
    }
  where
    slots_after : (i : ℕ) → i < 16 → get_or y.verdicts i 0 ≡ slot_of (at s.verdicts (suc k + i))
    slots_after i h = slots i h ∙ elim (cases_lt (i + 1) 16) [
      | inl b ↦ f.slots (i + 1) b ∙ ap (λ (n : ℕ). slot_of (at s.verdicts n)) (omega arith)
      | inr b ↦ get_or_past x.verdicts (i + 1) (omega (arith, b, long))
          ∙ sym (ap slot_of (at_past s.verdicts (suc k + i) (let w = f.within in let g = f.few in omega (arith, w, g, b))))
    ]

-- a slot is judged
pub judges : (k : ℕ) (s : Defined) (x y : BwiSender) (n slot : ℕ) (v : Verdict) → PlainFrom k s x → n < length s.offered →
    k + slot ≡ n → slot < 16 → at s.verdicts n ≡ None → length x.verdicts ≡ 16 →
    y.name ≡ x.name → y.name_len ≡ x.name_len → y.offered ≡ x.offered → y.settled ≡ x.settled → y.stored ≡ x.stored →
    y.verdicts ≡ set x.verdicts slot (verdict_code v + 1) → PlainFrom k (record s { verdicts = put s.verdicts n v }) y
judges k s x y n slot v f below place room none long name name_len offered settled stored slots = record {
  name = ap (λ (m : ℕ). take m y.name) name_len ∙ ap (take x.name_len) name ∙ f.name;
  offered = offered ∙ f.offered;
  within = put_within s.verdicts n (length s.offered) v f.within below;
  few = f.few;
  prefix = let h = f.prefix in let g = first_free-put s.verdicts n v none in omega (arith, h, g);
  settled = settled ∙ f.settled;
  slots = λ i h. ap (λ (vs : List ℕ). get_or vs i 0) slots ∙ elim (cases_eq i slot) [
    | inl e ↦ ap (λ (j : ℕ). get_or (set x.verdicts slot (verdict_code v + 1)) j 0) e
        ∙ get_or-set_same x.verdicts slot (verdict_code v + 1) 0 (omega (arith, room, long))
        ∙ (let one : verdict_code v + 1 ≡ suc (verdict_code v) = omega arith in one)
        ∙ sym (ap slot_of (ap (at (put s.verdicts n v)) (let w : k + i ≡ n = omega (arith, e, place) in w)
        ∙ at-put_same s.verdicts n v))
    | inr e ↦ get_or-set_other x.verdicts slot i (verdict_code v + 1) 0 e ∙ f.slots i h
        ∙ sym (ap slot_of (at-put_other s.verdicts n (k + i) v (λ w. e (omega (arith, w, place)))))
  ];
  stored = stored ∙ f.stored
      ∙ sym (ap (count_by is_some_stored) (take-put s.verdicts n k v (omega (arith, place))
      (let h = f.prefix in let g = first_free_len s.verdicts in omega (arith, h, g))));
}

-- the number is settled
pub not_pending_before : (s : Defined) (x : BwiSender) (n : ℕ) → IsPlainSender s x → n < x.settled → lacks_verdict s n ≡ false
not_pending_before s x n f below =
    let some = settled_some s n (omega (arith, f.settled, below)) in
    ap (λ (b : Bool). nat_lt n (length s.offered) && b) (not_none (at s.verdicts n) some)
    ∙ and-false (nat_lt n (length s.offered))
  where
    not_none : (o : Option Verdict) → is_some o ≡ true → is_none o ≡ false
    not_none None e = absurd (cc)
    not_none (Some x) e = refl

-- the number wasn't offered
pub not_pending_past : (s : Defined) (x : BwiSender) (n : ℕ) → IsPlainSender s x → x.offered ≤ n → lacks_verdict s n ≡ false
not_pending_past s x n f past =
    ap (λ (b : Bool). b && is_none (at s.verdicts n)) (le-ltb n (length s.offered) (omega (arith, f.offered, past)))

-- a slot is free exactly if its number has no verdict
pub pending_slot : (s : Defined) (x : BwiSender) (n slot : ℕ) → IsPlainSender s x → n < x.offered → x.settled + slot ≡ n →
    slot < 16 → (get_or x.verdicts slot 0 == 0) ≡ lacks_verdict s n
pending_slot s x n slot f below place room =
    ap (λ (m : ℕ). m == 0) (f.slots slot room
    ∙ ap (λ (m : ℕ). slot_of (at s.verdicts m)) (let e : settled s + slot ≡ n = omega (arith, f.settled, place) in e))
    ∙ free (at s.verdicts n)
    ∙ sym (ap (λ (b : Bool). b && is_none (at s.verdicts n)) (lt-ltb n (length s.offered) (omega (arith, f.offered, below))))
  where
    free : (o : Option Verdict) → (slot_of o == 0) ≡ is_none o
    free None = refl
    free (Some v) = ne_eqb (suc (verdict_code v)) 0 (omega arith)

-- a slot of a sender whose requests are all settled
pub begun_slot : (s : Defined) (i : ℕ) → length s.verdicts ≤ settled s + i →
    0 ≡ slot_of (at s.verdicts (settled s + i))
begun_slot s i past = sym (ap slot_of (at_past s.verdicts (settled s + i) past))

and_right : (a b : Bool) → (a && b) ≡ true → b ≡ true
and_right true b e = e
and_right false b e = absurd (cc)

-- the number was offered
pub own_number : (s : Defined) (x : BwiSender) (name : List ℕ) (n : ℕ) → IsPlainSender s x →
    (bytes_eq name (sender_name x) && nat_lt n x.offered) ≡ true →
    ((bytes_eq name s.name && nat_lt n (length s.offered)) ≡ true) × (n < length s.offered)
own_number s x name n f own = (reported, ltb-true n (length s.offered) (and_right _ _ reported))
  where
    reported : (bytes_eq name s.name && nat_lt n (length s.offered)) ≡ true
    reported = ap (λ (y : List ℕ). bytes_eq name y && nat_lt n (length s.offered)) (sym f.name)
        ∙ ap (λ (m : ℕ). bytes_eq name (sender_name x) && nat_lt n m) (sym f.offered) ∙ own

-- a slot that isn't free has its number's verdict
pub slot_some : (s : Defined) (x : BwiSender) (n slot : ℕ) → IsPlainSender s x → x.settled + slot ≡ n → slot < 16 →
    get_or x.verdicts slot 0 ≢ 0 → is_some (at s.verdicts n) ≡ true
slot_some s x n slot f place room full =
    let there : get_or x.verdicts slot 0 ≡ slot_of (at s.verdicts n) = f.slots slot room
    ∙ ap (λ (m : ℕ). slot_of (at s.verdicts m)) (let e : settled s + slot ≡ n = omega (arith, f.settled, place) in e) in
    let some = full_slot (at s.verdicts n) (λ e. full (there ∙ e)) in
    ap is_some some.1

-- a free slot has none
pub slot_none : (s : Defined) (x : BwiSender) (n slot : ℕ) → IsPlainSender s x → x.settled + slot ≡ n → slot < 16 →
    get_or x.verdicts slot 0 ≡ 0 → at s.verdicts n ≡ None
slot_none s x n slot f place room free =
    empty_slot (at s.verdicts n)
    (ap (λ (m : ℕ). slot_of (at s.verdicts m)) (let e : n ≡ settled s + slot = omega (arith, f.settled, place) in e)
    ∙ sym (f.slots slot room) ∙ free)

pub by_slot : {a b : ℕ} → a ≡ b → ◌≡◌ {A = ℕ} (if a == 1 then 1 else 0) (if b == 1 then 1 else 0)
by_slot e = ap (λ (n : ℕ). if n == 1 then 1 else 0) e

-- a name at the start of more bytes
pub padded_name : (x name rest : List ℕ) → x ≡ name → take (length name) (x ++ rest) ≡ name
padded_name x name rest e =
    ap (λ (m : ℕ). take m (x ++ rest)) (ap (length {A = ℕ}) (sym e)) ∙ take-append_seam x rest ∙ e

-- What a sender keeps of what was offered and heard, step by step.
use Rattle.std.proofs.Common.{◌≡◌, ℕ, suc, ◌+◌, ◌<◌, ◌≤◌, Bool, true, false, ◌&&◌, ◌||◌, List, [], ◌∷◌, ◌++◌}
use Rattle.std.proofs.Common.{length, take, drop, Option, Some, None, refl, sym, ◌∙◌, ap, subst, arith, not}
use Rattle.std.proofs.Math.Bool.{or-false, and-false, and-true}
use Rattle.std.proofs.lemmas.Bool.{ltb-true}
use Rattle.std.specs.Prelude.{slice_get, count_by, if◌then◌else◌, is_some, is_none, option_and_then, nat_lt, nat_le}
use Rattle.std.specs.Prelude.{◌==◌}
use Rattle.std.specs.List.{list_any}
use Rattle.std.specs.Str.{bytes_eq}
use Rattle.std.proofs.lemmas.List.{length-drop, length-append, append-nil, drop-append-le, take-append-le}
use Rattle.bw_model.specs.Bytes.{at, put}
use Rattle.bw_model.specs.Take.{Request, Verdict, is_stored}
use Rattle.bw_model.specs.Wire.{Second, last_number}
use Rattle.bw_model.specs.Turn.{window}
use Rattle.bw_model.specs.Replies.{Judged}
use Rattle.bw_model.specs.World.{Sender as Defined, settled, is_some_stored, refused_from, pending_from}
use Rattle.bw_model.specs.World.{has_closed_from}
use Rattle.bw_model.specs.World.{is_open, is_close, is_counted, hear, heard, Counted, Known, Stranger}
use Rattle.bw_model.specs.World.{OfferFault, NumbersSpent, BeforeOpen, AfterClose, WindowFull, offer_fault, offer}
use Rattle.bw_model.proofs.MapLemmas.{take-put, first_free-put, at-first_free}
use Rattle.bw_sender.specs.Entries.{SenderEntry, unjudged, entries, judged, is_judged_at, closes, pending_entries}
use Rattle.bw_sender.specs.Senders.{KeepsFrom, IsSender}
use Rattle.bw_sender.specs.declared.sender.Sender.{Sender}
use Rattle.bw_sender.proofs.EntryLaws.{length_entries, first_free_len, refused_prefix, get_dropped, drop_one_more}
use Rattle.bw_sender.proofs.EntryLaws.{pending_in, pending_after, judged_prefix, one_more_free, not_judged}
use Rattle.bw_sender.proofs.EntryLaws.{stored_more, refused_more, closed_more, closed_in, entries_more}
use Rattle.bw_sender.proofs.EntryLaws.{judged_at, judged_put, judged_drop, put_within}

-- those settled and those in the window are all
pub counted : (k : ℕ) (s : Defined) (x : Sender) → KeepsFrom k s x → k + length x.window ≡ x.offered
counted k s x f =
    let all = length_entries s.offered s.verdicts in
    let left = ap length f.window ∙ length-drop k (entries s.offered s.verdicts) in
    let free = first_free_len s.verdicts in
    omega (arith, all, left, free, f.prefix, f.within, f.offered)

pub number_is : (k n : ℕ) (s : Defined) (x : Sender) → KeepsFrom k s x → n + length x.window ≡ x.offered → n ≡ k
number_is k n s x f e = let c = counted k s x f in omega (arith, c, e)

pub refused_reported : (s : Defined) (x : Sender) → IsSender s x → x.refused.numbers ≡ refused_from 0 s.verdicts
refused_reported s x f = f.refused ∙ refused_prefix 0 s.verdicts

-- the first of the window is released with its verdict
pub settles_one : (k : ℕ) (s : Defined) (x y : Sender) (r : Request) (v : Verdict) → KeepsFrom k s x →
    slice_get x.window 0 ≡ Some (record { request = r; verdict = Some v }) →
    y.name ≡ x.name → y.offered ≡ x.offered → y.window ≡ drop 1 x.window →
    y.stored ≡ x.stored + (if is_stored v then 1 else 0) →
    y.refused.numbers ≡ x.refused.numbers ++ (if is_stored v then [] else (k, v) ∷ []) →
    y.closed ≡ (x.closed || (is_close r && is_stored v)) → KeepsFrom (suc k) s y
settles_one k s x y r v f prefix name offered window stored refused closed =
    let there : slice_get (entries s.offered s.verdicts) k ≡ Some (record { request = r; verdict = Some v }) =
    ap (slice_get (entries s.offered s.verdicts)) (omega arith)
    ∙ sym (get_dropped k 0 (entries s.offered s.verdicts))
    ∙ ap (λ (w : List SenderEntry). slice_get w 0) (sym f.window) ∙ prefix in
    let reported = judged_prefix s.offered s.verdicts k r v there in
    record {
      name = name ∙ f.name;
      offered = offered ∙ f.offered;
      within = f.within;
      prefix = one_more_free s.verdicts k v f.prefix reported.1;
      window = window ∙ ap (drop 1) f.window ∙ drop_one_more k (entries s.offered s.verdicts);
      stored = stored ∙ ap (λ (n : ℕ). n + (if is_stored v then 1 else 0)) f.stored
          ∙ sym (stored_more s.verdicts k v reported.1);
      refused = refused ∙ ap (λ (xs : List (ℕ × Verdict)). xs ++ (if is_stored v then [] else (k, v) ∷ [])) f.refused
          ∙ sym (refused_more 0 s.verdicts k v f.prefix reported.1
          ∙ ap (λ (m : ℕ). refused_from 0 (take k s.verdicts) ++ (if is_stored v then [] else (m, v) ∷ []))
          (omega arith));
      closed = closed ∙ ap (λ (b : Bool). b || (is_close r && is_stored v)) f.closed
          ∙ sym (closed_more s.offered s.verdicts k r v reported.0 reported.1);
    }

-- the first of the window has no verdict, or there is none
pub all_settled : (k : ℕ) (s : Defined) (x : Sender) → KeepsFrom k s x → is_judged_at x.window 0 ≡ false → k ≡ settled s
all_settled k s x f none =
    not_judged s.offered s.verdicts k f.within f.prefix
    (ap (λ (o : Option SenderEntry). is_some (option_and_then (λ (e : SenderEntry). e.verdict) o))
    (ap (slice_get (entries s.offered s.verdicts)) (omega arith)
    ∙ sym (get_dropped k 0 (entries s.offered s.verdicts))
    ∙ ap (λ (w : List SenderEntry). slice_get w 0) (sym f.window)) ∙ none)

-- a verdict Stored
pub settles_stored : (k : ℕ) (s : Defined) (x y : Sender) (r : Request) (v : Verdict) → KeepsFrom k s x →
    slice_get x.window 0 ≡ Some (record { request = r; verdict = Some v }) → is_stored v ≡ true →
    y.name ≡ x.name → y.offered ≡ x.offered → y.window ≡ drop 1 x.window → y.stored ≡ x.stored + 1 →
    y.refused.numbers ≡ x.refused.numbers → y.closed ≡ (x.closed || is_close r) → KeepsFrom (suc k) s y
settles_stored k s x y r v f prefix is name offered window stored refused closed =
    settles_one k s x y r v f prefix name offered window
    (stored ∙ ap (λ (b : Bool). x.stored + (if b then 1 else 0)) (sym is))
    (refused ∙ sym (append-nil (x.refused.numbers))
    ∙ ap (λ (b : Bool). x.refused.numbers ++ (if b then [] else (k, v) ∷ [])) (sym is))
    (closed ∙ ap (λ (b : Bool). x.closed || b) (sym (and-true (is_close r))
    ∙ ap (λ (b : Bool). is_close r && b) (sym is)))

-- any other verdict
pub settles_refused : (k : ℕ) (s : Defined) (x y : Sender) (r : Request) (v : Verdict) → KeepsFrom k s x →
    slice_get x.window 0 ≡ Some (record { request = r; verdict = Some v }) → is_stored v ≡ false →
    y.name ≡ x.name → y.offered ≡ x.offered → y.window ≡ drop 1 x.window → y.stored ≡ x.stored →
    y.refused.numbers ≡ x.refused.numbers ++ (k, v) ∷ [] →
    y.closed ≡ x.closed → KeepsFrom (suc k) s y
settles_refused k s x y r v f prefix is name offered window stored refused closed =
    settles_one k s x y r v f prefix name offered window
    (stored ∙ sym (add_zero x.stored) ∙ ap (λ (b : Bool). x.stored + (if b then 1 else 0)) (sym is))
    (refused ∙ ap (λ (b : Bool). x.refused.numbers ++ (if b then [] else (k, v) ∷ [])) (sym is))
    (closed ∙ sym (or-false x.closed) ∙ ap (λ (b : Bool). x.closed || b) (sym (and-false (is_close r))
    ∙ ap (λ (b : Bool). is_close r && b) (sym is)))
  where
    add_zero : (n : ℕ) → n + 0 ≡ n
    add_zero n = omega arith

-- what the window has pending is all that is
pub pending_reported : (s : Defined) (x : Sender) (n : ℕ) → IsSender s x → n + length x.window ≡ x.offered →
    pending_entries n x.window ≡ pending_from 0 s.offered s.verdicts
pending_reported s x n f all =
    let same = number_is (settled s) n s x f all in
    let none : 0 + settled s ≡ settled s = omega arith in
    ap (λ (m : ℕ). pending_entries m x.window) same ∙ ap (pending_entries (settled s)) f.window
    ∙ sym (pending_in 0 s.offered s.verdicts ∙ pending_after (settled s) 0 s.offered s.verdicts f.prefix f.within
    ∙ ap (λ (m : ℕ). pending_entries m (drop (settled s) (entries s.offered s.verdicts))) none)

-- Offers.

pub closed_reported : (s : Defined) (x : Sender) → IsSender s x →
    has_closed_from s.offered s.verdicts ≡ (x.closed || list_any closes x.window)
closed_reported s x f =
    closed_in s.offered s.verdicts (settled s) (first_free_len s.verdicts) f.within
    ∙ ap (λ (b : Bool). b || list_any closes (drop (settled s) (entries s.offered s.verdicts))) (sym f.closed)
    ∙ ap (λ (w : List SenderEntry). x.closed || list_any closes w) (sym f.window)

-- the last cause is what is left if the others don't hold
pub last_fault : (s : Defined) (r : Request) (full : Bool) → nat_lt (last_number Second) (length s.offered) ≡ false →
    ((length s.offered == 0) && not (is_open r)) ≡ false → has_closed_from s.offered s.verdicts ≡ false →
    nat_le (settled s + window) (length s.offered) ≡ full → offer_fault s r ≡ (if full then Some WindowFull else None)
last_fault s r full spent early closed at_end =
    ap (λ (b : Bool). if b then Some NumbersSpent
    else if (length s.offered == 0) && not (is_open r) then Some BeforeOpen
    else if has_closed_from s.offered s.verdicts then Some AfterClose
    else if nat_le (settled s + window) (length s.offered) then Some WindowFull else None) spent
    ∙ ap (λ (b : Bool). if b then Some BeforeOpen
    else if has_closed_from s.offered s.verdicts then Some AfterClose
    else if nat_le (settled s + window) (length s.offered) then Some WindowFull else None) early
    ∙ ap (λ (b : Bool). if b then Some AfterClose
    else if nat_le (settled s + window) (length s.offered) then Some WindowFull else None) closed
    ∙ ap (λ (b : Bool). if b then Some WindowFull else None) at_end

-- one more request comes after the others
pub offers_one : (s : Defined) (x y : Sender) (r : Request) → IsSender s x → offer_fault s r ≡ None →
    y.name ≡ x.name → y.offered ≡ x.offered + 1 → y.window ≡ x.window ++ unjudged r ∷ [] → y.stored ≡ x.stored →
    y.refused.numbers ≡ x.refused.numbers → y.closed ≡ x.closed → IsSender (offer s r) y
offers_one s x y r f fault name offered window stored refused closed =
    subst (λ (o : Option OfferFault). IsSender (if is_none o then record s { offered = s.offered ++ r ∷ [] } else s) y)
    (sym fault) (record {
      name = name ∙ f.name;
      offered = offered ∙ ap (λ (n : ℕ). n + 1) f.offered ∙ sym len;
      within = omega (arith, f.within, len);
      prefix = f.prefix;
      window = window ∙ ap (λ (w : List SenderEntry). w ++ unjudged r ∷ []) f.window
          ∙ sym (ap (drop (settled s)) (entries_more s.offered s.verdicts r f.within)
          ∙ drop-append-le (settled s) (entries s.offered s.verdicts) (unjudged r ∷ []) (omega (arith, below, all)));
      stored = stored ∙ f.stored;
      refused = refused ∙ f.refused;
      closed = closed ∙ f.closed
          ∙ ap (λ (rs : List Request). has_closed_from rs (take (settled s) s.verdicts))
          (sym (take-append-le (settled s) s.offered (r ∷ []) below));
    })
  where
    len : length (s.offered ++ r ∷ []) ≡ length s.offered + 1
    len = length-append s.offered (r ∷ [])

    all : length (entries s.offered s.verdicts) ≡ length s.offered
    all = length_entries s.offered s.verdicts

    below : settled s ≤ length s.offered
    below = let free = first_free_len s.verdicts in omega (arith, free, f.within)

-- Verdicts.

-- an offered number with a verdict is known
pub known_heard : (s : Defined) (name : List ℕ) (n : ℕ) (v : Verdict) →
    (bytes_eq name s.name && nat_lt n (length s.offered)) ≡ true → is_some (at s.verdicts n) ≡ true →
    (heard s (Judged name n v) ≡ Known) × (hear s (Judged name n v) ≡ s)
known_heard s name n v own some = (
  ap (λ (b : Bool). if b then Counted
      else if bytes_eq name s.name && nat_lt n (length s.offered) then Known else Stranger) uncounted
      ∙ ap (λ (b : Bool). if b then Known else Stranger) own,
  ap (λ (b : Bool). if b then record s { verdicts = put s.verdicts n v } else s) uncounted,
)
  where
    not_none : (o : Option Verdict) → is_some o ≡ true → is_none o ≡ false
    not_none None e = absurd (cc)
    not_none (Some x) e = refl

    uncounted : is_counted s name n ≡ false
    uncounted = ap (λ (b : Bool). b && is_none (at s.verdicts n)) own ∙ not_none (at s.verdicts n) some

-- the first verdict of an offered number is counted
pub counted_heard : (s : Defined) (name : List ℕ) (n : ℕ) (v : Verdict) →
    (bytes_eq name s.name && nat_lt n (length s.offered)) ≡ true → at s.verdicts n ≡ None →
    (heard s (Judged name n v) ≡ Counted)
    × (hear s (Judged name n v) ≡ record s { verdicts = put s.verdicts n v })
counted_heard s name n v own none = (
  ap (λ (b : Bool). if b then Counted
      else if bytes_eq name s.name && nat_lt n (length s.offered) then Known else Stranger) first,
  ap (λ (b : Bool). if b then record s { verdicts = put s.verdicts n v } else s) first,
)
  where
    first : is_counted s name n ≡ true
    first = ap (λ (b : Bool). b && is_none (at s.verdicts n)) own ∙ ap is_none none

-- it is in the window until it is settled
pub judges_one : (s : Defined) (x y : Sender) (n slot : ℕ) (v : Verdict) → IsSender s x → n < length s.offered →
    settled s + slot ≡ n → at s.verdicts n ≡ None → y.name ≡ x.name → y.offered ≡ x.offered →
    y.window ≡ judged x.window slot v → y.stored ≡ x.stored → y.refused.numbers ≡ x.refused.numbers →
    y.closed ≡ x.closed → KeepsFrom (settled s) (record s { verdicts = put s.verdicts n v }) y
judges_one s x y n slot v f offered_n place none name offered window stored refused closed = record {
  name = name ∙ f.name;
  offered = offered ∙ f.offered;
  within = put_within s.verdicts n (length s.offered) v f.within offered_n;
  prefix = first_free-put s.verdicts n v none;
  window = window ∙ ap (λ (w : List SenderEntry). judged w slot v) f.window
      ∙ sym (judged_drop (settled s) slot (entries s.offered s.verdicts) v)
      ∙ ap (λ (m : ℕ). drop (settled s) (judged (entries s.offered s.verdicts) m v)) place
      ∙ ap (drop (settled s)) (sym (judged_put s.offered s.verdicts n v offered_n));
  stored = stored ∙ f.stored ∙ ap (count_by is_some_stored) (sym same);
  refused = refused ∙ f.refused ∙ ap (refused_from 0) (sym same);
  closed = closed ∙ f.closed ∙ ap (has_closed_from (take (settled s) s.offered)) (sym same);
}
  where
    same : take (settled s) (put s.verdicts n v) ≡ take (settled s) s.verdicts
    same = take-put s.verdicts n (settled s) v (omega (arith, place)) (first_free_len s.verdicts)

-- a slot of the window has its verdict exactly if the number has
pub slot_judged : (s : Defined) (x : Sender) (n slot : ℕ) → IsSender s x → n < length s.offered →
    settled s + slot ≡ n → is_judged_at x.window slot ≡ is_some (at s.verdicts n)
slot_judged s x n slot f offered_n place =
    ap (λ (w : List SenderEntry). is_judged_at w slot) f.window
    ∙ ap (λ (o : Option SenderEntry). is_some (option_and_then (λ (e : SenderEntry). e.verdict) o))
    (get_dropped (settled s) slot (entries s.offered s.verdicts))
    ∙ ap (λ (m : ℕ). is_judged_at (entries s.offered s.verdicts) m) place
    ∙ judged_at s.offered s.verdicts n offered_n

and_right : (a b : Bool) → (a && b) ≡ true → b ≡ true
and_right true b e = e
and_right false b e = absurd (cc)

-- the number was offered
pub own_offered : (s : Defined) (x : Sender) (name : List ℕ) (n : ℕ) → IsSender s x →
    (bytes_eq name x.name && nat_lt n x.offered) ≡ true →
    ((bytes_eq name s.name && nat_lt n (length s.offered)) ≡ true) × (n < length s.offered)
own_offered s x name n f own = (reported, ltb-true n (length s.offered) (and_right _ _ reported))
  where
    reported : (bytes_eq name s.name && nat_lt n (length s.offered)) ≡ true
    reported = ap (λ (y : List ℕ). bytes_eq name y && nat_lt n (length s.offered)) (sym f.name)
        ∙ ap (λ (m : ℕ). bytes_eq name x.name && nat_lt n m) (sym f.offered) ∙ own

-- a settled number has its verdict
pub settled_some : (s : Defined) (n : ℕ) → n < settled s → is_some (at s.verdicts n) ≡ true
settled_some s n below = ap is_some (at-first_free s.verdicts n below).1

pub none_there : {X : Type 0} (o : Option X) → is_some o ≡ false → o ≡ None
none_there None e = refl
none_there (Some x) e = absurd (cc)

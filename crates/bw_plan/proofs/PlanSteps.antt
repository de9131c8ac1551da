-- Requests that are stored where they come, and the takes that they lead to.
use Rattle.std.proofs.Common.{◌≡◌, ℕ, zero, suc, ◌+◌, ◌-◌, ◌*◌, ◌<◌, ◌≤◌, Bool, true, false, cond, not, ◌&&◌}
use Rattle.std.proofs.Common.{List, [], ◌∷◌, ◌++◌, length, map, take, drop, Option, Some, None, refl, sym, ◌∙◌, ap, subst}
use Rattle.std.proofs.Common.{arith, length-append, ◌⊎◌, inl, inr}
use Rattle.std.specs.Prelude.{◌||◌, fold, is_none, is_some, slice_get, slice_set, nat_le, nat_lt, ◌%◌, ◌/◌, ◌==◌}
use Rattle.std.specs.List.{list_all, list_any}
use Rattle.std.proofs.lemmas.Bool.{and_parts, and_from, leb-true, leb-false, ltb-true, eqb-true, false≢true, or_cases}
use Rattle.std.proofs.lemmas.List.{append_assoc, append-nil, length-take, length-drop, take-append-drop}
use Rattle.std.proofs.Math.Nat.{add-mul}
use Rattle.std.proofs.lemmas.Nat.{mod-mul-add}
use Rattle.bw_model.specs.Take.{Format, Take, Request, Open, Block, Mark, SetField, Stored, BadFormat, BadField}
use Rattle.bw_model.specs.Take.{BadBlock, BadMarker, DuplicateMarker, TooManyMarkers, Verdict, Shape, shapes}
use Rattle.bw_model.specs.Take.{shape_fault, field_bytes, judge, verdict, with_request, after, new_take, is_stored}
use Rattle.bw_model.specs.Take.{is_format, is_history_byte, block_align, FieldFault, with_field}
use Rattle.bw_plan.specs.PlanLaws.{AreStored, fields_of, are_values, are_markers}
use Rattle.bw_plan.specs.Plans.{pieces, field_requests, mark_request}

-- each of these requests is stored where it comes, and together they make u of t
pub record Leads (t : Take) (rs : List Request) (u : Take) : Type 0 where
  pub stored : AreStored t rs
  pub made : fold after t rs ≡ u

pub leads-none : (t : Take) → Leads t [] t
leads-none t = record { stored = tt; made = refl }

pub leads-cons : (t : Take) (r : Request) (rs : List Request) (u : Take) → verdict t r ≡ Stored →
    Leads (with_request t r) rs u → Leads t (r ∷ rs) u
leads-cons t r rs u e l =
    let next : after t r ≡ with_request t r = ap (λ (v : Verdict). cond (is_stored v) (with_request t r) t) e in
    record {
      stored = (e, subst (λ (x : Take). AreStored x rs) (sym next) l.stored);
      made = ap (λ (x : Take). fold after x rs) next ∙ l.made;
    }

pub leads-append : (t u v : Take) (rs ss : List Request) → Leads t rs u → Leads u ss v → Leads t (rs ++ ss) v
leads-append t u v [] ss l m = record {
  stored = subst (λ (x : Take). AreStored x ss) (sym l.made) m.stored;
  made = ap (λ (x : Take). fold after x ss) l.made ∙ m.made;
}
leads-append t u v (r ∷ rs) ss l m =
    let rest = leads-append (after t r) u v rs ss (record { stored = l.stored.1; made = l.made }) m in
    record { stored = (l.stored.0, rest.stored); made = rest.made }

-- an open take
abbrev pub opened : Format → List ℕ → List (List ℕ) → List ℕ → List (ℕ × ℕ) → Take
opened f history fields samples markers = record {
  format = Some f;
  fields = fields;
  history = history;
  samples = samples;
  markers = markers;
  taken = false;
  closed = false;
}

-- OPEN

pub open_stored : (f : Format) (history : List ℕ) → is_format f ≡ true → list_all is_history_byte history ≡ true →
    verdict (new_take false) (Open f history) ≡ Stored
unfolding judge
open_stored f history e g =
    ap (λ (v : Bool). cond (not v) BadFormat Stored) (and_from (is_format f) (list_all is_history_byte history) e g)

-- fields

get-middle : {X : Type 0} (xs : List X) (y : X) (ys : List X) (n : ℕ) → length xs ≡ n →
    slice_get (xs ++ y ∷ ys) n ≡ Some y
get-middle [] y ys zero e = refl
get-middle [] y ys (suc n) e = absurd (omega (arith, e))
get-middle (x ∷ xs) y ys zero e = absurd (omega (arith, e))
get-middle (x ∷ xs) y ys (suc n) e = get-middle xs y ys n (omega (arith, e))

set-middle : {X : Type 0} (xs : List X) (y z : X) (ys : List X) (n : ℕ) → length xs ≡ n →
    slice_set (xs ++ y ∷ ys) n z ≡ xs ++ z ∷ ys
set-middle [] y z ys zero e = refl
set-middle [] y z ys (suc n) e = absurd (omega (arith, e))
set-middle (x ∷ xs) y z ys zero e = absurd (omega (arith, e))
set-middle {X = X} (x ∷ xs) y z ys (suc n) e = ap (λ (l : List X). x ∷ l) (set-middle xs y z ys n (omega (arith, e)))

-- no value is given
abbrev blank : List Shape → List (List ℕ)
blank ss = fields_of ss []

no_values : (ss : List Shape) → fields_of ss [] ≡ map (λ s. field_bytes s []) ss
no_values [] = refl
no_values (s ∷ ss) = ap (λ (l : List (List ℕ)). field_bytes s [] ∷ l) (no_values ss)

pub blank_fields : (new_take false).fields ≡ fields_of shapes []
blank_fields = refl

no_fault : (x : Option FieldFault) → is_none x ≡ true → is_some x ≡ false
no_fault None e = refl
no_fault (Some x) e = absurd (false≢true e)

allowed : (s : Shape) (c : ℕ) (cs : List ℕ) →
    ((length (c ∷ cs) == 0) ≡ true) ⊎ (is_none (shape_fault (Some s) (c ∷ cs)) ≡ true) →
    is_some (shape_fault (Some s) (c ∷ cs)) ≡ false
allowed s c cs (inl e) = let none : length (c ∷ cs) ≡ 0 = eqb-true (length (c ∷ cs)) 0 e in absurd (omega (arith, none))
allowed s c cs (inr e) = no_fault (shape_fault (Some s) (c ∷ cs)) e

moved : (f : Format) (history : List ℕ) (xs ys xs2 ys2 : List (List ℕ)) (rs : List Request) → xs ≡ xs2 → ys ≡ ys2 →
    Leads (opened f history xs [] []) rs (opened f history ys [] []) →
    Leads (opened f history xs2 [] []) rs (opened f history ys2 [] [])
moved f history xs ys xs2 ys2 rs d e l =
    subst (λ (zs : List (List ℕ)). Leads (opened f history zs [] []) rs (opened f history ys2 [] [])) d
    (subst (λ (zs : List (List ℕ)). Leads (opened f history xs [] []) rs (opened f history zs [] [])) e l)

set_lead : (f : Format) (history : List ℕ) (s : Shape) (ss : List Shape) (pre : List (List ℕ)) (n c : ℕ) (cs : List ℕ)
    (rs : List Request) (u : Take) → slice_get shapes n ≡ Some s → length pre ≡ n →
    is_some (shape_fault (Some s) (c ∷ cs)) ≡ false →
    Leads (opened f history (pre ++ field_bytes s (c ∷ cs) ∷ fields_of ss []) [] []) rs u →
    Leads (opened f history (pre ++ field_bytes s [] ∷ fields_of ss []) [] []) (SetField (suc n) (c ∷ cs) ∷ rs) u
unfolding judge
set_lead f history s ss pre n c cs rs u g l ok rest =
    leads-cons (opened f history fields [] []) (SetField (suc n) (c ∷ cs)) rs u
    (subst (λ (x : Option Shape). cond (is_some (shape_fault x (c ∷ cs))) BadField Stored ≡ Stored) (sym g)
    (ap (λ (v : Bool). cond v BadField Stored) ok))
    (subst (λ (zs : List (List ℕ)). Leads (opened f history zs [] []) rs u) (sym set) rest)
  where
    fields : List (List ℕ)
    fields = pre ++ field_bytes s [] ∷ fields_of ss []

    set : with_field fields (suc n) (c ∷ cs) ≡ pre ++ field_bytes s (c ∷ cs) ∷ fields_of ss []
    set = subst (λ (x : Option Shape).
        elim x [ None ↦ fields | Some z ↦ slice_set fields n (field_bytes z (c ∷ cs)) ]
        ≡ pre ++ field_bytes s (c ∷ cs) ∷ fields_of ss []) (sym g)
        (set-middle pre (field_bytes s []) (field_bytes s (c ∷ cs)) (fields_of ss []) n l)

-- the requests of the fields from a tag on
pub fields_lead : (f : Format) (history : List ℕ) (before ss : List Shape) (pre values : List (List ℕ)) (n : ℕ) →
    before ++ ss ≡ shapes → length before ≡ n → length pre ≡ n → are_values ss values ≡ true →
    Leads (opened f history (pre ++ fields_of ss []) [] []) (field_requests (suc n) values)
    (opened f history (pre ++ fields_of ss values) [] [])
fields_lead f history before [] pre [] n e k l h = leads-none _
fields_lead f history before (s ∷ ss) pre [] n e k l h = leads-none _
fields_lead f history before [] pre (v ∷ values) n e k l h = absurd (false≢true h)
fields_lead f history before (s ∷ ss) pre ([] ∷ values) n e k l h =
    let x = field_bytes s [] in
    moved f history ((pre ++ x ∷ []) ++ fields_of ss []) ((pre ++ x ∷ []) ++ fields_of ss values)
    (pre ++ x ∷ fields_of ss []) (pre ++ x ∷ fields_of ss values)
    (field_requests (suc (suc n)) values) (append_assoc pre (x ∷ []) (fields_of ss []))
    (append_assoc pre (x ∷ []) (fields_of ss values))
    (fields_lead f history (before ++ s ∷ []) ss (pre ++ x ∷ []) values (suc n) (append_assoc before (s ∷ []) ss ∙ e)
    (omega (arith, length-append before (s ∷ []), k)) (omega (arith, length-append pre (x ∷ []), l)) h)
fields_lead f history before (s ∷ ss) pre ((c ∷ cs) ∷ values) n e k l h =
    let x = field_bytes s (c ∷ cs) in
    let both = and_parts ((length (c ∷ cs) == 0) || is_none (shape_fault (Some s) (c ∷ cs))) (are_values ss values) h in
    set_lead f history s ss pre n c cs (field_requests (suc (suc n)) values)
    (opened f history (pre ++ x ∷ fields_of ss values) [] [])
    (subst (λ (all : List Shape). slice_get all n ≡ Some s) e (get-middle before s ss n k)) l
    (allowed s c cs (or_cases (length (c ∷ cs) == 0) (is_none (shape_fault (Some s) (c ∷ cs))) both.0))
    (moved f history ((pre ++ x ∷ []) ++ fields_of ss []) ((pre ++ x ∷ []) ++ fields_of ss values)
    (pre ++ x ∷ fields_of ss []) (pre ++ x ∷ fields_of ss values)
    (field_requests (suc (suc n)) values) (append_assoc pre (x ∷ []) (fields_of ss []))
    (append_assoc pre (x ∷ []) (fields_of ss values))
    (fields_lead f history (before ++ s ∷ []) ss (pre ++ x ∷ []) values (suc n) (append_assoc before (s ∷ []) ss ∙ e)
    (omega (arith, length-append before (s ∷ []), k)) (omega (arith, length-append pre (x ∷ []), l)) both.1))

-- blocks

-- the parts of a list of whole frames that is cut after whole frames
record Cut (xs : List ℕ) (size align : ℕ) : Type 0 where
  first : ℕ
  rest : ℕ
  first_is : length (take size xs) ≡ first * align
  rest_is : length (drop size xs) ≡ rest * align

cut : (xs : List ℕ) (n q align : ℕ) → length xs ≡ q * align → Cut xs (n * align) align
cut xs n q align e = go (nat_le n q) refl
  where
    go : (v : Bool) → nat_le n q ≡ v → Cut xs (n * align) align
    go true h =
        let some : n ≤ q = leb-true n q h in
        let whole : q * align ≡ n * align + (q - n) * align =
        ap (λ (k : ℕ). k * align) (omega (arith, some)) ∙ add-mul n (q - n) align in
        record {
          first = n;
          rest = q - n;
          first_is = length-take (n * align) xs ∙ omega (arith, e, whole);
          rest_is = length-drop (n * align) xs ∙ omega (arith, e, whole);
        }
    go false h =
        let few : q < n = leb-false n q h in
        let whole : n * align ≡ q * align + (n - q) * align =
        ap (λ (k : ℕ). k * align) (omega (arith, few)) ∙ add-mul q (n - q) align in
        record {
          first = q;
          rest = 0;
          first_is = length-take (n * align) xs ∙ omega (arith, e, whole);
          rest_is = length-drop (n * align) xs ∙ omega (arith, e, whole);
        }

whole_frames : (k align : ℕ) → 0 < align → (k * align) % align ≡ 0
whole_frames k align h = ap (λ (x : ℕ). x % align) (omega arith) ∙ mod-mul-add k align 0 h

block_stored : (f : Format) (history : List ℕ) (fields : List (List ℕ)) (samples bytes : List ℕ) (k : ℕ) →
    0 < block_align f → length bytes ≡ k * block_align f →
    verdict (opened f history fields samples []) (Block bytes) ≡ Stored
unfolding judge
block_stored f history fields samples bytes k some e =
    let none : length bytes % block_align f ≡ 0 =
    ap (λ (x : ℕ). x % block_align f) e ∙ whole_frames k (block_align f) some in
    ap (λ (x : ℕ). cond (x == 0) Stored BadBlock) none

pub blocks_lead : (f : Format) (history : List ℕ) (fields : List (List ℕ)) (samples bytes : List ℕ) (k n q : ℕ) →
    0 < block_align f → length bytes ≡ q * block_align f → length bytes ≤ k * (n * block_align f) →
    Leads (opened f history fields samples []) (map Block (pieces k (n * block_align f) bytes))
    (opened f history fields (samples ++ bytes) [])
blocks_lead f history fields samples bytes zero n q some e few =
    let none : bytes ≡ [] = empty bytes (omega (arith, few)) in
    let same : samples ++ bytes ≡ samples = ap (λ (xs : List ℕ). samples ++ xs) none ∙ append-nil samples in
    subst (λ (xs : List ℕ). Leads (opened f history fields samples []) [] (opened f history fields xs []))
    (sym same) (leads-none _)
  where
    empty : (xs : List ℕ) → length xs ≤ 0 → xs ≡ []
    empty [] h = refl
    empty (x ∷ xs) h = absurd (omega (arith, h))
blocks_lead f history fields samples bytes (suc k) n q some e few =
    let size = n * block_align f in
    let c = cut bytes n q (block_align f) e in
    let seam : (samples ++ take size bytes) ++ drop size bytes ≡ samples ++ bytes =
    append_assoc samples (take size bytes) (drop size bytes)
    ∙ ap (λ (xs : List ℕ). samples ++ xs) (take-append-drop size bytes) in
    leads-cons (opened f history fields samples []) (Block (take size bytes))
    (map Block (pieces k size (drop size bytes))) (opened f history fields (samples ++ bytes) [])
    (block_stored f history fields samples (take size bytes) c.first some c.first_is)
    (subst (λ (xs : List ℕ). Leads (opened f history fields (samples ++ take size bytes) [])
    (map Block (pieces k size (drop size bytes))) (opened f history fields xs [])) seam
    (blocks_lead f history fields (samples ++ take size bytes) (drop size bytes) k n c.rest some c.rest_is
    (omega (arith, few, length-drop size bytes, one_more k size))))
  where
    one_more : (a b : ℕ) → suc a * b ≡ b + a * b
    one_more a b = omega arith

-- markers

mark_stored : (f : Format) (history : List ℕ) (fields : List (List ℕ)) (samples : List ℕ) (before : List (ℕ × ℕ))
    (id frame : ℕ) → nat_le frame (length samples / block_align f) ≡ true →
    not (list_any (λ k. k.0 == id) before) ≡ true → nat_lt (length before) 1024 ≡ true →
    verdict (opened f history fields samples before) (Mark id frame) ≡ Stored
unfolding judge
mark_stored f history fields samples before id frame low new few =
    go (nat_lt (length samples / block_align f) frame) (list_any (λ k. k.0 == id) before) (nat_le 1024 (length before))
    refl refl refl
  where
    go : (u v w : Bool) → nat_lt (length samples / block_align f) frame ≡ u →
        list_any (λ k. k.0 == id) before ≡ v → nat_le 1024 (length before) ≡ w →
        cond u BadMarker (cond v DuplicateMarker (cond w TooManyMarkers Stored)) ≡ Stored
    go true v w a b c =
        let high = ltb-true (length samples / block_align f) frame a in
        let within = leb-true frame (length samples / block_align f) low in absurd (omega (arith, high, within))
    go false true w a b c = absurd (false≢true (ap not (sym b) ∙ new))
    go false false true a b c =
        let many = leb-true 1024 (length before) c in
        let room = ltb-true (length before) 1024 few in absurd (omega (arith, many, room))
    go false false false a b c = refl

pub marks_lead : (f : Format) (history : List ℕ) (fields : List (List ℕ)) (samples : List ℕ) (before ms : List (ℕ × ℕ)) →
    are_markers (length samples / block_align f) before ms ≡ true →
    Leads (opened f history fields samples before) (map mark_request ms) (opened f history fields samples (before ++ ms))
marks_lead f history fields samples before [] h =
    subst (λ (xs : List (ℕ × ℕ)). Leads (opened f history fields samples before) []
    (opened f history fields samples xs)) (sym (append-nil before)) (leads-none _)
marks_lead f history fields samples before (m ∷ ms) h =
    let low = nat_le m.1 (length samples / block_align f) in
    let new = not (list_any (λ k. k.0 == m.0) before) in
    let few = nat_lt (length before) 1024 in
    let later = are_markers (length samples / block_align f) (before ++ m ∷ []) ms in
    let all = and_parts (low && new && few) later h in
    let three = and_parts (low && new) few all.0 in
    let two = and_parts low new three.0 in
    leads-cons (opened f history fields samples before) (Mark m.0 m.1) (map mark_request ms)
    (opened f history fields samples (before ++ m ∷ ms))
    (mark_stored f history fields samples before m.0 m.1 two.0 two.1 three.1)
    (subst (λ (xs : List (ℕ × ℕ)). Leads (opened f history fields samples (before ++ m ∷ [])) (map mark_request ms)
    (opened f history fields samples xs)) (append_assoc before (m ∷ []) ms)
    (marks_lead f history fields samples (before ++ m ∷ []) ms all.1))

-- Chunks that stand in the same bytes up to the form's end are the same.
use Rattle.std.proofs.Common.{◌≡◌, ◌∙◌, ℕ, ◌+◌, ◌<◌, Bool, true, false, cond, ◌||◌, List, [], ◌∷◌, ◌++◌}
use Rattle.std.proofs.Common.{Option, Some, None, refl, sym, ap, subst, arith, inl, inr}
use Rattle.std.specs.Prelude.{is_none}
use Rattle.std.specs.List.{list_any}
use Rattle.std.proofs.lemmas.Bool.{or_parts}
use Rattle.bw_model.specs.Bytes.{even_up}
use Rattle.bw_model.specs.Prefix.{IsChunkAt, IsSizeGiven, IsSized, StandFrom}
use Rattle.bw_model.specs.Reading.{Entry, Form, Sizes, entry_of, form_end, id_at, is_id}
use Rattle.bw_model.proofs.BookLemmas.{name_refl}
use Rattle.bw_repair.proofs.JoinedTakes.{end_from}

-- the first row of an id gives one size
named_not : (id : List ℕ) (n : ℕ) (rows : List (List ℕ × ℕ)) →
    list_any (λ row. is_id row.0 id) ((id, n) ∷ rows) ≡ false → ⊥
named_not id n rows e =
    let bad : true ≡ false =
    sym (ap (λ (v : Bool). v || list_any (λ row. is_id row.0 id) rows) (name_refl id)) ∙ e in cc

first_same : (id : List ℕ) (n m : ℕ) (before before' after after' : List (List ℕ × ℕ)) →
    before ++ (id, n) ∷ after ≡ before' ++ (id, m) ∷ after' → list_any (λ row. is_id row.0 id) before ≡ false →
    list_any (λ row. is_id row.0 id) before' ≡ false → n ≡ m
first_same id n m [] [] after after' e f g =
    let same : (id, n) ≡ (id, m) = cc in ap (λ (row : List ℕ × ℕ). row.1) same
first_same id n m [] (row ∷ before') after after' e f g =
    let same : (id, n) ≡ row = cc in
    absurd (named_not id n before'
    (subst (λ (x : List ℕ × ℕ). list_any (λ row. is_id row.0 id) (x ∷ before') ≡ false) (sym same) g))
first_same id n m (row ∷ before) [] after after' e f g =
    let same : row ≡ (id, m) = cc in
    absurd (named_not id m before
    (subst (λ (x : List ℕ × ℕ). list_any (λ row. is_id row.0 id) (x ∷ before) ≡ false) same f))
first_same id n m (row ∷ before) (row' ∷ before') after after' e f g =
    first_same id n m before before' after after' (cc) (or_parts (is_id row.0 id) _ f).1
    (or_parts (is_id row'.0 id) _ g).1

given_once : (sizes : Option Sizes) (id : List ℕ) (n m : ℕ) → IsSizeGiven sizes id n → IsSizeGiven sizes id m → n ≡ m
given_once None id n m g h = absurd g
given_once (Some s) id n m (inl g) (inl h) = g.1 ∙ sym h.1
given_once (Some s) id n m (inl g) (inr h) = absurd (h.0 g.0)
given_once (Some s) id n m (inr g) (inl h) = absurd (g.0 h.0)
given_once (Some s) id n m (inr g) (inr h) =
    first_same id n m g.1.before h.1.before g.1.following h.1.following (sym g.1.whole ∙ h.1.whole) g.1.first h.1.first

sized_once : (b : List ℕ) (form : Form) (id : List ℕ) (p n m : ℕ) →
    IsSized b form (record { id = id; place = p; size = n }) →
    IsSized b form (record { id = id; place = p; size = m }) → n ≡ m
sized_once b form id p n m (inl g) (inl h) = g.1 ∙ sym h.1
sized_once b form id p n m (inl g) (inr h) = absurd (g.0 h.0)
sized_once b form id p n m (inr g) (inl h) = absurd (h.0 g.0)
sized_once b form id p n m (inr g) (inr h) = given_once form.sizes id n m g.1 h.1

-- one chunk is at a place
one_chunk : (b : List ℕ) (form : Form) (d e : Entry) → d.place ≡ e.place → IsChunkAt b form d →
    IsChunkAt b form e → d ≡ e
one_chunk b form d e at g h =
    let id : d.id ≡ e.id = sym g.spelled ∙ ap (id_at b) at ∙ h.spelled in
    let moved : IsSized b form (record { id = e.id; place = e.place; size = d.size }) =
    subst (λ (i : List ℕ). IsSized b form (record { id = i; place = e.place; size = d.size })) id
    (subst (λ (p : ℕ). IsSized b form (record { id = d.id; place = p; size = d.size })) at g.sized) in
    let size : d.size ≡ e.size = sized_once b form e.id e.place d.size e.size moved h.sized in
    ap (λ (i : List ℕ). record { id = i; place = d.place; size = d.size }) id
    ∙ ap (λ (p : ℕ). record { id = e.id; place = p; size = d.size }) at
    ∙ ap (λ (n : ℕ). record { id = e.id; place = e.place; size = n }) size

-- no head fits after them
pub one_list : (b : List ℕ) (form : Form) (p : ℕ) (ds es : List Entry) → StandFrom b form p ds → StandFrom b form p es →
    form_end form < end_from p ds + 8 → form_end form < end_from p es + 8 → ds ≡ es
one_list b form p [] [] s t f g = refl
one_list b form p [] (e ∷ es) s t f g =
    let at : e.place ≡ p = t.0 in
    let inside = t.1.in_form in absurd (omega (arith, at, inside, f))
one_list b form p (d ∷ ds) [] s t f g =
    let at : d.place ≡ p = s.0 in
    let inside = s.1.in_form in absurd (omega (arith, at, inside, g))
one_list b form p (d ∷ ds) (e ∷ es) s t f g =
    let same : d ≡ e = one_chunk b form d e (s.0 ∙ sym t.0) s.1 t.1 in
    let next : d.place + 8 + even_up d.size ≡ e.place + 8 + even_up e.size =
    ap (λ (x : Entry). x.place + 8 + even_up x.size) same in
    let rest = one_list b form (e.place + 8 + even_up e.size) ds es
    (subst (λ (q : ℕ). StandFrom b form q ds) next s.2) t.2
    (subst (λ (q : ℕ). form_end form < end_from q ds + 8) next f) g in
    ap (λ (x : Entry). x ∷ ds) same ∙ ap (λ (xs : List Entry). e ∷ xs) rest

-- chunks and others after them
pub stand_append : (b : List ℕ) (form : Form) (p : ℕ) (es ds : List Entry) → StandFrom b form p es →
    StandFrom b form (end_from p es) ds → StandFrom b form p (es ++ ds)
stand_append b form p [] ds s t = t
stand_append b form p (e ∷ es) ds s t =
    (s.0, s.1, stand_append b form (e.place + 8 + even_up e.size) es ds s.2 t)

pub end_append : (p : ℕ) (es ds : List Entry) → end_from p (es ++ ds) ≡ end_from (end_from p es) ds
end_append p [] ds = refl
end_append p (e ∷ es) ds = end_append (e.place + 8 + even_up e.size) es ds

-- what is found among the first is found
pub found_first : (id : List ℕ) (es ds : List Entry) → is_none (entry_of id es) ≡ false →
    entry_of id (es ++ ds) ≡ entry_of id es
found_first id [] ds some = absurd (cc)
found_first id (e ∷ es) ds some = go (is_id e.id id) some (found_first id es ds)
  where
    go : (v : Bool) → is_none (cond v (Some e) (entry_of id es)) ≡ false →
        (is_none (entry_of id es) ≡ false → entry_of id (es ++ ds) ≡ entry_of id es) →
        cond v (Some e) (entry_of id (es ++ ds)) ≡ cond v (Some e) (entry_of id es)
    go true some rest = refl
    go false some rest = rest some

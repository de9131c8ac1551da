-- One more chunk is listed exactly if it is at its place.
use Rattle.std.proofs.Common.{◌≡◌, ℕ, ◌+◌, ◌*◌, ◌<◌, ◌≤◌, Bool, true, false, cond, ◌&&◌, ◌||◌, List, [], ◌∷◌, ◌++◌}
use Rattle.std.proofs.Common.{length, Option, Some, None, Result, Ok, Err, inl, inr, refl, sym, ◌∙◌, ap, subst, arith}
use Rattle.std.specs.Prelude.{nat_le, nat_lt, codes, find, is_none, is_some, unwrap_or, option_map, ◌==◌}
use Rattle.std.specs.List.{list_any}
use Rattle.std.proofs.lemmas.Bool.{leb-false, ltb-false, le-ltb, lt-leb, le-leb, eqb-true, eqb-false, eq-eqb, ne_eqb}
use Rattle.std.proofs.lemmas.Bool.{false≢true}
use Rattle.bw_model.specs.Bytes.{first_that_holds, unless, u32_at, unsaid}
use Rattle.bw_model.specs.Reading.{Entry, Form, Fault, Sizes, Head, next, next_by, next_place, head_at, size_at}
use Rattle.bw_model.specs.Reading.{reported_size, chunk_faults, end_faults, form_end, id_at, is_id, single_ids, entry_of}
use Rattle.bw_model.specs.Reading.{largest}
use Rattle.bw_model.specs.Prefix.{IsFirstRow, IsSizeGiven, IsSized, IsChunkAt}
use Rattle.bw_model.proofs.BookLemmas.{same_name, name_refl}

-- no test of these lines holds
abbrev pub NoneHolds : {X : Type 0} → List (Bool × X) → Type 0
NoneHolds [] = Unit {0}
NoneHolds (l ∷ ls) = (l.0 ≡ false) × NoneHolds ls

pub none_holds : {X : Type 0} (ls : List (Bool × X)) → first_that_holds ls ≡ None → NoneHolds ls
none_holds [] e = tt
none_holds (l ∷ ls) e = go l.0 refl e (none_holds ls)
  where
    go : (v : Bool) → l.0 ≡ v → cond v (Some l.1) (first_that_holds ls) ≡ None →
        (first_that_holds ls ≡ None → NoneHolds ls) → (l.0 ≡ false) × NoneHolds ls
    go true p e ih = absurd (some e)
      where
        some : Some l.1 ≡ None → ⊥
        some e = cc
    go false p e ih = (p, ih e)

pub first-none : {X : Type 0} (ls : List (Bool × X)) → NoneHolds ls → first_that_holds ls ≡ None
first-none [] h = refl
first-none (l ∷ ls) h = ap (λ (v : Bool). cond v (Some l.1) (first_that_holds ls)) h.0 ∙ first-none ls h.1

-- the row that `find` gives is the first
first_row : (table : List (List ℕ × ℕ)) (id : List ℕ) (size : ℕ) →
    option_map (λ row. row.1) (find (λ row. is_id row.0 id) table) ≡ Some size → IsFirstRow table id size
first_row [] id size e = absurd (none e)
  where
    none : None ≡ Some size → ⊥
    none e = cc
first_row (row ∷ table) id size e = go (is_id row.0 id) refl e (first_row table id size)
  where
    go : (v : Bool) → is_id row.0 id ≡ v →
        option_map (λ row. row.1) (cond v (Some row) (find (λ row. is_id row.0 id) table)) ≡ Some size →
        (option_map (λ row. row.1) (find (λ row. is_id row.0 id) table) ≡ Some size → IsFirstRow table id size) →
        IsFirstRow (row ∷ table) id size
    go true p e ih =
        let named : row.0 ≡ id = same_name row.0 id p in
        let sized : row.1 ≡ size = cc in
        record {
          before = [];
          following = table;
          whole = ap (λ (z : List ℕ). (z, row.1) ∷ table) named ∙ ap (λ (n : ℕ). (id, n) ∷ table) sized;
          first = refl;
        }
    go false p e ih =
        let rest = ih e in
        record {
          before = row ∷ rest.before;
          following = rest.following;
          whole = ap (λ (z : List (List ℕ × ℕ)). row ∷ z) rest.whole;
          first =
              ap (λ (v : Bool). v || list_any (λ row. is_id row.0 id) rest.before) p ∙ rest.first;
        }

row_first : (before following : List (List ℕ × ℕ)) (id : List ℕ) (size : ℕ) →
    list_any (λ row. is_id row.0 id) before ≡ false →
    option_map (λ row. row.1) (find (λ row. is_id row.0 id) (before ++ (id, size) ∷ following)) ≡ Some size
row_first [] following id size h =
    ap (λ (v : Bool). option_map (λ row. row.1) (cond v (Some (id, size)) (find (λ row. is_id row.0 id) following)))
    (name_refl id)
row_first (row ∷ before) following id size h = go (is_id row.0 id) h (λ q. row_first before following id size q)
  where
    go : (v : Bool) → v || list_any (λ row. is_id row.0 id) before ≡ false →
        (list_any (λ row. is_id row.0 id) before ≡ false →
        option_map (λ row. row.1) (find (λ row. is_id row.0 id) (before ++ (id, size) ∷ following)) ≡ Some size) →
        option_map (λ row. row.1) (cond v (Some row) (find (λ row. is_id row.0 id) (before ++ (id, size) ∷ following)))
        ≡ Some size
    go true h ih = cc
    go false h ih = ih h

-- what `ds64` says

reported : (sizes : Option Sizes) (id : List ℕ) (size : ℕ) → reported_size sizes id ≡ Some size → IsSizeGiven sizes id size
reported None id size e = absurd (none e)
  where
    none : None ≡ Some size → ⊥
    none e = cc
reported (Some s) id size e = go (is_id id (codes "data")) refl e
  where
    go : (v : Bool) → is_id id (codes "data") ≡ v →
        cond v (Some s.«data») (option_map (λ row. row.1) (find (λ row. is_id row.0 id) s.table)) ≡ Some size →
        IsSizeGiven (Some s) id size
    go true p e = inl (same_name id (codes "data") p, (let h : s.«data» ≡ size = cc in sym h))
    go false p e = inr (
      (λ q. false≢true (sym p ∙ ap (λ (z : List ℕ). is_id z (codes "data")) q)),
      first_row s.table id size e,
    )

reports : (sizes : Option Sizes) (id : List ℕ) (size : ℕ) → IsSizeGiven sizes id size → reported_size sizes id ≡ Some size
reports None id size h = absurd h
reports (Some s) id size (inl h) =
    ap (λ (z : List ℕ). reported_size (Some s) z) h.0 ∙ ap (λ (n : ℕ). Some n) (sym h.1)
reports (Some s) id size (inr h) =
    ap (λ (v : Bool). cond v (Some s.«data») (option_map (λ row. row.1) (find (λ row. is_id row.0 id) s.table)))
    (other (is_id id (codes "data")) refl)
    ∙ ap (λ (t : List (List ℕ × ℕ)). option_map (λ row. row.1) (find (λ row. is_id row.0 id) t)) h.1.whole
    ∙ row_first h.1.before h.1.following id size h.1.first
  where
    other : (v : Bool) → is_id id (codes "data") ≡ v → is_id id (codes "data") ≡ false
    other true p = absurd (h.0 (same_name id (codes "data") p))
    other false p = p

-- A chunk that is listed is at its place.

abbrev listed : ℕ → Head → ℕ → Entry
listed p h c = record { id = h.id; place = p; size = c }

abbrev lists : Option Entry → Result (Option Entry) Fault
lists x = Ok x

-- the next chunk is listed only if none of its faults holds
record IsListed (len end : ℕ) (seen : List Entry) (p : ℕ) (h : Head) (e : Entry) : Type 0 where
  faults : NoneHolds (chunk_faults len end seen p h (unwrap_or h.size 0))
  entry : listed p h (unwrap_or h.size 0) ≡ e

is_listed : (len end : ℕ) (seen : List Entry) (p : ℕ) (h : Head) (e : Entry) → next_by len end seen p h ≡ Ok (Some e) →
    IsListed len end seen p h e
is_listed len end seen p h e n =
    go (nat_le (p + 8) end) (first_that_holds (chunk_faults len end seen p h (unwrap_or h.size 0))) refl
    (first_that_holds (end_faults end seen)) n
  where
    go : (v : Bool) (x : Option Fault) → first_that_holds (chunk_faults len end seen p h (unwrap_or h.size 0)) ≡ x →
        (y : Option Fault) →
        cond {A = Result (Option Entry) Fault} v (unless x (Some (listed p h (unwrap_or h.size 0)))) (unless y None)
        ≡ Ok (Some e) → IsListed len end seen p h e
    go true None q y n = record {
      faults = none_holds (chunk_faults len end seen p h (unwrap_or h.size 0)) q;
      entry = same n;
    }
      where
        same : lists (Some (listed p h (unwrap_or h.size 0))) ≡ lists (Some e) → listed p h (unwrap_or h.size 0) ≡ e
        same n = cc
    go true (Some f) q y n = absurd (apart n)
      where
        apart : Err f ≡ lists (Some e) → ⊥
        apart n = cc
    go false x q None n = absurd (apart n)
      where
        apart : lists None ≡ lists (Some e) → ⊥
        apart n = cc
    go false x q (Some f) n = absurd (apart n)
      where
        apart : Err f ≡ lists (Some e) → ⊥
        apart n = cc

-- a test on chunks of one id
of_id : (id want : List ℕ) (t : Bool) → is_id id want && t ≡ false → id ≡ want → t ≡ false
of_id id want t h e = sym (ap (λ (v : Bool). v && t) (ap (λ (z : List ℕ). is_id z want) e ∙ name_refl want)) ∙ h

on_id : (id want : List ℕ) (t : Bool) → (id ≡ want → t ≡ false) → is_id id want && t ≡ false
on_id id want t h = go (is_id id want) refl
  where
    go : (v : Bool) → is_id id want ≡ v → v && t ≡ false
    go true p = h (same_name id want p)
    go false p = refl

has_size : (size : Option ℕ) → is_none size ≡ false → size ≡ Some (unwrap_or size 0)
has_size None h = absurd (false≢true (sym h))
has_size (Some c) h = refl

-- the size that the head or `ds64` gives
sized : (b : List ℕ) (form : Form) (p c : ℕ) → size_at b form p ≡ Some c →
    IsSized b form (record { id = id_at b p; place = p; size = c })
sized b form p c h = go (u32_at b (p + 4) == unsaid) refl h
  where
    go : (v : Bool) → (u32_at b (p + 4) == unsaid) ≡ v →
        cond v (reported_size form.sizes (id_at b p)) (Some (u32_at b (p + 4))) ≡ Some c →
        IsSized b form (record { id = id_at b p; place = p; size = c })
    go true q h = inr (eqb-true (u32_at b (p + 4)) unsaid q, reported form.sizes (id_at b p) c h)
    go false q h = inl (eqb-false (u32_at b (p + 4)) unsaid q, same h)
      where
        same : Some (u32_at b (p + 4)) ≡ Some c → c ≡ u32_at b (p + 4)
        same h = cc

sizes : (b : List ℕ) (form : Form) (p c : ℕ) → IsSized b form (record { id = id_at b p; place = p; size = c }) →
    size_at b form p ≡ Some c
sizes b form p c (inl h) =
    ap (λ (v : Bool). cond v (reported_size form.sizes (id_at b p)) (Some (u32_at b (p + 4))))
    (ne_eqb (u32_at b (p + 4)) unsaid h.0) ∙ ap (λ (n : ℕ). Some n) (sym h.1)
sizes b form p c (inr h) =
    ap (λ (v : Bool). cond v (reported_size form.sizes (id_at b p)) (Some (u32_at b (p + 4))))
    (eq-eqb (u32_at b (p + 4)) unsaid h.0) ∙ reports form.sizes (id_at b p) c h.1

-- what it takes that a chunk is listed after those seen
pub record Step (b : List ℕ) (form : Form) (seen : List Entry) (e : Entry) : Type 0 where
  pub few : length seen < 4096
  pub place : e.place ≡ next_place seen
  pub chunk : IsChunkAt b form e
  pub new : list_any (is_id e.id) single_ids && is_some (entry_of e.id seen) ≡ false

faultless : (b : List ℕ) (form : Form) (seen : List Entry) (p c : ℕ) → p ≡ next_place seen → size_at b form p ≡ Some c →
    NoneHolds (chunk_faults (length b) (form_end form) seen p (head_at b form p) c) →
    Step b form seen (record { id = id_at b p; place = p; size = c })
faultless b form seen p c e s h =
    let id = id_at b p in
    let count = u32_at b (p + 8) in
    let cues = h.1.1.1.1.1.1.1.1 in
    record {
      few = leb-false 4096 (length seen) h.0;
      place = e;
      chunk = record {
        spelled = refl;
        sized = sized b form p c s;
        no_larger = ltb-false largest c h.1.1.1.0;
        in_form = ltb-false (form_end form) (p + 8 + c) h.1.1.1.1.0;
        in_bytes = ltb-false (length b) (p + 8 + c) cues.1.1.1.1.0;
        fmt = λ q. ltb-false c 16 (of_id id (codes "fmt ") (nat_lt c 16) h.1.1.1.1.1.1.0 q);
        bext = λ q. ltb-false c 602 (of_id id (codes "bext") (nat_lt c 602) h.1.1.1.1.1.1.1.0 q);
        cue = λ q. record {
          count = ltb-false c 4 (of_id id (codes "cue ") (nat_lt c 4) cues.0 q);
          few = ltb-false 65536 count (of_id id (codes "cue ") (nat_lt 65536 count) cues.1.1.0 q);
          points = ltb-false c (4 + 24 * count) (of_id id (codes "cue ") (nat_lt c (4 + 24 * count)) cues.1.1.1.0 q);
        };
      };
      new = h.1.1.1.1.1.0;
    }

pub steps_to : (b : List ℕ) (form : Form) (seen : List Entry) (e : Entry) → next b form seen ≡ Ok (Some e) →
    Step b form seen e
unfolding next
steps_to b form seen e n =
    let p = next_place seen in
    let l = is_listed (length b) (form_end form) seen p (head_at b form p) e n in
    subst (λ (z : Entry). Step b form seen z) l.entry
    (faultless b form seen p (unwrap_or (size_at b form p) 0) refl
    (has_size (size_at b form p) l.faults.1.1.0) l.faults)

-- A chunk at its place is listed.

no_faults : (b : List ℕ) (form : Form) (seen : List Entry) (p c : ℕ) (id : List ℕ) → size_at b form p ≡ Some c →
    length seen < 4096 →
    IsChunkAt b form (record { id = id; place = p; size = c }) →
    list_any (is_id id) single_ids && is_some (entry_of id seen) ≡ false →
    NoneHolds (chunk_faults (length b) (form_end form) seen p
    (record { id = id; size = Some c; count = u32_at b (p + 8) }) c)
no_faults b form seen p c id s few h new =
    let count = u32_at b (p + 8) in
    let inside : p + 8 + c ≤ length b = h.in_bytes in (
      lt-leb 4096 (length seen) few,
      (
        le-ltb (length b) (p + 8) (omega arith),
        (
          refl,
          (
            le-ltb largest c h.no_larger,
            (
              le-ltb (form_end form) (p + 8 + c) h.in_form,
              (
                new,
                (
                  on_id id (codes "fmt ") (nat_lt c 16) (λ q. le-ltb c 16 (h.fmt q)),
                  (
                    on_id id (codes "bext") (nat_lt c 602) (λ q. le-ltb c 602 (h.bext q)),
                    (
                      on_id id (codes "cue ") (nat_lt c 4) (λ q. le-ltb c 4 (h.cue q).count),
                      (
                        on_id id (codes "cue ") (nat_lt (length b) (p + 12))
                            (λ q. le-ltb (length b) (p + 12) (let four : 4 ≤ c = (h.cue q).count in omega arith)),
                        (
                          on_id id (codes "cue ") (nat_lt 65536 count) (λ q. le-ltb 65536 count (h.cue q).few),
                          (
                            on_id id (codes "cue ") (nat_lt c (4 + 24 * count))
                                (λ q. le-ltb c (4 + 24 * count) (h.cue q).points),
                            (
                              le-ltb (length b) (p + 8 + c) inside,
                              tt,
                            ),
                          ),
                        ),
                      ),
                    ),
                  ),
                ),
              ),
            ),
          ),
        ),
      ),
    )

pub step_from : (b : List ℕ) (form : Form) (seen : List Entry) (e : Entry) → Step b form seen e →
    next b form seen ≡ Ok (Some e)
unfolding next
step_from b form seen e h =
    let p = next_place seen in
    let c = e.size in
    let len = length b in
    let end = form_end form in
    let count = u32_at b (p + 8) in
    let h' : IsChunkAt b form (record { id = e.id; place = p; size = c }) =
    subst (λ (q : ℕ). IsChunkAt b form (record { id = e.id; place = q; size = c })) h.place h.chunk in
    let spelled : id_at b p ≡ e.id = h'.spelled in
    let size : size_at b form p ≡ Some c =
    sizes b form p c (subst (λ (i : List ℕ). IsSized b form (record { id = i; place = p; size = c }))
    (sym spelled) h'.sized) in
    let inside : p + 8 + c ≤ end = h'.in_form in
    let goes_on : nat_le (p + 8) end ≡ true = le-leb (p + 8) end (omega arith) in
    let faults = first-none (chunk_faults len end seen p (record { id = e.id; size = Some c; count = count }) c)
    (no_faults b form seen p c e.id size h.few h' h.new) in
    let place : p ≡ e.place = sym h.place in
    ap (λ (i : List ℕ). next_by len end seen p (record { id = i; size = size_at b form p; count = count })) spelled
    ∙ ap (λ (z : Option ℕ). next_by len end seen p (record { id = e.id; size = z; count = count })) size
    ∙ ap (λ (v : Bool). cond v
    (unless (first_that_holds (chunk_faults len end seen p (record { id = e.id; size = Some c; count = count }) c))
    (Some (record { id = e.id; place = p; size = c }))) (unless (first_that_holds (end_faults end seen)) None))
    goes_on
    ∙ ap (λ (x : Option Fault). unless x (Some (record { id = e.id; place = p; size = c }))) faults
    ∙ ap (λ (q : ℕ). lists (Some (record { id = e.id; place = q; size = c }))) place

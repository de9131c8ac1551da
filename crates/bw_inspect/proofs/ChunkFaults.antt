-- The faults of a chunk in the parts in which they are found, and what one more chunk says.
use Rattle.std.proofs.Common.{◌≡◌, ℕ, ◌+◌, ◌≤◌, Bool, true, false, cond, List, [], ◌∷◌, ◌++◌, length, Option, Some}
use Rattle.std.proofs.Common.{None, Result, Ok, Err, refl, sym, ◌∙◌, ap, append_assoc, append-nil}
use Rattle.std.specs.Prelude.{codes, fold, option_map, is_some, unwrap_or, nat_le}
use Rattle.std.proofs.lemmas.Bool.{le-leb}
use Rattle.std.proofs.lemmas.Slice.Eq.{bytes_eq-Decides}
use Rattle.bw_model.specs.Bytes.{first_that_holds, even_up, u32_at}
use Rattle.bw_model.specs.Reading as reading
use Rattle.bw_inspect.specs.declared.chunk.ChunkKind.{ChunkKind}
use Rattle.bw_inspect.specs.declared.chunk.ChunkKind.TheVariants.{Fmt, Bext, Data, Cue, Other}
use Rattle.bw_inspect.specs.Chunks.{kind_by, start_faults, size_faults, content_faults}
use Rattle.bw_inspect.specs.Walks.{faults_at}
use Rattle.bw_inspect.specs.Known.{facts_in, has_kind, learned, fmt_reported, bext_reported, samples_reported, cues_reported}

-- what an id is, by its kind
abbrev pub Named : ChunkKind → List ℕ → Type 0
Named Fmt id = id ≡ codes "fmt "
Named Bext id = id ≡ codes "bext"
Named Data id = id ≡ codes "data"
Named Cue id = id ≡ codes "cue "
Named Other id = (reading.is_id id (codes "fmt ") ≡ false) × (reading.is_id id (codes "bext") ≡ false)
    × (reading.is_id id (codes "data") ≡ false) × (reading.is_id id (codes "cue ") ≡ false)

named_by : (id : List ℕ) (f x d q : Bool) → reading.is_id id (codes "fmt ") ≡ f → reading.is_id id (codes "bext") ≡ x →
    reading.is_id id (codes "data") ≡ d → reading.is_id id (codes "cue ") ≡ q →
    Named (cond f Fmt (cond x Bext (cond d Data (cond q Cue Other)))) id
named_by id true x d q ef ex ed eq = (bytes_eq-Decides id (codes "fmt ")).0 ef
named_by id false true d q ef ex ed eq = (bytes_eq-Decides id (codes "bext")).0 ex
named_by id false false true q ef ex ed eq = (bytes_eq-Decides id (codes "data")).0 ed
named_by id false false false true ef ex ed eq = (bytes_eq-Decides id (codes "cue ")).0 eq
named_by id false false false false ef ex ed eq = (ef, ex, ed, eq)

pub named : (id : List ℕ) → Named (kind_by id) id
named id = named_by id _ _ _ _ refl refl refl refl

some-map : {X Y : Type 0} (f : X → Y) (o : Option X) → is_some (option_map f o) ≡ is_some o
some-map f None = refl
some-map f (Some x) = refl

abbrev pub parts : ℕ → ℕ → List reading.Entry → ℕ → ChunkKind → Bool → Option ℕ → ℕ → ℕ →
    List (Bool × reading.Fault)
parts len end seen p s has size count c =
    start_faults len seen p ++ (size_faults end p s has size c ++ content_faults len p s count c)

parts_by : (b : List ℕ) (len end : ℕ) (seen : List reading.Entry) (p : ℕ) (id : List ℕ) (size : Option ℕ) (count c : ℕ)
    (s : ChunkKind) → Named s id →
    reading.chunk_faults len end seen p (record { id = id; size = size; count = count }) c
    ≡ parts len end seen p s (has_kind s (facts_in b seen)) size count c
parts_by b len end seen p id size count c Fmt n =
    rw (n, some-map (fmt_reported b) (reading.entry_of (codes "fmt ") seen)) refl
parts_by b len end seen p id size count c Bext n =
    rw (n, some-map (bext_reported b) (reading.entry_of (codes "bext") seen)) refl
parts_by b len end seen p id size count c Data n =
    rw (n, some-map samples_reported (reading.entry_of (codes "data") seen)) refl
parts_by b len end seen p id size count c Cue n =
    rw (n, some-map (cues_reported b) (reading.entry_of (codes "cue ") seen)) refl
parts_by b len end seen p id size count c Other n = simp (n.0, n.1, n.2, n.3)

-- the faults at a place, in parts
pub faults_in_parts : (len : ℕ) (b : List ℕ) (form : reading.Form) (seen : List reading.Entry) (p c : ℕ) →
    reading.chunk_faults len (reading.form_end form) seen p (reading.head_at b form p) c
    ≡ parts len (reading.form_end form) seen p (kind_by (reading.id_at b p))
    (has_kind (kind_by (reading.id_at b p)) (facts_in b seen)) (reading.size_at b form p) (u32_at b (p + 8)) c
faults_in_parts len b form seen p c =
    parts_by b len (reading.form_end form) seen p (reading.id_at b p) (reading.size_at b form p) (u32_at b (p + 8)) c
    (kind_by (reading.id_at b p)) (named (reading.id_at b p))

pub first_none : {X : Type 0} (xs ys : List (Bool × X)) → first_that_holds xs ≡ None →
    first_that_holds (xs ++ ys) ≡ first_that_holds ys
first_none [] ys e = refl
first_none ((true, x) ∷ xs) ys e = cc
first_none ((false, x) ∷ xs) ys e = first_none xs ys e

pub first_some : {X : Type 0} (xs ys : List (Bool × X)) (g : X) → first_that_holds xs ≡ Some g →
    first_that_holds (xs ++ ys) ≡ Some g
first_some [] ys g e = cc
first_some ((true, x) ∷ xs) ys g e = e
first_some ((false, x) ∷ xs) ys g e = first_some xs ys g e

pub next_err : (b : List ℕ) (form : reading.Form) (seen : List reading.Entry) (p : ℕ) (g : reading.Fault) →
    p ≡ reading.next_place seen → p + 8 ≤ reading.form_end form →
    first_that_holds (faults_at (length b) b form seen p) ≡ Some g → reading.next b form seen ≡ Err g
unfolding reading.next
next_err b form seen p g e l f =
    let goes_on : nat_le (p + 8) (reading.form_end form) ≡ true = le-leb (p + 8) (reading.form_end form) l in
    rw (← e, goes_on, f) refl

pub next_ok : (b : List ℕ) (form : reading.Form) (seen : List reading.Entry) (p : ℕ) → p ≡ reading.next_place seen →
    p + 8 ≤ reading.form_end form →
    first_that_holds (faults_at (length b) b form seen p) ≡ None →
    reading.next b form seen
    ≡ Ok (Some (record { id = reading.id_at b p; place = p; size = unwrap_or (reading.size_at b form p) 0 }))
unfolding reading.next
next_ok b form seen p e l f =
    let goes_on : nat_le (p + 8) (reading.form_end form) ≡ true = le-leb (p + 8) (reading.form_end form) l in
    rw (← e, goes_on, f) refl

-- one more chunk at the end of a walk
pub follow_push : (comes : List reading.Entry → Result (Option reading.Entry) reading.Fault)
    (seen es : List reading.Entry) (e : reading.Entry) →
    reading.FollowEachOther comes seen es → comes (seen ++ es) ≡ Ok (Some e) →
    reading.FollowEachOther comes seen (es ++ e ∷ [])
follow_push comes seen [] e f h = (ap comes (sym (append-nil seen)) ∙ h, tt)
follow_push comes seen (d ∷ es) e f h =
    (f.0, follow_push comes (seen ++ d ∷ []) es e f.1 (ap comes (append_assoc seen (d ∷ []) es) ∙ h))

pub place_push : (q : ℕ) (seen : List reading.Entry) (e : reading.Entry) →
    fold (λ p e. e.place + 8 + even_up e.size) q (seen ++ e ∷ []) ≡ e.place + 8 + even_up e.size
place_push q [] e = refl
place_push q (s ∷ seen) e = place_push (s.place + 8 + even_up s.size) seen e

other_push : (i : List ℕ) (seen : List reading.Entry) (e : reading.Entry) → reading.is_id e.id i ≡ false →
    reading.entry_of i (seen ++ e ∷ []) ≡ reading.entry_of i seen
other_push i [] e h = rw h refl
other_push i (d ∷ seen) e h =
    ap (λ (o : Option reading.Entry). cond (reading.is_id d.id i) (Some d) o) (other_push i seen e h)

own_by : (i : List ℕ) (d e : reading.Entry) (seen : List reading.Entry) (v : Bool) →
    cond v (Some d) (reading.entry_of i seen) ≡ None →
    (reading.entry_of i seen ≡ None → reading.entry_of i (seen ++ e ∷ []) ≡ Some e) →
    cond v (Some d) (reading.entry_of i (seen ++ e ∷ [])) ≡ Some e
own_by i d e seen true h k = cc
own_by i d e seen false h k = k h

own_push : (i : List ℕ) (seen : List reading.Entry) (e : reading.Entry) → reading.is_id e.id i ≡ true →
    reading.entry_of i seen ≡ None → reading.entry_of i (seen ++ e ∷ []) ≡ Some e
own_push i [] e h n = rw h refl
own_push i (d ∷ seen) e h n = own_by i d e seen (reading.is_id d.id i) n (own_push i seen e h)

none-map : {X Y : Type 0} (f : X → Y) (o : Option X) → is_some (option_map f o) ≡ false → o ≡ None
none-map f None h = refl
none-map f (Some x) h = cc

-- one more chunk of another id changes nothing of this one
apart : (i k : List ℕ) (seen : List reading.Entry) (e : reading.Entry) → e.id ≡ k → reading.is_id k i ≡ false →
    reading.entry_of i (seen ++ e ∷ []) ≡ reading.entry_of i seen
apart i k seen e n f = other_push i seen e (ap (λ (z : List ℕ). reading.is_id z i) n ∙ f)

-- the first chunk of an id is the one of that id
joins : (i : List ℕ) (seen : List reading.Entry) (e : reading.Entry) → e.id ≡ i → reading.is_id i i ≡ true →
    reading.entry_of i seen ≡ None → reading.entry_of i (seen ++ e ∷ []) ≡ Some e
joins i seen e n t none = own_push i seen e (ap (λ (z : List ℕ). reading.is_id z i) n ∙ t) none

-- what the chunks say with one more
pub facts_push : (b : List ℕ) (seen : List reading.Entry) (e : reading.Entry) (s : ChunkKind) → Named s e.id →
    has_kind s (facts_in b seen) ≡ false → facts_in b (seen ++ e ∷ []) ≡ learned b s e (facts_in b seen)
facts_push b seen e Fmt n h =
    let other = λ (i : List ℕ) (f : reading.is_id (codes "fmt ") i ≡ false). apart i (codes "fmt ") seen e n f in
    rw (
      joins (codes "fmt ") seen e n refl (none-map (fmt_reported b) _ h),
      other (codes "bext") refl,
      other (codes "data") refl,
      other (codes "cue ") refl,
    ) refl
facts_push b seen e Bext n h =
    let other = λ (i : List ℕ) (f : reading.is_id (codes "bext") i ≡ false). apart i (codes "bext") seen e n f in
    rw (
      joins (codes "bext") seen e n refl (none-map (bext_reported b) _ h),
      other (codes "fmt ") refl,
      other (codes "data") refl,
      other (codes "cue ") refl,
    ) refl
facts_push b seen e Data n h =
    let other = λ (i : List ℕ) (f : reading.is_id (codes "data") i ≡ false). apart i (codes "data") seen e n f in
    rw (
      joins (codes "data") seen e n refl (none-map samples_reported _ h),
      other (codes "fmt ") refl,
      other (codes "bext") refl,
      other (codes "cue ") refl,
    ) refl
facts_push b seen e Cue n h =
    let other = λ (i : List ℕ) (f : reading.is_id (codes "cue ") i ≡ false). apart i (codes "cue ") seen e n f in
    rw (
      joins (codes "cue ") seen e n refl (none-map (cues_reported b) _ h),
      other (codes "fmt ") refl,
      other (codes "bext") refl,
      other (codes "data") refl,
    ) refl
facts_push b seen e Other n h =
    rw (
      other_push (codes "fmt ") seen e n.0,
      other_push (codes "bext") seen e n.1,
      other_push (codes "data") seen e n.2,
      other_push (codes "cue ") seen e n.3,
    ) refl

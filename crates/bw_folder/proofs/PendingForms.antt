-- What is pending of names, as journals are opened, written and closed.
use Rattle.std.proofs.Common.{◌≡◌, ◌∙◌, ℕ, zero, suc, ◌<◌, List, [], ◌∷◌, ◌++◌, Bool, true, false, cond, Option, Some, None}
use Rattle.std.proofs.Common.{length, get_or, refl, inl, sym, ap, subst, arith, not, set, ◌||◌}
use Rattle.std.specs.Prelude.{option_map, unwrap_or, is_some, filter, IfSome, IfNone}
use Rattle.std.specs.Option.{option_or}
use Rattle.std.specs.List.{find, position, list_any, HoldsAt}
use Rattle.std.specs.Str.{bytes_eq}
use Rattle.std.proofs.lemmas.List.Folds.{find-append}
use Rattle.std.proofs.lemmas.List.Quantifiers.{position-Some}
use Rattle.bw_model.proofs.BookLemmas.{same_name, name_refl}
use Rattle.bw_disk.proofs.MemoryDisks.{find_some}
use Rattle.bw_folder.specs.declared.journal.OpenJournal.{OpenJournal}
use Rattle.bw_folder.specs.PendingNotes.{UnwrittenNotes, no_pending, unwritten_at, pendings, unwritten_of, waits}
use Rattle.bw_folder.specs.PendingNotes.{KeepsPending, HoldsPending, awaits_in, noted_with}
use Rattle.bw_folder.proofs.PendingLaws.{noted_idle, held}

-- the value of what is found
abbrev value_or : Option (List ℕ × UnwrittenNotes) → UnwrittenNotes
value_or o = unwrap_or (option_map (λ (it : List ℕ × UnwrittenNotes). it.1) o) no_pending

-- of a list that begins with this name
pub pending_first : (k : List ℕ) (p : UnwrittenNotes) (all : List (List ℕ × UnwrittenNotes)) (n : List ℕ) →
    unwritten_of ((k, p) ∷ all) n ≡ cond (bytes_eq k n) p (unwritten_of all n)
pending_first k p all n = go (bytes_eq k n)
  where
    go : (b : Bool) → value_or (cond b (Some (k, p)) (find (λ (it : List ℕ × UnwrittenNotes). bytes_eq it.0 n) all))
        ≡ cond b p (unwritten_of all n)
    go true = refl
    go false = refl

-- one more name of which nothing is pending
pub pending_pushed : (all : List (List ℕ × UnwrittenNotes)) (k : List ℕ) (p : UnwrittenNotes) → p ≡ no_pending →
    KeepsPending all (all ++ (k, p) ∷ [])
pending_pushed all k p none n =
    ap value_or (find-append (λ (it : List ℕ × UnwrittenNotes). bytes_eq it.0 n) all ((k, p) ∷ []))
    ∙ go (find (λ (it : List ℕ × UnwrittenNotes). bytes_eq it.0 n) all) (bytes_eq k n)
  where
    go : (o : Option (List ℕ × UnwrittenNotes)) (b : Bool) → value_or (option_or o (cond b (Some (k, p)) None)) ≡ value_or o
    go (Some it) b = refl
    go None true = none
    go None false = refl

-- no journal of the name is open
pub pending_none : {F : Type 0} (js : List (OpenJournal F)) (name : List ℕ) →
    is_some (position (λ (j : OpenJournal F). bytes_eq j.name name) js) ≡ false →
    unwritten_of (pendings js) name ≡ no_pending
pending_none {F} js name none = from_find (find (λ (it : List ℕ × UnwrittenNotes). bytes_eq it.0 name) (pendings js)) found
  where
    from_find : (o : Option (List ℕ × UnwrittenNotes)) → is_some o ≡ false → value_or o ≡ no_pending
    from_find None e = refl
    from_find (Some it) e = absurd cc

    mapped : (xs : List (OpenJournal F)) → is_some (find (λ (it : List ℕ × UnwrittenNotes). bytes_eq it.0 name) (pendings xs))
        ≡ is_some (find (λ (j : OpenJournal F). bytes_eq j.name name) xs)
    mapped [] = refl
    mapped (x ∷ xs) = go (bytes_eq x.name name) (mapped xs)
      where
        go : (b : Bool) → is_some (find (λ (it : List ℕ × UnwrittenNotes). bytes_eq it.0 name) (pendings xs))
            ≡ is_some (find (λ (j : OpenJournal F). bytes_eq j.name name) xs) →
            is_some (cond b (Some (x.name, unwritten_at x)) (find (λ (it : List ℕ × UnwrittenNotes). bytes_eq it.0 name) (pendings xs)))
            ≡ is_some (cond b (Some x) (find (λ (j : OpenJournal F). bytes_eq j.name name) xs))
        go true e = refl
        go false e = e

    found : is_some (find (λ (it : List ℕ × UnwrittenNotes). bytes_eq it.0 name) (pendings js)) ≡ false
    found = mapped js ∙ find_some (λ (j : OpenJournal F). bytes_eq j.name name) js ∙ none

-- at these places, from the first one on, are other names, and at the last one this
abbrev IsFirst : (F : Type 0) → List ℕ → List (OpenJournal F) → ℕ → OpenJournal F → Type 0
IsFirst F name js i d = (i < length js) × (bytes_eq (get_or js i d).name name ≡ true)
    × ((k : ℕ) → k < i → bytes_eq (get_or js k d).name name ≡ false)

module _ {F : Type 0} (name : List ℕ) where
  -- what is pending of a name is what is at its place
  at_first : (js : List (OpenJournal F)) (i : ℕ) (d : OpenJournal F) → IsFirst F name js i d →
      unwritten_of (pendings js) name ≡ unwritten_at (get_or js i d)
  at_first [] i d (less, is, others) = absurd (omega (arith, less))
  at_first (x ∷ xs) zero d (less, is, others) =
      pending_first x.name (unwritten_at x) (pendings xs) name
      ∙ ap (λ (b : Bool). cond b (unwritten_at x) (unwritten_of (pendings xs) name)) is
  at_first (x ∷ xs) (suc i) d (less, is, others) =
      let there : IsFirst F name xs i d = (omega (arith, less), is, λ k lt. others (suc k) (omega (arith, lt))) in
      pending_first x.name (unwritten_at x) (pendings xs) name
      ∙ ap (λ (b : Bool). cond b (unwritten_at x) (unwritten_of (pendings xs) name)) (others 0 (omega arith))
      ∙ at_first xs i d there

  -- and after another of the same name took its place
  set_first : (js : List (OpenJournal F)) (i : ℕ) (d j : OpenJournal F) (n : List ℕ) → j.name ≡ name →
      IsFirst F name js i d →
      unwritten_of (pendings (set js i j)) n ≡ cond (bytes_eq name n) (unwritten_at j) (unwritten_of (pendings js) n)
  set_first [] i d j n named (less, is, others) = absurd (omega (arith, less))
  set_first (x ∷ xs) zero d j n named (less, is, others) =
      pending_first j.name (unwritten_at j) (pendings xs) n
      ∙ ap (λ (k : List ℕ). cond (bytes_eq k n) (unwritten_at j) (unwritten_of (pendings xs) n)) named
      ∙ sym (ap (cond (bytes_eq name n) (unwritten_at j)) (pending_first x.name (unwritten_at x) (pendings xs) n)
      ∙ go (bytes_eq name n) (ap (λ (k : List ℕ). bytes_eq k n) (same_name x.name name is)))
    where
      go : (b : Bool) → bytes_eq x.name n ≡ b →
          cond b (unwritten_at j) (cond (bytes_eq x.name n) (unwritten_at x) (unwritten_of (pendings xs) n))
          ≡ cond b (unwritten_at j) (unwritten_of (pendings xs) n)
      go true e = refl
      go false e = ap (λ (b : Bool). cond b (unwritten_at x) (unwritten_of (pendings xs) n)) e
  set_first (x ∷ xs) (suc i) d j n named (less, is, others) =
      pending_first x.name (unwritten_at x) (pendings (set xs i j)) n
      ∙ ap (cond (bytes_eq x.name n) (unwritten_at x))
      (set_first xs i d j n named (omega (arith, less), is, λ k lt. others (suc k) (omega (arith, lt))))
      ∙ go (bytes_eq x.name n) (bytes_eq name n) refl refl
      ∙ sym (ap (cond (bytes_eq name n) (unwritten_at j)) (pending_first x.name (unwritten_at x) (pendings xs) n))
    where
      go : (b c : Bool) → bytes_eq x.name n ≡ b → bytes_eq name n ≡ c →
          cond b (unwritten_at x) (cond c (unwritten_at j) (unwritten_of (pendings xs) n))
          ≡ cond c (unwritten_at j) (cond b (unwritten_at x) (unwritten_of (pendings xs) n))
      go true true e f =
          let same : x.name ≡ name = same_name x.name n e ∙ sym (same_name name n f) in
          let other : bytes_eq x.name name ≡ false = others 0 (omega arith) in
          let own : bytes_eq x.name name ≡ true = ap (λ (k : List ℕ). bytes_eq k name) same ∙ name_refl name in
          absurd (let no : true ≡ false = sym own ∙ other in cc)
      go true false e f = refl
      go false true e f = refl
      go false false e f = refl

-- of the journal that is the first of a name
pub pending_there : {F : Type 0} (js : List (OpenJournal F)) (name : List ℕ) (i : ℕ) (d : OpenJournal F) →
    position (λ (j : OpenJournal F). bytes_eq j.name name) js ≡ Some i →
    unwritten_of (pendings js) name ≡ unwritten_at (get_or js i d)
pending_there {F} js name i d e = at_first name js i d (position-Some (λ (j : OpenJournal F). bytes_eq j.name name) js i d e)

-- after it was changed
pub pending_set : {F : Type 0} (js : List (OpenJournal F)) (name : List ℕ) (i : ℕ) (j : OpenJournal F) →
    position (λ (x : OpenJournal F). bytes_eq x.name name) js ≡ Some i → j.name ≡ name → (n : List ℕ) →
    unwritten_of (pendings (set js i j)) n ≡ cond (bytes_eq name n) (unwritten_at j) (unwritten_of (pendings js) n)
pending_set {F} js name i j e named n =
    set_first name js i j j n named (position-Some (λ (x : OpenJournal F). bytes_eq x.name name) js i j e)

-- nothing is pending of any name
pub none_waits : {F : Type 0} (js : List (OpenJournal F)) →
    list_any (λ (j : OpenJournal F). waits j.pending.items) js ≡ false → (n : List ℕ) →
    waits (unwritten_of (pendings js) n).bytes ≡ false
none_waits [] none n = refl
none_waits {F} (x ∷ xs) none n =
    ap (λ (q : UnwrittenNotes). waits q.bytes) (pending_first x.name (unwritten_at x) (pendings xs) n)
    ∙ go (bytes_eq x.name n) (waits x.pending.items) refl none (λ h. none_waits xs h n)
  where
    go : (b w : Bool) → waits x.pending.items ≡ w →
        (w || list_any (λ (j : OpenJournal F). waits j.pending.items) xs) ≡ false →
        (list_any (λ (j : OpenJournal F). waits j.pending.items) xs ≡ false → waits (unwritten_of (pendings xs) n).bytes ≡ false) →
        waits (cond b (unwritten_at x) (unwritten_of (pendings xs) n)).bytes ≡ false
    go b true e h more = absurd cc
    go true false e h more = e
    go false false e h more = more h

-- the journals of the other names
abbrev pub others_of : {F : Type 0} → List ℕ → List (OpenJournal F) → List (OpenJournal F)
others_of name js = filter (λ j. not (bytes_eq j.name name)) js

-- what is pending of a name, if it isn't this one
abbrev but : Bool → UnwrittenNotes → UnwrittenNotes
but own p = cond own no_pending p

-- once the journals of a name are closed
pub pending_left : {F : Type 0} (js : List (OpenJournal F)) (name n : List ℕ) →
    unwritten_of (pendings (others_of name js)) n ≡ but (bytes_eq name n) (unwritten_of (pendings js) n)
pending_left [] name n = empty (bytes_eq name n)
  where
    empty : (b : Bool) → no_pending ≡ but b no_pending
    empty true = refl
    empty false = refl
pending_left {F} (x ∷ xs) name n =
    go (bytes_eq x.name name) refl (pending_left xs name n)
    ∙ sym (ap (but (bytes_eq name n)) (pending_first x.name (unwritten_at x) (pendings xs) n))
  where
    go : (b : Bool) → bytes_eq x.name name ≡ b →
        unwritten_of (pendings (others_of name xs)) n ≡ but (bytes_eq name n) (unwritten_of (pendings xs) n) →
        unwritten_of (pendings (cond (not b) (x ∷ others_of name xs) (others_of name xs))) n
        ≡ but (bytes_eq name n) (cond (bytes_eq x.name n) (unwritten_at x) (unwritten_of (pendings xs) n))
    go true e rest = rest ∙ skip (bytes_eq name n) (ap (λ (k : List ℕ). bytes_eq k n) (same_name x.name name e))
      where
        skip : (c : Bool) → bytes_eq x.name n ≡ bytes_eq name n →
            but (bytes_eq name n) (unwritten_of (pendings xs) n)
            ≡ but (bytes_eq name n) (cond (bytes_eq x.name n) (unwritten_at x) (unwritten_of (pendings xs) n))
        skip c same = at (bytes_eq name n) same
          where
            at : (d : Bool) → bytes_eq x.name n ≡ d →
                but d (unwritten_of (pendings xs) n) ≡ but d (cond (bytes_eq x.name n) (unwritten_at x) (unwritten_of (pendings xs) n))
            at true f = refl
            at false f = ap (λ (b : Bool). cond b (unwritten_at x) (unwritten_of (pendings xs) n)) (sym f)
    go false e rest =
        pending_first x.name (unwritten_at x) (pendings (others_of name xs)) n
        ∙ ap (cond (bytes_eq x.name n) (unwritten_at x)) rest
        ∙ swap (bytes_eq name n) (bytes_eq x.name n) refl refl
      where
        swap : (c d : Bool) → bytes_eq name n ≡ c → bytes_eq x.name n ≡ d →
            cond d (unwritten_at x) (but c (unwritten_of (pendings xs) n)) ≡ but c (cond d (unwritten_at x) (unwritten_of (pendings xs) n))
        swap true true f h =
            let own : bytes_eq x.name name ≡ true =
            ap (bytes_eq x.name) (same_name name n f ∙ sym (same_name x.name n h)) ∙ name_refl x.name in
            absurd (let no : true ≡ false = sym own ∙ e in cc)
        swap true false f h = refl
        swap false true f h = refl
        swap false false f h = refl

-- of which nothing is pending
pub waits_left : {F : Type 0} (js : List (OpenJournal F)) (name n : List ℕ) →
    waits (unwritten_of (pendings js) name).bytes ≡ false →
    waits (unwritten_of (pendings (others_of name js)) n).bytes ≡ waits (unwritten_of (pendings js) n).bytes
waits_left js name n idle =
    ap (λ (p : UnwrittenNotes). waits p.bytes) (pending_left js name n) ∙ go (bytes_eq name n) refl
  where
    go : (b : Bool) → bytes_eq name n ≡ b →
        waits (but b (unwritten_of (pendings js) n)).bytes ≡ waits (unwritten_of (pendings js) n).bytes
    go true e = sym (ap (λ (k : List ℕ). waits (unwritten_of (pendings js) k).bytes) (sym (same_name name n e)) ∙ idle)
    go false e = refl

-- what is noted of each name stays
pub noted_left : {F : Type 0} (js : List (OpenJournal F)) (name n : List ℕ) (found : Option (List ℕ)) →
    waits (unwritten_of (pendings js) name).bytes ≡ false →
    noted_with (unwritten_of (pendings (others_of name js)) n) found ≡ noted_with (unwritten_of (pendings js) n) found
noted_left js name n found idle =
    ap (λ (p : UnwrittenNotes). noted_with p found) (pending_left js name n) ∙ go (bytes_eq name n) refl
  where
    go : (b : Bool) → bytes_eq name n ≡ b →
        noted_with (but b (unwritten_of (pendings js) n)) found ≡ noted_with (unwritten_of (pendings js) n) found
    go true e = sym (noted_idle (unwritten_of (pendings js) n) found
        (ap (λ (k : List ℕ). waits (unwritten_of (pendings js) k).bytes) (sym (same_name name n e)) ∙ idle))
    go false e = refl

-- and what is pending of them
pub holds_left : {F : Type 0} (sync : Bool) (js : List (OpenJournal F)) (name n : List ℕ) (found : Option (List ℕ)) →
    waits (unwritten_of (pendings js) name).bytes ≡ false → HoldsPending sync (unwritten_of (pendings js) n) found →
    HoldsPending sync (unwritten_of (pendings (others_of name js)) n) found
holds_left sync js name n found idle holds = go (bytes_eq name n) refl
  where
    go : (b : Bool) → bytes_eq name n ≡ b → HoldsPending sync (unwritten_of (pendings (others_of name js)) n) found
    go true e =
        subst (λ (p : UnwrittenNotes). HoldsPending sync p found)
        (sym (pending_left js name n ∙ ap (λ (b : Bool). but b (unwritten_of (pendings js) n)) e))
        (held sync no_pending found (inl refl))
    go false e =
        subst (λ (p : UnwrittenNotes). HoldsPending sync p found)
        (sym (pending_left js name n ∙ ap (λ (b : Bool). but b (unwritten_of (pendings js) n)) e)) holds

-- A journal is found by its name.

abbrev FirstOf : (F : Type 0) → List (OpenJournal F) → List ℕ → Option ℕ → Type 0
FirstOf F js name r = r ≡ position (λ (j : OpenJournal F). bytes_eq j.name name) js

pub pending_placed : {F : Type 0} (js : List (OpenJournal F)) (name : List ℕ) (r : Option ℕ) → FirstOf F js name r →
    IfSome r (λ place. HoldsAt (λ (j : OpenJournal F). unwritten_of (pendings js) name ≡ unwritten_at j) js place)
pending_placed js name None e = tt
pending_placed js name (Some i) e = λ d. pending_there js name i d (sym e)

pub pending_absent : {F : Type 0} (js : List (OpenJournal F)) (name : List ℕ) (r : Option ℕ) → FirstOf F js name r →
    IfNone r (unwritten_of (pendings js) name ≡ no_pending)
pending_absent js name None e = pending_none js name (ap is_some (sym e))
pending_absent js name (Some i) e = tt

-- bytes of some open journal are pending exactly if they are by name
pub awaits_any : {F : Type 0} (journals : List (OpenJournal F)) →
    list_any (λ (j : OpenJournal F). waits j.pending.items) journals ≡ awaits_in (pendings journals)
awaits_any [] = refl
awaits_any (j ∷ rest) = ap (λ (v : Bool). waits j.pending.items || v) (awaits_any rest)

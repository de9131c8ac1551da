-- What is noted of a name, by what is pending and what is in its file.
use Rattle.std.proofs.Common.{◌≡◌, ◌≢◌, ◌∙◌, ◌-◌, ℕ, zero, suc, ◌+◌, ◌≤◌, List, [], ◌∷◌, ◌++◌, Bool, true, false, cond}
use Rattle.std.proofs.Common.{Option, Some, None, length, take, drop, refl, sym, ap, subst, arith, inl, inr, ◌⊎◌, IsTrue}
use Rattle.std.specs.Prelude.{option_map, unwrap_or, Result, Ok, Err, OnOk, OnErr, if◌then◌else◌, min}
use Rattle.std.proofs.lemmas.List.{length-append, append-nil, append_assoc}
use Rattle.std.proofs.lemmas.List.{length-take, length-drop, length-replicate}
use Rattle.std.proofs.Math.Seq.{take-append_seam, take-append-add}
use Rattle.bw_model.proofs.Elements.{some_inj}
use Rattle.std.specs.Str.{bytes_eq}
use Rattle.bw_model.proofs.BookLemmas.{same_name, name_refl}
use Rattle.bw_model.specs.Bytes.{zeros}
use Rattle.bw_store.specs.Stores.{Written, overwritten, KeepsOthers}
use Rattle.bw_disk.specs.Volumes.{WrittenInPart, KeepsEach}
use Rattle.bw_journal.specs.JournalHeaders.{header_len}
use Rattle.bw_journal.specs.Notes.{Notes}
use Rattle.bw_folder.specs.PendingNotes.{UnwrittenNotes, waits, with_pending, noted_with, HoldsPending, IsOnDisk}
use Rattle.bw_folder.specs.PendingNotes.{length_of, length_at, noted_at, pushed, unwritten_of, KeepsPending}
use Rattle.bw_folder.proofs.Appended.{written_notes, part_notes}
use Rattle.bw_folder.proofs.JournalPaths.{journal_path_injective}
use Rattle.bw_folder.specs.Journals.{journal_path, notes_at, IsOpenAt}

-- bytes don't wait: there are none
pub no_bytes : (bytes : List ℕ) → waits bytes ≡ false → bytes ≡ []
no_bytes [] e = refl
no_bytes (b ∷ bs) e = absurd cc

-- so what is in the file is noted
pub noted_idle : (p : UnwrittenNotes) (found : Option (List ℕ)) → waits p.bytes ≡ false → noted_with p found ≡ found
noted_idle p found e = ap (λ (bytes : List ℕ). with_pending p.place bytes found) (no_bytes p.bytes e)

abbrev nothing : List ℕ
nothing = []

take_none : (n : ℕ) → take n nothing ≡ []
take_none zero = refl
take_none (suc n) = refl

-- Bytes are pending: what the file has of them.
pub record IsPending (sync : Bool) (p : UnwrittenNotes) (found : Option (List ℕ)) : Type 0 where
  pub syncs : IsTrue sync
  pub base : List ℕ
  pub count : ℕ
  pub stands : found ≡ Some (base ++ take count p.bytes)
  pub long : length base ≡ p.place
  pub headed : header_len ≤ p.place

-- so it is, or nothing is pending
abbrev pub Pends : Bool → UnwrittenNotes → Option (List ℕ) → Type 0
Pends sync p found = (p.bytes ≡ []) ⊎ IsPending sync p found

-- a prefix of bytes, by how many it has
take_length : (count : ℕ) (bytes : List ℕ) → take (length (take count bytes)) bytes ≡ take count bytes
take_length zero bytes = refl
take_length (suc n) [] = refl
take_length (suc n) (b ∷ bs) = ap (λ (z : List ℕ). b ∷ z) (take_length n bs)

pub waiting : (sync : Bool) (p : UnwrittenNotes) (found : Option (List ℕ)) → HoldsPending sync p found →
    IsTrue (waits p.bytes) → IsPending sync p found
waiting sync p found holds w =
    let h = holds w in
    let content : List ℕ = unwrap_or found [] in
    let taken : length (take p.place content) ≡ min p.place (length content) = length-take p.place content in
    record {
      syncs = h.0;
      base = take p.place content;
      count = length content - p.place;
      stands = h.3;
      long = omega (arith, taken, h.2);
      headed = h.1;
    }

pub pends : (sync : Bool) (p : UnwrittenNotes) (found : Option (List ℕ)) → HoldsPending sync p found → Pends sync p found
pends sync p found holds = go (waits p.bytes) refl
  where
    go : (w : Bool) → waits p.bytes ≡ w → Pends sync p found
    go true e = inr (waiting sync p found holds e)
    go false e = inl (no_bytes p.bytes e)

pub held : (sync : Bool) (p : UnwrittenNotes) (found : Option (List ℕ)) → Pends sync p found → HoldsPending sync p found
held sync p found (inl none) w = absurd (let no : true ≡ false = sym w ∙ ap waits none in cc)
held sync p found (inr it) w =
    subst (λ (o : Option (List ℕ)). IsTrue sync × (header_len ≤ p.place) × (p.place ≤ length (unwrap_or o []))
    × (o ≡ Some (take p.place (unwrap_or o []) ++ take (length (unwrap_or o []) - p.place) p.bytes)))
    (sym it.stands) (it.syncs, it.headed, omega (arith, long, it.long), whole)
  where
    content : List ℕ
    content = it.base ++ take it.count p.bytes

    long : length content ≡ length it.base + length (take it.count p.bytes)
    long = length-append it.base (take it.count p.bytes)

    rest : length content - p.place ≡ length (take it.count p.bytes)
    rest = omega (arith, long, it.long)

    whole : Some content ≡ Some (take p.place content ++ take (length content - p.place) p.bytes)
    whole = ap (λ (z : List ℕ). Some z) (sym (
        ap (λ (n : ℕ). take n content ++ take (length content - p.place) p.bytes) (sym it.long)
        ∙ ap (λ (z : List ℕ). z ++ take (length content - p.place) p.bytes) (take-append_seam it.base (take it.count p.bytes))
        ∙ ap (λ (n : ℕ). it.base ++ take n p.bytes) rest
        ∙ ap (λ (z : List ℕ). it.base ++ z) (take_length it.count p.bytes)))

-- what is noted where bytes are pending
pub noted_is : (place : ℕ) (bytes base : List ℕ) (count : ℕ) (found : Option (List ℕ)) →
    found ≡ Some (base ++ take count bytes) → length base ≡ place → with_pending place bytes found ≡ Some (base ++ bytes)
noted_is place [] base count found is long = is ∙ ap (λ (z : List ℕ). Some (base ++ z)) (take_none count)
noted_is place (b ∷ bs) base count found is long =
    ap (option_map (λ (content : List ℕ). take place content ++ b ∷ bs)) is
    ∙ ap (λ (n : ℕ). Some (take n (base ++ take count (b ∷ bs)) ++ b ∷ bs)) (sym long)
    ∙ ap (λ (z : List ℕ). Some (z ++ b ∷ bs)) (take-append_seam base (take count (b ∷ bs)))

pub noted_waiting : (sync : Bool) (p : UnwrittenNotes) (found : Option (List ℕ)) (it : IsPending sync p found) →
    noted_with p found ≡ Some (it.base ++ p.bytes)
noted_waiting sync p found it = noted_is p.place p.bytes it.base it.count found it.stands it.long

-- what a stop leaves of it
pub left_of : (sync : Bool) (p : UnwrittenNotes) (found : Option (List ℕ)) → Pends sync p found →
    IsOnDisk (length_of found) (noted_with p found) found
left_of sync p found (inl none) = inl (sym (ap (λ (bytes : List ℕ). with_pending p.place bytes found) none))
left_of sync p found (inr it) =
    let part : List ℕ = take it.count p.bytes in
    let long : length_of found ≡ length it.base + length part =
    ap length_of it.stands ∙ length-append it.base part in
    inr (
      it.base ++ p.bytes,
      length it.base + length part,
      noted_waiting sync p found it,
      it.stands
          ∙ ap (λ (z : List ℕ). Some (it.base ++ z)) (sym (take_length it.count p.bytes))
          ∙ ap (λ (z : List ℕ). Some z) (sym (take-append-add it.base p.bytes (length part))),
      omega (arith, long),
      omega (arith, it.long, it.headed),
    )

-- distinct names
pub not_same : (name n : List ℕ) → n ≢ name → bytes_eq name n ≡ false
not_same name n apart = go (bytes_eq name n) refl
  where
    go : (b : Bool) → bytes_eq name n ≡ b → bytes_eq name n ≡ false
    go true e = absurd (apart (sym (same_name name n e)))
    go false e = e

pub far : (folder name n : List ℕ) → bytes_eq name n ≡ false → journal_path folder n ≢ journal_path folder name
far folder name n e same =
    let own : bytes_eq name n ≡ true =
    ap (bytes_eq name) (journal_path_injective folder n name same) ∙ name_refl name in
    absurd (let no : true ≡ false = sym own ∙ e in cc)

-- Writing what is pending.

-- all of it
pub committed_all : (sync : Bool) (p : UnwrittenNotes) (found after : Option (List ℕ)) (it : IsPending sync p found) →
    Written found p.place p.bytes after → after ≡ noted_with p found
committed_all sync p found after it w =
    written_notes p.place p.bytes found after w it.base it.count it.stands it.long ∙ sym (noted_waiting sync p found it)

-- a part of it
pub committed_part : (sync : Bool) (p : UnwrittenNotes) (found after : Option (List ℕ)) (it : IsPending sync p found) →
    WrittenInPart found p.place p.bytes after → IsPending sync p after
committed_part sync p found after it w =
    let part = part_notes p.place p.bytes found after w it.base it.count it.stands it.long in
    record {
      syncs = it.syncs;
      base = it.base;
      count = part.0;
      stands = part.1;
      long = it.long;
      headed = it.headed;
    }

-- the same is noted
pub noted_part : (sync : Bool) (p : UnwrittenNotes) (found after : Option (List ℕ)) (it : IsPending sync p found)
    (w : WrittenInPart found p.place p.bytes after) → noted_with p after ≡ noted_with p found
unfolding committed_part
noted_part sync p found after it w =
    noted_waiting sync p after (committed_part sync p found after it w) ∙ sym (noted_waiting sync p found it)

-- Noting more.

none_left : (all base rest : List ℕ) → all ≡ base ++ rest → length base ≡ length all → rest ≡ []
none_left all base [] is long = refl
none_left all base (r ∷ rest) is long =
    let size : length all ≡ length base + length (r ∷ rest) = ap length is ∙ length-append base (r ∷ rest) in
    absurd (omega (arith, size, long))

-- after all that is noted
pub notes_more : (offset : ℕ) (bytes all : List ℕ) (before after : Option (List ℕ)) → before ≡ Some all →
    length all ≡ offset → after ≡ Some (all ++ bytes) → Notes offset bytes before after
notes_more offset bytes all before after is long now = λ base count was at.
    let same : all ≡ base ++ take count bytes = some_inj (sym is ∙ was) in
    let none : take count bytes ≡ [] = none_left all base (take count bytes) same (at ∙ sym long) in
    let whole : all ≡ base = same ∙ ap (λ (z : List ℕ). base ++ z) none ∙ append-nil base in
    now ∙ ap (λ (z : List ℕ). Some (z ++ bytes)) whole

-- bytes are appended to what is pending
pub pushed_noted : (offset : ℕ) (bytes : List ℕ) (writes : Bool) (p : UnwrittenNotes) (found : Option (List ℕ)) (all : List ℕ) →
    Pends true p found → noted_with p found ≡ Some all → length all ≡ offset → header_len ≤ offset →
    Pends true (pushed offset bytes writes p) found
    × (noted_with (pushed offset bytes writes p) found ≡ Some (all ++ bytes))
pushed_noted offset bytes writes p found all holds is long headed = go (waits p.bytes) refl holds
  where
    go : (w : Bool) → waits p.bytes ≡ w → Pends true p found →
        Pends true (pushed offset bytes writes p) found
        × (noted_with (pushed offset bytes writes p) found ≡ Some (all ++ bytes))
    go false e h =
        let none : p.bytes ≡ [] = no_bytes p.bytes e in
        let place : (if waits p.bytes then p.place else offset) ≡ offset = ap (λ (b : Bool). if b then p.place else offset) e in
        let stands : found ≡ Some (all ++ take 0 (p.bytes ++ bytes)) =
        sym (noted_idle p found e) ∙ is ∙ ap (λ (z : List ℕ). Some z) (sym (append-nil all)) in
        let it : IsPending true (pushed offset bytes writes p) found = record {
          syncs = refl;
          base = all;
          count = 0;
          stands = stands;
          long = long ∙ sym place;
          headed = omega (arith, headed, place);
        } in (
          inr it,
          noted_waiting true (pushed offset bytes writes p) found it
              ∙ ap (λ (z : List ℕ). Some (all ++ (z ++ bytes))) none,
        )
    go true e (inl none) = absurd (let no : waits nothing ≡ true = ap waits (sym none) ∙ e in cc)
    go true e (inr it) =
        let place : (if waits p.bytes then p.place else offset) ≡ p.place = ap (λ (b : Bool). if b then p.place else offset) e in
        let whole : it.base ++ p.bytes ≡ all = some_inj (sym (noted_waiting true p found it) ∙ is) in
        let now : IsPending true (pushed offset bytes writes p) found = record {
          syncs = refl;
          base = it.base;
          count = length (take it.count p.bytes);
          stands = it.stands ∙ ap (λ (z : List ℕ). Some (it.base ++ z)) (sym (taken it.count p.bytes));
          long = it.long ∙ sym place;
          headed = omega (arith, it.headed, place);
        } in (
          inr now,
          noted_waiting true (pushed offset bytes writes p) found now
              ∙ ap (λ (z : List ℕ). Some z) (sym (append_assoc it.base p.bytes bytes))
              ∙ ap (λ (z : List ℕ). Some (z ++ bytes)) whole,
        )
      where
        taken : (count : ℕ) (xs : List ℕ) → take (length (take count xs)) (xs ++ bytes) ≡ take count xs
        taken zero xs = refl
        taken (suc n) [] = refl
        taken (suc n) (x ∷ xs) = ap (λ (z : List ℕ). x ∷ z) (taken n xs)

-- The length of a file.

at_length : (old : List ℕ) (place : ℕ) (bytes : List ℕ) → length old ≤ length (overwritten old place bytes)
at_length old place [] = omega arith
at_length old place (b ∷ bs) =
    let bytes = b ∷ bs in
    let head = take place old ++ zeros (place - length old) in
    let tail = drop (place + length bytes) old in
    let all : length ((head ++ bytes) ++ tail) ≡ length (head ++ bytes) + length tail = length-append (head ++ bytes) tail in
    let front : length (head ++ bytes) ≡ length head + length bytes = length-append head bytes in
    let first : length head ≡ length (take place old) + length (zeros (place - length old)) =
    length-append (take place old) (zeros (place - length old)) in
    let taken : length (take place old) ≡ min place (length old) = length-take place old in
    let gap : length (zeros (place - length old)) ≡ place - length old = length-replicate (place - length old) 0 in
    let left : length tail ≡ length old - (place + length bytes) = length-drop (place + length bytes) old in
    omega (arith, all, front, first, taken, gap, left)

-- a write makes no file shorter
pub grown : (before after : Option (List ℕ)) (place : ℕ) (bytes : List ℕ) → Written before place bytes after →
    length_of before ≤ length_of after
grown before after place bytes w =
    let long : length_of before ≡ length w.0 = ap length_of w.1 in
    let later : length_of after ≡ length (overwritten w.0 place bytes) = ap length_of w.2 in
    let more : length w.0 ≤ length (overwritten w.0 place bytes) = at_length w.0 place bytes in
    omega (arith, long, later, more)

pub grown_in_part : (before after : Option (List ℕ)) (place : ℕ) (bytes : List ℕ) → WrittenInPart before place bytes after →
    length_of before ≤ length_of after
grown_in_part None after place bytes w = omega arith
grown_in_part (Some old) after place bytes w =
    let later : length_of after ≡ length (overwritten old place (take w.0 bytes)) = ap length_of w.1 in
    let more : length old ≤ length (overwritten old place (take w.0 bytes)) = at_length old place (take w.0 bytes) in
    omega (arith, later, more)

-- nor does opening one, or making it
pub grown_open : (before after : Option (List ℕ)) → IsOpenAt before after → length_of before ≤ length_of after
grown_open before after (inl same) = let long : length_of after ≡ length_of before = ap length_of same in omega (arith, long)
grown_open before after (inr (none, made)) = let long : length_of before ≡ 0 = ap length_of none in omega (arith, long)

-- whatever a write returns
pub grown_by : {T E : Type 0} (r : Result T E) (before after : Option (List ℕ)) (place : ℕ) (bytes : List ℕ) →
    OnOk r (Written before place bytes after) → OnErr r (WrittenInPart before place bytes after) →
    length_of before ≤ length_of after
grown_by (Ok x) before after place bytes w part = grown before after place bytes w
grown_by (Err e) before after place bytes w part = grown_in_part before after place bytes part

-- Of all names.

abbrev Contents : Type 0
Contents = List ℕ → Option (List ℕ)

-- a name's journal has what it had, or this one grew
pub grown_each : (folder name : List ℕ) (before after : Contents) →
    KeepsOthers before after (journal_path folder name) →
    length_of (before (journal_path folder name)) ≤ length_of (after (journal_path folder name)) →
    (n : List ℕ) → length_at before folder n ≤ length_at after folder n
grown_each folder name before after others grows n = go (bytes_eq name n) refl
  where
    go : (b : Bool) → bytes_eq name n ≡ b → length_at before folder n ≤ length_at after folder n
    go true e = subst (λ (k : List ℕ). length_at before folder k ≤ length_at after folder k) (same_name name n e) grows
    go false e =
        let long : length_at after folder n ≡ length_at before folder n =
        ap length_of (others (journal_path folder n) (far folder name n e)) in
        omega (arith, long)

-- what each path has stays
pub grown_same : (folder : List ℕ) (before after : Contents) → KeepsEach before after → (n : List ℕ) →
    length_at before folder n ≤ length_at after folder n
grown_same folder before after same n =
    let long : length_at after folder n ≡ length_at before folder n = ap length_of (same (journal_path folder n)) in
    omega (arith, long)

-- What is pending goes on to be so.

-- if neither it nor any journal changes
pub holds_same : (sync : Bool) (all all' : List (List ℕ × UnwrittenNotes)) (folder : List ℕ) (before after : Contents) →
    KeepsPending all all' → ((n : List ℕ) → notes_at after folder n ≡ notes_at before folder n) →
    ((n : List ℕ) → HoldsPending sync (unwritten_of all n) (notes_at before folder n)) → (n : List ℕ) →
    HoldsPending sync (unwritten_of all' n) (notes_at after folder n)
holds_same sync all all' folder before after pending same holds n =
    subst (λ (p : UnwrittenNotes). HoldsPending sync p (notes_at after folder n)) (sym (pending n))
    (subst (HoldsPending sync (unwritten_of all n)) (sym (same n)) (holds n))

-- if only the journal of a name changes of which nothing is pending
pub holds_beside : (sync : Bool) (all all' : List (List ℕ × UnwrittenNotes)) (folder name : List ℕ) (before after : Contents) →
    KeepsPending all all' → KeepsOthers before after (journal_path folder name) →
    waits (unwritten_of all name).bytes ≡ false →
    ((n : List ℕ) → HoldsPending sync (unwritten_of all n) (notes_at before folder n)) → (n : List ℕ) →
    HoldsPending sync (unwritten_of all' n) (notes_at after folder n)
holds_beside sync all all' folder name before after pending others idle holds n = go (bytes_eq name n) refl
  where
    go : (b : Bool) → bytes_eq name n ≡ b → HoldsPending sync (unwritten_of all' n) (notes_at after folder n)
    go true e = held sync (unwritten_of all' n) (notes_at after folder n)
        (inl (ap (λ (p : UnwrittenNotes). p.bytes) (pending n ∙ ap (unwritten_of all) (sym (same_name name n e)))
        ∙ no_bytes (unwritten_of all name).bytes idle))
    go false e =
        subst (λ (p : UnwrittenNotes). HoldsPending sync p (notes_at after folder n)) (sym (pending n))
        (subst (HoldsPending sync (unwritten_of all n)) (sym (others (journal_path folder n) (far folder name n e))) (holds n))

-- if what is pending of a name changes, or its journal
pub holds_changed : (sync : Bool) (all all' : List (List ℕ × UnwrittenNotes)) (folder name : List ℕ) (p : UnwrittenNotes)
    (before after : Contents) → ((n : List ℕ) → unwritten_of all' n ≡ cond (bytes_eq name n) p (unwritten_of all n)) →
    KeepsOthers before after (journal_path folder name) → HoldsPending sync p (notes_at after folder name) →
    ((n : List ℕ) → HoldsPending sync (unwritten_of all n) (notes_at before folder n)) → (n : List ℕ) →
    HoldsPending sync (unwritten_of all' n) (notes_at after folder n)
holds_changed sync all all' folder name p before after is others own holds n = go (bytes_eq name n) refl
  where
    go : (b : Bool) → bytes_eq name n ≡ b → HoldsPending sync (unwritten_of all' n) (notes_at after folder n)
    go true e =
        subst (λ (q : UnwrittenNotes). HoldsPending sync q (notes_at after folder n))
        (sym (is n ∙ ap (λ (b : Bool). cond b p (unwritten_of all n)) e))
        (subst (λ (k : List ℕ). HoldsPending sync p (notes_at after folder k)) (same_name name n e) own)
    go false e =
        subst (λ (q : UnwrittenNotes). HoldsPending sync q (notes_at after folder n))
        (sym (is n ∙ ap (λ (b : Bool). cond b p (unwritten_of all n)) e))
        (subst (HoldsPending sync (unwritten_of all n)) (sym (others (journal_path folder n) (far folder name n e))) (holds n))

-- What is noted of each other name.
pub noted_others : (all all' : List (List ℕ × UnwrittenNotes)) (folder name : List ℕ) (p : UnwrittenNotes) (before after : Contents) →
    ((n : List ℕ) → unwritten_of all' n ≡ cond (bytes_eq name n) p (unwritten_of all n)) →
    KeepsOthers before after (journal_path folder name) →
    KeepsOthers (noted_at all before folder) (noted_at all' after folder) name
noted_others all all' folder name p before after is others n apart =
    ap (λ (q : UnwrittenNotes). noted_with q (notes_at after folder n))
    (is n ∙ ap (λ (b : Bool). cond b p (unwritten_of all n)) (not_same name n apart))
    ∙ ap (noted_with (unwritten_of all n)) (others (journal_path folder n) (far folder name n (not_same name n apart)))

-- and where nothing pending changes
pub noted_beside : (all all' : List (List ℕ × UnwrittenNotes)) (folder name : List ℕ) (before after : Contents) →
    KeepsPending all all' → KeepsOthers before after (journal_path folder name) →
    KeepsOthers (noted_at all before folder) (noted_at all' after folder) name
noted_beside all all' folder name before after pending others n apart =
    ap (λ (q : UnwrittenNotes). noted_with q (notes_at after folder n)) (pending n)
    ∙ ap (noted_with (unwritten_of all n)) (others (journal_path folder n) (far folder name n (not_same name n apart)))

pub noted_same : (all all' : List (List ℕ × UnwrittenNotes)) (folder : List ℕ) (before after : Contents) →
    KeepsPending all all' → ((n : List ℕ) → notes_at after folder n ≡ notes_at before folder n) → (n : List ℕ) →
    noted_at all' after folder n ≡ noted_at all before folder n
noted_same all all' folder before after pending same n =
    ap (λ (q : UnwrittenNotes). noted_with q (notes_at after folder n)) (pending n)
    ∙ ap (noted_with (unwritten_of all n)) (same n)

-- Names in the files of a folder, and what holds of a result.
use Rattle.std.proofs.Common.{◌≡◌, ◌⊎◌, inl, inr, ℕ, zero, suc, ◌+◌, ◌<◌, ◌≤◌, List, [], ◌∷◌, ◌++◌, length, take}
use Rattle.std.proofs.Common.{Option, Some, None, sym, ◌∙◌, ap, subst, arith, IsTrue}
use Rattle.std.specs.Prelude.{codes, IsSome, Result, Ok, Err, IfOk, IfSome, get_or}
use Rattle.std.specs.Option.{SomeIff}
use Rattle.std.specs.List.{All, Contains}
use Rattle.std.proofs.lemmas.List.{take_all}
use Rattle.std.proofs.lemmas.List.Elements.{Contains-append_cases}
use Rattle.std.proofs.lemmas.Grind.{take_at_read}
use Rattle.bw_model.specs.Wire.{is_name}
use Rattle.bw_disk.specs.Volumes.{Lists, is_listed, in_folder}
use Rattle.bw_recovery.specs.FoundNames.{ListsJournals, AddsName}
use Rattle.bw_recovery.proofs.PathLemmas.{path_listed}
use Rattle.bw_recovery.proofs.NameBytes.{journal_is_listed, journal_is_utf8}

-- what holds of an option's value
pub of_some : {A : Type 0} (o : Option A) (x : A) (P : A → Type 0) → o ≡ Some x → IfSome o P → P x
of_some None x P e h = absurd (none_some e)
  where
    none_some : None ≡ Some x → ⊥
    none_some q = cc
of_some (Some y) x P e h = subst P (same e) h
  where
    same : Some y ≡ Some x → y ≡ x
    same q = cc

-- of a result that succeeded
pub if_ok : {T E : Type 0} (r : Result T E) (P Q : T → Type 0) → ((x : T) → P x → Q x) → IfOk r P → IfOk r Q
if_ok (Ok x) P Q f h = f x h
if_ok (Err e) P Q f h = tt

pub if_ok_both : {T E : Type 0} (r : Result T E) (P Q R : T → Type 0) → ((x : T) → P x → Q x → R x) → IfOk r P →
    IfOk r Q → IfOk r R
if_ok_both (Ok x) P Q R f p q = f x p q
if_ok_both (Err e) P Q R f p q = tt

-- the name of a file that has this stem
pub named : (ending : List ℕ) (r : Option (List ℕ)) (P : Type 0) (stem file : List ℕ) → SomeIff r P stem →
    file ≡ stem ++ ending → IfSome r (λ name. file ≡ name ++ ending)
named ending None P stem file h e = tt
named ending (Some name) P stem file h e = e ∙ ap (λ (x : List ℕ). x ++ ending) (sym h.1)

pub in_one : (x y : List ℕ) → Contains (x ∷ []) y → x ≡ y
in_one x y (zero, below, here) = here
in_one x y (suc k, below, there) = absurd (omega (arith, below))

-- one further in a list
pub contains_step : (xs : List (List ℕ)) (i : ℕ) (d y : List ℕ) → i < length xs → Contains (take (i + 1) xs) y →
    Contains (take i xs) y ⊎ (get_or xs i d ≡ y)
contains_step xs i d y below c =
    elim (Contains-append_cases (take i xs) (get_or xs i d ∷ []) y
    (subst (λ (zs : List (List ℕ)). Contains zs y) (take_at_read xs i d below).1 c)) [
      | inl among ↦ inl among
      | inr last ↦ inr (in_one (get_or xs i d) y last)
    ]

-- what follows the name in the file name of a journal
abbrev ending : List ℕ
ending = codes ".journal"

-- each name is one of a file's journal, after one more file
pub only_step : (files : List (List ℕ)) (i : ℕ) (file : List ℕ) (before after : List (List ℕ)) → i < length files →
    get_or files i file ≡ file → AddsName file before after →
    ((name : List ℕ) → Contains before name → IsTrue (is_name name) × Contains files (name ++ ending)) →
    (name : List ℕ) → Contains after name → IsTrue (is_name name) × Contains files (name ++ ending)
only_step files i file before after below at added only name c =
    elim (added.only name c) [
      | inl old ↦ only name old
      | inr new ↦ (new.0, subst (Contains files) new.1 (i, below, at))
    ]

-- and each file's name is there
pub each_step : (files : List (List ℕ)) (i : ℕ) (file : List ℕ) (before after : List (List ℕ)) → i < length files →
    get_or files i file ≡ file → AddsName file before after →
    ((name : List ℕ) → IsTrue (is_name name) → Contains (take i files) (name ++ ending) → Contains before name) →
    (name : List ℕ) → IsTrue (is_name name) → Contains (take (i + 1) files) (name ++ ending) → Contains after name
each_step files i file before after below at added each name fits c =
    elim (contains_step files i file (name ++ ending) below c) [
      | inl old ↦ added.kept name (each name fits old)
      | inr same ↦ added.next name fits (sym at ∙ same)
    ]

-- once all files were looked at, the names are those that have such a file
pub listed_end : (folder : List ℕ) (notes : List ℕ → Option (List ℕ)) (files names : List (List ℕ)) (i : ℕ) →
    length files ≤ i → Lists folder notes files →
    ((name : List ℕ) → Contains names name → IsTrue (is_name name) × Contains files (name ++ ending)) →
    ((name : List ℕ) → IsTrue (is_name name) → Contains (take i files) (name ++ ending) → Contains names name) →
    ListsJournals folder notes names
listed_end folder notes files names i all lists only each name = (
  λ c.
      let o = only name c in (
        o.0,
        subst (λ (p : List ℕ). IsSome (notes p)) (path_listed folder ending name)
            (all_among (λ n. IsTrue (is_listed n) × IsSome (notes (in_folder folder n))) files
            (name ++ ending) lists.stand o.1).1,
      ),
  λ h. each name h.0
      (subst (λ (xs : List (List ℕ)). Contains xs (name ++ ending)) (sym (take_all i files all))
      (lists.complete (name ++ ending) (journal_is_listed name h.0) (journal_is_utf8 name h.0)
      (subst (λ (p : List ℕ). IsSome (notes p)) (sym (path_listed folder ending name)) h.1))),
)
  where
    all_among : (P : List ℕ → Type 0) (xs : List (List ℕ)) (x : List ℕ) → All P xs → Contains xs x → P x
    all_among P xs x h c = subst P c.2 (h c.0 x c.1)

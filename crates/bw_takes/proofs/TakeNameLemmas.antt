-- The takes that the files of a folder belong to.
use Rattle.std.proofs.Common.{◌≡◌, inl, inr, ℕ, ◌+◌, ◌<◌, ◌≤◌, Bool, true, ◌&&◌, not, List, [], ◌∷◌, ◌++◌, length, map, take}
use Rattle.std.proofs.Common.{Option, Some, None, refl, sym, ◌∙◌, ap, subst, IsTrue}
use Rattle.std.specs.Prelude.{◌==◌, IsSome, IfSome, get_or, codes, IsUtf8}
use Rattle.std.specs.Option.{SomeIff}
use Rattle.std.specs.List.{All, Contains, list_all}
use Rattle.std.proofs.lemmas.Bool.{and_parts, and_from}
use Rattle.std.proofs.lemmas.List.{take_all, length-map, get_or-map}
use Rattle.std.proofs.lemmas.List.Folds.{list_all-append}
use Rattle.std.proofs.lemmas.Str.{IsUtf8-append, IsUtf8-take, IsUtf8-from_ascii, IsCharBoundary-at_seam}
use Rattle.std.proofs.Math.Seq.{take-append_seam}
use Rattle.bw_model.specs.Wire.{is_name}
use Rattle.bw_disk.specs.Volumes.{Lists, is_listed, in_folder}
use Rattle.bw_recovery.proofs.PathLemmas.{path_listed, wave_no_notes}
use Rattle.bw_recovery.proofs.NameBytes.{journal_is_listed, journal_is_utf8, small_ascii}
use Rattle.bw_recovery.proofs.ListForms.{contains_step}
use Rattle.bw_takes.specs.TakeNames.{IsFileOf, IsTakeIn, ListsTakes, AddsTake}

-- the text of an item stands at its index among the texts of all
pub text_at : {X : Type 0} (text : X → List ℕ) (items : List X) (k : ℕ) (item : X) (file : List ℕ) →
    k < length items → item ≡ get_or items k item → file ≡ text item →
    (k < length (map text items)) × (get_or (map text items) k file ≡ file)
text_at text items k item file below is value = (
  rw length-map below,
  get_or-map text items k item file below ∙ ap text (sym is) ∙ sym value,
)

-- the file of a name has a name in UTF-8
wave_is_utf8 : (name : List ℕ) → IsTrue (is_name name) → IsUtf8 (name ++ codes ".wav")
wave_is_utf8 name fits =
    let whole = journal_is_utf8 name fits in
    let ending : IsUtf8 (codes ".journal") = IsUtf8-from_ascii (codes ".journal") (small_ascii (codes ".journal") refl) in
    let stem : IsUtf8 name = subst IsUtf8 (take-append_seam name (codes ".journal"))
    (IsUtf8-take (name ++ codes ".journal") (length name) whole
    (IsCharBoundary-at_seam (name ++ codes ".journal") name (codes ".journal") refl ending)) in
    IsUtf8-append name (codes ".wav") stem (IsUtf8-from_ascii (codes ".wav") (small_ascii (codes ".wav") refl))

-- and is listed
wave_is_listed : (name : List ℕ) → IsTrue (is_name name) → is_listed (name ++ codes ".wav") ≡ true
wave_is_listed [] fits = absurd cc
wave_is_listed (c ∷ xs) fits =
    let p : ℕ → Bool = λ b. not (b == 47) in
    let l = and_parts (not (c == 46)) (list_all p (c ∷ xs ++ codes ".journal")) (journal_is_listed (c ∷ xs) fits) in
    let plain = and_parts (list_all p (c ∷ xs)) (list_all p (codes ".journal"))
    (sym (list_all-append p (c ∷ xs) (codes ".journal")) ∙ l.1) in
    and_from (not (c == 46)) (list_all p (c ∷ xs ++ codes ".wav")) l.0
    (list_all-append p (c ∷ xs) (codes ".wav") ∙ ap (λ (v : Bool). v && true) plain.0)

-- a file isn't both
pub no_both : (file a b : List ℕ) → file ≡ a ++ codes ".wav" → file ≡ b ++ codes ".journal" → ⊥
no_both file a b wave notes = wave_no_notes [] a b
    (sym (path_listed [] (codes ".wav") a) ∙ ap (in_folder []) (sym wave ∙ notes) ∙ path_listed [] (codes ".journal") b)

-- one further in the files
pub only_next : (files : List (List ℕ)) (i : ℕ) (file : List ℕ) (before after : List (List ℕ)) → i < length files →
    get_or files i file ≡ file → AddsTake file before after →
    ((name : List ℕ) → Contains before name → IsTrue (is_name name) × ((f : List ℕ) × IsFileOf name f × Contains files f)) →
    (name : List ℕ) → Contains after name → IsTrue (is_name name) × ((f : List ℕ) × IsFileOf name f × Contains files f)
only_next files i file before after below at added only name c = elim (added.only name c) [
  | inl old ↦ only name old
  | inr new ↦ (new.0, (file, new.1, (i, below, at)))
]

pub each_next : (files : List (List ℕ)) (i : ℕ) (file : List ℕ) (before after : List (List ℕ)) → i < length files →
    get_or files i file ≡ file → AddsTake file before after →
    ((name f : List ℕ) → IsTrue (is_name name) → IsFileOf name f → Contains (take i files) f → Contains before name) →
    (name f : List ℕ) → IsTrue (is_name name) → IsFileOf name f → Contains (take (i + 1) files) f → Contains after name
each_next files i file before after below at added each name f fits of c = elim (contains_step files i file f below c) [
  | inl old ↦ added.kept name (each name f fits of old)
  | inr same ↦ added.next name fits (subst (IsFileOf name) (sym same ∙ at) of)
]

all_among : (P : List ℕ → Type 0) (xs : List (List ℕ)) (x : List ℕ) → All P xs → Contains xs x → P x
all_among P xs x h c = subst P c.2 (h c.0 x c.1)

-- once all files were looked at, the names are those of the folder's takes
pub listed_all : (folder : List ℕ) (contents : List ℕ → Option (List ℕ)) (files names : List (List ℕ)) (i : ℕ) →
    length files ≤ i → Lists folder contents files →
    ((name : List ℕ) → Contains names name → IsTrue (is_name name) × ((f : List ℕ) × IsFileOf name f × Contains files f)) →
    ((name f : List ℕ) → IsTrue (is_name name) → IsFileOf name f → Contains (take i files) f → Contains names name) →
    ListsTakes folder contents names
listed_all folder contents files names i all lists only each name = (to, from)
  where
    stands : (ending : List ℕ) → Contains files (name ++ ending) → IsSome (contents (in_folder folder (name ++ ending)))
    stands ending c =
        (all_among (λ n. IsTrue (is_listed n) × IsSome (contents (in_folder folder n))) files (name ++ ending) lists.stand c).1

    to : Contains names name → IsTakeIn folder contents name
    to c =
        let o = only name c in (
          o.0,
          elim o.1.1 [
            | inl notes ↦ inl (subst (λ (p : List ℕ). IsSome (contents p)) (path_listed folder (codes ".journal") name)
                (stands (codes ".journal") (subst (Contains files) notes o.1.2)))
            | inr wave ↦ inr (subst (λ (p : List ℕ). IsSome (contents p)) (path_listed folder (codes ".wav") name)
                (stands (codes ".wav") (subst (Contains files) wave o.1.2)))
          ],
        )

    reached : (f : List ℕ) → Contains files f → Contains (take i files) f
    reached f c = subst (λ (xs : List (List ℕ)). Contains xs f) (sym (take_all i files all)) c

    from : IsTakeIn folder contents name → Contains names name
    from h = elim h.1 [
      | inl notes ↦ each name (name ++ codes ".journal") h.0 (inl refl) (reached (name ++ codes ".journal")
          (lists.complete (name ++ codes ".journal") (journal_is_listed name h.0) (journal_is_utf8 name h.0)
          (subst (λ (p : List ℕ). IsSome (contents p)) (sym (path_listed folder (codes ".journal") name)) notes)))
      | inr wave ↦ each name (name ++ codes ".wav") h.0 (inr refl) (reached (name ++ codes ".wav")
          (lists.complete (name ++ codes ".wav") (wave_is_listed name h.0) (wave_is_utf8 name h.0)
          (subst (λ (p : List ℕ). IsSome (contents p)) (sym (path_listed folder (codes ".wav") name)) wave)))
    ]

-- the name of a file that has this stem
pub named_wave : (r : Option (List ℕ)) (P : Type 0) (stem file : List ℕ) → SomeIff r P stem →
    file ≡ stem ++ codes ".wav" → IfSome r (λ name. file ≡ name ++ codes ".wav")
named_wave None P stem file h e = tt
named_wave (Some name) P stem file h e = e ∙ ap (λ (x : List ℕ). x ++ codes ".wav") (sym h.1)

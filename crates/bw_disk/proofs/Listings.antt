-- The names in a folder of a disk in memory, as they are gathered file by file.
use Rattle.std.proofs.Common.{◌≡◌, ◌≢◌, ◌∙◌, ◌⊎◌, inl, inr, ℕ, zero, suc, ◌<◌, List, [], ◌∷◌, ◌++◌, Bool, true, false, cond, ◌||◌}
use Rattle.std.proofs.Common.{Option, Some, None, is_some, length, take, drop, refl, sym, ap, subst, arith}
use Rattle.std.proofs.Common.{string_bytes, codes, IsTrue, IsSome, Bor, nat_eq, ◌+◌}
use Rattle.std.specs.Prelude.{IsUtf8, not, ◌==◌, ◌&&◌}
use Rattle.std.specs.List.{All, Contains, find, list_all, list_any}
use Rattle.std.specs.Option.{option_or, MatchOption}
use Rattle.std.specs.Str.{bytes_eq}
use Rattle.std.specs.Cmp.Lexicographic.{same_text, other_text, pointwise}
use Rattle.std.proofs.Math.Seq.{take-append_seam, take-suc}
use Rattle.std.proofs.Common.{map, get_or}
use Rattle.std.proofs.lemmas.List.{append_assoc, append_cancel_left, take-append-drop, map-append}
use Rattle.std.proofs.lemmas.Map.Views.{Contains-from_any}
use Rattle.std.proofs.lemmas.List.Elements.{All-nil, All-push, Contains-append_left, Contains-append_right, Contains-append_cases}
use Rattle.std.proofs.lemmas.List.Folds.{find-append}
use Rattle.std.proofs.lemmas.Slice.Eq.{bytes_eq-Decides}
use Rattle.bw_disk.specs.declared.memory_disk.StoredFile.{StoredFile}
use Rattle.bw_disk.specs.MemoryDisks.{stands_at, content_at, IsNameIn, AddsListed}
use Rattle.bw_disk.specs.Volumes.{in_folder, is_listed, AreDistinct, Lists}
use Rattle.bw_disk.proofs.MemoryDisks.{content_under}

-- what bytes have after others
pub begins : (r : Option (Bor (List ℕ))) (bytes first : List ℕ) →
    MatchOption r (pointwise nat_eq (take (length first) bytes) first ≡ false)
    (λ x. (pointwise nat_eq (take (length first) bytes) first ≡ true) × (x.now ≡ drop (length first) bytes)
    × (length x.now + length first ≡ length bytes)) →
    MatchOption r ((rest : List ℕ) → bytes ≢ first ++ rest) (λ rest. bytes ≡ first ++ rest.now)
begins (Some x) bytes first h =
    sym (take-append-drop (length first) bytes)
    ∙ ap (λ (w : List ℕ). w ++ drop (length first) bytes) (same_text (take (length first) bytes) first (sym h.0))
    ∙ ap (λ (w : List ℕ). first ++ w) (sym h.1)
begins None bytes first h = λ rest e.
    other_text (take (length first) bytes) first (sym h) (ap (take (length first)) e ∙ take-append_seam first rest)

pub in_folder_is : (folder name : List ℕ) → in_folder folder name ≡ folder ++ (codes "/" ++ name)
unfolding in_folder
in_folder_is folder name = append_assoc folder (codes "/") name

pub in_folder_injective : (folder a b : List ℕ) → in_folder folder a ≡ in_folder folder b → a ≡ b
unfolding in_folder
in_folder_injective folder a b e = append_cancel_left (folder ++ codes "/") a b e

-- a listed name, by its bytes
pub listed_by : (name : List ℕ) (first : ℕ) (rest : List ℕ) → name ≡ first ∷ rest → (first == 46) ≡ false →
    list_all (λ b. not (b == 47)) name ≡ is_listed name
listed_by name first rest is ne =
    subst (λ (n : List ℕ). list_all (λ b. not (b == 47)) n ≡ is_listed n) (sym is)
    (sym (ap (λ (v : Bool). not v && list_all (λ b. not (b == 47)) (first ∷ rest)) ne))

or_cases : (a b : Bool) → (a || b) ≡ true → (a ≡ true) ⊎ (b ≡ true)
or_cases true b e = inl refl
or_cases false b e = inr e

or_left : (a b : Bool) → a ≡ true → (a || b) ≡ true
or_left true b e = refl
or_left false b e = cc

or_right : (a b : Bool) → b ≡ true → (a || b) ≡ true
or_right true b e = refl
or_right false b e = e

-- something is at a path once one more file is there
some_pushed : (files : List StoredFile) (file : StoredFile) (path : List ℕ) →
    is_some (content_at (files ++ file ∷ []) path) ≡ (is_some (content_at files path) || stands_at path file)
some_pushed files file path =
    ap (λ (o : Option StoredFile). is_some (content_under o)) (find-append (stands_at path) files (file ∷ []))
    ∙ go (find (stands_at path) files) (stands_at path file)
  where
    go : (o : Option StoredFile) (b : Bool) →
        is_some (content_under (option_or o (cond b (Some file) None))) ≡ (is_some (content_under o) || b)
    go (Some f) b = refl
    go None true = refl
    go None false = refl

alone : {X : Type 0} (n x : X) → Contains (n ∷ []) x → n ≡ x
alone n x (zero, small, is) = is
alone n x (suc k, small, is) = absurd (omega (arith, small))

only : {X : Type 0} (n : X) → Contains (n ∷ []) n
only n = (0, omega arith, refl)

distinct_pushed : (names : List (List ℕ)) (n : List ℕ) → AreDistinct names → (Contains names n → ⊥) →
    AreDistinct (names ++ n ∷ [])
distinct_pushed [] n d new = (new, tt)
distinct_pushed (x ∷ xs) n d new = (
  λ c. apart (Contains-append_cases xs (n ∷ []) x c),
  distinct_pushed xs n d.1 (λ c. new (Contains-append_right (x ∷ []) xs n c)),
)
  where
    apart : Contains xs x ⊎ Contains (n ∷ []) x → ⊥
    apart (inl c) = d.0 c
    apart (inr c) = new (0, omega arith, sym (alone n x c))

pub nothing_listed : (folder : List ℕ) → Lists folder (content_at []) []
nothing_listed folder = record {
  stand = All-nil (λ (name : List ℕ). IsTrue (is_listed name) × IsSome (content_at [] (in_folder folder name)));
  complete = λ name listed utf8 some. cc;
  distinct = tt;
}

module _ (folder : List ℕ) (files : List StoredFile) (file : StoredFile) (names : List (List ℕ))
    (lists : Lists folder (content_at files) names) where
  abbrev more : List StoredFile
  more = files ++ file ∷ []

  abbrev IsThere : List ℕ → Type 0
  IsThere name = IsTrue (is_listed name) × IsSome (content_at more (in_folder folder name))

  still : (path : List ℕ) → IsSome (content_at files path) → IsSome (content_at more path)
  still path some = some_pushed files file path ∙ or_left _ _ some

  stood : All IsThere names
  stood = λ k d small. ((lists.stand k d small).0, still _ (lists.stand k d small).1)

  either : (path : List ℕ) → IsSome (content_at more path) →
      IsSome (content_at files path) ⊎ (string_bytes file.path ≡ path)
  either path some = at (or_cases _ _ (sym (some_pushed files file path) ∙ some))
    where
      at : (is_some (content_at files path) ≡ true) ⊎ (stands_at path file ≡ true) →
          IsSome (content_at files path) ⊎ (string_bytes file.path ≡ path)
      at (inl e) = inl e
      at (inr e) = inr ((bytes_eq-Decides (string_bytes file.path) path).0 e)

  -- no name is added, where that of the new file is among them
  same : ((name : List ℕ) → IsTrue (is_listed name) → IsUtf8 name → string_bytes file.path ≡ in_folder folder name →
      Contains names name) → Lists folder (content_at more) names
  same own = record {
    stand = stood;
    complete = λ name listed utf8 some. at name listed utf8 (either (in_folder folder name) some);
    distinct = lists.distinct;
  }
    where
      at : (name : List ℕ) → IsTrue (is_listed name) → IsUtf8 name →
          IsSome (content_at files (in_folder folder name)) ⊎ (string_bytes file.path ≡ in_folder folder name) →
          Contains names name
      at name listed utf8 (inl some) = lists.complete name listed utf8 some
      at name listed utf8 (inr e) = own name listed utf8 e

  unlisted : IsNameIn folder (string_bytes file.path) None → Lists folder (content_at more) names
  unlisted none = same (λ name listed utf8 e. absurd (none name listed utf8 e))

  module _ (n : List ℕ) (is : string_bytes file.path ≡ in_folder folder n) (named : IsTrue (is_listed n)) where
    known : Contains names n → Lists folder (content_at more) names
    known among = same (λ name listed utf8 e.
        subst (λ (x : List ℕ). Contains names x) (in_folder_injective folder n name (sym is ∙ e)) among)

    added : (Contains names n → ⊥) → Lists folder (content_at more) (names ++ n ∷ [])
    added new = record {
      stand = All-push IsThere names n stood (
        named,
        some_pushed files file (in_folder folder n)
            ∙ or_right _ _ ((bytes_eq-Decides (string_bytes file.path) (in_folder folder n)).1 is),
      );
      complete = λ name listed utf8 some. at name listed utf8 (either (in_folder folder name) some);
      distinct = distinct_pushed names n lists.distinct new;
    }
      where
        at : (name : List ℕ) → IsTrue (is_listed name) → IsUtf8 name →
            IsSome (content_at files (in_folder folder name)) ⊎ (string_bytes file.path ≡ in_folder folder name) →
            Contains (names ++ n ∷ []) name
        at name listed utf8 (inl some) = Contains-append_left names (n ∷ []) name (lists.complete name listed utf8 some)
        at name listed utf8 (inr e) =
            Contains-append_right names (n ∷ []) name
            (subst (λ (x : List ℕ). Contains (n ∷ []) x) (in_folder_injective folder n name (sym is ∙ e)) (only n))

  -- the listing goes on
  pub lists_more : (after : List (List ℕ)) → AddsListed folder (string_bytes file.path) names after →
      Lists folder (content_at more) after
  lists_more after (None, none, keeps) = subst (Lists folder (content_at more)) (sym keeps) (unlisted none)
  lists_more after (Some n, name, inl among) =
      subst (Lists folder (content_at more)) (sym among.1) (known n name.0 name.1 among.0)
  lists_more after (Some n, name, inr new) =
      subst (Lists folder (content_at more)) (sym new.1) (added n name.0 name.1 new.0)

-- where a name in a folder can't be
pub none_after : (folder path f p : List ℕ) → f ≡ folder → p ≡ path → ((rest : List ℕ) → p ≢ f ++ rest) →
    (name : List ℕ) → path ≢ in_folder folder name
none_after folder path f p ef ep none name e =
    none (codes "/" ++ name)
    (ep ∙ e ∙ in_folder_is folder name ∙ ap (λ (x : List ℕ). x ++ (codes "/" ++ name)) (sym ef))

pub none_then : (folder path f p rest : List ℕ) → f ≡ folder → p ≡ path → p ≡ f ++ rest →
    ((name : List ℕ) → rest ≢ codes "/" ++ name) → (name : List ℕ) → path ≢ in_folder folder name
none_then folder path f p rest ef ep is none name e =
    none name
    (append_cancel_left folder rest (codes "/" ++ name)
    (ap (λ (x : List ℕ). x ++ rest) (sym ef) ∙ sym is ∙ ep ∙ e ∙ in_folder_is folder name))

-- where it is
pub named_by : (folder path f p rest bytes : List ℕ) → f ≡ folder → p ≡ path → p ≡ f ++ rest → rest ≡ codes "/"
    ++ bytes →
    path ≡ in_folder folder bytes
named_by folder path f p rest bytes ef ep is next =
    sym ep
    ∙ is
    ∙ ap (λ (x : List ℕ). x ++ rest) ef
    ∙ ap (λ (x : List ℕ). folder ++ x) next
    ∙ sym (in_folder_is folder bytes)

-- a name that a test finds among others
module _ {S : Type 0} (text : S → List ℕ) (name : List ℕ) where
  any_mapped : (names : List S) →
      list_any (λ (y : List ℕ). bytes_eq y name) (map text names) ≡ list_any (λ (k : S). bytes_eq (text k) name) names
  any_mapped [] = refl
  any_mapped (x ∷ xs) = ap (λ (b : Bool). bytes_eq (text x) name || b) (any_mapped xs)

  pub among_any : (names : List S) → list_any (λ (k : S). bytes_eq (text k) name) names ≡ true → Contains (map text names) name
  among_any names e =
      Contains-from_any {eq = λ x y. bytes_eq y x} (λ x y h. sym ((bytes_eq-Decides y x).0 h)) name (map text names)
      (any_mapped names ∙ e)

  any_among : (ks : List (List ℕ)) → Contains ks name → list_any (λ (y : List ℕ). bytes_eq y name) ks ≡ true
  any_among [] (k, small, is) = absurd (omega (arith, small))
  any_among (x ∷ xs) (zero, small, is) = or_left _ _ ((bytes_eq-Decides x name).1 is)
  any_among (x ∷ xs) (suc k, small, is) = or_right _ _ (any_among xs (k, omega (arith, small), is))

  pub none_any : (names : List S) → list_any (λ (k : S). bytes_eq (text k) name) names ≡ false →
      Contains (map text names) name → ⊥
  none_any names e among = let yes : true ≡ false = sym (any_among (map text names) among) ∙ any_mapped names ∙ e in cc

  pub pushed_text : (names : List S) (s : S) → text s ≡ name → map text (names ++ s ∷ []) ≡ map text names ++ name ∷ []
  pushed_text names s is = map-append text names (s ∷ []) ∙ ap (λ (x : List ℕ). map text names ++ x ∷ []) is

-- the files before the next place, and the one at this place
pub take_next : {X : Type 0} (xs : List X) (n : ℕ) (x : X) → n < length xs → x ≡ get_or xs n x →
    take (n + 1) xs ≡ take n xs ++ x ∷ []
take_next xs n x small is =
    let one : n + 1 ≡ suc n = omega arith in
    ap (λ m. take m xs) one ∙ take-suc xs n x small ∙ ap (λ y. take n xs ++ y ∷ []) (sym is)

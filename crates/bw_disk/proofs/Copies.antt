-- What a disk in memory has at each path as files of another are copied.
use Rattle.std.proofs.lemmas.List.{take_all}
use Rattle.std.proofs.Common.{◌≡◌, ◌<◌, ◌≤◌, ◌+◌, ℕ, List, [], ◌∷◌, ◌++◌, Bool, true, false, cond, Option, Some, None, is_some, refl, sym}
use Rattle.std.proofs.Common.{◌∙◌, ap, get_or, length, take, string_bytes}
use Rattle.std.specs.Prelude.{◌==◌, ◌&&◌}
use Rattle.std.specs.List.{find, ends_with}
use Rattle.std.specs.Option.{option_or}
use Rattle.std.specs.Str.{bytes_eq}
use Rattle.std.proofs.lemmas.List.Folds.{find-append}
use Rattle.std.proofs.lemmas.Slice.Eq.{bytes_eq-Decides}
use Rattle.bw_disk.specs.declared.memory_disk.StoredFile.{StoredFile}
use Rattle.bw_disk.specs.MemoryDisks.{stands_at, content_at, added_at, copied_at}
use Rattle.bw_disk.proofs.MemoryDisks.{content_under}
use Rattle.bw_disk.proofs.Listings.{take_next}

under_or : (a b : Option StoredFile) → content_under (option_or a b) ≡ option_or (content_under a) (content_under b)
under_or (Some x) b = refl
under_or None b = refl

under_cond : (v : Bool) (file : StoredFile) →
    content_under (cond v (Some file) None) ≡ cond v (Some file.content.items) None
under_cond true file = refl
under_cond false file = refl

-- one file more
pub content_more : (files : List StoredFile) (file : StoredFile) (path : List ℕ) →
    content_at (files ++ file ∷ []) path
    ≡ option_or (content_at files path) (cond (stands_at path file) (Some file.content.items) None)
content_more files file path =
    ap content_under (find-append (stands_at path) files (file ∷ []))
    ∙ under_or (find (stands_at path) files) (cond (stands_at path file) (Some file) None)
    ∙ ap (option_or (content_at files path)) (under_cond (stands_at path file) file)

or_none : {X : Type 0} (o : Option X) → o ≡ option_or o None
or_none None = refl
or_none (Some x) = refl

some_or : {X : Type 0} (o b : Option X) → is_some o ≡ true → o ≡ option_or o b
some_or (Some x) b e = refl
some_or None b e = cc

-- a file that isn't copied changes nothing at its own path, nor at any other
unchanged : (ending from content : List ℕ) (before : List ℕ → Option (List ℕ)) (path : List ℕ) →
    (from ≡ path → before path ≡ option_or (before path) (cond (ends_with ◌==◌ path ending) (Some content) None)) →
    before path ≡ added_at ending before from content path
unchanged ending from content before path own = go (bytes_eq from path) refl
  where
    go : (v : Bool) → bytes_eq from path ≡ v →
        before path ≡ option_or (before path) (cond (v && ends_with ◌==◌ path ending) (Some content) None)
    go false e = or_none (before path)
    go true e = own ((bytes_eq-Decides from path).0 e)

-- a file that isn't copied, since its path ends otherwise
pub not_ending : (ending from content : List ℕ) (before : List ℕ → Option (List ℕ)) (path : List ℕ) →
    ends_with ◌==◌ from ending ≡ false → before path ≡ added_at ending before from content path
not_ending ending from content before path other = unchanged ending from content before path (λ at.
    or_none (before path)
    ∙ ap (λ (b : Bool). option_or (before path) (cond b (Some content) None))
    (sym other ∙ ap (λ (p : List ℕ). ends_with ◌==◌ p ending) at))

-- or since something is there
pub not_missing : (ending from content : List ℕ) (before : List ℕ → Option (List ℕ)) (path : List ℕ) →
    is_some (before from) ≡ true → before path ≡ added_at ending before from content path
not_missing ending from content before path stands = unchanged ending from content before path (λ at.
    some_or (before path) (cond (ends_with ◌==◌ path ending) (Some content) None)
    (ap (λ (p : List ℕ). is_some (before p)) (sym at) ∙ stands))

-- a file that is copied
pub added : (ending from content : List ℕ) (before : List ℕ → Option (List ℕ)) (path : List ℕ) →
    ends_with ◌==◌ from ending ≡ true →
    option_or (before path) (cond (bytes_eq from path) (Some content) None) ≡ added_at ending before from content path
added ending from content before path so = go (bytes_eq from path) refl
  where
    go : (v : Bool) → bytes_eq from path ≡ v → option_or (before path) (cond v (Some content) None)
        ≡ option_or (before path) (cond (v && ends_with ◌==◌ path ending) (Some content) None)
    go false e = refl
    go true e =
        let at : from ≡ path = (bytes_eq-Decides from path).0 e in
        ap (λ (b : Bool). option_or (before path) (cond b (Some content) None))
        (sym so ∙ ap (λ (p : List ℕ). ends_with ◌==◌ p ending) at)

one_more : (a b : Option (List ℕ)) (e s : Bool) (c : List ℕ) →
    option_or (option_or a (cond e b None)) (cond (s && e) (Some c) None)
    ≡ option_or a (cond e (option_or b (cond s (Some c) None)) None)
one_more (Some x) b e s c = refl
one_more None (Some y) true s c = refl
one_more None None true true c = refl
one_more None None true false c = refl
one_more None b false true c = refl
one_more None b false false c = refl

-- the copies of one file more
pub copied_more : (ending : List ℕ) (before now : List ℕ → Option (List ℕ)) (files : List StoredFile) (place : ℕ)
    (file : StoredFile) (path : List ℕ) → place < length files → file ≡ get_or files place file →
    now path ≡ copied_at ending before (content_at (take place files)) path →
    added_at ending now (string_bytes file.path) file.content.items path
    ≡ copied_at ending before (content_at (take (place + 1) files)) path
copied_more ending before now files place file path within is so_far =
    ap (λ (o : Option (List ℕ)). option_or o (cond (stands_at path file && ends_with ◌==◌ path ending)
    (Some file.content.items) None)) so_far
    ∙ one_more (before path) (content_at (take place files) path) (ends_with ◌==◌ path ending) (stands_at path file)
    file.content.items
    ∙ ap (λ (o : Option (List ℕ)). option_or (before path) (cond (ends_with ◌==◌ path ending) o None))
    (sym (ap (λ (fs : List StoredFile). content_at fs path) (take_next files place file within is)
    ∙ content_more (take place files) file path))

-- a copy that was added after the others
pub copy_added : (ending from content : List ℕ) (files after : List StoredFile) (copy : StoredFile) (path : List ℕ) →
    after ≡ files ++ copy ∷ [] → string_bytes copy.path ≡ from → copy.content.items ≡ content →
    ends_with ◌==◌ from ending ≡ true → content_at after path ≡ added_at ending (content_at files) from content path
copy_added ending from content files after copy path is at has so =
    ap (λ (fs : List StoredFile). content_at fs path) is
    ∙ content_more files copy path
    ∙ ap (λ (b : List ℕ). option_or (content_at files path) (cond (bytes_eq b path) (Some copy.content.items) None)) at
    ∙ ap (λ (c : List ℕ). option_or (content_at files path) (cond (bytes_eq from path) (Some c) None)) has
    ∙ added ending from content (content_at files) path so

same_both : {X : Type 0} (o : X) (v : Bool) → o ≡ cond v o o
same_both o true = refl
same_both o false = refl

-- before any file is copied
pub copied_none : (ending : List ℕ) (before : List ℕ → Option (List ℕ)) (files : List StoredFile) (path : List ℕ) →
    before path ≡ copied_at ending before (content_at (take 0 files)) path
copied_none ending before files path =
    or_none (before path)
    ∙ ap (λ (o : Option (List ℕ)). option_or (before path) o) (same_both None (ends_with ◌==◌ path ending))

-- once all are
pub copied_all : (ending : List ℕ) (before : List ℕ → Option (List ℕ)) (files : List StoredFile) (place : ℕ)
    (path : List ℕ) → length files ≤ place →
    copied_at ending before (content_at (take place files)) path ≡ copied_at ending before (content_at files) path
copied_all ending before files place path all =
    ap (λ (fs : List StoredFile). copied_at ending before (content_at fs) path) (take_all place files all)

-- What a list of paths stands for, one more at a time.
use Rattle.std.proofs.Common.{◌≡◌, ◌∙◌, ◌++◌, ◌∷◌, [], ◌+◌, ◌-◌, ◌<◌, ◌≤◌, ℕ, Bool, List, IsTrue, Option, ap, append_assoc, arith, drop}
use Rattle.std.proofs.Common.{length, map, refl, subst, sym, take}
use mathlib.Core.Path.{fun_ext}
use Rattle.std.proofs.lemmas.List.{append-nil, get_or-map, length-map, take_all}
use Rattle.std.specs.Cmp.Lexicographic.{slice_cmp}
use Rattle.std.specs.List.Sorted.{IsSorted, IsSortedBy}
use Rattle.std.specs.Ordering.{is_lt, nat_cmp}
use Rattle.bw_disk.specs.DiskSteps.{StaysWhole}
use Rattle.bw_disk.specs.Volumes.{Lists}
use Rattle.bw_disk.specs.declared.disk.Disk.{Ghosts as DiskGhosts}
use Rattle.bw_ports.specs.declared.file_kind.FileKinds.{Ghosts as KindGhosts}
use Rattle.bw_ports.specs.declared.file_kind.FileKind.{FileKind}
use Rattle.bw_ports.specs.declared.file_kind.FileKind.TheVariants.{Device, Folder, Pipe, Regular, Socket, Unknown}
use Rattle.bw_queue.specs.FolderRecordings.{EachGives, ListsRecordings, StandsBy, StandsForPaths}
use Rattle.bw_queue.specs.QueueSides.{QueueSide, disk_reads, queue_side}

-- what one more gives is added
pub gives_more : {X : Type 0} (gives : X → List (List ℕ) → Type 0) (xs : List X) (x : X) (all own : List (List ℕ)) →
    EachGives gives xs all → gives x own → EachGives gives (xs ++ x ∷ []) (all ++ own)
gives_more gives [] x all own before new = (
  own,
  [],
  new,
  refl,
  ap (λ (l : List (List ℕ)). l ++ own) before ∙ sym (append-nil own),
)
gives_more gives (y ∷ ys) x all own before new = (
  before.0,
  before.1 ++ own,
  before.2,
  gives_more gives ys x before.1 own before.3 new,
  ap (λ (l : List (List ℕ)). l ++ own) before.4 ∙ append_assoc before.0 before.1 own,
)

-- an honest disk that stayed whole has what it had
same_contents : {D DF : Type 0} (disk : DiskGhosts D DF) (old new : D) → StaysWhole disk old new →
    IsTrue (disk.honest old) → disk.contents new ≡ disk.contents old
same_contents disk old new stays honest = fun_ext (stays.contents honest)

still_honest : {D DF : Type 0} (disk : DiskGhosts D DF) (old new : D) → StaysWhole disk old new →
    IsTrue (disk.honest old) → IsTrue (disk.honest new)
still_honest disk old new stays honest = subst IsTrue (sym stays.honest) honest

-- what it is read as, it was before
pub read_before : {D DF : Type 0} (disk : DiskGhosts D DF) (old new : D) (path : List ℕ) (found : Option (List ℕ)) →
    StaysWhole disk old new → disk_reads disk new path found → disk_reads disk old path found
read_before disk old new path found stays reads honest =
    sym (stays.contents honest path) ∙ reads (still_honest disk old new stays honest)

-- what it lists, it had before
pub listed_before : {D DF : Type 0} (disk : DiskGhosts D DF) (old new : D) (folder : List ℕ)
    (names : List (List ℕ)) → StaysWhole disk old new →
    (IsTrue (disk.honest new) → Lists folder (disk.contents new) names) → IsTrue (disk.honest old) →
    Lists folder (disk.contents old) names
listed_before disk old new folder names stays lists honest =
    subst (λ (contents : List ℕ → Option (List ℕ)). Lists folder contents names)
    (same_contents disk old new stays honest) (lists (still_honest disk old new stays honest))

-- the recordings that it lists, it had before
pub recordings_before : {F D DF : Type 0} (kinds : KindGhosts F) (files : F) (disk : DiskGhosts D DF) (old new : D)
    (folder : List ℕ) (paths : List (List ℕ)) → StaysWhole disk old new →
    ListsRecordings (queue_side kinds files disk new) folder paths →
    ListsRecordings (queue_side kinds files disk old) folder paths
recordings_before kinds files disk old new folder paths stays lists = record {
  files = lists.files;
  listed = listed_before disk old new folder lists.files stays lists.listed;
  found = lists.found;
  gives = lists.gives;
  same = lists.same;
  sorted = lists.sorted;
}

by_kind : {F D DF : Type 0} (kinds : KindGhosts F) (files : F) (disk : DiskGhosts D DF) (old new : D)
    (kind : FileKind) (path : List ℕ) (own : List (List ℕ)) → StaysWhole disk old new →
    StandsBy (queue_side kinds files disk new) kind path own → StandsBy (queue_side kinds files disk old) kind path own
by_kind kinds files disk old new Regular path own stays stands = stands
by_kind kinds files disk old new Folder path own stays stands =
    (recordings_before kinds files disk old new path own stays stands.0, stands.1)
by_kind kinds files disk old new Pipe path own stays stands = stands
by_kind kinds files disk old new Socket path own stays stands = stands
by_kind kinds files disk old new Device path own stays stands = stands
by_kind kinds files disk old new Unknown path own stays stands = stands

-- what a path stands for, it stood for before
pub stood_before : {F D DF : Type 0} (kinds : KindGhosts F) (files : F) (disk : DiskGhosts D DF) (old new : D)
    (path : List ℕ) (own : List (List ℕ)) → StaysWhole disk old new →
    StandsForPaths (queue_side kinds files disk new) path own → StandsForPaths (queue_side kinds files disk old) path own
stood_before kinds files disk old new path own stays stands =
    (stands.0, stands.1, by_kind kinds files disk old new stands.0 path own stays stands.2)

-- so many of some are all
pub all_given : {X : Type 0} (gives : List ℕ → List (List ℕ) → Type 0) (text_of : X → List ℕ) (xs : List X) (n : ℕ)
    (all : List (List ℕ)) → length xs ≤ n → EachGives gives (map text_of (take n xs)) all →
    EachGives gives (map text_of xs) all
all_given gives text_of xs n all enough are =
    subst (λ ys. EachGives gives (map text_of ys) all) (take_all n xs enough) are

-- some values in the order of their texts, as texts in order
pub sorted_texts : {X : Type 0} (text_of : X → List ℕ) (xs : List X) →
    IsSortedBy (λ x y. is_lt (slice_cmp nat_cmp (text_of x) (text_of y))) xs →
    IsSorted (slice_cmp nat_cmp) (map text_of xs)
sorted_texts text_of [] sorted k d low high = absurd (omega arith)
sorted_texts text_of (x ∷ xs) sorted k d low high =
    let inside : k + 1 < length (x ∷ xs) = simp length-map at high in
    rw (get_or-map text_of (x ∷ xs) (k + 1) x d inside, get_or-map text_of (x ∷ xs) k x d (omega arith))
    (sorted k x low inside)

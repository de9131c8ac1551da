-- What the disk has of notes, and what of them is committed.
use Rattle.std.proofs.Common.{◌≡◌, ◌⊎◌, inl, inr, ℕ, Bool, true, false, cond, ◌||◌, zero, suc, [], ◌∷◌, ◌<◌, ◌≤◌, List, Option, Some, None}
use Rattle.std.proofs.Common.{length, take, refl, sym, ◌∙◌, ap, subst, arith}
use Rattle.std.specs.Prelude.{option_map, unwrap_or}
use Rattle.std.specs.List.{find}
use Rattle.std.specs.Str.{bytes_eq}
use Rattle.std.proofs.lemmas.List.{take_all}
use Rattle.bw_model.specs.Book.{Log}
use Rattle.bw_journal.specs.JournalHeaders.{Header, header_bytes, header_len}
use Rattle.bw_journal.specs.Notes.{IsPrefixOf}
use Rattle.bw_journal.specs.NotedJournals.{journal_of}
use Rattle.bw_disk.specs.declared.disk.Disk.{Ghosts}
use Rattle.bw_folder.specs.JournalFolders.{has_pending, journal_on_disk, unwritten_in}
use Rattle.bw_folder.specs.PendingNotes.{IsOnDisk, UnwrittenNotes, awaits_in, length_of, no_pending, unwritten_of, waits, with_pending}
use Rattle.bw_folder.specs.declared.journal.FolderJournal.{FolderJournal}
use Rattle.bw_kept.specs.DiskNotes.{AreCommitted, IsCommittedName, StaysCommitted}
use Rattle.bw_kept.proofs.FolderGhosts.{folder_journal}

none_some : {A X : Type 0} {x : X} → None ≡ Some x → A
none_some e = absurd cc

some_same : {X : Type 0} {x y : X} → Some x ≡ Some y → x ≡ y
some_same e = cc

shorter : (n : ℕ) (xs : List ℕ) → length (take n xs) ≤ length xs
shorter zero xs = omega arith
shorter (suc n) [] = omega arith
shorter (suc n) (x ∷ xs) = let less : length (take n xs) ≤ length xs = shorter n xs in omega (arith, less)

-- all that is noted is committed: the disk has it
pub on_disk_all : (committed : ℕ) (notes found : Option (List ℕ)) →
    ((bytes : List ℕ) → notes ≡ Some bytes → length bytes ≤ committed) → IsOnDisk committed notes found → found ≡ notes
on_disk_all committed notes found all (inl same) = same
on_disk_all committed notes found all (inr (bytes, count, noted, is, least, begun)) =
    let most = all bytes noted in
    is ∙ ap Some (take_all count bytes (omega (arith, most, least))) ∙ sym noted

-- no more than a prefix of a header is noted: the disk has it
pub on_disk_short : (committed : ℕ) (header : List ℕ) (notes found : Option (List ℕ)) → length header ≤ header_len →
    IsPrefixOf header notes → IsOnDisk committed notes found → found ≡ notes
on_disk_short committed header notes found short p (inl same) = same
on_disk_short committed header notes found short (inl none) (inr (bytes, count, noted, is, least, begun)) =
    none_some (sym none ∙ noted)
on_disk_short committed header notes found short (inr (k, e)) (inr (bytes, count, noted, is, least, begun)) =
    let same : bytes ≡ take k header = some_same (sym noted ∙ e) in
    let most = shorter k header in
    let size : length bytes ≡ length (take k header) = ap (λ (xs : List ℕ). length xs) same in
    is ∙ ap Some (take_all count bytes (omega (arith, most, size, short, begun))) ∙ sym noted

-- with fewer bytes committed the disk may have it too
pub on_disk_less : (a b : ℕ) (notes notes' found : Option (List ℕ)) → a ≤ b → notes' ≡ notes → IsOnDisk b notes' found →
    IsOnDisk a notes found
on_disk_less a b notes notes' found more same (inl is) = inl (is ∙ same)
on_disk_less a b notes notes' found more same (inr (bytes, count, noted, is, least, begun)) =
    inr (bytes, count, sym same ∙ noted, is, omega (arith, more, least), begun)

-- What stays committed.

pub no_less : (a b : ℕ) → b ≡ a → a ≤ b
no_less a b e = omega (arith, e)

pub less_then : (a b c : ℕ) → a ≤ b → b ≤ c → a ≤ c
less_then a b c x y = omega (arith, x, y)

pub stays_after : (h : Header) (name : List ℕ) (log : Log) (a b c : ℕ) → StaysCommitted h name log a b → b ≤ c →
    StaysCommitted h name log a c
stays_after h name log a b c (inl least) more = inl (omega (arith, least, more))
stays_after h name log a b c (inr all) more = inr (λ some. let l = all some in omega (arith, l, more))

pub stays_before : (h : Header) (name : List ℕ) (log : Log) (a b c : ℕ) → a ≤ b → StaysCommitted h name log b c →
    StaysCommitted h name log a c
stays_before h name log a b c more (inl least) = inl (omega (arith, least, more))
stays_before h name log a b c more (inr all) = inr all

-- Where nothing is pending of a name, all that is noted is committed.
pub committed_name : {E H : Type 0} (K : Ghosts E H) (j : FolderJournal E H K) (name : List ℕ) → has_pending j name ≡ false →
    IsCommittedName (folder_journal K) name j
committed_name K j name none bytes e =
    go (unwritten_of (unwritten_in j) name).bytes none e
  where
    found : Option (List ℕ)
    found = journal_on_disk j name

    place : ℕ
    place = (unwritten_of (unwritten_in j) name).place

    go : (xs : List ℕ) → waits xs ≡ false → with_pending place xs found ≡ Some bytes → length bytes ≤ length_of found
    go [] none e = let same : length_of found ≡ length bytes = ap length_of e in omega (arith, same)
    go (x ∷ xs) none e = absurd cc

any_none : (all : List (List ℕ × UnwrittenNotes)) → awaits_in all ≡ false → (name : List ℕ) →
    waits (unwritten_of all name).bytes ≡ false
any_none [] none name = refl
any_none ((n, p) ∷ all) none name = go (bytes_eq n name) (waits p.bytes) refl none (λ rest. any_none all rest name)
  where
    go : (u v : Bool) → waits p.bytes ≡ v → v || awaits_in all ≡ false →
        (awaits_in all ≡ false → waits (unwritten_of all name).bytes ≡ false) →
        waits (unwrap_or (option_map (λ (it : List ℕ × UnwrittenNotes). it.1)
        (cond u (Some (n, p)) (find (λ (it : List ℕ × UnwrittenNotes). bytes_eq it.0 name) all))) no_pending).bytes ≡ false
    go true true e f rest = absurd cc
    go true false e f rest = e
    go false true e f rest = absurd cc
    go false false e f rest = rest f

-- nothing is pending of any name
pub any_committed : {E H : Type 0} (K : Ghosts E H) (j : FolderJournal E H K) → awaits_in (unwritten_in j) ≡ false →
    AreCommitted (folder_journal K) j
any_committed K j none name = committed_name K j name (any_none (unwritten_in j) none name)

pub empty_committed : {E H : Type 0} (K : Ghosts E H) (j : FolderJournal E H K) → unwritten_in j ≡ [] →
    AreCommitted (folder_journal K) j
empty_committed K j none = any_committed K j (ap awaits_in none)

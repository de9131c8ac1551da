-- What was read of a file from a place on, and entry after entry.
use Rattle.std.proofs.Common.{◌≡◌, ◌⊎◌, ℕ, suc, ◌+◌, ◌≤◌, Bool, true, false, IsTrue, List, length, take, drop, Option, Some, None}
use Rattle.std.proofs.Common.{inl, inr, refl, sym, ◌∙◌, ap, arith}
use Rattle.std.specs.Prelude.{option_map, option_and_then, ◌==◌, if◌then◌else◌}
use Rattle.std.specs.Str.{bytes_eq}
use Rattle.std.proofs.lemmas.List.{length-drop, drop-drop, take_all}
use Rattle.bw_disk.specs.declared.disk.Disk.{Ghosts}
use Rattle.bw_disk.specs.DiskSteps.{StaysWhole}
use Rattle.bw_disk.specs.Volumes.{ReadsFrom}
use Rattle.bw_disk.proofs.PrefixReads.{IsReadTo}
use Rattle.bw_journal.specs.Entries.{JournalEntry, entry_in, entry_with_len, first_content, first_entry}
use Rattle.bw_journal.specs.JournalHeaders.{header_len}
use Rattle.bw_take_files.specs.TakeSamples.{brought, entries_within, entries_of, first_changed, is_kept, samples_digest}

-- what is read past a place of a file is read of what follows that place
pub past : (content : Option (List ℕ)) (place count n more : ℕ) (rest : List ℕ) → ReadsFrom content (place + count) n more rest →
    ReadsFrom (option_map (drop place) content) count n more rest
past content place count n more rest r = record {
  found = drop place r.found;
  stands = ap (option_map (drop place)) r.stands;
  within = omega (arith, r.within, length-drop place r.found);
  copied = r.copied ∙ ap (take more) (sym (drop-drop count place r.found));
  ended = λ none. elim (r.ended none) [
    | inl full ↦ inl full
    | inr end ↦ inr (omega (arith, end, length-drop place r.found))
  ];
}

-- all that was asked for was read, or all that follows the place
pub read_whole : (content : Option (List ℕ)) (place count n : ℕ) (room : List ℕ) →
    IsReadTo (option_map (drop place) content) count room → count ≤ n →
    ((found : List ℕ) → content ≡ Some found → (count ≡ n) ⊎ (length (drop place found) ≤ count)) →
    (found : List ℕ) → content ≡ Some found → take count room ≡ take n (drop place found)
read_whole content place count n room so fits ends found is =
    let was = so.1 (drop place found) (ap (option_map (drop place)) is) in
    was.1 ∙ (elim (ends found is) [
      | inl full ↦ ap (λ (k : ℕ). take k (drop place found)) full
      | inr end ↦ take_all count (drop place found) end
          ∙ sym (take_all n (drop place found) (omega (arith, end, fits)))
    ])

-- what a file has stays, whole as its disk does
pub still_found : {D F : Type 0} (G : Ghosts D F) (old new : D) (file file' : F) (found : List ℕ) →
    StaysWhole G old new → G.path_of file' ≡ G.path_of file → IsTrue (G.honest old) →
    G.contents old (G.path_of file) ≡ Some found → G.contents new (G.path_of file') ≡ Some found
still_found G old new file file' found stays path honest is =
    ap (G.contents new) path ∙ stays.contents honest (G.path_of file) ∙ is

-- the samples of a block are there as those that its entry brought are
pub kept_by : (name found : List ℕ) (number offset len : ℕ) (e : JournalEntry) (kept : Bool) → len ≡ brought e →
    kept ≡ (if len == 0 then true else bytes_eq (samples_digest name number (take len (drop offset found))) e.digest) →
    kept ≡ is_kept name found number offset e
kept_by name found number offset len e kept same is =
    is
    ∙ ap (λ (n : ℕ). if n == 0 then true else bytes_eq (samples_digest name number (take n (drop offset found))) e.digest)
    same

module _ (name found : List ℕ) (number place k : ℕ) (bytes : List ℕ) where
  -- one more entry, whose samples are there
  pub kept_next : (m : ℕ) (x : JournalEntry × ℕ) → k ≡ suc m → first_entry bytes ≡ Some x →
      is_kept name found number place x.0 ≡ true →
      first_changed name found number place (entries_within k bytes)
      ≡ first_changed name found (suc number) (place + brought x.0) (entries_within m (drop x.1 bytes))
  kept_next m x e first kept =
      ap (λ (n : ℕ). first_changed name found number place (entries_within n bytes)) e
      ∙ rw (first, entries_within) (rw kept refl)

  -- one more entry, whose samples aren't
  pub kept_stops : (m : ℕ) (x : JournalEntry × ℕ) → k ≡ suc m → first_entry bytes ≡ Some x →
      is_kept name found number place x.0 ≡ false →
      first_changed name found number place (entries_within k bytes) ≡ Some number
  kept_stops m x e first lost =
      ap (λ (n : ℕ). first_changed name found number place (entries_within n bytes)) e
      ∙ rw (first, entries_within) (rw lost refl)

  -- no entry more
  pub kept_ends : (m : ℕ) → k ≡ suc m → first_entry bytes ≡ None →
      first_changed name found number place (entries_within k bytes) ≡ None
  kept_ends m e first =
      ap (λ (n : ℕ). first_changed name found number place (entries_within n bytes)) e
      ∙ rw (first, entries_within) refl

  -- all entries were compared
  pub kept_all : k ≡ 0 → first_changed name found number place (entries_within k bytes) ≡ None
  kept_all e = ap (λ (n : ℕ). first_changed name found number place (entries_within n bytes)) e

-- all entries are still to be compared
pub begins_all : (name found : List ℕ) (place : ℕ) (journal : List ℕ) (k : ℕ) (rest : List ℕ) → k ≡ length journal →
    rest ≡ drop header_len journal →
    first_changed name found 0 place (entries_of journal) ≡ first_changed name found 0 place (entries_within k rest)
begins_all name found place journal k rest e same =
    ap (λ (n : ℕ). first_changed name found 0 place (entries_within n (drop header_len journal))) (sym e)
    ∙ ap (λ (b : List ℕ). first_changed name found 0 place (entries_within k b)) (sym same)

-- one entry further
pub goes_on : (name found : List ℕ) (number place k m : ℕ) (bytes : List ℕ) (x : JournalEntry × ℕ) (number' place' : ℕ)
    (rest : List ℕ) → k ≡ suc m → first_entry bytes ≡ Some x → is_kept name found number place x.0 ≡ true →
    number' ≡ suc number → place' ≡ place + brought x.0 → rest ≡ drop x.1 bytes →
    first_changed name found number place (entries_within k bytes)
    ≡ first_changed name found number' place' (entries_within m rest)
goes_on name found number place k m bytes x number' place' rest e first kept next at same =
    kept_next name found number place k bytes m x e first kept
    ∙ ap (λ (n : ℕ). first_changed name found n (place + brought x.0) (entries_within m (drop x.1 bytes))) (sym next)
    ∙ ap (λ (p : ℕ). first_changed name found number' p (entries_within m (drop x.1 bytes))) (sym at)
    ∙ ap (λ (b : List ℕ). first_changed name found number' place' (entries_within m b)) (sym same)

-- the entry at the start of bytes, by its content
pub first_read : (bytes content : List ℕ) (n : ℕ) (e : JournalEntry) → Some (content, n) ≡ first_content bytes →
    Some e ≡ entry_in content → first_entry bytes ≡ Some (e, n)
unfolding first_entry
first_read bytes content n e read known =
    ap (option_and_then entry_with_len) (sym read) ∙ ap (option_map (λ e. (e, n))) (sym known)

-- and none
pub first_none : (bytes : List ℕ) → None ≡ first_content bytes → first_entry bytes ≡ None
unfolding first_entry
first_none bytes none = ap (option_and_then entry_with_len) (sym none)

pub first_other : (bytes content : List ℕ) (n : ℕ) → Some (content, n) ≡ first_content bytes →
    None ≡ entry_in content → first_entry bytes ≡ None
unfolding first_entry
first_other bytes content n read none =
    ap (option_and_then entry_with_len) (sym read) ∙ ap (option_map (λ e. (e, n))) (sym none)

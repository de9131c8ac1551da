-- A prefix of a journal is the journal of some first numbers, and a prefix of an entry.
use Rattle.std.proofs.Common.{◌≡◌, ◌⊎◌, inl, inr, ℕ, zero, suc, ◌+◌, ◌-◌, ◌<◌, ◌≤◌, Bool, true, List, [], ◌∷◌, ◌++◌, length, take}
use Rattle.std.proofs.Common.{Option, Some, None, refl, sym, ◌∙◌, ap, arith, append_assoc, length-append}
use Rattle.std.specs.List.{list_all}
use Rattle.std.proofs.lemmas.Bool.{and_parts, cases_lt}
use Rattle.std.proofs.lemmas.List.{take_all, take-take, take-append-le, length-take}
use Rattle.std.proofs.Math.Seq.{take-append-add}
use Rattle.sha2.proofs.Facts256.{length-sha256}
use Rattle.bw_model.specs.Take.{Request}
use Rattle.bw_model.specs.Wire.{is_request}
use Rattle.bw_model.specs.Holds.{body_of}
use Rattle.bw_journal.specs.JournalHeaders.{header_bytes, header_len}
use Rattle.bw_journal.specs.Entries.{JournalEntry, sealed_entry, sealed_entries}
use Rattle.bw_journal.specs.NotedJournals.{IsCut, fits, done_entry, entries_from, PrefixesAreJournals}
use Rattle.bw_journal.proofs.Lengths.{length-header_bytes}

-- fewer bytes of an entry
pub cut_shorter : (tail : List ℕ) (k : ℕ) → IsCut tail → IsCut (take k tail)
cut_shorter tail k c = go (cases_lt k c.count)
  where
    bytes : List ℕ
    bytes = sealed_entry c.entry

    go : (k < c.count) ⊎ (c.count ≤ k) → IsCut (take k tail)
    go (inl below) = record {
      entry = c.entry;
      notable = c.notable;
      count = k;
      short = (let s = c.short in omega (arith, below, s));
      prefix = ap (take k) c.prefix ∙ take-take k c.count bytes (omega (arith, below));
    }
    go (inr above) =
        let l = ap (λ (z : List ℕ). length z) c.prefix in
        let n = length-take c.count bytes in
        record {
          entry = c.entry;
          notable = c.notable;
          count = c.count;
          short = c.short;
          prefix = take_all k tail (omega (arith, l, n, above)) ∙ c.prefix;
        }

-- a prefix of the entries from n on
record IsPrefix (existed : Bool) (s : List (Option Request)) (name : List ℕ) (n : ℕ) (rest : List (Option Request))
    (count : ℕ) (bytes : List ℕ) : Type 0 where
  kept : ℕ
  fewer : kept ≤ length rest
  each : (k : ℕ) → k ≤ length rest → length (sealed_entries (entries_from existed s name n (take k rest))) ≤ count → k ≤ kept
  tail : List ℕ
  cut : IsCut tail
  notes : bytes ≡ sealed_entries (entries_from existed s name n (take kept rest)) ++ tail

prefix_from : (existed : Bool) (s : List (Option Request)) (name : List ℕ) (n : ℕ) (rest : List (Option Request))
    (tail : List ℕ) (count : ℕ) → list_all fits rest ≡ true → IsCut tail →
    IsPrefix existed s name n rest count (take count (sealed_entries (entries_from existed s name n rest) ++ tail))
prefix_from existed s name n [] tail count h cut = record {
  kept = 0;
  fewer = omega arith;
  each = λ k low _. low;
  tail = take count tail;
  cut = cut_shorter tail count cut;
  notes = refl;
}
prefix_from existed s name n (None ∷ rest) tail count h cut = absurd cc
prefix_from existed s name n (Some r ∷ rest) tail count h cut =
    let ok = and_parts (is_request r) (list_all fits rest) h in
    go (cases_lt count (length bytes)) ok.0
    (prefix_from existed s name (suc n) rest tail (count - length (sealed_entry (done_entry existed s name n r))) ok.1 cut)
  where
    entry : JournalEntry
    entry = done_entry existed s name n r

    bytes : List ℕ
    bytes = sealed_entry entry

    others : List (Option Request) → List ℕ
    others x = sealed_entries (entries_from existed s name (suc n) x)

    entries : ℕ → List ℕ
    entries k = sealed_entries (entries_from existed s name n (take k (Some r ∷ rest)))

    none : count < length bytes → (k : ℕ) → length (entries k) ≤ count → k ≤ 0
    none below zero short = omega arith
    none below (suc k) short = let l = length-append bytes (others (take k rest)) in absurd (omega (arith, below, short, l))

    further : length bytes ≤ count → (p : IsPrefix existed s name (suc n) rest (count - length bytes)
        (take (count - length bytes) (others rest ++ tail))) →
        (k : ℕ) → k ≤ suc (length rest) → length (entries k) ≤ count → k ≤ suc p.kept
    further above p zero low short = omega arith
    further above p (suc k) low short =
        let l = length-append bytes (others (take k rest)) in
        let e = p.each k (omega (arith, low)) (omega (arith, above, short, l)) in
        omega (arith, e)

    go : (count < length bytes) ⊎ (length bytes ≤ count) → is_request r ≡ true →
        IsPrefix existed s name (suc n) rest (count - length bytes) (take (count - length bytes) (others rest ++ tail)) →
        IsPrefix existed s name n (Some r ∷ rest) count (take count ((bytes ++ others rest) ++ tail))
    go (inl below) ok later = record {
      kept = 0;
      fewer = omega arith;
      each = λ k _ short. none below k short;
      tail = take count bytes;
      cut = record {
        entry = entry;
        notable = (ok, length-sha256 (body_of name n r));
        count = count;
        short = below;
        prefix = refl;
      };
      notes = ap (take count) (append_assoc bytes (others rest) tail)
          ∙ take-append-le count bytes (others rest ++ tail) (omega (arith, below));
    }
    go (inr above) ok later =
        let past : count ≡ length bytes + (count - length bytes) = omega (arith, above) in
        record {
          kept = suc later.kept;
          fewer = (let low = later.fewer in omega (arith, low));
          each = further above later;
          tail = later.tail;
          cut = later.cut;
          notes = ap (take count) (append_assoc bytes (others rest) tail)
              ∙ ap (λ (k : ℕ). take k (bytes ++ (others rest ++ tail))) past
              ∙ take-append-add bytes (others rest ++ tail) (count - length bytes)
              ∙ ap (λ (z : List ℕ). bytes ++ z) later.notes
              ∙ sym (append_assoc bytes (others (take later.kept rest)) later.tail);
        }

pub prefixes_are_journals : PrefixesAreJournals
prefixes_are_journals h name log tail count whole cut begun = record {
  kept = p.kept;
  fewer = low;
  each = λ n fewer short. p.each n (omega (arith, fewer, whole.long))
      (let l = length-append head (entries (take n log.admitted)) in
      let e = ap (λ (x : List (Option Request)). length (entries x)) (first n fewer) in
      omega (arith, short, long, l, e));
  tail = p.tail;
  cut = p.cut;
  notes = ap (take count) (append_assoc head (entries done) tail)
      ∙ ap (λ (k : ℕ). take k (head ++ (entries done ++ tail))) past
      ∙ take-append-add head (entries done ++ tail) (count - header_len)
      ∙ ap (λ (z : List ℕ). head ++ z)
      (p.notes ∙ ap (λ (x : List (Option Request)). entries x ++ p.tail) (first p.kept low))
      ∙ sym (append_assoc head (entries (take p.kept log.admitted)) p.tail);
}
  where
    head : List ℕ
    head = header_bytes name h

    done : List (Option Request)
    done = take log.done log.admitted

    entries : List (Option Request) → List ℕ
    entries x = sealed_entries (entries_from h.existed log.admitted name 0 x)

    long : length head ≡ header_len
    long = length-header_bytes name h

    past : count ≡ length head + (count - header_len)
    past = omega (arith, long, begun)

    p : IsPrefix h.existed log.admitted name 0 done (count - header_len) (take (count - header_len) (entries done ++ tail))
    p = prefix_from h.existed log.admitted name 0 done tail (count - header_len) whole.each cut

    low : p.kept ≤ log.done
    low = omega (arith, p.fewer, whole.long)

    first : (n : ℕ) → n ≤ log.done → take n done ≡ take n log.admitted
    first n fewer = take-take n log.done log.admitted fewer

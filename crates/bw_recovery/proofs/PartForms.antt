-- What calls that may fail leave of a take's file: its samples.
use Rattle.std.proofs.Common.{◌≡◌, ◌⊎◌, inl, inr, ℕ, zero, suc, ◌+◌, ◌≤◌, Bool, true, false, List, [], ◌∷◌, ◌++◌}
use Rattle.std.proofs.Common.{length, take, drop, Option, Some, None, refl, sym, ◌∙◌, ap, arith, length-append, length-drop}
use Rattle.std.specs.Prelude.{option_map, slice_index, min, max}
use Rattle.std.proofs.lemmas.List.{take_all, take-append-drop, take-append-le, drop-append-le, length-take, append-nil}
use Rattle.bw_journal.proofs.Overwritten.{overwritten_after, overwritten_over}
use Rattle.bw_store.specs.Stores.{overwritten, Torn, Written, MayTear}
use Rattle.bw_disk.specs.Volumes.{IsCutInPart, IsCutTo, WrittenInPart, KeepsEach}
use Rattle.bw_recovery.specs.Adoptions.{with_header, shortened, MendsAround, MendsInPart, AdoptsInPart}
use Rattle.bw_recovery.specs.Changes.{KeepsSamples, MayMove, ChangesTake}
use Rattle.bw_recovery.specs.Paths.{path_with, wave_path}
use Rattle.bw_recovery.specs.declared.adoption.Mending.{Mending}
use Rattle.bw_recovery.specs.declared.adoption.Adoption.{Adoption}
use Rattle.bw_recovery.specs.declared.adoption.Adoption.TheVariants.{Keep, SetAside, Mend}

some_same : (x y : List ℕ) → Some x ≡ Some y → x ≡ y
some_same x y e = cc

-- nothing was changed
pub kept_whole : (place count : ℕ) (found : List ℕ) (after : Option (List ℕ)) → place + count ≤ length found →
    after ≡ Some found → KeepsSamples place count found after
kept_whole place count found after long is = record {
  later = found;
  stands = is;
  long = long;
  samples = refl;
  short = inl (omega arith);
}

shorter : (n m k e : ℕ) → (m ≤ n) ⊎ (m ≤ e) → (k ≤ m) ⊎ (k ≤ e) → (k ≤ n) ⊎ (k ≤ e)
shorter n m k e (inl a) (inl b) = inl (omega (arith, a, b))
shorter n m k e (inr a) (inl b) = inr (omega (arith, a, b))
shorter n m k e a (inr b) = inr b

-- one call after another
pub kept_then : (place count : ℕ) (found : List ℕ) (middle after : Option (List ℕ)) → KeepsSamples place count found middle →
    ((between : List ℕ) → middle ≡ Some between → place + count ≤ length between → KeepsSamples place count between after) →
    KeepsSamples place count found after
kept_then place count found middle after first next =
    let second = next first.later first.stands first.long in
    record {
      later = second.later;
      stands = second.stands;
      long = second.long;
      samples = second.samples ∙ first.samples;
      short = shorter (length found) (length first.later) (length second.later) (place + count + 1) first.short second.short;
    }

-- the same bytes follow a place
same_from : (place : ℕ) (xs ys : List ℕ) → length xs ≡ length ys →
    ((k : ℕ) → place ≤ k → slice_index xs k ≡ slice_index ys k) → drop place xs ≡ drop place ys
same_from zero [] [] l h = refl
same_from zero [] (y ∷ ys) l h = absurd (omega (arith, l))
same_from zero (x ∷ xs) [] l h = absurd (omega (arith, l))
same_from zero (x ∷ xs) (y ∷ ys) l h =
    let more : xs ≡ ys = same_from zero xs ys (omega (arith, l)) (λ k b. h (suc k) (omega arith)) in
    ap (λ (z : ℕ). z ∷ xs) (h 0 (omega arith)) ∙ ap (λ (zs : List ℕ). y ∷ zs) more
same_from (suc place) [] [] l h = refl
same_from (suc place) [] (y ∷ ys) l h = absurd (omega (arith, l))
same_from (suc place) (x ∷ xs) [] l h = absurd (omega (arith, l))
same_from (suc place) (x ∷ xs) (y ∷ ys) l h =
    same_from place xs ys (omega (arith, l)) (λ k b. h (suc k) (omega (arith, b)))

-- any bytes over those before the samples
pub torn_part : (place count n : ℕ) (found later : List ℕ) (after : Option (List ℕ)) → n ≤ place →
    place + count ≤ length found → Torn found 0 n later → after ≡ Some later → KeepsSamples place count found after
torn_part place count n found later after front long torn is =
    let low : length found ≤ length later = torn.no_shorter in
    let high : length later ≤ max (length found) (0 + n) = torn.no_longer in
    let same : length later ≡ length found = omega (arith, low, high, front, long) in
    record {
      later = later;
      stands = is;
      long = omega (arith, low, long);
      samples = ap (take count) (same_from place later found same (λ k b. torn.following k (omega (arith, b, front))));
      short = inl (omega (arith, same));
    }

-- a write that succeeds leaves what one that fails may
pub written_part : (place count : ℕ) (bytes found : List ℕ) (before after : Option (List ℕ)) → length bytes ≤ place →
    place + count ≤ length found → before ≡ Some found → MayTear before 0 (length bytes) after →
    KeepsSamples place count found after
written_part place count bytes found before after front long is torn =
    let t = torn.1 found is in
    torn_part place count (length bytes) found t.0 after front long t.2 t.1

-- the samples of a file to which bytes are appended
samples_before : (place count : ℕ) (found more : List ℕ) → place + count ≤ length found →
    take count (drop place (found ++ more)) ≡ take count (drop place found)
samples_before place count found more long =
    let some : place ≤ length found = omega (arith, long) in
    let len = length-drop place found in
    ap (take count) (drop-append-le place found more some)
    ∙ take-append-le count (drop place found) more (omega (arith, long, len))

-- the bytes past the samples were cut, or some of them
pub cut_part : (place count len : ℕ) (found : List ℕ) (before after : Option (List ℕ)) → place + count ≤ length found →
    place + count ≤ len → before ≡ Some found → IsCutInPart before len after → KeepsSamples place count found after
cut_part place count len found before after long past is (kept, more, e) =
    let l : length (take kept found) ≡ min kept (length found) = length-take kept found in
    let some : place + count ≤ length (take kept found) = omega (arith, l, long, past, more) in
    record {
      later = take kept found;
      stands = e ∙ ap (option_map (take kept)) is;
      long = some;
      samples = sym (samples_before place count (take kept found) (drop kept found) some)
          ∙ ap (λ (z : List ℕ). take count (drop place z)) (take-append-drop kept found);
      short = inl (omega (arith, l));
    }

-- a cut that succeeds
pub cut_whole : (before after : Option (List ℕ)) (len : ℕ) → IsCutTo before len after → IsCutInPart before len after
cut_whole before after len h = (len, omega arith, h.1)

-- none at all
pub uncut : (before after : Option (List ℕ)) (len : ℕ) → after ≡ before → IsCutInPart before len after
uncut None after len same = (len, omega arith, same)
uncut (Some found) after len same = (
  len + length found,
  omega arith,
  same ∙ ap Some (sym (take_all (len + length found) found (omega arith))),
)

-- bytes at the end of a file
overwritten_end : (found bytes : List ℕ) → overwritten found (length found) bytes ≡ found ++ bytes
overwritten_end found bytes =
    ap (λ (z : List ℕ). overwritten z (length found) bytes) (sym (append-nil found))
    ∙ overwritten_after found [] bytes
    ∙ ap (λ (z : List ℕ). found ++ z) (overwritten_over [] bytes (omega arith))

-- a byte was appended to the samples, or none
pub padded_part : (place count : ℕ) (found bytes : List ℕ) (end : ℕ) (before after : Option (List ℕ)) → length bytes ≤ 1 →
    place + count ≤ length found → length found ≤ place + count → end ≡ length found → before ≡ Some found →
    WrittenInPart before end bytes after → KeepsSamples place count found after
padded_part place count found bytes end before after few long ends at is (n, e) =
    let l = length-append found (take n bytes) in
    let few_now : length (take n bytes) ≤ 1 = (let t = length-take n bytes in omega (arith, t, few)) in
    record {
      later = found ++ take n bytes;
      stands = e ∙ ap (option_map (λ (old : List ℕ). overwritten old end (take n bytes))) is
          ∙ ap (λ (m : ℕ). Some (overwritten found m (take n bytes))) at
          ∙ ap Some (overwritten_end found (take n bytes));
      long = omega (arith, l, long);
      samples = samples_before place count found (take n bytes) long;
      short = inr (omega (arith, l, few_now, ends));
    }

-- a write of all of them
pub written_all : (before after : Option (List ℕ)) (place : ℕ) (bytes : List ℕ) → Written before place bytes after →
    WrittenInPart before place bytes after
written_all before after place bytes (old, stood, is) = (
  length bytes,
  is ∙ ap (λ (z : List ℕ). Some (overwritten old place z)) (sym (take_all (length bytes) bytes (omega arith)))
      ∙ ap (option_map (λ (o : List ℕ). overwritten o place (take (length bytes) bytes))) (sym stood),
)

-- with its header written a file is as long as it was
pub headed_length : (needed : Bool) (header found : List ℕ) → length header ≤ length found →
    length (with_header needed header found) ≡ length found
headed_length false header found h = refl
headed_length true header found h =
    let a = length-append header (drop (length header) found) in
    let d = length-drop (length header) found in
    omega (arith, a, d, h)

-- as long a file is cut to as many bytes
pub shortened_length : (cut : Option ℕ) (xs ys : List ℕ) → length xs ≡ length ys →
    length (shortened cut xs) ≡ length (shortened cut ys)
shortened_length None xs ys e = e
shortened_length (Some n) xs ys e =
    length-take n xs ∙ ap (min n) e ∙ sym (length-take n ys)

-- a file that ends with its samples, once its header is written and its end is cut
pub mended_length : (place count : ℕ) (m : Mending) (header found between : List ℕ) → MendsAround place count m header found →
    Some (shortened m.cut (with_header m.header header found)) ≡ Some between → m.pad ≡ true →
    length between ≤ place + count
mended_length place count m header found between around same pads =
    let front = around.front in
    let long = around.long in
    let l = headed_length m.header header found (omega (arith, front, long)) in
    let s = shortened_length m.cut (with_header m.header header found) found l in
    let e = ap (λ (z : List ℕ). length z) (some_same _ _ same) in
    let fits = around.pad pads in
    omega (arith, s, e, fits)

-- nothing was mended
pub unmended : (place count : ℕ) (m : Mending) (header : List ℕ) (before after : Option (List ℕ)) → after ≡ before →
    MendsInPart place count m header before after
unmended place count m header before after same found is around =
    kept_whole place count found after around.long (same ∙ is)

pub unadopted : (place count : ℕ) (a : Adoption) (header : List ℕ) (before after : Option (List ℕ)) → after ≡ before →
    AdoptsInPart place count a header before after
unadopted place count Keep header before after same = same
unadopted place count SetAside header before after same = inl same
unadopted place count (Mend m) header before after same = unmended place count m header before after same

-- nothing was changed before a file was moved, if it was
pub moves_after : (folder name : List ℕ) (A B C : List ℕ → Option (List ℕ)) → KeepsEach A B → MayMove folder name B C →
    MayMove folder name A C
moves_after folder name A B C k (inl same) = inl (λ path. same path ∙ k path)
moves_after folder name A B C k (inr a) = inr (record {
  ending = a.ending;
  torn = a.torn;
  apart = a.apart;
  free = sym (k (path_with folder a.ending name)) ∙ a.free;
  arrived = a.arrived ∙ k (wave_path folder name);
  left = a.left;
  others = λ other d e. a.others other d e ∙ k other;
})

-- so each other path has what it had, or that
pub may_change : (folder name : List ℕ) (A B : List ℕ → Option (List ℕ)) → MayMove folder name A B → ChangesTake folder name A B
may_change folder name A B (inl same) = inl (λ other apart. same other)
may_change folder name A B (inr a) = inr a

-- what it leaves under the name
pub aside_in_part : (folder name : List ℕ) (A B : List ℕ → Option (List ℕ)) → MayMove folder name A B →
    (B (wave_path folder name) ≡ A (wave_path folder name)) ⊎ (B (wave_path folder name) ≡ None)
aside_in_part folder name A B (inl same) = inl (same (wave_path folder name))
aside_in_part folder name A B (inr a) = inr a.left

-- Sections of bytes as they are read one after the other.
use Rattle.std.proofs.Common.{◌≡◌, ◌∙◌, ℕ, ◌+◌, ◌-◌, ◌≤◌, ◌<◌, List, [], ◌∷◌, ◌++◌, length, take, drop}
use Rattle.std.proofs.Common.{Option, Some, None, refl, sym, ap, arith}
use Rattle.std.specs.Prelude.{option_map, slice_index_or, slice_set}
use Rattle.std.proofs.lemmas.List.{append_assoc, drop-append-le, drop-drop, length-append, length-take-le, take-append-le}
use Rattle.std.proofs.Math.Seq.{take-add, take-append_seam, drop-append_seam}
use Rattle.bw_stream.specs.Moves.{IsRead, Keeps, Reads, Skips}
use Rattle.bw_model.proofs.Elements.{some_inj}
use Rattle.bw_repair.specs.SectionBytes.{assembled, assembled_from, padded_range}
use Rattle.bw_repair.specs.declared.left_out.section.Section.{Section}

-- what is still to come of a reader that has this left
abbrev pub coming : List ℕ → ℕ → ℕ → List Section → Option (List ℕ) → Option (List ℕ)
coming front gap size rest left = option_map (assembled_from front gap size rest) left

pub keeps_same : (a b : Option (List ℕ)) → a ≡ b → Keeps a b
keeps_same a b e xs h = sym e ∙ h

pub keeps_on : (a b c : Option (List ℕ)) → Keeps a b → Keeps b c → Keeps a c
keeps_on a b c f g xs h = g xs (f xs h)

pub reads_after : (a b : Option (List ℕ)) (most n : ℕ) (buf : List ℕ) (c : Option (List ℕ)) → Keeps a b →
    Reads b most n buf c → Reads a most n buf c
reads_after a b most n buf c f r xs h = r xs (f xs h)

-- the next section begins
head_of : (r : List Section) (d : Section) → 0 < length r → r ≡ slice_index_or r 0 d ∷ drop 1 r
head_of [] d h = absurd (omega (arith, h))
head_of (s ∷ r) d h = refl

pub begun : (front : List ℕ) (gap size : ℕ) (rest : List Section) (d : Section) (rest' : List Section)
    (left : Option (List ℕ)) → 0 < length rest → front ≡ [] → gap ≡ 0 → size ≡ 0 → rest' ≡ drop 1 rest →
    Keeps (coming front gap size rest left)
    (coming (slice_index_or rest 0 d).front (slice_index_or rest 0 d).gap (slice_index_or rest 0 d).size rest' left)
begun front gap size rest d rest' left more f0 g0 s0 r' =
    let s = slice_index_or rest 0 d in
    keeps_same _ _
    (ap (λ (z : List ℕ). coming z gap size rest left) f0
    ∙ ap (λ (n : ℕ). coming [] n size rest left) g0
    ∙ ap (λ (n : ℕ). coming [] 0 n rest left) s0
    ∙ ap (λ (r : List Section). coming [] 0 0 r left) (head_of rest d more)
    ∙ ap (λ (r : List Section). coming s.front s.gap s.size r left) (sym r'))

-- bytes before a section are passed over
passed_over : (front : List ℕ) (gap size n : ℕ) (rest : List Section) (b : List ℕ) → n ≤ gap → n ≤ length b →
    assembled_from front (gap - n) size rest (drop n b) ≡ assembled_from front gap size rest b
passed_over front gap size n rest b small there =
    let first : n + (gap - n) ≡ gap = omega (arith, small) in
    let last : n + (gap - n + size) ≡ gap + size = omega (arith, small) in
    let range : padded_range (gap - n) size (drop n b) ≡ padded_range gap size b =
    ap (λ (z : List ℕ). take size (drop (gap - n) z)) (sym (drop-append-le n b (0 ∷ []) there))
    ∙ ap (take size) (drop-drop (gap - n) n (b ++ 0 ∷ [])) ∙ ap (λ (k : ℕ). take size (drop k (b ++ 0 ∷ []))) first in
    let tail : drop (gap - n + size) (drop n b) ≡ drop (gap + size) b =
    drop-drop (gap - n + size) n b ∙ ap (λ (k : ℕ). drop k b) last in
    ap (λ (z : List ℕ). front ++ (z ++ assembled rest (drop (gap - n + size) (drop n b)))) range
    ∙ ap (λ (z : List ℕ). front ++ (padded_range gap size b ++ assembled rest z)) tail

pub skipped : (front : List ℕ) (gap size n : ℕ) (rest : List Section) (left left' : Option (List ℕ)) → n ≤ gap →
    Skips left gap n left' → Keeps (coming front gap size rest left) (coming front (gap - n) size rest left')
skipped front gap size n rest None left' small s xs h = absurd (cc)
skipped front gap size n rest (Some b) left' small s xs h =
    let q = s b refl in
    ap (option_map (assembled_from front (gap - n) size rest)) q.rest
    ∙ ap (λ (z : List ℕ). Some z) (passed_over front gap size n rest b small q.within) ∙ h

-- none of them
pub still : (front : List ℕ) (gap size n : ℕ) (rest : List Section) (left left' : Option (List ℕ)) → n ≡ 0 →
    ((b : List ℕ) → left ≡ Some b → left' ≡ Some (drop n b)) →
    Keeps (coming front gap size rest left) (coming front gap size rest left')
still front gap size n rest None left' none f xs h = absurd (cc)
still front gap size n rest (Some b) left' none f xs h =
    ap (option_map (assembled_from front gap size rest)) (f b refl ∙ ap (λ (k : ℕ). Some (drop k b)) none) ∙ h

pub kept_through : (front : List ℕ) (gap size : ℕ) (rest : List Section) (left left' : Option (List ℕ)) →
    Keeps left left' → Keeps (coming front gap size rest left) (coming front gap size rest left')
kept_through front gap size rest None left' f xs h = absurd (cc)
kept_through front gap size rest (Some b) left' f xs h =
    ap (option_map (assembled_from front gap size rest)) (f b refl) ∙ h

-- nothing is left
pub at_end : (front : List ℕ) (gap size : ℕ) (rest : List Section) (left : Option (List ℕ)) → front ≡ [] →
    size ≡ 0 → length rest ≡ 0 → Keeps (coming front gap size rest left) (Some [])
at_end front gap size (s ∷ rest) left f0 s0 r0 xs h = absurd (omega (arith, r0))
at_end front gap size [] None f0 s0 r0 xs h = absurd (cc)
at_end front gap size [] (Some b) f0 s0 r0 xs h =
    let is : front ++ (padded_range gap size b ++ []) ≡ [] =
    ap (λ (z : List ℕ). z ++ (padded_range gap size b ++ [])) f0 ∙ ap (λ (n : ℕ). padded_range gap n b ++ []) s0 in
    sym (ap (λ (z : List ℕ). Some z) is) ∙ h

pub read_none : (a b : Option (List ℕ)) (most : ℕ) (buf : List ℕ) → Keeps a b → Keeps b (Some []) →
    Reads a most 0 buf b
read_none a b most buf f g xs h = record {
  within = omega arith;
  given = refl;
  rest = f xs h;
  end = λ z w. some_inj (sym (g xs (f xs h)));
}

-- the next bytes are read
read_by : (p ys xs buf : List ℕ) (most n : ℕ) (left : Option (List ℕ)) → xs ≡ p ++ ys → length p ≡ n →
    take n buf ≡ p → 0 < n → left ≡ Some ys → IsRead xs most n buf left
read_by p ys xs buf most n left is long first some rest = record {
  within = let all : length xs ≡ length p + length ys = ap length is ∙ length-append p ys in omega (arith, all, long);
  given = first ∙ sym (ap (take n) is ∙ ap (λ (k : ℕ). take k (p ++ ys)) (sym long) ∙ take-append_seam p ys);
  rest = rest
      ∙ sym (ap (λ (z : List ℕ). Some (drop n z)) is ∙ ap (λ (k : ℕ). Some (drop k (p ++ ys))) (sym long)
      ∙ ap (λ (z : List ℕ). Some z) (drop-append_seam p ys));
  end = λ z w. absurd (omega (arith, z, some));
}

-- of a section that is given in part
parted : (size n : ℕ) (rest : List Section) (b : List ℕ) → n ≤ size → n ≤ length b →
    assembled_from [] 0 size rest b ≡ take n b ++ assembled_from [] 0 (size - n) rest (drop n b)
parted size n rest b small there =
    let all : n + (size - n) ≡ size = omega (arith, small) in
    let x = b ++ 0 ∷ [] in
    let tail = assembled rest (drop size b) in
    let range : take size x ≡ take n b ++ take (size - n) (drop n b ++ 0 ∷ []) =
    ap (λ (k : ℕ). take k x) (sym all) ∙ take-add n (size - n) x
    ∙ ap (λ (z : List ℕ). z ++ take (size - n) (drop n x)) (take-append-le n b (0 ∷ []) there)
    ∙ ap (λ (z : List ℕ). take n b ++ take (size - n) z) (drop-append-le n b (0 ∷ []) there) in
    let last : drop size b ≡ drop (0 + (size - n)) (drop n b) =
    let same : size ≡ n + (0 + (size - n)) = omega (arith, small) in
    ap (λ (k : ℕ). drop k b) same ∙ sym (drop-drop (0 + (size - n)) n b) in
    let whole : 0 + size ≡ size = omega arith in
    ap (λ (k : ℕ). take size x ++ assembled rest (drop k b)) whole
    ∙ ap (λ (z : List ℕ). z ++ tail) range
    ∙ append_assoc (take n b) (take (size - n) (drop n b ++ 0 ∷ [])) tail
    ∙ ap (λ (z : List ℕ). take n b ++ (take (size - n) (drop n b ++ 0 ∷ []) ++ assembled rest z)) last

pub range_read : (front : List ℕ) (gap size n room most : ℕ) (rest : List Section) (buf more : List ℕ)
    (left left' : Option (List ℕ)) → front ≡ [] → gap ≡ 0 → n ≤ size → 0 < n → n ≤ length buf →
    Reads left room n buf left' →
    Reads (coming front gap size rest left) most n (buf ++ more) (coming front gap (size - n) rest left')
range_read front gap size n room most rest buf more None left' f0 g0 small some fits r xs h = absurd (cc)
range_read front gap size n room most rest buf more (Some b) left' f0 g0 small some fits r xs h =
    let q = r b refl in
    let is : assembled_from front gap size rest b ≡ xs = some_inj h in
    let plain : assembled_from front gap size rest b ≡ assembled_from [] 0 size rest b =
    ap (λ (z : List ℕ). assembled_from z gap size rest b) f0 ∙ ap (λ (k : ℕ). assembled_from [] k size rest b) g0 in
    let later : assembled_from [] 0 (size - n) rest (drop n b) ≡ assembled_from front gap (size - n) rest (drop n b) =
    sym (ap (λ (z : List ℕ). assembled_from z gap (size - n) rest (drop n b)) f0
    ∙ ap (λ (k : ℕ). assembled_from [] k (size - n) rest (drop n b)) g0) in
    read_by (take n b) (assembled_from [] 0 (size - n) rest (drop n b)) xs (buf ++ more) most n
    (coming front gap (size - n) rest left')
    (sym is ∙ plain ∙ parted size n rest b small q.within) (length-take-le n b q.within)
    (take-append-le n buf more fits ∙ q.given) some
    (ap (option_map (assembled_from front gap (size - n) rest)) q.rest ∙ ap (λ (z : List ℕ). Some z) (sym later))

-- a byte that the file lacks at its end
first_set : (buf : List ℕ) → 0 < length buf → take 1 (slice_set buf 0 0) ≡ 0 ∷ []
first_set [] h = absurd (omega (arith, h))
first_set (x ∷ buf) h = refl

pub pad_read : (front : List ℕ) (gap size n room most : ℕ) (rest : List Section) (buf piece : List ℕ)
    (left left' : Option (List ℕ)) → front ≡ [] → gap ≡ 0 → size ≡ 1 → n ≡ 0 → 0 < room → 0 < length buf →
    Reads left room n piece left' →
    Reads (coming front gap size rest left) most 1 (slice_set buf 0 0) (coming front gap 0 rest left')
pad_read front gap size n room most rest buf piece None left' f0 g0 s1 n0 wide long r xs h = absurd (cc)
pad_read front gap size n room most rest buf piece (Some b) left' f0 g0 s1 n0 wide long r xs h =
    let q = r b refl in
    let none : b ≡ [] = q.end n0 wide in
    let is : assembled_from front gap size rest b ≡ xs = some_inj h in
    let plain : assembled_from front gap size rest b ≡ 0 ∷ assembled rest [] =
    ap (λ (z : List ℕ). assembled_from z gap size rest b) f0 ∙ ap (λ (k : ℕ). assembled_from [] k size rest b) g0
    ∙ ap (λ (k : ℕ). assembled_from [] 0 k rest b) s1 ∙ ap (λ (z : List ℕ). assembled_from [] 0 1 rest z) none in
    let after : left' ≡ Some [] =
    q.rest ∙ ap (λ (k : ℕ). Some (drop k b)) n0 ∙ ap (λ (z : List ℕ). Some z) none in
    let later : assembled_from front gap 0 rest [] ≡ assembled rest [] =
    ap (λ (z : List ℕ). assembled_from z gap 0 rest []) f0 ∙ ap (λ (k : ℕ). assembled_from [] k 0 rest []) g0 in
    read_by (0 ∷ []) (assembled rest []) xs (slice_set buf 0 0) most 1 (coming front gap 0 rest left')
    (sym is ∙ plain) refl (first_set buf long) (omega arith)
    (ap (option_map (assembled_from front gap 0 rest)) after ∙ ap (λ (z : List ℕ). Some z) later)

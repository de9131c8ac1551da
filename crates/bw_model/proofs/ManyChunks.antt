-- A form of 4,096 chunks is read to its end, and one more is too many.
use Rattle.std.proofs.Common.{◌≡◌, ℕ, suc, zero, ◌+◌, ◌*◌, ◌≤◌, Bool, true, false, cond, inl, inr, List, [], ◌++◌}
use Rattle.std.proofs.Common.{length, Option, Some, None, Result, Err, refl, sym, ◌∙◌, ap, arith}
use Rattle.std.specs.Prelude.{codes, flat_map, replicate, nat_le, is_none, is_some, fold}
use Rattle.std.specs.List.{list_any}
use Rattle.std.proofs.lemmas.Bool.{le-leb, lt-leb, false≢true}
use Rattle.bw_model.specs.Bytes.{le32, even_up}
use Rattle.bw_model.specs.Layout.{head}
use Rattle.bw_model.specs.Reading.{Entry, Form, Fault, NoFmt, TooMany, IsPrefix, next, next_place}
use Rattle.bw_model.specs.Reading.{form_end, entry_of, is_id, single_ids}
use Rattle.bw_model.specs.Prefix.{count_of}
use Rattle.bw_model.specs.ExampleWords.{riff, hex}
use Rattle.bw_model.specs.ExamplesOfReadings.{empty_chunks, chunks_form, ManyChunksExample, TooManyChunksExample}
use Rattle.bw_model.proofs.PrefixLaws.{prefixes, none-count, count-cons}
use Rattle.bw_model.proofs.StandingChunks.{Piece, piece_bytes, entries_from, ArePieces, all-stand, pieces-stand}
use Rattle.bw_model.proofs.FilePieces.{other_id}
use Rattle.bw_model.proofs.FileReads.{single_cases}
use Rattle.bw_model.proofs.FileForms.{riff-outer}

-- an empty chunk
abbrev empty : Piece
empty = (0, record { id = codes "abcd"; content = [] })

abbrev empties : ℕ → List Piece
empties k = replicate k empty

are_empties : (form : Form) (k : ℕ) → ArePieces form (empties k)
are_empties form zero = tt
are_empties form (suc k) = (
  record {
    id = refl;
    said = inl (refl, omega arith);
    no_larger = omega arith;
    fmt = λ e. absurd (other_id (codes "abcd") (codes "fmt ") refl e);
    bext = λ e. absurd (other_id (codes "abcd") (codes "bext") refl e);
    cue = λ e. absurd (other_id (codes "abcd") (codes "cue ") refl e);
  },
  are_empties form k,
)

abbrev listed : ℕ → ℕ → List Entry
listed p k = entries_from p (empties k)

length-listed : (p k : ℕ) → length (listed p k) ≡ k
length-listed p zero = refl
length-listed p (suc k) = let rest = length-listed (p + 8 + even_up 0) k in omega arith

-- none of them has another id
none-listed : (id : List ℕ) (p k : ℕ) → is_id (codes "abcd") id ≡ false → count_of id (listed p k) ≡ 0
none-listed id p zero h = refl
none-listed id p (suc k) h =
    let rest = none-listed id (p + 8 + even_up 0) k h in
    count-cons id (record { id = codes "abcd"; place = p; size = 0 }) (listed (p + 8 + even_up 0) k)
    ∙ ap (λ (v : Bool). cond v 1 0 + count_of id (listed (p + 8 + even_up 0) k)) h ∙ omega arith

length-chunks : (n : ℕ) → length (empty_chunks n) ≡ 8 * n
unfolding empty_chunks
length-chunks zero = refl
length-chunks (suc n) = let rest = length-chunks n in omega arith

-- the first k of n chunks
split : (k m n : ℕ) → n ≡ k + m → empty_chunks n ≡ flat_map piece_bytes (empties k) ++ empty_chunks m
unfolding empty_chunks
split zero m n e = let same : n ≡ m = omega arith in ap empty_chunks same
split (suc k) m zero e = absurd (omega arith)
split (suc k) m (suc n) e = ap (λ (z : List ℕ). hex "6162636400000000" ++ z) (split k m n (omega arith))

abbrev form_of : ℕ → List ℕ
form_of n = chunks_form (le32 (4 + 8 * n)) n

-- the first 4,096 chunks at most are a prefix
prefix : (n k m : ℕ) → n ≡ k + m → k ≤ 4096 → n ≤ 4097 → IsPrefix (form_of n) (riff (4 + 8 * n)) (listed 12 k)
prefix n k m e few small = (prefixes b form (listed 12 k)).1 (record {
  header = riff-outer (4 + 8 * n) (empty_chunks n) (omega arith) (omega arith);
  chunks = pieces-stand b form 12 (empties k) whole (are_empties form k)
      (all-stand b form 12 (empties k) outer (empty_chunks m) (are_empties form k) refl
      (ap (λ (z : List ℕ). outer ++ z) (split k m n e)));
  single = λ id h. let none = none-listed id 12 k (other id h) in omega arith;
  few = let long = length-listed 12 k in omega arith;
})
  where
    b : List ℕ
    b = form_of n

    form : Form
    form = riff (4 + 8 * n)

    outer : List ℕ
    outer = head (codes "RIFF") (4 + 8 * n) ++ codes "WAVE"

    whole : form_end form ≡ length b
    whole = let long = length-chunks n in omega arith

    other : (id : List ℕ) → list_any (is_id id) single_ids ≡ true → is_id (codes "abcd") id ≡ false
    other id h = single_cases id (λ (i : List ℕ). is_id (codes "abcd") i ≡ false) h refl refl refl refl

placed : (p k : ℕ) → fold (λ p e. e.place + 8 + even_up e.size) p (listed p k) ≡ p + 8 * k
placed p zero = omega arith
placed p (suc k) = let rest = placed (p + 8 + even_up 0) k in omega arith

-- past the form's end, where no `fmt ` was seen
no_fmt : (b : List ℕ) (form : Form) (seen : List Entry) → nat_le (next_place seen + 8) (form_end form) ≡ false →
    is_none (entry_of (codes "fmt ") seen) ≡ true →
    next b form seen ≡ Err (record { kind = NoFmt; offset = form_end form })
unfolding next
no_fmt b form seen past none = rw (past, none) refl

-- within the form, where as many chunks were seen as are read at most
too_many : (b : List ℕ) (form : Form) (seen : List Entry) → nat_le (next_place seen + 8) (form_end form) ≡ true →
    nat_le 4096 (length seen) ≡ true → next b form seen ≡ Err (record { kind = TooMany; offset = next_place seen })
unfolding next
too_many b form seen within many = rw (within, many) refl

-- after all of them the form ends
ends : (n : ℕ) → n ≤ 4096 →
    next (form_of n) (riff (4 + 8 * n)) (listed 12 n) ≡ Err (record { kind = NoFmt; offset = 8 + (4 + 8 * n) })
ends n small = no_fmt (form_of n) (riff (4 + 8 * n)) (listed 12 n)
    (lt-leb (next_place (listed 12 n) + 8) (form_end (riff (4 + 8 * n))) (let place = placed 12 n in omega arith))
    (none (entry_of (codes "fmt ") (listed 12 n))
    (none-count (codes "fmt ") (listed 12 n) (none-listed (codes "fmt ") 12 n refl)))
  where
    none : (x : Option Entry) → is_some x ≡ false → is_none x ≡ true
    none None e = refl
    none (Some x) e = absurd (false≢true (sym e))

-- after 4,096 comes one too many
one_more : (n k : ℕ) → n ≡ k + 1 → k ≡ 4096 →
    next (form_of n) (riff (4 + 8 * n)) (listed 12 k) ≡ Err (record { kind = TooMany; offset = 12 + 8 * k })
one_more n k e all =
    too_many (form_of n) (riff (4 + 8 * n)) (listed 12 k)
    (le-leb (next_place (listed 12 k) + 8) (form_end (riff (4 + 8 * n))) (let place = placed 12 k in omega arith))
    (le-leb 4096 (length (listed 12 k)) (let long = length-listed 12 k in omega arith))
    ∙ ap (λ (q : ℕ). fault q) (placed 12 k)
  where
    fault : ℕ → Result (Option Entry) Fault
    fault q = Err (record { kind = TooMany; offset = q })

pub many_chunks : ManyChunksExample
many_chunks = inr (
  riff 32772,
  (listed 12 4096, (prefix 4096 4096 0 refl (omega arith) (omega arith), ends 4096 (omega arith))),
)

pub too_many_chunks : TooManyChunksExample
too_many_chunks = inr (
  riff 32780,
  (listed 12 4096, (prefix 4097 4096 1 refl (omega arith) (omega arith), one_more 4097 4096 refl refl)),
)

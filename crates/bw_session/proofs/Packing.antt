-- How the digests and verdicts of done numbers lie in their bytes.
use Rattle.std.proofs.Common.{◌≡◌, ℕ, zero, suc, ◌+◌, ◌*◌, ◌/◌, ◌%◌, ◌<◌, ◌≤◌, List, [], ◌∷◌, ◌++◌, length, take, drop}
use Rattle.std.proofs.Common.{Some, true, refl, ap, ◌∙◌, subst, arith}
use Rattle.std.specs.Prelude.{slice_index, slice_index_or, IsSome, is_some}
use Rattle.std.proofs.lemmas.Bool.{and_parts}
use Rattle.std.proofs.lemmas.List.{nil_from_length, take-append-le, drop-append-le, get_or_append_left, length-drop}
use Rattle.std.proofs.lemmas.List.{drop-drop, get_or-drop, take_at, get_or_at}
use Rattle.bw_model.specs.Take.{Verdict, Stored, NameTaken, AlreadyOpen, NotOpen, Closed, BadFormat, BadBlock}
use Rattle.bw_model.specs.Take.{BadMarker, DuplicateMarker, TooManyMarkers, BadField, WrongTotal}
use Rattle.bw_model.specs.Replies.{verdict_code, verdict_of}
use Rattle.bw_journal.specs.Rows.{have_codes}
use Rattle.bw_session.specs.Ledgers.{verdict_coded, entries_in, HaveCodes, IsPacked}

pub length-entries : (n : ℕ) (bytes : List ℕ) → length (entries_in n bytes) ≡ n
unfolding entries_in
length-entries zero bytes = refl
length-entries (suc n) bytes = ap suc (length-entries n (drop 33 bytes))

pub verdict_of-code : (v : Verdict) → verdict_of (verdict_code v) ≡ Some v
verdict_of-code Stored = refl
verdict_of-code NameTaken = refl
verdict_of-code AlreadyOpen = refl
verdict_of-code NotOpen = refl
verdict_of-code Closed = refl
verdict_of-code BadFormat = refl
verdict_of-code BadBlock = refl
verdict_of-code BadMarker = refl
verdict_of-code DuplicateMarker = refl
verdict_of-code TooManyMarkers = refl
verdict_of-code BadField = refl
verdict_of-code WrongTotal = refl

-- one entry more after the others
pub entries_push : (n : ℕ) (bytes digest : List ℕ) (v : Verdict) → length bytes ≡ 33 * n → length digest ≡ 32 →
    entries_in (suc n) (bytes ++ (digest ++ verdict_code v ∷ [])) ≡ entries_in n bytes ++ (digest, v) ∷ []
unfolding entries_in
entries_push zero bytes d v e h =
    let nil : bytes ≡ [] = nil_from_length bytes (omega (arith, e)) in
    rw (nil, take_at d (verdict_code v ∷ []) 32 h, get_or_at d (verdict_code v) [] 0 32 h, verdict_of-code v) refl
entries_push (suc n) bytes d v e h =
    let long : 33 ≤ length bytes = omega (arith, e) in
    let long32 : 32 ≤ length bytes = omega (arith, e) in
    let below : 32 < length bytes = omega (arith, e) in
    let rest : length (drop 33 bytes) ≡ 33 * n = omega (arith, length-drop 33 bytes, e) in
    let more : List ℕ = d ++ verdict_code v ∷ [] in
    rw (
      take-append-le 32 bytes more long32,
      get_or_append_left bytes more 0 32 below,
      drop-append-le 33 bytes more long,
    )
    (ap (λ (xs : List (List ℕ × Verdict)). (take 32 bytes, verdict_coded (slice_index bytes 32)) ∷ xs)
    (entries_push n (drop 33 bytes) d v rest h))

pub codes_push : (n : ℕ) (bytes digest : List ℕ) (v : Verdict) → length bytes ≡ 33 * n → length digest ≡ 32 →
    HaveCodes n bytes → HaveCodes (suc n) (bytes ++ (digest ++ verdict_code v ∷ []))
unfolding HaveCodes
codes_push zero bytes d v e h c =
    let nil : bytes ≡ [] = nil_from_length bytes (omega (arith, e)) in
    rw (nil, get_or_at d (verdict_code v) [] 0 32 h, verdict_of-code v) (refl, tt)
codes_push (suc n) bytes d v e h c =
    let long : 33 ≤ length bytes = omega (arith, e) in
    let below : 32 < length bytes = omega (arith, e) in
    let rest : length (drop 33 bytes) ≡ 33 * n = omega (arith, length-drop 33 bytes, e) in
    let more : List ℕ = d ++ verdict_code v ∷ [] in
    rw (get_or_append_left bytes more 0 32 below, drop-append-le 33 bytes more long)
    (c.0, codes_push n (drop 33 bytes) d v rest h c.1)

-- the codes of a table that passed the test
pub codes_hold : (n : ℕ) (table : List ℕ) → have_codes n table ≡ true → HaveCodes n table
unfolding HaveCodes have_codes
codes_hold zero table h = tt
codes_hold (suc n) table h =
    let parts = and_parts (is_some (verdict_of (slice_index table 32))) (have_codes n (drop 33 table)) h in
    (parts.0, codes_hold n (drop 33 table) parts.1)

-- the entry of a number
pub entries_at : (n j : ℕ) (bytes : List ℕ) (o : List ℕ × Verdict) → j < n →
    slice_index_or (entries_in n bytes) j o ≡
    (take 32 (drop (33 * j) bytes), verdict_coded (slice_index bytes (33 * j + 32)))
unfolding entries_in
entries_at zero j bytes o h = absurd (omega arith)
entries_at (suc n) zero bytes o h = refl
entries_at (suc n) (suc j) bytes o h =
    let less : j < n = omega arith in
    let step : 33 + 33 * j ≡ 33 * suc j = omega arith in
    let more : 33 + (33 * j + 32) ≡ 33 * suc j + 32 = omega arith in
    entries_at n j (drop 33 bytes) o less
    ∙ rw (drop-drop (33 * j) 33 bytes, get_or-drop 33 bytes (33 * j + 32) 0, step, more) refl

pub codes_at : (n j : ℕ) (bytes : List ℕ) → j < n → HaveCodes n bytes →
    IsSome (verdict_of (slice_index bytes (33 * j + 32)))
unfolding HaveCodes
codes_at zero j bytes h c = absurd (omega arith)
codes_at (suc n) zero bytes h c = c.0
codes_at (suc n) (suc j) bytes h c =
    let less : j < n = omega arith in
    let more : 33 + (33 * j + 32) ≡ 33 * suc j + 32 = omega arith in
    subst (λ (x : ℕ). IsSome (verdict_of x))
    (get_or-drop 33 bytes (33 * j + 32) 0 ∙ ap (slice_index bytes) more)
    (codes_at n j (drop 33 bytes) less c.1)

-- what is packed at a place ends within the bytes
pub packed_within : (bytes : List ℕ) (j : ℕ) → IsPacked bytes → j < length (entries_in (length bytes / 33) bytes) →
    33 * j + 33 ≤ length bytes
packed_within bytes j p h =
    let below : j < length bytes / 33 = rw length-entries at h in
    let whole : length bytes % 33 ≡ 0 = p.whole in grind arith

-- The requests of samples, one after the other.
use Rattle.std.proofs.Common.{◌≡◌, ℕ, suc, ◌+◌, ◌-◌, ◌*◌, ◌<◌, ◌≤◌, cond, List, [], ◌∷◌, ◌++◌, length, map, min, take, drop}
use Rattle.std.proofs.Common.{refl, sym, ◌∙◌, ap, arith, length-take, length-drop}
use Rattle.std.specs.Prelude.{◌/◌, ◌%◌, ◌==◌}
use Rattle.std.proofs.lemmas.List.{take_all, drop_all, take-take, drop-take, take-append-le, drop-append-le, length-append, append-nil}
use Rattle.std.proofs.Math.Nat.{mul-add-mod_self_right, mul-add-div_right, mod-le, mod-lt, mod-eq_of_lt, zero-mod, zero-div}
use Rattle.std.proofs.lemmas.Nat.{div-mul-add, div-add-mod', mul-le}
use Rattle.bw_model.specs.Take.{Request, Block, Close}
use Rattle.bw_plan.specs.Plans.{block_requests, pieces}
use Rattle.bw_plan.proofs.NextRequests.{first_block}
use Rattle.bw_send_file.specs.ComingRequests.{PcmProgress, align_of, size_of, whole_frames, close_after, sample_requests}

-- CLOSE counts the frames that were given
close_moves : (given a q n : ℕ) → 0 < a → close_after given a (q * a + n) ≡ close_after (given + q) a n
close_moves given a q n some =
    let part : (q * a + n) % a ≡ n % a = mul-add-mod_self_right q a n in
    let frames : (q * a + n) / a ≡ q + n / a = mul-add-div_right some q n in
    let sum : given + (q + n / a) ≡ given + q + n / a = omega arith in
    ap (λ (k : ℕ). cond (k == 0) (Close (given + (q * a + n) / a) ∷ []) []) part
    ∙ ap (λ (k : ℕ). cond (n % a == 0) (Close (given + k) ∷ []) []) frames
    ∙ ap (λ (k : ℕ). cond (n % a == 0) (Close k ∷ []) []) sum

-- what comes after the first frames
block_then : (p : PcmProgress) (s : List ℕ) (m q : ℕ) → 0 < align_of p → 1 ≤ size_of p → m ≡ q * align_of p →
    0 < m → m ≤ length s → m ≤ length s - length s % align_of p →
    take (size_of p) (whole_frames (align_of p) s) ≡ take m s →
    drop (size_of p) (whole_frames (align_of p) s) ≡ whole_frames (align_of p) (drop m s) →
    sample_requests p s ≡ Block (take m s) ∷ sample_requests (record p { given = p.given + q }) (drop m s)
block_then p s m q some large e more h whole first rest =
    let a : ℕ = align_of p in
    let size : ℕ = size_of p in
    let w : List ℕ = whole_frames a s in
    let long : length w ≡ length s - length s % a =
    (let t = length-take (length s - length s % a) s in omega (arith, t)) in
    let next : block_requests size w ≡ Block (take size w) ∷ block_requests size (drop size w) =
    first_block size w large (omega (arith, long, more, whole)) in
    let left : length (drop m s) ≡ length s - m = length-drop m s in
    let sum : length s ≡ q * a + length (drop m s) = omega (arith, left, e, h) in
    ap (λ (z : List Request). z ++ close_after p.given a (length s)) next
    ∙ ap (λ (z : List ℕ). Block z ∷ (block_requests size (drop size w) ++ close_after p.given a (length s))) first
    ∙ ap (λ (z : List ℕ). Block (take m s) ∷ (block_requests size z ++ close_after p.given a (length s))) rest
    ∙ ap (λ (z : List Request). Block (take m s) ∷ (block_requests size (whole_frames a (drop m s)) ++ z))
    (ap (close_after p.given a) sum ∙ close_moves p.given a q (length (drop m s)) some)

-- a whole block is the first of them
full_block : (p : PcmProgress) (s : List ℕ) → 0 < align_of p → 1 ≤ size_of p → size_of p ≤ length s →
    sample_requests p s
    ≡ Block (take (size_of p) s) ∷ sample_requests (record p { given = p.given + p.frames }) (drop (size_of p) s)
full_block p s some large h =
    let a : ℕ = align_of p in
    let size : ℕ = size_of p in
    let n : ℕ = length s in
    let left : length (drop size s) ≡ n - size = length-drop size s in
    let sum : n ≡ p.frames * a + (n - size) = omega (arith, h) in
    let part : n % a ≡ (n - size) % a = ap (λ (k : ℕ). k % a) sum ∙ mul-add-mod_self_right p.frames a (n - size) in
    let few : (n - size) % a ≤ n - size = mod-le (n - size) a in
    let within : size ≤ n - n % a = omega (arith, part, few, h) in
    let count : n - n % a ≡ size + (n - n % a - size) = omega (arith, within) in
    let same : n - n % a - size ≡ length (drop size s) - length (drop size s) % a =
    omega (arith, part, h, few) ∙ sym (ap (λ (k : ℕ). k - k % a) left) in
    block_then p s size p.frames some large refl (omega (arith, large)) h within
    (take-take size (n - n % a) s within)
    (ap (λ (k : ℕ). drop size (take k s)) count ∙ drop-take size (n - n % a - size) s
    ∙ ap (λ (k : ℕ). take k (drop size s)) same)

-- at the end the whole frames of less than a block are the first of them
last_block : (p : PcmProgress) (s : List ℕ) (m : ℕ) → 0 < align_of p → 1 ≤ size_of p → length s < size_of p →
    m ≡ length s - length s % align_of p → 0 < m →
    sample_requests p s
    ≡ Block (take m s) ∷ sample_requests (record p { given = p.given + m / align_of p }) (drop m s)
last_block p s m some large short e more =
    let a : ℕ = align_of p in
    let size : ℕ = size_of p in
    let n : ℕ = length s in
    let sum : n / a * a + n % a ≡ n = div-add-mod' n a in
    let frames : m ≡ n / a * a + 0 = omega (arith, e, sum) in
    let q : m / a ≡ n / a = ap (λ (k : ℕ). k / a) frames ∙ div-mul-add (n / a) a 0 some in
    let times : m ≡ m / a * a = frames ∙ omega arith ∙ sym (ap (λ (k : ℕ). k * a) q) in
    let low : length (whole_frames a s) ≡ m = (let t = length-take (n - n % a) s in omega (arith, t, e)) in
    let first : take size (whole_frames a s) ≡ take m s =
    take_all size (whole_frames a s) (omega (arith, low, short, e)) ∙ ap (λ (k : ℕ). take k s) (sym e) in
    let left : length (drop m s) ≡ n % a =
    length-drop m s ∙ omega (arith, e, mod-le n a) in
    let rem : n % a < a = mod-lt n some in
    let same : length (drop m s) % a ≡ length (drop m s) = mod-eq_of_lt (omega (arith, left, rem)) in
    let none : length (drop m s) - length (drop m s) % a ≡ 0 = omega (arith, same) in
    let rest : drop size (whole_frames a s) ≡ whole_frames a (drop m s) =
    drop_all size (whole_frames a s) (omega (arith, low, short, e))
    ∙ sym (ap (λ (k : ℕ). take k (drop m s)) none) in
    block_then p s m (m / a) some large times more (omega (arith, e)) (omega (arith, e)) first rest

-- without samples only CLOSE is left
pub only_close : (p : PcmProgress) → 0 < align_of p → sample_requests p [] ≡ Close p.given ∷ []
only_close p some =
    let a : ℕ = align_of p in
    let size : ℕ = size_of p in
    let end : List Request = close_after p.given a 0 in
    let none : 0 - 0 % a ≡ 0 = omega arith in
    let all : p.given + 0 ≡ p.given = omega arith in
    ap (λ (k : ℕ). block_requests size (take k []) ++ end) none
    ∙ ap (λ (k : ℕ). map Block (pieces (k + min 1 (0 % size)) size []) ++ end) (zero-div size)
    ∙ ap (λ (k : ℕ). map Block (pieces (0 + min 1 k) size []) ++ end) (zero-mod size)
    ∙ ap (λ (k : ℕ). cond (k == 0) (Close (p.given + 0 / a) ∷ []) []) (zero-mod a)
    ∙ ap (λ (k : ℕ). Close (p.given + k) ∷ []) (zero-div a)
    ∙ ap (λ (k : ℕ). Close k ∷ []) all

-- Bytes that are held, and those to be read.

pub held_block : (p : PcmProgress) (held rest : List ℕ) (count : ℕ) → 0 < align_of p → 1 ≤ size_of p →
    count ≡ size_of p → length held ≡ size_of p →
    sample_requests p (held ++ rest)
    ≡ Block (take count held)
    ∷ sample_requests (record p { given = p.given + count / align_of p }) (drop count held ++ rest)
held_block p held rest count some large e full =
    let a : ℕ = align_of p in
    let frames : count / a ≡ p.frames =
    ap (λ (k : ℕ). k / a) (e ∙ omega arith) ∙ div-mul-add p.frames a 0 some in
    let long : size_of p ≤ length (held ++ rest) = omega (arith, length-append held rest, full) in
    full_block p (held ++ rest) some large long
    ∙ ap (λ (z : List ℕ). Block z ∷ sample_requests (record p { given = p.given + p.frames }) (drop (size_of p) (held ++ rest)))
    (take-append-le (size_of p) held rest (omega (arith, full)) ∙ ap (λ (k : ℕ). take k held) (sym e))
    ∙ ap (λ (z : List ℕ). Block (take count held) ∷ sample_requests (record p { given = p.given + p.frames }) z)
    (drop-append-le (size_of p) held rest (omega (arith, full)) ∙ ap (λ (k : ℕ). drop k held ++ rest) (sym e))
    ∙ ap (λ (k : ℕ). Block (take count held) ∷ sample_requests (record p { given = p.given + k }) (drop count held ++ rest))
    (sym frames)

pub rest_block : (p : PcmProgress) (held rest : List ℕ) (count : ℕ) → 0 < align_of p → 1 ≤ size_of p →
    length held < size_of p → rest ≡ [] → count ≡ length held - length held % align_of p → 0 < count →
    sample_requests p (held ++ rest)
    ≡ Block (take count held)
    ∷ sample_requests (record p { given = p.given + count / align_of p }) (drop count held ++ rest)
rest_block p held rest count some large short none e more =
    let next : PcmProgress = record p { given = p.given + count / align_of p } in
    ap (λ (z : List ℕ). sample_requests p (held ++ z)) none
    ∙ ap (sample_requests p) (append-nil held)
    ∙ last_block p held count some large short e more
    ∙ ap (λ (z : List ℕ). Block (take count held) ∷ sample_requests next z) (sym (append-nil (drop count held)))
    ∙ ap (λ (z : List ℕ). Block (take count held) ∷ sample_requests next (drop count held ++ z)) (sym none)

-- a block has at least one byte
pub some_size : (p : PcmProgress) → 1 ≤ p.frames → 1 ≤ align_of p → 1 ≤ size_of p
some_size p h k = mul-le 1 1 p.frames (align_of p) h k

pub empty : (xs : List ℕ) → length xs ≡ 0 → xs ≡ []
empty [] h = refl
empty (x ∷ xs) h = absurd (none h)
  where
    none : suc (length xs) ≡ 0 → ⊥
    none h = omega (arith, h)

-- only CLOSE is left where nothing is held and nothing is to come
pub close_left : (p : PcmProgress) (held rest : List ℕ) → 1 ≤ align_of p → length held ≡ 0 → rest ≡ [] →
    sample_requests p (held ++ rest) ≡ Close p.given ∷ []
close_left p held rest some none end =
    ap (λ (z : List ℕ). sample_requests p (held ++ z)) end
    ∙ ap (λ (z : List ℕ). sample_requests p (z ++ [])) (empty held none)
    ∙ only_close p some

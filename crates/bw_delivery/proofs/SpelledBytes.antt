-- The frames of what has a spelling are bytes.
use Rattle.std.proofs.Common.{◌≡◌, ℕ, suc, zero, ◌%◌, ◌/◌, ◌^◌, ◌<◌, ◌≤◌, Bool, true, false, ◌&&◌, ◌||◌, List, [], ◌∷◌, ◌++◌}
use Rattle.std.proofs.Common.{refl, ◌∙◌, arith, length}
use Rattle.std.specs.Prelude.{nat_le, ◌==◌}
use Rattle.std.specs.List.{list_all}
use Rattle.std.specs.Int.{bytes_low_first, byte_at}
use Rattle.std.proofs.lemmas.Bool.{and_parts, and_from, lt-ltb, leb-true, eqb-true}
use Rattle.std.proofs.lemmas.List.Folds.{list_all-append}
use Rattle.std.proofs.lemmas.Nat.{mod_below}
use Rattle.bw_model.specs.Bytes.{le16, le32, is_within}
use Rattle.bw_model.specs.Limits.{longest_name}
use Rattle.bw_model.specs.Take.{Request, Open, Block, Mark, SetField, Close}
use Rattle.bw_model.specs.Wire.{Second, Frame, Says, Asks, Bye, is_frame, is_name, is_name_byte, is_request, is_below}
use Rattle.bw_model.specs.Wire.{are_bytes, body, framed, payload, last_number, kind}
use Rattle.bw_model.specs.Stream.{frames_bytes}

both : (xs ys : List ℕ) → are_bytes xs ≡ true → are_bytes ys ≡ true → are_bytes (xs ++ ys) ≡ true
both xs ys h k = list_all-append (is_below 256) xs ys ∙ and_from (are_bytes xs) (are_bytes ys) h k

low_byte : (i n : ℕ) → is_below 256 (byte_at i n) ≡ true
low_byte zero n = lt-ltb (n % 256) 256 (mod_below n 256 (omega arith))
low_byte (suc i) n = lt-ltb (n / 256 ^ suc i % 256) 256 (mod_below (n / 256 ^ suc i) 256 (omega arith))

pub low_bytes : (i count n : ℕ) → are_bytes (bytes_low_first i count n) ≡ true
low_bytes i zero n = refl
low_bytes i (suc count) n =
    and_from (is_below 256 (byte_at i n)) (are_bytes (bytes_low_first (suc i) count n)) (low_byte i n)
    (low_bytes (suc i) count n)

name_byte : (c : ℕ) → is_name_byte c ≡ true → is_below 256 c ≡ true
name_byte c h = lt-ltb c 256 (go (is_within 97 122 c) refl (is_within 48 57 c) refl (c == 45) refl (c == 95) refl h)
  where
    top : (low high : ℕ) → high < 256 → is_within low high c ≡ true → c < 256
    top low high few e =
        let most : c ≤ high = leb-true c high (and_parts (nat_le low c) (nat_le c high) e).1 in omega (arith, most, few)

    one : (k : ℕ) → k < 256 → (c == k) ≡ true → c < 256
    one k few e = let is : c ≡ k = eqb-true c k e in omega (arith, is, few)

    go : (p : Bool) → is_within 97 122 c ≡ p → (q : Bool) → is_within 48 57 c ≡ q → (r : Bool) → (c == 45) ≡ r →
        (s : Bool) → (c == 95) ≡ s → p || q || r || s ≡ true → c < 256
    go true p q x r y s z e = top 97 122 (omega arith) p
    go false p true x r y s z e = top 48 57 (omega arith) x
    go false p false x true y s z e = one 45 (omega arith) y
    go false p false x false y true z e = one 95 (omega arith) z
    go false p false x false y false z e = absurd cc

name_bytes : (cs : List ℕ) → list_all is_name_byte cs ≡ true → are_bytes cs ≡ true
name_bytes [] h = refl
name_bytes (c ∷ cs) h =
    let x = and_parts (is_name_byte c) (list_all is_name_byte cs) h in
    and_from (is_below 256 c) (are_bytes cs) (name_byte c x.0) (name_bytes cs x.1)

named : (name : List ℕ) → is_name name ≡ true → (is_below 256 (length name) ≡ true) × (are_bytes name ≡ true)
named name h =
    let x = and_parts (is_within 1 longest_name (length name)) (list_all is_name_byte name) h in
    let most : length name ≤ longest_name = leb-true (length name) longest_name
    (and_parts (nat_le 1 (length name)) (nat_le (length name) longest_name) x.0).1 in
    (lt-ltb (length name) 256 (omega (arith, most)), name_bytes name x.1)

kind_byte : (r : Request) → is_below 256 (kind r) ≡ true
kind_byte (Open f history) = refl
kind_byte (Block bytes) = refl
kind_byte (Mark id frame) = refl
kind_byte (SetField tag value) = refl
kind_byte (Close total) = refl

payload_bytes : (r : Request) → is_request r ≡ true → are_bytes (payload r) ≡ true
payload_bytes (Open f history) h =
    let fits = (and_parts _ (are_bytes history) h).1 in
    both (le32 f.rate ++ le16 f.channels ++ le16 f.bits ++ le16 (length history)) history
    (both (le32 f.rate ++ le16 f.channels ++ le16 f.bits) (le16 (length history))
    (both (le32 f.rate ++ le16 f.channels) (le16 f.bits)
    (both (le32 f.rate) (le16 f.channels) (low_bytes 0 4 f.rate) (low_bytes 0 2 f.channels)) (low_bytes 0 2 f.bits))
    (low_bytes 0 2 (length history))) fits
payload_bytes (Block bytes) h = (and_parts _ (are_bytes bytes) h).1
payload_bytes (Mark id frame) h = both (le32 id) (le32 frame) (low_bytes 0 4 id) (low_bytes 0 4 frame)
payload_bytes (SetField tag value) h =
    let x = and_parts _ (are_bytes value) h in
    and_from (is_below 256 tag) (are_bytes value) (and_parts (is_below 256 tag) _ x.0).0 x.1
payload_bytes (Close total) h = low_bytes 0 8 total

addressed_bytes : (k : ℕ) (name : List ℕ) (number : ℕ) (more : List ℕ) → is_below 256 k ≡ true →
    is_name name ≡ true → are_bytes more ≡ true → are_bytes ((k ∷ length name ∷ name ++ le32 number) ++ more) ≡ true
addressed_bytes k name number more low h fits =
    let n = named name h in
    both (k ∷ length name ∷ name ++ le32 number) more
    (and_from (is_below 256 k) _ low
    (and_from (is_below 256 (length name)) _ n.0 (both name (le32 number) n.1 (low_bytes 0 4 number)))) fits

body_bytes : (f : Frame) → is_frame Second f ≡ true → are_bytes (body f) ≡ true
body_bytes (Says m) h =
    let x = and_parts (is_name m.name && nat_le m.number (last_number Second)) (is_request m.request) h in
    addressed_bytes (kind m.request) m.name m.number (payload m.request) (kind_byte m.request)
    (and_parts (is_name m.name) (nat_le m.number (last_number Second)) x.0).0 (payload_bytes m.request x.1)
body_bytes (Asks name number) h =
    let n = named name (and_parts (is_name name) (nat_le number (last_number Second)) h).0 in
    and_from (is_below 256 6) _ refl
    (and_from (is_below 256 (length name)) _ n.0 (both name (le32 number) n.1 (low_bytes 0 4 number)))
body_bytes Bye h = refl

pub frames_are_bytes : (fs : List Frame) → list_all (is_frame Second) fs ≡ true → are_bytes (frames_bytes fs) ≡ true
frames_are_bytes [] h = refl
frames_are_bytes (f ∷ fs) h =
    let x = and_parts (is_frame Second f) (list_all (is_frame Second) fs) h in
    both (framed (body f)) (frames_bytes fs)
    (both (le32 (length (body f))) (body f) (low_bytes 0 4 (length (body f))) (body_bytes f x.0))
    (frames_are_bytes fs x.1)

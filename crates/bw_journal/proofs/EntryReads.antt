-- Entries are read back as they were noted.
use Rattle.std.proofs.Common.{◌≡◌, ℕ, zero, suc, ◌-◌, ◌≤◌, Bool, true, false, cond, not, Option, Some, None, Ok}
use Rattle.std.proofs.Common.{List, [], ◌∷◌, length, take, drop, refl, sym, ap, subst, ◌∙◌, arith}
use Rattle.std.specs.Prelude.{slice_index, nat_le, nat_lt, ◌==◌}
use Rattle.std.proofs.lemmas.Bool.{and_parts, and_from, eq-eqb, le-leb, le-ltb, leb-true, not-false}
use Rattle.std.proofs.lemmas.List.{take-replicate, take_rest}
use Rattle.bw_model.specs.Bytes.{first_that_holds, zeros, u32_at, is_within}
use Rattle.bw_model.specs.Take.{Request, Block, Verdict}
use Rattle.bw_model.specs.Wire.{is_request, are_bytes, is_below, is_payload, request_of, decoded_request, Kind, Payload}
use Rattle.bw_model.specs.Replies.{verdict_of}
use Rattle.bw_model.proofs.Payloads.{IsPayloadOf, payload_from_test}
use Rattle.bw_model.proofs.SpellingLaws.{unless_ok}
use Rattle.bw_journal.specs.Entries.{block_noted, request_in, made_of, entry_in}

-- this many zeros in place of samples
pub some_zeros : (n : ℕ) (z : List ℕ) → n ≤ 32768 → z ≡ zeros 32768 → take n z ≡ zeros n
some_zeros n z few e = ap (take n) e ∙ take-replicate n 32768 0 few

zeros-are_bytes : (n : ℕ) → are_bytes (zeros n) ≡ true
zeros-are_bytes zero = refl
zeros-are_bytes (suc n) = zeros-are_bytes n

pub zeros-length : (n : ℕ) → length (zeros n) ≡ n
zeros-length zero = refl
zeros-length (suc n) = ap suc (zeros-length n)

within : (n : ℕ) → 1 ≤ n → n ≤ 32768 → is_within 1 32768 n ≡ true
within n low high = and_from (nat_le 1 n) (nat_le n 32768) (le-leb 1 n low) (le-leb n 32768 high)

pub block_reads : (p z : List ℕ) (n : ℕ) → length p ≡ 4 → n ≡ u32_at p 0 → 1 ≤ n → n ≤ 32768 → z ≡ zeros 32768 →
    Some (Block (take n z)) ≡ block_noted p
block_reads p z n len is low high e =
    let tests =
    and_from (length p == 4) (is_within 1 32768 (u32_at p 0)) (eq-eqb _ _ len)
    (subst (λ (k : ℕ). is_within 1 32768 k ≡ true) is (within n low high)) in
    ap (λ (x : List ℕ). Some (Block x)) (some_zeros n z high e)
    ∙ ap (λ (k : ℕ). Some (Block (zeros k))) is
    ∙ sym (ap (λ (b : Bool). cond b (Some (Block (zeros (u32_at p 0)))) None) tests)

pub block_fits : (z : List ℕ) (n : ℕ) → 1 ≤ n → n ≤ 32768 → z ≡ zeros 32768 → is_request (Block (take n z)) ≡ true
block_fits z n low high e =
    subst (λ (x : List ℕ). is_request (Block x) ≡ true) (sym (some_zeros n z high e))
    (and_from (is_within 1 32768 (length (zeros n))) (are_bytes (zeros n))
    (subst (λ (k : ℕ). is_within 1 32768 k ≡ true) (sym (zeros-length n)) (within n low high)) (zeros-are_bytes n))

-- what is read of bytes with this verdict, whether or not a request follows it
entry_with : (bytes : List ℕ) (v : Verdict) (request : Option Request) → 34 ≤ length bytes →
    verdict_of (slice_index bytes 0) ≡ Some v → request ≡ request_in (take (length bytes - 33) (drop 33 bytes))
    → made_of (Some v) (take 32 (drop 1 bytes)) request ≡ entry_in bytes
unfolding entry_in
entry_with bytes v request long code is =
    let test : nat_lt (length bytes) 34 ≡ false = le-ltb (length bytes) 34 long in
    sym (
    ap (λ (b : Bool). cond b None
    (made_of (verdict_of (slice_index bytes 0)) (take 32 (drop 1 bytes)) (request_in (drop 33 bytes)))) test
    ∙ ap (λ (o : Option Verdict). made_of o (take 32 (drop 1 bytes)) (request_in (drop 33 bytes))) code
    ∙ ap (made_of (Some v) (take 32 (drop 1 bytes))) (ap request_in (sym (take_rest bytes 33)) ∙ sym is)
    )

pub entry_reads : (bytes : List ℕ) (v : Verdict) (r : Request) → 34 ≤ length bytes →
    verdict_of (slice_index bytes 0) ≡ Some v → Some r ≡ request_in (take (length bytes - 33) (drop 33 bytes))
    → Some (record { request = r; verdict = v; digest = take 32 (drop 1 bytes) }) ≡ entry_in bytes
entry_reads bytes v r long code request = entry_with bytes v (Some r) long code request

pub entry_missing : (bytes : List ℕ) (v : Verdict) → 34 ≤ length bytes → verdict_of (slice_index bytes 0) ≡ Some v →
    None ≡ request_in (take (length bytes - 33) (drop 33 bytes)) → None ≡ entry_in bytes
entry_missing bytes v long code request = entry_with bytes v None long code request

two_pass : (a b : Bool) → first_that_holds ((a, Kind) ∷ (b, Payload) ∷ []) ≡ None → (a ≡ false) × (b ≡ false)
two_pass true b e = absurd cc
two_pass false true e = absurd cc
two_pass false false e = (refl, refl)

-- the request to which a kind and a payload are decoded is theirs
pub record IsDecoded (k : ℕ) (p : List ℕ) (r : Request) : Type 0 where
  pub read : request_of k p ≡ r
  pub spelled : IsPayloadOf k p

pub decoded : (k : ℕ) (p : List ℕ) (r : Request) → are_bytes (k ∷ p) ≡ true → decoded_request (k ∷ p) ≡ Ok r →
    IsDecoded k p r
decoded k p r fits e =
    let parts =
    unless_ok (first_that_holds ((not (is_within 1 5 k), Kind) ∷ (not (is_payload k p), Payload) ∷ []))
    (request_of k p) r e in
    let tests = two_pass (not (is_within 1 5 k)) (not (is_payload k p)) parts.0 in
    let low = and_parts (nat_le 1 k) (nat_le k 5) (not-false _ tests.0) in
    let small : k ≤ 5 = leb-true k 5 low.1 in
    record {
      read = parts.1;
      spelled = payload_from_test k p (and_parts (is_below 256 k) (are_bytes p) fits).1 (not-false _ tests.1)
          (λ six. omega (arith, six));
    }

-- a request that is read is one that a message may carry
pub decoded_fits : (bytes : List ℕ) (r : Request) → are_bytes bytes ≡ true → decoded_request bytes ≡ Ok r →
    is_request r ≡ true
decoded_fits [] r fits e = absurd cc
decoded_fits (k ∷ p) r fits e =
    let d = decoded k p r fits e in subst (λ (x : Request). is_request x ≡ true) d.read d.spelled.fits

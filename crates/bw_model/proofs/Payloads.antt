-- Payloads: the request that is read is the one that was spelled, and conversely.
use Rattle.std.proofs.Common.{◌≡◌, ℕ, suc, ◌+◌, ◌^◌, ◌≤◌, ◌≢◌, Bool, true, false, ◌&&◌, ◌||◌, List, [], ◌∷◌, ◌++◌}
use Rattle.std.proofs.Common.{length, drop, refl, sym, ap, subst, ◌∙◌, arith}
use Rattle.std.specs.Prelude.{nat_le, ◌==◌}
use Rattle.std.specs.Int.{w16, w32, w64}
use Rattle.std.proofs.lemmas.Bool.{and_parts, and_from, eqb-true, leb-true, ltb-true, le-leb, lt-ltb, eq-eqb}
use Rattle.std.proofs.lemmas.List.{length-drop, drop_all}
use Rattle.bw_model.specs.Bytes.{le16, le32, le64, u16_at, u32_at, u64_at, is_within}
use Rattle.bw_model.specs.Take.{Request, Open, Block, Mark, SetField, Close}
use Rattle.bw_model.specs.Wire.{are_bytes, is_below, kind, payload, is_request, is_payload, request_of}
use Rattle.bw_model.proofs.ByteNumbers.{are_bytes-parts, wide16, wide32, wide64, written-number_at, number_at-written}

-- which of six tests holds
data OneOf (a b c d e f : Bool) : Type 0 where
  first : a ≡ true → OneOf a b c d e f
  second : b ≡ true → OneOf a b c d e f
  third : c ≡ true → OneOf a b c d e f
  fourth : d ≡ true → OneOf a b c d e f
  fifth : e ≡ true → OneOf a b c d e f
  sixth : f ≡ true → OneOf a b c d e f

one_of : (a b c d e f : Bool) → (a || b || c || d || e || f) ≡ true → OneOf a b c d e f
one_of true b c d e f h = first refl
one_of false true c d e f h = second refl
one_of false false true d e f h = third refl
one_of false false false true e f h = fourth refl
one_of false false false false true f h = fifth refl
one_of false false false false false f h = sixth h

-- bytes that are the payload of the request that is read from them
pub record IsPayloadOf (k : ℕ) (p : List ℕ) : Type 0 where
  pub kind_is : kind (request_of k p) ≡ k
  pub payload_is : payload (request_of k p) ≡ p
  pub fits : is_request (request_of k p) ≡ true

open_payload : (p : List ℕ) → are_bytes p ≡ true → 10 ≤ length p → length p ≡ 10 + u16_at p 8 → u16_at p 8 ≤ 4096 →
    IsPayloadOf 1 p
open_payload p fits long len small =
    let rate = written-number_at w32 (2 ^ 32) wide32 p 0 fits (omega arith) in
    let channels = written-number_at w16 (2 ^ 16) wide16 p 4 fits (omega arith) in
    let bits = written-number_at w16 (2 ^ 16) wide16 p 6 fits (omega arith) in
    let history_len = written-number_at w16 (2 ^ 16) wide16 p 8 fits (omega arith) in
    let len_is : length (drop 10 p) ≡ u16_at p 8 = omega (arith, length-drop 10 p) in
    record {
      kind_is = refl;
      payload_is =
          ap (λ (n : ℕ). le32 (u32_at p 0) ++ (le16 (u16_at p 4) ++ (le16 (u16_at p 6) ++ (le16 n ++ drop 10 p))))
          len_is
          ∙ ap (λ (x : List ℕ). le32 (u32_at p 0) ++ (le16 (u16_at p 4) ++ (le16 (u16_at p 6) ++ x))) history_len.0
          ∙ ap (λ (x : List ℕ). le32 (u32_at p 0) ++ (le16 (u16_at p 4) ++ x)) bits.0
          ∙ ap (λ (x : List ℕ). le32 (u32_at p 0) ++ x) channels.0
          ∙ rate.0;
      fits =
          and_from (is_below (2 ^ 32) (u32_at p 0) && is_below (2 ^ 16) (u16_at p 4) && is_below (2 ^ 16) (u16_at p 6)
          && nat_le (length (drop 10 p)) 4096) (are_bytes (drop 10 p))
          (and_from (is_below (2 ^ 32) (u32_at p 0) && is_below (2 ^ 16) (u16_at p 4)
          && is_below (2 ^ 16) (u16_at p 6)) (nat_le (length (drop 10 p)) 4096)
          (and_from (is_below (2 ^ 32) (u32_at p 0) && is_below (2 ^ 16) (u16_at p 4)) (is_below (2 ^ 16) (u16_at p 6))
          (and_from (is_below (2 ^ 32) (u32_at p 0)) (is_below (2 ^ 16) (u16_at p 4)) (lt-ltb _ _ rate.1)
          (lt-ltb _ _ channels.1)) (lt-ltb _ _ bits.1))
          (le-leb _ _ (omega arith))) (are_bytes-parts 10 p fits).1;
    }

mark_payload : (p : List ℕ) → are_bytes p ≡ true → length p ≡ 8 → IsPayloadOf 3 p
mark_payload p fits len =
    let id = written-number_at w32 (2 ^ 32) wide32 p 0 fits (omega arith) in
    let frame = written-number_at w32 (2 ^ 32) wide32 p 4 fits (omega arith) in
    record {
      kind_is = refl;
      payload_is =
          ap (λ (x : List ℕ). le32 (u32_at p 0) ++ (le32 (u32_at p 4) ++ x)) (sym (drop_all 8 p (omega arith)))
          ∙ ap (λ (x : List ℕ). le32 (u32_at p 0) ++ x) frame.0
          ∙ id.0;
      fits = and_from (is_below (2 ^ 32) (u32_at p 0)) (is_below (2 ^ 32) (u32_at p 4)) (lt-ltb _ _ id.1)
          (lt-ltb _ _ frame.1);
    }

field_payload : (p : List ℕ) → are_bytes p ≡ true → is_within 1 257 (length p) ≡ true → IsPayloadOf 4 p
field_payload [] fits len = absurd cc
field_payload (tag ∷ value) fits len =
    let bytes = and_parts (is_below 256 tag) (are_bytes value) fits in
    let short = leb-true _ _ (and_parts (nat_le 1 (suc (length value))) (nat_le (suc (length value)) 257) len).1 in
    record {
      kind_is = refl;
      payload_is = refl;
      fits =
          and_from (is_below 256 tag && nat_le (length value) 256) (are_bytes value)
          (and_from (is_below 256 tag) (nat_le (length value) 256) bytes.0 (le-leb _ _ (omega arith))) bytes.1;
    }

close_payload : (p : List ℕ) → are_bytes p ≡ true → length p ≡ 8 → IsPayloadOf 5 p
close_payload p fits len =
    let total = written-number_at w64 (2 ^ 64) wide64 p 0 fits (omega arith) in
    record {
      kind_is = refl;
      payload_is = ap (λ (x : List ℕ). le64 (u64_at p 0) ++ x) (sym (drop_all 8 p (omega arith))) ∙ total.0;
      fits = lt-ltb _ _ total.1;
    }

-- bytes that pass as a payload of a request's kind are one
pub payload_from_test : (k : ℕ) (p : List ℕ) → are_bytes p ≡ true → is_payload k p ≡ true → k ≢ 6 → IsPayloadOf k p
payload_from_test k p fits h request =
    elim (one_of _ _ _ _ _ _ h) [
      | first e ↦
          let at = and_parts ((k == 1) && nat_le 10 (length p) && (length p == 10 + u16_at p 8))
          (nat_le (u16_at p 8) 4096) e in
          let at' = and_parts ((k == 1) && nat_le 10 (length p)) (length p == 10 + u16_at p 8) at.0 in
          let at'' = and_parts (k == 1) (nat_le 10 (length p)) at'.0 in
          subst (λ (n : ℕ). IsPayloadOf n p) (sym (eqb-true k 1 at''.0))
          (open_payload p fits (leb-true _ _ at''.1) (eqb-true _ _ at'.1) (leb-true _ _ at.1))
      | second e ↦
          let at = and_parts (k == 2) (is_within 1 32768 (length p)) e in
          subst (λ (n : ℕ). IsPayloadOf n p) (sym (eqb-true k 2 at.0))
          (record {
            kind_is = refl;
            payload_is = refl;
            fits = and_from (is_within 1 32768 (length p)) (are_bytes p) at.1 fits;
          })
      | third e ↦
          let at = and_parts (k == 3) (length p == 8) e in
          subst (λ (n : ℕ). IsPayloadOf n p) (sym (eqb-true k 3 at.0)) (mark_payload p fits (eqb-true _ _ at.1))
      | fourth e ↦
          let at = and_parts (k == 4) (is_within 1 257 (length p)) e in
          subst (λ (n : ℕ). IsPayloadOf n p) (sym (eqb-true k 4 at.0)) (field_payload p fits at.1)
      | fifth e ↦
          let at = and_parts (k == 5) (length p == 8) e in
          subst (λ (n : ℕ). IsPayloadOf n p) (sym (eqb-true k 5 at.0)) (close_payload p fits (eqb-true _ _ at.1))
      | sixth e ↦ absurd (request (eqb-true k 6 (and_parts (k == 6) (length p == 0) e).0))
    ]

-- what is read of a request's payload
pub record ReadsRequest (r : Request) : Type 0 where
  pub passes : is_payload (kind r) (payload r) ≡ true
  pub request_is : request_of (kind r) (payload r) ≡ r
  pub kind_fits : is_within 1 5 (kind r) ≡ true

-- a request that fits is read from its payload
pub reads_request : (r : Request) → is_request r ≡ true → ReadsRequest r
reads_request (Open f history) h =
    let four = and_parts (is_below (2 ^ 32) f.rate && is_below (2 ^ 16) f.channels && is_below (2 ^ 16) f.bits
    && nat_le (length history) 4096) (are_bytes history) h in
    let three = and_parts (is_below (2 ^ 32) f.rate && is_below (2 ^ 16) f.channels && is_below (2 ^ 16) f.bits)
    (nat_le (length history) 4096) four.0 in
    let two = and_parts (is_below (2 ^ 32) f.rate && is_below (2 ^ 16) f.channels) (is_below (2 ^ 16) f.bits) three.0 in
    let one = and_parts (is_below (2 ^ 32) f.rate) (is_below (2 ^ 16) f.channels) two.0 in
    let short = leb-true (length history) 4096 three.1 in
    let p = payload (Open f history) in
    let rate : u32_at p 0 ≡ f.rate = number_at-written w32 (2 ^ 32) wide32 f.rate (drop 4 p) (ltb-true _ _ one.0) in
    let channels : u16_at p 4 ≡ f.channels =
    number_at-written w16 (2 ^ 16) wide16 f.channels (drop 6 p) (ltb-true _ _ one.1) in
    let bits : u16_at p 6 ≡ f.bits = number_at-written w16 (2 ^ 16) wide16 f.bits (drop 8 p) (ltb-true _ _ two.1) in
    let len : u16_at p 8 ≡ length history =
    number_at-written w16 (2 ^ 16) wide16 (length history) history (omega arith) in
    let tests =
    and_from (nat_le 10 (length p) && (length p == 10 + u16_at p 8)) (nat_le (u16_at p 8) 4096)
    (and_from (nat_le 10 (length p)) (length p == 10 + u16_at p 8) (le-leb _ _ (omega arith))
    (eq-eqb _ _ (omega arith)))
    (le-leb _ _ (omega arith)) in
    record {
      passes = rw tests;
      request_is =
          ap (λ (n : ℕ). Open (record { rate = n; channels = u16_at p 4; bits = u16_at p 6 }) history) rate
          ∙ ap (λ (n : ℕ). Open (record { rate = f.rate; channels = n; bits = u16_at p 6 }) history) channels
          ∙ ap (λ (n : ℕ). Open (record { rate = f.rate; channels = f.channels; bits = n }) history) bits;
      kind_fits = refl;
    }
reads_request (Block bytes) h =
    let fits = and_parts (is_within 1 32768 (length bytes)) (are_bytes bytes) h in
    record { passes = rw fits.0; request_is = refl; kind_fits = refl }
reads_request (Mark id frame) h =
    let fits = and_parts (is_below (2 ^ 32) id) (is_below (2 ^ 32) frame) h in
    record {
      passes = refl;
      request_is =
          ap (λ (n : ℕ). Mark n (u32_at (le32 id ++ le32 frame) 4))
          (number_at-written w32 (2 ^ 32) wide32 id (le32 frame) (ltb-true _ _ fits.0))
          ∙ ap (Mark id) (number_at-written w32 (2 ^ 32) wide32 frame [] (ltb-true _ _ fits.1));
      kind_fits = refl;
    }
reads_request (SetField tag value) h =
    let fits = and_parts (is_below 256 tag && nat_le (length value) 256) (are_bytes value) h in
    let short = leb-true _ _ (and_parts (is_below 256 tag) (nat_le (length value) 256) fits.0).1 in
    record {
      passes = rw (le-leb 1 (suc (length value)) (omega arith), le-leb (suc (length value)) 257 (omega arith));
      request_is = refl;
      kind_fits = refl;
    }
reads_request (Close total) h =
    record {
      passes = refl;
      request_is = ap Close (number_at-written w64 (2 ^ 64) wide64 total [] (ltb-true _ _ h));
      kind_fits = refl;
    }

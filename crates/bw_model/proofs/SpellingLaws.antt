-- A body is read as a frame exactly if it spells it.
use Rattle.std.proofs.Common.{◌≡◌, ℕ, ◌^◌, ◌<◌, ◌≤◌, ◌≢◌, Bool, true, false, not, ◌&&◌, cond, List, [], ◌∷◌, ◌++◌}
use Rattle.std.proofs.Common.{length, Option, Some, None, Ok, Err, refl, sym, ap, subst, ◌∙◌, append_assoc, arith}
use Rattle.std.specs.Prelude.{nat_le, ◌==◌}
use Rattle.std.proofs.lemmas.Bool.{and_parts, and_from, or_from, eqb-true, eqb-false, ne_eqb, leb-true, le-leb, le-ltb}
use Rattle.std.proofs.lemmas.Bool.{not-false}
use Rattle.std.proofs.lemmas.List.{nil_from_length}
use Rattle.bw_model.specs.Bytes.{le32, first_that_holds, unless, is_within}
use Rattle.bw_model.specs.Wire.{Version, First, Second, last_number, last_kind, Message, Frame, Says, Asks, Bye, kind}
use Rattle.bw_model.specs.Wire.{payload, body, message_body, is_below, are_bytes, is_name, is_request, is_message}
use Rattle.bw_model.specs.Wire.{is_frame, Spells, Reason, Kind, Name, Number, Payload, is_payload, request_of, name_in}
use Rattle.bw_model.specs.Wire.{number_in, payload_in, is_name_bad, is_number_bad, body_faults, frame_in, decoded}
use Rattle.bw_model.specs.Wire.{DecodesSpellings}
use Rattle.bw_model.proofs.Addresses.{addressed_from_tests, reads-addressed}
use Rattle.bw_model.proofs.Payloads.{payload_from_test, reads_request}

-- a value that no fault kept back
pub unless_ok : {X F : Type 0} (fault : Option F) (x y : X) → unless fault x ≡ Ok y → (fault ≡ None) × (x ≡ y)
unless_ok None x y e = (refl, cc)
unless_ok (Some f) x y e = absurd cc

-- the tests of a body that passes
pub record Passes (v : Version) (k : ℕ) (rest : List ℕ) : Type 0 where
  pub kind_good : is_within 1 (last_kind v) k ≡ true
  pub name_good : is_name_bad rest ≡ false
  pub number_good : is_number_bad (last_number v) rest ≡ false
  pub payload_good : is_payload k (payload_in rest) ≡ true

four_pass : (a b c d : Bool) → first_that_holds ((a, Kind) ∷ (b, Name) ∷ (c, Number) ∷ (d, Payload) ∷ []) ≡ None →
    (a ≡ false) × (b ≡ false) × (c ≡ false) × (d ≡ false)
four_pass true b c d e = absurd cc
four_pass false true c d e = absurd cc
four_pass false false true d e = absurd cc
four_pass false false false true e = absurd cc
four_pass false false false false e = (refl, refl, refl, refl)

-- a body in which no fault holds
pub passes_from : (v : Version) (k : ℕ) (rest : List ℕ) → first_that_holds (body_faults v k rest) ≡ None →
    Passes v k rest
passes_from v k rest e =
    let tests = four_pass (not (is_within 1 (last_kind v) k)) (is_name_bad rest) (is_number_bad (last_number v) rest)
    (not (is_payload k (payload_in rest))) e in
    record {
      kind_good = not-false _ tests.0;
      name_good = tests.1;
      number_good = tests.2;
      payload_good = not-false _ tests.3;
    }

ask_spelled : (v : Version) (k : ℕ) (rest : List ℕ) → are_bytes rest ≡ true → Passes v k rest → k ≡ 6 →
    Spells v (k ∷ rest) (Asks (name_in rest) (number_in rest))
ask_spelled v k rest fits p six =
    let a = addressed_from_tests (last_number v) rest fits p.name_good p.number_good in
    let q : is_payload 6 (payload_in rest) ≡ true =
    subst (λ (n : ℕ). is_payload n (payload_in rest) ≡ true) six p.payload_good in
    let nothing : payload_in rest ≡ [] = nil_from_length (payload_in rest) (eqb-true _ _ q) in
    let known : is_within 1 (last_kind v) 6 ≡ true =
    subst (λ (n : ℕ). is_within 1 (last_kind v) n ≡ true) six p.kind_good in
    record {
      fits = asks_fit v known a.0.named a.1;
      spelled =
          ap (λ (n : ℕ). n ∷ rest) six
          ∙ ap (λ (x : List ℕ). 6 ∷ x) a.0.spelled
          ∙ ap (λ (x : List ℕ). 6 ∷ length (name_in rest) ∷ (name_in rest ++ (le32 (number_in rest) ++ x))) nothing;
    }
  where
    asks_fit : (v : Version) → is_within 1 (last_kind v) 6 ≡ true → is_name (name_in rest) ≡ true →
        nat_le (number_in rest) (last_number v) ≡ true → is_frame v (Asks (name_in rest) (number_in rest)) ≡ true
    asks_fit First known named small = absurd cc
    asks_fit Second known named small =
        and_from (is_name (name_in rest)) (nat_le (number_in rest) (last_number Second)) named small

message_spelled : (v : Version) (k : ℕ) (rest : List ℕ) → are_bytes rest ≡ true → Passes v k rest → k ≢ 6
    → Spells v (k ∷ rest) (Says
    (record { name = name_in rest; number = number_in rest; request = request_of k (payload_in rest) }))
message_spelled v k rest fits p request =
    let a = addressed_from_tests (last_number v) rest fits p.name_good p.number_good in
    let q = payload_from_test k (payload_in rest) a.0.payload_fits p.payload_good request in
    record {
      fits =
          and_from (is_name (name_in rest) && nat_le (number_in rest) (last_number v))
          (is_request (request_of k (payload_in rest)))
          (and_from (is_name (name_in rest)) (nat_le (number_in rest) (last_number v)) a.0.named a.1) q.fits;
      spelled =
          ap (λ (n : ℕ). n ∷ rest) (sym q.kind_is)
          ∙ ap (λ (x : List ℕ). kind (request_of k (payload_in rest)) ∷ x) a.0.spelled
          ∙ ap (λ (x : List ℕ). kind (request_of k (payload_in rest)) ∷ length (name_in rest)
          ∷ (name_in rest ++ (le32 (number_in rest) ++ x))) (sym q.payload_is)
          ∙ ap (λ (x : List ℕ). kind (request_of k (payload_in rest)) ∷ length (name_in rest) ∷ x)
          (sym (append_assoc (name_in rest) (le32 (number_in rest)) (payload (request_of k (payload_in rest)))));
    }

frame_spelled : (v : Version) (k : ℕ) (rest : List ℕ) (six : Bool) → are_bytes rest ≡ true → Passes v k rest →
    (k == 6) ≡ six
    → Spells v (k ∷ rest) (cond six (Asks (name_in rest) (number_in rest))
    (Says (record { name = name_in rest; number = number_in rest; request = request_of k (payload_in rest) })))
frame_spelled v k rest true fits p e = ask_spelled v k rest fits p (eqb-true k 6 e)
frame_spelled v k rest false fits p e = message_spelled v k rest fits p (eqb-false k 6 e)

bye_spelled : (v : Version) (k : ℕ) (rest : List ℕ) (f : Frame) (empty : Bool) → k ≡ 9 → (length rest == 0) ≡ empty →
    cond empty (Ok Bye) (Err Payload) ≡ Ok f → Spells v (k ∷ rest) f
bye_spelled v k rest f true nine none e =
    subst (Spells v (k ∷ rest)) (unless_ok {F = Reason} None Bye f e).1
    (record {
      fits = refl;
      spelled = ap (λ (n : ℕ). n ∷ rest) nine
          ∙ ap (λ (x : List ℕ). 9 ∷ x) (nil_from_length rest (eqb-true _ _ none));
    })
bye_spelled v k rest f false nine none e = absurd cc

body_spelled : (v : Version) (k : ℕ) (rest : List ℕ) (f : Frame) (nine : Bool) → are_bytes rest ≡ true → (k == 9) ≡ nine
    → cond nine (cond (length rest == 0) (Ok Bye) (Err Payload))
    (unless (first_that_holds (body_faults v k rest)) (frame_in k rest)) ≡ Ok f
    → Spells v (k ∷ rest) f
body_spelled v k rest f true fits nine e = bye_spelled v k rest f (length rest == 0) (eqb-true k 9 nine) refl e
body_spelled v k rest f false fits nine e =
    let parts = unless_ok (first_that_holds (body_faults v k rest)) (frame_in k rest) f e in
    subst (Spells v (k ∷ rest)) parts.1 (frame_spelled v k rest (k == 6) fits (passes_from v k rest parts.0) refl)

-- what is read is spelled by the bytes
pub read_is_spelled : (v : Version) (bytes : List ℕ) (f : Frame) → are_bytes bytes ≡ true → decoded v bytes ≡ Ok f →
    Spells v bytes f
unfolding decoded
read_is_spelled v [] f fits e = absurd cc
read_is_spelled v (k ∷ rest) f fits e =
    body_spelled v k rest f (k == 9) (and_parts (is_below 256 k) (are_bytes rest) fits).1 refl e

-- a body that passes is read as the frame in it
passes_reads : (v : Version) (k : ℕ) (rest : List ℕ) → k ≢ 9 → Passes v k rest →
    decoded v (k ∷ rest) ≡ Ok (frame_in k rest)
unfolding decoded
passes_reads v k rest other p = rw (ne_eqb k 9 other, p.kind_good, p.name_good, p.number_good, p.payload_good) refl

reads_ask : (name : List ℕ) (number : ℕ) → is_name name ≡ true → nat_le number (last_number Second) ≡ true →
    decoded Second (body (Asks name number)) ≡ Ok (Asks name number)
reads_ask name number named small =
    let low : number ≤ last_number Second = leb-true _ _ small in
    let r = reads-addressed name number [] named (omega arith) in
    let rest = length name ∷ (name ++ le32 number) in
    let p : Passes Second 6 rest = record {
      kind_good = refl;
      name_good = r.name_good;
      number_good = or_from _ _ r.long (le-ltb _ _ (rw r.number_is low));
      payload_good = rw r.payload_is;
    } in
    passes_reads Second 6 rest (omega arith) p ∙ rw (r.name_is, r.number_is)

reads_message : (v : Version) (m : Message) → is_message v m ≡ true → decoded v (message_body m) ≡ Ok (Says m)
reads_message v m h =
    let address = and_parts (is_name m.name && nat_le m.number (last_number v)) (is_request m.request) h in
    let named = and_parts (is_name m.name) (nat_le m.number (last_number v)) address.0 in
    let low = leb-true _ _ named.1 in
    let r = reads-addressed m.name m.number (payload m.request) named.0 (small v low) in
    let q = reads_request m.request address.1 in
    let rest = length m.name ∷ (m.name ++ (le32 m.number ++ payload m.request)) in
    let within = and_parts (nat_le 1 (kind m.request)) (nat_le (kind m.request) 5) q.kind_fits in
    let least : 1 ≤ kind m.request = leb-true _ _ within.0 in
    let most : kind m.request ≤ 5 = leb-true _ _ within.1 in
    let p : Passes v (kind m.request) rest = record {
      kind_good = and_from (nat_le 1 (kind m.request)) (nat_le (kind m.request) (last_kind v)) within.0
          (le-leb _ _ (more_kinds v most));
      name_good = r.name_good;
      number_good = or_from _ _ r.long (le-ltb _ _ (rw r.number_is low));
      payload_good = rw r.payload_is q.passes;
    } in
    ap (λ (x : List ℕ). decoded v (kind m.request ∷ length m.name ∷ x))
    (append_assoc m.name (le32 m.number) (payload m.request))
    ∙ passes_reads v (kind m.request) rest (omega arith) p
    ∙ rw (ne_eqb (kind m.request) 6 (omega arith), r.name_is, r.number_is, r.payload_is, q.request_is) refl
  where
    small : {n : ℕ} (v : Version) → n ≤ last_number v → n < 2 ^ 32
    small First h = omega arith
    small Second h = omega arith

    more_kinds : {n : ℕ} (v : Version) → n ≤ 5 → n ≤ last_kind v
    more_kinds First h = omega arith
    more_kinds Second h = omega arith

-- what the bytes spell is read
pub spelled_is_read : (v : Version) (f : Frame) → is_frame v f ≡ true → decoded v (body f) ≡ Ok f
unfolding decoded
spelled_is_read v (Says m) h = reads_message v m h
spelled_is_read First (Asks name number) h = absurd cc
spelled_is_read Second (Asks name number) h =
    let parts = and_parts (is_name name) (nat_le number (last_number Second)) h in
    reads_ask name number parts.0 parts.1
spelled_is_read v Bye h = refl

pub decodes_spellings : DecodesSpellings
decodes_spellings v bytes f fits =
    (read_is_spelled v bytes f fits, λ s. ap (decoded v) s.spelled ∙ spelled_is_read v f s.fits)

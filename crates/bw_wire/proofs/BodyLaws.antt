-- What is in a body that spells a message or an ask.
use Rattle.std.proofs.Common.{◌≡◌, ◌≢◌, ℕ, ◌+◌, ◌≤◌, Bool, true, false, not, ◌&&◌, cond, List, [], ◌∷◌, length, drop}
use Rattle.std.proofs.Common.{None, Result, Ok, Err, refl, sym, ap, ◌∙◌, arith}
use Rattle.std.specs.Prelude.{IsTrue, nat_lt, nat_le, slice_index, ◌==◌}
use Rattle.std.proofs.lemmas.Bool.{and_parts, or_parts, ltb-false, leb-true, eqb-false}
use Rattle.bw_model.specs.Bytes.{first_that_holds, unless}
use Rattle.bw_model.specs.Wire.{Second, last_number, Message, Frame, Says, Asks, Bye, Spells, Reason, Payload}
use Rattle.bw_model.specs.Wire.{are_bytes, is_name, is_request, is_payload, request_of, name_in, after_name, number_in}
use Rattle.bw_model.specs.Wire.{payload_in, body_faults, frame_in, decoded}
use Rattle.bw_model.specs.Stream.{longest_body}
use Rattle.bw_model.proofs.SpellingLaws.{Passes, passes_from, unless_ok, read_is_spelled}
use Rattle.bw_model.proofs.FrameLaws.{body_length}
use Rattle.bw_wire.specs.Bodies.{body_name, body_number, body_request, message_in, is_message_read, is_ask_read}
use Rattle.bw_wire.specs.Bodies.{is_message_body, is_ask_body, IsAddressedBody}

pub record IsMessageBody (b : List ℕ) : Type 0 where
  pub addressed : IsAddressedBody b
  pub kind : slice_index b 0 ≤ 5
  pub payload : is_payload (slice_index b 0) (payload_in (drop 1 b)) ≡ true
  pub read : decoded Second b ≡ Ok (Says (message_in b))

read_parts : (k : ℕ) (rest : List ℕ) (f : Frame) → decoded Second (k ∷ rest) ≡ Ok f → f ≢ Bye →
    Passes Second k rest × (frame_in k rest ≡ f)
unfolding decoded
read_parts k rest f e other = go (k == 9) e
  where
    go : (nine : Bool) → cond nine (cond (length rest == 0) (Ok Bye) (Err Payload))
        (unless (first_that_holds (body_faults Second k rest)) (frame_in k rest)) ≡ Ok f
        → Passes Second k rest × (frame_in k rest ≡ f)
    go true e = absurd (bye (length rest == 0) e)
      where
        bye : (empty : Bool) → cond empty (Ok Bye) (Err Payload) ≡ Ok f → ⊥
        bye true e = other (sym (unless_ok {F = Reason} None Bye f e).1)
        bye false e = cc
    go false e =
        let parts = unless_ok (first_that_holds (body_faults Second k rest)) (frame_in k rest) f e in
        (passes_from Second k rest parts.0, parts.1)

addressed_from : (k : ℕ) (rest : List ℕ) → Passes Second k rest → IsAddressedBody (k ∷ rest)
unfolding body_number
addressed_from k rest p =
    let name = or_parts (nat_lt (length rest) (1 + slice_index rest 0)) (not (is_name (name_in rest))) p.name_good in
    let number = or_parts (nat_lt (length (after_name rest)) 4)
    (nat_lt (last_number Second) (number_in rest)) p.number_good in
    record {
      some = omega arith;
      address = record { named = ltb-false _ _ name.0; numbered = ltb-false _ _ number.0 };
      named = p.name_good;
      number = ltb-false _ _ number.1;
    }

message_from : (k : ℕ) (rest : List ℕ) (m : Message) → decoded Second (k ∷ rest) ≡ Ok (Says m) →
    IsMessageBody (k ∷ rest)
unfolding body_name body_number body_request
message_from k rest m e =
    let parts = read_parts k rest (Says m) e (λ same. cc) in
    let within = and_parts (nat_le 1 k) (nat_le k 6) parts.0.kind_good in
    let six = not_ask (k == 6) refl parts.1 in
    let low : k ≤ 6 = leb-true _ _ within.1 in
    let request : k ≡ 6 → ⊥ = eqb-false k 6 six.0 in
    record {
      addressed = addressed_from k rest parts.0;
      kind = omega arith;
      payload = parts.0.payload_good;
      read = e ∙ ap Ok (sym six.1);
    }
  where
    spoken : Frame
    spoken = Says (record { name = name_in rest; number = number_in rest; request = request_of k (payload_in rest) })

    not_ask : (six : Bool) → (k == 6) ≡ six → cond six (Asks (name_in rest) (number_in rest)) spoken ≡ Says m →
        ((k == 6) ≡ false) × (spoken ≡ Says m)
    not_ask true six e = absurd cc
    not_ask false six e = (six, e)

nothing_stands : (f : Frame) → decoded Second [] ≡ Ok f → ⊥
unfolding decoded
nothing_stands f e = cc

message_found : (read : Result Frame Reason) → is_message_read read ≡ true → (m : Message) × (read ≡ Ok (Says m))
message_found (Ok (Says m)) h = (m, refl)
message_found (Ok (Asks name number)) h = absurd cc
message_found (Ok Bye) h = absurd cc
message_found (Err reason) h = absurd cc

message_stands : (b : List ℕ) → is_message_read (decoded Second b) ≡ true → IsMessageBody b
message_stands [] h =
    let m = message_found (decoded Second []) h in
    absurd (nothing_stands (Says m.0) m.1)
message_stands (k ∷ rest) h =
    let m = message_found (decoded Second (k ∷ rest)) h in
    message_from k rest m.0 m.1

-- a body that passes as a message's is one
pub message_body : (b : List ℕ) → IsTrue (is_message_body b) → IsMessageBody b
message_body b h = message_stands b (and_parts (are_bytes b) (is_message_read (decoded Second b)) h).1

pub message_spelled : (b : List ℕ) → IsTrue (is_message_body b) → Spells Second b (Says (message_in b))
message_spelled b h = read_is_spelled Second b (Says (message_in b))
    (and_parts (are_bytes b) (is_message_read (decoded Second b)) h).0 (message_body b h).read

pub message_length : (b : List ℕ) → IsTrue (is_message_body b) → length b ≤ longest_body
message_length b h =
    let s = message_spelled b h in
    omega (arith, ap (length {A = ℕ}) s.spelled, (body_length Second (Says (message_in b)) s.fits).1)

pub message_request : (b : List ℕ) → IsTrue (is_message_body b) → is_request (body_request b) ≡ true
message_request b h =
    (and_parts (is_name (body_name b) && nat_le (body_number b) (last_number Second)) (is_request (body_request b))
    (message_spelled b h).fits).1

ask_found : (read : Result Frame Reason) → is_ask_read read ≡ true →
    (name : List ℕ) × (number : ℕ) × (read ≡ Ok (Asks name number))
ask_found (Ok (Says m)) h = absurd cc
ask_found (Ok (Asks name number)) h = (name, number, refl)
ask_found (Ok Bye) h = absurd cc
ask_found (Err reason) h = absurd cc

pub record IsAskBody (b : List ℕ) : Type 0 where
  pub addressed : IsAddressedBody b
  pub read : decoded Second b ≡ Ok (Asks (body_name b) (body_number b))

ask_from : (k : ℕ) (rest name : List ℕ) (number : ℕ) → decoded Second (k ∷ rest) ≡ Ok (Asks name number) →
    IsAskBody (k ∷ rest)
unfolding body_name body_number
ask_from k rest name number e =
    let parts = read_parts k rest (Asks name number) e (λ same. cc) in
    record { addressed = addressed_from k rest parts.0; read = e ∙ ap Ok (sym (is_ask (k == 6) parts.1)) }
  where
    is_ask : (six : Bool) →
        cond six (Asks (name_in rest) (number_in rest))
        (Says (record { name = name_in rest; number = number_in rest; request = request_of k (payload_in rest) }))
        ≡ Asks name number
        → Asks (name_in rest) (number_in rest) ≡ Asks name number
    is_ask true e = e
    is_ask false e = absurd cc

ask_stands : (b : List ℕ) → is_ask_read (decoded Second b) ≡ true → IsAskBody b
ask_stands [] h =
    let a = ask_found (decoded Second []) h in
    absurd (nothing_stands (Asks a.0 a.1) a.2)
ask_stands (k ∷ rest) h =
    let a = ask_found (decoded Second (k ∷ rest)) h in
    ask_from k rest a.0 a.1 a.2

-- a body that passes as an ask's is one
pub ask_body : (b : List ℕ) → IsTrue (is_ask_body b) → IsAskBody b
ask_body b h = ask_stands b (and_parts (are_bytes b) (is_ask_read (decoded Second b)) h).1

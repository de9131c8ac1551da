-- The prefix of a stream's bytes.
use Rattle.std.proofs.Common.{◌≡◌, ◌≢◌, ℕ, ◌+◌, ◌-◌, ◌≤◌, ◌<◌, Bool, true, false, not, cond, ◌||◌, List, [], ◌∷◌}
use Rattle.std.proofs.Common.{length, take, drop, Some, Result, Ok, Err, refl, sym, ap, subst, ◌∙◌, arith}
use Rattle.std.specs.Prelude.{IsTrue, nat_lt, ◌==◌}
use Rattle.std.proofs.lemmas.Bool.{ltb-true, or_parts, ltb-false}
use Rattle.bw_model.specs.Bytes.{u32_at, first_that_holds, unless, is_within}
use Rattle.bw_model.specs.Wire.{Second, Frame, Says, Asks, Bye, Reason, Length, Kind, Name, Number, Payload, Cut}
use Rattle.bw_model.specs.Wire.{is_payload, payload_in, is_name_bad, is_number_bad, frame_in, decoded}
use Rattle.bw_model.specs.Stream.{longest_body, framing_faults, before, first_frame}
use Rattle.bw_model.proofs.FrameLaws.{first_by, first_frame-by}
use Rattle.bw_wire.specs.Bodies.{body_name, body_number, message_in, is_message_body, is_ask_body}
use Rattle.bw_wire.specs.Framings.{body_at_prefix, HasPrefix}
use Rattle.bw_wire.specs.FramePrefixes.{IsMessagePrefix, IsAskPrefix, IsByePrefix}
use Rattle.bw_wire.proofs.BodyLaws.{message_body, ask_body}

-- a fault of the framing is the fault of the bytes
pub first_frame-framing : (bytes : List ℕ) (reason : Reason) →
    first_that_holds (framing_faults longest_body bytes) ≡ Some reason → first_frame Second bytes ≡ Err reason
first_frame-framing bytes reason e =
    first_frame-by Second bytes
    ∙ ap (first_by (drop (4 + u32_at bytes 0) bytes) (decoded Second (take (u32_at bytes 0) (drop 4 bytes)))) e

-- after sound framing the body decides
pub first_frame-prefix : (bytes : List ℕ) (len : ℕ) (read : Result Frame Reason) → HasPrefix longest_body bytes len →
    read ≡ decoded Second (body_at_prefix len bytes)
    → first_frame Second bytes ≡ before (drop (4 + len) bytes) read
first_frame-prefix bytes len read h e =
    first_frame-by Second bytes
    ∙ ap (first_by (drop (4 + u32_at bytes 0) bytes) (decoded Second (take (u32_at bytes 0) (drop 4 bytes)))) h.framed
    ∙ ap (λ (n : ℕ). before (drop (4 + n) bytes) (decoded Second (take n (drop 4 bytes)))) (sym h.len_is)
    ∙ ap (before (drop (4 + len) bytes)) (sym e)

not_cut : (nine empty a b c d : Bool) (x : Frame)
    → cond nine (cond empty (Ok Bye) (Err Payload))
    (unless (first_that_holds ((a, Kind) ∷ (b, Name) ∷ (c, Number) ∷ (d, Payload) ∷ [])) x) ≡ Err Cut → ⊥
not_cut true true a b c d x e = cc
not_cut true false a b c d x e = cc
not_cut false empty true b c d x e = cc
not_cut false empty false true c d x e = cc
not_cut false empty false false true d x e = cc
not_cut false empty false false false true x e = cc
not_cut false empty false false false false x e = cc

-- a body is never cut
pub decoded-not_cut : (b : List ℕ) → decoded Second b ≡ Err Cut → ⊥
unfolding decoded
decoded-not_cut [] e = cc
decoded-not_cut (k ∷ rest) e =
    not_cut (k == 9) (length rest == 0) (not (is_within 1 6 k)) (is_name_bad rest) (is_number_bad 16777215 rest)
    (not (is_payload k (payload_in rest))) (frame_in k rest) e

-- the body that a decoder was given
pub body-decoded : (bytes : List ℕ) (len : ℕ) →
    decoded Second (take (4 + len - 4) (drop 4 bytes)) ≡ decoded Second (body_at_prefix len bytes)
body-decoded bytes len = ap (λ (n : ℕ). decoded Second (take n (drop 4 bytes))) (omega arith)

pub bad_prefix : (bytes : List ℕ) (len : ℕ) (reason : Reason) → HasPrefix longest_body bytes len →
    Err reason ≡ decoded Second (take (4 + len - 4) (drop 4 bytes))
    → (first_frame Second bytes ≡ Err reason) × (reason ≢ Cut)
bad_prefix bytes len reason h e = (
  first_frame-prefix bytes len (Err reason) h (e ∙ body-decoded bytes len),
  λ cut. decoded-not_cut (take (4 + len - 4) (drop 4 bytes)) (sym e ∙ ap Err cut),
)

pub bye_prefix : (bytes : List ℕ) (len : ℕ) → HasPrefix longest_body bytes len →
    Ok Bye ≡ decoded Second (take (4 + len - 4) (drop 4 bytes)) → IsByePrefix bytes len
bye_prefix bytes len h e =
    record { whole = h.whole; first = first_frame-prefix bytes len (Ok Bye) h (e ∙ body-decoded bytes len) }

same_body : (bytes : List ℕ) (len : ℕ) (body : List ℕ) → body ≡ take (4 + len - 4) (drop 4 bytes) →
    body ≡ body_at_prefix len bytes
same_body bytes len body e = e ∙ ap (λ (n : ℕ). take n (drop 4 bytes)) (omega arith)

pub message_prefix : (bytes : List ℕ) (len : ℕ) (body : List ℕ) → HasPrefix longest_body bytes len →
    IsTrue (is_message_body body) → body ≡ take (4 + len - 4) (drop 4 bytes) → IsMessagePrefix bytes len
message_prefix bytes len body h spells e =
    let spelled : IsTrue (is_message_body (body_at_prefix len bytes)) =
    subst (λ (b : List ℕ). IsTrue (is_message_body b)) (same_body bytes len body e) spells in
    record {
      whole = h.whole;
      spelled = spelled;
      first = first_frame-prefix bytes len (Ok (Says (message_in (body_at_prefix len bytes)))) h
          (sym (message_body (body_at_prefix len bytes) spelled).read);
    }

pub ask_prefix : (bytes : List ℕ) (len : ℕ) (body : List ℕ) → HasPrefix longest_body bytes len →
    IsTrue (is_ask_body body) → body ≡ take (4 + len - 4) (drop 4 bytes) → IsAskPrefix bytes len
ask_prefix bytes len body h spells e =
    let spelled : IsTrue (is_ask_body (body_at_prefix len bytes)) =
    subst (λ (b : List ℕ). IsTrue (is_ask_body b)) (same_body bytes len body e) spells in
    record {
      whole = h.whole;
      spelled = spelled;
      first =
          first_frame-prefix bytes len
          (Ok (Asks (body_name (body_at_prefix len bytes)) (body_number (body_at_prefix len bytes)))) h
          (sym (ask_body (body_at_prefix len bytes) spelled).read);
    }

-- what isn't whole yet is shorter than the longest body after its length
pub partial_is_short : (longest : ℕ) (bytes : List ℕ) → first_that_holds (framing_faults longest bytes) ≡ Some Cut →
    length bytes ≤ longest + 3
partial_is_short longest bytes e =
    go (nat_lt (length bytes) 4) refl ((u32_at bytes 0 == 0) || nat_lt longest (u32_at bytes 0)) refl
    (nat_lt (length bytes) (4 + u32_at bytes 0)) refl e
  where
    go : (a : Bool) → nat_lt (length bytes) 4 ≡ a → (b : Bool) →
        ((u32_at bytes 0 == 0) || nat_lt longest (u32_at bytes 0)) ≡ b → (c : Bool) →
        nat_lt (length bytes) (4 + u32_at bytes 0) ≡ c
        → first_that_holds ((a, Cut) ∷ (b, Length) ∷ (c, Cut) ∷ []) ≡ Some Cut → length bytes ≤ longest + 3
    go true ea b eb c ec e = let h : length bytes < 4 = ltb-true _ _ ea in omega arith
    go false ea true eb c ec e = absurd cc
    go false ea false eb true ec e =
        let most : u32_at bytes 0 ≤ longest =
        ltb-false _ _ (or_parts (u32_at bytes 0 == 0) (nat_lt longest (u32_at bytes 0)) eb).1 in
        let cut : length bytes < 4 + u32_at bytes 0 = ltb-true _ _ ec in
        omega arith
    go false ea false eb false ec e = absurd cc

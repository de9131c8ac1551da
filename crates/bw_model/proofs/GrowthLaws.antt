-- What more bytes change: a frame that is there stays, and bytes that are no frame stay none.
use Rattle.std.proofs.Common.{◌≡◌, ◌≢◌, ℕ, ◌+◌, ◌≤◌, Bool, true, false, ◌||◌, List, [], ◌∷◌, ◌++◌, length, take, drop}
use Rattle.std.proofs.Common.{Result, Ok, Err, refl, sym, ap, ◌∙◌, arith}
use Rattle.std.specs.Prelude.{nat_lt, ◌==◌}
use Rattle.std.specs.Int.{w32, from_le_bytes}
use Rattle.std.proofs.lemmas.Bool.{ltb-false, le-ltb}
use Rattle.std.proofs.lemmas.List.{take-append-le, drop-append-le, length-append, length-drop}
use Rattle.bw_model.specs.Bytes.{u32_at, first_that_holds}
use Rattle.bw_model.specs.Wire.{Version, Reason, Length, Cut, decoded}
use Rattle.bw_model.specs.Replies.{decoded_reply}
use Rattle.bw_model.specs.Stream.{longest_body, longest_reply, framing_faults, before, first_frame, first_reply}
use Rattle.bw_model.proofs.FrameLaws.{HasBody, has_body, framing_passes, first_by, first_frame-by, first_reply-by}

u32_at-grows : (bytes piece : List ℕ) → 4 ≤ length bytes → u32_at (bytes ++ piece) 0 ≡ u32_at bytes 0
u32_at-grows bytes piece h = ap (λ (x : List ℕ). from_le_bytes w32 x) (take-append-le 4 bytes piece h)

body-grows : (longest : ℕ) (bytes piece : List ℕ) → HasBody longest bytes
    → HasBody longest (bytes ++ piece)
    × (take (u32_at (bytes ++ piece) 0) (drop 4 (bytes ++ piece)) ≡ take (u32_at bytes 0) (drop 4 bytes))
body-grows longest bytes piece h =
    let n-is = u32_at-grows bytes piece h.head in
    let len = length-append bytes piece in (
      record {
        head = omega (arith, h.head);
        some = omega (arith, h.some);
        short = omega (arith, h.short);
        whole = omega (arith, h.whole);
      },
      ap (λ (n : ℕ). take n (drop 4 (bytes ++ piece))) n-is
          ∙ ap (take (u32_at bytes 0)) (drop-append-le 4 bytes piece h.head)
          ∙ take-append-le (u32_at bytes 0) (drop 4 bytes) piece (omega (arith, h.whole, length-drop 4 bytes)),
    )

-- a fault that isn't for lack of bytes stays
bad_grows : {X : Type 0} (longest : ℕ) (bytes piece more later : List ℕ) (read : List ℕ → Result X Reason)
    (reason : Reason) (a b c : Bool) → reason ≢ Cut
    → nat_lt (length bytes) 4 ≡ a → ((u32_at bytes 0 == 0) || nat_lt longest (u32_at bytes 0)) ≡ b →
    nat_lt (length bytes) (4 + u32_at bytes 0) ≡ c
    → first_by more (read (take (u32_at bytes 0) (drop 4 bytes)))
    (first_that_holds ((a, Cut) ∷ (b, Length) ∷ (c, Cut) ∷ [])) ≡ Err reason
    → first_by later (read (take (u32_at (bytes ++ piece) 0) (drop 4 (bytes ++ piece))))
    (first_that_holds (framing_faults longest (bytes ++ piece))) ≡ Err reason
bad_grows longest bytes piece more later read reason true b c other ea eb ec e = absurd (other cc)
bad_grows longest bytes piece more later read reason false false true other ea eb ec e = absurd (other cc)
bad_grows longest bytes piece more later read reason false true c other ea eb ec e =
    let head : 4 ≤ length bytes = ltb-false _ _ ea in
    let long : nat_lt (length (bytes ++ piece)) 4 ≡ false = le-ltb _ _ (omega (arith, length-append bytes piece)) in
    rw (long, u32_at-grows bytes piece head, eb) e
bad_grows {X} longest bytes piece more later read reason false false false other ea eb ec e =
    let has = has_body longest bytes (rw (ea, eb, ec) refl) in
    let grown = body-grows longest bytes piece has in
    ap (first_by later (read (take (u32_at (bytes ++ piece) 0) (drop 4 (bytes ++ piece)))))
    (framing_passes longest (bytes ++ piece) grown.0)
    ∙ ap (λ (x : List ℕ). before later (read x)) grown.1
    ∙ still (read (take (u32_at bytes 0) (drop 4 bytes))) e
  where
    still : (x : Result X Reason) → before more x ≡ Err reason → before later x ≡ Err reason
    still (Ok y) e = absurd cc
    still (Err other) e = cc

pub first_frame-bad_grows : (v : Version) (bytes piece : List ℕ) (reason : Reason) → reason ≢ Cut →
    first_frame v bytes ≡ Err reason → first_frame v (bytes ++ piece) ≡ Err reason
first_frame-bad_grows v bytes piece reason other e =
    first_frame-by v (bytes ++ piece)
    ∙ bad_grows longest_body bytes piece (drop (4 + u32_at bytes 0) bytes)
    (drop (4 + u32_at (bytes ++ piece) 0) (bytes ++ piece)) (decoded v) reason _ _ _ other refl refl refl
    (sym (first_frame-by v bytes) ∙ e)

pub first_reply-bad_grows : (bytes piece : List ℕ) (reason : Reason) → reason ≢ Cut → first_reply bytes ≡ Err reason →
    first_reply (bytes ++ piece) ≡ Err reason
first_reply-bad_grows bytes piece reason other e =
    first_reply-by (bytes ++ piece)
    ∙ bad_grows longest_reply bytes piece (drop (4 + u32_at bytes 0) bytes)
    (drop (4 + u32_at (bytes ++ piece) 0) (bytes ++ piece)) decoded_reply reason _ _ _ other refl refl refl
    (sym (first_reply-by bytes) ∙ e)

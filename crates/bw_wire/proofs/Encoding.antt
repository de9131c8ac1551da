-- A frame, put together as the encoders do.
use Rattle.std.proofs.Common.{◌≡◌, ℕ, ◌+◌, ◌≤◌, true, ◌&&◌, List, ◌++◌, length, ap, arith}
use Rattle.std.specs.Prelude.{IsTrue, nat_le}
use Rattle.std.proofs.lemmas.Bool.{and_from, le-leb}
use Rattle.std.proofs.lemmas.List.{length-append}
use Rattle.bw_model.specs.Bytes.{le32}
use Rattle.bw_model.specs.Take.{Request}
use Rattle.bw_model.specs.Wire.{Second, last_number, Asks, kind, payload, addressed, framed, is_name, is_request}
use Rattle.bw_model.specs.Replies.{is_addressed}
use Rattle.bw_wire.specs.EncodedFrames.{IsFrameOf, said}

-- a body's length, its address and its payload are its frame
pub framed-parts : (k : ℕ) (name : List ℕ) (number : ℕ) (p : List ℕ) →
    le32 (6 + length name + length p) ++ addressed k name number ++ p ≡ framed (addressed k name number ++ p)
framed-parts k name number p =
    ap (λ (n : ℕ). le32 n ++ (addressed k name number ++ p))
    (omega (arith, length-append name (le32 number), length-append (name ++ le32 number) p))

pub message_frame : (name : List ℕ) (number : ℕ) (request : Request) → IsTrue (is_name name) →
    number ≤ last_number Second → IsTrue (is_request request)
    → IsFrameOf (said name number request)
    (le32 (6 + length name + length (payload request)) ++ addressed (kind request) name number ++ payload request)
message_frame name number request named small fits = record {
  fits = and_from (is_name name && nat_le number (last_number Second)) (is_request request)
      (and_from (is_name name) (nat_le number (last_number Second)) named (le-leb _ _ small)) fits;
  spelled = framed-parts (kind request) name number (payload request);
}

pub ask_frame : (name : List ℕ) (number : ℕ) → IsTrue (is_name name) → number ≤ last_number Second →
    IsFrameOf (Asks name number) (le32 (6 + length name + 0) ++ addressed 6 name number)
ask_frame name number named small = record {
  fits = and_from (is_name name) (nat_le number (last_number Second)) named (le-leb _ _ small);
  spelled = ap (λ (n : ℕ). le32 n ++ addressed 6 name number) (omega (arith, length-append name (le32 number)));
}

pub addressed_fits : (name : List ℕ) (number : ℕ) → IsTrue (is_name name) → number ≤ last_number Second →
    is_addressed name number ≡ true
addressed_fits name number named small =
    and_from (is_name name) (nat_le number (last_number Second)) named (le-leb _ _ small)

pub noticed_fits : (name : List ℕ) (number next : ℕ) → IsTrue (is_name name) →
    (number ≤ last_number Second) × (next ≤ last_number Second + 1)
    → (is_addressed name number && nat_le next (last_number Second + 1)) ≡ true
noticed_fits name number next named small =
    and_from (is_addressed name number) (nat_le next (last_number Second + 1))
    (addressed_fits name number named small.0) (le-leb _ _ small.1)

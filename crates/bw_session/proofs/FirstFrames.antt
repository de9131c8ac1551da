-- The frames of some first bytes are the first frames of all.
use Rattle.std.proofs.Common.{◌≡◌, ℕ, suc, ◌+◌, true, List, ◌++◌, length, refl, sym, ap, ◌∙◌, append_assoc}
use Rattle.std.proofs.Common.{arith}
use Rattle.std.specs.List.{list_all}
use Rattle.std.proofs.lemmas.Bool.{and_parts, and_from}
use Rattle.std.proofs.lemmas.List.{length-append}
use Rattle.std.proofs.lemmas.List.Folds.{list_all-append}
use Rattle.std.proofs.lemmas.Grind.{flat_map-append}
use Rattle.bw_model.specs.Wire.{Second, Frame, body, framed, is_below, are_bytes}
use Rattle.bw_model.specs.Stream.{End, end_at, is_turn, frames_bytes, stream_from, stream_of}
use Rattle.bw_model.proofs.ByteNumbers.{are_bytes-tail}
use Rattle.bw_model.proofs.StreamLaws.{StreamAt, given, found}
use Rattle.bw_exchange.specs.Done.{AreFirstOf}

-- a stream, and then that of the bytes that no frame of it has, with more after them
two_streams : (bytes more rest : List ℕ) (fs gs : List Frame) (end : End) → list_all (is_turn Second) fs ≡ true →
    bytes ≡ frames_bytes fs ++ rest → StreamAt Second (length (frames_bytes fs)) (rest ++ more) gs end →
    StreamAt Second 0 (bytes ++ more) (fs ++ gs) end
two_streams bytes more rest fs gs end each whole t = record {
  rest = t.rest;
  each = list_all-append (is_turn Second) fs gs
      ∙ and_from (list_all (is_turn Second) fs) (list_all (is_turn Second) gs) each t.each;
  whole = ap (λ (x : List ℕ). x ++ more) whole ∙ append_assoc (frames_bytes fs) rest more
      ∙ ap (λ (x : List ℕ). frames_bytes fs ++ x) t.whole
      ∙ sym (append_assoc (frames_bytes fs) (frames_bytes gs) t.rest)
      ∙ ap (λ (x : List ℕ). x ++ t.rest) (sym joined);
  ends = ap (λ (n : ℕ). end_at Second n t.rest) (omega (arith, len)) ∙ t.ends;
}
  where
    joined : frames_bytes (fs ++ gs) ≡ frames_bytes fs ++ frames_bytes gs
    joined = flat_map-append (λ (f : Frame). framed (body f)) fs gs

    len : length (frames_bytes (fs ++ gs)) ≡ length (frames_bytes fs) + length (frames_bytes gs)
    len = ap length joined ∙ length-append (frames_bytes fs) (frames_bytes gs)

-- what are first frames of some bytes are so with more after them
pub first_of_more : (frames : List Frame) (bytes more : List ℕ) → are_bytes (bytes ++ more) ≡ true →
    AreFirstOf frames bytes → AreFirstOf frames (bytes ++ more)
unfolding stream_of
first_of_more frames bytes more fits h =
    let parts = and_parts (are_bytes bytes) (are_bytes more)
    (sym (list_all-append (is_below 256) bytes more) ∙ fits) in
    let x = stream_from (suc (length bytes)) Second 0 bytes in
    let s = found (suc (length bytes)) Second 0 bytes x.0 x.1 (omega arith) parts.0 refl in
    let tail_fits = are_bytes-tail (frames_bytes x.0) (s.rest ++ more)
    (ap are_bytes (sym (append_assoc (frames_bytes x.0) s.rest more)
    ∙ ap (λ (b : List ℕ). b ++ more) (sym s.whole)) ∙ fits) in
    let place = length (frames_bytes x.0) in
    let y = stream_from (suc (length (s.rest ++ more))) Second place (s.rest ++ more) in
    let t = found (suc (length (s.rest ++ more))) Second place (s.rest ++ more) y.0 y.1 (omega arith) tail_fits refl in
    let all = given (suc (length (bytes ++ more))) Second 0 (bytes ++ more) (x.0 ++ y.0) y.1 (omega arith)
    (two_streams bytes more s.rest x.0 y.0 y.1 s.each s.whole t) in (
      h.0 ++ y.0,
      ap (λ (z : List Frame × End). z.0) all ∙ ap (λ (fs : List Frame). fs ++ y.0) h.1
          ∙ append_assoc frames h.0 y.0,
    )

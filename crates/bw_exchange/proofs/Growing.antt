-- What more bytes change of a stream that has ended: nothing, unless only the input's end showed
-- it.
use Rattle.std.proofs.Common.{◌≡◌, ℕ, suc, true, List, [], ◌∷◌, ◌++◌, length, Some, Result, Ok}
use Rattle.std.proofs.Common.{Err, refl, sym, ap, ◌∙◌, append_assoc, arith}
use Rattle.bw_model.specs.Wire.{Second, Frame, Says, Asks, Bye, Reason, body, framed, are_bytes}
use Rattle.bw_model.specs.Stream.{first_frame, End, EndOfInput, SaidBye, BadFrame, end_by, end_at, frames_bytes}
use Rattle.bw_model.specs.Stream.{stream_of}
use Rattle.bw_model.proofs.ByteNumbers.{are_bytes-tail}
use Rattle.bw_model.proofs.FrameLaws.{read_frame_stands, first_frame-framed}
use Rattle.bw_model.proofs.GrowthLaws.{first_frame-bad_grows}
use Rattle.bw_model.proofs.StreamLaws.{given, streams_agree}
use Rattle.bw_exchange.specs.Ends.{IsFinal}

-- the end that a first frame makes is that of more bytes too
end_by-grows : (place : ℕ) (b : ℕ) (bs more : List ℕ) (end : End) (read : Result (Frame × List ℕ) Reason) →
    are_bytes (b ∷ bs) ≡ true → first_frame Second (b ∷ bs) ≡ read → IsFinal end → end_by place read ≡ Some end →
    end_at Second place ((b ∷ bs) ++ more) ≡ Some end
end_by-grows place b bs more end (Ok (Says m, rest)) fits e final ended = absurd cc
end_by-grows place b bs more end (Ok (Asks name number, rest)) fits e final ended = absurd cc
end_by-grows place b bs more end (Ok (Bye, rest)) fits e final ended =
    let whole : (b ∷ bs) ++ more ≡ framed (body Bye) ++ (rest ++ more) =
    ap (λ (x : List ℕ). x ++ more) (read_frame_stands Second (b ∷ bs) Bye rest fits e).1
    ∙ append_assoc (framed (body Bye)) rest more in
    ap (end_by place)
    (ap (first_frame Second) whole ∙ first_frame-framed Second Bye (rest ++ more) refl)
    ∙ ended
end_by-grows place b bs more EndOfInput (Err reason) fits e final ended = absurd final
end_by-grows place b bs more SaidBye (Err reason) fits e final ended = absurd cc
end_by-grows place b bs more (BadFrame why offset) (Err reason) fits e final ended =
    let same : reason ≡ why = cc in
    ap (end_by place) (first_frame-bad_grows Second (b ∷ bs) more reason (λ cut. final (sym same ∙ cut)) e) ∙ ended

end_at-grows : (place : ℕ) (bytes more : List ℕ) (end : End) → are_bytes bytes ≡ true → IsFinal end →
    end_at Second place bytes ≡ Some end → end_at Second place (bytes ++ more) ≡ Some end
end_at-grows place [] more EndOfInput fits final e = absurd final
end_at-grows place [] more SaidBye fits final e = absurd cc
end_at-grows place [] more (BadFrame reason offset) fits final e = absurd cc
end_at-grows place (b ∷ bs) more end fits final e =
    end_by-grows place b bs more end (first_frame Second (b ∷ bs)) fits refl final e

-- the frames of bytes that end so, and the end, are those of more bytes
pub stream_of-grows : (bytes more : List ℕ) (fs : List Frame) (end : End) → are_bytes bytes ≡ true → IsFinal end →
    stream_of Second bytes ≡ (fs, end) → stream_of Second (bytes ++ more) ≡ (fs, end)
unfolding stream_of
stream_of-grows bytes more fs end fits final e =
    let s = (streams_agree Second bytes fs end fits).1 e in
    let tail : are_bytes s.rest ≡ true = are_bytes-tail (frames_bytes fs) s.rest (ap are_bytes (sym s.whole) ∙ fits) in
    given (suc (length (bytes ++ more))) Second 0 (bytes ++ more) fs end (omega arith) (record {
      rest = s.rest ++ more;
      each = s.each;
      whole = ap (λ (x : List ℕ). x ++ more) s.whole ∙ append_assoc (frames_bytes fs) s.rest more;
      ends = ap (λ (n : ℕ). end_at Second n (s.rest ++ more)) (omega arith)
          ∙ end_at-grows (length (frames_bytes fs)) s.rest more end tail final s.ends;
    })

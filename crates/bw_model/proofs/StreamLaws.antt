-- Bytes have one stream, which the function gives.
use Rattle.std.proofs.Common.{◌≡◌, ℕ, zero, suc, ◌+◌, ◌-◌, ◌<◌, true, List, [], ◌∷◌, ◌++◌, length, Option, Some, None}
use Rattle.std.proofs.Common.{Result, Ok, Err, refl, sym, ap, subst, ◌∙◌, append_assoc, arith}
use Rattle.std.specs.List.{list_all}
use Rattle.std.proofs.lemmas.Bool.{and_parts, and_from}
use Rattle.std.proofs.lemmas.List.{length-append}
use Rattle.bw_model.specs.Wire.{Version, Frame, Says, Asks, Bye, body, framed, are_bytes, is_frame, Reason}
use Rattle.bw_model.specs.Stream.{first_frame, End, BadFrame, end_by, end_at, is_turn, frames_bytes, stream_from}
use Rattle.bw_model.specs.Stream.{stream_of, StreamsAgree}
use Rattle.bw_model.proofs.ByteNumbers.{are_bytes-tail}
use Rattle.bw_model.proofs.FrameLaws.{read_frame_stands, first_frame-framed}

-- a stream from a place on
pub record StreamAt (v : Version) (place : ℕ) (bytes : List ℕ) (fs : List Frame) (end : End) : Type 0 where
  pub rest : List ℕ
  pub each : list_all (is_turn v) fs ≡ true
  pub whole : bytes ≡ frames_bytes fs ++ rest
  pub ends : end_at v (place + length (frames_bytes fs)) rest ≡ Some end

turn_fits : (v : Version) (f : Frame) → is_turn v f ≡ true → is_frame v f ≡ true
turn_fits v (Says m) h = h
turn_fits v (Asks name number) h = h
turn_fits v Bye h = absurd cc

turn_goes_on : (v : Version) (place : ℕ) (f : Frame) (more : List ℕ) → is_turn v f ≡ true →
    end_by place (Ok (f, more)) ≡ None
turn_goes_on v place (Says m) more h = refl
turn_goes_on v place (Asks name number) more h = refl
turn_goes_on v place Bye more h = absurd cc

going_on_is_turn : (v : Version) (place : ℕ) (f : Frame) (more : List ℕ) → is_frame v f ≡ true →
    end_by place (Ok (f, more)) ≡ None → is_turn v f ≡ true
going_on_is_turn v place (Says m) more h e = h
going_on_is_turn v place (Asks name number) more h e = h
going_on_is_turn v place Bye more h e = absurd cc

-- one step of the function
abbrev ended_or : List Frame × End → Option End → List Frame × End
ended_or later (Some end) = ([], end)
ended_or later None = later

abbrev read_or : ℕ → (List ℕ → List Frame × End) → Result (Frame × List ℕ) Reason → List Frame × End
read_or place later (Ok x) = let more = later x.1 in (x.0 ∷ more.0, more.1)
read_or place later (Err reason) = ([], BadFrame reason place)

abbrev later_from : ℕ → Version → ℕ → List ℕ → List ℕ → List Frame × End
later_from steps v place bytes more = stream_from steps v (place + (length bytes - length more)) more

stream_from-by : (steps : ℕ) (v : Version) (place : ℕ) (bytes : List ℕ)
    → stream_from (suc steps) v place bytes
    ≡ ended_or (read_or place (later_from steps v place bytes) (first_frame v bytes)) (end_at v place bytes)
stream_from-by steps v place bytes = refl

-- if a frame comes next, the function continues after it
stream_from-frame : (steps : ℕ) (v : Version) (place : ℕ) (bytes : List ℕ) (f : Frame) (more : List ℕ) →
    end_at v place bytes ≡ None → first_frame v bytes ≡ Ok (f, more)
    → stream_from (suc steps) v place bytes
    ≡ (f ∷ (later_from steps v place bytes more).0, (later_from steps v place bytes more).1)
stream_from-frame steps v place bytes f more e read =
    stream_from-by steps v place bytes
    ∙ ap (ended_or (read_or place (later_from steps v place bytes) (first_frame v bytes))) e
    ∙ ap (read_or place (later_from steps v place bytes)) read

-- if the exchange ends, the function ends
stream_from-ended : (steps : ℕ) (v : Version) (place : ℕ) (bytes : List ℕ) (end : End) →
    end_at v place bytes ≡ Some end → stream_from (suc steps) v place bytes ≡ ([], end)
stream_from-ended steps v place bytes end e =
    stream_from-by steps v place bytes
    ∙ ap (ended_or (read_or place (later_from steps v place bytes) (first_frame v bytes))) e

-- a stream from a place on is what the function gives
pub given : (steps : ℕ) (v : Version) (place : ℕ) (bytes : List ℕ) (fs : List Frame) (end : End) →
    length bytes < steps → StreamAt v place bytes fs end → stream_from steps v place bytes ≡ (fs, end)
given zero v place bytes fs end enough s = absurd (omega arith)
given (suc steps) v place bytes [] end enough s =
    stream_from-ended steps v place bytes end
    (ap (end_at v place) s.whole ∙ ap (λ (n : ℕ). end_at v n s.rest) (omega arith) ∙ s.ends)
given (suc steps) v place bytes (f ∷ fs) end enough s =
    let tests = and_parts (is_turn v f) (list_all (is_turn v) fs) s.each in
    let more = frames_bytes fs ++ s.rest in
    let whole : bytes ≡ framed (body f) ++ more = s.whole ∙ append_assoc (framed (body f)) (frames_bytes fs) s.rest in
    let read = first_frame-framed v f more (turn_fits v f tests.0) in
    let e : end_at v place (framed (body f) ++ more) ≡ None =
    ap (end_by place) read ∙ turn_goes_on v place f more tests.0 in
    let len : length bytes ≡ length (framed (body f)) + length more =
    ap length whole ∙ length-append (framed (body f)) more in
    let at : place + (length bytes - length more) ≡ place + length (framed (body f)) = omega arith in
    let later : StreamAt v (place + (length bytes - length more)) more fs end = record {
      rest = s.rest;
      each = tests.1;
      whole = refl;
      ends = ap (λ (n : ℕ). end_at v n s.rest) (omega (arith, length-append (framed (body f)) (frames_bytes fs)))
          ∙ s.ends;
    } in
    let tail = given steps v (place + (length bytes - length more)) more fs end (omega arith) later in
    stream_from-frame steps v place bytes f more (ap (end_at v place) whole ∙ e) (ap (first_frame v) whole ∙ read)
    ∙ ap (λ (x : List Frame × End). (f ∷ x.0, x.1)) tail

-- an exchange continues only if a frame comes next
no_end : (v : Version) (place : ℕ) (bytes : List ℕ) (reason : Reason) → end_at v place bytes ≡ None →
    first_frame v bytes ≡ Err reason → ⊥
no_end v place [] reason e read = cc
no_end v place (b ∷ bs) reason e read = cc

next_end : (v : Version) (place : ℕ) (bytes : List ℕ) (x : Frame × List ℕ) → end_at v place bytes ≡ None →
    first_frame v bytes ≡ Ok x → end_by place (Ok x) ≡ None
next_end v place [] x e read = absurd cc
next_end v place (b ∷ bs) x e read = ap (end_by place) (sym read) ∙ e

found_by : (steps : ℕ) (v : Version) (place : ℕ) (bytes : List ℕ) (fs : List Frame) (end : End) → are_bytes bytes ≡ true
    → (ended : Option End) → end_at v place bytes ≡ ended → (read : Result (Frame × List ℕ) Reason) →
    first_frame v bytes ≡ read
    → ((more : List ℕ) → length more < length bytes → are_bytes more ≡ true →
    StreamAt v (place + (length bytes - length more)) more (later_from steps v place bytes more).0
    (later_from steps v place bytes more).1)
    → ended_or (read_or place (later_from steps v place bytes) read) ended ≡ (fs, end) → StreamAt v place bytes fs end
found_by steps v place bytes fs end fits (Some last) ended read read-is later e =
    let last_is : last ≡ end = ap (λ (x : List Frame × End). x.1) e in
    subst (λ (x : List Frame × End). StreamAt v place bytes x.0 x.1) e
    (record { rest = bytes; each = refl; whole = refl; ends = ap (λ (n : ℕ). end_at v n bytes) (omega arith) ∙ ended })
found_by steps v place bytes fs end fits None ended (Err reason) read-is later e =
    absurd (no_end v place bytes reason ended read-is)
found_by steps v place bytes fs end fits None ended (Ok x) read-is later e =
    let stands = read_frame_stands v bytes x.0 x.1 fits read-is in
    let len : length bytes ≡ length (framed (body x.0)) + length x.1 =
    ap length stands.1 ∙ length-append (framed (body x.0)) x.1 in
    let more_fits : are_bytes x.1 ≡ true =
    (are_bytes-tail (framed (body x.0)) x.1 (ap are_bytes (sym stands.1) ∙ fits)) in
    let s = later x.1 (omega arith) more_fits in
    let gs = (later_from steps v place bytes x.1).0 in
    let turns : is_turn v x.0 ≡ true =
    going_on_is_turn v place x.0 x.1 stands.0 (next_end v place bytes x ended read-is) in
    subst (λ (y : List Frame × End). StreamAt v place bytes y.0 y.1) e
    (record {
      rest = s.rest;
      each = and_from (is_turn v x.0) (list_all (is_turn v) gs) turns s.each;
      whole = stands.1 ∙ ap (λ (y : List ℕ). framed (body x.0) ++ y) s.whole
          ∙ sym (append_assoc (framed (body x.0)) (frames_bytes gs) s.rest);
      ends = ap (λ (n : ℕ). end_at v n s.rest) (omega (arith, length-append (framed (body x.0)) (frames_bytes gs)))
          ∙ s.ends;
    })

-- what the function gives is a stream
pub found : (steps : ℕ) (v : Version) (place : ℕ) (bytes : List ℕ) (fs : List Frame) (end : End) →
    length bytes < steps → are_bytes bytes ≡ true → stream_from steps v place bytes ≡ (fs, end) →
    StreamAt v place bytes fs end
found zero v place bytes fs end enough fits e = absurd (omega arith)
found (suc steps) v place bytes fs end enough fits e =
    found_by steps v place bytes fs end fits (end_at v place bytes) refl (first_frame v bytes) refl
    (λ more shorter later_fits. found steps v (place + (length bytes - length more)) more
    (later_from steps v place bytes more).0 (later_from steps v place bytes more).1 (omega arith) later_fits refl)
    (sym (stream_from-by steps v place bytes) ∙ e)

pub streams_agree : StreamsAgree
unfolding stream_of
streams_agree v bytes fs end fits = (
  λ s. given (suc (length bytes)) v 0 bytes fs end (omega arith)
      (record {
        rest = s.rest;
        each = s.each;
        whole = s.whole;
        ends = ap (λ (n : ℕ). end_at v n s.rest) (omega arith) ∙ s.ends;
      }),
  λ e. let s = found (suc (length bytes)) v 0 bytes fs end (omega arith) fits e in
      record {
        rest = s.rest;
        each = s.each;
        whole = s.whole;
        ends = ap (λ (n : ℕ). end_at v n s.rest) (omega arith) ∙ s.ends;
      },
)

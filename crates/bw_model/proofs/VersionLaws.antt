-- What the first version reads whole, the second reads the same way.
use Rattle.std.proofs.Common.{◌≡◌, ℕ, ◌≤◌, Bool, true, false, ◌&&◌, cond, List, [], ◌∷◌, length, take, drop, Some}
use Rattle.std.proofs.Common.{Result, Ok, Err, refl, sym, ap, ◌∙◌, arith, ◌⊎◌, inl, inr}
use Rattle.std.specs.Prelude.{nat_le, ◌==◌}
use Rattle.std.specs.List.{list_all}
use Rattle.std.proofs.lemmas.Bool.{and_parts, and_from, leb-true, le-leb}
use Rattle.bw_model.specs.Bytes.{u32_at, first_that_holds, unless}
use Rattle.bw_model.specs.Wire.{First, Second, last_number, Message, Frame, Says, Asks, Bye, is_name, is_request}
use Rattle.bw_model.specs.Wire.{Reason, Payload, name_in, number_in, payload_in, request_of, body_faults, frame_in}
use Rattle.bw_model.specs.Wire.{decoded}
use Rattle.bw_model.specs.Stream.{first_frame, End, EndOfInput, SaidBye, end_by, end_at, is_turn, frames_bytes}
use Rattle.bw_model.specs.Stream.{FirstVersionStays}
use Rattle.bw_model.proofs.SpellingLaws.{unless_ok}
use Rattle.bw_model.proofs.FrameLaws.{first_frame-body, reads_frame}

turn_stays : (f : Frame) → is_turn First f ≡ true → is_turn Second f ≡ true
turn_stays (Says m) h =
    let address = and_parts (is_name m.name && nat_le m.number (last_number First)) (is_request m.request) h in
    let named = and_parts (is_name m.name) (nat_le m.number (last_number First)) address.0 in
    let low : m.number ≤ last_number First = leb-true _ _ named.1 in
    and_from (is_name m.name && nat_le m.number (last_number Second)) (is_request m.request)
    (and_from (is_name m.name) (nat_le m.number (last_number Second)) named.0 (le-leb _ _ (omega arith))) address.1
turn_stays (Asks name number) h = absurd cc
turn_stays Bye h = absurd cc

turns_stay : (fs : List Frame) → list_all (is_turn First) fs ≡ true → list_all (is_turn Second) fs ≡ true
turns_stay [] h = refl
turns_stay (f ∷ fs) h =
    let tests = and_parts (is_turn First f) (list_all (is_turn First) fs) h in
    and_from (is_turn Second f) (list_all (is_turn Second) fs) (turn_stays f tests.0) (turns_stay fs tests.1)

-- only kind 9 is read as the end
frame_in-no_bye : (six : Bool) (name : List ℕ) (number : ℕ) (m : Message) →
    cond six (Asks name number) (Says m) ≡ Bye → ⊥
frame_in-no_bye true name number m e = cc
frame_in-no_bye false name number m e = cc

bye_stays : (bytes : List ℕ) → decoded First bytes ≡ Ok Bye → decoded Second bytes ≡ Ok Bye
unfolding decoded
bye_stays [] e = absurd cc
bye_stays (k ∷ rest) e = by_kind (k == 9) e
  where
    by_kind : (nine : Bool) →
        cond nine (cond (length rest == 0) (Ok Bye) (Err Payload))
        (unless (first_that_holds (body_faults First k rest)) (frame_in k rest)) ≡ Ok Bye
        → cond nine (cond (length rest == 0) (Ok Bye) (Err Payload))
        (unless (first_that_holds (body_faults Second k rest)) (frame_in k rest)) ≡ Ok Bye
    by_kind true e = e
    by_kind false e =
        absurd (frame_in-no_bye (k == 6) (name_in rest) (number_in rest)
        (record { name = name_in rest; number = number_in rest; request = request_of k (payload_in rest) })
        (unless_ok (first_that_holds (body_faults First k rest)) (frame_in k rest) Bye e).1)

first_bye_stays : (bytes more : List ℕ) → first_frame First bytes ≡ Ok (Bye, more) →
    first_frame Second bytes ≡ Ok (Bye, more)
first_bye_stays bytes more e =
    let r = reads_frame First bytes Bye more e in
    first_frame-body Second bytes r.has ∙ rw (bye_stays (take (u32_at bytes 0) (drop 4 bytes)) r.reads, r.rest) refl

-- an exchange ends with BYE only if its frame comes next
said_bye : (place : ℕ) (x : Result (Frame × List ℕ) Reason) → end_by place x ≡ Some SaidBye →
    (more : List ℕ) × (x ≡ Ok (Bye, more))
said_bye place (Ok (Says m, more)) e = absurd cc
said_bye place (Ok (Asks name number, more)) e = absurd cc
said_bye place (Ok (Bye, more)) e = (more, refl)
said_bye place (Err reason) e = absurd cc

no_input_end : (place : ℕ) (x : Result (Frame × List ℕ) Reason) → end_by place x ≡ Some EndOfInput → ⊥
no_input_end place (Ok (Says m, more)) e = cc
no_input_end place (Ok (Asks name number, more)) e = cc
no_input_end place (Ok (Bye, more)) e = cc
no_input_end place (Err reason) e = cc

end_stays : (place : ℕ) (rest : List ℕ) (end : End) → end_at First place rest ≡ Some end →
    (end ≡ EndOfInput) ⊎ (end ≡ SaidBye) → end_at Second place rest ≡ Some end
end_stays place [] end e which = e
end_stays place (b ∷ bs) end e (inl which) =
    absurd (no_input_end place (first_frame First (b ∷ bs)) (e ∙ ap Some which))
end_stays place (b ∷ bs) end e (inr which) =
    let bye = said_bye place (first_frame First (b ∷ bs)) (e ∙ ap Some which) in
    ap (end_by place) (first_bye_stays (b ∷ bs) bye.0 bye.1) ∙ sym (ap Some which)

pub first_version_stays : FirstVersionStays
first_version_stays bytes fs end s which =
    record {
      rest = s.rest;
      each = turns_stay fs s.each;
      whole = s.whole;
      ends = end_stays (length (frames_bytes fs)) s.rest end s.ends which;
    }

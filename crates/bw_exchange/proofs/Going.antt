-- Calls one after another.
use Rattle.std.proofs.Common.{◌≡◌, ℕ, List, [], ◌∷◌, ◌++◌, false, Option, Some, None, refl, ap, subst}
use Rattle.std.proofs.Common.{append_assoc, inl}
use Rattle.std.specs.Prelude.{is_some, IsTrue}
use Rattle.std.specs.List.{list_all}
use Rattle.bw_model.specs.Wire.{Frame, Bye}
use Rattle.bw_model.specs.Replies.{Reply, is_reply}
use Rattle.bw_model.specs.Stream.{End}
use Rattle.bw_model.specs.Exchange.{replies_bytes, last_reply}
use Rattle.bw_wire.specs.Codecs.{message_codec}
use Rattle.bw_wire.specs.FramerStates.{Pending, Reported, Gives, Fails, next_of}
use Rattle.bw_wire.specs.Reasons.{reason_meaning}
use Rattle.bw_wire.specs.Runs.{given_by}
use Rattle.bw_exchange.specs.declared.exchange.Exchange.{Exchange}
use Rattle.bw_exchange.specs.declared.step.StreamEnd.{StreamEnd}
use Rattle.bw_exchange.specs.declared.step.StreamEnd.TheVariants as ends
use Rattle.bw_exchange.specs.AnsweredFrames.{Answered, AnswersAll}
use Rattle.bw_exchange.specs.Ends.{end_meaning, end_so_far}
use Rattle.bw_exchange.specs.Steps.{ReportsEnd}
use Rattle.bw_exchange.specs.Done.{EndsSo, Done, DoesMore}
use Rattle.bw_exchange.proofs.Doing.{same_done, nothing_done, done_quiet}
use Rattle.bw_exchange.proofs.Staying.{stays}

-- no end has come
pub none_so_far : (e : Option StreamEnd) → is_some e ≡ false → end_so_far e ≡ None
none_so_far None h = refl
none_so_far (Some end) h = absurd cc

-- a framer that has reported an end reports it again
reports : (end : StreamEnd) (p q : Pending) → ReportsEnd end (next_of message_codec p).0 → q ≡ (next_of message_codec p).1
    → EndsSo (end_meaning end) q
reports ends.Bye p q t same = stays p q (Gives Bye) t same tt
reports ends.EndOfInput p q t same = absurd t
reports (ends.BadFrame fault) p q t same =
    inl (stays p q (Fails (reason_meaning fault.reason) fault.offset) t same tt)

-- an end is no frame that is given
pub no_turns : (end : StreamEnd) (t : Reported Frame) → ReportsEnd end t → given_by message_codec t ≡ []
no_turns ends.Bye t e = ap (given_by message_codec) e
no_turns ends.EndOfInput t e = absurd e
no_turns (ends.BadFrame fault) t e = ap (given_by message_codec) e

-- the framer reported the end
pub done_end : (fed : List ℕ) (xs : List Answered) (gone : List ℕ) (p : Pending) (w : List ℕ) (e : Option StreamEnd)
    (end : StreamEnd) (new : List ℕ) (q : Pending) → is_some e ≡ false → ReportsEnd end (next_of message_codec p).0 →
    q ≡ (next_of message_codec p).1 → new ≡ w ++ replies_bytes (last_reply (end_meaning end)) →
    IsTrue (list_all is_reply (last_reply (end_meaning end))) → Done fed xs gone p w (end_so_far e)
    → Done (fed ++ []) (xs ++ []) (gone ++ []) q new (Some (end_meaning end))
done_end fed xs gone p w e end new q none t same n fits d =
    done_quiet fed xs gone p w (Some (end_meaning end)) new q (no_turns end (next_of message_codec p).0 t) same n fits
    (reports end p q t same)
    (subst (λ (x : Option End). Done fed xs gone p w x) (none_so_far e none) d)

-- a server answers one frame
pub answers_one : {S : Type 0} (answers : S → Frame → List Reply → S → Type 0) (s later : S) (frame : Frame)
    (replies : List Reply) → answers s frame replies later →
    AnswersAll answers s (record { frame = frame; replies = replies } ∷ []) later
answers_one answers s later frame replies h = (later, h, refl)

-- a server answers some frames, and then others
pub answers_append : {S : Type 0} (answers : S → Frame → List Reply → S → Type 0) (xs ys : List Answered)
    (s mid later : S) → AnswersAll answers s xs mid → AnswersAll answers mid ys later →
    AnswersAll answers s (xs ++ ys) later
answers_append answers [] ys s mid later f g = subst (λ x. AnswersAll answers x ys later) f g
answers_append answers (a ∷ xs) ys s mid later f g = (f.0, f.1, answers_append answers xs ys f.0 mid later f.2 g)

-- nothing is done
pub does_none : (e : Exchange) → DoesMore e [] [] [] e
does_none e fed before gone d = nothing_done fed before gone e.framer e.outgoing.items (end_so_far e.end) d

-- one thing is done, and then another
pub does_on : (a b c : Exchange) (p p' : List ℕ) (xs ys : List Answered) (s s' : List ℕ) → DoesMore a p xs s b →
    DoesMore b p' ys s' c → DoesMore a (p ++ p') (xs ++ ys) (s ++ s') c
does_on a b c p p' xs ys s s' f g fed before gone d =
    same_done ((fed ++ p) ++ p') (fed ++ (p ++ p')) ((before ++ xs) ++ ys) (before ++ (xs ++ ys))
    ((gone ++ s) ++ s') (gone ++ (s ++ s')) c.framer c.outgoing.items (end_so_far c.end)
    (append_assoc fed p p') (append_assoc before xs ys) (append_assoc gone s s')
    (g (fed ++ p) (before ++ xs) (gone ++ s) (f fed before gone d))

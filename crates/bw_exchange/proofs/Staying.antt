-- What a framer reported last it reports again; what it then keeps.
use Rattle.std.proofs.Common.{◌≡◌, ℕ, ◌+◌, ◌-◌, List, length, Result, Ok, Err, refl, sym, ap, subst, ◌∙◌}
use Rattle.std.proofs.Common.{inl, inr}
use Rattle.bw_model.specs.Wire.{Second, Frame, Says, Asks, Bye, Reason, Cut}
use Rattle.bw_model.specs.Stream.{first_frame}
use Rattle.bw_wire.specs.Codecs.{message_codec}
use Rattle.bw_wire.specs.FramerStates.{Phase, Reading, Left, Failed, Pending, Reported, Nothing, Gives, Fails, fresh}
use Rattle.bw_wire.specs.FramerStates.{compacted, emptied, next_of}
use Rattle.bw_wire.proofs.FramerLaws.{next_of-left, next_of-failed, next_of-partial, next_of-bad, next_of-value}
use Rattle.bw_wire.proofs.FramerLaws.{next_of-last, cut_or_not}

-- what is reported is no frame that others may follow
abbrev pub IsLast : Reported Frame → Type 0
IsLast Nothing = Unit {0}
IsLast (Gives (Says m)) = ⊥
IsLast (Gives (Asks name number)) = ⊥
IsLast (Gives Bye) = Unit {0}
IsLast (Fails reason place) = Unit {0}

-- what a framer reports, and what it then keeps
abbrev Answer : Type 0
Answer = Reported Frame × Pending

-- what it reports it reports again, if it would from what it keeps
stays_by : (p q : Pending) (t : Reported Frame) → next_of message_codec p ≡ (t, q) → (next_of message_codec q).0 ≡ t →
    (next_of message_codec (next_of message_codec p).1).0 ≡ (next_of message_codec p).0
stays_by p q t e again =
    ap (λ (y : Answer). (next_of message_codec y.1).0) e ∙ again ∙ sym (ap (λ (y : Answer). y.0) e)

stays_in : (h : Phase) (read : Result (Frame × List ℕ) Reason) (p : Pending) → p.phase ≡ h →
    first_frame Second p.bytes ≡ read → IsLast (next_of message_codec p).0
    → (next_of message_codec (next_of message_codec p).1).0 ≡ (next_of message_codec p).0
stays_in Left read p e f last =
    let a = next_of-left message_codec p e in stays_by p p (Gives Bye) a (ap (λ (y : Answer). y.0) a)
stays_in (Failed reason) read p e f last =
    let a = next_of-failed message_codec p reason e in
    stays_by p p (Fails reason p.used) a (ap (λ (y : Answer). y.0) a)
stays_in Reading (Ok (Says m, more)) p e f last =
    absurd (subst IsLast (ap (λ (y : Answer). y.0) (next_of-value message_codec p (Says m) more e f refl)) last)
stays_in Reading (Ok (Asks name number, more)) p e f last =
    absurd (subst IsLast
    (ap (λ (y : Answer). y.0) (next_of-value message_codec p (Asks name number) more e f refl)) last)
stays_in Reading (Ok (Bye, more)) p e f last =
    let q = emptied p (p.used + (length p.bytes - length more)) Left in
    stays_by p q (Gives Bye) (next_of-last message_codec p Bye more e f refl)
    (ap (λ (y : Answer). y.0) (next_of-left message_codec q refl))
stays_in Reading (Err reason) p e f last = elim (cut_or_not reason) [
  | inl cut ↦ let f' : first_frame Second p.bytes ≡ Err Cut = f ∙ ap (λ (r : Reason). Err r) cut in
      stays_by p (compacted p) Nothing (next_of-partial message_codec p e f')
      (ap (λ (y : Answer). y.0) (next_of-partial message_codec (compacted p) e f'))
  | inr other ↦ let q = emptied p p.used (Failed reason) in
      stays_by p q (Fails reason p.used) (next_of-bad message_codec p reason e f other)
      (ap (λ (y : Answer). y.0) (next_of-failed message_codec q reason refl))
]

-- what is reported last is reported again
pub stays : (p q : Pending) (t : Reported Frame) → (next_of message_codec p).0 ≡ t → q ≡ (next_of message_codec p).1 →
    IsLast t → (next_of message_codec q).0 ≡ t
stays p q t e same last =
    ap (λ (x : Pending). (next_of message_codec x).0) same
    ∙ stays_in p.phase (first_frame Second p.bytes) p refl refl (subst IsLast (sym e) last) ∙ e

-- before any piece no frame is whole
pub fresh_nothing : (next_of message_codec fresh).0 ≡ Nothing
unfolding next_of first_frame
fresh_nothing = refl

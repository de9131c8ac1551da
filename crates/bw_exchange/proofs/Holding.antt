-- How much a framer holds after it was asked.
use Rattle.std.proofs.Common.{◌≡◌, ℕ, ◌+◌, ◌<◌, ◌≤◌, List, [], length, take, drop, Some, None, Option, Result, Ok, Err}
use Rattle.std.proofs.Common.{refl}
use Rattle.std.proofs.Common.{sym, ap, subst, ◌∙◌, arith, inl, inr}
use Rattle.std.proofs.lemmas.List.{length-drop}
use Rattle.bw_model.specs.Bytes.{u32_at, first_that_holds}
use Rattle.bw_model.specs.Wire.{Second, Frame, Says, Asks, Bye, Reason, decoded}
use Rattle.bw_model.specs.Stream.{longest_body, framing_faults, before, first_frame}
use Rattle.bw_model.proofs.FrameLaws.{has_body, first_by, first_frame-by}
use Rattle.bw_wire.specs.Codecs.{message_codec}
use Rattle.bw_wire.specs.Held.{longest_rest}
use Rattle.bw_wire.specs.FramerStates.{Phase, Reading, Left, Failed, Pending, Reported, Nothing, compacted, next_of}
use Rattle.bw_wire.specs.FramerStates.{HasBoundedBlock}
use Rattle.bw_wire.specs.FramerStates.{KeepsAtMost, HoldsLittle}
use Rattle.bw_wire.specs.Runs.{given_by}
use Rattle.bw_wire.proofs.FramerLaws.{next_of-left, next_of-failed, next_of-partial, next_of-bad, next_of-value}
use Rattle.bw_wire.proofs.FramerLaws.{next_of-last, cut_or_not}

-- at most this many bytes are held, in a block of a rest and a piece at most
abbrev pub HoldsUpTo : ℕ → Pending → Type 0
HoldsUpTo limit q = (q.held ≤ limit) × HasBoundedBlock q

-- what the framer keeps is no more than it was, or what is left of it is little
held_in : (limit : ℕ) (h : Phase) (read : Result (Frame × List ℕ) Reason) (p : Pending) → p.phase ≡ h →
    first_frame Second p.bytes ≡ read → longest_rest ≤ limit → HoldsUpTo limit p →
    HoldsLittle message_codec (next_of message_codec p) → HoldsUpTo limit (next_of message_codec p).1
held_in limit Left read p e f low held little =
    subst (HoldsUpTo limit) (sym (ap (λ (y : Reported Frame × Pending). y.1) (next_of-left message_codec p e))) held
held_in limit (Failed reason) read p e f low held little =
    subst (HoldsUpTo limit)
    (sym (ap (λ (y : Reported Frame × Pending). y.1) (next_of-failed message_codec p reason e))) held
held_in limit Reading (Ok (Says m, more)) p e f low held little =
    subst (HoldsUpTo limit)
    (sym (ap (λ (y : Reported Frame × Pending). y.1) (next_of-value message_codec p (Says m) more e f refl))) held
held_in limit Reading (Ok (Asks name number, more)) p e f low held little =
    subst (HoldsUpTo limit)
    (sym (ap (λ (y : Reported Frame × Pending). y.1) (next_of-value message_codec p (Asks name number) more e f refl))) held
held_in limit Reading (Ok (Bye, more)) p e f low held little =
    subst (HoldsUpTo limit)
    (sym (ap (λ (y : Reported Frame × Pending). y.1) (next_of-last message_codec p Bye more e f refl)))
    (omega arith, omega arith)
held_in limit Reading (Err reason) p e f low held little = elim (cut_or_not reason) [
  | inl cut ↦ let a = next_of-partial message_codec p e (f ∙ ap (λ (r : Reason). Err r) cut) in
      let small : KeepsAtMost longest_rest (compacted p) = subst (HoldsLittle message_codec) a little in
      subst (HoldsUpTo limit) (sym (ap (λ (y : Reported Frame × Pending). y.1) a))
      (omega (arith, small.0, low), omega (arith, small.1))
  | inr other ↦ subst (HoldsUpTo limit)
      (sym (ap (λ (y : Reported Frame × Pending). y.1) (next_of-bad message_codec p reason e f other)))
      (omega arith, omega arith)
]

-- a framer that was asked holds no more than before, or little
pub held_on : (limit : ℕ) (p q : Pending) → longest_rest ≤ limit → HoldsUpTo limit p →
    HoldsLittle message_codec (next_of message_codec p) → q ≡ (next_of message_codec p).1 → HoldsUpTo limit q
held_on limit p q low held little same =
    subst (HoldsUpTo limit) (sym same)
    (held_in limit p.phase (first_frame Second p.bytes) p refl refl low held little)

-- ---- how many bytes are left

-- the bytes after a first frame
abbrev following : Result (Frame × List ℕ) Reason → List ℕ
following (Ok x) = x.1
following (Err reason) = []

-- after the first frame fewer bytes are left
first_frame-shorter : (bytes : List ℕ) (f : Frame) (more : List ℕ) → first_frame Second bytes ≡ Ok (f, more) →
    length more < length bytes
first_frame-shorter bytes f more e =
    go (first_that_holds (framing_faults longest_body bytes)) refl (sym (first_frame-by Second bytes) ∙ e)
  where
    rest_is : (rest : List ℕ) (read : Result Frame Reason) → before rest read ≡ Ok (f, more) → rest ≡ more
    rest_is rest (Ok g) h = ap following h
    rest_is rest (Err reason) h = absurd cc

    go : (fault : Option Reason) → first_that_holds (framing_faults longest_body bytes) ≡ fault →
        first_by (drop (4 + u32_at bytes 0) bytes) (decoded Second (take (u32_at bytes 0) (drop 4 bytes))) fault
        ≡ Ok (f, more) → length more < length bytes
    go (Some reason) is h = absurd cc
    go None is h =
        let whole = (has_body longest_body bytes is).whole in
        let rest =
        rest_is (drop (4 + u32_at bytes 0) bytes) (decoded Second (take (u32_at bytes 0) (drop 4 bytes))) h in
        omega (arith, whole, ap (length {A = ℕ}) rest, length-drop (4 + u32_at bytes 0) bytes)

-- the frame that is given, if there is one, uses up some of the bytes
abbrev IsUsedUp : Pending → Reported Frame × Pending → Type 0
IsUsedUp p x = length (given_by message_codec x.0) + length x.1.bytes ≤ length p.bytes

used_up_in : (h : Phase) (read : Result (Frame × List ℕ) Reason) (p : Pending) → p.phase ≡ h →
    first_frame Second p.bytes ≡ read
    → length (given_by message_codec (next_of message_codec p).0) + length (next_of message_codec p).1.bytes
    ≤ length p.bytes
used_up_in Left read p e f = subst (IsUsedUp p) (sym (next_of-left message_codec p e)) (omega arith)
used_up_in (Failed reason) read p e f =
    subst (IsUsedUp p) (sym (next_of-failed message_codec p reason e)) (omega arith)
used_up_in Reading (Ok (Says m, more)) p e f =
    subst (IsUsedUp p) (sym (next_of-value message_codec p (Says m) more e f refl))
    (omega (arith, first_frame-shorter p.bytes (Says m) more f))
used_up_in Reading (Ok (Asks name number, more)) p e f =
    subst (IsUsedUp p) (sym (next_of-value message_codec p (Asks name number) more e f refl))
    (omega (arith, first_frame-shorter p.bytes (Asks name number) more f))
used_up_in Reading (Ok (Bye, more)) p e f =
    subst (IsUsedUp p) (sym (next_of-last message_codec p Bye more e f refl)) (omega arith)
used_up_in Reading (Err reason) p e f = elim (cut_or_not reason) [
  | inl cut ↦ subst (IsUsedUp p) (sym (next_of-partial message_codec p e (f ∙ ap (λ (r : Reason). Err r) cut)))
      (omega arith)
  | inr other ↦ subst (IsUsedUp p) (sym (next_of-bad message_codec p reason e f other)) (omega arith)
]

-- a frame that is given uses up some of the bytes that a framer holds
pub used_up : (p q : Pending) (given : List Frame) → q ≡ (next_of message_codec p).1 →
    given_by message_codec (next_of message_codec p).0 ≡ given → length given + length q.bytes ≤ length p.bytes
used_up p q given same reported =
    subst (λ (x : Pending). length given + length x.bytes ≤ length p.bytes) (sym same)
    (subst (λ (x : List Frame). length x + length (next_of message_codec p).1.bytes ≤ length p.bytes) reported
    (used_up_in p.phase (first_frame Second p.bytes) p refl refl))

-- if no frame is whole, little is kept
pub kept_little : (p q : Pending) → (next_of message_codec p).0 ≡ Nothing →
    HoldsLittle message_codec (next_of message_codec p) → q ≡ (next_of message_codec p).1 → KeepsAtMost longest_rest q
kept_little p q none little same =
    subst (KeepsAtMost longest_rest) (sym same)
    (subst (λ (t : Reported Frame). HoldsLittle message_codec (t, (next_of message_codec p).1)) none little)

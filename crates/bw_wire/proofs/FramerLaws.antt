-- What a framer reports and keeps after each prefix of its bytes.
use Rattle.std.proofs.Common.{◌≡◌, ◌≢◌, ℕ, ◌+◌, ◌-◌, ◌≤◌, Bool, true, false, List, [], ◌∷◌, length, Some, Result, Ok}
use Rattle.std.proofs.Common.{Err}
use Rattle.std.proofs.Common.{refl, ap, ◌∙◌, arith, ◌⊎◌, inl, inr}
use Rattle.bw_model.specs.Wire.{Reason, Length, Kind, Name, Number, Payload, Cut}
use Rattle.bw_wire.specs.Codecs.{Codec}
use Rattle.bw_wire.specs.FramerStates.{Phase, Reading, Left, Failed, Pending, Nothing, Gives, Fails, consumed, compacted}
use Rattle.bw_wire.specs.FramerStates.{emptied}
use Rattle.bw_wire.specs.FramerStates.{next_value, next_read, reported_again, next_in, next_of, cut_off, end_in, end_fault}

pub next_of-left : {X : Type 0} (codec : Codec X) (p : Pending) → p.phase ≡ Left →
    next_of codec p ≡ (reported_again codec.last, p)
unfolding next_of
next_of-left codec p e = ap (λ (h : Phase). next_in codec h p) e

pub next_of-failed : {X : Type 0} (codec : Codec X) (p : Pending) (reason : Reason) → p.phase ≡ Failed reason →
    next_of codec p ≡ (Fails reason p.used, p)
unfolding next_of
next_of-failed codec p reason e = ap (λ (h : Phase). next_in codec h p) e

next_of-reading : {X : Type 0} (codec : Codec X) (p : Pending) (read : Result (X × List ℕ) Reason) →
    p.phase ≡ Reading → codec.first p.bytes ≡ read → next_of codec p ≡ next_read codec p read
unfolding next_of
next_of-reading codec p read e f = ap (λ (h : Phase). next_in codec h p) e ∙ ap (next_read codec p) f

pub next_of-partial : {X : Type 0} (codec : Codec X) (p : Pending) → p.phase ≡ Reading →
    codec.first p.bytes ≡ Err Cut → next_of codec p ≡ (Nothing, compacted p)
next_of-partial codec p e f = next_of-reading codec p (Err Cut) e f

fails : {X : Type 0} (codec : Codec X) (p : Pending) (reason : Reason) → reason ≢ Cut →
    next_read codec p (Err reason) ≡ (Fails reason p.used, emptied p p.used (Failed reason))
fails codec p Length other = refl
fails codec p Kind other = refl
fails codec p Name other = refl
fails codec p Number other = refl
fails codec p Payload other = refl
fails codec p Cut other = absurd (other refl)

pub next_of-bad : {X : Type 0} (codec : Codec X) (p : Pending) (reason : Reason) → p.phase ≡ Reading →
    codec.first p.bytes ≡ Err reason → reason ≢ Cut →
    next_of codec p ≡ (Fails reason p.used, emptied p p.used (Failed reason))
next_of-bad codec p reason e f other = next_of-reading codec p (Err reason) e f ∙ fails codec p reason other

-- a value that others may follow
pub next_of-value : {X : Type 0} (codec : Codec X) (p : Pending) (x : X) (more : List ℕ) → p.phase ≡ Reading →
    codec.first p.bytes ≡ Ok (x, more) → codec.is_last x ≡ false → next_of codec p ≡ (Gives x, consumed p more)
next_of-value codec p x more e f other =
    next_of-reading codec p (Ok (x, more)) e f ∙ ap (λ (b : Bool). next_value b p x more) other

pub next_of-last : {X : Type 0} (codec : Codec X) (p : Pending) (x : X) (more : List ℕ) → p.phase ≡ Reading →
    codec.first p.bytes ≡ Ok (x, more) → codec.is_last x ≡ true →
    next_of codec p ≡ (Gives x, emptied p (p.used + (length p.bytes - length more)) Left)
next_of-last codec p x more e f last =
    next_of-reading codec p (Ok (x, more)) e f ∙ ap (λ (b : Bool). next_value b p x more) last

-- bytes are left
pub end-cut : (p : Pending) → p.phase ≡ Reading → 1 ≤ length p.bytes → end_fault p ≡ Some (Cut, p.used)
end-cut p e some = ap (λ (h : Phase). end_in h p) e ∙ cut p.bytes some
  where
    cut : (bytes : List ℕ) → 1 ≤ length bytes → cut_off bytes p.used ≡ Some (Cut, p.used)
    cut [] some = absurd (omega arith)
    cut (b ∷ bs) some = refl

-- a reason is Cut, or another
pub cut_or_not : (reason : Reason) → (reason ≡ Cut) ⊎ (reason ≢ Cut)
cut_or_not Length = inr (λ e. cc)
cut_or_not Kind = inr (λ e. cc)
cut_or_not Name = inr (λ e. cc)
cut_or_not Number = inr (λ e. cc)
cut_or_not Payload = inr (λ e. cc)
cut_or_not Cut = inl refl

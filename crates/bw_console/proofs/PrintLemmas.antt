-- What printing in steps leaves.
use Rattle.std.proofs.Common.{◌≡◌, ℕ, List, [], Result, Ok, Err, OnOk, OnErr, inl, inr, refl, append-nil}
use Rattle.bw_stream.specs.Moves.{Keeps, Writes, failures_after}
use Rattle.bw_stream.specs.declared.sink.Sink.{Ghosts as Writer}
use Rattle.bw_console.specs.Prints.{HasPrinted, HasStopped, IsOf, IsPrint, Print, Whole, Part}

-- a text that was written whole is only begun where the flush after it fails
pub flush-stops : {S X Y : Type 0} (w : Writer S) (text : List ℕ) (old mid new : S) (r : Result X Y)
    → Writes (w.written old) text (w.written mid) → w.failures mid ≡ w.failures old
    → w.failures new ≡ failures_after r (w.failures mid) → Keeps (w.written mid) (w.written new)
    → OnErr r (HasStopped w text old new)
flush-stops w text old mid new (Ok x) wrote same count kept = tt
flush-stops w text old mid new (Err e) wrote same count kept = record {
  wrote = λ xs is. record { part = text; rest = []; whole = append-nil text; stands = kept _ (wrote xs is) };
  counted = rw same at count;
}

-- printed or not, it was this text
pub tried : {S X Y : Type 0} (w : Writer S) (text : List ℕ) (old new : S) (r : Result X Y)
    → OnOk r (HasPrinted w text old new) → OnErr r (HasStopped w text old new)
    → (print : Print) × IsOf text print × IsPrint w print old new
tried w text old new (Ok x) printed stopped = (Whole text, inl refl, printed)
tried w text old new (Err e) printed stopped = (Part text, inr refl, stopped)

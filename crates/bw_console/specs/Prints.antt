-- What calls write to a writer.
use Rattle.std.specs.Prelude.{◌≡◌, ◌⊎◌, ℕ, List, Bool, true, if◌then◌else◌}
use Rattle.bw_stream.specs.Moves.{Begins, Writes, one_more}
use Rattle.bw_stream.specs.declared.sink.Sink.{Ghosts as Writer}

-- the writer has the whole text after what was there, and holds nothing back
pub record HasPrinted {S : Type 0} (w : Writer S) (text : List ℕ) (old new : S) : Type 0 where
  pub wrote : Writes (w.written old) text (w.written new)
  pub counted : w.failures new ≡ w.failures old
  pub flushed : w.is_flushed new ≡ true

-- the writer failed, and has a prefix of the text after what was there
pub record HasStopped {S : Type 0} (w : Writer S) (text : List ℕ) (old new : S) : Type 0 where
  pub wrote : Begins (w.written old) text (w.written new)
  pub counted : w.failures new ≡ one_more (w.failures old)

-- what is done to a writer: nothing, a text is printed whole, or the writer fails before its end
pub data Print : Type 0 where
  Nothing : Print
  Whole : List ℕ → Print
  Part : List ℕ → Print

-- this was done to the writer
abbrev pub IsPrint : {S : Type 0} → Writer S → Print → S → S → Type 0
IsPrint w Nothing old new = new ≡ old
IsPrint w (Whole text) old new = HasPrinted w text old new
IsPrint w (Part text) old new = HasStopped w text old new

-- this text and no other was to be printed
abbrev pub IsOf : List ℕ → Print → Type 0
IsOf text print = (print ≡ Whole text) ⊎ (print ≡ Part text)

-- the failures after calls of which none failed, or the last one
abbrev pub failures_if : Bool → ℕ → ℕ
failures_if all_succeeded n = if all_succeeded then n else one_more n

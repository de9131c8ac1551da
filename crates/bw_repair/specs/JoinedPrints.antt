-- What printing all bytes of readers leaves of a writer.
use Rattle.std.specs.Prelude.{◌≡◌, ◌⊎◌, ℕ, List, [], ◌++◌, Option, Some, None, Result, Ok, Err, take, drop}
use Rattle.std.specs.Prelude.{option_map}
use Rattle.bw_stream.specs.Moves.{Begins, Writes, one_more}
use Rattle.bw_stream.specs.Readers.{Of}
use Rattle.bw_stream.specs.declared.sink.Sink.{Ghosts as Writer}
use Rattle.bw_console.specs.Prints.{HasPrinted, HasStopped}
use Rattle.bw_repair.specs.declared.left_out.printing.PrintFault.{PrintFault}
use Rattle.bw_repair.specs.declared.left_out.printing.PrintFault.TheVariants.{Unread, Unwritable}

module _ {W : Type 0} (w : Writer W) (left : Option (List ℕ)) where
  -- the next n bytes were read and written; none only at the end
  pub record PrintsPiece (n : ℕ) (left' : Option (List ℕ)) (old new : W) : Type 0 where
    pub part : List ℕ
    pub wrote : Writes (w.written old) part (w.written new)
    pub counted : w.failures new ≡ w.failures old
    pub is : Of left (λ b. part ≡ take n b)
    pub rest : Of left (λ b. left' ≡ Some (drop n b))
    pub ended : Of left (λ b. n ≡ 0 → b ≡ [])

  -- all bytes are written, but for the flush
  pub record PrintsWhole (old new : W) : Type 0 where
    pub text : List ℕ
    pub is : Of left (λ b. text ≡ b)
    pub wrote : Writes (w.written old) text (w.written new)
    pub counted : w.failures new ≡ w.failures old

  -- a read failed, and these are written of them
  pub record PrintsPrefix (old new : W) : Type 0 where
    pub text : List ℕ
    pub rest : List ℕ
    pub is : Of left (λ b. text ++ rest ≡ b)
    pub wrote : Writes (w.written old) text (w.written new)
    pub counted : w.failures new ≡ w.failures old

  -- the writer failed, and has a prefix of them
  pub record FailsToPrint (old new : W) : Type 0 where
    pub text : List ℕ
    pub is : Of left (λ b. text ≡ b)
    pub begun : Begins (w.written old) text (w.written new)
    pub counted : w.failures new ≡ one_more (w.failures old)

  -- which of these a fault is
  abbrev pub StopsPrint : PrintFault → W → W → Type 0
  StopsPrint (Unread at) old new = PrintsPrefix old new
  StopsPrint Unwritable old new = FailsToPrint old new

  abbrev pub PrintsBytes : Result (Unit {0}) PrintFault → W → W → Type 0
  PrintsBytes (Ok x) old new = PrintsWhole old new
  PrintsBytes (Err fault) old new = StopsPrint fault old new

-- what two readers have left, one after the other
abbrev pub both_left : Option (List ℕ) → Option (List ℕ) → Option (List ℕ)
both_left None second = None
both_left (Some a) second = option_map (λ b. a ++ b) second

module _ {W : Type 0} (w : Writer W) (left : Option (List ℕ)) where
  -- all bytes are printed
  pub record PrintsIt (old new : W) : Type 0 where
    pub text : List ℕ
    pub is : Of left (λ b. text ≡ b)
    pub prints : HasPrinted w text old new

  -- a read failed, and of these the writer has all, or a prefix
  pub record PrintsAPart (old new : W) : Type 0 where
    pub text : List ℕ
    pub rest : List ℕ
    pub is : Of left (λ b. text ++ rest ≡ b)
    pub prints : HasPrinted w text old new ⊎ HasStopped w text old new

  -- the writer failed
  pub record StopsIt (old new : W) : Type 0 where
    pub text : List ℕ
    pub is : Of left (λ b. text ≡ b)
    pub stops : HasStopped w text old new

  abbrev pub FailsSo : PrintFault → W → W → Type 0
  FailsSo (Unread at) old new = PrintsAPart old new
  FailsSo Unwritable old new = StopsIt old new

  -- the same with a flush
  abbrev pub PrintsAndFlushes : Result (Unit {0}) PrintFault → W → W → Type 0
  PrintsAndFlushes (Ok x) old new = PrintsIt old new
  PrintsAndFlushes (Err fault) old new = FailsSo fault old new

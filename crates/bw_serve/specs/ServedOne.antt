-- The result of serving one exchange.
use Rattle.std.specs.Prelude.{◌≡◌, Result, ℕ, ◌+◌, ◌≤◌, ◌++◌, List, codes, decimal}
use Rattle.bw_model.specs.Wire.{Frame}
use Rattle.bw_model.specs.Replies.{Reply}
use Rattle.bw_stream.specs.declared.sink.Sink.{Ghosts as Writer}
use Rattle.bw_stream.specs.declared.source.Source.{Ghosts as Reader}
use Rattle.bw_exchange.specs.WholeExchanges.{Serves, most_reads, reads_failed, writes_failed, IsLimited}
use Rattle.bw_exchange.specs.Commits.{CommitsUntil}
use Rattle.bw_exchange.specs.declared.serving.ExchangeEnd.{ExchangeEnd}
use Rattle.bw_exchange.specs.declared.serving.ExchangeEnd.TheVariants as ends
use Rattle.bw_exchange.specs.declared.turns.NotKept.{NotKept}
use Rattle.bw_exchange.specs.EndNames.{name_of_end}
use Rattle.bw_console.specs.Prints.{Print, Nothing, Whole, Part, IsOf, IsPrint}
use Rattle.bw_console.specs.Text.{as_line}
use Rattle.bw_console.specs.declared.exit.Exit.{Exit}
use Rattle.bw_console.specs.declared.exit.Exit.TheVariants.{Done, Device, Memory}

-- the line of the exchange with this number, whose end is called so
abbrev pub ended_line : ℕ → List ℕ → List ℕ
ended_line index name = as_line (codes "exchange " ++ decimal index ++ codes " " ++ name)

-- of one that ended so
abbrev pub exchange_end_line : ℕ → ExchangeEnd → List ℕ
exchange_end_line index end = ended_line index (name_of_end end)

-- how the call ends after this end of the exchange
abbrev pub exit_of_end : ExchangeEnd → Exit
exit_of_end ends.Bye = Done
exit_of_end ends.EndOfInput = Done
exit_of_end (ends.BadFrame fault) = Done
exit_of_end ends.ReadFault = Device
exit_of_end ends.WriteFault = Device
exit_of_end (ends.NotKept cause) = Device
exit_of_end ends.TurnLimit = Device
exit_of_end ends.Memory = Memory

-- how it ends if the line can't be written: lack of memory takes precedence
abbrev pub exit_unreported : ExchangeEnd → Exit
exit_unreported ends.Memory = Memory
exit_unreported _ = Device

-- how it ends after what was printed of the line
abbrev pub exit_after : ExchangeEnd → Print → Exit
exit_after end (Whole text) = exit_of_end end
exit_after end (Part text) = exit_unreported end
exit_after end Nothing = exit_unreported end

-- the line of an exchange that ended so was printed, and no other, and the call ends so
pub record PrintsEnd {O : Type 0} (out : Writer O) (index : ℕ) (end : ExchangeEnd) (exit : Exit)
    (o o' : O) : Type 0 where
  pub print : Print
  pub line : IsOf (exchange_end_line index end) print
  pub printed : IsPrint out print o o'
  pub exit_is : exit ≡ exit_after end print

module _ {S R W O : Type 0} (answers : S → Frame → List Reply → S → Type 0)
    (commits : S → Result (Unit {0}) NotKept → S → Type 0) (reader : Reader R) (writer : Writer W)
    (out : Writer O) where
  -- An exchange was served to this end: what the server answered, what was read and what was
  -- written is that of such an exchange, and it committed that in batches. Its line was printed, and
  -- the call ends so.
  pub record ServesTo (index : ℕ) (end : ExchangeEnd) (exit : Exit) (s s' : S) (r r' : R)
      (w w' : W) (o o' : O) : Type 0 where
    pub serves : Serves answers end s s' (reader.left r) (reader.left r') (writer.written w)
        (writer.written w')
    pub batches : CommitsUntil answers commits end s s'
    pub reads : reader.failures r' ≡ reads_failed end (reader.failures r)
    pub writes : writer.failures w' ≡ writes_failed end (writer.failures w)
    pub calls : reader.calls r' ≤ reader.calls r + most_reads
    pub limit : IsLimited end (reader.moved r) (reader.moved r') (reader.calls r) (reader.calls r')
    pub ends : PrintsEnd out index end exit o o'

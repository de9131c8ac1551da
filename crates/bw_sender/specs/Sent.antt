-- A whole exchange of a sender: what is sent, and what is heard after it.
use Rattle.std.specs.Prelude.{◌≡◌, ◌⊎◌, ◌+◌, ◌≤◌, Result, Err}
use Rattle.bw_model.specs.World.{Sender as Defined}
use Rattle.bw_stream.specs.Moves.{one_more}
use Rattle.bw_stream.specs.declared.sink.Sink.{Ghosts as Writer}
use Rattle.bw_stream.specs.declared.source.Source.{Ghosts as Reader}
use Rattle.bw_sender.specs.Senders.{IsSender}
use Rattle.bw_sender.specs.declared.sender.Sender.{Sender}
use Rattle.bw_sender.specs.declared.send_fault.SendFault.{SendFault}
use Rattle.bw_sender.specs.declared.send_fault.SendFault.TheVariants as faults
use Rattle.bw_sender.specs.Batches.{batch_bytes, WritesBatch, BreaksBytes}
use Rattle.bw_sender.specs.Hears.{Hears, hears_failed, IsHearingLimited}
use Rattle.bw_exchange.specs.WholeExchanges.{most_reads}

-- how an exchange ends whose batch broke off at a write, by how its hearing did: lack of memory
-- takes precedence
abbrev pub after_write : Result (Unit {0}) SendFault → Result (Unit {0}) SendFault
after_write (Err faults.Memory) = Err faults.Memory
after_write hearing = Err faults.Write

module _ {R W : Type 0} (reader : Reader R) (writer : Writer W) where
  -- replies were heard, and the hearing ended so
  pub record HearsOver (hearing : Result (Unit {0}) SendFault) (x y : Sender) (r r' : R)
      : Type 0 where
    pub hears : Hears hearing x y (reader.left r) (reader.left r')
    pub reads : reader.failures r' ≡ hears_failed hearing (reader.failures r)
    pub calls : reader.calls r' ≤ reader.calls r + most_reads
    pub limit : IsHearingLimited hearing (reader.moved r) (reader.moved r') (reader.calls r)
        (reader.calls r')

  -- the whole batch was written, and then replies were heard
  pub record SendsAndHears (result : Result (Unit {0}) SendFault) (x y : Sender) (r r' : R)
      (w w' : W) : Type 0 where
    pub sent : (s : Defined) → IsSender s x →
        WritesBatch s (writer.written w) (writer.written w')
    pub counted : writer.failures w' ≡ writer.failures w
    pub over : HearsOver result x y r r'

  -- the writer failed after a prefix of the batch, and what came back of it was heard
  pub record BreaksAndHears (result : Result (Unit {0}) SendFault) (x y : Sender) (r r' : R)
      (w w' : W) : Type 0 where
    pub cut : (s : Defined) → IsSender s x →
        BreaksBytes faults.Write s (batch_bytes s) (writer.written w) (writer.written w')
    pub counted : writer.failures w' ≡ one_more (writer.failures w)
    pub hearing : Result (Unit {0}) SendFault
    pub over : HearsOver hearing x y r r'
    pub ends : result ≡ after_write hearing

  -- memory was refused for the batch: nothing was read, and nothing heard
  pub record LacksBatch (result : Result (Unit {0}) SendFault) (x y : Sender) (r r' : R)
      (w w' : W) : Type 0 where
    pub ends : result ≡ Err faults.Memory
    pub cut : (s : Defined) → IsSender s x →
        BreaksBytes faults.Memory s (batch_bytes s) (writer.written w) (writer.written w')
    pub counted : writer.failures w' ≡ writer.failures w
    pub unheard : y ≡ x
    pub unread : r' ≡ r

  -- one of these
  abbrev pub Exchanges : Result (Unit {0}) SendFault → Sender → Sender → R → R → W → W → Type 0
  Exchanges result x y r r' w w' =
      SendsAndHears result x y r r' w w'
      ⊎ (BreaksAndHears result x y r r' w w' ⊎ LacksBatch result x y r r' w w')

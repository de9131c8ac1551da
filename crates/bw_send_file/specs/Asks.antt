-- What a server answers to an ask, and how it is asked.
use Rattle.std.specs.Prelude.{◌≡◌, ◌⊎◌, ◌++◌, ◌∷◌, ◌^◌, ◌-◌, ◌≤◌, ℕ, zero, suc, true, false}
use Rattle.std.specs.Prelude.{Option, Some, None, Result, Ok, Err}
use Rattle.std.specs.Prelude.{List, [], length}
use Rattle.bw_model.specs.Bytes.{u32_at}
use Rattle.bw_model.specs.Replies.{Reply, Noticed, Next, decoded_reply}
use Rattle.bw_model.specs.Wire.{Asks}
use Rattle.bw_stream.specs.Moves.{Begins}
use Rattle.bw_stream.specs.declared.sink.Sink.{Ghosts as Writer}
use Rattle.bw_stream.specs.declared.source.Source.{Ghosts as Reader}
use Rattle.bw_ports.specs.declared.dial.Dial.{Ghosts as DialGhosts}
use Rattle.bw_ports.specs.declared.dial.DialFault.{DialFault}
use Rattle.bw_ports.specs.declared.dial.Duplex.{Duplex}
use Rattle.bw_ports.specs.declared.pause.Pause.{Ghosts as PauseGhosts}
use Rattle.bw_upload.specs.Backoff.{backoff, is_spent}
use Rattle.bw_wire.specs.EncodedFrames.{IsFrameOf}
use Rattle.bw_send_file.specs.Sendings.{Ways}
use Rattle.bw_send_file.specs.declared.asking.NotAsked.{NotAsked}
use Rattle.bw_send_file.specs.declared.asking.NotAsked.TheVariants.{Fruitless, Memory}

-- a reader that reports its bytes gives the frame of this reply first
abbrev pub GivesReply : Reply → Option (List ℕ) → Type 0
GivesReply reply left = (xs : List ℕ) → left ≡ Some xs →
    (head : List ℕ) × (body : List ℕ) × (rest : List ℕ) × (xs ≡ head ++ body ++ rest)
    × (u32_at head 0 ≡ length body) × (length head ≡ 4) × (decoded_reply body ≡ Ok reply)

-- the reply says that this number is expected next under this name
abbrev pub SaysNext : List ℕ → ℕ → Reply → Type 0
SaysNext name next reply = (number : ℕ) × (reply ≡ Noticed name number Next next)

-- the first reply over a link says it
abbrev pub AnswersAsk : List ℕ → ℕ → Option (List ℕ) → Type 0
AnswersAsk name next left = (reply : Reply) × SaysNext name next reply × GivesReply reply left

module _ {D R W : Type 0} (dial : DialGhosts D R W) (reader : Reader R) where
  -- a link was made, and the first reply over it says it
  abbrev pub HasAnswered : List ℕ → ℕ → Type 0
  HasAnswered name next = (link : Duplex R W) × (before : D) × (after : D)
      × dial.dials before (Ok link) after × AnswersAsk name next (reader.left link.reader)

-- the frame that ends an exchange
abbrev pub bye_frame : List ℕ
bye_frame = 1 ∷ 0 ∷ 0 ∷ 0 ∷ 9 ∷ []

-- this frame and a BYE are written to a new link, or a beginning of them, and nothing else
abbrev pub WritesAsk : {W : Type 0} → Writer W → List ℕ → W → Type 0
WritesAsk {W} writer frame w =
    (w' : W) × Begins (writer.written w) (frame ++ bye_frame) (writer.written w')

module _ {D R W : Type 0} (dial : DialGhosts D R W) (reader : Reader R) (writer : Writer W)
    (name : List ℕ) where
  -- over a link that was made it is asked which number is expected next
  abbrev pub AsksOver : Result (Duplex R W) DialFault → Type 0
  AsksOver (Ok link) =
      (frame : List ℕ) × IsFrameOf (Asks name 0) frame × WritesAsk writer frame link.writer
  AsksOver (Err fault) = Unit {0}

  -- .. and it is answered
  abbrev pub AnswersAskOver : Option ℕ → Result (Duplex R W) DialFault → Type 0
  AnswersAskOver None made = Unit {0}
  AnswersAskOver (Some next) (Ok link) = AnswersAsk name next (reader.left link.reader)
  AnswersAskOver (Some next) (Err fault) = ⊥

  -- a link was asked for, and brought this answer, or none
  pub record DialsToAsk (answer : Option ℕ) (d d' : D) : Type 0 where
    pub made : Result (Duplex R W) DialFault
    pub dials : dial.dials d made d'
    pub asks : AsksOver made
    pub answers : AnswersAskOver answer made

-- before each link but the first it is waited as before one of an upload
abbrev pub WaitsToAsk : {P : Type 0} → PauseGhosts P → ℕ → P → P → Type 0
WaitsToAsk pause zero p p' = p' ≡ p
WaitsToAsk pause (suc n) p p' = pause.waits p (backoff (suc n)) p'

module _ {P D R W : Type 0} (pause : PauseGhosts P) (dial : DialGhosts D R W) (reader : Reader R)
    (writer : Writer W) (name : List ℕ) (most : Option ℕ) where
  -- after so many links it is asked over one more
  pub record AsksOverOneLink (n : ℕ) (answer : Option ℕ) (old new : Ways P D) : Type 0 where
    pub allowed : is_spent most n ≡ false
    pub waits : WaitsToAsk pause n old.pause new.pause
    pub dials : DialsToAsk dial reader writer name answer old.dial new.dial

  -- so many links brought no answer
  abbrev pub AsksInVain : ℕ → Ways P D → Ways P D → Type 0
  AsksInVain zero old new = new ≡ old
  AsksInVain (suc n) old new =
      (between : Ways P D) × AsksInVain n old between × AsksOverOneLink n None between new

  -- the last link brought this answer
  pub record IsAskAnswered (next : ℕ) (old new : Ways P D) : Type 0 where
    pub n : ℕ
    pub between : Ways P D
    pub vain : AsksInVain n old between
    pub last : AsksOverOneLink n (Some next) between new

  -- as many links as allowed brought none
  pub record IsUnanswered (old new : Ways P D) : Type 0 where
    pub n : ℕ
    pub vain : AsksInVain n old new
    pub spent : (is_spent most n ≡ true) ⊎ (2 ^ 64 - 1 ≤ n)

  -- memory was refused before the next link was asked for
  pub record LacksAskMemory (old new : Ways P D) : Type 0 where
    pub n : ℕ
    pub between : Ways P D
    pub vain : AsksInVain n old between
    pub waits : WaitsToAsk pause n between.pause new.pause
    pub undialled : new.dial ≡ between.dial

  abbrev pub AsksServer : Result ℕ NotAsked → Ways P D → Ways P D → Type 0
  AsksServer (Ok next) old new = IsAskAnswered next old new
  AsksServer (Err Fruitless) old new = IsUnanswered old new
  AsksServer (Err Memory) old new = LacksAskMemory old new

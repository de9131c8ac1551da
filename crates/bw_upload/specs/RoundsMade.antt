-- Rounds: a link and an exchange over it each, as far as both go.
use mathlib.Core.Logic.{inl, inr}
use Rattle.std.specs.Prelude.{◌≡◌, ◌≢◌, ◌⊎◌, ℕ, ◌<◌, Some, Result, Ok, Err, List, [], ◌∷◌}
use Rattle.std.specs.Prelude.{length}
use Rattle.bw_model.specs.Replies.{Reply}
use Rattle.bw_model.specs.World.{Sender as Defined}
use Rattle.bw_stream.specs.Moves.{one_more}
use Rattle.bw_stream.specs.declared.sink.Sink.{Ghosts as Writer}
use Rattle.bw_stream.specs.declared.source.Source.{Ghosts as Reader}
use Rattle.bw_sender.specs.Senders.{IsSender}
use Rattle.bw_sender.specs.declared.sender.Sender.{Sender}
use Rattle.bw_wire.specs.Codecs.{reply_codec, Spelled}
use Rattle.bw_sender.specs.Sent.{Exchanges}
use Rattle.bw_sender.specs.declared.send_fault.SendFault.{SendFault}
use Rattle.bw_sender.specs.declared.send_fault.SendFault.TheVariants.{Memory}
use Rattle.bw_ports.specs.NextLinks.{GivesNext}
use Rattle.bw_upload.specs.SendState.{Sending, IsSettled, hear_in, offer_more}
use Rattle.bw_ports.specs.declared.dial.Dial.{Ghosts as DialGhosts}
use Rattle.bw_ports.specs.declared.dial.DialFault.{DialFault}
use Rattle.bw_ports.specs.declared.dial.Duplex.{Duplex}

-- the replies that were heard in an exchange: none if its batch lacked memory
abbrev pub heard_over : {R W : Type 0} → {reader : Reader R} → {writer : Writer W} →
    {result : Result (Unit {0}) SendFault} → {x y : Sender} → {r r' : R} → {w w' : W} →
    Exchanges reader writer result x y r r' w w' → List Reply
heard_over (inl whole) = whole.over.hears.heard
heard_over (inr (inl broke)) = broke.over.hears.heard
heard_over (inr (inr lacks)) = []

-- these bytes begin with the frames of these replies
abbrev pub BeginWith : List ℕ → List Reply → Type 0
BeginWith bytes heard = (rest : List ℕ) × Spelled Reply reply_codec bytes heard rest

-- Of links that give these bytes, one after another, this was heard in rounds: in each what the
-- bytes of its link begin with, and nothing if it had none.
abbrev pub AreHeardFrom : List (List Reply) → List (List ℕ) → Type 0
AreHeardFrom [] links = Unit {0}
AreHeardFrom (heard ∷ more) links =
    ((heard ≡ []) × AreHeardFrom more links)
    ⊎ ((bytes : List ℕ) × (rest : List (List ℕ)) × (links ≡ bytes ∷ rest) × BeginWith bytes heard
    × AreHeardFrom more rest)

module _ {D R W : Type 0} (dial : DialGhosts D R W) (reader : Reader R) (writer : Writer W) where
  -- An exchange of the sender over this link: what has no verdict was written, or a prefix of it,
  -- and these replies were heard. Memory was there.
  pub record IsExchange (s : Defined) (heard : List Reply) (link : Duplex R W) : Type 0 where
    pub result : Result (Unit {0}) SendFault
    pub goes_on : result ≢ Err Memory
    pub before : Sender
    pub after : Sender
    pub is_sender : IsSender s before
    pub r' : R
    pub w' : W
    pub exchanges : Exchanges reader writer result before after link.reader r' link.writer w'
    pub heard_is : heard ≡ heard_over exchanges

  -- no link was made, and nothing heard
  pub record MakesNoLink (heard : List Reply) (d d' : D) : Type 0 where
    pub fault : DialFault
    pub called : dial.dials d (Err fault) d'
    pub counted : dial.failures d' ≡ one_more (dial.failures d)
    pub kept : dial.links d' ≡ dial.links d
    pub none : heard ≡ []

  -- the next link was made, for an exchange
  pub record MakesLink (s : Defined) (heard : List Reply) (d d' : D) : Type 0 where
    pub link : Duplex R W
    pub called : dial.dials d (Ok link) d'
    pub counted : dial.failures d' ≡ dial.failures d
    pub next : GivesNext (dial.links d) (reader.left link.reader) (dial.links d')
    pub exchange : IsExchange s heard link

  -- a round of the sender, in which these replies were heard
  abbrev pub IsRound : Defined → List Reply → D → D → Type 0
  IsRound s heard d d' = MakesNoLink heard d d' ⊎ MakesLink s heard d d'

  -- Rounds, in each of which these replies were heard. Before each of them more is offered, as far
  -- as the window has room, and something has no verdict.
  abbrev pub AreRounds : Sending → List (List Reply) → Sending → D → D → Type 0
  AreRounds x [] y d d' = (y ≡ x) × (d' ≡ d)
  AreRounds x (heard ∷ more) y d d' =
      (mid : D) × (¬ IsSettled (offer_more x)) × IsRound (offer_more x).sender heard d mid
      × AreRounds (hear_in (offer_more x) heard) more y mid d'

  -- This many rounds were made, or fewer, after which nothing more can be offered and all that was
  -- offered has its verdict.
  pub record MakesRounds (rounds : ℕ) (x y : Sending) (d d' : D) : Type 0 where
    pub heard : List (List Reply)
    pub following : Sending
    pub went : AreRounds x heard following d d'
    -- what was heard is what the links gave, where that is reported
    pub reported : (xs : List (List ℕ)) → dial.links d ≡ Some xs → AreHeardFrom heard xs
    pub ends : ((length heard ≡ rounds) × (y ≡ following))
        ⊎ ((length heard < rounds) × (y ≡ offer_more following) × IsSettled y)

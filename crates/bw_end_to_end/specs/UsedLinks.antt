-- The ends of links that a command used.
use Rattle.std.specs.Prelude.{◌≡◌, ◌<◌, ◌≤◌, ℕ, Option, Some, None, List, [], ◌∷◌, length}
use Rattle.bw_model.specs.Bytes.{at}
use Rattle.bw_model.specs.Take.{Request, Verdict, Stored}
use Rattle.bw_model.specs.Wire.{Second, last_number}
use Rattle.bw_model.specs.World.{Sender}
use Rattle.bw_stream.specs.declared.sink.Sink.{Ghosts as Writer}
use Rattle.bw_stream.specs.declared.source.Source.{Ghosts as Reader}
use Rattle.bw_delivery.specs.Statement.{LinkBytes, DidSend}

-- A link as it was made, and its writer after its use.
pub record UsedLink (R W : Type 0) : Type 0 where
  pub reader : R
  pub writer : W
  pub writer_after : W

module _ {R W : Type 0} (reader : Reader R) (writer : Writer W) where
  -- The sender's end of a link: nothing was written to it before; then these bytes were, and it had
  -- those to read.
  pub record IsSenderEnd (u : UsedLink R W) (l : LinkBytes) : Type 0 where
    pub unused : writer.written u.writer ≡ Some []
    pub said : writer.written u.writer_after ≡ Some l.said
    pub heard : reader.left u.reader ≡ Some l.heard

  -- the same of each of them, in their order
  abbrev pub AreSenderEnds : List (UsedLink R W) → List (ℕ × LinkBytes) → Type 0
  AreSenderEnds [] [] = Unit {0}
  AreSenderEnds [] (x ∷ xs) = ⊥
  AreSenderEnds (u ∷ us) [] = ⊥
  AreSenderEnds (u ∷ us) (x ∷ xs) = IsSenderEnd u x.1 × AreSenderEnds us xs

-- A sender from number 0, as the promise takes it: what it wrote over these links are frames of these
-- requests, and each verdict that it has came over one of them.
abbrev pub SendsOver : List ℕ → List Request → List (Option Verdict) → List (ℕ × LinkBytes) →
    Type 0
SendsOver name requests verdicts links = DidSend (record {
  name = name;
  requests = requests;
  had = [];
  has = verdicts;
  links = links;
})

-- The same of one that had requests and verdicts before these links: this is what it was then, and
-- what it is after them.
abbrev pub SendsOnOver : List Request → Sender → Sender → List (ℕ × LinkBytes) → Type 0
SendsOnOver requests s last links = DidSend (record {
  name = s.name;
  requests = requests;
  had = s.verdicts;
  has = last.verdicts;
  links = links;
})

-- each request that has no verdict yet has a number that a message can have
abbrev pub PendingHaveNumbers : Sender → Type 0
PendingHaveNumbers s = (n : ℕ) → n < length s.offered → at s.verdicts n ≡ None →
    n ≤ last_number Second

-- each of these requests has the verdict Stored
abbrev pub HasAllStored : List Request → List (Option Verdict) → Type 0
HasAllStored requests verdicts = (n : ℕ) → n < length requests → at verdicts n ≡ Some Stored

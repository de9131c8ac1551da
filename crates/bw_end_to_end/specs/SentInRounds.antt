-- The links of the command `send`.
use mathlib.Core.Logic.{inl, inr}
use Rattle.std.specs.Prelude.{◌≡◌, ℕ, Option, IsTrue, List, [], ◌∷◌, ◌++◌}
use Rattle.std.specs.List.{list_all}
use Rattle.bw_model.specs.Take.{Request}
use Rattle.bw_model.specs.Wire.{is_name, is_request}
use Rattle.bw_model.specs.Replies.{Reply}
use Rattle.bw_model.specs.World.{Sender}
use Rattle.bw_stream.specs.declared.sink.Sink.{Ghosts as Writer}
use Rattle.bw_stream.specs.declared.source.Source.{Ghosts as Reader}
use Rattle.bw_ports.specs.declared.dial.Dial.{Ghosts as DialGhosts}
use Rattle.bw_console.specs.Outcomes.{Outcome}
use Rattle.bw_console.specs.Prints.{Whole}
use Rattle.bw_console.specs.declared.exit.Exit.TheVariants.{Done}
use Rattle.bw_upload.specs.RoundsMade.{IsRound, AreRounds, MakesRounds}
use Rattle.bw_upload.specs.SendState.{Sending, hear_in, new_sending, offer_more}
use Rattle.bw_upload.specs.Sends.{IsSendRun, PrintsSender}
use Rattle.bw_delivery.specs.Statement.{LinkBytes}
use Rattle.bw_end_to_end.specs.UsedLinks.{UsedLink, AreSenderEnds, HasAllStored, SendsOver}

module _ {D R W : Type 0} (dial : DialGhosts D R W) (reader : Reader R) (writer : Writer W) where
  -- the link of a round, if one was made
  abbrev pub link_in_round : (s : Sender) (heard : List Reply) (d d' : D) →
      IsRound dial reader writer s heard d d' → List (UsedLink R W)
  link_in_round s heard d d' (inl none) = []
  link_in_round s heard d d' (inr made) = record {
    reader = made.link.reader;
    writer = made.link.writer;
    writer_after = made.exchange.w';
  } ∷ []

  -- those of rounds, one after another
  abbrev pub links_in_rounds : (x : Sending) (heard : List (List Reply)) (y : Sending) (d d' : D) →
      AreRounds dial reader writer x heard y d d' → List (UsedLink R W)
  links_in_rounds x [] y d d' went = []
  links_in_rounds x (heard ∷ more) y d d' went =
      link_in_round (offer_more x).sender heard d went.0 went.2
      ++ links_in_rounds (hear_in (offer_more x) heard) more y went.0 d' went.3

  -- What a run of `send` wrote over its links are its requests, and its verdicts came over them.
  abbrev pub RoundsSendRequests : Type 0
  RoundsSendRequests = (name : List ℕ) (requests : List Request) (rounds : ℕ) (last : Sending)
      (d d' : D) (went : MakesRounds dial reader writer rounds (new_sending name requests) last d d')
      (links : List (ℕ × LinkBytes)) → IsTrue (is_name name) →
      IsTrue (list_all is_request requests) → AreSenderEnds reader writer
      (links_in_rounds (new_sending name requests) went.heard went.following d d' went.went) links →
      SendsOver name requests last.sender.verdicts links

  -- a run of `send` whose input's requests were all stored
  pub record SendsAll (name : List ℕ) (rounds : ℕ) (input : Option (List ℕ)) (d d' : D)
      (did : Outcome) : Type 0 where
    pub sent : PrintsSender dial reader writer name rounds input d d' Whole Done did.out
    pub stored : HasAllStored sent.requests sent.last.sender.verdicts

  -- It is such a run, if it ended with status 0.
  abbrev pub DoneSendsStoreAll : Type 0
  DoneSendsStoreAll = (name : List ℕ) (rounds : ℕ) (input : Option (List ℕ)) (d d' : D)
      (did : Outcome) → IsSendRun dial reader writer name rounds input d d' did → did.exit ≡ Done →
      SendsAll name rounds input d d' did

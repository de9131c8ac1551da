-- What a piece does to a conversation.
use Rattle.std.proofs.Common.{◌≡◌, ◌≢◌, ℕ, ◌+◌, ◌≤◌, Bool, true, false, List, [], ◌∷◌, ◌++◌, length, Option, Some, None}
use Rattle.std.proofs.Common.{Result, Ok, Err, refl, sym, ap, subst, ◌∙◌, arith, inl, inr}
use Rattle.std.proofs.lemmas.List.{length-append}
use Rattle.bw_model.specs.Wire.{Reason, Cut}
use Rattle.bw_model.specs.Replies.{Reply}
use Rattle.bw_stream.specs.Moves.{one_more}
use Rattle.bw_stream.specs.declared.sink.Sink.{Ghosts as Writer}
use Rattle.bw_stream.specs.declared.source.Source.{Ghosts as Reader}
use Rattle.bw_sender.specs.Senders.{IsSender}
use Rattle.bw_sender.specs.declared.sender.Sender.{Sender}
use Rattle.bw_exchange.specs.WholeExchanges.{HasGiven, HasNoneLeft}
use Rattle.bw_sender.specs.Hears.{hear_all, IsHeardUpTo}
use Rattle.bw_sender.specs.Stops.{first_stop}
use Rattle.bw_sender.specs.Talks.{Listens, HearsPiece, HearsBadPiece}
use Rattle.bw_sender.specs.declared.send_fault.SendFault.{SendFault}
use Rattle.bw_sender.specs.declared.send_fault.SendFault.TheVariants as faults
use Rattle.bw_sender.specs.declared.stop.Stop.{Stop}
use Rattle.bw_sender.specs.declared.talk.Listened.{Listened}
use Rattle.bw_sender.specs.declared.talk.Listened.TheVariants as listens
use Rattle.bw_sender.specs.declared.talk.Talk.{Talk}
use Rattle.bw_ports.specs.declared.dial.Duplex.{Duplex}
use Rattle.bw_upload.specs.Chains.{Chain}
use Rattle.bw_upload.specs.Conversations.{Conversing, TalkEvent, Hears, Says, Breaks, TalkStep, MayHear, HearsReplies, HeedsStop}
use Rattle.bw_upload.specs.Turns.{IsLine, IsTalking, HeedsAny, HeardBy, HearsTurn, TurnBy, TakesTurn, TalksOn, HearsOut}
use Rattle.bw_upload.specs.Turns.{turn_end, break_end}
use Rattle.bw_upload.proofs.ChainSteps.{chain_on}
use Rattle.bw_model.specs.Stream.{frames_bytes}
use Rattle.bw_model.specs.World.{pending}
use Rattle.bw_stream.specs.Moves.{Begins}
use Rattle.bw_wire.specs.Codecs.{reply_codec}
use Rattle.bw_wire.specs.FramerStates.{Pending, next_of}
use Rattle.bw_sender.specs.Batches.{WritesMessages}
use Rattle.bw_sender.specs.Hears.{GaveReplies}
use Rattle.bw_sender.specs.SaidMessages.{unsaid_messages}
use Rattle.bw_upload.specs.declared.observer.LinkEnd.{LinkEnd}
use Rattle.bw_upload.specs.declared.observer.LinkEnd.TheVariants as ends

module _ {R W : Type 0} (reader : Reader R) (writer : Writer W) where
  -- after these replies of a piece
  abbrev after_piece : Conversing R W → R → List ℕ → List Reply → Conversing R W
  after_piece x r' piece heard = record {
    sender = hear_all x.sender heard;
    line = record x.line {
      reader = r';
      input = x.line.input ++ piece;
      heard = x.line.heard ++ heard;
      stop = first_stop x.sender heard;
    };
  }

  -- the step of a piece
  piece_step : (x : Conversing R W) (r r' : R) (piece : List ℕ) (heard : List Reply) (reason : Reason) →
      x.line.reader ≡ r → MayHear reader writer x → 1 ≤ length piece → HasGiven (reader.left r) piece (reader.left r')
      → IsHeardUpTo reason (x.line.input ++ piece) (x.line.heard ++ heard) →
      HearsReplies reader writer heard x (after_piece x r' piece heard)
  piece_step x r r' piece heard reason at may some given prefix = record {
    may = may;
    piece = piece;
    some = some;
    given = subst (λ (z : R). HasGiven (reader.left z) piece (reader.left r')) (sym at) given;
    reason = reason;
    prefix = prefix;
    is = refl;
  }

  -- no step was made
  abbrev no_talk : (x : Conversing R W) (sender : Sender) → IsSender x.sender sender → TalksOn reader writer x sender
  no_talk x sender is = record { events = []; after = x; went = refl; sender_is = is }

  -- a step was made, and then others
  abbrev after_step : (e : TalkEvent) (x y : Conversing R W) (sender : Sender) → TalkStep reader writer e x y →
      TalksOn reader writer y sender → TalksOn reader writer x sender
  after_step e x y sender step t =
      record { events = e ∷ t.events; after = t.after; went = (y, step, t.went); sender_is = t.sender_is }

  -- nothing was heard, and the link is left
  quiet_turn : (end : Option LinkEnd) (x : Conversing R W) (sender sender' : Sender) (talk' : Talk)
      (link' : Duplex R W) → IsSender x.sender sender → sender' ≡ sender → HeedsAny end x.line.stop →
      HeardBy reader writer end (length x.line.input) x talk' link' →
      HearsTurn reader writer end x sender' talk' link'
  quiet_turn end x sender sender' talk' link' is same heeds by = record {
    talks = no_talk x sender' (subst (IsSender x.sender) (sym same) is);
    broken = refl;
    heeds = heeds;
    by = by;
  }

  piece_heard : (stop : Option Stop) (x : Conversing R W) (sender sender' : Sender) (talk talk' : Talk)
      (link : Duplex R W) (r' : R) → IsTalking x sender talk link → MayHear reader writer x →
      talk'.next ≡ talk.next →
      HearsPiece stop talk talk' sender sender' (reader.left link.reader) (reader.left r') →
      HearsTurn reader writer (turn_end (Ok (listens.Heard stop))) x sender' talk' (record link { reader = r' })
  piece_heard stop x sender sender' talk talk' link r' is may said h =
      let has = h.follows x.line.input x.line.heard is.line_is.heard in
      let y = after_piece x r' h.piece h.heard in
      let step = piece_step x link.reader r' h.piece h.heard Cut is.line_is.reader may h.some h.given has.all in
      let line : IsLine y.line talk' (record link { reader = r' }) =
      record { reader = refl; writer = is.line_is.writer; next = said ∙ is.line_is.next; heard = has } in
      let len = length-append x.line.input h.piece in
      record {
        talks = after_step (Hears h.heard) x y sender' step (no_talk y sender' (h.counted x.sender is.sender_is));
        broken = refl;
        heeds = heeds stop (sym (h.stop_is x.sender is.sender_is));
        by = by stop line (omega (arith, len, h.some)) (sym (h.stop_is x.sender is.sender_is));
      }
    where
      by : (o : Option Stop) →
          IsLine (after_piece x r' h.piece h.heard).line talk' (record link { reader = r' }) →
          length x.line.input + 1 ≤ length (x.line.input ++ h.piece) → first_stop x.sender h.heard ≡ o →
          HeardBy reader writer (turn_end (Ok (listens.Heard o))) (length x.line.input)
          (after_piece x r' h.piece h.heard) talk' (record link { reader = r' })
      by None line long e = (line, long)
      by (Some s) line long e = (line, e)

      heeds : (o : Option Stop) → first_stop x.sender h.heard ≡ o →
          HeedsAny (turn_end (Ok (listens.Heard o))) (first_stop x.sender h.heard)
      heeds None e = e
      heeds (Some s) e = e

  piece_bad : (x : Conversing R W) (sender sender' : Sender) (talk talk' : Talk) (link : Duplex R W) (r' : R) →
      IsTalking x sender talk link → MayHear reader writer x →
      HearsBadPiece talk sender sender' (reader.left link.reader) (reader.left r') →
      HearsTurn reader writer (Some (ends.Broken faults.BadReply)) x sender' talk' (record link { reader = r' })
  piece_bad x sender sender' talk talk' link r' is may h =
      let bad = h.follows x.line.input x.line.heard is.line_is.heard in
      let y = after_piece x r' h.piece h.heard in
      let step = piece_step x link.reader r' h.piece h.heard bad.0 is.line_is.reader may h.some h.given bad.2 in
      record {
        talks = after_step (Hears h.heard) x y sender' step (no_talk y sender' (h.counted x.sender is.sender_is));
        broken = refl;
        heeds = tt;
        by = inl (bad.0, bad.1, bad.2);
      }

  none_left : (x : Conversing R W) (r r' : R) → x.line.reader ≡ r → HasNoneLeft (reader.left r) (reader.left r') →
      HasNoneLeft (reader.left x.line.reader) (reader.left r')
  none_left x r r' at none = subst (λ (z : R). HasNoneLeft (reader.left z) (reader.left r')) (sym at) none

  pub listened : (result : Result Listened SendFault) (x : Conversing R W) (sender sender' : Sender)
      (talk talk' : Talk) (link : Duplex R W) (r' : R) → IsTalking x sender talk link → MayHear reader writer x →
      talk'.next ≡ talk.next → Listens reader result talk talk' sender sender' link.reader r' →
      HearsTurn reader writer (turn_end result) x sender' talk' (record link { reader = r' })
  listened (Ok (listens.Heard None)) x sender sender' talk talk' link r' is may said l =
      piece_heard None x sender sender' talk talk' link r' is may said l.by_result
  listened (Ok (listens.Heard (Some stop))) x sender sender' talk talk' link r' is may said l =
      piece_heard (Some stop) x sender sender' talk talk' link r' is may said l.by_result
  listened (Ok listens.Ended) x sender sender' talk talk' link r' is may said l =
      quiet_turn (Some ends.Ended) x sender sender' talk' (record link { reader = r' }) is.sender_is
      l.by_result.unheard is.unstopped (r', none_left x link.reader r' is.line_is.reader l.by_result.drained)
  listened (Err faults.Read) x sender sender' talk talk' link r' is may said l =
      quiet_turn (Some (ends.Broken faults.Read)) x sender sender' talk' (record link { reader = r' }) is.sender_is
      l.by_result.1 is.unstopped (
        r',
        l.counted ∙ ap (λ (z : R). one_more (reader.failures z)) (sym is.line_is.reader),
      )
  listened (Err faults.Write) x sender sender' talk talk' link r' is may said l = absurd l.by_result
  listened (Err faults.Memory) x sender sender' talk talk' link r' is may said l =
      quiet_turn (Some (ends.Broken faults.Memory)) x sender sender' talk' (record link { reader = r' }) is.sender_is
      l.by_result is.unstopped tt
  listened (Err faults.BadReply) x sender sender' talk talk' link r' is may said l = elim l.by_result [
    | inl bad ↦ piece_bad x sender sender' talk talk' link r' is may bad
    | inr ended ↦ quiet_turn (Some (ends.Broken faults.BadReply)) x sender sender' talk'
        (record link { reader = r' }) is.sender_is ended.unheard tt
        (inr (r', none_left x link.reader r' is.line_is.reader ended.drained))
  ]
  listened (Err faults.TurnLimit) x sender sender' talk talk' link r' is may said l =
      let fed = is.line_is.heard.fed in
      quiet_turn (Some (ends.Broken faults.TurnLimit)) x sender sender' talk' (record link { reader = r' })
      is.sender_is l.by_result.1 is.unstopped (omega (arith, l.by_result.0, fed))

  -- ---- all that comes

  -- so far this was heard, and the link can be used
  pub record OutSoFar (x : Conversing R W) (sender : Sender) (talk : Talk) (link : Duplex R W) : Type 0 where
    pub events : List TalkEvent
    pub after : Conversing R W
    pub went : Chain (TalkStep reader writer) events x after
    pub is : IsTalking after sender talk link
    pub broken : after.line.is_broken ≡ x.line.is_broken

  pub out_none : (x : Conversing R W) (sender : Sender) (talk : Talk) (link : Duplex R W) →
      IsTalking x sender talk link → OutSoFar x sender talk link
  out_none x sender talk link is = record { events = []; after = x; went = refl; is = is; broken = refl }

  -- what was heard so far, and then more
  abbrev talks_further : (x : Conversing R W) (sender sender' : Sender) (talk : Talk) (link : Duplex R W)
      (f : OutSoFar x sender talk link) → TalksOn reader writer f.after sender' → TalksOn reader writer x sender'
  talks_further x sender sender' talk link f t = record {
    events = f.events ++ t.events;
    after = t.after;
    went = chain_on (TalkStep reader writer) f.events t.events x f.after t.after f.went t.went;
    sender_is = t.sender_is;
  }

  pub out_over : (x : Conversing R W) (sender : Sender) (talk : Talk) (link : Duplex R W) → x.line.is_broken ≡ true →
      OutSoFar x sender talk link → HearsOut reader writer (ends.Broken faults.Write) x sender talk link
  out_over x sender talk link broken f = record {
    talks = record { events = f.events; after = f.after; went = f.went; sender_is = f.is.sender_is };
    broken = f.broken;
    heeds = f.is.unstopped;
    by = f.broken ∙ broken;
  }

  -- over a link whose writer has failed: what came says why it is left, or else the failure does
  heeds_broken : (end : LinkEnd) (stop : Option Stop) → HeedsStop end stop → HeedsStop (break_end end) stop
  heeds_broken ends.Ended stop h = h
  heeds_broken (ends.Broken faults.Read) stop h = h
  heeds_broken (ends.Broken faults.Write) stop h = h
  heeds_broken (ends.Broken faults.Memory) stop h = h
  heeds_broken (ends.Broken faults.BadReply) stop h = tt
  heeds_broken (ends.Broken faults.TurnLimit) stop h = h
  heeds_broken (ends.Stopped why) stop h = h
  heeds_broken ends.Refused stop h = h
  heeds_broken ends.Done stop h = h

  left_broken : (end : LinkEnd) (m n : ℕ) (y : Conversing R W) (talk : Talk) (link : Duplex R W) →
      y.line.is_broken ≡ true → HeardBy reader writer (Some end) m y talk link →
      TurnBy reader writer (Some (break_end end)) n y talk link
  left_broken ends.Ended m n y talk link broken h = broken
  left_broken (ends.Broken faults.Read) m n y talk link broken h = broken
  left_broken (ends.Broken faults.Write) m n y talk link broken h = broken
  left_broken (ends.Broken faults.Memory) m n y talk link broken h = broken
  left_broken (ends.Broken faults.BadReply) m n y talk link broken h = h
  left_broken (ends.Broken faults.TurnLimit) m n y talk link broken h = broken
  left_broken (ends.Stopped why) m n y talk link broken h = h.1
  left_broken ends.Refused m n y talk link broken h = broken
  left_broken ends.Done m n y talk link broken h = broken

  pub out_end : (x : Conversing R W) (sender sender' : Sender) (talk talk' : Talk) (link link' : Duplex R W)
      (end : LinkEnd) → x.line.is_broken ≡ true → OutSoFar x sender talk link →
      ((y : Conversing R W) → IsTalking y sender talk link → MayHear reader writer y →
      HearsTurn reader writer (Some end) y sender' talk' link') →
      HearsOut reader writer (break_end end) x sender' talk' link'
  out_end x sender sender' talk talk' link link' end broken f hears =
      let h = hears f.after f.is (f.is.unstopped, inl (f.broken ∙ broken)) in
      let talks = talks_further x sender sender' talk link f h.talks in
      record {
        talks = talks;
        broken = h.broken ∙ f.broken;
        heeds = heeds_broken end talks.after.line.stop h.heeds;
        by = left_broken end (length f.after.line.input) (length x.line.input) talks.after talk' link'
            (h.broken ∙ f.broken ∙ broken) h.by;
      }

  pub out_more : (x : Conversing R W) (sender sender' : Sender) (talk talk' : Talk) (link link' : Duplex R W) →
      x.line.is_broken ≡ true → OutSoFar x sender talk link →
      ((y : Conversing R W) → IsTalking y sender talk link → MayHear reader writer y →
      HearsTurn reader writer None y sender' talk' link') → OutSoFar x sender' talk' link'
  out_more x sender sender' talk talk' link link' broken f hears =
      let h = hears f.after f.is (f.is.unstopped, inl (f.broken ∙ broken)) in
      let talks = talks_further x sender sender' talk link f h.talks in
      record {
        events = talks.events;
        after = talks.after;
        went = talks.went;
        is = record { sender_is = talks.sender_is; line_is = h.by.0; unstopped = h.heeds };
        broken = h.broken ∙ f.broken;
      }

  -- ---- a turn

  -- a link whose writer alone was used since then
  abbrev written_on : Conversing R W → W → ℕ → Bool → Conversing R W
  written_on x w' next is_broken = record {
    sender = x.sender;
    line = record x.line { writer = w'; next = next; is_broken = is_broken };
  }

  still_talking : (x : Conversing R W) (sender : Sender) (talk talk' : Talk) (link : Duplex R W) (w' : W) (next : ℕ)
      (is_broken : Bool) → IsTalking x sender talk link → talk'.next ≡ next → talk'.framer ≡ talk.framer →
      IsTalking (written_on x w' next is_broken) sender talk' (record link { writer = w' })
  still_talking x sender talk talk' link w' next is_broken is said same =
      let heard = is.line_is.heard in
      record {
        sender_is = is.sender_is;
        line_is = record {
          reader = is.line_is.reader;
          writer = refl;
          next = said;
          heard = record {
            gave = subst (λ (p : Pending). GaveReplies x.line.input x.line.heard p) (sym same) heard.gave;
            quiet = ap (λ (p : Pending). (next_of reply_codec p).0) same ∙ heard.quiet;
            all = heard.all;
            fed = ap (λ (p : Pending). p.fed) same ∙ heard.fed;
          };
        };
        unstopped = is.unstopped;
      }

  -- what is pending was said
  pub said_and_heard : (end : Option LinkEnd) (x : Conversing R W) (sender sender' : Sender) (talk talk' talk'' : Talk)
      (link link' : Duplex R W) (w' : W) → IsTalking x sender talk link → x.line.is_broken ≡ false →
      pending x.sender 0 ≢ None →
      WritesMessages (unsaid_messages x.sender talk.next) (writer.written link.writer) (writer.written w') →
      talk'.next ≡ length x.sender.offered → talk'.framer ≡ talk.framer →
      ((y : Conversing R W) → IsTalking y sender talk' (record link { writer = w' }) → MayHear reader writer y →
      HearsTurn reader writer end y sender' talk'' link') → TakesTurn reader writer end x sender' talk'' link'
  said_and_heard end x sender sender' talk talk' talk'' link link' w' is whole some said next same hears =
      let count = length x.sender.offered in
      let y = written_on x w' count x.line.is_broken in
      let h = hears y (still_talking x sender talk talk' link w' count x.line.is_broken is next same)
      (is.unstopped, inr (refl, some)) in
      record {
        talks = after_step Says x y sender' (record {
          whole = whole;
          said = subst (λ (z : W). WritesMessages (unsaid_messages x.sender x.line.next) (writer.written z) (writer.written w'))
              (sym is.line_is.writer)
              (subst (λ (n : ℕ). WritesMessages (unsaid_messages x.sender n) (writer.written link.writer) (writer.written w'))
              is.line_is.next said);
          is = refl;
        }) h.talks;
        heeds = h.heeds;
        by = as_turn end h.talks.after talk'' link' (h.broken ∙ whole) h.by;
      }
    where
      as_turn : (end : Option LinkEnd) (y : Conversing R W) (talk : Talk) (link : Duplex R W) →
          y.line.is_broken ≡ false → HeardBy reader writer end (length x.line.input) y talk link →
          TurnBy reader writer end (length x.line.input) y talk link
      as_turn None y talk link b h = (h.0, h.1, b)
      as_turn (Some ends.Ended) y talk link b h = h
      as_turn (Some (ends.Broken faults.Read)) y talk link b h = h
      as_turn (Some (ends.Broken faults.Write)) y talk link b h = absurd h
      as_turn (Some (ends.Broken faults.Memory)) y talk link b h = tt
      as_turn (Some (ends.Broken faults.BadReply)) y talk link b h = h
      as_turn (Some (ends.Broken faults.TurnLimit)) y talk link b h = h
      as_turn (Some (ends.Stopped stop)) y talk link b h = h.1
      as_turn (Some ends.Refused) y talk link b h = absurd h
      as_turn (Some ends.Done) y talk link b h = absurd h

  -- the writer failed
  pub broke_and_heard : (end : LinkEnd) (x : Conversing R W) (sender sender' : Sender) (talk talk' talk'' : Talk)
      (link link' : Duplex R W) (w' : W) → IsTalking x sender talk link → x.line.is_broken ≡ false →
      Begins (writer.written link.writer) (frames_bytes (unsaid_messages x.sender talk.next)) (writer.written w') →
      writer.failures w' ≡ one_more (writer.failures link.writer) →
      talk'.framer ≡ talk.framer →
      ((y : Conversing R W) → IsTalking y sender talk' (record link { writer = w' }) → y.line.is_broken ≡ true →
      HearsOut reader writer end y sender' talk'' link') →
      TakesTurn reader writer (Some end) x sender' talk'' link'
  broke_and_heard end x sender sender' talk talk' talk'' link link' w' is whole begun failed same hears =
      let y = written_on x w' talk'.next true in
      let h = hears y (still_talking x sender talk talk' link w' talk'.next true is refl same) refl in
      record {
        talks = after_step Breaks x y sender' (record {
          whole = whole;
          begun = subst (λ (z : W). Begins (writer.written z) (frames_bytes (unsaid_messages x.sender x.line.next)) (writer.written w'))
              (sym is.line_is.writer)
              (subst (λ (n : ℕ). Begins (writer.written link.writer) (frames_bytes (unsaid_messages x.sender n)) (writer.written w'))
              is.line_is.next begun);
          failed = failed ∙ ap (λ (z : W). one_more (writer.failures z)) (sym is.line_is.writer);
          is = refl;
        }) h.talks;
        heeds = h.heeds;
        by = h.by;
      }

  -- memory was refused
  pub lacks_memory : (x : Conversing R W) (sender : Sender) (talk talk' : Talk) (link link' : Duplex R W) →
      IsTalking x sender talk link →
      TakesTurn reader writer (Some (ends.Broken faults.Memory)) x sender talk' link'
  lacks_memory x sender talk talk' link link' is = record {
    talks = no_talk x sender is.sender_is;
    heeds = is.unstopped;
    by = tt;
  }

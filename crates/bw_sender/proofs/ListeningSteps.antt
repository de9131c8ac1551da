-- Replies are heard over a link that is kept, one by one and piece by piece.
use Rattle.std.proofs.Common.{◌≡◌, ◌≢◌, ℕ, List, [], ◌∷◌, ◌++◌, Option, Some, None}
use Rattle.std.proofs.Common.{Result, Ok, Err, refl, sym, ap, subst, ◌∙◌, inl, inr}
use Rattle.std.specs.Prelude.{IfOk, IfErr}
use Rattle.bw_model.specs.Wire.{Reason, Cut}
use Rattle.bw_model.specs.Replies.{Reply}
use Rattle.bw_model.specs.World.{Sender as Defined, hear, heard}
use Rattle.bw_sender.specs.declared.sender.Sender.{Sender}
use Rattle.bw_wire.specs.Codecs.{reply_codec}
use Rattle.bw_wire.specs.FramerStates.{Pending, Nothing, Fails, fresh, next_of}
use Rattle.bw_sender.specs.Hears.{hear_all, CountsAll, GaveReplies, FeedsReplies}
use Rattle.bw_sender.specs.Hears.{EndsReplies, ReportsFault, StopsHearing, hears_failed}
use Rattle.bw_sender.specs.LinkReplies.{HearsThese, NotesStop, HearsNext}
use Rattle.bw_sender.specs.Stops.{stop_by, first_of, first_stop}
use Rattle.bw_sender.specs.declared.send_fault.SendFault.{SendFault}
use Rattle.bw_sender.specs.declared.send_fault.SendFault.TheVariants as faults
use Rattle.bw_sender.specs.declared.talk.Listened.{Listened}
use Rattle.bw_sender.specs.declared.talk.Listened.TheVariants as listens
use Rattle.bw_sender.specs.Talks.{HasHeard, Listens}
use Rattle.bw_stream.specs.declared.source.Source.{Ghosts as Reader}
use Rattle.bw_sender.specs.declared.stop.Stop.{Stop}
use Rattle.bw_sender.specs.declared.talk.NextReply.{NextReply}
use Rattle.bw_sender.specs.declared.talk.NextReply.TheVariants as nexts
use Rattle.bw_sender.specs.declared.talk.Talk.{Talk}
use Rattle.bw_sender.proofs.ReplyRuns.{fresh_quiet, gave_none, gave_fed, gave_counted}
use Rattle.bw_sender.proofs.ReplyRuns.{gave_follows}

-- ---- the first that stops the talk

first_of-none : (o : Option Stop) → first_of o None ≡ o
first_of-none None = refl
first_of-none (Some stop) = refl

first_of-assoc : (a b c : Option Stop) → first_of (first_of a b) c ≡ first_of a (first_of b c)
first_of-assoc None b c = refl
first_of-assoc (Some stop) b c = refl

stops_in_turn : (s : Defined) (a b : List Reply) → first_stop s (a ++ b) ≡ first_of (first_stop s a) (first_stop (hear_all s a) b)
stops_in_turn s [] b = refl
stops_in_turn s (r ∷ a) b =
    ap (first_of (stop_by (heard s r) r)) (stops_in_turn (hear s r) a b)
    ∙ sym (first_of-assoc (stop_by (heard s r) r) (first_stop (hear s r) a) (first_stop (hear_all s (r ∷ a)) b))

pub stop_of_one : (s : Defined) (r : Reply) → first_stop s (r ∷ []) ≡ stop_by (heard s r) r
stop_of_one s r = first_of-none (stop_by (heard s r) r)

pub notes_none : (x : Sender) → NotesStop None [] x
notes_none x s is = refl

pub notes_on : (a b : List Reply) (stop later : Option Stop) (x y : Sender) → NotesStop stop a x →
    CountsAll a x y → NotesStop later b y → NotesStop (first_of stop later) (a ++ b) x
notes_on a b stop later x y f counted g s is =
    ap (λ (o : Option Stop). first_of o later) (f s is)
    ∙ ap (first_of (first_stop s a)) (g (hear_all s a) (counted s is))
    ∙ sym (stops_in_turn s a b)

-- ---- what was heard over a link

pub heard_by : (input : List ℕ) (heard : List Reply) (t : Talk) → GaveReplies input heard t.framer →
    (next_of reply_codec t.framer).0 ≡ Nothing → HasHeard input heard t
heard_by input heard t gave quiet =
    let rest = (gave_follows input heard t.framer gave).nothing quiet in
    record {
      gave = gave;
      quiet = quiet;
      all = (t.framer.bytes, rest.0, rest.1);
      fed = gave_counted input heard t.framer gave;
    }

pub heard_nothing : (t : Talk) → t.framer ≡ fresh → HasHeard [] [] t
heard_nothing t e =
    heard_by [] [] t (subst (GaveReplies [] []) (sym e) gave_none)
    (ap (λ (q : Pending). (next_of reply_codec q).0) e ∙ fresh_quiet)

-- ---- a piece

module _ {R : Type 0} (reader : Reader R) where
  pub listens_heard : (stop : Option Stop) (t t' : Talk) (x y : Sender) (r r' : R) (moved moved' : ℕ) (q : Pending)
      (heard : List Reply) → FeedsReplies (reader.left r) (reader.left r') moved moved' t.framer q →
      HearsThese heard x y q t'.framer → NotesStop stop heard x → (next_of reply_codec t'.framer).0 ≡ Nothing →
      reader.failures r' ≡ reader.failures r → Listens reader (Ok (listens.Heard stop)) t t' x y r r'
  listens_heard stop t t' x y r r' moved moved' q heard n g stops quiet count = record {
    by_result = record {
      piece = n.piece;
      given = n.given;
      some = n.some;
      short = n.short;
      heard = heard;
      counted = g.counted;
      stop_is = stops;
      follows = λ input earlier h.
          heard_by (input ++ n.piece) (earlier ++ heard) t'
          (g.gives (input ++ n.piece) earlier (gave_fed input earlier n.piece t.framer q n.fed n.fits h.gave)) quiet;
    };
    counted = count;
  }

  pub listens_bad : (t t' : Talk) (x y : Sender) (r r' : R) (moved moved' : ℕ) (q p : Pending) (heard : List Reply) →
      FeedsReplies (reader.left r) (reader.left r') moved moved' t.framer q → HearsThese heard x y q p →
      ReportsFault p → reader.failures r' ≡ reader.failures r →
      Listens reader (Err faults.BadReply) t t' x y r r'
  listens_bad t t' x y r r' moved moved' q p heard n g reported count = record {
    by_result = inl (record {
      piece = n.piece;
      given = n.given;
      some = n.some;
      heard = heard;
      counted = g.counted;
      follows = λ input earlier h.
          let gave = g.gives (input ++ n.piece) earlier
          (gave_fed input earlier n.piece t.framer q n.fed n.fits h.gave) in
          let follows = gave_follows (input ++ n.piece) (earlier ++ heard) p gave in
          let fault = follows.fault reported.0 reported.1 reported.2 in
          let other : reported.0 ≢ Cut =
          λ cut. follows.not_cut reported.1 (reported.2 ∙ ap (λ (why : Reason). Fails why reported.1) cut) in
          (reported.0, other, (fault.0, fault.1, fault.2));
    });
    counted = count;
  }

  pub listens_ended : (result : Result Listened SendFault) (t t' : Talk) (x : Sender) (r r' : R) (p q : Pending) →
      EndsReplies (reader.left r) (reader.left r') p q → IfOk result (λ l. l ≡ listens.Ended) →
      IfErr result (λ fault. fault ≡ faults.BadReply) → reader.failures r' ≡ reader.failures r →
      Listens reader result t t' x x r r'
  listens_ended (Ok l) t t' x r r' p q n ok why count =
      subst (λ (z : Listened). Listens reader (Ok z) t t' x x r r') (sym ok)
      (record { by_result = record { drained = n.none; unheard = refl }; counted = count })
  listens_ended (Err fault) t t' x r r' p q n ok why count =
      subst (λ (z : SendFault). Listens reader (Err z) t t' x x r r') (sym why)
      (record { by_result = inr (record { drained = n.none; unheard = refl }); counted = count })

  pub listens_stopped : (fault : SendFault) (t t' : Talk) (x : Sender) (r r' : R) →
      StopsHearing fault (reader.left r) (reader.left r') →
      reader.failures r' ≡ hears_failed (Err fault) (reader.failures r) →
      Listens reader (Err fault) t t' x x r r'
  listens_stopped faults.Read t t' x r r' stops count = record { by_result = (stops, refl); counted = count }
  listens_stopped faults.Write t t' x r r' stops count = absurd stops
  listens_stopped faults.Memory t t' x r r' stops count = record { by_result = refl; counted = count }
  listens_stopped faults.BadReply t t' x r r' stops count = absurd stops
  listens_stopped faults.TurnLimit t t' x r r' stops count = absurd stops

-- a reply was there
pub next_heard : (x y : Sender) (p q : Pending) (n : NextReply) (stop : Option Stop) → n ≡ nexts.Heard stop →
    HearsNext (Ok n) x y p q → (r : Reply) × HearsThese (r ∷ []) x y p q × NotesStop stop (r ∷ []) x
next_heard x y p q nexts.NoneLeft stop e h = absurd cc
next_heard x y p q (nexts.Heard a) stop e h =
    let same : a ≡ stop = cc in
    subst (λ (z : Option Stop). HearsNext (Ok (nexts.Heard z)) x y p q) same h

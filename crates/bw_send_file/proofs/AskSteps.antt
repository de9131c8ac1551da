-- A server is asked, link after link.
use Rattle.std.proofs.Common.{◌≡◌, ◌+◌, ℕ, suc, false, List, [], ◌++◌, Option, Some, None, Result, Ok, Err}
use Rattle.std.proofs.Common.{IfSome, OnErr, OnOk, refl, arith, append-nil, subst}
use Rattle.bw_stream.specs.Moves.{Begins, Writes}
use Rattle.bw_stream.specs.declared.sink.Sink.{Ghosts as Writer}
use Rattle.bw_stream.specs.declared.source.Source.{Ghosts as Reader}
use Rattle.bw_ports.specs.declared.dial.Dial.{Ghosts as DialGhosts}
use Rattle.bw_ports.specs.declared.dial.DialFault.{DialFault}
use Rattle.bw_ports.specs.declared.dial.Duplex.{Duplex}
use Rattle.bw_ports.specs.declared.pause.Pause.{Ghosts as PauseGhosts}
use Rattle.bw_upload.specs.Backoff.{is_spent}
use Rattle.bw_send_file.specs.Sendings.{Ways}
use Rattle.bw_send_file.specs.declared.asking.NotAsked.{NotAsked}
use Rattle.bw_send_file.specs.declared.asking.NotAsked.TheVariants.{Fruitless, Memory}
use Rattle.bw_send_file.specs.Asks.{AnswersAsk, AnswersAskOver, AsksInVain, AsksServer, DialsToAsk}
use Rattle.bw_send_file.specs.Asks.{HasAnswered, IsAskAnswered, WaitsToAsk}

pub written_begins : (old new : Option (List ℕ)) (a b : List ℕ) → Writes old a new → Begins old (a ++ b) new
written_begins old new a b h = λ xs is. record { part = a; rest = b; whole = refl; stands = h xs is }

pub written_whole : (old new : Option (List ℕ)) (a : List ℕ) → Writes old a new → Begins old a new
written_whole old new a h = λ xs is. record { part = a; rest = []; whole = append-nil a; stands = h xs is }

-- a text was written, or a prefix of it
pub begun_by : {E : Type 0} (r : Result (Unit {0}) E) (old new : Option (List ℕ)) (a : List ℕ) →
    OnOk r (Writes old a new) → OnErr r (Begins old a new) → Begins old a new
begun_by (Ok x) old new a whole part = written_whole old new a whole
begun_by (Err e) old new a whole part = part

pub answers_over : {D R W : Type 0} (dial : DialGhosts D R W) (reader : Reader R) (writer : Writer W) (name : List ℕ)
    (answer : Option ℕ) (link : Duplex R W) →
    IfSome answer (λ next. AnswersAsk name next (reader.left link.reader)) →
    AnswersAskOver dial reader writer name answer (Ok link)
answers_over dial reader writer name None link h = tt
answers_over dial reader writer name (Some next) link h = h

module _ {P D R W : Type 0} (pause : PauseGhosts P) (dial : DialGhosts D R W) (reader : Reader R)
    (writer : Writer W) (name : List ℕ) (most : Option ℕ) where
  -- one more link brings no answer
  pub vain_more : (n : ℕ) (answer : Option ℕ) (old new : Ways P D) (p : P) (d : D) → answer ≡ None →
      AsksInVain pause dial reader writer name most n old (record { pause = p; dial = d }) →
      is_spent most n ≡ false → WaitsToAsk pause n p new.pause →
      DialsToAsk dial reader writer name answer d new.dial →
      AsksInVain pause dial reader writer name most (n + 1) old new
  vain_more n answer old new p d none vain allowed waits dials =
      let same : suc n ≡ n + 1 = omega arith in
      subst (λ (k : ℕ). AsksInVain pause dial reader writer name most k old new) same (
        record { pause = p; dial = d },
        vain,
        record {
          allowed = allowed;
          waits = waits;
          dials = subst (λ (a : Option ℕ). DialsToAsk dial reader writer name a d new.dial) none dials;
        },
      )

  -- the next one brings this
  pub answered_last : (n next : ℕ) (answer : Option ℕ) (old new : Ways P D) (p : P) (d : D) → answer ≡ Some next →
      AsksInVain pause dial reader writer name most n old (record { pause = p; dial = d }) →
      is_spent most n ≡ false → WaitsToAsk pause n p new.pause →
      DialsToAsk dial reader writer name answer d new.dial →
      IsAskAnswered pause dial reader writer name most next old new
  answered_last n next answer old new p d some vain allowed waits dials = record {
    n = n;
    between = record { pause = p; dial = d };
    vain = vain;
    last = record {
      allowed = allowed;
      waits = waits;
      dials = subst (λ (a : Option ℕ). DialsToAsk dial reader writer name a d new.dial) some dials;
    };
  }

  answered_over : (next : ℕ) (made : Result (Duplex R W) DialFault) (d d' : D) → dial.dials d made d' →
      AnswersAskOver dial reader writer name (Some next) made → HasAnswered dial reader name next
  answered_over next (Ok link) d d' dials answer = (link, d, d', dials, answer)
  answered_over next (Err fault) d d' dials answer = absurd answer

  -- an answer is the first reply over a link
  pub has_answered : (next : ℕ) (old new : Ways P D) → AsksServer pause dial reader writer name most (Ok next) old new →
      HasAnswered dial reader name next
  has_answered next old new x =
      answered_over next x.last.dials.made x.between.dial new.dial x.last.dials.dials x.last.dials.answers

  -- memory was refused
  pub lacks_memory : (n : ℕ) (e : NotAsked) (old new : Ways P D) (p : P) (d : D) → e ≡ Memory →
      AsksInVain pause dial reader writer name most n old (record { pause = p; dial = d }) →
      WaitsToAsk pause n p new.pause → new.dial ≡ d →
      AsksServer pause dial reader writer name most (Err e) old new
  lacks_memory n Fruitless old new p d e vain waits undialled = absurd cc
  lacks_memory n Memory old new p d e vain waits undialled = record {
    n = n;
    between = record { pause = p; dial = d };
    vain = vain;
    waits = waits;
    undialled = undialled;
  }

-- Each exchange of a server that serves one after another answers over its own link.
use Rattle.std.proofs.Common.{◌≡◌, ℕ, suc, ◌+◌, Bool, List, [], ◌∷◌, ◌++◌, length, Option, Some, None}
use Rattle.std.proofs.Common.{refl, sym, ◌∙◌, ap, subst, arith, append-nil, append_assoc}
use Rattle.std.specs.Prelude.{Result}
use Rattle.std.specs.List.{AllByRecursion}
use Rattle.std.specs.declared.net.socket_addr.SocketAddr.{SocketAddr}
use Rattle.bw_model.specs.Wire.{Frame}
use Rattle.bw_model.specs.Replies.{Reply}
use Rattle.bw_model.specs.Stream.{End, EndOfInput, SaidBye, BadFrame}
use Rattle.bw_model.specs.Exchange.{replies_bytes}
use Rattle.bw_stream.specs.declared.sink.Sink.{Ghosts as Writer}
use Rattle.bw_stream.specs.declared.source.Source.{Ghosts as Reader}
use Rattle.bw_wire.specs.Reasons.{reason_meaning}
use Rattle.bw_exchange.specs.declared.serving.ExchangeEnd.{ExchangeEnd}
use Rattle.bw_exchange.specs.declared.serving.ExchangeEnd.TheVariants as ends
use Rattle.bw_exchange.specs.AnsweredFrames.{Answered, AnswersAll, replies_of}
use Rattle.bw_exchange.specs.Done.{last_of}
use Rattle.bw_exchange.specs.WholeExchanges.{Serves, EndsBy}
use Rattle.bw_exchange.specs.declared.turns.NotKept.{NotKept}
use Rattle.bw_connections.specs.ConnectionTables.{Tagged, tagged, all_answered}
use Rattle.bw_console.specs.declared.exit.Exit.{Exit}
use Rattle.bw_console.specs.declared.exit.Exit.TheVariants.{Done, Refused, Usage, Device, Memory}
use Rattle.bw_ports.specs.declared.peers.Peers.{Ghosts as PeerGhosts}
use Rattle.bw_serve.specs.Guards.{FromPeer}
use Rattle.bw_serve.specs.ServedAll.{ServedOutcome, Served, Gone, Closed, ServesNext, ServesEach, EndsEarly}
use Rattle.bw_delivery.specs.Statement.{LinkBytes, IsPartOf}
use Rattle.bw_end_to_end.specs.ServedLinks.{AnswersOver}
use Rattle.bw_end_to_end.specs.ServedInTurn.{ServedExchange, trace_of, IsPeerEnd, exchange_next, exchanges_each}
use Rattle.bw_end_to_end.specs.ServedInTurn.{exchanges_early, AnswersInTurn, RunsAnswerInTurn}
use Rattle.bw_serve.proofs.Guarding.{from_peer}
use Rattle.bw_end_to_end.proofs.ConnectionLinks.{all_contain}
use Rattle.bw_end_to_end.proofs.RisingNumbers.{AreRising, rising-append, own_exchange}

some_inj : {X : Type 0} {x y : X} → Some x ≡ Some y → x ≡ y
some_inj e = cc

-- what an exchange wrote is a prefix of its replies, and the one to a bad frame
record WritesPart (answered : List Answered) (output : List ℕ) : Type 0 where
  end : Option End
  part : IsPartOf output (replies_bytes (replies_of answered ++ last_of end))

all_written : (answered : List Answered) (output : List ℕ) (end : Option End) →
    output ≡ replies_bytes (replies_of answered ++ last_of end) → WritesPart answered output
all_written answered output end e = record { end = end; part = ([], append-nil output ∙ e) }

no_last : (answered : List Answered) (output : List ℕ) → output ≡ replies_bytes (replies_of answered) →
    WritesPart answered output
no_last answered output e =
    all_written answered output None (e ∙ ap replies_bytes (sym (append-nil (replies_of answered))))

writes_part : (end : ExchangeEnd) (left left' : Option (List ℕ)) (answered : List Answered) (input output : List ℕ) →
    EndsBy end left left' answered input output → WritesPart answered output
writes_part ends.Bye left left' answered input output h = all_written answered output (Some SaidBye) h.written
writes_part ends.EndOfInput left left' answered input output h = all_written answered output (Some EndOfInput) h.written
writes_part (ends.BadFrame fault) left left' answered input output h =
    all_written answered output (Some (BadFrame (reason_meaning fault.reason) fault.offset)) h.written
writes_part ends.ReadFault left left' answered input output h = no_last answered output h.written
writes_part ends.WriteFault left left' answered input output h =
    record { end = h.end; part = (h.unwritten, h.begins) }
writes_part (ends.NotKept cause) left left' answered input output h =
    record { end = h.end; part = (h.unwritten, h.begins) }
writes_part ends.TurnLimit left left' answered input output h = no_last answered output h.0.written
writes_part ends.Memory left left' answered input output h = no_last answered output h.1

-- one exchange, by what its link gave and took
exchange_answers : {S : Type 0} (answers : S → Frame → List Reply → S → Type 0) (end : ExchangeEnd) (s later : S)
    (left left' written written' : Option (List ℕ)) (received taken : List ℕ) →
    (h : Serves answers end s later left left' written written') → left ≡ Some received → written ≡ Some [] →
    written' ≡ Some taken → AnswersOver h.answered received taken
exchange_answers answers end s later left left' written written' received taken h gives unused took =
    let given = h.given received gives in
    let w = writes_part end left left' h.answered h.input h.output h.by_end in
    let same : taken ≡ h.output = some_inj (sym took ∙ h.taken [] unused) in
    record {
      read = h.input;
      read_part = (given.0, given.2);
      first = h.prefix;
      spelled = h.spelled;
      end = w.end;
      part = subst (λ (z : List ℕ). IsPartOf z (replies_bytes (replies_of h.answered ++ last_of w.end))) (sym same) w.part;
    }

answers-append : {S : Type 0} (answers : S → Frame → List Reply → S → Type 0) (s mid later : S) (xs ys : List Answered) →
    AnswersAll answers s xs mid → AnswersAll answers mid ys later → AnswersAll answers s (xs ++ ys) later
answers-append answers s mid later [] ys h k = subst (λ z. AnswersAll answers z ys later) h k
answers-append answers s mid later (x ∷ xs) ys h k = (h.0, h.1, answers-append answers h.0 mid later xs ys h.2 k)

all_answered-append : (xs ys : List Tagged) → all_answered (xs ++ ys) ≡ all_answered xs ++ all_answered ys
all_answered-append [] ys = refl
all_answered-append (x ∷ xs) ys = ap (λ (zs : List Answered). x.1 ∷ zs) (all_answered-append xs ys)

all_answered-tagged : (n : ℕ) (xs : List Answered) → all_answered (tagged n xs) ≡ xs
all_answered-tagged n [] = refl
all_answered-tagged n (x ∷ xs) = ap (λ (zs : List Answered). x ∷ zs) (all_answered-tagged n xs)

module _ {T P R W O E : Type 0} (answers : SocketAddr → T → Frame → List Reply → T → Type 0)
    (commits : T → Result (Unit {0}) NotKept → T → Type 0) (peers : PeerGhosts P R W) (reader : Reader R) (writer : Writer W)
    (out : Writer O)
    (reported : Writer E) (log : Bool) where
  -- what exchanges in a row are
  record InTurn (i k : ℕ) (xs : List (ServedExchange R W)) (t t' : T) : Type 0 where
    rising : AreRising i k xs
    by_server : AnswersAll (FromPeer answers) t (all_answered (trace_of xs)) t'
    each : AllByRecursion (λ x. (l : LinkBytes) → IsPeerEnd reader writer x.link l →
        AnswersOver x.answered l.received l.answered) xs

  trace_of-append : (xs ys : List (ServedExchange R W)) →
      all_answered (trace_of (xs ++ ys)) ≡ all_answered (trace_of xs) ++ all_answered (trace_of ys)
  trace_of-append [] ys = refl
  trace_of-append (x ∷ xs) ys =
      all_answered-append (tagged x.number x.answered) (trace_of (xs ++ ys))
      ∙ ap (λ (zs : List Answered). all_answered (tagged x.number x.answered) ++ zs) (trace_of-append xs ys)
      ∙ sym (append_assoc (all_answered (tagged x.number x.answered)) (all_answered (trace_of xs)) (all_answered (trace_of ys)))
      ∙ ap (λ (zs : List Answered). zs ++ all_answered (trace_of ys))
      (sym (all_answered-append (tagged x.number x.answered) (trace_of xs)))

  all-append : (Q : ServedExchange R W → Type 0) (xs ys : List (ServedExchange R W)) → AllByRecursion Q xs →
      AllByRecursion Q ys → AllByRecursion Q (xs ++ ys)
  all-append Q [] ys h k = k
  all-append Q (x ∷ xs) ys h k = (h.0, all-append Q xs ys h.1 k)

  joined : (i j k : ℕ) (xs ys : List (ServedExchange R W)) (t m t' : T) → InTurn i j xs t m → InTurn j k ys m t' →
      InTurn i k (xs ++ ys) t t'
  joined i j k xs ys t m t' a b = record {
    rising = rising-append i j k xs ys a.rising b.rising;
    by_server = subst (λ (zs : List Answered). AnswersAll (FromPeer answers) t zs t') (sym (trace_of-append xs ys))
        (answers-append (FromPeer answers) t m t' (all_answered (trace_of xs)) (all_answered (trace_of ys)) a.by_server b.by_server);
    each = all-append _ xs ys a.each b.each;
  }

  none : (i : ℕ) (t t' : T) → t' ≡ t → InTurn i (suc i) [] t t'
  none i t t' same = record { rising = omega arith; by_server = same; each = tt }

  next_in_turn : (index : ℕ) (x : ServedOutcome) (t t' : T) (p p' : P) (o o' : O) (e e' : E)
      (next : ServesNext answers commits peers reader writer out reported log index x t t' p p' o o' e e') →
      InTurn index (suc index) (exchange_next answers commits peers reader writer out reported log index x t t' p p' o o' e e' next)
      t t'
  next_in_turn index (Served end exit) t t' p p' o o' e e' next =
      let s = next.served.served.serves in
      record {
        rising = (omega arith, omega arith);
        by_server = subst (λ (zs : List Answered). AnswersAll (FromPeer answers) t zs t')
            (sym (ap all_answered (append-nil (tagged index s.answered)) ∙ all_answered-tagged index s.answered))
            (from_peer answers next.peer.address t s.answered t' s.by_server);
        each = (
          λ l over. exchange_answers (answers next.peer.address) end t t' _ _ _ _ l.received l.answered s over.received over.unused
              over.answered,
          tt,
        );
      }
  next_in_turn index Gone t t' p p' o o' e e' next = none index t t' next.server
  next_in_turn index Closed t t' p p' o o' e e' next = none index t t' next.server

  each_in_turn : (index : ℕ) (xs : List ServedOutcome) (t t' : T) (p p' : P) (o o' : O) (e e' : E)
      (each : ServesEach answers commits peers reader writer out reported log index xs t t' p p' o o' e e') →
      InTurn index (index + length xs)
      (exchanges_each answers commits peers reader writer out reported log index xs t t' p p' o o' e e' each) t t'
  each_in_turn index [] t t' p p' o o' e e' each = record { rising = omega arith; by_server = each.0; each = tt }
  each_in_turn index (x ∷ xs) t t' p p' o o' e e' each =
      let first = next_in_turn index x t each.0 p each.1 o each.2 e each.3 each.4 in
      let rest = each_in_turn (suc index) xs each.0 t' each.1 p' each.2 o' each.3 e' each.6 in
      let same : suc index + length xs ≡ index + length (x ∷ xs) = omega arith in
      subst (λ (k : ℕ). InTurn index k
      (exchanges_each answers commits peers reader writer out reported log index (x ∷ xs) t t' p p' o o' e e' each) t t') same
      (joined index (suc index) (suc index + length xs) _ _ t each.0 t' first rest)

  early_in_turn : (exchanges : ℕ) (exit : Exit) (t t' : T) (p p' : P) (o o' : O) (e e' : E)
      (run : EndsEarly answers commits peers reader writer out reported log exchanges exit t t' p p' o o' e e') →
      InTurn 0 (suc (length run.before))
      (exchanges_early answers commits peers reader writer out reported log exchanges exit t t' p p' o o' e e' run) t t'
  early_in_turn exchanges exit t t' p p' o o' e e' run =
      let first = each_in_turn 0 run.before t run.m p run.q o run.n e run.f run.each in
      let last = next_in_turn (length run.before) run.last run.m t' run.q p' run.n o' run.f e' run.next in
      let same : 0 + length run.before ≡ length run.before = omega arith in
      joined 0 (length run.before) (suc (length run.before)) _ _ t run.m t'
      (subst (λ (k : ℕ). InTurn 0 k (exchanges_each answers commits peers reader writer out reported log 0 run.before t run.m p
      run.q o run.n e run.f run.each) t run.m) same first) last

  answered_in_turn : (i k : ℕ) (xs : List (ServedExchange R W)) (t t' : T) → InTurn i k xs t t' →
      AnswersInTurn answers commits peers reader writer out reported log xs t t'
  answered_in_turn i k xs t t' h = record {
    by_server = h.by_server;
    each = λ x l has end. subst (λ (zs : List Answered). AnswersOver zs l.received l.answered)
        (sym (own_exchange i k xs x h.rising has)) (all_contain _ xs x h.each has l end);
  }

  pub runs_answer : RunsAnswerInTurn answers commits peers reader writer out reported log
  runs_answer exchanges Done t t' p p' o o' e e' run =
      answered_in_turn _ _ _ t t' (each_in_turn 0 run.outcomes t t' p p' o o' e e' run.each)
  runs_answer exchanges Refused t t' p p' o o' e e' run =
      answered_in_turn _ _ _ t t' (early_in_turn exchanges Refused t t' p p' o o' e e' run)
  runs_answer exchanges Usage t t' p p' o o' e e' run =
      answered_in_turn _ _ _ t t' (early_in_turn exchanges Usage t t' p p' o o' e e' run)
  runs_answer exchanges Device t t' p p' o o' e e' run =
      answered_in_turn _ _ _ t t' (early_in_turn exchanges Device t t' p p' o o' e e' run)
  runs_answer exchanges Memory t t' p p' o o' e e' run =
      answered_in_turn _ _ _ t t' (early_in_turn exchanges Memory t t' p p' o o' e e' run)

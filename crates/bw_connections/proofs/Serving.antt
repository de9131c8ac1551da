-- What connections amount to in bytes.
use Rattle.std.proofs.Common.{◌≡◌, ◌≢◌, ◌<◌, ◌⊎◌, inl, inr, ℕ, true, false, Option, Some, None, List, [], ◌∷◌, ◌++◌}
use Rattle.std.proofs.Common.{refl, sym, ap, subst, append_assoc, ◌∙◌, arith}
use Rattle.std.specs.Prelude.{IfSome, IsTrue, is_some}
use Rattle.std.specs.List.{AllByRecursion}
use Rattle.std.proofs.lemmas.List.{append-nil, length-append}
use Rattle.bw_model.specs.Wire.{Second, are_bytes}
use Rattle.bw_model.specs.Stream.{End, stream_of}
use Rattle.bw_exchange.specs.declared.exchange.Exchange.{Exchange}
use Rattle.bw_exchange.specs.declared.serving.ExchangeEnd.TheVariants as ends
use Rattle.bw_exchange.specs.declared.step.StreamEnd.{StreamEnd}
use Rattle.bw_exchange.specs.declared.step.StreamEnd.TheVariants as streams
use Rattle.bw_exchange.specs.AnsweredFrames.{Answered, answered_frames}
use Rattle.bw_exchange.specs.Done.{AreFirstOf, ExchangesFollowStreams, IsExchangeOf}
use Rattle.bw_exchange.specs.Ends.{IsFinal, end_meaning, end_so_far}
use Rattle.bw_exchange.specs.Parts.{end_of, wants_piece, waiting_in}
use Rattle.bw_connections.specs.declared.connection.Connection.{Connection}
use Rattle.bw_connections.specs.declared.connection.ConnectionEnd.{ConnectionEnd}
use Rattle.bw_connections.specs.declared.connection.ConnectionEnd.TheVariants.{Idle, Over}
use Rattle.bw_connections.specs.declared.connection.Phase.{Phase}
use Rattle.bw_connections.specs.declared.connection.Phase.TheVariants as phases
use Rattle.bw_ports.specs.declared.link.Link.{Ghosts as LinkGhosts}
use Rattle.bw_connections.specs.declared.connections.Closed.{Closed}
use Rattle.bw_connections.specs.declared.connections.Connections.{Connections}
use Rattle.bw_connections.specs.ConnectionTables.{HasLeft, KeepsConnections, HoldsConnectionAt, Tagged, own}
use Rattle.bw_connections.specs.Lives.{HasEnded, IsInPhase, IsConnectionOver, Lives}
use Rattle.bw_connections.specs.ConnectionBytes.{QuantaLeaveCommitted, EndsLink, ConnectionReachesEnd}
use Rattle.bw_connections.specs.ConnectionBytes.{ServesEachConnection, ServesConnection}
use Rattle.bw_connections.specs.ConnectionBytes.{ConnectionReportsEnd}
use Rattle.bw_connections.proofs.Standing.{all_left}

-- What bytes that weren't fed leave of what is known: nothing was, or none could change it.
record Unchanged (e : Exchange) (answered : List Answered) (fed unread : List ℕ) : Type 0 where
  pub prefix : AreFirstOf (answered_frames answered) (fed ++ unread)
  pub whole : IfSome (end_so_far (end_of e)) (λ x. stream_of Second (fed ++ unread) ≡ (answered_frames answered, x))

all_fed : (e : Exchange) (answered : List Answered) (fed out unread : List ℕ) → IsExchangeOf fed answered out e →
    unread ≡ [] → Unchanged e answered fed unread
all_fed e answered fed out unread x none =
    subst (Unchanged e answered fed) (sym none) (record {
      prefix = x.prefix [] refl;
      whole = whole (end_so_far (end_of e)) x.whole;
    })
  where
    whole : (end : Option End) → IfSome end (λ y. stream_of Second fed ≡ (answered_frames answered, y)) →
        IfSome end (λ y. stream_of Second (fed ++ []) ≡ (answered_frames answered, y))
    whole None h = tt
    whole (Some end) h = ap (stream_of Second) (append-nil fed) ∙ h

-- after an end that no more bytes can change
final_end : (e : Exchange) (answered : List Answered) (fed out unread : List ℕ) (end : StreamEnd) →
    IsExchangeOf fed answered out e → end_of e ≡ Some end → IsFinal (end_meaning end) →
    Unchanged e answered fed unread
final_end e answered fed out unread end x is final =
    let settled = subst (λ (y : Option StreamEnd). IfSome (end_so_far y) (λ z. IsFinal z → (more : List ℕ) →
    stream_of Second (fed ++ more) ≡ (answered_frames answered, z))) is x.settled final unread in
    record {
      prefix = ([], ap (λ s. s.0) settled ∙ sym (append-nil (answered_frames answered)));
      whole = subst (λ (y : Option StreamEnd).
          IfSome (end_so_far y) (λ z. stream_of Second (fed ++ unread) ≡ (answered_frames answered, z))) (sym is) settled;
    }

-- one that wants a piece has no end
no_end : (e : Exchange) → wants_piece e ≡ true → end_so_far (end_of e) ≡ None
no_end e wants_read = go (end_of e) (e.«open» wants_read)
  where
    go : (end : Option StreamEnd) → is_some end ≡ false → end_so_far end ≡ None
    go None h = refl
    go (Some end) h = absurd cc

-- a last piece wasn't fed
not_fed : (e : Exchange) (answered : List Answered) (fed out unread : List ℕ) → IsExchangeOf fed answered out e →
    wants_piece e ≡ true → IsTrue (are_bytes unread) → Unchanged e answered fed unread
not_fed e answered fed out unread x wants_read bytes = record {
  prefix = x.prefix unread bytes;
  whole = subst (λ (y : Option End). IfSome y (λ z. stream_of Second (fed ++ unread) ≡ (answered_frames answered, z)))
      (sym (no_end e wants_read)) tt;
}

module _ {L : Type 0} (G : LinkGhosts L) (law : ExchangesFollowStreams) where
  serves_link : (link : L) (e : Exchange) (fed gone unread : List ℕ) (answered : List Answered) →
      IsExchangeOf fed answered (gone ++ waiting_in e) e → G.given link (fed ++ unread) → G.taken link gone →
      Unchanged e answered fed unread → ServesConnection G link answered
  serves_link link e fed gone unread answered x given taken u = record {
    stream_end = end_so_far (end_of e);
    input = fed ++ unread;
    output = gone;
    unsent = waiting_in e;
    exchanged = record {
      given = given;
      taken = taken;
      prefix = u.prefix;
      whole = u.whole;
      replies = x.written;
      spelled = x.spelled;
    };
  }

  ends_with : (end : ConnectionEnd) (link : L) (answered : List Answered) (o : IsConnectionOver G end link answered) →
      Unchanged o.exchange answered o.fed o.unread →
      ConnectionReportsEnd G end link (end_so_far (end_of o.exchange)) answered (o.fed ++ o.unread) (waiting_in o.exchange) →
      EndsLink G end link answered
  ends_with end link answered o u reports =
      let x = law o.fed answered o.gone o.exchange o.done in
      record {
        serves = record {
          stream_end = end_so_far (end_of o.exchange);
          input = o.fed ++ o.unread;
          output = o.gone;
          unsent = waiting_in o.exchange;
          exchanged = record {
            given = o.given;
            taken = o.taken;
            prefix = u.prefix;
            whole = u.whole;
            replies = x.written;
            spelled = x.spelled;
          };
        };
        reports = reports;
        fault = o.fault;
        finished = o.finished;
      }

  -- a connection at a place
  serves_so_far : (c : Connection L) (answered : List Answered) → Lives G c answered → ServesConnection G c.link answered
  serves_so_far c answered l =
      let x = law l.fed answered l.gone c.exchange l.done in
      serves_link c.link c.exchange l.fed l.gone l.unread answered x l.given l.taken (by_phase c.phase l.by_phase)
    where
      by_phase : (p : Phase) → IsInPhase p c.exchange l.unread → Unchanged c.exchange answered l.fed l.unread
      by_phase phases.Serving h =
          all_fed c.exchange answered l.fed (l.gone ++ waiting_in c.exchange) l.unread
          (law l.fed answered l.gone c.exchange l.done) h
      by_phase (phases.Draining fault) h =
          final_end c.exchange answered l.fed (l.gone ++ waiting_in c.exchange) l.unread (streams.BadFrame fault)
          (law l.fed answered l.gone c.exchange l.done) h.0 h.1

  -- one that is over
  ends_link : (end : ConnectionEnd) (link : L) (answered : List Answered) → IsConnectionOver G end link answered →
      EndsLink G end link answered
  ends_link end link answered o = by_end end o
    where
      follows : (z : ConnectionEnd) (p : IsConnectionOver G z link answered) →
          IsExchangeOf p.fed answered (p.gone ++ waiting_in p.exchange) p.exchange
      follows z p = law p.fed answered p.gone p.exchange p.done

      all_in : (z : ConnectionEnd) (p : IsConnectionOver G z link answered) → p.unread ≡ [] →
          Unchanged p.exchange answered p.fed p.unread
      all_in z p none =
          all_fed p.exchange answered p.fed (p.gone ++ waiting_in p.exchange) p.unread (follows z p) none

      last_out : (z : ConnectionEnd) (p : IsConnectionOver G z link answered) → wants_piece p.exchange ≡ true →
          IsTrue (are_bytes p.unread) → Unchanged p.exchange answered p.fed p.unread
      last_out z p wants_read bytes =
          not_fed p.exchange answered p.fed (p.gone ++ waiting_in p.exchange) p.unread (follows z p) wants_read bytes

      ended : (y : StreamEnd) (z : ConnectionEnd) (p : IsConnectionOver G z link answered) → HasEnded y p.exchange p.unread →
          Unchanged p.exchange answered p.fed p.unread
      ended y z p h = go h.2
        where
          go : (p.unread ≡ []) ⊎ IsFinal (end_meaning y) → Unchanged p.exchange answered p.fed p.unread
          go (inl none) = all_in z p none
          go (inr final) =
              final_end p.exchange answered p.fed (p.gone ++ waiting_in p.exchange) p.unread y (follows z p) h.0 final

      reached : (y : StreamEnd) (z : ConnectionEnd) (p : IsConnectionOver G z link answered) → HasEnded y p.exchange p.unread →
          ConnectionReachesEnd G link (end_so_far (end_of p.exchange)) (waiting_in p.exchange) (end_meaning y)
      reached y z p h = (
        ap end_so_far h.0,
        h.1,
        subst (λ (e : Option StreamEnd). IfSome (end_so_far e) (λ x. IsFinal x ⊎ G.ended link)) h.0 p.at_end,
      )

      by_end : (z : ConnectionEnd) → IsConnectionOver G z link answered → EndsLink G z link answered
      by_end (Over ends.Bye) p =
          ends_with (Over ends.Bye) link answered p (ended streams.Bye _ p p.by_end) (reached streams.Bye _ p p.by_end)
      by_end (Over ends.EndOfInput) p =
          ends_with (Over ends.EndOfInput) link answered p (ended streams.EndOfInput _ p p.by_end)
          (reached streams.EndOfInput _ p p.by_end)
      by_end (Over (ends.BadFrame fault)) p =
          ends_with (Over (ends.BadFrame fault)) link answered p (ended (streams.BadFrame fault) _ p p.by_end)
          (reached (streams.BadFrame fault) _ p p.by_end)
      by_end (Over ends.ReadFault) p =
          let h = p.by_end in
          let all : p.fed ++ p.unread ≡ p.fed = ap (λ (b : List ℕ). p.fed ++ b) h.1 ∙ append-nil p.fed in
          ends_with (Over ends.ReadFault) link answered p (all_in _ p h.1) (record {
            all_sent = h.0.1;
            going = no_end p.exchange h.0.0;
            frames = ap (λ (b : List ℕ). (stream_of Second b).0) all ∙ (follows _ p).wants_read h.0.0;
            unended = λ final.
                (follows _ p).unended h.0.0 (subst (λ (b : List ℕ). IsFinal (stream_of Second b).1) all final);
          })
      by_end (Over ends.WriteFault) p =
          ends_with (Over ends.WriteFault) link answered p (all_in _ p p.by_end.1) p.by_end.0
      by_end (Over (ends.NotKept cause)) p =
          ends_with (Over (ends.NotKept cause)) link answered p (all_in _ p p.by_end.1) p.by_end.0
      by_end (Over ends.TurnLimit) p =
          let h = p.by_end in
          let n = (follows _ p).counted in
          let len = length-append p.fed p.unread in
          let most = h.2 in
          ends_with (Over ends.TurnLimit) link answered p (last_out _ p h.0.0 h.1)
          (no_end p.exchange h.0.0, h.0.1, omega (arith, n, len, most))
      by_end (Over ends.Memory) p =
          let h = p.by_end in
          ends_with (Over ends.Memory) link answered p (last_out _ p h.0.0 h.1) (
            no_end p.exchange h.0.0,
            h.0.1,
            record {
              before = p.fed;
              last = p.unread;
              all = refl;
              short = h.3;
              some = h.2;
              frames = (follows _ p).wants_read h.0.0;
            },
          )
      by_end Idle p = ends_with Idle link answered p (all_in _ p p.by_end) tt

  over_each : (m : Connections L) (trace : List Tagged) (over : List (Closed L)) → AllByRecursion (HasLeft G m trace) over →
      AllByRecursion (λ y. EndsLink G y.end y.link (own y.number trace)) over
  over_each m trace [] h = tt
  over_each m trace (y ∷ ys) h = (ends_link y.end y.link (own y.number trace) h.0.over, over_each m trace ys h.1)

  pub serves_each : (m : Connections L) (over : List (Closed L)) (trace : List Tagged) → KeepsConnections G m over trace →
      ServesEachConnection G m over trace
  serves_each m over trace k = record {
    each = k.each;
    stands = λ i c at. serves_so_far c (own c.number trace) (k.lives i c at).1;
    ended = over_each m trace over k.left;
    begun = all_left (HasLeft G m trace) (λ x. x.number < m.next) over (λ x h. h.before) k.left;
    once = k.once;
    away = all_left (HasLeft G m trace) (λ x. (i : ℕ) (c : Connection L) → HoldsConnectionAt m i c → c.number ≢ x.number) over
        (λ x h. h.away) k.left;
    none = k.fresh;
  }

-- only what had waited left
pub leaves_committed : {L : Type 0} (G : LinkGhosts L) → QuantaLeaveCommitted G
leaves_committed G c committed link l f = record {
  stream_end = end_so_far (end_of c.exchange);
  output = l.gone ++ f.bytes;
  taken = f.taken l.gone l.taken;
  unsent = f.left;
  replies = append_assoc l.gone f.bytes f.left ∙ (ap (λ (x : List ℕ). l.gone ++ x) (sym f.waited) ∙ l.done.written);
}

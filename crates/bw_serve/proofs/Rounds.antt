-- Which peers are accepted, and rounds.
use Rattle.std.proofs.Common.{◌≡◌, ◌≢◌, ◌⊎◌, inl, inr, ℕ, suc, ◌==◌, ◌<◌, Bool, true, false, Some, None, List}
use Rattle.std.proofs.Common.{[], ◌∷◌, ◌++◌, refl, sym, ap, subst, ◌∙◌, append_assoc}
use Rattle.std.specs.Prelude.{Result, Ok, Err, OnOk, OnErr, slice_get}
use Rattle.std.proofs.lemmas.List.{append-nil}
use Rattle.std.proofs.lemmas.Bool.Decides.{eqb_tells}
use Rattle.bw_stream.specs.declared.sink.Sink.{Ghosts as Writer}
use Rattle.bw_connections.specs.declared.connection.Connection.{Connection}
use Rattle.bw_exchange.specs.declared.turns.NotKept.{NotKept}
use Rattle.bw_ports.specs.declared.link.Link.{Ghosts as LinkGhosts}
use Rattle.bw_connections.specs.declared.connections.BeginError.{BeginError}
use Rattle.bw_connections.specs.ConnectionTables.{IsFree, HoldsConnectionAt, Tagged}
use Rattle.bw_connections.specs.declared.connections.Closed.{Closed}
use Rattle.bw_connections.specs.Lives.{BeginsConnection}
use Rattle.bw_connections.specs.Places.{connection_count}
use Rattle.bw_connections.specs.Quanta.{BeginsAt, LeavesOthers, RefusesLink}
use Rattle.bw_connections.proofs.Standing.{not_some, some_is}
use Rattle.bw_serve.specs.Guards.{PeerAnswers}
use Rattle.bw_serve.specs.Admissions.{Admits, AdmitsEach}
use Rattle.bw_ports.specs.Reactors.{Admission}
use Rattle.bw_serve.specs.EventLoops.{AcceptsPeer, Advances, IsNew, LetsIn, ended_in_turn, frames_in_turn}
use Rattle.bw_serve.specs.Rounds.{ServesInRounds, ServesRound, Welcomes, ended_in_round, frames_in_round}
use Rattle.bw_serve.specs.declared.event_loop.EventLoop.{EventLoop}
use Rattle.bw_ports.specs.declared.reactor.Reactor.{Ghosts as ReactorGhosts}
use Rattle.bw_serve.proofs.Growing.{advances_then, grows_then, turn_advances, advances_grown}
use Rattle.bw_serve.proofs.Admitting.{admits_then, hosts_admitted_each, hosts_more, hosts_woken}

-- no peer comes
pub lets_in_none : {L : Type 0} (now : ℕ) (c : EventLoop L) → LetsIn now c c
lets_in_none now c = record { stands = λ i d at. at; received = λ i d at. inl at }

pub lets_in_then : {L : Type 0} (now : ℕ) (a b c : EventLoop L) → LetsIn now a b → LetsIn now b c → LetsIn now a c
lets_in_then {L} now a b c f g = record {
  stands = λ i d at. g.stands i d (f.stands i d at);
  received = λ i d at. before i d (g.received i d at);
}
  where
    before : (i : ℕ) (d : Connection L) → HoldsConnectionAt b.connections i d ⊎ AcceptsPeer now d →
        HoldsConnectionAt a.connections i d ⊎ AcceptsPeer now d
    before i d (inl at) = f.received i d at
    before i d (inr comes) = inr comes

-- a peer comes and gets a free place, unless memory is refused
pub in_slots : {L : Type 0} (place now : ℕ) (link : L) (a b : EventLoop L) (r : Result (Unit {0}) BeginError) →
    IsFree a.connections place → OnOk r (BeginsAt place link now a.connections b.connections) →
    OnErr r (RefusesLink a.connections b.connections) →
    LeavesOthers place a.connections b.connections → LetsIn now a b
in_slots {L} place now link a b r free begins refused others = record {
  stands = λ i d at. stands i d at (eqb_tells i place);
  received = λ i d at. received r begins refused i d at (eqb_tells i place);
}
  where
    stands : (i : ℕ) (d : Connection L) → HoldsConnectionAt a.connections i d →
        (((i == place) ≡ true) × (i ≡ place)) ⊎ (((i == place) ≡ false) × (i ≢ place)) → HoldsConnectionAt b.connections i d
    stands i d at (inl y) =
        absurd (not_some d (some_is None (Some d) (sym free ∙ subst (λ j. HoldsConnectionAt a.connections j d) y.1 at)))
    stands i d at (inr z) = others.others i z.1 ∙ at

    received : (q : Result (Unit {0}) BeginError) → OnOk q (BeginsAt place link now a.connections b.connections) →
        OnErr q (RefusesLink a.connections b.connections) → (i : ℕ) (d : Connection L) → HoldsConnectionAt b.connections i d →
        (((i == place) ≡ true) × (i ≡ place)) ⊎ (((i == place) ≡ false) × (i ≢ place)) →
        HoldsConnectionAt a.connections i d ⊎ AcceptsPeer now d
    received (Ok x) n same i d at (inl y) =
        let is : n.connection ≡ d = some_is n.connection d (some_is (Some n.connection) (Some d)
        (sym n.there ∙ subst (λ j. HoldsConnectionAt b.connections j d) y.1 at)) in
        inr (link, a.connections.next, subst (λ e. BeginsConnection link a.connections.next now e) is n.begins)
    received (Ok x) n same i d at (inr z) = inl (sym (others.others i z.1) ∙ at)
    received (Err x) n same i d at w = inl (ap (λ p. slice_get p.items i) (sym same.places) ∙ at)

-- no peer was asked for yet
pub welcomes_none : {B L : Type 0} (reactor : ReactorGhosts B L) (now : ℕ) (b : B) (c : EventLoop L) → Welcomes reactor now b b c c
welcomes_none reactor now b c = record {
  links = [];
  gave = λ xs was. subst (reactor.admitted b) (sym (append-nil xs)) was;
  admits = refl;
}

-- no peer came
pub welcomes_on : {B L : Type 0} (reactor : ReactorGhosts B L) (now : ℕ) (b x y : B) (a c : EventLoop L) →
    Welcomes reactor now b x a c → ((xs : List (Admission L)) → reactor.admitted x xs → reactor.admitted y (xs ++ [])) →
    Welcomes reactor now b y a c
welcomes_on reactor now b x y a c w none = record {
  links = w.links;
  gave = λ xs was. subst (reactor.admitted y) (append-nil (xs ++ w.links)) (none (xs ++ w.links) (w.gave xs was));
  admits = w.admits;
}

-- one more came
pub welcomes_more : {B L : Type 0} (reactor : ReactorGhosts B L) (now place : ℕ) (link : L) (b x y : B) (a c d : EventLoop L) →
    Welcomes reactor now b x a c →
    ((xs : List (Admission L)) → reactor.admitted x xs → reactor.admitted y (xs ++ (place, link) ∷ [])) →
    Admits now place link c d → Welcomes reactor now b y a d
welcomes_more reactor now place link b x y a c d w one admits = record {
  links = w.links ++ (place, link) ∷ [];
  gave = λ xs was. subst (reactor.admitted y) (append_assoc xs w.links ((place, link) ∷ []))
      (one (xs ++ w.links) (w.gave xs was));
  admits = admits_then now w.links ((place, link) ∷ []) a c d w.admits (d, admits, refl);
}

-- what was done before accepts no peer
pub welcomes_after : {B L : Type 0} (reactor : ReactorGhosts B L) (now later : ℕ) (b x y : B) (a c : EventLoop L) →
    now ≡ later → ((xs : List (Admission L)) → reactor.admitted b xs → reactor.admitted x xs) →
    Welcomes reactor now x y a c → Welcomes reactor later b y a c
welcomes_after reactor now later b x y a c at none w = record {
  links = w.links;
  gave = λ xs was. w.gave xs (none xs was);
  admits = subst (λ (n : ℕ). AdmitsEach n w.links a c) at w.admits;
}

module _ {B L S O E : Type 0} (reactor : ReactorGhosts B L) (G : LinkGhosts L)
    (answers : PeerAnswers S) (commits : S → Result (Unit {0}) NotKept → S → Type 0)
    (out : Writer O)
    (reported : Writer E) (log : Bool) where
  -- what a round adds
  pub round_advances : (idle exchanges : ℕ) (a b : EventLoop L) (s t : S) (x y : B) (o p : O) (e f : E)
      (r : ServesRound reactor G answers commits out reported log idle exchanges a b s t x y o p e f) →
      Advances G answers out reported log (frames_in_round reactor G answers commits out reported log idle exchanges a b s t x y o p e f r)
      (ended_in_round reactor G answers commits out reported log idle exchanges a b s t x y o p e f r) r.welcomes.links a b s t o p e f
  round_advances idle exchanges a b s t x y o p e f r =
      subst (λ (ls : List (Admission L)). Advances G answers out reported log
      (frames_in_round reactor G answers commits out reported log idle exchanges a b s t x y o p e f r)
      (ended_in_round reactor G answers commits out reported log idle exchanges a b s t x y o p e f r) ls a b s t o p e f)
      (append-nil r.welcomes.links)
      (advances_then G answers out reported log a r.between b []
      (frames_in_round reactor G answers commits out reported log idle exchanges a b s t x y o p e f r) []
      (ended_in_round reactor G answers commits out reported log idle exchanges a b s t x y o p e f r) r.welcomes.links []
      s s t o o p e e f
      (advances_grown G answers out reported log r.welcomes.links a r.between s o e
      (grows_then G a r.noticed r.between r.notices.grows r.grows)
      (hosts_more G a.connections r.between.connections r.welcomes.links (λ over links h.
      hosts_admitted_each G (reactor.time y) r.welcomes.links r.noticed r.between over links r.welcomes.admits
      (hosts_woken G r.links a r.noticed over links r.notices.begun r.notices.refused r.wakes h))))
      both)
    where
      xs : List Tagged
      xs = frames_in_turn G answers out reported log (reactor.time y) idle (connection_count r.between.connections)
          r.between r.served s r.mid o r.printed e r.logged r.in_turn

      us : List (Closed L)
      us = ended_in_turn G answers out reported log (reactor.time y) idle (connection_count r.between.connections)
          r.between r.served s r.mid o r.printed e r.logged r.in_turn

      turn : Advances G answers out reported log xs us [] r.between r.served s r.mid o r.printed e r.logged
      turn = turn_advances G answers out reported log (reactor.time y) idle (connection_count r.between.connections)
          r.between r.served s r.mid o r.printed e r.logged r.in_turn

      committed : Advances G answers out reported log xs us [] r.between r.served s t o r.printed e r.logged
      committed = record {
        by_server = r.kept;
        adds = turn.adds;
        prints = turn.prints;
        reports = turn.reports;
        hosts = turn.hosts;
      }

      withheld : Advances G answers out reported log [] r.withholds.closed [] r.served b t t r.printed p r.logged f
      withheld = record {
        by_server = refl;
        adds = r.withholds.adds;
        prints = r.withholds.prints;
        reports = r.withholds.reports;
        hosts = r.withholds.hosts;
      }

      both : Advances G answers out reported log xs (us ++ r.withholds.closed) [] r.between b s t o p e f
      both = subst (λ (zs : List Tagged). Advances G answers out reported log zs (us ++ r.withholds.closed) [] r.between
          b s t o p e f) (append-nil xs)
          (advances_then G answers out reported log r.between r.served b xs [] us r.withholds.closed [] [] s t t o
          r.printed p e r.logged f committed withheld)

  -- one round more
  unfoldable pub rounds_more : (places idle exchanges : ℕ) (a b : EventLoop L) (s t u : S) (x y z : B) (o p q : O) (e f g : E) →
      ServesInRounds reactor G answers commits out reported log places idle exchanges a s t x y o p e f → a.ended < exchanges →
      ServesRound reactor G answers commits out reported log idle exchanges a b t u y z p q f g →
      ServesInRounds reactor G answers commits out reported log places idle exchanges b s u x z o q e g
  rounds_more places idle exchanges a b s t u x y z o p q e f g r few w = record {
    empty = r.empty;
    new = r.new;
    count = suc r.count;
    each = (a, t, y, p, f, r.each, few, w);
  }

  -- no round yet
  unfoldable pub no_rounds : (places idle exchanges : ℕ) (c : EventLoop L) (s : S) (x : B) (o : O) (e : E) → IsNew G places c →
      ServesInRounds reactor G answers commits out reported log places idle exchanges c s s x x o o e e
  no_rounds places idle exchanges c s x o e n = record {
    empty = c;
    new = n;
    count = 0;
    each = (refl, refl, refl, refl, refl);
  }

-- A run of exchanges, one by one.
use Rattle.std.proofs.Common.{◌≡◌, ℕ, Bool, suc, ◌+◌, List, [], ◌∷◌, ◌++◌, length, refl, subst, arith}
use Rattle.std.proofs.Common.{Some, None, true, false, if◌then◌else◌}
use Rattle.std.specs.Prelude.{Result}
use Rattle.std.proofs.lemmas.List.{length-append}
use Rattle.std.specs.declared.net.socket_addr.SocketAddr.{SocketAddr}
use Rattle.bw_model.specs.Wire.{Frame}
use Rattle.bw_model.specs.Replies.{Reply}
use Rattle.bw_stream.specs.declared.sink.Sink.{Ghosts as Writer}
use Rattle.bw_stream.specs.declared.source.Source.{Ghosts as Reader}
use Rattle.bw_console.specs.declared.exit.Exit.{Exit}
use Rattle.bw_console.specs.declared.exit.Exit.TheVariants.{Done, Refused, Usage, Device, Memory}
use Rattle.bw_serve.specs.ServedAll.{ServedOutcome, Served, Gone, Closed, exit_after_call, exit_now}
use Rattle.bw_serve.specs.ServedAll.{lacks_sync, ServesNext, ServesEach, ServesAll}
use Rattle.bw_serve.specs.ServedAll.{EndsEarly, ServesRun}
use Rattle.bw_exchange.specs.declared.turns.NotKept.{NotKept}
use Rattle.bw_ports.specs.declared.peers.Peers.{Ghosts as PeerGhosts}

not_after : (unsynced : Bool) (exit : Exit) → (if unsynced then Some Device else exit_after_call exit) ≡ Some Done → ⊥
not_after true exit e = absurd (cc)
not_after false Done e = absurd (cc)
not_after false Refused e = absurd (cc)
not_after false Usage e = absurd (cc)
not_after false Device e = absurd (cc)
not_after false Memory e = absurd (cc)

not_done : (x : ServedOutcome) → exit_now x ≡ Some Done → ⊥
not_done (Served end exit) e = not_after (lacks_sync end) exit e
not_done Gone e = absurd (cc)
not_done Closed e = absurd (cc)

module _ {T P R W O E : Type 0} (answers : SocketAddr → T → Frame → List Reply → T → Type 0)
    (commits : T → Result (Unit {0}) NotKept → T → Type 0) (peers : PeerGhosts P R W)
    (reader : Reader R) (writer : Writer W) (out : Writer O) (reported : Writer E) (log : Bool) where
  -- one peer more
  each_more : (index : ℕ) (xs : List ServedOutcome) (x : ServedOutcome) (t m t' : T) (p q p' : P) (o n o' : O) (e f e' : E) →
      ServesEach answers commits peers reader writer out reported log index xs t m p q o n e f →
      ServesNext answers commits peers reader writer out reported log (index + length xs) x m t' q p' n o' f e' →
      exit_now x ≡ None →
      ServesEach answers commits peers reader writer out reported log index (xs ++ x ∷ []) t t' p p' o o' e e'
  each_more index [] x t m t' p q p' o n o' e f e' each next goes = (
    t',
    p',
    o',
    e',
    subst (λ (a : T). ServesNext answers commits peers reader writer out reported log index x a t' p p' o o' e e') each.0
        (subst (λ (b : P). ServesNext answers commits peers reader writer out reported log index x m t' b p' o o' e e') each.1
        (subst (λ (c : O). ServesNext answers commits peers reader writer out reported log index x m t' q p' c o' e e') each.2
        (subst (λ (d : E). ServesNext answers commits peers reader writer out reported log index x m t' q p' n o' d e') each.3
        (subst (λ (i : ℕ). ServesNext answers commits peers reader writer out reported log i x m t' q p' n o' f e')
        (omega (arith)) next)))),
    goes,
    (refl, refl, refl, refl),
  )
  each_more index (y ∷ ys) x t m t' p q p' o n o' e f e' each next goes =
      let following = subst (λ (i : ℕ). ServesNext answers commits peers reader writer out reported log i x m t' q p' n o' f e')
      (omega (arith)) next in (
        each.0,
        each.1,
        each.2,
        each.3,
        each.4,
        each.5,
        each_more (suc index) ys x each.0 m t' each.1 q p' each.2 n o' each.3 f e' each.6 following goes,
      )

  pub run_more : (count : ℕ) (x : ServedOutcome) (t m t' : T) (p q p' : P) (o n o' : O) (e f e' : E) →
      ServesAll answers commits peers reader writer out reported log count t m p q o n e f →
      ServesNext answers commits peers reader writer out reported log count x m t' q p' n o' f e' → exit_now x ≡ None →
      ServesAll answers commits peers reader writer out reported log (count + 1) t t' p p' o o' e e'
  run_more count x t m t' p q p' o n o' e f e' all next goes = record {
    outcomes = all.outcomes ++ x ∷ [];
    all = let n = length-append all.outcomes (x ∷ []) in let e = all.all in omega (arith, n, e);
    each = each_more 0 all.outcomes x t m t' p q p' o n o' e f e' all.each
        (subst (λ (i : ℕ). ServesNext answers commits peers reader writer out reported log i x m t' q p' n o' f e')
        (let e = all.all in omega (arith, e)) next) goes;
  }

  -- a run that ends before its last exchange
  pub run_ends : (exchanges : ℕ) (exit : Exit) (t t' : T) (p p' : P) (o o' : O) (e e' : E) →
      EndsEarly answers commits peers reader writer out reported log exchanges exit t t' p p' o o' e e' →
      ServesRun answers commits peers reader writer out reported log exchanges exit t t' p p' o o' e e'
  run_ends exchanges Done t t' p p' o o' e e' ends = absurd (not_done ends.last ends.ends)
  run_ends exchanges Refused t t' p p' o o' e e' ends = ends
  run_ends exchanges Usage t t' p p' o o' e e' ends = ends
  run_ends exchanges Device t t' p p' o o' e e' ends = ends
  run_ends exchanges Memory t t' p p' o o' e e' ends = ends

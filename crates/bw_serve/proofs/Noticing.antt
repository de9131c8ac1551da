-- Which connections may have bytes again, or room.
use Rattle.std.proofs.Common.{◌≡◌, ◌≢◌, ◌⊎◌, inl, inr, ℕ, ◌==◌, Bool, true, false, ◌||◌, List, [], ◌∷◌, ◌++◌}
use Rattle.std.proofs.Common.{refl, sym, ap, subst, ◌∙◌, append_assoc, length, suc, ◌+◌}
use Rattle.std.specs.Prelude.{◌&&◌}
use Rattle.std.proofs.lemmas.Bool.Decides.{eqb_tells}
use Rattle.std.proofs.lemmas.List.{append-nil, length-append}
use Rattle.std.proofs.lemmas.List.Folds.{list_any-append}
use Rattle.bw_connections.specs.declared.connection.Connection.{Connection}
use Rattle.bw_connections.specs.ConnectionTables.{HoldsConnectionAt}
use Rattle.bw_connections.specs.Places.{connection_count}
use Rattle.bw_connections.specs.Quanta.{LeavesOthers, Wakes, WakesAt}
use Rattle.bw_serve.specs.Rounds.{IsAll, Notices, NoticesAll, WakesEach, reports_bytes, reports_room}
use Rattle.bw_serve.specs.declared.event_loop.EventLoop.{EventLoop}
use Rattle.bw_ports.specs.declared.reactor.Reactor.{Ghosts as ReactorGhosts}
use Rattle.bw_ports.specs.declared.reactor.Ready.{Ready}

or_false : (x : Bool) → x ≡ x || false
or_false true = refl
or_false false = refl

or_then : (x y z : Bool) → (x || y) || z ≡ x || (y || (z || false))
or_then true y z = refl
or_then false true z = refl
or_then false false true = refl
or_then false false false = refl

-- no link was reported
pub wakes_none : {L : Type 0} (c : EventLoop L) → WakesEach [] c c
wakes_none c i d at = (
  d,
  at,
  record {
    readable = or_false d.readable;
    writable = or_false d.writable;
    link = refl;
    exchange = refl;
    stays = record { number = refl; phase = refl; since = refl };
  },
)

notices_none : {B K L : Type 0} (reactor : ReactorGhosts B K) (b : B) (c : EventLoop L) → Notices reactor b b c c
notices_none reactor b c = record {
  reported = [];
  more = λ rs was. subst (reactor.reported b) (sym (append-nil rs)) was;
  each = wakes_none c;
}

-- one more step of one that was woken
wakes_then : {L : Type 0} (i : ℕ) (reported : List Ready) (r : Ready) (d e f : Connection L) →
    Wakes (reports_bytes i reported) (reports_room i reported) d e →
    Wakes ((r.place == i) && r.readable) ((r.place == i) && r.writable) e f →
    Wakes (reports_bytes i (reported ++ r ∷ [])) (reports_room i (reported ++ r ∷ [])) d f
wakes_then i reported r d e f v w = record {
  readable = w.readable
      ∙ (ap (λ (x : Bool). x || ((r.place == i) && r.readable)) v.readable
      ∙ (or_then d.readable (reports_bytes i reported) ((r.place == i) && r.readable)
      ∙ ap (λ (x : Bool). d.readable || x)
      (sym (list_any-append (λ (x : Ready). (x.place == i) && x.readable) reported (r ∷ [])))));
  writable = w.writable
      ∙ (ap (λ (x : Bool). x || ((r.place == i) && r.writable)) v.writable
      ∙ (or_then d.writable (reports_room i reported) ((r.place == i) && r.writable)
      ∙ ap (λ (x : Bool). d.writable || x)
      (sym (list_any-append (λ (x : Ready). (x.place == i) && x.writable) reported (r ∷ [])))));
  link = w.link ∙ v.link;
  exchange = w.exchange ∙ v.exchange;
  stays = record {
    number = w.stays.number ∙ v.stays.number;
    phase = w.stays.phase ∙ v.stays.phase;
    since = w.stays.since ∙ v.stays.since;
  };
}

-- one more link was reported
notices_more : {B K L : Type 0} (reactor : ReactorGhosts B K) (b x y : B) (r : Ready) (c d e : EventLoop L) →
    Notices reactor b x c d → ((rs : List Ready) → reactor.reported x rs → reactor.reported y (rs ++ r ∷ [])) →
    WakesAt r.place r.readable r.writable d.connections e.connections →
    LeavesOthers r.place d.connections e.connections → Notices reactor b y c e
notices_more {B} {K} {L} reactor b x y r c d e n next wakes others = record {
  reported = n.reported ++ r ∷ [];
  more = λ rs was. subst (reactor.reported y) (append_assoc rs n.reported (r ∷ [])) (next (rs ++ n.reported) (n.more rs was));
  each = each;
}
  where
    each : WakesEach (n.reported ++ r ∷ []) c e
    each i u at = go (eqb_tells r.place i)
      where
        v : Connection L
        v = (n.each i u at).0

        go : (((r.place == i) ≡ true) × (r.place ≡ i)) ⊎ (((r.place == i) ≡ false) × (r.place ≢ i)) →
            (w : Connection L) × HoldsConnectionAt e.connections i w
            × Wakes (reports_bytes i (n.reported ++ r ∷ [])) (reports_room i (n.reported ++ r ∷ [])) u w
        go (inl is) =
            let here = wakes v (subst (λ j. HoldsConnectionAt d.connections j v) (sym is.1) (n.each i u at).1) in (
              here.0,
              subst (λ j. HoldsConnectionAt e.connections j here.0) is.1 here.1,
              wakes_then i n.reported r u v here.0 (n.each i u at).2
                  (subst (λ (p : Bool). Wakes (p && r.readable) (p && r.writable) v here.0) (sym is.0) here.2),
            )
        go (inr other) = (
          v,
          others.others i (λ same. other.1 (sym same)) ∙ (n.each i u at).1,
          wakes_then i n.reported r u v v (n.each i u at).2
              (subst (λ (p : Bool). Wakes (p && r.readable) (p && r.writable) v v) (sym other.0) (record {
                readable = or_false v.readable;
                writable = or_false v.writable;
                link = refl;
                exchange = refl;
                stays = record { number = refl; phase = refl; since = refl };
              })),
        )

-- and this many were
abbrev pub Noticed : {B K L : Type 0} → ReactorGhosts B K → ℕ → B → B → EventLoop L → EventLoop L → Type 0
Noticed reactor count b x c d = (n : Notices reactor b x c d) × (length n.reported ≡ count)

pub noticed_none : {B K L : Type 0} (reactor : ReactorGhosts B K) (b : B) (c : EventLoop L) → Noticed reactor 0 b b c c
unfolding notices_none
noticed_none reactor b c = (notices_none reactor b c, refl)

pub noticed_more : {B K L : Type 0} (reactor : ReactorGhosts B K) (count : ℕ) (b x y : B) (r : Ready) (c d e : EventLoop L) →
    Noticed reactor count b x c d → ((rs : List Ready) → reactor.reported x rs → reactor.reported y (rs ++ r ∷ [])) →
    WakesAt r.place r.readable r.writable d.connections e.connections → LeavesOthers r.place d.connections e.connections →
    Noticed reactor (count + 1) b y c e
unfolding notices_more
noticed_more reactor count b x y r c d e n next wakes others = (
  notices_more reactor b x y r c d e n.0 next wakes others,
  length-append n.0.reported (r ∷ []) ∙ ap (λ (k : ℕ). k + 1) n.1,
)

-- one more was than there are places
pub noticed_most : {B K L : Type 0} (reactor : ReactorGhosts B K) (count : ℕ) (b x : B) (c d : EventLoop L) →
    Noticed reactor count b x c d → count ≡ suc (connection_count c.connections) → NoticesAll reactor b x c d
noticed_most reactor count b x c d n is = (n.0, inr (n.1 ∙ is))

-- what a reactor has reported is still all
pub all_still : {L P Q : Type 0} (c : EventLoop L) (links : List Ready) → (P → Q) → IsAll c links P → IsAll c links Q
all_still c links keep (inl all) = inl (keep all)
all_still c links keep (inr as_many) = inr as_many

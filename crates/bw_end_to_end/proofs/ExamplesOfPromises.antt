-- The worked row computes.
use Rattle.std.proofs.Common.{◌≡◌, ◌<◌, ℕ, suc, zero, false, List, [], ◌∷◌, Some, None, refl, sym, subst, arith, inl, inr}
use Rattle.std.specs.Prelude.{slice_get}
use Rattle.std.specs.List.{Contains}
use Rattle.bw_model.proofs.Computing.{computing}
use Rattle.bw_model.specs.Bytes.{at}
use Rattle.bw_model.specs.Take.{Request, Block, Close, Verdict, Stored}
use Rattle.bw_model.specs.Book.{log_of, verdict_at}
use Rattle.bw_model.specs.Turn.{good}
use Rattle.bw_model.specs.Replies.{Reply, Judged}
use Rattle.bw_model.specs.ExampleWords.{a1, two_frames, says}
use Rattle.bw_model.specs.ExamplesOfWorlds.{small_take}
use Rattle.bw_connections.specs.ConnectionTables.{Tagged, own}
use Rattle.bw_delivery.specs.Statement.{LinkBytes, IsTrueLink, WroteRequests, WasTold, ServedOver, HadOrHeard, DidSend}
use Rattle.bw_delivery.specs.Statement.{DidServe, Premises}
use Rattle.bw_delivery.proofs.Elements.{each-contains}
use Rattle.bw_delivery.proofs.OwnFrames.{each_request}
use Rattle.bw_end_to_end.specs.UsedLinks.{HasAllStored}
use Rattle.bw_end_to_end.specs.ExamplesOfPromises.{rest_link, going_on, only_book, rest_run, begun_book, filled_book, ended_book}
use Rattle.bw_end_to_end.specs.ExamplesOfPromises.{SenderOnExample}

none_some : {X : Type 0} {x : X} → None ≡ Some x → ⊥
none_some e = cc

some_inj : {X : Type 0} {x y : X} → Some x ≡ Some y → x ≡ y
some_inj e = cc

rest_said : WroteRequests a1 small_take rest_link.said
unfolding computing
rest_said = record {
  frames = says 1 (Block two_frames) ∷ says 2 (Close 2) ∷ [];
  spelled = refl;
  part = ([], refl);
  each = each_request a1 small_take (says 1 (Block two_frames) ∷ says 2 (Close 2) ∷ [])
      ((refl, refl), ((refl, refl), tt));
}

unchanged : IsTrueLink rest_link
unchanged = record { there = ([], refl); back = ([], refl) }

served : ServedOver (own 0 rest_run.trace) rest_link.received rest_link.answered
unfolding computing
served = record { spelled = refl; read = ([], refl); spelled_back = refl; end = None; part = ([], refl) }

-- of the only link
of_link : (P : ℕ × LinkBytes → Type 0) → P (0, rest_link) → (n : ℕ) (l : LinkBytes) → Contains going_on.links (n, l) →
    P (n, l)
of_link P p n l has = each-contains P going_on.links (n, l) (p, tt) has

abbrev IsLinked : Tagged → Type 0
IsLinked t = (l : LinkBytes) × Contains going_on.links (t.0, l)

linked : (t : Tagged) → Contains rest_run.trace t → IsLinked t
linked t has = each-contains IsLinked rest_run.trace t (over_it, (over_it, tt)) has
  where
    over_it : (l : LinkBytes) × Contains going_on.links (0, l)
    over_it = (rest_link, (0, omega arith, refl))

abbrev replies : List Reply
replies = Judged a1 1 Stored ∷ Judged a1 2 Stored ∷ []

told_over : (n : ℕ) → Contains replies (Judged a1 n Stored) → WasTold a1 n Stored rest_link.heard
unfolding computing
told_over n has = record { replies = replies; spelled = refl; part = ([], refl); among = has }

over : (n : ℕ) → Contains replies (Judged a1 n Stored) → HadOrHeard going_on n Stored
over n has = inr (0, rest_link, (0, omega arith, refl), told_over n has)

-- the first verdict was there before, and the two others came over the link
told : (n : ℕ) (v : Verdict) → at going_on.has n ≡ Some v → HadOrHeard going_on n v
told zero v e = inl e
told (suc zero) v e = subst (HadOrHeard going_on 1) (some_inj e) (over 1 (0, omega arith, refl))
told (suc (suc zero)) v e = subst (HadOrHeard going_on 2) (some_inj e) (over 2 (1, omega arith, refl))
told (suc (suc (suc n))) v e = absurd (none_some e)

sender : DidSend going_on
sender = record { wrote = of_link (λ x. WroteRequests a1 small_take x.1.said) rest_said; told = told }

server : DidServe only_book going_on rest_run
unfolding computing
server = record {
  held = refl;
  answered = (
    filled_book,
    record { received = (says 1 (Block two_frames), good) ∷ []; answers = refl; left = refl },
    (ended_book, record { received = (says 2 (Close 2), good) ∷ []; answers = refl; left = refl }, refl),
  );
  over = of_link (λ x. ServedOver (own x.0 rest_run.trace) x.1.received x.1.answered) served;
}

only : (n : ℕ) (q : Request) → at (log_of begun_book a1).admitted n ≡ Some q → slice_get small_take n ≡ Some q
unfolding computing
only zero q e = e
only (suc n) q e = absurd (none_some e)

kept : (n : ℕ) (v : Verdict) → at going_on.had n ≡ Some v →
    (n < (log_of begun_book a1).done) × (v ≡ verdict_at false (log_of begun_book a1).admitted n)
unfolding computing
kept zero v e = (omega arith, sym (some_inj e))
kept (suc n) v e = absurd (none_some e)

premises : Premises only_book going_on rest_run
premises = record {
  unchanged = of_link (λ x. IsTrueLink x.1) unchanged;
  alone = λ k a m has e same. linked (k, a) has;
  before = record { only = only; kept = kept };
  honest = tt;
}

stored : HasAllStored small_take going_on.has
stored zero below = refl
stored (suc zero) below = refl
stored (suc (suc zero)) below = refl
stored (suc (suc (suc n))) below = absurd (omega (arith, below))

pub sender_on : SenderOnExample
unfolding computing
sender_on = (sender, server, premises, stored, refl)

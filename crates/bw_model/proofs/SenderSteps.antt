-- Offers, sendings and replies keep the world faithful.
use Rattle.std.proofs.Common.{◌≡◌, ◌≢◌, ℕ, suc, zero, ◌+◌, ◌<◌, ◌≤◌, Bool, true, false, cond, ◌&&◌, List, [], ◌∷◌, ◌++◌}
use Rattle.std.proofs.lemmas.Bool.{cases_lt}
use Rattle.std.proofs.Common.{length, Option, Some, None, refl, sym, ◌∙◌, ap, subst, arith, ◌⊎◌, inl, inr}
use Rattle.std.proofs.Common.{length-append}
use Rattle.std.specs.Prelude.{slice_get, nat_le, nat_lt, is_none}
use Rattle.std.specs.Str.{bytes_eq}
use Rattle.std.proofs.lemmas.Bool.{leb-false}
use Rattle.std.proofs.lemmas.Bool.Decides.{eqb_tells}
use Rattle.std.proofs.Math.Dec.{eqb}
use Rattle.bw_model.specs.Bytes.{at, put, first_free}
use Rattle.std.proofs.lemmas.Bool.{false≢true}
use Rattle.bw_model.specs.Take.{Request, Verdict}
use Rattle.bw_model.specs.Wire.{Message}
use Rattle.bw_model.specs.Replies.{Reply, Judged, Noticed, Refused}
use Rattle.bw_model.specs.Book.{log_of, verdict_at}
use Rattle.bw_model.specs.Turn.{window}
use Rattle.bw_model.specs.World.{World, settled, send, hear, is_counted, pending, pending_from, offer, offer_fault}
use Rattle.bw_model.specs.World.{OfferFault, NumbersSpent, BeforeOpen, AfterClose, WindowFull}
use Rattle.bw_model.proofs.BookLemmas.{same_name}
use Rattle.bw_model.proofs.MapLemmas.{at-put_same, at-put_other, at-first_free, first_free-put}
use Rattle.bw_model.proofs.Elements.{some_inj, Each, each-append, each-map, get-push, get-below}
use Rattle.bw_model.proofs.TrueReplies.{IsSound, IsTrueReply}

-- a message that the sender sent
pub record WasOffered (name : List ℕ) (offered : List Request) (done : ℕ) (m : Message) : Type 0 where
  pub own : m.name ≡ name
  pub was : slice_get offered m.number ≡ Some m.request
  pub near : m.number < done + window

-- what each event keeps
pub record IsKept (existed : List ℕ → Bool) (w : World) : Type 0 where
  pub sound : IsSound w.sender.offered (log_of w.book w.sender.name)
  pub were : Each (WasOffered w.sender.name w.sender.offered (log_of w.book w.sender.name).done) w.sent
  pub reported : Each (IsTrueReply (existed w.sender.name) w.sender.name (log_of w.book w.sender.name)) w.replies
  pub known : (n : ℕ) (v : Verdict) → at w.sender.verdicts n ≡ Some v →
      (n < (log_of w.book w.sender.name).done)
      × (v ≡ verdict_at (existed w.sender.name) (log_of w.book w.sender.name).admitted n)
  pub near : length w.sender.offered ≤ settled w.sender + window

pub settled_done : (vs : List (Option Verdict)) (done : ℕ) → ((n : ℕ) (v : Verdict) → at vs n ≡ Some v → n < done) →
    first_free vs ≤ done
settled_done vs done h = go (cases_lt done (first_free vs))
  where
    go : (done < first_free vs) ⊎ (first_free vs ≤ done) → first_free vs ≤ done
    go (inl p) = let x = at-first_free vs done p in let bad : done < done = h done x.0 x.1 in absurd (omega arith)
    go (inr p) = p

pub offered_true : (existed : List ℕ → Bool) (w : World) (r : Request) → IsKept existed w →
    IsKept existed (record w { sender = offer w.sender r })
offered_true existed w r k = go (offer_fault w.sender r) refl
  where
    more : nat_le (settled w.sender + window) (length w.sender.offered) ≡ false →
        IsKept existed (record w { sender = record w.sender { offered = w.sender.offered ++ r ∷ [] } })
    more room =
        let room' : length w.sender.offered < settled w.sender + window = leb-false _ _ room in
        record {
          sound = record {
            admitted = λ n x e. get-push w.sender.offered r n x (k.sound.admitted n x e);
            filled = k.sound.filled;
          };
          were = each-map _ (WasOffered w.sender.name (w.sender.offered ++ r ∷ []) (log_of w.book w.sender.name).done)
              w.sent
              (λ m h. record {
                own = h.own;
                was = get-push w.sender.offered r m.number m.request h.was;
                near = h.near;
              }) k.were;
          reported = k.reported;
          known = k.known;
          near = omega (arith, length-append w.sender.offered (r ∷ []), room');
        }

    room_of : (a b c d : Bool) →
        cond a (Some NumbersSpent) (cond b (Some BeforeOpen) (cond c (Some AfterClose) (cond d (Some WindowFull) None)))
        ≡ None → d ≡ false
    room_of true b c d e = cc
    room_of false true c d e = cc
    room_of false false true d e = cc
    room_of false false false true e = cc
    room_of false false false false e = refl

    go : (x : Option OfferFault) → offer_fault w.sender r ≡ x →
        IsKept existed (record w {
          sender = cond (is_none (offer_fault w.sender r))
              (record w.sender { offered = w.sender.offered ++ r ∷ [] }) w.sender;
        })
    go None e = subst (λ (v : Option OfferFault). IsKept existed
        (record w { sender = cond (is_none v) (record w.sender { offered = w.sender.offered ++ r ∷ [] }) w.sender }))
        (sym e)
        (more (room_of _ _ _ _ e))
    go (Some f) e = subst (λ (v : Option OfferFault). IsKept existed
        (record w { sender = cond (is_none v) (record w.sender { offered = w.sender.offered ++ r ∷ [] }) w.sender }))
        (sym e) k

-- a pending request is an offered one
pending_offered : (n : ℕ) (rs : List Request) (vs : List (Option Verdict)) (i : ℕ) (p : ℕ × Request) →
    slice_get (pending_from n rs vs) i ≡ Some p →
    (j : ℕ) × ((p.0 ≡ n + j) × (slice_get rs j ≡ Some p.1))
pending_offered n [] vs i p e = absurd (none e)
  where
    none : {X : Type 0} {x : X} → None ≡ Some x → ⊥
    none e = cc
pending_offered n (r ∷ rs) [] zero p e = let same : (n, r) ≡ p =
    some_inj e in (0, (sym (ap (λ (x : ℕ × Request). x.0) same) ∙ omega arith, ap (λ (x : ℕ × Request). Some x.1) same))
pending_offered n (r ∷ rs) [] (suc i) p e = let x =
    pending_offered (suc n) rs [] i p e in (suc x.0, ((let h = x.1.0 in omega (arith, h)), x.1.1))
pending_offered n (r ∷ rs) (None ∷ vs) zero p e = let same : (n, r) ≡ p =
    some_inj e in (0, (sym (ap (λ (x : ℕ × Request). x.0) same) ∙ omega arith, ap (λ (x : ℕ × Request). Some x.1) same))
pending_offered n (r ∷ rs) (None ∷ vs) (suc i) p e = let x =
    pending_offered (suc n) rs vs i p e in (suc x.0, ((let h = x.1.0 in omega (arith, h)), x.1.1))
pending_offered n (r ∷ rs) (Some v ∷ vs) i p e = let x =
    pending_offered (suc n) rs vs i p e in (suc x.0, ((let h = x.1.0 in omega (arith, h)), x.1.1))

pub sent_true : (existed : List ℕ → Bool) (w : World) (i : ℕ) → IsKept existed w →
    IsKept existed (send w (pending w.sender i))
sent_true existed w i k = go (pending w.sender i) refl
  where
    done : ℕ
    done = (log_of w.book w.sender.name).done

    go : (x : Option (ℕ × Request)) → pending w.sender i ≡ x → IsKept existed (send w x)
    go None e = k
    go (Some p) e =
        let x = pending_offered 0 w.sender.offered w.sender.verdicts i p e in
        let was : slice_get w.sender.offered p.0 ≡ Some p.1 =
        ap (slice_get w.sender.offered) (let h = x.1.0 in let same : p.0 ≡ x.0 = omega (arith, h) in same)
        ∙ x.1.1 in
        let below : p.0 < length w.sender.offered = get-below w.sender.offered p.0 p.1 was in
        let following : settled w.sender ≤ done = settled_done w.sender.verdicts done (λ n v e. (k.known n v e).0) in
        let near = k.near in
        record {
          sound = k.sound;
          were = each-append (WasOffered w.sender.name w.sender.offered done) w.sent _ k.were
              (record { own = refl; was = was; near = omega (arith, below, following, near) }, tt);
          reported = k.reported;
          known = k.known;
          near = k.near;
        }

pub heard_true : (existed : List ℕ → Bool) (w : World) (r : Reply) → IsKept existed w →
    IsTrueReply (existed w.sender.name) w.sender.name (log_of w.book w.sender.name) r →
    IsKept existed (record w { sender = hear w.sender r })
heard_true existed w (Noticed x n code next) k t = k
heard_true existed w (Refused reason place) k t = k
heard_true existed w (Judged x n v) k t = go (is_counted w.sender x n) refl
  where
    first : is_counted w.sender x n ≡ true → bytes_eq x w.sender.name ≡ true
    first e = left (bytes_eq x w.sender.name) (nat_lt n (length w.sender.offered))
        (left (bytes_eq x w.sender.name && nat_lt n (length w.sender.offered)) (is_none (at w.sender.verdicts n)) e)
      where
        left : (a b : Bool) → a && b ≡ true → a ≡ true
        left true b e = refl
        left false b e = e

    new : is_counted w.sender x n ≡ true → at w.sender.verdicts n ≡ None
    new e = none_of (at w.sender.verdicts n)
        (right (bytes_eq x w.sender.name && nat_lt n (length w.sender.offered)) (is_none (at w.sender.verdicts n)) e)
      where
        right : (a b : Bool) → a && b ≡ true → b ≡ true
        right true b e = e
        right false b e = absurd (false≢true e)

        none_of : (o : Option Verdict) → is_none o ≡ true → o ≡ None
        none_of None e = refl
        none_of (Some v) e = absurd (false≢true e)

    go : (c : Bool) → is_counted w.sender x n ≡ c →
        IsKept existed (record w { sender = cond c (record w.sender { verdicts = put w.sender.verdicts n v }) w.sender })
    go false e = k
    go true e =
        let own : x ≡ w.sender.name = same_name x w.sender.name (first e) in
        let says = t.judged n v (ap (λ (z : List ℕ). Judged z n v) own) in
        let up : first_free w.sender.verdicts ≤ first_free (put w.sender.verdicts n v) =
        first_free-put w.sender.verdicts n v (new e) in
        let near = k.near in
        record {
          sound = k.sound;
          were = k.were;
          reported = k.reported;
          known = λ j u h. by_place j u h (eqb_tells j n) says;
          near = omega (arith, up, near);
        }
      where
        by_place : (j : ℕ) (u : Verdict) → at (put w.sender.verdicts n v) j ≡ Some u →
            ((eqb j n ≡ true) × (j ≡ n)) ⊎ ((eqb j n ≡ false) × (j ≢ n)) →
            (n < (log_of w.book w.sender.name).done)
            × (v ≡ verdict_at (existed w.sender.name) (log_of w.book w.sender.name).admitted n) →
            (j < (log_of w.book w.sender.name).done)
            × (u ≡ verdict_at (existed w.sender.name) (log_of w.book w.sender.name).admitted j)
        by_place j u h (inl p) says =
            let same : u ≡ v = some_inj
            (sym h ∙ ap (at (put w.sender.verdicts n v)) p.1 ∙ at-put_same w.sender.verdicts n v) in
            subst (λ (z : ℕ). (z < (log_of w.book w.sender.name).done)
            × (u ≡ verdict_at (existed w.sender.name) (log_of w.book w.sender.name).admitted z)) (sym p.1)
            (says.0, same ∙ says.1)
        by_place j u h (inr p) says = k.known j u (sym (at-put_other w.sender.verdicts n j v p.1) ∙ h)

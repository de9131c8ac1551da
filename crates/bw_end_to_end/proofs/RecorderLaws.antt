-- What calls of the C library leave of a sender, and what a program that makes them writes and hears.
use Rattle.std.proofs.Common.{◌≡◌, ◌≢◌, ℕ, suc, zero, ◌+◌, ◌<◌, ◌≤◌, ◌⊎◌, inl, inr, Bool, true, false, cond, ◌&&◌}
use Rattle.std.proofs.Common.{List, [], ◌∷◌, ◌++◌, length, take, Option, Some, None, Result, Ok, Err}
use Rattle.std.proofs.Common.{refl, sym, ◌∙◌, ap, subst, arith, append_assoc, append-nil}
use Rattle.std.specs.Prelude.{slice_get, nat_lt, is_none, flat_map, count_by, if◌then◌else◌}
use Rattle.std.specs.List.{AllByRecursion, Contains, list_all}
use Rattle.std.specs.Str.{bytes_eq}
use Rattle.std.proofs.Math.Dec.{eqb}
use Rattle.std.proofs.lemmas.Bool.{and_parts, and_from, cases_lt, false≢true}
use Rattle.std.proofs.lemmas.Bool.Decides.{eqb_tells}
use Rattle.std.proofs.lemmas.List.{take_all, length-take-le}
use Rattle.std.proofs.lemmas.List.Concat.{flat_map-append}
use Rattle.std.proofs.lemmas.List.Elements.{Contains-append_right}
use Rattle.std.proofs.lemmas.List.Folds.{list_all-append}
use Rattle.std.proofs.lemmas.List.Sums.{sum_by-cons, count_by-le-length}
use Rattle.bw_model.specs.Bytes.{at, put}
use Rattle.bw_model.specs.Take.{Request, Verdict, Stored, NameTaken, AlreadyOpen, NotOpen, Closed, is_stored}
use Rattle.bw_model.specs.Take.{BadFormat, BadBlock, BadMarker, DuplicateMarker, TooManyMarkers, BadField, WrongTotal}
use Rattle.bw_model.specs.Wire.{Second, Frame, Asks, Bye, Reason, are_bytes, is_frame, body, framed}
use Rattle.bw_model.specs.Replies.{Reply, Judged, Noticed, Refused, is_reply, reply_body}
use Rattle.bw_model.specs.Stream.{first_reply, frames_bytes}
use Rattle.bw_model.specs.Exchange.{replies_bytes}
use Rattle.bw_model.specs.World.{Sender, hear, is_counted, is_some_stored, settled}
use Rattle.bw_model.proofs.BookLemmas.{same_name}
use Rattle.bw_model.proofs.FrameLaws.{read_reply_stands}
use Rattle.bw_model.proofs.MapLemmas.{at-put_same, at-put_other}
use Rattle.bw_model.specs.Requests.{carried_bytes}
use Rattle.bw_wire.specs.EncodedFrames.{IsFrameOf, said}
use Rattle.bw_c.specs.PlainSenders.{IsPlainSender, with_offer}
use Rattle.bw_c.specs.ShownReplies.{hear_first}
use Rattle.bw_c.specs.declared.sender.BwiSender.{BwiSender}
use Rattle.bw_delivery.specs.Statement.{WroteRequests, WasTold, HadOrHeard}
use Rattle.bw_delivery.proofs.OwnFrames.{each_request}
use Rattle.bw_delivery.proofs.SoundTurns.{IsOneOf}
use Rattle.bw_end_to_end.specs.Recorders.{RecorderCall, Offers, Hears, DidCalls, MayBeWritten, WroteFrames, StandsIn}
use Rattle.bw_end_to_end.specs.Recorders.{sender_after, sender_part}
use Rattle.bw_end_to_end.specs.RecordersSend.{RecordersSend, StructsCount, CountedAreStored}

-- The struct.

after_calls : (cs : List RecorderCall) (s : Sender) (x y : BwiSender) → IsPlainSender s x → DidCalls cs x y →
    IsPlainSender (sender_after s cs) y
after_calls [] s x y f e = subst (λ (z : BwiSender). IsPlainSender s z) e f
after_calls (Offers r head ∷ cs) s x y f (z, did, rest) =
    after_calls cs (with_offer s r) z y (did.wrote.offered s f) rest
after_calls (Hears bytes ∷ cs) s x y f (z, did, rest) =
    after_calls cs (hear_first s (first_reply bytes)) z y (did s f) rest

pub structs_count : StructsCount
structs_count name count s p is = after_calls p.calls s p.begun p.ended is.started is.called

-- What hearing leaves.

heard_offered : (s : Sender) (r : Reply) → (hear s r).offered ≡ s.offered
heard_offered s (Judged x k w) = elim (is_counted s x k)
    as (λ b. (cond b (record s { verdicts = put s.verdicts k w }) s).offered ≡ s.offered) [ true ↦ refl | false ↦ refl ]
heard_offered s (Noticed x k code next) = refl
heard_offered s (Refused reason place) = refl

first_offered : (s : Sender) (read : Result (Reply × List ℕ) Reason) → (hear_first s read).offered ≡ s.offered
first_offered s (Err reason) = refl
first_offered s (Ok x) = heard_offered s x.0

heard_name : (s : Sender) (r : Reply) → (hear s r).name ≡ s.name
heard_name s (Judged x k w) = elim (is_counted s x k)
    as (λ b. (cond b (record s { verdicts = put s.verdicts k w }) s).name ≡ s.name) [ true ↦ refl | false ↦ refl ]
heard_name s (Noticed x k code next) = refl
heard_name s (Refused reason place) = refl

first_name : (s : Sender) (read : Result (Reply × List ℕ) Reason) → (hear_first s read).name ≡ s.name
first_name s (Err reason) = refl
first_name s (Ok x) = heard_name s x.0

-- a verdict was there before, or is the reply's
heard_one : (s : Sender) (r : Reply) (n : ℕ) (v : Verdict) → at (hear s r).verdicts n ≡ Some v →
    (at s.verdicts n ≡ Some v) ⊎ (r ≡ Judged s.name n v)
heard_one s (Noticed x k code next) n v e = inl e
heard_one s (Refused reason place) n v e = inl e
heard_one s (Judged x k w) n v e = go (is_counted s x k) refl e
  where
    some_inj : {X : Type 0} {x y : X} → Some x ≡ Some y → x ≡ y
    some_inj e = cc

    by_place : is_counted s x k ≡ true → at (put s.verdicts k w) n ≡ Some v →
        ((eqb n k ≡ true) × (n ≡ k)) ⊎ ((eqb n k ≡ false) × (n ≢ k)) →
        (at s.verdicts n ≡ Some v) ⊎ (Judged x k w ≡ Judged s.name n v)
    by_place c e (inl p) =
        let own : x ≡ s.name = same_name x s.name (and_parts (bytes_eq x s.name) (nat_lt k (length s.offered))
        (and_parts (bytes_eq x s.name && nat_lt k (length s.offered)) (is_none (at s.verdicts k)) c).0).0 in
        let same : w ≡ v = some_inj (sym (at-put_same s.verdicts k w) ∙ ap (at (put s.verdicts k w)) (sym p.1) ∙ e) in
        inr (ap (λ (z : List ℕ). Judged z k w) own ∙ ap (λ (z : ℕ). Judged s.name z w) (sym p.1)
        ∙ ap (Judged s.name n) same)
    by_place c e (inr p) = inl (sym (at-put_other s.verdicts k n w p.1) ∙ e)

    go : (b : Bool) → is_counted s x k ≡ b → at (cond b (record s { verdicts = put s.verdicts k w }) s).verdicts n ≡ Some v →
        (at s.verdicts n ≡ Some v) ⊎ (Judged x k w ≡ Judged s.name n v)
    go false c e = inl e
    go true c e = by_place c e (eqb_tells n k)

-- the first reply of these bytes is this verdict
abbrev IsFirst : Sender → ℕ → Verdict → List ℕ → Type 0
IsFirst s n v bytes = (more : List ℕ) × (first_reply bytes ≡ Ok (Judged s.name n v, more))

first_one : (s : Sender) (bytes : List ℕ) (n : ℕ) (v : Verdict) (read : Result (Reply × List ℕ) Reason) →
    first_reply bytes ≡ read → at (hear_first s read).verdicts n ≡ Some v →
    (at s.verdicts n ≡ Some v) ⊎ IsFirst s n v bytes
first_one s bytes n v (Err reason) f e = inl e
first_one s bytes n v (Ok (r, more)) f e = go (heard_one s r n v e)
  where
    go : (at s.verdicts n ≡ Some v) ⊎ (r ≡ Judged s.name n v) → (at s.verdicts n ≡ Some v) ⊎ IsFirst s n v bytes
    go (inl h) = inl h
    go (inr h) = inr (more, f ∙ ap (λ (q : Reply). Ok (q, more)) h)

-- Each verdict after calls.

later : (c : RecorderCall) (cs : List RecorderCall) (x : RecorderCall) → Contains cs x → Contains (c ∷ cs) x
later c cs x h = Contains-append_right (c ∷ []) cs x h

abbrev HeardIn : Sender → List RecorderCall → ℕ → Verdict → Type 0
HeardIn s cs n v = (bytes : List ℕ) × Contains cs (Hears bytes) × IsFirst s n v bytes

heard_later : (s t : Sender) (c : RecorderCall) (cs : List RecorderCall) (n : ℕ) (v : Verdict) → t.name ≡ s.name →
    HeardIn t cs n v → HeardIn s (c ∷ cs) n v
heard_later s t c cs n v own (bytes, has, first) =
    (bytes, later c cs (Hears bytes) has, (first.0, first.1 ∙ ap (λ (x : List ℕ). Ok (Judged x n v, first.0)) own))

told : (cs : List RecorderCall) (s : Sender) (n : ℕ) (v : Verdict) → at (sender_after s cs).verdicts n ≡ Some v →
    (at s.verdicts n ≡ Some v) ⊎ HeardIn s cs n v
told [] s n v e = inl e
told (Offers r head ∷ cs) s n v e = go (told cs (with_offer s r) n v e)
  where
    go : (at s.verdicts n ≡ Some v) ⊎ HeardIn (with_offer s r) cs n v →
        (at s.verdicts n ≡ Some v) ⊎ HeardIn s (Offers r head ∷ cs) n v
    go (inl h) = inl h
    go (inr h) = inr (heard_later s (with_offer s r) (Offers r head) cs n v refl h)
told (Hears bytes ∷ cs) s n v e = go (told cs t n v e)
  where
    t : Sender
    t = hear_first s (first_reply bytes)

    first : (at s.verdicts n ≡ Some v) ⊎ IsFirst s n v bytes →
        (at s.verdicts n ≡ Some v) ⊎ HeardIn s (Hears bytes ∷ cs) n v
    first (inl h) = inl h
    first (inr h) = inr (bytes, (0, omega arith, refl), h)

    go : (at t.verdicts n ≡ Some v) ⊎ HeardIn t cs n v →
        (at s.verdicts n ≡ Some v) ⊎ HeardIn s (Hears bytes ∷ cs) n v
    go (inl h) = first (first_one s bytes n v (first_reply bytes) refl h)
    go (inr h) = inr (heard_later s t (Hears bytes) cs n v (first_name s (first_reply bytes)) h)

-- Each request after calls.

get-append : {X : Type 0} (xs ys : List X) (k : ℕ) (x : X) → slice_get xs k ≡ Some x → slice_get (xs ++ ys) k ≡ Some x
get-append [] ys k x e = let bad : None ≡ Some x = e in cc
get-append (z ∷ zs) ys zero x e = e
get-append (z ∷ zs) ys (suc k) x e = get-append zs ys k x e

get-last : {X : Type 0} (xs : List X) (x : X) → slice_get (xs ++ x ∷ []) (length xs) ≡ Some x
get-last [] x = refl
get-last (z ∷ zs) x = get-last zs x

stays : (cs : List RecorderCall) (s : Sender) (n : ℕ) (r : Request) → slice_get s.offered n ≡ Some r →
    slice_get (sender_after s cs).offered n ≡ Some r
stays [] s n r e = e
stays (Offers q head ∷ cs) s n r e = stays cs (with_offer s q) n r (get-append s.offered (q ∷ []) n r e)
stays (Hears bytes ∷ cs) s n r e =
    stays cs (hear_first s (first_reply bytes)) n r
    (ap (λ (rs : List Request). slice_get rs n) (first_offered s (first_reply bytes)) ∙ e)

-- the head and what it carries are the frame of a message with this request
record IsNumbered (name : List ℕ) (requests : List Request) (r : Request) (head : List ℕ) : Type 0 where
  pub number : ℕ
  pub frame : IsFrameOf (said name number r) (head ++ carried_bytes r)
  pub place : slice_get requests number ≡ Some r

numbered : (cs : List RecorderCall) (s : Sender) (x y : BwiSender) → IsPlainSender s x → DidCalls cs x y → (r : Request)
    (head : List ℕ) → Contains cs (Offers r head) → IsNumbered s.name (sender_after s cs).offered r head
numbered [] s x y f did r head (k, below, e) = absurd (omega (arith, below))
numbered (Offers q h ∷ cs) s x y f (z, did, rest) r head (zero, below, e) =
    let own : q ≡ r = call_request e in
    let same : h ≡ head = call_head e in
    record {
      number = length s.offered;
      frame = subst (λ (b : List ℕ). IsFrameOf (said s.name (length s.offered) r) (b ++ carried_bytes r)) (sym did.head_is ∙ same)
          (subst (λ (p : Request). IsFrameOf (said s.name (length s.offered) p) (take did.count did.after ++ carried_bytes p)) own
          (subst (λ (n : ℕ). IsFrameOf (said s.name n q) (take did.count did.after ++ carried_bytes q)) f.offered
          (subst (λ (b : List ℕ). IsFrameOf (said b x.offered q) (take did.count did.after ++ carried_bytes q)) f.name
          did.wrote.frame)));
      place = stays cs (with_offer s q) (length s.offered) r (get-last s.offered q ∙ ap Some own);
    }
  where
    call_request : Offers q h ≡ Offers r head → q ≡ r
    call_request e = cc

    call_head : Offers q h ≡ Offers r head → h ≡ head
    call_head e = cc
numbered (Hears bytes ∷ cs) s x y f (z, did, rest) r head (zero, below, e) = absurd (other e)
  where
    other : Hears bytes ≡ Offers r head → ⊥
    other e = cc
numbered (Offers q h ∷ cs) s x y f (z, did, rest) r head (suc k, below, e) =
    numbered cs (with_offer s q) z y (did.wrote.offered s f) rest r head (k, omega (arith, below), e)
numbered (Hears bytes ∷ cs) s x y f (z, did, rest) r head (suc k, below, e) =
    subst (λ (n : List ℕ). IsNumbered n (sender_after (hear_first s (first_reply bytes)) cs).offered r head)
    (first_name s (first_reply bytes))
    (numbered cs (hear_first s (first_reply bytes)) z y (did s f) rest r head (k, omega (arith, below), e))

-- What is written.

-- Frames that are spelled by these pieces, each of them one of the requests, an ask or the end.
record AreFrames (name : List ℕ) (requests : List Request) (pieces : List (List ℕ)) : Type 0 where
  frames : List Frame
  bytes : frames_bytes frames ≡ flat_map (λ f. f) pieces
  spelled : list_all (is_frame Second) frames ≡ true
  each : AllByRecursion (IsOneOf name requests) frames

module _ (s : Sender) (cs : List RecorderCall)
    (numbers : (r : Request) (head : List ℕ) → Contains cs (Offers r head) →
    IsNumbered s.name (sender_after s cs).offered r head) where
  abbrev requests : List Request
  requests = (sender_after s cs).offered

  -- the frame that a piece spells
  record IsPiece (bytes : List ℕ) : Type 0 where
    frame : Frame
    spells : IsFrameOf frame bytes
    one : IsOneOf s.name requests frame

  piece_of : (bytes : List ℕ) → MayBeWritten s cs bytes → IsPiece bytes
  piece_of bytes (inl (r, head, has, e)) =
      let own = numbers r head has in
      record {
        frame = said s.name own.number r;
        spells = subst (λ (b : List ℕ). IsFrameOf (said s.name own.number r) b) (sym e) own.frame;
        one = (refl, own.place);
      }
  piece_of bytes (inr (inl (n, r, e, h))) =
      record { frame = said s.name n r; spells = h; one = (refl, stays cs s n r e) }
  piece_of bytes (inr (inr (inl h))) = record { frame = Asks s.name 0; spells = h; one = tt }
  piece_of bytes (inr (inr (inr h))) = record { frame = Bye; spells = h; one = tt }

  are_frames : (pieces : List (List ℕ)) → ((bytes : List ℕ) → Contains pieces bytes → MayBeWritten s cs bytes) →
      AreFrames s.name requests pieces
  are_frames [] each = record { frames = []; bytes = refl; spelled = refl; each = tt }
  are_frames (p ∷ ps) each =
      let first = piece_of p (each p (0, omega arith, refl)) in
      let rest = are_frames ps (λ b has. each b (Contains-append_right (p ∷ []) ps b has)) in
      record {
        frames = first.frame ∷ rest.frames;
        bytes = ap (λ (b : List ℕ). framed (body first.frame) ++ b) rest.bytes
            ∙ ap (λ (b : List ℕ). b ++ flat_map (λ f. f) ps) (sym first.spells.spelled);
        spelled = and_from (is_frame Second first.frame) (list_all (is_frame Second) rest.frames) first.spells.fits rest.spelled;
        each = (first.one, rest.each);
      }

  writes : (bytes : List ℕ) → WroteFrames s cs bytes → WroteRequests s.name requests bytes
  writes bytes h =
      let all = are_frames h.frames h.each in
      record {
        frames = all.frames;
        spelled = all.spelled;
        part = (h.part.0, h.part.1 ∙ sym all.bytes);
        each = each_request s.name requests all.frames all.each;
      }

-- What is heard.

hears : (name : List ℕ) (n : ℕ) (v : Verdict) (heard bytes more : List ℕ) → are_bytes bytes ≡ true →
    first_reply bytes ≡ Ok (Judged name n v, more) → StandsIn heard bytes → WasTold name n v heard
hears name n v heard bytes more fits e stands =
    let r : Reply = Judged name n v in
    let read = read_reply_stands bytes r more fits e in
    record {
      replies = stands.before ++ r ∷ [];
      spelled = list_all-append is_reply stands.before (r ∷ [])
          ∙ and_from (list_all is_reply stands.before) (list_all is_reply (r ∷ [])) stands.spelled
          (and_from (is_reply r) true read.0 refl);
      part = (more ++ stands.part.0, whole stands.before r stands.part.0 read.1 ∙ stands.part.1);
      among = Contains-append_right stands.before (r ∷ []) r (0, omega arith, refl);
    }
  where
    whole : (before : List Reply) (r : Reply) (rest : List ℕ) → bytes ≡ framed (reply_body r) ++ more →
        replies_bytes (before ++ r ∷ []) ++ (more ++ rest) ≡ (replies_bytes before ++ bytes) ++ rest
    whole before r rest is =
        let own : List ℕ = framed (reply_body r) in
        let first : List ℕ = replies_bytes before in
        ap (λ (b : List ℕ). b ++ (more ++ rest)) (flat_map-append (λ (q : Reply). framed (reply_body q)) before (r ∷ []))
        ∙ append_assoc first (own ++ []) (more ++ rest)
        ∙ ap (λ (b : List ℕ). first ++ (b ++ (more ++ rest))) (append-nil own)
        ∙ ap (λ (b : List ℕ). first ++ b) (sym (append_assoc own more rest))
        ∙ ap (λ (b : List ℕ). first ++ (b ++ rest)) (sym is)
        ∙ sym (append_assoc first bytes rest)

pub recorders_send : RecordersSend
recorders_send name count s p is = record {
  wrote = λ k l has. writes s p.calls (numbered p.calls s p.begun p.ended is.started is.called) l.said
      (is.wrote k l has);
  told = λ n v e. heard_over n v (told p.calls s n v e);
}
  where
    heard_over : (n : ℕ) (v : Verdict) → (at s.verdicts n ≡ Some v) ⊎ HeardIn s p.calls n v → HadOrHeard (sender_part s p) n v
    heard_over n v (inl before) = inl before
    heard_over n v (inr (bytes, has, first)) =
        let over = is.heard bytes has in
        inr (over.0, over.1, over.2, hears s.name n v over.1.heard bytes first.0 over.4 first.1 over.3)

-- What is counted.

stored_is : (v : Verdict) → is_stored v ≡ true → v ≡ Stored
stored_is Stored e = refl
stored_is NameTaken e = absurd (false≢true e)
stored_is AlreadyOpen e = absurd (false≢true e)
stored_is NotOpen e = absurd (false≢true e)
stored_is Closed e = absurd (false≢true e)
stored_is BadFormat e = absurd (false≢true e)
stored_is BadBlock e = absurd (false≢true e)
stored_is BadMarker e = absurd (false≢true e)
stored_is DuplicateMarker e = absurd (false≢true e)
stored_is TooManyMarkers e = absurd (false≢true e)
stored_is BadField e = absurd (false≢true e)
stored_is WrongTotal e = absurd (false≢true e)

some_stored_is : (x : Option Verdict) → is_some_stored x ≡ true → x ≡ Some Stored
some_stored_is None e = absurd (false≢true e)
some_stored_is (Some v) e = ap Some (stored_is v e)

all_stored : (vs : List (Option Verdict)) → count_by is_some_stored vs ≡ length vs → (n : ℕ) → n < length vs →
    at vs n ≡ Some Stored
all_stored [] e n below = absurd (omega (arith, below))
all_stored (x ∷ xs) e n below = go (is_some_stored x) refl n below (all_stored xs)
  where
    sum : count_by is_some_stored (x ∷ xs) ≡ (if is_some_stored x then 1 else 0) + count_by is_some_stored xs
    sum = sum_by-cons (λ (v : Option Verdict). if is_some_stored v then 1 else 0) x xs

    most : count_by is_some_stored xs ≤ length xs
    most = count_by-le-length is_some_stored xs

    go : (b : Bool) → is_some_stored x ≡ b → (n : ℕ) → n < suc (length xs) →
        (count_by is_some_stored xs ≡ length xs → (k : ℕ) → k < length xs → at xs k ≡ Some Stored) →
        at (x ∷ xs) n ≡ Some Stored
    go false f n below rest =
        let none = sum ∙ ap (λ (b : Bool). (if b then 1 else 0) + count_by is_some_stored xs) f in
        absurd (omega (arith, none, e, most))
    go true f zero below rest = some_stored_is x f
    go true f (suc k) below rest =
        let one = sum ∙ ap (λ (b : Bool). (if b then 1 else 0) + count_by is_some_stored xs) f in
        rest (omega (arith, one, e)) k (omega (arith, below))

counted : (s : Sender) (x : BwiSender) → IsPlainSender s x → x.stored ≡ x.offered → (n : ℕ) → n < length s.offered →
    at s.verdicts n ≡ Some Stored
counted s x f e n below = go (cases_lt (settled s) (length s.verdicts))
  where
    k : ℕ
    k = settled s

    all : count_by is_some_stored (take k s.verdicts) ≡ length s.offered
    all = sym f.stored ∙ e ∙ f.offered

    go : (k < length s.verdicts) ⊎ (length s.verdicts ≤ k) → at s.verdicts n ≡ Some Stored
    go (inl less) =
        let count = count_by-le-length is_some_stored (take k s.verdicts) in
        let len = length-take-le k s.verdicts (omega (arith, less)) in
        let within = f.within in
        absurd (omega (arith, less, count, len, within, all))
    go (inr most) =
        let whole : take k s.verdicts ≡ s.verdicts = take_all k s.verdicts most in
        let same : count_by is_some_stored s.verdicts ≡ length s.offered = sym (ap (count_by is_some_stored) whole) ∙ all in
        let count = count_by-le-length is_some_stored s.verdicts in
        let within = f.within in
        all_stored s.verdicts (omega (arith, same, count, within)) n (omega (arith, same, count, within, below))

pub counted_are_stored : CountedAreStored
counted_are_stored name count s p is e n below =
    counted (sender_after s p.calls) p.ended (structs_count name count s p is) e n below

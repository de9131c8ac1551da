-- What a simulation has, by its place, and what an event changes of it.
use Rattle.std.proofs.Common.{◌≡◌, ℕ, suc, zero, ◌+◌, ◌<◌, ◌≤◌, Bool, true, false, List, [], ◌∷◌, ◌++◌, length}
use Rattle.std.proofs.Common.{◌-◌, take, drop, get_or, Option, Some, None, cond, refl, sym, ◌∙◌, ap, subst}
use Rattle.std.specs.Prelude.{slice_get, is_none, IsSome, Vec, Result, Ok, Err, OnOk, OnErr, map, option_map}
use Rattle.std.specs.declared.alloc.Global.{Global}
use Rattle.std.proofs.lemmas.List.{length-append, length-map, map-append, take_rest}
use Rattle.std.proofs.lemmas.Option.{slice_get_read, slice_get_past, slice_get-map}
use Rattle.bw_model.specs.Bytes.{put}
use Rattle.bw_model.specs.Take.{Request}
use Rattle.bw_model.specs.Wire.{Message, Frame, Says, Asks, Bye, Second, Reason, body, framed, decoded}
use Rattle.bw_model.specs.Replies.{Reply, Judged, Noticed, Refused}
use Rattle.bw_model.specs.World.{World, Sender, OfferFault, offer, offer_fault, hear, is_counted, send, bring}
use Rattle.bw_model.proofs.Elements.{some_inj}
use Rattle.bw_model.proofs.SpellingLaws.{spelled_is_read}
use Rattle.bw_wire.specs.EncodedFrames.{IsFrameOf, said}
use Rattle.bw_wire.specs.Frames.{frame_of, message_of, asked_name, asked_number}
use Rattle.bw_wire.specs.Replies.{reply_of}
use Rattle.bw_wire.specs.declared.message.Message.{Message as Answered}
use Rattle.bw_wire.specs.declared.message.Ask.{Ask as Asked}
use Rattle.bw_wire.specs.declared.message.Frame.{Frame as Read}
use Rattle.bw_wire.specs.declared.message.Frame.TheVariants as frames
use Rattle.bw_wire.specs.declared.reply.Reply.{Reply as Answer}
use Rattle.bw_sender.specs.Senders.{IsSender}
use Rattle.bw_sender.specs.declared.sender.Sender.{Sender as Offering}
use Rattle.bw_commands.specs.Simulations.{AreFrames}

-- Frames by place.

pub frames_len : (ms : List Message) (vs : List (Vec ℕ Global)) → AreFrames ms vs → length vs ≡ length ms
frames_len [] [] h = refl
frames_len [] (v ∷ vs) h = absurd h
frames_len (m ∷ ms) [] h = absurd h
frames_len (m ∷ ms) (v ∷ vs) h = ap suc (frames_len ms vs h.1)

pub no_frames : (vs : List (Vec ℕ Global)) → vs ≡ [] → AreFrames [] vs
no_frames vs e = subst (AreFrames []) (sym e) tt

pub frames_more : (ms : List Message) (vs : List (Vec ℕ Global)) (m : Message) (v : Vec ℕ Global) → AreFrames ms vs →
    IsFrameOf (Says m) v.items → AreFrames (ms ++ m ∷ []) (vs ++ v ∷ [])
frames_more [] [] m v h k = (k, tt)
frames_more [] (x ∷ vs) m v h k = absurd h
frames_more (x ∷ ms) [] m v h k = absurd h
frames_more (x ∷ ms) (y ∷ vs) m v h k = (h.0, frames_more ms vs m v h.1 k)

-- the frame of a request that is sent, by other words for its name and for the request
pub sent_more : (ms : List Message) (vs ws : List (Vec ℕ Global)) (v : Vec ℕ Global) (name other : List ℕ) (n : ℕ)
    (r x : Request) → AreFrames ms vs → IsFrameOf (said other n x) v.items → other ≡ name → x ≡ r → ws ≡ vs ++ v ∷ [] →
    AreFrames (ms ++ record { name = name; number = n; request = r } ∷ []) ws
sent_more ms vs ws v name other n r x h framed names requests pushed =
    let m : Message = record { name = name; number = n; request = r } in
    subst (AreFrames (ms ++ m ∷ [])) (sym pushed) (frames_more ms vs m v h
    (subst (λ (y : List ℕ). IsFrameOf (said y n r) v.items) names
    (subst (λ (y : Request). IsFrameOf (said other n y) v.items) requests framed)))

-- the frame at a place is one of the message there
pub record IsSentAt (ms : List Message) (i : ℕ) (v : Vec ℕ Global) : Type 0 where
  pub message : Message
  pub there : slice_get ms i ≡ Some message
  pub framed_so : IsFrameOf (Says message) v.items

pub sent_at : (ms : List Message) (vs : List (Vec ℕ Global)) (i : ℕ) (v : Vec ℕ Global) → AreFrames ms vs →
    slice_get vs i ≡ Some v → IsSentAt ms i v
sent_at [] [] i v h e = absurd (none e)
  where
    none : {X : Type 0} {x : X} → None ≡ Some x → ⊥
    none e = cc
sent_at [] (x ∷ vs) i v h e = absurd h
sent_at (m ∷ ms) [] i v h e = absurd h
sent_at (m ∷ ms) (x ∷ vs) zero v h e = record {
  message = m;
  there = refl;
  framed_so = subst (λ (y : Vec ℕ Global). IsFrameOf (Says m) y.items) (some_inj e) h.0;
}
sent_at (m ∷ ms) (x ∷ vs) (suc i) v h e =
    let s = sent_at ms vs i v h.1 e in
    record { message = s.message; there = s.there; framed_so = s.framed_so }

pub none_at : (ms : List Message) (vs : List (Vec ℕ Global)) (i : ℕ) → AreFrames ms vs →
    slice_get vs i ≡ None → slice_get ms i ≡ None
none_at [] vs i h e = refl
none_at (m ∷ ms) [] i h e = absurd h
none_at (m ∷ ms) (v ∷ vs) zero h e = absurd (some e)
  where
    some : {X : Type 0} {x : X} → Some x ≡ None → ⊥
    some e = cc
none_at (m ∷ ms) (v ∷ vs) (suc i) h e = none_at ms vs i h.1 e

-- The body in a frame is read as its message.

after_length : (bytes : List ℕ) → drop 4 (framed bytes) ≡ bytes
after_length bytes = refl

pub body_read : (m : Message) (bytes : List ℕ) → IsFrameOf (Says m) bytes →
    decoded Second (take (length bytes - 4) (drop 4 bytes)) ≡ Ok (Says m)
body_read m bytes h =
    ap (decoded Second) (take_rest bytes 4)
    ∙ ap (λ (b : List ℕ). decoded Second (drop 4 b)) h.spelled
    ∙ ap (decoded Second) (after_length (body (Says m)))
    ∙ spelled_is_read Second (Says m) h.fits

-- The sender.

pub one_offered : (s : Sender) (r : Request) → offer_fault s r ≡ None →
    length (offer s r).offered ≡ length s.offered + 1
one_offered s r e = go (offer_fault s r) e
  where
    go : (o : Option OfferFault) → o ≡ None →
        length (cond (is_none o) (record s { offered = s.offered ++ r ∷ [] }) s).offered ≡ length s.offered + 1
    go None e = length-append s.offered (r ∷ [])
    go (Some f) e = absurd (some e)
      where
        some : {X : Type 0} {x : X} → Some x ≡ None → ⊥
        some e = cc

-- a refused offer leaves the sender
pub offer_refused : (s : Sender) (r : Request) (o : Option OfferFault) → o ≡ offer_fault s r → IsSome o →
    offer s r ≡ s
offer_refused s r o e some = sym (ap (λ (x : Option OfferFault).
    cond (is_none x) (record s { offered = s.offered ++ r ∷ [] }) s) e) ∙ go o some
  where
    go : (o : Option OfferFault) → IsSome o → cond (is_none o) (record s { offered = s.offered ++ r ∷ [] }) s ≡ s
    go None some = absurd (none some)
      where
        none : false ≡ true → ⊥
        none e = cc
    go (Some f) some = refl

-- an offer of a copy is one of the request
pub copy_offered : (s : Sender) (copy r : Request) (later : Offering) (count : ℕ) → copy ≡ r →
    IsSender (offer s copy) later → count ≡ length (offer s copy).offered →
    IsSender (offer s r) later × (count ≡ length (offer s r).offered)
copy_offered s copy r later count same is counted =
    subst (λ (x : Request). IsSender (offer s x) later × (count ≡ length (offer s x).offered)) same (is, counted)

-- and a refused one leaves all as it was
pub copy_refused : (s : Sender) (copy r : Request) (o : Option OfferFault) (later : Offering) (count : ℕ) → copy ≡ r →
    o ≡ offer_fault s copy → IsSome o → IsSender s later → count ≡ length s.offered →
    IsSender (offer s r) later × (count ≡ length (offer s r).offered)
copy_refused s copy r o later count same fault some is counted =
    let stays = offer_refused s copy o fault some in
    copy_offered s copy r later count same (subst (λ (x : Sender). IsSender x later) (sym stays) is)
    (counted ∙ ap (λ (x : Sender). length x.offered) (sym stays))

-- hearing changes no offer
pub hearing_offers : (s : Sender) (r : Reply) → length (hear s r).offered ≡ length s.offered
hearing_offers s (Judged name n v) = go (is_counted s name n)
  where
    go : (b : Bool) → length (cond b (record s { verdicts = put s.verdicts n v }) s).offered ≡ length s.offered
    go true = refl
    go false = refl
hearing_offers s (Noticed name n code next) = refl
hearing_offers s (Refused reason place) = refl

-- Sending and bringing leave the book.

pub sent_book : (w : World) (o : Option (ℕ × Request)) → (send w o).book ≡ w.book
sent_book w None = refl
sent_book w (Some p) = refl

pub brought_book : (w : World) (o : Option Reply) → (bring w o).book ≡ w.book
brought_book w None = refl
brought_book w (Some r) = refl

-- What was found in a borrowed list.

pub found_at : {X : Type 0} (xs ys : List X) (i : ℕ) (x : X) → ys ≡ xs → i < length ys → x ≡ get_or ys i x →
    slice_get xs i ≡ Some x
found_at xs ys i x same below is =
    ap (λ (zs : List _). slice_get zs i) (sym same) ∙ slice_get_read ys (length ys) i x refl below is

pub missing_at : {X : Type 0} (xs ys : List X) (i : ℕ) → ys ≡ xs → length ys ≤ i → slice_get xs i ≡ None
missing_at xs ys i same past = ap (λ (zs : List _). slice_get zs i) (sym same) ∙ slice_get_past ys i past

-- Replies, in the definitions' words.

pub reply_at : (xs : List Answer) (w : List Reply) (i : ℕ) (o : Option Answer) → map reply_of xs ≡ w →
    slice_get xs i ≡ o → slice_get w i ≡ option_map reply_of o
reply_at xs w i o e found =
    ap (λ (rs : List Reply). slice_get rs i) (sym e) ∙ slice_get-map reply_of xs i ∙ ap (option_map reply_of) found

pub replies_len : (xs : List Answer) (w : List Reply) → map reply_of xs ≡ w → length xs ≡ length w
replies_len xs w e = sym (length-map xs reply_of) ∙ ap length e

pub replies_more : (xs ys more : List Answer) (w reported : List Reply) → ys ≡ xs ++ more → map reply_of xs ≡ w →
    map reply_of more ≡ reported → map reply_of ys ≡ w ++ reported
replies_more xs ys more w reported e was is =
    ap (map reply_of) e ∙ map-append reply_of xs more ∙ ap (λ (rs : List Reply). rs ++ map reply_of more) was
    ∙ ap (λ (rs : List Reply). w ++ rs) is

-- What holds if a call succeeded.

pub on_ok : {X E : Type 0} {P Q : Type 0} (r : Result X E) → OnOk r P → (P → Q) → OnOk r Q
on_ok (Ok x) p f = f p
on_ok (Err e) p f = tt

pub on_err : {X E : Type 0} {P : Type 0} (r : Result X E) → P → OnErr r P
on_err (Ok x) p = tt
on_err (Err e) p = p

-- What a decoder returns for a message's body.

pub says_inj : (x : Result Frame Reason) (f : Read) (a : Answered) (m : Message) → f ≡ frames.Message a →
    Ok (frame_of f) ≡ x → x ≡ Ok (Says m) → message_of a ≡ m
says_inj x f a m is e read =
    let said : x ≡ Ok (Says (message_of a)) = sym e ∙ ap (λ (y : Read). Ok (frame_of y)) is in
    cc

pub not_ask : (x : Result Frame Reason) (f : Read) (a : Asked) (m : Message) → f ≡ frames.Ask a →
    Ok (frame_of f) ≡ x → x ≡ Ok (Says m) → ⊥
not_ask x f a m is e read =
    let said : x ≡ Ok (Asks (asked_name a) (asked_number a)) = sym e ∙ ap (λ (y : Read). Ok (frame_of y)) is in
    cc

pub not_bye : (x : Result Frame Reason) (f : Read) (m : Message) → f ≡ frames.Bye →
    Ok (frame_of f) ≡ x → x ≡ Ok (Says m) → ⊥
not_bye x f m is e read =
    let said : x ≡ Ok Bye = sym e ∙ ap (λ (y : Read). Ok (frame_of y)) is in
    cc

pub not_bad : (x : Result Frame Reason) (r : Reason) (m : Message) → Err r ≡ x → x ≡ Ok (Says m) → ⊥
not_bad x r m e read = cc

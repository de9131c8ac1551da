-- What each call adds to what an exchange has done.
use Rattle.std.proofs.Common.{◌≡◌, ℕ, List, [], ◌∷◌, ◌++◌, Option, None, refl, sym, ap, subst, ◌∙◌}
use Rattle.std.proofs.Common.{append_assoc}
use Rattle.std.specs.Prelude.{IfSome, IsTrue}
use Rattle.std.specs.List.{list_all}
use Rattle.std.proofs.lemmas.Bool.{and_from}
use Rattle.std.proofs.lemmas.Grind.{flat_map-append}
use Rattle.std.proofs.lemmas.List.{append-nil, map-append}
use Rattle.std.proofs.lemmas.List.Folds.{list_all-append}
use Rattle.bw_model.specs.Wire.{Frame, framed, is_below, are_bytes}
use Rattle.bw_model.specs.Replies.{Reply, reply_body, is_reply}
use Rattle.bw_model.specs.Stream.{End}
use Rattle.bw_model.specs.Exchange.{replies_bytes}
use Rattle.bw_wire.specs.Codecs.{Codec, message_codec}
use Rattle.bw_wire.specs.FramerStates.{Pending, fresh, with_piece, next_of}
use Rattle.bw_wire.specs.Runs.{Call, Feeds, Takes, piece_of, fed_in, Run, given_by, with_call, with_calls, framer_run}
use Rattle.bw_exchange.specs.AnsweredFrames.{Answered, answered_frames, replies_of}
use Rattle.bw_exchange.specs.Done.{EndsSo, last_of, Done}

with_calls-append : {X : Type 0} (codec : Codec X) (r : Run X) (calls : List Call) (c : Call) →
    with_calls codec r (calls ++ c ∷ []) ≡ with_call codec (with_calls codec r calls) c
with_calls-append codec r [] c = refl
with_calls-append codec r (d ∷ calls) c = with_calls-append codec (with_call codec r d) calls c

-- a call more in a run from the start
pub run_more : {X : Type 0} (codec : Codec X) (calls : List Call) (c : Call) →
    framer_run codec (calls ++ c ∷ []) ≡ with_call codec (framer_run codec calls) c
run_more codec calls c = with_calls-append codec (record { given = []; state = fresh }) calls c

-- a call more feeds its piece
pub fed_in-more : (calls : List Call) (c : Call) → fed_in (calls ++ c ∷ []) ≡ fed_in calls ++ piece_of c
fed_in-more calls c =
    flat_map-append piece_of calls (c ∷ [])
    ∙ ap (λ (x : List ℕ). fed_in calls ++ x) (append-nil (piece_of c))

-- what was done, under other names
pub same_done : (fed fed' : List ℕ) (xs xs' : List Answered) (gone gone' : List ℕ) (p : Pending) (w : List ℕ)
    (e : Option End) → fed ≡ fed' → xs ≡ xs' → gone ≡ gone' → Done fed xs gone p w e → Done fed' xs' gone' p w e
same_done fed fed' xs xs' gone gone' p w e f a g d =
    subst (λ (x : List ℕ). Done x xs' gone' p w e) f
    (subst (λ (x : List Answered). Done fed x gone' p w e) a
    (subst (λ (x : List ℕ). Done fed xs x p w e) g d))

-- nothing more, as a call says it
pub nothing_done : (fed : List ℕ) (xs : List Answered) (gone : List ℕ) (p : Pending) (w : List ℕ) (e : Option End) →
    Done fed xs gone p w e → Done (fed ++ []) (xs ++ []) (gone ++ []) p w e
nothing_done fed xs gone p w e d =
    same_done fed (fed ++ []) xs (xs ++ []) gone (gone ++ []) p w e (sym (append-nil fed)) (sym (append-nil xs))
    (sym (append-nil gone)) d

-- a piece is fed
pub done_fed : (fed : List ℕ) (xs : List Answered) (gone : List ℕ) (p : Pending) (w piece : List ℕ) (q : Pending) →
    q ≡ with_piece p piece → IsTrue (are_bytes piece) → Done fed xs gone p w None →
    Done (fed ++ piece) (xs ++ []) (gone ++ []) q w None
done_fed fed xs gone p w piece q same bytes d =
    same_done (fed ++ piece) (fed ++ piece) xs (xs ++ []) gone (gone ++ []) q w None refl (sym (append-nil xs))
    (sym (append-nil gone))
    (record {
      fits = list_all-append (is_below 256) fed piece ∙ and_from (are_bytes fed) (are_bytes piece) d.fits bytes;
      calls = d.calls ++ Feeds piece ∷ [];
      fed_by = fed_in-more d.calls (Feeds piece) ∙ ap (λ (x : List ℕ). x ++ piece) d.fed_by;
      runs = run_more message_codec d.calls (Feeds piece)
          ∙ ap (λ (r : Run Frame). with_call message_codec r (Feeds piece)) d.runs
          ∙ ap (λ (x : Pending). record { given = answered_frames xs; state = x }) (sym same);
      ends = tt;
      written = d.written;
      spelled = d.spelled;
    })

takes_run : (fed : List ℕ) (xs : List Answered) (gone w : List ℕ) (p q : Pending) (fs : List Frame) →
    q ≡ (next_of message_codec p).1 → given_by message_codec (next_of message_codec p).0 ≡ fs →
    (d : Done fed xs gone p w None)
    → framer_run message_codec (d.calls ++ Takes ∷ []) ≡ record { given = answered_frames xs ++ fs; state = q }
takes_run fed xs gone w p q fs same reported d =
    run_more message_codec d.calls Takes
    ∙ ap (λ (r : Run Frame). with_call message_codec r Takes) d.runs
    ∙ ap (λ (x : List Frame). record { given = answered_frames xs ++ x; state = (next_of message_codec p).1 }) reported
    ∙ ap (λ (x : Pending). record { given = answered_frames xs ++ fs; state = x }) (sym same)

takes_fed : (fed : List ℕ) (xs : List Answered) (gone w : List ℕ) (p : Pending) (d : Done fed xs gone p w None) →
    fed_in (d.calls ++ Takes ∷ []) ≡ fed
takes_fed fed xs gone w p d = fed_in-more d.calls Takes ∙ append-nil (fed_in d.calls) ∙ d.fed_by

-- more replies are written after the others
pub replies_bytes-append : (xs ys : List Reply) → replies_bytes (xs ++ ys) ≡ replies_bytes xs ++ replies_bytes ys
replies_bytes-append xs ys = flat_map-append (λ (r : Reply). framed (reply_body r)) xs ys

replies_of-more : (xs : List Answered) (a : Answered) → replies_of (xs ++ a ∷ []) ≡ replies_of xs ++ a.replies
replies_of-more xs a =
    flat_map-append (λ (x : Answered). x.replies) xs (a ∷ [])
    ∙ ap (λ (x : List Reply). replies_of xs ++ x) (append-nil a.replies)

-- more replies' bytes after those that were written
written_more : (gone w new : List ℕ) (rs more : List Reply) → gone ++ w ≡ replies_bytes (rs ++ []) →
    new ≡ w ++ replies_bytes more → gone ++ new ≡ replies_bytes (rs ++ more)
written_more gone w new rs more e n =
    ap (λ (x : List ℕ). gone ++ x) n
    ∙ sym (append_assoc gone w (replies_bytes more))
    ∙ ap (λ (x : List ℕ). x ++ replies_bytes more) (e ∙ ap replies_bytes (append-nil rs))
    ∙ sym (replies_bytes-append rs more)

-- more replies with spellings
spelled_more : (rs more : List Reply) → IsTrue (list_all is_reply (rs ++ [])) → IsTrue (list_all is_reply more) →
    IsTrue (list_all is_reply (rs ++ more))
spelled_more rs more all fits =
    list_all-append is_reply rs more
    ∙ and_from (list_all is_reply rs) (list_all is_reply more) (ap (list_all is_reply) (sym (append-nil rs)) ∙ all) fits

-- a frame is answered
pub done_answer : (fed : List ℕ) (xs : List Answered) (gone : List ℕ) (p : Pending) (w : List ℕ) (frame : Frame)
    (replies : List Reply) (new : List ℕ) (q : Pending) →
    given_by message_codec (next_of message_codec p).0 ≡ frame ∷ [] → q ≡ (next_of message_codec p).1 →
    new ≡ w ++ replies_bytes replies → IsTrue (list_all is_reply replies) → Done fed xs gone p w None
    → Done (fed ++ []) (xs ++ record { frame = frame; replies = replies } ∷ []) (gone ++ []) q new None
done_answer fed xs gone p w frame replies new q reported same n fits d =
    let a : Answered = record { frame = frame; replies = replies } in
    same_done fed (fed ++ []) (xs ++ a ∷ []) (xs ++ a ∷ []) gone (gone ++ []) q new None (sym (append-nil fed)) refl
    (sym (append-nil gone))
    (record {
      fits = d.fits;
      calls = d.calls ++ Takes ∷ [];
      fed_by = takes_fed fed xs gone w p d;
      runs = takes_run fed xs gone w p q (frame ∷ []) same reported d
          ∙ ap (λ (x : List Frame). record { given = x; state = q })
          (sym (map-append (λ (x : Answered). x.frame) xs (a ∷ [])));
      ends = tt;
      written = written_more gone w new (replies_of xs) replies d.written n
          ∙ ap replies_bytes (sym (replies_of-more xs a) ∙ sym (append-nil (replies_of (xs ++ a ∷ []))));
      spelled = ap (list_all is_reply) (append-nil (replies_of (xs ++ a ∷ [])) ∙ replies_of-more xs a)
          ∙ spelled_more (replies_of xs) replies d.spelled fits;
    })

-- the framer was asked, and there was nothing to answer
pub done_quiet : (fed : List ℕ) (xs : List Answered) (gone : List ℕ) (p : Pending) (w : List ℕ) (e : Option End)
    (new : List ℕ) (q : Pending) →
    given_by message_codec (next_of message_codec p).0 ≡ [] → q ≡ (next_of message_codec p).1 →
    new ≡ w ++ replies_bytes (last_of e) → IsTrue (list_all is_reply (last_of e)) → IfSome e (λ x. EndsSo x q) →
    Done fed xs gone p w None
    → Done (fed ++ []) (xs ++ []) (gone ++ []) q new e
done_quiet fed xs gone p w e new q reported same n fits ends d =
    nothing_done fed xs gone q new e
    (record {
      fits = d.fits;
      calls = d.calls ++ Takes ∷ [];
      fed_by = takes_fed fed xs gone w p d;
      runs = takes_run fed xs gone w p q [] same reported d
          ∙ ap (λ (x : List Frame). record { given = x; state = q }) (append-nil (answered_frames xs));
      ends = ends;
      written = written_more gone w new (replies_of xs) (last_of e) d.written n;
      spelled = spelled_more (replies_of xs) (last_of e) d.spelled fits;
    })

-- Runs of the two framers: of messages, which follow the stream of their bytes, and of replies.
use Rattle.std.proofs.Common.{◌≡◌, ◌≢◌, ℕ, suc, true, false, List, [], ◌∷◌, ◌++◌, length, Some, Result, Ok, Err}
use Rattle.std.proofs.Common.{refl}
use Rattle.std.proofs.Common.{sym, ap, ◌∙◌, append_assoc, arith}
use Rattle.std.specs.List.{list_all}
use Rattle.std.proofs.lemmas.Bool.{and_from}
use Rattle.std.proofs.lemmas.List.{length-append}
use Rattle.std.proofs.lemmas.List.Folds.{list_all-append}
use Rattle.bw_model.specs.Wire.{Second, Frame, Says, Asks, Bye, Reason, Cut, body, framed, are_bytes, is_frame}
use Rattle.bw_model.specs.Stream.{first_frame, End, SaidBye, BadFrame, end_by, end_at, is_turn, frames_bytes, Stream}
use Rattle.bw_model.specs.Stream.{stream_from, stream_of}
use Rattle.bw_model.proofs.ByteNumbers.{are_bytes-tail}
use Rattle.bw_model.proofs.FrameLaws.{read_frame_stands, read_reply_stands, first_frame-framed}
use Rattle.bw_model.proofs.GrowthLaws.{first_frame-bad_grows, first_reply-bad_grows}
use Rattle.bw_model.proofs.StreamLaws.{found, streams_agree}
use Rattle.bw_wire.specs.Codecs.{message_codec, reply_codec, is_bye}
use Rattle.bw_wire.specs.FramerStates.{Fails, cut_off, end_fault}
use Rattle.bw_wire.specs.Runs.{Run, Follows, input_end, FollowsStream, RunsFollowStreams, ReplyRunsFollowReplies}
use Rattle.bw_wire.specs.Runs.{fed_in, framer_run}
use Rattle.bw_wire.proofs.RunLaws.{IsCodec, runs_follow}

bye_last : (f : Frame) → is_bye f ≡ true → Bye ≡ f
bye_last (Says m) e = absurd cc
bye_last (Asks name number) e = absurd cc
bye_last Bye e = refl

is_turn-frame : (f : Frame) → is_frame Second f ≡ true → is_bye f ≡ false → is_turn Second f ≡ true
is_turn-frame (Says m) fits e = fits
is_turn-frame (Asks name number) fits e = fits
is_turn-frame Bye fits e = absurd cc

messages_are : IsCodec Frame message_codec
messages_are = record {
  stands = λ bytes f more fits read. (read_frame_stands Second bytes f more fits read).1;
  given = λ bytes f more fits read other. is_turn-frame f (read_frame_stands Second bytes f more fits read).0 other;
  grows = first_frame-bad_grows Second;
  last = λ f e. ap Some (bye_last f e);
}

replies_are : IsCodec _ reply_codec
replies_are = record {
  stands = λ bytes r more fits read. (read_reply_stands bytes r more fits read).1;
  given = λ bytes r more fits read other. (read_reply_stands bytes r more fits read).0;
  grows = first_reply-bad_grows;
  last = λ r e. absurd cc;
}

pub reply_runs_follow_replies : ReplyRunsFollowReplies
reply_runs_follow_replies = runs_follow reply_codec replies_are

-- ---- messages and the stream of their bytes

frames-append : (fs gs : List Frame) → frames_bytes (fs ++ gs) ≡ frames_bytes fs ++ frames_bytes gs
frames-append [] gs = refl
frames-append (f ∷ fs) gs =
    ap (λ (x : List ℕ). framed (body f) ++ x) (frames-append fs gs)
    ∙ sym (append_assoc (framed (body f)) (frames_bytes fs) (frames_bytes gs))

-- a prefix of the messages and asks is one of the stream's
prefix_of : (bytes rest : List ℕ) (given : List Frame) → are_bytes bytes ≡ true →
    list_all (is_turn Second) given ≡ true → bytes ≡ frames_bytes given ++ rest
    → (later : List Frame) × ((stream_of Second bytes).0 ≡ given ++ later)
prefix_of bytes rest given fits each whole =
    let place = length (frames_bytes given) in
    let s = stream_from (suc (length rest)) Second place rest in
    let t = found (suc (length rest)) Second place rest s.0 s.1 (omega arith)
    (are_bytes-tail (frames_bytes given) rest (ap are_bytes (sym whole) ∙ fits)) refl in
    let all : Stream Second bytes (given ++ s.0) s.1 = record {
      rest = t.rest;
      each = list_all-append (is_turn Second) given s.0
          ∙ and_from (list_all (is_turn Second) given) (list_all (is_turn Second) s.0) each t.each;
      whole = whole ∙ ap (λ (x : List ℕ). frames_bytes given ++ x) t.whole
          ∙ sym (append_assoc (frames_bytes given) (frames_bytes s.0) t.rest)
          ∙ ap (λ (x : List ℕ). x ++ t.rest) (sym (frames-append given s.0));
      ends = ap (λ (n : ℕ). end_at Second n t.rest)
          (ap (length {A = ℕ}) (frames-append given s.0) ∙ length-append (frames_bytes given) (frames_bytes s.0))
          ∙ t.ends;
    } in
    (s.0, ap (λ (x : List Frame × End). x.0) ((streams_agree Second bytes (given ++ s.0) s.1 fits).0 all))

-- all of them, with the end at the rest
whole_of : (bytes rest : List ℕ) (given : List Frame) (end : End) → are_bytes bytes ≡ true →
    list_all (is_turn Second) given ≡ true → bytes ≡ frames_bytes given ++ rest
    → end_at Second (length (frames_bytes given)) rest ≡ Some end → stream_of Second bytes ≡ (given, end)
whole_of bytes rest given end fits each whole ends =
    (streams_agree Second bytes given end fits).0 (record { rest = rest; each = each; whole = whole; ends = ends })

no_bytes_cut : first_frame Second [] ≡ Err Cut
unfolding first_frame
no_bytes_cut = refl

-- the end at bytes that are no frame, and at those that are less than one
end_at-bad : (place : ℕ) (bytes : List ℕ) (reason : Reason) → first_frame Second bytes ≡ Err reason → reason ≢ Cut →
    end_at Second place bytes ≡ Some (BadFrame reason place)
end_at-bad place [] reason e other = absurd (other (one_fault (first_frame Second []) e no_bytes_cut))
  where
    one_fault : (x : Result (Frame × List ℕ) Reason) → x ≡ Err reason → x ≡ Err Cut → reason ≡ Cut
    one_fault (Ok y) a b = absurd cc
    one_fault (Err why) a b = cc
end_at-bad place (b ∷ bs) reason e other = ap (end_by place) e

end_at-cut : (place : ℕ) (bytes : List ℕ) → first_frame Second bytes ≡ Err Cut →
    end_at Second place bytes ≡ Some (input_end (cut_off bytes place))
end_at-cut place [] e = refl
end_at-cut place (b ∷ bs) e = ap (end_by place) e

end_at-bye : (place : ℕ) (more : List ℕ) → end_at Second place (framed (body Bye) ++ more) ≡ Some SaidBye
end_at-bye place more = ap (end_by place) (first_frame-framed Second Bye more refl)

follows_stream : (bytes : List ℕ) (r : Run Frame) → are_bytes bytes ≡ true → Follows Frame message_codec bytes r →
    FollowsStream bytes r
follows_stream bytes r fits f =
    let place = length (frames_bytes r.given) in
    record {
      prefix = prefix_of bytes f.prefix.0 r.given fits f.prefix.1.each f.prefix.1.whole;
      nothing = λ e.
          let rest = f.nothing e in
          whole_of bytes r.state.bytes r.given (input_end (end_fault r.state)) fits rest.0.each rest.0.whole
          (end_at-cut place r.state.bytes rest.1 ∙ ap (λ o. Some (input_end o)) (sym (f.ends e)));
      bye = λ e.
          let rest = f.last Bye refl e in
          whole_of bytes (framed (body Bye) ++ rest.0) r.given SaidBye fits rest.1.each rest.1.whole
          (end_at-bye place rest.0);
      fault = λ reason offset e.
          let bad = f.fault reason offset e in
          whole_of bytes bad.0 r.given (BadFrame reason offset) fits bad.1.each bad.1.whole
          (end_at-bad place bad.0 reason bad.2
          (λ cut. f.not_cut offset (e ∙ ap (λ (why : Reason). Fails why offset) cut))
          ∙ ap (λ (n : ℕ). Some (BadFrame reason n)) (sym bad.3));
      not_cut = f.not_cut;
    }

pub runs_follow_streams : RunsFollowStreams
runs_follow_streams calls fits =
    follows_stream (fed_in calls) (framer_run message_codec calls) fits
    (runs_follow message_codec messages_are calls fits)

-- What was said and heard over a link that is kept.
use mathlib.Core.Logic.{inl, inr}
use Rattle.std.proofs.Common.{◌≡◌, ℕ, ◌⊎◌, Bool, true, false, cond, List, [], ◌∷◌, ◌++◌}
use Rattle.std.proofs.Common.{Some, refl, sym, ◌∙◌, ap, subst, append-nil, append_assoc}
use Rattle.std.specs.Prelude.{nat_le}
use Rattle.std.specs.List.{AllByRecursion, Contains, list_all}
use Rattle.std.proofs.lemmas.Bool.{and_from}
use Rattle.std.proofs.lemmas.List.Folds.{list_all-append}
use Rattle.bw_model.specs.Take.{Request, Verdict}
use Rattle.bw_model.specs.Wire.{Second, Frame, Bye, is_frame, body, framed}
use Rattle.bw_model.specs.Replies.{Reply, Judged}
use Rattle.bw_model.specs.Stream.{frames_bytes}
use Rattle.bw_model.specs.World.{Sender, pending_from}
use Rattle.bw_stream.specs.Moves.{Writes, Begins}
use Rattle.bw_stream.specs.declared.sink.Sink.{Ghosts as Writer}
use Rattle.bw_stream.specs.declared.source.Source.{Ghosts as Reader}
use Rattle.bw_wire.specs.Codecs.{reply_codec, Spelled}
use Rattle.bw_sender.specs.LinkReplies.{PartsWith}
use Rattle.bw_sender.specs.SaidMessages.{numbered_from, unsaid_messages}
use Rattle.bw_ports.specs.declared.dial.Duplex.{Duplex}
use Rattle.bw_upload.specs.Conversations.{Conversing, Line, SaysPending, BreaksSaying, HearsReplies, new_line}
use Rattle.bw_delivery.specs.Statement.{LinkBytes, IsPartOf, WroteRequests, WasTold}
use Rattle.bw_delivery.proofs.OwnFrames.{each_request}
use Rattle.bw_delivery.proofs.SoundTurns.{IsOneOf}
use Rattle.bw_end_to_end.specs.UsedLinks.{IsSenderEnd}
use Rattle.bw_end_to_end.proofs.SaidRequests.{IsOffered, AreSpelled, IsNumbered, pending_numbered, messages_are}
use Rattle.bw_end_to_end.proofs.SaidRequests.{messages_spelled, all-append}

some_inj : {X : Type 0} {x y : X} → Some x ≡ Some y → x ≡ y
some_inj e = cc

pub frames-append : (xs ys : List Frame) → frames_bytes (xs ++ ys) ≡ frames_bytes xs ++ frames_bytes ys
frames-append [] ys = refl
frames-append (x ∷ xs) ys =
    ap (λ (z : List ℕ). framed (body x) ++ z) (frames-append xs ys)
    ∙ sym (append_assoc (framed (body x)) (frames_bytes xs) (frames_bytes ys))

-- frames of these requests
pub record AreOwn (name : List ℕ) (requests : List Request) (fs : List Frame) : Type 0 where
  pub each : AllByRecursion (IsOneOf name requests) fs
  pub spelled : list_all (is_frame Second) fs ≡ true

own-append : (name : List ℕ) (requests : List Request) (xs ys : List Frame) → AreOwn name requests xs →
    AreOwn name requests ys → AreOwn name requests (xs ++ ys)
own-append name requests xs ys h k = record {
  each = all-append (IsOneOf name requests) xs ys h.each k.each;
  spelled = list_all-append (is_frame Second) xs ys
      ∙ and_from (list_all (is_frame Second) xs) (list_all (is_frame Second) ys) h.spelled k.spelled;
}

filtered : (P : ℕ × Request → Type 0) (next : ℕ) (ps : List (ℕ × Request)) → AllByRecursion P ps →
    AllByRecursion P (numbered_from next ps)
filtered P next [] h = tt
filtered P next (p ∷ ps) h = go (nat_le next p.0) (filtered P next ps h.1)
  where
    go : (v : Bool) → AllByRecursion P (numbered_from next ps) →
        AllByRecursion P (cond v (p ∷ numbered_from next ps) (numbered_from next ps))
    go true rest = (h.0, rest)
    go false rest = rest

-- what is said next are some of the requests
pub unsaid_own : (name : List ℕ) (requests : List Request) (s : Sender) (rest : List Request) (next : ℕ) →
    IsOffered name requests s rest → AreSpelled name requests → AreOwn name requests (unsaid_messages s next)
unsaid_own name requests s rest next h spelled =
    let numbered = filtered (IsNumbered requests) next (pending_from 0 s.offered s.verdicts)
    (pending_numbered name requests s rest h) in
    record {
      each = messages_are name s.name requests (numbered_from next (pending_from 0 s.offered s.verdicts)) h.name_is numbered;
      spelled = messages_spelled name s.name requests (numbered_from next (pending_from 0 s.offered s.verdicts)) h.name_is
          spelled numbered;
    }

module _ {R W : Type 0} (reader : Reader R) (writer : Writer W) (name : List ℕ) (requests : List Request) where
  -- what was said and heard so far over a link that has these bytes to give
  pub record HasUsed (gives : List ℕ) (l : Line R W) : Type 0 where
    pub bytes : List ℕ
    pub stands : writer.written l.writer ≡ Some bytes
    pub frames : List Frame
    pub own : AreOwn name requests frames
    pub part : IsPartOf bytes (frames_bytes frames)
    pub whole : l.is_broken ≡ false → bytes ≡ frames_bytes frames
    pub left : List ℕ
    pub left_is : reader.left l.reader ≡ Some left
    pub all : l.input ++ left ≡ gives
    pub rest : List ℕ
    pub heard : Spelled Reply reply_codec l.input l.heard rest

  -- so it is with a link that was made like this, if it reports its bytes
  abbrev pub IsUsedFrom : Duplex R W → Line R W → Type 0
  IsUsedFrom made l = (gives : List ℕ) → writer.written made.writer ≡ Some [] →
      reader.left made.reader ≡ Some gives → HasUsed gives l

  pub used_new : (made : Duplex R W) → IsUsedFrom made (new_line made.reader made.writer)
  used_new made gives unused left = record {
    bytes = [];
    stands = unused;
    frames = [];
    own = record { each = tt; spelled = refl };
    part = ([], refl);
    whole = λ e. refl;
    left = gives;
    left_is = left;
    all = refl;
    rest = [];
    heard = record { each = refl; whole = refl };
  }

  pub used_says : (made : Duplex R W) (x y : Conversing R W) (rest : List Request) → IsOffered name requests x.sender rest →
      AreSpelled name requests → SaysPending reader writer x y → IsUsedFrom made x.line → IsUsedFrom made y.line
  used_says made x y rest h spelled step used gives unused left =
      let u = used gives unused left in
      let fs : List Frame = unsaid_messages x.sender x.line.next in
      let same : u.bytes ≡ frames_bytes u.frames = u.whole step.whole in
      let now : u.bytes ++ frames_bytes fs ≡ frames_bytes (u.frames ++ fs) =
      ap (λ (z : List ℕ). z ++ frames_bytes fs) same ∙ sym (frames-append u.frames fs) in
      subst (HasUsed gives) (sym (ap (λ (z : Conversing R W). z.line) step.is)) (record {
        bytes = u.bytes ++ frames_bytes fs;
        stands = step.said.taken u.bytes u.stands;
        frames = u.frames ++ fs;
        own = own-append name requests u.frames fs u.own (unsaid_own name requests x.sender rest x.line.next h spelled);
        part = ([], append-nil (u.bytes ++ frames_bytes fs) ∙ now);
        whole = λ e. now;
        left = u.left;
        left_is = u.left_is;
        all = u.all;
        rest = u.rest;
        heard = u.heard;
      })

  pub used_breaks : (made : Duplex R W) (x y : Conversing R W) (rest : List Request) → IsOffered name requests x.sender rest →
      AreSpelled name requests → BreaksSaying reader writer x y → IsUsedFrom made x.line → IsUsedFrom made y.line
  used_breaks made x y rest h spelled step used gives unused left =
      let u = used gives unused left in
      let fs : List Frame = unsaid_messages x.sender x.line.next in
      let b = step.begun u.bytes u.stands in
      subst (HasUsed gives) (sym (ap (λ (z : Conversing R W). z.line) step.is)) (record {
        bytes = u.bytes ++ b.part;
        stands = b.stands;
        frames = u.frames ++ fs;
        own = own-append name requests u.frames fs u.own (unsaid_own name requests x.sender rest x.line.next h spelled);
        part = (
          b.rest,
          append_assoc u.bytes b.part b.rest ∙ ap (λ (z : List ℕ). u.bytes ++ z) b.whole
              ∙ ap (λ (z : List ℕ). z ++ frames_bytes fs) (u.whole step.whole) ∙ sym (frames-append u.frames fs),
        );
        whole = λ e. absurd (broken e);
        left = u.left;
        left_is = u.left_is;
        all = u.all;
        rest = u.rest;
        heard = u.heard;
      })
    where
      broken : true ≡ false → ⊥
      broken e = cc

  pub used_hears : (made : Duplex R W) (heard : List Reply) (x y : Conversing R W) → HearsReplies reader writer heard x y →
      IsUsedFrom made x.line → IsUsedFrom made y.line
  used_hears made heard x y step used gives unused left =
      let u = used gives unused left in
      let g = step.given u.left u.left_is in
      subst (HasUsed gives) (sym (ap (λ (z : Conversing R W). z.line) step.is)) (record {
        bytes = u.bytes;
        stands = u.stands;
        frames = u.frames;
        own = u.own;
        part = u.part;
        whole = u.whole;
        left = g.0;
        left_is = g.1;
        all = append_assoc x.line.input step.piece g.0 ∙ ap (λ (z : List ℕ). x.line.input ++ z) g.2 ∙ u.all;
        rest = step.prefix.0;
        heard = step.prefix.1;
      })

  -- What the link took in the end.

  -- bytes that a link took are a prefix of frames of the requests
  abbrev pub Took : Duplex R W → W → Type 0
  Took made w = (gives : List ℕ) → writer.written made.writer ≡ Some [] → reader.left made.reader ≡ Some gives →
      (bytes : List ℕ) × (writer.written w ≡ Some bytes) × WroteRequests name requests bytes

  wrote_own : {bytes : List ℕ} (frames : List Frame) → AreOwn name requests frames → IsPartOf bytes (frames_bytes frames) →
      WroteRequests name requests bytes
  wrote_own frames own part = record {
    frames = frames;
    spelled = own.spelled;
    part = part;
    each = each_request name requests frames own.each;
  }

  pub took_so_far : (made : Duplex R W) (l : Line R W) → IsUsedFrom made l → Took made l.writer
  took_so_far made l used gives unused left =
      let u = used gives unused left in
      (u.bytes, u.stands, wrote_own u.frames u.own u.part)

  bye_own : AreOwn name requests (Bye ∷ [])
  bye_own = record { each = (tt, tt); spelled = refl }

  pub took_bye : (made : Duplex R W) (l : Line R W) (w' : W) → l.is_broken ≡ false → PartsWith writer l.writer w' →
      IsUsedFrom made l → Took made w'
  took_bye made l w' whole parts used gives unused left = go parts
    where
      u : HasUsed gives l
      u = used gives unused left

      fs : List Frame
      fs = u.frames ++ Bye ∷ []

      own : AreOwn name requests fs
      own = own-append name requests u.frames (Bye ∷ []) u.own bye_own

      bye : List ℕ
      bye = framed (body Bye)

      all : u.bytes ++ bye ≡ frames_bytes fs
      all = ap (λ (z : List ℕ). z ++ bye) (u.whole whole) ∙ sym (frames-append u.frames (Bye ∷ []))

      go : Writes (writer.written l.writer) bye (writer.written w') ⊎ Begins (writer.written l.writer) bye (writer.written w') →
          (bytes : List ℕ) × (writer.written w' ≡ Some bytes) × WroteRequests name requests bytes
      go (inl wrote) = (
        u.bytes ++ bye,
        wrote u.bytes u.stands,
        wrote_own fs own ([], append-nil (u.bytes ++ bye) ∙ all),
      )
      go (inr begun) =
          let b = begun u.bytes u.stands in (
            u.bytes ++ b.part,
            b.stands,
            wrote_own fs own
                (b.rest, append_assoc u.bytes b.part b.rest ∙ ap (λ (z : List ℕ). u.bytes ++ z) b.whole ∙ all),
          )

  -- an end of the link is of this kind
  pub end_says : (made : Duplex R W) (w : W) (l : LinkBytes) → Took made w →
      IsSenderEnd reader writer (record { reader = made.reader; writer = made.writer; writer_after = w }) l →
      WroteRequests name requests l.said
  end_says made w l took end =
      let t = took l.heard end.unused end.heard in
      subst (WroteRequests name requests) (some_inj (sym t.1 ∙ end.said)) t.2

  pub end_hears : (made : Duplex R W) (line : Line R W) (w : W) (l : LinkBytes) → IsUsedFrom made line →
      IsSenderEnd reader writer (record { reader = made.reader; writer = made.writer; writer_after = w }) l →
      (n : ℕ) (v : Verdict) → Contains line.heard (Judged name n v) → WasTold name n v l.heard
  end_hears made line w l used end n v has =
      let u = used l.heard end.unused end.heard in
      record {
        replies = line.heard;
        spelled = u.heard.each;
        part = (
          u.rest ++ u.left,
          sym (sym u.all ∙ ap (λ (z : List ℕ). z ++ u.left) u.heard.whole ∙ append_assoc _ u.rest u.left),
        );
        among = has;
      }

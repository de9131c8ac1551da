-- Replies are heard piece by piece.
use Rattle.std.proofs.Common.{◌≡◌, ◌≢◌, ℕ, ◌+◌, ◌-◌, ◌*◌, ◌^◌, ◌≤◌, Bool, true, false, List, [], ◌∷◌, ◌++◌, length}
use Rattle.std.proofs.Common.{take, Option}
use Rattle.std.proofs.Common.{Some, None, Result, Ok, Err, refl, sym, ap, subst, ◌∙◌, append_assoc, arith, inl, inr}
use Rattle.std.specs.Prelude.{IsTrue, IfErr, OnOk, OnErr, is_some, min}
use Rattle.std.proofs.lemmas.List.{append-nil, length-append, length-take-le}
use Rattle.bw_model.specs.Wire.{Reason, Cut, are_bytes}
use Rattle.bw_model.specs.Replies.{Reply}
use Rattle.bw_model.specs.Stream.{first_reply}
use Rattle.bw_model.specs.World.{Sender as Defined, hear}
use Rattle.bw_model.proofs.GrowthLaws.{first_reply-bad_grows}
use Rattle.bw_stream.specs.Moves.{Reads}
use Rattle.bw_sender.specs.Senders.{IsSender}
use Rattle.bw_sender.specs.declared.sender.Sender.{Sender}
use Rattle.bw_wire.specs.Codecs.{reply_codec, spelling_of, Spelled}
use Rattle.bw_wire.specs.Held.{longest_piece}
use Rattle.bw_wire.specs.FramerStates.{Pending, Reported, Nothing, Gives, Fails, fresh, with_piece, next_of, cut_off}
use Rattle.bw_wire.specs.FramerStates.{end_fault}
use Rattle.bw_wire.specs.Replies.{reply_of}
use Rattle.bw_wire.specs.FramerAnswers.{reported_as}
use Rattle.bw_wire.specs.declared.reply.Reply.{Reply as Answer}
use Rattle.bw_sender.specs.declared.send_fault.SendFault.{SendFault}
use Rattle.bw_sender.specs.declared.send_fault.SendFault.TheVariants as faults
use Rattle.bw_exchange.specs.WholeExchanges.{most_reads, HasGiven, HasNoneLeft}
use Rattle.bw_sender.specs.Hears.{CountsAll, IsHeardUpTo, IsAllHeard, IsHeardWhole}
use Rattle.bw_sender.specs.Hears.{HearsBy, HearsNoFurther, Hears, GaveReplies, HearsMore, ReportsFault}
use Rattle.bw_sender.specs.Hears.{hears_failed, IsHearingLimited, FeedsReplies, EndsReplies, ReadsReplies}
use Rattle.bw_sender.specs.Hears.{StopsHearing}
use Rattle.bw_sender.specs.LinkReplies.{HearsThese}
use Rattle.bw_sender.proofs.HeardReplies.{counts_on, these_none, these_on, these_quiet, these_one}
use Rattle.bw_exchange.proofs.Reading.{has_given-none, has_given-on, has_given-piece}
use Rattle.bw_sender.proofs.ReplyRuns.{IsNoReply, fresh_quiet, no_bytes_cut, gave_none, gave_fed}
use Rattle.bw_sender.proofs.ReplyRuns.{gave_counted, gave_follows}

-- ---- replies are counted, whichever they are

these_of : {x y : Sender} {p q : Pending} (f : HearsMore x y p q) → HearsThese f.heard x y p q
these_of f = record { counted = f.counted; gives = f.gives }

some_these : (heard : List Reply) (x y : Sender) (p q : Pending) → HearsThese heard x y p q → HearsMore x y p q
some_these heard x y p q f = record { heard = heard; counted = f.counted; gives = f.gives }

pub hears-none : (x : Sender) (p : Pending) → HearsMore x x p p
hears-none x p = some_these [] x x p p (these_none x p)

pub hears-on : (x y z : Sender) (p q r : Pending) → HearsMore x y p q → HearsMore y z q r → HearsMore x z p r
hears-on x y z p q r f g =
    some_these (f.heard ++ g.heard) x z p r (these_on f.heard g.heard x y z p q r (these_of f) (these_of g))

pub hears-quiet : (x : Sender) (p q : Pending) (t : Reported Reply) → t ≡ (next_of reply_codec p).0 → IsNoReply t →
    q ≡ (next_of reply_codec p).1 → HearsMore x x p q
hears-quiet x p q t reported none same = some_these [] x x p q (these_quiet x p q t reported none same)

pub hears-one : (x y : Sender) (p q : Pending) (r : Reply) → Gives r ≡ (next_of reply_codec p).0 →
    q ≡ (next_of reply_codec p).1 → ((s : Defined) → IsSender s x → IsSender (hear s r) y) → HearsMore x y p q
hears-one x y p q r reported same counted =
    some_these (r ∷ []) x y p q (these_one x y p q r reported same counted)

-- what a known answer reports
pub as_reported : {a b : Option Answer} {t : Reported Reply} → a ≡ b → reported_as reply_of (Ok a) ≡ t →
    reported_as reply_of (Ok b) ≡ t
as_reported same reported = ap (λ (o : Option Answer). reported_as reply_of (Ok o)) (sym same) ∙ reported

-- ---- a piece is read

-- some bytes were read and fed
pub feeds_replies : (left left' : Option (List ℕ)) (moved moved' count most : ℕ) (buf : List ℕ) (p q : Pending) →
    Reads left most count buf left' → count ≤ length buf → length buf ≡ longest_piece → (count ≡ 0 → ⊥) →
    moved' ≡ min (moved + count) (2 ^ 64 - 1) → IsTrue (are_bytes (take count buf)) →
    q ≡ with_piece p (take count buf) → FeedsReplies left left' moved moved' p q
feeds_replies left left' moved moved' count most buf p q reads within long some m fits fed =
    let len = length-take-le count buf within in
    record {
      piece = take count buf;
      fits = fits;
      given = has_given-piece left left' most count buf reads;
      some = omega (arith, len, some);
      short = omega (arith, len, within, long);
      counted = m ∙ ap (λ (n : ℕ). min (moved + n) (2 ^ 64 - 1)) (sym len);
      fed = fed;
    }

-- some bytes were read, for which there is no memory
pub no_room : (left left' : Option (List ℕ)) (count most : ℕ) (buf : List ℕ) → Reads left most count buf left' →
    count ≤ length buf → length buf ≡ longest_piece → (count ≡ 0 → ⊥) → IsTrue (are_bytes (take count buf)) →
    StopsHearing faults.Memory left left'
no_room left left' count most buf reads within long some fits =
    let len = length-take-le count buf within in (
      take count buf,
      fits,
      has_given-piece left left' most count buf reads,
      omega (arith, len, some),
      omega (arith, len, within, long),
    )

-- ---- so far

-- so far a sender and a reader were used so, by this many reads
pub record HeardSoFar (reads : ℕ) (x y : Sender) (left left' : Option (List ℕ)) (p : Pending) : Type 0 where
  pub input : List ℕ
  pub given : HasGiven left input left'
  pub heard : List Reply
  pub counted : CountsAll heard x y
  pub gave : GaveReplies input heard p
  pub quiet : (next_of reply_codec p).0 ≡ Nothing
  pub least : reads ≤ length input
  pub most : length input ≤ reads * longest_piece

-- at the start
pub heard-none : (x : Sender) (left : Option (List ℕ)) (p : Pending) → p ≡ fresh → HeardSoFar 0 x x left left p
heard-none x left p new = record {
  input = [];
  given = has_given-none left left (λ xs e. e);
  heard = [];
  counted = λ s is. is;
  gave = subst (GaveReplies [] []) (sym new) gave_none;
  quiet = ap (λ (q : Pending). (next_of reply_codec q).0) new ∙ fresh_quiet;
  least = omega arith;
  most = omega arith;
}

-- it has fed so much
pub fed_so_far : (reads : ℕ) (x y : Sender) (left left' : Option (List ℕ)) (p : Pending) →
    HeardSoFar reads x y left left' p → p.fed ≤ reads * longest_piece
fed_so_far reads x y left left' p f =
    let same = gave_counted f.input f.heard p f.gave in omega (arith, same, f.most)

-- what was given after a piece
gave_piece : (reads : ℕ) (x y z : Sender) (left left' left'' : Option (List ℕ)) (moved moved' : ℕ) (p q r : Pending)
    → (f : HeardSoFar reads x y left left' p) → (n : FeedsReplies left' left'' moved moved' p q) →
    (g : HearsMore y z q r) → GaveReplies (f.input ++ n.piece) (f.heard ++ g.heard) r
gave_piece reads x y z left left' left'' moved moved' p q r f n g =
    g.gives (f.input ++ n.piece) f.heard (gave_fed f.input f.heard n.piece p q n.fed n.fits f.gave)

-- another piece
pub heard-more : (reads : ℕ) (x y z : Sender) (left left' left'' : Option (List ℕ)) (moved moved' : ℕ)
    (p q r : Pending) → HeardSoFar reads x y left left' p → FeedsReplies left' left'' moved moved' p q →
    HearsMore y z q r → (next_of reply_codec r).0 ≡ Nothing → HeardSoFar (reads + 1) x z left left'' r
heard-more reads x y z left left' left'' moved moved' p q r f n g quiet =
    let len = length-append f.input n.piece in
    record {
      input = f.input ++ n.piece;
      given = has_given-on left left' left'' f.input n.piece f.given n.given;
      heard = f.heard ++ g.heard;
      counted = counts_on f.heard g.heard x y z f.counted g.counted;
      gave = gave_piece reads x y z left left' left'' moved moved' p q r f n g;
      quiet = quiet;
      least = omega (arith, f.least, n.some, len);
      most = omega (arith, f.most, n.short, len);
    }

-- ---- the end

-- more bytes after the others
spelled-more : (bytes rest more : List ℕ) (rs : List Reply) → Spelled Reply reply_codec bytes rs rest →
    Spelled Reply reply_codec (bytes ++ more) rs (rest ++ more)
spelled-more bytes rest more rs f = record {
  each = f.each;
  whole = ap (λ (x : List ℕ). x ++ more) f.whole ∙ append_assoc (spelling_of reply_codec rs) rest more;
}

-- all whole replies of what was read were heard
all_heard : (reads : ℕ) (x y : Sender) (left left' : Option (List ℕ)) (p : Pending) →
    (f : HeardSoFar reads x y left left' p) → IsAllHeard f.input f.heard
all_heard reads x y left left' p f =
    let rest = (gave_follows f.input f.heard p f.gave).nothing f.quiet in
    (p.bytes, rest.0, rest.1)

first_heard : (reads : ℕ) (x y : Sender) (left left' : Option (List ℕ)) (p : Pending) →
    (f : HeardSoFar reads x y left left' p) → (rest : List ℕ) × Spelled Reply reply_codec f.input f.heard rest
first_heard reads x y left left' p f =
    let all = all_heard reads x y left left' p f in (all.0, all.1)

-- what is read from here on is the last piece
no_further : (reads : ℕ) (x y : Sender) (left left' : Option (List ℕ)) (p : Pending) →
    (f : HeardSoFar reads x y left left' p) → (piece : List ℕ) → length piece ≤ longest_piece →
    HearsNoFurther (f.input ++ piece)
no_further reads x y left left' p f piece short = record {
  before = f.input;
  last = piece;
  all = refl;
  short = short;
  earlier = f.heard;
  unended = all_heard reads x y left left' p f;
}

no_more : (reads : ℕ) (x y : Sender) (left left' : Option (List ℕ)) (p : Pending) →
    (f : HeardSoFar reads x y left left' p) → HearsNoFurther f.input
no_more reads x y left left' p f =
    subst HearsNoFurther (append-nil f.input) (no_further reads x y left left' p f [] (omega arith))

-- there was no memory for it
pub no_memory : (x : Sender) (left : Option (List ℕ)) → Hears (Err faults.Memory) x x left left
unfolding heard-none
no_memory x left =
    let f = heard-none x left fresh refl in
    record {
      input = [];
      given = f.given;
      no_further = no_more 0 x x left left fresh f;
      heard = [];
      prefix = first_heard 0 x x left left fresh f;
      counted = f.counted;
      by_end = inl (record { unread = refl; unheard = refl });
    }

-- no piece more was read
pub no_more_heard : (reads : ℕ) (x y : Sender) (left left' left'' : Option (List ℕ)) (p : Pending)
    (fault : SendFault) → HeardSoFar reads x y left left' p → StopsHearing fault left' left'' →
    Hears (Err fault) x y left left''
no_more_heard reads x y left left' left'' p faults.Write f stops = absurd stops
no_more_heard reads x y left left' left'' p faults.BadReply f stops = absurd stops
no_more_heard reads x y left left' left'' p faults.TurnLimit f stops = absurd stops
no_more_heard reads x y left left' left'' p faults.Read f stops = record {
  input = f.input;
  given = λ xs h. let a = f.given xs h in (a.0, stops a.0 a.1, a.2);
  no_further = no_more reads x y left left' p f;
  heard = f.heard;
  prefix = first_heard reads x y left left' p f;
  counted = f.counted;
  by_end = all_heard reads x y left left' p f;
}
no_more_heard reads x y left left' left'' p faults.Memory f stops =
    let first = first_heard reads x y left left' p f in
    record {
      input = f.input ++ stops.0;
      given = has_given-on left left' left'' f.input stops.0 f.given stops.2;
      no_further = no_further reads x y left left' p f stops.0 stops.4;
      heard = f.heard;
      prefix = (first.0 ++ stops.0, spelled-more f.input first.0 stops.0 f.heard first.1);
      counted = f.counted;
      by_end = inr (record {
        before = f.input;
        last = stops.0;
        all = refl;
        some = stops.3;
        short = stops.4;
        all_heard = all_heard reads x y left left' p f;
      });
    }

-- too often was read
pub limit_reached : (reads : ℕ) (x y : Sender) (left left' : Option (List ℕ)) (p : Pending) →
    HeardSoFar reads x y left left' p → most_reads ≤ reads → Hears (Err faults.TurnLimit) x y left left'
limit_reached reads x y left left' p f often = record {
  input = f.input;
  given = f.given;
  no_further = no_more reads x y left left' p f;
  heard = f.heard;
  prefix = first_heard reads x y left left' p f;
  counted = f.counted;
  by_end = (all_heard reads x y left left' p f, omega (arith, often, f.least));
}

-- bytes that begin with no reply, but not because they are cut, are some
some_bad : (rest : List ℕ) (reason : Reason) → first_reply rest ≡ Err reason → reason ≢ Cut → 1 ≤ length rest
some_bad [] reason e other = absurd (other (one_fault (first_reply []) e no_bytes_cut))
  where
    one_fault : (x : Result (Reply × List ℕ) Reason) → x ≡ Err reason → x ≡ Err Cut → reason ≡ Cut
    one_fault (Ok y) a b = absurd cc
    one_fault (Err why) a b = cc
some_bad (b ∷ rest) reason e other = omega arith

-- after the replies of a piece comes what is none
pub bad_reply : (reads : ℕ) (x y z : Sender) (left left' left'' : Option (List ℕ)) (moved moved' : ℕ)
    (p q r : Pending) → HeardSoFar reads x y left left' p → FeedsReplies left' left'' moved moved' p q →
    HearsMore y z q r → ReportsFault r → Hears (Err faults.BadReply) x z left left''
bad_reply reads x y z left left' left'' moved moved' p q r f n g reported =
    let input = f.input ++ n.piece in
    let heard = f.heard ++ g.heard in
    let gave = gave_piece reads x y z left left' left'' moved moved' p q r f n g in
    let follows = gave_follows input heard r gave in
    let fault = follows.fault reported.0 reported.1 reported.2 in
    let other : reported.0 ≢ Cut =
    λ cut. follows.not_cut reported.1 (reported.2 ∙ ap (λ (why : Reason). Fails why reported.1) cut) in
    let given = has_given-on left left' left'' f.input n.piece f.given n.given in
    record {
      input = input;
      given = given;
      no_further = no_further reads x y left left' p f n.piece n.short;
      heard = heard;
      prefix = (fault.0, fault.1);
      counted = counts_on f.heard g.heard x y z f.counted g.counted;
      by_end = record {
        reason = reported.0;
        rest = fault.0;
        spelled = fault.1;
        some = some_bad fault.0 reported.0 fault.2 other;
        bad = fault.2;
        drained = inl other;
        all = λ xs e.
            let a = given xs e in
            subst (λ (bytes : List ℕ). IsHeardUpTo reported.0 bytes heard) a.2 (
              fault.0 ++ a.0,
              spelled-more input fault.0 a.0 heard fault.1,
              first_reply-bad_grows fault.0 a.0 reported.0 other fault.2,
            );
      };
    }

-- if a reader has none left, what was read is all that it had
all_read : (left left' left'' : Option (List ℕ)) (p q : Pending) (input xs : List ℕ) → HasGiven left input left' →
    EndsReplies left' left'' p q → left ≡ Some xs → input ≡ xs
all_read left left' left'' p q input xs given n e =
    let a = given xs e in
    let b = n.given a.0 a.1 in
    let none : b.0 ≡ [] = some_same b.0 [] (sym b.1 ∙ n.none a.0 a.1) in
    sym (append-nil input) ∙ ap (λ (y : List ℕ). input ++ y) (sym (sym b.2 ∙ none)) ∙ a.2
  where
    some_same : (a b : List ℕ) → Some a ≡ Some b → a ≡ b
    some_same a b h = cc

-- how the bytes that are left are reported at the input's end
none_cut : (bytes : List ℕ) (place : ℕ) → cut_off bytes place ≡ None → bytes ≡ []
none_cut [] place e = refl
none_cut (b ∷ bs) place e = absurd cc

some_cut : (bytes : List ℕ) (place : ℕ) → is_some (cut_off bytes place) ≡ true → 1 ≤ length bytes
some_cut [] place e = absurd cc
some_cut (b ∷ bs) place e = omega arith

-- the input has ended
pub input_ended : (result : Result (Unit {0}) SendFault) (reads : ℕ) (x y : Sender)
    (left left' left'' : Option (List ℕ)) (p q : Pending) → HeardSoFar reads x y left left' p →
    EndsReplies left' left'' p q → OnOk result (end_fault q ≡ None) → OnErr result (is_some (end_fault q) ≡ true) →
    IfErr result (λ fault. fault ≡ faults.BadReply) → Hears result x y left left''
input_ended result reads x y left left' left'' p q f n ok bad why = record {
  input = f.input;
  given = λ xs e.
      let a = f.given xs e in
      let b = n.given a.0 a.1 in (b.0, b.1, ap (λ (ys : List ℕ). f.input ++ ys) b.2 ∙ a.2);
  no_further = no_more reads x y left left' p f;
  heard = f.heard;
  prefix = first_heard reads x y left left' p f;
  counted = f.counted;
  by_end = by_end result ok bad why;
}
  where
    drained : HasNoneLeft left left''
    drained xs e = let a = f.given xs e in n.none a.0 a.1

    spelled : Spelled Reply reply_codec f.input f.heard p.bytes × (first_reply p.bytes ≡ Err Cut)
    spelled = (gave_follows f.input f.heard p f.gave).nothing f.quiet

    cut : end_fault q ≡ cut_off p.bytes (length (spelling_of reply_codec f.heard))
    cut = ap end_fault n.kept ∙ (gave_follows f.input f.heard p f.gave).ends f.quiet

    by_end : (r : Result (Unit {0}) SendFault) → OnOk r (end_fault q ≡ None) →
        OnErr r (is_some (end_fault q) ≡ true) → IfErr r (λ fault. fault ≡ faults.BadReply) →
        HearsBy r left left'' f.input f.heard
    by_end (Ok u) ok bad why =
        let none = none_cut p.bytes (length (spelling_of reply_codec f.heard)) (sym cut ∙ ok) in
        let whole : IsHeardWhole f.input f.heard =
        subst (λ (rest : List ℕ). Spelled Reply reply_codec f.input f.heard rest) none spelled.0 in
        record {
          whole = whole;
          drained = drained;
          all = λ xs e.
              subst (λ (bytes : List ℕ). IsHeardWhole bytes f.heard)
              (all_read left left' left'' p q f.input xs f.given n e) whole;
        }
    by_end (Err fault) ok bad why =
        subst (λ (x : SendFault). HearsBy (Err x) left left'' f.input f.heard) (sym why)
        (record {
          reason = Cut;
          rest = p.bytes;
          spelled = spelled.0;
          some = some_cut p.bytes (length (spelling_of reply_codec f.heard)) (ap is_some (sym cut) ∙ bad);
          bad = spelled.1;
          drained = inr drained;
          all = λ xs e.
              subst (λ (bytes : List ℕ). IsHeardUpTo Cut bytes f.heard)
              (all_read left left' left'' p q f.input xs f.given n e) (p.bytes, spelled.0, spelled.1);
        })

-- ---- what a read answered

pub has_fed : {left left' : Option (List ℕ)} {moved moved' : ℕ} {p q : Pending} (b : Bool) → b ≡ true →
    ReadsReplies b left left' moved moved' p q → FeedsReplies left left' moved moved' p q
has_fed true e n = n
has_fed false e n = absurd cc

pub has_ended : {left left' : Option (List ℕ)} {p q : Pending} (moved moved' : ℕ) (b : Bool) → b ≡ false →
    ReadsReplies b left left' moved moved' p q → EndsReplies left left' p q
has_ended moved moved' true e n = absurd cc
has_ended moved moved' false e n = n

-- ---- counts

-- if no piece was read, no limit was reached
pub unlimited : (fault : SendFault) (left left' : Option (List ℕ)) → StopsHearing fault left left' → (m m' c c' : ℕ) →
    IsHearingLimited (Err fault) m m' c c'
unlimited faults.Read left left' stops m m' c c' = tt
unlimited faults.Write left left' stops m m' c c' = tt
unlimited faults.Memory left left' stops m m' c c' = tt
unlimited faults.BadReply left left' stops m m' c c' = tt
unlimited faults.TurnLimit left left' stops m m' c c' = absurd stops

-- at the input's end neither, and no read failed
pub ended_counts : (r : Result (Unit {0}) SendFault) → IfErr r (λ fault. fault ≡ faults.BadReply) →
    (n m m' c c' : ℕ) → (n ≡ hears_failed r n) × IsHearingLimited r m m' c c'
ended_counts (Ok x) why n m m' c c' = (refl, tt)
ended_counts (Err fault) why n m m' c c' =
    subst (λ (x : SendFault). (n ≡ hears_failed (Err x) n) × IsHearingLimited (Err x) m m' c c') (sym why) (refl, tt)

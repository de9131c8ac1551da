-- Steps of a connection.
use Rattle.std.proofs.Common.{◌≡◌, ◌⊎◌, inl, inr, ℕ, ◌+◌, ◌≤◌, ◌<◌, Bool, true, Option, Some, None, List, [], ◌∷◌, ◌++◌, length}
use Rattle.std.proofs.Common.{refl, sym, ap, subst, ◌∙◌, append_assoc, Result, Ok, Err, arith, unwrap_or}
use Rattle.std.specs.Prelude.{IfErr, IfSome, take, min, OnOk, is_some, false, not, ◌&&◌, nat_lt, if◌then◌else◌}
use Rattle.bw_model.specs.Wire.{Cut, Frame, Kind, Length, Name, Number, Payload, Reason}
use Rattle.bw_model.specs.Replies.{Reply}
use Rattle.std.proofs.lemmas.List.{append-nil, length-take}
use Rattle.std.proofs.lemmas.Result.{IfErr-weaker}
use Rattle.bw_wire.specs.declared.fault.WireFault.{WireFault}
use Rattle.bw_wire.specs.Reasons.{reason_meaning}
use Rattle.bw_wire.specs.Held.{longest_message_piece, longest_stream}
use Rattle.bw_exchange.specs.declared.exchange.Exchange.{Exchange}
use Rattle.bw_exchange.specs.declared.serving.ExchangeEnd.TheVariants as ends
use Rattle.bw_exchange.specs.declared.turns.NotKept.{NotKept}
use Rattle.bw_exchange.specs.declared.step.StreamEnd.{StreamEnd}
use Rattle.bw_exchange.specs.declared.step.StreamEnd.TheVariants as streams
use Rattle.bw_exchange.specs.AnsweredFrames.{Answered, AnswersAll}
use Rattle.bw_exchange.specs.Done.{AnswersSome, DoesMore, HasDone, IsIdle}
use Rattle.bw_exchange.proofs.Going.{does_none, does_on}
use Rattle.bw_exchange.specs.Ends.{IsFinal, end_so_far}
use Rattle.bw_exchange.specs.Parts.{wants_piece, end_of, waiting_in, pending_of}
use Rattle.bw_exchange.specs.WholeExchanges.{ended_by}
use Rattle.bw_connections.specs.declared.connection.Connection.{Connection}
use Rattle.bw_connections.specs.declared.connection.ConnectionEnd.{ConnectionEnd}
use Rattle.bw_connections.specs.declared.connection.ConnectionEnd.TheVariants.{Idle, Over}
use Rattle.bw_connections.specs.declared.connection.Phase.{Phase}
use Rattle.bw_connections.specs.declared.connection.Phase.TheVariants as phases
use Rattle.bw_ports.specs.declared.link.Link.{Ghosts as LinkGhosts}
use Rattle.bw_connections.specs.ConnectionFeeds.{Feeds, fault_to_drain, unless_cut}
use Rattle.bw_connections.specs.Lives.{EndsDrained, EndsServed, IsNoSilence, IsUpToDate, DropsSent}
use Rattle.bw_connections.specs.Lives.{Moved, ReadsLink, SendsWaiting, EndsWithFault, Works}
use Rattle.bw_connections.specs.Lives.{EndsAs, Proceeds, IsInPhase, IsOpen, IsConnectionOver, KeepsPeer, Lives, Settles, Steps}
use Rattle.bw_connections.specs.Lives.{AnswersHeld, BeginsConnection, expired_at, expired_by, longest_drain, quantum, quiet_since}
use Rattle.bw_connections.specs.Lives.{has_just_ended, is_heard, silence_of}
use Rattle.bw_connections.specs.Lives.{HoldsReplies, LeavesNone, LeavesOf, IsDry, IsFinished, IsFull}
use Rattle.bw_connections.specs.Lives.{Learns, StillReported, ReportsFinish, WhereDrained}

-- what a link did: it gave these bytes more, took these more, and stayed at its end, and finished
pub record Moves {L : Type 0} (G : LinkGhosts L) (in_bytes out_bytes : List ℕ) (l l' : L) : Type 0 where
  pub given : (xs : List ℕ) → G.given l xs → G.given l' (xs ++ in_bytes)
  pub taken : (ys : List ℕ) → G.taken l ys → G.taken l' (ys ++ out_bytes)
  pub ended : G.ended l → G.ended l'
  pub finished : G.finished l → G.finished l'

-- nothing moved
pub no_more : {L : Type 0} (P : L → List ℕ → Type 0) (l l' : L) → ((xs : List ℕ) → P l xs → P l' xs) → (xs : List ℕ) →
    P l xs → P l' (xs ++ [])
no_more P l l' f xs p = subst (P l') (sym (append-nil xs)) (f xs p)

-- nothing more is done
nothing_more : (e : Exchange) (fed gone : List ℕ) (xs : List Answered) → HasDone fed xs gone e →
    HasDone fed (xs ++ []) (gone ++ []) e
nothing_more e fed gone xs d =
    subst (λ (x : List Answered). HasDone fed x (gone ++ []) e) (sym (append-nil xs))
    (subst (λ (y : List ℕ). HasDone fed xs y e) (sym (append-nil gone)) d)

-- a link that nothing was asked of
pub still : {L : Type 0} (G : LinkGhosts L) (l : L) → Moves G [] [] l l
still G l = record {
  given = no_more G.given l l (λ xs p. p);
  taken = no_more G.taken l l (λ ys p. p);
  ended = λ p. p;
  finished = λ p. p;
}

-- an end that was reported stays as it was
kept_end : {L : Type 0} (G : LinkGhosts L) (l l' : L) (e : Option StreamEnd) → (G.ended l → G.ended l') →
    IfSome (end_so_far e) (λ x. IsFinal x ⊎ G.ended l) → IfSome (end_so_far e) (λ x. IsFinal x ⊎ G.ended l')
kept_end G l l' None f h = tt
kept_end G l l' (Some end) f (inl final) = inl final
kept_end G l l' (Some end) f (inr at_end) = inr (f at_end)

-- in a connection that is served nothing came that wasn't fed
none_unread : {L : Type 0} (c : Connection L) (unread : List ℕ) → c.phase ≡ phases.Serving →
    IsInPhase c.phase c.exchange unread → unread ≡ []
none_unread c unread serving p = subst (λ x. IsInPhase x c.exchange unread) serving p

-- one that is served is no drained one
pub served_finished : {L : Type 0} (G : LinkGhosts L) (c : Connection L) → c.phase ≡ phases.Serving → IsFinished G c
served_finished G c serving = subst (λ (p : Phase). WhereDrained p (G.finished c.link)) (sym serving) tt

-- nor does it end as one
served_unfinished : (end : ConnectionEnd) (finished : Type 0) → EndsServed end → ReportsFinish end finished
served_unfinished (Over ends.Bye) finished h = tt
served_unfinished (Over ends.EndOfInput) finished h = tt
served_unfinished (Over (ends.BadFrame fault)) finished h = inl h
served_unfinished (Over ends.ReadFault) finished h = tt
served_unfinished (Over ends.WriteFault) finished h = tt
served_unfinished (Over (ends.NotKept cause)) finished h = tt
served_unfinished (Over ends.TurnLimit) finished h = tt
served_unfinished (Over ends.Memory) finished h = tt
served_unfinished Idle finished h = tt

-- a connection that was served is over, and these bytes came last
pub over : {L : Type 0} (G : LinkGhosts L) (end : ConnectionEnd) (c c' : Connection L) (last : List ℕ) →
    c.phase ≡ phases.Serving → c'.exchange ≡ c.exchange → Moves G last [] c.link c'.link →
    EndsAs end c.exchange last → EndsWithFault end (G.broken c'.link) → EndsServed end → Proceeds G (Err end) c [] c'
over G end c c' last serving exchange m e fault served before l =
    let none = none_unread c l.unread serving l.by_phase in
    record {
      exchange = c.exchange;
      fed = l.fed;
      gone = l.gone ++ [];
      unread = last;
      given = subst (λ (x : List ℕ). G.given c'.link (x ++ last))
          (ap (λ (x : List ℕ). l.fed ++ x) none ∙ append-nil l.fed) (m.given (l.fed ++ l.unread) l.given);
      taken = m.taken l.gone l.taken;
      done = nothing_more c.exchange l.fed l.gone before l.done;
      at_end = kept_end G c.link c'.link (end_of c.exchange) m.ended l.at_end;
      by_end = e;
      fault = fault;
      finished = served_unfinished end (G.finished c'.link) served;
    }

-- one that was drained is over
pub drained : {L : Type 0} (G : LinkGhosts L) (fault : _) (c c' : Connection L) (last : List ℕ) →
    c.phase ≡ phases.Draining fault → Moves G last [] c.link c'.link →
    Proceeds G (Err (Over (ends.BadFrame fault))) c [] c'
drained G fault c c' last phase m before l =
    let in_phase = subst (λ x. IsInPhase x c.exchange l.unread) phase l.by_phase in
    record {
      exchange = c.exchange;
      fed = l.fed;
      gone = l.gone ++ [];
      unread = l.unread ++ last;
      given = subst (G.given c'.link) (append_assoc l.fed l.unread last) (m.given (l.fed ++ l.unread) l.given);
      taken = m.taken l.gone l.taken;
      done = nothing_more c.exchange l.fed l.gone before l.done;
      at_end = kept_end G c.link c'.link (end_of c.exchange) m.ended l.at_end;
      by_end = (in_phase.0, in_phase.2, inr in_phase.1);
      fault = tt;
      finished = inr (m.finished (subst (λ x. WhereDrained x (G.finished c.link)) phase l.finished));
    }

-- a connection that continues being served: its exchange did more, and its link gave what was fed
-- and took what was taken
pub steps : {L : Type 0} (G : LinkGhosts L) (c c' : Connection L) (piece bytes : List ℕ) (answered : List Answered) →
    c.phase ≡ phases.Serving → c'.phase ≡ phases.Serving → Moves G piece bytes c.link c'.link →
    DoesMore c.exchange piece answered bytes c'.exchange →
    ((before : List Answered) (fed gone : List ℕ) → HasDone fed before gone c.exchange →
    IfSome (end_so_far (end_of c.exchange)) (λ x. IsFinal x ⊎ G.ended c.link) →
    IfSome (end_so_far (end_of c'.exchange)) (λ x. IsFinal x ⊎ G.ended c'.link)) →
    Steps G c answered c'
steps G c c' piece bytes answered serving still m d end before l =
    let none = none_unread c l.unread serving l.by_phase in
    record {
      fed = l.fed ++ piece;
      gone = l.gone ++ bytes;
      unread = [];
      given = subst (G.given c'.link) (sym (append-nil (l.fed ++ piece)))
          (subst (λ (x : List ℕ). G.given c'.link (x ++ piece))
          (ap (λ (x : List ℕ). l.fed ++ x) none ∙ append-nil l.fed) (m.given (l.fed ++ l.unread) l.given));
      taken = m.taken l.gone l.taken;
      done = d l.fed before l.gone l.done;
      at_end = end before l.fed l.gone l.done l.at_end;
      by_phase = subst (λ x. IsInPhase x c'.exchange []) (sym still) refl;
      finished = served_finished G c' still;
    }

-- the end stays
pub same_end : {L : Type 0} (G : LinkGhosts L) (c c' : Connection L) → end_of c'.exchange ≡ end_of c.exchange →
    (G.ended c.link → G.ended c'.link) → IfSome (end_so_far (end_of c.exchange)) (λ x. IsFinal x ⊎ G.ended c.link) →
    IfSome (end_so_far (end_of c'.exchange)) (λ x. IsFinal x ⊎ G.ended c'.link)
same_end G c c' e f h =
    subst (λ (x : Option StreamEnd). IfSome (end_so_far x) (λ y. IsFinal y ⊎ G.ended c'.link)) (sym e)
    (kept_end G c.link c'.link (end_of c.exchange) f h)

-- one step after another
pub steps_on : {L : Type 0} (G : LinkGhosts L) (a b c : Connection L) (xs ys : List Answered) → Steps G a xs b →
    Steps G b ys c → Steps G a (xs ++ ys) c
steps_on G a b c xs ys f g before l =
    subst (Lives G c) (append_assoc before xs ys) (g (before ++ xs) (f before l))

-- a step, and the result of the next
pub goes_after : {L : Type 0} (G : LinkGhosts L) (r : Result (Unit {0}) ConnectionEnd) (a b c : Connection L)
    (xs ys : List Answered) → Steps G a xs b → Proceeds G r b ys c → Proceeds G r a (xs ++ ys) c
goes_after G (Ok x) a b c xs ys f g = steps_on G a b c xs ys f g
goes_after G (Err end) a b c xs ys f g =
    λ before l. subst (IsConnectionOver G end c.link) (append_assoc before xs ys) (g (before ++ xs) (f before l))

-- a piece came, and was fed or not
pub fed_or_over : {L : Type 0} (G : LinkGhosts L) (r : Result (Unit {0}) ConnectionEnd) (c c' : Connection L)
    (piece : List ℕ) → c.phase ≡ phases.Serving → c'.phase ≡ phases.Serving → wants_piece c.exchange ≡ true →
    waiting_in c.exchange ≡ [] → 1 ≤ length piece → length piece ≤ longest_message_piece → Moves G piece [] c.link c'.link →
    Feeds piece r c.exchange c'.exchange → Proceeds G r c [] c'
fed_or_over G (Ok x) c c' piece serving still wants_read none some short m f =
    steps G c c' piece [] [] serving still m f.0 (λ before fed gone d h. same_end G c c' f.1 m.ended h)
fed_or_over G (Err end) c c' piece serving still wants_read none some short m f = go f.2
  where
    ends_so : (x : ConnectionEnd) → end ≡ x → EndsAs x c.exchange piece → EndsWithFault x (G.broken c'.link) →
        EndsServed x → Proceeds G (Err end) c [] c'
    ends_so x e k t served =
        over G end c c' piece serving f.0 m (subst (λ y. EndsAs y c.exchange piece) (sym e) k)
        (subst (λ y. EndsWithFault y (G.broken c'.link)) (sym e) t) (subst EndsServed (sym e) served)

    go : (end ≡ Over ends.Memory)
        ⊎ ((end ≡ Over ends.TurnLimit) × (longest_stream < (pending_of c.exchange).fed + length piece)) →
        Proceeds G (Err end) c [] c'
    go (inl e) = ends_so (Over ends.Memory) e ((wants_read, none), f.1, some, short) tt tt
    go (inr e) = ends_so (Over ends.TurnLimit) e.0 ((wants_read, none), f.1, e.1) tt tt

-- an end of the stream is no fault of the link
pub ends_well : (end : StreamEnd) (broken : Type 0) → EndsWithFault (Over (ended_by end)) broken
ends_well streams.Bye broken = tt
ends_well streams.EndOfInput broken = tt
ends_well (streams.BadFrame fault) broken = tt

-- the stream has ended, and all replies are sent
pub ends_as : (end : StreamEnd) (e : Exchange) → end_of e ≡ Some end → waiting_in e ≡ [] →
    EndsAs (Over (ended_by end)) e []
ends_as streams.Bye e is none = (is, none, inl refl)
ends_as streams.EndOfInput e is none = (is, none, inl refl)
ends_as (streams.BadFrame fault) e is none = (is, none, inl refl)

-- a step, and the result of a call after it that answers nothing
pub goes_at_last : {L : Type 0} (G : LinkGhosts L) (r : Result (Unit {0}) ConnectionEnd) (a b c : Connection L)
    (xs : List Answered) → Steps G a xs b → Proceeds G r b [] c → Proceeds G r a xs c
goes_at_last G r a b c xs f g =
    subst (λ (x : List Answered). Proceeds G r a x c) (append-nil xs) (goes_after G r a b c xs [] f g)

-- some were taken of some
pub some_taken : (xs : List ℕ) (n : ℕ) → 1 ≤ n → 1 ≤ length xs → 1 ≤ length (take n xs)
some_taken xs n some there = let l = length-take n xs in min_some n (length xs) (length (take n xs)) l some there
  where
    min_some : (i j k : ℕ) → k ≡ min i j → 1 ≤ i → 1 ≤ j → 1 ≤ k
    min_some i j k e f g = omega (arith, e, f, g)

-- nothing was sent
pub none_sent : {L : Type 0} (G : LinkGhosts L) (c c' : Connection L) → c'.exchange ≡ c.exchange →
    c'.readable ≡ c.readable → c'.writable ≡ c.writable →
    c'.link ≡ c.link → (c.writable ≡ true → 1 ≤ length (waiting_in c.exchange) → ⊥) → SendsWaiting G c c'
none_sent G c c' exchange readable writable link none = record {
  bytes = [];
  does = subst (DoesMore c.exchange [] [] []) (sym exchange) (does_none c.exchange);
  left = ap (λ (e : Exchange). waiting_in e) (sym exchange);
  some = λ room some. absurd (none room some);
  wants_read = ap (λ (e : Exchange). wants_piece e) exchange;
  ended = ap (λ (e : Exchange). end_of e) exchange;
  room = inl writable;
  readable = readable;
  dry = λ dry. subst (λ l. G.dry l) (sym link) dry;
}

-- nothing was read
pub none_read : {L : Type 0} (G : LinkGhosts L) (c : Connection L) →
    (c.readable ≡ true → IsUpToDate c.exchange → ⊥) → ReadsLink G c c
none_read G c none = record {
  piece = [];
  most = omega arith;
  does = does_none c.exchange;
  some = λ bytes up. absurd (none bytes up);
  reported = inl refl;
  held = λ waits. (refl, refl);
  writable = refl;
  full = λ full. full;
}

-- nothing is to be shown of replies that wait where none do
pub none_held : {P : Type 0} (waiting : List ℕ) → waiting ≡ [] → 1 ≤ length waiting → P
none_held waiting none some = absurd (omega (arith, ap (λ (x : List ℕ). length x) none, some))

-- a piece that came was fed
pub fed_reads : {L : Type 0} (G : LinkGhosts L) (r : Result (Unit {0}) ConnectionEnd) (c c' : Connection L)
    (piece : List ℕ) → c'.writable ≡ c.writable → c'.readable ≡ c.readable → (G.full c.link → G.full c'.link) →
    waiting_in c.exchange ≡ [] → 1 ≤ length piece → length piece ≤ longest_message_piece →
    Feeds piece r c.exchange c'.exchange → OnOk r (ReadsLink G c c')
fed_reads G (Ok x) c c' piece writable readable full none some most f = record {
  piece = piece;
  most = most;
  does = f.0;
  some = λ bytes up. inl some;
  reported = inl readable;
  held = none_held (waiting_in c.exchange) none;
  writable = writable;
  full = full;
}
fed_reads G (Err end) c c' piece writable readable full none some most f = tt

-- What a quantum's calls reported of room and bytes still holds at its end.
dry_still : {L : Type 0} (G : LinkGhosts L) (d e : Connection L) → e.readable ≡ d.readable →
    StillReported G d.link e.link → IsDry G d → IsDry G e
dry_still G d e bytes reported none = (bytes ∙ none.0, reported.dry none.1)

full_still : {L S : Type 0} (G : LinkGhosts L) (answers : S → Frame → List Reply → S → Type 0) (now : ℕ) (s s' : S)
    (b c d e : Connection L) → AnswersHeld G answers now b c s s' → ReadsLink G c d → e.writable ≡ d.writable →
    StillReported G d.link e.link → IsFull G b → IsFull G e
full_still G answers now s s' b c d e h g room reported none = (
  room ∙ (g.writable ∙ (h.writable ∙ none.0)),
  reported.full (g.full (subst (λ l. G.full l) (sym h.link) none.1)),
)

-- bytes were taken, then frames were answered
answers_then : (a b c : Exchange) (bytes : List ℕ) (answered : List Answered) → DoesMore a [] [] bytes b →
    DoesMore b [] answered [] c → DoesMore a [] answered bytes c
answers_then a b c bytes answered f h =
    subst (λ (x : List ℕ). DoesMore a [] answered x c) (append-nil bytes) (does_on a b c [] [] [] answered bytes [] f h)

-- and then a piece was fed
does_in_turn : (a c d : Exchange) (bytes piece : List ℕ) (answered : List Answered) → DoesMore a [] answered bytes c →
    DoesMore c piece [] [] d → DoesMore a piece answered bytes d
does_in_turn a c d bytes piece answered f g =
    subst (λ (x : List ℕ). DoesMore a piece answered x d) (append-nil bytes)
    (subst (λ (x : List Answered). DoesMore a piece x (bytes ++ []) d) (append-nil answered)
    (does_on a c d [] piece answered [] bytes [] f g))

-- what left, and nothing after it
pub leaves_on : {L : Type 0} (G : LinkGhosts L) (waiting : List ℕ) (x y z : L) → LeavesOf G waiting x y → LeavesNone G y z →
    LeavesOf G waiting x z
leaves_on G waiting x y z f g = record {
  bytes = f.bytes;
  left = f.left;
  waited = f.waited;
  taken = λ ys p. g (ys ++ f.bytes) (f.taken ys p);
}

pub leaves_same : {L : Type 0} (G : LinkGhosts L) (x y : L) → y ≡ x → LeavesNone G x y
leaves_same G x y same ys p = subst (λ l. G.taken l ys) (sym same) p

pub leaves_of_none : {L : Type 0} (G : LinkGhosts L) (waiting : List ℕ) (x y : L) → LeavesNone G x y →
    LeavesOf G waiting x y
leaves_of_none G waiting x y f = record { bytes = []; left = waiting; waited = refl; taken = no_more G.taken x y f }

-- a quantum sends, answers, reads, and looks at the end
pub moved_on : {L S : Type 0} (G : LinkGhosts L) (answers : S → Frame → List Reply → S → Type 0) (now : ℕ) (s s' : S)
    (was_open : Bool) (r : Result (Unit {0}) ConnectionEnd) (a b c d e : Connection L) → SendsWaiting G a b →
    (h : AnswersHeld G answers now b c s s') → ReadsLink G c d → Settles now was_open r d e →
    StillReported G d.link e.link → OnOk r (Moved G a h.answered e)
moved_on G answers now s s' was_open (Err end) a b c d e f h g k reported = tt
moved_on G answers now s s' was_open (Ok x) a b c d e f h g k reported = record {
  piece = g.piece;
  bytes = f.bytes;
  left = waiting_in b.exchange;
  waited = f.left;
  most = g.most;
  does = subst (DoesMore a.exchange g.piece h.answered f.bytes) (sym k.1)
      (does_in_turn a.exchange c.exchange d.exchange f.bytes g.piece h.answered
      (answers_then a.exchange b.exchange c.exchange f.bytes h.answered f.does h.does) g.does);
  reads = λ bytes wants none. reads (g.some (h.readable ∙ (f.readable ∙ bytes)) (up (f.wants_read ∙ wants) none));
  held = λ some. (g.held (let grows = h.grows in omega (arith, some, grows))).0;
  between = c.exchange;
  answers = answers_then a.exchange b.exchange c.exchange f.bytes h.answered f.does h.does;
  feeds = subst (DoesMore c.exchange g.piece [] []) (sym k.1) g.does;
  waits = h.waits;
  sends = λ room some. stands (f.some room some);
}
  where
    up : wants_piece b.exchange ≡ true → waiting_in b.exchange ≡ [] → IsUpToDate c.exchange
    up wants none = subst IsUpToDate (sym (h.idle (inl wants))) (wants, none)

    reads : (1 ≤ length g.piece) ⊎ (is_some (end_of d.exchange) ≡ true) ⊎ IsDry G d →
        (1 ≤ length g.piece) ⊎ (is_some (end_of e.exchange) ≡ true) ⊎ IsDry G e
    reads (inl n) = inl n
    reads (inr (inl ended)) = inr (inl (ap (λ (x : Exchange). is_some (end_of x)) k.1 ∙ ended))
    reads (inr (inr none)) = inr (inr (dry_still G d e k.4 reported none))

    stands : (1 ≤ length f.bytes) ⊎ IsFull G b → (1 ≤ length f.bytes) ⊎ IsFull G e
    stands (inl n) = inl n
    stands (inr none) = inr (full_still G answers now s s' b c d e h g k.5 reported none)

-- what it learns of bytes and room
pub learns_on : {L S : Type 0} (G : LinkGhosts L) (answers : S → Frame → List Reply → S → Type 0) (now : ℕ) (s s' : S)
    (was_open : Bool) (r : Result (Unit {0}) ConnectionEnd) (a b c d e : Connection L) → SendsWaiting G a b →
    AnswersHeld G answers now b c s s' → ReadsLink G c d → Settles now was_open r d e → StillReported G d.link e.link →
    OnOk r (Learns G a e)
learns_on G answers now s s' was_open (Err end) a b c d e f h g k reported = tt
learns_on G answers now s s' was_open (Ok x) a b c d e f h g k reported = record { bytes = bytes g.reported; room = room f.room }
  where
    bytes : (d.readable ≡ c.readable) ⊎ IsDry G d → (e.readable ≡ a.readable) ⊎ IsDry G e
    bytes (inl same) = inl (k.4 ∙ (same ∙ (h.readable ∙ f.readable)))
    bytes (inr none) = inr (dry_still G d e k.4 reported none)

    room : (b.writable ≡ a.writable) ⊎ IsFull G b → (e.writable ≡ a.writable) ⊎ IsFull G e
    room (inl same) = inl (k.5 ∙ (g.writable ∙ (h.writable ∙ same)))
    room (inr none) = inr (full_still G answers now s s' b c d e h g k.5 reported none)

-- of the same connections
pub learns_at : {L : Type 0} (G : LinkGhosts L) (was c new c' : Connection L) → was ≡ c → new ≡ c' → Learns G was new →
    Learns G c c'
learns_at G was c new c' is to h = subst (λ x. Learns G c x) to (subst (λ x. Learns G x new) is h)

pub leaves_at : {L : Type 0} (G : LinkGhosts L) (was c new c' : Connection L) → was ≡ c → new ≡ c' →
    LeavesOf G (waiting_in was.exchange) was.link new.link → LeavesOf G (waiting_in c.exchange) c.link c'.link
leaves_at G was c new c' is to h =
    subst (λ x. LeavesOf G (waiting_in c.exchange) c.link x.link) to
    (subst (λ x. LeavesOf G (waiting_in x.exchange) x.link new.link) is h)

pub finished_at : {L : Type 0} (G : LinkGhosts L) (was c new c' : Connection L) → was ≡ c → new ≡ c' →
    (IsFinished G was → IsFinished G new) → IsFinished G c → IsFinished G c'
finished_at G was c new c' is to h =
    subst (λ x. IsFinished G c → IsFinished G x) to (subst (λ x. IsFinished G x → IsFinished G new) is h)

-- one that stays drained stays finished
pub finished_still : {L : Type 0} (G : LinkGhosts L) (c c' : Connection L) → c'.phase ≡ c.phase →
    (G.finished c.link → G.finished c'.link) → IsFinished G c → IsFinished G c'
finished_still G c c' same keeps h =
    subst (λ (p : Phase). WhereDrained p (G.finished c'.link)) (sym same) (go c.phase h)
  where
    go : (p : Phase) → WhereDrained p (G.finished c.link) → WhereDrained p (G.finished c'.link)
    go phases.Serving h = tt
    go (phases.Draining fault) h = keeps h

-- bytes that came were discarded
pub let_go : {L : Type 0} (G : LinkGhosts L) (c c' : Connection L) (piece : List ℕ) → 1 ≤ length piece →
    ((xs : List ℕ) → G.given c.link xs → G.given c'.link (xs ++ piece)) → DropsSent G c c'
let_go G c c' piece some given bytes = inl (piece, some, given)

pub let_go_at : {L : Type 0} (G : LinkGhosts L) (fault : WireFault) (was c new c' : Connection L) → was ≡ c → new ≡ c' →
    (was.phase ≡ phases.Draining fault → DropsSent G was new) → c.phase ≡ phases.Draining fault → DropsSent G c c'
let_go_at G fault was c new c' is to h =
    subst (λ x. c.phase ≡ phases.Draining fault → DropsSent G c x) to
    (subst (λ x. x.phase ≡ phases.Draining fault → DropsSent G x new) is h)

-- of the same connections
pub moved_at : {L : Type 0} (G : LinkGhosts L) (was c new c' : Connection L) (answered : List Answered) → was ≡ c →
    new ≡ c' → (was.phase ≡ phases.Serving → Moved G was answered new) → c.phase ≡ phases.Serving →
    Moved G c answered c'
moved_at G was c new c' answered is to h =
    subst (λ x. c.phase ≡ phases.Serving → Moved G c answered x) to
    (subst (λ x. x.phase ≡ phases.Serving → Moved G x answered new) is h)

-- the time stays, or is that of the answer, or of the stream's end
pub quiet_on : {L : Type 0} (now : ℕ) (was : Connection L) (answered : List Answered) (was_open : Bool)
    (before : Option StreamEnd) → was.phase ≡ phases.Serving → was_open ≡ not (is_some before) →
    (c c' : Connection L) (r : Result (Unit {0}) ConnectionEnd) → c.phase ≡ was.phase →
    c.since ≡ quiet_since now was.since was.phase was.phase (is_heard answered false) → Settles now was_open r c c' →
    OnOk r (c'.since ≡ quiet_since now was.since was.phase c'.phase
    (is_heard answered (has_just_ended before (end_of c'.exchange))))
quiet_on now was answered was_open before serving opened c c' (Err end) phase since s = tt
quiet_on now was answered was_open before serving opened c c' (Ok x) phase since s =
    go c'.phase ended (s.2 ∙ (ap (λ (p : Phase). quiet_since now c.since p c'.phase (was_open && is_some (end_of c.exchange)))
    (phase ∙ serving) ∙ ap (λ (b : Bool). quiet_since now c.since phases.Serving c'.phase b) same)) answered
    (since ∙ ap (λ (p : Phase). quiet_since now was.since p p (is_heard answered false)) serving)
    ∙ ap (λ (p : Phase). quiet_since now was.since p c'.phase (is_heard answered ended)) (sym serving)
  where
    ended : Bool
    ended = has_just_ended before (end_of c'.exchange)

    same : (was_open && is_some (end_of c.exchange)) ≡ ended
    same = ap (λ (b : Bool). b && is_some (end_of c.exchange)) opened
        ∙ ap (λ (e : Exchange). has_just_ended before (end_of e)) (sym s.1)

    go : (p : Phase) (b : Bool) → c'.since ≡ quiet_since now c.since phases.Serving p b → (xs : List Answered) →
        c.since ≡ quiet_since now was.since phases.Serving phases.Serving (is_heard xs false) →
        c'.since ≡ quiet_since now was.since phases.Serving p (is_heard xs b)
    go phases.Serving false e [] h = e ∙ h
    go phases.Serving false e (x ∷ xs) h = e ∙ h
    go phases.Serving true e [] h = e
    go phases.Serving true e (x ∷ xs) h = e
    go (phases.Draining fault) b e xs h = e

-- whatever a call on it returns, a drained connection stays as quiet as it was
pub quiet_drained : {L : Type 0} (now : ℕ) (c c' : Connection L) (fault : _) (heard : Bool) →
    c.phase ≡ phases.Draining fault → c'.phase ≡ c.phase → c'.since ≡ c.since →
    c'.since ≡ quiet_since now c.since c.phase c'.phase heard
quiet_drained now c c' fault heard is same since =
    since
    ∙ sym (ap (λ (p : Phase). quiet_since now c.since p c'.phase heard) is
    ∙ ap (λ (p : Phase). quiet_since now c.since (phases.Draining fault) p heard) (same ∙ is))

pub not_served : {L : Type 0} (c : Connection L) (fault : _) → c.phase ≡ phases.Draining fault →
    c.phase ≡ phases.Serving → ⊥
not_served c fault is serving = let e = sym is ∙ serving in cc

-- what a look at the stream's end leaves
pub number_left : {L : Type 0} (now : ℕ) (was_open : Bool) (r : Result (Unit {0}) ConnectionEnd) (c c' : Connection L) →
    Settles now was_open r c c' → c'.number ≡ c.number
number_left now was_open (Ok x) c c' s = s.0
number_left now was_open (Err end) c c' s = s.0

-- an end of the stream after which nothing may come
pub ended_served : (x : StreamEnd) → fault_to_drain x ≡ None → EndsServed (Over (ended_by x))
ended_served streams.Bye h = tt
ended_served streams.EndOfInput h = tt
ended_served (streams.BadFrame fault) h = only_cut (reason_meaning fault.reason) h
  where
    only_cut : (r : Reason) → unless_cut fault r ≡ None → r ≡ Cut
    only_cut Cut h = refl
    only_cut Length h = absurd cc
    only_cut Kind h = absurd cc
    only_cut Name h = absurd cc
    only_cut Number h = absurd cc
    only_cut Payload h = absurd cc

-- with which one that is served is over
pub settled_served : {L : Type 0} (now : ℕ) (was_open : Bool) (r : Result (Unit {0}) ConnectionEnd) (c c' : Connection L) →
    Settles now was_open r c c' → IfErr r EndsServed
settled_served now was_open (Ok x) c c' s = tt
settled_served now was_open (Err end) c c' s = subst EndsServed (sym s.1.3) (ended_served s.1.0 s.1.2)

-- one that is served, or drained, doesn't end for silence
pub served_aloud : (end : ConnectionEnd) → EndsServed end → IsNoSilence end
served_aloud (Over end) h = tt
served_aloud Idle h = h

-- a quantum in which one that is served breaks off
pub breaks_off : {L S : Type 0} (G : LinkGhosts L) (answers : S → Frame → List Reply → S → Type 0) (now : ℕ)
    (end : ConnectionEnd) (c c' : Connection L) (s s' : S) (answered : List Answered) → c.phase ≡ phases.Serving →
    AnswersAll answers s answered s' → length answered ≤ quantum → Proceeds G (Err end) c answered c' →
    KeepsPeer G c.link c'.link → LeavesOf G (waiting_in c.exchange) c.link c'.link → c'.number ≡ c.number →
    EndsServed end → Works G answers now (Err end) c c' s s'
breaks_off G answers now end c c' s s' answered serving by_server most goes peer leaves number served = record {
  answered = answered;
  by_server = by_server;
  most = most;
  goes = goes;
  peer = peer;
  leaves = leaves;
  number = number;
  since = tt;
  unended = tt;
  moved = λ at. tt;
  lets_go = λ fault at. tt;
  learns = tt;
  finished = λ was. tt;
  no_silence = served_aloud end served;
  served = λ at. served;
  heard = λ fault at. absurd (not_served c fault at serving);
}

pub drained_aloud : {L : Type 0} (G : LinkGhosts L) (fault : WireFault) (link : L) (end : ConnectionEnd) →
    EndsDrained G fault link end → IsNoSilence end
drained_aloud G fault link end h = subst IsNoSilence (sym h.0) tt

pub served_no_silence : (r : Result (Unit {0}) ConnectionEnd) → IfErr r EndsServed → IfErr r IsNoSilence
served_no_silence r h = IfErr-weaker r EndsServed IsNoSilence served_aloud h

pub drained_no_silence : {L : Type 0} (G : LinkGhosts L) (fault : WireFault) (link : L)
    (r : Result (Unit {0}) ConnectionEnd) → IfErr r (EndsDrained G fault link) → IfErr r IsNoSilence
drained_no_silence G fault link r h =
    IfErr-weaker r (EndsDrained G fault link) IsNoSilence (drained_aloud G fault link) h

-- a connection is drained after one fault
abbrev fault_in : Phase → WireFault → WireFault
fault_in phases.Serving other = other
fault_in (phases.Draining fault) other = fault

pub drained_at : {L : Type 0} (G : LinkGhosts L) (c : Connection L) (link : L) (fault other : WireFault)
    (r : Result (Unit {0}) ConnectionEnd) → c.phase ≡ phases.Draining fault → c.phase ≡ phases.Draining other →
    IfErr r (EndsDrained G fault link) → IfErr r (EndsDrained G other link)
drained_at G c link fault other r is at h =
    subst (λ (x : WireFault). IfErr r (EndsDrained G x link))
    (ap (λ (p : Phase). fault_in p fault) (sym is ∙ at)) h

pub open_left : {L : Type 0} (now : ℕ) (was_open : Bool) (r : Result (Unit {0}) ConnectionEnd) (c c' : Connection L) →
    Settles now was_open r c c' → OnOk r (IsOpen c')
open_left now was_open (Ok x) c c' s = s.3
open_left now was_open (Err end) c c' s = tt

-- the time is that of one that had the same
pub quiet_as : {L : Type 0} (now later : ℕ) (p : Phase) (heard : Bool) (c d : Connection L)
    (r : Result (Unit {0}) ConnectionEnd) → c.phase ≡ d.phase → c.since ≡ d.since →
    OnOk r (later ≡ quiet_since now c.since c.phase p heard) →
    OnOk r (later ≡ quiet_since now d.since d.phase p heard)
quiet_as now later p heard c d r phase since h =
    subst (λ (n : ℕ). OnOk r (later ≡ quiet_since now n d.phase p heard)) since
    (subst (λ (x : Phase). OnOk r (later ≡ quiet_since now c.since x p heard)) phase h)

pub quiet_at : {L : Type 0} (now : ℕ) (was c new c' : Connection L) (answered : List Answered) → was ≡ c → new ≡ c' →
    new.since ≡ quiet_since now was.since was.phase new.phase
    (is_heard answered (has_just_ended (end_of was.exchange) (end_of new.exchange))) →
    c'.since ≡ quiet_since now c.since c.phase c'.phase
    (is_heard answered (has_just_ended (end_of c.exchange) (end_of c'.exchange)))
quiet_at now was c new c' answered is to h =
    subst (λ x. x.since ≡ quiet_since now c.since c.phase x.phase
    (is_heard answered (has_just_ended (end_of c.exchange) (end_of x.exchange)))) to
    (subst (λ x. new.since ≡ quiet_since now x.since x.phase new.phase
    (is_heard answered (has_just_ended (end_of x.exchange) (end_of new.exchange)))) is h)

pub drained_on : {P : Type 0} (r : Result (Unit {0}) ConnectionEnd) → P → OnOk r P
drained_on (Ok x) p = p
drained_on (Err end) p = tt

-- no end had come: the one that came is final
pub new_end : {L : Type 0} (G : LinkGhosts L) (l : L) (e : Option StreamEnd) → IfSome (end_so_far e) IsFinal →
    IfSome (end_so_far e) (λ x. IsFinal x ⊎ G.ended l)
new_end G l None h = tt
new_end G l (Some end) h = inl h

-- frames were answered of one whose stream had not ended
pub answers_held : {L S : Type 0} (G : LinkGhosts L) (answers : S → Frame → List Reply → S → Type 0) (now count : ℕ)
    (s s' : S) (c c' : Connection L) → c.phase ≡ phases.Serving → wants_piece c.exchange ≡ false → is_some (end_of c.exchange) ≡ false →
    c'.link ≡ c.link → c'.readable ≡ c.readable → c'.writable ≡ c.writable → c'.number ≡ c.number → c'.phase ≡ c.phase →
    (h : AnswersSome answers quantum count s s' c.exchange c'.exchange) →
    c'.since ≡ quiet_since now c.since c.phase c.phase (is_heard h.0.answered false) → AnswersHeld G answers now c c' s s'
answers_held {L} G answers now count s s' c c' serving fed running link readable writable number phase h since = record {
  answered = h.0.answered;
  by_server = h.0.by_server;
  most = h.0.most;
  steps = steps G c c' [] [] h.0.answered serving (phase ∙ serving)
      (subst (λ (l : L). Moves G [] [] c.link l) (sym link) (still G c.link)) h.0.does
      (λ before fed gone d was. new_end G c'.link (end_of c'.exchange) (h.0.final running fed before gone d));
  does = h.0.does;
  idle = goes_on;
  grows = h.0.grows;
  waits = h.0.stops;
  link = link;
  readable = readable;
  writable = writable;
  number = number;
  phase = phase;
  since = since;
}
  where
    goes_on : IsIdle c.exchange → c'.exchange ≡ c.exchange
    goes_on (inl wants) = absurd (let both = sym fed ∙ wants in cc)
    goes_on (inr over) = absurd (let both = sym running ∙ over in cc)

-- none were answered of one that can't have any answered
pub answers_none : {L S : Type 0} (G : LinkGhosts L) (answers : S → Frame → List Reply → S → Type 0) (now : ℕ) (s : S)
    (c : Connection L) → c.phase ≡ phases.Serving → IsIdle c.exchange → AnswersHeld G answers now c c s s
answers_none G answers now s c serving idle = record {
  answered = [];
  by_server = refl;
  most = omega arith;
  steps = λ before l. subst (Lives G c) (sym (append-nil before)) l;
  does = does_none c.exchange;
  idle = λ idle. refl;
  grows = omega arith;
  waits = λ few. inl idle;
  link = refl;
  readable = refl;
  writable = refl;
  number = refl;
  phase = refl;
  since = sym (ap (λ (p : Phase). quiet_since now c.since p p false) serving);
}

-- the possible peer stays the same after a step, and after one more
pub peer_then : {L : Type 0} (G : LinkGhosts L) (x y z : L) → KeepsPeer G x y → KeepsPeer G y z → KeepsPeer G x z
peer_then G x y z f g p at = g p (f p at)

pub peer_same : {L : Type 0} (G : LinkGhosts L) (x y : L) → y ≡ x → KeepsPeer G x y
peer_same G x y same p at = subst (λ l. G.calls_from l p) (sym same) at

-- a step before which nothing was answered, and the answers after it
pub answers_on : {L S : Type 0} (G : LinkGhosts L) (answers : S → Frame → List Reply → S → Type 0) (now : ℕ)
    (a b c : Connection L) (s s' : S) → Steps G a [] b → KeepsPeer G a.link b.link → b.number ≡ a.number →
    (h : AnswersHeld G answers now b c s s') →
    Steps G a h.answered c × KeepsPeer G a.link c.link × (c.number ≡ a.number)
answers_on G answers now a b c s s' goes peer number h = (
  steps_on G a b c [] h.answered goes h.steps,
  peer_then G a.link b.link c.link peer (peer_same G b.link c.link h.link),
  h.number ∙ number,
)

-- the time, where no frame was answered, and where one was
pub quiet_where_none : {L : Type 0} (now : ℕ) (c : Connection L) (answered : List Answered) → c.phase ≡ phases.Serving →
    length answered ≡ 0 → c.since ≡ quiet_since now c.since c.phase c.phase (is_heard answered false)
quiet_where_none now c [] serving none = sym (ap (λ (p : Phase). quiet_since now c.since p p false) serving)
quiet_where_none now c (a ∷ answered) serving none = absurd (omega (arith, none))

pub quiet_where_some : {L : Type 0} (now : ℕ) (c : Connection L) (answered : List Answered) → c.phase ≡ phases.Serving →
    (length answered ≡ 0 → ⊥) → now ≡ quiet_since now c.since c.phase c.phase (is_heard answered false)
quiet_where_some now c [] serving some = absurd (some refl)
quiet_where_some now c (a ∷ answered) serving some =
    sym (ap (λ (p : Phase). quiet_since now c.since p p true) serving)

-- what a connection is and has done stays
pub woken : {L : Type 0} (G : LinkGhosts L) (c c' : Connection L) → c'.link ≡ c.link → c'.exchange ≡ c.exchange →
    c'.phase ≡ c.phase → Steps G c [] c'
woken G c c' link exchange phase before l = record {
  fed = l.fed;
  gone = l.gone;
  unread = l.unread;
  given = subst (λ x. G.given x (l.fed ++ l.unread)) (sym link) l.given;
  taken = subst (λ x. G.taken x l.gone) (sym link) l.taken;
  done = subst (HasDone l.fed (before ++ []) l.gone) (sym exchange)
      (subst (λ (x : List Answered). HasDone l.fed x l.gone c.exchange) (sym (append-nil before)) l.done);
  at_end = subst (λ (e : Exchange). IfSome (end_so_far (end_of e)) (λ x. IsFinal x ⊎ G.ended c'.link)) (sym exchange)
      (subst (λ y. IfSome (end_so_far (end_of c.exchange)) (λ x. IsFinal x ⊎ G.ended y)) (sym link) l.at_end);
  by_phase = subst (λ (e : Exchange). IsInPhase c'.phase e l.unread) (sym exchange)
      (subst (λ (p : Phase). IsInPhase p c.exchange l.unread) (sym phase) l.by_phase);
  finished = finished_still G c c' phase (λ h. subst (λ x. G.finished x) (sym link) h) l.finished;
}

-- a connection at its start
pub begun : {L : Type 0} (G : LinkGhosts L) (link : L) (number now : ℕ) (c : Connection L) → G.given link [] →
    G.taken link [] → BeginsConnection link number now c → Lives G c []
begun G link number now c given taken b = record {
  fed = [];
  gone = [];
  unread = [];
  given = subst (λ x. G.given x []) (sym b.over) given;
  taken = subst (λ x. G.taken x []) (sym b.over) taken;
  done = b.fresh;
  at_end = subst (λ (x : Option StreamEnd). IfSome (end_so_far x) (λ y. IsFinal y ⊎ G.ended c.link)) (sym b.unended) tt;
  by_phase = subst (λ (p : Phase). IsInPhase p c.exchange []) (sym b.serving) refl;
  finished = served_finished G c b.serving;
}

some_if : {X : Type 0} (b : Bool) (x y : X) → (if b then Some x else None) ≡ Some y → x ≡ y
some_if true x y e = ap (λ o. unwrap_or o x) e
some_if false x y e = absurd cc

expired_as : (p : Phase) (idle quiet : ℕ) (end : ConnectionEnd) (e : Exchange) (unread : List ℕ) →
    expired_by p idle quiet ≡ Some end → IsInPhase p e unread → EndsAs end e unread
expired_as phases.Serving idle quiet end e unread is h =
    subst (λ x. EndsAs x e unread) (some_if (nat_lt idle quiet) Idle end is) h
expired_as (phases.Draining fault) idle quiet end e unread is h =
    subst (λ x. EndsAs x e unread) (some_if (nat_lt longest_drain quiet) (Over (ends.BadFrame fault)) end is)
    (h.0, h.2, inr h.1)

expired_well : (p : Phase) (idle quiet : ℕ) (end : ConnectionEnd) (broken : Type 0) →
    expired_by p idle quiet ≡ Some end → EndsWithFault end broken
expired_well phases.Serving idle quiet end broken is =
    subst (λ x. EndsWithFault x broken) (some_if (nat_lt idle quiet) Idle end is) tt
expired_well (phases.Draining fault) idle quiet end broken is =
    subst (λ x. EndsWithFault x broken) (some_if (nat_lt longest_drain quiet) (Over (ends.BadFrame fault)) end is) tt

expired_finished : (p : Phase) (idle quiet : ℕ) (end : ConnectionEnd) (finished : Type 0) →
    expired_by p idle quiet ≡ Some end → WhereDrained p finished → ReportsFinish end finished
expired_finished phases.Serving idle quiet end finished is h =
    subst (λ x. ReportsFinish x finished) (some_if (nat_lt idle quiet) Idle end is) tt
expired_finished (phases.Draining fault) idle quiet end finished is h =
    subst (λ x. ReportsFinish x finished) (some_if (nat_lt longest_drain quiet) (Over (ends.BadFrame fault)) end is)
    (inr h)

-- a connection whose time is up is over
pub expires : {L : Type 0} (G : LinkGhosts L) (now idle : ℕ) (c : Connection L) (end : ConnectionEnd) →
    expired_at now idle c ≡ Some end → (before : List Answered) → Lives G c before → IsConnectionOver G end c.link (before ++ [])
expires G now idle c end is before l = record {
  exchange = c.exchange;
  fed = l.fed;
  gone = l.gone;
  unread = l.unread;
  given = l.given;
  taken = l.taken;
  done = subst (λ (x : List Answered). HasDone l.fed x l.gone c.exchange) (sym (append-nil before)) l.done;
  at_end = l.at_end;
  by_end = expired_as c.phase idle (silence_of now c) end c.exchange l.unread is l.by_phase;
  fault = expired_well c.phase idle (silence_of now c) end (G.broken c.link) is;
  finished = expired_finished c.phase idle (silence_of now c) end (G.finished c.link) is l.finished;
}

-- a connection whose replies may not leave is over
pub withheld : {L : Type 0} (G : LinkGhosts L) (cause : NotKept) (c : Connection L) → HoldsReplies c →
    (before : List Answered) → Lives G c before → IsConnectionOver G (Over (ends.NotKept cause)) c.link (before ++ [])
withheld G cause c holds before l = record {
  exchange = c.exchange;
  fed = l.fed;
  gone = l.gone;
  unread = l.unread;
  given = l.given;
  taken = l.taken;
  done = subst (λ (x : List Answered). HasDone l.fed x l.gone c.exchange) (sym (append-nil before)) l.done;
  at_end = l.at_end;
  by_end = (holds.some, none_unread c l.unread holds.serving l.by_phase);
  fault = tt;
  finished = tt;
}

-- A whole exchange, piece by piece.
use Rattle.std.proofs.Common.{◌≡◌, ℕ, ◌+◌, ◌-◌, ◌*◌, ◌^◌, ◌≤◌, true, false, List, [], ◌++◌, length, Option}
use Rattle.std.proofs.Common.{refl, ap, subst, ◌∙◌, arith, inl, inr}
use Rattle.std.specs.Prelude.{Bool, if◌then◌else◌, is_some, min, nat_lt}
use Rattle.std.proofs.lemmas.Bool.{ltb-false}
use Rattle.std.proofs.lemmas.List.{append-nil, length-append}
use Rattle.bw_model.specs.Wire.{Frame}
use Rattle.bw_model.specs.Replies.{Reply}
use Rattle.bw_stream.specs.Moves.{one_more, Writes}
use Rattle.bw_wire.specs.Held.{longest_message_piece}
use Rattle.bw_wire.proofs.StreamRuns.{runs_follow_streams}
use Rattle.bw_exchange.specs.declared.exchange.Exchange.{Exchange}
use Rattle.bw_exchange.specs.AnsweredFrames.{Answered, AnswersAll}
use Rattle.bw_exchange.specs.Ends.{end_so_far}
use Rattle.bw_exchange.specs.Done.{HasDone, DoesMore, IsIdle}
use Rattle.bw_exchange.specs.WholeExchanges.{HasGiven}
use Rattle.bw_exchange.specs.Pieces.{FeedsNext, WritesAnswers}
use Rattle.bw_exchange.proofs.Doing.{same_done}
use Rattle.bw_exchange.proofs.Going.{answers_append, does_on}
use Rattle.bw_exchange.proofs.Lawful.{is_exchange}
use Rattle.bw_exchange.proofs.Reading.{has_given-none, has_given-on, writes-none, writes-on}

-- so far a server, a reader and a writer were used so, by this many reads
pub record SoFar {S : Type 0} (answers : S → Frame → List Reply → S → Type 0) (reads : ℕ) (s later : S)
    (left left' written written' : Option (List ℕ)) (e : Exchange) : Type 0 where
  pub answered : List Answered
  pub by_server : AnswersAll answers s answered later
  pub input : List ℕ
  pub given : HasGiven left input left'
  pub output : List ℕ
  pub taken : Writes written output written'
  pub done : HasDone input answered output e
  pub none_wait : e.outgoing.items ≡ []
  pub wants_read : e.wants_read ≡ true
  pub least : reads ≤ length input
  pub most : length input ≤ reads * longest_message_piece

-- at the start
pub so_far-none : {S : Type 0} (answers : S → Frame → List Reply → S → Type 0) (s : S)
    (left written : Option (List ℕ)) (e : Exchange) → HasDone [] [] [] e → e.outgoing.items ≡ [] → e.wants_read ≡ true →
    SoFar answers 0 s s left left written written e
so_far-none answers s left written e d none wants_read = record {
  answered = [];
  by_server = refl;
  input = [];
  given = has_given-none left left (λ xs e. e);
  output = [];
  taken = writes-none written;
  done = d;
  none_wait = none;
  wants_read = wants_read;
  least = omega arith;
  most = omega arith;
}

-- it has fed so much
pub counted : {S : Type 0} (answers : S → Frame → List Reply → S → Type 0) (reads : ℕ) (s later : S)
    (left left' w w' : Option (List ℕ)) (e : Exchange) → SoFar answers reads s later left left' w w' e →
    e.framer.fed ≤ reads * longest_message_piece
counted answers reads s later left left' w w' e f =
    let same = (is_exchange runs_follow_streams f.input f.answered f.output e f.done).counted in
    omega (arith, same, f.most)

-- what was done after a piece and its answers
pub done_piece : (input piece output bytes : List ℕ) (xs ys : List Answered) (a b c : Exchange) →
    HasDone input xs output a → DoesMore a piece [] [] b → DoesMore b [] ys bytes c →
    HasDone (input ++ piece) (xs ++ ys) (output ++ bytes) c
done_piece input piece output bytes xs ys a b c d f g =
    subst (λ (x : List ℕ). HasDone (input ++ x) (xs ++ ys) (output ++ bytes) c) (append-nil piece)
    (does_on a b c piece [] [] ys [] bytes f g input xs output d)

-- what was done after a piece
pub fed_done : (input piece output : List ℕ) (xs : List Answered) (a b : Exchange) → HasDone input xs output a
    → DoesMore a piece [] [] b → HasDone (input ++ piece) xs output b
fed_done input piece output xs a b d f =
    same_done (input ++ piece) (input ++ piece) (xs ++ []) xs (output ++ []) output b.framer b.outgoing.items
    (end_so_far b.end) refl (append-nil xs) (append-nil output) (f input xs output d)

-- a piece that doesn't end the exchange has bytes
pub has_bytes : {S : Type 0} (answers : S → Frame → List Reply → S → Type 0) (s later : S)
    (left left' w w' : Option (List ℕ)) (moved moved' : ℕ) (a b c : Exchange) →
    (n : FeedsNext left left' moved moved' a b) → WritesAnswers answers s later w w' b c → is_some c.end ≡ false →
    1 ≤ length n.piece
has_bytes answers s later left left' w w' moved moved' a b c n g running = elim n.by_end [
  | inl x ↦ x.1
  | inr x ↦ absurd (over (ap is_some (g.stays x.0) ∙ x.0))
]
  where
    over : is_some c.end ≡ true → ⊥
    over e = cc

-- another piece
pub so_far-more : {S : Type 0} (answers : S → Frame → List Reply → S → Type 0) (reads : ℕ) (s mid later : S)
    (left left' left'' w w' w'' : Option (List ℕ)) (moved moved' : ℕ) (a b c : Exchange) →
    SoFar answers reads s mid left left' w w' a → FeedsNext left' left'' moved moved' a b →
    WritesAnswers answers mid later w' w'' b c → IsIdle c → is_some c.end ≡ false →
    SoFar answers (reads + 1) s later left left'' w w'' c
so_far-more answers reads s mid later left left' left'' w w' w'' moved moved' a b c f n g idle running =
    let len = length-append f.input n.piece in
    let some = has_bytes answers mid later left' left'' w' w'' moved moved' a b c n g running in
    record {
      answered = f.answered ++ g.answered;
      by_server = answers_append answers f.answered g.answered s mid later f.by_server g.by_server;
      input = f.input ++ n.piece;
      given = has_given-on left left' left'' f.input n.piece f.given n.given;
      output = f.output ++ g.bytes;
      taken = writes-on w w' w'' f.output g.bytes f.taken g.taken;
      done = done_piece f.input n.piece f.output g.bytes f.answered g.answered a b c f.done n.does g.does;
      none_wait = g.none_wait;
      wants_read = fed idle;
      least = omega (arith, f.least, some, len);
      most = omega (arith, f.most, n.short, len);
    }
  where
    fed : IsIdle c → c.wants_read ≡ true
    fed (inl wants_read) = wants_read
    fed (inr over) = absurd cc

-- a reader has counted as many bytes more, or as many as it can count
pub moved_on : (first moved moved' reads n : ℕ) → min (first + reads) (2 ^ 64 - 1) ≤ moved →
    moved' ≡ min (moved + n) (2 ^ 64 - 1) → 1 ≤ n → min (first + (reads + 1)) (2 ^ 64 - 1) ≤ moved'
moved_on first moved moved' reads n before e some = omega (arith, before, e, some)

-- one more of a count that stays at its last value
once_more : (n : ℕ) → (one_more n ≤ n + 1) × (min (n + 1) (2 ^ 64 - 1) ≤ one_more n)
once_more n = go (nat_lt n (2 ^ 64 - 1)) refl
  where
    go : (b : Bool) → nat_lt n (2 ^ 64 - 1) ≡ b →
        ((if b then n + 1 else n) ≤ n + 1) × (min (n + 1) (2 ^ 64 - 1) ≤ (if b then n + 1 else n))
    go true e = (omega arith, omega arith)
    go false e = (omega arith, let most = ltb-false n (2 ^ 64 - 1) e in omega (arith, most))

-- and as many calls more, or as many as it can count
pub called_on : (first calls calls' reads : ℕ) → min (first + reads) (2 ^ 64 - 1) ≤ calls →
    calls' ≡ one_more calls → min (first + (reads + 1)) (2 ^ 64 - 1) ≤ calls'
called_on first calls calls' reads before e = let m = (once_more calls).1 in omega (arith, before, e, m)

-- and no more than this many
pub called_once : (first calls calls' reads : ℕ) → calls ≤ first + reads → calls' ≡ one_more calls →
    calls' ≤ first + (reads + 1)
called_once first calls calls' reads before e = let m = (once_more calls).0 in omega (arith, before, e, m)

-- Frames that are answered one after another.
use Rattle.std.proofs.Common.{◌≡◌, ℕ, zero, suc, ◌+◌, ◌≤◌, ◌<◌, List, [], ◌++◌, length, Bool, true, false, Option, Some}
use Rattle.std.proofs.Common.{None, refl, ap, ◌∙◌, arith, ◌⊎◌, inl, inr}
use Rattle.std.specs.Prelude.{is_some, IfSome, vec_len, if◌then◌else◌}
use Rattle.std.proofs.lemmas.List.{length-append}
use Rattle.bw_model.specs.Wire.{Frame}
use Rattle.bw_model.specs.Replies.{Reply}
use Rattle.bw_exchange.specs.declared.exchange.Exchange.{Exchange}
use Rattle.bw_exchange.specs.declared.step.StreamEnd.{StreamEnd}
use Rattle.bw_exchange.specs.Ends.{end_so_far, IsFinal}
use Rattle.bw_exchange.specs.Bounds.{most_before_answer}
use Rattle.bw_exchange.specs.Done.{MustWait, AnswersUpTo, AnswersSome}
use Rattle.bw_exchange.proofs.Going.{answers_append, does_none, does_on}

-- no end that has come isn't final
pub no_end : (e : Option StreamEnd) → is_some e ≡ false → IfSome (end_so_far e) IsFinal
no_end None h = tt
no_end (Some end) h = absurd cc

-- what waits is put after what waited
pub kept_waiting : (waiting more waiting' : List ℕ) → waiting' ≡ waiting ++ more → length waiting ≤ length waiting'
kept_waiting waiting more waiting' is =
    let len = ap (λ (x : List ℕ). length x) is ∙ length-append waiting more in omega (arith, len)

-- no frame is answered
pub up_to_none : {S : Type 0} (answers : S → Frame → List Reply → S → Type 0) (s : S) (e : Exchange) →
    AnswersSome answers 0 0 s s e e
up_to_none answers s e = (
  record {
    answered = [];
    by_server = refl;
    does = does_none e;
    most = omega arith;
    stops = λ h. absurd (omega (arith, h));
    final = λ none fed before gone d. no_end e.end none;
    uses_up = omega arith;
    grows = omega arith;
  },
  refl,
)

-- one frame more is answered, where more can be
pub up_to_more : {S : Type 0} (answers : S → Frame → List Reply → S → Type 0) (n : ℕ) (s mid later : S)
    (a b c : Exchange) → (f : AnswersUpTo answers n s mid a b) → (MustWait b → ⊥) →
    (g : AnswersUpTo answers 1 mid later b c) →
    AnswersSome answers (n + 1) (length f.answered + length g.answered) s later a c
up_to_more answers n s mid later a b c f goes g =
    let len = length-append f.answered g.answered in (
      record {
        answered = f.answered ++ g.answered;
        by_server = answers_append answers f.answered g.answered s mid later f.by_server g.by_server;
        does = does_on a b c [] [] f.answered g.answered [] [] f.does g.does;
        most = omega (arith, f.most, g.most, len);
        stops = λ h. elim (all_or_fewer (length f.answered) n f.most) [
          | inl all ↦ g.stops (omega (arith, h, all, len))
          | inr fewer ↦ absurd (goes (f.stops fewer))
        ];
        final = λ none fed before gone d.
            g.final (runs (is_some b.end) refl) (fed ++ []) (before ++ f.answered) (gone ++ [])
            (f.does fed before gone d);
        uses_up = omega (arith, f.uses_up, g.uses_up, len);
        grows = omega (arith, f.grows, g.grows);
      },
      len,
    )
  where
    runs : (over : Bool) → is_some b.end ≡ over → is_some b.end ≡ false
    runs true e = absurd (goes (inl (inr e)))
    runs false e = e

    all_or_fewer : (k n : ℕ) → k ≤ n → (k ≡ n) ⊎ (k < n)
    all_or_fewer zero zero h = inl refl
    all_or_fewer zero (suc n) h = inr (omega arith)
    all_or_fewer (suc k) zero h = absurd (omega (arith, h))
    all_or_fewer (suc k) (suc n) h = elim (all_or_fewer k n (omega (arith, h))) [
      | inl e ↦ inl (omega (arith, e))
      | inr l ↦ inr (omega (arith, l))
    ]

-- this many frames are answered, and then one or none
some_more : {S : Type 0} (answers : S → Frame → List Reply → S → Type 0) (n k : ℕ) (s mid later : S)
    (a b c : Exchange) → AnswersSome answers n n s mid a b → (MustWait b → ⊥) → AnswersSome answers 1 k mid later b c →
    AnswersSome answers (n + 1) (n + k) s later a c
some_more answers n k s mid later a b c f goes g =
    let more = up_to_more answers n s mid later a b c f.0 goes g.0 in
    (more.0, more.1 ∙ (ap (λ (m : ℕ). m + length g.0.answered) f.1 ∙ ap (λ (m : ℕ). n + m) g.1))

-- one more
pub some_one : {S : Type 0} (answers : S → Frame → List Reply → S → Type 0) (n : ℕ) (one : Bool) (s mid later : S)
    (a b c : Exchange) → one ≡ true → AnswersSome answers n n s mid a b → (MustWait b → ⊥) →
    AnswersSome answers 1 (if one then 1 else 0) mid later b c → AnswersSome answers (n + 1) (n + 1) s later a c
some_one answers n true s mid later a b c is f goes g = some_more answers n 1 s mid later a b c f goes g
some_one answers n false s mid later a b c is f goes g = absurd cc

-- no more are answered, of as many as were asked for, since it must wait
pub some_of : {S : Type 0} (answers : S → Frame → List Reply → S → Type 0) (n turns : ℕ) (s later : S)
    (a b : Exchange) → n ≤ turns → MustWait b → AnswersSome answers n n s later a b →
    AnswersSome answers turns n s later a b
some_of answers n turns s later a b le waits f = (
  record {
    answered = f.0.answered;
    by_server = f.0.by_server;
    does = f.0.does;
    most = (let len = f.1 in omega (arith, len, le));
    stops = λ h. waits;
    final = f.0.final;
    uses_up = f.0.uses_up;
    grows = f.0.grows;
  },
  f.1,
)

-- the next call answers none
pub some_stopped : {S : Type 0} (answers : S → Frame → List Reply → S → Type 0) (n turns : ℕ) (one : Bool)
    (s mid later : S) (a b c : Exchange) → one ≡ false → n < turns → AnswersSome answers n n s mid a b →
    (MustWait b → ⊥) → AnswersSome answers 1 (if one then 1 else 0) mid later b c →
    AnswersSome answers turns n s later a c
some_stopped answers n turns true s mid later a b c is le f goes g = absurd cc
some_stopped answers n turns false s mid later a b c is le f goes g =
    let more = some_more answers n 0 s mid later a b c f goes g in
    let len : length more.0.answered ≡ n + 0 = more.1 in (
      record {
        answered = more.0.answered;
        by_server = more.0.by_server;
        does = more.0.does;
        most = omega (arith, len, le);
        stops = λ h. more.0.stops (omega (arith, len));
        final = more.0.final;
        uses_up = more.0.uses_up;
        grows = more.0.grows;
      },
      omega (arith, len),
    )

-- if it is neither idle nor without room, it needn't wait
pub goes_on : (e : Exchange) → e.wants_read ≡ false → is_some e.end ≡ false → vec_len e.outgoing ≤ most_before_answer →
    MustWait e → ⊥
goes_on e fed running room (inl (inl wants_read)) = cc
goes_on e fed running room (inl (inr over)) = cc
goes_on e fed running room (inr full) = omega (arith, room, full)

use Rattle.std.proofs.Common.{rules, ap, ◌∙◌, sym, subst, [], ◌∷◌, ◌++◌, arith, Option, None, inl, inr, refl}
use Rattle.std.proofs.lemmas.List.{append-nil}
use Rattle.bw_model.specs.Stream.{End}
use Rattle.bw_wire.specs.Codecs.{message_codec}
use Rattle.bw_wire.specs.FramerStates.{Nothing, next_of}
use Rattle.bw_wire.specs.Runs.{given_by}
use Rattle.bw_exchange.specs.Bounds.{most_held}
use Rattle.bw_exchange.specs.Ends.{end_so_far}
use Rattle.bw_exchange.specs.Done.{Done}
use Rattle.bw_exchange.proofs.Staying.{stays}
use Rattle.bw_exchange.proofs.Doing.{done_answer, done_quiet}
use Rattle.bw_exchange.proofs.Holding.{held_on, used_up, kept_little}
use Rattle.bw_exchange.proofs.Lawful.{final_end}
use Rattle.bw_exchange.proofs.Turning.{kept_waiting, no_end}
use Rattle.bw_exchange.proofs.Going.{none_so_far, done_end, answers_one, no_turns}
use Rattle.bw_exchange.proofs.exchange.Exchange.answer_one.Goals as goal

pub invariant_of-self : goal.invariant_of-self
invariant_of-self g c =
    let a = c.in-WantsRead.ensures.takes in
    let s = c.args.self.now in
    let little = kept_little s.framer c.take_next.new.framer a.comes.0 a.little a.next in record {
      capacity = search rules;
      waiting = search rules;
      room = search rules;
      «open» = λ h. c.requires.«open»;
      quiet = λ h. (stays s.framer c.take_next.new.framer Nothing a.comes.0 a.next tt, little);
      held = omega (arith, little.0);
      block = omega (arith, little.1);
    }

pub invariant_of-self-in-Answered-clause-held : goal.invariant_of-self-in-Answered-clause-held
invariant_of-self-in-Answered-clause-held g c =
    let a = c.in-Answered.ensures.takes in
    let s = c.args.self.now in
    (held_on most_held s.framer c.take_next.new.framer (omega arith) (s.held, s.block) a.little a.next).0

pub invariant_of-self-in-Answered-clause-block : goal.invariant_of-self-in-Answered-clause-block
invariant_of-self-in-Answered-clause-block g c =
    let a = c.in-Answered.ensures.takes in
    let s = c.args.self.now in
    (held_on most_held s.framer c.take_next.new.framer (omega arith) (s.held, s.block) a.little a.next).1

pub invariant_of-self-in-Ended-clause-held : goal.invariant_of-self-in-Ended-clause-held
invariant_of-self-in-Ended-clause-held g c =
    let a = c.in-Ended.ensures.takes in
    let s = c.args.self.now in
    (held_on most_held s.framer c.take_next.new.framer (omega arith) (s.held, s.block) a.little a.next).0

pub invariant_of-self-in-Ended-clause-block : goal.invariant_of-self-in-Ended-clause-block
invariant_of-self-in-Ended-clause-block g c =
    let a = c.in-Ended.ensures.takes in
    let s = c.args.self.now in
    (held_on most_held s.framer c.take_next.new.framer (omega arith) (s.held, s.block) a.little a.next).1

pub returns-in-WantsRead-clause-answers : goal.returns-in-WantsRead-clause-answers
returns-in-WantsRead-clause-answers g c =
    let a = c.in-WantsRead.ensures.takes in
    let s = c.args.self.now in
    let q = c.take_next.new.framer in
    let w = c.take_next.new.outgoing.items in
    let none = none_so_far s.end c.requires.«open» in
    let quiet = ap (given_by message_codec) a.comes.0 in (
      record {
        answered = [];
        by_server = a.comes.1;
        does = λ fed before gone d.
            subst (λ (x : Option End). Done (fed ++ []) (before ++ []) (gone ++ []) q w x) (sym none)
            (done_quiet fed before gone s.framer s.outgoing.items None w q quiet a.next
            (a.comes.2 ∙ sym (append-nil s.outgoing.items)) refl tt
            (subst (λ (x : Option End). Done fed before gone s.framer s.outgoing.items x) none d));
        most = search rules;
        stops = λ h. inl (inl refl);
        final = λ none fed before gone d. no_end s.end none;
        uses_up = used_up s.framer q [] a.next quiet;
        grows = kept_waiting s.outgoing.items [] w (a.comes.2 ∙ sym (append-nil s.outgoing.items));
      },
      refl,
    )

pub returns-in-Answered-clause-answers : goal.returns-in-Answered-clause-answers
returns-in-Answered-clause-answers g c =
    let a = c.in-Answered.ensures.takes in
    let t = a.comes in
    let s = c.args.self.now in
    let q = c.take_next.new.framer in
    let w = c.take_next.new.outgoing.items in
    let none = none_so_far s.end c.requires.«open» in (
      record {
        answered = record { frame = t.frame; replies = t.replies } ∷ [];
        by_server = answers_one g.T.Turns.answers _ _ t.frame t.replies t.answered;
        does = λ fed before gone d.
            subst (λ (x : Option End). Done (fed ++ []) (before ++ record { frame = t.frame; replies = t.replies } ∷ [])
            (gone ++ []) q w x) (sym none)
            (done_answer fed before gone s.framer s.outgoing.items t.frame t.replies w q t.goes_on a.next t.waits t.spelled
            (subst (λ (x : Option End). Done fed before gone s.framer s.outgoing.items x) none d));
        most = search rules;
        stops = λ h. absurd (omega (arith, h));
        final = λ none fed before gone d. no_end s.end none;
        uses_up = used_up s.framer q (t.frame ∷ []) a.next t.goes_on;
        grows = kept_waiting s.outgoing.items _ w t.waits;
      },
      search rules,
    )

pub returns-in-Ended-clause-answers : goal.returns-in-Ended-clause-answers
returns-in-Ended-clause-answers g c =
    let a = c.in-Ended.ensures.takes in
    let s = c.args.self.now in
    let q = c.take_next.new.framer in
    let w = c.take_next.new.outgoing.items in (
      record {
        answered = [];
        by_server = a.comes.1;
        does = λ fed before gone d.
            done_end fed before gone s.framer s.outgoing.items s.end c.in-Ended.end w q
            c.requires.«open» a.comes.0 a.next a.comes.2 a.comes.3 d;
        most = search rules;
        stops = λ h. inl (inr refl);
        final = λ none fed before gone d.
            final_end fed before gone s.framer s.outgoing.items (end_so_far s.end) c.in-Ended.end d a.comes.0;
        uses_up = used_up s.framer q [] a.next
            (no_turns c.in-Ended.end (next_of message_codec s.framer).0 a.comes.0);
        grows = kept_waiting s.outgoing.items _ w a.comes.2;
      },
      refl,
    )

-- Each connection of a server answers over its own link.
use mathlib.Core.Logic.{inl, inr}
use Rattle.std.proofs.Common.{ℕ, suc, zero, List, [], ◌∷◌, ◌++◌, sym, ◌∙◌, ap, subst, arith, append_assoc}
use Rattle.std.specs.List.{AllByRecursion, Contains, list_all}
use Rattle.std.proofs.lemmas.Bool.{and_parts}
use Rattle.std.proofs.lemmas.List.Folds.{list_all-append}
use Rattle.bw_model.specs.Replies.{is_reply}
use Rattle.bw_exchange.specs.AnsweredFrames.{Answered, replies_of}
use Rattle.bw_exchange.specs.Done.{last_of}
use Rattle.bw_ports.specs.declared.link.Link.{Ghosts as LinkGhosts}
use Rattle.bw_connections.specs.ConnectionTables.{own}
use Rattle.bw_connections.specs.ConnectionBytes.{ServesConnection, EndsLink}
use Rattle.bw_delivery.specs.Statement.{LinkBytes}
use Rattle.bw_end_to_end.specs.ServedLinks.{AnswersOver, IsServerEnd, ConnectionsAnswer}

pub all_contain : {X : Type 0} (P : X → Type 0) (xs : List X) (x : X) → AllByRecursion P xs → Contains xs x → P x
all_contain P [] x h (k, below, e) = absurd (omega arith)
all_contain P (y ∷ ys) x h (zero, below, e) = subst P e h.0
all_contain P (y ∷ ys) x h (suc k, below, e) = all_contain P ys x h.1 (k, omega arith, e)

module _ {L : Type 0} (G : LinkGhosts L) where
  answers_link : (link : L) (answered : List Answered) (l : LinkBytes) → ServesConnection G link answered →
      IsServerEnd G link l → AnswersOver answered l.received l.answered
  answers_link link answered l s end =
      let x = s.exchanged in
      let part = end.answered s.output x.taken in
      record {
        read = s.input;
        read_part = end.received s.input x.given;
        first = x.prefix;
        spelled = (and_parts (list_all is_reply (replies_of answered)) (list_all is_reply (last_of s.stream_end))
            (sym (list_all-append is_reply (replies_of answered) (last_of s.stream_end)) ∙ x.spelled)).0;
        end = s.stream_end;
        part = (
          part.0 ++ s.unsent,
          sym (append_assoc l.answered part.0 s.unsent) ∙ ap (λ (z : List ℕ). z ++ s.unsent) part.1 ∙ x.replies,
        );
      }

  pub connections_answer : ConnectionsAnswer G
  connections_answer m over trace s n link l (inl (i, c, holds, number, is)) end =
      subst (λ (k : ℕ). AnswersOver (own k trace) l.received l.answered) number
      (answers_link c.link (own c.number trace) l (s.stands i c holds)
      (subst (λ (z : L). IsServerEnd G z l) (sym is) end))
  connections_answer m over trace s n link l (inr (x, has, number, is)) end =
      subst (λ (k : ℕ). AnswersOver (own k trace) l.received l.answered) number
      (answers_link x.link (own x.number trace) l
      (all_contain (λ y. EndsLink G y.end y.link (own y.number trace)) over x s.ended has).serves
      (subst (λ (z : L). IsServerEnd G z l) (sym is) end))

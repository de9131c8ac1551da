-- What an observer's calls make of it, one after another.
use Rattle.std.proofs.Common.{◌≡◌, ◌∙◌, ◌++◌, [], inr, ℕ, suc, List, refl, sym, subst, ap}
use Rattle.std.proofs.Common.{arith, append-nil, drop, drop_of_length-le, length, take, take_all}
use Rattle.std.specs.Prelude.{Result, Ok, Err, IfOk, Option, Some}
use Rattle.bw_model.specs.Book.{Book}
use Rattle.bw_ports.specs.declared.link.Link.{Ghosts as LinkGhosts}
use Rattle.bw_serve.specs.declared.observing.RoundReport.{RoundReport}
use Rattle.bw_status.specs.declared.answer.Answer.{Answer}
use Rattle.bw_operators.specs.OperatorPlaces.{AdmitsAt, IsNextPlace, LastsLongest, LeavesOtherPlaces, StepsAt}
use Rattle.bw_operators.specs.AllowLists.{AllowRules}
use Rattle.bw_operators.specs.OperatorPlaces.{asked_at}
use Rattle.bw_operators.specs.declared.port.StatusPort.{Ghosts as PortGhosts}
use Rattle.bw_operators.specs.declared.operators.Operators.{Operators}
use Rattle.bw_serve_status.specs.Looks.{Accepts, Moment, RespondsToOne, ShowsOrCloses}
use Rattle.bw_serve_status.specs.declared.growth.Growth.{Growth}
use Rattle.bw_serve_status.specs.declared.tallied.Tallied.{Tallied}

abbrev pub moment_with : ℕ → ℕ → Option ℕ → List Growth → AllowRules → Moment
moment_with now since resumed growth allow =
    record { now = now; since = since; resumed = resumed; growth = growth; allow = allow }

-- the port reported the same time and the same start
pub same_moment : (now now' since since' : ℕ) (resumed : Option ℕ) (growth : List Growth) (allow : AllowRules) →
    now' ≡ now → since' ≡ since →
    moment_with now' since' resumed growth allow ≡ moment_with now since resumed growth allow
same_moment now now' since since' resumed growth allow e f = rw (e, f) refl

-- one more operator is accepted
pub accepts_one : {L : Type 0} (now : ℕ) (o between o' : Operators L) (place : ℕ) (link : L) →
    IsNextPlace between now place → AdmitsAt place link now o' → LeavesOtherPlaces place between o' →
    Accepts now o between → Accepts now o o'
accepts_one now o between o' place link next admits others before = (
  suc before.0,
  (
    between,
    before.1,
    record {
      place = place;
      next = next;
      link = link;
      admits = admits;
      others = others;
    },
  ),
)

-- a list that is written over another one of its length
pub written_over : {X : Type 0} (xs ys : List X) (n : ℕ) → length ys ≡ length xs → n ≡ length xs →
    take n (ys ++ drop (length ys) xs) ≡ ys
written_over {X} xs ys n same all =
    let rest : drop (length ys) xs ≡ [] = drop_of_length-le xs (omega (arith, same)) in
    ap (λ (zs : List X). take n (ys ++ zs)) rest ∙ ap (take n) (append-nil ys)
    ∙ take_all n ys (omega (arith, same, all))

-- what holds of each result that is Ok holds of what follows from it
pub if_ok : {T E : Type 0} (P Q : T → Type 0) (r : Result T E) → ((x : T) → P x → Q x) → IfOk r P → IfOk r Q
if_ok P Q (Ok x) f h = f x h
if_ok P Q (Err e) f h = tt

module _ {T P L : Type 0} (holds : T → (List ℕ → Option (List ℕ)) → Book → Type 0) (port : PortGhosts P L)
    (G : LinkGhosts L) where
  -- a response, and another step of each connection
  pub responds_to_oldest : (server : Tallied T) (round : RoundReport) (m m' : Moment) (now place : ℕ)
      (answer : Answer) (asking after left left' : Operators L) → now ≡ m.now → m' ≡ m → left' ≡ left →
      asked_at asking place ≡ Some answer → LastsLongest asking place →
      ShowsOrCloses holds port server round m place answer asking after → LeavesOtherPlaces place asking after →
      ((j : ℕ) → StepsAt G now after left j) → RespondsToOne holds port G server round m' asking left'
  responds_to_oldest server round m m' now place answer asking after left left' at same kept asked longest responds
      others steps =
      subst (λ x. RespondsToOne holds port G server round x asking left') (sym same)
      (subst (λ x. RespondsToOne holds port G server round m asking x) (sym kept) (inr (record {
        place = place;
        answer = answer;
        asked = asked;
        longest = longest;
        after = after;
        responds = responds;
        others = others;
        steps = subst (λ n. (j : ℕ) → StepsAt G n after left j) at steps;
      })))

-- What a guarded server answers.
use Rattle.std.proofs.Common.{◌≡◌, ◌∙◌, ◌⊎◌, inl, inr, Bool, true, false, None, List, [], ◌∷◌, refl, sym, subst}
use Rattle.std.specs.declared.net.socket_addr.SocketAddr.{SocketAddr}
use Rattle.bw_model.specs.Wire.{Frame}
use Rattle.bw_model.specs.Replies.{Reply}
use Rattle.bw_operators.specs.AllowLists.{AllowRules, may_come}
use Rattle.bw_exchange.specs.AnsweredFrames.{Answered, AnswersAll}
use Rattle.bw_serve.specs.OneName.{frame_name}
use Rattle.bw_serve.specs.Guards.{turned_away, GuardedAs, Guarded, GuardedOverCommits, Rests, FromPeer}
use Rattle.bw_serve.specs.Guards.{LeavesAllowed, AnswersAllowed, GuardedRunsAreRuns}

-- what came from one peer came from some
pub from_peer : {S : Type 0} (answers : SocketAddr → S → Frame → List Reply → S → Type 0) (peer : SocketAddr) (s : S)
    (xs : List Answered) (s' : S) → AnswersAll (answers peer) s xs s' → AnswersAll (FromPeer answers) s xs s'
from_peer answers peer s [] s' h = h
from_peer answers peer s (a ∷ xs) s' h =
    (h.0, record { peer = peer; answered = h.1 }, from_peer answers peer h.0 xs s' h.2)

module _ {S : Type 0} (rests : S → S → Type 0) (answers : S → Frame → List Reply → S → Type 0) (rules : AllowRules)
    (peer : SocketAddr) (s : S) (frame : Frame) (replies : List Reply) (s' : S) where
  pub passed_so : may_come rules peer (frame_name frame) ≡ true → answers s frame replies s' →
      GuardedAs rests answers rules peer s frame replies s'
  passed_so is h = record { passed = λ same. h; refused = λ barred. absurd (let e = sym is ∙ barred in cc) }

  pub refused_so : may_come rules peer (frame_name frame) ≡ false → replies ≡ turned_away frame → rests s s' →
      GuardedAs rests answers rules peer s frame replies s'
  refused_so is h r = record { passed = λ told. absurd (let e = sym is ∙ told in cc); refused = λ same. (h, r) }

-- After a run a commit comes, which is part of the last turn that wasn't turned away.
module _ {S : Type 0} (answers : S → Frame → List Reply → S → Type 0) (rules : AllowRules) (t t' : S)
    (keeps : (first : S) (frame : Frame) (replies : List Reply) → answers first frame replies t →
    answers first frame replies t') where
  abbrev Run : S → List Answered → S → Type 0
  Run s xs u = AnswersAll (FromPeer (Guarded answers rules)) s xs u

  -- the run ends after the commit; or nothing has changed in it, wherever it begins
  abbrev Committed : S → List Answered → Type 0
  Committed s xs = Run s xs t' ⊎ ((t ≡ s) × ((u : S) → Run u xs u))

  one_committed : (s : S) (a : Answered) (xs : List Answered) → Run s (a ∷ xs) t → (mid : S) →
      FromPeer (Guarded answers rules) s a.frame a.replies mid → Committed mid xs → Committed s (a ∷ xs)
  one_committed s a xs run mid one (inl more) = inl (mid, one, more)
  one_committed s a xs run mid one (inr (is, rest)) = go (may_come rules one.peer (frame_name a.frame)) refl
    where
      go : (b : Bool) → may_come rules one.peer (frame_name a.frame) ≡ b → Committed s (a ∷ xs)
      go true told =
          inl (
            t',
            record {
              peer = one.peer;
              answered = passed_so (λ x x'. x' ≡ x) answers rules one.peer s a.frame a.replies t' told
                  (keeps s a.frame a.replies (subst (λ x. answers s a.frame a.replies x) (sym is)
                  (one.answered.passed told)));
            },
            rest t',
          )
      go false barred =
          let r = one.answered.refused barred in
          inr (
            is ∙ r.1,
            λ u. (
              u,
              record {
                peer = one.peer;
                answered = refused_so (λ x x'. x' ≡ x) answers rules one.peer u a.frame a.replies u barred r.0 refl;
              },
              rest u,
            ),
          )

  each_committed : (s : S) (xs : List Answered) → Run s xs t → Committed s xs
  each_committed s [] run = inr (run, λ u. refl)
  each_committed s (a ∷ xs) run = one_committed s a xs run run.0 run.1 (each_committed run.0 xs run.2)

  pub guarded_committed : (s : S) (xs : List Answered) → (t ≡ s → t' ≡ t) → Run s xs t → Run s xs t'
  guarded_committed s xs idle run = go (each_committed s xs run)
    where
      go : Committed s xs → Run s xs t'
      go (inl h) = h
      go (inr (is, rest)) = subst (Run s xs) (sym (idle is ∙ is)) (rest s)

-- The law.
module _ {S : Type 0} (answers : S → Frame → List Reply → S → Type 0) (committed : S → Type 0) where
  rests_still : (s s' : S) → s' ≡ s → Rests answers committed s s'
  rests_still s s' is = record {
    answered = λ first frame replies h. subst (λ x. answers first frame replies x) (sym is) h;
    unchanged = λ all. is;
  }

  rests_then : (s m s' : S) → Rests answers committed s m → Rests answers committed m s' → Rests answers committed s s'
  rests_then s m s' f g = record {
    answered = λ first frame replies h. g.answered first frame replies (f.answered first frame replies h);
    unchanged = λ all. let is = f.unchanged all in g.unchanged (subst committed (sym is) all) ∙ is;
  }

  -- after commits at most, a run of the server itself
  record AfterRest (rules : AllowRules) (s : S) (xs : List Answered) (s' : S) : Type 0 where
    mid : S
    rests : Rests answers committed s mid
    own : List Answered
    leaves : LeavesAllowed rules xs own
    run : AnswersAll answers mid own s'

  one_more : (rules : AllowRules) (s : S) (a : Answered) (xs : List Answered) (mid s' : S) →
      FromPeer (GuardedOverCommits answers committed rules) s a.frame a.replies mid → AfterRest rules mid xs s' →
      AfterRest rules s (a ∷ xs) s'
  one_more rules s a xs mid s' one more = go (may_come rules one.peer (frame_name a.frame)) refl
    where
      go : (b : Bool) → may_come rules one.peer (frame_name a.frame) ≡ b → AfterRest rules s (a ∷ xs) s'
      go true told = record {
        mid = s;
        rests = rests_still s s refl;
        own = a ∷ more.own;
        leaves = inr (record { peer = one.peer; allowed = told }, (more.own, refl, more.leaves));
        run = (more.mid, more.rests.answered s a.frame a.replies (one.answered.passed told), more.run);
      }
      go false barred = let r = one.answered.refused barred in record {
        mid = more.mid;
        rests = rests_then s mid more.mid r.1 more.rests;
        own = more.own;
        leaves = inl (record { peer = one.peer; refused = barred; replies = r.0 }, more.leaves);
        run = more.run;
      }

  after_rest : (rules : AllowRules) (s : S) (xs : List Answered) (s' : S) →
      AnswersAll (FromPeer (GuardedOverCommits answers committed rules)) s xs s' → AfterRest rules s xs s'
  after_rest rules s [] s' h = record {
    mid = s;
    rests = rests_still s s refl;
    own = [];
    leaves = refl;
    run = h;
  }
  after_rest rules s (a ∷ xs) s' h = one_more rules s a xs h.0 s' h.1 (after_rest rules h.0 xs s' h.2)

  pub allowed_over_commits : (rules : AllowRules) (s : S) (xs : List Answered) (s' : S) → committed s →
      AnswersAll (FromPeer (GuardedOverCommits answers committed rules)) s xs s' →
      AnswersAllowed answers rules s xs s'
  allowed_over_commits rules s xs s' all h =
      let r = after_rest rules s xs s' h in
      (r.own, r.leaves, subst (λ x. AnswersAll answers x r.own s') (r.rests.unchanged all) r.run)

  pub all_over_commits : (s : S) (xs : List Answered) (s' : S) →
      AnswersAll (FromPeer (GuardedOverCommits answers committed None)) s xs s' → AnswersAll answers s xs s'
  all_over_commits s [] s' h = h
  all_over_commits s (a ∷ xs) s' h = (h.0, h.1.answered.passed refl, all_over_commits h.0 xs s' h.2)

-- what changes nothing may be over commits
module _ {S : Type 0} (answers : S → Frame → List Reply → S → Type 0) (rules : AllowRules) where
  over_none : (s : S) (xs : List Answered) (s' : S) → AnswersAll (FromPeer (Guarded answers rules)) s xs s' →
      AnswersAll (FromPeer (GuardedOverCommits answers (λ x. Unit {0}) rules)) s xs s'
  over_none s [] s' h = h
  over_none s (a ∷ xs) s' h = (
    h.0,
    record {
      peer = h.1.peer;
      answered = record {
        passed = h.1.answered.passed;
        refused = λ barred.
            let r = h.1.answered.refused barred in
            (r.0, rests_still answers (λ x. Unit {0}) s h.0 r.1);
      };
    },
    over_none h.0 xs s' h.2,
  )

  pub allowed_only : (s : S) (xs : List Answered) (s' : S) → AnswersAll (FromPeer (Guarded answers rules)) s xs s' →
      AnswersAllowed answers rules s xs s'
  allowed_only s xs s' h = allowed_over_commits answers (λ x. Unit {0}) rules s xs s' tt (over_none s xs s' h)

pub runs_are_runs : {S : Type 0} (answers : S → Frame → List Reply → S → Type 0) (committed : S → Type 0) →
    GuardedRunsAreRuns answers committed
runs_are_runs answers committed = record {
  guarded = allowed_only answers;
  over_commits = allowed_over_commits answers committed;
  everyone = λ s xs s' h. all_over_commits answers (λ x. Unit {0}) s xs s' (over_none answers None s xs s' h);
  everyone_over_commits = all_over_commits answers committed;
}

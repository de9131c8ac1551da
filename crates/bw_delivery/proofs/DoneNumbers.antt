-- What keeps the done numbers of a log.
use Rattle.std.proofs.Common.{◌≡◌, ℕ, ◌<◌, ◌≤◌, Bool, List, refl, sym, ◌∙◌, ap, subst, arith}
use Rattle.bw_model.specs.Take.{Verdict}
use Rattle.bw_model.specs.Book.{Log, Book, log_of}
use Rattle.bw_journal.specs.Stops.{cut_log, cut_book}
use Rattle.bw_journal.proofs.CutLaws.{at-take, logs_cut, verdict-cut}
use Rattle.bw_kept.specs.LeftFolders.{DoesFewer}
use Rattle.bw_delivery.specs.Lives.{KeepsDoneNumbers, IsVerdictOf}

module _ (taken : Bool) where
  pub keeps_itself : (log : Log) → KeepsDoneNumbers taken log log
  keeps_itself log = record { done = omega arith; requests = λ n below. refl; verdicts = λ n below. refl }

  pub keeps_on : (a b c : Log) → KeepsDoneNumbers taken a b → KeepsDoneNumbers taken b c → KeepsDoneNumbers taken a c
  keeps_on a b c f g =
      let first = f.done in
      let second = g.done in
      record {
        done = omega (arith, first, second);
        requests = λ n below. g.requests n (omega (arith, first, below)) ∙ f.requests n below;
        verdicts = λ n below. g.verdicts n (omega (arith, first, below)) ∙ f.verdicts n below;
      }

  -- a verdict stays
  pub done_stays : (old new : Log) → KeepsDoneNumbers taken old new → (n : ℕ) (v : Verdict) → IsVerdictOf taken old n v →
      IsVerdictOf taken new n v
  done_stays old new k n v is =
      let below : n < old.done = is.0 in
      let more = k.done in
      ((let b : n < new.done = omega (arith, below, more) in b), is.1 ∙ sym (k.verdicts n below))

  -- the first numbers of a later log are done, at least these
  pub keeps_first : (old log left : Log) → KeepsDoneNumbers taken old log → DoesFewer log left → old.done ≤ left.done →
      KeepsDoneNumbers taken old left
  keeps_first old log left k d least =
      let e : left.done ≡ d.kept = ap (λ (l : Log). l.done) d.is in
      subst (KeepsDoneNumbers taken old) (sym d.is)
      (record { done = omega (arith, least, e); requests = k.requests; verdicts = k.verdicts })

  -- the log is cut to its done numbers
  keeps_cut : (log : Log) → KeepsDoneNumbers taken log (cut_log log)
  keeps_cut log = record {
    done = omega arith;
    requests = λ n below. at-take log.done n log.admitted below;
    verdicts = λ n below. verdict-cut taken log.admitted log.done n below;
  }

  pub keeps_in_cut : (book : Book) (name : List ℕ) → KeepsDoneNumbers taken (log_of book name) (log_of (cut_book book) name)
  keeps_in_cut book name =
      subst (KeepsDoneNumbers taken (log_of book name)) (sym (logs_cut book name)) (keeps_cut (log_of book name))

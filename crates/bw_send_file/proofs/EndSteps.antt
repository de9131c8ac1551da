-- With the status 0 all that a feed was to give is stored.
use Rattle.std.proofs.Common.{◌≡◌, ◌⊎◌, ◌∙◌, ℕ, List, ◌++◌, ap, sym, refl, true, inl, inr, append-nil}
use Rattle.std.specs.declared.io.ErrorKind.{ErrorKind}
use Rattle.bw_model.specs.Take.{Request}
use Rattle.bw_model.specs.World.{Sender}
use Rattle.std.specs.IoError.{error_kind}
use Rattle.bw_console.specs.FailedOpenings.{IsUnopened}
use Rattle.bw_console.specs.Outcomes.{IsOutOfMemory, Outcome as Did}
use Rattle.bw_console.specs.Prints.{Print}
use Rattle.bw_console.specs.declared.exit.Exit.{Exit}
use Rattle.bw_console.specs.declared.exit.Exit.TheVariants as exits
use Rattle.bw_recorder.proofs.Statuses.{device_ends, kind_ends, memory_ends, refused_ends, unopened_ends}
use Rattle.bw_upload.specs.OfferedFeeds.{OffersFeed}
use Rattle.bw_upload.specs.Links.{says_done}
use Rattle.bw_upload.specs.declared.outcome.Outcome.{Outcome}
use Rattle.bw_upload.specs.declared.outcome.Outcome.TheVariants as outcomes
use Rattle.bw_send_file.specs.Endings.{EndsAfter, IsFileReport, IsOutcomeReport}
use Rattle.bw_send_file.specs.Sendings.{StoresAll, outcome_after}
use Rattle.bw_send_file.specs.declared.fault.FeedFault.{FeedFault}
use Rattle.bw_send_file.specs.declared.fault.FeedFault.TheVariants.{Unread, Unstamped, Changed, Unsendable, Memory, Refused}

opening_ends : (path : List ℕ) (kind : ErrorKind) (did : Did) → IsUnopened path kind did ⊎ IsOutOfMemory did →
    did.exit ≡ exits.Done → ⊥
opening_ends path kind did (inl x) done = unopened_ends kind (sym x.exit_is ∙ done)
opening_ends path kind did (inr x) done = memory_ends (sym x.exit_is ∙ done)

file_ends : (path : List ℕ) (fault : FeedFault) (exit : Exit) (print : Print) → IsFileReport path fault exit print →
    exit ≡ exits.Done → ⊥
file_ends path (Unread f) exit print h done = device_ends (sym h.0 ∙ done)
file_ends path (Unstamped error) exit print h done = opening_ends path (error_kind error) h.0 h.3 (h.1 ∙ done)
file_ends path (Refused f) exit print h done = kind_ends f.kind (sym h.0 ∙ done)
file_ends path Changed exit print h done = refused_ends (sym h.0 ∙ done)
file_ends path Unsendable exit print h done = refused_ends (sym h.0 ∙ done)
file_ends path Memory exit print h done = memory_ends (sym h.0 ∙ done)

outcome_ends : (path : List ℕ) (outcome : Outcome FeedFault) (exit : Exit) (print : Print) →
    IsOutcomeReport path outcome exit print → exit ≡ exits.Done → says_done outcome ≡ true
outcome_ends path outcomes.Done exit print h done = refl
outcome_ends path (outcomes.Refused n v) exit print h done = absurd (refused_ends (sym h.0 ∙ done))
outcome_ends path (outcomes.Conflict n) exit print h done = absurd (refused_ends (sym h.0 ∙ done))
outcome_ends path (outcomes.TooFar n) exit print h done = absurd (refused_ends (sym h.0 ∙ done))
outcome_ends path (outcomes.NotOffered error) exit print h done = absurd (refused_ends (sym h.0 ∙ done))
outcome_ends path outcomes.Fruitless exit print h done = absurd (device_ends (sym h.0 ∙ done))
outcome_ends path (outcomes.Feed fault) exit print h done = absurd (file_ends path fault exit print h done)
outcome_ends path outcomes.Memory exit print h done = absurd (memory_ends (sym h.0 ∙ done))
outcome_ends path outcomes.Limit exit print h done = absurd (device_ends (sym h.0 ∙ done))

command_ends : (path : List ℕ) (s : Sender) (outcome : Outcome FeedFault) (did : Did) → EndsAfter path s outcome did →
    did.exit ≡ exits.Done → says_done outcome ≡ true
command_ends path s outcome did (inl x) done = outcome_ends path outcome did.exit did.faults x.reports done
command_ends path s outcome did (inr (inl x)) done = absurd (device_ends (sym x.exit_is ∙ done))
command_ends path s outcome did (inr (inr x)) done = absurd (memory_ends (sym x.exit_is ∙ done))

pub stores_after : (path : List ℕ) (first : Sender) (requests : List Request) (s : Sender) (outcome : Outcome FeedFault)
    (did : Did) → EndsAfter path s outcome did → OffersFeed first requests (says_done outcome) s →
    did.exit ≡ exits.Done → StoresAll (first.offered ++ requests) s
stores_after path first requests s outcome did ends feeds done =
    let says = command_ends path s outcome did ends done in
    record {
      offered = feeds.offered ∙ ap (λ (rs : List Request). first.offered ++ rs)
          (sym (append-nil feeds.given)
          ∙ ap (λ (rest : List Request). feeds.given ++ rest) (sym (feeds.none_left says)) ∙ sym feeds.all);
      stored = feeds.stored says;
    }

-- a feed that failed is no success, however sending on ended
fault_undone : (fault : FeedFault) (rest : Outcome FeedFault) → says_done (outcome_after fault rest) ≡ true → ⊥
fault_undone fault outcomes.Done e = absurd cc
fault_undone fault (outcomes.Refused n v) e = absurd cc
fault_undone fault (outcomes.Conflict n) e = absurd cc
fault_undone fault (outcomes.TooFar n) e = absurd cc
fault_undone fault (outcomes.NotOffered error) e = absurd cc
fault_undone fault outcomes.Fruitless e = absurd cc
fault_undone fault (outcomes.Feed other) e = absurd cc
fault_undone fault outcomes.Memory e = absurd cc
fault_undone fault outcomes.Limit e = absurd cc

pub fault_ends : (path : List ℕ) (fault : FeedFault) (rest : Outcome FeedFault) (s : Sender) (outcome : Outcome FeedFault)
    (did : Did) → outcome ≡ outcome_after fault rest → EndsAfter path s outcome did → did.exit ≡ exits.Done → ⊥
fault_ends path fault rest s outcome did told ends done =
    fault_undone fault rest (sym (ap says_done told) ∙ command_ends path s outcome did ends done)

-- Lines that say an event of a server, or none.
use Rattle.std.proofs.Common.{◌≡◌, ◌≢◌, ℕ, List, ◌++◌, Option, Some, None, sym, ◌∙◌, subst, inl, inr}
use Rattle.std.specs.Prelude.{codes, MatchOption, SomeIff}
use Rattle.std.proofs.lemmas.List.{append_cancel_left}
use Rattle.bw_model.specs.World.{Event}
use Rattle.bw_commands.specs.SaidEvents.{IsIndexText, SaysEvent, index_written}
use Rattle.bw_commands.specs.RehearsedWorlds.{event_meaning}
use Rattle.bw_delivery.specs.declared.event.Lives.{Lives}
use Rattle.bw_delivery.specs.declared.event.StopEvent.{StopEvent}
use Rattle.bw_delivery.specs.declared.event.StopEvent.TheVariants as events
use Rattle.bw_delivery.specs.ServerLines.{IsIndexAfter, SaysStart, SaysStartCounting, SaysServerEvent, SaysStopEvent}

-- an index after a word
pub index_found : (r : Option ℕ) (word line text : List ℕ) → line ≡ word ++ text →
    SomeIff r (IsIndexText text) (index_written text) →
    MatchOption r ((k : ℕ) → ¬ IsIndexAfter word line k) (λ k. IsIndexAfter word line k)
index_found (Some k) word line text is h = (text, is, h)
index_found None word line text is h = λ k (t, was, index).
    h (subst IsIndexText (append_cancel_left word t text (sym was ∙ is)) index.0)

no_start : (line : List ℕ) (lives : Lives) → line ≢ codes "start" →
    ((k : ℕ) → ¬ IsIndexAfter (codes "start store ") line k) →
    ((k : ℕ) → ¬ IsIndexAfter (codes "start journal ") line k) → ¬ SaysStart line lives
no_start line lives start store journal (inl h) = start h.0
no_start line lives start store journal (inr (inl (k, h, dies))) = store k h
no_start line lives start store journal (inr (inr (k, h, dies))) = journal k h

no_counting : (line : List ℕ) (lives : Lives) → ((k : ℕ) → ¬ IsIndexAfter (codes "start counting store ") line k) →
    ((k : ℕ) → ¬ IsIndexAfter (codes "start counting journal ") line k) → ¬ SaysStartCounting line lives
no_counting line lives store journal (inl (k, h, dies)) = store k h
no_counting line lives store journal (inr (k, h, dies)) = journal k h

-- a line that is none of them
pub none_of_server : (line : List ℕ) → line ≢ codes "stop" → line ≢ codes "start" →
    ((k : ℕ) → ¬ IsIndexAfter (codes "start store ") line k) →
    ((k : ℕ) → ¬ IsIndexAfter (codes "start journal ") line k) →
    ((k : ℕ) → ¬ IsIndexAfter (codes "start counting store ") line k) →
    ((k : ℕ) → ¬ IsIndexAfter (codes "start counting journal ") line k) → (e : StopEvent) → ¬ SaysServerEvent line e
none_of_server line stop start store journal counting_store counting_journal (events.Happens e) = λ h. h
none_of_server line stop start store journal counting_store counting_journal events.Stop = stop
none_of_server line stop start store journal counting_store counting_journal (events.Start lives) =
    no_start line lives start store journal
none_of_server line stop start store journal counting_store counting_journal (events.StartCounting lives) =
    no_counting line lives counting_store counting_journal

-- nor an event of a rehearsal
pub none_at_all : (line : List ℕ) → ((e : StopEvent) → ¬ SaysServerEvent line e) →
    ((e : Event) → ¬ SaysEvent line e) → (e : StopEvent) → ¬ SaysStopEvent line e
none_at_all line server other (events.Happens e) = other (event_meaning e)
none_at_all line server other events.Stop = server events.Stop
none_at_all line server other (events.Start lives) = server (events.Start lives)
none_at_all line server other (events.StartCounting lives) = server (events.StartCounting lives)

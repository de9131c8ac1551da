-- What is kept and noted of a name of which nothing waits, or of which nothing came yet.
use Rattle.std.proofs.Common.{◌≡◌, ℕ, zero, suc, Bool, false, List, [], ◌∷◌, length, Option, Some, None, refl}
use Rattle.std.proofs.Common.{sym, ◌∙◌, ap, subst, arith, inl, ◌+◌, ◌≤◌}
use Rattle.std.specs.Prelude.{is_some, replicate, option_map}
use Rattle.std.specs.Bool.{MatchBool}
use Rattle.std.proofs.lemmas.Bool.{false≢true}
use Rattle.std.proofs.lemmas.List.{append-nil}
use Rattle.bw_model.specs.Bytes.{at}
use Rattle.bw_model.specs.Take.{Parts, Request, Verdict, new_take, parts}
use Rattle.bw_model.specs.File.{file_of}
use Rattle.bw_model.specs.Book.{Log, no_log, made}
use Rattle.bw_model.specs.Holds.{body_of, IsInTheMiddle}
use Rattle.bw_file.specs.GrowingFiles.{Growing}
use Rattle.bw_journal.specs.JournalHeaders.{Header, header_bytes, header_len}
use Rattle.bw_journal.specs.Notes.{IsPrefixOf}
use Rattle.bw_journal.proofs.Lengths.{length-header_bytes}
use Rattle.bw_session.specs.NameNotes.{IsNoted}
use Rattle.bw_session.specs.DoneNumbers.{KeepsDone}
use Rattle.bw_session.specs.Prefixes.{take_done, FileFollows, StandsAhead}
use Rattle.bw_session.specs.Drains.{kept_as, NameStands, HoldsPart, IsAllDone}

pub at-empty : (n i : ℕ) → at {X = List ℕ} (replicate n None) i ≡ None
at-empty zero i = refl
at-empty (suc n) zero = refl
at-empty (suc n) (suc i) = at-empty n i

pub at-past : (s : List (Option Request)) (n : ℕ) → length s ≤ n → at s n ≡ None
at-past [] n h = refl
at-past (x ∷ s) zero h = absurd (omega (arith, h))
at-past (x ∷ s) (suc n) h = at-past s n (omega (arith, h))

-- What is kept of the done numbers is all that there is, where none waits.
module _ (first : Option (List ℕ)) (log : Log) (p : Parts) (finished : List (List ℕ × Verdict)) (g : Growing)
    (found : Option (List ℕ)) (none : IsAllDone log) (clean : g.dirty ≡ false)
    (done : KeepsDone (is_some first) g.name log p finished) (file : FileFollows first (take_done first log) g found) where
  nothing_held : (i : ℕ) →
      at {X = List ℕ} (replicate 16 None) i ≡ option_map (body_of g.name (log.done + i)) (at log.admitted (log.done + i))
  nothing_held i = at-empty 16 i ∙ sym (ap (option_map (body_of g.name (log.done + i)))
      (at-past log.admitted (log.done + i) (let all = none.all in omega (arith, all))))

  stands : (o : Option (List ℕ)) → FileFollows o (take_done o log) g found →
      NameStands o log g.limit (kept_as p finished (replicate 16 None) g) found
  stands None f = record {
    whole = subst (λ (d : Bool). MatchBool d
        (IsInTheMiddle (take_done None log) g.limit (at log.admitted log.done) found)
        (found ≡ file_of (take_done None log) g.limit)) (sym clean) f.whole;
    made_here = f.made_here;
  }
  stands (Some bytes) f = (f.0, f.1)

  level : (o : Option (List ℕ)) → FileFollows o (take_done o log) g found → StandsAhead o log g found
  level None f = λ has. absurd (false≢true (sym f.level ∙ has))
  level (Some bytes) f = f.2

  pub resumed_part : (w : List (Option (List ℕ))) → w ≡ replicate 16 None → HoldsPart first log p finished w g found
  resumed_part w empty = subst (λ (x : List (Option (List ℕ))). HoldsPart first log p finished x g found) (sym empty)
      (record {
        fits = none.fits;
        memory = record {
          done = done.done;
          finished = done.finished_are;
          held = nothing_held;
          state = done.state_is;
          taken = done.taken;
          reported = done.reported;
        };
        file = stands first file;
        ahead = level first file;
      })

pub no_log_done : IsAllDone no_log
no_log_done = record { fits = refl; all = omega arith }

nothing_kept : (existed : Bool) (name : List ℕ) → KeepsDone existed name no_log (parts (new_take false)) []
unfolding made
nothing_kept existed name = record {
  done = refl;
  finished_are = refl;
  state_is = refl;
  taken = λ e. absurd (false≢true e);
  reported = λ n below is. absurd (omega (arith, below));
}

pub nothing_made : (first : Option (List ℕ)) (g : Growing) → g.made ≡ false → g.ahead ≡ false →
    FileFollows first (take_done first no_log) g first
unfolding made
nothing_made None g unmade level = record { whole = refl; made_here = unmade; level = level }
nothing_made (Some bytes) g unmade level = (refl, unmade, level)

pub new_done : (existed : Bool) (name : List ℕ) (p : Parts) (finished : List (List ℕ × Verdict)) →
    p ≡ parts (new_take false) → finished ≡ [] → KeepsDone existed name no_log p finished
new_done existed name p finished state none =
    subst (λ (x : Parts). KeepsDone existed name no_log x finished) (sym state)
    (subst (λ (x : List (List ℕ × Verdict)). KeepsDone existed name no_log (parts (new_take false)) x) (sym none)
    (nothing_kept existed name))

pub new_notes : (h : Header) (name : List ℕ) (found : Option (List ℕ)) → IsPrefixOf (header_bytes name h) found →
    IsNoted h name no_log header_len found
new_notes h name found prefix = record {
  offset_is = sym (ap length (append-nil (header_bytes name h)) ∙ length-header_bytes name h);
  stands = inl (refl, prefix);
}

-- What is held and noted of a name, where a message is new in the window or isn't.
use Rattle.std.proofs.Common.{◌≡◌, ◌≢◌, ℕ, zero, suc, ◌+◌, ◌<◌, ◌≤◌, Bool, true, false, cond, ◌&&◌, List, [], ◌∷◌}
use Rattle.std.proofs.Common.{◌++◌, length, take, Option, Some, None, refl, sym, ◌∙◌, ap, subst, arith, ◌⊎◌, inl, inr}
use Rattle.std.proofs.Common.{le-ltb, lt-ltb, get_or, length-set}
use Rattle.std.specs.Prelude.{IsTrue, is_some, is_none, fold, nat_le, nat_lt, option_map, slice_set}
use Rattle.std.specs.Bool.{MatchBool}
use Rattle.std.proofs.lemmas.Bool.{leb-true, and_parts, cases_lt}
use Rattle.std.proofs.lemmas.List.Sums.{count_by-le-length, sum_by-set}
use Rattle.sha2.specs.Sha256.{sha256}
use Rattle.bw_model.specs.Bytes.{at, put}
use Rattle.bw_model.specs.Take.{Take, Parts, Request, Verdict, new_take, parts, after}
use Rattle.bw_model.specs.File.{file_of}
use Rattle.bw_model.specs.Wire.{Message, Second, last_number, is_name, is_request, is_message, message_body}
use Rattle.bw_model.specs.Book.{Log, made, step, verdict_at}
use Rattle.bw_model.specs.Turn.{is_admissible, window}
use Rattle.bw_model.specs.Holds.{HoldsName, IsInTheMiddle, body_of, finished_from}
use Rattle.bw_model.proofs.MapLemmas.{at-put_same, at-put_other, take-put, filled_len, not_filled, verdict-put}
use Rattle.bw_model.proofs.MapLemmas.{IsFilled}
use Rattle.bw_model.proofs.BookLaws.{fits-put}
use Rattle.bw_file.specs.GrowingFiles.{Growing}
use Rattle.bw_journal.specs.JournalHeaders.{Header, header_bytes}
use Rattle.bw_journal.specs.Entries.{JournalEntry, sealed_entry, sealed_entries}
use Rattle.bw_journal.specs.NotedJournals.{entries_from, journal_of}
use Rattle.bw_session.specs.Windows.{count_held}
use Rattle.bw_session.specs.NameNotes.{entry_if, next_entry, HasEntries, IsNoted}
use Rattle.bw_session.specs.Drains.{Fits, kept_as, NameStands, HoldsPart}
use Rattle.bw_session.specs.Prefixes.{StandsAhead}
use Rattle.bw_session.specs.AdmittedMessages.{with_message}
use Rattle.bw_session.proofs.Slots.{at-slot}
use Rattle.bw_session.proofs.LogSteps.{take-short}

no_some : {X A : Type 0} {x : X} → None ≡ Some x → A
no_some e = cc

pub no_false : {A : Type 0} → false ≡ true → A
no_false e = cc

-- Slots.

pub near_or_not : (i k : ℕ) → (i ≡ k) ⊎ (i ≢ k)
near_or_not zero zero = inl refl
near_or_not zero (suc k) = inr (λ e. omega (arith, e))
near_or_not (suc i) zero = inr (λ e. omega (arith, e))
near_or_not (suc i) (suc k) = elim (near_or_not i k) [
  | inl e ↦ inl (ap suc e)
  | inr h ↦ inr (λ e. h (omega (arith, e)))
]

pub at-set_same : (w : List (Option (List ℕ))) (i : ℕ) (o : Option (List ℕ)) → i < length w → at (slice_set w i o) i ≡ o
at-set_same [] i o h = absurd (omega (arith, h))
at-set_same (x ∷ xs) zero o h = refl
at-set_same (x ∷ xs) (suc i) o h = at-set_same xs i o (omega (arith, h))

pub at-set_other : (w : List (Option (List ℕ))) (i k : ℕ) (o : Option (List ℕ)) → k ≢ i → at (slice_set w i o) k ≡ at w k
at-set_other [] i k o h = refl
at-set_other (x ∷ xs) zero zero o h = absurd (h refl)
at-set_other (x ∷ xs) zero (suc k) o h = refl
at-set_other (x ∷ xs) (suc i) zero o h = refl
at-set_other (x ∷ xs) (suc i) (suc k) o h = at-set_other xs i k o (λ e. h (ap suc e))

-- one for a body, none for a free slot
abbrev as_count : Option (List ℕ) → ℕ
as_count slot = cond (is_some slot) 1 0

-- if a body is put into a free slot, one more is held
pub count_set : (w : List (Option (List ℕ))) (i : ℕ) (b : List ℕ) → at w i ≡ None → i < length w →
    count_held (slice_set w i (Some b)) ≡ count_held w + 1
count_set w i b e h =
    let sums : count_held (slice_set w i (Some b)) + as_count (get_or w i None) ≡ count_held w + 1 =
    sum_by-set as_count w i (Some b) None h in
    let free : as_count (get_or w i None) ≡ 0 = ap as_count (sym (at-slot w i h) ∙ e) in
    omega (arith, sums, free)

-- so there is room for it
pub count_room : (w : List (Option (List ℕ))) (i : ℕ) → at w i ≡ None → i < length w → count_held w + 1 ≤ length w
count_room w i e h =
    let one = count_set w i [] e h in
    let few : count_held (slice_set w i (Some [])) ≤ length (slice_set w i (Some [])) =
    count_by-le-length is_some (slice_set w i (Some [])) in
    let same : length (slice_set w i (Some [])) ≡ length w = length-set w i (Some []) in
    omega (arith, one, few, same)

pub none_of : (o : Option (List ℕ)) → is_some o ≡ false → o ≡ None
none_of None e = refl
none_of (Some b) e = no_false (sym e)

-- What holds whatever was sent.

pub fits_held : (g : Growing) (p q : Parts) (done later room room' places places' slot : ℕ)
    (w w' : List (Option (List ℕ))) (b : List ℕ) → Fits g p done room places w → at w slot ≡ None → slot < length w →
    w' ≡ slice_set w slot (Some b) → count_held w + 1 ≤ room' → count_held w + 1 ≤ places' →
    done + slot ≤ last_number Second → q ≡ p → later ≡ done → Fits g q later room' places' w'
fits_held g p q done later room room' places places' slot w w' b f none within set enough enough' number same same' =
    let count = count_set w slot b none within in
    let prefix : IsTrue g.dirty → at (slice_set w slot (Some b)) 0 ≡ at w 0 = λ dirty.
    at-set_other w slot 0 (Some b) (λ e. no_false
    (ap is_some (sym none) ∙ ap (λ (i : ℕ). is_some (at w i)) (sym e) ∙ f.held dirty)) in
    subst (Fits g q later room' places') (sym set)
    (subst (λ (x : Parts). Fits g x later room' places' (slice_set w slot (Some b))) (sym same)
    (subst (λ (n : ℕ). Fits g p n room' places' (slice_set w slot (Some b))) (sym same') (record {
      storable = omega (arith, count, enough);
      keepable = omega (arith, count, enough');
      numbers = λ i some. by_slot i some (near_or_not i slot);
      held = λ dirty. ap is_some (prefix dirty) ∙ f.held dirty;
      again = λ dirty body is. f.again dirty body (sym (prefix dirty) ∙ is);
    })))
  where
    by_slot : (i : ℕ) → is_some (at (slice_set w slot (Some b)) i) ≡ true → (i ≡ slot) ⊎ (i ≢ slot) →
        done + i ≤ last_number Second
    by_slot i some (inl e) = omega (arith, number, e)
    by_slot i some (inr apart) = f.numbers i (ap is_some (sym (at-set_other w slot i (Some b) apart)) ∙ some)

-- One more request in a log, under a number that it lacks.

-- a message that has a spelling has a request that has one
pub said_request : (m : Message) → is_message Second m ≡ true → is_request m.request ≡ true
said_request m e =
    (and_parts (is_name m.name && nat_le m.number (last_number Second)) (is_request m.request) e).1

-- and a number of the wire's
pub said_number : (m : Message) → is_message Second m ≡ true → m.number ≤ last_number Second
said_number m e =
    leb-true m.number (last_number Second) (and_parts (is_name m.name) (nat_le m.number (last_number Second))
    (and_parts (is_name m.name && nat_le m.number (last_number Second)) (is_request m.request) e).0).1

-- what is kept of this many numbers says that they are in the log
filled_prefix : (existed : Bool) (whole : List (Option Request)) (name : List ℕ) (n count : ℕ) (s : List (Option Request))
    (k : ℕ) → k < length (finished_from existed whole name n (take count s)) → (r : Request) × (at s k ≡ Some r)
filled_prefix existed whole name n zero s k h = absurd (omega (arith, h))
filled_prefix existed whole name n (suc count) [] k h = absurd (omega (arith, h))
filled_prefix existed whole name n (suc count) (None ∷ s) k h = absurd (omega (arith, h))
filled_prefix existed whole name n (suc count) (Some r ∷ s) zero h = (r, refl)
filled_prefix existed whole name n (suc count) (Some r ∷ s) (suc k) h =
    filled_prefix existed whole name (suc n) count s k (omega (arith, h))

-- where their verdicts are the same
finished_same : (existed : Bool) (s s' : List (Option Request)) (name : List ℕ) (n end : ℕ)
    (xs : List (Option Request)) → ((k : ℕ) → k < end → verdict_at existed s' k ≡ verdict_at existed s k) →
    n + length xs ≤ end → finished_from existed s' name n xs ≡ finished_from existed s name n xs
finished_same existed s s' name n end [] same h = refl
finished_same existed s s' name n end (None ∷ xs) same h = refl
finished_same existed s s' name n end (Some r ∷ xs) same h =
    ap (λ (v : Verdict). (sha256 (body_of name n r), v) ∷ finished_from existed s' name (suc n) xs)
    (same n (omega (arith, h)))
    ∙ ap (λ (ys : List (List ℕ × Verdict)). (sha256 (body_of name n r), verdict_at existed s n) ∷ ys)
    (finished_same existed s s' name (suc n) end xs same (omega (arith, h)))

abbrev entry_with : List ℕ → ℕ → Request → Verdict → JournalEntry
entry_with name n r v = record { request = r; verdict = v; digest = sha256 (body_of name n r) }

pub entries_same : (existed : Bool) (s s' : List (Option Request)) (name : List ℕ) (n end : ℕ)
    (xs : List (Option Request)) → ((k : ℕ) → k < end → verdict_at existed s' k ≡ verdict_at existed s k) →
    n + length xs ≤ end → entries_from existed s' name n xs ≡ entries_from existed s name n xs
entries_same existed s s' name n end [] same h = refl
entries_same existed s s' name n end (None ∷ xs) same h = refl
entries_same existed s s' name n end (Some r ∷ xs) same h =
    ap (λ (v : Verdict). entry_with name n r v ∷ entries_from existed s' name (suc n) xs) (same n (omega (arith, h)))
    ∙ ap (λ (ys : List JournalEntry). entry_with name n r (verdict_at existed s n) ∷ ys)
    (entries_same existed s s' name (suc n) end xs same (omega (arith, h)))

take_put : (s : List (Option Request)) (n : ℕ) (r : Request) (done : ℕ) → IsFilled s done → at s n ≡ None →
    take done (put s n r) ≡ take done s
take_put s n r done filled none = take-put s n done r (not_filled s done n filled none) (filled_len s done filled)

made_put : (existed : Bool) (s : List (Option Request)) (n : ℕ) (r : Request) (done : ℕ) → IsFilled s done →
    at s n ≡ None → made existed (put s n r) done ≡ made existed s done
unfolding made
made_put existed s n r done filled none = ap (fold step (new_take existed)) (take_put s n r done filled none)

filled_next : (s : List (Option Request)) (done : ℕ) (r : Request) → IsFilled s done → at s done ≡ Some r →
    IsFilled s (suc done)
filled_next s done r filled here k below = go (cases_lt k done)
  where
    go : (k < done) ⊎ (done ≤ k) → (x : Request) × (at s k ≡ Some x)
    go (inl less) = filled k less
    go (inr more) = let same : k ≡ done = omega (arith, more, below) in (r, ap (at s) same ∙ here)

take_none : (k : ℕ) → take {A = ℕ} k [] ≡ []
take_none zero = refl
take_none (suc k) = refl

and_no : (b : Bool) → (b && false) ≡ false
and_no true = refl
and_no false = refl

module _ (first : Option (List ℕ)) (log : Log) (p : Parts) (finished : List (List ℕ × Verdict))
    (w : List (Option (List ℕ))) (g : Growing) (found : Option (List ℕ))
    (h : HoldsPart first log p finished w g found) where
  pub filled : IsFilled log.admitted log.done
  filled k below =
      let long : length (finished_from (is_some first) log.admitted g.name 0 (take log.done log.admitted)) ≡ log.done =
      ap length (sym h.memory.finished) ∙ h.memory.done in
      filled_prefix (is_some first) log.admitted g.name 0 log.done log.admitted k (omega (arith, long, below))

  -- a number that is done, or past the window
  pub outside_not_new : (n : ℕ) → (n < length finished) ⊎ (length finished + 16 ≤ n) → is_admissible log n ≡ false
  outside_not_new n (inl below) =
      let done = h.memory.done in
      let x = filled n (omega (arith, done, below)) in
      ap (λ (o : Option Request). is_none o && nat_lt n (log.done + window)) x.1
  outside_not_new n (inr past) =
      let done = h.memory.done in
      let late : log.done + window ≤ n = omega (arith, done, past) in
      ap (λ (b : Bool). is_none (at log.admitted n) && b) (le-ltb n (log.done + window) late)
      ∙ and_no (is_none (at log.admitted n))

  -- what a slot holds says what the log has under its number
  slot_free : (n slot : ℕ) → n ≡ length finished + slot → at w slot ≡ None → at log.admitted n ≡ None
  slot_free n slot place none =
      let done = h.memory.done in
      let here : log.done + slot ≡ n = omega (arith, done, place) in
      ap (at log.admitted) (sym here) ∙ go (at log.admitted (log.done + slot)) refl
    where
      go : (o : Option Request) → at log.admitted (log.done + slot) ≡ o → at log.admitted (log.done + slot) ≡ None
      go None is = is
      go (Some r) is =
          no_some (sym none ∙ h.memory.held slot ∙ ap (option_map (body_of g.name (log.done + slot))) is)

  -- a number whose slot is free
  pub free_new : (n slot : ℕ) → n ≡ length finished + slot → slot < 16 → at w slot ≡ None → is_admissible log n ≡ true
  free_new n slot place within none =
      let done = h.memory.done in
      let below : n < log.done + window = omega (arith, done, place, within) in
      ap (λ (o : Option Request). is_none o && nat_lt n (log.done + window)) (slot_free n slot place none)
      ∙ lt-ltb n (log.done + window) below

  -- nothing is admitted
  pub part_same : (m : Message) → is_admissible log m.number ≡ false →
      HoldsPart first (with_message log m) p finished w g found
  part_same m e =
      subst (λ (b : Bool). HoldsPart first
      (record log { admitted = cond b (put log.admitted m.number m.request) log.admitted }) p finished w g found)
      (sym e) h

  module _ (n : ℕ) (r : Request) (none : at log.admitted n ≡ None) where
    put_memory : (w' : List (Option (List ℕ))) → ((i : ℕ) →
        at w' i ≡ option_map (body_of g.name (log.done + i)) (at (put log.admitted n r) (log.done + i))) →
        HoldsName (is_some first) g.name (record log { admitted = put log.admitted n r }) (kept_as p finished w' g)
    put_memory w' held =
        let same = take_put log.admitted n r log.done filled none in
        let short = take-short log.done log.admitted in
        let verdicts : (existed : Bool) (k : ℕ) → k < log.done →
        verdict_at existed (put log.admitted n r) k ≡ verdict_at existed log.admitted k = λ existed k below.
        verdict-put existed log.admitted n r log.done k filled none below in
        record {
          done = h.memory.done;
          finished =
              h.memory.finished
              ∙ sym (finished_same (is_some first) log.admitted (put log.admitted n r) g.name 0 log.done
              (take log.done log.admitted) (verdicts (is_some first)) (omega (arith, short)))
              ∙ ap (finished_from (is_some first) (put log.admitted n r) g.name 0) (sym same);
          held = held;
          state = h.memory.state ∙ ap (λ (t : Take). record (parts t) { taken = p.taken })
              (sym (made_put (is_some first) log.admitted n r log.done filled none));
          taken = h.memory.taken;
          reported = λ k below is. h.memory.reported k below (sym (verdicts (is_some first) k below) ∙ is);
        }

    put_file : (w' : List (Option (List ℕ))) →
        NameStands first (record log { admitted = put log.admitted n r }) g.limit (kept_as p finished w' g) found
    put_file w' = stands first h.file
      where
        -- if a request waits, it isn't the one that is put
        waits : (d : Bool) (t : Take) → MatchBool d (IsInTheMiddle t g.limit (at log.admitted log.done) found)
            (found ≡ file_of t g.limit) →
            MatchBool d (IsInTheMiddle t g.limit (at (put log.admitted n r) log.done) found)
            (found ≡ file_of t g.limit)
        waits true t m = record {
          request = m.request;
          waiting =
              at-put_other log.admitted n log.done r
              (λ e. no_some (sym none ∙ ap (at log.admitted) (sym e) ∙ m.waiting))
              ∙ m.waiting;
          to_store = m.to_store;
          between = m.between;
        }
        waits false t whole = whole

        stands : (o : Option (List ℕ)) → NameStands o log g.limit (kept_as p finished w g) found →
            NameStands o (record log { admitted = put log.admitted n r }) g.limit (kept_as p finished w' g) found
        stands None f = record {
          whole = subst (λ (t : Take). MatchBool g.dirty
              (IsInTheMiddle t g.limit (at (put log.admitted n r) log.done) found) (found ≡ file_of t g.limit))
              (sym (made_put false log.admitted n r log.done filled none))
              (waits g.dirty (made false log.admitted log.done) f.whole);
          made_here = f.made_here;
        }
        stands (Some bytes) f = f

    put_ahead : StandsAhead first (record log { admitted = put log.admitted n r }) g found
    put_ahead = stands first h.ahead
      where
        stands : (o : Option (List ℕ)) → StandsAhead o log g found →
            StandsAhead o (record log { admitted = put log.admitted n r }) g found
        stands None ahead = λ has. let a = ahead has in record {
          request = a.request;
          waits =
              at-put_other log.admitted n log.done r
              (λ e. no_some (sym none ∙ ap (at log.admitted) (sym e) ∙ a.waits))
              ∙ a.waits;
          dirty = a.dirty;
          file = a.file ∙ ap (λ (t : Take). file_of (after t a.request) g.limit)
              (sym (made_put false log.admitted n r log.done filled none));
        }
        stands (Some bytes) level = level

    journal_put : (hd : Header) (name : List ℕ) →
        journal_of hd name (record log { admitted = put log.admitted n r }) ≡ journal_of hd name log
    journal_put hd name =
        let short = take-short log.done log.admitted in
        ap (λ (es : List JournalEntry). header_bytes name hd ++ sealed_entries es)
        (ap (entries_from hd.existed (put log.admitted n r) name 0) (take_put log.admitted n r log.done filled none)
        ∙ entries_same hd.existed log.admitted (put log.admitted n r) name 0 log.done (take log.done log.admitted)
        (λ k below. verdict-put hd.existed log.admitted n r log.done k filled none below) (omega (arith, short)))

    put_entries : (hd : Header) (name : List ℕ) (notes : Option (List ℕ)) → HasEntries hd name log notes →
        HasEntries hd name (record log { admitted = put log.admitted n r }) notes
    put_entries hd name notes entries = go (at log.admitted log.done) refl
      where
        go : (o : Option Request) → at log.admitted log.done ≡ o →
            HasEntries hd name (record log { admitted = put log.admitted n r }) notes
        go None is = (
          0,
          entries.1
              ∙ ap (λ (x : Option Request). Some (journal_of hd name log
              ++ take entries.0 (entry_if hd.existed name log.admitted log.done x))) is
              ∙ ap (λ (x : List ℕ). Some (journal_of hd name log ++ x)) (take_none entries.0)
              ∙ ap (λ (x : List ℕ). Some (x ++ [])) (sym (journal_put hd name)),
        )
        go (Some x) is =
            let apart : at (put log.admitted n r) log.done ≡ at log.admitted log.done =
            at-put_other log.admitted n log.done r (λ e. no_some (sym none ∙ ap (at log.admitted) (sym e) ∙ is)) in
            let verdict : verdict_at hd.existed (put log.admitted n r) log.done
            ≡ verdict_at hd.existed log.admitted log.done =
            verdict-put hd.existed log.admitted n r (suc log.done) log.done
            (filled_next log.admitted log.done x filled is) none (omega arith) in
            let same : next_entry hd.existed name log
            ≡ next_entry hd.existed name (record log { admitted = put log.admitted n r }) =
            ap (entry_if hd.existed name log.admitted log.done) is
            ∙ ap (λ (v : Verdict). sealed_entry (entry_with name log.done x v)) (sym verdict)
            ∙ ap (entry_if hd.existed name (put log.admitted n r) log.done) (sym (apart ∙ is)) in (
              entries.0,
              entries.1 ∙ ap (λ (bytes : List ℕ). Some (journal_of hd name log ++ take entries.0 bytes)) same
                  ∙ ap (λ (bytes : List ℕ). Some (bytes ++ take entries.0
                  (next_entry hd.existed name (record log { admitted = put log.admitted n r }))))
                  (sym (journal_put hd name)),
            )

    put_notes : (hd : Header) (name : List ℕ) (offset : ℕ) (notes : Option (List ℕ)) →
        IsNoted hd name log offset notes →
        IsNoted hd name (record log { admitted = put log.admitted n r }) offset notes
    put_notes hd name offset notes noted = record {
      offset_is = noted.offset_is ∙ ap length (sym (journal_put hd name));
      stands = elim noted.stands [
        | inl prefix ↦ inl prefix
        | inr entries ↦ inr (put_entries hd name notes entries)
      ];
    }

  -- a message is admitted, and held in its slot
  pub part_put : (m : Message) (slot : ℕ) (w' : List (Option (List ℕ))) (b : List ℕ) (q : Parts)
      (later : List (List ℕ × Verdict)) → m.name ≡ g.name → is_request m.request ≡ true →
      m.number ≡ length finished + slot → slot < 16 → slot < length w → at w slot ≡ None →
      w' ≡ slice_set w slot (Some b) → b ≡ message_body m → q ≡ p → later ≡ finished →
      HoldsPart first (with_message log m) q later w' g found
  part_put m slot w' b q later name fits place within there none set spelled same same' =
      subst (λ (x : Parts). HoldsPart first (with_message log m) x later w' g found) (sym same)
      (subst (λ (x : List (List ℕ × Verdict)). HoldsPart first (with_message log m) p x w' g found) (sym same')
      (subst (λ (a : Bool). HoldsPart first
      (record log { admitted = cond a (put log.admitted m.number m.request) log.admitted }) p finished w' g found)
      (sym (free_new m.number slot place within none)) (record {
        fits = fits-put log.admitted m.number m.request h.fits fits;
        memory = put_memory m.number m.request lacks w' (λ i. by_slot i (near_or_not i slot));
        file = put_file m.number m.request lacks w';
        ahead = put_ahead m.number m.request lacks;
      })))
    where
      lacks : at log.admitted m.number ≡ None
      lacks = slot_free m.number slot place none

      by_slot : (i : ℕ) → (i ≡ slot) ⊎ (i ≢ slot) → at w' i
          ≡ option_map (body_of g.name (log.done + i)) (at (put log.admitted m.number m.request) (log.done + i))
      by_slot i (inl e) =
          let done = h.memory.done in
          let here : m.number ≡ log.done + i = omega (arith, done, place, e) in
          ap (λ (x : List (Option (List ℕ))). at x i) set ∙ ap (at (slice_set w slot (Some b))) e
          ∙ at-set_same w slot (Some b) there
          ∙ ap Some (spelled ∙ ap (λ (x : List ℕ). body_of x m.number m.request) name
          ∙ ap (λ (k : ℕ). body_of g.name k m.request) here)
          ∙ ap (option_map (body_of g.name (log.done + i)))
          (sym (at-put_same log.admitted m.number m.request)
          ∙ ap (at (put log.admitted m.number m.request)) here)
      by_slot i (inr apart) =
          let done = h.memory.done in
          ap (λ (x : List (Option (List ℕ))). at x i) set ∙ at-set_other w slot i (Some b) apart ∙ h.memory.held i
          ∙ ap (option_map (body_of g.name (log.done + i)))
          (sym (at-put_other log.admitted m.number (log.done + i) m.request
          (λ e. apart (let same : i ≡ slot = omega (arith, done, place, e) in same))))

  -- The same of what is noted.
  pub notes_same : (m : Message) (hd : Header) (name : List ℕ) (offset : ℕ) (notes : Option (List ℕ)) →
      is_admissible log m.number ≡ false → IsNoted hd name log offset notes →
      IsNoted hd name (with_message log m) offset notes
  notes_same m hd name offset notes e noted =
      subst (λ (a : Bool). IsNoted hd name
      (record log { admitted = cond a (put log.admitted m.number m.request) log.admitted }) offset notes) (sym e) noted

  pub notes_put : (m : Message) (slot : ℕ) (hd : Header) (name : List ℕ) (offset : ℕ) (notes : Option (List ℕ)) →
      m.number ≡ length finished + slot → slot < 16 → at w slot ≡ None →
      IsNoted hd name log offset notes → IsNoted hd name (with_message log m) offset notes
  notes_put m slot hd name offset notes place within none noted =
      subst (λ (a : Bool). IsNoted hd name
      (record log { admitted = cond a (put log.admitted m.number m.request) log.admitted }) offset notes)
      (sym (free_new m.number slot place within none))
      (put_notes m.number m.request (slot_free m.number slot place none) hd name offset notes noted)

-- What doing a number leaves, by its result.
use Rattle.std.proofs.Common.{◌≡◌, ℕ, Bool, true, false, not, ◌||◌, ◌&&◌, List, Option, Some}
use Rattle.std.proofs.Common.{None, refl, sym, ◌∙◌, ap, subst}
use Rattle.std.specs.Prelude.{is_some}
use Rattle.std.specs.Bool.{MatchBool}
use Rattle.std.proofs.lemmas.Bool.{and_parts}
use Rattle.sha2.specs.Sha256.{sha256}
use Rattle.bw_model.specs.Bytes.{at}
use Rattle.bw_model.specs.Take.{Take, Parts, Request, Open, Block, Mark, SetField, Close, Verdict, Stored, NameTaken}
use Rattle.bw_model.specs.Take.{AlreadyOpen, NotOpen, Closed, BadFormat, BadBlock, BadMarker, DuplicateMarker}
use Rattle.bw_model.specs.Take.{TooManyMarkers, BadField, WrongTotal, AreFields, judge, parts, verdict, is_stored}
use Rattle.bw_model.specs.Take.{after}
use Rattle.bw_model.specs.File.{file_of}
use Rattle.bw_model.specs.Book.{Log, made}
use Rattle.bw_model.specs.Holds.{IsBetween, IsInTheMiddle, body_of}
use Rattle.bw_file.specs.GrowingFiles.{Growing}
use Rattle.bw_file.proofs.Judged.{open_for}
use Rattle.bw_journal.proofs.BetweenLaws.{new_files_are_between}
use Rattle.bw_session.specs.RequestWrites.{is_mark, HasOwnFile, HasWholeFile}
use Rattle.bw_session.specs.Executions.{Touches}
use Rattle.bw_session.specs.DoneNumbers.{KeepsDone}
use Rattle.bw_session.specs.Prefixes.{take_done, FileFollows, FileStands, HoldsPrefix, Carried}
use Rattle.bw_session.specs.NextNumbers.{is_written, IsNext, with_done, IsDone}
use Rattle.bw_file.proofs.MarkedFiles.{marked_file}
use Rattle.bw_session.proofs.CarryForms.{after_refused, after_stored}
use Rattle.bw_session.proofs.PrefixForms.{own_parts, refused, existed_is_new}
use Rattle.bw_session.proofs.LogSteps.{made_next, verdict_here}

no_false : {A : Type 0} → false ≡ true → A
no_false e = cc

-- After a failed note.

pub stored_is : (v : Verdict) → is_stored v ≡ true → v ≡ Stored
stored_is Stored e = refl
stored_is NameTaken e = no_false e
stored_is AlreadyOpen e = no_false e
stored_is NotOpen e = no_false e
stored_is Closed e = no_false e
stored_is BadFormat e = no_false e
stored_is BadBlock e = no_false e
stored_is BadMarker e = no_false e
stored_is DuplicateMarker e = no_false e
stored_is TooManyMarkers e = no_false e
stored_is BadField e = no_false e
stored_is WrongTotal e = no_false e

-- a request that was written was to be stored, and is no marker
pub written_touches : (p : Parts) (v : Verdict) (r : Request) → v ≡ judge p r → is_written v r ≡ true → Touches p r
written_touches p v r judged e =
    let both = and_parts (not (is_mark r)) (is_stored v) e in
    record { stored = sym judged ∙ stored_is v both.1; unmarked = unmarked (is_mark r) both.0 }
  where
    unmarked : (b : Bool) → not b ≡ true → b ≡ false
    unmarked true h = no_false h
    unmarked false h = refl

refused_same : (t : Take) (limit : ℕ) (r : Request) → is_stored (verdict t r) ≡ false →
    file_of (after t r) limit ≡ file_of t limit
refused_same t limit r e = ap (λ (u : Take). file_of u limit) (sym (after_refused t (parts t) r refl e))

-- a request that wasn't written leaves the file
pub unwritten_same : (t : Take) (limit : ℕ) (r : Request) → is_written (verdict t r) r ≡ false →
    file_of (after t r) limit ≡ file_of t limit
unwritten_same t limit (Open f history) e = refused_same t limit (Open f history) e
unwritten_same t limit (Block bytes) e = refused_same t limit (Block bytes) e
unwritten_same t limit (SetField tag value) e = refused_same t limit (SetField tag value) e
unwritten_same t limit (Close total) e = refused_same t limit (Close total) e
unwritten_same t limit (Mark id frame) e = go (is_stored (verdict t (Mark id frame))) refl
  where
    go : (s : Bool) → is_stored (verdict t (Mark id frame)) ≡ s →
        file_of (after t (Mark id frame)) limit ≡ file_of t limit
    go false refused = refused_same t limit (Mark id frame) refused
    go true stored =
        ap (λ (u : Take). file_of u limit) (sym (after_stored t (parts t) (Mark id frame) refl stored))
        ∙ marked_file t limit id frame
        (open_for (parts t) (Mark id frame) refl (stored_is (verdict t (Mark id frame)) stored)).not_closed

again : (t : Take) (r : Request) (v : Verdict) (g : Growing) (found : Option (List ℕ)) → v ≡ verdict t r →
    AreFields t.fields → g.dirty ≡ false → HasWholeFile (after t r) g found →
    HasOwnFile t r (record g { dirty = is_written v r || g.dirty; ahead = is_written v r || g.ahead }) found
again t r v g found is fields clean h = record {
  whole = go (is_written v r) refl;
  made_here = h.made_here;
  ahead = λ a. (first_of (is_written v r) g.dirty g.ahead h.level a, h.whole);
}
  where
    first_of : (w d a : Bool) → a ≡ false → (w || a) ≡ true → (w || d) ≡ true
    first_of true d a e h = refl
    first_of false d a e h = no_false (sym e ∙ h)

    go : (w : Bool) → is_written v r ≡ w →
        MatchBool (w || g.dirty) (IsInTheMiddle t g.limit (Some r) found) (found ≡ file_of t g.limit)
    go true written =
        let touches = written_touches (parts t) v r is written in
        let stored : is_stored (verdict t r) ≡ true = ap is_stored touches.stored in
        record {
          request = r;
          waiting = refl;
          to_store = stored;
          between = subst (IsBetween t g.limit r)
              (sym (h.whole ∙ ap (λ (u : Take). file_of u g.limit) (sym (after_stored t (parts t) r refl stored))))
              (new_files_are_between t g.limit r fields touches.stored);
        }
    go false unwritten =
        subst (λ (d : Bool). MatchBool d (IsInTheMiddle t g.limit (Some r) found) (found ≡ file_of t g.limit))
        (sym clean)
        (h.whole ∙ unwritten_same t g.limit r (ap (λ (x : Verdict). is_written x r) (sym is) ∙ unwritten))

and_no : (b : Bool) → (b && false) ≡ false
and_no true = refl
and_no false = refl

-- The number still waits: over the file that has its request the same request may be tried again.
pub done_again : (first : Option (List ℕ)) (log : Log) (v : Verdict) (p : Parts) (finished : List (List ℕ × Verdict))
    (r : Request) (g g' : Growing) (found : Option (List ℕ)) → Carried first log v p finished r g found →
    g.dirty ≡ false → AreFields p.fields →
    g' ≡ record g { dirty = is_written v r || g.dirty; ahead = is_written v r || g.ahead } →
    HoldsPrefix first log p finished r g' found
done_again first log v p finished r g g' found c clean fields marked =
    subst (λ (x : Growing). HoldsPrefix first log p finished r x found) (sym marked)
    (record { memory = c.memory; file = stands first c })
  where
    stands : (first : Option (List ℕ)) → Carried first log v p finished r g found →
        FileStands first (take_done first log) r
        (record g { dirty = is_written v r || g.dirty; ahead = is_written v r || g.ahead }) found
    stands None c =
        again (take_done None log) r v g found c.verdict_is
        (subst AreFields (sym (ap (λ (q : Parts). q.fields) (own_parts g.name log p finished c.memory))) fields)
        clean c.file
    stands (Some bytes) c =
        let unwritten : is_written v r ≡ false = ap (λ (x : Bool). not (is_mark r) && x)
        (ap is_stored (c.verdict_is ∙ ap (λ (t : Take). verdict t r) (existed_is_new log.admitted log.done)) ∙ refused r)
        ∙ and_no (not (is_mark r)) in
        (c.file.0, c.file.1, ap (λ (w : Bool). w || g.ahead) unwritten ∙ c.file.2)

-- The number is done.
pub done_next : (first : Option (List ℕ)) (log : Log) (v : Verdict) (p q : Parts)
    (finished later : List (List ℕ × Verdict)) (r : Request) (digest : List ℕ) (g : Growing)
    (found : Option (List ℕ)) → IsNext g.name log r digest → Carried first log v p finished r g found →
    ((existed : Bool) (name : List ℕ) (log : Log) → KeepsDone existed name log p finished →
    at log.admitted log.done ≡ Some r → digest ≡ sha256 (body_of name log.done r) →
    v ≡ verdict (made existed log.admitted log.done) r → KeepsDone existed name (with_done log) q later) →
    IsDone first log v q later g found
done_next first log v p q finished later r digest g found n c keeps = record {
  verdict_is = c.verdict_is ∙ sym (verdict_here (is_some first) log.admitted log.done r n.here);
  memory = keeps (is_some first) g.name log c.memory n.here n.digest_is c.verdict_is;
  file = subst (λ (t : Take). FileFollows first t g found)
      (sym (made_next (is_some first) log.admitted log.done r n.here)) c.file;
}

-- The values that a framer's run gives are those that its bytes spell.
use Rattle.std.proofs.Common.{◌≡◌, ◌≢◌, ℕ, ◌+◌, ◌-◌, Bool, true, false, ◌&&◌, if◌then◌else◌, List, [], ◌∷◌, ◌++◌}
use Rattle.std.proofs.Common.{length}
use Rattle.std.proofs.Common.{Some, Result, Ok, Err, refl, sym, ap, subst, ◌∙◌, append_assoc, arith, inl, inr}
use Rattle.std.specs.List.{list_all}
use Rattle.std.proofs.lemmas.Bool.{and_parts, and_from}
use Rattle.std.proofs.lemmas.List.{append-nil, length-append, flat_map_more}
use Rattle.std.proofs.lemmas.List.Folds.{list_all-append}
use Rattle.bw_model.specs.Wire.{Reason, Cut, is_below, are_bytes}
use Rattle.bw_model.proofs.ByteNumbers.{are_bytes-tail}
use Rattle.bw_wire.specs.Codecs.{Codec, spelling_of, Spelled}
use Rattle.bw_wire.specs.FramerStates.{Phase, Reading, Left, Failed, Pending, Reported, Nothing, Gives, Fails, fresh, piece_in}
use Rattle.bw_wire.specs.FramerStates.{consumed, compacted, emptied, reported_again, next_of, cut_off, end_in, end_fault}
use Rattle.bw_wire.specs.Runs.{Call, Feeds, Takes, fed_in, Run, given_by, with_answer, with_call, with_calls}
use Rattle.bw_wire.specs.Runs.{framer_run}
use Rattle.bw_wire.specs.Runs.{Follows, RunsFollow}
use Rattle.bw_wire.proofs.FramerLaws.{next_of-left, next_of-failed, next_of-partial, next_of-bad, next_of-value}
use Rattle.bw_wire.proofs.FramerLaws.{next_of-last, cut_or_not}

-- what is read is what is spelled
pub record IsCodec (X : Type 0) (codec : Codec X) : Type 0 where
  pub stands : (bytes : List ℕ) (x : X) (more : List ℕ) → are_bytes bytes ≡ true → codec.first bytes ≡ Ok (x, more) →
      bytes ≡ codec.frame x ++ more
  pub given : (bytes : List ℕ) (x : X) (more : List ℕ) → are_bytes bytes ≡ true → codec.first bytes ≡ Ok (x, more) →
      codec.is_last x ≡ false → codec.is_given x ≡ true
  -- more bytes change no fault but that the bytes are cut
  pub grows : (bytes piece : List ℕ) (reason : Reason) → reason ≢ Cut → codec.first bytes ≡ Err reason →
      codec.first (bytes ++ piece) ≡ Err reason
  pub last : (x : X) → codec.is_last x ≡ true → codec.last ≡ Some x

-- what a framer in this phase has taken of the bytes that it was fed
InPhase : {X : Type 0} → Codec X → Phase → List ℕ → Run X → Type 0
InPhase codec Reading bytes r =
    (bytes ≡ spelling_of codec r.given ++ r.state.bytes) × (r.state.used ≡ length (spelling_of codec r.given))
InPhase {X} codec Left bytes r = (x : X) × (rest : List ℕ) × (codec.is_last x ≡ true)
    × (bytes ≡ spelling_of codec r.given ++ (codec.frame x ++ rest))
InPhase codec (Failed reason) bytes r =
    (rest : List ℕ) × (bytes ≡ spelling_of codec r.given ++ rest) × (codec.first rest ≡ Err reason) × (reason ≢ Cut)
    × (r.state.used ≡ length (spelling_of codec r.given))

record Sound (X : Type 0) (codec : Codec X) (bytes : List ℕ) (r : Run X) : Type 0 where
  each : list_all codec.is_given r.given ≡ true
  kept : InPhase codec r.state.phase bytes r

-- ---- a piece more

fed_more : {X : Type 0} (codec : Codec X) → IsCodec X codec → (bytes piece : List ℕ) (given : List X) (p : Pending)
    (h : Phase) → p.phase ≡ h → InPhase codec h bytes (record { given = given; state = p })
    → InPhase codec h (bytes ++ piece) (record { given = given; state = piece_in h p piece })
    × ((piece_in h p piece).phase ≡ h)
unfolding InPhase
fed_more codec is bytes piece given p Reading e k =
    ((ap (λ (x : List ℕ). x ++ piece) k.0 ∙ append_assoc (spelling_of codec given) p.bytes piece, k.1), e)
fed_more codec is bytes piece given p Left e k = (
  (
    k.0,
    k.1 ++ piece,
    k.2,
    ap (λ (x : List ℕ). x ++ piece) k.3
        ∙ append_assoc (spelling_of codec given) (codec.frame k.0 ++ k.1) piece
        ∙ ap (λ (x : List ℕ). spelling_of codec given ++ x) (append_assoc (codec.frame k.0) k.1 piece),
  ),
  e,
)
fed_more codec is bytes piece given p (Failed reason) e k = (
  (
    k.0 ++ piece,
    ap (λ (x : List ℕ). x ++ piece) k.1 ∙ append_assoc (spelling_of codec given) k.0 piece,
    is.grows k.0 piece reason k.3 k.2,
    k.3,
    k.4,
  ),
  e,
)

feeds_sound : {X : Type 0} (codec : Codec X) → IsCodec X codec → (bytes piece : List ℕ) (r : Run X) →
    Sound X codec bytes r → Sound X codec (bytes ++ piece) (with_call codec r (Feeds piece))
feeds_sound codec is bytes piece r s =
    let more = fed_more codec is bytes piece r.given r.state r.state.phase refl s.kept in
    record {
      each = s.each;
      kept = subst (λ (h : Phase). InPhase codec h (bytes ++ piece)
          (with_call codec r (Feeds piece))) (sym more.1) more.0;
    }

-- ---- the next frame

-- if nothing is given, only the state changes
same_given : {X : Type 0} (codec : Codec X) (bytes : List ℕ) (given none : List X) (p : Pending) → none ≡ [] →
    Sound X codec bytes (record { given = given; state = p })
    → Sound X codec bytes (record { given = given ++ none; state = p })
same_given {X} codec bytes given none p e s =
    subst (λ (x : List X). Sound X codec bytes (record { given = x; state = p }))
    (sym (ap (λ (x : List X). given ++ x) e ∙ append-nil given)) s

value_more : {X : Type 0} (codec : Codec X) → IsCodec X codec → (bytes : List ℕ) (given : List X) (p : Pending) (x : X)
    (more : List ℕ) → are_bytes bytes ≡ true → list_all codec.is_given given ≡ true → p.phase ≡ Reading
    → (bytes ≡ spelling_of codec given ++ p.bytes) × (p.used ≡ length (spelling_of codec given)) →
    codec.first p.bytes ≡ Ok (x, more) → codec.is_last x ≡ false
    → Sound X codec bytes (record { given = given ++ x ∷ []; state = consumed p more })
unfolding InPhase
value_more {X} codec is bytes given p x more fits each e k read other =
    let rest_fits = are_bytes-tail (spelling_of codec given) p.bytes (ap are_bytes (sym k.0) ∙ fits) in
    let stands = is.stands p.bytes x more rest_fits read in
    let frames : spelling_of codec given ++ codec.frame x ≡ spelling_of codec (given ++ x ∷ []) =
    flat_map_more codec.frame [] given x in
    let len : length p.bytes ≡ length (codec.frame x) + length more =
    ap (length {A = ℕ}) stands ∙ length-append (codec.frame x) more in
    let all : length (spelling_of codec (given ++ x ∷ []))
    ≡ length (spelling_of codec given) + length (codec.frame x) =
    ap (length {A = ℕ}) (sym frames) ∙ length-append (spelling_of codec given) (codec.frame x) in
    record {
      each = list_all-append codec.is_given given (x ∷ [])
          ∙ and_from (list_all codec.is_given given) (codec.is_given x && true) each
          (and_from (codec.is_given x) true (is.given p.bytes x more rest_fits read other) refl);
      kept = subst (λ (h : Phase). InPhase codec h bytes (record { given = given ++ x ∷ []; state = consumed p more }))
          (sym e) (
            k.0 ∙ ap (λ (y : List ℕ). spelling_of codec given ++ y) stands
                ∙ sym (append_assoc (spelling_of codec given) (codec.frame x) more)
                ∙ ap (λ (y : List ℕ). y ++ more) frames,
            omega (arith, k.1, len, all),
          );
    }

-- what is given by a value that is the last, and by one that isn't
given_by-last : {X : Type 0} (codec : Codec X) (x : X) → codec.is_last x ≡ true → given_by codec (Gives x) ≡ []
given_by-last {X} codec x e = go (codec.is_last x) e
  where
    go : (last : Bool) → last ≡ true → (if last then [] else x ∷ []) ≡ []
    go true e = refl
    go false e = absurd cc

given_by-value : {X : Type 0} (codec : Codec X) (x : X) → codec.is_last x ≡ false → given_by codec (Gives x) ≡ x ∷ []
given_by-value {X} codec x e = go (codec.is_last x) e
  where
    go : (last : Bool) → last ≡ false → (if last then [] else x ∷ []) ≡ x ∷ []
    go true e = absurd cc
    go false e = refl

-- the last is reported again, and nothing given
given_by-again : {X : Type 0} (codec : Codec X) → IsCodec X codec → (x : X) → codec.is_last x ≡ true →
    given_by codec (reported_again codec.last) ≡ []
given_by-again {X} codec is x e =
    ap (λ o. given_by codec (reported_again {X = X} o)) (is.last x e) ∙ given_by-last codec x e

taken_sound : {X : Type 0} (codec : Codec X) → IsCodec X codec → (bytes : List ℕ) (given : List X) (p : Pending)
    (h : Phase) (read : Result (X × List ℕ) Reason) → are_bytes bytes ≡ true → p.phase ≡ h →
    codec.first p.bytes ≡ read → Sound X codec bytes (record { given = given; state = p }) →
    InPhase codec h bytes (record { given = given; state = p })
    → Sound X codec bytes (with_answer codec given (next_of codec p))
unfolding InPhase
taken_sound {X} codec is bytes given p Left read fits e f s k =
    subst (λ (x : Reported X × Pending). Sound X codec bytes (with_answer codec given x)) (sym (next_of-left codec p e))
    (same_given codec bytes given (given_by codec (reported_again codec.last)) p (given_by-again codec is k.0 k.2) s)
taken_sound {X} codec is bytes given p (Failed reason) read fits e f s k =
    subst (λ (x : Reported X × Pending). Sound X codec bytes (with_answer codec given x))
    (sym (next_of-failed codec p reason e)) (same_given codec bytes given [] p refl s)
taken_sound {X} codec is bytes given p Reading (Ok (x, more)) fits e f s k = go (codec.is_last x) refl
  where
    go : (last : Bool) → codec.is_last x ≡ last → Sound X codec bytes (with_answer codec given (next_of codec p))
    go true last =
        let rest_fits = are_bytes-tail (spelling_of codec given) p.bytes (ap are_bytes (sym k.0) ∙ fits) in
        let q = emptied p (p.used + (length p.bytes - length more)) Left in
        subst (λ (y : Reported X × Pending). Sound X codec bytes (with_answer codec given y))
        (sym (next_of-last codec p x more e f last))
        (same_given codec bytes given (given_by codec (Gives x)) q (given_by-last codec x last)
        (record {
          each = s.each;
          kept = (
            x,
            more,
            last,
            k.0 ∙ ap (λ (y : List ℕ). spelling_of codec given ++ y) (is.stands p.bytes x more rest_fits f),
          );
        }))
    go false other =
        subst (λ (y : Reported X × Pending). Sound X codec bytes (with_answer codec given y))
        (sym (next_of-value codec p x more e f other))
        (subst (λ (xs : List X). Sound X codec bytes (record { given = given ++ xs; state = consumed p more }))
        (sym (given_by-value codec x other)) (value_more codec is bytes given p x more fits s.each e k f other))
taken_sound {X} codec is bytes given p Reading (Err reason) fits e f s k = elim (cut_or_not reason) [
  | inl cut ↦ subst (λ (x : Reported X × Pending). Sound X codec bytes (with_answer codec given x))
      (sym (next_of-partial codec p e (f ∙ ap Err cut)))
      (same_given codec bytes given [] (compacted p) refl
      (record {
        each = s.each;
        kept = subst (λ (h : Phase). InPhase codec h bytes (record { given = given; state = compacted p }))
            (sym e) k;
      }))
  | inr other ↦ subst (λ (x : Reported X × Pending). Sound X codec bytes (with_answer codec given x))
      (sym (next_of-bad codec p reason e f other))
      (same_given codec bytes given [] (emptied p p.used (Failed reason)) refl
      (record { each = s.each; kept = (p.bytes, k.0, f, other, k.1) }))
]

takes_sound : {X : Type 0} (codec : Codec X) → IsCodec X codec → (bytes : List ℕ) (r : Run X) →
    are_bytes bytes ≡ true → Sound X codec bytes r → Sound X codec bytes (with_call codec r Takes)
takes_sound codec is bytes r fits s =
    taken_sound codec is bytes r.given r.state r.state.phase (codec.first r.state.bytes) fits refl refl s s.kept

-- ---- whole runs

run_sound : {X : Type 0} (codec : Codec X) → IsCodec X codec → (calls : List Call) (bytes : List ℕ) (r : Run X) →
    are_bytes (bytes ++ fed_in calls) ≡ true → Sound X codec bytes r →
    Sound X codec (bytes ++ fed_in calls) (with_calls codec r calls)
run_sound {X} codec is [] bytes r fits s = subst (λ (x : List ℕ). Sound X codec x r) (sym (append-nil bytes)) s
run_sound {X} codec is (Feeds piece ∷ calls) bytes r fits s =
    let regroup = append_assoc bytes piece (fed_in calls) in
    subst (λ (x : List ℕ). Sound X codec x (with_calls codec (with_call codec r (Feeds piece)) calls)) regroup
    (run_sound codec is calls (bytes ++ piece) (with_call codec r (Feeds piece)) (ap are_bytes regroup ∙ fits)
    (feeds_sound codec is bytes piece r s))
run_sound codec is (Takes ∷ calls) bytes r fits s =
    run_sound codec is calls bytes (with_call codec r Takes) fits
    (takes_sound codec is bytes r (and_parts (are_bytes bytes) (are_bytes (fed_in calls))
    (sym (list_all-append (is_below 256) bytes (fed_in calls)) ∙ fits)).0 s)

-- ---- what a run says of the values

-- what an answer says of them, whose state is p
record Ends (X : Type 0) (codec : Codec X) (bytes : List ℕ) (given : List X) (p : Pending) (reported : Reported X)
    : Type 0 where
  nothing : reported ≡ Nothing → Spelled X codec bytes given p.bytes × (codec.first p.bytes ≡ Err Cut)
  ends : reported ≡ Nothing → end_fault p ≡ cut_off p.bytes (length (spelling_of codec given))
  last : (x : X) → codec.is_last x ≡ true → reported ≡ Gives x →
      (rest : List ℕ) × Spelled X codec bytes given (codec.frame x ++ rest)
  fault : (reason : Reason) (offset : ℕ) → reported ≡ Fails reason offset
      → (rest : List ℕ) × Spelled X codec bytes given rest × (codec.first rest ≡ Err reason)
      × (offset ≡ length (spelling_of codec given))
  not_cut : (offset : ℕ) → reported ≢ Fails Cut offset

fault_ends : {X : Type 0} (codec : Codec X) (bytes rest : List ℕ) (given : List X) (p : Pending) (why : Reason) →
    why ≢ Cut → Spelled X codec bytes given rest → codec.first rest ≡ Err why →
    p.used ≡ length (spelling_of codec given) → Ends X codec bytes given p (Fails why p.used)
fault_ends codec bytes rest given p why other spelled bad place = record {
  nothing = λ x. absurd cc;
  ends = λ x. absurd cc;
  last = λ x l e. absurd cc;
  fault = λ reason offset x.
      let cause : why ≡ reason = cc in
      let at : p.used ≡ offset = cc in
      (rest, spelled, bad ∙ ap Err cause, sym at ∙ place);
  not_cut = λ offset x. let cut : why ≡ Cut = cc in other cut;
}

last_ends : {X : Type 0} (codec : Codec X) (bytes rest : List ℕ) (given : List X) (p : Pending) (x : X) →
    Spelled X codec bytes given (codec.frame x ++ rest) → Ends X codec bytes given p (Gives x)
last_ends {X} codec bytes rest given p x spelled = record {
  nothing = λ e. absurd cc;
  ends = λ e. absurd cc;
  last = λ y l e.
      let same : x ≡ y = cc in
      (rest, subst (λ (z : X). Spelled X codec bytes given (codec.frame z ++ rest)) same spelled);
  fault = λ reason offset e. absurd cc;
  not_cut = λ offset e. cc;
}

value_ends : {X : Type 0} (codec : Codec X) (bytes : List ℕ) (given : List X) (p : Pending) (x : X) →
    codec.is_last x ≡ false → Ends X codec bytes given p (Gives x)
value_ends {X} codec bytes given p x other = record {
  nothing = λ e. absurd cc;
  ends = λ e. absurd cc;
  last = λ y l e.
      let same : x ≡ y = cc in
      absurd (not_both (codec.is_last x) (ap codec.is_last same ∙ l) other);
  fault = λ reason offset e. absurd cc;
  not_cut = λ offset e. cc;
}
  where
    not_both : (b : Bool) → b ≡ true → b ≡ false → ⊥
    not_both b is isnt = cc

ends_in : {X : Type 0} (codec : Codec X) → IsCodec X codec → (bytes : List ℕ) (given : List X) (p : Pending)
    (h : Phase) (read : Result (X × List ℕ) Reason) → are_bytes bytes ≡ true → p.phase ≡ h →
    codec.first p.bytes ≡ read → list_all codec.is_given given ≡ true →
    InPhase codec h bytes (record { given = given; state = p })
    → Ends X codec bytes given p (next_of codec p).0
unfolding InPhase
ends_in {X} codec is bytes given p Left read fits e f each k =
    subst (λ (x : Reported X × Pending). Ends X codec bytes given p x.0) (sym (next_of-left codec p e))
    (subst (λ o. Ends X codec bytes given p (reported_again {X = X} o)) (sym (is.last k.0 k.2))
    (last_ends codec bytes k.1 given p k.0 (record { each = each; whole = k.3 })))
ends_in {X} codec is bytes given p (Failed reason) read fits e f each k =
    subst (λ (x : Reported X × Pending). Ends X codec bytes given p x.0) (sym (next_of-failed codec p reason e))
    (fault_ends codec bytes k.0 given p reason k.3 (record { each = each; whole = k.1 }) k.2 k.4)
ends_in {X} codec is bytes given p Reading (Ok (x, more)) fits e f each k = go (codec.is_last x) refl
  where
    go : (last : Bool) → codec.is_last x ≡ last → Ends X codec bytes given p (next_of codec p).0
    go true last =
        let rest_fits = are_bytes-tail (spelling_of codec given) p.bytes (ap are_bytes (sym k.0) ∙ fits) in
        subst (λ (y : Reported X × Pending). Ends X codec bytes given p y.0) (sym (next_of-last codec p x more e f last))
        (last_ends codec bytes more given p x (record {
          each = each;
          whole = k.0 ∙ ap (λ (y : List ℕ). spelling_of codec given ++ y) (is.stands p.bytes x more rest_fits f);
        }))
    go false other =
        subst (λ (y : Reported X × Pending). Ends X codec bytes given p y.0) (sym (next_of-value codec p x more e f other))
        (value_ends codec bytes given p x other)
ends_in {X} codec is bytes given p Reading (Err reason) fits e f each k = elim (cut_or_not reason) [
  | inl cut ↦ subst (λ (x : Reported X × Pending). Ends X codec bytes given p x.0)
      (sym (next_of-partial codec p e (f ∙ ap Err cut)))
      (record {
        nothing = λ _. (record { each = each; whole = k.0 }, f ∙ ap Err cut);
        ends = λ _. ap (λ (x : Phase). end_in x p) e ∙ ap (cut_off p.bytes) k.1;
        last = λ x l y. absurd cc;
        fault = λ why offset x. absurd cc;
        not_cut = λ offset x. cc;
      })
  | inr other ↦ subst (λ (x : Reported X × Pending). Ends X codec bytes given p x.0)
      (sym (next_of-bad codec p reason e f other))
      (fault_ends codec bytes p.bytes given p reason other (record { each = each; whole = k.0 }) f k.1)
]

rest_in : {X : Type 0} (codec : Codec X) (bytes : List ℕ) (given : List X) (p : Pending) (h : Phase) →
    InPhase codec h bytes (record { given = given; state = p })
    → (rest : List ℕ) × (bytes ≡ spelling_of codec given ++ rest)
unfolding InPhase
rest_in codec bytes given p Reading k = (p.bytes, k.0)
rest_in codec bytes given p Left k = (codec.frame k.0 ++ k.1, k.3)
rest_in codec bytes given p (Failed reason) k = (k.0, k.1)

follows : {X : Type 0} (codec : Codec X) → IsCodec X codec → (bytes : List ℕ) (r : Run X) → are_bytes bytes ≡ true →
    Sound X codec bytes r → Follows X codec bytes r
follows codec is bytes r fits s =
    let rest = rest_in codec bytes r.given r.state r.state.phase s.kept in
    let ends = ends_in codec is bytes r.given r.state r.state.phase
    (codec.first r.state.bytes) fits refl refl s.each s.kept in
    record {
      prefix = (rest.0, record { each = s.each; whole = rest.1 });
      nothing = ends.nothing;
      ends = ends.ends;
      last = ends.last;
      fault = ends.fault;
      not_cut = ends.not_cut;
    }

fresh_sound : {X : Type 0} (codec : Codec X) → Sound X codec [] (record { given = []; state = fresh })
unfolding InPhase
fresh_sound codec = record { each = refl; kept = (refl, refl) }

pub runs_follow : {X : Type 0} (codec : Codec X) → IsCodec X codec → RunsFollow codec
runs_follow codec is calls fits =
    follows codec is (fed_in calls) (framer_run codec calls) fits
    (run_sound codec is calls [] (record { given = []; state = fresh }) fits (fresh_sound codec))

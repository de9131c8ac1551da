-- One step of a walk.
use Rattle.std.proofs.Common.{◌≡◌, ℕ, ◌+◌, ◌<◌, ◌≤◌, Bool, true, false, ◌&&◌, List, [], ◌∷◌, ◌++◌, length, drop, Option}
use Rattle.std.proofs.Common.{Some, None, Ok, Err, refl, sym, ◌∙◌, ap, subst, arith, add-zero, inl, inr}
use Rattle.std.specs.Prelude.{codes, is_none, unwrap_or, nat_lt, nat_le, not, ◌==◌, if◌then◌else◌}
use Rattle.std.proofs.lemmas.Bool.{le-leb, lt-leb, lt-ltb, le-ltb}
use Rattle.bw_model.specs.Bytes.{first_that_holds, u32_at, unsaid}
use Rattle.bw_model.specs.Reading as reading
use Rattle.bw_layout.specs.declared.chunk.ChunkHead.{ChunkHead}
use Rattle.bw_inspect.specs.declared.fault.InspectFault.{InspectFault}
use Rattle.bw_inspect.specs.declared.fault.InspectKind.TheVariants.{Truncated, TooMany}
use Rattle.bw_inspect.specs.declared.walk.Walk.{Walk}
use Rattle.bw_inspect.specs.declared.chunk.ChunkKind.{ChunkKind}
use Rattle.bw_inspect.specs.declared.chunk.ChunkKind.TheVariants.{Fmt, Bext, Data, Cue, Other}
use Rattle.bw_inspect.specs.Faults.{is_of_bytes, is_failed_read, bytes_fault}
use Rattle.bw_inspect.specs.Places.{HasGrown, IsMissed}
use Rattle.bw_inspect.specs.Chunks.{kind_by, start_faults, size_faults, content_faults}
use Rattle.bw_inspect.specs.Chunks.{is_other_kind, is_fmt_kind, is_bext_kind}
use Rattle.bw_inspect.specs.Chunks.{is_cue_kind}
use Rattle.bw_inspect.specs.Known.{facts_of, facts_in, has_kind, learned, Facts}
use Rattle.bw_inspect.specs.Contents.{IsEndOf, IsLearned, IsStoppedIn, IsUnlearned, IsFaultless, WantsPoints}
use Rattle.bw_inspect.specs.Walks.{HasReadPoints, StandsInForm, IsHead, IsFaulted, IsPassedOver, place_after}
use Rattle.bw_inspect.specs.Walks.{faults_at, seen_by}
use Rattle.bw_inspect.proofs.Faults.{bytes_no_read, of_bytes, missed_no_memory, no_memory, not_both}
use Rattle.bw_inspect.proofs.ChunkFaults.{Named, named, faults_in_parts, first_none, first_some, next_err, next_ok}
use Rattle.bw_inspect.proofs.ChunkFaults.{follow_push, place_push, facts_push}

-- the faults after those before a head
abbrev pub later_faults : ℕ → List ℕ → reading.Form → List reading.Entry → ℕ → List (Bool × reading.Fault)
later_faults len b form seen p =
    size_faults (reading.form_end form) p (kind_by (reading.id_at b p))
    (has_kind (kind_by (reading.id_at b p)) (facts_in b seen)) (reading.size_at b form p)
    (unwrap_or (reading.size_at b form p) 0)
    ++ content_faults len p (kind_by (reading.id_at b p)) (u32_at b (p + 8)) (unwrap_or (reading.size_at b form p) 0)

in_parts : (len : ℕ) (b : List ℕ) (form : reading.Form) (seen : List reading.Entry) (p : ℕ) →
    first_that_holds (faults_at len b form seen p)
    ≡ first_that_holds (start_faults len seen p ++ later_faults len b form seen p)
in_parts len b form seen p =
    ap first_that_holds (faults_in_parts len b form seen p (unwrap_or (reading.size_at b form p) 0))

-- a fault before the head's end
start_reported : (b : List ℕ) (form : reading.Form) (w : Walk) (left : Option (List ℕ)) (g : reading.Fault) →
    StandsInForm b form w left → w.place + 8 ≤ reading.form_end form →
    first_that_holds (start_faults (length b) (seen_by w) w.place) ≡ Some g →
    reading.next b form (seen_by w) ≡ Err g
start_reported b form w left g s l e =
    next_err b form (seen_by w) w.place g s.place l
    (in_parts (length b) b form (seen_by w) w.place
    ∙ first_some (start_faults (length b) (seen_by w) w.place)
    (later_faults (length b) b form (seen_by w) w.place) g e)

-- 4,096 chunks are listed already
pub too_many : (b : List ℕ) (form : reading.Form) (w : Walk) (left : Option (List ℕ)) (f : InspectFault) →
    StandsInForm b form w left → w.place + 8 ≤ reading.form_end form →
    4096 ≤ length (seen_by w) → f ≡ record { kind = TooMany; offset = w.place } → IsFaulted b form (seen_by w) f left
too_many b form w left f s l n e =
    let full : nat_le 4096 (length (seen_by w)) ≡ true = le-leb 4096 (length (seen_by w)) n in
    let kind = ap (λ (x : InspectFault). is_of_bytes x.kind) e in
    record {
      reached = s.reached;
      within = s.within;
      there = λ t. s.there t ∙ s.place;
      rest = s.rest;
      fails = λ t. absurd (not_both (is_failed_read f.kind) (bytes_no_read f.kind kind) t);
      memory = λ t. absurd (no_memory f kind t);
      fault = λ g h. start_reported b form w left g s l (rw full (sym (ap bytes_fault e) ∙ h));
    }

-- b ends before the head's end
pub head_cut : (b : List ℕ) (form : reading.Form) (w : Walk) (left left' : Option (List ℕ)) (cut f : InspectFault) →
    StandsInForm b form w left → w.place + 8 ≤ reading.form_end form →
    length (seen_by w) < 4096 → cut ≡ record { kind = Truncated; offset = w.place } →
    IsMissed b w.place 8 cut f left' → IsFaulted b form (seen_by w) f left'
head_cut b form w left left' cut f s l n e m =
    let few : nat_le 4096 (length (seen_by w)) ≡ false = lt-leb 4096 (length (seen_by w)) n in
    record {
      reached = w.place + m.taken;
      within = let x = m.small in omega arith;
      there = λ t.
          let x = m.there in
          let none : m.taken ≡ 0 = grind arith in
          ap (λ (k : ℕ). w.place + k) none ∙ (add-zero w.place ∙ s.place);
      rest = m.rest;
      fails = m.fails;
      memory = λ t. absurd (missed_no_memory b w.place 8 cut f left' m
          (ap (λ (x : InspectFault). is_of_bytes x.kind) e) t);
      fault = λ g h.
          let c = m.cuts (ap not (bytes_no_read f.kind (of_bytes f g h))) in
          let short : nat_lt (length b) (w.place + 8) ≡ true = lt-ltb (length b) (w.place + 8) c.1 in
          start_reported b form w left g s l (rw (few, short) (sym (ap bytes_fault (c.0 ∙ e)) ∙ h));
    }

-- a head was read
pub record Headed (b : List ℕ) (form : reading.Form) (w : Walk) (id : List ℕ) (size : Option ℕ) : Type 0 where
  pub wanted : w.place + 8 ≤ reading.form_end form
  pub few : length (seen_by w) < 4096
  pub there : w.place + 8 ≤ length b
  pub spells : id ≡ reading.id_at b w.place
  pub reported : size ≡ reading.size_at b form w.place

start_free : (len : ℕ) (b : List ℕ) (form : reading.Form) (w : Walk) (id : List ℕ) (size : Option ℕ) →
    w.place + 8 ≤ len → Headed b form w id size → first_that_holds (start_faults len (seen_by w) w.place) ≡ None
start_free len b form w id size l h =
    let few : nat_le 4096 (length (seen_by w)) ≡ false = lt-leb 4096 (length (seen_by w)) h.few in
    let there : nat_lt len (w.place + 8) ≡ false = le-ltb len (w.place + 8) l in
    rw (few, there) refl

-- the faults that the code looks for are those
later_are : (len : ℕ) (b : List ℕ) (form : reading.Form) (w : Walk) (id : List ℕ) (size : Option ℕ)
    (left : Option (List ℕ)) → w.place + 8 ≤ len → StandsInForm b form w left → Headed b form w id size →
    first_that_holds (faults_at len b form (seen_by w) w.place)
    ≡ first_that_holds (size_faults (reading.form_end form) w.place (kind_by id)
    (has_kind (kind_by id) (facts_of w.known)) size (unwrap_or size 0)
    ++ content_faults len w.place (kind_by id) (u32_at b (w.place + 8)) (unwrap_or size 0))
later_are len b form w id size left l s h =
    in_parts len b form (seen_by w) w.place
    ∙ first_none (start_faults len (seen_by w) w.place) (later_faults len b form (seen_by w) w.place)
    (start_free len b form w id size l h)
    ∙ rw (h.spells, h.reported, s.facts) refl

pub size_faulted : (b : List ℕ) (form : reading.Form) (w : Walk) (id : List ℕ) (size : Option ℕ)
    (left left' : Option (List ℕ)) (f : InspectFault) → StandsInForm b form w left → Headed b form w id size →
    left' ≡ Some (drop (w.place + 8) b) → is_of_bytes f.kind ≡ true →
    bytes_fault f ≡ first_that_holds
    (size_faults (reading.form_end form) w.place (kind_by id) (has_kind (kind_by id) (facts_of w.known)) size
    (unwrap_or size 0)) →
    IsFaulted b form (seen_by w) f left'
size_faulted b form w id size left left' f s h l r e = record {
  reached = w.place + 8;
  within = h.wanted;
  there = λ t. absurd (let x = h.there in omega arith);
  rest = l;
  fails = λ t. absurd (not_both (is_failed_read f.kind) (bytes_no_read f.kind r) t);
  memory = λ t. absurd (no_memory f r t);
  fault = λ g t.
      next_err b form (seen_by w) w.place g s.place h.wanted
      (later_are (length b) b form w id size left h.there s h
      ∙ first_some (size_faults (reading.form_end form) w.place (kind_by id)
      (has_kind (kind_by id) (facts_of w.known)) size (unwrap_or size 0))
      (content_faults (length b) w.place (kind_by id) (u32_at b (w.place + 8)) (unwrap_or size 0)) g (sym e ∙ t));
}

-- the head has no fault by itself
pub record Sized (end : ℕ) (w : Walk) (id : List ℕ) (size : Option ℕ) (c : ℕ) : Type 0 where
  pub is : size ≡ Some c
  pub free : first_that_holds (size_faults end w.place (kind_by id) (has_kind (kind_by id) (facts_of w.known)) size c)
      ≡ None
  pub inside : w.place + 8 + c ≤ end

content_are : (len : ℕ) (b : List ℕ) (form : reading.Form) (w : Walk) (id : List ℕ) (size : Option ℕ) (c : ℕ)
    (left : Option (List ℕ)) → w.place + 8 ≤ len → StandsInForm b form w left → Headed b form w id size →
    Sized (reading.form_end form) w id size c →
    first_that_holds (faults_at len b form (seen_by w) w.place)
    ≡ first_that_holds (content_faults len w.place (kind_by id) (u32_at b (w.place + 8)) c)
content_are len b form w id size c left l s h z =
    let here : unwrap_or size 0 ≡ c = ap (λ (o : Option ℕ). unwrap_or o 0) z.is in
    later_are len b form w id size left l s h
    ∙ ap (λ (n : ℕ). first_that_holds
    (size_faults (reading.form_end form) w.place (kind_by id) (has_kind (kind_by id) (facts_of w.known)) size n
    ++ content_faults len w.place (kind_by id) (u32_at b (w.place + 8)) n)) here
    ∙ first_none (size_faults (reading.form_end form) w.place (kind_by id)
    (has_kind (kind_by id) (facts_of w.known)) size c)
    (content_faults len w.place (kind_by id) (u32_at b (w.place + 8)) c) z.free

-- some points were read of the chunk at a place
record HasReadPointsAt (b : List ℕ) (form : reading.Form) (seen : List reading.Entry) (reached place : ℕ) : Type 0 where
  is_cue : reading.is_id (reading.id_at b place) (codes "cue ") ≡ true
  free : first_that_holds (faults_at (place + 8 + unwrap_or (reading.size_at b form place) 0) b form seen place) ≡ None
  grown : HasGrown b (place + 12) 24 (u32_at b (place + 8)) reached

-- the chunk that is read has no fault: it is what comes
chunk_comes : (b : List ℕ) (form : reading.Form) (w : Walk) (e : reading.Entry) (size : Option ℕ)
    (left mid : Option (List ℕ)) → StandsInForm b form w left → Headed b form w e.id size →
    Sized (reading.form_end form) w e.id size e.size → e.place ≡ w.place →
    IsFaultless b (kind_by e.id) e mid → reading.next b form (seen_by w) ≡ Ok (Some e)
chunk_comes b form w e size left mid s h z p n =
    let entry : reading.Entry =
    record { id = reading.id_at b w.place; place = w.place; size = unwrap_or (reading.size_at b form w.place) 0 } in
    let sz : unwrap_or (reading.size_at b form w.place) 0 ≡ e.size =
    ap (λ (o : Option ℕ). unwrap_or o 0) (sym h.reported ∙ z.is) in
    let sp = h.spells in
    let same : entry ≡ e =
    ap (λ (i : List ℕ). record { id = i; place = w.place; size = unwrap_or (reading.size_at b form w.place) 0 })
    (sym sp)
    ∙ (ap (λ (q : ℕ). record { id = e.id; place = q; size = unwrap_or (reading.size_at b form w.place) 0 }) (sym p)
    ∙ ap (λ (n : ℕ). record { id = e.id; place = e.place; size = n }) sz) in
    next_ok b form (seen_by w) w.place s.place h.wanted
    (content_are (length b) b form w e.id size e.size left h.there s h z
    ∙ ap (λ (q : ℕ). first_that_holds (content_faults (length b) q (kind_by e.id) (u32_at b (q + 8)) e.size)) (sym p)
    ∙ n.free)
    ∙ ap (λ (x : reading.Entry). Ok (Some x)) same

cue_named : (k : ChunkKind) (id : List ℕ) → Named k id → is_cue_kind k ≡ true → reading.is_id id (codes "cue ") ≡ true
cue_named Fmt id n e = cc
cue_named Bext id n e = cc
cue_named Data id n e = cc
cue_named Cue id n e = ap (λ (i : List ℕ). reading.is_id i (codes "cue ")) n
cue_named Other id n e = cc

-- some points were read of the chunk that is read
points_read : (b : List ℕ) (form : reading.Form) (w : Walk) (e : reading.Entry) (size : Option ℕ)
    (left : Option (List ℕ)) (reached : ℕ) → StandsInForm b form w left → Headed b form w e.id size →
    Sized (reading.form_end form) w e.id size e.size → e.place ≡ w.place →
    WantsPoints b (kind_by e.id) e reached → HasReadPoints b form (seen_by w) reached
points_read b form w e size left reached s h z p k =
    let reported : unwrap_or (reading.size_at b form w.place) 0 ≡ e.size =
    ap (λ (o : Option ℕ). unwrap_or o 0) (sym h.reported ∙ z.is) in
    let id : reading.is_id (reading.id_at b w.place) (codes "cue ") ≡ true =
    ap (λ (i : List ℕ). reading.is_id i (codes "cue ")) (sym h.spells)
    ∙ cue_named (kind_by e.id) e.id (named e.id) k.is in
    let free : first_that_holds (faults_at (w.place + 8 + e.size) b form (seen_by w) w.place) ≡ None =
    content_are (w.place + 8 + e.size) b form w e.id size e.size left (omega arith) s h z
    ∙ (ap (λ (q : ℕ). first_that_holds (content_faults (q + 8 + e.size) q (kind_by e.id) (u32_at b (q + 8)) e.size))
    (sym p) ∙ k.free) in
    let here : HasReadPointsAt b form (seen_by w) reached w.place = record {
      is_cue = id;
      free = ap (λ (n : ℕ). first_that_holds (faults_at (w.place + 8 + n) b form (seen_by w) w.place)) reported ∙ free;
      grown = subst (λ (q : ℕ). HasGrown b (q + 12) 24 (u32_at b (q + 8)) reached) p k.grown;
    } in
    let x = subst (λ (q : ℕ). HasReadPointsAt b form (seen_by w) reached q) s.place here in
    record { is_cue = x.is_cue; free = x.free; grown = x.grown }

pub content_faulted : (b : List ℕ) (form : reading.Form) (w : Walk) (e : reading.Entry) (size : Option ℕ)
    (left left' : Option (List ℕ)) (f : InspectFault) → StandsInForm b form w left → Headed b form w e.id size →
    Sized (reading.form_end form) w e.id size e.size → e.place ≡ w.place → IsUnlearned b (kind_by e.id) e f left' →
    IsFaulted b form (seen_by w) f left'
content_faulted b form w e size left left' f s h z p u =
    let inside = z.inside in
    let most = u.halts.within in
    let there = u.halts.there in
    record {
      reached = u.halts.reached;
      within = omega arith;
      there = λ t. absurd (omega arith);
      rest = u.halts.rest;
      fails = u.halts.fails;
      memory = λ t. let m = u.halts.memory t
          in (m.0 ∙ (p ∙ s.place), inr (points_read b form w e size left u.halts.reached s h z p m.1));
      fault = λ g t.
          next_err b form (seen_by w) w.place g s.place h.wanted
          (content_are (length b) b form w e.id size e.size left h.there s h z
          ∙ (ap (λ (q : ℕ). first_that_holds (content_faults (length b) q (kind_by e.id) (u32_at b (q + 8)) e.size))
          (sym p) ∙ u.fault g t));
    }

fourth_free : (a b c d : Bool × reading.Fault) (xs : List (Bool × reading.Fault)) →
    first_that_holds (a ∷ b ∷ c ∷ d ∷ xs) ≡ None → d.0 ≡ false
fourth_free (true, x) b c d xs e = cc
fourth_free (false, x) (true, y) c d xs e = cc
fourth_free (false, x) (false, y) (true, z) d xs e = cc
fourth_free (false, x) (false, y) (false, z) (true, u) xs e = cc
fourth_free (false, x) (false, y) (false, z) (false, u) xs e = refl

not_twice : (end p c : ℕ) (s : ChunkKind) (has : Bool) (size : Option ℕ) →
    first_that_holds (size_faults end p s has size c) ≡ None → not (is_other_kind s) && has ≡ false
not_twice end p c s has size e =
    fourth_free (reading.line (is_none size) reading.NoSize p)
    (reading.line (nat_lt reading.largest c) reading.TooLarge p)
    (reading.line (nat_lt end (p + 8 + c)) reading.Truncated p)
    (reading.line (not (is_other_kind s) && has) reading.Twice p)
    (reading.line (is_fmt_kind s && nat_lt c 16) reading.BadFmt p
    ∷ reading.line (is_bext_kind s && nat_lt c 602) reading.BadBext p
    ∷ reading.line (is_cue_kind s && nat_lt c 4) reading.BadCue p ∷ []) e

unseen_by : (s : ChunkKind) (k : Facts) → not (is_other_kind s) && has_kind s k ≡ false → has_kind s k ≡ false
unseen_by Fmt k h = h
unseen_by Bext k h = h
unseen_by Data k h = h
unseen_by Cue k h = h
unseen_by Other k h = refl

-- the faults by what the code has at hand
pub by_hand : (form : reading.Form) (w : Walk) (id : List ℕ) (end : ℕ) (sort : ChunkKind) (has : Bool)
    (size : Option ℕ) (n : ℕ) (x : Option reading.Fault) → end ≡ reading.form_end form → sort ≡ kind_by id →
    has ≡ has_kind sort (facts_of w.known) →
    x ≡ first_that_holds (size_faults end w.place sort has size n) →
    x ≡ first_that_holds (size_faults (reading.form_end form) w.place (kind_by id)
    (has_kind (kind_by id) (facts_of w.known)) size n)
by_hand form w id end sort has size n x e s h f = rw (← s, ← h, ← e) f

-- a size that the code found free of faults
pub sized : (form : reading.Form) (w : Walk) (id : List ℕ) (kind : ChunkKind) (seen : Bool) (size : Option ℕ) (c : ℕ) →
    kind ≡ kind_by id → seen ≡ has_kind kind (facts_of w.known) → size ≡ Some c →
    first_that_holds (size_faults (reading.form_end form) w.place kind seen size c) ≡ None →
    w.place + 8 + c ≤ reading.form_end form → Sized (reading.form_end form) w id size c
sized form w id kind seen size c k s is free inside = record {
  is = is;
  free = sym (by_hand form w id (reading.form_end form) kind seen size c None refl k s (sym free));
  inside = inside;
}

-- the head that was read is the one in the bytes
pub headed : (b : List ℕ) (form : reading.Form) (w : Walk) (head : ChunkHead) (size : Option ℕ)
    (left : Option (List ℕ)) → w.place + 8 ≤ reading.form_end form → length (seen_by w) < 4096 →
    IsHead b w.place head left →
    size ≡ (if head.size32 == unsaid then reading.reported_size form.sizes head.id else Some head.size32) →
    Headed b form w head.id size
headed b form w head size left l n h e = record {
  wanted = l;
  few = n;
  there = h.within;
  spells = h.spells;
  reported = e ∙ rw (h.reports, h.spells) refl;
}

-- a content is known, by other words for its kind and for what is known
pub learned_as : (b : List ℕ) (kind kind' : ChunkKind) (e : reading.Entry) (old new new' : Facts)
    (left : Option (List ℕ)) → kind ≡ kind' → new' ≡ new → IsLearned b kind e old new left →
    IsLearned b kind' e old new' left
learned_as b kind kind' e old new new' left k n l =
    subst (λ (x : ChunkKind). IsLearned b x e old new' left) k
    (subst (λ (x : Facts). IsLearned b kind e old x left) (sym n) l)

-- a content is read, by another word for its kind
pub whole_as : (b : List ℕ) (kind kind' : ChunkKind) (e : reading.Entry) (left : Option (List ℕ)) → kind ≡ kind' →
    IsFaultless b kind e left → IsFaultless b kind' e left
whole_as b kind kind' e left k w = subst (λ (x : ChunkKind). IsFaultless b x e left) k w

-- one more chunk
pub goes_on : (b : List ℕ) (form : reading.Form) (w v : Walk) (e : reading.Entry) (size : Option ℕ)
    (left mid left' : Option (List ℕ)) → StandsInForm b form w left → Headed b form w e.id size →
    Sized (reading.form_end form) w e.id size e.size → e.place ≡ w.place →
    IsLearned b (kind_by e.id) e (facts_of w.known) (facts_of v.known) mid →
    seen_by v ≡ seen_by w ++ e ∷ [] → v.place ≡ place_after e → IsPassedOver b (reading.form_end form) e left' →
    StandsInForm b form v left'
goes_on b form w v e size left mid left' s h z p n seen place o =
    let comes = chunk_comes b form w e size left mid s h z p n.whole in
    let there = n.whole.to.there in
    let unseen : has_kind (kind_by e.id) (facts_in b (seen_by w)) ≡ false =
    ap (has_kind (kind_by e.id)) (sym s.facts)
    ∙ unseen_by (kind_by e.id) (facts_of w.known)
    (not_twice (reading.form_end form) w.place e.size (kind_by e.id)
    (has_kind (kind_by e.id) (facts_of w.known)) size z.free) in
    record {
      chunks = subst (λ (es : List reading.Entry). reading.FollowEachOther (reading.next b form) [] es) (sym seen)
          (follow_push (reading.next b form) [] (seen_by w) e s.chunks comes);
      facts = n.facts ∙ (ap (learned b (kind_by e.id) e) s.facts
          ∙ (sym (facts_push b (seen_by w) e (kind_by e.id) (named e.id) unseen) ∙ ap (facts_in b) (sym seen)));
      near = omega arith;
      there = λ t. o.there t ∙ sym place;
      place = place ∙ (sym (place_push 12 (seen_by w) e) ∙ ap reading.next_place (sym seen));
      reached = o.reached;
      within = o.within;
      rest = o.rest;
      next = λ l. o.rest ∙ ap (λ (k : ℕ). Some (drop k b))
          (o.next (subst (λ (q : ℕ). q + 8 ≤ reading.form_end form) place l) ∙ sym place);
    }

-- a call stopped after a chunk, for no fault of the bytes
pub stopped_after : (b : List ℕ) (form : reading.Form) (w : Walk) (e : reading.Entry) (size : Option ℕ)
    (left mid left' : Option (List ℕ)) (f : InspectFault) → StandsInForm b form w left → Headed b form w e.id size →
    Sized (reading.form_end form) w e.id size e.size → e.place ≡ w.place → IsFaultless b (kind_by e.id) e mid →
    IsStoppedIn b (IsEndOf e) [] e f left' → IsFaulted b form (seen_by w) f left'
stopped_after b form w e size left mid left' f s h z p n u =
    let inside = z.inside in
    let most = u.halts.within in
    let there = u.halts.there in
    let comes = chunk_comes b form w e size left mid s h z p n in
    record {
      reached = u.halts.reached;
      within = omega arith;
      there = λ t. absurd (omega arith);
      rest = u.halts.rest;
      fails = u.halts.fails;
      memory = λ t. let m = u.halts.memory t
          in (m.0 ∙ (p ∙ s.place), inl (record { entry = e; comes = comes; ends = m.1 }));
      fault = λ g t. absurd (let x : None ≡ Some g = u.fault g t in cc);
    }

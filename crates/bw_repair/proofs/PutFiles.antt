-- A file that is put, or found to have the bytes already.
use Rattle.std.proofs.Common.{◌≡◌, ◌≢◌, ◌∙◌, ◌⊎◌, ℕ, ◌≤◌, Bool, false, true, List, [], ◌∷◌, Option, Some, None, IsSome, length}
use Rattle.std.proofs.Common.{refl, sym, ap, subst, arith, inl, inr, IfErr, Result, Ok, Err}
use Rattle.std.specs.Prelude.{IsTrue, option_map}
use Rattle.bw_disk.specs.declared.disk.Disk.{Ghosts}
use Rattle.bw_inspect.specs.declared.fault.InspectKind.TheVariants.{Read}
use Rattle.bw_stream.specs.Readers.{Of}
use Rattle.bw_store.specs.Stores.{overwritten}
use Rattle.bw_repair.specs.Comparisons.{Compares}
use Rattle.bw_repair.specs.Makings.{IsMadeOf, LeavesOut, StopsMaking}
use Rattle.bw_repair.specs.Overlays.{overlaid}
use Rattle.bw_repair.specs.Puttings.{IsPut, IsThere, StopsPutting}
use Rattle.bw_repair.specs.declared.conversions.fault.ConvertFault.{ConvertFault}
use Rattle.bw_repair.specs.declared.conversions.fault.ConvertKind.{ConvertKind}
use Rattle.bw_repair.specs.declared.conversions.fault.ConvertKind.TheVariants.{Unread, Exists, Unwritten}
use Rattle.bw_repair.proofs.OutWrites.{written_first}
use Rattle.bw_repair.proofs.Overlays.{overlaid-none}

-- an id over the first of at least four bytes
pub overlaid_id : (id b : List ℕ) → length id ≡ 4 → 4 ≤ length b → overlaid 0 id b ≡ overwritten b 0 id
unfolding overlaid
overlaid_id [] b n h = absurd (omega (arith, n))
overlaid_id (p ∷ []) b n h = absurd (omega (arith, n))
overlaid_id (p ∷ q ∷ []) b n h = absurd (omega (arith, n))
overlaid_id (p ∷ q ∷ r ∷ []) b n h = absurd (omega (arith, n))
overlaid_id (p ∷ q ∷ r ∷ s ∷ t ∷ more) b n h = absurd (omega (arith, n))
overlaid_id (p ∷ q ∷ r ∷ s ∷ []) [] n h = absurd (omega (arith, h))
overlaid_id (p ∷ q ∷ r ∷ s ∷ []) (a ∷ []) n h = absurd (omega (arith, h))
overlaid_id (p ∷ q ∷ r ∷ s ∷ []) (a ∷ c ∷ []) n h = absurd (omega (arith, h))
overlaid_id (p ∷ q ∷ r ∷ s ∷ []) (a ∷ c ∷ d ∷ []) n h = absurd (omega (arith, h))
overlaid_id (p ∷ q ∷ r ∷ s ∷ []) (a ∷ c ∷ d ∷ e ∷ rest) n h =
    ap (λ (z : List ℕ). p ∷ q ∷ r ∷ s ∷ z) (overlaid-none 0 rest)
    ∙ sym (written_first (a ∷ c ∷ d ∷ e ∷ rest) p (q ∷ r ∷ s ∷ []))

-- what is there has these bytes
there : (content : Option (List ℕ)) (w : List ℕ) → IsSome content → Compares content w true → content ≡ Some w
there None w some same = let bad : false ≡ true = some in cc
there (Some x) w some same = ap (λ (z : List ℕ). Some z) ((same x refl).0 refl)

module _ {D F : Type 0} (G : Ghosts D F) (path w id : List ℕ) (old new : D) where
  -- it was found
  pub found : (IsTrue (G.honest old) → IsSome (G.contents old path))
      → (IsTrue (G.honest old) → Compares (G.contents old path) (overwritten w 0 id) true)
      → (IsTrue (G.honest old) → G.contents new path ≡ G.contents old path)
      → (IsTrue (G.honest old) → G.synced new path ≡ G.contents old path) → IsPut G path w id old new
  found some same kept synced h =
      let is = there (G.contents old path) (overwritten w 0 id) (some h) (same h) in record {
        before = inr is;
        has = kept h ∙ is;
        lasts = synced h ∙ is;
      }

  -- something else is there
  pub other_there : (f : ConvertFault) → f ≡ record { kind = Exists; offset = 0 }
      → (IsTrue (G.honest old) → IsSome (G.contents old path))
      → (IsTrue (G.honest old) → Compares (G.contents old path) (overwritten w 0 id) false)
      → (IsTrue (G.honest old) → G.contents new path ≡ G.contents old path) → StopsPutting G path w id f old new
  other_there f is some differs kept = subst (λ (x : ConvertFault). StopsPutting G path w id x old new) (sym is) (record {
    reason = inl (refl, refl);
    leaves = λ h. (some h, kept h);
    other = λ h e at. (let bad : false ≡ true = (differs h (overwritten w 0 id) at).1 refl in cc);
  })

  -- a read of the reader failed
  pub unread : (f : ConvertFault) (offset : ℕ) → f ≡ record { kind = Unread Read; offset = offset }
      → (IsTrue (G.honest old) → G.contents new path ≡ G.contents old path) → StopsPutting G path w id f old new
  unread f offset is kept = subst (λ (x : ConvertFault). StopsPutting G path w id x old new) (sym is) (record {
    reason = inr refl;
    leaves = λ h. inl (kept h);
    other = λ h e at. (let bad : Unread Read ≡ Exists = e in cc);
  })

  -- .. or a call of the disk
  pub unwritten : (f : ConvertFault) (offset : ℕ) → f ≡ record { kind = Unwritten; offset = offset }
      → (IsTrue (G.honest old) → G.contents new path ≡ G.contents old path) → StopsPutting G path w id f old new
  unwritten f offset is kept = subst (λ (x : ConvertFault). StopsPutting G path w id x old new) (sym is) (record {
    reason = inr tt;
    leaves = λ h. inl (kept h);
    other = λ h e at. (let bad : Unwritten ≡ Exists = e in cc);
  })

-- what a reader of these bytes has left under an id
pub named_left : {R : Type 0} (left : R → Option (List ℕ)) (inner reader : R) (ahead : ℕ) (others id b : List ℕ) →
    inner ≡ reader → ahead ≡ 0 → others ≡ id → length id ≡ 4 → 4 ≤ length b → left reader ≡ Some b →
    option_map (overlaid ahead others) (left inner) ≡ Some (overwritten b 0 id)
named_left left inner reader ahead others id b same start is n h e =
    ap (λ x. option_map (overlaid ahead others) (left x)) same
    ∙ ap (λ (k : ℕ). option_map (overlaid k others) (left reader)) start
    ∙ ap (λ (o : List ℕ). option_map (overlaid 0 o) (left reader)) is
    ∙ ap (option_map (overlaid 0 id)) e ∙ ap (λ (z : List ℕ). Some z) (overlaid_id id b n h)

-- bytes that are put at a path, after a call that changed nothing
module _ {D F : Type 0} (G : Ghosts D F) (to w id : List ℕ) (old mid new : D)
    (same : G.honest mid ≡ G.honest old) (kept : IsTrue (G.honest old) → G.contents mid to ≡ G.contents old to)
  where
    pub put_moved : (path : List ℕ) → (IsTrue (G.honest old) → path ≡ to) → IsPut G path w id mid new
        → IsPut G to w id old new
    put_moved path at put h =
        let is : IsThere G to (overwritten w 0 id) mid new =
        subst (λ (p : List ℕ). IsThere G p (overwritten w 0 id) mid new) (at h) (put (subst IsTrue (sym same) h)) in
        record {
          before = subst (λ (x : Option (List ℕ)). (x ≡ None) ⊎ (x ≡ Some (overwritten w 0 id))) (kept h) is.before;
          has = is.has;
          lasts = is.lasts;
        }

    pub stops_moved : (path : List ℕ) (f : ConvertFault) → (IsTrue (G.honest old) → path ≡ to)
        → StopsPutting G path w id f mid new → StopsPutting G to w id f old new
    stops_moved path f at stops = record {
      reason = stops.reason;
      leaves = λ h.
          subst (λ (x : Option (List ℕ)). LeavesOut id w f.kind x (G.contents new to)) (kept h)
          (subst (λ (p : List ℕ). LeavesOut id w f.kind (G.contents mid p) (G.contents new p)) (at h)
          (stops.leaves (subst IsTrue (sym same) h)));
      other = λ h e is.
          stops.other (subst IsTrue (sym same) h) e (ap (G.contents mid) (at h) ∙ kept h ∙ is);
    }

    pub made_put : (n : ℕ) → IsMadeOf G to w id n mid new → IsPut G to w id old new
    made_put n made h =
        let is = made.makes (subst IsTrue (sym same) h) in
        record { before = inl (sym (kept h) ∙ is.fresh); has = is.has; lasts = is.lasts }

    pub made_stops : (f : ConvertFault) → (IsTrue (G.honest old) → G.contents old to ≡ None)
        → StopsMaking G to w id f mid new → StopsPutting G to w id f old new
    made_stops f none stops = record {
      reason = stops.reason;
      leaves = λ h.
          subst (λ (x : Option (List ℕ)). LeavesOut id w f.kind x (G.contents new to)) (kept h)
          (stops.leaves (subst IsTrue (sym same) h));
      other = λ h e is. (let bad : None ≡ Some (overwritten w 0 id) = sym (none h) ∙ is in cc);
    }

-- .. and what was found in its place
pub found_stops : {D F Y : Type 0} (G : Ghosts D F) (to id : List ℕ) (old mid new : D) (told : Result Y ConvertFault)
    (path : List ℕ) (left : Option (List ℕ)) → G.honest mid ≡ G.honest old
    → (IsTrue (G.honest old) → G.contents mid to ≡ G.contents old to) → (IsTrue (G.honest old) → path ≡ to)
    → IfErr told (λ f. Of left (λ w. 4 ≤ length w → StopsPutting G path w id f mid new))
    → IfErr told (λ f. Of left (λ w. 4 ≤ length w → StopsPutting G to w id f old new))
found_stops G to id old mid new (Ok x) path left same kept at stops = tt
found_stops G to id old mid new (Err f) path left same kept at stops =
    λ w e long. stops_moved G to w id old mid new same kept path f at (stops w e long)

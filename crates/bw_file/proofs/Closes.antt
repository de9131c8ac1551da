-- A take is closed: what each write leaves.
use Rattle.std.proofs.Common.{◌≡◌, inl, inr, ℕ, ◌+◌, ◌%◌, ◌≤◌, Bool, true, false, not, List, [], ◌++◌, length, Option}
use Rattle.std.proofs.Common.{Some, refl, sym, ◌∙◌, ap, arith, append_assoc, length-append, subst}
use Rattle.std.specs.Bool.{MatchBool}
use Rattle.std.specs.Prelude.{flat_map}
use Rattle.bw_model.specs.Take.{Take, Format, Close, AreFields, with_request}
use Rattle.bw_model.specs.Layout.{chunk}
use Rattle.bw_model.specs.File.{file_with, file_of, cue_chunks, Repairable}
use Rattle.bw_model.specs.Holds.{IsBetween}
use Rattle.bw_model.proofs.HeaderLaws.{length-header}
use Rattle.bw_store.specs.Stores.{MayTear}
use Rattle.bw_file.specs.GrowingFiles.{Growing, IsReady}
use Rattle.bw_layout.specs.declared.heading.Heading.{Heading}
use Rattle.bw_layout.specs.Headings.{header_of, place_of}
use Rattle.bw_file.specs.Headers.{PutsLast, PutsOver}
use Rattle.bw_file.proofs.RepairableContents.{repairable_parts}
use Rattle.bw_file.proofs.Stands.{StandsFor, stands_torn, ready_stands, ready_clean, stands_between, file_after}
use Rattle.bw_file.proofs.TakeHeadings.{IsHeading}
use Rattle.bw_file.proofs.Files.{body, place, cue_chunk, head_with, file_open, file_closed, length-body, length-file}

module _ (g : Growing) (t : Take) (total : ℕ) (f : Format) (format : t.format ≡ Some f) (is_open : t.closed ≡ false)
    (fields : AreFields t.fields) where
  abbrev d : ℕ
  d = length t.samples

  abbrev data_at : ℕ
  data_at = place f t g.limit fields

  abbrev samples : List ℕ
  samples = body f t g.limit fields

  abbrev cues : List ℕ
  cues = cue_chunk f t g.limit fields

  abbrev header : ℕ → List ℕ
  header k = head_with f t g.limit fields d k

  abbrev old : List ℕ
  old = file_with f t g.limit

  abbrev new : List ℕ
  new = file_with f (with_request t (Close total)) g.limit

  old_parts : old ≡ header 0 ++ (samples ++ [])
  old_parts = file_open f t g.limit fields is_open

  new_parts : new ≡ header (length t.markers) ++ (samples ++ cues)
  new_parts = file_closed f t g.limit fields total

  length-samples : length samples ≡ d + d % 2
  length-samples = length-body f t g.limit fields

  length-old : length old ≡ data_at + d + d % 2
  length-old =
      let s = length-samples in
      ap length old_parts ∙ length-file f t g.limit fields d 0 (samples ++ [])
      ∙ omega (arith, s, length-append samples [])

  length-new : length new ≡ data_at + d + d % 2 + length cues
  length-new =
      let s = length-samples in
      ap length new_parts ∙ length-file f t g.limit fields d (length t.markers) (samples ++ cues)
      ∙ omega (arith, s, length-append samples cues)

  grows : length old ≤ length new
  grows = omega (arith, length-old, length-new)

  stands : (c0 : Option (List ℕ)) → IsReady g t (Close total) c0 → StandsFor t g.limit f format (Close total) c0
  stands c0 ready = ready_stands t g.limit f format (Close total) g.dirty c0 tt grows ready

  cues_torn : (c0 c1 : Option (List ℕ)) → IsReady g t (Close total) c0 →
      MayTear c0 (data_at + d + d % 2) (length cues) c1 → StandsFor t g.limit f format (Close total) c1
  cues_torn c0 c1 ready w =
      stands_torn old new data_at (length old) c0 c1 (data_at + d + d % 2) (length cues) (omega arith)
      (stands c0 ready) w (inr (omega (arith, length-old))) (omega (arith, length-new))

  -- a fault while the cue points are written
  torn_cues : (c0 c1 : Option (List ℕ)) → IsReady g t (Close total) c0 →
      MayTear c0 (data_at + d + d % 2) (length cues) c1 → IsBetween t g.limit (Close total) c1
  torn_cues c0 c1 ready w = stands_between t g.limit f format (Close total) c1 tt (cues_torn c0 c1 ready w)

  -- a fault while the header is written
  torn_header : (c0 c1 c2 : Option (List ℕ)) → IsReady g t (Close total) c0 →
      MayTear c0 (data_at + d + d % 2) (length cues) c1 → MayTear c1 0 data_at c2 → IsBetween t g.limit (Close total) c2
  torn_header c0 c1 c2 ready w v =
      stands_between t g.limit f format (Close total) c2 tt
      (stands_torn old new data_at (length old) c1 c2 0 data_at (omega arith) (cues_torn c0 c1 ready w) v
      (inl (omega arith)) (omega (arith, length-new)))

  length-head : (k : ℕ) → length (header k) ≡ data_at
  length-head k = length-header f t.fields t.history d k g.limit fields

  -- the data as they are, after the header if the file is clean
  Prefixed : Bool → Option (List ℕ) → Type 0
  Prefixed dirty c0 = (prefix : List ℕ) × (rest : List ℕ) × (c0 ≡ Some (prefix ++ (samples ++ rest)))
      × (length prefix ≡ data_at) × (length rest ≤ length cues) × (not dirty ≡ true → prefix ≡ header 0)

  prefixed : (dirty : Bool) (c0 : Option (List ℕ)) →
      MatchBool dirty (IsBetween t g.limit (Close total) c0) (c0 ≡ file_of t g.limit) → Prefixed dirty c0
  unfolding Prefixed
  prefixed true c0 ready =
      let s = ready_stands t g.limit f format (Close total) true c0 tt grows ready in
      let to : data_at + length samples ≡ length old = omega (arith, length-old, length-samples) in
      let p = repairable_parts (header 0) samples [] new s.bytes data_at (length old) (length-head 0) to
      (subst (λ (o : List ℕ). Repairable o new data_at (length old) s.bytes) old_parts s.repairable) in
      let short = p.rest_is in
      (p.prefix, p.rest, s.is ∙ ap Some p.parts, p.prefix_is, omega (arith, length-old, length-new), λ e. absurd (cc))
  prefixed false c0 ready =
      let clean = ready_clean t g.limit f format (Close total) false c0 ready refl in
      (header 0, [], clean ∙ ap Some old_parts, length-head 0, omega arith, λ e. refl)

  -- the file of the closed take
  whole : (c0 c1 c2 : Option (List ℕ)) → IsReady g t (Close total) c0 → PutsLast (data_at + d + d % 2) cues c0 c1 →
      PutsOver (not g.dirty) (header 0) (header (length t.markers)) c1 c2 →
      c2 ≡ file_of (with_request t (Close total)) g.limit
  unfolding Prefixed
  whole c0 c1 c2 ready put over =
      let x = prefixed g.dirty c0 ready in
      let following : length (x.0 ++ samples) ≡ data_at + d + d % 2 =
      omega (arith, length-append x.0 samples, length-samples, x.3) in
      over x.0 (samples ++ cues)
      (put (x.0 ++ samples) x.1 (x.2 ∙ ap Some (sym (append_assoc x.0 samples x.1))) following x.4
      ∙ ap Some (append_assoc x.0 samples cues)) (x.3 ∙ sym (length-head (length t.markers))) x.5
      ∙ ap Some (sym new_parts)
      ∙ sym (file_after t g.limit f format (Close total) tt)

-- the file of the closed take, as the call promises it
module _ (g : Growing) (t : Take) (total : ℕ) (h : Heading) (heads : IsHeading t g.limit h)
    (is_open : t.closed ≡ false) (data_at data_len : ℕ) (markers : List (ℕ × ℕ)) (at_place : data_at ≡ place_of h)
    (in_all : data_len ≡ length t.samples) (marked : markers ≡ t.markers) where
  pub cues_fail : (c0 c1 : Option (List ℕ)) → IsReady g t (Close total) c0 →
      MayTear c0 (data_at + data_len + data_len % 2) (length (flat_map chunk (cue_chunks markers))) c1 →
      IsBetween t g.limit (Close total) c1
  cues_fail c0 c1 ready w =
      torn_cues g t total h.format heads.format is_open heads.fields c0 c1 ready
      (rw (at_place, heads.place, in_all, marked) at w)

  pub header_fails : (c0 c1 c2 : Option (List ℕ)) → IsReady g t (Close total) c0 →
      MayTear c0 (data_at + data_len + data_len % 2) (length (flat_map chunk (cue_chunks markers))) c1 →
      MayTear c1 0 (place_of h) c2 → IsBetween t g.limit (Close total) c2
  header_fails c0 c1 c2 ready w v =
      torn_header g t total h.format heads.format is_open heads.fields c0 c1 c2 ready
      (rw (at_place, heads.place, in_all, marked) at w) (rw heads.place at v)

  pub closed : (c0 c1 c2 : Option (List ℕ)) → IsReady g t (Close total) c0 →
      PutsLast (data_at + data_len + data_len % 2) (flat_map chunk (cue_chunks markers)) c0 c1 →
      PutsOver (not g.dirty) (header_of h data_len 0) (header_of h data_len (length markers)) c1 c2 →
      c2 ≡ file_of (with_request t (Close total)) g.limit
  closed c0 c1 c2 ready put over =
      whole g t total h.format heads.format is_open heads.fields c0 c1 c2 ready
      (rw (at_place, heads.place, in_all, marked) at put)
      (rw (heads.header data_len 0, heads.header data_len (length markers), in_all, marked) at over)

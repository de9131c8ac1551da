-- A block is appended: what each of its writes leaves.
use Rattle.std.proofs.Common.{◌≡◌, inl, inr, ℕ, ◌+◌, ◌%◌, ◌<◌, ◌≤◌, Bool, true, false, not, List, [], ◌++◌, length}
use Rattle.std.proofs.Common.{Option, Some, refl, sym, ◌∙◌, ap, arith, append_assoc, length-append, subst}
use Rattle.std.proofs.lemmas.List.{append-nil}
use Rattle.bw_model.specs.Bytes.{zeros}
use Rattle.bw_model.specs.Take.{Take, Format, Block, AreFields, with_request}
use Rattle.bw_model.specs.Layout.{pad}
use Rattle.std.specs.Bool.{MatchBool}
use Rattle.bw_model.specs.File.{file_with, file_of, Repairable}
use Rattle.bw_model.specs.Holds.{IsBetween}
use Rattle.bw_model.proofs.HeaderLaws.{length-header}
use Rattle.bw_store.specs.Stores.{MayTear}
use Rattle.bw_file.specs.GrowingFiles.{Growing, IsReady}
use Rattle.bw_layout.specs.declared.heading.Heading.{Heading}
use Rattle.bw_layout.specs.Headings.{header_of, place_of}
use Rattle.bw_file.specs.Headers.{PutsLast, PutsOver}
use Rattle.bw_file.proofs.RepairableContents.{repairable_parts}
use Rattle.bw_file.proofs.Stands.{StandsFor, stands_torn, ready_stands, ready_clean, stands_between, file_after}
use Rattle.bw_file.proofs.TakeHeadings.{IsHeading}
use Rattle.bw_file.proofs.Files.{body, place, head_with, file_open, length-body, length-pad, length-file}

module _ (g : Growing) (t : Take) (samples : List ℕ) (f : Format) (format : t.format ≡ Some f)
    (is_open : t.closed ≡ false) (fields : AreFields t.fields) (some : 0 < length samples) where
  abbrev later : Take
  later = with_request t (Block samples)

  abbrev d : ℕ
  d = length t.samples

  abbrev data_at : ℕ
  data_at = place f t g.limit fields

  abbrev old : List ℕ
  old = file_with f t g.limit

  abbrev new : List ℕ
  new = file_with f later g.limit

  all-samples : length (t.samples ++ samples) ≡ d + length samples
  all-samples = length-append t.samples samples

  length-old : length old ≡ data_at + d + d % 2
  length-old =
      let b = length-body f t g.limit fields in
      ap length (file_open f t g.limit fields is_open)
      ∙ length-file f t g.limit fields d 0 (body f t g.limit fields ++ [])
      ∙ omega (arith, b, length-append (body f t g.limit fields) [])

  length-new : length new ≡ data_at + (d + length samples) + (d + length samples) % 2
  length-new =
      let b = length-body f later g.limit fields in
      ap length (file_open f later g.limit fields is_open)
      ∙ length-file f later g.limit fields (length (t.samples ++ samples)) 0 (body f later g.limit fields ++ [])
      ∙ omega (arith, b, all-samples, ap (λ (n : ℕ). n % 2) all-samples, length-append (body f later g.limit fields) [])

  grows : length old ≤ length new
  grows = omega (arith, length-old, length-new)

  stands : (c0 : Option (List ℕ)) → IsReady g t (Block samples) c0 → StandsFor t g.limit f format (Block samples) c0
  stands c0 ready = ready_stands t g.limit f format (Block samples) g.dirty c0 tt grows ready

  abbrev tail : List ℕ
  tail = samples ++ pad (data_at + d + length samples)

  abbrev tail_len : ℕ
  tail_len = length samples + (data_at + d + length samples) % 2

  -- the samples and their pad byte end where the file with them ends
  fits : data_at + d + tail_len ≡ length new
  fits = omega (arith, length-new)

  body_torn : (c0 c1 : Option (List ℕ)) → IsReady g t (Block samples) c0 → MayTear c0 (data_at + d) tail_len c1 →
      StandsFor t g.limit f format (Block samples) c1
  body_torn c0 c1 ready w =
      stands_torn old new data_at (data_at + d) c0 c1 (data_at + d) tail_len (omega (arith, length-old))
      (stands c0 ready) w (inr (omega arith)) (omega (arith, fits))

  -- a fault while the samples are written
  torn_samples : (c0 c1 : Option (List ℕ)) → IsReady g t (Block samples) c0 → MayTear c0 (data_at + d) tail_len c1 →
      IsBetween t g.limit (Block samples) c1
  torn_samples c0 c1 ready w = stands_between t g.limit f format (Block samples) c1 tt (body_torn c0 c1 ready w)

  -- a fault while the header is written
  torn_header : (c0 c1 c2 : Option (List ℕ)) → IsReady g t (Block samples) c0 → MayTear c0 (data_at + d) tail_len c1 →
      MayTear c1 0 data_at c2 → IsBetween t g.limit (Block samples) c2
  torn_header c0 c1 c2 ready w v =
      stands_between t g.limit f format (Block samples) c2 tt
      (stands_torn old new data_at (data_at + d) c1 c2 0 data_at (omega (arith, length-old))
      (body_torn c0 c1 ready w) v (inl (omega arith)) (omega (arith, length-new)))

  joined : (prefix samples more rest : List ℕ) →
      (prefix ++ samples) ++ (more ++ rest) ≡ prefix ++ ((samples ++ more) ++ rest)
  joined prefix samples more rest = simp append_assoc

  -- the samples after what was there
  with_tail : (prefix rest : List ℕ) (c0 c1 : Option (List ℕ)) → c0 ≡ Some (prefix ++ (t.samples ++ rest)) →
      length prefix ≡ data_at → length rest ≤ tail_len → PutsLast (data_at + d) tail c0 c1 →
      c1 ≡ Some (prefix ++ ((t.samples ++ samples) ++ pad (data_at + d + length samples)))
  with_tail prefix rest c0 c1 is long short put =
      let room : length rest ≤ length tail =
      omega (
        arith,
        length-append samples (pad (data_at + d + length samples)),
        length-pad (data_at + d + length samples),
      ) in
      put (prefix ++ t.samples) rest (is ∙ ap Some (sym (append_assoc prefix t.samples rest)))
      (omega (arith, length-append prefix t.samples)) room
      ∙ ap Some (joined prefix t.samples samples (pad (data_at + d + length samples)))

  same_pad : pad (data_at + d + length samples) ≡ pad (length (t.samples ++ samples))
  same_pad = let parity : (data_at + d + length samples) % 2 ≡ length (t.samples ++ samples) % 2 =
      omega (arith, all-samples) in ap zeros parity

  old_parts : old ≡ head_with f t g.limit fields d 0 ++ (t.samples ++ pad d)
  old_parts = file_open f t g.limit fields is_open
      ∙ ap (λ (l : List ℕ). head_with f t g.limit fields d 0 ++ l) (append-nil (body f t g.limit fields))

  length-head : (data_len : ℕ) → length (head_with f t g.limit fields data_len 0) ≡ data_at
  length-head data_len = length-header f t.fields t.history data_len 0 g.limit fields

  -- the data as they are, after the header if the file is clean
  Prefixed : Bool → Option (List ℕ) → Type 0
  Prefixed dirty c0 = (prefix : List ℕ) × (rest : List ℕ) × (c0 ≡ Some (prefix ++ (t.samples ++ rest)))
      × (length prefix ≡ data_at) × (length rest ≤ tail_len)
      × (not dirty ≡ true → prefix ≡ head_with f t g.limit fields d 0)

  prefixed : (dirty : Bool) (c0 : Option (List ℕ)) →
      MatchBool dirty (IsBetween t g.limit (Block samples) c0) (c0 ≡ file_of t g.limit) → Prefixed dirty c0
  unfolding Prefixed
  prefixed true c0 ready =
      let s = ready_stands t g.limit f format (Block samples) true c0 tt grows ready in
      let p = repairable_parts (head_with f t g.limit fields d 0) t.samples (pad d) new s.bytes data_at (data_at + d)
      (length-head d) refl (subst
      (λ (o : List ℕ). Repairable o new data_at (data_at + d) s.bytes) old_parts s.repairable) in
      let short = p.rest_is in
      (p.prefix, p.rest, s.is ∙ ap Some p.parts, p.prefix_is, omega (arith, length-new), λ e. absurd (cc))
  prefixed false c0 ready =
      let clean = ready_clean t g.limit f format (Block samples) false c0 ready refl in (
        head_with f t g.limit fields d 0,
        pad d,
        clean
            ∙ ap Some old_parts,
        length-head d,
        omega (arith, length-pad d),
        λ e. refl,
      )

  -- the file with the block
  whole : (c0 c1 c2 : Option (List ℕ)) → IsReady g t (Block samples) c0 → PutsLast (data_at + d) tail c0 c1 →
      PutsOver (not g.dirty) (head_with f t g.limit fields d 0)
      (head_with f t g.limit fields (d + length samples) 0) c1 c2 → c2 ≡ file_of later g.limit
  unfolding Prefixed
  whole c0 c1 c2 ready put over =
      let x = prefixed g.dirty c0 ready in
      let reach = x.3 ∙ sym (length-head (d + length samples)) in
      over x.0 _ (with_tail x.0 x.1 c0 c1 x.2 x.3 x.4 put) reach x.5
      ∙ ap Some (rw (same_pad, ← all-samples, ← append-nil (body f later g.limit fields))
      (sym (file_open f later g.limit fields is_open)))
      ∙ sym (file_after t g.limit f format (Block samples) tt)

-- the file with the block, as the call promises it
module _ (g : Growing) (t : Take) (samples : List ℕ) (h : Heading) (heads : IsHeading t g.limit h)
    (is_open : t.closed ≡ false) (some : 0 < length samples) (data_at before : ℕ) (at_place : data_at ≡ place_of h)
    (so_far : before ≡ length t.samples) where
  pub samples_fail : (c0 c1 : Option (List ℕ)) → IsReady g t (Block samples) c0 →
      MayTear c0 (data_at + before) (length samples + (data_at + before + length samples) % 2) c1 →
      IsBetween t g.limit (Block samples) c1
  samples_fail c0 c1 ready w =
      torn_samples g t samples h.format heads.format is_open heads.fields some c0 c1 ready
      (rw (at_place, heads.place, so_far) at w)

  pub header_fails : (c0 c1 c2 : Option (List ℕ)) → IsReady g t (Block samples) c0 →
      MayTear c0 (data_at + before) (length samples + (data_at + before + length samples) % 2) c1 →
      MayTear c1 0 (place_of h) c2 → IsBetween t g.limit (Block samples) c2
  header_fails c0 c1 c2 ready w v =
      torn_header g t samples h.format heads.format is_open heads.fields some c0 c1 c2 ready
      (rw (at_place, heads.place, so_far) at w) (rw heads.place at v)

  pub appended : (c0 c1 c2 : Option (List ℕ)) → IsReady g t (Block samples) c0 →
      PutsLast (data_at + before) (samples ++ pad (data_at + before + length samples)) c0 c1 →
      PutsOver (not g.dirty) (header_of h before 0) (header_of h (before + length samples) 0) c1 c2 →
      c2 ≡ file_of (with_request t (Block samples)) g.limit
  appended c0 c1 c2 ready put over =
      whole g t samples h.format heads.format is_open heads.fields some c0 c1 c2 ready
      (rw (at_place, heads.place, so_far) at put)
      (rw (heads.header before 0, heads.header (before + length samples) 0, so_far) at over)

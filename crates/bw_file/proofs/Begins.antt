-- A take is opened: what is left under its name.
use Rattle.std.proofs.Common.{◌≡◌, ℕ, ◌≤◌, Bool, true, false, List, [], length, Option, Some, None, refl, sym, ◌∙◌, ap}
use Rattle.std.proofs.Common.{arith, subst}
use Rattle.std.specs.Prelude.{IsSome, IsTrue}
use Rattle.std.proofs.lemmas.List.{append-nil, nil_from_length}
use Rattle.bw_model.specs.Take.{Take, Format, Open, AreFields, with_request}
use Rattle.bw_model.specs.File.{file_with, file_of, header, data_place}
use Rattle.bw_model.specs.Holds.{IsBetween}
use Rattle.bw_model.proofs.HeaderLaws.{length-header}
use Rattle.bw_store.specs.Stores.{MayTear}
use Rattle.bw_file.specs.GrowingFiles.{IsFresh}
use Rattle.bw_file.specs.Headers.{PutsLast}
use Rattle.bw_file.proofs.Files.{file_open}

-- a take without a format, for which the definition computes
abbrev unopened : Take → Take
unopened t = record t { format = None }

module _ (t : Take) (limit : ℕ) (f : Format) (history : List ℕ) (no_format : t.format ≡ None)
    (is_open : t.closed ≡ false) (fields : AreFields t.fields) (no_samples : length t.samples ≡ 0) where
  abbrev later : Take
  later = with_request t (Open f history)

  -- the file of the opened take is its header
  is_header : file_with f later limit ≡ header f t.fields history (length t.samples) 0 limit
  is_header =
      let none : t.samples ≡ [] = nil_from_length t.samples no_samples in
      file_open f later limit fields is_open ∙ rw none (append-nil (header f t.fields history 0 0 limit))

  begun_file : (found : Option (List ℕ)) → found ≡ Some (header f t.fields history (length t.samples) 0 limit) →
      found ≡ file_of later limit
  begun_file found is = is ∙ ap Some (sym is_header)

  has_no_format : unopened t ≡ t
  has_no_format = sym (ap (λ (o : Option Format). record t { format = o }) no_format)

  abbrev IsShort : Take → List ℕ → Type 0
  IsShort u bytes = length bytes ≤ length (file_with f (with_request u (Open f history)) limit)

  length-file : length (file_with f later limit) ≡ data_place (length history)
  length-file = ap length is_header ∙ length-header f t.fields history (length t.samples) 0 limit fields

  between_short : (bytes : List ℕ) → IsBetween t limit (Open f history) (Some bytes) →
      length bytes ≤ data_place (length history)
  between_short bytes between =
      let short : IsShort t bytes =
      subst (λ (u : Take). IsBetween u limit (Open f history) (Some bytes) → IsShort u bytes) has_no_format
      (λ h. h) between in
      omega (arith, short, length-file)

  short_between : (bytes : List ℕ) → length bytes ≤ data_place (length history) →
      IsBetween t limit (Open f history) (Some bytes)
  short_between bytes short =
      let fits : IsShort t bytes = omega (arith, short, length-file) in
      subst (λ (u : Take). IsShort u bytes → IsBetween u limit (Open f history) (Some bytes)) has_no_format
      (λ h. h) fits

  -- no more bytes than the header has
  pub record Begun (found : Option (List ℕ)) : Type 0 where
    pub bytes : List ℕ
    pub is : found ≡ Some bytes
    pub short : length bytes ≤ data_place (length history)

  begun : (found : Option (List ℕ)) → IsSome found × IsBetween t limit (Open f history) found → Begun found
  begun None h = absurd (cc (h.0))
  begun (Some bytes) h = record { bytes = bytes; is = refl; short = between_short bytes h.1 }

  pub begun_between : (found : Option (List ℕ)) → Begun found → IsSome found × IsBetween t limit (Open f history) found
  begun_between found b =
      subst (λ (o : Option (List ℕ)). IsSome o × IsBetween t limit (Open f history) o) (sym b.is)
      (refl, short_between b.bytes b.short)

  begun_empty : (found : Option (List ℕ)) → found ≡ Some [] → Begun found
  begun_empty found is = record { bytes = []; is = is; short = omega arith }

  pub begun_torn : (before after : Option (List ℕ)) → Begun before →
      MayTear before 0 (data_place (length history)) after → Begun after
  begun_torn before after b w =
      let s = w.1 b.bytes b.is in
      let short = b.short in
      let high = s.2.no_longer in
      record { bytes = s.0; is = s.1; short = omega arith }

  pub begun_whole : (before after : Option (List ℕ)) → Begun before →
      PutsLast 0 (header f t.fields history (length t.samples) 0 limit) before after → after ≡ file_of later limit
  begun_whole before after b put =
      let short = b.short in
      begun_file after (put [] b.bytes b.is refl
      (omega (arith, length-header f t.fields history (length t.samples) 0 limit fields)))

  -- a name that is made now, or was so before
  pub fresh_begun : (made : Bool) (before after : Option (List ℕ)) →
      (IsTrue made → IsSome before × IsBetween t limit (Open f history) before) → IsFresh made before after →
      Begun after
  fresh_begun true before after was fresh = subst Begun (sym fresh) (begun before (was refl))
  fresh_begun false before after was fresh = begun_empty after fresh

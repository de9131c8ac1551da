-- The samples that are reported of bytes are there.
use Rattle.std.proofs.Common.{◌≡◌, ◌+◌, ◌≤◌, ℕ, Bool, true, false, List, [], ◌∷◌, Option, Some, None}
use Rattle.std.proofs.Common.{refl, ap, subst, arith}
use Rattle.std.specs.Prelude.{codes, option_map, unwrap_or}
use Rattle.bw_model.specs.Bytes.{even_up}
use Rattle.bw_model.specs.Limits.{largest}
use Rattle.bw_model.specs.Prefix.{IsChunkAt, StandFrom}
use Rattle.bw_model.specs.Reading.{Entry, Form, entry_of, is_id}
use Rattle.bw_model.specs.Report as model
use Rattle.bw_model.proofs.Elements.{some_inj}
use Rattle.bw_model.proofs.EndLaws.{readings}
use Rattle.bw_inspect.specs.declared.report.Report.{Report}
use Rattle.bw_report.specs.Digests.{HasSamples}
use Rattle.bw_report.specs.FileFindings.{IsGivenOf}

-- a chunk that is found among those that stand in b stands there
chunk_found : (b : List ℕ) (form : Form) (p : ℕ) (es : List Entry) (id : List ℕ) (e : Entry) → StandFrom b form p es
    → entry_of id es ≡ Some e → IsChunkAt b form e
chunk_found b form p [] id e stand found = let bad : None ≡ Some e = found in cc
chunk_found b form p (x ∷ es) id e stand found =
    go (is_id x.id id) refl (chunk_found b form (x.place + 8 + even_up x.size) es id e stand.2)
  where
    go : (v : Bool) → is_id x.id id ≡ v → (entry_of id es ≡ Some e → IsChunkAt b form e) → IsChunkAt b form e
    go true q later =
        let same : Some x ≡ Some e = rw q at found in
        subst (IsChunkAt b form) (some_inj same) stand.1
    go false q later = later (rw q at found)

-- where the samples are, by the entry that is found of them
placed : (b : List ℕ) (form : Form) (es : List Entry) (r : Report) (found : Option Entry) → StandFrom b form 12 es
    → form.size ≤ largest → entry_of (codes "data") es ≡ found
    → r.data_at ≡ unwrap_or (option_map (λ (e : Entry). e.place + 8) found) 0
    → r.data_size ≡ unwrap_or (option_map (λ (e : Entry). e.size) found) 0 → HasSamples b r
placed b form es r None stand small is at size =
    record { within = omega (arith, at, size); small = omega (arith, at, size) }
placed b form es r (Some e) stand small is at size =
    let chunk = chunk_found b form 12 es (codes "data") e stand is in
    let in_bytes = chunk.in_bytes in
    let in_form = chunk.in_form in
    record { within = omega (arith, at, size, in_bytes); small = omega (arith, at, size, in_form, small) }

-- the samples of a report that was given of b are in b
pub has_samples : (b : List ℕ) (r : Report) → IsGivenOf b r → HasSamples b r
unfolding model.report_of
has_samples b r given =
    let gives = given.1 in
    let form = gives.reading_is.form in
    let es = gives.reading_is.entries in
    let stands = ((readings b form es).0 gives.reading_is.reads).0 in
    placed b form es r (entry_of (codes "data") es) stands.chunks gives.small refl
    (ap (λ (x : model.Report). x.data_at) gives.reports) (ap (λ (x : model.Report). x.data_size) gives.reports)

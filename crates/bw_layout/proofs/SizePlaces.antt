-- Where the two sizes are in a header.
use Rattle.std.proofs.Common.{◌≡◌, ℕ, ◌+◌, ◌≤◌, List, [], ◌++◌, length, refl, sym, ◌∙◌, ap, arith, append_assoc}
use Rattle.std.proofs.Common.{length-append}
use Rattle.std.specs.Prelude.{codes}
use Rattle.std.proofs.lemmas.List.{append-nil}
use Rattle.bw_model.specs.Bytes.{le32, le64, unsaid, even_up}
use Rattle.bw_model.specs.Take.{Format}
use Rattle.bw_model.specs.Layout.{head, chunk}
use Rattle.bw_model.specs.File.{form_size, header, junk_chunk}
use Rattle.bw_model.proofs.HeaderLaws.{length-header}
use Rattle.bw_layout.specs.Headers.{middle, ds64, riff_header, bw64_header, riff_middle, bw64_prefix, bw64_rear}
use Rattle.bw_layout.specs.Headers.{EachRiffHasItsSizes, EachBw64HasItsSizes}
use Rattle.bw_layout.proofs.HeaderKinds.{header_riff, header_bw64}

riff_regrouped : (riff form wave junk rest id size : List ℕ) →
    (riff ++ form) ++ wave ++ junk ++ rest ++ (id ++ size) ≡ riff ++ form ++ (wave ++ junk ++ rest ++ id) ++ size
riff_regrouped riff form wave junk rest id size = simp append_assoc

riff_parts : (f : Format) (fields : List (List ℕ)) (history : List ℕ) (data_len cues limit : ℕ) →
    form_size (length history) data_len cues ≤ limit →
    header f fields history data_len cues limit
    ≡ codes "RIFF" ++ le32 (form_size (length history) data_len cues) ++ riff_middle f fields history ++ le32 data_len
unfolding riff_header riff_middle
riff_parts f fields history data_len cues limit h =
    let form = form_size (length history) data_len cues in
    header_riff f fields history data_len cues limit form refl h
    ∙ riff_regrouped (codes "RIFF") (le32 form) (codes "WAVE") (chunk junk_chunk) (middle f fields history)
    (codes "data") (le32 data_len)

-- a RIFF header around its sizes
pub riff_sizes_stand : EachRiffHasItsSizes
riff_sizes_stand f fields history data_len cues limit h fits =
    let prefix = codes "RIFF" ++ le32 (form_size (length history) data_len cues) in
    let whole = riff_parts f fields history data_len cues limit fits in
    let all : length (prefix ++ riff_middle f fields history ++ le32 data_len) ≡ 690 + even_up (length history) =
    ap length (sym whole) ∙ length-header f fields history data_len cues limit h in
    let parts = length-append (prefix ++ riff_middle f fields history) (le32 data_len) in
    record {
      whole = whole;
      middle_length = omega (arith, all, parts, length-append prefix (riff_middle f fields history));
    }

bw64_regrouped : (outer wave size form data_len none empty rest data_head : List ℕ) →
    outer ++ wave ++ (size ++ ((form ++ data_len ++ none ++ empty) ++ [])) ++ rest ++ data_head
    ≡ outer ++ wave ++ size ++ (form ++ data_len) ++ (none ++ empty ++ rest ++ data_head)
bw64_regrouped outer wave size form data_len none empty rest data_head = simp (append_assoc, append-nil)

-- a BW64 header around its sizes
pub bw64_sizes_stand : EachBw64HasItsSizes
unfolding bw64_header bw64_prefix bw64_rear ds64
bw64_sizes_stand f fields history data_len cues limit passes =
    let form = form_size (length history) data_len cues in
    record {
      whole = header_bw64 f fields history data_len cues limit form refl passes
          ∙ bw64_regrouped (head (codes "BW64") unsaid) (codes "WAVE") (head (codes "ds64") 28) (le64 form)
          (le64 data_len) (le64 0) (le32 0) (middle f fields history) (head (codes "data") unsaid);
      prefix_length = refl;
    }

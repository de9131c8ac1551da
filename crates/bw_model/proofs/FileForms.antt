-- The outer header of a take's file.
use Rattle.std.proofs.Common.{◌≡◌, ℕ, ◌+◌, ◌≤◌, List, [], ◌++◌, length, Option, Some, None, Result, Ok, Err, refl, ◌∙◌}
use Rattle.std.proofs.Common.{ap, arith}
use Rattle.std.specs.Prelude.{codes}
use Rattle.std.proofs.lemmas.Bool.{le-ltb, ne_eqb}
use Rattle.std.proofs.lemmas.Nat.{from_le_bytes-to_le_bytes_4, from_le_bytes-to_le_bytes_8}
use Rattle.bw_model.specs.Bytes.{u32_at, u64_at, unsaid}
use Rattle.bw_model.specs.Layout.{head, chunk}
use Rattle.bw_model.specs.File.{ds64_chunk}
use Rattle.bw_model.specs.Reading.{Form, Fault, outer, outer_faults, form_at, largest}
use Rattle.bw_model.proofs.ChunkSteps.{NoneHolds, first-none}

-- bytes for which no test of a fault holds have the form that they begin with
form_of_faultless : (b : List ℕ) → NoneHolds (outer_faults b) → outer b ≡ Ok (form_at b)
unfolding outer
form_of_faultless b h =
    ap (λ (x : Option Fault). elim x [ None ↦ Ok (form_at b) | Some f ↦ Err f ]) (first-none (outer_faults b) h)

-- a RIFF form
pub riff-outer : (size : ℕ) (rest : List ℕ) → size ≤ 4294967294 → 4 ≤ size →
    outer (head (codes "RIFF") size ++ (codes "WAVE" ++ rest))
    ≡ Ok (record { id = codes "RIFF"; size = size; sizes = None })
riff-outer size rest small some =
    form_of_faultless b (
      le-ltb (length b) 12 (omega arith),
      (
        refl,
        (
          refl,
          (
            ne_eqb (u32_at b 4) unsaid (λ e. omega (arith, e, said)),
            (
              le-ltb largest (u32_at b 4) (omega (arith, said)),
              (le-ltb (u32_at b 4) 4 (omega (arith, said)), (refl, tt)),
            ),
          ),
        ),
      ),
    )
    ∙ ap (λ (n : ℕ). form n) said
  where
    b : List ℕ
    b = head (codes "RIFF") size ++ (codes "WAVE" ++ rest)

    form : ℕ → Result Form Fault
    form n = Ok (record { id = codes "RIFF"; size = n; sizes = None })

    said : u32_at b 4 ≡ size
    said = from_le_bytes-to_le_bytes_4 size (omega arith)

-- a BW64 form, whose `ds64` gives the sizes
pub wide-outer : (size data_size : ℕ) (rest : List ℕ) → 40 ≤ size → size ≤ largest → data_size ≤ largest →
    outer (head (codes "BW64") unsaid ++ (codes "WAVE" ++ (chunk (ds64_chunk size data_size) ++ rest)))
    ≡ Ok (record {
      id = codes "BW64";
      size = size;
      sizes = Some (record { form = size; «data» = data_size; table = [] });
    })
wide-outer size data_size rest some small data_small =
    form_of_faultless b (
      le-ltb (length b) 12 (omega arith),
      (
        refl,
        (
          refl,
          (
            le-ltb (length b) 20 (omega arith),
            (
              refl,
              (
                refl,
                (
                  le-ltb (length b) 48 (omega arith),
                  (
                    refl,
                    (
                      refl,
                      (
                        le-ltb (length b) 48 (omega arith),
                        (
                          le-ltb largest (u64_at b 20) (omega (arith, form_said)),
                          (
                            le-ltb (u64_at b 20) 4 (omega (arith, form_said)),
                            (le-ltb (8 + u64_at b 20) 48 (omega (arith, form_said)), tt),
                          ),
                        ),
                      ),
                    ),
                  ),
                ),
              ),
            ),
          ),
        ),
      ),
    )
    ∙ ap (λ (n : ℕ). form n (u64_at b 28)) form_said
    ∙ ap (form size) data_said
  where
    b : List ℕ
    b = head (codes "BW64") unsaid ++ (codes "WAVE" ++ (chunk (ds64_chunk size data_size) ++ rest))

    form : ℕ → ℕ → Result Form Fault
    form n d = Ok (record { id = codes "BW64"; size = n; sizes = Some (record { form = n; «data» = d; table = [] }) })

    form_said : u64_at b 20 ≡ size
    form_said = from_le_bytes-to_le_bytes_8 size (omega arith)

    data_said : u64_at b 28 ≡ data_size
    data_said = from_le_bytes-to_le_bytes_8 data_size (omega arith)

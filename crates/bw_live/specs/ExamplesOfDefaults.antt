-- Worked defaults, and that a rerun has the same.
use Rattle.std.specs.Prelude.{◌≡◌, ◌++◌, ◌<◌, ◌^◌, ℕ, List, [], ◌∷◌, Option, Some, codes}
use Rattle.bw_ports.specs.declared.spool_purpose.Purpose.{Purpose}
use Rattle.bw_live.specs.BegunSpools.{IsBegunBy, moment_line}
use Rattle.bw_live.specs.Defaults.{begun_fields, steady_fields}

-- a take `live` of 48000 Hz, stereo, 24 bits, begun at 2026-11-29T08:31:27.123Z: 30,687.123 seconds after
-- midnight are 1,472,981,904 samples; and `location-2026-recorder-a-0042` of 44100 Hz, mono, 16 bits, begun
-- at midnight, and of eight channels
abbrev pub DefaultsExample : Type 0
DefaultsExample =
    (steady_fields 48_000 2 24 ≡ codes "originator=bwingest"
    ∷ (codes "history=A=PCM,F=48000,W=24,M=stereo,T=bwingest" ++ 13 ∷ 10 ∷ []) ∷ [])
    × (begun_fields (codes "2026-11-29T08:31:27.123Z") 1_795_941_087_123 (codes "live") 48_000
    ≡ codes "reference=20261129083127-live" ∷ codes "date=2026-11-29" ∷ codes "clock=08:31:27"
    ∷ codes "time=1472981904" ∷ [])
    × (steady_fields 44_100 1 16 ≡ codes "originator=bwingest"
    ∷ (codes "history=A=PCM,F=44100,W=16,M=mono,T=bwingest" ++ 13 ∷ 10 ∷ []) ∷ [])
    × (begun_fields (codes "2000-02-29T00:00:00.000Z") 951_782_400_000
    (codes "location-2026-recorder-a-0042") 44_100
    ≡ codes "reference=20000229000000-6-recorder-a-0042" ∷ codes "date=2000-02-29" ∷ codes "clock=00:00:00"
    ∷ codes "time=0" ∷ [])
    × (steady_fields 96_000 8 32 ≡ codes "originator=bwingest"
    ∷ (codes "history=A=PCM,F=96000,W=32,M=multichannel,T=bwingest" ++ 13 ∷ 10 ∷ []) ∷ [])

-- where a spool holds something, and its line says when its recording was begun, a rerun at any time
-- finds that moment
abbrev pub RerunsAgree : Type 0
RerunsAgree = (p : Purpose) (began now c : ℕ) (held : List ℕ) (found : Option ℕ) → began < 2 ^ 64
    → IsBegunBy p now (c ∷ held) (moment_line p (Some began)) found → found ≡ Some began

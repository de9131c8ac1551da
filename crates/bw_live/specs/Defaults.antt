-- The settings that fill fields of `bext` where nothing sets them.
use Rattle.std.specs.Prelude.{◌≡◌, ◌==◌, ◌++◌, ◌-◌, ◌*◌, ◌/◌, ◌%◌, ℕ, List, [], ◌∷◌, codes, decimal}
use Rattle.std.specs.Prelude.{drop, if◌then◌else◌, length, take}
use Rattle.bw_operators.specs.Times.{IsTimeText}
use Rattle.bw_ports.specs.declared.spool_purpose.Purpose.{Purpose}
use Rattle.bw_live.specs.declared.filled.Filled.{Filled}
use Rattle.bw_live.specs.declared.filled.Filled.TheVariants.{Nothing, Steady, Begun}

-- the mode of so many channels: EBU R 98-1999 names none for more than two
abbrev pub mode_of : ℕ → List ℕ
mode_of channels = if channels == 1 then codes "mono"
    else if channels == 2 then codes "stereo" else codes "multichannel"

-- the coding history of PCM (EBU R 98-1999): `A=PCM,F=48000,W=24,M=stereo,T=bwingest` and CR LF
abbrev pub coding_history : ℕ → ℕ → ℕ → List ℕ
coding_history rate channels bits = codes "A=PCM,F=" ++ decimal rate ++ codes ",W=" ++ decimal bits
    ++ codes ",M=" ++ mode_of channels ++ codes ",T=bwingest" ++ 13 ∷ 10 ∷ []

-- the number of samples from midnight to a moment, in milliseconds since 1970 (EBU Tech 3285: TimeReference)
abbrev pub samples_since_midnight : ℕ → ℕ → ℕ
samples_since_midnight ms rate = ms % 86_400_000 * rate / 1000

-- the reference of a take: `20261129083127-` and the last 17 bytes of its name, so at most 32
abbrev pub origin_reference : List ℕ → List ℕ → List ℕ
origin_reference time name = take 4 time ++ take 2 (drop 5 time) ++ take 2 (drop 8 time)
    ++ take 2 (drop 11 time) ++ take 2 (drop 14 time) ++ take 2 (drop 17 time) ++ codes "-"
    ++ drop (length name - 17) name

-- what is the same in each run: the originator, and the coding history of so many samples a second,
-- channels, and bits
abbrev pub steady_fields : ℕ → ℕ → ℕ → List (List ℕ)
steady_fields rate channels bits = codes "originator=bwingest"
    ∷ (codes "history=" ++ coding_history rate channels bits) ∷ []

-- what says when the recording was begun: reference, date, time (UTC) and samples since midnight
abbrev pub begun_fields : List ℕ → ℕ → List ℕ → ℕ → List (List ℕ)
begun_fields time ms name rate = (codes "reference=" ++ origin_reference time name)
    ∷ (codes "date=" ++ take 10 time) ∷ (codes "clock=" ++ take 8 (drop 11 time))
    ∷ (codes "time=" ++ decimal (samples_since_midnight ms rate)) ∷ []

-- these texts fill the fields of a take with this name and form
abbrev pub AreDefaults : Filled → List ℕ → ℕ → ℕ → ℕ → List (List ℕ) → Type 0
AreDefaults Nothing name rate channels bits texts = texts ≡ []
AreDefaults Steady name rate channels bits texts = texts ≡ steady_fields rate channels bits
AreDefaults (Begun ms) name rate channels bits texts = (time : List ℕ) × IsTimeText ms time
    × (texts ≡ steady_fields rate channels bits ++ begun_fields time ms name rate)

abbrev pub AreDefaultsOf : Filled → Purpose → List (List ℕ) → Type 0
AreDefaultsOf filled p = AreDefaults filled p.name.now p.rate p.channels p.bits

-- Worked rows: files, their recordings and their requests.
use Rattle.std.specs.Prelude.{◌≡◌, ℕ, Result, Ok, Err, Some, None, List, [], ◌∷◌, ◌++◌}
use Rattle.std.specs.Prelude.{codes, take, drop, length, ◌+◌, true}
use Rattle.bw_model.specs.Take.{Request, Open, Block, Mark, SetField, Close}
use Rattle.bw_model.specs.ExampleWords.{hex, mono, small_file, cue_file, two_frames}
use Rattle.bw_model.specs.Reading.{NotWave}
use Rattle.bw_plan.specs.CleanedTexts.{cleaned_text}
use Rattle.bw_plan.specs.Recordings.{Options, no_options, Field, History, Recording, recording_of}
use Rattle.bw_plan.specs.Recordings.{FaultAt, RecordingFault, Unread, Foreign, Float, NotPcm, Bits}
use Rattle.bw_plan.specs.Recordings.{ValidBits, Align, Rate, Channels, PartFrame, Short, Unclean}
use Rattle.bw_plan.specs.Plans.{plan}
use Rattle.bw_plan.specs.SettingTexts.{setting_of}
use Rattle.bw_plan.specs.PcmRecordings.{pcm_recording_of}
use Rattle.bw_plan.specs.declared.options.Strictness.TheVariants.{Texts}
use Rattle.bw_plan.specs.declared.pcm.Pcm.{Pcm}
use Rattle.bw_plan.specs.declared.unclean.UncleanPart.TheVariants.{Byte}
use Rattle.bw_inspect.specs.declared.other.OtherFormat.TheVariants.{Flac, Aiff, Wave64}

-- the requests of a recording, in blocks of so many frames, or why there is none
abbrev pub planned : ℕ → Result Recording FaultAt → Result (List Request) FaultAt
planned frames (Ok r) = Ok (plan frames r)
planned frames (Err fault) = Err fault

-- the file's requests, without any option
abbrev pub Plans : ℕ → List ℕ → List Request → Type 0
Plans frames file requests = planned frames (recording_of file no_options) ≡ Ok requests

-- the file is refused
abbrev pub RefusesFile : List ℕ → Options → RecordingFault → ℕ → Type 0
RefusesFile file options kind offset =
    recording_of file options ≡ Err (record { kind = kind; offset = offset })

-- Files.

-- a RIFF file of a `fmt ` chunk, further chunks and two frames of 16 bits
abbrev pub riff_file : List ℕ → List ℕ → List ℕ → List ℕ
riff_file form_size fmt more =
    codes "RIFF" ++ form_size ++ codes "WAVEfmt " ++ fmt ++ more ++ hex "6461746104000000"
    ++ two_frames

-- an extensible `fmt ` chunk of one channel of 16 bits, by its valid bits and its subformat
abbrev pub extensible_fmt : List ℕ → List ℕ → List ℕ
extensible_fmt valid subformat =
    hex "28000000" ++ hex "feff010080bb00000077010002001000" ++ hex "1600" ++ valid ++ hex "04000000"
    ++ subformat

-- an extensible file of 72 bytes
abbrev pub extensible_file : List ℕ
extensible_file =
    riff_file (hex "40000000")
    (extensible_fmt (hex "1000") (hex "0100000000001000800000aa00389b71")) []

-- .. of float samples
abbrev pub float_file : List ℕ
float_file =
    riff_file (hex "40000000")
    (extensible_fmt (hex "1000") (hex "0300000000001000800000aa00389b71")) []

-- .. of which 12 bits are valid
abbrev pub twelve_file : List ℕ
twelve_file =
    riff_file (hex "40000000")
    (extensible_fmt (hex "0c00") (hex "0100000000001000800000aa00389b71")) []

-- the plain file with other bytes in its `fmt ` chunk
abbrev pub with_fmt : List ℕ → List ℕ
with_fmt fmt = riff_file (hex "28000000") (hex "10000000" ++ fmt) []

-- the file of two frames, with these bytes at a place
abbrev pub changed : ℕ → List ℕ → List ℕ
changed place bytes = take place small_file ++ bytes ++ drop (place + length bytes) small_file

-- samples of one channel of 16 bits, after so many bytes
abbrev pub mono_after : ℕ → Pcm
mono_after skip = record { rate = 48000; channels = 1; bits = 16; skip = skip }

-- Rows.

-- a file of two frames, in blocks of one
abbrev pub SmallPlanExample : Type 0
SmallPlanExample = Plans 1
    small_file (Open mono [] ∷ Block (hex "0100") ∷ Block (hex "0200") ∷ Close 2 ∷ [])

-- the last block is shorter
abbrev pub LargeBlockPlanExample : Type 0
LargeBlockPlanExample = Plans 16384 small_file (Open mono [] ∷ Block two_frames ∷ Close 2 ∷ [])

-- a cue point is a marker after the blocks
abbrev pub CuePlanExample : Type 0
CuePlanExample = Plans 2 cue_file (Open mono [] ∷ Block two_frames ∷ Mark 7 2 ∷ Close 2 ∷ [])

-- an extensible format is read as what it extends, and its channel mask is dropped
abbrev pub ExtensiblePlanExample : Type 0
ExtensiblePlanExample = Plans 2 extensible_file (Open mono [] ∷ Block two_frames ∷ Close 2 ∷ [])

-- Texts: Mür and Ấ in UTF-8, an accent of its own after e, é in ISO 8859-1, ends of lines of three kinds,
-- and what isn't a letter of ASCII with accents: ß, a quotation mark of three bytes, a tab, and ≠, which
-- decomposes into = and an accent
abbrev pub CleanedTextExample : Type 0
CleanedTextExample =
    (cleaned_text (hex "4dc3bc72e1baa4") ≡ codes "MurA")
    × (cleaned_text (hex "65cc81") ≡ codes "e")
    × (cleaned_text (hex "63616665e9") ≡ codes "cafee")
    × (cleaned_text (hex "610d0a620a630d64") ≡ codes "a b c d")
    × (cleaned_text (hex "c39fe2809909e289a0") ≡ codes "????")

-- Mür in UTF-8 as the Description loses its accent, which is refused where no text may be cleaned
abbrev pub TextPlanExample : Type 0
TextPlanExample =
    Plans 2 (changed 80 (hex "4dc3bc72"))
    (Open mono [] ∷ SetField 1 (codes "Mur") ∷ Block two_frames ∷ Close 2 ∷ [])
    × RefusesFile (changed 80 (hex "4dc3bc72")) (record no_options { strict = Texts })
    (Unclean (Byte 1 1 0xC3)) 72

-- a date gets its own separators, and one of another form is left out
abbrev pub DatePlanExample : Type 0
DatePlanExample =
    Plans 2 (changed 400 (codes "2024/05:01"))
    (Open mono [] ∷ Block two_frames ∷ Close 2 ∷ [])
    × Plans 2 (changed 400 (codes "2024.05:01"))
    (Open mono [] ∷ SetField 4 (codes "2024-05-01") ∷ Block two_frames ∷ Close 2 ∷ [])

-- the time reference is a field where it isn't zero
abbrev pub TimePlanExample : Type 0
TimePlanExample = Plans 2 (changed 418 (3 ∷ []))
    (Open mono [] ∷ SetField 6 (hex "0300000000000000") ∷ Block two_frames ∷ Close 2 ∷ [])

-- what is set takes the place of what the file has, and the last one holds
abbrev pub SettingsPlanExample : Type 0
SettingsPlanExample =
    planned 2 (recording_of (changed 80 (codes "Rain")) (record no_options {
      settings = Field 1 (codes "Wind") ∷ History (codes "A") ∷ Field 2 [] ∷ Field 1 (codes "Hail")
          ∷ [];
    }))
    ≡ Ok (Open mono (codes "A") ∷ SetField 1 (codes "Hail") ∷ Block two_frames ∷ Close 2 ∷ [])

-- what isn't carried is refused, each at its chunk: float, 12 valid bits of 16, a tag of A-law, 8
-- bits, 24 bits in four bytes, no channel, a rate of 0, and half a frame; and what begins as another
-- format does, or as none
abbrev pub RefusedPlanExample : Type 0
RefusedPlanExample =
    RefusesFile float_file no_options (Float 16) 12
    × RefusesFile twelve_file no_options ValidBits 12
    × RefusesFile (with_fmt (hex "0600010080bb00000077010002001000")) no_options NotPcm 12
    × RefusesFile (with_fmt (hex "0100010080bb000080bb000001000800")) no_options Bits 12
    × RefusesFile (with_fmt (hex "0100010080bb00000077010004001800")) no_options Align 12
    × RefusesFile (with_fmt (hex "0100000080bb00000000000000001000")) no_options Channels 12
    × RefusesFile (with_fmt (hex "01000100000000000000000002001000")) no_options Rate 12
    × RefusesFile (changed 686 (hex "03000000")) no_options PartFrame 682
    × RefusesFile [] no_options (Unread NotWave) 0
    × RefusesFile (codes "fLaC" ++ hex "0000002210001000") no_options (Foreign Flac) 0
    × RefusesFile (codes "FORM" ++ hex "00000012" ++ codes "AIFF") no_options (Foreign Aiff) 0
    × RefusesFile (codes "FORM" ++ hex "00000012" ++ codes "8SVX") no_options (Unread NotWave) 0
    × RefusesFile (hex "726966662e91cf11a5d628db04c10000") no_options (Foreign Wave64) 0

-- headerless samples after one byte, with a field that is set
abbrev pub PcmPlanExample : Type 0
PcmPlanExample =
    planned 1 (pcm_recording_of (255 ∷ two_frames) (record no_options {
      settings = Field 1 (codes "Rain") ∷ [];
    }) (mono_after 1))
    ≡ Ok (Open mono [] ∷ SetField 1 (codes "Rain") ∷ Block (hex "0100") ∷ Block (hex "0200")
    ∷ Close 2 ∷ [])

-- samples that end inside the third frame, a file of no sample, one that ends before the samples
-- begin, and 20 bits
abbrev pub RefusedPcmExample : Type 0
RefusedPcmExample =
    (pcm_recording_of (two_frames ++ 3 ∷ []) no_options (mono_after 0)
    ≡ Err (record { kind = PartFrame; offset = 4 }))
    × (planned 1 (pcm_recording_of (1 ∷ []) no_options (mono_after 1))
    ≡ Ok (Open mono [] ∷ Close 0 ∷ []))
    × (pcm_recording_of (1 ∷ []) no_options (mono_after 2)
    ≡ Err (record { kind = Short; offset = 2 }))
    × (pcm_recording_of two_frames no_options (record (mono_after 0) { bits = 20 })
    ≡ Err (record { kind = Bits; offset = 0 }))

-- settings as texts: a level in hundredths, a number of samples, a text, a field that is left out
abbrev pub SettingTextPlanExample : Type 0
SettingTextPlanExample =
    (setting_of (codes "value=-23.00") ≡ Some (Field 8 (hex "04f7")))
    × (setting_of (codes "peak=327.66") ≡ Some (Field 10 (hex "fe7f")))
    × (setting_of (codes "time=48000") ≡ Some (Field 6 (hex "80bb000000000000")))
    × (setting_of (codes "reference=a=b") ≡ Some (Field 3 (codes "a=b")))
    × (setting_of (codes "clock=") ≡ Some (Field 5 []))
    × (setting_of (codes "history=A") ≡ Some (History (codes "A")))

-- texts that spell none: one decimal, a level that means not given, a text in place of a number, a
-- date of another form, a key that no field has, and no key
abbrev pub BadSettingPlanExample : Type 0
BadSettingPlanExample =
    (setting_of (codes "value=-23.0") ≡ None)
    × (setting_of (codes "range=327.67") ≡ None)
    × (setting_of (codes "time=1h") ≡ None)
    × (setting_of (codes "date=2024/05/01") ≡ None)
    × (setting_of (codes "title=Rain") ≡ None)
    × (setting_of (codes "Rain") ≡ None)

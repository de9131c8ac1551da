-- Recordings of headerless samples.
use Rattle.std.specs.Prelude.{◌≡◌, ℕ, ◌+◌, ◌-◌, ◌%◌, not, ◌||◌, ◌==◌, Bool, Result, Ok, Err, Some}
use Rattle.std.specs.Prelude.{IsTrue, List, [], ◌∷◌, ◌++◌, length, drop, fold, nat_lt}
use Rattle.bw_model.specs.Bytes.{first_that_holds, is_within, unless}
use Rattle.bw_model.specs.Take.{Format, shapes, block_align}
use Rattle.bw_model.specs.Wire.{Second, last_number}
use Rattle.bw_plan.specs.AllowedSettings.{are_settings}
use Rattle.bw_plan.specs.CleanedContents.{values_of}
use Rattle.bw_plan.specs.Faults.{recording_fault_meaning}
use Rattle.bw_plan.specs.PlanLaws.{IsWhole}
use Rattle.bw_plan.specs.Recordings.{Options, Outline, Recording, FaultAt, with_setting, request_count}
use Rattle.bw_plan.specs.Recordings.{block_frames, chain_line, Short, Bits, Rate, Channels, PartFrame}
use Rattle.bw_plan.specs.Recordings.{TooLong}
use Rattle.bw_plan.specs.declared.fault.RecordingFault.{RecordingFault}
use Rattle.bw_plan.specs.declared.pcm.Pcm.{Pcm}

abbrev pub pcm_format : Pcm → Format
pcm_format p = record { rate = p.rate; channels = p.channels; bits = p.bits }

-- the faults of a format that isn't from a file: at its start
abbrev pub pcm_format_faults : Pcm → List (Bool × FaultAt)
pcm_format_faults p =
    chain_line (not ((p.bits == 16) || (p.bits == 24) || (p.bits == 32))) Bits 0
    ∷ chain_line (not (is_within 1 768000 p.rate)) Rate 0
    ∷ chain_line (not (is_within 1 64 p.channels)) Channels 0
    ∷ []

-- a recording of so many bytes of samples, with all that is set: nothing else is known of it
abbrev pub set_pcm_outline : Options → Format → ℕ → Outline
set_pcm_outline o format len =
    fold with_setting (record {
      format = format;
      history = [];
      values = values_of shapes [];
      markers = [];
      samples_len = len;
    }) o.settings

-- the faults of a file of so many bytes, whose samples have this outline: it ends before they begin;
-- it ends inside a frame, at that frame; a sender has too few numbers, at the first sample
abbrev pub pcm_content_faults : Options → Pcm → ℕ → Outline → List (Bool × FaultAt)
pcm_content_faults o p len r =
    chain_line (nat_lt len p.skip) Short p.skip
    ∷ chain_line (not (r.samples_len % block_align r.format == 0)) PartFrame
    (len - r.samples_len % block_align r.format)
    ∷ chain_line (nat_lt (last_number Second + 1) (request_count (block_frames o r.format) r)) TooLong
    p.skip
    ∷ []

-- all faults of headerless samples in a file of so many bytes, in their order
abbrev pub pcm_faults : Options → Pcm → ℕ → List (Bool × FaultAt)
pcm_faults o p len =
    pcm_format_faults p
    ++ pcm_content_faults o p len (set_pcm_outline o (pcm_format p) (len - p.skip))

-- the recording in a file of so many bytes, but for the samples, or its first fault
unfoldable pub pcm_outline_of : Options → Pcm → ℕ → Result Outline FaultAt
pcm_outline_of o p len =
    unless (first_that_holds (pcm_faults o p len)) (set_pcm_outline o (pcm_format p) (len - p.skip))

-- the recording of the samples in a file's bytes, or why there is none
unfoldable pub pcm_recording_of : List ℕ → Options → Pcm → Result Recording FaultAt
pcm_recording_of b o p = elim (pcm_outline_of o p (length b)) [
  | Err fault ↦ Err fault
  | Ok r ↦ Ok (record { outline = r; samples = drop p.skip b })
]

-- where the fault is one of the samples or of the options, it is the first one
abbrev pub PcmFaultOf : Options → Pcm → ℕ → RecordingFault → Type 0
PcmFaultOf o p len f =
    (g : FaultAt) → recording_fault_meaning f ≡ Some g → pcm_outline_of o p len ≡ Err g

-- the recording of headerless samples, with settings that are allowed, may be stored, and has all
-- the samples that its outline counts
abbrev pub PcmRecordingsAreWhole : Type 0
PcmRecordingsAreWhole = (b : List ℕ) (o : Options) (p : Pcm) (r : Recording) →
    IsTrue (are_settings o.settings) → pcm_recording_of b o p ≡ Ok r → IsWhole r

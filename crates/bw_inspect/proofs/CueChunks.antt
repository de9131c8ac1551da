-- The `cue ` chunk among the others.
use Rattle.std.proofs.Common.{◌≡◌, ℕ, ◌+◌, ◌≤◌, List, length, Option, Some, refl, sym, ◌∙◌, ap, subst, arith, add-zero}
use Rattle.std.proofs.Common.{lit≤}
use Rattle.std.specs.Prelude.{slice_range}
use Rattle.std.specs.Int.{w32, from_le_bytes}
use Rattle.bw_model.specs.Bytes.{first_that_holds, u32_at}
use Rattle.bw_model.specs.Reading as reading
use Rattle.bw_model.specs.Report as report
use Rattle.bw_inspect.specs.declared.fault.InspectFault.{InspectFault}
use Rattle.bw_inspect.specs.declared.chunk.ChunkKind.TheVariants.{Cue}
use Rattle.bw_inspect.specs.Known.{Facts}
use Rattle.bw_inspect.specs.Places.{HasGrown}
use Rattle.bw_inspect.specs.Chunks.{content_faults, counted_faults}
use Rattle.bw_inspect.specs.Contents.{IsLearned, IsStopped, IsUnlearned, IsFaultless, WantsPoints, faults_in}
use Rattle.bw_inspect.specs.CueContents.{IsCued, WantsCounted, cue_faults}
use Rattle.bw_inspect.proofs.Contents.{in_content}
use Rattle.bw_inspect.proofs.Counted.{stopped_as}

-- the count comes after the head
count_there : (b : List ℕ) (e : reading.Entry) → 4 ≤ e.size →
    u32_at (report.content_of b (Some e)) 0 ≡ u32_at b (e.place + 8)
count_there b e h =
    ap (from_le_bytes w32) (in_content b e 0 4 (lit≤ tt) h
    ∙ ap (λ (k : ℕ). slice_range b k (e.place + 8 + 4)) (add-zero (e.place + 8)))

-- the faults of the content, by either word, if this many bytes are there
faults_as : (len : ℕ) (b : List ℕ) (e : reading.Entry) → 4 ≤ e.size →
    counted_faults len e 4 65536 24 reading.BadCue (u32_at (report.content_of b (Some e)) 0)
    ≡ content_faults len e.place Cue (u32_at b (e.place + 8)) e.size
faults_as len b e h =
    let twelve : e.place + 8 + 4 ≡ e.place + 12 = omega arith in
    rw (count_there b e h, twelve) refl

faults_are : (b : List ℕ) (e : reading.Entry) → 4 ≤ e.size → cue_faults b e ≡ faults_in b Cue e
faults_are b e h = faults_as (length b) b e h

-- a point that is to be listed, by either word
points_wanted : (b : List ℕ) (e : reading.Entry) (n : ℕ) → 4 ≤ e.size → WantsCounted b e n → WantsPoints b Cue e n
points_wanted b e n h w =
    let twelve : e.place + 8 + 4 ≡ e.place + 12 = omega arith in
    record {
      is = refl;
      free = sym (ap first_that_holds (faults_as (e.place + 8 + e.size) b e h)) ∙ w.free;
      grown = subst (λ (p : ℕ). HasGrown b p 24 (u32_at b (e.place + 8)) n) twelve
          (subst (λ (k : ℕ). HasGrown b (e.place + 8 + 4) 24 k n) (count_there b e h) w.grown);
    }

pub cues_unlearned : (b : List ℕ) (e : reading.Entry) (f : InspectFault) (left : Option (List ℕ)) → 4 ≤ e.size →
    IsStopped b (e.place + 8 + e.size) e.place (WantsCounted b e) (cue_faults b e) f left → IsUnlearned b Cue e f left
cues_unlearned b e f left h s =
    stopped_as b (e.place + 8 + e.size) e.place (WantsCounted b e) (WantsPoints b Cue e) (cue_faults b e)
    (faults_in b Cue e) f left (λ n w. points_wanted b e n h w) (ap first_that_holds (faults_are b e h)) s

cues_whole : (b : List ℕ) (e : reading.Entry) (points : List report.RawCue) (left : Option (List ℕ)) → 4 ≤ e.size →
    IsCued b e points left → IsFaultless b Cue e left
cues_whole b e points left h c = record { free = sym (ap first_that_holds (faults_are b e h)) ∙ c.free; to = c.to }

-- the points are known
pub cues_learned : (b : List ℕ) (e : reading.Entry) (points : List report.RawCue) (old : Facts)
    (left : Option (List ℕ)) → 4 ≤ e.size → IsCued b e points left →
    IsLearned b Cue e old (record old { cues = Some points }) left
cues_learned b e points old left h c = record {
  whole = cues_whole b e points left h c;
  facts = ap (λ (x : List report.RawCue). record old { cues = Some x }) c.reported;
}

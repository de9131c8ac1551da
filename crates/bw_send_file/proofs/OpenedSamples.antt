-- A file that is opened for its samples.
use Rattle.std.proofs.Common.{◌≡◌, ◌∙◌, ◌+◌, ◌-◌, ◌<◌, ◌≤◌, ◌⊎◌, ℕ, List, ◌++◌, Option, Some, None, Result, Ok, Err}
use Rattle.std.proofs.Common.{ap, sym, subst, refl, arith, length, drop, length-drop, append-nil, true, inl, inr}
use Rattle.std.specs.Prelude.{◌^◌, IsTrue, option_map, slice_range}
use Rattle.std.proofs.lemmas.Bool.{ltb-false}
use Rattle.std.proofs.lemmas.List.Folds.{drop_split}
use Rattle.std.proofs.Math.ListN.{drop_of_length-le}
use Rattle.bw_model.specs.Reading as reading
use Rattle.bw_model.specs.Take.{Request}
use Rattle.bw_stream.specs.Readers.{Of}
use Rattle.bw_inspect.specs.declared.fault.InspectFault.{InspectFault}
use Rattle.bw_inspect.specs.Faults.{is_of_bytes, kind_of}
use Rattle.bw_inspect.proofs.Faults.{of_bytes}
use Rattle.bw_plan.specs.AllowedSettings.{are_settings}
use Rattle.bw_plan.specs.PcmRecordings.{PcmFaultOf, pcm_outline_of, pcm_faults, pcm_recording_of}
use Rattle.bw_plan.specs.Plans.{plan}
use Rattle.bw_plan.specs.Progress.{Progress, IsSoundPlan, remaining}
use Rattle.bw_plan.specs.Recordings as recordings
use Rattle.bw_plan.specs.Recordings.{FaultAt, Options, Outline, Recording, block_frames}
use Rattle.bw_plan.specs.declared.fault.RecordingKind.TheVariants.{Unread}
use Rattle.bw_plan.specs.declared.pcm.Pcm.{Pcm}
use Rattle.bw_plan.proofs.FaultLists.{none_hold}
use Rattle.bw_plan.proofs.PcmRecordings.{pcm_comes, pcm_recordings_are_whole}
use Rattle.bw_ports.specs.declared.recording_files.FileStamp.{FileStamp}
use Rattle.bw_send_file.specs.FileFeeds.{AreToCome}
use Rattle.bw_send_file.specs.PcmSendings.{FeedsSamples, IsStampOf}

-- The file is looked at and then opened: the bytes and the length of its stamp are what was reported
-- before.
pub looked_at : (path : List ℕ) (files files' : List ℕ → Option (List ℕ)) (stamps stamps' : List ℕ → Option FileStamp)
    (stamp : FileStamp) (b : List ℕ) → files' ≡ files → stamps' ≡ stamps →
    ((now : FileStamp) → stamps' path ≡ Some now → stamp ≡ now) → files path ≡ Some b → IsStampOf (stamps path) b →
    (files' path ≡ Some b) × (stamp.len ≡ length b)
looked_at path files files' stamps stamps' stamp b same same_stamps reported at st = (
  ap (λ (f : List ℕ → Option (List ℕ)). f path) same ∙ at,
  ap (λ (s : FileStamp). s.len)
      (reported st.0 (ap (λ (f : List ℕ → Option FileStamp). f path) same_stamps ∙ st.1)) ∙ st.2,
)

-- .. and so is the outline
pub outlined_at : (b : List ℕ) (o : Options) (p : Pcm) (outline : Outline) (len : ℕ) → len ≡ length b →
    pcm_outline_of o p len ≡ Ok outline → pcm_outline_of o p (length b) ≡ Ok outline
outlined_at b o p outline len same is = subst (λ (n : ℕ). pcm_outline_of o p n ≡ Ok outline) same is

-- the recording of the samples, with this outline
abbrev pub samples_of : List ℕ → Pcm → Outline → Recording
samples_of b p outline = record { outline = outline; samples = drop p.skip b }

recorded : (b : List ℕ) (o : Options) (p : Pcm) (outline : Outline) → pcm_outline_of o p (length b) ≡ Ok outline →
    pcm_recording_of b o p ≡ Ok (samples_of b p outline)
unfolding pcm_recording_of
recorded b o p outline h = go (pcm_outline_of o p (length b)) h
  where
    go : (x : Result Outline FaultAt) → x ≡ Ok outline → ◌≡◌ {A = Result Recording FaultAt} (elim x [
      | Err fault ↦ Err fault
      | Ok r ↦ Ok (record { outline = r; samples = drop p.skip b })
    ]) (Ok (samples_of b p outline))
    go (Ok r) e = let same : r ≡ outline = cc in ap (λ (z : Outline). Ok (samples_of b p z)) same
    go (Err fault) e = let bad : Err fault ≡ Ok outline = e in cc

-- what is known of the file's length
pub record HasSamples (b : List ℕ) (p : Pcm) (outline : Outline) : Type 0 where
  pub begins : p.skip ≤ length b
  pub counted : outline.samples_len ≡ length (drop p.skip b)

pub has_samples : (b : List ℕ) (o : Options) (p : Pcm) (outline : Outline) → IsTrue (are_settings o.settings) →
    pcm_outline_of o p (length b) ≡ Ok outline → HasSamples b p outline
has_samples b o p outline allowed h =
    let r : Recording = samples_of b p outline in
    let is = recorded b o p outline h in
    let free = none_hold (pcm_faults o p (length b)) (pcm_comes b o p r is).free in
    record {
      begins = ltb-false (length b) p.skip free.1.1.1.0;
      counted = (pcm_recordings_are_whole b o p r allowed is).samples;
    }

-- the bytes from the first sample on, which are as many as are counted
all_samples : (b : List ℕ) (skip len : ℕ) → len ≡ length (drop skip b) → slice_range b skip (skip + len) ≡ drop skip b
all_samples b skip len e =
    let long : length (drop skip b) ≡ length b - skip = length-drop skip b in
    let within : skip ≤ skip + len = omega arith in
    let past : length b ≤ skip + len = omega (arith, e, long) in
    sym (drop_split b skip (skip + len) within
    ∙ ap (λ (rest : List ℕ). slice_range b skip (skip + len) ++ rest) (drop_of_length-le b past)
    ∙ append-nil (slice_range b skip (skip + len)))

-- all requests of the plan are to come
pub samples_opened : (b : List ℕ) (o : Options) (p : Pcm) (outline : Outline) (frames : ℕ) (q : Progress)
    (left : Option (List ℕ)) (to_come : List Request → Type 0) → IsTrue (are_settings o.settings) →
    pcm_outline_of o p (length b) ≡ Ok outline → 1 ≤ outline.samples_len → frames ≡ block_frames o outline.format →
    ((c : List ℕ) → outline.samples_len ≡ length (slice_range c p.skip (p.skip + outline.samples_len)) →
    remaining q c
    ≡ plan frames (record { outline = outline; samples = slice_range c p.skip (p.skip + outline.samples_len) })) →
    q.samples.place ≡ p.skip → left ≡ Some (drop p.skip b) →
    q.samples.place + q.samples.left ≡ p.skip + outline.samples_len → IsSoundPlan q.stage →
    ((requests : List Request) → AreToCome left q requests → to_come requests) → FeedsSamples b o p to_come
samples_opened b o p outline frames q left to_come allowed h some many requests place stands end sound gives =
    let r : Recording = samples_of b p outline in
    let has = has_samples b o p outline allowed h in
    let counted = has.counted in
    let begins = has.begins in
    let long : length (drop p.skip b) ≡ length b - p.skip = length-drop p.skip b in
    let all : slice_range b p.skip (p.skip + outline.samples_len) ≡ drop p.skip b =
    all_samples b p.skip outline.samples_len counted in
    let are : remaining q b ≡ plan (block_frames o outline.format) r =
    requests b (counted ∙ ap length (sym all))
    ∙ ap (λ (z : List ℕ). plan frames (record { outline = outline; samples = z })) all
    ∙ ap (λ (n : ℕ). plan n r) many in
    record {
      recording = r;
      is = recorded b o p outline h;
      some = some;
      gives = gives (plan (block_frames o outline.format) r) (record {
        bytes = b;
        stands = record {
          sound = sound;
          at = stands ∙ ap (λ (n : ℕ). Some (drop n b)) (sym place);
          there = omega (arith, end, counted, begins, long);
        };
        are = sym are;
      });
    }

none : {X : Type 0} {x : X} → None ≡ Some x → ⊥
none h = cc

-- a fault that is none of the bytes
pub outside : (o : Options) (p : Pcm) (len : ℕ) (f : InspectFault) → (is_of_bytes f.kind ≡ true → ⊥) →
    PcmFaultOf o p len (record { kind = Unread f.kind; offset = f.offset })
outside o p len f never g same = go (kind_of f.kind) refl same
  where
    go : (x : Option reading.FaultKind) → kind_of f.kind ≡ x →
        option_map {U = FaultAt}
        (λ (kind : recordings.RecordingFault). record { kind = kind; offset = f.offset })
        (option_map recordings.Unread x) ≡ Some g → pcm_outline_of o p len ≡ Err g
    go None e s = absurd (none s)
    go (Some k) e s =
        absurd (never (of_bytes f (record { kind = k; offset = f.offset })
        (ap (option_map {U = reading.Fault} (λ (k : reading.FaultKind). record { kind = k; offset = f.offset })) e)))

-- the samples are there when they are gone on to
pub samples_there : (b : List ℕ) (o : Options) (p : Pcm) (outline : Outline) (f : InspectFault) (left : Option (List ℕ)) →
    IsTrue (are_settings o.settings) → pcm_outline_of o p (length b) ≡ Ok outline → length b < 2 ^ 64 → left ≡ Some b →
    (is_of_bytes f.kind ≡ true → Of left (λ b. (length b < p.skip) ⊎ (2 ^ 64 ≤ p.skip + outline.samples_len))) →
    PcmFaultOf o p (length b) (record { kind = Unread f.kind; offset = f.offset })
samples_there b o p outline f left allowed h few at cut = outside o p (length b) f (λ own.
    let has = has_samples b o p outline allowed h in
    let counted = has.counted in
    let begins = has.begins in
    let long : length (drop p.skip b) ≡ length b - p.skip = length-drop p.skip b in
    elim (cut own b at) [
      | inl short ↦ omega (arith, short, begins)
      | inr far ↦ omega (arith, far, counted, long, begins, few)
    ])

-- A take has no float as JSON, and few levels, so that its text is pinned and reads back.
use Rattle.std.proofs.Common.{◌≡◌, ℕ, ◌*◌, ◌≤◌, Bool, true, false, List, refl, lit≤, if◌then◌else◌, nat_lt}
use Rattle.std.specs.Prelude.{◌/◌, ◌^◌}
use Rattle.serde_json.specs.Data.{depth, null}
use Rattle.serde_json.specs.Written.{has_float}
use Rattle.bw_model.proofs.Computing.{computing}
use Rattle.bw_takes.specs.TakeObjects.{duration_data, summary_with_digest, take_number}
use Rattle.bw_takes.specs.TakeSummaries.{TakeSummary, Stands, Unopened, Opened, Faulty, Changed}
use Rattle.bw_takes.specs.declared.hashing.SampleDigest.{SampleDigest}
use Rattle.bw_takes.specs.declared.hashing.SampleDigest.TheVariants.{Unasked, Missing, Known}

duration : (count rate : ℕ) → has_float (duration_data count rate) ≡ false
duration count rate = go (nat_lt (count * 1000 / rate) (2 ^ 64))
  where
    go : (b : Bool) → has_float (if b then take_number (count * 1000 / rate) else null) ≡ false
    go true = refl
    go false = refl

pub take-has_float : (name : List ℕ) (summary : TakeSummary) (digest : SampleDigest) →
    has_float (summary_with_digest name summary digest) ≡ false
unfolding computing
take-has_float name (Stands next) Unasked = refl
take-has_float name (Stands next) Missing = refl
take-has_float name (Stands next) (Known d) = refl
take-has_float name (Unopened next) Unasked = refl
take-has_float name (Unopened next) Missing = refl
take-has_float name (Unopened next) (Known d) = refl
take-has_float name (Opened closed count rate next) Unasked = simp duration
take-has_float name (Opened closed count rate next) Missing = simp duration
take-has_float name (Opened closed count rate next) (Known d) = simp duration
take-has_float name (Faulty cause) Unasked = refl
take-has_float name (Faulty cause) Missing = refl
take-has_float name (Faulty cause) (Known d) = refl
take-has_float name (Changed number) Unasked = refl
take-has_float name (Changed number) Missing = refl
take-has_float name (Changed number) (Known d) = refl

duration_depth : (count rate : ℕ) → depth (duration_data count rate) ≡ 0
duration_depth count rate = go (nat_lt (count * 1000 / rate) (2 ^ 64))
  where
    go : (b : Bool) → depth (if b then take_number (count * 1000 / rate) else null) ≡ 0
    go true = refl
    go false = refl

pub take-depth : (name : List ℕ) (summary : TakeSummary) (digest : SampleDigest) →
    depth (summary_with_digest name summary digest) ≤ 127
unfolding computing
take-depth name (Stands next) Unasked = lit≤ tt
take-depth name (Stands next) Missing = lit≤ tt
take-depth name (Stands next) (Known d) = lit≤ tt
take-depth name (Unopened next) Unasked = lit≤ tt
take-depth name (Unopened next) Missing = lit≤ tt
take-depth name (Unopened next) (Known d) = lit≤ tt
take-depth name (Opened closed count rate next) Unasked = simp duration_depth (lit≤ tt)
take-depth name (Opened closed count rate next) Missing = simp duration_depth (lit≤ tt)
take-depth name (Opened closed count rate next) (Known d) = simp duration_depth (lit≤ tt)
take-depth name (Faulty cause) Unasked = lit≤ tt
take-depth name (Faulty cause) Missing = lit≤ tt
take-depth name (Faulty cause) (Known d) = lit≤ tt
take-depth name (Changed number) Unasked = lit≤ tt
take-depth name (Changed number) Missing = lit≤ tt
take-depth name (Changed number) (Known d) = lit≤ tt

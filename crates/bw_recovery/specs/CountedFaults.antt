-- Which failed calls of two disks a fault comes of.
use Rattle.std.specs.Prelude.{◌≡◌, ◌⊎◌, ℕ, Bool}
use Rattle.bw_store.specs.Stores.{Counts}

-- One call of a disk failed if this happened, and no other; or none did, since this holds.
abbrev pub CountsUnless : Type 0 → ℕ → ℕ → Bool → Type 0
CountsUnless Excused before after happens = Counts before after happens ⊎ ((after ≡ before) × Excused)

-- By the counts of failed calls of two disks, before and after: one call of one of them failed if
-- this happened, and no other call failed.
abbrev pub CountsOneOf : ℕ → ℕ → ℕ → ℕ → Bool → Type 0
CountsOneOf takes later_takes notes later_notes happens =
    (Counts takes later_takes happens × (later_notes ≡ notes))
    ⊎ ((later_takes ≡ takes) × Counts notes later_notes happens)

-- the same, unless this holds
abbrev pub CountsOneUnless : Type 0 → ℕ → ℕ → ℕ → ℕ → Bool → Type 0
CountsOneUnless Excused takes later_takes notes later_notes happens =
    CountsOneOf takes later_takes notes later_notes happens
    ⊎ ((later_takes ≡ takes) × (later_notes ≡ notes) × Excused)

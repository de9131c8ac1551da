-- What a take is judged to be whose samples are compared.
use Rattle.std.proofs.Common.{◌≡◌, ℕ, true, List, Option, Some, None, Result, refl, subst}
use Rattle.bw_journal.specs.Replays.{Story, JournalFault}
use Rattle.bw_journal.specs.Rows.{row_count}
use Rattle.bw_journal.specs.declared.story.Replayed.{Replayed}
use Rattle.bw_recovery.specs.Names.{NameFault}
use Rattle.bw_takes.specs.JudgedTakes.{changed_beside, changed_by, take_judged_by, judged_take, noted_unless}
use Rattle.bw_takes.specs.TakeFindings.{IsFoundBy, IsTakeFound}
use Rattle.bw_takes.specs.declared.finding.TakeFinding.{TakeFinding}
use Rattle.bw_takes.specs.declared.finding.TakeFinding.TheVariants.{Stood, Unbegun, Refused, Begun, Changed}

-- its journal is begun
abbrev IsBegun : TakeFinding → Type 0
IsBegun Stood = ⊥
IsBegun Unbegun = ⊥
IsBegun (Refused cause) = ⊥
IsBegun (Begun r) = Unit {0}
IsBegun (Changed number) = ⊥

module _ (name : List ℕ) (r : Replayed) where
  one : (journal : List ℕ) (file : Option (List ℕ)) (reported : Result Story JournalFault) (fault : Option NameFault) →
      IsFoundBy reported fault (Begun r) →
      noted_unless (changed_beside name r.state.parts (Some journal) file) r.state.parts (row_count r.table.items)
      ≡ take_judged_by reported fault (changed_by name journal reported file)
  one journal file reported fault h = rw (h.0, h.1) refl

  -- what its journal says, and which samples are others
  pub begun : (notes file : Option (List ℕ)) → IsTakeFound name notes file (Begun r) →
      noted_unless (changed_beside name r.state.parts notes file) r.state.parts (row_count r.table.items)
      ≡ judged_take true name notes file
  begun (Some journal) file h = one journal file _ _ h
  begun None file h = absurd (subst IsBegun h tt)

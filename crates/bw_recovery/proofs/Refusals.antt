-- What is found of a name.
use Rattle.std.proofs.Common.{◌≡◌, ℕ, Bool, false, ◌&&◌, ◌||◌, List, ◌++◌, take, drop, Option, Some, None, option_map, is_some, Err, refl}
use Rattle.std.proofs.Common.{sym, ◌∙◌, ap, arith}
use Rattle.std.specs.Prelude.{codes}
use Rattle.std.specs.Option.{option_map_or}
use Rattle.std.specs.Str.{bytes_eq}
use Rattle.std.proofs.lemmas.List.{take-take, drop-take}
use Rattle.bw_model.specs.Layout.{head}
use Rattle.bw_journal.specs.Replays.{JournalFault, replay}
use Rattle.bw_journal.specs.Faults.{fault_meaning}
use Rattle.bw_journal.specs.declared.fault.ReplayFault.{ReplayFault}
use Rattle.bw_recovery.specs.Names.{begins_form, begins_take, OfJournal, fault_beside}
use Rattle.bw_recovery.specs.Findings.{RefusesName}
use Rattle.bw_recovery.specs.declared.finding.NameFault.TheVariants.{Journal}

form_twenty : (id first bytes : List ℕ) → begins_form id first (take 20 bytes) ≡ begins_form id first bytes
form_twenty id first bytes =
    ap (λ (z : List ℕ). bytes_eq z id && bytes_eq (take 12 (drop 8 (take 20 bytes))) (codes "WAVE" ++ head first 28))
    (take-take 4 20 bytes (omega arith))
    ∙ ap (λ (z : List ℕ). bytes_eq (take 4 bytes) id && bytes_eq z (codes "WAVE" ++ head first 28))
    (ap (take 12) (drop-take 8 12 bytes) ∙ take-take 12 12 (drop 8 bytes) (omega arith))

-- the first twenty bytes show it
pub twenty : (bytes : List ℕ) → begins_take (take 20 bytes) ≡ begins_take bytes
twenty bytes =
    ap (λ (v : Bool). v || begins_form (codes "BW64") (codes "ds64") (take 20 bytes))
    (form_twenty (codes "RIFF") (codes "JUNK") bytes)
    ∙ ap (λ (v : Bool). begins_form (codes "RIFF") (codes "JUNK") bytes || v)
    (form_twenty (codes "BW64") (codes "ds64") bytes)

pub found_some : (bytes : List ℕ) (o : Option (List ℕ)) → Some bytes ≡ option_map (take 20) o →
    begins_take bytes ≡ option_map_or begins_take o false
found_some bytes None e = absurd cc
found_some bytes (Some found) e = ap begins_take (inner e) ∙ twenty found
  where
    inner : {x y : List ℕ} → Some x ≡ Some y → x ≡ y
    inner e = cc

pub found_none : (o : Option (List ℕ)) → None ≡ option_map (take 20) o → false ≡ option_map_or begins_take o false
found_none None e = refl
found_none (Some found) e = absurd cc

-- a name that is refused by what is wrong with its journal
pub refuses : (limit : ℕ) (name journal : List ℕ) (file : Option (List ℕ)) (e : ReplayFault) (j : JournalFault) →
    fault_meaning e ≡ Some j → fault_beside limit (Err j) file ≡ Some (OfJournal j) →
    replay limit name journal ≡ Err j → RefusesName limit name journal file (Journal e)
refuses limit name journal file e j means beside is = record {
  fault = ap (λ r. fault_beside limit r file) is ∙ beside ∙ sym (ap (option_map OfJournal) means);
  some = ap (λ o. is_some (option_map OfJournal o)) means;
  reported = tt;
}

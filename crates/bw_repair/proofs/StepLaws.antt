-- Calls of a disk, one after the other.
use Rattle.std.proofs.Common.{◌≡◌, ◌∙◌, ℕ, List, Bool, false, refl, sym, subst}
use Rattle.std.specs.Prelude.{IsTrue}
use Rattle.bw_store.specs.Stores.{Counts}
use Rattle.bw_disk.specs.declared.disk.Disk.{Ghosts}
use Rattle.bw_repair.specs.DiskSteps.{IsStep}

-- none
pub no_step : {D F : Type 0} (G : Ghosts D F) (path : List ℕ) (d : D) → IsStep G path false d d
no_step G path d = record {
  honest = refl;
  failed = record { quiet = λ f. refl; rises = λ t. absurd (cc); stays = λ h. refl };
  others = λ h other apart. refl;
  synced = λ h other apart. refl;
}

-- two, of which the first succeeds
pub two_steps : {D F : Type 0} (G : Ghosts D F) (path : List ℕ) (fails : Bool) (a b c : D) →
    IsStep G path false a b → IsStep G path fails b c → IsStep G path fails a c
two_steps G path fails a b c first second =
    let same : G.failures b ≡ G.failures a = first.failed.quiet refl in record {
      honest = second.honest ∙ first.honest;
      failed = subst (λ (n : ℕ). Counts n (G.failures c) fails) same second.failed;
      others = λ h other apart.
          second.others (subst IsTrue (sym first.honest) h) other apart ∙ first.others h other apart;
      synced = λ h other apart.
          second.synced (subst IsTrue (sym first.honest) h) other apart ∙ first.synced h other apart;
    }

-- at a path that is this one on an honest disk
pub step_at : {D F : Type 0} (G : Ghosts D F) (path to : List ℕ) (fails : Bool) (a b : D) →
    (IsTrue (G.honest a) → path ≡ to) → IsStep G path fails a b → IsStep G to fails a b
step_at G path to fails a b is step = record {
  honest = step.honest;
  failed = step.failed;
  others = λ h other apart. step.others h other (λ e. apart (e ∙ is h));
  synced = λ h other apart. step.synced h other (λ e. apart (e ∙ is h));
}

-- What is reported of a file that can't be opened.
use Rattle.std.proofs.Common.{◌≡◌, ◌≢◌, ℕ, List, Result, Ok, Err, IfOk, refl}
use Rattle.std.specs.declared.io.ErrorKind.{ErrorKind}
use Rattle.std.specs.declared.io.ErrorKind.TheVariants as kinds
use Rattle.bw_console.specs.FailedOpenings.{exit_unopened}
use Rattle.bw_console.specs.declared.exit.Exit.TheVariants as exits

-- a line with some reason is the line with this one
pub reasoned : {X Y : Type 0} (r : Result X Y) (bytes : X → List ℕ) (line : List ℕ → List ℕ) (reason : List ℕ)
    → IfOk r (λ x. bytes x ≡ line reason) → IfOk r (λ x. (why : List ℕ) × (bytes x ≡ line why))
reasoned (Ok x) bytes line reason h = (reason, h)
reasoned (Err e) bytes line reason h = tt

-- a file that can't be opened is a device that failed, unless memory was refused
pub exit-device : (kind : ErrorKind) → kind ≢ kinds.OutOfMemory → exit_unopened kind ≡ exits.Device
exit-device kinds.OutOfMemory n = absurd (n refl)
exit-device _ n = refl

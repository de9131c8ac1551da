-- What is known of the length of a file that is followed.
use Rattle.std.proofs.Common.{ℕ, Bool, true, false, refl, arith}
use Rattle.bw_send_file.specs.PcmSendings.{IsKnownLen}

-- the bytes before the samples are known of any file
pub known_before : (by_path : Bool) (skip : ℕ) → (len : ℕ) × IsKnownLen by_path skip len × Unit {0}
known_before true skip = (skip, refl, tt)
known_before false skip = (skip, omega arith, tt)

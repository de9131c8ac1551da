-- The option of `takes` that names a file of receipts: it stands alone beside the folder.
use Rattle.std.specs.Prelude.{◌≡◌, ◌&&◌, ◌||◌, Bool, false, codes, Option, Some, is_some}
use Rattle.clap.specs.Walk.{Text}
use Rattle.bw_args.specs.Given.{is_set}

-- it is given, and something else is asked for beside it
abbrev pub is_verify_mixed : Bool → Bool → Bool → Bool → Option Text → Option Text → Bool
is_verify_mixed watch check json digest name receipts =
    is_some receipts && (watch || (check || (json || (digest || is_some name))))

-- by the options
abbrev pub is_verify_given_mixed : (Text → Option Text) → Bool
is_verify_given_mixed given = is_verify_mixed (is_set (given (codes "watch")))
    (is_set (given (codes "check"))) (is_set (given (codes "json")))
    (is_set (given (codes "digest"))) (given (codes "give-up")) (given (codes "verify"))

-- the receipts that they are compared with are these
pub record IsVerifyGiven (given : Text → Option Text) (receipts : Text) : Type 0 where
  pub is : given (codes "verify") ≡ Some receipts
  pub alone : is_verify_given_mixed given ≡ false

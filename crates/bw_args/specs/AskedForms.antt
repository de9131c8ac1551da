-- The form that a file is converted to, as the options of a command line give it.
use Rattle.std.specs.Prelude.{◌≡◌, Bool, true, false, Option, Some, None, codes}
use Rattle.clap.specs.Walk.{Text}
use Rattle.bw_args.specs.Given.{is_set}
use Rattle.bw_args.specs.declared.asked_form.AskedForm.{AskedForm}
use Rattle.bw_args.specs.declared.asked_form.AskedForm.TheVariants.{Rf64, Bw64}

-- the one form that is asked for, of `--rf64` and `--bw64`
abbrev pub one_form : Bool → Bool → Option AskedForm
one_form true true = None
one_form true false = Some Rf64
one_form false true = Some Bw64
one_form false false = None

-- the options give these two files and this form
pub record GivesConversion (given : Text → Option Text) (path to : Text) (form : AskedForm) : Type 0 where
  pub reads : given (codes "file") ≡ Some path
  pub makes : given (codes "out") ≡ Some to
  pub formed : one_form (is_set (given (codes "rf64"))) (is_set (given (codes "bw64"))) ≡ Some form

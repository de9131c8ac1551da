-- What the getters of `clap` say of a conversion.
use Rattle.std.proofs.Common.{◌≡◌, Bool, List, Option, Some, None, codes, refl, ap, subst, sym, ◌∙◌, inr}
use Rattle.std.proofs.Math.Path.{fun_ext}
use Rattle.clap.specs.Words.{Row, Text, first_value, rows_of}
use Rattle.clap.specs.declared.parser.matches.Found.{Found}
use Rattle.clap.proofs.WalkLemmas.{first_value-rows}
use Rattle.bw_args.specs.Forms.{RunsFor}
use Rattle.bw_args.specs.Given.{given_on_line, is_set}
use Rattle.bw_args.specs.Lines.{AsksNothing, Converting, IsLineFor, IsWishOf}
use Rattle.bw_args.specs.AskedForms.{GivesConversion, one_form}
use Rattle.bw_args.specs.declared.CommandLine.{CommandLine}
use Rattle.bw_args.specs.declared.CommandLine.TheVariants.{Run, BadValue as Bad, Report}
use Rattle.bw_args.specs.declared.bad_value.BadValue.TheVariants.{Form}
use Rattle.bw_args.specs.declared.asked_form.AskedForm.{AskedForm}
use Rattle.bw_args.proofs.WishLemmas.{other_name}

-- the files and the form that are given are those that are asked for
pub convert_asked : (found : Found) (path to : Text) (form : AskedForm)
    → GivesConversion (first_value found) path to form
    → IsWishOf (Some (codes "convert", rows_of found)) (Converting path to form)
convert_asked found path to form given =
    (refl, subst (λ g. GivesConversion g path to form) (fun_ext (first_value-rows found)) given)

-- a line that runs the conversion that is asked for is the one that the words result in
pub convert_runs : (found : Found) (path to : Text) (form : AskedForm)
    → GivesConversion (first_value found) path to form → (line : CommandLine)
    → RunsFor (Converting path to form) line → IsLineFor (Some (codes "convert", rows_of found)) line
convert_runs found path to form given (Run task) runs =
    subst (IsWishOf (Some (codes "convert", rows_of found))) (sym runs) (convert_asked found path to form given)
convert_runs found path to form given (Bad value) runs = absurd runs
convert_runs found path to form given (Report error) runs = absurd runs

-- options that give no conversion ask for nothing
pub nothing_converted : (command : Text × List Row) → command.0 ≡ codes "convert"
    → ((path to : Text) (form : AskedForm) → ¬ GivesConversion (given_on_line command.1) path to form)
    → AsksNothing (Some command)
nothing_converted command is none (Converting path to form) asked = none path to form asked.1
nothing_converted command is none wish asked = other_name is asked.0 refl

-- .. and are bad by their form
pub unconverted_line : (found : Found)
    → ((path to : Text) (form : AskedForm) → ¬ GivesConversion (first_value found) path to form)
    → IsLineFor (Some (codes "convert", rows_of found)) (Bad Form)
unconverted_line found none = (
  nothing_converted (codes "convert", rows_of found) refl (λ path to form asked.
      none path to form
      (subst (λ g. GivesConversion g path to form) (sym (fun_ext (first_value-rows found))) asked)),
  inr (refl, refl),
)

-- so without a path, or without one form
pub no_file : (given : Text → Option Text) → None ≡ given (codes "file") → (path to : Text) (form : AskedForm)
    → ¬ GivesConversion given path to form
no_file given none path to form asked = let bad : None ≡ Some path = none ∙ asked.reads in cc

pub no_out : (given : Text → Option Text) → None ≡ given (codes "out") → (path to : Text) (form : AskedForm)
    → ¬ GivesConversion given path to form
no_out given none path to form asked = let bad : None ≡ Some to = none ∙ asked.makes in cc

pub no_form : (given : Text → Option Text)
    → one_form (is_set (given (codes "rf64"))) (is_set (given (codes "bw64"))) ≡ None
    → (path to : Text) (form : AskedForm) → ¬ GivesConversion given path to form
no_form given none path to form asked = let bad : None ≡ Some form = sym none ∙ asked.formed in cc

-- the form by the two flags
by_flags : (given : Text → Option Text) (r b : Bool) → r ≡ is_set (given (codes "rf64"))
    → b ≡ is_set (given (codes "bw64"))
    → one_form r b ≡ one_form (is_set (given (codes "rf64"))) (is_set (given (codes "bw64")))
by_flags given r b is also =
    ap (λ (x : Bool). one_form x b) is ∙ ap (λ (y : Bool). one_form (is_set (given (codes "rf64"))) y) also

pub files_given : (given : Text → Option Text) (path to : Text) (form : AskedForm) (r b : Bool)
    → Some path ≡ given (codes "file") → Some to ≡ given (codes "out") → r ≡ is_set (given (codes "rf64"))
    → b ≡ is_set (given (codes "bw64")) → Some form ≡ one_form r b → GivesConversion given path to form
files_given given path to form r b reads makes is also formed =
    record { reads = sym reads; makes = sym makes; formed = sym (formed ∙ by_flags given r b is also) }

pub no_flags : (given : Text → Option Text) (r b : Bool) → r ≡ is_set (given (codes "rf64"))
    → b ≡ is_set (given (codes "bw64")) → None ≡ one_form r b → (path to : Text) (form : AskedForm)
    → ¬ GivesConversion given path to form
no_flags given r b is also none = no_form given (sym (none ∙ by_flags given r b is also))

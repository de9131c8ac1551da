-- What is reported of a command line whose words can't be read.
use Rattle.std.specs.Prelude.{◌≡◌, true, codes}
use Rattle.std.specs.declared.io.ErrorKind.{ErrorKind}
use Rattle.std.specs.declared.io.ErrorKind.TheVariants as kinds
use Rattle.bw_console.specs.Outcomes.{Outcome}
use Rattle.bw_console.specs.Prints.{Nothing, IsOf}
use Rattle.bw_console.specs.Text.{as_line}
use Rattle.bw_console.specs.declared.exit.Exit.{Exit}
use Rattle.bw_console.specs.declared.exit.Exit.TheVariants as exits

-- how the program ends if the words can't be read: one that isn't UTF-8 is a usage error
abbrev pub exit_without_words : ErrorKind → Exit
exit_without_words kinds.OutOfMemory = exits.Memory
exit_without_words kinds.InvalidData = exits.Usage
exit_without_words _ = exits.Device

-- the words of the command line can't be read, for an error of this kind
pub record IsBadArgv (kind : ErrorKind) (did : Outcome) : Type 0 where
  pub exit_is : did.exit ≡ exit_without_words kind
  pub reads : did.reads_all ≡ true
  pub prints : did.out ≡ Nothing
  pub reports : IsOf (as_line (codes "the command line can't be read")) did.faults

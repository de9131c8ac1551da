-- The rows of the tables of options, as rules of `clap`.
use Rattle.clap.specs.Walk.{Rule, Text}
use Rattle.bw_args.specs.Commands.{any_words, flag, option, optional, repeated, required, word, word_list}
use Rattle.bw_args.specs.declared.commands.row.Kind.{Kind}
use Rattle.bw_args.specs.declared.commands.row.Kind.TheVariants.{Value, Required, Repeated, Optional}
use Rattle.bw_args.specs.declared.commands.row.Kind.TheVariants.{Flag, Word, Words, AnyWords}
use Rattle.bw_args.specs.declared.commands.row.Row.{Row}

-- the rule of an option of this name that is given so
abbrev pub rule_for : Text → Kind → Rule
rule_for name (Value value) = option name
rule_for name (Required value) = required name
rule_for name (Repeated value) = repeated name
rule_for name (Optional value alone) = optional name alone.now
rule_for name Flag = flag name
rule_for name (Word value) = word name
rule_for name (Words value) = word_list name
rule_for name (AnyWords value) = any_words name

abbrev pub rule_of_row : Row → Rule
rule_of_row row = rule_for row.name.now row.kind

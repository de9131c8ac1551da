use Rattle.std.proofs.Common.{◌≡◌, drop, fold, map}
use Rattle.clap.specs.Simple.{App, with_rule}
use Rattle.bw_args.specs.Commands.{IsCommand}
use Rattle.bw_args.specs.Rows.{rule_of_row}
use Rattle.bw_args.proofs.commands.row.with_rows.Given as goal

-- the options of the rows that are left make of the command what all make of the first one
abbrev pub invariant-loop-row : goal.invariant-loop-row
invariant-loop-row l = (app : App) → IsCommand app l.fn.command → (now : App) × IsCommand now l.command
    × (fold with_rule now (map rule_of_row (drop l.row-index l.rows)) ≡ fold with_rule app (map rule_of_row l.rows))

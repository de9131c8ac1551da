use Rattle.std.proofs.Common.{◌≡◌, map, drop}
use Rattle.std.specs.List.{list_any}
use Rattle.bw_args.specs.InspectedFiles.{is_input}
use Rattle.bw_args.proofs.commands.inspecting.names_input.Given as goal

abbrev pub invariant-loop-path : goal.invariant-loop-path
invariant-loop-path l = list_any is_input (map (λ p. p.now) (drop l.path-index l.paths))
    ≡ list_any is_input (map (λ p. p.now) l.paths)

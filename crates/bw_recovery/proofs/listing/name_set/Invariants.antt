use Rattle.std.proofs.Common.{ℕ, IsTrue, List, map, take, ◌++◌}
use Rattle.std.specs.Prelude.{codes, string_bytes}
use Rattle.std.specs.List.{Contains}
use Rattle.bw_model.specs.Wire.{is_name}
use Rattle.bw_recovery.proofs.listing.name_set.Given as goal

-- the names are those of such files among those so far
abbrev pub invariant-loop-file : goal.invariant-loop-file
invariant-loop-file g l = record {
  only : (name : List ℕ) → Contains l.names.keys name →
      IsTrue (is_name name) × Contains (map string_bytes l.file-items) (name ++ codes ".journal");
  each : (name : List ℕ) → IsTrue (is_name name) →
      Contains (take l.file-index (map string_bytes l.file-items)) (name ++ codes ".journal") →
      Contains l.names.keys name;
}

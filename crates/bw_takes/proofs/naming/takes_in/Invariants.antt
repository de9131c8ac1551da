use Rattle.std.proofs.Common.{ℕ, IsTrue, List, map, take}
use Rattle.std.specs.Prelude.{string_bytes}
use Rattle.std.specs.List.{Contains}
use Rattle.bw_model.specs.Wire.{is_name}
use Rattle.bw_takes.specs.TakeNames.{IsFileOf, AreNamesInOrder}
use Rattle.bw_takes.proofs.naming.takes_in.Given as goal

-- the names are those of the takes that the files so far belong to
abbrev pub invariant-loop-file : goal.invariant-loop-file
invariant-loop-file g l = record {
  ordered : AreNamesInOrder l.names.keys;
  only : (name : List ℕ) → Contains l.names.keys name →
      IsTrue (is_name name) × ((f : List ℕ) × IsFileOf name f × Contains (map string_bytes l.file-items) f);
  each : (name f : List ℕ) → IsTrue (is_name name) → IsFileOf name f →
      Contains (take l.file-index (map string_bytes l.file-items)) f → Contains l.names.keys name;
}

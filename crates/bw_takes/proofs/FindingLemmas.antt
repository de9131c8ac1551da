-- What is found of a take's file.
use Rattle.std.proofs.Common.{◌≡◌, ℕ, ◌+◌, ◌-◌, ◌≤◌, Bool, false, ◌&&◌, ◌||◌, List, ◌++◌, length, take, drop, Option, Some, None}
use Rattle.std.proofs.Common.{◌∙◌, ap, arith}
use Rattle.std.specs.Prelude.{codes}
use Rattle.std.specs.Option.{option_map_or}
use Rattle.std.specs.Str.{bytes_eq}
use Rattle.std.proofs.lemmas.List.{take-take, drop-take}
use Rattle.bw_model.specs.File.{data_place}
use Rattle.bw_model.specs.Layout.{head}
use Rattle.bw_model.specs.Take.{Parts}
use Rattle.bw_recovery.specs.FilesRead.{SeesRead}
use Rattle.bw_recovery.specs.Names.{begins_form, begins_take}
use Rattle.bw_recovery.specs.declared.reading.FileRead.{FileRead}

form_within : (m : ℕ) (id first bytes : List ℕ) → 12 ≤ m →
    begins_form id first (take (8 + m) bytes) ≡ begins_form id first bytes
form_within m id first bytes long =
    ap (λ (z : List ℕ). bytes_eq z id && bytes_eq (take 12 (drop 8 (take (8 + m) bytes))) (codes "WAVE" ++ head first 28))
    (take-take 4 (8 + m) bytes (omega (arith, long)))
    ∙ ap (λ (z : List ℕ). bytes_eq (take 4 bytes) id && bytes_eq z (codes "WAVE" ++ head first 28))
    (ap (take 12) (drop-take 8 m bytes) ∙ take-take 12 m (drop 8 bytes) long)

-- the first twenty bytes show whether it is a take of this server
begins_within : (m : ℕ) (bytes : List ℕ) → 12 ≤ m → begins_take (take (8 + m) bytes) ≡ begins_take bytes
begins_within m bytes long =
    ap (λ (v : Bool). v || begins_form (codes "BW64") (codes "ds64") (take (8 + m) bytes))
    (form_within m (codes "RIFF") (codes "JUNK") bytes long)
    ∙ ap (λ (v : Bool). begins_form (codes "RIFF") (codes "JUNK") bytes || v)
    (form_within m (codes "BW64") (codes "ds64") bytes long)

far : (n : ℕ) → data_place n ≡ 8 + (data_place n - 8)
far n = omega arith

-- what was read of a file shows it
pub front_shows : (p : Parts) (file : Option (List ℕ)) (read : FileRead) → SeesRead p file (Some read) →
    begins_take read.front.items ≡ option_map_or begins_take file false
front_shows p None read sees = absurd sees
front_shows p (Some found) read sees =
    ap begins_take (sees.front ∙ ap (λ k. take k found) (far (length p.history)))
    ∙ begins_within (data_place (length p.history) - 8) found (omega arith)

-- Which names may come from which addresses, by a file that is named.
use Rattle.std.specs.Prelude.{◌≡◌, ℕ, ◌++◌, List, Option, Some, None, Result, Ok, Err, codes, decimal, Vec}
use Rattle.std.specs.declared.alloc.Global.{Global}
use Rattle.std.specs.declared.io.Error.{Error as IoError}
use Rattle.bw_operators.specs.AllowFiles.{ReadsAllowed}
use Rattle.bw_operators.specs.AllowLists.{AllowRules}
use Rattle.bw_operators.specs.declared.allow_file.AllowFault.TheVariants as faults
use Rattle.bw_ports.specs.declared.starts.StartRefusal.{StartRefusal}
use Rattle.bw_ports.specs.declared.starts.StartRefusal.TheVariants as refusals

-- the line that names a bad line of a file of rules
abbrev pub bad_rule_line : List ℕ → ℕ → List ℕ
bad_rule_line path number = path ++ codes ":" ++ decimal number
    ++ codes ": a name, or the start of names and *, and then networks, such as: ixm-* 10.0.0.0/8\n"

-- a server isn't started for this line of this file, or since memory was refused for saying so
abbrev pub RefusesRule : List ℕ → ℕ → StartRefusal → Type 0
RefusesRule path number (refusals.Unfit lines) = lines.items ≡ bad_rule_line path number
RefusesRule path number refusals.Memory = Unit {0}
RefusesRule path number _ = ⊥

-- What was read of the file is its text, which says who may come or has a first bad line that is
-- named; or memory was refused. If the file can't be read, that error is the refusal.
abbrev pub ListsRead : List ℕ → Result (Vec ℕ Global) IoError → Result AllowRules StartRefusal
    → Type 0
ListsRead path (Ok text) (Ok rules) = ReadsAllowed text.items (Ok rules)
ListsRead path (Ok text) (Err (refusals.Unfit lines)) = (number : ℕ)
    × ReadsAllowed text.items (Err (faults.Line number)) × (lines.items ≡ bad_rule_line path number)
ListsRead path (Ok text) (Err refusals.Memory) = Unit {0}
ListsRead path (Ok text) (Err _) = ⊥
ListsRead path (Err error) result = result ≡ Err (refusals.Unusable error)

-- Without a file all names may come from everywhere. Else it was read, and says who may come.
abbrev pub ListsAllowed : (List ℕ → Result (Vec ℕ Global) IoError → Type 0) → Option (List ℕ) →
    Result AllowRules StartRefusal → Type 0
ListsAllowed reads None result = result ≡ Ok None
ListsAllowed reads (Some path) result = (read : Result (Vec ℕ Global) IoError)
    × reads path read × ListsRead path read result

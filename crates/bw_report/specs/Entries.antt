-- What is printed for a file.
use Rattle.std.specs.Prelude.{ℕ, Bool, true, false, List, [], ◌++◌, codes, Option, Some, None}
use Rattle.hex.specs.Hex.{encode_lower}
use Rattle.serde_json.specs.Data.{Data}
use Rattle.serde_json.specs.Written.{compact_text}
use Rattle.bw_model.specs.Report.{report_text}
use Rattle.bw_inspect.specs.Faults.{inspect_fault_text, name_of}
use Rattle.bw_inspect.specs.Reports.{reported_by}
use Rattle.bw_inspect.specs.declared.fault.InspectFault.{InspectFault}
use Rattle.bw_console.specs.Text.{as_line}
use Rattle.bw_report.specs.ContentTexts.{contents_lines}
use Rattle.bw_report.specs.HumanTexts.{human_text}
use Rattle.bw_report.specs.Objects.{fault_data, report_data}
use Rattle.bw_report.specs.ShownTexts.{name_line}
use Rattle.bw_report.specs.declared.entry.Style.{Style}
use Rattle.bw_report.specs.declared.entry.Style.TheVariants.{Plain, Human, Json}
use Rattle.bw_report.specs.declared.found.Found.{Found}
use Rattle.bw_report.specs.declared.found.Found.TheVariants.{Read, Faulty, Unopened}

-- what is found under a name, as JSON
abbrev pub found_data : List ℕ → Found → Data
found_data name (Read r digest contents) = report_data name digest contents (reported_by r)
found_data name (Faulty f) = fault_data name (name_of f.kind) (Some f.offset)
found_data name (Unopened exit) = fault_data name (codes "Open") None

-- the line in place of a report where the file has a fault
abbrev pub fault_entry : InspectFault → List ℕ
fault_entry f = as_line (codes "fault " ++ inspect_fault_text f)

-- the line of a digest, if there is one
abbrev pub digest_text : Option (List ℕ) → List ℕ
digest_text None = []
digest_text (Some digest) = as_line (codes "sha256=" ++ encode_lower digest)

-- what is found, in lines
abbrev pub plain_text : Found → List ℕ
plain_text (Read r digest contents) = report_text (reported_by r) ++ digest_text digest
plain_text (Faulty f) = fault_entry f
plain_text (Unopened exit) = as_line (codes "fault Open")

-- the same for people
abbrev pub human_entry : Found → List ℕ
human_entry (Read r digest contents) =
    human_text (reported_by r) ++ digest_text digest ++ contents_lines contents
human_entry (Faulty f) = fault_entry f
human_entry (Unopened exit) = as_line (codes "fault Open")

-- the line of a name, or nothing
abbrev pub heading : Bool → List ℕ → List ℕ
heading true name = name_line name
heading false name = []

-- what is printed for what is found under a name, below a line with the name or not
abbrev pub entry_text : Style → Bool → List ℕ → Found → List ℕ
entry_text Plain named name found = heading named name ++ plain_text found
entry_text Human named name found = heading named name ++ human_entry found
entry_text Json named name found = as_line (compact_text (found_data name found))

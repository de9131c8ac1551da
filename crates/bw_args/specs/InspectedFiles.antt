-- The files to inspect, as the options of a command line give them.
use Rattle.std.specs.Prelude.{◌≡◌, Bool, true, false, not, ◌&&◌, ◌||◌, ◌==◌, List, [], ◌∷◌}
use Rattle.std.specs.Prelude.{length, Some, codes, map, string_bytes}
use Rattle.std.specs.List.{list_any}
use Rattle.std.specs.Str.{bytes_eq}
use Rattle.clap.specs.Walk.{Row, Text, all_of}
use Rattle.bw_args.specs.Given.{given_on_line, is_set}
use Rattle.bw_args.specs.declared.inspection.Inspection.{Inspection}

-- the files to inspect, and how they are reported
pub record PlainInspection : Type 0 where
  pub files : List Text
  pub json : Bool
  pub human : Bool
  pub digest : Bool

-- the same in plain bytes
abbrev pub inspection_in_plain : Inspection → PlainInspection
inspection_in_plain i = record {
  files = map string_bytes i.files.items;
  json = i.json;
  human = i.human;
  digest = i.digest;
}

-- one file, without an option
abbrev pub one_file : Text → PlainInspection
one_file path = record { files = path ∷ []; json = false; human = false; digest = false }

-- standard input
abbrev pub is_input : Text → Bool
is_input path = bytes_eq path (codes "-")

-- files can be inspected so: in JSON or for people, and standard input alone and without a digest
abbrev pub is_possible : List Text → Bool → Bool → Bool → Bool
is_possible files json human digest =
    not (json && human) && (((length files == 1) && not digest) || not (list_any is_input files))

-- whether there is an option
abbrev pub has_option : PlainInspection → Bool
has_option i = i.json || (i.human || i.digest)

-- one file is reported as it always is
abbrev pub is_alone : List Text → Bool → Bool
is_alone [] optioned = false
is_alone (path ∷ []) true = false
is_alone (path ∷ []) false = true
is_alone (path ∷ other ∷ more) optioned = false

-- the options give these files, and this way
pub record GivesInspection (options : List Row) (inspection : PlainInspection) : Type 0 where
  pub from : all_of (codes "file") options ≡ Some inspection.files
  pub prints : inspection.json ≡ is_set (given_on_line options (codes "json"))
  pub explains : inspection.human ≡ is_set (given_on_line options (codes "human"))
  pub digests : inspection.digest ≡ is_set (given_on_line options (codes "digest"))
  pub possible :
      is_possible inspection.files inspection.json inspection.human inspection.digest ≡ true

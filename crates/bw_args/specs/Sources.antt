-- The file of a recording, as the options of a command line give it.
use Rattle.std.specs.Prelude.{◌≡◌, ◌||◌, Bool, false, List, [], Option, Some, None, codes, is_some, unwrap_or}
use Rattle.std.specs.Prelude.{map, option_map, string_bytes, if◌then◌else◌}
use Rattle.clap.specs.Walk.{Row, Text, all_of}
use Rattle.bw_args.specs.Given.{given_on_line, is_set}
use Rattle.bw_args.specs.LeftOutOptions.{is_left_out_mixed}
use Rattle.bw_args.specs.declared.recordings.SourceFile.{SourceFile}

-- the file of a recording, and what is said about it
pub record PlainSource : Type 0 where
  pub path : Text
  pub settings : List Text
  pub strict : Bool
  pub strict_texts : Bool
  pub left_out : Option Text

-- the same in plain bytes
abbrev pub in_plain : SourceFile → PlainSource
in_plain s = record {
  path = string_bytes s.path;
  settings = map string_bytes s.settings.items;
  strict = s.strict;
  strict_texts = s.strict_texts;
  left_out = option_map string_bytes s.left_out;
}

-- what is set, in order
abbrev pub settings_on_line : List Row → List Text
settings_on_line options = unwrap_or (all_of (codes "set") options) []

-- the first of two paths, where it is given
abbrev pub path_of : Option Text → Option Text → Option Text
path_of None spool = spool
path_of (Some path) spool = Some path

-- the path of what is sent: a recording's file, or the spool of standard input
abbrev pub path_given : (Text → Option Text) → Option Text
path_given given = path_of (given (codes "file")) (given (codes "spool"))

-- the options say this about the file at a path, where one is given
pub record GivesSource (path : Option Text) (options : List Row) (source : PlainSource) : Type 0 where
  pub from : path ≡ Some source.path
  pub sets : source.settings ≡ settings_on_line options
  pub refuses : source.strict ≡ is_set (given_on_line options (codes "strict"))
  pub refuses_texts : source.strict_texts ≡ is_set (given_on_line options (codes "strict-texts"))
  pub keeps : source.left_out ≡ given_on_line options (codes "keep-left-out")
  pub kept : is_left_out_mixed (given_on_line options) ≡ false

-- a FILE is given as a word of its own
abbrev pub has_files : (Text → Option Text) → Bool
has_files given = is_some (given (codes "files"))

-- options that aren't for one source: a number of rounds beside the file of a recording or a spool, or
-- what is said about a recording without its file
abbrev pub is_source_mixed : (Text → Option Text) → Bool
is_source_mixed given = if is_some (path_given given) then is_some (given (codes "rounds"))
    else is_some (given (codes "set"))
    || (is_some (given (codes "fruitless")) || (is_some (given (codes "state"))
    || (is_some (given (codes "rate")) || (is_some (given (codes "receipt"))
    || (is_some (given (codes "keep-left-out")) || (is_set (given (codes "json"))
    || (is_set (given (codes "strict"))
    || (is_set (given (codes "strict-texts")) || is_set (given (codes "log"))))))))))

-- options that aren't for one sender of at most one recording: a FILE, the file of names, and those that
-- aren't for one source
abbrev pub is_mixed : (Text → Option Text) → Bool
is_mixed given = has_files given || (is_some (given (codes "names")) || is_source_mixed given)

-- Headerless samples, as the options of a command line describe them.
use Rattle.std.specs.Prelude.{◌≡◌, ◌||◌, ◌==◌, not, ℕ, Bool, true, false, Option, Some, None, Result, Ok}
use Rattle.std.specs.Prelude.{Err}
use Rattle.std.specs.Prelude.{codes, is_some, if◌then◌else◌, length, nat_lt, option_map}
use Rattle.std.specs.Prelude.{string_bytes, unwrap_or}
use Rattle.std.specs.List.{after_first, before_first, position_or_len}
use Rattle.clap.specs.Walk.{Text}
use Rattle.bw_args.specs.Given.{GivesCount, is_set}
use Rattle.bw_args.specs.Sources.{path_given}
use Rattle.bw_args.specs.Numbers.{IsNumber, default_fruitless, most_block, number_written}
use Rattle.bw_args.specs.declared.commands.samples.Samples.{Samples}
use Rattle.bw_args.specs.declared.commands.samples.WrittenFormat.{WrittenFormat}
use Rattle.bw_args.specs.declared.recordings.PcmSource.{PcmSource}

-- the samples' format, their place in a file, the most frames of a block, the path that exists once
-- the recording has ended, the file that lines for markers are appended to, whether it is read from
-- standard input into the file, and whether fields that aren't set may be filled; or the file's header
-- says the first two
pub record PlainPcm : Type 0 where
  pub rate : ℕ
  pub channels : ℕ
  pub bits : ℕ
  pub skip : ℕ
  pub block : Option ℕ
  pub until : Option Text
  pub marks : Option Text
  pub is_spooled : Bool
  pub defaults : Bool
  pub in_header : Bool

-- the same in plain bytes
abbrev pub plain_pcm : PcmSource → PlainPcm
plain_pcm s = record {
  rate = s.rate;
  channels = s.channels;
  bits = s.bits;
  skip = s.skip;
  block = s.block;
  until = option_map string_bytes s.until;
  marks = option_map string_bytes s.marks;
  is_spooled = s.is_spooled;
  defaults = s.defaults;
  in_header = s.in_header;
}

abbrev pub plain_samples : Samples → PlainPcm
plain_samples s = record {
  rate = s.rate;
  channels = s.channels;
  bits = s.bits;
  skip = s.skip;
  block = s.block;
  until = option_map (λ path. path.now) s.until;
  marks = option_map (λ path. path.now) s.marks;
  is_spooled = s.is_spooled;
  defaults = s.defaults;
  in_header = s.in_header;
}

-- is it a comma
abbrev pub is_comma : ℕ → Bool
is_comma c = c == 44

-- what comes before the first comma, and after it
abbrev pub at_comma : Text → Option (Text × Text)
at_comma text = if nat_lt (position_or_len is_comma text) (length text)
    then Some (before_first is_comma text, after_first is_comma text) else None

-- these three texts, with a comma after the first, and another after the second
pub record AreParts (text first second third : Text) : Type 0 where
  pub rest : Text
  pub one : at_comma text ≡ Some (first, rest)
  pub two : at_comma rest ≡ Some (second, third)

-- the text is RATE,CHANNELS,BITS
pub record IsFormatText (text : Text) (format : WrittenFormat) : Type 0 where
  pub rate : Text
  pub channels : Text
  pub bits : Text
  pub parts : AreParts text rate channels bits
  pub rate_is : IsNumber rate × (format.rate ≡ number_written rate)
  pub channels_are : IsNumber channels × (format.channels ≡ number_written channels)
  pub bits_are : IsNumber bits × (format.bits ≡ number_written bits)

-- the format that an option gives, or none
abbrev pub GivesFormat : Option Text → Option WrittenFormat → Type 0
GivesFormat None format = format ≡ None
GivesFormat (Some text) None = ⊥
GivesFormat (Some text) (Some format) = IsFormatText text format

-- exactly that format; a fault if the option gives what is none
abbrev pub IsFormatGiven : {E : Type 0} → Option Text → Result (Option WrittenFormat) E → Type 0
IsFormatGiven text (Ok format) = GivesFormat text format
IsFormatGiven text (Err fault) = (format : Option WrittenFormat) → ¬ GivesFormat text format

-- the number that an option gives, or none
abbrev pub GivesNumber : Option Text → Option ℕ → Type 0
GivesNumber None number = number ≡ None
GivesNumber (Some text) number = IsNumber text × (number ≡ Some (number_written text))

-- exactly that number; a fault if the option gives what is none
abbrev pub IsNumberGiven : {E : Type 0} → Option Text → Result (Option ℕ) E → Type 0
IsNumberGiven text (Ok number) = GivesNumber text number
IsNumberGiven text (Err fault) = (number : Option ℕ) → ¬ GivesNumber text number

-- options that don't say in one way when a recording has ended: beside `--spool` another file or one
-- of `--follow` and `--until`, and without it one of these two without the other; and marks of one that
-- has ended
abbrev pub is_unpaired : (Text → Option Text) → Bool
is_unpaired given = if is_some (given (codes "spool"))
    then is_some (given (codes "file"))
    || (is_set (given (codes "follow")) || is_some (given (codes "until")))
    else if is_set (given (codes "follow")) then not (is_some (given (codes "until")))
    else is_some (given (codes "until")) || is_some (given (codes "marks"))

-- options that aren't for a recording whose file is still written: `--follow` without a file, with a
-- state, or with a refusal of what is lost, which isn't known yet; and `--until` without it
abbrev pub is_growing_mixed : (Text → Option Text) → Bool
is_growing_mixed given = if is_set (given (codes "follow"))
    then not (is_some (path_given given)) || (is_some (given (codes "state"))
    || (is_set (given (codes "strict")) || is_set (given (codes "strict-texts"))))
    else is_some (given (codes "until"))

-- options that aren't for one sender: a format without a file or a spool, or with a state, or with an
-- end that isn't said in one way; and what is said about samples without their format
abbrev pub are_samples_mixed : (Text → Option Text) → Bool
are_samples_mixed given =
    if is_some (given (codes "pcm"))
    then not (is_some (path_given given))
    || (is_some (given (codes "state")) || is_unpaired given)
    else is_some (given (codes "skip")) || (is_some (given (codes "block"))
    || (is_some (given (codes "spool")) || (is_set (given (codes "no-defaults"))
    || (is_some (given (codes "marks")) || is_growing_mixed given))))

-- samples of a format, with what else is given
abbrev pub samples_with : Option ℕ → Option ℕ → Option Text → Option Text → Bool → Bool →
    WrittenFormat → PlainPcm
samples_with skip block until marks is_spooled defaults format = record {
  rate = format.rate;
  channels = format.channels;
  bits = format.bits;
  skip = unwrap_or skip 0;
  block = block;
  until = until;
  marks = marks;
  is_spooled = is_spooled;
  defaults = defaults;
  in_header = false;
}

-- samples whose format is in the file's header
abbrev pub header_samples : Option Text → PlainPcm
header_samples until = record {
  rate = 0;
  channels = 0;
  bits = 0;
  skip = 0;
  block = None;
  until = until;
  marks = None;
  is_spooled = false;
  defaults = false;
  in_header = true;
}

-- samples of a format; or without one those of a header, where the file is followed
abbrev pub described_samples : (WrittenFormat → PlainPcm) → Bool → Option Text →
    Option WrittenFormat → Option PlainPcm
described_samples samples follows until (Some format) = Some (samples format)
described_samples samples true until None = Some (header_samples until)
described_samples samples false until None = None

-- the samples that the options give, or none
pub record GivesSamples (given : Text → Option Text) (samples : Option PlainPcm) : Type 0 where
  pub format : Option WrittenFormat
  pub skip : Option ℕ
  pub block : Option ℕ
  pub formatted : GivesFormat (given (codes "pcm")) format
  pub begins : GivesNumber (given (codes "skip")) skip
  pub blocks : GivesCount most_block (given (codes "block")) block
  pub unmixed : are_samples_mixed given ≡ false
  pub are : samples ≡ described_samples
      (samples_with skip block (given (codes "until")) (given (codes "marks"))
      (is_some (given (codes "spool"))) (not (is_set (given (codes "no-defaults")))))
      (is_set (given (codes "follow"))) (given (codes "until")) format

-- the recording is still being made
abbrev pub is_live : PlainPcm → Bool
is_live pcm = is_some pcm.until || (pcm.is_spooled || pcm.in_header)

-- after how many links in a row that settle nothing a sender of samples gives up: as many as are
-- given, else the default, and never while a recording is being made
abbrev pub fruitless_of : Bool → Option ℕ → Option ℕ
fruitless_of false count = Some (unwrap_or count default_fruitless)
fruitless_of true count = count

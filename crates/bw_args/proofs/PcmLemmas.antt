-- The forms of `send` with headerless samples, at values that are not known.
use Rattle.std.proofs.Common.{◌≡◌, ℕ, List, [], ◌∷◌, ◌++◌, true, false, Option, Some, None, codes, refl}
use Rattle.clap.specs.Words.{Row, Text}
use Rattle.clap.proofs.OnLiterals.{clap_on_literals}
use Rattle.bw_args.specs.Numbers.{IsCountText, IsNumber, default_timeout, most_block, most_fruitless, most_seconds}
use Rattle.bw_args.specs.Numbers.{most_rate, number_written}
use Rattle.bw_args.specs.Sources.{GivesSource, is_mixed, path_given}
use Rattle.bw_args.specs.ReceiptOptions.{is_receipt_mixed}
use Rattle.bw_args.specs.PcmSources.{GivesFormat, GivesSamples, IsFormatText, fruitless_of, is_live}
use Rattle.bw_args.specs.Lines.{GivesAddress, GivesCount, GivesCountOr, GivesName, GivesPcmUpload, IsLineOf, PcmUpload}
use Rattle.bw_args.specs.Lines.{SendingPcm, given_on_line, is_set}
use Rattle.bw_args.specs.FileForms.{with_file}
use Rattle.bw_args.specs.PcmForms.{RefusesSamples, RunsPcmSender, plain_pcm_upload, with_pcm, with_spool}
use Rattle.bw_args.specs.declared.CommandLine.{CommandLine}
use Rattle.bw_args.specs.declared.bad_value.BadValue.TheVariants.{LeftOut, Pcm, Receipt, Skip, Block, MixedSamples}
use Rattle.bw_args.specs.declared.commands.samples.WrittenFormat.{WrittenFormat}
use Rattle.bw_args.proofs.FormLemmas.{asked_runs, asks}
use Rattle.bw_args.proofs.SenderLemmas.{AsksSender, samples_by}
use Rattle.bw_args.proofs.Asked.{bad, ◌and_then◌}
use Rattle.bw_args.proofs.ValueLemmas.{LacksSender, not_mixed, nothing, reported}

-- what of a sender of samples is given says it
pub pcm_by : {options : List Row} {sender : PcmUpload} (count : Option ℕ)
    → GivesCount most_fruitless (given_on_line options (codes "fruitless")) count
    → sender.fruitless ≡ fruitless_of (is_live sender.pcm) count → GivesSamples (given_on_line options) (Some sender.pcm)
    → GivesAddress (is_set (given_on_line options (codes "network"))) (given_on_line options (codes "connect"))
    sender.connect
    → GivesName (given_on_line options (codes "name")) sender.name
    → GivesSource (path_given (given_on_line options)) options sender.source
    → GivesCountOr default_timeout most_seconds (given_on_line options (codes "timeout")) sender.timeout
    → sender.log ≡ is_set (given_on_line options (codes "log"))
    → GivesCount most_rate (given_on_line options (codes "rate")) sender.rate
    → is_mixed (given_on_line options) ≡ false → is_receipt_mixed (given_on_line options) ≡ false
    → GivesPcmUpload options sender
pcm_by count counts ends samples connects named takes waits reports paced unmixed unreceipted = record {
  connects = connects;
  named = named;
  takes = takes;
  samples = samples;
  waits = waits;
  count = count;
  counts = counts;
  ends = ends;
  reports = reports;
  paced = paced;
  unmixed = unmixed;
  unreceipted = unreceipted;
}

alone_sends : (path text : Text) (format : WrittenFormat) → IsFormatText text format
    → AsksSender false (with_pcm path text [])
    (λ a n. SendingPcm (plain_pcm_upload a n path format))
unfolding clap_on_literals
alone_sends path text format given program connect name address at named =
    asks refl (
      refl,
      pcm_by None refl refl (samples_by (Some format) None None given refl refl refl refl) at (named, refl)
          (record { from = refl; sets = refl; refuses = refl; refuses_texts = refl; keeps = refl; kept = refl })
          (None, refl, refl) refl refl refl refl,
    )

skip_sends : (path text bytes : Text) (format : WrittenFormat) → IsFormatText text format → IsNumber bytes
    → AsksSender false (with_pcm path text ((codes "--skip=" ++ bytes) ∷ []))
    (λ a n. SendingPcm (record (plain_pcm_upload a n path format)
    { pcm = record (plain_pcm_upload a n path format).pcm { skip = number_written bytes } }))
unfolding clap_on_literals
skip_sends path text bytes format given number program connect name address at named =
    asks refl (
      refl,
      pcm_by None refl refl (samples_by (Some format) (Some (number_written bytes)) None given (number, refl) refl
          refl refl) at (named, refl)
          (record { from = refl; sets = refl; refuses = refl; refuses_texts = refl; keeps = refl; kept = refl })
          (None, refl, refl) refl refl refl refl,
    )

block_sends : (path text frames : Text) (format : WrittenFormat) → IsFormatText text format
    → IsCountText most_block frames
    → AsksSender false (with_pcm path text ((codes "--block=" ++ frames) ∷ []))
    (λ a n. SendingPcm (record (plain_pcm_upload a n path format)
    { pcm = record (plain_pcm_upload a n path format).pcm { block = Some (number_written frames) } }))
unfolding clap_on_literals
block_sends path text frames format given number program connect name address at named =
    asks refl (
      refl,
      pcm_by None refl refl (samples_by (Some format) None (Some (number_written frames)) given refl (number, refl)
          refl refl) at (named, refl)
          (record { from = refl; sets = refl; refuses = refl; refuses_texts = refl; keeps = refl; kept = refl })
          (None, refl, refl) refl refl refl refl,
    )

follow_sends : (path text end : Text) (format : WrittenFormat) → IsFormatText text format
    → AsksSender false (with_pcm path text (codes "--follow" ∷ (codes "--until=" ++ end) ∷ []))
    (λ a n. SendingPcm (record (plain_pcm_upload a n path format)
    { pcm = record (plain_pcm_upload a n path format).pcm { until = Some end }; fruitless = None }))
unfolding clap_on_literals
follow_sends path text end format given program connect name address at named =
    asks refl (
      refl,
      pcm_by None refl refl (samples_by (Some format) None None given refl refl refl refl) at (named, refl)
          (record { from = refl; sets = refl; refuses = refl; refuses_texts = refl; keeps = refl; kept = refl })
          (None, refl, refl) refl refl refl refl,
    )

fruitless_sends : (path text end count : Text) (format : WrittenFormat) → IsFormatText text format
    → IsCountText most_fruitless count
    → AsksSender false (with_pcm path text (codes "--follow" ∷ (codes "--until=" ++ end) ∷
    (codes "--fruitless=" ++ count) ∷ []))
    (λ a n. SendingPcm (record (plain_pcm_upload a n path format) {
      pcm = record (plain_pcm_upload a n path format).pcm { until = Some end };
      fruitless = Some
          (number_written count);
    }))
unfolding clap_on_literals
fruitless_sends path text end count format given number program connect name address at named =
    asks refl (
      refl,
      pcm_by (Some (number_written count)) (number, refl) refl
          (samples_by (Some format) None None given refl refl refl refl) at (named, refl)
          (record { from = refl; sets = refl; refuses = refl; refuses_texts = refl; keeps = refl; kept = refl })
          (None, refl, refl) refl refl refl refl,
    )

spool_sends : (path text : Text) (format : WrittenFormat) → IsFormatText text format
    → AsksSender false (with_spool path text [])
    (λ a n. SendingPcm (record (plain_pcm_upload a n path format)
    { pcm = record (plain_pcm_upload a n path format).pcm { is_spooled = true }; fruitless = None }))
unfolding clap_on_literals
spool_sends path text format given program connect name address at named =
    asks refl (
      refl,
      pcm_by None refl refl (samples_by (Some format) None None given refl refl refl refl) at (named, refl)
          (record { from = refl; sets = refl; refuses = refl; refuses_texts = refl; keeps = refl; kept = refl })
          (None, refl, refl) refl refl refl refl,
    )

marks_sends : (path text marks : Text) (format : WrittenFormat) → IsFormatText text format
    → AsksSender false (with_spool path text ((codes "--marks=" ++ marks) ∷ []))
    (λ a n. SendingPcm (record (plain_pcm_upload a n path format) {
      pcm = record (plain_pcm_upload a n path format).pcm { is_spooled = true; marks = Some marks };
      fruitless = None;
    }))
unfolding clap_on_literals
marks_sends path text marks format given program connect name address at named =
    asks refl (
      refl,
      pcm_by None refl refl (samples_by (Some format) None None given refl refl refl refl) at (named, refl)
          (record { from = refl; sets = refl; refuses = refl; refuses_texts = refl; keeps = refl; kept = refl })
          (None, refl, refl) refl refl refl refl,
    )

rate_sends : (path text bytes : Text) (format : WrittenFormat) → IsFormatText text format
    → IsCountText most_rate bytes → AsksSender false (with_pcm path text ((codes "--rate=" ++ bytes) ∷ []))
    (λ a n. SendingPcm (record (plain_pcm_upload a n path format) { rate = Some (number_written bytes) }))
unfolding clap_on_literals
rate_sends path text bytes format given number program connect name address at named =
    asks refl (
      refl,
      pcm_by None refl refl (samples_by (Some format) None None given refl refl refl refl) at (named, refl)
          (record { from = refl; sets = refl; refuses = refl; refuses_texts = refl; keeps = refl; kept = refl })
          (None, refl, refl) refl (number, refl) refl refl,
    )

no_defaults_sends : (path text : Text) (format : WrittenFormat) → IsFormatText text format
    → AsksSender false (with_pcm path text (codes "--no-defaults" ∷ []))
    (λ a n. SendingPcm (record (plain_pcm_upload a n path format)
    { pcm = record (plain_pcm_upload a n path format).pcm { defaults = false } }))
unfolding clap_on_literals
no_defaults_sends path text format given program connect name address at named =
    asks refl (
      refl,
      pcm_by None refl refl (samples_by (Some format) None None given refl refl refl refl) at (named, refl)
          (record { from = refl; sets = refl; refuses = refl; refuses_texts = refl; keeps = refl; kept = refl })
          (None, refl, refl) refl refl refl refl,
    )

pub runs_pcm_sender : (words : List Text) (line : CommandLine) → IsLineOf words line → RunsPcmSender words line
runs_pcm_sender words line is = record {
  alone = λ f t m given p c n a at named e. asked_runs words _ line _ is e (alone_sends f t m given p c n a at named);
  skip = λ f t b m given number p c n a at named e. asked_runs words _ line _ is e
      (skip_sends f t b m given number p c n a at named);
  block = λ f t b m given number p c n a at named e. asked_runs words _ line _ is e
      (block_sends f t b m given number p c n a at named);
  follow = λ f t u m given p c n a at named e. asked_runs words _ line _ is e
      (follow_sends f t u m given p c n a at named);
  fruitless = λ f t u k m given number p c n a at named e. asked_runs words _ line _ is e
      (fruitless_sends f t u k m given number p c n a at named);
  spool = λ f t m given p c n a at named e. asked_runs words _ line _ is e
      (spool_sends f t m given p c n a at named);
  no_defaults = λ f t m given p c n a at named e. asked_runs words _ line _ is e
      (no_defaults_sends f t m given p c n a at named);
  marks = λ f t k m given p c n a at named e. asked_runs words _ line _ is e
      (marks_sends f t k m given p c n a at named);
  rate = λ f t b m given number p c n a at named e. asked_runs words _ line _ is e
      (rate_sends f t b m given number p c n a at named);
}

-- a text that is no format gives none
no_format : (text : Text) (format : Option WrittenFormat) → ((format : WrittenFormat) → ¬ IsFormatText text format)
    → ¬ GivesFormat (Some text) format
no_format text (Some format) none gives = none format gives
no_format text None none gives = gives

bad_format : (path text : Text) → ((format : WrittenFormat) → ¬ IsFormatText text format)
    → LacksSender (with_pcm path text []) Pcm
unfolding clap_on_literals
bad_format path text none program connect name address at named = (
  refl,
  (address, at) and_then (name, (named, refl)) and_then nothing and_then nothing and_then nothing
      and_then nothing and_then refl and_then refl and_then refl
      and_then bad (λ good. no_format text good.0 none good.1),
)

bad_skip : (path text bytes : Text) (format : WrittenFormat) → IsFormatText text format → ¬ IsNumber bytes
    → LacksSender (with_pcm path text ((codes "--skip=" ++ bytes) ∷ [])) Skip
unfolding clap_on_literals
bad_skip path text bytes format given none program connect name address at named = (
  refl,
  (address, at) and_then (name, (named, refl)) and_then nothing and_then nothing and_then nothing
      and_then nothing and_then refl and_then refl and_then refl
      and_then (Some format, given) and_then bad (λ good. none good.1.0),
)

bad_block : (path text frames : Text) (format : WrittenFormat) → IsFormatText text format
    → ¬ IsCountText most_block frames
    → LacksSender (with_pcm path text ((codes "--block=" ++ frames) ∷ [])) Block
unfolding clap_on_literals
bad_block path text frames format given none program connect name address at named = (
  refl,
  (address, at) and_then (name, (named, refl)) and_then nothing and_then nothing and_then nothing
      and_then nothing and_then refl and_then refl and_then refl
      and_then (Some format, given) and_then nothing and_then bad (λ good. none good.1.0),
)

mixed_fileless : (text : Text) (format : WrittenFormat) → IsFormatText text format
    → LacksSender ((codes "--pcm=" ++ text) ∷ []) MixedSamples
unfolding clap_on_literals
mixed_fileless text format given program connect name address at named = (
  refl,
  (address, at) and_then (name, (named, refl)) and_then nothing and_then nothing and_then nothing
      and_then nothing and_then refl and_then refl and_then refl
      and_then (Some format, given) and_then nothing and_then nothing and_then bad not_mixed,
)

mixed_follow : (path text : Text) (format : WrittenFormat) → IsFormatText text format
    → LacksSender (with_pcm path text (codes "--follow" ∷ [])) MixedSamples
unfolding clap_on_literals
mixed_follow path text format given program connect name address at named = (
  refl,
  (address, at) and_then (name, (named, refl)) and_then nothing and_then nothing and_then nothing
      and_then nothing and_then refl and_then refl and_then refl
      and_then (Some format, given) and_then nothing and_then nothing and_then bad not_mixed,
)

mixed_until : (path text end : Text) (format : WrittenFormat) → IsFormatText text format
    → LacksSender (with_pcm path text ((codes "--until=" ++ end) ∷ [])) MixedSamples
unfolding clap_on_literals
mixed_until path text end format given program connect name address at named = (
  refl,
  (address, at) and_then (name, (named, refl)) and_then nothing and_then nothing and_then nothing
      and_then nothing and_then refl and_then refl and_then refl
      and_then (Some format, given) and_then nothing and_then nothing and_then bad not_mixed,
)

mixed_marks : (path text marks : Text) (format : WrittenFormat) → IsFormatText text format
    → LacksSender (with_pcm path text ((codes "--marks=" ++ marks) ∷ [])) MixedSamples
unfolding clap_on_literals
mixed_marks path text marks format given program connect name address at named = (
  refl,
  (address, at) and_then (name, (named, refl)) and_then nothing and_then nothing and_then nothing
      and_then nothing and_then refl and_then refl and_then refl
      and_then (Some format, given) and_then nothing and_then nothing and_then bad not_mixed,
)

mixed_state : (path text state : Text) (format : WrittenFormat) → IsFormatText text format
    → LacksSender (with_pcm path text ((codes "--state=" ++ state) ∷ [])) MixedSamples
unfolding clap_on_literals
mixed_state path text state format given program connect name address at named = (
  refl,
  (address, at) and_then (name, (named, refl)) and_then nothing and_then nothing and_then nothing
      and_then nothing and_then refl and_then refl and_then refl
      and_then (Some format, given) and_then nothing and_then nothing and_then bad not_mixed,
)

samples_receipt : (path text receipts : Text) (format : WrittenFormat) → IsFormatText text format
    → LacksSender (with_pcm path text ((codes "--receipt=" ++ receipts) ∷ [])) Receipt
unfolding clap_on_literals
samples_receipt path text receipts format given program connect name address at named = (
  refl,
  (address, at) and_then (name, (named, refl)) and_then nothing and_then nothing and_then nothing
      and_then nothing and_then refl and_then bad not_mixed,
)

spool_receipt : (path text receipts : Text) (format : WrittenFormat) → IsFormatText text format
    → LacksSender (with_spool path text ((codes "--receipt=" ++ receipts) ∷ [])) Receipt
unfolding clap_on_literals
spool_receipt path text receipts format given program connect name address at named = (
  refl,
  (address, at) and_then (name, (named, refl)) and_then nothing and_then nothing and_then nothing
      and_then nothing and_then refl and_then bad not_mixed,
)

samples_left_out : (path text left : Text) (format : WrittenFormat) → IsFormatText text format
    → LacksSender (with_pcm path text ((codes "--keep-left-out=" ++ left) ∷ [])) LeftOut
unfolding clap_on_literals
samples_left_out path text left format given program connect name address at named = (
  refl,
  (address, at) and_then (name, (named, refl)) and_then nothing and_then nothing and_then nothing
      and_then nothing and_then refl and_then refl and_then bad not_mixed,
)

spool_left_out : (path text left : Text) (format : WrittenFormat) → IsFormatText text format
    → LacksSender (with_spool path text ((codes "--keep-left-out=" ++ left) ∷ [])) LeftOut
unfolding clap_on_literals
spool_left_out path text left format given program connect name address at named = (
  refl,
  (address, at) and_then (name, (named, refl)) and_then nothing and_then nothing and_then nothing
      and_then nothing and_then refl and_then refl and_then bad not_mixed,
)

mixed_files : (path text spool : Text) (format : WrittenFormat) → IsFormatText text format
    → LacksSender (with_pcm path text ((codes "--spool=" ++ spool) ∷ [])) MixedSamples
unfolding clap_on_literals
mixed_files path text spool format given program connect name address at named = (
  refl,
  (address, at) and_then (name, (named, refl)) and_then nothing and_then nothing and_then nothing
      and_then nothing and_then refl and_then refl and_then refl
      and_then (Some format, given) and_then nothing and_then nothing and_then bad not_mixed,
)

mixed_ends : (path text end : Text) (format : WrittenFormat) → IsFormatText text format
    → LacksSender (with_spool path text (codes "--follow" ∷ (codes "--until=" ++ end) ∷ [])) MixedSamples
unfolding clap_on_literals
mixed_ends path text end format given program connect name address at named = (
  refl,
  (address, at) and_then (name, (named, refl)) and_then nothing and_then nothing and_then nothing
      and_then nothing and_then refl and_then refl and_then refl
      and_then (Some format, given) and_then nothing and_then nothing and_then bad not_mixed,
)

mixed_spool : (path : Text) → LacksSender ((codes "--spool=" ++ path) ∷ []) MixedSamples
unfolding clap_on_literals
mixed_spool path program connect name address at named = (
  refl,
  (address, at) and_then (name, (named, refl)) and_then nothing and_then nothing and_then nothing
      and_then nothing and_then refl and_then refl and_then refl
      and_then nothing and_then nothing and_then nothing and_then bad not_mixed,
)

mixed_skip : (path bytes : Text) → IsNumber bytes
    → LacksSender (with_file path ((codes "--skip=" ++ bytes) ∷ [])) MixedSamples
unfolding clap_on_literals
mixed_skip path bytes number program connect name address at named = (
  refl,
  (address, at) and_then (name, (named, refl)) and_then nothing and_then nothing and_then nothing
      and_then nothing and_then refl and_then refl and_then refl
      and_then nothing and_then (Some (number_written bytes), (number, refl)) and_then nothing
      and_then bad not_mixed,
)

mixed_defaults : (path : Text)
    → LacksSender (with_file path (codes "--no-defaults" ∷ [])) MixedSamples
unfolding clap_on_literals
mixed_defaults path program connect name address at named = (
  refl,
  (address, at) and_then (name, (named, refl)) and_then nothing and_then nothing and_then nothing
      and_then nothing and_then refl and_then refl and_then refl
      and_then nothing and_then nothing and_then nothing and_then bad not_mixed,
)

pub refuses_samples : (words : List Text) (line : CommandLine) → IsLineOf words line → RefusesSamples words line
refuses_samples words line is = record {
  format = λ f t none p c n a at named e. reported words _ line Pcm is e (bad_format f t none p c n a at named);
  skip = λ f t b m given none p c n a at named e. reported words _ line Skip is e
      (bad_skip f t b m given none p c n a at named);
  block = λ f t b m given none p c n a at named e. reported words _ line Block is e
      (bad_block f t b m given none p c n a at named);
  fileless = λ t m given p c n a at named e. reported words _ line MixedSamples is e
      (mixed_fileless t m given p c n a at named);
  follow = λ f t m given p c n a at named e. reported words _ line MixedSamples is e
      (mixed_follow f t m given p c n a at named);
  until = λ f t u m given p c n a at named e. reported words _ line MixedSamples is e
      (mixed_until f t u m given p c n a at named);
  marks = λ f t u m given p c n a at named e. reported words _ line MixedSamples is e
      (mixed_marks f t u m given p c n a at named);
  state = λ f t s m given p c n a at named e. reported words _ line MixedSamples is e
      (mixed_state f t s m given p c n a at named);
  receipt = λ f t r m given p c n a at named e. reported words _ line Receipt is e
      (samples_receipt f t r m given p c n a at named);
  spool_receipt = λ f t r m given p c n a at named e. reported words _ line Receipt is e
      (spool_receipt f t r m given p c n a at named);
  left_out = λ f t l m given p c n a at named e. reported words _ line LeftOut is e
      (samples_left_out f t l m given p c n a at named);
  spool_left_out = λ f t l m given p c n a at named e. reported words _ line LeftOut is e
      (spool_left_out f t l m given p c n a at named);
  two_files = λ f t s m given p c n a at named e. reported words _ line MixedSamples is e
      (mixed_files f t s m given p c n a at named);
  two_ends = λ f t u m given p c n a at named e. reported words _ line MixedSamples is e
      (mixed_ends f t u m given p c n a at named);
  unformatted = λ f p c n a at named e. reported words _ line MixedSamples is e
      (mixed_spool f p c n a at named);
  no_defaults = λ f p c n a at named e. reported words _ line MixedSamples is e
      (mixed_defaults f p c n a at named);
  formatless = λ f b number p c n a at named e. reported words _ line MixedSamples is e
      (mixed_skip f b number p c n a at named);
}

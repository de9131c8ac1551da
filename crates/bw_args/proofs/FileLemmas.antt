-- The forms of `pack` and of `send` with a recording, at values that are not known.
use Rattle.std.proofs.Common.{List, [], ◌∷◌, ◌++◌, true, false, Some, None, codes, refl}
use Rattle.clap.specs.declared.error.ErrorKind.TheVariants.{MissingRequiredArgument}
use Rattle.clap.specs.Words.{Text}
use Rattle.clap.proofs.OnLiterals.{clap_on_literals}
use Rattle.bw_args.specs.Numbers.{IsCountText, most_fruitless, most_rounds, most_seconds}
use Rattle.bw_args.specs.Numbers.{most_rate, number_written}
use Rattle.bw_args.specs.ReceiptOptions.{target}
use Rattle.bw_args.specs.Lines.{IsLineOf}
use Rattle.bw_args.specs.Lines.{Uploading}
use Rattle.bw_args.specs.Forms.{IsPlain}
use Rattle.bw_args.specs.FileForms.{RefusesFiles, RunsFileSender, RunsPack, plain_upload, source_at, with_file}
use Rattle.bw_args.specs.declared.CommandLine.{CommandLine}
use Rattle.bw_args.specs.declared.bad_value.BadValue.TheVariants.{Fruitless, LeftOut, Mixed, Rate, Receipt}
use Rattle.bw_args.proofs.FormLemmas.{asked_reports, asked_runs, asks}
use Rattle.bw_args.proofs.LeftOutLemmas.{AsksPack, is_entered, left_out_asks, left_out_sends, left_out_strict}
use Rattle.bw_args.proofs.LeftOutLemmas.{left_out_texts_asks, mixed_left_out, strict_left_out, unkept_reported}
use Rattle.bw_args.proofs.UploadLemmas.{upload_by}
use Rattle.bw_args.proofs.PlainWords.{literal, unknown, values_ask}
use Rattle.bw_args.proofs.SenderLemmas.{AsksSender, samples_by}
use Rattle.bw_args.proofs.Asked.{bad, ◌and_then◌}
use Rattle.bw_args.proofs.ValueLemmas.{LacksSender, not_mixed, nothing, reported}

pack_asks : (path : Text) → IsPlain path → AsksPack (path ∷ []) (source_at path)
unfolding clap_on_literals
pack_asks path is program = values_ask is_entered program (unknown path ∷ []) (is, tt) refl
    (refl, record { from = refl; sets = refl; refuses = refl; refuses_texts = refl; keeps = refl; kept = refl })

strict_asks : (path : Text) → IsPlain path
    → AsksPack (codes "--strict" ∷ path ∷ []) (record (source_at path) { strict = true })
unfolding clap_on_literals
strict_asks path is program =
    values_ask is_entered program (literal (codes "--strict") ∷ unknown path ∷ []) (tt, (is, tt)) refl
    (refl, record { from = refl; sets = refl; refuses = refl; refuses_texts = refl; keeps = refl; kept = refl })

strict_texts_asks : (path : Text) → IsPlain path
    → AsksPack (codes "--strict-texts" ∷ path ∷ []) (record (source_at path) { strict_texts = true })
unfolding clap_on_literals
strict_texts_asks path is program =
    values_ask is_entered program (literal (codes "--strict-texts") ∷ unknown path ∷ []) (tt, (is, tt)) refl
    (refl, record { from = refl; sets = refl; refuses = refl; refuses_texts = refl; keeps = refl; kept = refl })

sets_asks : (path a b : Text) → IsPlain path
    → AsksPack ((codes "--set=" ++ a) ∷ (codes "--set=" ++ b) ∷ path ∷ [])
    (record (source_at path) { settings = a ∷ b ∷ [] })
unfolding clap_on_literals
sets_asks path a b is program = values_ask is_entered program
    (literal (codes "--set=" ++ a) ∷ literal (codes "--set=" ++ b) ∷ unknown path ∷ []) (tt, (tt, (is, tt))) refl
    (refl, record { from = refl; sets = refl; refuses = refl; refuses_texts = refl; keeps = refl; kept = refl })

pub runs_pack : (words : List Text) (line : CommandLine) → IsLineOf words line → RunsPack words line
unfolding clap_on_literals
runs_pack words line is = record {
  alone = λ p f plain e. asked_runs words _ line _ is e (pack_asks f plain p);
  strict = λ p f plain e. asked_runs words _ line _ is e (strict_asks f plain p);
  strict_texts = λ p f plain e. asked_runs words _ line _ is e (strict_texts_asks f plain p);
  sets = λ p f a b plain e. asked_runs words _ line _ is e (sets_asks f a b plain p);
  left_out = λ p f t plain e. asked_runs words _ line _ is e (left_out_asks f t plain p);
  left_out_texts = λ p f t plain e. asked_runs words _ line _ is e (left_out_texts_asks f t plain p);
  left_out_strict = λ p f t plain e. unkept_reported words _ line is e (strict_left_out p f t plain);
  none = λ p e. asked_reports MissingRequiredArgument words _ line is e refl;
}

alone_sends : (path : Text) → AsksSender false (with_file path [])
    (λ a n. Uploading (plain_upload a n path))
unfolding clap_on_literals
alone_sends path program connect name address at named =
    asks refl (
      refl,
      upload_by (None, refl, refl) (None, refl, refl) at (named, refl)
          (record { from = refl; sets = refl; refuses = refl; refuses_texts = refl; keeps = refl; kept = refl })
          refl refl refl refl refl refl
          (samples_by None None None refl refl refl refl refl),
    )

sets_sends : (path x y : Text) → AsksSender false (with_file path
    ((codes "--set=" ++ x) ∷ (codes "--set=" ++ y) ∷ []))
    (λ a n. Uploading (record (plain_upload a n path) { source = record (source_at path) { settings = x ∷ y ∷ [] } }))
unfolding clap_on_literals
sets_sends path x y program connect name address at named =
    asks refl (
      refl,
      upload_by (None, refl, refl) (None, refl, refl) at (named, refl)
          (record { from = refl; sets = refl; refuses = refl; refuses_texts = refl; keeps = refl; kept = refl })
          refl refl refl refl refl refl
          (samples_by None None None refl refl refl refl refl),
    )

strict_sends : (path : Text) → AsksSender false (with_file path (codes "--strict" ∷ []))
    (λ a n. Uploading (record (plain_upload a n path) { source = record (source_at path) { strict = true } }))
unfolding clap_on_literals
strict_sends path program connect name address at named =
    asks refl (
      refl,
      upload_by (None, refl, refl) (None, refl, refl) at (named, refl)
          (record { from = refl; sets = refl; refuses = refl; refuses_texts = refl; keeps = refl; kept = refl })
          refl refl refl refl refl refl
          (samples_by None None None refl refl refl refl refl),
    )

strict_texts_sends : (path : Text) → AsksSender false (with_file path (codes "--strict-texts" ∷ []))
    (λ a n. Uploading (record (plain_upload a n path) { source = record (source_at path) { strict_texts = true } }))
unfolding clap_on_literals
strict_texts_sends path program connect name address at named =
    asks refl (
      refl,
      upload_by (None, refl, refl) (None, refl, refl) at (named, refl)
          (record { from = refl; sets = refl; refuses = refl; refuses_texts = refl; keeps = refl; kept = refl })
          refl refl refl refl refl refl
          (samples_by None None None refl refl refl refl refl),
    )

fruitless_sends : (path count : Text) → IsCountText most_fruitless count
    → AsksSender false (with_file path ((codes "--fruitless=" ++ count) ∷ []))
    (λ a n. Uploading (record (plain_upload a n path) { fruitless = number_written count }))
unfolding clap_on_literals
fruitless_sends path count is program connect name address at named =
    asks refl (
      refl,
      upload_by (None, refl, refl) (Some (number_written count), (is, refl), refl) at (named, refl)
          (record { from = refl; sets = refl; refuses = refl; refuses_texts = refl; keeps = refl; kept = refl })
          refl refl refl refl refl refl
          (samples_by None None None refl refl refl refl refl),
    )

timeout_sends : (path seconds : Text) → IsCountText most_seconds seconds
    → AsksSender false (with_file path ((codes "--timeout=" ++ seconds) ∷ []))
    (λ a n. Uploading (record (plain_upload a n path) { timeout = number_written seconds }))
unfolding clap_on_literals
timeout_sends path seconds is program connect name address at named =
    asks refl (
      refl,
      upload_by (Some (number_written seconds), (is, refl), refl) (None, refl, refl) at (named, refl)
          (record { from = refl; sets = refl; refuses = refl; refuses_texts = refl; keeps = refl; kept = refl })
          refl refl refl refl refl refl
          (samples_by None None None refl refl refl refl refl),
    )

log_sends : (path : Text) → AsksSender false (with_file path (codes "--log" ∷ []))
    (λ a n. Uploading (record (plain_upload a n path) { log = true }))
unfolding clap_on_literals
log_sends path program connect name address at named =
    asks refl (
      refl,
      upload_by (None, refl, refl) (None, refl, refl) at (named, refl)
          (record { from = refl; sets = refl; refuses = refl; refuses_texts = refl; keeps = refl; kept = refl })
          refl refl refl refl refl refl
          (samples_by None None None refl refl refl refl refl),
    )

state_sends : (path state : Text) → AsksSender false (with_file path ((codes "--state=" ++ state) ∷ []))
    (λ a n. Uploading (record (plain_upload a n path) { state = Some state }))
unfolding clap_on_literals
state_sends path state program connect name address at named =
    asks refl (
      refl,
      upload_by (None, refl, refl) (None, refl, refl) at (named, refl)
          (record { from = refl; sets = refl; refuses = refl; refuses_texts = refl; keeps = refl; kept = refl })
          refl refl refl refl refl refl
          (samples_by None None None refl refl refl refl refl),
    )

rate_sends : (path bytes : Text) → IsCountText most_rate bytes
    → AsksSender false (with_file path ((codes "--rate=" ++ bytes) ∷ []))
    (λ a n. Uploading (record (plain_upload a n path) { rate = Some (number_written bytes) }))
unfolding clap_on_literals
rate_sends path bytes is program connect name address at named =
    asks refl (
      refl,
      upload_by (None, refl, refl) (None, refl, refl) at (named, refl)
          (record { from = refl; sets = refl; refuses = refl; refuses_texts = refl; keeps = refl; kept = refl })
          refl refl refl refl (is, refl) refl
          (samples_by None None None refl refl refl refl refl),
    )

receipt_sends : (path receipts : Text) → AsksSender false (with_file path ((codes "--receipt=" ++ receipts) ∷ []))
    (λ a n. Uploading (record (plain_upload a n path) { receipt = Some (target false receipts) }))
unfolding clap_on_literals
receipt_sends path receipts program connect name address at named =
    asks refl (
      refl,
      upload_by (None, refl, refl) (None, refl, refl) at (named, refl)
          (record { from = refl; sets = refl; refuses = refl; refuses_texts = refl; keeps = refl; kept = refl })
          refl refl refl refl refl refl
          (samples_by None None None refl refl refl refl refl),
    )

receipt_json_sends : (path receipts : Text)
    → AsksSender false (with_file path ((codes "--receipt=" ++ receipts) ∷ codes "--json" ∷ []))
    (λ a n. Uploading (record (plain_upload a n path) { receipt = Some (target true receipts) }))
unfolding clap_on_literals
receipt_json_sends path receipts program connect name address at named =
    asks refl (
      refl,
      upload_by (None, refl, refl) (None, refl, refl) at (named, refl)
          (record { from = refl; sets = refl; refuses = refl; refuses_texts = refl; keeps = refl; kept = refl })
          refl refl refl refl refl refl
          (samples_by None None None refl refl refl refl refl),
    )

network_sends : (path : Text) → AsksSender true (with_file path (codes "--network" ∷ []))
    (λ a n. Uploading (plain_upload a n path))
unfolding clap_on_literals
network_sends path program connect name address at named =
    asks refl (
      refl,
      upload_by (None, refl, refl) (None, refl, refl) at (named, refl)
          (record { from = refl; sets = refl; refuses = refl; refuses_texts = refl; keeps = refl; kept = refl })
          refl refl refl refl refl refl
          (samples_by None None None refl refl refl refl refl),
    )

pub runs_file_sender : (words : List Text) (line : CommandLine) → IsLineOf words line → RunsFileSender words line
runs_file_sender words line is = record {
  alone = λ f p c n a at named e. asked_runs words _ line _ is e (alone_sends f p c n a at named);
  sets = λ f x y p c n a at named e. asked_runs words _ line _ is e (sets_sends f x y p c n a at named);
  strict = λ f p c n a at named e. asked_runs words _ line _ is e (strict_sends f p c n a at named);
  strict_texts = λ f p c n a at named e. asked_runs words _ line _ is e (strict_texts_sends f p c n a at named);
  left_out = λ f t p c n a at named e. asked_runs words _ line _ is e (left_out_sends f t p c n a at named);
  fruitless = λ f t given p c n a at named e. asked_runs words _ line _ is e
      (fruitless_sends f t given p c n a at named);
  timeout = λ f t given p c n a at named e. asked_runs words _ line _ is e (timeout_sends f t given p c n a at named);
  log = λ f p c n a at named e. asked_runs words _ line _ is e (log_sends f p c n a at named);
  state = λ f t p c n a at named e. asked_runs words _ line _ is e (state_sends f t p c n a at named);
  rate = λ f t given p c n a at named e. asked_runs words _ line _ is e (rate_sends f t given p c n a at named);
  receipt = λ f r p c n a at named e. asked_runs words _ line _ is e (receipt_sends f r p c n a at named);
  receipt_json = λ f r p c n a at named e. asked_runs words _ line _ is e (receipt_json_sends f r p c n a at named);
  network = λ f p c n a at named e. asked_runs words _ line _ is e (network_sends f p c n a at named);
}

mixed_rounds : (path count : Text) → IsCountText most_rounds count
    → LacksSender (with_file path ((codes "--rounds=" ++ count) ∷ [])) Mixed
unfolding clap_on_literals
mixed_rounds path count is program connect name address at named = (
  refl,
  (address, at) and_then (name, (named, refl)) and_then (Some (number_written count), (is, refl))
      and_then nothing and_then nothing and_then nothing and_then bad not_mixed,
)

mixed_sets : (a : Text) → LacksSender ((codes "--set=" ++ a) ∷ []) Mixed
unfolding clap_on_literals
mixed_sets a program connect name address at named = (
  refl,
  (address, at) and_then (name, (named, refl)) and_then nothing and_then nothing and_then nothing
      and_then nothing and_then bad not_mixed,
)

mixed_strict : LacksSender (codes "--strict" ∷ []) Mixed
unfolding clap_on_literals
mixed_strict program connect name address at named = (
  refl,
  (address, at) and_then (name, (named, refl)) and_then nothing and_then nothing and_then nothing
      and_then nothing and_then bad not_mixed,
)

mixed_strict_texts : LacksSender (codes "--strict-texts" ∷ []) Mixed
unfolding clap_on_literals
mixed_strict_texts program connect name address at named = (
  refl,
  (address, at) and_then (name, (named, refl)) and_then nothing and_then nothing and_then nothing
      and_then nothing and_then bad not_mixed,
)

mixed_log : LacksSender (codes "--log" ∷ []) Mixed
unfolding clap_on_literals
mixed_log program connect name address at named = (
  refl,
  (address, at) and_then (name, (named, refl)) and_then nothing and_then nothing and_then nothing
      and_then nothing and_then bad not_mixed,
)

mixed_fruitless : (count : Text) → IsCountText most_fruitless count
    → LacksSender ((codes "--fruitless=" ++ count) ∷ []) Mixed
unfolding clap_on_literals
mixed_fruitless count is program connect name address at named = (
  refl,
  (address, at) and_then (name, (named, refl)) and_then nothing and_then nothing
      and_then (Some (number_written count), (is, refl)) and_then nothing and_then bad not_mixed,
)

mixed_state : (state : Text) → LacksSender ((codes "--state=" ++ state) ∷ []) Mixed
unfolding clap_on_literals
mixed_state state program connect name address at named = (
  refl,
  (address, at) and_then (name, (named, refl)) and_then nothing and_then nothing and_then nothing
      and_then nothing and_then bad not_mixed,
)

mixed_receipt : (receipts : Text) → LacksSender ((codes "--receipt=" ++ receipts) ∷ []) Mixed
unfolding clap_on_literals
mixed_receipt receipts program connect name address at named = (
  refl,
  (address, at) and_then (name, (named, refl)) and_then nothing and_then nothing and_then nothing
      and_then nothing and_then bad not_mixed,
)

mixed_json : LacksSender (codes "--json" ∷ []) Mixed
unfolding clap_on_literals
mixed_json program connect name address at named = (
  refl,
  (address, at) and_then (name, (named, refl)) and_then nothing and_then nothing and_then nothing
      and_then nothing and_then bad not_mixed,
)

json_alone : (path : Text) → LacksSender (with_file path (codes "--json" ∷ [])) Receipt
unfolding clap_on_literals
json_alone path program connect name address at named = (
  refl,
  (address, at) and_then (name, (named, refl)) and_then nothing and_then nothing and_then nothing
      and_then nothing and_then refl and_then bad not_mixed,
)

mixed_rate : (bytes : Text) → IsCountText most_rate bytes → LacksSender ((codes "--rate=" ++ bytes) ∷ []) Mixed
unfolding clap_on_literals
mixed_rate bytes is program connect name address at named = (
  refl,
  (address, at) and_then (name, (named, refl)) and_then nothing and_then nothing and_then nothing
      and_then (Some (number_written bytes), (is, refl)) and_then bad not_mixed,
)

bad_rate : (path bytes : Text) → ¬ IsCountText most_rate bytes
    → LacksSender (with_file path ((codes "--rate=" ++ bytes) ∷ [])) Rate
unfolding clap_on_literals
bad_rate path bytes none program connect name address at named = (
  refl,
  (address, at) and_then (name, (named, refl)) and_then nothing and_then nothing and_then nothing
      and_then bad (λ good. none good.1.0),
)

bad_fruitless : (path count : Text) → ¬ IsCountText most_fruitless count
    → LacksSender (with_file path ((codes "--fruitless=" ++ count) ∷ [])) Fruitless
unfolding clap_on_literals
bad_fruitless path count none program connect name address at named = (
  refl,
  (address, at) and_then (name, (named, refl)) and_then nothing and_then nothing
      and_then bad (λ good. none good.1.0),
)

pub refuses_files : (words : List Text) (line : CommandLine) → IsLineOf words line → RefusesFiles words line
refuses_files words line is = record {
  rounds = λ f t given p c n a at named e. reported words _ line Mixed is e (mixed_rounds f t given p c n a at named);
  sets = λ x p c n a at named e. reported words _ line Mixed is e (mixed_sets x p c n a at named);
  strict = λ p c n a at named e. reported words _ line Mixed is e (mixed_strict p c n a at named);
  strict_texts = λ p c n a at named e. reported words _ line Mixed is e (mixed_strict_texts p c n a at named);
  log = λ p c n a at named e. reported words _ line Mixed is e (mixed_log p c n a at named);
  fruitless = λ t given p c n a at named e. reported words _ line Mixed is e
      (mixed_fruitless t given p c n a at named);
  state = λ t p c n a at named e. reported words _ line Mixed is e (mixed_state t p c n a at named);
  receipt = λ r p c n a at named e. reported words _ line Mixed is e (mixed_receipt r p c n a at named);
  left_out = λ t p c n a at named e. reported words _ line Mixed is e (mixed_left_out t p c n a at named);
  left_out_strict = λ f t p c n a at named e.
      reported words _ line LeftOut is e (left_out_strict f t p c n a at named);
  json = λ p c n a at named e. reported words _ line Mixed is e (mixed_json p c n a at named);
  json_alone = λ f p c n a at named e. reported words _ line Receipt is e (json_alone f p c n a at named);
  rate = λ t given p c n a at named e. reported words _ line Mixed is e (mixed_rate t given p c n a at named);
  bad_rate = λ f t none p c n a at named e. reported words _ line Rate is e (bad_rate f t none p c n a at named);
  bad_fruitless = λ f t none p c n a at named e.
      reported words _ line Fruitless is e (bad_fruitless f t none p c n a at named);
}

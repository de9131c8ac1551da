-- The forms of `send` with several recordings, at values that are not known.
use Rattle.std.proofs.Common.{◌≡◌, List, [], ◌∷◌, ◌++◌, Bool, true, false, codes, refl, ap, subst, sym, ◌∙◌}
use Rattle.std.proofs.Common.{Option, Some, None}
use Rattle.std.specs.Prelude.{⊤, ◌&&◌, if◌then◌else◌, map}
use Rattle.std.specs.Str.{bytes_eq}
use Rattle.std.proofs.lemmas.Bool.{ne_eqb}
use Rattle.std.specs.declared.net.socket_addr.SocketAddr.{SocketAddr}
use Rattle.clap.specs.declared.error.ErrorKind.TheVariants.{MissingRequiredArgument}
use Rattle.clap.specs.Simple.{Shape, built, built_leaf}
use Rattle.clap.specs.Words.{Row, Text}
use Rattle.clap.specs.Walk.{all_of}
use Rattle.clap.proofs.OnLiterals.{clap_on_literals}
use Rattle.bw_args.specs.Addresses.{IsAddress}
use Rattle.bw_args.specs.Commands.{command_line, send_command}
use Rattle.bw_args.specs.Numbers.{IsCountText, default_fruitless, default_timeout, most_fruitless, most_rate}
use Rattle.bw_args.specs.Numbers.{most_seconds, number_written}
use Rattle.bw_args.specs.ReadWords.{as_read, joined}
use Rattle.bw_args.specs.ReceiptOptions.{is_receipt_mixed, receipt_given, target}
use Rattle.bw_args.specs.Sources.{has_files, settings_on_line}
use Rattle.bw_args.specs.SeveralRecordings.{FilesUpload, GivesFiles, is_files_mixed}
use Rattle.bw_args.specs.Lines.{AsksFor, GivesAddress, GivesCount, GivesCountOr, IsLineOf, IsWishOf, SendingFiles, Wish}
use Rattle.bw_args.specs.Lines.{given_on_line, is_nameless, is_set, error_kinds}
use Rattle.bw_args.specs.Forms.{IsPlain}
use Rattle.bw_args.specs.FileForms.{with_file}
use Rattle.bw_args.specs.SeveralForms.{RefusesSeveral, RunsFilesSender, plain_files, sending_files}
use Rattle.bw_args.specs.declared.CommandLine.{CommandLine}
use Rattle.bw_args.specs.declared.bad_value.BadValue.{BadValue}
use Rattle.bw_args.specs.declared.bad_value.BadValue.TheVariants.{Connect, Files, Fruitless, Mixed, Rate, Receipt}
use Rattle.bw_args.specs.declared.bad_value.BadValue.TheVariants.{Timeout}
use Rattle.bw_args.proofs.Asked.{bad, ◌and_then◌}
use Rattle.bw_args.proofs.FormLemmas.{asked_reports, asked_runs}
use Rattle.bw_args.proofs.LineLemmas.{fault_reason, no_reason}
use Rattle.bw_args.proofs.PlainWords.{AreValues, Enters, Word, fault_of_values, level_by, literal, rows_by}
use Rattle.bw_args.proofs.PlainWords.{rows_of_values, text_of, unknown, values_ask}
use Rattle.bw_args.proofs.ValueLemmas.{HasFirstBad, IsBadAt, LacksSender, not_mixed, nothing, reported}

-- ---- words of which none is `--name`, as they are read

-- such a word
abbrev pub IsApart : Word → Type 0
IsApart (unknown t) = IsPlain t
IsApart (literal t) = bytes_eq t (codes "--name") ≡ false

abbrev pub AreApart : List Word → Type 0
AreApart [] = ⊤
AreApart (word ∷ rest) = IsApart word × AreApart rest

plain_apart : (t : Text) → IsPlain t → bytes_eq t (codes "--name") ≡ false
plain_apart [] is = refl
plain_apart (d ∷ ds) is = ap (λ b. b && bytes_eq ds (codes "-name")) (ne_eqb d 45 is)

word_apart : (word : Word) → IsApart word → bytes_eq (text_of word) (codes "--name") ≡ false
word_apart (unknown t) is = plain_apart t is
word_apart (literal t) is = is

unjoined : (words : List Word) → AreApart words
    → joined (codes "--name") false (map text_of words) ≡ map text_of words
unjoined [] are = refl
unjoined (word ∷ rest) are =
    ap (λ b. if b then joined (codes "--name") true (map text_of rest)
    else text_of word ∷ joined (codes "--name") false (map text_of rest)) (word_apart word are.0)
    ∙ ap (λ words. text_of word ∷ words) (unjoined rest are.1)

read_same : (program : Text) (words : List Word) → AreApart words
    → as_read (program ∷ codes "send" ∷ map text_of words) ≡ program ∷ codes "send" ∷ map text_of words
read_same program words are = ap (λ rest. program ∷ codes "send" ∷ rest) (unjoined words are)

-- ---- `send` on such words and values

abbrev send_shape : Shape
send_shape = built_leaf send_command.top

is_entered : Enters (built command_line) (codes "send") send_shape
unfolding clap_on_literals
is_entered = record { walks = refl; takes = refl; finds = refl }

abbrev pub command_by : List Word → Option (Text × List Row)
command_by words = Some (codes "send", rows_by send_shape words)

send_asks : {wish : Wish} (program : Text) (words : List Word) → AreValues words → AreApart words
    → level_by send_shape words ≡ [] → IsWishOf (command_by words) wish
    → AsksFor (as_read (program ∷ codes "send" ∷ map text_of words)) wish
send_asks {wish} program words are apart taken asked =
    subst (λ w. AsksFor w wish) (sym (read_same program words apart))
    (values_ask is_entered program words are taken asked)

send_lacks : (program : Text) (words : List Word) (value : BadValue) → AreValues words → AreApart words
    → level_by send_shape words ≡ [] → is_nameless (command_by words) ≡ false → HasFirstBad (command_by words) value
    → IsBadAt (as_read (program ∷ codes "send" ∷ map text_of words)) value
send_lacks program words value are apart taken named first =
    subst (λ w. IsBadAt w value) (sym (read_same program words apart)) (
      no_reason (program ∷ codes "send" ∷ map text_of words) (fault_of_values is_entered program words are ∙ taken)
          (ap is_nameless (rows_of_values is_entered program words are) ∙ named),
      subst (λ found. HasFirstBad found value) (sym (rows_of_values is_entered program words are)) first,
    )

send_faults : (program : Text) (words : List Word) → AreValues words → AreApart words
    → level_by send_shape words ≡ MissingRequiredArgument ∷ []
    → error_kinds (as_read (program ∷ codes "send" ∷ map text_of words)) ≡ MissingRequiredArgument ∷ []
send_faults program words are apart fault =
    ap error_kinds (read_same program words apart)
    ∙ fault_reason (program ∷ codes "send" ∷ map text_of words) MissingRequiredArgument
    (fault_of_values is_entered program words are ∙ fault)

-- what of a sender of several recordings is given says it
files_by : {options : List Row} {sender : FilesUpload}
    → GivesCountOr default_timeout most_seconds (given_on_line options (codes "timeout")) sender.timeout
    → GivesCountOr default_fruitless most_fruitless (given_on_line options (codes "fruitless")) sender.fruitless
    → GivesAddress (is_set (given_on_line options (codes "network"))) (given_on_line options (codes "connect"))
    sender.connect
    → GivesCount most_rate (given_on_line options (codes "rate")) sender.rate
    → has_files (given_on_line options) ≡ true → all_of (codes "files") options ≡ Some sender.paths
    → is_files_mixed (given_on_line options) ≡ false → sender.names ≡ given_on_line options (codes "names")
    → sender.settings ≡ settings_on_line options → sender.strict ≡ is_set (given_on_line options (codes "strict"))
    → sender.strict_texts ≡ is_set (given_on_line options (codes "strict-texts"))
    → sender.log ≡ is_set (given_on_line options (codes "log"))
    → sender.states ≡ given_on_line options (codes "state") → sender.receipt ≡ receipt_given (given_on_line options)
    → is_receipt_mixed (given_on_line options) ≡ false → GivesFiles options sender
files_by waits ends connects paced some takes unmixed named sets refuses texts reports keeps receipts receipted = record {
  some = some;
  takes = takes;
  unmixed = unmixed;
  connects = connects;
  named = named;
  sets = sets;
  refuses = refuses;
  refuses_texts = texts;
  waits = waits;
  ends = ends;
  reports = reports;
  keeps = keeps;
  receipts = receipts;
  receipted = receipted;
  paced = paced;
}

-- these further words, and then the file, ask for this
abbrev AsksFiles : Bool → List Text → (SocketAddr → Text → Wish) → Type 0
AsksFiles network more wish = (program connect path : Text) (address : SocketAddr)
    → IsAddress network connect address → IsPlain path
    → AsksFor (as_read (sending_files program connect (more ++ path ∷ []))) (wish address path)

alone : AsksFiles false []
    (λ a p. SendingFiles (plain_files a (p ∷ [])))
unfolding clap_on_literals
alone program connect path address at plain = send_asks program
    (literal (codes "--connect=" ++ connect) ∷ unknown path ∷ [])
    (tt, (plain, tt)) (refl, (plain, tt)) refl
    (refl, files_by (None, refl, refl) (None, refl, refl) at refl refl refl refl refl refl refl refl refl refl refl refl)

two : (first : Text) → IsPlain first → AsksFiles false (first ∷ [])
    (λ a p. SendingFiles (plain_files a (first ∷ p ∷ [])))
unfolding clap_on_literals
two first is program connect path address at plain = send_asks program
    (literal (codes "--connect=" ++ connect) ∷ unknown first ∷ unknown path ∷ [])
    (tt, (is, (plain, tt))) (refl, (is, (plain, tt))) refl
    (refl, files_by (None, refl, refl) (None, refl, refl) at refl refl refl refl refl refl refl refl refl refl refl refl)

apart : (first receipts : Text) → IsPlain first
    → AsksFiles false (first ∷ codes "--json" ∷ (codes "--receipt=" ++ receipts) ∷ [])
    (λ a p. SendingFiles (record (plain_files a (first ∷ p ∷ [])) { receipt = Some (target true receipts) }))
unfolding clap_on_literals
apart first receipts is program connect path address at plain = send_asks program
    (literal (codes "--connect=" ++ connect) ∷ unknown first ∷ literal (codes "--json")
    ∷ literal (codes "--receipt=" ++ receipts) ∷ unknown path ∷ [])
    (tt, (is, (tt, (tt, (plain, tt))))) (refl, (is, (refl, (refl, (plain, tt))))) refl
    (refl, files_by (None, refl, refl) (None, refl, refl) at refl refl refl refl refl refl refl refl refl refl refl refl)

names_ask : (names : Text) → AsksFiles false ((codes "--names=" ++ names) ∷ [])
    (λ a p. SendingFiles (record (plain_files a (p ∷ [])) { names = Some names }))
unfolding clap_on_literals
names_ask names program connect path address at plain = send_asks program
    (literal (codes "--connect=" ++ connect) ∷ literal (codes "--names=" ++ names) ∷ unknown path ∷ [])
    (tt, (tt, (plain, tt))) (refl, (refl, (plain, tt))) refl
    (refl, files_by (None, refl, refl) (None, refl, refl) at refl refl refl refl refl refl refl refl refl refl refl refl)

sets_ask : (x y : Text) → AsksFiles false ((codes "--set=" ++ x) ∷ (codes "--set=" ++ y) ∷ [])
    (λ a p. SendingFiles (record (plain_files a (p ∷ [])) { settings = x ∷ y ∷ [] }))
unfolding clap_on_literals
sets_ask x y program connect path address at plain = send_asks program
    (literal (codes "--connect=" ++ connect) ∷ literal (codes "--set=" ++ x) ∷ literal (codes "--set=" ++ y) ∷ unknown path ∷ [])
    (tt, (tt, (tt, (plain, tt)))) (refl, (refl, (refl, (plain, tt)))) refl
    (refl, files_by (None, refl, refl) (None, refl, refl) at refl refl refl refl refl refl refl refl refl refl refl refl)

strict_asks : AsksFiles false ((codes "--strict") ∷ [])
    (λ a p. SendingFiles (record (plain_files a (p ∷ [])) { strict = true }))
unfolding clap_on_literals
strict_asks program connect path address at plain = send_asks program
    (literal (codes "--connect=" ++ connect) ∷ literal (codes "--strict") ∷ unknown path ∷ [])
    (tt, (tt, (plain, tt))) (refl, (refl, (plain, tt))) refl
    (refl, files_by (None, refl, refl) (None, refl, refl) at refl refl refl refl refl refl refl refl refl refl refl refl)

strict_texts_ask : AsksFiles false ((codes "--strict-texts") ∷ [])
    (λ a p. SendingFiles (record (plain_files a (p ∷ [])) { strict_texts = true }))
unfolding clap_on_literals
strict_texts_ask program connect path address at plain = send_asks program
    (literal (codes "--connect=" ++ connect) ∷ literal (codes "--strict-texts") ∷ unknown path ∷ [])
    (tt, (tt, (plain, tt))) (refl, (refl, (plain, tt))) refl
    (refl, files_by (None, refl, refl) (None, refl, refl) at refl refl refl refl refl refl refl refl refl refl refl refl)

timeout_asks : (seconds : Text) → IsCountText most_seconds seconds → AsksFiles false ((codes "--timeout=" ++ seconds) ∷ [])
    (λ a p. SendingFiles (record (plain_files a (p ∷ [])) { timeout = number_written seconds }))
unfolding clap_on_literals
timeout_asks seconds is program connect path address at plain = send_asks program
    (literal (codes "--connect=" ++ connect) ∷ literal (codes "--timeout=" ++ seconds) ∷ unknown path ∷ [])
    (tt, (tt, (plain, tt))) (refl, (refl, (plain, tt))) refl (
      refl,
      files_by (Some (number_written seconds), (is, refl), refl) (None, refl, refl) at
          refl refl refl refl refl refl refl refl refl refl refl refl,
    )

fruitless_asks : (count : Text) → IsCountText most_fruitless count → AsksFiles false ((codes "--fruitless=" ++ count) ∷ [])
    (λ a p. SendingFiles (record (plain_files a (p ∷ [])) { fruitless = number_written count }))
unfolding clap_on_literals
fruitless_asks count is program connect path address at plain = send_asks program
    (literal (codes "--connect=" ++ connect) ∷ literal (codes "--fruitless=" ++ count) ∷ unknown path ∷ [])
    (tt, (tt, (plain, tt))) (refl, (refl, (plain, tt))) refl (
      refl,
      files_by (None, refl, refl) (Some (number_written count), (is, refl), refl) at
          refl refl refl refl refl refl refl refl refl refl refl refl,
    )

log_asks : AsksFiles false ((codes "--log") ∷ [])
    (λ a p. SendingFiles (record (plain_files a (p ∷ [])) { log = true }))
unfolding clap_on_literals
log_asks program connect path address at plain = send_asks program
    (literal (codes "--connect=" ++ connect) ∷ literal (codes "--log") ∷ unknown path ∷ [])
    (tt, (tt, (plain, tt))) (refl, (refl, (plain, tt))) refl
    (refl, files_by (None, refl, refl) (None, refl, refl) at refl refl refl refl refl refl refl refl refl refl refl refl)

states_ask : (folder : Text) → AsksFiles false ((codes "--state=" ++ folder) ∷ [])
    (λ a p. SendingFiles (record (plain_files a (p ∷ [])) { states = Some folder }))
unfolding clap_on_literals
states_ask folder program connect path address at plain = send_asks program
    (literal (codes "--connect=" ++ connect) ∷ literal (codes "--state=" ++ folder) ∷ unknown path ∷ [])
    (tt, (tt, (plain, tt))) (refl, (refl, (plain, tt))) refl
    (refl, files_by (None, refl, refl) (None, refl, refl) at refl refl refl refl refl refl refl refl refl refl refl refl)

receipt_asks : (receipts : Text) → AsksFiles false ((codes "--receipt=" ++ receipts) ∷ [])
    (λ a p. SendingFiles (record (plain_files a (p ∷ [])) { receipt = Some (target false receipts) }))
unfolding clap_on_literals
receipt_asks receipts program connect path address at plain = send_asks program
    (literal (codes "--connect=" ++ connect) ∷ literal (codes "--receipt=" ++ receipts) ∷ unknown path ∷ [])
    (tt, (tt, (plain, tt))) (refl, (refl, (plain, tt))) refl
    (refl, files_by (None, refl, refl) (None, refl, refl) at refl refl refl refl refl refl refl refl refl refl refl refl)

receipt_json_asks : (receipts : Text) → AsksFiles false ((codes "--receipt=" ++ receipts) ∷ (codes "--json") ∷ [])
    (λ a p. SendingFiles (record (plain_files a (p ∷ [])) { receipt = Some (target true receipts) }))
unfolding clap_on_literals
receipt_json_asks receipts program connect path address at plain = send_asks program
    (literal (codes "--connect=" ++ connect) ∷ literal (codes "--receipt=" ++ receipts) ∷ literal (codes "--json") ∷ unknown path ∷ [])
    (tt, (tt, (tt, (plain, tt)))) (refl, (refl, (refl, (plain, tt)))) refl
    (refl, files_by (None, refl, refl) (None, refl, refl) at refl refl refl refl refl refl refl refl refl refl refl refl)

rate_asks : (bytes : Text) → IsCountText most_rate bytes → AsksFiles false ((codes "--rate=" ++ bytes) ∷ [])
    (λ a p. SendingFiles (record (plain_files a (p ∷ [])) { rate = Some (number_written bytes) }))
unfolding clap_on_literals
rate_asks bytes is program connect path address at plain = send_asks program
    (literal (codes "--connect=" ++ connect) ∷ literal (codes "--rate=" ++ bytes) ∷ unknown path ∷ [])
    (tt, (tt, (plain, tt))) (refl, (refl, (plain, tt))) refl
    (refl, files_by (None, refl, refl) (None, refl, refl) at (is, refl) refl refl refl refl refl refl refl refl refl refl refl)

network_asks : AsksFiles true ((codes "--network") ∷ [])
    (λ a p. SendingFiles (plain_files a (p ∷ [])))
unfolding clap_on_literals
network_asks program connect path address at plain = send_asks program
    (literal (codes "--connect=" ++ connect) ∷ literal (codes "--network") ∷ unknown path ∷ [])
    (tt, (tt, (plain, tt))) (refl, (refl, (plain, tt))) refl
    (refl, files_by (None, refl, refl) (None, refl, refl) at refl refl refl refl refl refl refl refl refl refl refl refl)

pub runs_files_sender : (words : List Text) (line : CommandLine) → IsLineOf words line → RunsFilesSender words line
runs_files_sender words line is = record {
  alone = λ n c f a at p e. asked_runs words _ line _ is e (alone n c f a at p);
  two = λ o q n c f a at p e. asked_runs words _ line _ is e (two o q n c f a at p);
  apart = λ o r q n c f a at p e. asked_runs words _ line _ is e (apart o r q n c f a at p);
  names = λ t n c f a at p e. asked_runs words _ line _ is e (names_ask t n c f a at p);
  sets = λ x y n c f a at p e. asked_runs words _ line _ is e (sets_ask x y n c f a at p);
  strict = λ n c f a at p e. asked_runs words _ line _ is e (strict_asks n c f a at p);
  strict_texts = λ n c f a at p e. asked_runs words _ line _ is e (strict_texts_ask n c f a at p);
  timeout = λ t given n c f a at p e. asked_runs words _ line _ is e (timeout_asks t given n c f a at p);
  fruitless = λ t given n c f a at p e. asked_runs words _ line _ is e (fruitless_asks t given n c f a at p);
  log = λ n c f a at p e. asked_runs words _ line _ is e (log_asks n c f a at p);
  states = λ t n c f a at p e. asked_runs words _ line _ is e (states_ask t n c f a at p);
  receipt = λ r n c f a at p e. asked_runs words _ line _ is e (receipt_asks r n c f a at p);
  receipt_json = λ r n c f a at p e. asked_runs words _ line _ is e (receipt_json_asks r n c f a at p);
  rate = λ t given n c f a at p e. asked_runs words _ line _ is e (rate_asks t given n c f a at p);
  network = λ n c f a at p e. asked_runs words _ line _ is e (network_asks n c f a at p);
}

-- ---- what is refused

-- with these further words, and then a file, this is the first bad value
abbrev LacksFiles : List Text → BadValue → Type 0
LacksFiles more value = (program connect path : Text) (address : SocketAddr) → IsAddress false connect address
    → IsPlain path → IsBadAt (as_read (sending_files program connect (more ++ path ∷ []))) value

bad_name : (name : Text) → LacksFiles ((codes "--name=" ++ name) ∷ []) Files
unfolding clap_on_literals
bad_name name program connect path address at plain = send_lacks program
    (literal (codes "--connect=" ++ connect) ∷ literal (codes "--name=" ++ name) ∷ unknown path ∷ []) Files
    (tt, (tt, (plain, tt))) (refl, (refl, (plain, tt))) refl refl
    (bad not_mixed)

bad_two_ways : (name file : Text) → LacksFiles ((codes "--name=" ++ name) ∷ (codes "--file=" ++ file) ∷ []) Files
unfolding clap_on_literals
bad_two_ways name file program connect path address at plain = send_lacks program
    (literal (codes "--connect=" ++ connect) ∷ literal (codes "--name=" ++ name) ∷ literal (codes "--file=" ++ file)
    ∷ unknown path ∷ []) Files
    (tt, (tt, (tt, (plain, tt)))) (refl, (refl, (refl, (plain, tt)))) refl refl
    (bad not_mixed)

bad_file : (file : Text) → LacksFiles ((codes "--file=" ++ file) ∷ []) Files
unfolding clap_on_literals
bad_file file program connect path address at plain = send_lacks program
    (literal (codes "--connect=" ++ connect) ∷ literal (codes "--file=" ++ file) ∷ unknown path ∷ []) Files
    (tt, (tt, (plain, tt))) (refl, (refl, (plain, tt))) refl refl
    (bad not_mixed)

bad_rounds : (count : Text) → LacksFiles ((codes "--rounds=" ++ count) ∷ []) Files
unfolding clap_on_literals
bad_rounds count program connect path address at plain = send_lacks program
    (literal (codes "--connect=" ++ connect) ∷ literal (codes "--rounds=" ++ count) ∷ unknown path ∷ []) Files
    (tt, (tt, (plain, tt))) (refl, (refl, (plain, tt))) refl refl
    (bad not_mixed)

bad_keep_left_out : (left : Text) → LacksFiles ((codes "--keep-left-out=" ++ left) ∷ []) Files
unfolding clap_on_literals
bad_keep_left_out left program connect path address at plain = send_lacks program
    (literal (codes "--connect=" ++ connect) ∷ literal (codes "--keep-left-out=" ++ left) ∷ unknown path ∷ []) Files
    (tt, (tt, (plain, tt))) (refl, (refl, (plain, tt))) refl refl
    (bad not_mixed)

bad_pcm : (text : Text) → LacksFiles ((codes "--pcm=" ++ text) ∷ []) Files
unfolding clap_on_literals
bad_pcm text program connect path address at plain = send_lacks program
    (literal (codes "--connect=" ++ connect) ∷ literal (codes "--pcm=" ++ text) ∷ unknown path ∷ []) Files
    (tt, (tt, (plain, tt))) (refl, (refl, (plain, tt))) refl refl
    (bad not_mixed)

bad_skip : (bytes : Text) → LacksFiles ((codes "--skip=" ++ bytes) ∷ []) Files
unfolding clap_on_literals
bad_skip bytes program connect path address at plain = send_lacks program
    (literal (codes "--connect=" ++ connect) ∷ literal (codes "--skip=" ++ bytes) ∷ unknown path ∷ []) Files
    (tt, (tt, (plain, tt))) (refl, (refl, (plain, tt))) refl refl
    (bad not_mixed)

bad_block : (frames : Text) → LacksFiles ((codes "--block=" ++ frames) ∷ []) Files
unfolding clap_on_literals
bad_block frames program connect path address at plain = send_lacks program
    (literal (codes "--connect=" ++ connect) ∷ literal (codes "--block=" ++ frames) ∷ unknown path ∷ []) Files
    (tt, (tt, (plain, tt))) (refl, (refl, (plain, tt))) refl refl
    (bad not_mixed)

bad_until : (end : Text) → LacksFiles ((codes "--until=" ++ end) ∷ []) Files
unfolding clap_on_literals
bad_until end program connect path address at plain = send_lacks program
    (literal (codes "--connect=" ++ connect) ∷ literal (codes "--until=" ++ end) ∷ unknown path ∷ []) Files
    (tt, (tt, (plain, tt))) (refl, (refl, (plain, tt))) refl refl
    (bad not_mixed)

bad_spool : (spool : Text) → LacksFiles ((codes "--spool=" ++ spool) ∷ []) Files
unfolding clap_on_literals
bad_spool spool program connect path address at plain = send_lacks program
    (literal (codes "--connect=" ++ connect) ∷ literal (codes "--spool=" ++ spool) ∷ unknown path ∷ []) Files
    (tt, (tt, (plain, tt))) (refl, (refl, (plain, tt))) refl refl
    (bad not_mixed)

bad_follow : LacksFiles ((codes "--follow") ∷ []) Files
unfolding clap_on_literals
bad_follow program connect path address at plain = send_lacks program
    (literal (codes "--connect=" ++ connect) ∷ literal (codes "--follow") ∷ unknown path ∷ []) Files
    (tt, (tt, (plain, tt))) (refl, (refl, (plain, tt))) refl refl
    (bad not_mixed)

bad_defaults : LacksFiles ((codes "--no-defaults") ∷ []) Files
unfolding clap_on_literals
bad_defaults program connect path address at plain = send_lacks program
    (literal (codes "--connect=" ++ connect) ∷ literal (codes "--no-defaults") ∷ unknown path ∷ []) Files
    (tt, (tt, (plain, tt))) (refl, (refl, (plain, tt))) refl refl
    (bad not_mixed)

bad_json : LacksFiles ((codes "--json") ∷ []) Receipt
unfolding clap_on_literals
bad_json program connect path address at plain = send_lacks program
    (literal (codes "--connect=" ++ connect) ∷ literal (codes "--json") ∷ unknown path ∷ []) Receipt
    (tt, (tt, (plain, tt))) (refl, (refl, (plain, tt))) refl refl
    (refl and_then (address, at) and_then nothing and_then nothing and_then nothing
    and_then nothing and_then bad not_mixed)

bad_timeout : (seconds : Text) → ¬ IsCountText most_seconds seconds → LacksFiles ((codes "--timeout=" ++ seconds) ∷ []) Timeout
unfolding clap_on_literals
bad_timeout seconds none program connect path address at plain = send_lacks program
    (literal (codes "--connect=" ++ connect) ∷ literal (codes "--timeout=" ++ seconds) ∷ unknown path ∷ []) Timeout
    (tt, (tt, (plain, tt))) (refl, (refl, (plain, tt))) refl refl
    (refl and_then (address, at) and_then nothing and_then bad (λ good. none good.1.0))

bad_fruitless : (count : Text) → ¬ IsCountText most_fruitless count → LacksFiles ((codes "--fruitless=" ++ count) ∷ []) Fruitless
unfolding clap_on_literals
bad_fruitless count none program connect path address at plain = send_lacks program
    (literal (codes "--connect=" ++ connect) ∷ literal (codes "--fruitless=" ++ count) ∷ unknown path ∷ []) Fruitless
    (tt, (tt, (plain, tt))) (refl, (refl, (plain, tt))) refl refl
    (refl and_then (address, at) and_then nothing and_then nothing and_then bad (λ good. none good.1.0))

bad_rate : (bytes : Text) → ¬ IsCountText most_rate bytes → LacksFiles ((codes "--rate=" ++ bytes) ∷ []) Rate
unfolding clap_on_literals
bad_rate bytes none program connect path address at plain = send_lacks program
    (literal (codes "--connect=" ++ connect) ∷ literal (codes "--rate=" ++ bytes) ∷ unknown path ∷ []) Rate
    (tt, (tt, (plain, tt))) (refl, (refl, (plain, tt))) refl refl
    (refl and_then (address, at) and_then nothing and_then nothing and_then nothing
    and_then bad (λ good. none good.1.0))

bad_connect : (program connect path : Text) → ((address : SocketAddr) → ¬ IsAddress false connect address)
    → IsPlain path → IsBadAt (as_read (sending_files program connect (path ∷ []))) Connect
unfolding clap_on_literals
bad_connect program connect path none plain = send_lacks program
    (literal (codes "--connect=" ++ connect) ∷ unknown path ∷ []) Connect
    (tt, (plain, tt)) (refl, (plain, tt)) refl refl
    (refl and_then bad (λ good. none good.0 good.1))

mixed_names : (names : Text) → LacksSender ((codes "--names=" ++ names) ∷ []) Mixed
unfolding clap_on_literals
mixed_names names program connect name address at named = (
  refl,
  (address, at) and_then (name, (named, refl)) and_then nothing and_then nothing and_then nothing
      and_then nothing and_then bad not_mixed,
)

mixed_file_names : (path names : Text) → LacksSender (with_file path ((codes "--names=" ++ names) ∷ [])) Mixed
unfolding clap_on_literals
mixed_file_names path names program connect name address at named = (
  refl,
  (address, at) and_then (name, (named, refl)) and_then nothing and_then nothing and_then nothing
      and_then nothing and_then bad not_mixed,
)

unaddressed : (program path : Text) → IsPlain path
    → error_kinds (as_read (program ∷ codes "send" ∷ path ∷ [])) ≡ MissingRequiredArgument ∷ []
unfolding clap_on_literals
unaddressed program path plain = send_faults program (unknown path ∷ []) (plain, tt) (plain, tt) refl

unnamed : (program connect path : Text)
    → error_kinds (as_read (sending_files program connect (with_file path []))) ≡ MissingRequiredArgument ∷ []
unfolding clap_on_literals
unnamed program connect path = refl

pub refuses_several : (words : List Text) (line : CommandLine) → IsLineOf words line → RefusesSeveral words line
refuses_several words line is = record {
  name = λ t n c f a at p e. reported words _ line Files is e (bad_name t n c f a at p);
  two_ways = λ t o n c f a at p e. reported words _ line Files is e (bad_two_ways t o n c f a at p);
  file = λ t n c f a at p e. reported words _ line Files is e (bad_file t n c f a at p);
  rounds = λ t n c f a at p e. reported words _ line Files is e (bad_rounds t n c f a at p);
  left_out = λ t n c f a at p e. reported words _ line Files is e (bad_keep_left_out t n c f a at p);
  pcm = λ t n c f a at p e. reported words _ line Files is e (bad_pcm t n c f a at p);
  skip = λ t n c f a at p e. reported words _ line Files is e (bad_skip t n c f a at p);
  block = λ t n c f a at p e. reported words _ line Files is e (bad_block t n c f a at p);
  follow = λ n c f a at p e. reported words _ line Files is e (bad_follow n c f a at p);
  until = λ t n c f a at p e. reported words _ line Files is e (bad_until t n c f a at p);
  spool = λ t n c f a at p e. reported words _ line Files is e (bad_spool t n c f a at p);
  no_defaults = λ n c f a at p e. reported words _ line Files is e (bad_defaults n c f a at p);
  json_alone = λ n c f a at p e. reported words _ line Receipt is e (bad_json n c f a at p);
  connect = λ n c f none p e. reported words _ line Connect is e (bad_connect n c f none p);
  timeout = λ t none n c f a at p e. reported words _ line Timeout is e (bad_timeout t none n c f a at p);
  fruitless = λ t none n c f a at p e. reported words _ line Fruitless is e (bad_fruitless t none n c f a at p);
  rate = λ t none n c f a at p e. reported words _ line Rate is e (bad_rate t none n c f a at p);
  names = λ t n c f a at p e. reported words _ line Mixed is e (mixed_names t n c f a at p);
  file_names = λ o t n c f a at p e. reported words _ line Mixed is e (mixed_file_names o t n c f a at p);
  unaddressed = λ n f p e. asked_reports MissingRequiredArgument words _ line is e (unaddressed n f p);
  nameless = λ n c f e. asked_reports MissingRequiredArgument words _ line is e (unnamed n c f);
}

-- The forms of `replay`, at limits that are not known, and what words that ask for something run.
use Rattle.std.proofs.Common.{◌≡◌, ℕ, List, [], ◌∷◌, ◌++◌, ◌<◌, codes, refl, ap, subst}
use Rattle.std.proofs.Common.{sym, ◌∙◌, arith, Option, Some, None, inl, inr}
use Rattle.std.specs.Char.{digit_value}
use Rattle.clap.specs.declared.error.ErrorKind.{ErrorKind}
use Rattle.clap.specs.declared.error.ErrorKind.TheVariants.{DisplayHelp, DisplayVersion, MissingSubcommand}
use Rattle.clap.specs.Simple.{built, built_leaf}
use Rattle.clap.specs.Words.{IsAmong, Text, fault_of, kind_of, subcommand_of}
use Rattle.clap.proofs.OnLiterals.{clap_on_literals}
use Rattle.bw_args.specs.Commands.{command_line, replay_command}
use Rattle.bw_args.specs.Lines.{AsksFor, IsLineOf, IsLineRead, IsWishOf, Wish}
use Rattle.bw_args.specs.ReadWords.{as_read}
use Rattle.bw_args.specs.Lines.{Replaying, error_kinds, wish_of}
use Rattle.bw_args.specs.Forms.{IsPlain, IsReportedAs, RunsFor, RunsReplay, ReportsHelp}
use Rattle.bw_args.specs.Numbers.{IsLimitText, IsNumber, default_limit, number_written}
use Rattle.bw_args.proofs.LineLemmas.{asked_reason}
use Rattle.bw_args.proofs.PlainWords.{Enters, literal, unknown, values_ask}
use Rattle.bw_args.proofs.WishLemmas.{one_wish}
use Rattle.bw_args.specs.declared.CommandLine.{CommandLine}
use Rattle.bw_args.specs.declared.CommandLine.TheVariants.{Run, BadValue as Bad, Report}
use Rattle.bw_args.specs.declared.Task.TheVariants.{Replay}

-- a digit is no hyphen, so the word is read as a value
pub number_plain : (text : Text) → IsNumber text → IsPlain text
number_plain [] given = tt
number_plain (d ∷ ds) given = λ e.
    let digit : digit_value 45 < 10 = subst (λ c. digit_value c < 10) e given.0.1.0 in absurd (omega arith)

is_entered : Enters (built command_line) (codes "replay") (built_leaf replay_command.top)
unfolding clap_on_literals
is_entered = record { walks = refl; takes = refl; finds = refl }

-- words that `clap` takes ask for this
pub asks : {words : List Text} {wish : Wish} → fault_of command_line words ≡ []
    → IsWishOf (subcommand_of command_line words) wish → AsksFor words wish
asks taken asked = record { taken = taken; asked = asked }

plain_asks : (program : Text) → AsksFor (program ∷ codes "replay" ∷ []) (Replaying default_limit None)
unfolding clap_on_literals
plain_asks program = asks refl (refl, refl, refl)

apart_asks : (program text : Text) → IsLimitText text
    → AsksFor (program ∷ codes "replay" ∷ codes "--limit" ∷ text ∷ []) (Replaying (number_written text) None)
unfolding clap_on_literals
apart_asks program text given = values_ask is_entered program (literal (codes "--limit") ∷ unknown text ∷ [])
    (tt, (number_plain text given.0, tt)) refl (refl, (given, refl), refl)

joined_asks : (program text : Text) → IsLimitText text
    → AsksFor (program ∷ codes "replay" ∷ (codes "--limit=" ++ text) ∷ []) (Replaying (number_written text) None)
unfolding clap_on_literals
joined_asks program text given = asks refl (refl, (given, refl), refl)

fuse_apart_asks : (program text : Text) → IsNumber text → AsksFor
    (program ∷ codes "replay" ∷ codes "--fuse" ∷ text ∷ []) (Replaying default_limit (Some (number_written text)))
unfolding clap_on_literals
fuse_apart_asks program text given = values_ask is_entered program (literal (codes "--fuse") ∷ unknown text ∷ [])
    (tt, (number_plain text given, tt)) refl (refl, refl, (given, refl))

fuse_joined_asks : (program text : Text) → IsNumber text → AsksFor
    (program ∷ codes "replay" ∷ (codes "--fuse=" ++ text) ∷ []) (Replaying default_limit (Some (number_written text)))
unfolding clap_on_literals
fuse_joined_asks program text given = asks refl (refl, refl, (given, refl))

both_asks : (program limit fuse : Text) → IsLimitText limit → IsNumber fuse → AsksFor
    (program ∷ codes "replay" ∷ codes "--limit" ∷ limit ∷ codes "--fuse" ∷ fuse ∷ [])
    (Replaying (number_written limit) (Some (number_written fuse)))
unfolding clap_on_literals
both_asks program limit fuse given burns = values_ask is_entered program
    (literal (codes "--limit") ∷ unknown limit ∷ literal (codes "--fuse") ∷ unknown fuse ∷ [])
    (tt, (number_plain limit given.0, (tt, (number_plain fuse burns, tt)))) refl (refl, (given, refl), (burns, refl))

turned_asks : (program limit fuse : Text) → IsLimitText limit → IsNumber fuse → AsksFor
    (program ∷ codes "replay" ∷ codes "--fuse" ∷ fuse ∷ codes "--limit" ∷ limit ∷ [])
    (Replaying (number_written limit) (Some (number_written fuse)))
unfolding clap_on_literals
turned_asks program limit fuse given burns = values_ask is_entered program
    (literal (codes "--fuse") ∷ unknown fuse ∷ literal (codes "--limit") ∷ unknown limit ∷ [])
    (tt, (number_plain fuse burns, (tt, (number_plain limit given.0, tt)))) refl (refl, (given, refl), (burns, refl))

-- words that ask for something run it
pub runs : (words : List Text) (line : CommandLine) (wish : Wish) → IsLineRead words line → AsksFor words wish →
    RunsFor wish line
runs words (Run task) wish is asks = one_wish _ (wish_of task) wish is.asked asks.asked
runs words (Bad value) wish is asks = absurd (is.asks_nothing wish asks)
runs words (Report error) wish is asks = absurd (is.asks_nothing wish asks)

-- as they are read
pub asked_runs : (words asking : List Text) (line : CommandLine) (wish : Wish) → IsLineOf words line → words ≡ asking
    → AsksFor (as_read asking) wish → RunsFor wish line
asked_runs words asking line wish is e asking_for =
    runs (as_read words) line wish is (subst (λ w. AsksFor (as_read w) wish) (sym e) asking_for)

replays : (limit : ℕ) (fuse : Option ℕ) (line : CommandLine) → RunsFor (Replaying limit fuse) line
    → line ≡ Run (Replay limit fuse)
replays limit fuse (Run (Replay n k)) e = let limits : n ≡ limit = cc in let fuses : k ≡ fuse = cc in cc
replays limit fuse (Run task) e = cc
replays limit fuse (Bad value) e = absurd e
replays limit fuse (Report error) e = absurd e

-- words that ask for a replay run it
asked_replays : (words asking : List Text) (line : CommandLine) (limit : ℕ) (fuse : Option ℕ) → IsLineOf words line
    → words ≡ asking → AsksFor (as_read asking) (Replaying limit fuse) → line ≡ Run (Replay limit fuse)
asked_replays words asking line limit fuse is e asking_for =
    replays limit fuse line (asked_runs words asking line _ is e asking_for)

pub runs_replay : (words : List Text) (line : CommandLine) → IsLineOf words line → RunsReplay words line
runs_replay words line is = record {
  plain = λ program e. asked_replays words _ line _ _ is e (plain_asks program);
  apart = λ program text given e. asked_replays words _ line _ _ is e (apart_asks program text given);
  joined = λ program text given e. asked_replays words _ line _ _ is e (joined_asks program text given);
  fuse_apart = λ program text given e. asked_replays words _ line _ _ is e (fuse_apart_asks program text given);
  fuse_joined = λ program text given e. asked_replays words _ line _ _ is e (fuse_joined_asks program text given);
  both = λ program limit fuse given burns e.
      asked_replays words _ line _ _ is e (both_asks program limit fuse given burns);
  turned = λ program limit fuse given burns e.
      asked_replays words _ line _ _ is e (turned_asks program limit fuse given burns);
}

-- words with a fault of one kind report it
pub reports : (kind : ErrorKind) (words : List Text) (line : CommandLine) → error_kinds words ≡ kind ∷ []
    → IsLineRead words line → IsReportedAs kind line
reports kind words (Run task) fault is =
    let bad : kind ∷ [] ≡ [] = sym fault ∙ asked_reason words (wish_of task) is in cc
reports kind words (Bad value) fault is = let bad : kind ∷ [] ≡ [] = sym fault ∙ is.taken in cc
reports kind words (Report error) fault is =
    elim (subst (IsAmong (kind_of error)) fault is.reason) [ inl same ↦ same | inr none ↦ absurd none ]

-- as they are read
pub asked_reports : (kind : ErrorKind) (words asking : List Text) (line : CommandLine) → IsLineOf words line
    → words ≡ asking → error_kinds (as_read asking) ≡ kind ∷ [] → IsReportedAs kind line
asked_reports kind words asking line is e fault =
    reports kind (as_read words) line (ap (λ w. error_kinds (as_read w)) e ∙ fault) is

pub reports_help : (words : List Text) (line : CommandLine) → IsLineOf words line → ReportsHelp words line
unfolding clap_on_literals
reports_help words line is = record {
  help = λ program e. asked_reports DisplayHelp words _ line is e refl;
  version = λ program e. asked_reports DisplayVersion words _ line is e refl;
  bare = λ program e. asked_reports MissingSubcommand words _ line is e refl;
}

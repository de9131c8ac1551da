-- The forms of a rehearsal, at names and limits that are not known.
use Rattle.std.proofs.Common.{◌≡◌, ℕ, List, [], ◌∷◌, ◌++◌, false, codes, refl, subst, sym}
use Rattle.std.proofs.lemmas.Bool.{ne_eqb}
use Rattle.clap.specs.declared.error.ErrorKind.TheVariants.{MissingRequiredArgument}
use Rattle.clap.specs.Simple.{built, built_leaf}
use Rattle.clap.specs.Words.{Text}
use Rattle.clap.proofs.OnLiterals.{clap_on_literals}
use Rattle.bw_args.specs.Commands.{command_line, rehearse_command}
use Rattle.bw_args.specs.ReadWords.{as_read, joined}
use Rattle.bw_args.specs.Lines.{AsksFor, IsLineOf, IsName, Rehearsing}
use Rattle.bw_args.specs.Forms.{IsPlain, RunsFor, RunsRehearsal}
use Rattle.bw_args.specs.Numbers.{IsLimitText, default_limit, number_written}
use Rattle.bw_args.specs.declared.CommandLine.{CommandLine}
use Rattle.bw_args.specs.declared.CommandLine.TheVariants.{Run, BadValue as Bad, Report}
use Rattle.bw_args.specs.declared.Task.TheVariants.{Rehearse}
use Rattle.bw_args.proofs.FormLemmas.{asked_reports, asked_runs, asks, number_plain}
use Rattle.bw_args.proofs.PlainWords.{Enters, literal, unknown, values_ask}

is_entered : Enters (built command_line) (codes "rehearse") (built_leaf rehearse_command.top)
unfolding clap_on_literals
is_entered = record { walks = refl; takes = refl; finds = refl }

-- a limit's word is read unchanged
limit_stays : (limit : Text) (rest : List Text) → IsPlain limit
    → joined (codes "--name") false (limit ∷ rest) ≡ limit ∷ joined (codes "--name") false rest
limit_stays [] rest is = refl
limit_stays (d ∷ ds) rest is = rw (ne_eqb d 45 is) (refl {a = (d ∷ ds) ∷ joined (codes "--name") false rest})

joined_asks : (program name : Text) → IsName name
    → AsksFor (program ∷ codes "rehearse" ∷ (codes "--name=" ++ name) ∷ []) (Rehearsing name default_limit)
unfolding clap_on_literals
joined_asks program name named = asks refl (refl, (named, refl), refl)

both_read : (program name limit : Text) → IsName name → IsLimitText limit
    → AsksFor (program ∷ codes "rehearse" ∷ (codes "--name=" ++ name) ∷ codes "--limit" ∷ limit ∷ [])
    (Rehearsing name (number_written limit))
unfolding clap_on_literals
both_read program name limit named given = values_ask is_entered program
    (literal (codes "--name=" ++ name) ∷ literal (codes "--limit") ∷ unknown limit ∷ [])
    (tt, (tt, (number_plain limit given.0, tt))) refl (refl, (named, refl), (given, refl))

both_asks : (program name limit : Text) → IsName name → IsLimitText limit → AsksFor
    (as_read (program ∷ codes "rehearse" ∷ codes "--name" ∷ name ∷ codes "--limit" ∷ limit ∷ []))
    (Rehearsing name (number_written limit))
both_asks program name limit named given =
    subst (λ w. AsksFor (program ∷ codes "rehearse" ∷ (codes "--name=" ++ name) ∷ codes "--limit" ∷ w)
    (Rehearsing name (number_written limit))) (sym (limit_stays limit [] (number_plain limit given.0)))
    (both_read program name limit named given)

turned_read : (program name limit : Text) → IsName name → IsLimitText limit
    → AsksFor (program ∷ codes "rehearse" ∷ codes "--limit" ∷ limit ∷ (codes "--name=" ++ name) ∷ [])
    (Rehearsing name (number_written limit))
unfolding clap_on_literals
turned_read program name limit named given = values_ask is_entered program
    (literal (codes "--limit") ∷ unknown limit ∷ literal (codes "--name=" ++ name) ∷ [])
    (tt, (number_plain limit given.0, (tt, tt))) refl (refl, (named, refl), (given, refl))

turned_asks : (program name limit : Text) → IsName name → IsLimitText limit → AsksFor
    (as_read (program ∷ codes "rehearse" ∷ codes "--limit" ∷ limit ∷ codes "--name" ∷ name ∷ []))
    (Rehearsing name (number_written limit))
turned_asks program name limit named given =
    subst (λ w. AsksFor (program ∷ codes "rehearse" ∷ codes "--limit" ∷ w) (Rehearsing name (number_written limit)))
    (sym (limit_stays limit (codes "--name" ∷ name ∷ []) (number_plain limit given.0)))
    (turned_read program name limit named given)

both_joined_asks : (program name limit : Text) → IsName name → IsLimitText limit → AsksFor
    (program ∷ codes "rehearse" ∷ (codes "--name=" ++ name) ∷ (codes "--limit=" ++ limit) ∷ [])
    (Rehearsing name (number_written limit))
unfolding clap_on_literals
both_joined_asks program name limit named given = asks refl (refl, (named, refl), (given, refl))

rehearses : (name : Text) (limit : ℕ) (line : CommandLine) → RunsFor (Rehearsing name limit) line
    → line ≡ Run (Rehearse name limit)
rehearses name limit (Run (Rehearse m n)) e = let names : m ≡ name = cc in let limits : n ≡ limit = cc in cc
rehearses name limit (Run task) e = cc
rehearses name limit (Bad value) e = absurd e
rehearses name limit (Report error) e = absurd e

-- words that ask for a rehearsal run it
asked_rehearses : (words asking : List Text) (line : CommandLine) (name : Text) (limit : ℕ) → IsLineOf words line
    → words ≡ asking → AsksFor (as_read asking) (Rehearsing name limit) → line ≡ Run (Rehearse name limit)
asked_rehearses words asking line name limit is e asking_for =
    rehearses name limit line (asked_runs words asking line _ is e asking_for)

pub runs_rehearsal : (words : List Text) (line : CommandLine) → IsLineOf words line → RunsRehearsal words line
unfolding clap_on_literals
runs_rehearsal words line is = record {
  apart = λ program name named e. asked_rehearses words _ line _ _ is e (joined_asks program name named);
  joined = λ program name named e. asked_rehearses words _ line _ _ is e (joined_asks program name named);
  both = λ program name limit named given e.
      asked_rehearses words _ line _ _ is e (both_asks program name limit named given);
  turned = λ program name limit named given e.
      asked_rehearses words _ line _ _ is e (turned_asks program name limit named given);
  both_joined = λ program name limit named given e.
      asked_rehearses words _ line _ _ is e (both_joined_asks program name limit named given);
  none = λ program e. asked_reports MissingRequiredArgument words _ line is e refl;
  limit_alone = λ program limit e. asked_reports MissingRequiredArgument words _ line is e refl;
}

-- The forms of `takes`, at folders that are not known.
use Rattle.std.proofs.Common.{◌≢◌, List, [], ◌∷◌, ◌++◌, true, false, codes, refl}
use Rattle.clap.specs.declared.error.ErrorKind.TheVariants.{MissingRequiredArgument}
use Rattle.clap.specs.Words.{Text}
use Rattle.clap.proofs.OnLiterals.{clap_on_literals}
use Rattle.bw_args.specs.ReadWords.{as_read}
use Rattle.bw_args.specs.Lines.{AsksFor, IsLineOf, IsName, Listing, Verifying}
use Rattle.bw_args.specs.FolderForms.{RunsTakes}
use Rattle.bw_args.specs.declared.CommandLine.{CommandLine}
use Rattle.bw_args.specs.declared.bad_value.BadValue.TheVariants.{Folder, GiveUp as BadGiveUp, Verify as BadVerify, Watch as BadWatch}
use Rattle.bw_args.specs.declared.folders.FolderWork.TheVariants.{Report, Watch, GiveUp}
use Rattle.bw_args.proofs.FormLemmas.{asked_reports, asked_runs, asks}
use Rattle.bw_args.proofs.Asked.{bad, is_not, ◌and_then◌}
use Rattle.bw_args.proofs.ValueLemmas.{IsBadAt, reported}

joined_lists : (program folder : Text) → folder ≢ []
    → AsksFor (as_read (program ∷ codes "takes" ∷ (codes "--folder=" ++ folder) ∷ []))
    (Listing folder (Report false false false))
unfolding clap_on_literals
joined_lists program folder full = asks refl (refl, (full, refl), refl, refl)

apart_lists : (program folder : Text) → folder ≢ []
    → AsksFor (as_read (program ∷ codes "takes" ∷ codes "--folder" ∷ folder ∷ []))
    (Listing folder (Report false false false))
unfolding clap_on_literals
apart_lists program folder full = asks refl (refl, (full, refl), refl, refl)

checked_lists : (program folder : Text) → folder ≢ []
    → AsksFor (as_read (program ∷ codes "takes" ∷ codes "--folder" ∷ folder ∷ codes "--check" ∷ codes "--json" ∷ []))
    (Listing folder (Report true true false))
unfolding clap_on_literals
checked_lists program folder full = asks refl (refl, (full, refl), refl, refl)

hashed_lists : (program folder : Text) → folder ≢ []
    → AsksFor (as_read (program ∷ codes "takes" ∷ codes "--folder" ∷ folder ∷ codes "--digest" ∷ []))
    (Listing folder (Report false false true))
unfolding clap_on_literals
hashed_lists program folder full = asks refl (refl, (full, refl), refl, refl)

watches : (program folder : Text) → folder ≢ []
    → AsksFor (as_read (program ∷ codes "takes" ∷ codes "--folder" ∷ folder ∷ codes "--watch" ∷ []))
    (Listing folder Watch)
unfolding clap_on_literals
watches program folder full = asks refl (refl, (full, refl), refl, (refl, refl))

bad_both : (program folder : Text) → folder ≢ []
    → IsBadAt (as_read (program ∷ codes "takes" ∷ codes "--folder" ∷ folder ∷ codes "--check" ∷ codes "--watch" ∷ []))
    BadWatch
unfolding clap_on_literals
bad_both program folder full = (refl, (folder, (full, refl)) and_then refl and_then bad (λ good. is_not good))

bad_hashed_watch : (program folder : Text) → folder ≢ []
    → IsBadAt (as_read (program ∷ codes "takes" ∷ codes "--folder" ∷ folder ∷ codes "--digest" ∷ codes "--watch" ∷ []))
    BadWatch
unfolding clap_on_literals
bad_hashed_watch program folder full = (refl, (folder, (full, refl)) and_then refl and_then bad (λ good. is_not good))

bad_beside : (program folder text : Text) → folder ≢ []
    → IsBadAt (as_read (program ∷ codes "takes" ∷ codes "--folder" ∷ folder ∷ codes "--watch"
    ∷ (codes "--give-up=" ++ text) ∷ [])) BadWatch
unfolding clap_on_literals
bad_beside program folder text full = (refl, (folder, (full, refl)) and_then refl and_then bad (λ good. is_not good))

gives_up : (program folder name : Text) → folder ≢ [] → IsName name
    → AsksFor (as_read (program ∷ codes "takes" ∷ codes "--folder" ∷ folder ∷ (codes "--give-up=" ++ name) ∷ []))
    (Listing folder (GiveUp name))
unfolding clap_on_literals
gives_up program folder name full named = asks refl (refl, (full, refl), refl, (named, refl))

bad_name : (program folder text : Text) → folder ≢ [] → ¬ IsName text
    → IsBadAt (as_read (program ∷ codes "takes" ∷ codes "--folder" ∷ folder ∷ (codes "--give-up=" ++ text) ∷ []))
    BadGiveUp
unfolding clap_on_literals
bad_name program folder text full none = (refl, (folder, (full, refl)) and_then refl and_then refl and_then bad (λ good. none good.1.0))

bad_mix : (program folder text : Text) → folder ≢ []
    → IsBadAt (as_read (program ∷ codes "takes" ∷ codes "--folder" ∷ folder ∷ codes "--json"
    ∷ (codes "--give-up=" ++ text) ∷ [])) BadGiveUp
unfolding clap_on_literals
bad_mix program folder text full = (refl, (folder, (full, refl)) and_then refl and_then refl and_then bad (λ good. good.1))

bad_hashed_name : (program folder text : Text) → folder ≢ []
    → IsBadAt (as_read (program ∷ codes "takes" ∷ codes "--folder" ∷ folder ∷ codes "--digest"
    ∷ (codes "--give-up=" ++ text) ∷ [])) BadGiveUp
unfolding clap_on_literals
bad_hashed_name program folder text full =
    (refl, (folder, (full, refl)) and_then refl and_then refl and_then bad (λ good. good.1))

verifies : (program folder receipts : Text) → folder ≢ []
    → AsksFor (as_read (program ∷ codes "takes" ∷ codes "--folder" ∷ folder ∷ (codes "--verify=" ++ receipts) ∷ []))
    (Verifying folder receipts)
unfolding clap_on_literals
verifies program folder receipts full = asks refl (refl, (full, refl), record { is = refl; alone = refl })

bad_verify : (program folder receipts : Text) → folder ≢ []
    → IsBadAt (as_read (program ∷ codes "takes" ∷ codes "--folder" ∷ folder ∷ codes "--json"
    ∷ (codes "--verify=" ++ receipts) ∷ [])) BadVerify
unfolding clap_on_literals
bad_verify program folder receipts full = (refl, (folder, (full, refl)) and_then bad (λ good. is_not good))

bad_folder : (program : Text) → IsBadAt (as_read (program ∷ codes "takes" ∷ codes "--folder=" ∷ [])) Folder
unfolding clap_on_literals
bad_folder program = (refl, bad (λ good. good.1.0 refl))

pub runs_takes : (words : List Text) (line : CommandLine) → IsLineOf words line → RunsTakes words line
unfolding clap_on_literals
runs_takes words line is = record {
  joined = λ p f full e. asked_runs words _ line _ is e (joined_lists p f full);
  apart = λ p f full e. asked_runs words _ line _ is e (apart_lists p f full);
  checked = λ p f full e. asked_runs words _ line _ is e (checked_lists p f full);
  hashed = λ p f full e. asked_runs words _ line _ is e (hashed_lists p f full);
  watched = λ p f full e. asked_runs words _ line _ is e (watches p f full);
  both = λ p f full e. reported words _ line BadWatch is e (bad_both p f full);
  hashed_watch = λ p f full e. reported words _ line BadWatch is e (bad_hashed_watch p f full);
  beside = λ p f t full e. reported words _ line BadWatch is e (bad_beside p f t full);
  given_up = λ p f n full named e. asked_runs words _ line _ is e (gives_up p f n full named);
  unnamed = λ p f t full none e. reported words _ line BadGiveUp is e (bad_name p f t full none);
  mixed = λ p f t full e. reported words _ line BadGiveUp is e (bad_mix p f t full);
  hashed_name = λ p f t full e. reported words _ line BadGiveUp is e (bad_hashed_name p f t full);
  verified = λ p f r full e. asked_runs words _ line _ is e (verifies p f r full);
  verified_json = λ p f r full e. reported words _ line BadVerify is e (bad_verify p f r full);
  empty = λ p e. reported words _ line Folder is e (bad_folder p);
  none = λ p e. asked_reports MissingRequiredArgument words _ line is e refl;
}

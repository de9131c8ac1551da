-- The forms of `send` with a growing file, at values that are not known.
use Rattle.std.proofs.Common.{List, [], ◌∷◌, ◌++◌, false, Some, None, codes, refl}
use Rattle.clap.specs.Words.{Text}
use Rattle.clap.proofs.OnLiterals.{clap_on_literals}
use Rattle.bw_args.specs.Numbers.{IsCountText, most_fruitless, number_written}
use Rattle.bw_args.specs.PcmSources.{header_samples}
use Rattle.bw_args.specs.Lines.{IsLineOf, SendingPcm}
use Rattle.bw_args.specs.FileForms.{with_file}
use Rattle.bw_args.specs.GrowingForms.{RefusesFollower, RunsFollower, plain_follower, with_growing}
use Rattle.bw_args.specs.declared.CommandLine.{CommandLine}
use Rattle.bw_args.specs.declared.bad_value.BadValue.TheVariants.{LeftOut, Receipt, MixedSamples}
use Rattle.bw_args.proofs.FormLemmas.{asked_runs, asks}
use Rattle.bw_args.proofs.PcmLemmas.{pcm_by}
use Rattle.bw_args.proofs.SenderLemmas.{AsksSender, samples_by}
use Rattle.bw_args.proofs.Asked.{bad, ◌and_then◌}
use Rattle.bw_args.proofs.ValueLemmas.{LacksSender, not_mixed, nothing, reported}

alone_follows : (path : Text) → AsksSender false (with_growing path []) (λ a n. SendingPcm (plain_follower a n path))
unfolding clap_on_literals
alone_follows path program connect name address at named =
    asks refl (
      refl,
      pcm_by None refl refl (samples_by None None None refl refl refl refl refl) at (named, refl)
          (record { from = refl; sets = refl; refuses = refl; refuses_texts = refl; keeps = refl; kept = refl })
          (None, refl, refl) refl refl refl refl,
    )

until_follows : (path end : Text) → AsksSender false (with_growing path ((codes "--until=" ++ end) ∷ []))
    (λ a n. SendingPcm (record (plain_follower a n path) { pcm = header_samples (Some end) }))
unfolding clap_on_literals
until_follows path end program connect name address at named =
    asks refl (
      refl,
      pcm_by None refl refl (samples_by None None None refl refl refl refl refl) at (named, refl)
          (record { from = refl; sets = refl; refuses = refl; refuses_texts = refl; keeps = refl; kept = refl })
          (None, refl, refl) refl refl refl refl,
    )

fruitless_follows : (path count : Text) → IsCountText most_fruitless count
    → AsksSender false (with_growing path ((codes "--fruitless=" ++ count) ∷ []))
    (λ a n. SendingPcm (record (plain_follower a n path) { fruitless = Some (number_written count) }))
unfolding clap_on_literals
fruitless_follows path count number program connect name address at named =
    asks refl (
      refl,
      pcm_by (Some (number_written count)) (number, refl) refl
          (samples_by None None None refl refl refl refl refl) at (named, refl)
          (record { from = refl; sets = refl; refuses = refl; refuses_texts = refl; keeps = refl; kept = refl })
          (None, refl, refl) refl refl refl refl,
    )

pub runs_follower : (words : List Text) (line : CommandLine) → IsLineOf words line → RunsFollower words line
runs_follower words line is = record {
  alone = λ f p c n a at named e. asked_runs words _ line _ is e (alone_follows f p c n a at named);
  until = λ f u p c n a at named e. asked_runs words _ line _ is e (until_follows f u p c n a at named);
  fruitless = λ f k number p c n a at named e. asked_runs words _ line _ is e
      (fruitless_follows f k number p c n a at named);
}

mixed_fileless : LacksSender (codes "--follow" ∷ []) MixedSamples
unfolding clap_on_literals
mixed_fileless program connect name address at named = (
  refl,
  (address, at) and_then (name, (named, refl)) and_then nothing and_then nothing and_then nothing
      and_then nothing and_then refl and_then refl and_then refl
      and_then nothing and_then nothing and_then nothing and_then bad not_mixed,
)

mixed_until : (path end : Text) → LacksSender (with_file path ((codes "--until=" ++ end) ∷ [])) MixedSamples
unfolding clap_on_literals
mixed_until path end program connect name address at named = (
  refl,
  (address, at) and_then (name, (named, refl)) and_then nothing and_then nothing and_then nothing
      and_then nothing and_then refl and_then refl and_then refl
      and_then nothing and_then nothing and_then nothing and_then bad not_mixed,
)

mixed_state : (path state : Text) → LacksSender (with_growing path ((codes "--state=" ++ state) ∷ [])) MixedSamples
unfolding clap_on_literals
mixed_state path state program connect name address at named = (
  refl,
  (address, at) and_then (name, (named, refl)) and_then nothing and_then nothing and_then nothing
      and_then nothing and_then refl and_then refl and_then refl
      and_then nothing and_then nothing and_then nothing and_then bad not_mixed,
)

mixed_strict : (path : Text) → LacksSender (with_growing path (codes "--strict" ∷ [])) MixedSamples
unfolding clap_on_literals
mixed_strict path program connect name address at named = (
  refl,
  (address, at) and_then (name, (named, refl)) and_then nothing and_then nothing and_then nothing
      and_then nothing and_then refl and_then refl and_then refl
      and_then nothing and_then nothing and_then nothing and_then bad not_mixed,
)

mixed_texts : (path : Text) → LacksSender (with_growing path (codes "--strict-texts" ∷ [])) MixedSamples
unfolding clap_on_literals
mixed_texts path program connect name address at named = (
  refl,
  (address, at) and_then (name, (named, refl)) and_then nothing and_then nothing and_then nothing
      and_then nothing and_then refl and_then refl and_then refl
      and_then nothing and_then nothing and_then nothing and_then bad not_mixed,
)

growing_receipt : (path receipts : Text)
    → LacksSender (with_growing path ((codes "--receipt=" ++ receipts) ∷ [])) Receipt
unfolding clap_on_literals
growing_receipt path receipts program connect name address at named = (
  refl,
  (address, at) and_then (name, (named, refl)) and_then nothing and_then nothing and_then nothing
      and_then nothing and_then refl and_then bad not_mixed,
)

growing_left_out : (path left : Text)
    → LacksSender (with_growing path ((codes "--keep-left-out=" ++ left) ∷ [])) LeftOut
unfolding clap_on_literals
growing_left_out path left program connect name address at named = (
  refl,
  (address, at) and_then (name, (named, refl)) and_then nothing and_then nothing and_then nothing
      and_then nothing and_then refl and_then refl and_then bad not_mixed,
)

pub refuses_follower : (words : List Text) (line : CommandLine) → IsLineOf words line → RefusesFollower words line
refuses_follower words line is = record {
  fileless = λ p c n a at named e. reported words _ line MixedSamples is e (mixed_fileless p c n a at named);
  unfollowed = λ f u p c n a at named e. reported words _ line MixedSamples is e (mixed_until f u p c n a at named);
  state = λ f s p c n a at named e. reported words _ line MixedSamples is e (mixed_state f s p c n a at named);
  strict = λ f p c n a at named e. reported words _ line MixedSamples is e (mixed_strict f p c n a at named);
  strict_texts = λ f p c n a at named e. reported words _ line MixedSamples is e (mixed_texts f p c n a at named);
  receipt = λ f r p c n a at named e. reported words _ line Receipt is e (growing_receipt f r p c n a at named);
  left_out = λ f l p c n a at named e. reported words _ line LeftOut is e (growing_left_out f l p c n a at named);
}

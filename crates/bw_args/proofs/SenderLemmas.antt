-- The forms of `send`, at values that are not known.
use Rattle.std.proofs.Common.{◌≡◌, ℕ, Bool, List, [], ◌∷◌, ◌++◌, false, true, Option, Some, None, codes, refl, subst, sym}
use Rattle.std.specs.Prelude.{is_some, not}
use Rattle.std.specs.declared.net.socket_addr.SocketAddr.{SocketAddr}
use Rattle.std.specs.Net.Socket.{socket_port}
use Rattle.clap.specs.Words.{Text}
use Rattle.clap.proofs.OnLiterals.{clap_on_literals}
use Rattle.bw_args.specs.Addresses.{IsAddress, local}
use Rattle.bw_args.specs.Numbers.{IsCountText, IsNumber, most_block, most_rounds, most_seconds, number_written}
use Rattle.bw_args.specs.ReadWords.{as_read}
use Rattle.bw_args.specs.Sources.{is_mixed, path_given}
use Rattle.bw_args.specs.PcmSources.{GivesFormat, GivesNumber, GivesSamples, PlainPcm, are_samples_mixed, samples_with}
use Rattle.bw_args.specs.PcmSources.{described_samples}
use Rattle.bw_args.specs.Lines.{AsksFor, GivesAddress, GivesCount, GivesName, GivesRounds, GivesSender, IsLineOf, IsName}
use Rattle.bw_args.specs.Lines.{Sending, Wish, is_set}
use Rattle.bw_args.specs.PeerForms.{RunsSender, plain_sender, sending}
use Rattle.bw_args.specs.declared.CommandLine.{CommandLine}
use Rattle.bw_args.specs.declared.commands.samples.WrittenFormat.{WrittenFormat}
use Rattle.bw_args.specs.declared.peers.Send.{Send as Sender}
use Rattle.bw_args.proofs.FormLemmas.{asked_runs, asks}
use Rattle.bw_args.proofs.ServerLemmas.{IsReadApart, asks_apart, by_number}

-- the samples that are described, by the options that say it
pub samples_by : {given : Text → Option Text} {samples : Option PlainPcm} (format : Option WrittenFormat)
    (skip block : Option ℕ) → GivesFormat (given (codes "pcm")) format → GivesNumber (given (codes "skip")) skip
    → GivesCount most_block (given (codes "block")) block → are_samples_mixed given ≡ false
    → samples ≡ described_samples (samples_with skip block (given (codes "until")) (given (codes "marks"))
    (is_some (given (codes "spool"))) (not (is_set (given (codes "no-defaults")))))
    (is_set (given (codes "follow"))) (given (codes "until")) format
    → GivesSamples given samples
samples_by format skip block formatted begins blocks unmixed are = record {
  format = format;
  skip = skip;
  block = block;
  formatted = formatted;
  begins = begins;
  blocks = blocks;
  unmixed = unmixed;
  are = are;
}

-- what of a sender is given says it
sender_by : {given : Text → Option Text} {sender : Sender} → GivesRounds (given (codes "rounds")) sender.rounds
    → GivesCount most_seconds (given (codes "timeout")) sender.timeout
    → GivesAddress (is_set (given (codes "network"))) (given (codes "connect")) sender.connect
    → GivesName (given (codes "name")) sender.name → path_given given ≡ None → is_mixed given ≡ false
    → GivesSamples given None → GivesSender given sender
sender_by tries waits connects named lines unmixed unsampled = record {
  connects = connects;
  named = named;
  tries = tries;
  waits = waits;
  lines = lines;
  unmixed = unmixed;
  unsampled = unsampled;
}

-- these further words ask for this
abbrev pub AsksSender : Bool → List Text → (SocketAddr → Text → Wish) → Type 0
AsksSender network more wish = (program connect name : Text) (address : SocketAddr)
    → IsAddress network connect address → IsName name
    → AsksFor (as_read (sending program connect name more)) (wish address name)

alone : AsksSender false [] (λ a n. Sending (plain_sender a n))
unfolding clap_on_literals
alone program connect name address at named =
    asks refl (
      refl,
      sender_by (None, refl, refl) refl at (named, refl) refl refl
          (samples_by None None None refl refl refl refl refl),
    )

network : AsksSender true (codes "--network" ∷ []) (λ a n. Sending (plain_sender a n))
unfolding clap_on_literals
network program connect name address at named =
    asks refl (
      refl,
      sender_by (None, refl, refl) refl at (named, refl) refl refl
          (samples_by None None None refl refl refl refl refl),
    )

rounds : (count : Text) → IsCountText most_rounds count → AsksSender false ((codes "--rounds=" ++ count) ∷ [])
    (λ a n. Sending (record (plain_sender a n) { rounds = number_written count }))
unfolding clap_on_literals
rounds count is program connect name address at named =
    asks refl (
      refl,
      sender_by (Some (number_written count), (is, refl), refl) refl at (named, refl) refl refl
          (samples_by None None None refl refl refl refl refl),
    )

timeout : (seconds : Text) → IsCountText most_seconds seconds
    → AsksSender false ((codes "--timeout=" ++ seconds) ∷ [])
    (λ a n. Sending (record (plain_sender a n) { timeout = Some (number_written seconds) }))
unfolding clap_on_literals
timeout seconds is program connect name address at named =
    asks refl (
      refl,
      sender_by (None, refl, refl) (is, refl) at (named, refl) refl refl
          (samples_by None None None refl refl refl refl refl),
    )

apart_near : (program name : Text) (address : SocketAddr) → IsAddress false (local (socket_port address)) address
    → IsName name → AsksFor
    (as_read (program ∷ codes "send" ∷ codes "--connect" ∷ local (socket_port address) ∷ codes "--name" ∷ name ∷ []))
    (Sending (plain_sender address name))
unfolding clap_on_literals
apart_near program name address at named =
    asks refl (
      refl,
      sender_by (None, refl, refl) refl at (named, refl) refl refl
          (samples_by None None None refl refl refl refl refl),
    )

apart_asks : (program connect name : Text) (address : SocketAddr) → IsAddress false connect address → IsName name
    → AsksFor (as_read (program ∷ codes "send" ∷ codes "--connect" ∷ connect ∷ codes "--name" ∷ name ∷ []))
    (Sending (plain_sender address name))
apart_asks program connect name address at named =
    subst (λ t. AsksFor (as_read (program ∷ codes "send" ∷ codes "--connect" ∷ t ∷ codes "--name" ∷ name ∷ []))
    (Sending (plain_sender address name))) (sym (at.near refl))
    (apart_near program name address (subst (λ t. IsAddress false t address) (at.near refl) at) named)

rounds_apart : (program connect name text : Text) → IsNumber text
    → IsReadApart (sending program connect name) (codes "--rounds") text
unfolding clap_on_literals
rounds_apart program connect name = by_number (IsReadApart (sending program connect name) (codes "--rounds"))
    (λ ds. (refl, refl, refl, refl, refl, refl, refl, refl, refl, refl))

timeout_apart : (program connect name text : Text) → IsNumber text
    → IsReadApart (sending program connect name) (codes "--timeout") text
unfolding clap_on_literals
timeout_apart program connect name = by_number (IsReadApart (sending program connect name) (codes "--timeout"))
    (λ ds. (refl, refl, refl, refl, refl, refl, refl, refl, refl, refl))

pub runs_sender : (words : List Text) (line : CommandLine) → IsLineOf words line → RunsSender words line
runs_sender words line is = record {
  alone = λ p c n a at named e. asked_runs words _ line _ is e (alone p c n a at named);
  apart = λ p c n a at named e. asked_runs words _ line _ is e (apart_asks p c n a at named);
  rounds = λ t given p c n a at named e. asked_runs words _ line _ is e (rounds t given p c n a at named);
  rounds_apart = λ t given p c n a at named e.
      asked_runs words _ line _ is e
      (asks_apart (sending p c n) (codes "--rounds") t _ (rounds_apart p c n t given.0)
      (rounds t given p c n a at named));
  timeout = λ t given p c n a at named e. asked_runs words _ line _ is e (timeout t given p c n a at named);
  timeout_apart = λ t given p c n a at named e.
      asked_runs words _ line _ is e
      (asks_apart (sending p c n) (codes "--timeout") t _ (timeout_apart p c n t given.0)
      (timeout t given p c n a at named));
  network = λ p c n a at named e. asked_runs words _ line _ is e (network p c n a at named);
}

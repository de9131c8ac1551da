-- Values of another form, each of which is a fault of its own.
use Rattle.std.proofs.Common.{◌≡◌, ◌≢◌, List, [], ◌∷◌, ◌++◌, true, false, Option, Some, None, codes, refl, ap, subst}
use Rattle.std.proofs.Common.{inl, inr}
use Rattle.std.specs.declared.net.socket_addr.SocketAddr.{SocketAddr}
use Rattle.clap.specs.Words.{IsAmong, Row, Text, kind_of, subcommand_of}
use Rattle.clap.proofs.OnLiterals.{clap_on_literals}
use Rattle.bw_args.specs.Commands.{command_line}
use Rattle.bw_args.specs.ReadWords.{as_read}
use Rattle.bw_args.specs.Lines.{IsFirstBad, IsLineOf, IsLineRead, IsName, IsWishOf, Lacks, Wish}
use Rattle.bw_args.specs.Lines.{given_on_line, looked_at, error_kinds, wish_of}
use Rattle.bw_args.specs.Addresses.{IsAddress}
use Rattle.bw_args.specs.Forms.{RefusesValues}
use Rattle.bw_args.specs.PeerForms.{sending, serving}
use Rattle.bw_args.specs.Numbers.{IsLimitText, IsNumber, default_limit}
use Rattle.bw_args.specs.declared.CommandLine.{CommandLine}
use Rattle.bw_args.specs.declared.CommandLine.TheVariants.{Run, BadValue as Bad, Report}
use Rattle.bw_args.specs.declared.bad_value.BadValue.{BadValue}
use Rattle.bw_args.specs.declared.bad_value.BadValue.TheVariants.{Name, Limit, Fuse}
use Rattle.bw_args.proofs.Asked.{bad, good_not_bad, one_bad, wished_good, ◌and_then◌}

-- the command's first bad value
abbrev pub HasFirstBad : Option (Text × List Row) → BadValue → Type 0
HasFirstBad None value = ⊥
HasFirstBad (Some command) value =
    IsFirstBad (looked_at command.0 (given_on_line command.1)) (given_on_line command.1) value

-- a command with a bad value asks for nothing
bad_not_wished : (command : Option (Text × List Row)) (value : BadValue) (wish : Wish) → HasFirstBad command value
    → ¬ IsWishOf command wish
bad_not_wished None value wish first asked = first
bad_not_wished (Some command) value wish first asked =
    good_not_bad (looked_at command.0 (given_on_line command.1)) (given_on_line command.1) value
    (wished_good command.0 command.1 wish asked) first

-- and lacks no other one
one_lacked : (command : Option (Text × List Row)) (a b : BadValue) → HasFirstBad command a → Lacks command b → b ≡ a
one_lacked None a b bad lacks = absurd bad
one_lacked (Some command) a b bad lacks = elim lacks [
  | inl first ↦ one_bad (looked_at command.0 (given_on_line command.1)) (given_on_line command.1) b a first bad
  | inr none ↦ absurd (subst (λ (values : List BadValue). IsFirstBad values (given_on_line command.1) a) none.0 bad)
]

-- words that are taken, and whose command has a first bad value, report it
bad_reported : (words : List Text) (line : CommandLine) (value : BadValue) → error_kinds words ≡ []
    → HasFirstBad (subcommand_of command_line words) value → IsLineRead words line → line ≡ Bad value
bad_reported words (Run task) value taken bad is =
    absurd (bad_not_wished (subcommand_of command_line words) value (wish_of task) bad is.asked)
bad_reported words (Bad other) value taken bad is =
    ap Bad (one_lacked (subcommand_of command_line words) value other bad is.lacks)
bad_reported words (Report error) value taken bad is = absurd (subst (IsAmong (kind_of error)) taken is.reason)

-- as they are read
pub reported : (words asking : List Text) (line : CommandLine) (value : BadValue) → IsLineOf words line
    → words ≡ asking
    → (error_kinds (as_read asking) ≡ []) × HasFirstBad (subcommand_of command_line (as_read asking)) value
    → line ≡ Bad value
reported words asking line value is e bad =
    bad_reported (as_read asking) line value bad.0 bad.1 (subst (λ w. IsLineRead (as_read w) line) e is)

-- the words are taken, and this is the first bad value
abbrev pub IsBadAt : List Text → BadValue → Type 0
IsBadAt words value =
    (error_kinds words ≡ []) × HasFirstBad (subcommand_of command_line words) value

-- so of a sender with these further words
abbrev pub LacksSender : List Text → BadValue → Type 0
LacksSender more value = (program connect name : Text) (address : SocketAddr) → IsAddress false connect address
    → IsName name → IsBadAt (as_read (sending program connect name more)) value

-- and of a server
abbrev pub LacksServer : List Text → BadValue → Type 0
LacksServer more value = (program listen folder : Text) (address : SocketAddr) → IsAddress false listen address
    → folder ≢ [] → IsBadAt (as_read (serving program listen folder more)) value

-- where an option isn't given, nothing is
pub nothing : {A : Type 0} → (given : Option A) × (given ≡ None)
nothing = (None, refl)

-- options that don't belong together
pub not_mixed : ¬ (true ≡ false)
not_mixed same = let apart : true ≡ false = same in cc

bad_limit : (program text : Text) → ¬ IsLimitText text
    → IsBadAt (program ∷ codes "replay" ∷ (codes "--limit=" ++ text) ∷ []) Limit
unfolding clap_on_literals
bad_limit program text none = (refl, bad (λ good. none good.1.0))

bad_fuse : (program text : Text) → ¬ IsNumber text
    → IsBadAt (program ∷ codes "replay" ∷ (codes "--fuse=" ++ text) ∷ []) Fuse
unfolding clap_on_literals
bad_fuse program text none = (refl, (default_limit, refl) and_then bad (λ good. none good.1.0))

bad_limit_first : (program limit fuse : Text) → ¬ IsLimitText limit
    → IsBadAt (program ∷ codes "replay" ∷ (codes "--fuse=" ++ fuse) ∷ (codes "--limit=" ++ limit) ∷ []) Limit
unfolding clap_on_literals
bad_limit_first program limit fuse none = (refl, bad (λ good. none good.1.0))

bad_name : (program text : Text) → ¬ IsName text
    → IsBadAt (program ∷ codes "rehearse" ∷ (codes "--name=" ++ text) ∷ []) Name
unfolding clap_on_literals
bad_name program text none = (refl, bad (λ good. none good.1.0))

bad_name_first : (program name limit : Text) → ¬ IsName name
    → IsBadAt (program ∷ codes "rehearse" ∷ (codes "--limit=" ++ limit) ∷ (codes "--name=" ++ name) ∷ []) Name
unfolding clap_on_literals
bad_name_first program name limit none = (refl, bad (λ good. none good.1.0))

bad_limit_then : (program name limit : Text) → IsName name → ¬ IsLimitText limit
    → IsBadAt (program ∷ codes "rehearse" ∷ (codes "--name=" ++ name) ∷ (codes "--limit=" ++ limit) ∷ []) Limit
unfolding clap_on_literals
bad_limit_then program name limit named none =
    (refl, (name, (named, refl)) and_then bad (λ good. none good.1.0))

pub refuses_values : (words : List Text) (line : CommandLine) → IsLineOf words line → RefusesValues words line
refuses_values words line is = record {
  limit = λ program text none e. reported words _ line Limit is e (bad_limit program text none);
  fuse = λ program text none e. reported words _ line Fuse is e (bad_fuse program text none);
  first = λ program limit fuse none e. reported words _ line Limit is e (bad_limit_first program limit fuse none);
  name = λ program text none e. reported words _ line Name is e (bad_name program text none);
  name_first = λ program name limit none e. reported words _ line Name is e (bad_name_first program name limit none);
  name_then = λ program name limit named none e.
      reported words _ line Limit is e (bad_limit_then program name limit named none);
}

-- What a parse by `clap` says of the words.
use Rattle.std.proofs.Common.{◌≡◌, ◌≢◌, List, [], ◌∷◌, Bool, true, false, codes, refl, ap, subst, sym, ◌∙◌, inl, inr}
use Rattle.std.proofs.Common.{None, Option, Some, Result}
use Rattle.std.proofs.Common.{Ok}
use Rattle.std.proofs.Common.{Err, IfOk, IsErr}
use Rattle.std.specs.declared.alloc.AllocError.{AllocError}
use Rattle.clap.specs.Words.{App, Text, HasKind, IsAmong, Row, fault_of, is_simple, is_simple_and_free, kind_of}
use Rattle.clap.specs.Words.{subcommand_of}
use Rattle.clap.specs.declared.Error.{Error}
use Rattle.clap.specs.declared.error.ErrorKind.{ErrorKind}
use Rattle.clap.specs.declared.error.ErrorKind.TheVariants.{MissingRequiredArgument, OutOfMemory}
use Rattle.clap.specs.Kinds.{Kinds, or_else}
use Rattle.std.specs.Prelude.{◌&&◌, ◌||◌, if◌then◌else◌, is_some, not}
use Rattle.std.specs.Str.{bytes_eq}
use Rattle.clap.proofs.OnLiterals.{clap_on_literals}
use Rattle.bw_args.specs.Commands.{command_line}
use Rattle.bw_args.specs.ReadWords.{as_read}
use Rattle.bw_args.specs.Lines.{AsksFor, AsksNothing, IsLineFor, IsLineOf, IsLineRead, IsWishOf, IsReportedOf, Lacks}
use Rattle.bw_args.specs.Lines.{GivesName, IsTakenLine, Sending, SendingFiles, SendingPcm, Uploading, Wish}
use Rattle.bw_args.specs.Lines.{is_nameless, error_kinds, wish_of}
use Rattle.bw_args.specs.declared.CommandLine.{CommandLine}
use Rattle.bw_args.specs.declared.CommandLine.TheVariants.{Run, BadValue as Bad, Report}

-- the contracts of `clap` are exact at this command line
is_exact : is_simple_and_free command_line ≡ true
unfolding clap_on_literals
is_exact = refl

is_plain : is_simple command_line ≡ true
unfolding clap_on_literals
is_plain = refl

-- what is asked for has a name, where it needs one
named : (is_send : Bool) (name : Option Text) (take : Text) (several : Bool) → GivesName name take
    → (is_send && not (is_some name || several)) ≡ false
named is_send None take several given = absurd given
named false (Some text) take several given = refl
named true (Some text) take several given = refl

several_named : (is_send : Bool) (name : Option Text) (several : Bool) → several ≡ true
    → (is_send && not (is_some name || several)) ≡ false
several_named false name several is = refl
several_named true None several is = ap not is
several_named true (Some text) several is = refl

other_command : (name command : Text) (lacks : Bool) → name ≡ command → bytes_eq command (codes "send") ≡ false
    → (bytes_eq name (codes "send") && lacks) ≡ false
other_command name command lacks is apart =
    ap (λ n. bytes_eq n (codes "send") && lacks) is ∙ ap (λ b. b && lacks) apart

pub asked_named : (command : Option (Text × List Row)) (wish : Wish) → IsWishOf command wish
    → is_nameless command ≡ false
asked_named None wish asked = refl
asked_named (Some command) (Sending sender) asked = named _ _ sender.name _ asked.1.named
asked_named (Some command) (Uploading sender) asked = named _ _ sender.name _ asked.1.named
asked_named (Some command) (SendingPcm sender) asked = named _ _ sender.name _ asked.1.named
asked_named (Some command) (SendingFiles sender) asked = several_named _ _ _ asked.1.some
asked_named (Some command) wish asked = other_command command.0 _ _ asked.0 refl

-- words that `clap` takes, and that lack no name, have no fault
pub no_reason : (words : List Text) → fault_of command_line words ≡ []
    → is_nameless (subcommand_of command_line words) ≡ false → error_kinds words ≡ []
no_reason words taken named =
    ap (λ k. or_else k (if is_nameless (subcommand_of command_line words) then MissingRequiredArgument ∷ [] else []))
    taken
    ∙ ap (λ b. if b then MissingRequiredArgument ∷ [] else []) named

-- those of `clap` come first
pub fault_reason : (words : List Text) (kind : ErrorKind) → fault_of command_line words ≡ kind ∷ []
    → error_kinds words ≡ kind ∷ []
fault_reason words kind fault =
    ap (λ k. or_else k (if is_nameless (subcommand_of command_line words) then MissingRequiredArgument ∷ [] else []))
    fault

-- and if they lack a name, that is the fault
nameless_reason : (words : List Text) → fault_of command_line words ≡ []
    → is_nameless (subcommand_of command_line words) ≡ true → error_kinds words ≡ MissingRequiredArgument ∷ []
nameless_reason words taken nameless =
    ap (λ k. or_else k (if is_nameless (subcommand_of command_line words) then MissingRequiredArgument ∷ [] else []))
    taken
    ∙ ap (λ b. if b then MissingRequiredArgument ∷ [] else []) nameless

-- words that ask for something have no fault
pub asked_reason : (words : List Text) (wish : Wish) → AsksFor words wish → error_kinds words ≡ []
asked_reason words wish asks =
    no_reason words asks.taken (asked_named (subcommand_of command_line words) wish asks.asked)

among_first : (kind : ErrorKind) (first later : Kinds) → IsAmong kind first → IsAmong kind (or_else first later)
among_first kind [] later among = absurd among
among_first kind (k ∷ ks) later among = among

-- words that `clap` refuses, or answers with help or the version
pub reported_line : (a : App) (words : List Text) (error : Error) → a ≡ command_line
    → (is_simple_and_free a ≡ true → HasKind (fault_of a words) error) → kind_of error ≢ OutOfMemory
    → IsReportedOf words (kind_of error)
reported_line a words error is kinds known =
    let has : HasKind (fault_of command_line words) error =
    subst (λ (b : App). HasKind (fault_of b words) error) is (kinds (ap is_simple_and_free is ∙ is_exact)) in
    elim has [
      | inl memory ↦ absurd (known memory)
      | inr among ↦ record {
        asks_nothing = λ wish asks. subst (IsAmong (kind_of error)) asks.taken among;
        not_memory = known;
        reason = among_first (kind_of error) (fault_of command_line words) _ among;
      }
    ]

no_fault : (a : App) (words : List Text) → a ≡ command_line
    → (is_simple_and_free a ≡ true → fault_of a words ≡ []) → fault_of command_line words ≡ []
no_fault a words is free =
    subst (λ (b : App). fault_of b words ≡ []) is (free (ap is_simple_and_free is ∙ is_exact))

same_command : (a : App) (words : List Text) (command : Option (Text × List Row)) → a ≡ command_line
    → (is_simple a ≡ true → command ≡ subcommand_of a words) → command ≡ subcommand_of command_line words
same_command a words command is found =
    found (ap is_simple is ∙ is_plain) ∙ ap (λ (b : App). subcommand_of b words) is

-- words that `clap` takes, and that ask for something
asked_line : (a : App) (words : List Text) (command : Option (Text × List Row)) (wish : Wish) → a ≡ command_line
    → (is_simple_and_free a ≡ true → fault_of a words ≡ [])
    → (is_simple a ≡ true → command ≡ subcommand_of a words)
    → IsWishOf command wish → AsksFor words wish
asked_line a words command wish is free found given = record {
  taken = no_fault a words is free;
  asked = subst (λ o. IsWishOf o wish) (same_command a words command is found) given;
}

-- words whose command asks for nothing
asks_nothing : (a : App) (words : List Text) (command : Option (Text × List Row)) → a ≡ command_line
    → (is_simple a ≡ true → command ≡ subcommand_of a words) → AsksNothing command → (wish : Wish)
    → ¬ AsksFor words wish
asks_nothing a words command is found none wish asks =
    none wish (subst (λ o. IsWishOf o wish) (sym (same_command a words command is found)) asks.asked)

-- the line that a command results in which has a name, where it needs one
pub taken_line : (command : Option (Text × List Row)) (line : CommandLine) → is_nameless command ≡ false
    → IsLineFor command line → IsTakenLine command line
taken_line command (Run task) named given = (named, given)
taken_line command (Bad value) named given = (named, given)
taken_line command (Report error) named given = absurd given

-- a missing argument isn't lack of memory
missing_known : MissingRequiredArgument ≢ OutOfMemory
missing_known same = cc

-- the line that words result in, which `clap` takes
pub line_asked : (a : App) (words : List Text) (command : Option (Text × List Row)) (line : CommandLine) →
    a ≡ command_line
    → (is_simple_and_free a ≡ true → fault_of a words ≡ [])
    → (is_simple a ≡ true → command ≡ subcommand_of a words)
    → IsTakenLine command line → IsLineRead words line
line_asked a words command (Run task) is free found given =
    asked_line a words command (wish_of task) is free found given.1
line_asked a words command (Bad value) is free found bad = record {
  taken = no_reason words (no_fault a words is free)
      (ap is_nameless (sym (same_command a words command is found)) ∙ bad.0);
  asks_nothing = asks_nothing a words command is found bad.1.0;
  lacks = subst (λ o. Lacks o value) (same_command a words command is found) bad.1.1;
}
line_asked a words command (Report error) is free found lack =
    let nameless = ap is_nameless (sym (same_command a words command is found)) ∙ lack.0 in
    let reason = nameless_reason words (no_fault a words is free) nameless in
    record {
      asks_nothing = λ wish asks. let bad : true ≡ false =
          sym nameless ∙ asked_named (subcommand_of command_line words) wish asks.asked in cc;
      not_memory = λ memory. missing_known (sym lack.1 ∙ memory);
      reason = subst (IsAmong (kind_of error)) (sym reason) (inl lack.1);
    }

-- the line that reports an error, where memory did not run out
pub reported_result : (result : Result CommandLine AllocError) (words : List Text) (error : Error)
    → IfOk result (λ line. line ≡ Report error) → (kind_of error ≡ OutOfMemory → IsErr result)
    → (kind_of error ≢ OutOfMemory → IsReportedOf words (kind_of error)) → IfOk result (IsLineRead words)
reported_result (Ok line) words error reported failed known = subst (IsLineRead words) (sym reported)
    (known (λ memory. let bad : false ≡ true = failed memory in cc))
reported_result (Err e) words error reported failed known = reported

-- the line of the words as they are read is that of the words
pub line_of_read : (read words : List Text) (line : CommandLine) → read ≡ as_read words → IsLineRead read line
    → IsLineOf words line
line_of_read read words line e is = subst (λ w. IsLineRead w line) e is

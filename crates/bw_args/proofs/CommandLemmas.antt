-- A command of another name, which `clap` doesn't let through.
use Rattle.std.proofs.Common.{◌≡◌, List, [], Bool, true, false, Option, Some, codes, refl, subst, sym, ◌∙◌, inr}
use Rattle.std.specs.Prelude.{if◌then◌else◌}
use Rattle.std.specs.Str.{bytes_eq}
use Rattle.std.proofs.lemmas.Slice.Eq.{bytes_eq-Decides}
use Rattle.clap.specs.Words.{Row, Text}
use Rattle.bw_args.specs.Lines.{AsksNothing, IsLineFor, given_on_line, looked_at}
use Rattle.bw_args.specs.Lines.{Replaying, Rehearsing, Inspecting, InspectingFiles, Serving, Sending, Uploading}
use Rattle.bw_args.specs.Lines.{SendingFiles, SendingPcm, Packing, Picturing, Repairing, Converting, Joining, Listing, Verifying}
use Rattle.bw_args.specs.declared.CommandLine.TheVariants.{BadValue as Bad}
use Rattle.bw_args.specs.declared.bad_value.BadValue.{BadValue}
use Rattle.bw_args.specs.declared.bad_value.BadValue.TheVariants.{Limit, Inspection, Form, LeftOut}

-- a name that isn't this one
not_named : {P : Type 0} (name command : Text) → bytes_eq name command ≡ false → name ≡ command → P
not_named name command apart is =
    let same : bytes_eq name command ≡ true = (bytes_eq-Decides name command).1 is in
    let bad : true ≡ false = sym same ∙ apart in cc

-- nothing is looked at where no test holds
none_of : (a b c d e : List BadValue) (p q r s t : Bool) → p ≡ false → q ≡ false → r ≡ false → s ≡ false → t ≡ false
    → (if p then a else (if q then b else (if r then c else (if s then d else (if t then e else []))))) ≡ []
none_of a b c d e p q r s t is_p is_q is_r is_s is_t = rw (is_p, is_q, is_r, is_s, is_t) refl

a_limit : (p q r : Bool) → p ≡ false → q ≡ false → r ≡ false
    → Limit ≡ (if p then Inspection else (if q then Form else (if r then LeftOut else Limit)))
a_limit p q r is also then_too = rw (is, also, then_too) refl

-- with a command of another name nothing is asked for
pub unknown_line : (command : Option (Text × List Row)) (name : Text) (options : List Row)
    → Some (name, options) ≡ command → bytes_eq name (codes "replay") ≡ false
    → bytes_eq name (codes "rehearse") ≡ false → bytes_eq name (codes "inspect") ≡ false
    → bytes_eq name (codes "serve") ≡ false → bytes_eq name (codes "send") ≡ false
    → bytes_eq name (codes "pack") ≡ false → bytes_eq name (codes "picture") ≡ false
    → bytes_eq name (codes "repair") ≡ false → bytes_eq name (codes "convert") ≡ false
    → bytes_eq name (codes "join") ≡ false → bytes_eq name (codes "takes") ≡ false
    → IsLineFor command (Bad Limit)
unknown_line command name options same replay rehearse inspect serve send pack picture repair convert join takes =
    subst (λ c. IsLineFor c (Bad Limit)) same (nothing, inr (unlooked, a_limit _ _ _ inspect convert pack))
  where
    unlooked : looked_at name (given_on_line options) ≡ []
    unlooked = none_of _ _ _ _ _ (bytes_eq name (codes "replay")) (bytes_eq name (codes "rehearse"))
        (bytes_eq name (codes "serve")) (bytes_eq name (codes "send")) (bytes_eq name (codes "takes"))
        replay rehearse serve send takes

    nothing : AsksNothing (Some (name, options))
    nothing (Replaying limit fuse) asked = not_named name (codes "replay") replay asked.0
    nothing (Rehearsing take limit) asked = not_named name (codes "rehearse") rehearse asked.0
    nothing (Inspecting path) asked = not_named name (codes "inspect") inspect asked.0
    nothing (InspectingFiles inspection) asked = not_named name (codes "inspect") inspect asked.0
    nothing (Serving server) asked = not_named name (codes "serve") serve asked.0
    nothing (Sending sender) asked = not_named name (codes "send") send asked.0
    nothing (Uploading sender) asked = not_named name (codes "send") send asked.0
    nothing (SendingPcm sender) asked = not_named name (codes "send") send asked.0
    nothing (SendingFiles sender) asked = not_named name (codes "send") send asked.0
    nothing (Packing source) asked = not_named name (codes "pack") pack asked.0
    nothing (Picturing path) asked = not_named name (codes "picture") picture asked.0
    nothing (Repairing path write) asked = not_named name (codes "repair") repair asked.0
    nothing (Converting path to form) asked = not_named name (codes "convert") convert asked.0
    nothing (Joining take left) asked = not_named name (codes "join") join asked.0
    nothing (Listing folder work) asked = not_named name (codes "takes") takes asked.0
    nothing (Verifying folder receipts) asked = not_named name (codes "takes") takes asked.0

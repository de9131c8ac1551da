-- What is done where a command line names what to send, by what is there; and what is reported to a
-- user who types it.
use Rattle.std.specs.Prelude.{◌≡◌, ◌⊎◌, ℕ, Bool, true, false, List, codes}
use Rattle.bw_stream.specs.declared.sink.Sink.{Ghosts as Writer}
use Rattle.bw_console.specs.Prints.{Print, IsOf, IsPrint}
use Rattle.bw_console.specs.declared.exit.Exit.{Exit}
use Rattle.bw_ports.specs.Kinds.{IsKindReport, is_odd_kind}
use Rattle.bw_ports.specs.declared.file_kind.FileKind.{FileKind}
use Rattle.bw_ports.specs.declared.file_kind.FileKinds.{Ghosts as KindGhosts}

-- what is reported to a user who types what is sent
abbrev pub typed_note : List ℕ
typed_note = codes "send: reads requests from standard input, each a line of hex, to its end (Ctrl-D)\n"

module _ {E : Type 0} (reported : Writer E) where
  -- it is reported if a user types
  abbrev pub NotesInput : Bool → E → E → Type 0
  NotesInput true e e' = (print : Print) × IsOf typed_note print × IsPrint reported print e e'
  NotesInput false e e' = e' ≡ e

module _ {F Q O E : Type 0} (kinds : KindGhosts F) (reported : Writer E) where
  -- something of this kind is at the path: that is reported, and nothing else is done
  pub record RefusesKind (path : List ℕ) (kind : FileKind) (is_spool : Bool) (exit : Exit) (f f' : F)
      (q q' : Q) (o o' : O) (e e' : E) : Type 0 where
    pub odd : is_odd_kind kind is_spool ≡ true
    pub print : Print
    pub says : IsKindReport path kind is_spool exit print
    pub unread : f' ≡ f
    pub unpaused : q' ≡ q
    pub unprinted : o' ≡ o
    pub reports : IsPrint reported print e e'

  -- a file is at the path, as far as that is known, and this is done; or it is refused
  abbrev pub IfFile : List ℕ → Bool → Exit → F → F → Q → Q → O → O → E → E →
      Type 0 → Type 0
  IfFile path is_spool exit f f' q q' o o' e e' done =
      (kind : FileKind) × kinds.kinds f path kind
      × (RefusesKind path kind is_spool exit f f' q q' o o' e e'
      ⊎ ((is_odd_kind kind is_spool ≡ false) × done))

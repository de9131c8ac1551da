use Rattle.std.proofs.Common.{rules, ap, sym, ◌∙◌, ◌≡◌, List, ℕ, Bool, string_bytes, false}
use Rattle.std.specs.Prelude.{if◌then◌else◌}
use Rattle.bw_folder.specs.declared.journal.OpenJournal.{OpenJournal}
use Rattle.bw_folder.specs.Journals.{existences, known_but, notes_at}
use Rattle.bw_folder.specs.PendingNotes.{pendings, unwritten_of, waits, noted_with}
use Rattle.bw_folder.proofs.ClosedNames.{known_left}
use Rattle.bw_folder.proofs.PendingForms.{waits_left, noted_left}
use Rattle.bw_folder.proofs.journal.FolderJournal.release.Goals as goal

pub returns-clause-known : goal.returns-clause-known
returns-clause-known g c =
    let items = c.args.self.now.journals.items in
    let name : List ℕ = c.args.name.now in
    let idle : waits (unwritten_of (pendings items) name).bytes ≡ false = search rules in
    ap (λ (js : List (OpenJournal g.row.D-File.Denot)). existences js) c.close.ensures.journals
    ∙ known_left items name
    ∙ sym (ap (λ (b : Bool). if b then existences items else known_but name (existences items)) idle)

pub returns-clause-noted : goal.returns-clause-noted
returns-clause-noted g c = λ n.
    let old = c.args.self.now in
    let new = c.close.new.self in
    let items = old.journals.items in
    let name : List ℕ = c.args.name.now in
    let idle : waits (unwritten_of (pendings items) name).bytes ≡ false = search rules in
    let found = notes_at (g.D.Disk.contents new.disk) (string_bytes new.folder) n in
    ap (λ (js : List (OpenJournal g.row.D-File.Denot)). noted_with (unwritten_of (pendings js) n) found) c.close.ensures.journals
    ∙ noted_left items name n found idle
    ∙ ap (λ d. noted_with (unwritten_of (pendings items) n) (notes_at (g.D.Disk.contents d) (string_bytes new.folder) n))
    c.close.ensures.disk
    ∙ ap (λ f. noted_with (unwritten_of (pendings items) n) (notes_at (g.D.Disk.contents old.disk) (string_bytes f) n))
    c.close.ensures.settings.2

pub returns-clause-pending : goal.returns-clause-pending
returns-clause-pending g c = λ n.
    let items = c.args.self.now.journals.items in
    let name : List ℕ = c.args.name.now in
    let idle : waits (unwritten_of (pendings items) name).bytes ≡ false = search rules in
    ap (λ (js : List (OpenJournal g.row.D-File.Denot)). waits (unwritten_of (pendings js) n).bytes) c.close.ensures.journals
    ∙ waits_left items name n idle

use Rattle.std.proofs.Common.{rules, ◌∙◌, ap, not, List}
use Rattle.std.specs.Str.{bytes_eq}
use Rattle.std.proofs.lemmas.Fn.{filter_same}
use Rattle.bw_folder.specs.Folders.{open_names}
use Rattle.bw_folder.specs.declared.folder.OpenTake.{OpenTake}
use Rattle.bw_folder.proofs.ClosedTakes.{names_left}
use Rattle.bw_folder.proofs.folder.FolderStore.close.Goals as goal

pub returns-clause-opened : goal.returns-clause-opened
returns-clause-opened g c =
    ap (λ (takes : List (OpenTake g.row.D-File.Denot)). open_names takes)
    (filter_same _ (λ (t : OpenTake g.row.D-File.Denot). not (bytes_eq t.name c.args.name.now)) _ (λ x b f r. search rules)
    c.args.self.now.takes.items c.retain.new.self.items c.retain.ensures.filtered)
    ∙ names_left c.args.name.now c.args.self.now.takes.items

use Rattle.std.proofs.Common.{◌≡◌, ℕ, Bool, List, OnOk, ap, subst, ◌∙◌}
use Rattle.std.specs.Str.{bytes_eq}
use Rattle.std.specs.List.{list_any}
use Rattle.bw_store.specs.Memory.{content_under as content_of}
use Rattle.bw_journal.specs.JournalHeaders.{header_bytes}
use Rattle.bw_journal.specs.MemoryHeaders.{header_for}
use Rattle.bw_journal.specs.Notes.{Starts}
use Rattle.bw_journal.proofs.memory.MemoryJournalJournal.begin.Goals as goal

pub returns-clause-begun : goal.returns-clause-begun
returns-clause-begun c =
    let name = c.args.name.now in
    let same : c.to_bytes.result ≡ header_bytes name (header_for c.args.self.now name) =
    c.to_bytes.ensures
    ∙ ap (λ (v : Bool). header_bytes name (record { limit = c.args.self.now.limit; existed = v }))
    (c.has_name.ensures ∙ ap (λ (xs : List (List ℕ)). list_any (λ x. bytes_eq x name) xs) c.as_slice.ensures.value) in
    subst (λ (b : List ℕ). OnOk c.start-answer.result
    (Starts b (content_of c.args.self.now.notes name) (content_of c.start-answer.new.notes name))) same
    c.start-answer.ensures.begun

use Rattle.std.proofs.Common.{◌∙◌, refl, sym, ap, subst}
use Rattle.std.proofs.lemmas.Result.{err_from_is_err_and}
use Rattle.bw_model.specs.Take.{Parts, AreFields}
use Rattle.bw_file.proofs.Judged.{unopened_for_open}
use Rattle.bw_file.proofs.Begins.{fresh_begun, begun_torn, begun_whole, begun_between}
use Rattle.bw_store.proofs.Asked.{gets_before, gets_then, gets_then_first}
use Rattle.bw_layout.proofs.Exits.{on_err}
use Rattle.bw_file.proofs.growing.GrowingFile.begin.Goals as goal

pub returns-in_err-put_header-clause-file : goal.returns-in_err-put_header-clause-file
returns-in_err-put_header-clause-file g c =
    rw (← c.self.view_is) (λ honest t same begun made.
    let unopened = unopened_for_open _ _ _ c.requires.stored in
    let no_format = ap (λ (p : Parts). p.format) same ∙ unopened.no_format in
    let is_open = ap (λ (p : Parts). p.closed) same ∙ unopened.not_closed in
    let set = c.bext.ensures.value ∙ sym (ap (λ (p : Parts). p.fields) same) in
    let fields = subst AreFields set c.bext.ensures.widths in
    let in_all = c.data_len.ensures.value ∙ sym (ap (λ (p : Parts). p.samples_len) same) in
    let no_samples = sym in_all ∙ c.data_len.ensures.unopened unopened.no_format in
    let fresh = rw c.in-New.is at (c.in_ok-make_name.ensures.fresh honest) in
    let was = fresh_begun t c.self.inside.limit c.args.format c.args.history.now no_format is_open fields no_samples
    c.self.inside.made _ _ begun (fresh refl) in
    let torn = begun_torn t c.self.inside.limit c.args.format c.args.history.now no_format is_open fields no_samples _
    _ was (rw c.new-heading.ensures.history at
    (c.put_header.ensures.torn (c.make_name.ensures.shared.honest ∙ honest))) in
    let answer = err_from_is_err_and c.from_residual-in_err-put_header.result
    c.from_residual-in_err-put_header.ensures.1 in
    rw answer.1 (begun_between t c.self.inside.limit c.args.format c.args.history.now no_format is_open fields
    no_samples _ torn))

pub returns-clause-file : goal.returns-clause-file
returns-clause-file g c =
    rw (← c.self.view_is) (λ honest t same begun made.
    let unopened = unopened_for_open _ _ _ c.requires.stored in
    let no_format = ap (λ (p : Parts). p.format) same ∙ unopened.no_format in
    let is_open = ap (λ (p : Parts). p.closed) same ∙ unopened.not_closed in
    let set = c.bext.ensures.value ∙ sym (ap (λ (p : Parts). p.fields) same) in
    let fields = subst AreFields set c.bext.ensures.widths in
    let in_all = c.data_len.ensures.value ∙ sym (ap (λ (p : Parts). p.samples_len) same) in
    let no_samples = sym in_all ∙ c.data_len.ensures.unopened unopened.no_format in
    let fresh = rw c.in-New.is at (c.in_ok-make_name.ensures.fresh honest) in
    let was = fresh_begun t c.self.inside.limit c.args.format c.args.history.now no_format is_open fields no_samples
    c.self.inside.made _ _ begun (fresh refl) in
    let says = c.new-heading.ensures in
    begun_whole t c.self.inside.limit c.args.format c.args.history.now no_format is_open fields no_samples _ _ was
    (rw (says.format, says.bext, says.history, says.limit, set, in_all) at
    (c.in_ok-put_header.ensures.first (c.make_name.ensures.shared.honest ∙ honest))))

pub returns-in_err-make_name-clause-begun : goal.returns-in_err-make_name-clause-begun
returns-in_err-make_name-clause-begun g c =
    rw (← c.self.view_is) (on_err _ _ (gets_before _ c.in_err-make_name.ensures.begun))

pub returns-in_err-put_header-clause-begun : goal.returns-in_err-put_header-clause-begun
returns-in_err-put_header-clause-begun g c =
    rw (← c.self.view_is) (on_err _ _
    (gets_then_first c.in_ok-make_name.ensures.order
    (rw c.new-heading.ensures.history at c.in_err-put_header.ensures.begun)))

pub returns-clause-order : goal.returns-clause-order
returns-clause-order g c =
    rw (← c.self.view_is) (gets_then c.in_ok-make_name.ensures.order
    (rw c.new-heading.ensures.history at c.in_ok-put_header.ensures.order))

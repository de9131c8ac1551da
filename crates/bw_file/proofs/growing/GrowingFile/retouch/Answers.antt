use Rattle.std.proofs.Common.{◌≡◌, ◌∙◌, ℕ, List, Some, refl, sym, ap, rules}
use Rattle.std.proofs.lemmas.Result.{err_from_is_err_and}
use Rattle.bw_model.specs.Take.{Take, Parts, SetField, parts, with_request, with_field}
use Rattle.bw_layout.specs.Headings.{header_of}
use Rattle.bw_file.specs.OneField.{DiffersInField}
use Rattle.bw_file.specs.contracts.growing.GrowingFile.{the_view}
use Rattle.bw_file.proofs.Judged.{open_for_field, is_some_open}
use Rattle.bw_file.proofs.TakeHeadings.{IsHeading, IsStated, is_heading, stated}
use Rattle.bw_file.proofs.Retouches.{header_fails, retouched}
use Rattle.bw_file.proofs.SetFields.{is_known, differs_in_field}
use Rattle.bw_file.proofs.SetPlans.{gets_planned, first_planned, gets_few, first_few}
use Rattle.bw_layout.proofs.Exits.{on_err}
use Rattle.bw_file.proofs.growing.GrowingFile.retouch.Given.{Over}
use Rattle.bw_file.proofs.growing.GrowingFile.retouch.Goals.{After-data_len}
use Rattle.bw_file.proofs.growing.GrowingFile.retouch.Goals as goal

-- what is known of the take before its header is written
known : (g : Over) (c : After-data_len g) (t : Take) → parts t ≡ c.args.state.now.parts →
    IsStated t c.self.inside.limit c.heading_of-heading.result c.data_len.result
known g c t same =
    let of = c.heading_of-heading.ensures in
    stated t _ _ _ _ same (open_for_field _ _ _ c.requires.stored) of.format of.bext of.history of.limit
    c.data_len.ensures.value

-- and of the take with the field
heads_then : (g : Over) (c : After-data_len g) (t : Take) → parts t ≡ c.args.state.now.parts →
    (tag : ℕ) (value : List ℕ) → c.args.bext.now ≡ with_field t.fields tag value →
    IsHeading (with_request t (SetField tag value)) c.self.inside.limit c.with_bext-retouched.result
heads_then g c t same tag value set =
    let of = c.heading_of-heading.ensures in
    let with = c.with_bext-retouched.ensures in
    let later = with_request t (SetField tag value) in
    let reported = of.history ∙ sym (ap (λ (p : Parts). p.history) same) in
    is_heading later (parts later) c.with_bext-retouched.result c.self.inside.limit refl
    (ap Some with.format ∙ sym (known g c t same).heads.format) (with.bext ∙ set) (with.history ∙ reported)
    (with.limit ∙ of.limit)

-- the two headers differ in the field that is set
sets : (g : Over) (c : After-data_len g) → DiffersInField c.requires.tag
    (header_of c.heading_of-heading.result c.data_len.result 0)
    (header_of c.with_bext-retouched.result c.data_len.result 0)
sets g c =
    let with = c.with_bext-retouched.ensures in
    differs_in_field c.args.state.now.parts c.requires.tag c.requires.value c.heading_of-heading.result
    c.with_bext-retouched.result c.data_len.result
    (is_known c.args.state.now.parts c.requires.tag c.requires.value c.requires.stored)
    c.heading_of-heading.ensures.bext (with.bext ∙ c.requires.fields) with.format with.history with.limit

pub heading_of-heading-requires : goal.heading_of-heading-requires
heading_of-heading-requires g c = is_some_open _ (open_for_field _ _ _ c.requires.stored)

pub returns-in_err-put_retouched_header-clause-file : goal.returns-in_err-put_retouched_header-clause-file
returns-in_err-put_retouched_header-clause-file g c =
    rw (← c.self.view_is) (λ honest t same tag value set ready.
    let before = (goal.at.returns-in_err-put_retouched_header-clause-file g c).After-data_len in
    let k = known g before t same in
    let then_heads = heads_then g before t same tag value set in
    let answer = err_from_is_err_and c.from_residual.result c.from_residual.ensures.1 in
    rw answer.1 (header_fails
    (the_view c.self.inside) t tag value c.heading_of-heading.result c.with_bext-retouched.result k.heads then_heads
    c.with_bext-retouched.ensures.format k.is_open c.data_len.result k.in_all _ _ ready
    (c.put_retouched_header.ensures.torn honest)))

pub returns-clause-file : goal.returns-clause-file
returns-clause-file g c =
    rw (← c.self.view_is) (λ honest t same tag value set ready.
    let before = (goal.at.returns-clause-file g c).After-data_len in
    let k = known g before t same in
    let then_heads = heads_then g before t same tag value set in
    retouched (the_view c.self.inside) t tag value c.heading_of-heading.result c.with_bext-retouched.result k.heads
    then_heads c.with_bext-retouched.ensures.format k.is_open c.data_len.result k.in_all _ _ ready
    (c.in_ok-put_retouched_header.ensures.put honest))

pub put_retouched_header-requires-clause-field : goal.put_retouched_header-requires-clause-field
put_retouched_header-requires-clause-field g c =
    (c.requires.tag, sets g (goal.at.put_retouched_header-requires-clause-field g c).After-data_len)

pub returns-in_err-put_retouched_header-clause-begun : goal.returns-in_err-put_retouched_header-clause-begun
returns-in_err-put_retouched_header-clause-begun g c =
    rw (← c.self.view_is) (λ tag value set.
    let of = c.heading_of-heading.ensures in
    let with = c.with_bext-retouched.ensures in
    let differs = sets g (goal.at.returns-in_err-put_retouched_header-clause-begun g c).After-data_len in
    on_err _ _ (first_planned
    (the_view c.self.inside) c.args.state.now.parts c.heading_of-heading.result c.with_bext-retouched.result
    c.data_len.result of.bext of.history with.format with.history with.limit c.requires.tag differs tag value
    c.args.bext.now with.bext set c.in_err-put_retouched_header.ensures.begun))

pub returns-clause-order : goal.returns-clause-order
returns-clause-order g c =
    rw (← c.self.view_is) (λ tag value set.
    let of = c.heading_of-heading.ensures in
    let with = c.with_bext-retouched.ensures in
    let differs = sets g (goal.at.returns-clause-order g c).After-data_len in
    gets_planned (the_view c.self.inside) c.args.state.now.parts c.heading_of-heading.result
    c.with_bext-retouched.result
    c.data_len.result of.bext of.history with.format with.history with.limit c.requires.tag differs tag value
    c.args.bext.now with.bext set c.in_ok-put_retouched_header.ensures.order)

pub returns-in_err-put_retouched_header-clause-calls : goal.returns-in_err-put_retouched_header-clause-calls
returns-in_err-put_retouched_header-clause-calls g c =
    let of = c.heading_of-heading.ensures in
    let with = c.with_bext-retouched.ensures in
    let differs = sets g (goal.at.returns-in_err-put_retouched_header-clause-calls g c).After-data_len in
    first_few (the_view c.self.inside) c.args.state.now.parts c.heading_of-heading.result c.with_bext-retouched.result
    c.data_len.result of.bext of.history with.format with.history with.limit c.requires.tag differs
    c.in_err-put_retouched_header.ensures.begun

pub returns-clause-calls : goal.returns-clause-calls
returns-clause-calls g c =
    let of = c.heading_of-heading.ensures in
    let with = c.with_bext-retouched.ensures in
    let differs = sets g (goal.at.returns-clause-calls g c).After-data_len in
    gets_few (the_view c.self.inside) c.args.state.now.parts c.heading_of-heading.result c.with_bext-retouched.result
    c.data_len.result of.bext of.history with.format with.history with.limit c.requires.tag differs
    c.in_ok-put_retouched_header.ensures.order

pub returns-in_err-put_retouched_header-clause-known : goal.returns-in_err-put_retouched_header-clause-known
returns-in_err-put_retouched_header-clause-known g c = search rules

pub returns-in_err-put_retouched_header-clause-shared : goal.returns-in_err-put_retouched_header-clause-shared
returns-in_err-put_retouched_header-clause-shared g c = search rules

pub returns-clause-shared : goal.returns-clause-shared
returns-clause-shared g c = search rules

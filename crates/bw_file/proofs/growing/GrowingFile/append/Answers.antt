use Rattle.std.proofs.Common.{◌≡◌, ◌∙◌, ℕ, ◌+◌, ◌++◌, not}
use Rattle.std.proofs.lemmas.Result.{err_from_is_err_and}
use Rattle.bw_model.specs.Take.{Take, parts}
use Rattle.bw_layout.specs.Headings.{place_of, fits_riff}
use Rattle.bw_file.specs.Plans.{samples_plan, grown_plan, append_plan}
use Rattle.bw_file.specs.contracts.growing.GrowingFile.{the_view}
use Rattle.bw_file.proofs.Judged.{open_for_block, is_some_open, some_in_block}
use Rattle.bw_file.proofs.TakeHeadings.{IsStated, stated}
use Rattle.bw_file.proofs.Appends.{samples_fail, header_fails, appended}
use Rattle.bw_store.proofs.Asked.{first_as, gets_as, gets_before, gets_then, gets_then_first}
use Rattle.bw_layout.proofs.Exits.{on_err}
use Rattle.bw_file.proofs.PlanForms.{append_as}
use Rattle.bw_file.proofs.growing.GrowingFile.append.Given.{Over}
use Rattle.bw_file.proofs.growing.GrowingFile.append.Goals.{After-data_place}
use Rattle.bw_file.proofs.growing.GrowingFile.append.Goals as goal

-- what is known of the take before its samples are put
known : (g : Over) (c : After-data_place g) (t : Take) → parts t ≡ c.args.state.now.parts →
    IsStated t c.self.inside.limit c.heading_of-heading.result c.data_len-before.result
known g c t same =
    let of = c.heading_of-heading.ensures in
    stated t _ _ _ _ same (open_for_block _ _ c.requires.stored) of.format of.bext of.history of.limit
    c.data_len-before.ensures.value

-- the calls that are planned, in the words of the two functions that make them
planned : (g : Over) (c : After-data_place g) (n : ℕ) → append_plan (the_view c.self.inside) c.args.state.now.parts n
    ≡ samples_plan c.self.inside.name (c.data_place.result + c.data_len-before.result) n
    ++ grown_plan (not (the_view c.self.inside).dirty) c.self.inside.name (place_of c.heading_of-heading.result)
    (fits_riff c.heading_of-heading.result c.data_len-before.result 0)
    (fits_riff c.heading_of-heading.result (c.data_len-before.result + n) 0)
planned g c n =
    let of = c.heading_of-heading.ensures in
    append_as (the_view c.self.inside) c.args.state.now.parts c.heading_of-heading.result c.data_place.result
    c.data_len-before.result of.history of.limit c.data_place.ensures.value c.data_len-before.ensures.value n

pub heading_of-heading-requires : goal.heading_of-heading-requires
heading_of-heading-requires g c = is_some_open _ (open_for_block _ _ c.requires.stored)

pub returns-in_err-put_samples-clause-file : goal.returns-in_err-put_samples-clause-file
returns-in_err-put_samples-clause-file g c =
    rw (← c.self.view_is) (λ honest t same ready.
    let k = known g (goal.at.returns-in_err-put_samples-clause-file g c).After-data_place t same in
    let answer = err_from_is_err_and c.from_residual.result c.from_residual.ensures.1 in
    rw answer.1 (samples_fail (the_view c.self.inside) t c.args.samples.now c.heading_of-heading.result k.heads k.is_open
    (some_in_block _ c.requires.fits) c.data_place.result c.data_len-before.result c.data_place.ensures.value k.in_all
    _ _ ready (c.put_samples.ensures.torn honest)))

pub returns-in_err-put_grown_header-clause-file : goal.returns-in_err-put_grown_header-clause-file
returns-in_err-put_grown_header-clause-file g c =
    rw (← c.self.view_is) (λ honest t same ready.
    let k = known g (goal.at.returns-in_err-put_grown_header-clause-file g c).After-data_place t same in
    let answer = err_from_is_err_and c.from_residual-in_err-put_grown_header.result
    c.from_residual-in_err-put_grown_header.ensures.1 in
    rw answer.1 (header_fails (the_view c.self.inside) t c.args.samples.now c.heading_of-heading.result k.heads k.is_open
    (some_in_block _ c.requires.fits) c.data_place.result c.data_len-before.result c.data_place.ensures.value k.in_all
    _ _ _ ready (c.put_samples.ensures.torn honest)
    (c.put_grown_header.ensures.torn (c.put_samples.ensures.shared.honest ∙ honest))))

pub returns-clause-file : goal.returns-clause-file
returns-clause-file g c =
    rw (← c.self.view_is) (λ honest t same ready.
    let k = known g (goal.at.returns-clause-file g c).After-data_place t same in
    appended (the_view c.self.inside) t c.args.samples.now c.heading_of-heading.result k.heads k.is_open
    (some_in_block _ c.requires.fits) c.data_place.result c.data_len-before.result c.data_place.ensures.value k.in_all
    _ _ _ ready (c.in_ok-put_samples.ensures.put honest)
    (c.in_ok-put_grown_header.ensures.put (c.put_samples.ensures.shared.honest ∙ honest)))

pub returns-in_err-put_samples-clause-begun : goal.returns-in_err-put_samples-clause-begun
returns-in_err-put_samples-clause-begun g c =
    let before = (goal.at.returns-in_err-put_samples-clause-begun g c).After-data_place in
    rw (← c.self.view_is) (on_err _ _ (first_as (planned g before _)
    (gets_before _ c.in_err-put_samples.ensures.begun)))

pub returns-in_err-put_grown_header-clause-begun : goal.returns-in_err-put_grown_header-clause-begun
returns-in_err-put_grown_header-clause-begun g c =
    let before = (goal.at.returns-in_err-put_grown_header-clause-begun g c).After-data_place in
    rw (← c.self.view_is) (on_err _ _ (first_as (planned g before _)
    (gets_then_first c.in_ok-put_samples.ensures.order c.in_err-put_grown_header.ensures.begun)))

pub returns-clause-order : goal.returns-clause-order
returns-clause-order g c =
    rw (← c.self.view_is) (gets_as (planned g (goal.at.returns-clause-order g c).After-data_place _)
    (gets_then c.in_ok-put_samples.ensures.order c.in_ok-put_grown_header.ensures.order))

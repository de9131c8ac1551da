use Rattle.std.proofs.Common.{◌≡◌, ◌∙◌, ◌∷◌, ◌++◌, [], ℕ, ◌+◌, ◌%◌, List, length, not, sym, ap}
use Rattle.std.proofs.lemmas.Result.{err_from_is_err_and}
use Rattle.bw_model.specs.Take.{Take, Parts, parts, frames}
use Rattle.bw_layout.specs.Headings.{place_of, fits_riff}
use Rattle.bw_store.specs.Calls.{Finish}
use Rattle.bw_file.specs.Plans.{cues_plan, closed_plan, close_plan}
use Rattle.bw_file.specs.contracts.growing.GrowingFile.{the_view}
use Rattle.bw_file.proofs.Judged.{open_for_close, is_some_open}
use Rattle.bw_file.proofs.TakeHeadings.{IsStated, stated}
use Rattle.bw_file.proofs.Closes.{cues_fail, header_fails, closed}
use Rattle.bw_store.proofs.Asked.{first_as, gets_all, gets_as, gets_before, gets_one, gets_then, gets_then_first}
use Rattle.bw_layout.proofs.Exits.{on_err}
use Rattle.bw_file.proofs.PlanForms.{close_as}
use Rattle.bw_file.proofs.growing.GrowingFile.close.Given.{Over}
use Rattle.bw_file.proofs.growing.GrowingFile.close.Goals.{After-data_place}
use Rattle.bw_file.proofs.growing.GrowingFile.close.Goals as goal

-- what is known of the take before its cue points are put
known : (g : Over) (c : After-data_place g) (t : Take) → parts t ≡ c.args.state.now.parts →
    IsStated t c.self.inside.limit c.heading_of-heading.result c.data_len-data_len.result
known g c t same =
    let of = c.heading_of-heading.ensures in
    stated t _ _ _ _ same (open_for_close _ _ c.requires) of.format of.bext of.history of.limit
    c.data_len-data_len.ensures.value

-- the calls that are planned, in the words of the three functions that make them
planned : (g : Over) (c : After-data_place g) → close_plan (the_view c.self.inside) c.args.state.now.parts
    ≡ cues_plan c.self.inside.name
    (c.data_place.result + c.data_len-data_len.result + c.data_len-data_len.result % 2) (length c.markers-markers.result.now)
    ++ (closed_plan (not (the_view c.self.inside).dirty) c.self.inside.name (place_of c.heading_of-heading.result)
    (fits_riff c.heading_of-heading.result c.data_len-data_len.result 0)
    (fits_riff c.heading_of-heading.result c.data_len-data_len.result (length c.markers-markers.result.now))
    (length c.markers-markers.result.now)
    ++ Finish c.self.inside.name ∷ [])
planned g c =
    let of = c.heading_of-heading.ensures in
    close_as (the_view c.self.inside) c.args.state.now.parts c.heading_of-heading.result c.data_place.result
    c.data_len-data_len.result of.history of.limit c.data_place.ensures.value c.data_len-data_len.ensures.value _
    (ap (λ (l : List (ℕ × ℕ)). length l) c.markers-markers.ensures.value)

pub heading_of-heading-requires : goal.heading_of-heading-requires
heading_of-heading-requires g c = is_some_open _ (open_for_close _ _ c.requires)

pub returns-in_err-put_cues-clause-file : goal.returns-in_err-put_cues-clause-file
returns-in_err-put_cues-clause-file g c =
    rw (← c.self.view_is) (λ honest t same ready.
    let k = known g (goal.at.returns-in_err-put_cues-clause-file g c).After-data_place t same in
    let marked = c.markers-markers.ensures.value ∙ sym (ap (λ (p : Parts). p.markers) same) in
    let answer = err_from_is_err_and c.from_residual.result c.from_residual.ensures.1 in
    rw answer.1 (cues_fail (the_view c.self.inside) t
    (frames c.args.state.now.parts) c.heading_of-heading.result k.heads k.is_open c.data_place.result
    c.data_len-data_len.result
    c.markers-markers.result.now c.data_place.ensures.value k.in_all marked _ _ ready (c.put_cues.ensures.torn honest)))

pub returns-in_err-put_closed_header-clause-file : goal.returns-in_err-put_closed_header-clause-file
returns-in_err-put_closed_header-clause-file g c =
    rw (← c.self.view_is) (λ honest t same ready.
    let k = known g (goal.at.returns-in_err-put_closed_header-clause-file g c).After-data_place t same in
    let marked = c.markers-markers.ensures.value ∙ sym (ap (λ (p : Parts). p.markers) same) in
    let answer = err_from_is_err_and c.from_residual-in_err-put_closed_header.result
    c.from_residual-in_err-put_closed_header.ensures.1 in
    rw answer.1 (header_fails (the_view c.self.inside) t
    (frames c.args.state.now.parts) c.heading_of-heading.result k.heads k.is_open c.data_place.result
    c.data_len-data_len.result
    c.markers-markers.result.now c.data_place.ensures.value k.in_all marked _ _ _ ready
    (c.put_cues.ensures.torn honest) (c.put_closed_header.ensures.torn (c.put_cues.ensures.shared.honest ∙ honest))))

pub returns-in_err-finish-clause-file : goal.returns-in_err-finish-clause-file
returns-in_err-finish-clause-file g c =
    rw (← c.self.view_is) (λ honest t same ready.
    let k = known g (goal.at.returns-in_err-finish-clause-file g c).After-data_place t same in
    let marked = c.markers-markers.ensures.value ∙ sym (ap (λ (p : Parts). p.markers) same) in
    let honest_then = c.put_cues.ensures.shared.honest ∙ honest in
    let stays = c.finish.ensures.unchanged
    (c.put_closed_header.ensures.shared.honest ∙ honest_then) c.self.inside.name in
    let between = header_fails (the_view c.self.inside) t
    (frames c.args.state.now.parts) c.heading_of-heading.result k.heads k.is_open c.data_place.result
    c.data_len-data_len.result c.markers-markers.result.now c.data_place.ensures.value k.in_all marked _ _ _ ready
    (c.put_cues.ensures.torn honest) (c.put_closed_header.ensures.torn honest_then) in
    let answer = err_from_is_err_and c.from_residual-in_err-finish.result c.from_residual-in_err-finish.ensures.1 in
    rw (answer.1, stays) between)

pub returns-clause-file : goal.returns-clause-file
returns-clause-file g c =
    rw (← c.self.view_is) (λ honest t same ready.
    let k = known g (goal.at.returns-clause-file g c).After-data_place t same in
    let marked = c.markers-markers.ensures.value ∙ sym (ap (λ (p : Parts). p.markers) same) in
    let honest_then = c.put_cues.ensures.shared.honest ∙ honest in
    let stays = c.finish.ensures.unchanged
    (c.put_closed_header.ensures.shared.honest ∙ honest_then) c.self.inside.name in
    stays ∙ closed (the_view c.self.inside) t
    (frames c.args.state.now.parts) c.heading_of-heading.result k.heads k.is_open c.data_place.result
    c.data_len-data_len.result
    c.markers-markers.result.now c.data_place.ensures.value k.in_all marked _ _ _ ready
    (c.in_ok-put_cues.ensures.put honest) (c.in_ok-put_closed_header.ensures.put honest_then))

pub returns-in_err-put_cues-clause-begun : goal.returns-in_err-put_cues-clause-begun
returns-in_err-put_cues-clause-begun g c =
    let before = (goal.at.returns-in_err-put_cues-clause-begun g c).After-data_place in
    rw (← c.self.view_is) (on_err _ _ (first_as (planned g before)
    (gets_before _ c.in_err-put_cues.ensures.begun)))

pub returns-in_err-put_closed_header-clause-begun : goal.returns-in_err-put_closed_header-clause-begun
returns-in_err-put_closed_header-clause-begun g c =
    let before = (goal.at.returns-in_err-put_closed_header-clause-begun g c).After-data_place in
    rw (← c.self.view_is) (on_err _ _ (first_as (planned g before)
    (gets_then_first c.in_ok-put_cues.ensures.order (gets_before _ c.in_err-put_closed_header.ensures.begun))))

pub returns-in_err-finish-clause-begun : goal.returns-in_err-finish-clause-begun
returns-in_err-finish-clause-begun g c =
    let before = (goal.at.returns-in_err-finish-clause-begun g c).After-data_place in
    rw (← c.self.view_is) (on_err _ _ (first_as (planned g before)
    (gets_then_first c.in_ok-put_cues.ensures.order
    (gets_then_first c.in_ok-put_closed_header.ensures.order
    (gets_all (gets_one c.finish.ensures.calls c.finish.ensures.asked))))))

pub returns-clause-order : goal.returns-clause-order
returns-clause-order g c =
    rw (← c.self.view_is) (gets_as (planned g (goal.at.returns-clause-order g c).After-data_place)
    (gets_then c.in_ok-put_cues.ensures.order
    (gets_then c.in_ok-put_closed_header.ensures.order (gets_one c.finish.ensures.calls c.finish.ensures.asked))))

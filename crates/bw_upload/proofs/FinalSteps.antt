-- Which events leave a link for a reply that ends the upload.
use Rattle.std.proofs.Common.{◌≡◌, List, [], ◌∷◌, ◌++◌, map, refl, sym, ap, ◌∙◌, append_assoc}
use Rattle.bw_sender.specs.declared.stop.Stop.{Stop}
use Rattle.bw_upload.specs.Conversations.{TalkEvent}
use Rattle.bw_upload.specs.Courses.{UploadEvent, Fills, Misses, Makes, Talks, Leaves}
use Rattle.bw_upload.specs.WindowFills.{FillEvent}
use Rattle.bw_upload.specs.FinalStops.{final_stop, final_stops}

-- those of events one after another
finals_append : (a b : List UploadEvent) → final_stops (a ++ b) ≡ final_stops a ++ final_stops b
finals_append [] b = refl
finals_append (Fills e ∷ a) b = finals_append a b
finals_append (Misses ∷ a) b = finals_append a b
finals_append (Makes ∷ a) b = finals_append a b
finals_append (Talks e ∷ a) b = finals_append a b
finals_append (Leaves end ∷ a) b =
    ap (λ (l : List Stop). final_stop end ++ l) (finals_append a b)
    ∙ sym (append_assoc (final_stop end) (final_stops a) (final_stops b))

-- after events without one
pub finals_on : (a b : List UploadEvent) (l : List Stop) → final_stops a ≡ [] → final_stops b ≡ l →
    final_stops (a ++ b) ≡ l
finals_on a b l none e = finals_append a b ∙ ap (λ (m : List Stop). m ++ final_stops b) none ∙ e

pub fills_finals : (es : List FillEvent) → final_stops (map Fills es) ≡ []
fills_finals [] = refl
fills_finals (e ∷ es) = fills_finals es

pub talks_finals : (es : List TalkEvent) → final_stops (map Talks es) ≡ []
talks_finals [] = refl
talks_finals (e ∷ es) = talks_finals es

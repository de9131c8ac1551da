-- What a server that counts its frames has answered and counted.
use Rattle.std.proofs.Common.{◌≡◌, List, [], ◌∷◌, fold, ap, ◌∙◌}
use Rattle.bw_model.specs.Wire.{Frame}
use Rattle.bw_model.specs.Replies.{Reply}
use Rattle.bw_exchange.specs.AnsweredFrames.{Answered, AnswersAll, answered_frames}
use Rattle.bw_exchange.specs.MeteredServers.{AnswersCounted}
use Rattle.bw_exchange.specs.LinkCounts.{counting_frame}
use Rattle.bw_exchange.specs.declared.link_stats.Metered.{Metered}

module _ {T : Type 0} (answers : T → Frame → List Reply → T → Type 0) where
  -- the server itself has answered the frames
  pub all_by_server : (t : Metered T) (answered : List Answered) (t' : Metered T) →
      AnswersAll (AnswersCounted answers) t answered t' → AnswersAll answers t.server answered t'.server
  all_by_server t [] t' all = ap (λ (x : Metered T). x.server) all
  all_by_server t (a ∷ rest) t' all =
      (all.0.server, all.1.by_server, all_by_server all.0 rest t' all.2)

  -- and all of them are counted
  pub all_counted : (t : Metered T) (answered : List Answered) (t' : Metered T) →
      AnswersAll (AnswersCounted answers) t answered t' →
      t'.link_stats ≡ fold counting_frame t.link_stats (answered_frames answered)
  all_counted t [] t' all = ap (λ (x : Metered T). x.link_stats) all
  all_counted t (a ∷ rest) t' all =
      all_counted all.0 rest t' all.2 ∙ ap (λ c. fold counting_frame c (answered_frames rest)) all.1.counted

use Rattle.std.proofs.Common.{◌≡◌, ◌∙◌, List, ap, inl, inr, map, string_bytes, subst, ℕ}
use Rattle.std.specs.Borrow.{Bor}
use Rattle.bw_queue.specs.NamedRecordings.{AreNamed, SaysAlike, SaysNameless}
use Rattle.bw_queue.specs.Namings.{IsFirstBadNaming}
use Rattle.bw_queue.specs.QueueFaults.{bad_naming_text}
use Rattle.bw_queue.specs.Queues.{SaysUnnamed, given_path, names_path}
use Rattle.bw_queue.specs.declared.recording.QueuedRecording.{QueuedRecording}
use Rattle.bw_queue.proofs.NamedLemmas.{says_more}
use Rattle.bw_queue.proofs.planning.name_all.Goals as goal

pub returns-in-Some : goal.returns-in-Some
returns-in-Some c =
    let paths = map string_bytes c.args.paths.now in
    let same = ap (λ (pieces : List (Bor (List ℕ))). map (λ x. x.now) pieces) c.deref.ensures.value
    ∙ c.in_ok-lines.ensures in
    says_more (λ (line : List ℕ). line ≡ bad_naming_text c.path_or_empty.result.now c.in-Some.number) (λ line. ⊥)
    (SaysUnnamed (names_path (given_path c.args.names)) c.args.text.now paths) (λ line. ⊥)
    (λ line is. inl (
      c.in-Some.number,
      subst (λ (ls : List (List ℕ)). IsFirstBadNaming ls c.in-Some.number) same c.in-Some.ensures,
      is ∙ ap (λ (p : List ℕ). bad_naming_text p c.in-Some.number) c.path_or_empty.ensures,
    )) (λ line says. says) c.bad_naming.result c.bad_naming.ensures

pub returns-in-Err : goal.returns-in-Err
returns-in-Err c =
    let paths = map string_bytes c.args.paths.now in
    let same = ap (λ (pieces : List (Bor (List ℕ))). map (λ x. x.now) pieces) c.deref-2.ensures.value
    ∙ c.in_ok-lines.ensures in
    says_more (SaysNameless (map (λ x. x.now) c.deref-2.result.now) paths) (λ line. ⊥)
    (SaysUnnamed (names_path (given_path c.args.names)) c.args.text.now paths) (λ line. ⊥)
    (λ line says. inr (inl (subst (λ (ls : List (List ℕ)). SaysNameless ls paths line) same says)))
    (λ line says. says) c.in-Err.fault c.in-Err.ensures

pub returns : goal.returns
returns c =
    let paths = map string_bytes c.args.paths.now in
    let same = ap (λ (pieces : List (Bor (List ℕ))). map (λ x. x.now) pieces) c.deref-2.ensures.value
    ∙ c.in_ok-lines.ensures in
    says_more (SaysAlike c.deref-3.result.now) (λ line. ⊥)
    (SaysUnnamed (names_path (given_path c.args.names)) c.args.text.now paths) (λ line. ⊥)
    (λ line says. inr (inr (
      c.in-Ok.recordings.items,
      subst (λ (ls : List (List ℕ)). AreNamed ls paths c.in-Ok.recordings.items) same c.in-Ok.ensures,
      subst (λ (rs : List QueuedRecording). SaysAlike rs line) c.deref-3.ensures.value says,
    ))) (λ line says. says) c.in-Err-refuse_alike.fault c.in-Err-refuse_alike.ensures

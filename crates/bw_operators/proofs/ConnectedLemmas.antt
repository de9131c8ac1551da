-- What a step of an operator's connection leaves.
use Rattle.std.proofs.Common.{◌≡◌, ◌≤◌, ◌<◌, ◌+◌, ◌-◌, ◌++◌, ◌∙◌, ◌⊎◌, inl, inr, ℕ, List, []}
use Rattle.std.proofs.Common.{length, take, drop, sym, subst, ap, arith}
use Rattle.std.proofs.lemmas.List.{append_assoc, append-nil, length-drop, length-take-le}
use Rattle.std.proofs.lemmas.List.{take-append-le}
use Rattle.std.proofs.Math.Seq.{take-add, take-length}
use Rattle.bw_status.specs.declared.answer.Answer.{Answer}
use Rattle.bw_status.specs.declared.snapshot.Snapshot.{Snapshot}
use Rattle.bw_status.specs.Responses.{response_text}
use Rattle.bw_ports.specs.declared.link.Link.{Ghosts as LinkGhosts}
use Rattle.bw_operators.specs.declared.connection.Phase.{Phase}
use Rattle.bw_operators.specs.declared.connection.Phase.TheVariants.{Reading, Asking, Answering}
use Rattle.bw_operators.specs.declared.connection.Phase.TheVariants.{Draining}
use Rattle.bw_operators.specs.declared.connection.Connection.{Connection}
use Rattle.bw_operators.specs.OperatorConnections.{HasHeld, IsConnection, IsConnectionIn, IsRequestPart}
use Rattle.bw_operators.specs.Steps.{Finishes, ReadsRequestOn, SendsResponseOn}

-- more came after the response, and was discarded
pub drained : {L : Type 0} (G : LinkGhosts L) (phase : Phase) (link link' : L) (held response piece : List ℕ) (sent : ℕ) →
    phase ≡ Draining → ((xs : List ℕ) → G.given link xs → G.given link' (xs ++ piece)) →
    ((ys : List ℕ) → G.taken link ys → G.taken link' ys) →
    IsConnectionIn G phase link held response sent → IsConnectionIn G phase link' held response sent
drained G phase link link' held response piece sent e given taken is =
    let was : IsConnectionIn G Draining link held response sent =
    subst (λ (p : Phase). IsConnectionIn G p link held response sent) e is in
    let now : IsConnectionIn G Draining link' held response sent = (
      (
        was.0.0 ++ piece,
        subst (λ (xs : List ℕ). G.given link' xs) (append_assoc held was.0.0 piece)
            (given (held ++ was.0.0) was.0.1),
      ),
      taken response was.1,
      was.2,
    ) in
    subst (λ (p : Phase). IsConnectionIn G p link' held response sent) (sym e) now

-- a response to what was asked is to be sent
pub answered : {L : Type 0} (G : LinkGhosts L) (phase : Phase) (link : L) (held before response : List ℕ) (sent : ℕ) →
    (a : Answer) (s : Snapshot) → phase ≡ Asking a → response ≡ response_text a s →
    IsConnectionIn G phase link held before sent → IsConnectionIn G Answering link held response 0
answered G phase link held before response sent a s e is_text is =
    let was : IsConnectionIn G (Asking a) link held before sent =
    subst (λ (p : Phase). IsConnectionIn G p link held before sent) e is in
    (was.0, was.1, (a, s, was.2, is_text), omega arith)

-- the response is sent whole
pub finished : {L : Type 0} (G : LinkGhosts L) (phase : Phase) (link link' : L) (held response : List ℕ) (sent : ℕ) →
    phase ≡ Answering → ((xs : List ℕ) → G.given link xs → G.given link' xs) →
    ((ys : List ℕ) → G.taken link ys → G.taken link' ys) → length response ≤ sent →
    IsConnectionIn G phase link held response sent → IsConnectionIn G Draining link' held response sent
finished G phase link link' held response sent e given taken done is =
    let was : IsConnectionIn G Answering link held response sent =
    subst (λ (p : Phase). IsConnectionIn G p link held response sent) e is in
    let within : sent ≤ length response = was.3 in
    let all : sent ≡ length response = omega (arith, done, within) in
    let whole : take sent response ≡ response = ap (λ (n : ℕ). take n response) all ∙ take-length response in (
      ([], subst (λ (xs : List ℕ). G.given link' xs) (sym (append-nil held)) (given held was.0)),
      subst (λ (ys : List ℕ). G.taken link' ys) whole (taken (take sent response) was.1),
      was.2,
    )

-- more of the response is sent
pub sent_more : {L : Type 0} (G : LinkGhosts L) (phase : Phase) (link link' : L) (held response waiting : List ℕ) (sent count : ℕ) →
    phase ≡ Answering → ((xs : List ℕ) → G.given link xs → G.given link' xs) →
    ((ys : List ℕ) → G.taken link ys → G.taken link' (ys ++ take count waiting)) → waiting ≡ drop sent response →
    count ≤ length waiting → IsConnectionIn G phase link held response sent →
    IsConnectionIn G phase link' held response (sent + count)
sent_more G phase link link' held response waiting sent count e given taken left few is =
    let was : IsConnectionIn G Answering link held response sent =
    subst (λ (p : Phase). IsConnectionIn G p link held response sent) e is in
    let within : sent ≤ length response = was.3 in
    let rest : length waiting ≡ length response - sent = ap length left ∙ length-drop sent response in
    let fits : sent + count ≤ length response = omega (arith, within, few, rest) in
    let more : take sent response ++ take count waiting ≡ take (sent + count) response =
    ap (λ (xs : List ℕ). take sent response ++ take count xs) left ∙ sym (take-add sent count response) in
    let now : IsConnectionIn G Answering link' held response (sent + count) =
    (given held was.0, subst (λ (ys : List ℕ). G.taken link' ys) more (taken (take sent response) was.1), was.2, fits) in
    subst (λ (p : Phase). IsConnectionIn G p link' held response (sent + count)) (sym e) now

-- more of the request came
pub read_on : {L : Type 0} (G : LinkGhosts L) (c c' : Connection L) → c.phase ≡ Reading → ReadsRequestOn G c c' →
    IsConnection G c → IsConnection G c'
read_on G c c' e r is = go r.phase
  where
    was : IsConnectionIn G Reading c.link c.held.items c.response.items c.sent
    was = subst (λ (p : Phase). IsConnectionIn G p c.link c.held.items c.response.items c.sent) e is

    gave : G.given c'.link c'.held.items
    gave = subst (λ (xs : List ℕ). G.given c'.link xs) (sym r.held) (r.link.given c.held.items was.0)

    took : G.taken c'.link []
    took = r.link.taken [] was.1

    part : r.piece ≡ [] → IsRequestPart c'.held.items
    part none =
        let same : c'.held.items ≡ c.held.items = r.held ∙ (ap (λ (xs : List ℕ). c.held.items
        ++ xs) none ∙ append-nil c.held.items) in
        subst IsRequestPart (sym same) was.2

    go : ((r.piece ≡ []) × (c'.phase ≡ Reading)) ⊎ HasHeld c'.held.items c'.phase → IsConnection G c'
    go (inl (none, reads)) =
        subst (λ (p : Phase). IsConnectionIn G p c'.link c'.held.items c'.response.items c'.sent) (sym reads)
        (gave, took, part none)
    go (inr (inl (reads, answers))) =
        subst (λ (p : Phase). IsConnectionIn G p c'.link c'.held.items c'.response.items c'.sent) (sym reads)
        (gave, took, inr answers)
    go (inr (inr (a, asks, answers))) =
        subst (λ (p : Phase). IsConnectionIn G p c'.link c'.held.items c'.response.items c'.sent) (sym asks)
        (gave, took, answers)

-- what a link has given, or taken, is the same with nothing more
pub nothing_more : {L : Type 0} (has : L → List ℕ → Type 0) (link link' : L) →
    ((xs : List ℕ) → has link xs → has link' (xs ++ [])) → (xs : List ℕ) → has link xs → has link' xs
nothing_more has link link' more xs is = subst (λ (ys : List ℕ). has link' ys) (append-nil xs) (more xs is)

-- Steps.

-- some bytes are left of some
pub some_taken : (count : ℕ) (xs : List ℕ) → 1 ≤ count → count ≤ length xs → 1 ≤ length (take count xs)
some_taken count xs some few = subst (λ (n : ℕ). 1 ≤ n) (sym (length-take-le count xs few)) some

-- a piece came, at the start of a longer buffer, and is held
pub reads : {L : Type 0} (G : LinkGhosts L) (c c' : Connection L) (link : L) (count : ℕ) (xs ys : List ℕ) →
    1 ≤ count → count ≤ length xs →
    ((zs : List ℕ) → G.given c.link zs → G.given link (zs ++ take count xs)) →
    ((zs : List ℕ) → G.taken c.link zs → G.taken link zs) → c'.link ≡ link →
    c'.held.items ≡ c.held.items ++ take count (xs ++ ys) → HasHeld c'.held.items c'.phase → ReadsRequestOn G c c'
reads {L} G c c' link count xs ys some few given taken same held has =
    let piece : take count (xs ++ ys) ≡ take count xs = take-append-le count xs ys few in record {
      piece = take count (xs ++ ys);
      link = record {
        given = λ zs is. subst (λ (l : L). G.given l (zs ++ take count (xs ++ ys))) (sym same)
            (subst (λ (ws : List ℕ). G.given link (zs ++ ws)) (sym piece) (given zs is));
        taken = λ zs is. subst (λ (l : L). G.taken l zs) (sym same) (taken zs is);
        moved = inl (subst (λ (ws : List ℕ). 1 ≤ length ws) (sym piece) (some_taken count xs some few));
      };
      held = held;
      phase = inr has;
    }

-- of a response some bytes were taken, and the peer was informed that no more will come if it is
-- sent whole
pub sends : {L : Type 0} (G : LinkGhosts L) (c between c' : Connection L) (waiting : List ℕ) (count : ℕ) →
    Finishes G between c' → c.phase ≡ Answering → between.phase ≡ c.phase → between.sent ≡ c.sent + count →
    between.response.items ≡ c.response.items → between.held.items ≡ c.held.items →
    waiting ≡ drop c.sent c.response.items → 1 ≤ count → count ≤ length waiting →
    ((xs : List ℕ) → G.given c.link xs → G.given between.link xs) →
    ((ys : List ℕ) → G.taken c.link ys → G.taken between.link (ys ++ take count waiting)) →
    SendsResponseOn G c c'
sends G c between c' waiting count f phase same sent response held left some few given taken = record {
  count = count;
  link = record {
    given = λ xs is. f.given xs (given xs is);
    taken = λ ys is. subst (λ (zs : List ℕ). G.taken c'.link (ys ++ take count zs)) left (f.taken (ys
        ++ take count waiting) (taken ys is));
    moved = inl (
        let long : length (take count (drop c.sent c.response.items)) ≡ count =
        ap (λ (zs : List ℕ). length (take count zs)) (sym left) ∙ length-take-le count waiting few in
        subst (λ (n : ℕ). 1 ≤ n) (sym long) some);
  };
  sent = f.sent ∙ sent;
  response = f.response ∙ response;
  held = f.held ∙ held;
  phase = go f.phase;
}
  where
    go : ((c'.phase ≡ between.phase) × (between.sent < length between.response.items))
        ⊎ ((c'.phase ≡ Draining) × (length between.response.items ≤ between.sent) × G.finished c'.link) →
        ((c'.phase ≡ Answering) × ((c'.sent < length c.response.items) ⊎ G.full c'.link))
        ⊎ ((c'.phase ≡ Draining) × (length c.response.items ≤ c'.sent) × G.finished c'.link)
    go (inl (e, l)) = inl (
      e ∙ (same ∙ phase),
      inl (let long : length between.response.items ≡ length c.response.items = ap length response in
          let at : c'.sent ≡ between.sent = f.sent in omega (arith, l, long, at)),
    )
    go (inr (e, l, done)) = inr (
      e,
      (let long : length between.response.items ≡ length c.response.items = ap length response in
          let at : c'.sent ≡ between.sent = f.sent in omega (arith, l, long, at)),
      done,
    )

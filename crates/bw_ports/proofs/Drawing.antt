-- What is drawn, of the bytes that came and what a write left.
use Rattle.std.proofs.Common.{◌≡◌, ◌∙◌, ◌++◌, ◌≤◌, ℕ, List, Some, ap, length, subst, sym}
use Rattle.std.proofs.lemmas.List.{append_assoc}
use Rattle.bw_ports.specs.declared.link.Link.{Ghosts as LinkGhosts}
use Rattle.bw_stream.specs.Moves.{Begins, IsWrittenInPart, Writes}
use Rattle.bw_stream.specs.declared.sink.Sink.{Ghosts as Writer}
use Rattle.bw_ports.specs.Spools.{AreKept, Came, Draws, DrawsAt, IsSpooled}
use Rattle.bw_ports.specs.declared.spool.Drawn.TheVariants as draws
use Rattle.bw_ports.specs.declared.spool.Spool.{Spool}
use Rattle.bw_ports.specs.declared.spool.SpoolState.{SpoolState}
use Rattle.bw_ports.specs.declared.spool.SpoolState.TheVariants as states

-- the file has the bytes that came
pub appended : {L W : Type 0} (link : LinkGhosts L) (writer : Writer W) (base bytes : List ℕ) (old new : Spool L W)
    → old.state ≡ states.Open → new.state ≡ states.Open → Came link writer bytes old.input new.input
    → Writes (writer.written old.file) bytes (writer.written new.file) → IsSpooled link writer base old
    → IsSpooled link writer base new
appended link writer base bytes old new was is came writes s =
    let same : s.kept ≡ s.came = subst (λ (t : SpoolState). AreKept t s.kept s.came) was s.keeps in
    record {
      came = s.came ++ bytes;
      gives = came s.came s.gives;
      kept = s.kept ++ bytes;
      keeps = subst (λ (t : SpoolState). AreKept t (s.kept ++ bytes) (s.came ++ bytes)) (sym is)
          (ap (λ (k : List ℕ). k ++ bytes) same);
      holds = writes (base ++ s.kept) s.holds ∙ ap Some (append_assoc base s.kept bytes);
    }

-- the file has a front of them
pub appended_in_part : {L W : Type 0} (link : LinkGhosts L) (writer : Writer W) (base bytes : List ℕ) (old new : Spool L W)
    → old.state ≡ states.Open → new.state ≡ states.Failed → Came link writer bytes old.input new.input
    → Begins (writer.written old.file) bytes (writer.written new.file) → IsSpooled link writer base old
    → IsSpooled link writer base new
appended_in_part link writer base bytes old new was is came begins s =
    let same : s.kept ≡ s.came = subst (λ (t : SpoolState). AreKept t s.kept s.came) was s.keeps in
    let part : IsWrittenInPart (base ++ s.kept) bytes (writer.written new.file) = begins (base ++ s.kept) s.holds in
    record {
      came = s.came ++ bytes;
      gives = came s.came s.gives;
      kept = s.kept ++ part.part;
      keeps = subst (λ (t : SpoolState). AreKept t (s.kept ++ part.part) (s.came ++ bytes)) (sym is) (
        part.rest,
        append_assoc s.kept part.part part.rest ∙ ap (λ (b : List ℕ). s.kept ++ b) part.whole
            ∙ ap (λ (k : List ℕ). k ++ bytes) same,
      );
      holds = part.stands ∙ ap Some (append_assoc base s.kept part.part);
    }

-- bytes were drawn
pub draws_bytes : {L W : Type 0} (link : LinkGhosts L) (writer : Writer W) (bytes : List ℕ) (old new : Spool L W)
    → old.state ≡ states.Open → new.state ≡ states.Open → 1 ≤ length bytes
    → Came link writer bytes old.input new.input → Writes (writer.written old.file) bytes (writer.written new.file)
    → Draws link writer old draws.Bytes new
draws_bytes link writer bytes old new was is some came writes =
    subst (λ (t : SpoolState). DrawsAt link writer t old draws.Bytes new) (sym was) (bytes, some, came, writes, is)

-- their write failed
pub draws_failure : {L W : Type 0} (link : LinkGhosts L) (writer : Writer W) (bytes : List ℕ) (old new : Spool L W)
    → old.state ≡ states.Open → new.state ≡ states.Failed → Came link writer bytes old.input new.input
    → Begins (writer.written old.file) bytes (writer.written new.file) → Draws link writer old draws.Failed new
draws_failure link writer bytes old new was is came begins =
    subst (λ (t : SpoolState). DrawsAt link writer t old draws.Failed new) (sym was) (bytes, came, begins, is)

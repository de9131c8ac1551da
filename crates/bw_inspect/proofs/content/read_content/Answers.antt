use Rattle.std.proofs.Common.{◌≤◌, subst}
use Rattle.std.proofs.lemmas.Result.{err_from_is_err_and}
use Rattle.bw_inspect.specs.declared.chunk.ChunkKind.{ChunkKind}
use Rattle.bw_inspect.specs.Chunks.{Allows}
use Rattle.bw_inspect.specs.Known.{bext_kept, facts_of}
use Rattle.bw_inspect.proofs.Contents.{bext_learned}
use Rattle.bw_inspect.proofs.CueChunks.{cues_unlearned, cues_learned}
use Rattle.bw_inspect.proofs.content.read_content.Goals as goal

pub returns-in_err-read_cues-in-Cue-clause-err : goal.returns-in_err-read_cues-in-Cue-clause-err
returns-in_err-read_cues-in-Cue-clause-err g c =
    let p = err_from_is_err_and c.from_residual-in_err-read_cues-in-Cue.result
    c.from_residual-in_err-read_cues-in-Cue.ensures.1 in
    let long : 4 ≤ c.args.entry.size =
    subst (λ (k : ChunkKind). Allows k c.args.entry.size) c.in-Cue.is c.requires.allowed in
    rw (p.1, p.2, c.in-Cue.is)
    (λ b r. cues_unlearned b c.args.entry _ _ long (c.in_err-read_cues-in-Cue.ensures.err b r))

pub returns-in_ok-read_bext_chunk-in-Bext-clause-ok : goal.returns-in_ok-read_bext_chunk-in-Bext-clause-ok
returns-in_ok-read_bext_chunk-in-Bext-clause-ok g c b r =
    let k = c.in_ok-read_bext_chunk-in-Bext.ensures.ok b r in
    rw c.in-Bext.is (bext_learned b c.args.entry (bext_kept c.in_ok-read_bext_chunk-in-Bext.field-0)
    (facts_of c.args.known.now) _ k.0 k.1)

pub returns-in_ok-read_cues-in-Cue-clause-ok : goal.returns-in_ok-read_cues-in-Cue-clause-ok
returns-in_ok-read_cues-in-Cue-clause-ok g c b r =
    let long : 4 ≤ c.args.entry.size =
    subst (λ (k : ChunkKind). Allows k c.args.entry.size) c.in-Cue.is c.requires.allowed in
    rw c.in-Cue.is (cues_learned b c.args.entry c.in_ok-read_cues-in-Cue.field-0 (facts_of c.args.known.now) _ long
    (c.in_ok-read_cues-in-Cue.ensures.ok b r))

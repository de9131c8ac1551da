use Rattle.std.proofs.Common.{◌≡◌, ◌∙◌, List, ℕ, true, false, sym, ap, subst, rules, IsTrue}
use Rattle.std.specs.Prelude.{IsUtf8}
use Rattle.bw_disk.specs.Volumes.{in_folder, is_listed}
use Rattle.bw_disk.proofs.Listings.{none_after, none_then, named_by, in_folder_injective}
use Rattle.bw_disk.proofs.memory_volume.name_in.Goals as goal

pub returns-in_default : goal.returns-in_default
returns-in_default c = λ name listed utf8.
    none_after c.args.folder.now c.args.path.now c.as_bytes.result.now c.as_bytes-2.result.now c.as_bytes.ensures.value
    c.as_bytes-2.ensures.value c.in_default.ensures name

pub returns-in_default-following : goal.returns-in_default-following
returns-in_default-following c = λ name listed utf8.
    none_then c.args.folder.now c.args.path.now c.as_bytes.result.now c.as_bytes-2.result.now c.in-Some.rest.now
    c.as_bytes.ensures.value c.as_bytes-2.ensures.value c.in-Some.ensures c.in_default-following.ensures name

pub returns-in_default-from_utf8 : goal.returns-in_default-from_utf8
returns-in_default-from_utf8 c = λ name listed utf8 e.
    let bytes : List ℕ = c.in-Some-following.bytes.now in
    let at = named_by c.args.folder.now c.args.path.now c.as_bytes.result.now c.as_bytes-2.result.now c.in-Some.rest.now bytes
    c.as_bytes.ensures.value c.as_bytes-2.ensures.value c.in-Some.ensures c.in-Some-following.ensures in
    let same : bytes ≡ name = in_folder_injective c.args.folder.now bytes name (sym at ∙ e) in
    c.in_default-from_utf8.ensures.cases.0 (subst IsUtf8 (sym same) utf8)

pub returns-then-not-is_listed : goal.returns-then-not-is_listed
returns-then-not-is_listed c = λ name listed utf8 e.
    let bytes : List ℕ = c.in-Some-following.bytes.now in
    let at = named_by c.args.folder.now c.args.path.now c.as_bytes.result.now c.as_bytes-2.result.now c.in-Some.rest.now bytes
    c.as_bytes.ensures.value c.as_bytes-2.ensures.value c.in-Some.ensures c.in-Some-following.ensures in
    let same : bytes ≡ name = in_folder_injective c.args.folder.now bytes name (sym at ∙ e) in
    let no : is_listed bytes ≡ false = search rules in
    let yes : is_listed bytes ≡ true = ap is_listed same ∙ listed in
    cc

pub returns : goal.returns
returns c =
    let bytes : List ℕ = c.in-Some-following.bytes.now in
    let same : c.in-Ok.name.now ≡ bytes = search rules in
    let yes : IsTrue (is_listed bytes) = search rules in (
      named_by c.args.folder.now c.args.path.now c.as_bytes.result.now c.as_bytes-2.result.now c.in-Some.rest.now bytes
          c.as_bytes.ensures.value c.as_bytes-2.ensures.value c.in-Some.ensures c.in-Some-following.ensures
          ∙ ap (in_folder c.args.folder.now) (sym same),
      subst (λ (n : List ℕ). IsTrue (is_listed n)) (sym same) yes,
    )

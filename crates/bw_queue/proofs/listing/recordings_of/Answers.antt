use Rattle.std.proofs.Common.{map, string_bytes}
use Rattle.std.proofs.lemmas.List.Sorted.{IsPermutation-map}
use Rattle.bw_queue.proofs.ListingLemmas.{sorted_texts}
use Rattle.bw_queue.proofs.listing.recordings_of.Goals as goal

pub returns : goal.returns
returns g c = (
  map string_bytes c.in_ok-paths.paths.items,
  c.in_ok-paths.ensures,
  IsPermutation-map string_bytes c.in_ok-paths.paths.items c.sort.new.self.items c.in_ok-sort.ensures.permutation,
  sorted_texts string_bytes c.sort.new.self.items c.in_ok-sort.ensures.sorted,
)

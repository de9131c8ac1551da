use Rattle.bw_layout.proofs.SizePlaces.{riff_sizes_stand, bw64_sizes_stand}
use Rattle.bw_layout.proofs.laws.law_size_places.Goals as goal

pub returns : goal.returns
returns c = record { riff = riff_sizes_stand; bw64 = bw64_sizes_stand }

-- What is seen of readers, links, peers, reactors and networks with a filter: what each was made of,
-- the filter as it is now, and whether it lets through one name only.
use Rattle.std.specs.Prelude.{Bool}
use Rattle.bw_serve.specs.Filters.{Filter}
use Rattle.bw_serve.specs.declared.filtered_link.FilteredLink.{FilteredLink}
use Rattle.bw_serve.specs.declared.filtered_reader.FilteredReader.{FilteredReader}
use Rattle.bw_serve.specs.declared.filtered_network.FilteredNetwork.{FilteredNetwork}
use Rattle.bw_serve.specs.declared.filtered_peers.FilteredPeers.{FilteredPeers}
use Rattle.bw_serve.specs.declared.filtered_reactor.FilteredReactor.{FilteredReactor}

-- of a reader
abbrev pub inner_reader : {R : Type 0} → FilteredReader R → R
inner_reader r = r.reader

abbrev pub filter_of_reader : {R : Type 0} → FilteredReader R → Filter
filter_of_reader r = r.filter

-- of a link
abbrev pub inner_link : {L : Type 0} → FilteredLink L → L
inner_link l = l.link

abbrev pub filter_of_link : {L : Type 0} → FilteredLink L → Filter
filter_of_link l = l.filter

abbrev pub link_has_one_name : {L : Type 0} → FilteredLink L → Bool
link_has_one_name l = l.one_name

-- of peers
abbrev pub inner_peers : {P : Type 0} → FilteredPeers P → P
inner_peers p = p.peers

abbrev pub peers_have_one_name : {P : Type 0} → FilteredPeers P → Bool
peers_have_one_name p = p.one_name

-- of a reactor
abbrev pub inner_reactor : {B : Type 0} → FilteredReactor B → B
inner_reactor b = b.reactor

abbrev pub reactor_has_one_name : {B : Type 0} → FilteredReactor B → Bool
reactor_has_one_name b = b.one_name

-- of a network
abbrev pub inner_network : {N : Type 0} → FilteredNetwork N → N
inner_network n = n.network

abbrev pub network_has_one_name : {N : Type 0} → FilteredNetwork N → Bool
network_has_one_name n = n.one_name

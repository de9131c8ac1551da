-- Peers, reactors and networks with a filter at each link.
use Rattle.std.specs.Prelude.{◌≡◌, Bool, List, ℕ, Option, Result, Ok, Err, map, option_map, Vec}
use Rattle.std.specs.declared.alloc.Global.{Global}
use Rattle.std.specs.declared.io.Error.{Error as IoError}
use Rattle.bw_operators.specs.AllowLists.{AllowRules}
use Rattle.bw_operators.specs.declared.log_choice.LogForm.{LogForm}
use Rattle.bw_ports.specs.declared.starts.StartRefusal.{StartRefusal}
use Rattle.bw_ports.specs.Reactors.{Admission}
use Rattle.bw_ports.specs.declared.peers.Peer.{Peer}
use Rattle.bw_ports.specs.declared.peers.AcceptFault.{AcceptFault}
use Rattle.bw_serve.specs.Filters.{starting}
use Rattle.bw_serve.specs.RuleRefusals.{ListsAllowed}
use Rattle.bw_serve.specs.declared.filtered_link.FilteredLink.{FilteredLink}
use Rattle.bw_serve.specs.declared.filtered_reader.FilteredReader.{FilteredReader}
use Rattle.bw_serve.specs.declared.filtered_network.FilteredNetwork.{FilteredNetwork}
use Rattle.bw_serve.specs.declared.filtered_network.ServeChoice.{ServeChoice}
use Rattle.bw_serve.specs.declared.filtered_peers.FilteredPeers.{FilteredPeers}
use Rattle.bw_serve.specs.declared.filtered_reactor.FilteredReactor.{FilteredReactor}

-- a result in which the value was changed so
abbrev pub with_ok : {X Y E : Type 0} → (X → Y) → Result X E → Result Y E
with_ok change (Ok x) = Ok (change x)
with_ok change (Err e) = Err e

-- a reader at the start of an exchange
abbrev pub filtered_reader : {R : Type 0} → Bool → R → FilteredReader R
filtered_reader one_name reader = record { reader = reader; filter = starting one_name }

-- a link that gave nothing yet
abbrev pub filtered_link : {L : Type 0} → Bool → L → FilteredLink L
filtered_link one_name link =
    record { link = link; filter = starting one_name; one_name = one_name }

-- a peer of which a filter is the reader
abbrev pub filtered_peer : {R W : Type 0} → Bool → Peer R W → Peer (FilteredReader R) W
filtered_peer one_name peer = record {
  address = peer.address;
  link = record { reader = filtered_reader one_name peer.link.reader; writer = peer.link.writer };
}

-- a peer is accepted as it would be without the filter
pub record AcceptsFiltered {P R W : Type 0} (accepts : P → Result (Peer R W) AcceptFault → P → Type 0)
    (p : FilteredPeers P) (result : Result (Peer (FilteredReader R) W) AcceptFault)
    (p' : FilteredPeers P) : Type 0 where
  pub accepted : Result (Peer R W) AcceptFault
  pub by_peers : accepts p.peers accepted p'.peers
  pub through : result ≡ with_ok (filtered_peer p.one_name) accepted
  pub kept : p'.one_name ≡ p.one_name

-- these links were given, each as it would be without the filter
pub record AdmitsFiltered {L : Type 0} (admitted : List (Admission L) → Type 0) (one_name : Bool)
    (links : List (Admission (FilteredLink L))) : Type 0 where
  pub given : List (Admission L)
  pub by_reactor : admitted given
  pub through : links ≡ map (λ x. (x.0, filtered_link one_name x.1)) given

-- peers, each of which is to be filtered so
abbrev pub filtered_peers : {P : Type 0} → Bool → P → FilteredPeers P
filtered_peers one_name peers = record { peers = peers; one_name = one_name }

-- a reactor, each link of which is to be filtered so
abbrev pub filtered_reactor : {B : Type 0} → Bool → B → FilteredReactor B
filtered_reactor one_name reactor = record { reactor = reactor; one_name = one_name }

-- what was asked for is filtered so, as was chosen
pub record OpensFiltered {N T U E : Type 0} (filters : Bool → T → U) (opens : Result T E → N → Type 0)
    (n : FilteredNetwork N) (result : Result U E) (n' : FilteredNetwork N) : Type 0 where
  pub opened : Result T E
  pub by_network : opens opened n'.network
  pub through : result ≡ with_ok (filters n.one_name) opened
  pub kept : n'.one_name ≡ n.one_name

-- a call was passed on, and the choice stays
abbrev pub PassedOn : {N R : Type 0} → (R → N → Type 0) → FilteredNetwork N → R →
    FilteredNetwork N → Type 0
PassedOn calls n result n' = calls result n'.network × (n'.one_name ≡ n.one_name)

-- it was chosen whether what happens is said, and whether links may have one name alone; and the file
-- that is named was read
pub record ChoosesRules {N : Type 0} (logs : N → Option LogForm → N → Type 0)
    (reads : N → List ℕ → Result (Vec ℕ Global) IoError → Type 0) (n : FilteredNetwork N)
    (choice : ServeChoice) (result : Result AllowRules StartRefusal) (n' : FilteredNetwork N)
    : Type 0 where
  pub log : logs n.network choice.log n'.network
  pub names : n'.one_name ≡ choice.one_name
  pub lists : ListsAllowed (reads n'.network) (option_map (λ path. path.now) choice.allow) result

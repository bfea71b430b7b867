-- Networks of hubs and nodes that the commands ran, by what their links told.
use Rattle.std.specs.Prelude.{◌≡◌, ℕ, List, [], map, Option, Some, None, option_map, slice_get, unwrap_or}
use Rattle.bsc_edge.specs.declared.notice.Notice.{Notice}
use Rattle.bsc_edge.specs.declared.said.Said.{Said}
use Rattle.bsc_edge.specs.Told.{Grows}
use Rattle.bsc_node.specs.declared.node_event.NodeEvent.{NodeEvent}
use Rattle.bsc_node.specs.Logs.{Log}
use Rattle.bsc_node_links.specs.Lives.{HasBegun, LinkLife, given_over, put_over}
use Rattle.bsc_node_links.specs.Talks.{AreFirstOf, given_in, put_in}
use Rattle.bsc_network_of_runs.specs.Deliveries.{DeliversWhatWasSent}
use Rattle.bsc_network_of_runs.specs.Hubs.{HubRun, SessionOf}
use Rattle.bsc_network_of_runs.specs.Networks.{Network, OtherEnd, of_node, of_session}
use Rattle.bsc_network_of_runs.specs.Nodes.{NodeRun}
use Rattle.bsc_network_of_runs.specs.Wires.{AreWires, Talks}
use Rattle.bsc_ran_networks.specs.HubRuns.Networks.{IsItsRun, MadeByCommand}
use Rattle.bsc_ran_networks.specs.HubRuns.Runs.{InPairs}
use Rattle.bsc_ran_networks.specs.Networks.{IsItsNode, RanByCommand}

-- The run of a node, and what was told on each of its links while the node had it.
pub record ToldRun : Type 0 where
  pub node : NodeRun
  pub told : LinkLife → List Said

module _ {K : Type 0} (talk : K → Option (List Said)) where
  -- By this the talk of the link that came grew until it was let go. Where no link came, nothing was told.
  abbrev pub IsToldOn : Option K → List Said → Type 0
  IsToldOn None T = T ≡ []
  IsToldOn (Some came) T = (let_go : K) × Grows (talk came) (talk let_go) T

  -- This was told on the link that came where the life began, if one did: the link gave what the log says was given over it, and
  -- the first of what the log says was put on it was put.
  pub record IsToldOver (M : Log) (links : List (Option K)) (x : LinkLife) (T : List Said) : Type 0 where
    pub link : Option K
    pub came : slice_get links x.began ≡ Some link
    pub told : IsToldOn link T
    pub gave : given_in T ≡ given_over M x
    pub took : AreFirstOf (put_in T) (put_over M x)

module _ {K W : Type 0} (talk : K → Option (List Said)) (drawn : NodeEvent → W → W → Type 0) where
  -- The run is that of a node that the command ran, and this was told on its links.
  pub record IsItsToldRun (x : RanByCommand talk drawn) (r : ToldRun) : Type 0 where
    pub its : IsItsNode talk drawn x r.node
    pub told : (l : LinkLife) → HasBegun its.last l → IsToldOver talk its.last its.used.links l (r.told l)

-- what was told on the link of a session of a hub while it was served
abbrev pub talk_of : ℕ → HubRun → List Said
talk_of number h = unwrap_or (option_map (λ (s : SessionOf h.about h.history). s.talk) (slice_get h.sessions number)) []

-- What was told at each end.
abbrev pub told_at : List HubRun → List ToldRun → Talks
told_at hubs runs (of_session z) = unwrap_or (option_map (talk_of z.number) (slice_get hubs z.hub)) []
told_at hubs runs (of_node k l) = unwrap_or (option_map (λ r. r.told l) (slice_get runs k)) []

abbrev pub network_of : List HubRun → List ToldRun → Network
network_of hubs runs = record { hubs = hubs; nodes = map (λ r. r.node) runs }

module _ {L C N K W : Type 0} (talk : L → Option (List Said)) (faults : L → ℕ) (notices : L → Option (List Notice)) (readings : C
    → Option (List ℕ))
    (held : N → Option (List ℕ)) (unput : N → ℕ) (begins : Option (List ℕ) → ℕ → N → Type 0) (said : K → Option (List Said))
    (drawn : NodeEvent → W → W → Type 0) where
  -- Whatever hubs were made so, and whatever nodes were run so, each has had a run, and this was told on its links. Where these are
  -- wires, each of which gave at one end the first of what was put at the other, each delivery is of a Send, and no two of one node
  -- are of the same.
  abbrev pub WhatRanDeliversByWires : Type 0
  WhatRanDeliversByWires = (made : List (MadeByCommand talk faults notices readings held unput begins)) (ran : List
      (RanByCommand said drawn))
      → (hubs : List HubRun) × (runs : List ToldRun)
      × InPairs (IsItsRun talk faults notices readings held unput begins) made hubs × InPairs (IsItsToldRun said drawn) ran runs
      × ((other : OtherEnd) → AreWires (network_of hubs runs) other (told_at hubs runs)
      → DeliversWhatWasSent (network_of hubs runs) other)

-- A network of runs: hubs that were served, nodes that ran, and the links between them.
use Rattle.std.specs.Prelude.{◌≡◌, ℕ, true, false, List, [], slice_get, Option, Some, None}
use Rattle.bsc_node.specs.Meeting.{is_hub}
use Rattle.bsc_node_links.specs.Lives.{HasBegun, LinkLife, given_over, put_over}
use Rattle.bsc_node_links.specs.Talks.{AreFirstOf, given_in, put_in}
use Rattle.bsc_network_of_runs.specs.Hubs.{HubRun, SessionOf}
use Rattle.bsc_network_of_runs.specs.Nodes.{NodeRun, log_of}

-- Hubs that were served and nodes that ran.
pub record Network : Type 0 where
  pub hubs : List HubRun
  pub nodes : List NodeRun

-- ---- the ends of links

-- A session of a network: the number of its hub, and its own.
pub record SessionName : Type 0 where
  pub hub : ℕ
  pub number : ℕ

-- One end of a link: that of a session, or that of a node, by the node's number and its link.
pub data LinkEnd : Type 0 where
  of_session : SessionName → LinkEnd
  of_node : ℕ → LinkLife → LinkEnd

-- What the link gives at one end, and what is put on it there: messages, in order.
pub record Traffic : Type 0 where
  pub given : List (List ℕ)
  pub put : List (List ℕ)

-- This is an end in the network, with this traffic: by the talk of the session, or by the log of the node.
abbrev pub HasTraffic : Network → LinkEnd → Traffic → Type 0
HasTraffic N (of_session z) t =
    (h : HubRun) × (s : SessionOf h.about h.history) × (slice_get N.hubs z.hub ≡ Some h) × (slice_get h.sessions z.number ≡ Some s)
    × (t ≡ record { given = given_in s.talk; put = put_in s.talk })
HasTraffic N (of_node number x) t =
    (n : NodeRun) × (slice_get N.nodes number ≡ Some n) × HasBegun (log_of n) x
    × (t ≡ record { given = given_over (log_of n) x; put = put_over (log_of n) x })

-- ---- links

-- Which end is the other one of a link, where there is one.
abbrev pub OtherEnd : Type 0
OtherEnd = LinkEnd → Option LinkEnd

-- Two ends fit: a node's link to a hub leads to a session, and a direct link to a direct link of a node.
abbrev pub Fit : LinkEnd → LinkEnd → Type 0
Fit (of_session z) (of_node k x) = is_hub x.name ≡ true
Fit (of_node k x) (of_session z) = is_hub x.name ≡ true
Fit (of_node k x) (of_node j y) = (is_hub x.name ≡ false) × (is_hub y.name ≡ false)
Fit (of_session z) (of_session y) = ⊥

-- What a link gives at an end is nothing, where it has no other end in the network, and else the first of what is put at that.
abbrev pub Carries : Network → Option LinkEnd → Traffic → Type 0
Carries N None t = t.given ≡ []
Carries N (Some y) t = (u : Traffic) × HasTraffic N y u × AreFirstOf t.given u.put

-- The links of a network: ends fit, two ends are each other's, and each link carries to one end the first of the messages that are
-- put at the other. So links keep order, and lose nothing but what comes last.
pub record AreLinks (N : Network) (other : OtherEnd) : Type 0 where
  pub fit : (x y : LinkEnd) → other x ≡ Some y → Fit x y
  pub both : (x y : LinkEnd) → other x ≡ Some y → other y ≡ Some x
  pub carry : (x : LinkEnd) (t : Traffic) → HasTraffic N x t → Carries N (other x) t

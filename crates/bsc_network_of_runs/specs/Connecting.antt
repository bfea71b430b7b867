-- Who is connected to a hub: the nodes at the other ends of its sessions' links.
use Rattle.std.specs.Prelude.{◌≡◌, ℕ, slice_get, take, Some}
use Rattle.bsc_history.specs.declared.connection.Connection.{Connection}
use Rattle.bsc_history.specs.Ends.{joined, numbered}
use Rattle.bsc_node.specs.declared.timed_event.TimedEvent.{TimedEvent}
use Rattle.bsc_node.specs.Laws.{with_event}
use Rattle.bsc_node.specs.Logs.{own}
use Rattle.bsc_node_links.specs.Lives.{LinkLife}
use Rattle.bsc_network_of_runs.specs.Deliveries.{SessionIn}
use Rattle.bsc_network_of_runs.specs.Networks.{AreLinks, Network, OtherEnd, SessionName, of_node, of_session}
use Rattle.bsc_network_of_runs.specs.Nodes.{CameAt, NodeRun, log_of}

-- The connection has the identity that this node had at some event.
pub record IsOfNode (N : Network) (k : ℕ) (c : Connection) : Type 0 where
  pub node : NodeRun
  pub at_node : slice_get N.nodes k ≡ Some node
  pub place : ℕ
  pub e : TimedEvent
  pub comes : CameAt node.made (log_of node) place e
  pub who : c.who ≡ own node.made (with_event comes.before e)

-- The connection of a session was joined by the session's caller, and has the identity of the node at the other end of its link.
pub record IsConnectedBy (N : Network) (other : OtherEnd) (z : SessionName) (caller : ℕ) (c : Connection) : Type 0 where
  pub joined_by : c.caller ≡ caller
  pub of_dialler : (k : ℕ) (link : LinkLife) → other (of_session z) ≡ Some (of_node k link) → IsOfNode N k c

-- Each connection of a session is joined and has its identity so, in every network of runs.
abbrev pub ConnectionsAreOfNodes : Type 0
ConnectionsAreOfNodes = (N : Network) (other : OtherEnd) → AreLinks N other → (z : SessionName) (x : SessionIn N z) (c : Connection)
    → x.session.ended.conn ≡ Some c.number → numbered c.number (joined x.hub.history) ≡ Some c
    → IsConnectedBy N other z x.session.terms.caller c

-- The identity of a session's connection is the one that the node at the other end of its link had when that link began.
abbrev pub ConnectionsAreAsBorn : Type 0
ConnectionsAreAsBorn = (N : Network) (other : OtherEnd) → AreLinks N other → (z : SessionName) (x : SessionIn N z) (c : Connection)
    → x.session.ended.conn ≡ Some c.number → numbered c.number (joined x.hub.history) ≡ Some c
    → (k : ℕ) (link : LinkLife) (n : NodeRun) → slice_get N.nodes k ≡ Some n → other (of_session z) ≡ Some (of_node k link)
    → c.who ≡ own n.made (take link.began (log_of n))

-- What holds of every network of runs: where each NPDU that is delivered came from.
use Rattle.std.specs.Prelude.{◌≡◌, ◌⊎◌, ℕ, true, false, List, length, slice_get, take, Some, None}
use Rattle.bsc_octets.specs.declared.identity.Identity.{Identity}
use Rattle.bsc_octets.specs.Functions.{is_npdu, npdus}
use Rattle.std.specs.Option.{option_map}
use Rattle.bsc_frame.specs.declared.message.Message.{Message}
use Rattle.bsc_checks.specs.declared.verdict.Verdict.TheVariants.{Pass}
use Rattle.bsc_node.specs.declared.delivered.Delivered.{Delivered}
use Rattle.bsc_node.specs.declared.link_name.LinkName.{LinkName}
use Rattle.bsc_node.specs.declared.link_name.LinkName.TheVariants.{Direct}
use Rattle.bsc_node.specs.declared.node_event.NodeEvent.TheVariants.{Came}
use Rattle.bsc_node.specs.Laws.{with_event, with_heard}
use Rattle.bsc_node.specs.Links.{peer, verdict}
use Rattle.bsc_node.specs.Logs.{own, own_vmac}
use Rattle.bsc_node.specs.Ways.{established_peer}
use Rattle.bsc_node_identity.specs.Carried.{LeadsTo}
use Rattle.bsc_node_identity.specs.There.{CameUpWith}
use Rattle.bsc_node.specs.Meeting.{is_hub}
use Rattle.bsc_node_links.specs.Lives.{LinkLife}
use Rattle.bsc_node_links.specs.Talks.{given_in, put_in}
use Rattle.bsc_network_of_runs.specs.Hubs.{HubRun, SessionOf}
use Rattle.bsc_network_of_runs.specs.Networks.{AreLinks, Network, OtherEnd, SessionName, of_node, of_session}
use Rattle.bsc_network_of_runs.specs.Nodes.{DeliversAt, HearsAt, NodeRun, Sending, SendsAt, log_of}
use Rattle.bsc_node_identity.specs.Npdus.{IsFor}
use Rattle.bsc_network_of_runs.specs.Passing.{WasPassedOn}

-- ---- over a hub

-- The session of this name.
pub record SessionIn (N : Network) (z : SessionName) : Type 0 where
  pub hub : HubRun
  pub at_hub : slice_get N.hubs z.hub ≡ Some hub
  pub session : SessionOf hub.about hub.history
  pub at_session : slice_get hub.sessions z.number ≡ Some session

-- another session of the same hub
abbrev pub beside : SessionName → ℕ → SessionName
beside z number = record { hub = z.hub; number = number }

-- The n-th Encapsulated-NPDU that a session puts, o, was passed on by its hub, and a node put for this Send what the hub passed on:
-- it did so at the other end of the link of the session that forwarded it.
pub record CameUp (N : Network) (other : OtherEnd) (z : SessionName) (n : ℕ) (o : List ℕ) (s : Sending) : Type 0 where
  pub put_by : SessionIn N z
  pub passed : WasPassedOn put_by.hub put_by.session n o
  pub sender : NodeRun
  pub at_sender : slice_get N.nodes s.node ≡ Some sender
  pub link : LinkLife
  pub leads : other (of_session (beside z passed.number)) ≡ Some (of_node s.node link)
  pub sent : SendsAt sender.made (log_of sender) link (length (npdus (take passed.index
      (given_in passed.sender.talk)))) s passed.entered.message

-- Each Encapsulated-NPDU that a session puts came up to its hub so, in every network of runs.
abbrev pub SessionsPutWhatWasSent : Type 0
SessionsPutWhatWasSent = (N : Network) (other : OtherEnd) → AreLinks N other
    → (z : SessionName) (n : ℕ) (o : List ℕ) (x : SessionIn N z)
    → slice_get (npdus (put_in x.session.talk)) n ≡ Some o → (s : Sending) × CameUp N other z n o s

-- No session puts two for one Send.
abbrev pub SessionsPutOnce : Type 0
SessionsPutOnce = (N : Network) (other : OtherEnd) → AreLinks N other → (z : SessionName) (n m : ℕ) (o p : List ℕ) (s t : Sending)
    → CameUp N other z n o s → CameUp N other z m p t → s.node ≡ t.node → s.place ≡ t.place → n ≡ m

-- What a node hears over a link to a hub came up so to the session at the other end.
pub record HeardFrom (N : Network) (other : OtherEnd) (k : ℕ) (link : LinkLife) (n : ℕ) (o : List ℕ) : Type 0 where
  pub z : SessionName
  pub leads : other (of_node k link) ≡ Some (of_session z)
  pub sending : Sending
  pub up : CameUp N other z n o sending

-- Each Encapsulated-NPDU that a node hears over a link to a hub came up so.
abbrev pub HubLinksGiveWhatWasSent : Type 0
HubLinksGiveWhatWasSent = (N : Network) (other : OtherEnd) → AreLinks N other
    → (k : ℕ) (node : NodeRun) (link : LinkLife) (n place : ℕ) (o : List ℕ)
    → slice_get N.nodes k ≡ Some node → is_hub link.name ≡ true → is_npdu o ≡ true → HearsAt node link n place o
    → HeardFrom N other k link n o

-- ---- deliveries

-- A delivery: the number of the node, the place of the event in its log, and what is delivered.
pub record Delivery : Type 0 where
  pub node : ℕ
  pub place : ℕ
  pub delivered : Delivered

-- The node of this number delivers it there.
abbrev pub IsDelivery : Network → Delivery → Type 0
IsDelivery N d = (n : NodeRun) × (slice_get N.nodes d.node ≡ Some n) × DeliversAt n d.place d.delivered

-- The node heard it over this link, as the n-th of the Encapsulated-NPDUs that this gave.
pub record CameOver (N : Network) (d : Delivery) (link : LinkLife) (n : ℕ) (o : List ℕ) : Type 0 where
  pub receiver : NodeRun
  pub at_receiver : slice_get N.nodes d.node ≡ Some receiver
  pub heard : HearsAt receiver link n d.place o

-- It came over a hub: the node heard it over a link to a session of the hub, and it came up to the hub from the sender's node. The
-- address that is delivered is that of the connection of the sender's session, which was live when the hub entered the Forward. The
-- destination was that of the receiver's connection, live then too, or the broadcast.
pub record CameByHub (N : Network) (other : OtherEnd) (d : Delivery) (s : Sending) : Type 0 where
  pub link : LinkLife
  pub n : ℕ
  pub octets : List ℕ
  pub over : CameOver N d link n octets
  pub z : SessionName
  pub leads : other (of_node d.node link) ≡ Some (of_session z)
  pub up : CameUp N other z n octets s
  pub npdu : s.npdu ≡ d.delivered.npdu
  pub address : up.passed.entered.from.who.vmac ≡ d.delivered.from
  pub meant : IsFor d.delivered.broadcast s.dest up.passed.entered.to.who.vmac

-- Each delivery of what came over a link to a hub came by that hub, for a Send.
abbrev pub HubDeliveriesWereSent : Type 0
HubDeliveriesWereSent = (N : Network) (other : OtherEnd) → AreLinks N other → (d : Delivery) (n : NodeRun)
    → slice_get N.nodes d.node ≡ Some n
    → (x : DeliversAt n d.place d.delivered) (name : LinkName) (o : List ℕ) → x.e.event ≡ Came name o → is_hub name ≡ true
    → (s : Sending) × CameByHub N other d s

-- It came so, the sender was connected with the identity that its node had when its link to the hub began, and the receiver with
-- that which its node had when it heard the message.
pub record CameOverHub (N : Network) (other : OtherEnd) (d : Delivery) (s : Sending) : Type 0 where
  pub by_hub : CameByHub N other d s
  pub sender_is : by_hub.up.passed.entered.from.who
      ≡ own by_hub.up.sender.made (take by_hub.up.link.began (log_of by_hub.up.sender))
  pub receiver_is : by_hub.up.passed.entered.to.who ≡ own by_hub.over.receiver.made by_hub.over.heard.comes.before

-- Each delivery that came by a hub came so.
abbrev pub HubDeliveriesHaveTheirNodes : Type 0
HubDeliveriesHaveTheirNodes = (N : Network) (other : OtherEnd) → AreLinks N other → (d : Delivery) (s : Sending)
    → CameByHub N other d s → CameOverHub N other d s

-- No two deliveries of one node that came by hubs are of the same Send.
abbrev pub HubDeliveriesAreApart : Type 0
HubDeliveriesAreApart = (N : Network) (other : OtherEnd) → AreLinks N other → (d e : Delivery) (s t : Sending)
    → CameByHub N other d s → CameByHub N other e t
    → d.node ≡ e.node → s.node ≡ t.node → s.place ≡ t.place → d.place ≡ e.place

-- ---- over a direct connection

-- It came over a direct connection: the sender's node put it there for the Send, on the way that led to the destination. The
-- address that is delivered is that of the peer, as the receiver knows it.
pub record SentDirectly (N : Network) (other : OtherEnd) (d : Delivery) (s : Sending) : Type 0 where
  pub link : LinkLife
  pub n : ℕ
  pub octets : List ℕ
  pub over : CameOver N d link n octets
  pub sender : NodeRun
  pub at_sender : slice_get N.nodes s.node ≡ Some sender
  pub from_link : LinkLife
  pub leads : other (of_node d.node link) ≡ Some (of_node s.node from_link)
  pub sent : SendsAt sender.made (log_of sender) from_link n s octets
  pub npdu : s.npdu ≡ d.delivered.npdu
  pub unicast : d.delivered.broadcast ≡ false
  pub passed : (msg : Message) × (verdict over.receiver.made (with_event over.heard.comes.before over.heard.e) link.name octets
      ≡ Pass msg)
  pub to_peer : LeadsTo (with_event sent.comes.before sent.e) s.dest from_link.name None
  pub from_peer : option_map (λ (who : Identity). who.vmac) (peer
      (with_heard over.receiver.made over.heard.comes.before over.heard.e link.name octets) link.name)
      ≡ Some d.delivered.from

-- Each delivery of what came over a direct link was sent directly, for a Send.
abbrev pub DirectDeliveriesWereSent : Type 0
DirectDeliveriesWereSent = (N : Network) (other : OtherEnd) → AreLinks N other → (d : Delivery) (n : NodeRun)
    → slice_get N.nodes d.node ≡ Some n
    → (x : DeliversAt n d.place d.delivered) (name : LinkName) (o : List ℕ) → x.e.event ≡ Came name o → is_hub name ≡ false
    → (s : Sending) × SentDirectly N other d s

-- It came so, the sender's node had the address that is delivered, and the receiver's that of the destination. The sender's slot
-- was established with the receiver's node; the receiver's slot had come up with the sender's node over this very link, and that
-- was its peer.
pub record CameDirectly (N : Network) (other : OtherEnd) (d : Delivery) (s : Sending) : Type 0 where
  pub direct : SentDirectly N other d s
  pub address : own_vmac direct.sender.made direct.sent.comes.before ≡ d.delivered.from
  pub destination : s.dest ≡ own_vmac direct.over.receiver.made direct.over.heard.comes.before
  pub sender_slot : ℕ
  pub of_sender : direct.from_link.name ≡ Direct sender_slot
  pub established : established_peer sender_slot direct.sent.comes.before
      ≡ Some (own direct.over.receiver.made direct.over.heard.comes.before)
  pub receiver_slot : ℕ
  pub of_receiver : direct.link.name ≡ Direct receiver_slot
  pub came_up : CameUpWith direct.over.heard.comes.before receiver_slot (own direct.sender.made direct.sent.comes.before)
  pub met : peer direct.over.heard.comes.before direct.link.name ≡ Some (own direct.sender.made direct.sent.comes.before)

-- Each delivery that was sent directly came so.
abbrev pub DirectDeliveriesHaveTheirNodes : Type 0
DirectDeliveriesHaveTheirNodes = (N : Network) (other : OtherEnd) → AreLinks N other → (d : Delivery) (s : Sending)
    → SentDirectly N other d s → CameDirectly N other d s

-- ---- the theorem

-- By a hub or directly, whoever the peers are.
abbrev pub WasSentBy : Network → OtherEnd → Delivery → Sending → Type 0
WasSentBy N other d s = CameByHub N other d s ⊎ SentDirectly N other d s

-- Each delivery is of a Send, and no two of one node are of the same.
pub record DeliversOnlyWhatWasSent (N : Network) (other : OtherEnd) : Type 0 where
  pub each : (d : Delivery) → IsDelivery N d → (s : Sending) × WasSentBy N other d s
  pub once : (d e : Delivery) (s t : Sending) → WasSentBy N other d s → WasSentBy N other e t → d.node ≡ e.node → s.node ≡ t.node
      → s.place ≡ t.place
      → d.place ≡ e.place

-- Each delivery is of a Send, and no two of one node are of the same, in every network of runs: whoever the peers are.
abbrev pub RunsDeliverOnlyWhatWasSent : Type 0
RunsDeliverOnlyWhatWasSent = (N : Network) (other : OtherEnd) → AreLinks N other → DeliversOnlyWhatWasSent N other

-- By a hub or directly, with the nodes at both ends.
abbrev pub CameFrom : Network → OtherEnd → Delivery → Sending → Type 0
CameFrom N other d s = CameOverHub N other d s ⊎ CameDirectly N other d s

-- Each delivery is of a Send, with the nodes at both ends, and no two of one node are of the same.
pub record DeliversWhatWasSent (N : Network) (other : OtherEnd) : Type 0 where
  pub each : (d : Delivery) → IsDelivery N d → (s : Sending) × CameFrom N other d s
  pub once : (d e : Delivery) (s t : Sending) → CameFrom N other d s → CameFrom N other e t → d.node ≡ e.node → s.node ≡ t.node
      → s.place ≡ t.place
      → d.place ≡ e.place

-- The theorem of networks of runs: so it is in each whose links keep order and lose only what comes last.
abbrev pub RunsDeliverWhatWasSent : Type 0
RunsDeliverWhatWasSent = (N : Network) (other : OtherEnd) → AreLinks N other → DeliversWhatWasSent N other

-- Who is connected to a hub is the node at the other end of its session's link, as it was when that began.
-- It serves the clauses of `connections_are_as_born` and `hub_deliveries_have_their_nodes`.
use Rattle.std.proofs.Common.{◌≡◌, ℕ, ◌||◌, true, ◌∷◌, take, Option, Some, refl, ap, sym, subst, ◌∙◌}
use Rattle.std.specs.Prelude.{slice_get}
use Rattle.std.proofs.lemmas.Bool.{and_parts}
use Rattle.std.proofs.lemmas.Option.{same_Some}
use Rattle.bsc_history.specs.declared.connection.Connection.{Connection}
use Rattle.bsc_history.specs.Ends.{joined, live, numbered}
use Rattle.bsc_history.proofs.Common.{joined-append}
use Rattle.bsc_history.proofs.Connections.{found_in, joined_apart, joined_in, numbered_so}
use Rattle.bsc_history.proofs.Lists.{In, In-left as In-front}
use Rattle.bsc_node.specs.declared.node_event.NodeEvent.TheVariants.{Came}
use Rattle.bsc_node.specs.Conditions.{has_opened}
use Rattle.bsc_node.specs.Links.{is_there, was_taken}
use Rattle.bsc_node.specs.Logs.{Made, own}
use Rattle.bsc_node_identity.specs.Naming.{ConnectsNameTheirPeer, OthersNameNobody}
use Rattle.bsc_node_identity.specs.There.{ConnectsAreAsBegun, LinksHaveOneVmac, StaysANode}
use Rattle.bsc_node_identity.proofs.Settled.{fitting}
use Rattle.bsc_node_links.specs.Lives.{HasBegun, LinkLife, put_over}
use Rattle.bsc_node_links.specs.Talks.{given_in, put_in}
use Rattle.bsc_network_of_runs.specs.Connecting.{ConnectionsAreAsBorn}
use Rattle.bsc_network_of_runs.specs.Deliveries.{CameByHub, CameOverHub, Delivery, HubDeliveriesHaveTheirNodes, SessionIn, beside}
use Rattle.bsc_network_of_runs.specs.Networks.{AreLinks, Carries, LinkEnd, Network, OtherEnd, SessionName, Traffic, of_node, of_session}
use Rattle.bsc_network_of_runs.specs.Nodes.{NodeRun, Sending, log_of}
use Rattle.bsc_network_of_runs.specs.Reached.{EventsAreReached}
use Rattle.bsc_network_of_runs.proofs.Naming.{ConnectsLaw, In-left, is_connect_so, one_name, was_given, who_asked}
use Rattle.bsc_network_of_runs.proofs.Passing.{GivenLaw}
use Rattle.bsc_network_of_runs.proofs.Peering.{born, own_now, put_as_born}

-- ---- a connection

module _ (names : ConnectsNameTheirPeer) (others : OthersNameNobody) (as_begun : (a : Made) → ConnectsAreAsBegun a) (stays : (a : Made) → StaysANode a) (given_law : GivenLaw)
    (connects_law : ConnectsLaw) (N : Network) (other : OtherEnd) (links : AreLinks N other) where
  module _ (z : SessionName) (x : SessionIn N z) (c : Connection) (conn : x.session.ended.conn ≡ Some c.number) (found : numbered c.number (joined x.hub.history) ≡ Some c) where
    among : In c (joined x.hub.history)
    among = (found_in c.number (joined x.hub.history) c found).0

    abbrev t : Traffic
    t = record { given = given_in x.session.talk; put = put_in x.session.talk }

    as_born : (k : ℕ) (link : LinkLife) (n : NodeRun) → slice_get N.nodes k ≡ Some n → other (of_session z) ≡ Some (of_node k link) → c.who ≡ born n link
    as_born k link n at leads = by (subst (λ (y : Option LinkEnd). Carries N y t) leads (links.carry (of_session z) t (x.hub, x.session, x.at_hub, x.at_session, refl)))
      where
        by : Carries N (Some (of_node k link)) t → c.who ≡ born n link
        by (u, (m, at_m, begun, is), (later, first)) =
            let asked = who_asked names others stays given_law connects_law N other links z x c conn among in
            let given = was_given names others stays given_law connects_law N other links z x c conn among in
            let same : m ≡ n = same_Some m n (sym at_m ∙ at) in
            let put : In asked.message.octets (put_over (log_of m) link) = In-left asked.message.octets later (given_in x.session.talk) (put_over (log_of m) link)
            (sym (ap (λ (v : Traffic). v.put) is) ∙ first) given in
            let connects = is_connect_so names others stays asked.message.octets asked.place asked.max asked.msg c.who asked.passed asked.asks in
            let so = put_as_born as_begun n link asked.message.octets (subst (λ (w : NodeRun). HasBegun (log_of w) link) same begun)
            (subst (λ (w : NodeRun). In asked.message.octets (put_over (log_of w) link)) same put) connects in
            one_name asked.msg.body c.who (born n link) asked.asks (names (born n link) asked.message.octets asked.place asked.max asked.msg
            (stays n.made n.is_node (take link.began (log_of n))) so asked.passed)

pub connections_are_as_born : ConnectsNameTheirPeer → OthersNameNobody → ((a : Made) → ConnectsAreAsBegun a) → ((a : Made) → StaysANode a) → GivenLaw → ConnectsLaw → ConnectionsAreAsBorn
connections_are_as_born names others as_begun stays given connects N other links z x c conn found k link n at leads =
    as_born names others as_begun stays given connects N other links z x c conn found k link n at leads

-- ---- a delivery over a hub

module _ (born_law : ConnectionsAreAsBorn) (one_vmac : (a : Made) → LinksHaveOneVmac a) (reached : (a : Made) → EventsAreReached a) (N : Network) (other : OtherEnd) (links : AreLinks N other) where
  module _ (d : Delivery) (s : Sending) (p : CameByHub N other d s) where
    abbrev x : SessionIn N p.z
    x = p.up.put_by

    -- a connection that was live joined
    joined_then : (c : Connection) → In c (live p.up.passed.entered.before) → numbered c.number (joined x.hub.history) ≡ Some c
    joined_then c alive =
        let entered = p.up.passed.entered in
        let G = entered.before in
        let among_all : In c (joined x.hub.history) = subst (In c) (ap joined (sym entered.is)) (subst (In c) (sym (joined-append G (entered.forward ∷ entered.later)))
        (In-front c (joined G) (joined (entered.forward ∷ entered.later)) (joined_in _ G c alive))) in
        numbered_so c (joined x.hub.history) (joined_apart x.hub.about x.hub.history x.hub.legal) among_all

    abbrev from_session : SessionIn N (beside p.z p.up.passed.number)
    from_session = record { hub = x.hub; at_hub = x.at_hub; session = p.up.passed.sender; at_session = p.up.passed.found }

    sender_is : p.up.passed.entered.from.who ≡ born p.up.sender p.up.link
    sender_is =
        let entered = p.up.passed.entered in
        born_law N other links (beside p.z p.up.passed.number) from_session entered.from p.up.passed.sends_as
        (joined_then entered.from (found_in entered.from.number (live entered.before) entered.from entered.sender_live).0)
        s.node p.up.link p.up.sender p.up.at_sender p.up.leads

    to_is : p.up.passed.entered.to.who ≡ born p.over.receiver p.link
    to_is =
        let entered = p.up.passed.entered in
        let f = found_in p.up.passed.conn (live entered.before) entered.to entered.receiver_live in
        born_law N other links p.z x entered.to (p.up.passed.joined ∙ ap Some (sym f.1)) (joined_then entered.to f.0)
        d.node p.link p.over.receiver p.over.at_receiver (links.both (of_node d.node p.link) (of_session p.z) p.leads)

    there : is_there p.link.name p.over.heard.comes.before ≡ true
    there =
        let P = p.over.heard.comes.before in
        let open_now = fitting P p.over.heard.e p.over.heard.comes.may (Came p.link.name p.octets) p.over.heard.brings in
        (and_parts (is_there p.link.name P) (was_taken p.link.name P || has_opened p.link.name P) open_now).0

    receiver_is : own p.over.receiver.made p.over.heard.comes.before ≡ born p.over.receiver p.link
    receiver_is =
        let R = p.over.receiver in
        own_now one_vmac R p.over.heard.comes.before _ p.link p.over.heard.comes.is (reached R.made R.events R.may d.place p.over.heard.e p.over.heard.comes) p.over.heard.has there

    came_over : CameOverHub N other d s
    came_over = record { by_hub = p; sender_is = sender_is; receiver_is = to_is ∙ sym receiver_is }

pub hub_deliveries_have_their_nodes : ConnectionsAreAsBorn → ((a : Made) → LinksHaveOneVmac a) → ((a : Made) → EventsAreReached a) → HubDeliveriesHaveTheirNodes
hub_deliveries_have_their_nodes born_law one_vmac reached N other links d s p = came_over born_law one_vmac reached N other links d s p

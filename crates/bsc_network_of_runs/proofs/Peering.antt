-- Who is at the other end of a direct connection: each node has met the other over this very link.
-- It serves clauses of functions of `laws`.
use Rattle.std.proofs.Common.{◌≡◌, inl, inr, ℕ, ◌==◌, ◌||◌, Bool, true, false, List, ◌++◌, take, Option, Some, None, refl, ap, sym, subst, ◌∙◌}
use Rattle.std.specs.Prelude.{IsTrue, slice_get, slice_index}
use Rattle.std.specs.Option.{option_map}
use Rattle.std.proofs.lemmas.Bool.{and_parts, eqb-true}
use Rattle.std.proofs.lemmas.Option.{same_Some}
use Rattle.bsc_octets.specs.declared.identity.Identity.{Identity}
use Rattle.bsc_octets.specs.declared.vmac.Vmac.{Vmac}
use Rattle.bsc_octets.specs.Forwarding.{function_in}
use Rattle.bsc_octets.specs.Functions.{is_npdu}
use Rattle.bsc_frame.specs.declared.message.Message.{Message}
use Rattle.bsc_checks.specs.declared.place.Place.{Place}
use Rattle.bsc_checks.specs.declared.verdict.Verdict.TheVariants.{Pass}
use Rattle.bsc_checks.specs.Outcomes.{outcome_of}
use Rattle.bsc_connector.specs.Back.{until}
use Rattle.bsc_history.proofs.Lists.{In}
use Rattle.bsc_node.specs.declared.link_name.LinkName.{LinkName}
use Rattle.bsc_node.specs.declared.link_name.LinkName.TheVariants.{Hub, Direct}
use Rattle.bsc_node.specs.declared.node_event.NodeEvent.TheVariants.{Came}
use Rattle.bsc_node.specs.declared.timed_event.TimedEvent.{TimedEvent}
use Rattle.bsc_node.specs.Conditions.{may_all_come, may_come, has_opened}
use Rattle.bsc_node.specs.Laws.{with_event, with_heard}
use Rattle.bsc_node.specs.Links.{begins, is_there, peer, place as place_of, verdict, was_taken}
use Rattle.bsc_node.specs.Logs.{Made, Line, came, Log, own, own_vmac}
use Rattle.bsc_node.specs.Meeting.{is_hub}
use Rattle.bsc_node.specs.Node.{log}
use Rattle.bsc_node.specs.Ways.{established_peer}
use Rattle.bsc_node_identity.specs.Carried.{LeadsTo}
use Rattle.bsc_node_identity.specs.Naming.{ConnectsNameTheirPeer, IsConnectOf, OthersNameNobody, PeersNamedThemselves, SlotsHaveWhoNamedItself, WasNamed, is_connect, named_by}
use Rattle.bsc_node_identity.specs.There.{ConnectsAreAsBegun, EstablishedAreThere, CameUpWith, LinksHaveOneVmac, NpdusPassWhereUp, PeersStay, StaysANode}
use Rattle.bsc_node_identity.proofs.OneMore.{established-same}
use Rattle.bsc_node_identity.proofs.Settled.{fitting}
use Rattle.bsc_node_links.specs.Lives.{HasBegun, LinkLife, given_over, put_over}
use Rattle.bsc_network_of_runs.specs.Deliveries.{CameDirectly, CameFrom, Delivery, DirectDeliveriesHaveTheirNodes, HubDeliveriesHaveTheirNodes, RunsDeliverOnlyWhatWasSent}
use Rattle.bsc_network_of_runs.specs.Deliveries.{RunsDeliverWhatWasSent, SentDirectly, WasSentBy}
use Rattle.bsc_network_of_runs.specs.Networks.{AreLinks, Carries, Fit, LinkEnd, Network, OtherEnd, Traffic, of_node}
use Rattle.bsc_network_of_runs.specs.Nodes.{HasNow, NodeRun, Sending, log_of}
use Rattle.bsc_network_of_runs.specs.Reached.{EventsAreReached}
use Rattle.bsc_network_of_runs.specs.Running.{IsLogOf}
use Rattle.bsc_network_of_runs.proofs.Born.{born-same, named_over, put_at, until-is}
use Rattle.bsc_network_of_runs.proofs.Coming.{own-npdu}
use Rattle.bsc_network_of_runs.proofs.Hearing.{begun_still}
use Rattle.bsc_network_of_runs.proofs.Naming.{In-left}

-- The laws of nodes of which it follows.
pub record PeerLaws : Type 0 where
  pub names : ConnectsNameTheirPeer
  pub others : OthersNameNobody
  pub begun : (a : Made) → ConnectsAreAsBegun a
  pub one_vmac : (a : Made) → LinksHaveOneVmac a
  pub established : (a : Made) → EstablishedAreThere a
  pub stay : (a : Made) → PeersStay a
  pub up : (a : Made) → NpdusPassWhereUp a
  pub a_node : (a : Made) → StaysANode a
  pub peers : (a : Made) → PeersNamedThemselves a
  pub slots : (a : Made) → SlotsHaveWhoNamedItself a
  pub reached : (a : Made) → EventsAreReached a

-- Who the node was when this link of it began.
abbrev pub born : NodeRun → LinkLife → Identity
born n x = own n.made (take x.began (log_of n))

-- ---- laws of every log that a node had

-- a law of the logs of events, of each log that was reached
at_log : (a : Made) (P : Log → Type 0) → ((events : List TimedEvent) → IsTrue (may_all_come a events) → P (log a events)) → (L : Log) → IsLogOf a L → P L
at_log a P law L reached = subst P (sym reached.is) (law reached.events reached.may)

at_event : (a : Made) (P : Log → TimedEvent → Type 0) → ((events : List TimedEvent) (e : TimedEvent) → IsTrue (may_all_come a events) → IsTrue (may_come (log a events) e)
    → P (log a events) e) → (L : Log) (e : TimedEvent) → IsLogOf a L → IsTrue (may_come L e) → P L e
at_event a P law L e reached may = subst (λ (M : Log). P M e) (sym reached.is) (law reached.events e reached.may (subst (λ (M : Log). IsTrue (may_come M e)) reached.is may))

direct_name : (name : LinkName) → is_hub name ≡ false → (k : ℕ) × (name ≡ Direct k)
direct_name (Hub s) h = cc
direct_name (Direct k) h = (k, refl)

no_connect : (o : List ℕ) → is_npdu o ≡ true → is_connect o ≡ false
no_connect o h = (let first : slice_index o 0 ≡ 1 = eqb-true (slice_index o 0) 1 h in ap (λ (f : ℕ). (f == 6) || (f == 7)) first)

-- ---- what a node is while its link is there

-- While a link is there the node is who it was when the link began.
pub own_now : ((a : Made) → LinksHaveOneVmac a) → (n : NodeRun) (P : Log) (rest : List Line) (x : LinkLife) → log_of n ≡ P ++ rest → IsLogOf n.made P → HasNow P x → is_there x.name P ≡ true
    → own n.made P ≡ born n x
own_now one_vmac n P rest x is reached has there =
    let a = n.made in
    let law = at_log a (λ (L : Log). (name : LinkName) → is_there name L ≡ true → own_vmac a (until (begins name) L) ≡ own_vmac a L) (one_vmac a) P reached in
    let vmac : own_vmac a P ≡ own_vmac a (take x.began (log_of n)) = sym (law x.name there) ∙ ap (own_vmac a) (until-is P x has ∙ sym (born-same (log_of n) P rest x is has.begun)) in
    ap (λ (v : Vmac). record a.own { vmac = v }) vmac

-- A Connect-Request and a Connect-Accept that it put on a link has the identity with which that began.
pub put_as_born : ((a : Made) → ConnectsAreAsBegun a) → (n : NodeRun) (x : LinkLife) (o : List ℕ) → HasBegun (log_of n) x → In o (put_over (log_of n) x) → is_connect o ≡ true
    → IsConnectOf (born n x) o
put_as_born as_begun n x o begun h connects =
    let p = put_at (log_of n) x o begun h in
    let r = as_begun n.made n.events n.may p.before p.later x.name o p.is connects in
    subst (λ (L : Log). IsConnectOf (own n.made L) o) (until-is p.before x p.has ∙ sym (born-same (log_of n) p.before _ x p.is p.has.begun)) r.1

module _ (laws : PeerLaws) where
  -- ---- over a link

  connect_so : (o : List ℕ) (at : Place) (max : ℕ) (msg : Message) (who : Identity) → outcome_of o at max ≡ Pass msg → named_by msg.body ≡ Some who → is_connect o ≡ true
  connect_so o at max msg who passed named = by (is_connect o) refl
    where
      none : Some who ≡ None → ⊥
      none g = cc

      by : (b : Bool) → is_connect o ≡ b → is_connect o ≡ true
      by true is = is
      by false is = absurd (none (sym named ∙ laws.others o at max msg is passed))

  module _ (N : Network) (other : OtherEnd) (links : AreLinks N other) where
    -- what a link gave was put at its other end
    came_over : (k j : ℕ) (n m : NodeRun) (x y : LinkLife) (o : List ℕ) → slice_get N.nodes k ≡ Some n → slice_get N.nodes j ≡ Some m → other (of_node k x) ≡ Some (of_node j y)
        → HasBegun (log_of n) x → In o (given_over (log_of n) x)
        → HasBegun (log_of m) y × In o (put_over (log_of m) y)
    came_over k j n m x y o at at_m leads begun h = by (subst (λ (e : Option LinkEnd). Carries N e t) leads (links.carry (of_node k x) t (n, at, begun, refl)))
      where
        t : Traffic
        t = record { given = given_over (log_of n) x; put = put_over (log_of n) x }

        by : Carries N (Some (of_node j y)) t → HasBegun (log_of m) y × In o (put_over (log_of m) y)
        by (u, (m', at_m', begun_y, is), (later, first)) =
            let same : m' ≡ m = same_Some m' m (sym at_m' ∙ at_m) in
            let put : put_over (log_of m') y ≡ given_over (log_of n) x ++ later = sym (ap (λ (v : Traffic). v.put) is) ∙ first in (
              subst (λ (w : NodeRun). HasBegun (log_of w) y) same begun_y,
              subst (λ (w : NodeRun). In o (put_over (log_of w) y)) same (In-left o later (given_over (log_of n) x) (put_over (log_of m') y) put h),
            )

    -- Who named itself over a link is the node at its other end, as it was when the link began there.
    named_is : (k j : ℕ) (n m : NodeRun) (x y : LinkLife) → slice_get N.nodes k ≡ Some n → slice_get N.nodes j ≡ Some m → other (of_node k x) ≡ Some (of_node j y) → HasBegun (log_of n) x
        → (P : Log) (rest : List Line) → log_of n ≡ P ++ rest → HasNow P x → (who : Identity) → WasNamed n.made P x.name who → who ≡ born m y
    named_is k j n m x y at at_m leads begun P rest is has who named =
        let g = named_over n.made (log_of n) P rest x who is has named in
        let at_place = place_of n.made g.before x.name in
        let max = n.made.own.max_bvlc in
        let connects = connect_so g.octets at_place max g.msg who g.passed g.named in
        let put = came_over k j n m x y g.octets at at_m leads begun g.given in
        let so = put_as_born laws.begun m y g.octets put.0 put.1 connects in
        same_Some who (born m y) (sym g.named ∙ laws.names (born m y) g.octets at_place max g.msg (laws.a_node m.made m.is_node (take y.began (log_of m))) so g.passed)

    -- ---- a delivery over a direct link

    module _ (d : Delivery) (s : Sending) (p : SentDirectly N other d s) where
      abbrev R : NodeRun
      R = p.over.receiver

      abbrev P : Log
      P = p.over.heard.comes.before

      abbrev S : NodeRun
      S = p.sender

      abbrev Q : Log
      Q = p.sent.comes.before

      abbrev x : LinkLife
      x = p.link

      abbrev y : LinkLife
      y = p.from_link

      fit : Fit (of_node d.node x) (of_node s.node y)
      fit = links.fit (of_node d.node x) (of_node s.node y) p.leads

      back : other (of_node s.node y) ≡ Some (of_node d.node x)
      back = links.both (of_node d.node x) (of_node s.node y) p.leads

      P_reached : IsLogOf R.made P
      P_reached = laws.reached R.made R.events R.may d.place p.over.heard.e p.over.heard.comes

      Q_reached : IsLogOf S.made Q
      Q_reached = laws.reached S.made S.events S.may s.place p.sent.e p.sent.comes

      x_there : is_there x.name P ≡ true
      x_there =
          let open_now = fitting P p.over.heard.e p.over.heard.comes.may (Came x.name p.octets) p.over.heard.brings in
          (and_parts (is_there x.name P) (was_taken x.name P || has_opened x.name P) open_now).0

      -- ---- whom the receiver knows

      record Known : Type 0 where
        who : Identity
        is : peer P x.name ≡ Some who
        address : who.vmac ≡ d.delivered.from

      known_so : (name : LinkName) → is_hub name ≡ false → p.over.heard.e.event ≡ Came name p.octets → (who : Identity)
          → peer (with_heard R.made P p.over.heard.e name p.octets) name ≡ Some who → peer P name ≡ Some who
      known_so (Hub t) h brings who is = cc
      known_so (Direct k) h brings who is =
          at_event R.made
          (λ (L : Log) (e : TimedEvent). (i : ℕ) (o : List ℕ) (w : Identity) → e.event ≡ Came (Direct i) o → is_connect o ≡ false
          → peer (with_heard R.made L e (Direct i) o) (Direct i) ≡ Some w → peer L (Direct i) ≡ Some w) (laws.stay R.made) P p.over.heard.e P_reached p.over.heard.comes.may
          k p.octets who brings (no_connect p.octets (own-npdu S.made (log_of S) y p.n s p.octets p.sent)) is

      known : Known
      known = by (peer (with_heard R.made P p.over.heard.e x.name p.octets) x.name) refl p.from_peer
        where
          by : (o : Option Identity) → peer (with_heard R.made P p.over.heard.e x.name p.octets) x.name ≡ o → option_map (λ (who : Identity). who.vmac) o ≡ Some d.delivered.from → Known
          by None is h = cc
          by (Some who) is h = record { who = who; is = known_so x.name fit.0 p.over.heard.brings who is; address = same_Some who.vmac d.delivered.from h }

      peer_named : (name : LinkName) → is_hub name ≡ false → (who : Identity) → peer P name ≡ Some who → WasNamed R.made P name who
      peer_named (Hub t) h who is = cc
      peer_named (Direct k) h who is = at_log R.made (λ (L : Log). (i : ℕ) (w : Identity) → peer L (Direct i) ≡ Some w → WasNamed R.made L (Direct i) w) (laws.peers R.made) P P_reached k who is

      known_is : known.who ≡ born S y
      known_is =
          named_is d.node s.node R S x y p.over.at_receiver p.at_sender p.leads (begun_still R.made
          (log_of R) x d.place p.over.heard.e p.over.heard.comes p.over.heard.has.begun) P _ p.over.heard.comes.is p.over.heard.has known.who
          (peer_named x.name fit.0 known.who known.is)

      -- ---- with whom the receiver's slot came up

      record Risen : Type 0 where
        slot : ℕ
        name : x.name ≡ Direct slot
        came_up : CameUpWith P slot known.who

      risen : Risen
      risen =
          let k = direct_name x.name fit.0 in
          let npdu = own-npdu S.made (log_of S) y p.n s p.octets p.sent in
          let brings : p.over.heard.e.event ≡ Came (Direct k.0) p.octets = subst (λ (name : LinkName). p.over.heard.e.event ≡ Came name p.octets) k.1 p.over.heard.brings in
          let passed : verdict R.made (with_event P p.over.heard.e) (Direct k.0) p.octets ≡ Pass p.passed.0 =
          subst (λ (name : LinkName). verdict R.made (with_event P p.over.heard.e) name p.octets ≡ Pass p.passed.0) k.1 p.passed.1 in
          let up =
          at_event R.made
          (λ (L : Log) (e : TimedEvent). (i : ℕ) (o : List ℕ) (msg : Message) → e.event ≡ Came (Direct i) o → verdict R.made (with_event L e) (Direct i) o ≡ Pass msg
          → (function_in o == 1) ≡ true → (who : Identity) × (peer L (Direct i) ≡ Some who) × CameUpWith L i who) (laws.up R.made)
          P p.over.heard.e P_reached p.over.heard.comes.may k.0 p.octets p.passed.0 brings passed npdu in
          let one : up.0 ≡ known.who = same_Some up.0 known.who (sym up.1 ∙ ap (peer P) (sym k.1) ∙ known.is) in
          record { slot = k.0; name = k.1; came_up = subst (CameUpWith P k.0) one up.2 }

      -- ---- with whom the sender's slot is established

      record Held : Type 0 where
        slot : ℕ
        name : y.name ≡ Direct slot
        who : Identity
        is : established_peer slot Q ≡ Some who
        address : who.vmac ≡ s.dest

      held : Held
      held =
          let k = direct_name y.name fit.1 in
          let leads : LeadsTo (with_event Q p.sent.e) s.dest (Direct k.0) None = subst (λ (name : LinkName). LeadsTo (with_event Q p.sent.e) s.dest name None) k.1 p.to_peer in
          record { slot = k.0; name = k.1; who = leads.1; is = sym (established-same k.0 Q (came p.sent.e) refl) ∙ leads.2; address = leads.3 }

      held_named : WasNamed S.made Q y.name held.who
      held_named =
          subst (λ (name : LinkName). WasNamed S.made Q name held.who) (sym held.name)
          (at_log S.made (λ (L : Log). (i : ℕ) (w : Identity) → established_peer i L ≡ Some w → WasNamed S.made L (Direct i) w) (laws.slots S.made) Q Q_reached held.slot held.who held.is)

      held_is : held.who ≡ born R x
      held_is =
          named_is s.node d.node S R y x p.at_sender p.over.at_receiver back (begun_still S.made
          (log_of S) y s.place p.sent.e p.sent.comes p.sent.has.begun) Q _ p.sent.comes.is p.sent.has held.who held_named

      y_there : is_there y.name Q ≡ true
      y_there =
          subst (λ (name : LinkName). is_there name Q ≡ true) (sym held.name)
          (at_log S.made (λ (L : Log). (i : ℕ) (w : Identity) → established_peer i L ≡ Some w → is_there (Direct i) L ≡ true) (laws.established S.made) Q Q_reached held.slot held.who held.is)

      -- ---- both

      sender_is : own S.made Q ≡ born S y
      sender_is = own_now laws.one_vmac S Q _ y p.sent.comes.is Q_reached p.sent.has y_there

      receiver_is : own R.made P ≡ born R x
      receiver_is = own_now laws.one_vmac R P _ x p.over.heard.comes.is P_reached p.over.heard.has x_there

      came_directly : CameDirectly N other d s
      came_directly = record {
        direct = p;
        address = ap (λ (w : Identity). w.vmac) (sender_is ∙ sym known_is) ∙ known.address;
        destination = sym held.address ∙ ap (λ (w : Identity). w.vmac) (held_is ∙ sym receiver_is);
        sender_slot = held.slot;
        of_sender = held.name;
        established = held.is ∙ ap Some (held_is ∙ sym receiver_is);
        receiver_slot = risen.slot;
        of_receiver = risen.name;
        came_up = subst (CameUpWith P risen.slot) (known_is ∙ sym sender_is) risen.came_up;
        met = known.is ∙ ap Some (known_is ∙ sym sender_is);
      }

pub direct_deliveries_have_their_nodes : PeerLaws → DirectDeliveriesHaveTheirNodes
direct_deliveries_have_their_nodes laws N other links d s p = came_directly laws N other links d s p

-- ---- the theorem

without_addresses : (N : Network) (other : OtherEnd) (d : Delivery) (s : Sending) → CameFrom N other d s → WasSentBy N other d s
without_addresses N other d s (inl p) = inl p.by_hub
without_addresses N other d s (inr p) = inr p.direct

with_addresses : HubDeliveriesHaveTheirNodes → DirectDeliveriesHaveTheirNodes → (N : Network) (other : OtherEnd) → AreLinks N other → (d : Delivery) (s : Sending) → WasSentBy N other d s
    → CameFrom N other d s
with_addresses hubs directly N other links d s (inl p) = inl (hubs N other links d s p)
with_addresses hubs directly N other links d s (inr p) = inr (directly N other links d s p)

pub runs_deliver_what_was_sent : RunsDeliverOnlyWhatWasSent → HubDeliveriesHaveTheirNodes → DirectDeliveriesHaveTheirNodes → RunsDeliverWhatWasSent
runs_deliver_what_was_sent only hubs directly N other links =
    let t = only N other links in
    record {
      each = λ d is. (let r = t.each d is in (r.0, with_addresses hubs directly N other links d r.0 r.1));
      once = λ d e s u p q node sender place. t.once d e s u (without_addresses N other d s p) (without_addresses N other e u q) node sender place;
    }

-- What is delivered of what came over a link to a hub came from a Send.
-- It serves the clauses of `direct_deliveries_were_sent`, `hub_deliveries_were_sent` and `runs_deliver_only_what_was_sent`.
use Rattle.std.proofs.Common.{◌≡◌, ◌⊎◌, inl, inr, ℕ, ◌+◌, suc, Bool, true, false, ◌||◌, List, [], ◌∷◌, length, drop, Option, Some, refl, ap, sym, subst, ◌∙◌, arith}
use Rattle.std.specs.Prelude.{IsTrue, not, slice_get}
use Rattle.std.specs.List.{list_any}
use Rattle.std.proofs.lemmas.Bool.{and_parts}
use Rattle.bsc_octets.specs.declared.vmac.Vmac.{Vmac}
use Rattle.bsc_octets.specs.Forwarding.{out}
use Rattle.bsc_frame.specs.declared.body.Body.TheVariants.{Npdu}
use Rattle.bsc_checks.specs.declared.verdict.Verdict.TheVariants.{Pass}
use Rattle.bsc_checks.specs.Outcomes.{outcome_of}
use Rattle.bsc_history.specs.Ends.{joined, live, numbered}
use Rattle.bsc_history.proofs.Common.{joined-append}
use Rattle.bsc_history.proofs.Connections.{found_in, joined_apart, joined_in, numbered_so}
use Rattle.bsc_history.proofs.Lists.{In, In-left}
use Rattle.bsc_lemmas.proofs.Numbers.{small_id}
use Rattle.bsc_node.specs.declared.link_name.LinkName.{LinkName}
use Rattle.bsc_node.specs.declared.link_name.LinkName.TheVariants.{Hub, Direct}
use Rattle.bsc_node.specs.declared.node_event.NodeEvent.TheVariants.{Came}
use Rattle.bsc_node.specs.declared.timed_event.TimedEvent.{TimedEvent}
use Rattle.bsc_node.specs.declared.action.Action.TheVariants.{Deliver}
use Rattle.bsc_node.specs.Conditions.{has_opened, may_come}
use Rattle.bsc_node.specs.Laws.{DeliversWhatCame, IsDeliveredOnce, delivered_at, delivery, with_event, with_heard}
use Rattle.bsc_node.specs.Links.{begins, is_over_by, is_there, life, place as place_of, was_taken}
use Rattle.bsc_node.specs.Logs.{Made, Log, next_id}
use Rattle.bsc_node.specs.Meeting.{is_hub}
use Rattle.bsc_node.specs.Messages.{message_octets}
use Rattle.bsc_node_identity.specs.Carried.{LeadsTo, WaysLeadThere}
use Rattle.bsc_node_identity.proofs.Settled.{fitting}
use Rattle.bsc_octets.specs.declared.identity.Identity.{Identity}
use Rattle.bsc_octets.specs.Functions.{is_npdu, npdus}
use Rattle.bsc_node_identity.specs.There.{StaysANode}
use Rattle.bsc_node_links.specs.Lives.{LinkLife, given_over}
use Rattle.bsc_network_of_runs.specs.Connecting.{ConnectionsAreOfNodes}
use Rattle.bsc_network_of_runs.specs.Deliveries.{SessionIn, CameByHub, Delivery, HeardFrom, HubDeliveriesWereSent, HubLinksGiveWhatWasSent, beside}
use Rattle.bsc_network_of_runs.specs.Networks.{AreLinks, Network, OtherEnd, of_node, of_session}
use Rattle.bsc_network_of_runs.specs.Nodes.{DeliversAt, HasNow, HearsAt, IsWhole, NodeRun, Sending}
use Rattle.bsc_node_identity.specs.Npdus.{IsFor}
use Rattle.bsc_node_identity.proofs.Npdus.{passed-npdu}
use Rattle.bsc_node_identity.proofs.PassedOn.{IsDeliveredSo, is_for, passed_so}

-- ---- the newest beginning

first_so : (b c : Bool) → (b || c) ≡ true → c ≡ false → b ≡ true
first_so true c h none = refl
first_so false c h none = cc

pub newest : (name : LinkName) (L : Log) → list_any (begins name) L ≡ true → (i : ℕ) × HasNow L (record { name = name; began = i })
newest name [] h = cc
newest name (m ∷ L) h = by (λ g. newest name L g) (list_any (begins name) L) refl
  where
    by : (list_any (begins name) L ≡ true → (i : ℕ) × HasNow L (record { name = name; began = i })) → (b : Bool) → list_any (begins name) L ≡ b → (i : ℕ)
        × HasNow (m ∷ L) (record { name = name; began = i })
    by rec true later =
        let r = rec later in
        let next : suc r.0 + 1 ≡ suc (r.0 + 1) = omega arith in (
          suc r.0,
          record {
            begun = record { line = r.1.begun.line; at = r.1.begun.at; begins_it = r.1.begun.begins_it };
            since = ap (λ (k : ℕ). list_any (begins name) (drop k (m ∷ L))) next ∙ r.1.since;
          },
        )
    by rec false none = (0, record { begun = record { line = m; at = refl; begins_it = first_so (begins name m) (list_any (begins name) L) h none }; since = none })

-- a message comes only over a link that is there
pub has_begun : (L : Log) (e : TimedEvent) (name : LinkName) (o : List ℕ) → IsTrue (may_come L e) → e.event ≡ Came name o → list_any (begins name) L ≡ true
has_begun L e name o may is =
    let open_now = fitting L e may (Came name o) is in
    let there = (and_parts (is_there name L) (was_taken name L || has_opened name L) open_now).0 in
    (and_parts (list_any (begins name) L) (not (list_any (is_over_by name) (life L name))) there).0

-- ---- a hub's frame

hub_dest : (L : Log) (v : Vmac) (name : LinkName) (dest : Option Vmac) → is_hub name ≡ true → LeadsTo L v name dest → dest ≡ Some v
hub_dest L v (Hub s) dest to_hub leads = leads
hub_dest L v (Direct k) dest to_hub leads = cc

module _ (ways : WaysLeadThere) (stays : (a : Made) → StaysANode a) (connections : ConnectionsAreOfNodes) (heard : HubLinksGiveWhatWasSent) (N : Network) (other : OtherEnd)
    (links : AreLinks N other) (d : Delivery) (n : NodeRun) (at : slice_get N.nodes d.node ≡ Some n) where
  of_heard : (x : DeliversAt n d.place d.delivered) (link : LinkLife) (place : ℕ) (once : IsDeliveredOnce n.made x.comes.before x.e) → (hears : HearsAt n link place d.place once.1)
      → once.0 ≡ link.name → is_hub link.name ≡ true → d.delivered ≡ delivery once.2 once.3 once.4
      → HeardFrom N other d.node link place once.1 → (s : Sending) × CameByHub N other d s
  of_heard x link place once hears name to_hub delivered f =
      let u = f.up in
      let s = f.sending in
      let p = u.passed in
      let entered = p.entered in
      let v = entered.from.who.vmac in
      let sent = u.sent in
      let L = with_event sent.comes.before sent.e in
      let up_hub : is_hub u.link.name ≡ true = links.fit (of_session (beside f.z p.number)) (of_node s.node u.link) u.leads in
      let dest : sent.path.dest ≡ Some s.dest = hub_dest L s.dest sent.path.link sent.path.dest (ap is_hub sent.link ∙ up_hub) (ways L s.dest sent.path sent.by_path) in
      let message : entered.message ≡ message_octets (next_id L) (Some s.dest) (Npdu s.npdu) = sent.octets ∙ ap (λ (t : Option Vmac). message_octets (next_id L) t (Npdu s.npdu)) dest in
      let octets : once.1 ≡ out (message_octets (next_id L) (Some s.dest) (Npdu s.npdu)) v = entered.octets ∙ ap (λ (m : List ℕ). out m v) message in
      let six_dest : length s.dest.0 ≡ 6 = subst IsWhole sent.sends (u.sender.whole s.place sent.e sent.comes) in
      let G = entered.before in
      let among : In entered.from (joined u.put_by.hub.history) = subst (In entered.from) (ap joined (sym entered.is))
      (subst (In entered.from) (sym (joined-append G (entered.forward ∷ entered.later)))
      (In-left entered.from (joined G) (joined (entered.forward ∷ entered.later)) (joined_in _ G entered.from (found_in entered.from.number (live G) entered.from entered.sender_live).0))) in
      let one : numbered entered.from.number (joined u.put_by.hub.history) ≡ Some entered.from =
      numbered_so entered.from (joined u.put_by.hub.history) (joined_apart u.put_by.hub.about u.put_by.hub.history u.put_by.hub.legal) among in
      let from_session : SessionIn N (beside f.z p.number) = record { hub = u.put_by.hub; at_hub = u.put_by.at_hub; session = p.sender; at_session = p.found } in
      let of_node_there = (connections N other links (beside f.z p.number) from_session entered.from p.sends_as one).of_dialler s.node u.link u.leads in
      let is_node = stays of_node_there.node.made of_node_there.node.is_node (with_event of_node_there.comes.before of_node_there.e) in
      let six_from : length v.0 ≡ 6 = ap (λ (who : Identity). length who.vmac.0) of_node_there.who ∙ is_node.address in
      let at_place = place_of n.made (with_event x.comes.before x.e) once.0 in
      let so : IsDeliveredSo v s.dest s.npdu (delivery once.2 once.3 once.4) =
      passed_so once.0 once.2 (with_heard n.made x.comes.before x.e once.0 once.1) at_place n.made.own.max_bvlc (next_id L) v s.dest s.npdu once.3 once.4 (small_id _) six_from six_dest
      (subst (λ (m : List ℕ). outcome_of m at_place n.made.own.max_bvlc ≡ Pass once.2) octets once.6) once.7 once.8 in
      let it : IsDeliveredSo v s.dest s.npdu d.delivered = subst (IsDeliveredSo v s.dest s.npdu) (sym delivered) so in (
        s,
        record {
          link = link;
          n = place;
          octets = once.1;
          over = record { receiver = n; at_receiver = at; heard = hears };
          z = f.z;
          leads = f.leads;
          up = u;
          npdu = sym it.npdu_is;
          address = sym it.from_is;
          meant = subst (λ (b : Bool). IsFor b s.dest entered.to.who.vmac) (sym it.for_all)
              (is_for entered.message entered.from.number (next_id L) s.dest s.npdu entered.to message six_dest entered.meant);
        },
      )

  of_once : (x : DeliversAt n d.place d.delivered) (name : LinkName) (o : List ℕ) → x.e.event ≡ Came name o → is_hub name ≡ true → IsDeliveredOnce n.made x.comes.before x.e → (s : Sending)
      × CameByHub N other d s
  of_once x name o event to_hub once =
      let came : Came name o ≡ Came once.0 once.1 = sym event ∙ once.5 in
      let names : name ≡ once.0 = cc in
      let r = newest once.0 x.comes.before (has_begun x.comes.before x.e once.0 once.1 x.comes.may once.5) in
      let link : LinkLife = record { name = once.0; began = r.0 } in
      let place = length (npdus (given_over x.comes.before link)) in
      let hears : HearsAt n link place d.place once.1 = record { e = x.e; comes = x.comes; brings = once.5; has = r.1; nth = refl } in
      let one : Deliver d.delivered ∷ [] ≡ Deliver (delivery once.2 once.3 once.4) ∷ [] = sym x.delivers ∙ once.9 in
      let delivered : d.delivered ≡ delivery once.2 once.3 once.4 = cc in
      let hub : is_hub once.0 ≡ true = ap is_hub (sym names) ∙ to_hub in
      let npdu : is_npdu once.1 ≡ true = passed-npdu once.1 (place_of n.made (with_event x.comes.before x.e) once.0) n.made.own.max_bvlc once.2 once.3 once.6 once.7 in
      of_heard x link place once hears refl hub delivered (heard N other links d.node n link place d.place once.1 at hub npdu hears)

  none_delivered : (x : DeliversAt n d.place d.delivered) → delivered_at n.made x.comes.before x.e ≡ [] → ⊥
  none_delivered x h = (let both : Deliver d.delivered ∷ [] ≡ [] = sym x.delivers ∙ h in cc)

  by_law : (x : DeliversAt n d.place d.delivered) (name : LinkName) (o : List ℕ) → x.e.event ≡ Came name o → is_hub name ≡ true → (delivered_at n.made x.comes.before x.e ≡ [])
      ⊎ IsDeliveredOnce n.made x.comes.before x.e → (s : Sending) × CameByHub N other d s
  by_law x name o event to_hub (inl none) = absurd (none_delivered x none)
  by_law x name o event to_hub (inr once) = of_once x name o event to_hub once

pub hub_deliveries_were_sent : ((a : Made) → DeliversWhatCame a) → WaysLeadThere → ((a : Made) → StaysANode a) → ConnectionsAreOfNodes → HubLinksGiveWhatWasSent → HubDeliveriesWereSent
hub_deliveries_were_sent delivers ways stays connections heard N other links d n at x name o event to_hub =
    by_law ways stays connections heard N other links d n at x name o event to_hub (delivers n.made x.comes.before x.e x.comes.may)

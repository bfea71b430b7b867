-- What is delivered of what came over a direct link is of a Send.
-- It serves the clauses of `direct_deliveries_were_sent` and `runs_deliver_only_what_was_sent`.
use Rattle.std.proofs.Common.{◌≡◌, ◌⊎◌, inl, inr, ℕ, Bool, true, false, List, [], ◌∷◌, ◌++◌, length, Option, Some, None, refl, ap, sym, subst, ◌∙◌}
use Rattle.std.specs.Prelude.{slice_get}
use Rattle.std.specs.Option.{option_map, option_or}
use Rattle.std.proofs.lemmas.Option.{same_Some}
use Rattle.std.proofs.lemmas.List.Elements.{filter-append}
use Rattle.bsc_octets.specs.declared.identity.Identity.{Identity}
use Rattle.bsc_octets.specs.declared.vmac.Vmac.{Vmac}
use Rattle.bsc_octets.specs.Functions.{is_npdu, npdus}
use Rattle.bsc_frame.specs.declared.message.Message.{Message}
use Rattle.bsc_frame.specs.declared.body.Body.TheVariants.{Npdu}
use Rattle.bsc_frame.proofs.Common.{same_npdu}
use Rattle.bsc_checks.specs.declared.verdict.Verdict.TheVariants.{Pass}
use Rattle.bsc_checks.specs.Outcomes.{outcome_of}
use Rattle.bsc_lemmas.proofs.Numbers.{small_id}
use Rattle.bsc_node.specs.declared.delivered.Delivered.{Delivered}
use Rattle.bsc_node.specs.declared.link_name.LinkName.{LinkName}
use Rattle.bsc_node.specs.declared.link_name.LinkName.TheVariants.{Hub, Direct}
use Rattle.bsc_node.specs.declared.node_event.NodeEvent.TheVariants.{Came}
use Rattle.bsc_node.specs.declared.action.Action.TheVariants.{Deliver}
use Rattle.bsc_node.specs.Laws.{DeliversWhatCame, IsDeliveredOnce, delivered_at, delivery, with_event, with_heard}
use Rattle.bsc_node.specs.Links.{peer, place as place_of, verdict}
use Rattle.bsc_node.specs.Logs.{Made, Log, next_id}
use Rattle.bsc_node.specs.Meeting.{is_hub}
use Rattle.bsc_node.specs.Messages.{message, message_octets}
use Rattle.bsc_node.specs.Receiving.{is_for_all, sender}
use Rattle.bsc_node_identity.specs.Carried.{LeadsTo, WaysLeadThere}
use Rattle.bsc_node_identity.proofs.Carried.{npdus_plainly}
use Rattle.bsc_node_links.specs.Lives.{HasBegun, LinkLife, given_over, put_over}
use Rattle.bsc_network_of_runs.specs.Deliveries.{CameByHub, Delivery, DirectDeliveriesWereSent, HubDeliveriesAreApart, HubDeliveriesWereSent, RunsDeliverOnlyWhatWasSent}
use Rattle.bsc_network_of_runs.specs.Deliveries.{SentDirectly, WasSentBy, beside}
use Rattle.bsc_network_of_runs.specs.Networks.{AreLinks, Carries, Fit, HasTraffic, LinkEnd, Network, OtherEnd, Traffic, of_node, of_session}
use Rattle.bsc_network_of_runs.specs.Nodes.{DeliversAt, HearsAt, NodeRun, PutsWhatWasSent, Sending, SendsAt, WasSent, log_of}
use Rattle.bsc_network_of_runs.proofs.Coming.{own-npdu, same_put}
use Rattle.bsc_network_of_runs.proofs.Delivering.{has_begun, newest}
use Rattle.bsc_network_of_runs.proofs.Hearing.{begun_still, heard-at}
use Rattle.bsc_node_identity.proofs.Npdus.{passed-npdu}
use Rattle.bsc_network_of_runs.proofs.Parting.{heard_once, life_in}
use Rattle.bsc_lemmas.proofs.Lists.{got-left}
use Rattle.bsc_network_of_runs.proofs.Lists.{nothing_got}

not_both : (b : Bool) → b ≡ true → b ≡ false → ⊥
not_both b h g = (let both : true ≡ false = sym h ∙ g in cc)

direct_dest : (L : Log) (v : Vmac) (name : LinkName) (dest : Option Vmac) → is_hub name ≡ false → LeadsTo L v name dest → dest ≡ None
direct_dest L v (Hub s) dest direct leads = cc
direct_dest L v (Direct k) dest direct leads = leads.0

or_peer : (o p : Option Vmac) (v : Vmac) → o ≡ None → option_or o p ≡ Some v → p ≡ Some v
or_peer None p v none is = is
or_peer (Some u) p v none is = cc

peer_sent : (name : LinkName) (msg : Message) (L : Log) (from : Vmac) → is_hub name ≡ false → msg.origin ≡ None → sender name msg L ≡ Some from
    → option_map (λ (who : Identity). who.vmac) (peer L name) ≡ Some from
peer_sent (Hub s) msg L from direct none is = cc
peer_sent (Direct k) msg L from direct none is = or_peer msg.origin (option_map (λ (who : Identity). who.vmac) (peer L (Direct k))) from none is

module _ (ways : WaysLeadThere) (puts : (n : NodeRun) → PutsWhatWasSent n) (N : Network) (other : OtherEnd) (links : AreLinks N other) (d : Delivery) (n : NodeRun)
    (at : slice_get N.nodes d.node ≡ Some n) where
  of_sent : (x : DeliversAt n d.place d.delivered) (once : IsDeliveredOnce n.made x.comes.before x.e) (i place : ℕ)
      (hears : HearsAt n (record { name = once.0; began = i }) place d.place once.1) → hears.comes ≡ hears.comes → is_hub once.0 ≡ false
      → d.delivered ≡ delivery once.2 once.3 once.4 → sender once.0 once.2 (with_heard n.made hears.comes.before hears.e once.0 once.1) ≡ Some once.4
      → verdict n.made (with_event hears.comes.before hears.e) once.0 once.1 ≡ Pass once.2 → (k : ℕ) (y : LinkLife) (m : NodeRun) → slice_get N.nodes k ≡ Some m
      → other (of_node d.node (record { name = once.0; began = i })) ≡ Some (of_node k y) → is_hub y.name ≡ false → WasSent k m y place once.1
      → (s : Sending) × SentDirectly N other d s
  of_sent x once i place hears same direct delivered from passed k y m at_m leads y_direct w =
      let s = w.sending in
      let sent = w.sent in
      let L = with_event sent.comes.before sent.e in
      let way_leads : LeadsTo L s.dest y.name sent.path.dest = subst (λ (name : LinkName). LeadsTo L s.dest name sent.path.dest) sent.link (ways L s.dest sent.path sent.by_path) in
      let none : sent.path.dest ≡ None = direct_dest L s.dest y.name sent.path.dest y_direct way_leads in
      let octets : once.1 ≡ message_octets (next_id L) None (Npdu s.npdu) = sent.octets ∙ ap (λ (t : Option Vmac). message_octets (next_id L) t (Npdu s.npdu)) none in
      let at_place = place_of n.made (with_event x.comes.before x.e) once.0 in
      let said : once.2 ≡ message (next_id L) None (Npdu s.npdu) = npdus_plainly s.npdu (next_id L) at_place n.made.own.max_bvlc once.2 (small_id _)
      (subst (λ (o : List ℕ). outcome_of o at_place n.made.own.max_bvlc ≡ Pass once.2) octets once.6) in
      let content : once.3 ≡ s.npdu = same_npdu once.3 s.npdu (sym once.7 ∙ ap (λ (g : Message). g.body) said) in (
        s,
        record {
          link = record { name = once.0; began = i };
          n = place;
          octets = once.1;
          over = record { receiver = n; at_receiver = at; heard = hears };
          sender = m;
          at_sender = ap (λ (j : ℕ). slice_get N.nodes j) w.of_node ∙ at_m;
          from_link = y;
          leads = leads ∙ ap (λ (j : ℕ). Some (of_node j y)) (sym w.of_node);
          sent = sent;
          npdu = sym content ∙ sym (ap (λ (g : Delivered). g.npdu) delivered);
          unicast = ap (λ (g : Delivered). g.broadcast) delivered ∙ ap is_for_all said;
          passed = (once.2, passed);
          to_peer = subst (λ (t : Option Vmac). LeadsTo L s.dest y.name t) none way_leads;
          from_peer = peer_sent once.0 once.2 (with_heard n.made hears.comes.before hears.e once.0 once.1) once.4 direct (ap (λ (g : Message). g.origin) said) from
              ∙ sym (ap (λ (g : Delivered). Some g.from) delivered);
        },
      )

  of_once : (x : DeliversAt n d.place d.delivered) (name : LinkName) (o : List ℕ) → x.e.event ≡ Came name o → is_hub name ≡ false → IsDeliveredOnce n.made x.comes.before x.e → (s : Sending)
      × SentDirectly N other d s
  of_once x name o event direct once =
      let came : Came name o ≡ Came once.0 once.1 = sym event ∙ once.5 in
      let names : name ≡ once.0 = cc in
      let r = newest once.0 x.comes.before (has_begun x.comes.before x.e once.0 once.1 x.comes.may once.5) in
      let link : LinkLife = record { name = once.0; began = r.0 } in
      let place = length (npdus (given_over x.comes.before link)) in
      let hears : HearsAt n link place d.place once.1 = record { e = x.e; comes = x.comes; brings = once.5; has = r.1; nth = refl } in
      let one : Deliver d.delivered ∷ [] ≡ Deliver (delivery once.2 once.3 once.4) ∷ [] = sym x.delivers ∙ once.9 in
      let delivered : d.delivered ≡ delivery once.2 once.3 once.4 = cc in
      let not_hub : is_hub once.0 ≡ false = ap is_hub (sym names) ∙ direct in
      let npdu : is_npdu once.1 ≡ true = passed-npdu once.1 (place_of n.made (with_event x.comes.before x.e) once.0) n.made.own.max_bvlc once.2 once.3 once.6 once.7 in
      let got = heard-at n.made (log_of n) link d.place x.e once.1 x.comes once.5 r.1 npdu in
      let begun : HasBegun (log_of n) link = begun_still n.made (log_of n) link d.place x.e x.comes r.1.begun in
      by_other link place once.1 got not_hub (other (of_node d.node link)) refl
      (links.carry (of_node d.node link) (record { given = given_over (log_of n) link; put = put_over (log_of n) link }) (n, at, begun, refl))
      (λ k y m at_m leads y_direct w. of_sent x once r.0 place hears refl not_hub delivered once.8 once.6 k y m at_m leads y_direct w)
    where
      Goal : Type 0
      Goal = (s : Sending) × SentDirectly N other d s

      Next : LinkLife → ℕ → List ℕ → Type 0
      Next link place p = (k : ℕ) (y : LinkLife) (m : NodeRun) → slice_get N.nodes k ≡ Some m → other (of_node d.node link) ≡ Some (of_node k y) → is_hub y.name ≡ false → WasSent k m y place p → Goal

      by_node : (link : LinkLife) (place : ℕ) (p : List ℕ) → slice_get (npdus (given_over (log_of n) link)) place ≡ Some p → (k : ℕ) (y : LinkLife)
          → other (of_node d.node link) ≡ Some (of_node k y) → is_hub y.name ≡ false
          → (u : Traffic) → HasTraffic N (of_node k y) u → (later : List (List ℕ)) → u.put ≡ given_over (log_of n) link ++ later → Next link place p → Goal
      by_node link place p got k y leads y_direct u (m, at_m, begun, is) later first next =
          let put : npdus (put_over (log_of m) y) ≡ npdus (given_over (log_of n) link) ++ npdus later = ap npdus (sym (ap (λ (v : Traffic). v.put) is) ∙ first)
          ∙ filter-append is_npdu (given_over (log_of n) link) later in
          next k y m at_m leads y_direct (puts m k y place p begun (ap (λ (l : List (List ℕ)). slice_get l place) put ∙ got-left (npdus (given_over (log_of n) link)) (npdus later) place p got))

      by_end : (link : LinkLife) (place : ℕ) (p : List ℕ) → slice_get (npdus (given_over (log_of n) link)) place ≡ Some p → is_hub link.name ≡ false → (y : LinkEnd)
          → other (of_node d.node link) ≡ Some y → Fit (of_node d.node link) y
          → Carries N (Some y) (record { given = given_over (log_of n) link; put = put_over (log_of n) link }) → Next link place p → Goal
      by_end link place p got not_hub (of_session z) leads fit carried next = absurd (not_both (is_hub link.name) fit not_hub)
      by_end link place p got not_hub (of_node k y) leads fit (u, has, (later, first)) next = by_node link place p got k y leads fit.1 u has later first next

      by_other : (link : LinkLife) (place : ℕ) (p : List ℕ) → slice_get (npdus (given_over (log_of n) link)) place ≡ Some p → is_hub link.name ≡ false → (y : Option LinkEnd)
          → other (of_node d.node link) ≡ y
          → Carries N y (record { given = given_over (log_of n) link; put = put_over (log_of n) link }) → Next link place p → Goal
      by_other link place p got not_hub None leads carried next = absurd (nothing_got place p (ap (λ (l : List (List ℕ)). slice_get (npdus l) place) (sym carried) ∙ got))
      by_other link place p got not_hub (Some y) leads carried next = by_end link place p got not_hub y leads (links.fit (of_node d.node link) y leads) carried next

  none_delivered : (x : DeliversAt n d.place d.delivered) → delivered_at n.made x.comes.before x.e ≡ [] → ⊥
  none_delivered x h = (let both : Deliver d.delivered ∷ [] ≡ [] = sym x.delivers ∙ h in cc)

  by_law : (x : DeliversAt n d.place d.delivered) (name : LinkName) (o : List ℕ) → x.e.event ≡ Came name o → is_hub name ≡ false → (delivered_at n.made x.comes.before x.e ≡ [])
      ⊎ IsDeliveredOnce n.made x.comes.before x.e → (s : Sending) × SentDirectly N other d s
  by_law x name o event direct (inl none) = absurd (none_delivered x none)
  by_law x name o event direct (inr once) = of_once x name o event direct once

pub direct_deliveries_were_sent : ((a : Made) → DeliversWhatCame a) → WaysLeadThere → ((n : NodeRun) → PutsWhatWasSent n) → DirectDeliveriesWereSent
direct_deliveries_were_sent delivers ways puts N other links d n at x name o event direct = by_law ways puts N other links d n at x name o event direct (delivers n.made x.comes.before x.e x.comes.may)

-- ---- the theorem

-- two puts for one Send are one, wherever they go
one_put_of : (N : Network) (k j : ℕ) (m o : NodeRun) (x y : LinkLife) (r q : ℕ) (s t : Sending) (a b : List ℕ) → slice_get N.nodes k ≡ Some m → slice_get N.nodes j ≡ Some o → k ≡ j
    → SendsAt m.made (log_of m) x r s a → SendsAt o.made (log_of o) y q t b → s.place ≡ t.place
    → (x ≡ y) × (r ≡ q)
one_put_of N k j m o x y r q s t a b at_m at_o node c d place =
    let same : m ≡ o = same_Some m o (sym at_m ∙ ap (λ (i : ℕ). slice_get N.nodes i) node ∙ at_o) in
    same_put o.made (log_of o) x y r q s t a b (subst (λ (w : NodeRun). SendsAt w.made (log_of w) x r s a) same c) d place

module _ (N : Network) (other : OtherEnd) (links : AreLinks N other) where
  direct_apart : (d e : Delivery) (s t : Sending) (p : SentDirectly N other d s) (q : SentDirectly N other e t) → d.node ≡ e.node → s.node ≡ t.node → s.place ≡ t.place → d.place ≡ e.place
  direct_apart d e s t p q node sender_node place =
      let put = one_put_of N s.node t.node p.sender q.sender p.from_link q.from_link p.n q.n s t p.octets q.octets p.at_sender q.at_sender sender_node p.sent q.sent place in
      let to_p = links.both (of_node d.node p.link) (of_node s.node p.from_link) p.leads in
      let to_q = links.both (of_node e.node q.link) (of_node t.node q.from_link) q.leads in
      let ends : Some (of_node d.node p.link) ≡ Some (of_node e.node q.link) = sym to_p ∙ ap (λ (i : ℕ). other (of_node i p.from_link)) sender_node
      ∙ ap (λ (y : LinkLife). other (of_node t.node y)) put.0 ∙ to_q in
      let link : p.link ≡ q.link = ap (λ (y : Option LinkEnd). life_in y p.link) ends in
      let receiver : p.over.receiver ≡ q.over.receiver = same_Some p.over.receiver q.over.receiver (sym p.over.at_receiver ∙ ap (λ (i : ℕ). slice_get N.nodes i) node ∙ q.over.at_receiver) in
      let heard : HearsAt q.over.receiver q.link q.n d.place p.octets =
      subst (λ (i : ℕ). HearsAt q.over.receiver q.link i d.place p.octets) put.1
      (subst (λ (y : LinkLife). HearsAt q.over.receiver y p.n d.place p.octets) link (subst (λ (w : NodeRun). HearsAt w p.link p.n d.place p.octets) receiver p.over.heard)) in
      heard_once q.over.receiver q.link q.n d.place e.place p.octets q.octets heard q.over.heard (own-npdu p.sender.made (log_of p.sender) p.from_link p.n s p.octets p.sent)
      (own-npdu q.sender.made (log_of q.sender) q.from_link q.n t q.octets q.sent)

  -- one of them goes to a hub, and the other doesn't
  not_mixed : (d e : Delivery) (s t : Sending) → CameByHub N other d s → SentDirectly N other e t → s.node ≡ t.node → s.place ≡ t.place → ⊥
  not_mixed d e s t p q sender_node place =
      let u = p.up in
      let put = one_put_of N s.node t.node u.sender q.sender u.link q.from_link _ q.n s t u.passed.entered.message q.octets u.at_sender q.at_sender sender_node u.sent q.sent place in
      let to_hub : is_hub u.link.name ≡ true = links.fit (of_session (beside p.z u.passed.number)) (of_node s.node u.link) u.leads in
      let fit : Fit (of_node e.node q.link) (of_node t.node q.from_link) = links.fit (of_node e.node q.link) (of_node t.node q.from_link) q.leads in
      not_both (is_hub q.from_link.name) (ap (λ (y : LinkLife). is_hub y.name) (sym put.0) ∙ to_hub) fit.1

  module _ (hub_apart : HubDeliveriesAreApart) where
    once : (d e : Delivery) (s t : Sending) → WasSentBy N other d s → WasSentBy N other e t → d.node ≡ e.node → s.node ≡ t.node → s.place ≡ t.place → d.place ≡ e.place
    once d e s t (inl p) (inl q) node sender_node place = hub_apart N other links d e s t p q node sender_node place
    once d e s t (inl p) (inr q) node sender_node place = absurd (not_mixed d e s t p q sender_node place)
    once d e s t (inr p) (inl q) node sender_node place = absurd (not_mixed e d t s q p (sym sender_node) (sym place))
    once d e s t (inr p) (inr q) node sender_node place = direct_apart d e s t p q node sender_node place

  module _ (delivers : (a : Made) → DeliversWhatCame a) (hubs : HubDeliveriesWereSent) (directly : DirectDeliveriesWereSent) where
    either_way : (d : Delivery) (n : NodeRun) (at : slice_get N.nodes d.node ≡ Some n) (x : DeliversAt n d.place d.delivered) (name : LinkName) (o : List ℕ) → x.e.event ≡ Came name o
        → (b : Bool) → is_hub name ≡ b → (s : Sending) × WasSentBy N other d s
    either_way d n at x name o event true is = (let r = hubs N other links d n at x name o event is in (r.0, inl r.1))
    either_way d n at x name o event false is = (let r = directly N other links d n at x name o event is in (r.0, inr r.1))

    of_event : (d : Delivery) (n : NodeRun) (at : slice_get N.nodes d.node ≡ Some n) (x : DeliversAt n d.place d.delivered) → (delivered_at n.made x.comes.before x.e ≡ [])
        ⊎ IsDeliveredOnce n.made x.comes.before x.e → (s : Sending) × WasSentBy N other d s
    of_event d n at x (inl none) = (let both : Deliver d.delivered ∷ [] ≡ [] = sym x.delivers ∙ none in cc)
    of_event d n at x (inr one) = either_way d n at x one.0 one.1 one.5 (is_hub one.0) refl

pub runs_deliver_only_what_was_sent : ((a : Made) → DeliversWhatCame a) → HubDeliveriesWereSent → DirectDeliveriesWereSent → HubDeliveriesAreApart → RunsDeliverOnlyWhatWasSent
runs_deliver_only_what_was_sent delivers hubs directly hub_apart N other links = record {
  each = λ d is. of_event N other links delivers hubs directly d is.0 is.1 is.2 (delivers is.0.made is.2.comes.before is.2.e is.2.comes.may);
  once = λ d e s t p q node sender_node place. once N other links hub_apart d e s t p q node sender_node place;
}

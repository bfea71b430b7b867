-- What is no network of runs, written out: a link that swaps two messages, a hub at which a stranger forwards, and a node that invents an
-- NPDU. Each breaks one premise of the theorem.
-- No clause needs it: worked examples.
use Rattle.std.proofs.Common.{◌≡◌, ℕ, true, false, Bool, List, [], ◌∷◌, ◌++◌, Option, Some, None, refl, ap, sym, subst, ◌∙◌}
use Rattle.std.specs.Prelude.{slice_get}
use Rattle.std.specs.List.{list_all}
use Rattle.std.proofs.lemmas.Option.{same_Some}
use Rattle.bsc_octets.specs.Identities.{identity_of}
use Rattle.bsc_octets.specs.Functions.{npdus}
use Rattle.bsc_history.specs.declared.call.Call.TheVariants.{Connect, Forward}
use Rattle.bsc_history.specs.declared.entry.Entry.{Entry}
use Rattle.bsc_history.specs.declared.reply.Reply.TheVariants.{Appended, Joined}
use Rattle.bsc_history.specs.Legality.{Legal}
use Rattle.bsc_history.proofs.OnLiterals.{history_on_literals}
use Rattle.bsc_connector.specs.declared.side.Side.TheVariants.{Primary}
use Rattle.bsc_node.specs.declared.link_name.LinkName.TheVariants.{Hub}
use Rattle.bsc_node.specs.declared.node_event.NodeEvent.{NodeEvent}
use Rattle.bsc_node.specs.declared.node_event.NodeEvent.TheVariants.{Start, Opened, Came, Send}
use Rattle.bsc_node.specs.declared.timed_event.TimedEvent.{TimedEvent}
use Rattle.bsc_node.specs.declared.action.Action.TheVariants.{Put}
use Rattle.bsc_node.specs.Conditions.{may_all_come}
use Rattle.bsc_node.specs.Logs.{Line, Log, came, did}
use Rattle.bsc_node.specs.Node.{log}
use Rattle.bsc_node.proofs.OnLiterals.{node_on_literals}
use Rattle.bsc_session.proofs.TalkWords.{accept, back, joined_as, to_itself}
use Rattle.bsc_node_links.specs.Lives.{HasBegun, given_over, put_over}
use Rattle.bsc_node_links.specs.Talks.{AreFirstOf, put_in}
use Rattle.bsc_node_links.proofs.NodeWords.{at, node as node_a}
use Rattle.bsc_network_of_runs.specs.Hubs.{HubRun, SessionOf}
use Rattle.bsc_network_of_runs.specs.Networks.{AreLinks, Carries, HasTraffic, LinkEnd, Network, OtherEnd, Traffic, of_node, of_session}
use Rattle.bsc_network_of_runs.specs.Nodes.{NodeRun, PutsWhatWasSent, WasSent, log_of}
use Rattle.bsc_network_of_runs.proofs.Coming.{event_here}
use Rattle.bsc_session_laws.proofs.WorkedLaws.{talk}
use Rattle.bsc_network_of_runs.proofs.Worked.{the_hub, the_run, the_session}
use Rattle.bsc_network_of_runs.proofs.WorkedNetwork.{a_is_node, all-got, is_whole, the_name, whole_line}
use Rattle.bsc_network_of_runs.proofs.WorkedNode.{link}

-- ---- a link that swaps two messages

-- the node hears the NPDU before the hub's accept, which the session put first
abbrev swapped : List TimedEvent
swapped = at 0 Start ∷ at 0 (Opened (Hub Primary)) ∷ at 0 (Came (Hub Primary) back) ∷ at 0 (Came (Hub Primary) accept) ∷ []

swapped_may_come : may_all_come node_a swapped ≡ true
unfolding node_on_literals
swapped_may_come = refl

swapped_whole : list_all whole_line (log node_a swapped) ≡ true
unfolding node_on_literals
swapped_whole = refl

abbrev swapped_node : NodeRun
swapped_node = record {
  made = node_a;
  events = swapped;
  may = swapped_may_come;
  whole = λ place e c. is_whole e.event (all-got whole_line (log node_a swapped) place (came e) swapped_whole (event_here node_a (log node_a swapped) place e c));
  is_node = a_is_node;
}

abbrev swapped_network : Network
swapped_network = record { hubs = the_run ∷ []; nodes = swapped_node ∷ [] }

swapped_given : given_over (log node_a swapped) link ≡ back ∷ accept ∷ []
unfolding node_on_literals
swapped_given = refl

swapped_begun : HasBegun (log node_a swapped) link
unfolding node_on_literals
swapped_begun = record { line = _; at = refl; begins_it = refl }

swapped_traffic : HasTraffic swapped_network (of_node 0 link) (record { given = given_over (log node_a swapped) link; put = put_over (log node_a swapped) link })
swapped_traffic = (swapped_node, refl, swapped_begun, refl)

not_first : AreFirstOf (back ∷ accept ∷ []) (accept ∷ back ∷ []) → ⊥
not_first f = (let bad : accept ∷ back ∷ [] ≡ back ∷ (accept ∷ f.0) = f.1 in cc)

-- what a session of the hub put is what the worked one did
talk_is : (h : HubRun) → the_run ≡ h → (s : SessionOf h.about h.history) → slice_get h.sessions 0 ≡ Some s → talk ≡ s.talk
talk_is h same = subst (λ (g : HubRun). (s : SessionOf g.about g.history) → slice_get g.sessions 0 ≡ Some s → talk ≡ s.talk) same
    (λ s got. ap (λ (r : SessionOf the_run.about the_run.history). r.talk) (same_Some the_session s got))

-- No wires link the node to the session: `carry` fails.
a_swap_is_not_carried : (other : OtherEnd) → other (of_node 0 link) ≡ Some (of_session the_name) → AreLinks swapped_network other → ⊥
a_swap_is_not_carried other leads links =
    by (subst (λ (o : Option LinkEnd). Carries swapped_network o (record { given = given_over (log node_a swapped) link; put = put_over (log node_a swapped) link })) leads
    (links.carry (of_node 0 link) _ swapped_traffic))
  where
    by : Carries swapped_network (Some (of_session the_name)) (record { given = given_over (log node_a swapped) link; put = put_over (log node_a swapped) link }) → ⊥
    by (u, (h, s, at_hub, at_session, is), first) =
        let said : talk ≡ s.talk = talk_is h (same_Some the_run h at_hub) s at_session in
        let put : u.put ≡ put_in talk = ap (λ (t : Traffic). t.put) is ∙ ap put_in (sym said) in
        not_first (subst (λ (os : List (List ℕ)). AreFirstOf os (accept ∷ back ∷ [])) swapped_given (subst (AreFirstOf (given_over (log node_a swapped) link)) put first))

-- ---- a hub at which a stranger forwards

abbrev b_octets : List ℕ
b_octets = 0x02 ∷ 0x00 ∷ 0x00 ∷ 0x00 ∷ 0x00 ∷ 0x0B ∷ 0x0B ∷ 0x0B ∷ 0x0B ∷ 0x0B ∷ 0x0B ∷ 0x0B ∷ 0x0B ∷ 0x0B ∷ 0x0B ∷ 0x0B ∷ 0x0B ∷ 0x0B ∷ 0x0B ∷ 0x0B ∷ 0x0B ∷ 0x0B ∷ 0x06 ∷ 0x40 ∷ 0x05 ∷ 0xD9 ∷ []

abbrev forwards_it : Entry
forwards_it = record { caller = 9; call = Forward 2 to_itself; looks = record { conn = 1; taken = 0 } ∷ []; reply = Appended 1 }

abbrev joins_and_forwards : List Entry
joins_and_forwards = joined_as 1 ∷ record { caller = 9; call = Connect (identity_of b_octets); looks = []; reply = Joined 2 None } ∷ forwards_it ∷ []

-- the history is legal
it_is_legal : Legal the_hub joins_and_forwards
unfolding history_on_literals
it_is_legal = record {
  lawful = (
    record { replied = refl; named = refl; found = refl; called = refl },
    (record { replied = refl; named = refl; found = refl; called = refl }, (record { replied = refl; named = refl; found = refl; called = refl }, tt)),
  );
}

not_nine : ◌≡◌ {A = ℕ} 3 9 → ⊥
not_nine e = cc

-- but it is no run of a hub whose sessions are all of caller 3: `forwarders` fails
a_stranger_is_no_session : (r : HubRun) → r.history ≡ joins_and_forwards → ((number : ℕ) (s : SessionOf r.about r.history) → slice_get r.sessions number ≡ Some s → s.terms.caller ≡ 3) → ⊥
a_stranger_is_no_session r is of_three =
    let f = r.forwarders (joined_as 1 ∷ record { caller = 9; call = Connect (identity_of b_octets); looks = []; reply = Joined 2 None } ∷ []) [] forwards_it 2 to_itself is refl in
    not_nine (sym (of_three f.0 f.1 f.2) ∙ f.3)

-- ---- a node that invents an NPDU

abbrev joined_only : List TimedEvent
joined_only = at 0 Start ∷ at 0 (Opened (Hub Primary)) ∷ at 0 (Came (Hub Primary) accept) ∷ []

abbrev invented : Log
invented = log node_a joined_only ++ did (Put (Hub Primary) to_itself) ∷ []

abbrev is_no_send : NodeEvent → Bool
is_no_send (Send dest npdu) = false
is_no_send e = true

abbrev sends_nothing : Line → Bool
sends_nothing (came e) = is_no_send e.event
sends_nothing m = true

nothing_is_sent : list_all sends_nothing invented ≡ true
unfolding node_on_literals
nothing_is_sent = refl

it_begins : HasBegun invented link
unfolding node_on_literals
it_begins = record { line = _; at = refl; begins_it = refl }

it_puts_one : slice_get (npdus (put_over invented link)) 0 ≡ Some to_itself
unfolding node_on_literals
it_puts_one = refl

-- It is the log of no run: whatever a node puts it was asked to send.
an_invention_is_no_run : ((n : NodeRun) → PutsWhatWasSent n) → (n : NodeRun) → log_of n ≡ invented → ⊥
an_invention_is_no_run puts n is = by (puts n 0 link 0 to_itself (subst (λ (L : Log). HasBegun L link) (sym is) it_begins) (ap (λ (L : Log). slice_get (npdus (put_over L link)) 0) is ∙ it_puts_one))
  where
    by : WasSent 0 n link 0 to_itself → ⊥
    by w =
        let s = w.sent in
        let here : slice_get invented w.sending.place ≡ Some (came s.e) = sym (ap (λ (L : Log). slice_get L w.sending.place) is) ∙ event_here n.made (log_of n) w.sending.place s.e s.comes in
        let none : is_no_send s.e.event ≡ true = all-got sends_nothing invented w.sending.place (came s.e) nothing_is_sent here in
        let bad : false ≡ true = sym (ap is_no_send s.sends) ∙ none in
        cc

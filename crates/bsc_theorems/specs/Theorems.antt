-- What the project promises, each promise as one record. A field has a law that is proved in another crate, in the words in
-- which it is stated there, and nothing of its own: `src/laws.rt` carries the records by calling these laws.
use Rattle.std.specs.Prelude.{◌≡◌, ◌⊎◌, ◌↔◌, ℕ, ◌+◌, ◌-◌, ◌*◌, ◌≤◌, true, false, List, [], ◌∷◌, ◌++◌, length, Option, Some, None, IsTrue}
use Rattle.bsc_octets.specs.declared.vmac.Vmac.{Vmac}
use Rattle.bsc_history.specs as history
use Rattle.bsc_history.specs.declared.limits.About.{About}
use Rattle.bsc_history.specs.declared.entry.Entry.{Entry}
use Rattle.bsc_turn.specs as turn
use Rattle.bsc_turn.specs.declared.pass.Pass.{Pass}
use Rattle.bsc_desk.specs.Standing.{DeskStands}
use Rattle.bsc_hub.specs as hub
use Rattle.bsc_hub.specs.declared.hub.Hub.{Hub}
use Rattle.bsc_frame.specs as frame
use Rattle.bsc_frame.specs.declared.message.Message.{Message}
use Rattle.bsc_frame.specs.declared.check.Check.{Check}
use Rattle.bsc_options.specs as options
use Rattle.bsc_options.specs.declared.item.OptionItem.{OptionItem}
use Rattle.bsc_checks.specs as checks
use Rattle.bsc_checks.specs.declared.place.Place.{Place}
use Rattle.bsc_checks.specs.declared.phase.Phase.TheVariants.{AwaitingRequest, Connected}
use Rattle.bsc_checks.specs.declared.verdict.Verdict.{Verdict}
use Rattle.bsc_accept.specs as accepting
use Rattle.bsc_accept.specs.declared.start.Start.{Start}
use Rattle.bsc_accept.specs.declared.event.Event.{Event}
use Rattle.bsc_initiate.specs as initiating
use Rattle.bsc_initiate.specs.declared.event.InitEvent.{InitEvent}
use Rattle.bsc_resolve.specs as resolving
use Rattle.bsc_resolve.specs.declared.call.ResolveCall.{ResolveCall}
use Rattle.bsc_direct.specs as direct
use Rattle.bsc_node.specs as node
use Rattle.bsc_node.specs.Logs.{Made}
use Rattle.bsc_node.specs.declared.node_event.NodeEvent.{NodeEvent}
use Rattle.bsc_node.specs.declared.timed_event.TimedEvent.{TimedEvent}
use Rattle.bsc_script.specs as script
use Rattle.bsc_edge.specs.declared.notice.Notice.{Notice}
use Rattle.bsc_edge.specs.declared.said.Said.{Said}
use Rattle.bsc_port.specs.declared.event.PortEvent.{PortEvent}
use Rattle.bsc_session.specs as session
use Rattle.bsc_session.specs.Standings.{Standing, Terms}
use Rattle.bsc_session.specs.Talk.{Session, journal_of}
use Rattle.bsc_session.specs.declared.ended.Ended.{Ended}
use Rattle.bsc_session.specs.declared.job.SessionJob.{SessionJob}
use Rattle.bsc_session.specs.declared.session_end.SessionEnd.{SessionEnd}
use Rattle.bsc_session_laws.specs as sessions
use Rattle.bsc_serve.specs.Alone as serving
use Rattle.bsc_node_laws.specs.Links.{Brings}
use Rattle.bsc_node_links.specs.Using.{RunsUseLinks}
use Rattle.bsc_node_command.specs.Ran.{RanNodesTell, StoppedNodesTell}
use Rattle.bsc_network.specs.Worlds.{Hub as SimulatedHub, Link}
use Rattle.bsc_world.specs.Ports as simulated
use Rattle.bsc_journal.specs.Journals.{Tells}
use Rattle.bsc_audit.specs as audit
use Rattle.bsc_audit_laws.specs.Laws.{SaysNothing}
use Rattle.bsc_network_laws.specs as networks
use Rattle.bsc_node_identity.specs as identity
use Rattle.bsc_ran_networks.specs as ran

-- What holds of a legal history of one hub.
pub record HistoryLaws (a : About) (H : List Entry) : Type 0 where
  -- Connections are numbered from 1, in the order of joining.
  pub numbering : history.Laws.NumbersInOrder H
  -- No two connections that haven't left have the same number.
  pub numbers_are_new : history.Laws.NumbersAreNew H
  -- An address has at most one live connection.
  pub one_holder : history.Laws.OneHolder H
  -- A device has at most one live connection.
  pub one_of_device : history.Laws.OneOfDevice H
  -- A unicast joins the outbox of its destination's holder, where the holder takes it.
  pub unicast_joins : history.Laws.UnicastJoins a H
  -- A unicast joins no other outbox.
  pub unicast_to_holder_alone : history.Laws.UnicastToHolderAlone a H
  -- A broadcast joins the outbox of each live connection but its sender, where that one takes it.
  pub broadcast_joins : history.Laws.BroadcastJoins a H
  -- A broadcast joins no other outbox.
  pub broadcast_to_others_alone : history.Laws.BroadcastToOthersAlone a H
  -- A call adds at most one frame to an outbox, behind all that entered it.
  pub once : history.Laws.AddsOnce a H
  -- A unicast that finds its holder's outbox full ends that connection, and nothing is added.
  pub full_closes : history.Laws.FullCloses a H
  -- A broadcast that finds an outbox full adds nothing to it, ends nobody, and names it as missed.
  pub full_misses : history.Laws.FullMisses a H
  -- The reply to a broadcast has each live connection but the sender in exactly one of its three lists.
  pub one_of_three : history.Laws.OneOfThree a H
  -- Nothing enters an ended outbox.
  pub after_end : history.Laws.NoneAfterEnd a H
  -- Who joins holds its address, and takes over from its device's live connection.
  pub join_takes_over : history.Laws.JoinTakesOver a H
  -- A refused connect changes nothing but its entry and its count.
  pub refusal_changes_none : history.Laws.RefusalChangesNone a H
  -- An End, once it stands, stands in every longer history, with the same cause.
  pub end_stays : history.Laws.EndStays H
  -- A connection ends by its own leave, a join that replaced it, a unicast that found it full, or the stop.
  pub ends_by_cause : history.Laws.EndsByCause H
  -- A reply names exactly the outboxes that its call adds to.
  pub naming : history.Laws.AddsAsNamed a H
  -- A connection is live from its joining to its end.
  pub until_end : history.Laws.LiveUntilEnded H
  -- An outbox never holds more than its capacity, by the newest look at it.
  pub within : history.Laws.WithinCapacity a H

-- Whatever threads call one hub, their calls stand in one legal history. `Went`, which each call of a hub cites, says of the
-- call that its pass has seen a legal history, in which the call's entry stands once, behind all that its caller had seen.
pub record OneLegalHistory : Type 0 where
  -- Each legal history keeps all of these laws.
  pub laws : (a : About) (H : List Entry) → history.Legality.Legal a H → HistoryLaws a H
  -- So does what a pass of a hub has seen: each call's pass clause says that it is legal.
  pub passes : (h : Hub) (p : Pass) → hub.Passing.IsCaller h p → HistoryLaws (hub.Passing.about_of h) (history.Marks.entries (turn.Passes.seen p))
  -- Between any two steps of the threads there is one history, and what each live pass has seen is a first part of it.
  pub one_history : turn.OneHistory.RuleHasOneHistory DeskStands hub.Passing.fixed_of
  -- Of what two passes have seen one begins with the other, also where they never met.
  pub compared : turn.OneHistory.RuleCompares DeskStands hub.Passing.fixed_of
  -- What is a caller's own stays so by each call but its leave, and so does its address.
  pub own_stays : (h : Hub) (p q : Pass) (drew : ℕ) (took : List turn.declared.view.EndedCaller.EndedCaller) (made : Option hub.Passing.Placed) (c : ℕ) (v : Vmac) →
      hub.Passing.IsCaller h p → hub.Passing.Went h p drew took made q → hub.Passing.StaysBy made c → hub.Passing.IsOwnAs p c v → hub.Passing.IsOwnAs q c v
  -- Where a pass has all callers of its hub, each entry that it has seen is of one of them: nobody else called.
  pub is_whole : (h : Hub) (q : Pass) → hub.Passing.IsCaller h q → hub.Whole.IsWhole q

-- Octets, verdicts, machines, nodes and scripts are what their definitions say, and these fit together. The calls' own
-- clauses say that they answer by these definitions: `read` by `Spells`, `judge` by `Judged`, a machine by `step`.
pub record OperationsAreTheModel : Type 0 where
  -- A message has at most one spelling.
  pub octets : (msg : Message) (m other : List ℕ) → frame.Spelling.Spells msg m → frame.Spelling.Spells msg other → m ≡ other
  -- Octets spell at most one message.
  pub message : (a b : Message) (m : List ℕ) → frame.Spelling.Spells a m → frame.Spelling.Spells b m → a ≡ b
  -- The octets of a list of options say which list it is and where it ends, whatever follows them.
  pub options_end : (a b : List OptionItem) (o p rest other : List ℕ) → options.Spelling.SpellsOptions a o → options.Spelling.SpellsOptions b p
      → o ++ rest ≡ p ++ other → (a ≡ b) × (o ≡ p) × (rest ≡ other)
  -- A list of options that was written is read back, whatever comes before it and after it.
  pub reads_back : (list : List OptionItem) (o before after : List ℕ) → options.Spelling.SpellsOptions list o
      → options.Reading.BeginsWith (before ++ o ++ after) (length before) list (length before + length o)
  -- Octets have at their place the verdict that is computed of them.
  pub verdict : (m : List ℕ) (place : Place) (max : ℕ) → checks.Options.AreOctets m → checks.Verdicts.Judged m place max (checks.Outcomes.outcome_of m place max)
  -- They have no other verdict there.
  pub one_verdict : (m : List ℕ) (place : Place) (max : ℕ) (v other : Verdict) → checks.Verdicts.Judged m place max v → checks.Verdicts.Judged m place max other → v ≡ other
  -- A tick closes a connection exactly where the wait of its phase is over: for its request, for any message, for the answer to a disconnect.
  pub accepting_ticks : (s : Start) (E : List Event) (now : ℕ)
      → (accepting.Past.phase E ≡ AwaitingRequest → (accepting.Steps.closes (accepting.Steps.step s E (Event.Tick now)) ≡ true) ↔ (s.times.connect_wait ≤ now - s.at))
      × (accepting.Past.phase E ≡ Connected → (accepting.Steps.closes (accepting.Steps.step s E (Event.Tick now)) ≡ true) ↔ (2 * s.times.heartbeat ≤ now - accepting.Past.last_message s E))
      × ((f : accepting.declared.pending_disconnect.PendingDisconnect.PendingDisconnect) → accepting.Past.standing E ≡ accepting.Past.disconnecting f
      → (accepting.Steps.closes (accepting.Steps.step s E (Event.Tick now)) ≡ true) ↔ (s.times.disconnect_wait ≤ now - f.since))
  -- Every message puts the idle closing off, whatever the verdict on it.
  pub heard : (s : Start) (E : List Event) (now : ℕ) (v : Verdict) → accepting.Past.last_message s (E ++ Event.Message now v ∷ []) ≡ now
  -- At the machine that initiates it puts off the next heartbeat too.
  pub answered : (s : Start) (E : List InitEvent) (now : ℕ) (v : Verdict)
      → (initiating.Past.last_message s (E ++ InitEvent.Message now v ∷ []) ≡ now) × (initiating.Past.heartbeat_was_put s (E ++ InitEvent.Message now v ∷ []) ≡ false)
  -- What is learnt of a VMAC stays until another answer for it comes.
  pub learnt : (calls : List ResolveCall) (call : ResolveCall) (v : Vmac) → resolving.Resolving.uris_for v call ≡ None
      → resolving.Resolving.learnt (calls ++ call ∷ []) v ≡ resolving.Resolving.learnt calls v
  -- Two established slots of direct connections never have the same VMAC or the same device.
  pub slots : (d : direct.declared.direct.Direct.Direct) (calls : List direct.declared.call.SlotCall.SlotCall) → direct.Standing.DirectStands d calls → direct.Laws.PeersAreApart calls
  -- A node puts an NPDU for a Send alone, at most once, and on the path that holds then.
  pub npdus : (a : Made) → node.Laws.NpdusArePutOnce a
  -- A node delivers at most the one message that came.
  pub delivers : (a : Made) → node.Laws.DeliversWhatCame a
  -- The path of a broadcast is never a direct connection.
  pub broadcasts : (a : Made) → node.Laws.BroadcastsKeepOffSlots a
  -- The calls that the lines of a script made are a legal history, and what was written for a name is what entered its outbox, in order.
  pub scripts : (about : About) (lines : List script.declared.line.Line.Line) (s : script.States.State)
      → script.Laws.after_lines (Some (script.States.new_hub about)) lines ≡ Some s → script.Laws.IsOfOneHub s

-- What holds of one session, whatever code serves it: with a journal or without, with a policy or without.
pub record SessionLaws {v : Terms} {T : List Said} {R : List ℕ} {E : List Entry} {frames : List (List ℕ)} {ended : Ended} (x : Session v T R E frames ended) : Type 0 where
  -- The messages that are judged are those that the link gave, in order.
  pub messages : sessions.Laws.MessagesAreGiven v T x.course
  -- The Forwards are the messages that came, are to be carried on and aren't denied, in order; the last is missing only where the hub made no entry of it.
  pub forwards : sessions.Laws.ForwardsAreCarried v E ended x.course
  -- The Connects are for those who asked to connect, in order, and one asks at most.
  pub connects : sessions.Laws.ConnectsAreAsked v E x.course
  -- No frame is taken before the Connect-Accept is put.
  pub accepts_first : sessions.Laws.FramesFollowAccept v T frames x.course
  -- Each frame that is put, each call that is made and each denial that is noted is as the policy says.
  pub policy : sessions.Policies.PolicyIsFollowed v T E frames (journal_of x) x.course

-- Each layer does what the one below says of it: a session what its machine says, serving what its sessions say, a run of a node
-- what the node's log says. Of links, jobs and words drawn it speaks by what they tell: talk, works, begins and drawn.
pub record LayersCompose {L C N W : Type 0} (talk : L → Option (List Said)) (works : SessionJob L C N → SessionEnd L C N → Type 0)
    (begins : Option (List ℕ) → ℕ → N → Type 0) (drawn : NodeEvent → W → W → Type 0) : Type 0 where
  -- Each session keeps these laws.
  pub laws : (v : Terms) (T : List Said) (R : List ℕ) (E : List Entry) (frames : List (List ℕ)) (ended : Ended) (x : Session v T R E frames ended) → SessionLaws x
  -- A session does what its port does, at each message and at each other event.
  pub session_port : (v : Terms) (s : Standing) → ((now : ℕ) (m : List ℕ) → sessions.Ports.FollowsPort v s now m) × ((e : PortEvent) → sessions.Ports.FollowsEvent v s e)
  -- The hub's side of a link in a simulated network does what the same port does.
  pub simulated_port : (h : SimulatedHub) (link : Link) → ((now : ℕ) (m : List ℕ) → simulated.FollowsPort h link now m) × ((e : PortEvent) → simulated.FollowsEvent h link e)
  -- On the talk of a session no call follows one that failed, but the one closing with 1011 after want of memory.
  pub ends_at_fault : session.Laws.SessionsEndAtFault
  -- A reply wakes exactly those whose outboxes got the frame, and whom it ended.
  pub wakes : session.Concerned.WakesWhomItConcerns
  -- Nobody but the hub's own pass and those that it took in called a hub that was served.
  pub alone : serving.ServingIsAlone works begins talk
  -- Each entry is of the hub's own caller or of the pass of a job that the spawner took.
  pub of_jobs : serving.SeenAreOfJobs works begins talk
  -- Each job that the spawner took has ended at last, and what is left of it stands in what the hub's pass has seen.
  pub jobs_end : serving.JobsEndAtLast works begins talk
  -- Behind the Stop nobody joins and nothing is forwarded.
  pub behind_stop : serving.NothingBehindStop works begins talk
  -- At an event that may come a link begins only where none of its name is there, and that the node has ended is told only once it is to end.
  pub begins_anew : (a : Made) (start : TimedEvent) (events : List TimedEvent) (e : TimedEvent) → start.event ≡ NodeEvent.Start → IsTrue (node.Conditions.may_all_come a (start ∷ events))
      → IsTrue (node.Conditions.may_come (node.Node.log a (start ∷ events)) e) → Brings a (node.Node.log a (start ∷ events)) e e.event
  -- The links of a run are used as the log of its node says: each gave just these messages, and the first of those were put on it.
  pub links_used : RunsUseLinks talk
  -- Where each link that came had told nothing before, each tells at last what the log of the node that was run says of it.
  pub ran : RanNodesTell talk drawn
  -- So it is of a node that a fault stopped, by the log of all that came to it.
  pub stopped : StoppedNodesTell talk drawn
  -- Journals tell one history of one hub, if any.
  pub one_history : (o : List ℕ) (a b : About) (G H : List Entry) → Tells o a G → Tells o b H → (a ≡ b) × (G ≡ H)

-- Whatever steps are made in a network of hubs and nodes, losses and takeovers among them, what it delivers was sent.
pub record NetworksDeliverWhatWasSent : Type 0 where
  -- Each delivery comes from the Send at its place, and no two are of one Send and to one node.
  pub delivers : networks.Deliveries.NetworksDeliverWhatWasSent
  -- Of each node the deliveries are all that it has delivered by its log, in order.
  pub all : networks.Delivering.DeliveriesAreAll
  -- The history of each hub is legal.
  pub histories : networks.Connecting.HistoriesAreLegal
  -- Each NPDU that a node put on a way of a link is that of a Send of that very node, at its place.
  pub puts : networks.Carried.PutsWhatWasSent
  -- Each NPDU in an outbox was passed on under the sender's address to whom it was meant for.
  pub outboxes : networks.Passing.OutboxesHaveWhatWasSent
  -- The NPDUs that come down from a hub are those that were taken from the outbox of its link's connection, in order, each once.
  pub taken : networks.Carried.TakenComesDown
  -- A connection that joined a hub has the identity of the node that dialled its link.
  pub diallers : networks.Connecting.ConnectionsAreOfDiallers
  -- The peer of an established slot is who is at the other end of its link.
  pub peers : networks.Peers.PeersAreThere
  -- The peer with which a slot is established named itself over the link that the slot still has.
  pub slots : (a : Made) → identity.Naming.SlotsHaveWhoNamedItself a

-- Whatever hubs and nodes the commands ran, each for itself, what they delivered was sent. The wires alone are left to be believed.
pub record WhatRanDelivers {L C N K W : Type 0} (talk : L → Option (List Said)) (faults : L → ℕ) (notices : L → Option (List Notice)) (readings : C → Option (List ℕ))
    (held : N → Option (List ℕ)) (unput : N → ℕ) (begins : Option (List ℕ) → ℕ → N → Type 0) (said : K → Option (List Said)) (drawn : NodeEvent → W → W → Type 0) : Type 0 where
  -- Where each link keeps order and loses only what comes last, each delivery is of a Send, with the addresses of both nodes, and no two of one node are of the same.
  pub delivers : ran.Networks.HubsAndNodesThatRanDeliver talk faults notices readings held unput begins said drawn
  -- So it is where what each link told to one end is the first of what it told to the other.
  pub by_wires : ran.Wires.WhatRanDeliversByWires talk faults notices readings held unput begins said drawn

-- What is refused or ends has the cause that is told, as far as laws say it; docs/reference/CAUSES.md has the refusals of all calls with their clauses. That a call without
-- `rt` returns is what the check itself says of each function, and no clause; where a call may wait for others stands in 'What may wait' of docs/reference/PROVED.md.
pub record RefusalsHaveTheirCauses : Type 0 where
  -- Octets that spell a message fail no check.
  pub spelled : (msg : Message) (m : List ℕ) (check : Check) → frame.Spelling.Spells msg m → frame.Checks.IsFirst check m → ⊥
  -- Of other octets at most one check is the first that fails.
  pub first : (check other : Check) (m : List ℕ) → frame.Checks.IsFirst check m → frame.Checks.IsFirst other m → check ≡ other
  -- Each cause of a session's end comes exactly where it should.
  pub ends : session.Causes.CausesAreExact
  -- A question for a VMAC that isn't held is refused where 256 are held.
  pub full : (wait : ℕ) (calls : List ResolveCall) (v : Vmac) → resolving.Resolving.is_held wait calls v ≡ false → resolving.Resolving.held wait calls ≡ 256
      → resolving.Resolving.ask_refusal wait calls v ≡ Some (resolving.declared.ask_refusal.AskRefusal.TheVariants.Full 256)
  -- Journals have one verdict, but for the two that say nothing of them.
  pub verdict : (o : List ℕ) (r s : audit.declared.audit_end.AuditEnd.AuditEnd) → audit.Verdicts.AuditsTo o r → audit.Verdicts.AuditsTo o s → (r ≡ s) ⊎ (SaysNothing r ⊎ SaysNothing s)

-- Machines, connectors, slots, ledgers and worlds at their start and one event later, written out: what they stand for, and what they don't.
-- No clause needs it: worked examples.
use Rattle.std.proofs.Common.{◌≡◌, true, false, [], ◌∷◌, Option, Some, None, refl, sym, ap, ◌∙◌, arith, lit<, replicate}
use Rattle.bsc_octets.specs.declared.identity.Identity.{Identity}
use Rattle.bsc_history.specs.declared.counts.Counts.{Counts}
use Rattle.bsc_accept.specs.declared.accepting.Accepting.{Accepting}
use Rattle.bsc_accept.specs.declared.event.Event.TheVariants.{Tick}
use Rattle.bsc_accept.specs.declared.reason.Reason.TheVariants.{ConnectWait}
use Rattle.bsc_accept.specs.declared.stage.Stage.{Stage}
use Rattle.bsc_accept.specs.declared.stage.Stage.TheVariants.{AwaitingRequest, Asked, Connected, Idle}
use Rattle.bsc_accept.specs.declared.start.Start.{Start}
use Rattle.bsc_accept.specs.declared.step.Step.{Step}
use Rattle.bsc_accept.specs.declared.step.Step.TheVariants.{Ask, Close, Nothing, Up}
use Rattle.bsc_accept.specs.Standing.{AcceptingAnswers, AcceptingStands, IsOpen, LeavesAccepting}
use Rattle.bsc_accept.specs.Steps.{closes}
use Rattle.bsc_accept.proofs.Following.{tick_answers}
use Rattle.bsc_initiate.specs as initiating
use Rattle.bsc_initiate.specs.declared.initiating.Initiating.{Initiating}
use Rattle.bsc_initiate.specs.declared.event.InitEvent.TheVariants.{Tick as InitTick}
use Rattle.bsc_initiate.specs.declared.stage.Stage.{Stage as InitStage}
use Rattle.bsc_initiate.specs.declared.stage.Stage.TheVariants.{AwaitingWebsocket, AwaitingAccept, Connected as InitConnected, Idle as InitIdle}
use Rattle.bsc_initiate.specs.declared.step.InitStep.{InitStep}
use Rattle.bsc_initiate.specs.declared.step.InitStep.TheVariants.{Close as InitClose, Connected as NowConnected, Nothing as InitNothing, Refused}
use Rattle.bsc_initiate.proofs.Following.{tick_answers as init_tick_answers}
use Rattle.bsc_connector.specs.declared.connector.Connector.{Connector}
use Rattle.bsc_connector.specs.declared.event.ConnectorEvent.TheVariants.{Start as Starts}
use Rattle.bsc_connector.specs.declared.side_state.Attempt.TheVariants.{Idle as NotTried, UnderWay}
use Rattle.bsc_connector.specs.declared.side_state.SideState.{SideState}
use Rattle.bsc_connector.specs.declared.step.ConnectorStep.{ConnectorStep}
use Rattle.bsc_connector.specs.declared.waits.Waits.{Waits}
use Rattle.bsc_connector.specs.Standing.{ConnectorAnswers, ConnectorStands}
use Rattle.bsc_connector.proofs.Following.{event_answers}
use Rattle.bsc_direct.specs.declared.bounds.TheConstants.{SLOTS}
use Rattle.bsc_direct.specs.declared.direct.Direct.{Direct}
use Rattle.bsc_direct.specs.declared.slot.Slot.TheVariants.{Free, Claimed, Established}
use Rattle.bsc_direct.specs.Kept.{says_claimed, says_peer, slot_at}
use Rattle.bsc_direct.specs.Standing.{DirectStands, IsOnlyClaimed}
use Rattle.bsc_direct.proofs.Following.{made}
use Rattle.bsc_legality.specs.declared.legality.Legality.{Legality}
use Rattle.bsc_legality.specs.Standing.{LegalityStands}
use Rattle.bsc_legality.proofs.Advances.{stands_none}
use Rattle.bsc_network.specs.declared.timed_step.TimedStep.{TimedStep}
use Rattle.bsc_world.specs.declared.world.World.{World}
use Rattle.bsc_world.specs.Standing.{WorldStands, clock_of, is_spent, steps_made}
use Rattle.bsc_world.proofs.NewWorlds.{new_stands}
use Rattle.bsc_witnesses.proofs.Pieces.{unlike, peer_a, peer_b, the_hub, join}

-- ---- a peer that accepts

abbrev start : Start
start = record { own = peer_a; times = record { connect_wait = 10000; disconnect_wait = 10000; heartbeat = 300000 }; at = 0 }

-- a machine in a stage, to which nothing came yet
abbrev accepting : Stage → Accepting
accepting stage = record { start = start; last = 0; stage = stage }

stands_at_first : AcceptingStands (accepting AwaitingRequest) start []
stands_at_first = record { start = refl; last = refl; stage = refl }

stands_after_a_tick : AcceptingStands (accepting AwaitingRequest) start (Tick 9999 ∷ [])
stands_after_a_tick = record { start = refl; last = refl; stage = refl }

-- Ten seconds have passed, and no request came.
closed_by_a_tick : AcceptingStands (accepting Idle) start (Tick 10000 ∷ [])
closed_by_a_tick = record { start = refl; last = refl; stage = refl }

not_closed_by_a_tick : AcceptingStands (accepting AwaitingRequest) start (Tick 10000 ∷ []) → ⊥
not_closed_by_a_tick x = (let bad : ◌≡◌ {A = Stage} AwaitingRequest Idle = x.stage in cc)

abbrev too_late : Step
too_late = Close (record { code = 1008; reason = ConnectWait })

answers_nothing : AcceptingAnswers (accepting AwaitingRequest) (accepting AwaitingRequest) (Tick 9999) Nothing
answers_nothing = λ s E h. tick_answers (accepting AwaitingRequest) (accepting AwaitingRequest) s E 9999 Nothing h refl refl refl

answers_closing : AcceptingAnswers (accepting AwaitingRequest) (accepting Idle) (Tick 10000) too_late
answers_closing = λ s E h. tick_answers (accepting AwaitingRequest) (accepting Idle) s E 10000 too_late h refl refl refl

answers_too_early : AcceptingAnswers (accepting AwaitingRequest) (accepting Idle) (Tick 9999) too_late → ⊥
answers_too_early f = (let bad : too_late ≡ Nothing = (f start [] stands_at_first).0 in cc)

leaves_open : LeavesAccepting Nothing (accepting AwaitingRequest)
leaves_open = refl

leaves_over : LeavesAccepting too_late (accepting Idle)
leaves_over = refl

leaves_asked : LeavesAccepting (Ask peer_b) (accepting (Asked 1))
leaves_asked = record { id = 1; asked = refl }

leaves_open_after_closing : LeavesAccepting too_late (accepting AwaitingRequest) → ⊥
leaves_open_after_closing h = (let bad : ◌≡◌ {A = Stage} AwaitingRequest Idle = h in cc)

is_open : IsOpen (accepting Connected)
is_open = refl

not_open : IsOpen (accepting (Asked 1)) → ⊥
not_open h = (let bad : false ≡ true = h in cc)

closing : closes too_late ≡ true
closing = refl

not_closing : closes Up ≡ true → ⊥
not_closing h = (let bad : false ≡ true = h in cc)

-- ---- a peer that initiates

abbrev init : InitStage → Initiating
init stage = record { start = start; last = 0; stage = stage }

init_stands : initiating.Standing.InitiatingStands (init AwaitingWebsocket) start []
init_stands = record { start = refl; last = refl; stage = refl }

abbrev init_too_late : InitStep
init_too_late = InitClose (record { code = 1008; reason = ConnectWait })

init_answers_nothing : initiating.Standing.InitiatingAnswers (init AwaitingWebsocket) (init AwaitingWebsocket) (InitTick 9999 1) InitNothing
init_answers_nothing = λ s E h. init_tick_answers (init AwaitingWebsocket) (init AwaitingWebsocket) s E 9999 1 InitNothing h refl refl refl

init_answers_too_early : initiating.Standing.InitiatingAnswers (init AwaitingWebsocket) (init InitIdle) (InitTick 9999 1) init_too_late → ⊥
init_answers_too_early f = (let bad : init_too_late ≡ InitNothing = (f start [] init_stands).0 in cc)

init_leaves_over : initiating.Standing.LeavesInitiating (Refused 1013) (init InitIdle)
init_leaves_over = refl

init_leaves_connected : initiating.Standing.LeavesInitiating (NowConnected peer_b) (init (InitConnected false))
init_leaves_connected = refl

init_not_over : initiating.Standing.LeavesInitiating (Refused 1013) (init (AwaitingAccept 1)) → ⊥
init_not_over h = (let bad : ◌≡◌ {A = InitStage} (AwaitingAccept 1) InitIdle = h in cc)

init_is_open : initiating.Standing.IsOpen (init AwaitingWebsocket)
init_is_open = refl

init_not_open : initiating.Standing.IsOpen (init InitIdle) → ⊥
init_not_open h = (let bad : false ≡ true = h in cc)

init_closes : initiating.Steps.closes (Refused 1013) ≡ true
init_closes = refl

init_not_closes : initiating.Steps.closes (NowConnected peer_b) ≡ true → ⊥
init_not_closes h = (let bad : false ≡ true = h in cc)

-- ---- a connector

abbrev waits : Waits
waits = record { failover = true; least = 2000; greatest = 30000 }

abbrev untried : SideState
untried = record { attempt = NotTried; next_wait = 2000 }

abbrev new_connector : Connector
new_connector = record { waits = waits; primary = untried; failover = untried }

abbrev started_connector : Connector
started_connector = record { waits = waits; primary = record { attempt = UnderWay; next_wait = 2000 }; failover = untried }

connector_stands : ConnectorStands new_connector waits []
connector_stands = record {
  waits = refl;
  primary = record { up = refl; due = refl; tried = refl; wait = refl };
  failover = record { up = refl; due = refl; tried = refl; wait = refl };
}

connector_untold : ConnectorStands new_connector waits (record { now = 0; event = Starts } ∷ []) → ⊥
connector_untold x = (let bad : true ≡ false = x.primary.tried in cc)

connector_answers : ConnectorAnswers new_connector started_connector (record { now = 0; event = Starts }) (record { dial_primary = true; dial_failover = false; drop_failover = false })
connector_answers = λ w E h. event_answers new_connector started_connector w E 0 Starts (record { dial_primary = true; dial_failover = false; drop_failover = false }) h tt refl refl

connector_dials_none : ConnectorAnswers new_connector started_connector (record { now = 0; event = Starts }) (record { dial_primary = false; dial_failover = false; drop_failover = false }) → ⊥
connector_dials_none f = (let bad : false ≡ true = ap (λ (s : ConnectorStep). s.dial_primary) (f waits [] connector_stands).0 in cc)

-- ---- slots

slots_stand : (d : Direct) → d.slots.items ≡ replicate SLOTS Free → DirectStands d []
slots_stand = made

-- A slot that is claimed isn't one of which nothing was said.
slots_unsaid : (d : Direct) → slot_at d.slots.items 0 ≡ Claimed None → DirectStands d [] → ⊥
slots_unsaid d claimed x = (let bad : false ≡ true = (x.slots 0).claimed ∙ ap says_claimed claimed in cc)

only_claimed : (d : Direct) → slot_at d.slots.items 0 ≡ Claimed None → IsOnlyClaimed d 0
only_claimed d claimed = record { within = lit< tt; claimed = ap says_claimed claimed; alone = ap says_peer claimed }

established : (d : Direct) → slot_at d.slots.items 0 ≡ Established None peer_b → IsOnlyClaimed d 0 → ⊥
established d up x = (let bad : ◌≡◌ {A = Option Identity} (Some peer_b) None = sym (ap says_peer up) ∙ x.alone in cc)

-- ---- what is kept of a history that is checked

abbrev no_counts : Counts
no_counts = record { joined = 0; replaced = 0; refused = 0; unicasts = 0; broadcasts = 0; appended = 0; dropped = 0; full = 0; missed = 0 }

legality_stands : (l : Legality) → l.about ≡ the_hub → l.entries ≡ 0 → l.stopped ≡ false → l.counts ≡ no_counts → l.rows.items ≡ [] → LegalityStands l the_hub []
legality_stands l about entries stopped counts rows = stands_none l the_hub about entries stopped counts rows

legality_is_behind : (l : Legality) → l.entries ≡ 0 → LegalityStands l the_hub (join peer_a 1 ∷ []) → ⊥
legality_is_behind l entries x = unlike 0 1 refl (sym entries ∙ x.count)

-- ---- a network in memory

world_stands : (t : World) → t.made ≡ 0 → t.hubs.items ≡ [] → t.nodes.items ≡ [] → t.links.items ≡ [] → WorldStands t [] []
world_stands = new_stands

-- One step was made of which nothing is told.
world_is_ahead : (t : World) → steps_made t ≡ 1 → WorldStands t [] [] → ⊥
world_is_ahead t ahead x = unlike 1 0 refl (sym ahead ∙ x.kept.steps)

-- A clock stands no less than its newest step.
world_is_early : (t : World) (step : TimedStep) → clock_of t ≡ 3 → step.now ≡ 4 → WorldStands t [] (step ∷ []) → ⊥
world_is_early t step clock now x = (let newest = x.newest in let bound = x.clock in omega (arith, clock, now, newest, bound))

world_is_unspent : (t : World) → t.spent ≡ false → is_spent t ≡ false
world_is_unspent t spent = spent

world_is_spent : (t : World) → t.spent ≡ true → is_spent t ≡ false → ⊥
world_is_spent t spent h = (let bad : true ≡ false = sym spent ∙ h in cc)

-- Rules: what follows where a hub connection changes, and where a link ends.
use Rattle.std.specs.Prelude.{ℕ, Bool, not, ◌&&◌, [], ◌∷◌, unwrap_or}
use Rattle.bsc_connector.specs.declared.side.Side.{Side}
use Rattle.bsc_connector.specs.declared.side.Side.TheVariants.{Primary, Failover}
use Rattle.bsc_connector.specs.declared.event.ConnectorEvent.{ConnectorEvent}
use Rattle.bsc_connector.specs.declared.event.ConnectorEvent.TheVariants.{Failed, Lost}
use Rattle.bsc_accept.specs.declared.closing.Closing.{Closing}
use Rattle.bsc_accept.specs.Steps.{normal}
use Rattle.bsc_direct.specs.declared.call.SlotCall.TheVariants.{Release}
use Rattle.bsc_node.specs.declared.link_name.LinkName.{LinkName}
use Rattle.bsc_node.specs.declared.link_name.LinkName.TheVariants.{Hub, Direct}
use Rattle.bsc_node.specs.declared.note.Note.TheVariants.{HubNow, DirectDown, Finished}
use Rattle.bsc_node.specs.declared.action.Action.TheVariants.{Dial, Put, Close}
use Rattle.bsc_node.specs.Logs.{Made, Log, Rule, nothing, in_order, either, when, where_found, does, tells, is_finishing}
use Rattle.bsc_node.specs.Links.{Outcome, puts, puts_and_closes, closes, is_there, none_there, finishes, outcome}
use Rattle.bsc_node.specs.Hubs.{hub_use, hub_use_before, is_up, is_under_way, newest_step, is_dropped, told, same_use}
use Rattle.bsc_node.specs.Ways.{established_peer, slots_see}

-- ---- what a machine puts and closes by itself

-- A machine's step is carried out where it puts or closes, without what follows from it.
abbrev pub carries_out_by : LinkName → Outcome → Rule
carries_out_by name (puts o) = does (Put name o)
carries_out_by name (puts_and_closes o closing) = in_order (does (Put name o) ∷ does (Close name closing) ∷ [])
carries_out_by name (closes closing) = does (Close name closing)
carries_out_by name outcome = nothing

abbrev pub carries_out : Made → LinkName → Rule
carries_out a name L = carries_out_by name (outcome a L name) L

-- The machine of a link that is there is told to finish: a Disconnect-Request is put in Connected, the link is closed
-- before that, and nothing is done after it.
abbrev pub finishes_machine : Made → LinkName → Rule
finishes_machine a name = when (is_there name) (in_order (finishes name ∷ carries_out a name ∷ []))

-- ---- hub connections

-- whether the connector's newest step dials the side; none is dialled once the node is to end
abbrev pub dials : Made → Side → Log → Bool
dials a Primary L = (newest_step a L).dial_primary && not (is_finishing L)
dials a Failover L = (newest_step a L).dial_failover && not (is_finishing L)

-- The primary hub is dialled where the connector says so.
abbrev pub dials_primary : Made → Rule
dials_primary a = when (dials a Primary) (does (Dial (Hub Primary) a.limits.primary))

-- The failover is dialled where the connector says so; the link of a dropped one, where it is still there, is closed
-- first.
abbrev pub dials_failover : Made → Rule
dials_failover a =
    when (dials a Failover)
    (in_order
    (when (is_there (Hub Failover)) (does (Close (Hub Failover) normal))
    ∷ does (Dial (Hub Failover) (unwrap_or a.limits.failover []))
    ∷ []))

-- A change of the hub in use is told.
abbrev pub tells_use : Rule
tells_use L = when (λ M. not (same_use (hub_use_before M) (hub_use M))) (tells (HubNow (hub_use L))) L

-- A failover that is dropped is told to finish.
abbrev pub drops_failover : Made → Rule
drops_failover a = when (λ L. (newest_step a L).drop_failover) (finishes_machine a (Hub Failover))

-- The connector is told something: it dials, the hub in use may change, and a failover may be dropped.
abbrev pub tells_connector : Made → ConnectorEvent → Rule
tells_connector a event = in_order (told event ∷ dials_primary a ∷ dials_failover a ∷ tells_use ∷ drops_failover a ∷ [])

-- ---- a link is over

-- A hub connection that is over is lost where the side was up, and has failed where an attempt at it was under way. That
-- of a dropped failover is neither.
abbrev pub ends_hub : Made → Side → Rule
ends_hub a s =
    either (is_dropped s) nothing (either (is_up s) (tells_connector a (Lost s)) (when (is_under_way a s) (tells_connector a (Failed s))))

-- A slot whose link is over is released. That a direct connection is down is told where it was established.
abbrev pub ends_slot : ℕ → Rule
ends_slot k = in_order (where_found (established_peer k) (λ who. tells (DirectDown who.vmac)) nothing ∷ slots_see (Release k) ∷ [])

-- Once the node is to end, that it has ended is told when no link is there any more.
abbrev pub tells_finished : Rule
tells_finished = when (λ L. is_finishing L && none_there L) (tells Finished)

abbrev pub ends_by : Made → LinkName → Rule
ends_by a (Hub s) = ends_hub a s
ends_by a (Direct k) = ends_slot k

-- What follows where a link is over.
abbrev pub ends : Made → LinkName → Rule
ends a name = in_order (ends_by a name ∷ tells_finished ∷ [])

-- A link is closed, and so it is over.
abbrev pub closes_link : Made → LinkName → Closing → Rule
closes_link a name closing = in_order (does (Close name closing) ∷ ends a name ∷ [])

-- The link is told to finish, and is over where that closed it.
abbrev pub finishes_link : Made → LinkName → Rule
finishes_link a name = when (is_there name) (in_order (finishes_machine a name ∷ either (is_there name) nothing (ends a name) ∷ []))

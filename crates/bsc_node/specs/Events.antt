-- Rules: what follows from each event that comes to a node.
use Rattle.std.specs.Prelude.{ℕ, [], ◌∷◌, ◌++◌, map, None}
use Rattle.bsc_connector.specs.declared.event.ConnectorEvent.TheVariants.{Start as ConnectorStart, Tick as ConnectorTick}
use Rattle.bsc_accept.specs.declared.reason.Reason.TheVariants.{Nothing, TableFull}
use Rattle.bsc_accept.specs.Steps.{closing}
use Rattle.bsc_resolve.specs.declared.call.ResolveCall.TheVariants.{Tick as ResolveTick}
use Rattle.bsc_direct.specs.declared.call.SlotCall.TheVariants.{Claim}
use Rattle.bsc_node.specs.declared.link_name.LinkName.{LinkName}
use Rattle.bsc_node.specs.declared.link_name.LinkName.TheVariants.{Hub, Direct}
use Rattle.bsc_node.specs.declared.node_event.NodeEvent.{NodeEvent}
use Rattle.bsc_node.specs.declared.node_event.NodeEvent.TheVariants.{Start, Opened, DialFailed, Arrived, Came, CameText, Lost, Tick}
use Rattle.bsc_node.specs.declared.node_event.NodeEvent.TheVariants.{Send, Resolve, DirectTo, Solicit, Finish, Random, NoRandom}
use Rattle.bsc_node.specs.declared.note.Note.TheVariants.{NoDirect}
use Rattle.bsc_node.specs.declared.action.Action.TheVariants.{Dial, Take, Refuse}
use Rattle.bsc_node.specs.Logs.{Made, Rule, nothing, in_order, when, where_found, does, tells, now}
use Rattle.bsc_node.specs.Links.{Outcome, puts, puts_and_closes, closes, meets, is_refused, passes_up, keeps_still, names, is_there}
use Rattle.bsc_node.specs.Links.{opens, hears, ticks, outcome}
use Rattle.bsc_node.specs.Ways.{wanted, next_uri, free_slot, slots_see, resolution_sees}
use Rattle.bsc_node.specs.Ending.{carries_out_by, tells_connector, tells_finished, ends, closes_link, finishes_link}
use Rattle.bsc_node.specs.Meeting.{meets_peer, is_refused_by, renews, keeps_vmac}
use Rattle.bsc_node.specs.Receiving.{takes_up}
use Rattle.bsc_node.specs.Requesting.{sends, resolves, solicits, directs}

-- ---- the links

-- What follows from a machine's step, whichever it is: what it puts and closes, and then what that brings about.
abbrev pub obeys_by : Made → LinkName → Outcome → Rule
obeys_by a name (puts o) = carries_out_by name (puts o)
obeys_by a name (puts_and_closes o closing) = in_order (carries_out_by name (puts_and_closes o closing) ∷ ends a name ∷ [])
obeys_by a name (closes closing) = closes_link a name closing
obeys_by a name (meets who) = meets_peer a name who
obeys_by a name (is_refused origin code) = is_refused_by a name origin code
obeys_by a name (passes_up msg) = takes_up a name msg
obeys_by a name keeps_still = nothing

-- What follows from the newest call on the link's machine.
abbrev pub obeys : Made → LinkName → Rule
obeys a name L = obeys_by a name (outcome a L name) L

-- A slot whose dial failed dials the next URI. Where there is none it is released, and that no direct connection came
-- about is told.
abbrev pub tries_next : Made → ℕ → Rule
tries_next a k =
    where_found (next_uri k) (λ uri. does (Dial (Direct k) uri))
    (in_order (where_found (wanted k) (λ v. tells (NoDirect v)) nothing ∷ ends a (Direct k) ∷ []))

-- A dial failed, and so the link is over: a hub connection has failed, a slot goes on with the next URI.
abbrev pub dial_fails : Made → LinkName → Rule
dial_fails a (Hub s) = ends a (Hub s)
dial_fails a (Direct k) = tries_next a k

-- A link that arrives gets the lowest free slot and an accepting machine, or is refused where all slots are claimed.
abbrev pub arrives : Rule
arrives = where_found free_slot (λ k. in_order (slots_see (Claim k None) ∷ does (Take (Direct k)) ∷ [])) (does (Refuse (closing 1008 TableFull)))

-- ---- time

-- The machine of a link that is there is told the time.
abbrev pub ticks_link : Made → LinkName → Rule
ticks_link a name = when (is_there name) (in_order (ticks name ∷ obeys a name ∷ []))

-- A question whose wait has passed is dropped.
abbrev pub ticks_resolution : Rule
ticks_resolution L = resolution_sees (ResolveTick (now L)) L

-- Time passes for all machines, the primary hub's first, then the failover's, then those of the slots in order, then for
-- the connector, and then for address resolution.
abbrev pub time_passes : Made → Rule
time_passes a = in_order (map (ticks_link a) names ++ tells_connector a ConnectorTick ∷ ticks_resolution ∷ [])

-- ---- the end

-- The node is to end: its links are told to finish, in the same order. That it has ended is told when the last link is
-- over, which is at once where none is there.
abbrev pub is_to_end : Made → Rule
is_to_end a = in_order (tells_finished ∷ map (finishes_link a) names)

-- ---- all events

-- What follows from an event.
abbrev pub follows : Made → NodeEvent → Rule
follows a Start = tells_connector a ConnectorStart
follows a (Opened name) = in_order (opens name ∷ obeys a name ∷ [])
follows a (DialFailed name) = dial_fails a name
follows a Arrived = arrives
follows a (Came name o) = in_order (hears a name o ∷ obeys a name ∷ [])
follows a (CameText name) = closes_link a name (closing 1003 Nothing)
follows a (Lost name) = ends a name
follows a Tick = time_passes a
follows a (Send dest npdu) = sends dest npdu
follows a (Resolve v) = resolves a v
follows a (DirectTo v) = directs v
follows a (Solicit v) = solicits v
follows a Finish = is_to_end a
follows a (Random w) = renews a
follows a NoRandom = keeps_vmac a

-- What is kept of the machine of a link.
use Rattle.std.specs.Prelude.{Bool, true, false, if◌then◌else◌, Option, Some, None, is_none, is_some, unwrap_or}
use Rattle.bsc_octets.specs.declared.identity.Identity.{Identity}
use Rattle.bsc_checks.specs.declared.phase.Phase.{Phase}
use Rattle.bsc_checks.specs.declared.phase.Phase.TheVariants.{AwaitingAccept}
use Rattle.bsc_accept.specs.declared.stage.Stage.{Stage}
use Rattle.bsc_accept.specs.declared.stage.Stage.TheVariants.{Asked as StageAsked, Idle as StageIdle}
use Rattle.bsc_accept.specs.declared.event.Event.{Event}
use Rattle.bsc_accept.specs.declared.event.Event.TheVariants.{Joined, Refused, Ended}
use Rattle.bsc_accept.specs.declared.accepting.Accepting.{Accepting}
use Rattle.bsc_accept.specs.declared.step.Step.{Step}
use Rattle.bsc_accept.specs.declared.step.Step.TheVariants.{Ask}
use Rattle.bsc_accept.specs.Steps as AcceptingSteps
use Rattle.bsc_initiate.specs.declared.initiating.Initiating.{Initiating}
use Rattle.bsc_initiate.specs.declared.stage.Stage.{Stage as InitStage}
use Rattle.bsc_initiate.specs.declared.stage.Stage.TheVariants.{AwaitingWebsocket, Idle as InitIdle}
use Rattle.bsc_initiate.specs.declared.event.InitEvent.{InitEvent}
use Rattle.bsc_initiate.specs.declared.event.InitEvent.TheVariants.{Opened, Message}
use Rattle.bsc_initiate.specs.declared.step.InitStep.{InitStep}
use Rattle.bsc_initiate.specs.declared.step.InitStep.TheVariants.{Connected}
use Rattle.bsc_initiate.specs.Steps as InitiatingSteps
use Rattle.bsc_accept.specs.Standing.{is_open as is_open_accepting}
use Rattle.bsc_initiate.specs.Standing.{is_open as is_open_initiating}
use Rattle.bsc_accept.specs.Standing as AcceptingStanding
use Rattle.bsc_initiate.specs.Standing as InitiatingStanding
use Rattle.bsc_node_core.specs.declared.machine.Machine.{Machine}
use Rattle.bsc_node_core.specs.declared.machine.Machine.TheVariants.{Gone, Over, Dialled, Taken, Asked}

-- whether a machine waits for the word on who asked
abbrev pub is_asked : Stage → Bool
is_asked (StageAsked id) = true
is_asked stage = false

-- Whether the machine may be told what its name says: one that is dialled or taken hasn't closed, and one that has asked
-- waits for the answer.
abbrev pub is_fit : Machine → Bool
is_fit Gone = true
is_fit Over = true
is_fit (Dialled m) = is_open_initiating m.stage
is_fit (Taken m) = is_open_accepting m.stage
is_fit (Asked m) = is_asked m.stage

-- whether the link is there
abbrev pub says_there : Machine → Bool
says_there Gone = false
says_there m = true

-- whether the link is under way: it was dialled, and its WebSocket hasn't opened
abbrev pub says_dialling : Machine → Bool
says_dialling (Dialled m) = is_none (InitiatingStanding.phase_of m)
says_dialling m = false

-- whether the link is open: it was taken, or its WebSocket has opened
abbrev pub says_open : Machine → Bool
says_open (Dialled m) = is_some (InitiatingStanding.phase_of m)
says_open (Taken m) = true
says_open m = false

-- Whether a machine may be told something, or isn't there: it is neither over, nor has it asked.
abbrev pub is_at_rest : Machine → Bool
is_at_rest Over = false
is_at_rest (Asked m) = false
is_at_rest m = true

-- whether a machine has asked
abbrev pub has_asked : Machine → Bool
has_asked (Asked m) = true
has_asked m = false

-- the machine of a link that was taken
abbrev pub taken_in : Machine → Option Accepting
taken_in (Taken m) = Some m
taken_in (Asked m) = Some m
taken_in m = None

-- the phase of a link; no message comes before the WebSocket has opened, nor after a machine has closed
abbrev pub phase_kept : Machine → Phase
phase_kept (Dialled m) = unwrap_or (InitiatingStanding.phase_of m) AwaitingAccept
phase_kept (Taken m) = AcceptingStanding.phase_of m
phase_kept (Asked m) = AcceptingStanding.phase_of m
phase_kept m = AwaitingAccept

-- The machine of a link that was dialled, after a step: over where it closed.
abbrev pub dialled_after : Initiating → InitStep → Machine
dialled_after m step = if InitiatingSteps.closes step then Over else Dialled m

-- whether a step asks about the peer
abbrev pub asks : Step → Bool
asks (Ask who) = true
asks step = false

-- The machine of a link that was taken, after a step: over where it closed, and else it has asked or not.
abbrev pub taken_after : Accepting → Step → Machine
taken_after m step = if AcceptingSteps.closes step then Over else if asks step then Asked m else Taken m

-- ---- what a machine may be told, and who its peer is

-- whether a machine that the node dialled with, and that waits for this, may be told that: that its WebSocket has opened comes
-- first, before any message
abbrev pub may_tell_dialled : InitStage → InitEvent → Bool
may_tell_dialled InitIdle e = false
may_tell_dialled AwaitingWebsocket (Message now v) = false
may_tell_dialled AwaitingWebsocket e = true
may_tell_dialled waits (Opened now id) = false
may_tell_dialled waits e = true

-- The same of a machine of a link that the node took: where it has asked, it is told whether who asked has joined.
abbrev pub may_tell_taken : Stage → Event → Bool
may_tell_taken StageIdle e = false
may_tell_taken (StageAsked id) Joined = true
may_tell_taken (StageAsked id) (Refused refusal) = true
may_tell_taken (StageAsked id) e = false
may_tell_taken waits Joined = false
may_tell_taken waits (Refused refusal) = false
may_tell_taken waits (Ended now ending) = false
may_tell_taken waits e = true

-- the peer after a step: who accepted, or who asked, and else the one before
abbrev pub dialled_peer : InitStep → Option Identity → Option Identity
dialled_peer (Connected who) before = Some who
dialled_peer step before = before

abbrev pub taken_peer : Step → Option Identity → Option Identity
taken_peer (Ask who) before = Some who
taken_peer step before = before

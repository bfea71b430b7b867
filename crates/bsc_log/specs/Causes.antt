-- What becomes of a link at its end, by the call that ends it.
use Rattle.std.specs.Prelude.{◌≡◌, ◌↔◌, ◌==◌, ℕ, List, Bool, true, false, Option, Some, None, if◌then◌else◌}
use Rattle.bsc_accept.specs.declared.reason.Reason.{Reason}
use Rattle.bsc_accept.specs.declared.reason.Reason.TheVariants as R
use Rattle.bsc_accept.specs.Reasons.{reason_text as text_of_reason}
use Rattle.bsc_log.specs.declared.log_event.LogEvent.{LogEvent}
use Rattle.bsc_log.specs.declared.log_event.LogEvent.TheVariants.{Refused, Denied, Ended, NoSession}
use Rattle.bsc_log.specs.declared.log_event.JoinRefusal.TheVariants.{DuplicateVmac, TableFull, Stopped}
use Rattle.bsc_log.specs.declared.log_event.Cause.{Cause}
use Rattle.bsc_log.specs.declared.log_event.Cause.TheVariants as C
use Rattle.bsc_log.specs.declared.stage.Stage.{Stage}
use Rattle.bsc_log.specs.declared.stage.Stage.TheVariants.{Silent, Waiting, Asked, Introduced, Joined, Leaving, Over}

-- The reason is the one that has this text; there is none where no reason has it.
abbrev pub IsReasonOf : List ℕ → Option Reason → Type 0
IsReasonOf text reason = (r : Reason) → (reason ≡ Some r) ↔ (text ≡ text_of_reason r)

-- the first event where the close code is this one, and else the other
abbrev pub at_code : ℕ → ℕ → LogEvent → LogEvent → LogEvent
at_code own code event other = if code == own then event else other

-- The hub closed the link for something else.
abbrev pub other : LogEvent
other = Ended C.Other

-- a closing without a reason
abbrev pub by_code : ℕ → LogEvent
by_code code =
    at_code 1000 code (Ended C.PeerLeft) (at_code 1001 code (Ended C.Spent)
    (at_code 1003 code (Ended C.TextMessage) (at_code 1011 code (Ended C.JournalFault) other)))

-- A closing of a link that has joined, by its close code and its reason.
abbrev pub closed : ℕ → Option Reason → LogEvent
closed code (Some R.Nothing) = by_code code
closed code (Some R.ConnectWait) = at_code 1008 code (Ended C.ConnectWait) other
closed code (Some R.Idle) = at_code 1008 code (Ended C.Idle) other
closed code (Some R.OutboxFull) = at_code 1008 code (Ended C.OutboxFull) other
closed code (Some R.HubWorn) = at_code 1008 code (Ended C.HubWorn) other
closed code (Some R.NoMemory) = at_code 1011 code (Ended C.NoMemory) other
closed code reason = other

-- A closing without a reason of one that hasn't joined. The newest thing on it is a Connect-Request that came, or isn't.
abbrev pub unjoined_by_code : ℕ → Bool → LogEvent
unjoined_by_code code true = at_code 1000 code (Refused DuplicateVmac) (at_code 1001 code (Refused Stopped) (by_code code))
unjoined_by_code code false = at_code 1000 code (Refused DuplicateVmac) (by_code code)

-- Any closing of such a one.
abbrev pub unjoined : ℕ → Option Reason → Bool → LogEvent
unjoined code (Some R.Nothing) asked = unjoined_by_code code asked
unjoined code (Some R.TableFull) asked = at_code 1008 code (Refused TableFull) other
unjoined code (Some R.Policy) asked = at_code 1008 code Denied other
unjoined code reason asked = closed code reason

-- The end of one that the hub asked to leave: its connection is known to have been taken over, or isn't.
abbrev pub parted : Bool → LogEvent
parted true = Ended C.Replaced
parted false = Ended C.Disconnected

-- A closing of such a one.
abbrev pub left : ℕ → Option Reason → Bool → LogEvent
left code reason taken = at_code 1001 code (closed code reason) (at_code 1011 code (closed code reason) (parted taken))

-- What becomes of a link by a closing of the hub, by how far it was.
abbrev pub closed_at : Stage → ℕ → Option Reason → Bool → LogEvent
closed_at Silent code reason taken = NoSession
closed_at Waiting code reason taken = unjoined code reason false
closed_at Asked code reason taken = unjoined code reason true
closed_at Introduced code reason taken = closed code reason
closed_at Joined code reason taken = closed code reason
closed_at Leaving code reason taken = left code reason taken
closed_at Over code reason taken = closed code reason

-- What becomes of it where its peer closed it.
abbrev pub peer_closed_at : Stage → Bool → LogEvent
peer_closed_at Leaving taken = parted taken
peer_closed_at stage taken = Ended C.PeerClosed

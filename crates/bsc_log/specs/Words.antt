-- The words for what a line tells.
use Rattle.std.specs.Prelude.{ℕ, List, codes, ◌==◌, if◌then◌else◌}
use Rattle.bsc_log.specs.declared.log_event.LogEvent.{LogEvent}
use Rattle.bsc_log.specs.declared.log_event.LogEvent.TheVariants.{Joined, TookOver, Refused, Denied, Ended, NoSession, Nak, Turned, LeftOut}
use Rattle.bsc_log.specs.declared.log_event.Limited.TheVariants.{Naks, Denials, Turned as TurnedFor}
use Rattle.bsc_log.specs.declared.log_event.Turning.{Turning}
use Rattle.bsc_log.specs.declared.log_event.Turning.TheVariants as T
use Rattle.bsc_log.specs.declared.log_event.JoinRefusal.{JoinRefusal}
use Rattle.bsc_log.specs.declared.log_event.JoinRefusal.TheVariants.{DuplicateVmac, TableFull, Stopped}
use Rattle.bsc_log.specs.declared.log_event.Cause.{Cause}
use Rattle.bsc_log.specs.declared.log_event.Cause.TheVariants.{PeerClosed, PeerLeft, TextMessage, ConnectWait, Idle, OutboxFull, Replaced}
use Rattle.bsc_log.specs.declared.log_event.Cause.TheVariants.{Disconnected, HubWorn, JournalFault, LinkFault, NoMemory, Spent, Other}

-- what became of a link
abbrev pub word_of : LogEvent → List ℕ
word_of Joined = codes "joined"
word_of (TookOver conn) = codes "takeover"
word_of (Refused refusal) = codes "refused"
word_of Denied = codes "denied"
word_of (Ended cause) = codes "ended"
word_of NoSession = codes "unserved"
word_of (Nak nak) = codes "nak"
word_of (LeftOut Naks n) = codes "nak"
word_of (LeftOut Denials n) = codes "denied"
word_of (Turned why) = codes "turned"
word_of (LeftOut (TurnedFor why) n) = codes "turned"

-- why a device was refused
abbrev pub refusal_text : JoinRefusal → List ℕ
refusal_text DuplicateVmac = codes "duplicate vmac"
refusal_text TableFull = codes "table full"
refusal_text Stopped = codes "stopped"

-- why a stream was turned away
abbrev pub turning_text : Turning → List ℕ
turning_text T.NoProtocol = codes "no sub-protocol"
turning_text T.Late = codes "too late"
turning_text T.LongHead = codes "head too long"
turning_text T.NoDescriptor = codes "no descriptor"
turning_text T.PushedOut = codes "handshakes full"
turning_text T.NoMemory = codes "no memory"
turning_text T.Failed = codes "no handshake"

-- why a link ended
abbrev pub cause_text : Cause → List ℕ
cause_text PeerClosed = codes "peer closed"
cause_text PeerLeft = codes "peer left"
cause_text TextMessage = codes "text message"
cause_text ConnectWait = codes "connect wait"
cause_text Idle = codes "idle"
cause_text OutboxFull = codes "outbox full"
cause_text Replaced = codes "replaced"
cause_text Disconnected = codes "disconnected"
cause_text HubWorn = codes "hub worn"
cause_text JournalFault = codes "journal fault"
cause_text LinkFault = codes "link fault"
cause_text NoMemory = codes "no memory"
cause_text Spent = codes "spent"
cause_text Other = codes "other"

-- the name of the error code of a NAK, and the checks of a Connect-Request that have it
abbrev pub code_text : ℕ → List ℕ
code_text code =
    if code == 145 then codes "HEADER_ENCODING_ERROR of C5, C7b or C8" else (
    if code == 146 then codes "HEADER_NOT_UNDERSTOOD of C9" else (
    if code == 147 then codes "MESSAGE_INCOMPLETE of C7 or C10b" else (
    if code == 149 then codes "PAYLOAD_EXPECTED of C10" else (
    if code == 150 then codes "UNEXPECTED_DATA of C10c" else (
    if code == 80 then codes "PARAMETER_OUT_OF_RANGE of C11" else (
    if code == 151 then codes "NODE_DUPLICATE_VMAC" else codes "other"))))))

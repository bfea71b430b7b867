-- Which links a server's handshake takes, and what it comes to.
use Rattle.std.specs.Prelude.{◌≡◌, ◌≢◌, ◌⊎◌, ⊤, Option, Some, None}
use Rattle.std.specs.IoError.{error_kind}
use Rattle.std.specs.declared.io.ErrorKind.TheVariants.{InvalidData}
use Rattle.bsc_edge.specs.declared.kind.Kind.{Kind}
use Rattle.bsc_edge.specs.declared.kind.Kind.TheVariants as kinds
use Rattle.bsc_ws.specs.declared.handshake.Handshake.{Handshake}
use Rattle.bsc_ws.specs.declared.handshake.HandshakeStep.{HandshakeStep}
use Rattle.bsc_ws.specs.declared.handshake.HandshakeStep.TheVariants as step
use Rattle.bsc_ws.specs.declared.rounds.Rounds.{Rounds}
use Rattle.bsc_ws.specs.declared.rounds.Rounds.TheVariants as rounds
use Rattle.bsc_ws.specs.declared.handshake.Unmet.{Unmet}
use Rattle.bsc_ws.specs.declared.handshake.Unmet.TheVariants.{NoProtocol, LongHead, Other}
use Rattle.tungstenite.specs.declared.error.Error.{Error}
use Rattle.tungstenite.specs.declared.error.Error.TheVariants as E

-- The kind of links that a handshake takes, by its type.
abbrev pub kind_of : {T : Type 0} → Rounds T → Kind
kind_of (rounds.Hub mid) = kinds.Hub
kind_of (rounds.Direct mid) = kinds.Direct

-- This holds of a handshake that isn't done yet.
abbrev pub IfMore : {T : Type 0} → HandshakeStep T → (Handshake T → Type 0) → Type 0
IfMore (step.More handshake) P = P handshake
IfMore other P = ⊤

-- This holds of the kind of links that a handshake which is done has taken.
abbrev pub IfDone : {T : Type 0} → HandshakeStep T → (Kind → Type 0) → Type 0
IfDone (step.Done stream kind) P = P kind
IfDone other P = ⊤

-- What a handshake comes to that failed for this, or for want of memory.
abbrev pub IsFailedFor : {T : Type 0} → Option Unmet → HandshakeStep T → Type 0
IsFailedFor None result = result ≡ step.NoMemory
IsFailedFor (Some why) result = result ≡ step.Refused why

-- Why a handshake failed by an error of the kit, none where there was no memory. The request was refused: it doesn't offer the
-- sub-protocol. A read failed as invalid: of a head no more octets are taken. All else is another cause.
abbrev pub IsUnmetBy : Error → Option Unmet → Type 0
IsUnmetBy E.OutOfMemory why = why ≡ None
IsUnmetBy (E.Refused response) why = why ≡ Some NoProtocol
IsUnmetBy (E.Io cause) why =
    ((error_kind cause ≡ InvalidData) × (why ≡ Some LongHead))
    ⊎ ((error_kind cause ≢ InvalidData) × (why ≡ Some Other))
IsUnmetBy error why = why ≡ Some Other

-- What links over streams receive.
use Rattle.std.specs.Prelude.{◌≡◌, ◌≢◌, ◌⊎◌, ℕ, List, Option, Result, Ok, Err}
use Rattle.std.specs.IoError.{error_kind}
use Rattle.std.specs.declared.io.ErrorKind.TheVariants.{WouldBlock}
use Rattle.bsc_edge.specs.declared.fault.LinkFault.{LinkFault}
use Rattle.bsc_edge.specs.declared.fault.LinkFault.TheVariants.{Failed, NoMemory}
use Rattle.bsc_edge.specs.declared.incoming.Incoming.{Incoming}
use Rattle.bsc_edge.specs.declared.incoming.Incoming.TheVariants as In
use Rattle.tungstenite.specs.Socket.{Socket, Reads, Flushed}
use Rattle.tungstenite.specs.declared.error.Error.{Error}
use Rattle.tungstenite.specs.declared.error.Error.TheVariants as E
use Rattle.tungstenite.specs.declared.message.Message.{Message}
use Rattle.tungstenite.specs.declared.message.Message.TheVariants as M

-- What is answered where the socket's read failed: the end is Closed, a stream that gave nothing in time is Quiet, and all else but want of memory is a fault.
abbrev pub AnswersError : Error → Result Incoming LinkFault → Type 0
AnswersError E.ConnectionClosed answer = answer ≡ Ok In.Closed
AnswersError E.OutOfMemory answer = answer ≡ Err NoMemory
AnswersError (E.Io cause) answer =
    ((error_kind cause ≡ WouldBlock) × (answer ≡ Ok In.Quiet))
    ⊎ ((error_kind cause ≢ WouldBlock) × (answer ≡ Err Failed))
AnswersError e answer = answer ≡ Err Failed

-- What is answered where the socket read this: the octets of a binary message unless there is no memory for them, Text,
-- Quiet of a ping and a pong, Closed of a close.
abbrev pub AnswersRead : Result Message Error → Result Incoming LinkFault → Type 0
AnswersRead (Ok (M.Binary octets)) answer = (answer ≡ Ok (In.Message octets)) ⊎ (answer ≡ Err NoMemory)
AnswersRead (Ok (M.Text text)) answer = answer ≡ Ok In.Text
AnswersRead (Ok (M.Ping octets)) answer = answer ≡ Ok In.Quiet
AnswersRead (Ok (M.Pong octets)) answer = answer ≡ Ok In.Quiet
AnswersRead (Ok (M.Close frame)) answer = answer ≡ Ok In.Closed
AnswersRead (Err e) answer = AnswersError e answer

-- Where the peer closed, what waited to be sent went out behind what was read, as far as the stream took it. Else the socket is where the read left it.
abbrev pub HasReplied : {S : Type 0} → (S → Option (List ℕ)) → Socket S → Socket S → Result Incoming LinkFault → Type 0
HasReplied contents left new (Ok In.Closed) = Flushed contents left new
HasReplied contents left new answer = new ≡ left

-- The answer is that of what the socket read from the octets of its stream, and a close was replied to.
abbrev pub Receives : {S : Type 0} → (S → Option (List ℕ)) → (S → Option (List ℕ)) → Socket S → Socket S → Result Incoming LinkFault → Type 0
Receives {S = S} remaining contents old new answer =
    (read : Result Message Error) × (left : Socket S) × Reads remaining old left read × AnswersRead read answer
    × HasReplied contents left new answer

-- The wait couldn't be set: that is a fault, and nothing was read.
abbrev pub IsUnset : {S : Type 0} → Socket S → Socket S → Result Incoming LinkFault → Type 0
IsUnset old new answer = (new ≡ old) × (answer ≡ Err Failed)
